use Rattle.links_edits.proofs.SplitLaws.{insert-ok, split-in-edges, split-in-outs}
use Rattle.links_edits.proofs.split.split_edge.Goals as goal

pub look-x-requires : goal.look-x-requires
look-x-requires c = let k = (insert-ok c.requires).around in record { half = k.half; other = k.other }

pub insert-requires : goal.insert-requires
insert-requires c = rw c.look-x.ensures (insert-ok c.requires)

pub returns : goal.returns
returns c = let k = c.requires in record { outs_after = rw (c.rename.ensures, c.look-x.ensures) (split-in-outs k); edges_after = rw (c.insert.ensures, c.look-x.ensures) (split-in-edges k) }
