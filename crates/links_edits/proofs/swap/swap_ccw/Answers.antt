use Rattle.links_edits.proofs.SwapLaws.{swap-in-outs, swap-in-edges, swap-in-faces}
use Rattle.links_edits.proofs.swap.swap_ccw.Goals as goal

pub returns : goal.returns
returns c = let k = c.requires in
    let x = c.look_around-x.ensures in record { outs_after = rw (c.renew.ensures, x) (swap-in-outs k); edges_after = rw (c.turn_back.ensures, c.turn_over.ensures, x) (swap-in-edges k); faces_after = rw (c.renew-2.ensures, x) (swap-in-faces k) }
