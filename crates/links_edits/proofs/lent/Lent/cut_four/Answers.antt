use Rattle.links_edits.specs.Lent.{links_in}
use Rattle.links_edits.proofs.LentLaws.{cut_on}
use Rattle.links_edits.proofs.lent.Lent.cut_four.Goals as goal

pub returns-clause-links_after : goal.returns-clause-links_after
returns-clause-links_after c = let d = c.cut_four.ensures in cut_on c.args.p c.args.n (links_in c.args.self.now) d.edges_after d.faces_after
