use Rattle.links_edits.specs.Held.{given}
use Rattle.scope.specs.Tally.{counts_of}
use Rattle.call_steps.proofs.PassLaws.{good, outs_in}
use Rattle.call_steps.proofs.passes.new_points.Goals as goal

pub catmull_points-requires-clause-outs : goal.catmull_points-requires-clause-outs
unfolding counts_of
catmull_points-requires-clause-outs c = let s = c.args in outs_in (given s.c s.outs.now s.edges.now s.faces.now) (good c.requires)
