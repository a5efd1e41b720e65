use Rattle.count_fields.specs.Fields.{counted}
use Rattle.count_fields.specs.Count.{joined_of, rim_loops}
use Rattle.scope.specs.Tally.{tally_of}
use Rattle.scope.specs.Links.{loop}
use Rattle.count_fields.proofs.count.fields.Goals as goal

pub returns : goal.returns
unfolding counted tally_of loop joined_of rim_loops
returns c = rw (c.half_of.ensures, c.rim_loops-loops.ensures.value, c.joined-joined.ensures.value, c.rim_edges.ensures, c.corners.ensures)
