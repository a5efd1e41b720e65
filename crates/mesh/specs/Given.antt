-- What the slices of a mesh hold, as scope's records (document 01, section 2). Assumes nothing.
use Rattle.scope.specs.Slices as held
use Rattle.mesh.specs.declared.given.Slices.{Slices}
use Rattle.mesh.specs.declared.given.Given.{Given}

-- the lists in the slices
abbrev pub lists : Slices → held.Slices
lists s = record {
  outs = s.outs.now;
  edges = s.edges.now;
  faces = s.faces.now;
  vmarks = s.vmarks.now;
  emarks = s.emarks.now;
  fmarks = s.fmarks.now;
}

abbrev pub given : Given → held.Given
given g = record { counts = g.counts; slices = lists g.slices; points = g.points.now }
