-- A mesh in slices as scope's links and marks. Assumes nothing.
use Rattle.check_rules.specs.declared.states.Mesh.{Mesh}
use Rattle.check_mesh.specs.Checked.{links_at, marks_at}
use Rattle.scope.specs.Links.{Links, Marks}

abbrev pub links_in : Mesh → Links
links_in m = links_at m.nv m.ne m.nf m.outs.now m.edges.now m.faces.now

abbrev pub marks_in : Mesh → Marks
marks_in m = marks_at m.vmarks.now m.emarks.now m.fmarks.now
