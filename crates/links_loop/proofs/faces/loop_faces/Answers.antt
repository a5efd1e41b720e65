use Rattle.links_loop.proofs.PassLaws.{faces-start, faces-ok, faces-on}
use Rattle.links_loop.proofs.faces.loop_faces.Goals as goal

pub loop-f-init : goal.loop-f-init
loop-f-init c = faces-start c.requires

pub loop_face-d-requires : goal.loop_face-d-requires
loop_face-d-requires c = faces-ok c.requires c.loop-f.invariant c.loop-f-test.true

pub loop-f-preserved : goal.loop-f-preserved
loop-f-preserved c = let d = c.loop_face-d.ensures in faces-on c.requires c.loop-f.invariant c.loop-f-test.true d.edges_after d.faces_after d.value
