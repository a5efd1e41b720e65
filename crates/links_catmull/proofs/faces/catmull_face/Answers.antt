use Rattle.links_catmull.proofs.StepLaws.{face-done}
use Rattle.links_catmull.proofs.faces.catmull_face.Goals as goal

pub returns-clause-links_after : goal.returns-clause-links_after
returns-clause-links_after c = let p = c.parts_of-a.ensures in let d = c.fan.ensures in face-done c.requires.face_ok p.from p.number c.set_out.ensures d.edges_after d.faces_after
