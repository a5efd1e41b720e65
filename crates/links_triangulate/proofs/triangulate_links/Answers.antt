use native.Mathlib.Omega.{arith}
use Rattle.links_triangulate.proofs.FaceLaws.{faces-start, faces-ok, faces-on, faces-done}
use Rattle.links_triangulate.proofs.triangulate_links.Goals as goal

pub loop-f-init : goal.loop-f-init
loop-f-init c = faces-start c.requires

pub triangulate_face-d-requires : goal.triangulate_face-d-requires
triangulate_face-d-requires c = faces-ok c.requires c.loop-f.invariant c.loop-f-test.true

pub loop-f-preserved : goal.loop-f-preserved
loop-f-preserved c = let d = c.triangulate_face-d.ensures in faces-on c.requires c.loop-f.invariant c.loop-f-test.true d.edges_after d.faces_after d.value

pub returns : goal.returns
returns c = let (a, b, d) = faces-done c.requires c.loop-f.invariant (let w = c.loop-f-test.false in omega arith) in record { edges_after = a; faces_after = b; value = d }
