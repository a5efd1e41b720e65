-- A cut in lent slices that whole links hold. Assumes nothing.
use Prim.Native.Nat.{ℕ, ◌+◌, ◌*◌}
use mathlib.Core.Path.{◌≡◌, refl, sym, ◌∙◌}
use mathlib.Core.List.{List, [], ◌∷◌}
use native.Mathlib.Omega.{arith}
use Rattle.scope.specs.Links.{Links, loop}
use Rattle.scope.specs.Edits.{joined, paint, across_face, cut_off}
use Rattle.laws_mesh.proofs.InsertLaws.{face-nv, face-ne, face-nf, face-outs}
use Rattle.links_edits.specs.Held.{held}
use Rattle.links_edits.proofs.StoreLaws.{links-is}

paint-same : (g : ℕ) (hs : List ℕ) (m t : Links) → m.edges ≡ t.edges → m.faces ≡ t.faces → ((paint g hs m).edges ≡ (paint g hs t).edges) × ((paint g hs m).faces ≡ (paint g hs t).faces)
unfolding paint
paint-same g [] m t a b = (a, b)
paint-same g (h ∷ hs) m t a b = paint-same g hs _ _ (rw a) b

-- a cut looks at no vertex
pub cut_on : (p n : ℕ) (m : Links) {d s : List ℕ} → d ≡ (cut_off p n (held 0 m.ne m.nf [] m.edges m.faces)).edges → s ≡ (cut_off p n (held 0 m.ne m.nf [] m.edges m.faces)).faces
    → held m.nv (m.ne + 1) (m.nf + 1) m.outs d s ≡ cut_off p n m
unfolding cut_off across_face joined loop
cut_on p n m {d} {s} a b =
    let t = held 0 m.ne m.nf [] m.edges m.faces in
    let u = paint-same m.nf (loop (joined p n m) (2 * m.ne + 1)) (joined p n t) (joined p n m) refl refl in
    links-is (held m.nv (m.ne + 1) (m.nf + 1) m.outs d s) (cut_off p n m)
    (let q = face-nv m.nf p n m in omega arith) (let q = face-ne m.nf p n m in omega arith) (let q = face-nf m.nf p n m in omega arith)
    (sym (face-outs m.nf p n m)) (a ∙ u.0) (b ∙ rw u.1)

pub cut-faces : (p n : ℕ) (m : Links) → (cut_off p n m).nf ≡ m.nf + 1
unfolding cut_off
cut-faces p n m = let q = face-nf m.nf p n m in omega arith
