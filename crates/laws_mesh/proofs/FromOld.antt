-- The halfedges of a face, from the first whose head is an old vertex, as Catmull-Clark and Loop take them. Assumes nothing.
use mathlib.Core.Path.{◌≡◌, ◌∙◌}
use mathlib.Core.Bool.{Bool, true, false}
use Prim.Native.Nat.{ℕ, ◌*◌, ◌<◌}
use lib.Dec.{ltb}
use Rattle.scope.specs.Lists.{if}
use Rattle.scope.specs.Links.{Links, face, head, next, start}
use Rattle.scope.specs.Passes.{from_old}
use Rattle.laws_mesh.specs.Reach.{here, step}
use Rattle.laws_mesh.specs.Of.{Good}
use Rattle.laws_mesh.proofs.Count.{Length}
use Rattle.laws_mesh.proofs.Facts.{perm-next}
use Rattle.laws_mesh.proofs.Loops.{good-shape, steps, length-around, loop-steps}

-- of f's first two halfedges the one whose head is below n, or the second
unfoldable pub first-old : ℕ → ℕ → Links → ℕ
first-old n f m = if (ltb (head m (start m f)) n) (start m f) (next m (start m f))

either : (P : ℕ → Type 0) (b : Bool) (x y : ℕ) → P x → P y → P (if b x y)
either P true x y p q = p
either P false x y p q = q

module _ (m : Links) (g : Good m) (n f k : ℕ) (f_in : f < m.nf) (len : Length (next m) (start m f) k) where
  -- it is one of the face's, so its loop is as long
  pub first-old-is : (first-old n f m < 2 * m.ne) × (face m (first-old n f m) ≡ f) × Length (next m) (first-old n f m) k
  unfolding first-old
  first-old-is =
      let c = g.consistent.core in
      let i = c.start_in f f_in in
      let e = c.start_bears f f_in in
      either (λ x. (x < 2 * m.ne) × (face m x ≡ f) × Length (next m) x k) (ltb (head m (start m f)) n) (start m f) (next m (start m f))
      (i, e, len) (c.next_in (start m f) i, c.next_face (start m f) i ∙ e, length-around (perm-next (good-shape m g) c) i len (step here))

  pub from_old_lem : from_old n f m ≡ steps (next m) (first-old n f m) k
  unfolding from_old first-old
  from_old_lem = loop-steps m g (first-old n f m) k first-old-is.0 first-old-is.2
