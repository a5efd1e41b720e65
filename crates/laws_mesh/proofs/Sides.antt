-- Faces all of one length, said of loops as lists and of every halfedge with a face. Assumes nothing.
use mathlib.Core.Path.{◌≡◌, refl, sym, ◌∙◌, subst}
use mathlib.Core.Logic.{◌⊎◌, inl, inr, ◌≢◌}
use Prim.Native.Nat.{ℕ, zero, suc, ◌*◌, ◌<◌}
use native.Mathlib.Nat.{not-suc-le-zero}
use native.Mathlib.Omega.{arith}
use lib.ListN.{length}
use Rattle.scope.specs.Links.{Links, NONE, face, next, start, loop}
use Rattle.scope.specs.Tally.{Tally}
use Rattle.laws_mesh.specs.Reach.{iter}
use Rattle.laws_mesh.specs.Mesh.{Core}
use Rattle.laws_mesh.specs.Of.{mesh, Good}
use Rattle.laws_mesh.specs.Sides.{Sided, Triangles}
use Rattle.laws_mesh.proofs.Count.{Length}
use Rattle.laws_mesh.proofs.Facts.{perm-next, next-ne}
use Rattle.laws_mesh.proofs.Loops.{length-around, good-shape, loop-cycle, loop-length}

module _ (m : Links) (g : Good m) where
  c : Core (mesh m)
  c = g.consistent.core

  start-faced : (f : ℕ) → f < m.nf → face m (start m f) ≢ NONE
  start-faced f u q = (good-shape m g).F-none f u (sym (c.start_bears f u) ∙ q)

  -- all that bear a face have loops of its length
  pub bears-length : (f : ℕ) → f < m.nf → (t : ℕ) → t < 2 * m.ne → face m t ≡ f → Length (next m) t (length (loop m (start m f)))
  bears-length f u t i e =
      let si = c.start_in f u in
      length-around (perm-next (good-shape m g) c) si (loop-cycle m g (start m f) si) (c.one_loop (start m f) t si i (start-faced f u) (c.start_bears f u ∙ sym e))

  pub to-cycles : (n : ℕ) → Sided n m → (t : ℕ) → t < 2 * m.ne → face m t ≢ NONE → Length (next m) t n
  to-cycles n T t i ne = go (c.face_in t i)
    where
      go : (face m t ≡ NONE) ⊎ (face m t < m.nf) → Length (next m) t n
      go (inl q) = absurd (ne q)
      go (inr q) = subst (Length (next m) t) (T (face m t) q) (bears-length (face m t) q t i refl)

  pub from-cycles : (n : ℕ) → ((t : ℕ) → t < 2 * m.ne → face m t ≢ NONE → Length (next m) t n) → Sided n m
  from-cycles n T f u = let si = c.start_in f u in loop-length m g (start m f) n si (T (start m f) si (start-faced f u))

  -- a loop of three comes back after three
  pub to-closes : Triangles m → (t : ℕ) → t < 2 * m.ne → face m t ≢ NONE → next m (next m (next m t)) ≡ t
  to-closes T t i ne = (to-cycles 3 T t i ne).closes

  pub three-cycle : (t : ℕ) → t < 2 * m.ne → face m t ≢ NONE → next m (next m (next m t)) ≡ t → Length (next m) t 3
  three-cycle t i f e = record { long = omega arith; closes = e; no-sooner = sooner }
    where
      sooner : (j : ℕ) → 0 < j → j < 3 → iter (next m) j t ≢ t
      sooner zero l h z = not-suc-le-zero l
      sooner (suc zero) l h z = next-ne (good-shape m g) c t i z
      sooner (suc (suc zero)) l h z = g.consistent.three.three_long t i f z
      sooner (suc (suc (suc j))) l h z = omega arith

  pub from-closes : ((t : ℕ) → t < 2 * m.ne → face m t ≢ NONE → next m (next m (next m t)) ≡ t) → Triangles m
  from-closes T = from-cycles 3 (λ t i ne. three-cycle t i ne (T t i ne))

-- tallies with the same counts
pub tally-is : (t u : Tally) → t.v ≡ u.v → t.e ≡ u.e → t.f ≡ u.f → t.s ≡ u.s → t.b ≡ u.b → t ≡ u
tally-is t u p q r s b = λ i. record { v = p i; e = q i; f = r i; s = s i; b = b i }
