-- What the check finds depends on marks only by which of them are 0. Assumes nothing.
use Prim.Native.Nat.{ℕ, zero, suc, ◌*◌, ◌/◌}
use mathlib.Core.Path.{◌≡◌, refl, ap, fun_ext}
use mathlib.Core.Bool.{Bool, true, false, ◌&&◌}
use mathlib.Core.List.{List, [], ◌∷◌}
use lib.Dec.{eqb, ltb}
use lib.ListN.{get_or}
use Rattle.scope.specs.Lists.{if}
use Rattle.scope.specs.Links.{Links, Marks, is_v, is_h, is_f}
use Rattle.scope.specs.Check.{every, c1_vertex, c1_halfedge, c1_face, c2, c3, c4, c5, c6, c7, c8, c9, fault}
use Rattle.file_read.specs.Format.{marks_bytes}

-- the same marks are 0
pub record Alike (k j : Marks) : Type 0 where
  pub vs : (i : ℕ) → eqb (get_or k.vs i 0) 0 ≡ eqb (get_or j.vs i 0) 0
  pub es : (i : ℕ) → eqb (get_or k.es i 0) 0 ≡ eqb (get_or j.es i 0) 0
  pub fs : (i : ℕ) → eqb (get_or k.fs i 0) 0 ≡ eqb (get_or j.fs i 0) 0

module _ (m : Links) (k j : Marks) (a : Alike k j) where
  same-V : is_v m k ≡ is_v m j
  unfolding is_v
  same-V = fun_ext (λ v. ap (λ (b : Bool). ltb v m.nv && b) (a.vs v))

  same-H : is_h m k ≡ is_h m j
  unfolding is_h
  same-H = fun_ext (λ h. ap (λ (b : Bool). ltb h (2 * m.ne) && b) (a.es (h / 2)))

  same-F : is_f m k ≡ is_f m j
  unfolding is_f
  same-F = fun_ext (λ f. ap (λ (b : Bool). ltb f m.nf && b) (a.fs f))

  same-every : (p q : ℕ → Bool) → every m k p q ≡ every m j p q
  unfolding every
  same-every p q = rw (same-H)

  same-c1v : c1_vertex m k ≡ c1_vertex m j
  unfolding c1_vertex
  same-c1v = fun_ext (λ v. rw (same-H))

  same-c1h : c1_halfedge m k ≡ c1_halfedge m j
  unfolding c1_halfedge
  same-c1h = fun_ext (λ h. rw (same-F, same-V, same-H))

  same-c1f : c1_face m k ≡ c1_face m j
  unfolding c1_face
  same-c1f = fun_ext (λ f. rw (same-H))

  same-c4 : c4 m k ≡ c4 m j
  unfolding c4
  same-c4 = fun_ext (λ f. rw (same-every _ _))

  same-c8 : c8 m k ≡ c8 m j
  unfolding c8
  same-c8 = fun_ext (λ v. rw (same-every _ _))

  same-c9 : c9 m k ≡ c9 m j
  unfolding c9
  same-c9 = fun_ext (λ v. same-every _ _)

  same-c2 : c2 m k ≡ c2 m j
  unfolding c2
  same-c2 = refl

  same-c3 : c3 m k ≡ c3 m j
  unfolding c3
  same-c3 = refl

  same-c5 : c5 m k ≡ c5 m j
  unfolding c5
  same-c5 = refl

  same-c6 : c6 m k ≡ c6 m j
  unfolding c6
  same-c6 = refl

  same-c7 : c7 m k ≡ c7 m j
  unfolding c7
  same-c7 = refl

  pub fault-alike : fault m k ≡ fault m j
  unfolding fault
  fault-alike = rw (same-V, same-H, same-F, same-c1v, same-c1h, same-c1f, same-c2, same-c3, same-c4, same-c5, same-c6, same-c7, same-c8, same-c9)

-- a mark is written as 0 where it is 0
pub zero-mark : (l : List ℕ) (i : ℕ) → eqb (get_or (marks_bytes l) i 0) 0 ≡ eqb (get_or l i 0) 0
unfolding marks_bytes
zero-mark [] i = refl
zero-mark (x ∷ l) zero = written (eqb x 0)
  where
    written : (b : Bool) → eqb (if b 0 1) 0 ≡ b
    written true = refl
    written false = refl
zero-mark (x ∷ l) (suc i) = zero-mark l i
