-- One face of a Loop pass: a face of six halfedges becomes four triangles, three corners and the middle. Assumes nothing.
use mathlib.Core.Path.{◌≡◌, sym, ap, ◌∙◌, subst, subst⁻¹}
use mathlib.Core.Logic.{◌⊎◌, inl, inr, ◌≢◌}
use mathlib.Core.List.{List}
use Prim.Native.Nat.{ℕ, ◌+◌, ◌*◌, ◌≤◌, ◌<◌}
use native.Mathlib.Omega.{arith}
use lib.ListN.{length}
use Rattle.scope.specs.Links.{Links, NONE, face, next, start, loop}
use Rattle.scope.specs.Edits.{cut_off}
use Rattle.scope.specs.Passes.{corners, loop_face}
use Rattle.laws_mesh.specs.Reach.{iter}
use Rattle.laws_mesh.specs.Of.{Good}
use Rattle.laws_mesh.proofs.Cycle.{split}
use Rattle.laws_mesh.proofs.Count.{Length}
use Rattle.laws_mesh.proofs.Loops.{good-shape, steps}
use Rattle.laws_mesh.proofs.FromOld.{first-old, first-old-is, from_old_lem}
use Rattle.laws_loop.proofs.Cut.{cut-counts, cut-good, cut-corner, cut-walk, cut-x_in, cut-x-face, cut-rest, cut-rest-length, cut-old}

-- what a face's step leaves
pub record Trimmed (m m' : Links) (f : ℕ) : Type 0 where
  pub good : Good m'
  pub nv_is : m'.nv ≡ m.nv
  pub ne_is : m'.ne ≡ m.ne + 3
  pub nf_is : m'.nf ≡ m.nf + 3
  -- f and the new faces are of three; the others are as long as before
  pub new : (h : ℕ) → h < m'.nf → (h ≡ f) ⊎ (m.nf ≤ h) → length (loop m' (start m' h)) ≡ 3
  pub old : (h : ℕ) → h < m.nf → h ≢ f → length (loop m' (start m' h)) ≡ length (loop m (start m h))

-- three corners, from x on
module _ (m : Links) (f x : ℕ) (g : Good m) (x_in : x < 2 * m.ne) (x-face : face m x ≡ f) (f-some : f ≢ NONE) (f_in : f < m.nf) (len : Length (next m) x 6)
    (room_e : m.ne + 3 ≤ 1048576) (room_f : m.nf + 3 ≤ 1048576) where
  abbrev at : ℕ → ℕ
  at i = iter (next m) i x

  -- after the first, the second and the third corner
  abbrev m₁ : Links
  m₁ = cut_off (at 1) (at 0) m

  abbrev m₂ : Links
  m₂ = cut_off (at 3) (at 2) m₁

  abbrev m₃ : Links
  m₃ = cut_off (at 5) (at 4) m₂

  x-faced : face m x ≢ NONE
  x-faced e = f-some (sym x-face ∙ e)

  few-e₁ : m.ne + 1 ≤ 1048576
  few-e₁ = omega arith

  few-f₁ : m.nf + 1 ≤ 1048576
  few-f₁ = omega arith

  pub counts₁ : (m₁.nv ≡ m.nv) × (m₁.ne ≡ m.ne + 1) × (m₁.nf ≡ m.nf + 1)
  counts₁ = cut-counts m g x 3 x_in x-faced len (omega arith) few-e₁ few-f₁

  pub good₁ : Good m₁
  good₁ = cut-good m g x 3 x_in x-faced len (omega arith) few-e₁ few-f₁

  in₁ : at 2 < 2 * m₁.ne
  in₁ = cut-x_in m g x 3 x_in x-faced len (omega arith) few-e₁ few-f₁

  pub face₁ : face m₁ (at 2) ≡ m.nf
  face₁ = cut-x-face m g x 3 x_in x-faced len (omega arith) few-e₁ few-f₁

  pub faced₁ : face m₁ (at 2) ≢ NONE
  faced₁ e = let a = face₁ in omega arith

  pub len₁ : Length (next m₁) (at 2) 5
  len₁ = cut-rest m g x 3 x_in x-faced len (omega arith) few-e₁ few-f₁

  pub walk₁ : (i : ℕ) → i ≤ 3 → iter (next m₁) i (at 2) ≡ iter (next m) i (at 2)
  walk₁ = cut-walk m g x 3 x_in x-faced len (omega arith) few-e₁ few-f₁

  -- the second
  few-e₂ : m₁.ne + 1 ≤ 1048576
  few-e₂ = let (a, b, c) = counts₁ in omega arith

  few-f₂ : m₁.nf + 1 ≤ 1048576
  few-f₂ = let (a, b, c) = counts₁ in omega arith

  abbrev n₂ : Links
  n₂ = cut_off (next m₁ (at 2)) (at 2) m₁

  pub is₂ : m₂ ≡ n₂
  is₂ = ap (λ (y : ℕ). cut_off y (at 2) m₁) (sym (walk₁ 1 (omega arith)))

  pub counts₂ : (n₂.nv ≡ m₁.nv) × (n₂.ne ≡ m₁.ne + 1) × (n₂.nf ≡ m₁.nf + 1)
  counts₂ = cut-counts m₁ good₁ (at 2) 2 in₁ faced₁ len₁ (omega arith) few-e₂ few-f₂

  pub good₂ : Good n₂
  good₂ = cut-good m₁ good₁ (at 2) 2 in₁ faced₁ len₁ (omega arith) few-e₂ few-f₂

  at₄ : next m₁ (next m₁ (at 2)) ≡ at 4
  at₄ = walk₁ 2 (omega arith)

  in₂ : at 4 < 2 * n₂.ne
  in₂ = subst (λ (y : ℕ). y < 2 * n₂.ne) at₄ (cut-x_in m₁ good₁ (at 2) 2 in₁ faced₁ len₁ (omega arith) few-e₂ few-f₂)

  pub face₂ : face n₂ (at 4) ≡ m₁.nf
  face₂ = subst (λ (y : ℕ). face n₂ y ≡ m₁.nf) at₄ (cut-x-face m₁ good₁ (at 2) 2 in₁ faced₁ len₁ (omega arith) few-e₂ few-f₂)

  faced₂ : face n₂ (at 4) ≢ NONE
  faced₂ e = let a = face₂ in let (b, c, d) = counts₁ in omega arith

  pub len₂ : Length (next n₂) (at 4) 4
  len₂ = subst (λ (y : ℕ). Length (next n₂) y 4) at₄ (cut-rest m₁ good₁ (at 2) 2 in₁ faced₁ len₁ (omega arith) few-e₂ few-f₂)

  pub next₂ : next n₂ (at 4) ≡ at 5
  next₂ = ap (next n₂) (sym at₄) ∙ cut-walk m₁ good₁ (at 2) 2 in₁ faced₁ len₁ (omega arith) few-e₂ few-f₂ 1 (omega arith) ∙ walk₁ 3 (omega arith)

  -- the third
  few-e₃ : n₂.ne + 1 ≤ 1048576
  few-e₃ = let (a, b, c) = counts₁ in let (p, q, r) = counts₂ in omega arith

  few-f₃ : n₂.nf + 1 ≤ 1048576
  few-f₃ = let (a, b, c) = counts₁ in let (p, q, r) = counts₂ in omega arith

  abbrev n₃ : Links
  n₃ = cut_off (next n₂ (at 4)) (at 4) n₂

  is₃ : m₃ ≡ n₃
  is₃ = ap (λ (l : Links). cut_off (at 5) (at 4) l) is₂ ∙ ap (λ (y : ℕ). cut_off y (at 4) n₂) (sym next₂)

  counts₃ : (n₃.nv ≡ n₂.nv) × (n₃.ne ≡ n₂.ne + 1) × (n₃.nf ≡ n₂.nf + 1)
  counts₃ = cut-counts n₂ good₂ (at 4) 1 in₂ faced₂ len₂ (omega arith) few-e₃ few-f₃

  good₃ : Good n₃
  good₃ = cut-good n₂ good₂ (at 4) 1 in₂ faced₂ len₂ (omega arith) few-e₃ few-f₃

  -- how long faces are after each
  abbrev long : Links → ℕ → ℕ
  long l h = length (loop l (start l h))

  old₁ : (h : ℕ) → h < m.nf → h ≢ f → long m₁ h ≡ long m h
  old₁ h i ne = cut-old m g x 3 x_in x-faced len (omega arith) few-e₁ few-f₁ h i (λ e. ne (e ∙ x-face))

  old₂ : (h : ℕ) → h < m₁.nf → h ≢ m.nf → long n₂ h ≡ long m₁ h
  old₂ h i ne = cut-old m₁ good₁ (at 2) 2 in₁ faced₁ len₁ (omega arith) few-e₂ few-f₂ h i (λ e. ne (e ∙ face₁))

  old₃ : (h : ℕ) → h < n₂.nf → h ≢ m₁.nf → long n₃ h ≡ long n₂ h
  old₃ h i ne = cut-old n₂ good₂ (at 4) 1 in₂ faced₂ len₂ (omega arith) few-e₃ few-f₃ h i (λ e. ne (e ∙ face₂))

  corner₁ : long m₁ f ≡ 3
  corner₁ = subst (λ (h : ℕ). long m₁ h ≡ 3) x-face (cut-corner m g x 3 x_in x-faced len (omega arith) few-e₁ few-f₁)

  corner₂ : long n₂ m.nf ≡ 3
  corner₂ = subst (λ (h : ℕ). long n₂ h ≡ 3) face₁ (cut-corner m₁ good₁ (at 2) 2 in₁ faced₁ len₁ (omega arith) few-e₂ few-f₂)

  corner₃ : long n₃ m₁.nf ≡ 3
  corner₃ = subst (λ (h : ℕ). long n₃ h ≡ 3) face₂ (cut-corner n₂ good₂ (at 4) 1 in₂ faced₂ len₂ (omega arith) few-e₃ few-f₃)

  middle : long n₃ n₂.nf ≡ 3
  middle = cut-rest-length n₂ good₂ (at 4) 1 in₂ faced₂ len₂ (omega arith) few-e₃ few-f₃

  kept : (h : ℕ) → h < m.nf → h ≢ f → long n₃ h ≡ long m h
  kept h i ne = let (a, b, c) = counts₁ in let (p, q, r) = counts₂ in old₃ h (omega arith) (omega arith) ∙ old₂ h (omega arith) (omega arith) ∙ old₁ h i ne

  all_new : (h : ℕ) → h < n₃.nf → (h ≡ f) ⊎ (m.nf ≤ h) → long n₃ h ≡ 3
  all_new h i (inl e) = let (a, b, c) = counts₁ in let (p, q, r) = counts₂ in
      subst⁻¹ (λ (h : ℕ). long n₃ h ≡ 3) e (old₃ f (omega arith) (omega arith) ∙ old₂ f (omega arith) (omega arith) ∙ corner₁)
  all_new h i (inr u) = let (a, b, c) = counts₁ in let (p, q, r) = counts₂ in let (v, w, y) = counts₃ in
      split h m.nf (λ e. subst⁻¹ (λ (h : ℕ). long n₃ h ≡ 3) e (old₃ m.nf (omega arith) (omega arith) ∙ corner₂))
      (λ n₁. split h m₁.nf (λ e. subst⁻¹ (λ (h : ℕ). long n₃ h ≡ 3) e corner₃)
      (λ n₂. subst⁻¹ (λ (h : ℕ). long n₃ h ≡ 3) (let e : h ≡ (cut_off (next m₁ (at 2)) (at 2) m₁).nf = omega arith in e) middle))

  trimmed : Trimmed m m₃ f
  trimmed = subst⁻¹ (λ (l : Links). Trimmed m l f) is₃ (let (a, b, c) = counts₁ in let (p, q, r) = counts₂ in let (v, w, y) = counts₃ in record {
    good = good₃;
    nv_is = omega arith;
    ne_is = omega arith;
    nf_is = omega arith;
    new = all_new;
    old = kept;
  })

pub loop-face : (m : Links) (old f : ℕ) → Good m → f < m.nf → Length (next m) (start m f) 6 → m.ne + 3 ≤ 1048576 → m.nf + 3 ≤ 1048576 → Trimmed m (loop_face old f m) f
unfolding loop_face corners steps
loop-face m old f g f_in len room_e room_f =
    let (i, e, l) = first-old-is m g old f 6 f_in len in
    subst⁻¹ (λ (hs : List ℕ). Trimmed m (corners hs m) f) (from_old_lem m g old f 6 f_in len) (trimmed m f (first-old old f m) g i e ((good-shape m g).F-none f f_in) f_in l room_e room_f)
