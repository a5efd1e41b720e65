-- Scope's `cut_corner` cuts off one corner of a face. Assumes nothing.
use mathlib.Core.Path.{◌≡◌, sym, ap, ◌∙◌, subst⁻¹}
use mathlib.Core.Logic.{◌⊎◌, inl, inr, ◌≢◌}
use Prim.Native.Nat.{ℕ, zero, suc, ◌+◌, ◌*◌, ◌≤◌, ◌<◌}
use native.Mathlib.Omega.{arith}
use Rattle.scope.specs.Links.{Links, NONE, face, next, prev, start, start_is}
use Rattle.scope.specs.Edits.{cut_off, cut_corner}
use Rattle.laws_mesh.specs.Reach.{iter}
use Rattle.laws_mesh.specs.Mesh.{Shape, Core}
use Rattle.laws_mesh.specs.Of.{mesh, Good}
use Rattle.laws_mesh.proofs.Cycle.{split, Part}
use Rattle.laws_mesh.proofs.Count.{Length}
use Rattle.laws_mesh.proofs.Facts.{prev-face, next-ne, perm-next}
use Rattle.laws_mesh.proofs.Puts.{get_or-put-same, get_or-put-other, put-long}
use Rattle.laws_mesh.proofs.Relink.{relink}
use Rattle.laws_mesh.proofs.Loops.{good-shape, length-around}
use Rattle.laws_mesh.proofs.InsertEdge.{InsertEdge}
use Rattle.laws_mesh.proofs.InsertLaws.{Across, cut-off-is, cut-off-good, cut-off-counts}
use Rattle.laws_triangulate.proofs.Cutting.{cut-shorter, cut-bears, cut-face-old, cut-next-old, cut-cases}

-- a face may start at any of its halfedges
pub restart : (m : Links) → Good m → (f a : ℕ) → f < m.nf → a < 2 * m.ne → face m a ≡ f → Good (start_is f a m)
restart m g f a f_in a_in bears = let z = g.sized in let c = g.consistent.core in record {
  sized = record {
    outs_long = z.outs_long;
    edges_long = z.edges_long;
    faces_long = put-long m.faces f a z.faces_long f_in;
    few_v = z.few_v;
    few_e = z.few_e;
    few_f = z.few_f;
  };
  consistent = relink {m = mesh m} {start₁ = start (start_is f a m)} g.consistent (record {
    head_in = c.head_in;
    out_in = c.out_in;
    start_in = λ h i. split h f
        (λ e. subst⁻¹ (λ (t : ℕ). t < 2 * m.ne) (here h e) a_in)
        (λ e. subst⁻¹ (λ (t : ℕ). t < 2 * m.ne) (get_or-put-other m.faces f h a e) (c.start_in h i));
    start_bears = λ h i. split h f
        (λ e. ap (face m) (here h e) ∙ bears ∙ sym e)
        (λ e. ap (face m) (get_or-put-other m.faces f h a e) ∙ c.start_bears h i);
    out_leaves = c.out_leaves;
    none_leaves = c.none_leaves;
    rim_named = c.rim_named;
  });
}
  where
    here : (h : ℕ) → h ≡ f → start (start_is f a m) h ≡ a
    here h e = ap (λ (h : ℕ). start (start_is f a m) h) e ∙ get_or-put-same m.faces f a 0

-- m' is m with a corner cut off face f
pub record Cornered (m m' : Links) (f : ℕ) : Type 1 where
  pub good : Good m'
  pub nv_is : m'.nv ≡ m.nv
  pub ne_is : m'.ne ≡ m.ne + 1
  pub nf_is : m'.nf ≡ m.nf + 1
  pub shorter : (k : ℕ) → 3 ≤ k → ((t : ℕ) → t < 2 * m.ne → face m t ≡ f → Length (next m) t (suc k)) → (t : ℕ) → t < 2 * m'.ne → face m' t ≡ f → Length (next m') t k
  pub old_face : (t : ℕ) → t < 2 * m.ne → face m t ≢ f → face m' t ≡ face m t
  pub old-next : (t : ℕ) → t < 2 * m.ne → face m t ≢ f → next m' t ≡ next m t
  pub cases : (t : ℕ) → t < 2 * m'.ne → {P : Type 0} → (face m' t ≡ m.nf → next m' (next m' (next m' t)) ≡ t → P) → (face m' t ≡ f → P) → (t < 2 * m.ne → face m t ≢ f → P) → P

module _ (m : Links) (g : Good m) (f : ℕ) (f_in : f < m.nf) (k : ℕ) (long : Length (next m) (start m f) (suc k)) (lo : 3 ≤ k) (e-lt : m.ne < 1048576) (f_lt : m.nf < 1048576) where
  S : Shape (mesh m)
  S = good-shape m g

  C : Core (mesh m)
  C = g.consistent.core

  abbrev a : ℕ
  a = start m f

  abbrev p : ℕ
  p = prev m (start m f)

  abbrev n : ℕ
  n = next m (next m (start m f))

  -- the second that is cut off
  abbrev x : ℕ
  x = prev m (next m (next m (start m f)))

  a_in : a < 2 * m.ne
  a_in = C.start_in f f_in

  p-in : p < 2 * m.ne
  p-in = C.prev_in a a_in

  x₀-in : next m a < 2 * m.ne
  x₀-in = C.next_in a a_in

  pa : next m p ≡ a
  pa = C.next_prev a a_in

  ax : next m a ≡ x
  ax = sym (C.prev_next (next m a) x₀-in)

  pub p-face : face m p ≡ f
  p-face = prev-face S C a a_in ∙ C.start_bears f f_in

  faced : face m p ≢ NONE
  faced q = S.F-none f f_in (sym p-face ∙ q)

  a≢x : a ≢ x
  a≢x e = next-ne S C a a_in (ax ∙ sym e)

  pub across : Across m p n 1
  across = record {
    p-in = p-in;
    n-in = C.next_in (next m a) x₀-in;
    faced = faced;
    apart = λ e. g.consistent.three.three_long p p-in faced (ap (next m) pa ∙ ax ∙ sym e);
    meets = ap (next m) pa ∙ ax;
    first = before;
  }
    where
      before : (i : ℕ) → i < 1 → iter (next m) i (next m p) ≢ x
      before zero l e = a≢x (sym pa ∙ e)
      before (suc i) l e = absurd (let q : suc i < 1 = l in omega arith)

  two : (t : ℕ) → Part (next m) (next m p) 1 t → (t ≡ a) ⊎ (t ≡ x)
  unfolding Part
  two t (zero, l, e) = inl (sym e ∙ pa)
  two t (suc zero, l, e) = inr (sym e ∙ ap (next m) pa ∙ ax)
  two t (suc (suc i), l, e) = absurd (let q : suc (suc i) ≤ 1 = l in omega arith)

  a-part : Part (next m) (next m p) 1 a
  unfolding Part
  a-part = (0, omega arith, pa)

  abbrev m₁ : Links
  m₁ = cut_off (prev m (start m f)) (next m (next m (start m f))) m

  d : InsertEdge (mesh m) (mesh m₁) p x (2 * m.ne + 1) m.nf (Part (next m) (next m p) 1)
  d = cut-off-is m g p n 1 across (omega arith) (omega arith)

  good₁ : Good m₁
  good₁ = cut-off-good m g p n 1 across (omega arith) (omega arith) (λ e. a≢x (sym pa ∙ e))
      (λ e. long.no-sooner 3 (omega arith) (omega arith) (ap (next m) e ∙ pa))

  ne₁ : m₁.ne ≡ m.ne + 1
  ne₁ = (cut-off-counts m g p n 1 across (omega arith) (omega arith)).1

  nf₁ : m₁.nf ≡ m.nf + 1
  nf₁ = (cut-off-counts m g p n 1 across (omega arith) (omega arith)).2

  -- all of the face's loop after the cut
  shorter₁ : (l : ℕ) → 3 ≤ l → ((t : ℕ) → t < 2 * m.ne → face m t ≡ f → Length (next m) t (suc l)) → (t : ℕ) → t < 2 * m₁.ne → face m₁ t ≡ f → Length (next m₁) t l
  shorter₁ l h all t i e =
      let C₁ = good₁.consistent.core in
      let p₁ = d.keep-H p p-in in
      let b₁ : face m₁ p ≡ f = cut-bears S g.consistent d pa ax two a-part faced ∙ p-face in
      length-around (perm-next (good-shape m₁ good₁) C₁) p₁ (cut-shorter S g.consistent d pa ax two a-part faced l h (all p p-in p-face))
      (C₁.one_loop p t p₁ i (λ q. S.F-none f f_in (sym b₁ ∙ q)) (b₁ ∙ sym e))

  off : (t : ℕ) → face m t ≢ f → face m t ≢ face m p
  off t e q = e (q ∙ p-face)

  pub corner : Cornered m (cut_corner f m) f
  unfolding cut_corner
  corner = record {
    good = restart m₁ good₁ m.nf a (let q = nf₁ in omega arith) (d.keep-H a a_in) (d.face-part a a-part);
    nv_is = (cut-off-counts m g p n 1 across (omega arith) (omega arith)).0;
    ne_is = ne₁;
    nf_is = nf₁;
    shorter = shorter₁;
    old_face = λ t i e. cut-face-old S g.consistent d pa ax two a-part faced t i (off t e);
    old-next = λ t i e. cut-next-old S g.consistent d pa ax two a-part faced t i (off t e);
    cases = λ t i new mine rest. cut-cases S g.consistent d pa ax two a-part faced t i new (λ e. mine (e ∙ p-face)) (λ j e. rest j (λ q. e (q ∙ sym p-face)));
  }
