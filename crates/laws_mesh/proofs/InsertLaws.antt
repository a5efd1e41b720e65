-- Insert edge on links: counts and lengths; and `cut_off`, across a face with a new face, with nothing marked. Assumes nothing.
use mathlib.Core.Path.{◌≡◌, refl, sym, ap, ◌∙◌, subst}
use mathlib.Core.Logic.{◌⊎◌, inl, inr, ◌≢◌}
use Prim.Native.Nat.{ℕ, suc, ◌+◌, ◌*◌, ◌≤◌, ◌<◌}
use native.Mathlib.Decide.{dec_lt, ℕ_discrete}
use native.Mathlib.Omega.{arith}
use lib.ListN.{length}
use Rattle.scope.specs.Links.{Links, NONE, face, next, prev, start, tail, loop}
use Rattle.scope.specs.Edits.{joined, across_face, across_hole, cut_off}
use Rattle.laws_mesh.specs.Reach.{Reach, iter}
use Rattle.laws_mesh.specs.Mesh.{Mesh, Shape, Core}
use Rattle.laws_mesh.specs.Of.{mesh, Sized, Good}
use Rattle.laws_mesh.proofs.Cycle.{First, first, Part, reach-iter, reach-bound, iter-reach}
use Rattle.laws_mesh.proofs.Facts.{perm-next, loop-face, prev-face}
use Rattle.laws_mesh.proofs.Puts.{put-long, put-long-end}
use Rattle.laws_mesh.proofs.Shapes.{shape-mesh, size-mesh}
use Rattle.laws_mesh.proofs.Carriers.{SameSet, OneMore, NewEdge, range_same, range-more, range-edge}
use Rattle.laws_mesh.proofs.Paint.{paint-nv, paint-ne, paint-nf, paint-starts, paint-outs, paint-long}
use Rattle.laws_mesh.proofs.InsertEdge.{InsertEdge}
use Rattle.laws_mesh.proofs.InsertConsistent.{insert-consistent}
use Rattle.laws_mesh.proofs.Joined.{join-long}
use Rattle.laws_mesh.proofs.InsertOn.{Given, has-old, join-face, ne-grown, edge-k, join-hole, ne-more, across-face-on, face-start-g, face-start_in, face-start-out, face-start-old}

-- the first time that y is met from x
pub meet : {f : ℕ → ℕ} {x y : ℕ} → Reach f x y → (j : ℕ) × (iter f j x ≡ y) × ((i : ℕ) → i < j → iter f i x ≢ y)
meet {f} {x} {y} r = go (reach-iter r)
  where
    go : (k : ℕ) × (iter f k x ≡ y) → (j : ℕ) × (iter f j x ≡ y) × ((i : ℕ) → i < j → iter f i x ≢ y)
    go (k, e) = least (first (λ i. iter f i x ≡ y) (λ i. ℕ_discrete (iter f i x) y) (suc k))
      where
        least : First (λ i. iter f i x ≡ y) (suc k) ⊎ ((i : ℕ) → i < suc k → ¬ (iter f i x ≡ y)) → (j : ℕ) × (iter f j x ≡ y) × ((i : ℕ) → i < j → iter f i x ≢ y)
        least (inl (j, l, q, h)) = (j, q, h)
        least (inr away) = absurd (away k (omega arith) e)

-- it is within the number of halfedges
pub meet-short : {m : Mesh} (s : Shape m) (c : Core m) (x y j : ℕ) → m.is_h x → iter m.next j x ≡ y → ((i : ℕ) → i < j → iter m.next i x ≢ y) → j ≤ s.size
meet-short {m} s c x y j i e away = go (reach-bound (perm-next s c) i (subst (λ (y : ℕ). Reach m.next x y) e (iter-reach m.next x j)))
  where
    go : (k : ℕ) × (k < s.size) × (iter m.next k x ≡ y) → j ≤ s.size
    go (k, l, q) = at_most (dec_lt k j)
      where
        at_most : Dec (k < j) → j ≤ s.size
        at_most (yes h) = absurd (away k h q)
        at_most (no h) = omega arith

-- ---- counts and lengths

pub face-nv : (g p n : ℕ) (m : Links) → (across_face g p n m).nv ≡ m.nv
unfolding across_face joined
face-nv g p n m = paint-nv g (loop (joined p n m) (2 * m.ne + 1)) (joined p n m) ∙ omega arith

pub face-ne : (g p n : ℕ) (m : Links) → (across_face g p n m).ne ≡ m.ne + 1
unfolding across_face joined
face-ne g p n m = paint-ne g (loop (joined p n m) (2 * m.ne + 1)) (joined p n m)

pub face-nf : (g p n : ℕ) (m : Links) → (across_face g p n m).nf ≡ m.nf
unfolding across_face joined
face-nf g p n m = paint-nf g (loop (joined p n m) (2 * m.ne + 1)) (joined p n m) ∙ omega arith

pub hole-nv : (g p n : ℕ) (m : Links) → (across_hole g p n m).nv ≡ m.nv
unfolding across_hole joined
hole-nv g p n m = paint-nv g (loop (joined p n m) (2 * m.ne)) (joined p n m) ∙ omega arith

pub hole-ne : (g p n : ℕ) (m : Links) → (across_hole g p n m).ne ≡ m.ne + 1
unfolding across_hole joined
hole-ne g p n m = paint-ne g (loop (joined p n m) (2 * m.ne)) (joined p n m)

pub hole-nf : (g p n : ℕ) (m : Links) → (across_hole g p n m).nf ≡ m.nf
unfolding across_hole joined
hole-nf g p n m = paint-nf g (loop (joined p n m) (2 * m.ne)) (joined p n m) ∙ omega arith

pub face-outs : (g p n : ℕ) (m : Links) → (across_face g p n m).outs ≡ m.outs
unfolding across_face joined
face-outs g p n m = paint-outs g (loop (joined p n m) (2 * m.ne + 1)) (joined p n m)

pub hole-outs_long : (g p n : ℕ) (m : Links) → length m.outs ≡ m.nv → tail m n < m.nv → length (across_hole g p n m).outs ≡ m.nv
unfolding across_hole joined
hole-outs_long g p n m long i = put-long _ (tail m n) _ (ap length (paint-outs g (loop (joined p n m) (2 * m.ne)) (joined p n m)) ∙ long) i

-- the starts of the faces are one longer if the face is new, and as long if it is used again
pub face-starts-new : (p n : ℕ) (m : Links) → length m.faces ≡ m.nf → face m p < m.nf → length (across_face m.nf p n m).faces ≡ m.nf + 1
unfolding across_face joined
face-starts-new p n m long i = put-long _ (face m p) _ (put-long-end _ _ (ap length (paint-starts m.nf (loop (joined p n m) (2 * m.ne + 1)) (joined p n m)) ∙ long)) (omega arith)

pub face-starts-again : (g p n : ℕ) (m : Links) → length m.faces ≡ m.nf → face m p < m.nf → g < m.nf → length (across_face g p n m).faces ≡ m.nf
unfolding across_face joined
face-starts-again g p n m long i h = put-long _ (face m p) _ (put-long _ g _ (ap length (paint-starts g (loop (joined p n m) (2 * m.ne + 1)) (joined p n m)) ∙ long) h) i

pub hole-starts-new : (p n : ℕ) (m : Links) → length m.faces ≡ m.nf → length (across_hole m.nf p n m).faces ≡ m.nf + 1
unfolding across_hole joined
hole-starts-new p n m long = put-long-end _ _ (ap length (paint-starts m.nf (loop (joined p n m) (2 * m.ne)) (joined p n m)) ∙ long)

pub hole-starts-again : (g p n : ℕ) (m : Links) → length m.faces ≡ m.nf → g < m.nf → length (across_hole g p n m).faces ≡ m.nf
unfolding across_hole joined
hole-starts-again g p n m long h = put-long _ g _ (ap length (paint-starts g (loop (joined p n m) (2 * m.ne)) (joined p n m)) ∙ long) h

module _ {H₁ V₁ F₁ H₂ V₂ F₂ : ℕ → Type 0} (m : Links) (p n g j : ℕ) (n-in : H₁ n) (one-face : face m p ≡ face m n) (b : NewEdge H₁ H₂ (2 * m.ne)) (V₁₂ : SameSet V₁ V₂) (F₁₂ : OneMore F₁ F₂ g)
    (low : (x : ℕ) → H₁ x → x < 2 * m.ne) (long : length m.edges ≡ 8 * m.ne) where
  pub face-edges_long : Given H₁ V₁ F₁ m p (prev m n) j → length (across_face g p n m).edges ≡ 8 * (m.ne + 1)
  unfolding across_face
  face-edges_long a =
      let c = a.core in
      paint-long g (loop (joined p n m) (2 * m.ne + 1)) (joined p n m) (2 * m.ne + 2) (join-long m p n long (low p a.w-in) (low n n-in) (low _ (c.next_in p a.w-in)) (low _ (c.prev_in n n-in)))
      (λ t h. go t (has-old m (joined p n m) p (prev m n) (2 * m.ne + 1) g j a (join-face m p n g j a n-in one-face b V₁₂ F₁₂) (ne-grown m p n g j a n-in one-face b V₁₂ F₁₂)
      (edge-k m p n g j a n-in one-face b V₁₂ F₁₂) V₁₂ F₁₂ t h))
      ∙ omega arith
    where
      go : (t : ℕ) → (t ≡ 2 * m.ne + 1) ⊎ H₁ t → t < 2 * m.ne + 2
      go t (inl e) = omega arith
      go t (inr i) = let q = low t i in omega arith

  pub hole-edges_long : Given H₁ V₁ F₁ m (prev m n) p j → length (across_hole g p n m).edges ≡ 8 * (m.ne + 1)
  unfolding across_hole
  hole-edges_long a =
      let c = a.core in
      paint-long g (loop (joined p n m) (2 * m.ne)) (joined p n m) (2 * m.ne + 2) (join-long m p n long (low p a.y_in) (low n n-in) (low _ (c.next_in p a.y_in)) (low _ (c.prev_in n n-in)))
      (λ t h. go t (has-old m (joined p n m) (prev m n) p (2 * m.ne) g j a (join-hole m p n g j a n-in one-face b V₁₂ F₁₂) (ne-more m p n g j a n-in one-face b V₁₂ F₁₂) b V₁₂ F₁₂ t h))
      ∙ omega arith
    where
      go : (t : ℕ) → (t ≡ 2 * m.ne) ⊎ H₁ t → t < 2 * m.ne + 2
      go t (inl e) = omega arith
      go t (inr i) = let q = low t i in omega arith

-- ---- cut_off
-- p and n are two halfedges of one face: prev n is met first j steps after next p
pub record Across (m : Links) (p n j : ℕ) : Type 0 where
  pub p-in : p < 2 * m.ne
  pub n-in : n < 2 * m.ne
  pub faced : face m p ≢ NONE
  pub apart : p ≢ prev m n
  pub meets : iter (next m) j (next m p) ≡ prev m n
  pub first : (i : ℕ) → i < j → iter (next m) i (next m p) ≢ prev m n

module _ (m : Links) (g : Good m) (p n j : ℕ) (a : Across m p n j) (room_e : m.ne + 1 ≤ 1048576) (room_f : m.nf + 1 ≤ 1048576) where
  s : Shape (mesh m)
  s = shape-mesh m g.sized.few_e g.sized.few_f

  c : Core (mesh m)
  c = g.consistent.core

  given : Given (λ h. h < 2 * m.ne) (λ v. v < m.nv) (λ f. f < m.nf) m p (prev m n) j
  unfolding s
  given = record {
    shape = s;
    core = c;
    w-in = a.p-in;
    y_in = c.prev_in n a.n-in;
    apart = a.apart;
    meets = a.meets;
    first = a.first;
    short = subst (λ (k : ℕ). j ≤ k) (size-mesh m g.sized.few_e g.sized.few_f) (meet-short s c _ _ j (c.next_in p a.p-in) a.meets a.first);
  }

  one-face : face m p ≡ face m n
  one-face =
      let i = c.next_in p a.p-in in
      sym (c.next_face p a.p-in) ∙ sym (loop-face s c i (iter-reach (next m) (next m p) j)) ∙ ap (face m) a.meets ∙ prev-face s c n a.n-in

  f_in : face m p < m.nf
  f_in = go (c.face_in p a.p-in)
    where
      go : (face m p ≡ NONE) ⊎ (face m p < m.nf) → face m p < m.nf
      go (inl e) = absurd (a.faced e)
      go (inr i) = i

  edge : NewEdge (λ h. h < 2 * m.ne) (λ h. h < 2 * (cut_off p n m).ne) (2 * m.ne)
  unfolding cut_off
  edge = range-edge m.ne m.ne (cut_off p n m).ne refl (let q = face-ne m.nf p n m in omega arith)

  vertices : SameSet (λ v. v < m.nv) (λ v. v < (cut_off p n m).nv)
  unfolding cut_off
  vertices = range_same m.nv (cut_off p n m).nv (let q = face-nv m.nf p n m in omega arith)

  one_more : OneMore (λ f. f < m.nf) (λ f. f < (cut_off p n m).nf) m.nf
  unfolding cut_off
  one_more = range-more m.nf (cut_off p n m).nf (let q = face-nf m.nf p n m in omega arith)

  pub cut-off-is : InsertEdge (mesh m) (mesh (cut_off p n m)) p (prev m n) (2 * m.ne + 1) m.nf (Part (next m) (next m p) j)
  unfolding cut_off
  cut-off-is = across-face-on m p n m.nf j given a.n-in one-face edge vertices one_more f_in a.faced

  pub cut-off-sized : Sized (cut_off p n m)
  unfolding cut_off
  cut-off-sized =
      let z = g.sized in
      let v = face-nv m.nf p n m in
      let e = face-ne m.nf p n m in
      let f = face-nf m.nf p n m in
      record {
        outs_long = ap length (face-outs m.nf p n m) ∙ z.outs_long ∙ omega arith;
        edges_long = face-edges_long m p n m.nf j a.n-in one-face edge vertices one_more (λ x i. i) z.edges_long given ∙ omega arith;
        faces_long = face-starts-new p n m z.faces_long f_in ∙ omega arith;
        few_v = (let q = z.few_v in omega arith);
        few_e = omega arith;
        few_f = omega arith;
      }

  -- neither part is a single halfedge
  pub cut-off-good : next m p ≢ prev m n → n ≢ p → Good (cut_off p n m)
  cut-off-good long-g long-k = let z = cut-off-sized in record {
    sized = z;
    consistent = insert-consistent s (shape-mesh (cut_off p n m) z.few_e z.few_f) g.consistent cut-off-is long-g (λ r e. long-k (sym (c.next_prev n a.n-in) ∙ e));
  }

  -- where the faces start: the new one at the new edge's second half; the old one where it did, or at the first if that went over
  pub cut-off-start-new : start (cut_off p n m) m.nf ≡ 2 * m.ne + 1
  unfolding cut_off
  cut-off-start-new = face-start-g m p n m.nf j given a.n-in one-face edge vertices one_more f_in

  pub cut-off-start_in : Part (next m) (next m p) j (start m (face m p)) → start (cut_off p n m) (face m p) ≡ 2 * m.ne
  unfolding cut_off
  cut-off-start_in = face-start_in m p n m.nf j given a.n-in one-face edge vertices one_more f_in

  pub cut-off-start-out : ¬ Part (next m) (next m p) j (start m (face m p)) → start (cut_off p n m) (face m p) ≡ start m (face m p)
  unfolding cut_off
  cut-off-start-out = face-start-out m p n m.nf j given a.n-in one-face edge vertices one_more f_in

  pub cut-off-start-old : (r : ℕ) → r ≢ m.nf → r ≢ face m p → start (cut_off p n m) r ≡ start m r
  unfolding cut_off
  cut-off-start-old = face-start-old m p n m.nf j given a.n-in one-face edge vertices one_more f_in

  pub cut-off-counts : ((cut_off p n m).nv ≡ m.nv) × ((cut_off p n m).ne ≡ m.ne + 1) × ((cut_off p n m).nf ≡ m.nf + 1)
  unfolding cut_off
  cut-off-counts = (
    let q = face-nv m.nf p n m in omega arith,
    let q = face-ne m.nf p n m in omega arith,
    let q = face-nf m.nf p n m in omega arith,
  )
