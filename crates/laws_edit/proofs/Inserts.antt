-- Insert edge keeps a mesh consistent, across a face and across a hole, with a new face or with a deleted one used again. Assumes nothing.
use mathlib.Core.Path.{◌≡◌, refl, sym, ap, ◌∙◌, subst, subst⁻¹}
use mathlib.Core.Logic.{◌⊎◌, inl, inr, ◌≢◌}
use Prim.Native.Nat.{ℕ, ◌+◌, ◌*◌, ◌≤◌}
use lib.ListN.{length}
use Rattle.scope.specs.Links.{Links, Marks, NONE, face, next, prev, start}
use Rattle.scope.specs.Edits.{across_face, across_hole, insert_edge}
use Rattle.laws_mesh.specs.Reach.{Reach, here, step}
use Rattle.laws_mesh.specs.Mesh.{Shape, Core, Consistent}
use Rattle.laws_mesh.specs.Rules.{C7}
use Rattle.laws_mesh.specs.Of.{mesh_on, mesh_of, Sized, Marked}
use Rattle.laws_mesh.proofs.Cycle.{split, if-eq, if-ne, Perm, Part, reach-eq, reach-sym, reach-in}
use Rattle.laws_mesh.proofs.Facts.{perm-next, loop-face, prev-face}
use Rattle.laws_mesh.proofs.Shapes.{shape_of, size_of}
use Rattle.laws_mesh.proofs.Carriers.{SameSet, OneMore, NewEdge, Unmarked, UnmarkedHalf, unmarked-same, unmarked-edge}
use Rattle.laws_mesh.proofs.InsertEdge.{InsertEdge}
use Rattle.laws_mesh.proofs.InsertConsistent.{insert-consistent}
use Rattle.laws_mesh.proofs.InsertOn.{Given, face-start-g, across-face-on, across-hole-on}
use Rattle.laws_mesh.proofs.InsertLaws.{meet, meet-short, face-nv, face-ne, face-nf, hole-nv, hole-ne, hole-nf, face-edges_long, hole-edges_long}

-- ---- reaching, but for the first step and the last
reach-after : {f : ℕ → ℕ} {a b : ℕ} → Reach f a b → a ≢ b → Reach f (f a) b
reach-after here n = absurd (n refl)
reach-after {f} {a} (step {b} r) n = split a b (λ e. reach-eq (ap f e)) (λ k. step (reach-after r k))

reach-before : {P : ℕ → Type 0} {n : ℕ} {f g : ℕ → ℕ} → Perm P n f g → {a b : ℕ} → P a → Reach f a b → a ≢ b → Reach f a (g b)
reach-before m i here k = absurd (k refl)
reach-before {f = f} {g = g} m {a} i (step {b} r) k = subst⁻¹ (λ (x : ℕ). Reach f a x) (m.gf b (reach-in m i r)) r

-- ---- two halfedges of one loop that do not follow each other
pub record Insertable (m : Links) (k : Marks) (p n : ℕ) : Type 0 where
  pub sized : Sized m
  pub long : Marked m k
  pub consistent : Consistent (mesh_of m k)
  pub p-in : (mesh_of m k).is_h p
  pub n-in : (mesh_of m k).is_h n
  pub apart : p ≢ n
  pub no_step : next m p ≢ n
  pub one_loop : Reach (next m) p n

module _ {m : Links} {k : Marks} {p n : ℕ} (a : Insertable m k p n) where
  shape : Shape (mesh_of m k)
  shape = shape_of m k a.sized.few_e a.sized.few_f

  core : Core (mesh_of m k)
  core = a.consistent.core

  pub one-face : face m p ≡ face m n
  one-face = sym (loop-face shape core a.p-in a.one_loop)

  -- p's next reaches n's prev, and n reaches p
  there : Reach (next m) (next m p) (prev m n)
  there = reach-before (perm-next shape core) (core.next_in p a.p-in) (reach-after a.one_loop a.apart) a.no_step

  back : Reach (next m) (next m (prev m n)) p
  back = subst⁻¹ (λ (x : ℕ). Reach (next m) x p) (core.next_prev n a.n-in) (reach-sym (perm-next shape core) a.p-in a.one_loop)

  not-prev : p ≢ prev m n
  not-prev e = a.no_step (ap (next m) e ∙ core.next_prev n a.n-in)

  -- how many steps
  pub across : ℕ
  across = (meet there).0

  pub around : ℕ
  around = (meet back).0

  given-face : Given (UnmarkedHalf m.ne k.es) (Unmarked m.nv k.vs) (Unmarked m.nf k.fs) m p (prev m n) across
  unfolding across shape
  given-face = record {
    shape = shape;
    core = core;
    w-in = a.p-in;
    y_in = core.prev_in n a.n-in;
    apart = not-prev;
    meets = (meet there).1;
    first = (meet there).2;
    short = subst (λ (x : ℕ). across ≤ x) (size_of m k a.sized.few_e a.sized.few_f) (meet-short shape core _ _ across (core.next_in p a.p-in) (meet there).1 (meet there).2);
  }

  given-hole : Given (UnmarkedHalf m.ne k.es) (Unmarked m.nv k.vs) (Unmarked m.nf k.fs) m (prev m n) p around
  unfolding around shape
  given-hole = record {
    shape = shape;
    core = core;
    w-in = core.prev_in n a.n-in;
    y_in = a.p-in;
    apart = λ e. not-prev (sym e);
    meets = (meet back).1;
    first = (meet back).2;
    short = subst (λ (x : ℕ). around ≤ x) (size_of m k a.sized.few_e a.sized.few_f)
        (meet-short shape core _ _ around (core.next_in _ (core.prev_in n a.n-in)) (meet back).1 (meet back).2);
  }

  -- the face or the hole, as `insert_edge` has it
  pub by_mode : (g : ℕ) (C : Links → Type 0) → (face m p ≡ NONE → C (across_hole g p n m)) → (face m p ≢ NONE → C (across_face g p n m)) → C (insert_edge g p n m)
  unfolding insert_edge
  by_mode g C f h = split (face m p) NONE (λ e. subst⁻¹ C (if-eq _ _ _ _ e) (f e)) (λ e. subst⁻¹ C (if-ne _ _ _ _ e) (h e))

  pub insert-nv : (g : ℕ) → (insert_edge g p n m).nv ≡ m.nv
  insert-nv g = by_mode g (λ l. l.nv ≡ m.nv) (λ e. hole-nv g p n m) (λ e. face-nv g p n m)

  pub insert-ne : (g : ℕ) → (insert_edge g p n m).ne ≡ m.ne + 1
  insert-ne g = by_mode g (λ l. l.ne ≡ m.ne + 1) (λ e. hole-ne g p n m) (λ e. face-ne g p n m)

  pub insert-nf : (g : ℕ) → (insert_edge g p n m).nf ≡ m.nf
  insert-nf g = by_mode g (λ l. l.nf ≡ m.nf) (λ e. hole-nf g p n m) (λ e. face-nf g p n m)

  face_in : face m p ≢ NONE → Unmarked m.nf k.fs (face m p)
  face_in ne = go (core.face_in p a.p-in)
    where
      go : (face m p ≡ NONE) ⊎ (mesh_of m k).is_f (face m p) → (mesh_of m k).is_f (face m p)
      go (inl e) = absurd (ne e)
      go (inr i) = i

  -- ---- with what there is afterwards: the new edge, and face g
  module _ (g e v : ℕ) (F₂ : ℕ → Type 0) (ei : m.ne + 1 ≡ e) (vi : m.nv ≡ v) (F₁₂ : OneMore (Unmarked m.nf k.fs) F₂ g) where
    edge : NewEdge (UnmarkedHalf m.ne k.es) (UnmarkedHalf e k.es) (2 * m.ne)
    edge = unmarked-edge m.ne e k.es ei a.long.es_long

    vertices : SameSet (Unmarked m.nv k.vs) (Unmarked v k.vs)
    vertices = unmarked-same m.nv v k.vs vi

    pub insert-face_is : face m p ≢ NONE
        → InsertEdge (mesh_of m k) (mesh_on (UnmarkedHalf e k.es) (Unmarked v k.vs) F₂ (across_face g p n m)) p (prev m n) (2 * m.ne + 1) g (Part (next m) (next m p) across)
    insert-face_is ne = across-face-on m p n g across given-face a.n-in one-face edge vertices F₁₂ (face_in ne) ne

    pub insert-hole-is : face m p ≡ NONE
        → InsertEdge (mesh_of m k) (mesh_on (UnmarkedHalf e k.es) (Unmarked v k.vs) F₂ (across_hole g p n m)) (prev m n) p (2 * m.ne) g (Part (next m) (next m (prev m n)) around)
    insert-hole-is ne = across-hole-on m p n g around given-hole a.n-in one-face edge vertices F₁₂ ne

    pub insert-edges_long : length (insert_edge g p n m).edges ≡ 8 * (m.ne + 1)
    insert-edges_long = by_mode g (λ l. length l.edges ≡ 8 * (m.ne + 1))
        (λ q. hole-edges_long m p n g around a.n-in one-face edge vertices F₁₂ (λ x i. i.0) a.sized.edges_long given-hole)
        (λ q. face-edges_long m p n g across a.n-in one-face edge vertices F₁₂ (λ x i. i.0) a.sized.edges_long given-face)

    -- unless it cuts off one single halfedge of a face
    pub insert-keeps : Shape (mesh_on (UnmarkedHalf e k.es) (Unmarked v k.vs) F₂ (insert_edge g p n m)) → (face m p ≢ NONE → next m (next m p) ≢ n)
        → Consistent (mesh_on (UnmarkedHalf e k.es) (Unmarked v k.vs) F₂ (insert_edge g p n m))
    insert-keeps s long = by_mode g (λ l. Shape (mesh_on (UnmarkedHalf e k.es) (Unmarked v k.vs) F₂ l) → Consistent (mesh_on (UnmarkedHalf e k.es) (Unmarked v k.vs) F₂ l))
        (λ q s. insert-consistent shape s a.consistent (insert-hole-is q) (λ x. a.apart (sym x ∙ core.next_prev n a.n-in)) (λ x. absurd (x (prev-rim q))))
        (λ q s. insert-consistent shape s a.consistent (insert-face_is q) (λ x. long q (ap (next m) x ∙ core.next_prev n a.n-in)) (λ _ x. a.apart (sym x ∙ core.next_prev n a.n-in)))
        s
      where
        prev-rim : face m p ≡ NONE → face m (prev m n) ≡ NONE
        prev-rim q = prev-face shape core n a.n-in ∙ sym one-face ∙ q

    -- where it would, the new face is of two halfedges
    pub insert-breaks : face m p ≢ NONE → next m (next m p) ≡ n → C7 (mesh_on (UnmarkedHalf e k.es) (Unmarked v k.vs) F₂ (insert_edge g p n m)) g → ⊥
    insert-breaks ne two = by_mode g (λ l. C7 (mesh_on (UnmarkedHalf e k.es) (Unmarked v k.vs) F₂ l) g → ⊥) (λ q. absurd (ne q)) (λ q c. c.three (twice q))
      where
        twice : (q : face m p ≢ NONE) → next (across_face g p n m) (next (across_face g p n m) (start (across_face g p n m) g)) ≡ start (across_face g p n m) g
        twice q =
            let d = insert-face_is q in
            let one : prev m n ≡ next m p = ap (prev m) (sym two) ∙ core.prev_next (next m p) (core.next_in p a.p-in) in
            let at_g = face-start-g m p n g across given-face a.n-in one-face edge vertices F₁₂ (face_in q) in
            let l = across_face g p n m in
            ap (λ (x : ℕ). next l (next l x)) at_g ∙ ap (next l) (d.next-c ∙ sym one) ∙ d.next-y ∙ sym at_g
