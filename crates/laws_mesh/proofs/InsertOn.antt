-- Scope's insert edge makes the mesh that `InsertEdge` describes, whatever says which elements are there. Assumes nothing.
use mathlib.Core.Path.{◌≡◌, refl, sym, ap, ◌∙◌, subst, subst⁻¹}
use mathlib.Core.Logic.{◌⊎◌, inl, inr, ◌≢◌}
use mathlib.Core.List.{List}
use Prim.Native.Nat.{ℕ, zero, suc, ◌+◌, ◌*◌, ◌≤◌, ◌<◌}
use native.Mathlib.Omega.{arith}
use lib.Dec.{T}
use lib.ListN.{get_or}
use Rattle.scope.specs.Lists.{has}
use Rattle.scope.specs.Links.{Links, NONE, partner, loop}
use Rattle.scope.specs.Edits.{joined, paint, across_face, across_hole}
use Rattle.laws_mesh.specs.Reach.{iter}
use Rattle.laws_mesh.specs.Mesh.{Shape, Core}
use Rattle.laws_mesh.specs.Of.{mesh_on}
use Rattle.laws_mesh.proofs.Cycle.{split, Part, Cut, cut_at, reach-ind}
use Rattle.laws_mesh.proofs.Facts.{partner-even, partner-odd, partner-ne, head-prev, prev-face}
use Rattle.laws_mesh.proofs.Puts.{get_or-put-same, get_or-put-other}
use Rattle.laws_mesh.proofs.Stores.{face, head, next, prev, at}
use Rattle.laws_mesh.proofs.Joined.{Joined, joined-face, joined-hole}
use Rattle.laws_mesh.proofs.Loops.{steps, round-steps}
use Rattle.laws_mesh.proofs.Paint.{has-steps, steps-has, if-has, if-not, paint-outs, paint-starts, paint-head, paint-next, paint-prev, paint-off, paint-on}
use Rattle.laws_mesh.proofs.Carriers.{SameSet, OneMore, NewEdge, edge-flip}
use Rattle.laws_mesh.proofs.InsertEdge.{InsertEdge}

-- m with other leaving halfedges and starts
abbrev pub with-lists : List ℕ → List ℕ → Links → Links
with-lists o s m = record { nv = m.nv; ne = m.ne; nf = m.nf; outs = o; edges = m.edges; faces = s }

-- w and y are two halfedges of one loop: y is met first j steps after w's next
pub record Given (H₁ V₁ F₁ : ℕ → Type 0) (m : Links) (w y j : ℕ) : Type 0 where
  pub shape : Shape (mesh_on H₁ V₁ F₁ m)
  pub core : Core (mesh_on H₁ V₁ F₁ m)
  pub w-in : H₁ w
  pub y_in : H₁ y
  pub apart : w ≢ y
  pub meets : iter (at m.edges next) j (at m.edges next w) ≡ y
  pub first : (i : ℕ) → i < j → iter (at m.edges next) i (at m.edges next w) ≢ y
  pub short : j ≤ 2 * m.ne

module _ {H₁ V₁ F₁ H₂ V₂ F₂ : ℕ → Type 0} (m l : Links) (w y c g j : ℕ) (a : Given H₁ V₁ F₁ m w y j) (q : Joined H₁ m l w y c) (grown : l.ne ≡ m.ne + 1)
    (b : NewEdge H₁ H₂ c) (V₁₂ : SameSet V₁ V₂) (F₁₂ : OneMore F₁ F₂ g) where
  f : ℕ → ℕ
  f = at m.edges next

  x : ℕ
  x = at m.edges next w

  -- those of the part
  In : ℕ → Type 0
  In = Part f x j

  cut_out : Cut f x y In
  unfolding In f x
  cut_out = cut_at (at m.edges next) (at m.edges next w) y j a.meets a.first

  pub part-old : (t : ℕ) → Part (at m.edges next) (at m.edges next w) j t → H₁ t × (at m.edges face t ≡ at m.edges face w)
  unfolding x f In
  part-old t p = reach-ind (λ (t : ℕ). H₁ t × (at m.edges face t ≡ at m.edges face w))
      (λ u (i, e). (a.core.next_in u i, a.core.next_face u i ∙ e)) (a.core.next_in w a.w-in, a.core.next_face w a.w-in) (cut_out.reached t p)

  old-c : (t : ℕ) → H₁ t → t ≢ c
  old-c t i e = b.n-new (subst H₁ e i)

  old-k : (t : ℕ) → H₁ t → t ≢ partner c
  old-k t i e = b.o-new (subst H₁ e i)

  -- from c the new loop goes through the part
  goes : (i : ℕ) → i ≤ j → iter (at l.edges next) (suc i) c ≡ iter f i x
  unfolding f x In Part
  goes zero h = q.next-c
  goes (suc i) h =
      let t = iter (at m.edges next) i (at m.edges next w) in
      let p : In t = (i, omega arith, refl) in
      ap (at l.edges next) (goes i (omega arith)) ∙ q.next-old t (part-old t p).0 (λ e. cut_out.before-out w refl a.apart (subst In e p)) (a.first i h)

  closes : iter (at l.edges next) (suc (suc j)) c ≡ c
  unfolding f x
  closes = ap (at l.edges next) (goes j (omega arith) ∙ a.meets) ∙ q.next-y

  away : (i : ℕ) → i < suc j → iter (at l.edges next) (suc i) c ≢ c
  unfolding f x In Part
  away i h e = old-c _ (part-old _ (i, omega arith, refl)).0 (sym (goes i (omega arith)) ∙ e)

  pub part-list : loop l c ≡ steps (at l.edges next) c (suc (suc j))
  unfolding loop
  part-list = round-steps c (at l.edges next) (2 * l.ne) (suc j) c (let z = a.short in omega arith) closes away

  pub part-has : (t : ℕ) → Part (at m.edges next) (at m.edges next w) j t → T (has t (loop l c))
  unfolding f x In Part
  part-has t (i, h, e) = subst⁻¹ (λ (r : List ℕ). T (has t r)) part-list (has-steps _ (suc (suc j)) c (suc i) t (omega arith) (goes i h ∙ e))

  part_c : T (has c (loop l c))
  part_c = subst⁻¹ (λ (r : List ℕ). T (has c r)) part-list (has-steps _ (suc (suc j)) c zero c (omega arith) refl)

  pub has_part : (t : ℕ) → T (has t (loop l c)) → (t ≡ c) ⊎ Part (at m.edges next) (at m.edges next w) j t
  unfolding f x In Part
  has_part t p = go (steps-has _ (suc (suc j)) c t (subst (λ (r : List ℕ). T (has t r)) part-list p))
    where
      go : (i : ℕ) × (i < suc (suc j)) × (iter (at l.edges next) i c ≡ t) → (t ≡ c) ⊎ ((i : ℕ) × (i ≤ j) × (iter (at m.edges next) i (at m.edges next w) ≡ t))
      go (zero, h, e) = inl (sym e)
      go (suc i, h, e) = inr (i, omega arith, sym (goes i (omega arith)) ∙ e)

  -- only c and old halfedges of that loop are painted
  pub has-old : (t : ℕ) → T (has t (loop l c)) → (t ≡ c) ⊎ H₁ t
  unfolding f x In
  has-old t p = go (has_part t p)
    where
      go : (t ≡ c) ⊎ In t → (t ≡ c) ⊎ H₁ t
      go (inl e) = inl e
      go (inr i) = inr (part-old t i).0

  after : List ℕ
  after = (paint g (loop l c) l).edges

  face-c : at after face c ≡ g
  unfolding after
  face-c = paint-on g (loop l c) l c part_c

  face-k : at after face (partner c) ≡ at m.edges face w
  unfolding after f x In
  face-k = paint-off g (loop l c) l (partner c) (λ p. go (has_part (partner c) p)) ∙ q.face-k
    where
      go : (partner c ≡ c) ⊎ In (partner c) → ⊥
      go (inl e) = partner-ne c e
      go (inr i) = old-k (partner c) (part-old (partner c) i).0 refl

  face-part : (t : ℕ) → In t → at after face t ≡ g
  unfolding after f x In
  face-part t p = paint-on g (loop l c) l t (part-has t p)

  face-old : (t : ℕ) → H₁ t → ¬ In t → at after face t ≡ at m.edges face t
  unfolding after f x In
  face-old t i o = paint-off g (loop l c) l t (λ p. go (has_part t p)) ∙ q.face-old t i
    where
      go : (t ≡ c) ⊎ In t → ⊥
      go (inl e) = old-c t i e
      go (inr p) = o p

  -- where the faces start
  abbrev Starts : List ℕ → ℕ → Type 0
  Starts st r = H₂ (get_or st r 0) × (at after face (get_or st r 0) ≡ r)

  starts-at : (st : List ℕ) (r t : ℕ) → get_or st r 0 ≡ t → H₂ t → at after face t ≡ r → Starts st r
  starts-at st r t e i z = (subst⁻¹ H₂ e i, ap (at after face) e ∙ z)

  -- any start that is a halfedge of the part, or c, will do for g; the others start where they did, outside the part
  pub starts-new : (st : List ℕ) → get_or st g 0 ≡ c → ((r : ℕ) → F₁ r → ((get_or st r 0 ≡ get_or m.faces r 0) × (¬ Part (at m.edges next) (at m.edges next w) j (get_or m.faces r 0))) ⊎ ((r ≡ at m.edges face w) × (get_or st r 0 ≡ partner c)))
      → (r : ℕ) → F₂ r → H₂ (get_or st r 0) × (at (paint g (loop l c) l).edges face (get_or st r 0) ≡ r)
  unfolding after f x In
  starts-new st new old r i = go (F₁₂.is r i)
    where
      kept : ((get_or st r 0 ≡ get_or m.faces r 0) × (¬ In (get_or m.faces r 0))) ⊎ ((r ≡ at m.edges face w) × (get_or st r 0 ≡ partner c)) → F₁ r → Starts st r
      kept (inl (e, o)) j = starts-at st r _ e (b.keep _ (a.core.start_in r j)) (face-old _ (a.core.start_in r j) o ∙ a.core.start_bears r j)
      kept (inr (e, z)) j = starts-at st r _ z b.o-in (face-k ∙ sym e)

      go : F₁ r ⊎ (r ≡ g) → Starts st r
      go (inl j) = kept (old r j) j
      go (inr e) = starts-at st r c (ap (λ (u : ℕ). get_or st u 0) e ∙ new) b.n-in (face-c ∙ sym e)

  -- with any links and starts that are right
  pub insert-with : (o st : List ℕ)
      → (at m.edges face w ≡ NONE → get_or o (at m.edges head w) 0 ≡ partner c)
      → ((u : ℕ) → (at m.edges face w ≡ NONE → u ≢ at m.edges head w) → get_or o u 0 ≡ get_or m.outs u 0)
      → ((r : ℕ) → F₂ r → H₂ (get_or st r 0) × (at (paint g (loop l c) l).edges face (get_or st r 0) ≡ r))
      → InsertEdge (mesh_on H₁ V₁ F₁ m) (mesh_on H₂ V₂ F₂ (with-lists o st (paint g (loop l c) l))) w y c g (Part (at m.edges next) (at m.edges next w) j)
  unfolding after f x In
  insert-with o st rim others begun = record {
    w-in = a.w-in;
    y_in = a.y_in;
    apart = a.apart;
    part = cut_out;
    c-new = b.n-new;
    k-new = b.o-new;
    g-new = F₁₂.fresh;
    keep-H = b.keep;
    c-in = b.n-in;
    k-in = b.o-in;
    H-is = b.is;
    keep-V = V₁₂.keep;
    V-is = V₁₂.is;
    keep-F = F₁₂.keep;
    g_in = F₁₂.new;
    F-is = F₁₂.is;
    face-c = face-c;
    face-k = face-k;
    face-part = face-part;
    face-old = face-old;
    head-c = paint-head g (loop l c) l c ∙ q.head-c;
    head-k = paint-head g (loop l c) l (partner c) ∙ q.head-k;
    head-old = λ t i. paint-head g (loop l c) l t ∙ q.head-old t i;
    next-c = paint-next g (loop l c) l c ∙ q.next-c;
    next-k = paint-next g (loop l c) l (partner c) ∙ q.next-k;
    next-y = paint-next g (loop l c) l y ∙ q.next-y;
    next-w = paint-next g (loop l c) l w ∙ q.next-w;
    next-old = λ t i p r. paint-next g (loop l c) l t ∙ q.next-old t i p r;
    prev-c = paint-prev g (loop l c) l c ∙ q.prev-c;
    prev-k = paint-prev g (loop l c) l (partner c) ∙ q.prev-k;
    prev-x = paint-prev g (loop l c) l _ ∙ q.prev-x;
    prev-z = paint-prev g (loop l c) l _ ∙ q.prev-z;
    prev-old = λ t i p r. paint-prev g (loop l c) l t ∙ q.prev-old t i p r;
    start_in = λ r i. (begun r i).0;
    start_bears = λ r i. (begun r i).1;
    out-rim = rim;
    out-old = λ u i p. others u p;
  }

-- ---- across a face
module _ {H₁ V₁ F₁ H₂ V₂ F₂ : ℕ → Type 0} (m : Links) (p n g j : ℕ) (a : Given H₁ V₁ F₁ m p (at m.edges prev n) j) (n-in : H₁ n) (one-face : at m.edges face p ≡ at m.edges face n)
    (b : NewEdge H₁ H₂ (2 * m.ne)) (V₁₂ : SameSet V₁ V₂) (F₁₂ : OneMore F₁ F₂ g) where
  pub edge-k : NewEdge H₁ H₂ (2 * m.ne + 1)
  edge-k = subst (λ (c : ℕ). NewEdge H₁ H₂ c) (partner-even m.ne) (edge-flip b)

  pub join-face : Joined H₁ m (joined p n m) p (at m.edges prev n) (2 * m.ne + 1)
  join-face = joined-face m p n a.shape a.core a.w-in n-in b a.apart one-face

  pub ne-grown : (joined p n m).ne ≡ m.ne + 1
  unfolding joined
  ne-grown = refl

  module _ (f_in : F₁ (at m.edges face p)) where
    f≢g : at m.edges face p ≢ g
    f≢g e = F₁₂.fresh (subst F₁ e f_in)

    -- the old face starts where it did, or at the new edge's first half if that went over to the new face
    pub face-start-g : get_or (across_face g p n m).faces g 0 ≡ 2 * m.ne + 1
    unfolding across_face
    face-start-g = get_or-put-other _ (at m.edges face p) g _ (λ e. f≢g (sym e)) ∙ get_or-put-same _ g _ 0

    pub face-start_in : Part (at m.edges next) (at m.edges next p) j (get_or m.faces (at m.edges face p) 0) → get_or (across_face g p n m).faces (at m.edges face p) 0 ≡ 2 * m.ne
    unfolding across_face
    face-start_in i =
        get_or-put-same _ (at m.edges face p) _ 0
        ∙ if-has (has (get_or m.faces (at m.edges face p) 0) (loop (joined p n m) (2 * m.ne + 1))) (2 * m.ne) _ (part-has m (joined p n m) p (at m.edges prev n) (2 * m.ne + 1) g j a join-face ne-grown edge-k V₁₂ F₁₂ _ i)

    pub face-start-out : ¬ Part (at m.edges next) (at m.edges next p) j (get_or m.faces (at m.edges face p) 0)
        → get_or (across_face g p n m).faces (at m.edges face p) 0 ≡ get_or m.faces (at m.edges face p) 0
    unfolding across_face
    face-start-out o =
        get_or-put-same _ (at m.edges face p) _ 0
        ∙ if-not (has (get_or m.faces (at m.edges face p) 0) (loop (joined p n m) (2 * m.ne + 1))) (2 * m.ne) _ (λ t. go (has_part m (joined p n m) p (at m.edges prev n) (2 * m.ne + 1) g j a join-face ne-grown edge-k V₁₂ F₁₂ _ t))
      where
        go : (get_or m.faces (at m.edges face p) 0 ≡ 2 * m.ne + 1) ⊎ Part (at m.edges next) (at m.edges next p) j (get_or m.faces (at m.edges face p) 0) → ⊥
        go (inl e) = b.o-new (subst H₁ (e ∙ sym (partner-even m.ne)) (a.core.start_in _ f_in))
        go (inr i) = o i

    pub face-start-old : (r : ℕ) → r ≢ g → r ≢ at m.edges face p → get_or (across_face g p n m).faces r 0 ≡ get_or m.faces r 0
    unfolding across_face joined
    face-start-old r u v =
        get_or-put-other _ (at m.edges face p) r _ v ∙ get_or-put-other _ g r _ u
        ∙ ap (λ (l : List ℕ). get_or l r 0) (paint-starts g (loop (joined p n m) (2 * m.ne + 1)) (joined p n m))

    pub across-face-on : at m.edges face p ≢ NONE
        → InsertEdge (mesh_on H₁ V₁ F₁ m) (mesh_on H₂ V₂ F₂ (across_face g p n m)) p (at m.edges prev n) (2 * m.ne + 1) g (Part (at m.edges next) (at m.edges next p) j)
    unfolding across_face joined
    across-face-on faced = insert-with m (joined p n m) p (at m.edges prev n) (2 * m.ne + 1) g j a join-face ne-grown edge-k V₁₂ F₁₂ (across_face g p n m).outs (across_face g p n m).faces
        (λ e. absurd (faced e))
        (λ u h. ap (λ (l : List ℕ). get_or l u 0) (paint-outs g (loop (joined p n m) (2 * m.ne + 1)) (joined p n m)))
        (starts-new m (joined p n m) p (at m.edges prev n) (2 * m.ne + 1) g j a join-face ne-grown edge-k V₁₂ F₁₂ (across_face g p n m).faces face-start-g old)
      where
        c : Cut (at m.edges next) (at m.edges next p) (at m.edges prev n) (Part (at m.edges next) (at m.edges next p) j)
        c = cut_at (at m.edges next) (at m.edges next p) (at m.edges prev n) j a.meets a.first

        at_f : Dec (Part (at m.edges next) (at m.edges next p) j (get_or m.faces (at m.edges face p) 0))
            → ((get_or (across_face g p n m).faces (at m.edges face p) 0 ≡ get_or m.faces (at m.edges face p) 0) × (¬ Part (at m.edges next) (at m.edges next p) j (get_or m.faces (at m.edges face p) 0)))
            ⊎ ((at m.edges face p ≡ at m.edges face p) × (get_or (across_face g p n m).faces (at m.edges face p) 0 ≡ partner (2 * m.ne + 1)))
        at_f (yes i) = inr (refl, face-start_in i ∙ sym (partner-odd m.ne))
        at_f (no o) = inl (face-start-out o, o)

        old : (r : ℕ) → F₁ r → ((get_or (across_face g p n m).faces r 0 ≡ get_or m.faces r 0) × (¬ Part (at m.edges next) (at m.edges next p) j (get_or m.faces r 0)))
            ⊎ ((r ≡ at m.edges face p) × (get_or (across_face g p n m).faces r 0 ≡ partner (2 * m.ne + 1)))
        old r i = split r (at m.edges face p)
            (λ e. subst⁻¹ (λ (r : ℕ). ((get_or (across_face g p n m).faces r 0 ≡ get_or m.faces r 0) × (¬ Part (at m.edges next) (at m.edges next p) j (get_or m.faces r 0)))
            ⊎ ((r ≡ at m.edges face p) × (get_or (across_face g p n m).faces r 0 ≡ partner (2 * m.ne + 1)))) e (at_f (c.dec _)))
            (λ v. inl (
              face-start-old r (λ e. F₁₂.fresh (subst F₁ e i)) v,
              λ q. v (sym (a.core.start_bears r i) ∙ (part-old m (joined p n m) p (at m.edges prev n) (2 * m.ne + 1) g j a join-face ne-grown edge-k V₁₂ F₁₂ _ q).1),
            ))

-- ---- across a hole
module _ {H₁ V₁ F₁ H₂ V₂ F₂ : ℕ → Type 0} (m : Links) (p n g j : ℕ) (a : Given H₁ V₁ F₁ m (at m.edges prev n) p j) (n-in : H₁ n) (one-face : at m.edges face p ≡ at m.edges face n)
    (b : NewEdge H₁ H₂ (2 * m.ne)) (V₁₂ : SameSet V₁ V₂) (F₁₂ : OneMore F₁ F₂ g) where
  pub join-hole : Joined H₁ m (joined p n m) (at m.edges prev n) p (2 * m.ne)
  join-hole = joined-hole m p n a.shape a.core a.y_in n-in b (λ e. a.apart (sym e)) one-face

  pub ne-more : (joined p n m).ne ≡ m.ne + 1
  unfolding joined
  ne-more = refl

  pub across-hole-on : at m.edges face p ≡ NONE
      → InsertEdge (mesh_on H₁ V₁ F₁ m) (mesh_on H₂ V₂ F₂ (across_hole g p n m)) (at m.edges prev n) p (2 * m.ne) g (Part (at m.edges next) (at m.edges next (at m.edges prev n)) j)
  unfolding across_hole joined
  across-hole-on rim = insert-with m (joined p n m) (at m.edges prev n) p (2 * m.ne) g j a join-hole ne-more b V₁₂ F₁₂ (across_hole g p n m).outs (across_hole g p n m).faces
      (λ e. ap (λ (u : ℕ). get_or (across_hole g p n m).outs u 0) (head-prev a.shape a.core n n-in) ∙ get_or-put-same _ (at m.edges head (partner n)) _ 0 ∙ sym (partner-even m.ne))
      (λ u h. get_or-put-other _ (at m.edges head (partner n)) u _ (λ e. h rim-w (e ∙ sym (head-prev a.shape a.core n n-in)))
      ∙ ap (λ (l : List ℕ). get_or l u 0) (paint-outs g (loop (joined p n m) (2 * m.ne)) (joined p n m)))
      (starts-new m (joined p n m) (at m.edges prev n) p (2 * m.ne) g j a join-hole ne-more b V₁₂ F₁₂ (across_hole g p n m).faces (get_or-put-same _ g _ 0) old)
    where
      rim-w : at m.edges face (at m.edges prev n) ≡ NONE
      rim-w = prev-face a.shape a.core n n-in ∙ sym one-face ∙ rim

      old : (r : ℕ) → F₁ r → ((get_or (across_hole g p n m).faces r 0 ≡ get_or m.faces r 0) × (¬ Part (at m.edges next) (at m.edges next (at m.edges prev n)) j (get_or m.faces r 0)))
          ⊎ ((r ≡ at m.edges face (at m.edges prev n)) × (get_or (across_hole g p n m).faces r 0 ≡ partner (2 * m.ne)))
      old r i = inl (
        get_or-put-other _ g r _ (λ e. F₁₂.fresh (subst F₁ e i)) ∙ ap (λ (l : List ℕ). get_or l r 0) (paint-starts g (loop (joined p n m) (2 * m.ne)) (joined p n m)),
        λ q. a.shape.F-none r i (sym (a.core.start_bears r i) ∙ (part-old m (joined p n m) (at m.edges prev n) p (2 * m.ne) g j a join-hole ne-more b V₁₂ F₁₂ _ q).1 ∙ rim-w),
      )
