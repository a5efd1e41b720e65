-- Every edge split, in index order, each by a new vertex: the first half of a Catmull-Clark or Loop pass. The mesh stays good and each face gets twice as long. Assumes nothing.
use mathlib.Core.Path.{◌≡◌, refl, sym, ap, ◌∙◌}
use mathlib.Core.Bool.{Bool}
use Prim.Native.Nat.{ℕ, zero, suc, ◌+◌, ◌*◌, ◌≤◌, ◌<◌}
use native.Mathlib.Omega.{arith}
use lib.Dec.{eqb}
use lib.ListN.{length}
use Rattle.scope.specs.Lists.{each, number_of}
use Rattle.scope.specs.Links.{Links, face, start, loop}
use Rattle.scope.specs.Edits.{split_edge}
use Rattle.scope.specs.Passes.{split_edges}
use Rattle.laws_mesh.specs.Count.{bit, count}
use Rattle.laws_mesh.specs.Of.{mesh, Good}
use Rattle.laws_mesh.proofs.Cycle.{split}
use Rattle.laws_mesh.proofs.Facts.{partner-even}
use Rattle.laws_mesh.proofs.Count.{count-cong}
use Rattle.laws_mesh.proofs.SplitEdge.{SplitEdge}
use Rattle.laws_mesh.proofs.SplitLaws.{with-vertex, split-new, split-new-is, split-new-good}
use Rattle.laws_mesh.proofs.Corners.{bearing}

-- m before, and t after e splits
pub record Halfway (m t : Links) (e : ℕ) : Type 0 where
  pub good : Good t
  pub nv_is : t.nv ≡ m.nv + e
  pub ne_is : t.ne ≡ m.ne + e
  pub nf_is : t.nf ≡ m.nf
  pub same-faces : t.faces ≡ m.faces
  -- halfedge y of a split edge is followed or preceded by y + 2 E, in the same face
  pub face-old : (y : ℕ) → y < 2 * m.ne → face t y ≡ face m y
  pub face-new : (y : ℕ) → y < 2 * e → face t (y + 2 * m.ne) ≡ face m y

module _ (m t : Links) (e : ℕ) (w : Halfway m t e) (l : e < m.ne) (few_v : m.nv + m.ne ≤ 1048576) (few_e : 2 * m.ne ≤ 1048576) where
  h-in : 2 * e < 2 * t.ne
  h-in = let a = w.ne_is in omega arith

  room-v : t.nv + 1 ≤ 1048576
  room-v = let a = w.nv_is in omega arith

  room_e : t.ne + 1 ≤ 1048576
  room_e = let a = w.ne_is in omega arith

  t' : Links
  t' = split-new (2 * e) t

  r : SplitEdge (mesh (with-vertex t)) (mesh t') (2 * e) t.nv (2 * t.ne)
  unfolding t'
  r = split-new-is t (2 * e) w.good h-in room-v room_e

  face-kept : (y : ℕ) → y < 2 * t.ne → face t' y ≡ face t y
  unfolding with-vertex
  face-kept y i = r.face-old y (omega arith)

  face-first : face t' (2 * t.ne) ≡ face t (2 * e)
  unfolding with-vertex
  face-first = r.face-n

  face-second : face t' (2 * t.ne + 1) ≡ face t (2 * e + 1)
  unfolding with-vertex
  face-second = ap (face t') (sym (partner-even t.ne)) ∙ r.face-o ∙ ap (face t) (partner-even e)

  face-new' : (y : ℕ) → y < 2 * suc e → face t' (y + 2 * m.ne) ≡ face m y
  face-new' y h = let n = w.ne_is in split y (2 * e)
      (λ q. ap (face t') (let z : y + 2 * m.ne ≡ 2 * t.ne = omega arith in z) ∙ face-first ∙ w.face-old (2 * e) (omega arith) ∙ ap (face m) (sym q))
      (λ n₁. split y (2 * e + 1)
      (λ q. ap (face t') (let z : y + 2 * m.ne ≡ 2 * t.ne + 1 = omega arith in z) ∙ face-second ∙ w.face-old (2 * e + 1) (omega arith) ∙ ap (face m) (sym q))
      (λ n₂. face-kept (y + 2 * m.ne) (omega arith) ∙ w.face-new y (omega arith)))

  one_more : Halfway m (split-new (2 * e) t) (suc e)
  unfolding t' split-new split_edge
  one_more = record {
    good = split-new-good t (2 * e) w.good h-in room-v room_e;
    nv_is = (let a = w.nv_is in omega arith);
    ne_is = (let a = w.ne_is in omega arith);
    nf_is = (let a = w.nf_is in omega arith);
    same-faces = w.same-faces;
    face-old = λ y i. face-kept y (let a = w.ne_is in omega arith) ∙ w.face-old y i;
    face-new = face-new';
  }

-- below a, and from a on
count_add : (p : ℕ → Bool) (a b : ℕ) → count p (a + b) ≡ count p a + count (λ i. p (i + a)) b
unfolding number_of
count_add p a zero = let e : a + zero ≡ a = omega arith in ap (count p) e ∙ (let q : count p a ≡ count p a + 0 = omega arith in q)
count_add p a (suc b) =
    let e : a + suc b ≡ suc (a + b) = omega arith in
    let r = count_add p a b in
    let q : bit (p (a + b)) ≡ bit (p (b + a)) = ap (λ (x : ℕ). bit (p x)) (let w : a + b ≡ b + a = omega arith in w) in
    ap (count p) e ∙ (let u : count p (a + b) + bit (p (a + b)) ≡ count p a + (count (λ i. p (i + a)) b + bit (p (b + a))) = omega arith in u)

module _ (m : Links) (g : Good m) (few_v : m.nv + m.ne ≤ 1048576) (few_e : 2 * m.ne ≤ 1048576) where
  -- after e splits
  pub halfway : (e : ℕ) → e ≤ m.ne → Halfway m (each e (λ e l. split-new (2 * e) l) m) e
  unfolding each
  halfway zero l = record {
    good = g;
    nv_is = (let q : m.nv ≡ m.nv + 0 = omega arith in q);
    ne_is = (let q : m.ne ≡ m.ne + 0 = omega arith in q);
    nf_is = refl;
    same-faces = refl;
    face-old = λ y i. refl;
    face-new = λ y i. absurd (omega arith);
  }
  halfway (suc e) l = one_more m (each e (λ e l. split-new (2 * e) l) m) e (halfway e (omega arith)) l few_v few_e

  -- the whole
  pub halved : Halfway m (split_edges m) m.ne
  unfolding split_edges split-new
  halved = halfway m.ne (omega arith)

  -- each face is twice as long
  pub halved-lengths : (f : ℕ) → f < m.nf → length (loop (split_edges m) (start (split_edges m) f)) ≡ 2 * length (loop m (start m f))
  halved-lengths f l =
      let t = split_edges m in
      let w = halved in
      let p : ℕ → Bool = λ y. eqb (face t y) f in
      let q : ℕ → Bool = λ y. eqb (face m y) f in
      let n : 2 * t.ne ≡ 2 * m.ne + 2 * m.ne = (let a = w.ne_is in omega arith) in
      let a = bearing t w.good f (let z = w.nf_is in omega arith) in
      let b = bearing m g f l in
      let c = ap (count p) n in
      let d = count_add p (2 * m.ne) (2 * m.ne) in
      let u = count-cong p q (2 * m.ne) (λ y i. ap (λ (z : ℕ). bit (eqb z f)) (w.face-old y i)) in
      let v = count-cong (λ y. p (y + 2 * m.ne)) q (2 * m.ne) (λ y i. ap (λ (z : ℕ). bit (eqb z f)) (w.face-new y i)) in
      omega arith
