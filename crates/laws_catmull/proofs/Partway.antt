-- A Catmull-Clark pass, face by face: good after each. Assumes nothing.
use mathlib.Core.Path.{◌≡◌, refl, ◌∙◌, subst, subst⁻¹}
use mathlib.Core.Logic.{◌⊎◌, inl, inr, ◌≢◌}
use Prim.Native.Nat.{ℕ, zero, suc, ◌+◌, ◌-◌, ◌*◌, ◌≤◌, ◌<◌}
use native.Mathlib.Omega.{arith}
use lib.ListN.{length}
use Rattle.scope.specs.Lists.{each, sum}
use Rattle.scope.specs.Links.{Links, next, start, loop}
use Rattle.scope.specs.Passes.{split_edges, catmull_face, catmull_pass}
use Rattle.scope.specs.Tally.{tally_of, catmull_tally}
use Rattle.laws_mesh.specs.Of.{Good}
use Rattle.laws_mesh.specs.Sides.{Within}
use Rattle.laws_mesh.proofs.Cycle.{split}
use Rattle.laws_mesh.proofs.Count.{Length}
use Rattle.laws_mesh.proofs.Loops.{loop-cycle, face-three}
use Rattle.laws_mesh.proofs.Ring.{under}
use Rattle.laws_mesh.proofs.SplitEdges.{halved, halved-lengths}
use Rattle.laws_catmull.proofs.Face.{catmull-face-counts, catmull-face-good, catmull-face-old, catmull-face-new}

-- the first k of n numbers that are not 0, with one for each of the others, are no more than all
sum-rest : (n k : ℕ) (a : ℕ → ℕ) → k ≤ n → ((i : ℕ) → i < n → 1 ≤ a i) → sum k a + (n - k) ≤ sum n a
unfolding sum
sum-rest zero k a l h = let e : k ≡ 0 = omega arith in subst⁻¹ (λ (k : ℕ). sum k a + (0 - k) ≤ sum 0 a) e (let q : sum 0 a + (0 - 0) ≤ sum 0 a = omega arith in q)
sum-rest (suc n) k a l h = split k (suc n)
    (λ e. subst⁻¹ (λ (k : ℕ). sum k a + (suc n - k) ≤ sum (suc n) a) e (let q : sum (suc n) a + (suc n - suc n) ≤ sum (suc n) a = omega arith in q))
    (λ e. more (sum-rest n k a (omega arith) (λ i u. h i (omega arith))))
  where
    more : sum k a + (n - k) ≤ sum n a → sum k a + (suc n - k) ≤ sum (suc n) a
    more r = let b = h n (omega arith) in omega arith

module _ (m : Links) (g : Good m) (w : Within (catmull_tally (tally_of m))) where
  -- the length of face f before the pass
  unfoldable pub L : ℕ → ℕ
  L f = length (loop m (start m f))

  unfoldable pub S : ℕ
  S = sum m.nf L

  few_v : m.nv + m.ne + m.nf ≤ 1048576
  unfolding catmull_tally tally_of
  few_v = w.v_within

  few_e : 2 * m.ne + S ≤ 1048576
  unfolding catmull_tally tally_of S L
  few_e = w.e_within

  few_f : S ≤ 1048576
  unfolding catmull_tally tally_of S L
  few_f = w.f_within

  long : (f : ℕ) → f < m.nf → 3 ≤ L f
  unfolding L
  long f i = face-three m g f i

  rest : (k : ℕ) → k ≤ m.nf → sum k L + (m.nf - k) ≤ S
  unfolding S
  rest k l = sum-rest m.nf k L l (λ i u. let a = long i u in omega arith)

  -- after k faces
  pub record Partway (t : Links) (k : ℕ) : Type 0 where
    pub good : Good t
    pub nv_is : t.nv ≡ m.nv + m.ne + k
    pub ne_is : t.ne ≡ 2 * m.ne + sum k L
    pub nf_is : t.nf + k ≡ m.nf + sum k L
    pub nf-least : m.nf ≤ t.nf
    -- the faces to come are as the edge splits left them, and all others are of four
    pub todo : (h : ℕ) → k ≤ h → h < m.nf → length (loop t (start t h)) ≡ 2 * L h
    pub done : (h : ℕ) → h < t.nf → (h < k) ⊎ (m.nf ≤ h) → length (loop t (start t h)) ≡ 4

  at_first : Partway (split_edges m) 0
  unfolding sum L
  at_first = let h = halved m g (let a = few_v in omega arith) (let a = few_e in omega arith) in record {
    good = h.good;
    nv_is = (let a = h.nv_is in omega arith);
    ne_is = (let a = h.ne_is in omega arith);
    nf_is = (let a = h.nf_is in omega arith);
    nf-least = (let a = h.nf_is in omega arith);
    todo = λ f a b. halved-lengths m g (let a = few_v in omega arith) (let a = few_e in omega arith) f b;
    done = λ f a b. none_yet f h.nf_is a b;
  }
    where
      none_yet : (f : ℕ) → (split_edges m).nf ≡ m.nf → f < (split_edges m).nf → (f < 0) ⊎ (m.nf ≤ f) → length (loop (split_edges m) (start (split_edges m) f)) ≡ 4
      none_yet f e a (inl b) = absurd (omega arith)
      none_yet f e a (inr b) = absurd (omega arith)

  module _ (t : Links) (k : ℕ) (p : Partway t k) (l : k < m.nf) where
    pub len : Length (next t) (start t k) (2 * L k)
    len = subst (Length (next t) (start t k)) (p.todo k (omega arith) l) (loop-cycle t p.good (start t k) (p.good.consistent.core.start_in k (let a = p.nf-least in omega arith)))

    sum-on : sum (suc k) L ≡ sum k L + L k
    unfolding sum
    sum-on = refl

    pub k-in : k < t.nf
    k-in = let a = p.nf-least in omega arith

    -- no count is over that of the whole pass
    pub most-v : t.nv + 1 ≤ (catmull_tally (tally_of m)).v
    unfolding catmull_tally tally_of
    most-v = let a = p.nv_is in omega arith

    pub most-e : t.ne + L k ≤ (catmull_tally (tally_of m)).e
    unfolding catmull_tally tally_of S L
    most-e = let a = p.ne_is in let c = rest (suc k) l in let d = sum-on in omega arith

    pub most-f : t.nf + (L k - 1) ≤ (catmull_tally (tally_of m)).f
    unfolding catmull_tally tally_of S L
    most-f = let a = p.nf_is in let c = rest (suc k) l in let d = sum-on in let e = long k l in omega arith

    pub room-v : t.nv + 1 ≤ 1048576
    room-v = let a = most-v in let b = w.v_within in omega arith

    pub room_e : t.ne + L k ≤ 1048576
    room_e = let a = most-e in let b = w.e_within in omega arith

    pub room_f : t.nf + (L k - 1) ≤ 1048576
    room_f = let a = most-f in let b = w.f_within in omega arith

    one_more : Partway (catmull_face m.nv k t) (suc k)
    one_more =
        let (a, b, c) = catmull-face-counts t m.nv k (L k) p.good k-in len room-v room_e room_f in
        let d = sum-on in
        let e = long k l in
        record {
          good = catmull-face-good t m.nv k (L k) p.good k-in len room-v room_e room_f;
          nv_is = (let q = p.nv_is in omega arith);
          ne_is = (let q = p.ne_is in omega arith);
          nf_is = (let q = p.nf_is in omega arith);
          nf-least = (let q = p.nf-least in omega arith);
          todo = λ h u v. catmull-face-old t m.nv k (L k) p.good k-in len room-v room_e room_f h (let q = p.nf-least in omega arith) (omega arith) ∙ p.todo h (omega arith) v;
          done = λ h u v. split h k
              (λ q. catmull-face-new t m.nv k (L k) p.good k-in len room-v room_e room_f h u (inl q))
              (λ q. under h t.nf
              (λ y. catmull-face-old t m.nv k (L k) p.good k-in len room-v room_e room_f h y q ∙ p.done h y (was h q v))
              (λ y. catmull-face-new t m.nv k (L k) p.good k-in len room-v room_e room_f h u (inr y)));
        }
      where
        was : (h : ℕ) → h ≢ k → (h < suc k) ⊎ (m.nf ≤ h) → (h < k) ⊎ (m.nf ≤ h)
        was h q (inl v) = inl (omega arith)
        was h q (inr v) = inr v

  pub partway : (k : ℕ) → k ≤ m.nf → Partway (each k (catmull_face m.nv) (split_edges m)) k
  unfolding each
  partway zero l = at_first
  partway (suc k) l = one_more (each k (catmull_face m.nv) (split_edges m)) k (partway k (omega arith)) l

  pub at_last : Partway (catmull_pass m) m.nf
  unfolding catmull_pass
  at_last = partway m.nf (omega arith)
