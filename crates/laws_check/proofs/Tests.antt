-- The tests of `fault` tell the rules, each at its place, where the rules before it are in order; so `fault` says what `Judged` asks. Assumes nothing.
use mathlib.Core.Path.{◌≡◌, refl, sym, ap, ◌∙◌, subst⁻¹}
use mathlib.Core.Logic.{◌⊎◌, inl, inr, ◌≢◌, ⊎_elim}
use mathlib.Core.Bool.{Bool, true, false, not, ◌&&◌, ◌||◌}
use Rattle.std.specs.Prelude.{Option, None, Some}
use mathlib.Core.List.{List, []}
use Prim.Native.Nat.{ℕ, zero, suc, ◌*◌, ◌/◌, ◌<◌}
use native.Mathlib.Omega.{arith}
use native.Mathlib.Decide.{dec_lt}
use lib.Dec.{eqb}
use lib.ListN.{get_or}
use Rattle.scope.specs.declared.answers.Place.{Place}
use Rattle.scope.specs.declared.answers.Fault.{Fault}
use Rattle.scope.specs.Lists.{if, ◌or_else◌, round, has, first}
use Rattle.scope.specs.Links.{Links, Marks, NONE, partner, face, head, next, prev, out, start, tail, turn, loop, around, is_v, is_h, is_f}
use Rattle.scope.specs.Check.{broken, every, c1_vertex, c1_halfedge, c1_face, c2, c3, c4, c5, c6, c7, c8, c9, fault}
use Rattle.laws_mesh.specs.Reach.{Reach}
use Rattle.laws_mesh.specs.Rules.{C1Vertex, C1Halfedge, C1Face, C2, C3, C4, C5, C6, C7, C8, C9}
use Rattle.laws_mesh.specs.Of.{mesh_of}
use Rattle.laws_mesh.proofs.Cycle.{split, Perm, reach-ind, reach-in}
use Rattle.laws_mesh.proofs.Facts.{partner-partner, partner-half, partner-lt}
use Rattle.laws_check.specs.Tells.{Tells}
use Rattle.laws_check.specs.Judged.{Stage, broken_at, passed, AtH, Judged}
use Rattle.laws_check.proofs.Tells.{denied, tells-map, t-eq, t-lt, t-and, t-or, t_not, t-when, t-all}
use Rattle.laws_check.proofs.Rounds.{t-has-round, t-three-round, t-distinct-round}

-- ---- what is there, and the rules at one place

module _ (m : Links) (k : Marks) where
  pub t-is_v : (v : ℕ) → Tells (is_v m k v) ((mesh_of m k).is_v v)
  unfolding is_v
  t-is_v v = t-and (t-lt v m.nv) (t-eq (get_or k.vs v 0) 0)

  pub t-is_h : (h : ℕ) → Tells (is_h m k h) ((mesh_of m k).is_h h)
  unfolding is_h
  t-is_h h = t-and (t-lt h (2 * m.ne)) (t-eq (get_or k.es (h / 2) 0) 0)

  pub t-is_f : (f : ℕ) → Tells (is_f m k f) ((mesh_of m k).is_f f)
  unfolding is_f
  t-is_f f = t-and (t-lt f m.nf) (t-eq (get_or k.fs f 0) 0)

  pub t-every : {these ok : ℕ → Bool} {P Q : ℕ → Type 0} → ((h : ℕ) → Tells (these h) (P h)) → ((h : ℕ) → (mesh_of m k).is_h h → P h → Tells (ok h) (Q h))
      → Tells (every m k these ok) ((h : ℕ) → (mesh_of m k).is_h h → P h → Q h)
  unfolding every
  t-every t u = tells-map (t-all (2 * m.ne) (λ h _. t-when (t-and (t-is_h h) (t h)) (λ (i, p). u h i p)))
      (λ a h i p. a h i.0 (i, p))
      (λ a h _ (i, p). a h i p)

  pub t-c1_vertex : (v : ℕ) → Tells (c1_vertex m k v) (C1Vertex (mesh_of m k) v)
  unfolding c1_vertex
  t-c1_vertex v = tells-map (t-or (t-eq (out m v) NONE) (t-is_h (out m v))) (λ p. record { out_ok = p }) (λ r. r.out_ok)

  pub t-c1_halfedge : (h : ℕ) → Tells (c1_halfedge m k h) (C1Halfedge (mesh_of m k) h)
  unfolding c1_halfedge
  t-c1_halfedge h = tells-map
      (t-and (t-and (t-and (t-or (t-eq (face m h) NONE) (t-is_f (face m h))) (t-is_v (head m h))) (t-is_h (next m h))) (t-is_h (prev m h)))
      (λ (((f, v), n), p). record { face_ok = f; head_ok = v; next_ok = n; prev_ok = p })
      (λ r. (((r.face_ok, r.head_ok), r.next_ok), r.prev_ok))

  pub t-c1_face : (f : ℕ) → Tells (c1_face m k f) (C1Face (mesh_of m k) f)
  unfolding c1_face
  t-c1_face f = tells-map (t-is_h (start m f)) (λ p. record { start_ok = p }) (λ r. r.start_ok)

  pub t-c2 : (h : ℕ) → Tells (c2 m k h) (C2 (mesh_of m k) h)
  unfolding c2
  t-c2 h = tells-map (t-and (t-eq (next m (prev m h)) h) (t-eq (prev m (next m h)) h)) (λ p. record { next_prev = p.0; prev_next = p.1 }) (λ r. (r.next_prev, r.prev_next))

  pub t-c3 : (h : ℕ) → Tells (c3 m k h) (C3 (mesh_of m k) h)
  unfolding c3
  t-c3 h = tells-map (t-and (t-eq (tail m (next m h)) (head m h)) (t-eq (face m (next m h)) (face m h))) (λ p. record { from_head = p.0; same_face = p.1 }) (λ r. (r.from_head, r.same_face))

  pub t-c5 : (h : ℕ) → Tells (c5 m k h) (C5 (mesh_of m k) h)
  unfolding c5
  t-c5 h = tells-map (t_not (t-and (t-eq (face m h) NONE) (t-eq (face m (partner h)) NONE)))
      (λ n. record { faced = split (face m h) NONE (λ p. inr (λ q. n (p, q))) (λ p. inl p) })
      (λ r (p, q). ⊎_elim (λ n. n p) (λ n. n q) r.faced)

  pub t-c6 : (h : ℕ) → Tells (c6 m k h) (C6 (mesh_of m k) h)
  unfolding c6
  t-c6 h = tells-map (t_not (t-eq (next m h) (partner h))) (λ p. record { no_spike = p }) (λ r. r.no_spike)

  pub t-c9 : (v : ℕ) → Tells (c9 m k v) (C9 (mesh_of m k) v)
  unfolding c9
  t-c9 v = tells-map (t-every (λ h. t-and (t-eq (tail m h) v) (t-eq (face m h) NONE)) (λ h _ _. t-eq (out m v) h))
      (λ a. record { names = λ h i p q. a h i (p, q) })
      (λ r h i (p, q). r.names h i p q)

  -- ---- the rules that need a walk: C1, C2 and C3 are in order at all halfedges

  module _ (o1 : (h : ℕ) → h < 2 * m.ne → AtH C1Halfedge m k h) (o2 : (h : ℕ) → h < 2 * m.ne → AtH C2 m k h) where
    pub half-partner : (h : ℕ) → (mesh_of m k).is_h h → (mesh_of m k).is_h (partner h)
    half-partner h (l, q) = (partner-lt h m.ne l, ap (λ (j : ℕ). get_or k.es j 0) (partner-half h) ∙ q)

    pub next-perm : Perm (mesh_of m k).is_h (2 * m.ne) (next m) (prev m)
    next-perm = record {
      below = λ x i. i.0;
      fore = λ x i. (o1 x i.0 i).next_ok;
      back = λ x i. (o1 x i.0 i).prev_ok;
      gf = λ x i. (o2 x i.0 i).prev_next;
      fg = λ x i. (o2 x i.0 i).next_prev;
    }

    pub turn-perm : Perm (mesh_of m k).is_h (2 * m.ne) (turn m) (λ h. next m (partner h))
    turn-perm = record {
      below = λ x i. i.0;
      fore = λ x i. half-partner (prev m x) (o1 x i.0 i).prev_ok;
      back = λ x i. let j = half-partner x i in (o1 (partner x) j.0 j).next_ok;
      gf = λ x i. cc (partner-partner (prev m x), (o2 x i.0 i).next_prev);
      fg = λ x i. let j = half-partner x i in cc ((o2 (partner x) j.0 j).prev_next, partner-partner x);
    }

    pub t-c4 : (f : ℕ) → C1Face (mesh_of m k) f → Tells (c4 m k f) (C4 (mesh_of m k) f)
    unfolding c4 loop
    t-c4 f s = tells-map (t-and (t-eq (face m (start m f)) f) (t-every (λ h. t-eq (face m h) f) (λ h _ _. t-has-round next-perm s.start_ok h)))
        (λ (p, q). record { bears = p; holds = q })
        (λ r. (r.bears, r.holds))

    pub t-c8 : (v : ℕ) → C1Vertex (mesh_of m k) v → Tells (c8 m k v) (C8 (mesh_of m k) v)
    unfolding c8 around has
    t-c8 v s = go (eqb (out m v) NONE) (t-eq (out m v) NONE)
      where
        hs : List ℕ
        hs = round (out m v) (turn m) (2 * m.ne) (out m v)

        leaving : (l : List ℕ) {Q : ℕ → Type 0} → ((h : ℕ) → Tells (has h l) (Q h)) → Tells (every m k (λ h. eqb (tail m h) v) (λ h. has h l)) ((h : ℕ) → (mesh_of m k).is_h h → tail m h ≡ v → Q h)
        leaving l t = t-every (λ h. t-eq (tail m h) v) (λ h _ _. t h)

        there : out m v ≢ NONE → (out m v ≡ NONE) ⊎ (mesh_of m k).is_h (out m v) → (mesh_of m k).is_h (out m v)
        there n (inl e) = absurd (n e)
        there n (inr i) = i

        go : (b : Bool) → Tells b (out m v ≡ NONE)
            → Tells ((b || eqb (tail m (out m v)) v) && every m k (λ h. eqb (tail m h) v) (λ h. has h (if b [] hs))) (C8 (mesh_of m k) v)
        go true t = tells-map (leaving [] (λ h. denied (λ (x : ⊥). x)))
            (λ a. record { leaves = λ n. absurd (n (t.so refl)); meets = λ n. absurd (n (t.so refl)); none_if = λ _. a })
            (λ r. r.none_if (t.so refl))
        go false t = tells-map (t-and (t-eq (tail m (out m v)) v) (leaving hs (t-has-round turn-perm (there (t.not_so refl) s.out_ok))))
            (λ (p, q). record { leaves = λ _. p; meets = λ _. q; none_if = λ e. absurd (t.not_so refl e) })
            (λ r. (r.leaves (t.not_so refl), r.meets (t.not_so refl)))

    module _ (o3 : (h : ℕ) → h < 2 * m.ne → AtH C3 m k h) where
      -- what a loop holds bears one face
      pub loop-face : {a b : ℕ} → (mesh_of m k).is_h a → Reach (next m) a b → face m b ≡ face m a
      loop-face {a} i r = (reach-ind (λ (x : ℕ). (mesh_of m k).is_h x × (face m x ≡ face m a)) (λ x (j, q). ((o1 x j.0 j).next_ok, (o3 x j.0 j).same_face ∙ q)) (i, refl) r).1

      pub t-c7 : (f : ℕ) → C1Face (mesh_of m k) f → C4 (mesh_of m k) f → Tells (c7 m k f) (C7 (mesh_of m k) f)
      unfolding c7 loop
      t-c7 f s c = tells-map (t-and (t-three-round next-perm s.start_ok) (t-distinct-round next-perm s.start_ok (head m)))
          (λ (p, q). record { three = p; differ = λ a b i j x y e. q a b (c.holds a i x) (c.holds b j y) e })
          (λ r. (
            r.three,
            λ x y u w e. r.differ x y (reach-in next-perm s.start_ok u) (reach-in next-perm s.start_ok w) (loop-face s.start_ok u ∙ c.bears) (loop-face s.start_ok w ∙ c.bears) e,
          ))

-- ---- the search for the first place

-- what a search below n finds
pub data Sought (Ok : ℕ → Type 0) (n : ℕ) : Option ℕ → Type 0 where
  nowhere : ((i : ℕ) → i < n → Ok i) → Sought Ok n None
  there-at : (i : ℕ) → i < n → ((j : ℕ) → j < i → Ok j) → (Ok i → ⊥) → Sought Ok n (Some i)

pub first-sought : (n : ℕ) {there ok : ℕ → Bool} {P Q : ℕ → Type 0} → ((i : ℕ) → Tells (there i) (P i)) → ((i : ℕ) → P i → Tells (ok i) (Q i)) → Sought (λ i. P i → Q i) n (first n there ok)
unfolding first
first-sought zero t u = nowhere (λ i l. absurd (omega arith))
first-sought (suc n) {there} {ok} {P} {Q} t u = go (first-sought n t u)
  where
    last : ((i : ℕ) → i < n → P i → Q i) → (b : Bool) → Tells b (P n) → (c : Bool) → (P n → Tells c (Q n)) → Sought (λ i. P i → Q i) (suc n) (if (b && not c) (Some n) None)
    last a true x true y = nowhere (λ i l. split i n (λ e. subst⁻¹ (λ (j : ℕ). P j → Q j) e (λ p. (y p).so refl)) (λ ne. a i (omega arith)))
    last a true x false y = there-at n (omega arith) a (λ f. (y (x.so refl)).not_so refl (f (x.so refl)))
    last a false x c y = nowhere (λ i l. split i n (λ e. subst⁻¹ (λ (j : ℕ). P j → Q j) e (λ p. absurd (x.not_so refl p))) (λ ne. a i (omega arith)))

    go : {o : Option ℕ} → Sought (λ i. P i → Q i) n o → Sought (λ i. P i → Q i) (suc n) (o or_else if (there n && not (ok n)) (Some n) None)
    go (nowhere a) = last a (there n) (t n) (ok n) (u n)
    go (there-at i l a x) = there-at i (omega arith) a x

module _ {rule : ℕ} {place : ℕ → Place} {size : ℕ} {Rest : Option Fault → Type 0} {there ok : ℕ → Bool} {P Q : ℕ → Type 0} (t : (i : ℕ) → Tells (there i) (P i)) (u : (i : ℕ) → P i → Tells (ok i) (Q i)) where
  pub stage_is : (rest : Option Fault) → (((i : ℕ) → i < size → P i → Q i) → Rest rest) → Stage rule place size (λ i. P i → Q i) Rest (broken rule place (first size there ok) or_else rest)
  stage_is rest r = go (first-sought size t u)
    where
      go : {o : Option ℕ} → Sought (λ i. P i → Q i) size o → Stage rule place size (λ i. P i → Q i) Rest (broken rule place o or_else rest)
      go (nowhere a) = passed a (r a)
      go (there-at i l a x) = broken_at i l a x refl

  pub last-is : Rest None → Stage rule place size (λ i. P i → Q i) Rest (broken rule place (first size there ok))
  last-is r = go (first-sought size t u)
    where
      go : {o : Option ℕ} → Sought (λ i. P i → Q i) size o → Stage rule place size (λ i. P i → Q i) Rest (broken rule place o)
      go (nowhere a) = passed a r
      go (there-at i l a x) = broken_at i l a x refl

-- `fault` is what the rules ask for
pub fault-judged : (m : Links) (k : Marks) → Judged m k (fault m k)
unfolding fault
fault-judged m k =
    stage_is (t-is_v m k) (λ v _. t-c1_vertex m k v) _ (λ o1v.
    stage_is (t-is_h m k) (λ h _. t-c1_halfedge m k h) _ (λ o1h.
    stage_is (t-is_f m k) (λ f _. t-c1_face m k f) _ (λ o1f.
    stage_is (t-is_h m k) (λ h _. t-c2 m k h) _ (λ o2.
    stage_is (t-is_h m k) (λ h _. t-c3 m k h) _ (λ o3.
    stage_is (t-is_f m k) (λ f i. t-c4 m k o1h o2 f (o1f f i.0 i)) _ (λ o4.
    stage_is (t-is_h m k) (λ h _. t-c5 m k h) _ (λ o5.
    stage_is (t-is_h m k) (λ h _. t-c6 m k h) _ (λ o6.
    stage_is (t-is_f m k) (λ f i. t-c7 m k o1h o2 o3 f (o1f f i.0 i) (o4 f i.0 i)) _ (λ o7.
    stage_is (t-is_v m k) (λ v i. t-c8 m k o1h o2 v (o1v v i.0 i)) _ (λ o8.
    last-is (t-is_v m k) (λ v _. t-c9 m k v) refl))))))))))

-- and there is only one such answer
one_place : {Ok : ℕ → Type 0} {i j : ℕ} → ((l : ℕ) → l < i → Ok l) → (Ok i → ⊥) → ((l : ℕ) → l < j → Ok l) → (Ok j → ⊥) → i ≡ j
one_place {Ok} {i} {j} a x b y = go (dec_lt i j) (dec_lt j i)
  where
    go : Dec (i < j) → Dec (j < i) → i ≡ j
    go (yes l) d = absurd (x (b i l))
    go (no l) (yes d) = absurd (y (a j d))
    go (no l) (no d) = omega arith

pub stage-one : {rule : ℕ} {place : ℕ → Place} {size : ℕ} {Ok : ℕ → Type 0} {Rest : Option Fault → Type 0} → ((a b : Option Fault) → Rest a → Rest b → a ≡ b)
    → (a b : Option Fault) → Stage rule place size Ok Rest a → Stage rule place size Ok Rest b → a ≡ b
stage-one {rule} {place} one a b (broken_at i l f x e) (broken_at j h g y d) = e ∙ ap (λ (q : ℕ). Some (record { rule = rule; place = place q })) (one_place f x g y) ∙ sym d
stage-one one a b (broken_at i l f x e) (passed g y) = absurd (x (g i l))
stage-one one a b (passed f x) (broken_at j h g y d) = absurd (y (f j h))
stage-one one a b (passed f x) (passed g y) = one a b x y

pub judged-fault : (m : Links) (k : Marks) {a : Option Fault} → Judged m k a → a ≡ fault m k
judged-fault m k {a} x =
    stage-one (stage-one (stage-one (stage-one (stage-one (stage-one (stage-one (stage-one (stage-one (stage-one (stage-one (λ a b x y. x ∙ sym y))))))))))) a (fault m k) x (fault-judged m k)
