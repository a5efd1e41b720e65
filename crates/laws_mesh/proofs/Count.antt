-- Counting: a run without repeats through all that pass a test is as long as their number; a loop is as long as its face's halfedges are many. Assumes nothing.
use mathlib.Core.Path.{◌≡◌, refl, sym, ap, ap₂, ◌∙◌, subst, subst⁻¹}
use mathlib.Core.Logic.{◌⊎◌, inl, inr, ◌≢◌}
use mathlib.Core.Bool.{Bool, true, false}
use Prim.Native.Nat.{ℕ, zero, suc, ◌+◌, ◌-◌, ◌≤◌, ◌<◌, zero-le}
use native.Mathlib.Nat.{not-suc-le-zero}
use native.Mathlib.Decide.{ℕ_discrete}
use native.Mathlib.Omega.{arith}
use lib.Dec.{T, eqb, eqb→eq, eqb_refl}
use Rattle.scope.specs.Lists.{number_of}
use Rattle.laws_mesh.specs.Count.{bit, count}
use Rattle.laws_mesh.specs.Reach.{Reach, iter}
use Rattle.laws_mesh.proofs.Cycle.{split, first, First, Perm, period, iter-in, cancel, reach-within, iter-reach}

pub bit-T : (b : Bool) → T b → bit b ≡ 1
bit-T true t = refl
bit-T false t = absurd t

pub bit_not : (b : Bool) → ¬ T b → bit b ≡ 0
bit_not true t = absurd (t tt)
bit_not false t = refl

-- tests that agree below n count alike
pub count-cong : (p q : ℕ → Bool) (n : ℕ) → ((x : ℕ) → x < n → bit (p x) ≡ bit (q x)) → count p n ≡ count q n
unfolding number_of
count-cong p q zero h = refl
count-cong p q (suc n) h = ap₂ ◌+◌ (count-cong p q n (λ x l. h x (omega arith))) (h n (omega arith))

-- none passes
pub count_none : (p : ℕ → Bool) (n : ℕ) → ((x : ℕ) → x < n → ¬ T (p x)) → count p n ≡ 0
unfolding number_of
count_none p zero h = refl
count_none p (suc n) h =
    let a = count_none p n (λ x l. h x (omega arith)) in
    let b = bit_not (p n) (h n (omega arith)) in
    omega arith

-- one more passes, at z
pub count-one : (p q : ℕ → Bool) (z n : ℕ) → z < n → bit (p z) ≡ 1 → bit (q z) ≡ 0 → ((x : ℕ) → x < n → x ≢ z → bit (p x) ≡ bit (q x)) → count p n ≡ count q n + 1
unfolding number_of
count-one p q z zero l a b h = absurd (not-suc-le-zero l)
count-one p q z (suc n) l a b h = split z n
    (λ e.
    let r = count-cong p q n (λ x k. h x (omega arith) (omega arith)) in
    let a' : bit (p n) ≡ 1 = subst (λ (x : ℕ). bit (p x) ≡ 1) e a in
    let b' : bit (q n) ≡ 0 = subst (λ (x : ℕ). bit (q x) ≡ 0) e b in
    omega arith)
    (λ ne.
    let r = count-one p q z n (omega arith) a b (λ x k. h x (omega arith)) in
    let w = h n (omega arith) (λ e. ne (sym e)) in
    omega arith)

-- the test, but for z
abbrev drop-if : Bool → Bool → Bool
drop-if true b = false
drop-if false b = b

pub without : (ℕ → Bool) → ℕ → ℕ → Bool
without p z x = drop-if (eqb x z) (p x)

pub without-z : (p : ℕ → Bool) (z : ℕ) → ¬ T (without p z z)
unfolding without
without-z p z t = go (eqb z z) (eqb_refl z) t
  where
    go : (b : Bool) → T b → ¬ T (drop-if b (p z))
    go true e t = t
    go false e t = e

pub without_other : (p : ℕ → Bool) (z x : ℕ) → x ≢ z → without p z x ≡ p x
unfolding without
without_other p z x ne = go (eqb x z) (eqb→eq x z)
  where
    go : (b : Bool) → (T b → x ≡ z) → drop-if b (p x) ≡ p x
    go true e = absurd (ne (e tt))
    go false e = refl

-- k numbers, all different, are those below n that pass
pub record Lists (p : ℕ → Bool) (n k : ℕ) (s : ℕ → ℕ) : Type 0 where
  pub in_range : (i : ℕ) → i < k → s i < n
  pub passes : (i : ℕ) → i < k → T (p (s i))
  pub differ : (i j : ℕ) → i < j → j < k → s i ≢ s j
  pub all : (x : ℕ) → x < n → T (p x) → (i : ℕ) × (i < k) × (s i ≡ x)

pub count-lists : (k : ℕ) (p : ℕ → Bool) (n : ℕ) (s : ℕ → ℕ) → Lists p n k s → count p n ≡ k
count-lists zero p n s l = count_none p n (λ x i t. not-suc-le-zero (l.all x i t).1)
count-lists (suc k) p n s l =
    let r = count-lists k (without p (s k)) n s (record {
      in_range = λ i h. l.in_range i (omega arith);
      passes = λ i h. subst⁻¹ T (without_other p (s k) (s i) (l.differ i k h (omega arith))) (l.passes i (omega arith));
      differ = λ i j g h. l.differ i j g (omega arith);
      all = λ x i t. split x (s k) (λ e. absurd (without-z p (s k) (subst (λ (y : ℕ). T (without p (s k) y)) e t)))
          (λ ne. let (j, h, e) = l.all x i (subst T (without_other p (s k) x ne) t) in
          (j, (let d : j ≢ k = λ q. ne (sym e ∙ ap s q) in omega arith), e));
    }) in
    let w = count-one p (without p (s k)) (s k) n (l.in_range k (omega arith)) (bit-T (p (s k)) (l.passes k (omega arith))) (bit_not (without p (s k) (s k)) (without-z p (s k)))
    (λ x i ne. ap bit (sym (without_other p (s k) x ne))) in
    omega arith

-- ---- the length of a cycle

pub record Length (f : ℕ → ℕ) (a k : ℕ) : Type 0 where
  pub long : 0 < k
  pub closes : iter f k a ≡ a
  pub no-sooner : (j : ℕ) → 0 < j → j < k → iter f j a ≢ a

module _ {P : ℕ → Type 0} {n : ℕ} {f g : ℕ → ℕ} (m : Perm P n f g) where
  -- every cycle has a length
  pub length-of : {a : ℕ} → P a → (k : ℕ) × (k ≤ n) × Length f a k
  length-of {a} p = go (period m p)
    where
      go : (k : ℕ) × (k < n) × (iter f (suc k) a ≡ a) → (k : ℕ) × (k ≤ n) × Length f a k
      go (k, l, e) = least (first (λ i. iter f (suc i) a ≡ a) (λ i. ℕ_discrete (iter f (suc i) a) a) (suc k))
        where
          least : First (λ i. iter f (suc i) a ≡ a) (suc k) ⊎ ((i : ℕ) → i < suc k → ¬ (iter f (suc i) a ≡ a)) → (k : ℕ) × (k ≤ n) × Length f a k
          least (inl (j, h, q, away)) = (suc j, omega arith, record { long = omega arith; closes = q; no-sooner = sooner })
            where
              sooner : (i : ℕ) → 0 < i → i < suc j → iter f i a ≢ a
              sooner zero x y = absurd (not-suc-le-zero x)
              sooner (suc i) x y = away i (omega arith)
          least (inr away) = absurd (away k (omega arith) e)

  -- and it is as long as those that it meets are many
  pub length-count : {a k : ℕ} (q : ℕ → Bool) → P a → Length f a k → ((x : ℕ) → Reach f a x → T (q x)) → ((x : ℕ) → x < n → T (q x) → Reach f a x) → count q n ≡ k
  length-count {a} {k} q p l to from = count-lists k q n (λ i. iter f i a) (record {
    in_range = λ i h. m.below (iter f i a) (iter-in m p i);
    passes = λ i h. to (iter f i a) (iter-reach f a i);
    differ = λ i j h h' e.
        let s : j - i + i ≡ j = omega arith in
        l.no-sooner (j - i) (omega arith) (omega arith) (sym (cancel m p i (j - i) (e ∙ ap (λ (x : ℕ). iter f x a) (sym s))));
    all = λ x i t. reached (from x i t);
  })
    where
      reached : {x : ℕ} → Reach f a x → (i : ℕ) × (i < k) × (iter f i a ≡ x)
      reached r = go k l.long l.closes r
        where
          go : {x : ℕ} (k : ℕ) → 0 < k → iter f k a ≡ a → Reach f a x → (i : ℕ) × (i < k) × (iter f i a ≡ x)
          go zero h e r = absurd (not-suc-le-zero h)
          go (suc k) h e r = let (i, u, w) = reach-within k e r in (i, omega arith, w)

-- ---- the converse, for a check that counts: k different numbers that pass are all, if no more than k pass

pub record Some (p : ℕ → Bool) (n k : ℕ) (s : ℕ → ℕ) : Type 0 where
  pub in_range : (i : ℕ) → i < k → s i < n
  pub passes : (i : ℕ) → i < k → T (p (s i))
  pub differ : (i j : ℕ) → i < j → j < k → s i ≢ s j

pub count-some : (k : ℕ) (p : ℕ → Bool) (n : ℕ) (s : ℕ → ℕ) → Some p n k s → k ≤ count p n
count-some zero p n s l = zero-le
count-some (suc k) p n s l =
    let r = count-some k (without p (s k)) n s (record {
      in_range = λ i h. l.in_range i (omega arith);
      passes = λ i h. subst⁻¹ T (without_other p (s k) (s i) (l.differ i k h (omega arith))) (l.passes i (omega arith));
      differ = λ i j g h. l.differ i j g (omega arith);
    }) in
    let w = count-one p (without p (s k)) (s k) n (l.in_range k (omega arith)) (bit-T (p (s k)) (l.passes k (omega arith))) (bit_not (without p (s k) (s k)) (without-z p (s k)))
    (λ x i ne. ap bit (sym (without_other p (s k) x ne))) in
    omega arith

pub some-all : (k : ℕ) (p : ℕ → Bool) (n : ℕ) (s : ℕ → ℕ) → Some p n k s → count p n ≡ k → (x : ℕ) → x < n → T (p x) → (i : ℕ) × (i < k) × (s i ≡ x)
some-all k p n s l c x h t = go (first (λ i. s i ≡ x) (λ i. ℕ_discrete (s i) x) k)
  where
    go : First (λ i. s i ≡ x) k ⊎ ((i : ℕ) → i < k → ¬ (s i ≡ x)) → (i : ℕ) × (i < k) × (s i ≡ x)
    go (inl (i, b, e, _)) = (i, b, e)
    go (inr away) =
        -- else k different numbers would pass the test without x, which is passed by one number less
        let r = count-some k (without p x) n s (record {
          in_range = l.in_range;
          passes = λ i b. subst⁻¹ T (without_other p x (s i) (away i b)) (l.passes i b);
          differ = l.differ;
        }) in
        let w = count-one p (without p x) x n h (bit-T (p x) t) (bit_not (without p x x) (without-z p x)) (λ y i ne. ap bit (sym (without_other p x y ne))) in
        absurd (let q : k + 1 ≤ k = omega arith in omega arith)
