-- Walks of a function on numbers: reaching, permutations of a part of the numbers below n, the pigeonhole principle, cutting a cycle. Assumes nothing.
use mathlib.Core.Path.{◌≡◌, refl, sym, ap, ◌∙◌, subst}
use mathlib.Core.Logic.{◌⊎◌, inl, inr, ◌≢◌}
use Prim.Native.Nat.{ℕ, zero, suc, pred, ◌+◌, ◌-◌, ◌≤◌, ◌<◌, zero-le}
use native.Mathlib.Nat.{not-suc-le-zero, add-zero, add-suc, suc-add, zero-add}
use native.Mathlib.Decide.{ℕ_discrete, dec_lt}
use native.Mathlib.Omega.{arith}
use mathlib.Core.Bool.{Bool, true, false}
use lib.Dec.{T, eqb, eqb→eq, eqb_refl}
use Rattle.scope.specs.Lists.{if}
use Rattle.laws_mesh.specs.Reach.{Reach, here, step, iter}

-- ---- deciding

abbrev chosen : {C : Type 0} {x y : ℕ} → Dec (x ≡ y) → (x ≡ y → C) → (x ≢ y → C) → C
chosen (yes e) f g = f e
chosen (no n) f g = g n

pub split : {C : Type 0} (x y : ℕ) → (x ≡ y → C) → (x ≢ y → C) → C
split x y f g = chosen (ℕ_discrete x y) f g

-- a where x is y, and b elsewhere
pub pick : ℕ → ℕ → ℕ → ℕ → ℕ
pick x y a b = split x y (λ e. a) (λ n. b)

pub pick_yes : (x y a b : ℕ) → x ≡ y → pick x y a b ≡ a
unfolding pick split
pick_yes x y a b e = go (ℕ_discrete x y)
  where
    go : (d : Dec (x ≡ y)) → chosen {C = ℕ} d (λ e. a) (λ n. b) ≡ a
    go (yes q) = refl
    go (no q) = absurd (q e)

pub pick_no : (x y a b : ℕ) → x ≢ y → pick x y a b ≡ b
unfolding pick split
pick_no x y a b n = go (ℕ_discrete x y)
  where
    go : (d : Dec (x ≡ y)) → chosen {C = ℕ} d (λ e. a) (λ n. b) ≡ b
    go (yes q) = absurd (n q)
    go (no q) = refl

-- the first number below n at which P holds, or none
abbrev pub First : (ℕ → Type 0) → ℕ → Type 0
First P n = (k : ℕ) × (k < n) × P k × ((j : ℕ) → j < k → ¬ P j)

pub first : (P : ℕ → Type 0) → ((i : ℕ) → Dec (P i)) → (n : ℕ) → First P n ⊎ ((i : ℕ) → i < n → ¬ P i)
first P d zero = inr (λ i h. absurd (not-suc-le-zero h))
first P d (suc n) = go (first P d n) (d n)
  where
    go : First P n ⊎ ((i : ℕ) → i < n → ¬ P i) → Dec (P n) → First P (suc n) ⊎ ((i : ℕ) → i < suc n → ¬ P i)
    go (inl t) q = inl (t.0, (let h : t.0 < n = t.1 in omega arith), t.2, t.3)
    go (inr h) (yes p) = inl (n, omega arith, p, h)
    go (inr h) (no q) = inr (λ i l p. split i n (λ e. q (subst P e p)) (λ ne. h i (omega arith) p))

-- ---- the pigeonhole principle

-- the values other than v, moved together
abbrev lower : {v : ℕ} (x : ℕ) → Dec (v < x) → ℕ
lower x (yes h) = pred x
lower x (no h) = x

squeeze : ℕ → ℕ → ℕ
squeeze v x = lower x (dec_lt v x)

squeeze-lt : (n v x : ℕ) → x < suc n → v < suc n → x ≢ v → squeeze v x < n
unfolding squeeze
squeeze-lt n v x h k ne = go (dec_lt v x)
  where
    go : (d : Dec (v < x)) → lower x d < n
    go (yes l) = let g : pred x < n = omega arith in g
    go (no l) = omega arith

squeeze-inj : (v x y : ℕ) → x ≢ v → y ≢ v → squeeze v x ≡ squeeze v y → x ≡ y
unfolding squeeze
squeeze-inj v x y hx hy = go (dec_lt v x) (dec_lt v y)
  where
    go : (d : Dec (v < x)) (e : Dec (v < y)) → lower x d ≡ lower y e → x ≡ y
    go (yes l) (yes m) q = let r : pred x ≡ pred y = q in omega arith
    go (yes l) (no m) q = let r : pred x ≡ y = q in omega arith
    go (no l) (yes m) q = let r : x ≡ pred y = q in omega arith
    go (no l) (no m) q = q

-- two of n + 1 numbers below n are equal
pub pigeonhole : (n : ℕ) (s : ℕ → ℕ) → ((i : ℕ) → i ≤ n → s i < n) → (i : ℕ) × (j : ℕ) × (i < j) × (j ≤ n) × (s i ≡ s j)
pigeonhole zero s h = absurd (not-suc-le-zero (h zero zero-le))
pigeonhole (suc n) s h = go (λ lt. pigeonhole n (λ i. squeeze (s (suc n)) (s i)) lt) (first (λ i. s i ≡ s (suc n)) (λ i. ℕ_discrete (s i) (s (suc n))) (suc n))
  where
    go : (((i : ℕ) → i ≤ n → squeeze (s (suc n)) (s i) < n) → (i : ℕ) × (j : ℕ) × (i < j) × (j ≤ n) × (squeeze (s (suc n)) (s i) ≡ squeeze (s (suc n)) (s j)))
        → First (λ i. s i ≡ s (suc n)) (suc n) ⊎ ((i : ℕ) → i < suc n → ¬ (s i ≡ s (suc n)))
        → (i : ℕ) × (j : ℕ) × (i < j) × (j ≤ suc n) × (s i ≡ s j)
    go rec (inl t) = (t.0, suc n, t.1, omega arith, t.2)
    go rec (inr away) =
        let r = rec (λ i l. squeeze-lt n (s (suc n)) (s i) (h i (omega arith)) (h (suc n) (omega arith)) (away i (omega arith))) in
        let l : r.0 < r.1 = r.2 in
        let m : r.1 ≤ n = r.3 in
        (r.0, r.1, l, omega arith, squeeze-inj (s (suc n)) (s r.0) (s r.1) (away r.0 (omega arith)) (away r.1 (omega arith)) r.4)

-- ---- reaching

pub reach-trans : {f : ℕ → ℕ} {a b c : ℕ} → Reach f a b → Reach f b c → Reach f a c
reach-trans p here = p
reach-trans p (step q) = step (reach-trans p q)

pub reach-eq : {f : ℕ → ℕ} {a b : ℕ} → a ≡ b → Reach f a b
reach-eq {f} {a} e = subst (λ (x : ℕ). Reach f a x) e here

-- one step, whose end is known by an equation
pub reach-one : {f : ℕ → ℕ} {a b : ℕ} → f a ≡ b → Reach f a b
reach-one {f} {a} e = subst (λ (x : ℕ). Reach f a x) e (step here)

-- one more step
pub reach-next : {f : ℕ → ℕ} {a b c : ℕ} → Reach f a b → f b ≡ c → Reach f a c
reach-next {f} {a} r e = subst (λ (x : ℕ). Reach f a x) e (step r)

-- what holds at a and is kept by f holds at all that a reaches
pub reach-ind : (I : ℕ → Type 0) {f : ℕ → ℕ} → ((x : ℕ) → I x → I (f x)) → {a b : ℕ} → I a → Reach f a b → I b
reach-ind I k i here = i
reach-ind I {f} k i (step {b} r) = k b (reach-ind I k i r)

-- g walks, through σ, wherever f does
pub reach-sim : (I : ℕ → Type 0) (σ : ℕ → ℕ) {f g : ℕ → ℕ} → ((x : ℕ) → I x → I (f x)) → ((x : ℕ) → I x → Reach g (σ x) (σ (f x)))
    → {a b : ℕ} → I a → Reach f a b → Reach g (σ a) (σ b)
reach-sim I σ k s i here = here
reach-sim I σ k s i (step {b} r) = reach-trans (reach-sim I σ k s i r) (s b (reach-ind I k i r))

-- counting
pub iter-reach : (f : ℕ → ℕ) (a k : ℕ) → Reach f a (iter f k a)
iter-reach f a zero = here
iter-reach f a (suc k) = step (iter-reach f a k)

pub reach-iter : {f : ℕ → ℕ} {a b : ℕ} → Reach f a b → (k : ℕ) × (iter f k a ≡ b)
reach-iter here = (zero, refl)
reach-iter {f} (step r) = let t = reach-iter r in (suc t.0, ap f t.1)

pub iter-add : (f : ℕ → ℕ) (a i j : ℕ) → iter f (i + j) a ≡ iter f i (iter f j a)
iter-add f a zero j = ap (λ (k : ℕ). iter f k a) (zero-add j)
iter-add f a (suc i) j = ap (λ (k : ℕ). iter f k a) (suc-add i j) ∙ ap f (iter-add f a i j)

-- where a comes back to itself after p + 1 steps, whatever it reaches it reaches in p or fewer
pub reach-within : {f : ℕ → ℕ} {a b : ℕ} (p : ℕ) → iter f (suc p) a ≡ a → Reach f a b → (k : ℕ) × (k ≤ p) × (iter f k a ≡ b)
reach-within p e here = (zero, zero-le, refl)
reach-within {f} {a} p e (step {b} r) = go (reach-within p e r)
  where
    go : (k : ℕ) × (k ≤ p) × (iter f k a ≡ b) → (k : ℕ) × (k ≤ p) × (iter f k a ≡ f b)
    go (k, l, q) = split k p (λ kp. (zero, zero-le, sym e ∙ ap f (ap (λ (i : ℕ). iter f i a) (sym kp) ∙ q))) (λ ne. (suc k, omega arith, ap f q))

-- ---- permutations of a part P of the numbers below n

pub record Perm (P : ℕ → Type 0) (n : ℕ) (f g : ℕ → ℕ) : Type 0 where
  pub below : (x : ℕ) → P x → x < n
  pub fore : (x : ℕ) → P x → P (f x)
  pub back : (x : ℕ) → P x → P (g x)
  pub gf : (x : ℕ) → P x → g (f x) ≡ x
  pub fg : (x : ℕ) → P x → f (g x) ≡ x

module _ {P : ℕ → Type 0} {n : ℕ} {f g : ℕ → ℕ} (m : Perm P n f g) where
  pub reach-in : {a b : ℕ} → P a → Reach f a b → P b
  reach-in = reach-ind P m.fore

  pub iter-in : {a : ℕ} → P a → (k : ℕ) → P (iter f k a)
  iter-in p k = reach-in p (iter-reach f _ k)

  pub cancel : {a : ℕ} → P a → (i d : ℕ) → iter f i a ≡ iter f (d + i) a → a ≡ iter f d a
  cancel {a} p zero d e = rw add-zero at e
  cancel {a} p (suc i) d e =
      let q : f (iter f i a) ≡ f (iter f (d + i) a) = rw add-suc at e in
      cancel p i d (sym (m.gf (iter f i a) (iter-in p i)) ∙ ap g q ∙ m.gf (iter f (d + i) a) (iter-in p (d + i)))

  -- walking from a comes back to a, in at most n steps
  pub period : {a : ℕ} → P a → (k : ℕ) × (k < n) × (iter f (suc k) a ≡ a)
  period {a} p = go (pigeonhole n (λ i. iter f i a) (λ i l. m.below (iter f i a) (iter-in p i)))
    where
      go : (i : ℕ) × (j : ℕ) × (i < j) × (j ≤ n) × (iter f i a ≡ iter f j a) → (k : ℕ) × (k < n) × (iter f (suc k) a ≡ a)
      go (i, j, l, h, e) =
          let q : suc (pred (j - i)) + i ≡ j = omega arith in
          (pred (j - i), omega arith, sym (cancel p i (suc (pred (j - i))) (e ∙ ap (λ (x : ℕ). iter f x a) (sym q))))

  pub reach-back : {a : ℕ} → P a → Reach f a (g a)
  reach-back {a} p =
      let t = period p in
      subst (λ (x : ℕ). Reach f a x) (sym (m.gf (iter f t.0 a) (iter-in p t.0)) ∙ ap g t.2) (iter-reach f a t.0)

  pub reach-sym : {a b : ℕ} → P a → Reach f a b → Reach f b a
  reach-sym p here = here
  reach-sym p (step {b} r) =
      let q = reach-in p r in
      reach-trans (subst (λ (x : ℕ). Reach f (f b) x) (m.gf b q) (reach-back (m.fore b q))) (reach-sym p r)

  -- and what it reaches it reaches in fewer than n
  pub reach-bound : {a b : ℕ} → P a → Reach f a b → (k : ℕ) × (k < n) × (iter f k a ≡ b)
  reach-bound {a} {b} p r = go (period p)
    where
      go : (k : ℕ) × (k < n) × (iter f (suc k) a ≡ a) → (k : ℕ) × (k < n) × (iter f k a ≡ b)
      go (k, l, e) = let (j, h, q) = reach-within k e r in (j, omega arith, q)

-- ---- cutting a cycle: the part from x to y

-- z is met on the way from x to the first y
unfoldable pub Part : (ℕ → ℕ) → ℕ → ℕ → ℕ → Type 0
Part f x k z = (j : ℕ) × (j ≤ k) × (iter f j x ≡ z)

-- what an edit needs of the part that it cuts out
pub record Cut (f : ℕ → ℕ) (x y : ℕ) (M : ℕ → Type 0) : Type 0 where
  pub dec : (z : ℕ) → Dec (M z)
  pub first-in : M x
  pub last-in : M y
  pub next_in : (z : ℕ) → M z → z ≢ y → M (f z)
  pub from : (z : ℕ) → M z → (z ≡ x) ⊎ ((u : ℕ) × M u × (u ≢ y) × (f u ≡ z))
  pub reached : (z : ℕ) → M z → Reach f x z
  -- whatever walks as f does there, but for the last step, walks through it
  pub walk : (g : ℕ → ℕ) → ((z : ℕ) → M z → z ≢ y → g z ≡ f z) → (z : ℕ) → M z → Reach g x z
  pub before-out : (w : ℕ) → f w ≡ x → w ≢ y → ¬ M w

-- the part from x to y, k steps on, if y is not met before
pub cut_at : (f : ℕ → ℕ) (x y k : ℕ) → iter f k x ≡ y → ((i : ℕ) → i < k → iter f i x ≢ y) → Cut f x y (Part f x k)
unfolding Part
cut_at f x y k e h = record {
  dec = λ z. dec-part z (first (λ i. iter f i x ≡ z) (λ i. ℕ_discrete (iter f i x) z) (suc k));
  first-in = (zero, zero-le, refl);
  last-in = (k, omega arith, e);
  next_in = λ z (j, lj, ej) ne. (suc j, (let d : j ≢ k = λ q. ne (sym ej ∙ at q ∙ e) in omega arith), ap f ej);
  from = λ z (j, lj, ej). from_at z j lj ej;
  walk = λ g a z (j, lj, ej). subst (λ (z : ℕ). Reach g x z) ej (walk_at g a j lj);
  reached = λ z (j, lj, ej). subst (λ (z : ℕ). Reach f x z) ej (iter-reach f x j);
  before-out = λ w fw ne (j, lj, ej).
      let d : j ≢ k = λ q. ne (sym ej ∙ at q ∙ e) in
      let q : k - suc j + suc j ≡ k = omega arith in
      let back : iter f (suc j) x ≡ x = ap f ej ∙ fw in
      h (k - suc j) (omega arith) (ap (λ (u : ℕ). iter f (k - suc j) u) (sym back) ∙ sym (iter-add f x (k - suc j) (suc j)) ∙ at q ∙ e);
}
  where
    at : {i j : ℕ} → i ≡ j → iter f i x ≡ iter f j x
    at e = ap (λ (i : ℕ). iter f i x) e

    dec-part : (z : ℕ) → First (λ i. iter f i x ≡ z) (suc k) ⊎ ((i : ℕ) → i < suc k → ¬ (iter f i x ≡ z)) → Dec (Part f x k z)
    dec-part z (inl (j, lj, ej, _)) = yes (j, omega arith, ej)
    dec-part z (inr away) = no (λ (j, lj, ej). away j (omega arith) ej)

    from_at : (z j : ℕ) → j ≤ k → iter f j x ≡ z → (z ≡ x) ⊎ ((u : ℕ) × Part f x k u × (u ≢ y) × (f u ≡ z))
    from_at z zero lj ej = inl (sym ej)
    from_at z (suc j) lj ej = inr (iter f j x, (j, omega arith, refl), h j lj, ej)

    walk_at : (g : ℕ → ℕ) → ((z : ℕ) → Part f x k z → z ≢ y → g z ≡ f z) → (j : ℕ) → j ≤ k → Reach g x (iter f j x)
    walk_at g a zero lj = here
    walk_at g a (suc j) lj = reach-next (walk_at g a j (omega arith)) (a (iter f j x) (j, omega arith, refl) (h j lj))

-- a choice by a test
pub if-eq : {A : Type 0} (x y : ℕ) (a b : A) → x ≡ y → if (eqb x y) a b ≡ a
if-eq x y a b e = go (eqb x y) (subst (λ (k : ℕ). T (eqb x k)) e (eqb_refl x))
  where
    go : (t : Bool) → T t → if t a b ≡ a
    go true p = refl
    go false p = absurd p

pub if-ne : {A : Type 0} (x y : ℕ) (a b : A) → x ≢ y → if (eqb x y) a b ≡ b
if-ne x y a b n = go (eqb x y) (eqb→eq x y)
  where
    go : (t : Bool) → (T t → x ≡ y) → if t a b ≡ b
    go true p = absurd (n (p tt))
    go false p = refl

-- the first step first
pub iter-front : (f : ℕ → ℕ) (x k : ℕ) → iter f (suc k) x ≡ iter f k (f x)
iter-front f x zero = refl
iter-front f x (suc k) = ap f (iter-front f x k)
