-- A ring of n numbers: the one after i and the one before i. Assumes nothing.
use mathlib.Core.Path.{◌≡◌, sym, ap, ◌∙◌}
use mathlib.Core.Logic.{◌≢◌}
use Prim.Native.Nat.{ℕ, suc, ◌-◌, ◌%◌, ◌≤◌, ◌<◌}
use native.Mathlib.Nat.{mod-eq_of_lt, mod_self}
use native.Mathlib.Decide.{dec_lt}
use native.Mathlib.Omega.{arith}
use lib.Dec.{eqb}
use Rattle.scope.specs.Lists.{if}
use Rattle.laws_mesh.proofs.Cycle.{split, if-eq, if-ne}

-- x below y, or not
abbrev decided : {C : Type 0} {x y : ℕ} → Dec (x < y) → (x < y → C) → (y ≤ x → C) → C
decided (yes l) f g = f l
decided {C} {x} {y} (no l) f g = g (omega arith)

pub under : {C : Type 0} (x y : ℕ) → (x < y → C) → (y ≤ x → C) → C
under x y f g = decided (dec_lt x y) f g

abbrev pub after : ℕ → ℕ → ℕ
after n i = suc i % n

pub before : ℕ → ℕ → ℕ
before n i = if (eqb i 0) (n - 1) (i - 1)

module _ (n i : ℕ) where
  pub after_last : suc i ≡ n → after n i ≡ 0
  after_last e = ap (λ (k : ℕ). k % n) e ∙ mod_self n

  pub after-other : suc i < n → after n i ≡ suc i
  after-other l = mod-eq_of_lt l

  pub before-first : i ≡ 0 → before n i ≡ n - 1
  unfolding before
  before-first e = if-eq i 0 (n - 1) (i - 1) e

  pub before-other : i ≢ 0 → before n i ≡ i - 1
  unfolding before
  before-other e = if-ne i 0 (n - 1) (i - 1) e

  pub after-lt : i < n → after n i < n
  after-lt l = split (suc i) n (λ e. let p = after_last e in omega arith) (λ e. let p = after-other (omega arith) in omega arith)

  pub before-lt : i < n → before n i < n
  before-lt l = split i 0 (λ e. let p = before-first e in omega arith) (λ e. let p = before-other e in omega arith)

pub after-before : (n i : ℕ) → i < n → after n (before n i) ≡ i
after-before n i l = split i 0
    (λ e. let p = before-first n i e in after_last n (before n i) (omega arith) ∙ sym e)
    (λ e. let p = before-other n i e in after-other n (before n i) (omega arith) ∙ (let w : suc (before n i) ≡ i = omega arith in w))

pub before-after : (n i : ℕ) → i < n → before n (after n i) ≡ i
before-after n i l = split (suc i) n
    (λ e. before-first n (after n i) (after_last n i e) ∙ (let w : n - 1 ≡ i = omega arith in w))
    (λ e. let p = after-other n i (omega arith) in before-other n (after n i) (omega arith) ∙ (let w : after n i - 1 ≡ i = omega arith in w))

pub after-once : (n i j : ℕ) → i < n → j < n → after n i ≡ after n j → i ≡ j
after-once n i j l h e = sym (before-after n i l) ∙ ap (before n) e ∙ before-after n j h
