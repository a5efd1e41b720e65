-- The laws of answers: how tests that are put together tell what is put together. Assumes nothing.
use mathlib.Core.Path.{◌≡◌, refl, sym, subst⁻¹}
use mathlib.Core.Logic.{◌⊎◌, inl, inr, ⊎_elim}
use mathlib.Core.Bool.{Bool, true, false, not, ◌&&◌, ◌||◌}
use Prim.Native.Nat.{ℕ, zero, suc, ◌≤◌, ◌<◌}
use native.Mathlib.Omega.{arith}
use borrow.Author.Tests.{ltb-true, ltb-false, leb-true, leb-false, eqb-true, eqb-false, not-false}
use lib.Dec.{eqb, ltb, leb}
use Rattle.scope.specs.Lists.{if, all}
use Rattle.laws_mesh.proofs.Cycle.{split}
use Rattle.laws_check.specs.Tells.{Tells}

pub never : {A : Type 0} → true ≡ false → A
never e = let z : ◌≡◌ {A = ℕ} 0 1 = cc in absurd (omega arith)

pub told : {P : Type 0} → P → Tells true P
told p = record { so = λ e. p; not_so = λ e. never e }

pub denied : {P : Type 0} → (P → ⊥) → Tells false P
denied n = record { so = λ e. never (sym e); not_so = λ e. n }

pub is-so : {b : Bool} {P : Type 0} → Tells b P → b ≡ true → P
is-so t e = t.so e

pub is-so-not : {b : Bool} {P : Type 0} → Tells b P → not b ≡ false → P
is-so-not {b} t e = t.so (not-false b e)

pub is-not : {b : Bool} {P : Type 0} → Tells b P → b ≡ false → P → ⊥
is-not t e = t.not_so e

pub tells-map : {b : Bool} {P Q : Type 0} → Tells b P → (P → Q) → (Q → P) → Tells b Q
tells-map t f g = record { so = λ e. f (t.so e); not_so = λ e q. t.not_so e (g q) }

pub t-eq : (a b : ℕ) → Tells (eqb a b) (a ≡ b)
t-eq a b = record { so = eqb-true a b; not_so = eqb-false a b }

pub t-lt : (a b : ℕ) → Tells (ltb a b) (a < b)
t-lt a b = record { so = ltb-true a b; not_so = λ e l. let q = ltb-false a b e in omega arith }

pub t-le : (a b : ℕ) → Tells (leb a b) (a ≤ b)
t-le a b = record { so = leb-true a b; not_so = λ e l. let q = leb-false a b e in omega arith }

pub t-and : {a b : Bool} {P Q : Type 0} → Tells a P → Tells b Q → Tells (a && b) (P × Q)
t-and {a} {b} {P} {Q} = go a
  where
    go : (a : Bool) → Tells a P → Tells b Q → Tells (a && b) (P × Q)
    go true t u = tells-map u (λ q. (t.so refl, q)) (λ p. p.1)
    go false t u = denied (λ p. t.not_so refl p.0)

pub t-or : {a b : Bool} {P Q : Type 0} → Tells a P → Tells b Q → Tells (a || b) (P ⊎ Q)
t-or {a} {b} {P} {Q} = go a
  where
    go : (a : Bool) → Tells a P → Tells b Q → Tells (a || b) (P ⊎ Q)
    go true t u = told (inl (t.so refl))
    go false t u = tells-map u inr (λ x. ⊎_elim (λ p. absurd (t.not_so refl p)) (λ q. q) x)

pub t_not : {a : Bool} {P : Type 0} → Tells a P → Tells (not a) (P → ⊥)
t_not {a} {P} = go a
  where
    go : (a : Bool) → Tells a P → Tells (not a) (P → ⊥)
    go true t = denied (λ n. n (t.so refl))
    go false t = told (t.not_so refl)

-- the second needs to tell only where the first holds
pub t-when : {a b : Bool} {P Q : Type 0} → Tells a P → (P → Tells b Q) → Tells (if a b true) (P → Q)
t-when {a} {b} {P} {Q} = go a
  where
    go : (a : Bool) → Tells a P → (P → Tells b Q) → Tells (if a b true) (P → Q)
    go true t u = tells-map (u (t.so refl)) (λ q _. q) (λ f. f (t.so refl))
    go false t u = told (λ p. absurd (t.not_so refl p))

pub t-all : (n : ℕ) {t : ℕ → Bool} {P : ℕ → Type 0} → ((i : ℕ) → i < n → Tells (t i) (P i)) → Tells (all n t) ((i : ℕ) → i < n → P i)
unfolding all
t-all zero h = told (λ i l. absurd (omega arith))
t-all (suc n) {t} {P} h = tells-map (t-and (t-all n (λ i l. h i (omega arith))) (h n (omega arith)))
    (λ (f, p) i l. split i n (λ e. subst⁻¹ P e p) (λ ne. f i (omega arith)))
    (λ f. ((λ i l. f i (omega arith)), f n (omega arith)))
