-- The lowest number of a list, and what the counter's test for a lower one tells. Assumes nothing.
use mathlib.Core.Path.{◌≡◌, refl, sym, ◌∙◌}
use mathlib.Core.Logic.{◌⊎◌, inl, inr}
use mathlib.Core.Bool.{Bool, true, false, not}
use mathlib.Core.List.{List, [], ◌∷◌}
use Prim.Native.Nat.{ℕ, ◌≤◌, ◌<◌}
use native.Mathlib.Decide.{dec_lt}
use native.Mathlib.Omega.{arith}
use borrow.Author.Tests.{not-true, not-false, lt-ltb, le-ltb}
use Rattle.scope.specs.Lists.{has}
use Rattle.mesh.proofs.RoundLaws.{has-none, has_here, has-past}
use Rattle.laws_mesh.proofs.Cycle.{split, First, first}
use Rattle.laws_check.specs.Tells.{Tells}
use Rattle.laws_check.proofs.Tells.{never}
use Rattle.count_fields.specs.Count.{below}

has_on : (x y : ℕ) (l : List ℕ) → has x l ≡ true → has x (y ∷ l) ≡ true
has_on x y l e = split y x (λ q. has_here x y l q) (λ q. has-past x y l q ∙ e)

below_none : (h : ℕ) → below h [] ≡ false
unfolding below
below_none h = refl

below-here : (h x : ℕ) (l : List ℕ) → x < h → below h (x ∷ l) ≡ true
unfolding below
below-here h x l b = rw (lt-ltb x h b)

below-past : (h x : ℕ) (l : List ℕ) → h ≤ x → below h (x ∷ l) ≡ below h l
unfolding below
below-past h x l b = rw (le-ltb x h b)

-- none of l is below h
none_below : (h : ℕ) (l : List ℕ) → ((x : ℕ) → has x l ≡ true → h ≤ x) → below h l ≡ false
none_below h [] f = below_none h
none_below h (y ∷ l) f = below-past h y l (f y (has_here y y l refl)) ∙ none_below h l (λ x e. f x (has_on x y l e))

below-no : (h : ℕ) (l : List ℕ) → below h l ≡ false → (x : ℕ) → has x l ≡ true → h ≤ x
below-no h [] e x p = never (sym p ∙ has-none x)
below-no h (y ∷ l) e x p = go (dec_lt y h) (below-no h l)
  where
    go : Dec (y < h) → (below h l ≡ false → (x : ℕ) → has x l ≡ true → h ≤ x) → h ≤ x
    go (yes b) rec = never (sym (below-here h y l b) ∙ e)
    go (no b) rec = split y x (λ q. (omega arith)) (λ q. rec (sym (below-past h y l (omega arith)) ∙ e) x (sym (has-past x y l q) ∙ p))

pub t-none-below : (h : ℕ) (l : List ℕ) → Tells (not (below h l)) ((x : ℕ) → has x l ≡ true → h ≤ x)
t-none-below h l = record { so = λ e. below-no h l (not-true (below h l) e); not_so = λ e f. never (sym (not-false (below h l) e) ∙ none_below h l f) }

-- ---- the lowest of l, looked for below n
decided : (b : Bool) → Dec (b ≡ true)
decided true = yes refl
decided false = no (λ e. never (sym e))

abbrev found : (l : List ℕ) (n : ℕ) → First (λ x. has x l ≡ true) n ⊎ ((x : ℕ) → x < n → ¬ (has x l ≡ true)) → ℕ
found l n (inl t) = t.0
found l n (inr t) = 0

pub lowest_of : ℕ → List ℕ → ℕ
lowest_of n l = found l n (first (λ x. has x l ≡ true) (λ x. decided (has x l)) n)

pub record Lowest (n : ℕ) (l : List ℕ) (x : ℕ) : Type 0 where
  pub below-n : x < n
  pub there : has x l ≡ true
  pub least : (y : ℕ) → has y l ≡ true → x ≤ y

pub lowest-of : (n : ℕ) (l : List ℕ) (h : ℕ) → h < n → has h l ≡ true → Lowest n l (lowest_of n l)
unfolding lowest_of
lowest-of n l h b e = go (first (λ x. has x l ≡ true) (λ x. decided (has x l)) n)
  where
    go : (t : First (λ x. has x l ≡ true) n ⊎ ((x : ℕ) → x < n → ¬ (has x l ≡ true))) → Lowest n l (found l n t)
    go (inl (x, g, p, away)) = record { below-n = g; there = p; least = λ y q. least y q (dec_lt y x) }
      where
        least : (y : ℕ) → has y l ≡ true → Dec (y < x) → x ≤ y
        least y q (yes w) = absurd (away y w q)
        least y q (no w) = omega arith
    go (inr away) = absurd (away h b e)
