-- The first mark that is set, by what is known of each place. Assumes nothing.
use Prim.Native.Nat.{ℕ, zero, suc, ◌≤◌, ◌<◌}
use mathlib.Core.Path.{◌≡◌, refl, sym, ap, ◌∙◌}
use mathlib.Core.Logic.{◌≢◌}
use mathlib.Core.Bool.{Bool, true, false}
use mathlib.Core.List.{List}
use Rattle.std.specs.Prelude.{Option, None, Some}
use Rattle.std.specs.Option.{MatchOption}
use native.Mathlib.Omega.{arith}
use lib.Dec.{eqb}
use borrow.Author.Tests.{eqb-true, eqb-false, eq-eqb, ne_eqb}
use lib.ListN.{length, get_or, take}
use lib.Seq.{get_or-take, length-take-le}
use Rattle.scope.specs.Lists.{first}
use Rattle.scope.specs.Check.{set_mark}

-- all pass
first-none : (n : ℕ) (ok : ℕ → Bool) → ((k : ℕ) → k < n → ok k ≡ true) → first n (λ j. true) ok ≡ None
unfolding first
first-none zero ok p = refl
first-none (suc n) ok p = rw (first-none n ok (λ k l. p k (omega arith)), p n (omega arith))

-- i is the first that fails
first-some : (n i : ℕ) (ok : ℕ → Bool) → i < n → ok i ≡ false → ((k : ℕ) → k < i → ok k ≡ true) → first n (λ j. true) ok ≡ Some i
unfolding first
first-some zero i ok l e p = absurd (omega arith)
first-some (suc n) i ok l e p = go (eqb i n) refl (λ m. first-some n i ok m e p)
  where
    go : (b : Bool) → eqb i n ≡ b → (i < n → first n (λ j. true) ok ≡ Some i) → first (suc n) (λ j. true) ok ≡ Some i
    go true t f = let q : n ≡ i = sym (eqb-true i n t) in rw (q, first-none i ok p, e)
    go false t f = let q = eqb-false i n t in rw (f (omega arith))

pub mark_from_cases : (marks : List ℕ) (n : ℕ) (r : Option ℕ) → n ≤ length marks →
    MatchOption r ((k : ℕ) → 0 ≤ k → k < n → get_or marks k 0 ≡ 0) (λ i. (0 ≤ i) × (i < n) × (get_or marks i 0 ≢ 0) × ((k : ℕ) → 0 ≤ k → k < i → get_or marks k 0 ≡ 0)) →
    r ≡ set_mark (take n marks)
unfolding set_mark
mark_from_cases marks n None b p =
    let w : length (take n marks) ≡ n = length-take-le n marks b in
    rw (w, first-none n (λ j. eqb (get_or (take n marks) j 0) 0) (λ k l. eq-eqb _ _ (get_or-take n marks k 0 l ∙ p k (omega arith) l)))
mark_from_cases marks n (Some i) b p =
    let w : length (take n marks) ≡ n = length-take-le n marks b in
    let h : i < n = p.1 in
    let e : get_or (take n marks) i 0 ≡ get_or marks i 0 = get_or-take n marks i 0 h in
    rw (
      w,
      first-some n i (λ j. eqb (get_or (take n marks) j 0) 0) h (ap (λ y. eqb y 0) e ∙ ne_eqb _ 0 p.2)
          (λ k l. eq-eqb _ _ (get_or-take n marks k 0 (omega arith) ∙ p.3 k (omega arith) l)),
    )
