-- Decimal numbers: their last digit, and how many digits they have. Assumes nothing.
use Prim.Native.Nat.{ℕ, zero, suc, ◌+◌, ◌*◌, ◌/◌, ◌%◌, ◌^◌, ◌≤◌, ◌<◌}
use native.Mathlib.Nat.{pow-suc}
use mathlib.Core.Path.{◌≡◌, refl, sym, ap, ◌∙◌}
use mathlib.Core.Bool.{Bool, true, false}
use mathlib.Core.List.{List, [], ◌∷◌, ◌++◌}
use native.Mathlib.Omega.{arith}
use borrow.Author.Tests.{lt-ltb, le-ltb, ltb-true, ltb-false}
use lib.Dec.{ltb}
use lib.ListN.{length, set, length-append}
use Rattle.text.specs.Text.{over_from, digits_of, decimal}
use Rattle.text.proofs.PutLaws.{next-to, store-one}

-- a number has no more digits than it counts, and one more
enough : (j k n : ℕ) → n < j → n < k → digits_of j n ≡ digits_of k n
unfolding digits_of
enough zero k n a b = absurd (omega arith)
enough (suc j) zero n a b = absurd (omega arith)
enough (suc j) (suc k) n a b = go (ltb n 10) refl (enough j k (n / 10))
  where
    go : (t : Bool) → ltb n 10 ≡ t → (n / 10 < j → n / 10 < k → digits_of j (n / 10) ≡ digits_of k (n / 10)) → digits_of (suc j) n ≡ digits_of (suc k) n
    go true e h = rw (e) refl
    go false e h = let l = ltb-false n 10 e in rw (e, h (omega arith) (omega arith)) refl

pub decimal-one : (n : ℕ) → n < 10 → decimal n ≡ (48 + n) ∷ []
unfolding decimal digits_of
decimal-one n b = rw (lt-ltb n 10 b) refl

pub decimal-more : (n : ℕ) → 10 ≤ n → decimal n ≡ decimal (n / 10) ++ ((48 + n % 10) ∷ [])
unfolding decimal digits_of
decimal-more n b = rw (le-ltb n 10 b) (ap (λ (d : List ℕ). d ++ ((48 + n % 10) ∷ [])) (enough n (suc (n / 10)) (n / 10) (omega arith) (omega arith)))

-- ---- as many digits as powers of ten
decimal-short : (k n : ℕ) → n < 10 ^ suc k → length (decimal n) ≤ suc k
decimal-short zero n b = let d = ap length (decimal-one n b) in omega arith
decimal-short (suc k) n b = go (ltb n 10) refl (decimal-short k (n / 10))
  where
    go : (t : Bool) → ltb n 10 ≡ t → (n / 10 < 10 ^ suc k → length (decimal (n / 10)) ≤ suc k) → length (decimal n) ≤ suc (suc k)
    go true e h = let d = ap length (decimal-one n (ltb-true n 10 e)) in omega arith
    go false e h =
        let p : 10 ^ suc (suc k) ≡ 10 ^ suc k * 10 = pow-suc 10 (suc k) in
        let q : n / 10 < 10 ^ suc k = omega arith in
        let d = ap length (decimal-more n (ltb-false n 10 e)) ∙ length-append (decimal (n / 10)) ((48 + n % 10) ∷ []) in
        let r = h q in
        omega arith

-- any u64 has at most 20
pub decimal-twenty : (n : ℕ) → n < 18446744073709551616 → length (decimal n) ≤ 20
decimal-twenty n b = decimal-short 19 n (omega arith)

shorter : (n : ℕ) → 10 ≤ n → length (decimal n) ≡ length (decimal (n / 10)) + 1
shorter n b = ap length (decimal-more n b) ∙ length-append (decimal (n / 10)) ((48 + n % 10) ∷ [])

-- ---- what is put: one digit, or those of a tenth and the last
pub tenth-fits : (n : ℕ) → 10 ≤ n → n < 18446744073709551616 → length (decimal (n / 10)) < 20
tenth-fits n b l = let e = shorter n b in let t = decimal-twenty n l in omega arith

pub digit-put : (out : List ℕ) (at n : ℕ) → n < 10 → (set out at (48 + n) ≡ over_from at (decimal n) out) × ((at + 1 ≡ at + length (decimal n)) × (at + 1 ≤ at + 20))
digit-put out at n b =
    let e = ap length (decimal-one n b) in
    (store-one out at (48 + n) ∙ ap (λ (d : List ℕ). over_from at d out) (sym (decimal-one n b)), (omega arith, omega arith))

pub last-put : (out mid : List ℕ) (at n last : ℕ) → 10 ≤ n → n < 18446744073709551616 → mid ≡ over_from at (decimal (n / 10)) out → last ≡ at + length (decimal (n / 10))
    → (set mid last (48 + n % 10) ≡ over_from at (decimal n) out) × ((last + 1 ≡ at + length (decimal n)) × (last + 1 ≤ at + 20))
last-put out mid at n last b l m p =
    let e = shorter n b in
    let t = decimal-twenty n l in
    let d = (48 + n % 10) ∷ [] in (
      store-one mid last (48 + n % 10) ∙ ap (λ (s : List ℕ). over_from last d s) m ∙ next-to at last (decimal (n / 10)) d out p ∙ ap (λ (w : List ℕ). over_from at w out) (sym (decimal-more n b)),
      (omega arith, omega arith),
    )
