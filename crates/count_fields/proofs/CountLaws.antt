-- Counts and sums over a list, in the document's words, and the walks that they take. Assumes nothing.
use Prim.Native.Nat.{ℕ, zero, suc, ◌+◌, ◌*◌, ◌<◌, ◌≤◌}
use mathlib.Core.Path.{◌≡◌, refl, ap, ◌∙◌}
use mathlib.Core.Bool.{Bool, true, false, cond, ◌||◌}
use mathlib.Core.List.{List, [], ◌∷◌}
use native.Mathlib.Omega.{arith}
use lib.Dec.{ltb}
use lib.ListN.{length, get_or}
use Rattle.std.specs.List.{list_any, filter, sum_by, range_with_len}
use Rattle.std.proofs.lemmas.List.{get_or_default}
use Rattle.std.proofs.lemmas.List.FromFn.{length-range_with_len, get_or-range_with_len}
use Rattle.std.proofs.lemmas.List.Sums.{sum_by_from, length-filter}
use Rattle.scope.specs.Lists.{if, sum, number_of}
use Rattle.mesh.specs.Words.{next_at}
use Rattle.mesh.specs.Rounds.{Walk, loop_at}
use Rattle.mesh.proofs.RoundLaws.{walk-next}
use Rattle.mesh_walk.proofs.Rounds.{round-short}
use Rattle.count_fields.specs.Count.{below, Linked}

-- ---- over a list
sum-first : (n : ℕ) (f : ℕ → ℕ) → f 0 + sum n (λ k. f (suc k)) ≡ sum (suc n) f
unfolding sum
sum-first zero f = omega arith
sum-first (suc n) f = let i = sum-first n f in omega arith

pub sum_is : (f : ℕ → ℕ) (l : List ℕ) → sum_by f l ≡ sum (length l) (λ i. f (get_or l i 0))
unfolding sum
sum_is f [] = refl
sum_is f (x ∷ l) =
    let a = sum_by_from f (0 + f x) l in
    let b = sum_is f l in
    let c = sum-first (length l) (λ i. f (get_or (x ∷ l) i 0)) in
    omega arith

pub sum-small : (f : ℕ → ℕ) (b n : ℕ) (l : List ℕ) → ((x : ℕ) → f x ≤ b) → length l ≤ n → sum_by f l ≤ n * b
sum-small f b n [] s e = omega arith
sum-small f b zero (x ∷ l) s e = absurd (omega arith)
sum-small f b (suc n) (x ∷ l) s e =
    let i = sum-small f b n l s (omega arith) in
    let g = sum_by_from f (0 + f x) l in
    let h = s x in
    omega arith

sum-same : (n : ℕ) (f g : ℕ → ℕ) → ((i : ℕ) → i < n → f i ≡ g i) → sum n f ≡ sum n g
unfolding sum
sum-same zero f g e = refl
sum-same (suc n) f g e = let i = sum-same n f g (λ i l. e i (omega arith)) in rw (i, e n (omega arith))

sum-number : (n : ℕ) (t : ℕ → Bool) → sum n (λ i. cond (t i) 1 0) ≡ number_of n t
unfolding sum number_of
sum-number zero t = refl
sum-number (suc n) t = go (t n) (sum-number n t)
  where
    go : (b : Bool) → sum n (λ i. cond (t i) 1 0) ≡ number_of n t → sum n (λ i. cond (t i) 1 0) + cond b 1 0 ≡ number_of n t + if b 1 0
    go true e = rw e
    go false e = rw e

pub number_is : (t : ℕ → Bool) (l : List ℕ) → length (filter t l) ≡ number_of (length l) (λ i. t (get_or l i 0))
number_is t l = length-filter t l ∙ sum_is (λ x. cond (t x) 1 0) l ∙ sum-number (length l) (λ i. t (get_or l i 0))

-- over the numbers below n
pub range_number : (t : ℕ → Bool) (n : ℕ) → length (filter t (range_with_len 0 n)) ≡ number_of n t
range_number t n =
    let l = length-range_with_len 0 n in
    let s = sum-same n (λ i. cond (t (get_or (range_with_len 0 n) i 0)) 1 0) (λ i. cond (t i) 1 0) (λ i b. ap (λ j. cond (t j) 1 0) (get_or-range_with_len 0 n i 0 b ∙ omega arith)) in
    length-filter t (range_with_len 0 n) ∙ sum_is (λ x. cond (t x) 1 0) (range_with_len 0 n) ∙ rw l s ∙ sum-number n t

-- ---- walks
pub loop-small : (es : List ℕ) (n h : ℕ) {r : ℕ} → r ≡ length (loop_at es n h) → n ≤ 1048576 → r ≤ 2097152
loop-small es n h e b = let q = round-short h (next_at es) (2 * n) h in omega arith

pub walks : {es fs : List ℕ} {n : ℕ} → Linked es fs n → (h : ℕ) → h < 2 * n → Walk next_at es n h
walks l h b = walk-next l.room l.step h b

pub names : {es fs : List ℕ} {n : ℕ} → Linked es fs n → (k x : ℕ) → k < length fs → x ≡ get_or fs k x → Walk next_at es n x
names {es} {fs} {n} l k x b e = walks l x (rw (e ∙ get_or_default fs k x 0 b) (l.from k b))

-- ---- below
pub below_any : (h : ℕ) (l : List ℕ) → list_any (λ x. ltb x h) l ≡ below h l
unfolding below
below_any h [] = refl
below_any h (x ∷ l) = go (ltb x h) (below_any h l)
  where
    go : (b : Bool) → list_any (λ x. ltb x h) l ≡ below h l → (b || list_any (λ x. ltb x h) l) ≡ if b true (below h l)
    go true i = refl
    go false i = i
