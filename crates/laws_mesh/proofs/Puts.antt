-- Reading after a store in a list that grows. Assumes nothing.
use mathlib.Core.Path.{◌≡◌, refl, ap, ◌∙◌, subst}
use mathlib.Core.Logic.{◌≢◌}
use mathlib.Core.List.{List, [], ◌∷◌}
use Prim.Native.Nat.{ℕ, zero, suc, ◌+◌, ◌≤◌, ◌<◌, zero-le}
use native.Mathlib.Nat.{le_of_suc-le-suc, not-suc-le-zero}
use native.Mathlib.Omega.{arith}
use lib.ListN.{length, get_or}
use Rattle.scope.specs.Lists.{put}

-- what was put is read, and any other word is as it was: no bound is asked for
pub get_or-put-same : (l : List ℕ) (i x d : ℕ) → get_or (put l i x) i d ≡ x
unfolding put
get_or-put-same [] zero x d = refl
get_or-put-same [] (suc i) x d = get_or-put-same [] i x d
get_or-put-same (y ∷ l) zero x d = refl
get_or-put-same (y ∷ l) (suc i) x d = get_or-put-same l i x d

pub get_or-put-other : (l : List ℕ) (i j x : ℕ) → j ≢ i → get_or (put l i x) j 0 ≡ get_or l j 0
unfolding put
get_or-put-other [] zero zero x ne = absurd (ne refl)
get_or-put-other [] zero (suc j) x ne = refl
get_or-put-other [] (suc i) zero x ne = refl
get_or-put-other [] (suc i) (suc j) x ne = get_or-put-other [] i j x (λ e. ne (ap suc e))
get_or-put-other (y ∷ l) zero zero x ne = absurd (ne refl)
get_or-put-other (y ∷ l) zero (suc j) x ne = refl
get_or-put-other (y ∷ l) (suc i) zero x ne = refl
get_or-put-other (y ∷ l) (suc i) (suc j) x ne = get_or-put-other l i j x (λ e. ne (ap suc e))

-- a store inside keeps the length, one at the end adds one
pub length-put : (l : List ℕ) (i x : ℕ) → i < length l → length (put l i x) ≡ length l
unfolding put
length-put [] i x h = absurd (not-suc-le-zero h)
length-put (y ∷ l) zero x h = refl
length-put (y ∷ l) (suc i) x h = ap suc (length-put l i x (le_of_suc-le-suc h))

pub length-put-end : (l : List ℕ) (x : ℕ) → length (put l (length l) x) ≡ suc (length l)
unfolding put
length-put-end [] x = refl
length-put-end (y ∷ l) x = ap suc (length-put-end l x)

-- past the end there is nothing but zeros
pub get_d_past : (l : List ℕ) (i : ℕ) → length l ≤ i → get_or l i 0 ≡ 0
get_d_past [] zero h = refl
get_d_past [] (suc i) h = refl
get_d_past (y ∷ l) zero h = absurd (not-suc-le-zero h)
get_d_past (y ∷ l) (suc i) h = get_d_past l i (le_of_suc-le-suc h)

-- how long a list is after a store, wherever it was
pub put-grows : (l : List ℕ) (i x : ℕ) → length l ≤ length (put l i x)
unfolding put
put-grows [] i x = zero-le
put-grows (y ∷ l) zero x = omega arith
put-grows (y ∷ l) (suc i) x = let r = put-grows l i x in omega arith

pub put_holds : (l : List ℕ) (i x : ℕ) → i < length (put l i x)
unfolding put
put_holds [] zero x = omega arith
put_holds [] (suc i) x = let r = put_holds [] i x in omega arith
put_holds (y ∷ l) zero x = omega arith
put_holds (y ∷ l) (suc i) x = let r = put_holds l i x in omega arith

pub put-within : (n : ℕ) (l : List ℕ) (i x : ℕ) → length l ≤ n → i < n → length (put l i x) ≤ n
unfolding put
put-within zero l i x a b = absurd (not-suc-le-zero b)
put-within (suc n) [] zero x a b = omega arith
put-within (suc n) [] (suc i) x a b = let r = put-within n [] i x zero-le (le_of_suc-le-suc b) in omega arith
put-within (suc n) (y ∷ l) zero x a b = a
put-within (suc n) (y ∷ l) (suc i) x a b = let r = put-within n l i x (le_of_suc-le-suc a) (le_of_suc-le-suc b) in omega arith

-- the same, the length known
pub put-long : (l : List ℕ) {n : ℕ} (i x : ℕ) → length l ≡ n → i < n → length (put l i x) ≡ n
put-long l i x e h = length-put l i x (omega arith) ∙ e

pub put-long-end : (l : List ℕ) {n : ℕ} (x : ℕ) → length l ≡ n → length (put l n x) ≡ n + 1
put-long-end l {n} x e = subst (λ (k : ℕ). length (put l k x) ≡ k + 1) e (length-put-end l x ∙ omega arith)
