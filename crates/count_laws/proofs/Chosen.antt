-- The numbers from k on, n of them, that pass a test: listed in rising order. Assumes nothing.
use mathlib.Core.Path.{◌≡◌, refl, sym, ap, ◌∙◌}
use mathlib.Core.Bool.{Bool, true, false}
use mathlib.Core.List.{List, [], ◌∷◌, map}
use Prim.Native.Nat.{ℕ, zero, suc, ◌+◌, ◌≤◌, ◌<◌}
use native.Mathlib.Omega.{arith}
use lib.ListN.{get_or, length}
use Rattle.scope.specs.Lists.{if, range, only}
use Rattle.laws_mesh.proofs.Cycle.{split}
use Rattle.laws_check.proofs.Tells.{never}

pub record Chosen (t : ℕ → Bool) (k n : ℕ) (l : List ℕ) : Type 0 where
  pub from : (i : ℕ) → i < length l → k ≤ get_or l i 0
  pub to : (i : ℕ) → i < length l → get_or l i 0 < k + n
  pub passes : (i : ℕ) → i < length l → t (get_or l i 0) ≡ true
  pub rising : (i j : ℕ) → i < j → j < length l → get_or l i 0 < get_or l j 0
  pub all : (x : ℕ) → k ≤ x → x < k + n → t x ≡ true → (i : ℕ) × (i < length l) × (get_or l i 0 ≡ x)

none-chosen : (t : ℕ → Bool) (k : ℕ) → Chosen t k 0 []
none-chosen t k = record {
  from = λ i l. absurd (omega arith);
  to = λ i l. absurd (omega arith);
  passes = λ i l. absurd (omega arith);
  rising = λ i j g l. absurd (omega arith);
  all = λ x a b e. absurd (omega arith);
}

-- k is left out
left_out : (t : ℕ → Bool) (k n : ℕ) (l : List ℕ) → t k ≡ false → Chosen t (suc k) n l → Chosen t k (suc n) l
left_out t k n l e c = record {
  from = λ i b. let q = c.from i b in omega arith;
  to = λ i b. let q = c.to i b in omega arith;
  passes = c.passes;
  rising = c.rising;
  all = λ x a b p. split x k (λ q. never (sym p ∙ ap t q ∙ e)) (λ q. c.all x (omega arith) (omega arith) p);
}

-- k is taken
module _ (t : ℕ → Bool) (k n : ℕ) (l : List ℕ) (e : t k ≡ true) (c : Chosen t (suc k) n l) where
  taken-from : (i : ℕ) → i < suc (length l) → k ≤ get_or (k ∷ l) i 0
  taken-from zero b = omega arith
  taken-from (suc i) b = let q = c.from i (omega arith) in omega arith

  taken-to : (i : ℕ) → i < suc (length l) → get_or (k ∷ l) i 0 < k + suc n
  taken-to zero b = omega arith
  taken-to (suc i) b = let q = c.to i (omega arith) in omega arith

  taken-passes : (i : ℕ) → i < suc (length l) → t (get_or (k ∷ l) i 0) ≡ true
  taken-passes zero b = e
  taken-passes (suc i) b = c.passes i (omega arith)

  taken-rising : (i j : ℕ) → i < j → j < suc (length l) → get_or (k ∷ l) i 0 < get_or (k ∷ l) j 0
  taken-rising i zero g b = absurd (omega arith)
  taken-rising zero (suc j) g b = c.from j (omega arith)
  taken-rising (suc i) (suc j) g b = c.rising i j (omega arith) (omega arith)

  taken-all : (x : ℕ) → k ≤ x → x < k + suc n → t x ≡ true → (i : ℕ) × (i < suc (length l)) × (get_or (k ∷ l) i 0 ≡ x)
  taken-all x a b p = split x k (λ q. (zero, omega arith, sym q)) (λ q. let (i, g, w) = c.all x (omega arith) (omega arith) p in (suc i, omega arith, w))

  taken : Chosen t k (suc n) (k ∷ l)
  taken = record { from = taken-from; to = taken-to; passes = taken-passes; rising = taken-rising; all = taken-all }

pub chosen : (t : ℕ → Bool) (n k : ℕ) → Chosen t k n (only t (range k n))
unfolding only range
chosen t zero k = none-chosen t k
chosen t (suc n) k = go (t k) refl (chosen t n (suc k))
  where
    go : (b : Bool) → t k ≡ b → Chosen t (suc k) n (only t (range (suc k) n)) → Chosen t k (suc n) (if b (k ∷ only t (range (suc k) n)) (only t (range (suc k) n)))
    go true e c = taken t k n (only t (range (suc k) n)) e c
    go false e c = left_out t k n (only t (range (suc k) n)) e c

-- one of a list of answers
pub at_map : {A B : Type 0} (f : A → B) (l : List A) (i : ℕ) (d : A) (z : B) → i < length l → get_or (map f l) i z ≡ f (get_or l i d)
at_map f [] i d z b = absurd (omega arith)
at_map f (x ∷ l) zero d z b = refl
at_map f (x ∷ l) (suc i) d z b = at_map f l i d z (omega arith)
