-- A slice filled from its front, one store after another; tests of all numbers below one. Assumes nothing.
use Prim.Native.Nat.{ℕ, zero, suc, ◌+◌, ◌≤◌, ◌<◌}
use mathlib.Core.Path.{◌≡◌, refl, sym, ap, ◌∙◌}
use mathlib.Core.Bool.{Bool, true, false, ◌&&◌}
use mathlib.Core.List.{List, [], ◌∷◌, map}
use native.Mathlib.Nat.{zero-add}
use Rattle.std.specs.List.{list_all, range_with_len}
use Rattle.std.proofs.lemmas.List.{length-drop, length-take-le, get_or-take, get_or-drop}
use Rattle.std.proofs.lemmas.List.FromFn.{length-range_with_len, get_or-range_with_len}
use native.Mathlib.Omega.{arith}
use lib.Dec.{eqb}
use borrow.Author.Tests.{eqb-true, eqb-false}
use lib.ListN.{length, get_or, set, take, drop, replicate, length-set}
use lib.Seq.{get_or-set_same, get_or-set_other, ext_get_or}
use Rattle.scope.specs.Lists.{lay, range, all}
use Rattle.file_read.specs.Cells.{length-row}
use Rattle.mesh.proofs.SliceLaws.{length-lay}

-- the first i places of l are those of t
pub record Filled {A : Type 0} (d : A) (i : ℕ) (l t : List A) : Type 0 where
  pub within : i ≤ length t
  pub size : length l ≡ length t
  pub same : (k : ℕ) → k < i → get_or l k d ≡ get_or t k d

pub filled_none : {A : Type 0} (d : A) (l t : List A) → length l ≡ length t → Filled d 0 l t
filled_none d l t s = record { within = omega arith; size = s; same = λ k b. absurd (omega arith) }

pub filled_on : {A : Type 0} {d : A} {i : ℕ} {l t : List A} {x : A} → Filled d i l t → i < length l → x ≡ get_or t i d → Filled d (i + 1) (set l i x) t
filled_on {A} {d} {i} {l} {t} {x} p b e = record {
  within = let s = p.size in omega arith;
  size = length-set l i x ∙ p.size;
  same = λ k q. go k q (eqb k i) refl;
}
  where
    go : (k : ℕ) → k < i + 1 → (b : Bool) → eqb k i ≡ b → get_or (set l i x) k d ≡ get_or t k d
    go k q true y = let z : k ≡ i = eqb-true k i y in rw z (get_or-set_same l i x d b ∙ e)
    go k q false y =
        let n : k ≡ i → ⊥ = eqb-false k i y in
        get_or-set_other l i k x d n ∙ p.same k (omega arith)

pub filled-all : {A : Type 0} {d : A} {i : ℕ} {l t : List A} → Filled d i l t → length l ≤ i → l ≡ t
filled-all {A} {d} {i} {l} {t} p b = ext_get_or d l t p.size (λ k q. p.same k (omega arith))

-- ---- a run of values
pub at-run : {A : Type 0} (f : ℕ → A) (k n i : ℕ) (d : A) → i < n → get_or (map f (range k n)) i d ≡ f (k + i)
unfolding range
at-run f k zero i d b = absurd (omega arith)
at-run f k (suc n) zero d b = let e : k ≡ k + 0 = omega arith in ap f e
at-run f k (suc n) (suc i) d b = let e : suc k + i ≡ k + suc i = omega arith in at-run f (suc k) n i d (omega arith) ∙ ap f e

pub at_place : {A : Type 0} (f : ℕ → A) (n i : ℕ) (d : A) → i < n → get_or (map f (range 0 n)) i d ≡ f i
at_place f n i d b = let e : 0 + i ≡ i = omega arith in at-run f 0 n i d b ∙ ap f e

-- what stands in a slice that a list is laid into
pub at-lay : {A : Type 0} (z d : A) (l old : List A) (i : ℕ) → i < length old → get_or (lay z l old) i d ≡ get_or l i z
unfolding lay
at-lay z d l [] i b = absurd (omega arith)
at-lay z d [] (y ∷ old) zero b = refl
at-lay z d [] (y ∷ old) (suc i) b = at-lay z d [] old i (omega arith)
at-lay z d (x ∷ l) (y ∷ old) zero b = refl
at-lay z d (x ∷ l) (y ∷ old) (suc i) b = at-lay z d l old i (omega arith)

-- a loop that lays ws into old, before its turn i
pub record Laid {A : Type 0} (d z : A) (ws old : List A) (i : ℕ) (l : List A) : Type 0 where
  pub filled : Filled d i l (lay z ws old)

pub laid_none : {A : Type 0} {d z : A} {ws old : List A} → Laid d z ws old 0 old
laid_none {A} {d} {z} {ws} {old} = record { filled = filled_none d old (lay z ws old) (sym (length-lay z ws old)) }

pub laid_on : {A : Type 0} {d z : A} {ws old : List A} {i : ℕ} {l : List A} {x : A} → Laid d z ws old i l → i < length l → x ≡ get_or ws i z → Laid d z ws old (i + 1) (set l i x)
laid_on {A} {d} {z} {ws} {old} {i} {l} {x} p b e =
    let s = length-lay z ws old in
    let t = p.filled.size in
    record { filled = filled_on p.filled b (e ∙ sym (at-lay z d ws old i (omega arith))) }

pub laid-length : {A : Type 0} {d z : A} {ws old : List A} {i : ℕ} {l : List A} → Laid d z ws old i l → length l ≡ length old
laid-length {A} {d} {z} {ws} {old} p = p.filled.size ∙ length-lay z ws old

pub laid-all : {A : Type 0} {d z : A} {ws old : List A} {i : ℕ} {l : List A} → Laid d z ws old i l → length l ≤ i → l ≡ lay z ws old
laid-all p b = filled-all p.filled b

-- nothing laid is the value in every place
pub lay_none : {A : Type 0} (z : A) (old : List A) → replicate (length old) z ≡ lay z [] old
unfolding lay
lay_none z [] = refl
lay_none {A} z (y ∷ old) = ap {B = List A} (λ r. z ∷ r) (lay_none z old)

-- the front of a list laid
pub take-lay : {A : Type 0} (z : A) (n : ℕ) (l old : List A) → n ≤ length l → n ≤ length old → take n (lay z l old) ≡ take n l
unfolding lay
take-lay z zero l old a b = refl
take-lay z (suc n) [] old a b = absurd (omega arith)
take-lay z (suc n) (x ∷ l) [] a b = absurd (omega arith)
take-lay {A} z (suc n) (x ∷ l) (y ∷ old) a b = ap {B = List A} (λ r. x ∷ r) (take-lay z n l old (omega arith) (omega arith))

pub length_run : {A : Type 0} (f : ℕ → A) (n : ℕ) → length (map f (range 0 n)) ≡ n
length_run f n = length-row f n

-- what is laid last is there
pub lay-lay : {A : Type 0} (z : A) (a b old : List A) → lay z a (lay z b old) ≡ lay z a old
unfolding lay
lay-lay z a b [] = refl
lay-lay {A} z [] [] (y ∷ old) = ap {B = List A} (λ r. z ∷ r) (lay-lay z [] [] old)
lay-lay {A} z [] (w ∷ b) (y ∷ old) = ap {B = List A} (λ r. z ∷ r) (lay-lay z [] b old)
lay-lay {A} z (x ∷ a) [] (y ∷ old) = ap {B = List A} (λ r. x ∷ r) (lay-lay z a [] old)
lay-lay {A} z (x ∷ a) (w ∷ b) (y ∷ old) = ap {B = List A} (λ r. x ∷ r) (lay-lay z a b old)

-- ---- tests of all numbers below n
and-false : (a : Bool) → (a && false) ≡ false
and-false true = refl
and-false false = refl

fails_by : (t : ℕ → Bool) (n i : ℕ) → t i ≡ false → (i < n → all n t ≡ false) → i < n + 1 → (c : Bool) → eqb i n ≡ c → (all n t && t n) ≡ false
fails_by t n i e r b true y = let z : i ≡ n = eqb-true i n y in let q : t n ≡ false = rw (sym z) e in rw q (and-false (all n t))
fails_by t n i e r b false y = let z : i ≡ n → ⊥ = eqb-false i n y in rw (r (omega arith))

pub all-fails : (t : ℕ → Bool) (n i : ℕ) → i < n → t i ≡ false → all n t ≡ false
unfolding all
all-fails t zero i b e = absurd (omega arith)
all-fails t (suc n) i b e = fails_by t n i e (λ q. all-fails t n i q e) (omega arith) (eqb i n) refl

pub all-at : (t : ℕ → Bool) (n : ℕ) → all n t ≡ true → (i : ℕ) → i < n → t i ≡ true
all-at t n a i b = go (t i) refl
  where
    go : (c : Bool) → t i ≡ c → c ≡ true
    go true e = refl
    go false e = sym (all-fails t n i b e) ∙ a

pub all-is : (s t : ℕ → Bool) (n : ℕ) → ((i : ℕ) → i < n → s i ≡ t i) → all n s ≡ all n t
unfolding all
all-is s t zero e = refl
all-is s t (suc n) e = rw (all-is s t n (λ i b. e i (omega arith)), e n (omega arith))

-- a test of each element, as one of each place
and_assoc : (a b c : Bool) → ((a && b) && c) ≡ (a && (b && c))
and_assoc true b c = refl
and_assoc false b c = refl

and_true : (a : Bool) → a ≡ (a && true)
and_true true = refl
and_true false = refl

all_front : (t : ℕ → Bool) (n : ℕ) → all (suc n) t ≡ (t 0 && all n (λ i. t (suc i)))
unfolding all
all_front t zero = and_true (t 0)
all_front t (suc n) = rw (all_front t n) (and_assoc (t 0) (all n (λ i. t (suc i))) (t (suc n)))

pub all_listed : {A : Type 0} (test : A → Bool) (d : A) (l : List A) → list_all test l ≡ all (length l) (λ i. test (get_or l i d))
unfolding all
all_listed test d [] = refl
all_listed test d (x ∷ l) = rw (all_listed test d l) (sym (all_front (λ i. test (get_or (x ∷ l) i d)) (length l)))

pub all_at_places : {A : Type 0} (test : A → Bool) (d : A) (l : List A) (n : ℕ) (t : ℕ → Bool) → length l ≡ n → ((i : ℕ) → i < n → test (get_or l i d) ≡ t i) → list_all test l ≡ all n t
all_at_places test d l n t e p = all_listed test d l ∙ rw (e) (all-is (λ i. test (get_or l i d)) t n p)

pub all_below : (t : ℕ → Bool) (n : ℕ) → list_all t (range_with_len 0 n) ≡ all n t
all_below t n = all_at_places t 0 (range_with_len 0 n) n t (length-range_with_len 0 n) (λ i b. ap t (get_or-range_with_len 0 n i 0 b ∙ zero-add i))

pub all_of_part : (test : ℕ → Bool) (from n m : ℕ) (b : List ℕ) → m ≡ n → from + n ≤ length b → list_all test (take m (drop from b)) ≡ all n (λ i. test (get_or b (from + i) 0))
all_of_part test from n m b e l =
    let d = length-drop from b in
    all_at_places test 0 (take m (drop from b)) n (λ i. test (get_or b (from + i) 0)) (length-take-le m (drop from b) (omega arith) ∙ e)
    (λ i q. ap test (get_or-take m (drop from b) i 0 (omega arith) ∙ get_or-drop from b i 0))
