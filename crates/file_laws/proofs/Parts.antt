-- The bytes of what stands in bytes are those bytes: a word, a number, a mark, and runs of them. Assumes nothing.
use Prim.Native.Nat.{ℕ, zero, suc, ◌+◌, ◌*◌, ◌/◌, ◌%◌, ◌≤◌, ◌<◌}
use native.Mathlib.Nat.{mul-suc, mul-zero}
use mathlib.Core.Path.{◌≡◌, refl, sym, ap, ◌∙◌}
use mathlib.Core.Bool.{true}
use mathlib.Core.List.{List, [], ◌∷◌, ◌++◌, map}
use native.Mathlib.Omega.{arith}
use lib.ListN.{length, get_or, take, drop}
use lib.Seq.{drop-cons, take-add, drop-drop}
use lib.Ieee.{Float, binary64, of_bits, to_bits}
use lib.Ieee.Bits.{to_bits-of_bits}
use lib.Ieee.Scale.{finite}
use Rattle.scope.specs.Lists.{range}
use Rattle.file_read.specs.Format.{word_at, bits_at, word_bytes}
use Rattle.file_read.proofs.FiniteLaws.{finite_no_nan}
use Rattle.file_write.specs.Puts.{number_bytes, mark_bytes}
use Rattle.std.specs.List.{flat_map}
use Rattle.file_laws.specs.Bytes.{Bytes}

-- ---- one word
four_bytes : (x y z w : ℕ) → x < 256 → y < 256 → z < 256 → w < 256 → word_bytes (x + 256 * y + 65536 * z + 16777216 * w) ≡ x ∷ y ∷ z ∷ w ∷ []
unfolding word_bytes
four_bytes x y z w a b c d =
    let n = x + 256 * y + 65536 * z + 16777216 * w in
    let e0 : n % 256 ≡ x = omega arith in
    let d1 : n / 256 ≡ y + 256 * z + 65536 * w = omega arith in
    let d2 : n / 65536 ≡ z + 256 * w = omega arith in
    let d3 : n / 16777216 ≡ w = omega arith in
    let e1 : (y + 256 * z + 65536 * w) % 256 ≡ y = omega arith in
    let e2 : (z + 256 * w) % 256 ≡ z = omega arith in
    let e3 : w % 256 ≡ w = omega arith in
    rw (e0, d1, d2, d3, e1, e2, e3)

step : (b : List ℕ) (p q : ℕ) → suc p ≡ q → p < length b → drop p b ≡ get_or b p 0 ∷ drop q b
step b p q e l = drop-cons b p 0 l ∙ ap (λ (j : ℕ). get_or b p 0 ∷ drop j b) e

front-four : (b : List ℕ) (p : ℕ) → p + 3 < length b → take 4 (drop p b) ≡ get_or b p 0 ∷ get_or b (p + 1) 0 ∷ get_or b (p + 2) 0 ∷ get_or b (p + 3) 0 ∷ []
front-four b p l =
    ap (λ (r : List ℕ). take 4 r) (step b p (p + 1) (omega arith) (omega arith))
    ∙ ap (λ (r : List ℕ). get_or b p 0 ∷ take 3 r) (step b (p + 1) (p + 2) (omega arith) (omega arith))
    ∙ ap (λ (r : List ℕ). get_or b p 0 ∷ get_or b (p + 1) 0 ∷ take 2 r) (step b (p + 2) (p + 3) (omega arith) (omega arith))
    ∙ ap (λ (r : List ℕ). get_or b p 0 ∷ get_or b (p + 1) 0 ∷ get_or b (p + 2) 0 ∷ take 1 r) (step b (p + 3) (p + 4) (omega arith) (omega arith))

pub word_back : (b : List ℕ) (p : ℕ) → Bytes b → p + 3 < length b → word_bytes (word_at b p) ≡ take 4 (drop p b)
unfolding word_at
word_back b p h l =
    four_bytes (get_or b p 0) (get_or b (p + 1) 0) (get_or b (p + 2) 0) (get_or b (p + 3) 0) (h.at p (omega arith)) (h.at (p + 1) (omega arith)) (h.at (p + 2) (omega arith)) (h.at (p + 3) l)
    ∙ sym (front-four b p l)

word_small : (b : List ℕ) (p : ℕ) → Bytes b → p + 3 < length b → word_at b p < 4294967296
unfolding word_at
word_small b p h l =
    let a0 = h.at p (omega arith) in
    let a1 = h.at (p + 1) (omega arith) in
    let a2 = h.at (p + 2) (omega arith) in
    let a3 = h.at (p + 3) l in
    omega arith

-- ---- one number
two-words : (m n : ℕ) (x : Float) → to_bits binary64 x ≡ m + 4294967296 * n → m < 4294967296 → number_bytes x ≡ word_bytes m ++ word_bytes n
unfolding number_bytes
two-words m n x e l =
    let t = m + 4294967296 * n in
    let a : t % 4294967296 ≡ m = omega arith in
    let b : t / 4294967296 ≡ n = omega arith in
    rw (e, a, b)

bits_back : (n : ℕ) → n < 18446744073709551616 → finite (of_bits binary64 n) ≡ true → to_bits binary64 (of_bits binary64 n) ≡ n
bits_back n l f = to_bits-of_bits binary64 n l (finite_no_nan (of_bits binary64 n) f)

pub number-back : (b : List ℕ) (p : ℕ) → Bytes b → p + 7 < length b → finite (of_bits binary64 (bits_at b p)) ≡ true → number_bytes (of_bits binary64 (bits_at b p)) ≡ take 8 (drop p b)
unfolding bits_at
number-back b p h l f =
    let m = word_at b p in
    let n = word_at b (p + 4) in
    let q : m < 4294967296 = word_small b p h (omega arith) in
    let r : n < 4294967296 = word_small b (p + 4) h (omega arith) in
    two-words m n (of_bits binary64 (m + 4294967296 * n)) (bits_back (m + 4294967296 * n) (omega arith) f) q
    ∙ ap (λ (r : List ℕ). r ++ word_bytes n) (word_back b p h (omega arith))
    ∙ ap (λ (r : List ℕ). take 4 (drop p b) ++ r) (word_back b (p + 4) h (omega arith) ∙ ap (λ (r : List ℕ). take 4 r) (sym (drop-drop 4 p b)))
    ∙ sym (take-add 4 4 (drop p b))

-- ---- one mark
mark-same : (k : ℕ) → k ≤ 1 → mark_bytes k ≡ k ∷ []
unfolding mark_bytes
mark-same zero l = refl
mark-same (suc zero) l = refl
mark-same (suc (suc k)) l = absurd (omega arith)

pub mark-back : (b : List ℕ) (p : ℕ) → p < length b → get_or b p 0 ≤ 1 → mark_bytes (get_or b p 0) ≡ take 1 (drop p b)
mark-back b p l m = mark-same (get_or b p 0) m ∙ sym (ap (λ (r : List ℕ). take 1 r) (step b p (suc p) refl l))

-- ---- a run of items
pub run-back : {A : Type 0} (code : A → List ℕ) (w : ℕ) (f : ℕ → A) (b : List ℕ) (from n k : ℕ) → ((i : ℕ) → i < k + n → code (f i) ≡ take w (drop (from + w * i) b))
    → flat_map code (map f (range k n)) ≡ take (w * n) (drop (from + w * k) b)
unfolding range
run-back code w f b from zero k h = sym (ap (λ (j : ℕ). take j (drop (from + w * k) b)) (mul-zero w))
run-back code w f b from (suc n) k h =
    let p = from + w * k in
    let e : w * suc n ≡ w + w * n = (let m = mul-suc w n in omega arith) in
    let g : from + w * suc k ≡ p + w = (let m = mul-suc w k in omega arith) in
    ap (λ (r : List ℕ). r ++ flat_map code (map f (range (suc k) n))) (h k (omega arith))
    ∙ ap (λ (r : List ℕ). take w (drop p b) ++ r)
    (run-back code w f b from n (suc k) (λ i q. h i (omega arith)) ∙ ap (λ (j : ℕ). take (w * n) (drop j b)) g ∙ ap (λ (r : List ℕ). take (w * n) r) (sym (drop-drop w p b)))
    ∙ sym (ap (λ (j : ℕ). take j (drop p b)) e ∙ take-add w (w * n) (drop p b))
