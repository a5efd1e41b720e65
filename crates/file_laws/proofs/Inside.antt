-- What stands in a list of bytes where another list is put into it. Assumes nothing.
use Prim.Native.Nat.{ℕ, zero, suc, ◌+◌, ◌*◌, ◌/◌, ◌%◌, ◌≤◌, ◌<◌}
use mathlib.Core.Path.{◌≡◌, refl, sym, ap, ◌∙◌}
use mathlib.Core.Bool.{Bool, true, false}
use mathlib.Core.List.{List, [], ◌∷◌, ◌++◌}
use native.Mathlib.Omega.{arith}
use lib.Dec.{T, eqb}
use lib.ListN.{length, get_or, length-append, get_or-append}
use lib.Seq.{get_or-append-add, ext_get_or}
use lib.Ieee.{Float, binary64, of_bits, to_bits, fits, nan}
use lib.Ieee.Bits.{of_bits-to_bits, to_bits-lt}
use Rattle.scope.specs.Lists.{if}
use Rattle.file_read.specs.Format.{word_at, bits_at, words, bytes, numbers, word_bytes, words_bytes, points_bytes, marks_bytes}
use Rattle.file_read.proofs.FillLaws.{at_place, length_run}
use Rattle.file_write.proofs.PutLaws.{length-words, length-numbers, length-marks}
use Rattle.file_laws.specs.Trip.{Small, Marks01, Doubles}

pub record Inside (b : List ℕ) (from : ℕ) (x : List ℕ) : Type 0 where
  pub within : from + length x ≤ length b
  pub at : (i : ℕ) → i < length x → get_or b (from + i) 0 ≡ get_or x i 0

pub inside-last : (p x : List ℕ) (from : ℕ) → from ≡ length p → Inside (p ++ x) from x
inside-last p x from e = record {
  within = let l = length-append p x in omega arith;
  at = λ i q. ap (λ (j : ℕ). get_or (p ++ x) (j + i) 0) e ∙ get_or-append-add p x i 0;
}

pub inside-first : (x : List ℕ) → Inside x 0 x
inside-first x = record { within = omega arith; at = λ i q. let e : 0 + i ≡ i = omega arith in ap (λ (j : ℕ). get_or x j 0) e }

pub keep : {b : List ℕ} {from : ℕ} {x : List ℕ} (y : List ℕ) → Inside b from x → Inside (b ++ y) from x
keep {b} {from} {x} y h = record {
  within = let l = length-append b y in let w = h.within in omega arith;
  at = λ i q. get_or-append b y 0 (from + i) (let w = h.within in omega arith) ∙ h.at i q;
}

-- ---- words
pub small-none : Small []
small-none = record { at = λ i q. absurd (omega arith) }

small_at : (x : ℕ) (l : List ℕ) → x < 4294967296 → Small l → (i : ℕ) → i < length (x ∷ l) → get_or (x ∷ l) i 0 < 4294967296
small_at x l a h zero q = a
small_at x l a h (suc i) q = h.at i (omega arith)

pub small-on : {x : ℕ} {l : List ℕ} → x < 4294967296 → Small l → Small (x ∷ l)
small-on {x} {l} a h = record { at = small_at x l a h }

small-tail : {x : ℕ} {l : List ℕ} → Small (x ∷ l) → Small l
small-tail h = record { at = λ i q. h.at (suc i) (omega arith) }

at-word : (b : List ℕ) (from : ℕ) (x : List ℕ) (p : ℕ) → Inside b from x → p + 3 < length x → word_at b (from + p) ≡ word_at x p
unfolding word_at
at-word b from x p h l =
    let e1 : from + p + 1 ≡ from + (p + 1) = omega arith in
    let e2 : from + p + 2 ≡ from + (p + 2) = omega arith in
    let e3 : from + p + 3 ≡ from + (p + 3) = omega arith in
    rw (e1, e2, e3, h.at p (omega arith), h.at (p + 1) (omega arith), h.at (p + 2) (omega arith), h.at (p + 3) (omega arith))

last-and-rest : (n : ℕ) → n % 256 + 256 * (n / 256) ≡ n
last-and-rest n = omega arith

two-off : (n : ℕ) → n / 65536 ≡ n / 256 / 256
two-off n = omega arith

three-off : (n : ℕ) → n / 16777216 ≡ n / 65536 / 256
three-off n = omega arith

top_byte : (n : ℕ) → n < 4294967296 → n / 16777216 % 256 ≡ n / 16777216
top_byte n l = omega arith

join : (n a b c x y z : ℕ) → x + 256 * a ≡ n → y + 256 * b ≡ a → z + 256 * c ≡ b → x + 256 * y + 65536 * z + 16777216 * c ≡ n
join n a b c x y z e f g = omega arith

word-again : (n : ℕ) → n < 4294967296 → n % 256 + 256 * (n / 256 % 256) + 65536 * (n / 65536 % 256) + 16777216 * (n / 16777216 % 256) ≡ n
word-again n l =
    ap (λ (k : ℕ). n % 256 + 256 * (n / 256 % 256) + 65536 * (n / 65536 % 256) + 16777216 * k) (top_byte n l)
    ∙ join n (n / 256) (n / 65536) (n / 16777216) (n % 256) (n / 256 % 256) (n / 65536 % 256) (last-and-rest n)
    (ap (λ (k : ℕ). n / 256 % 256 + 256 * k) (two-off n) ∙ last-and-rest (n / 256))
    (ap (λ (k : ℕ). n / 65536 % 256 + 256 * k) (three-off n) ∙ last-and-rest (n / 65536))

word_first : (n : ℕ) (r : List ℕ) → n < 4294967296 → word_at (word_bytes n ++ r) 0 ≡ n
unfolding word_at word_bytes
word_first n r l = word-again n l

word-later : (n : ℕ) (r : List ℕ) (p : ℕ) → word_at (word_bytes n ++ r) (4 + p) ≡ word_at r p
unfolding word_at word_bytes
word-later n r p =
    let e0 : 4 + p ≡ suc (suc (suc (suc p))) = omega arith in
    let e1 : 4 + p + 1 ≡ suc (suc (suc (suc (p + 1)))) = omega arith in
    let e2 : 4 + p + 2 ≡ suc (suc (suc (suc (p + 2)))) = omega arith in
    let e3 : 4 + p + 3 ≡ suc (suc (suc (suc (p + 3)))) = omega arith in
    rw (e1, e2, e3, e0)

word_in : (l : List ℕ) (i : ℕ) → Small l → i < length l → word_at (words_bytes l) (4 * i) ≡ get_or l i 0
unfolding words_bytes
word_in [] i h q = absurd (omega arith)
word_in (x ∷ l) zero h q = word_first x (words_bytes l) (h.at 0 (omega arith))
word_in (x ∷ l) (suc i) h q =
    let e : 4 * suc i ≡ 4 + 4 * i = omega arith in
    ap (λ (j : ℕ). word_at (word_bytes x ++ words_bytes l) j) e ∙ word-later x (words_bytes l) (4 * i) ∙ word_in l i (small-tail h) (omega arith)

pub word_read : (b : List ℕ) (from : ℕ) (l : List ℕ) (i : ℕ) → Inside b from (words_bytes l) → Small l → i < length l → word_at b (from + 4 * i) ≡ get_or l i 0
word_read b from l i h s q =
    let w = length-words l in
    at-word b from (words_bytes l) (4 * i) h (omega arith) ∙ word_in l i s q

pub words-read : (b : List ℕ) (from n : ℕ) (l : List ℕ) → Inside b from (words_bytes l) → Small l → length l ≡ n → words b from n ≡ l
words-read b from n l h s e =
    let f : ℕ → ℕ = λ i. word_at b (from + 4 * i) in
    let k : length (words b from n) ≡ n = length_run f n in
    ext_get_or 0 (words b from n) l (k ∙ sym e) (λ i q. at_place f n i 0 (omega arith) ∙ word_read b from l i h s (omega arith))

-- ---- marks
mark-kept : (k : ℕ) → k ≤ 1 → if (eqb k 0) 0 1 ≡ k
mark-kept zero l = refl
mark-kept (suc zero) l = refl
mark-kept (suc (suc k)) l = absurd (omega arith)

mark-in : (l : List ℕ) (i : ℕ) → i < length l → get_or l i 0 ≤ 1 → get_or (marks_bytes l) i 0 ≡ get_or l i 0
unfolding marks_bytes
mark-in [] i q m = absurd (omega arith)
mark-in (x ∷ l) zero q m = mark-kept x m
mark-in (x ∷ l) (suc i) q m = mark-in l i (omega arith) m

-- marks 0 or 1 are written as they are
pub marks-kept : (l : List ℕ) → Marks01 l → marks_bytes l ≡ l
marks-kept l m = let w = length-marks l in ext_get_or 0 (marks_bytes l) l w (λ i q. mark-in l i (omega arith) (m.at i (omega arith)))

pub marks-read : (b : List ℕ) (from n : ℕ) (l : List ℕ) → Inside b from (marks_bytes l) → length l ≡ n → bytes b from n ≡ marks_bytes l
marks-read b from n l h e =
    let f : ℕ → ℕ = λ i. get_or b (from + i) 0 in
    let k : length (bytes b from n) ≡ n = length_run f n in
    let w = length-marks l in
    ext_get_or 0 (bytes b from n) (marks_bytes l) (k ∙ sym e ∙ sym w) (λ i q. at_place f n i 0 (omega arith) ∙ h.at i (omega arith))

-- ---- numbers
doubles-tail : {x : Float} {l : List Float} → Doubles (x ∷ l) → Doubles l
doubles-tail h = record { at = λ i q. h.at (suc i) (omega arith) }

two-words : (m n : ℕ) (r : List ℕ) → word_bytes m ++ word_bytes n ++ r ≡ word_bytes m ++ (word_bytes n ++ r)
unfolding word_bytes
two-words m n r = refl

bits-first : (x : Float) (r : List ℕ) → T (fits binary64 x) → bits_at (word_bytes (to_bits binary64 x % 4294967296) ++ word_bytes (to_bits binary64 x / 4294967296) ++ r) 0 ≡ to_bits binary64 x
unfolding bits_at
bits-first x r t =
    let n = to_bits binary64 x in
    let l : n < 18446744073709551616 = to_bits-lt binary64 x t in
    let a : word_at (word_bytes (n % 4294967296) ++ word_bytes (n / 4294967296) ++ r) 0 ≡ n % 4294967296 = ap (λ (h : List ℕ). word_at h 0) (two-words (n % 4294967296) (n / 4294967296) r) ∙ word_first (n % 4294967296) (word_bytes (n / 4294967296) ++ r) (omega arith) in
    let c : word_at (word_bytes (n % 4294967296) ++ word_bytes (n / 4294967296) ++ r) (0 + 4) ≡ n / 4294967296 = ap (λ (h : List ℕ). word_at h 4) (two-words (n % 4294967296) (n / 4294967296) r) ∙ word-later (n % 4294967296) (word_bytes (n / 4294967296) ++ r) 0 ∙ word_first (n / 4294967296) r (omega arith) in
    rw (a, c) (omega arith)

bits-later : (x : Float) (r : List ℕ) (p : ℕ) → bits_at (word_bytes (to_bits binary64 x % 4294967296) ++ word_bytes (to_bits binary64 x / 4294967296) ++ r) (8 + p) ≡ bits_at r p
unfolding bits_at word_at word_bytes
bits-later x r p =
    let e0 : 8 + p ≡ suc (suc (suc (suc (suc (suc (suc (suc p))))))) = omega arith in
    let e1 : 8 + p + 1 ≡ suc (suc (suc (suc (suc (suc (suc (suc (p + 1)))))))) = omega arith in
    let e2 : 8 + p + 2 ≡ suc (suc (suc (suc (suc (suc (suc (suc (p + 2)))))))) = omega arith in
    let e3 : 8 + p + 3 ≡ suc (suc (suc (suc (suc (suc (suc (suc (p + 3)))))))) = omega arith in
    let e4 : 8 + p + 4 ≡ suc (suc (suc (suc (suc (suc (suc (suc (p + 4)))))))) = omega arith in
    let e5 : 8 + p + 4 + 1 ≡ suc (suc (suc (suc (suc (suc (suc (suc (p + 4 + 1)))))))) = omega arith in
    let e6 : 8 + p + 4 + 2 ≡ suc (suc (suc (suc (suc (suc (suc (suc (p + 4 + 2)))))))) = omega arith in
    let e7 : 8 + p + 4 + 3 ≡ suc (suc (suc (suc (suc (suc (suc (suc (p + 4 + 3)))))))) = omega arith in
    rw (e5, e6, e7, e4, e1, e2, e3, e0)

bits_in : (l : List Float) (i : ℕ) → Doubles l → i < length l → bits_at (points_bytes l) (8 * i) ≡ to_bits binary64 (get_or l i nan)
unfolding points_bytes
bits_in [] i h q = absurd (omega arith)
bits_in (x ∷ l) zero h q = bits-first x (points_bytes l) (h.at 0 (omega arith))
bits_in (x ∷ l) (suc i) h q =
    let e : 8 * suc i ≡ 8 + 8 * i = omega arith in
    ap (λ (j : ℕ). bits_at (points_bytes (x ∷ l)) j) e ∙ bits-later x (points_bytes l) (8 * i) ∙ bits_in l i (doubles-tail h) (omega arith)

at_bits : (b : List ℕ) (from : ℕ) (x : List ℕ) (p : ℕ) → Inside b from x → p + 7 < length x → bits_at b (from + p) ≡ bits_at x p
unfolding bits_at
at_bits b from x p h l =
    let e : from + p + 4 ≡ from + (p + 4) = omega arith in
    rw (e, at-word b from x p h (omega arith), at-word b from x (p + 4) h (omega arith))

pub numbers-read : (b : List ℕ) (from n : ℕ) (l : List Float) → Inside b from (points_bytes l) → Doubles l → length l ≡ n → numbers b from n ≡ l
numbers-read b from n l h d e =
    let f : ℕ → Float = λ i. of_bits binary64 (bits_at b (from + 8 * i)) in
    let k : length (numbers b from n) ≡ n = length_run f n in
    let w = length-numbers l in
    ext_get_or nan (numbers b from n) l (k ∙ sym e)
    (λ i q. at_place f n i nan (omega arith)
    ∙ ap (λ (j : ℕ). of_bits binary64 j) (at_bits b from (points_bytes l) (8 * i) h (omega arith) ∙ bits_in l i d (omega arith))
    ∙ of_bits-to_bits binary64 (get_or l i nan) (d.at i (omega arith)))

-- a mark that is written is 0 or 1
one-or-none : (t : Bool) → if t 0 1 ≤ 1
one-or-none true = omega arith
one-or-none false = omega arith

pub marks-low : (l : List ℕ) (i : ℕ) → get_or (marks_bytes l) i 0 ≤ 1
unfolding marks_bytes
marks-low [] i = omega arith
marks-low (x ∷ l) zero = one-or-none (eqb x 0)
marks-low (x ∷ l) (suc i) = marks-low l i
