-- Words, numbers and marks put into a slice, one after another. Assumes nothing.
use native.Mathlib.Nat.{mul-suc, mul-zero}
use Prim.Native.Nat.{ℕ, suc, ◌+◌, ◌*◌, ◌≤◌, ◌<◌}
use mathlib.Core.Path.{◌≡◌, refl, sym, ap, ◌∙◌}
use mathlib.Core.List.{List, [], ◌∷◌, ◌++◌, append-nil}
use native.Mathlib.Omega.{arith}
use lib.Ieee.{Float, binary64, to_bits}
use lib.ListN.{length, get_or, take, length-append}
use Rattle.std.specs.Int.{w64, to_le_bytes}
use Rattle.std.specs.List.{flat_map}
use Rattle.std.proofs.lemmas.Grind.{flat_map-append}
use Rattle.std.proofs.lemmas.List.Folds.{length-flat_map-take}
use Rattle.std.proofs.Common.{take-suc}
use lib.Seq.{take-length}
use Rattle.text.specs.Text.{over_from}
use Rattle.text.proofs.PutLaws.{Written, written_on, over_none}
use Rattle.file_read.specs.Format.{word_bytes, words_bytes, points_bytes, marks_bytes}
use Rattle.file_write.specs.Items.{Items, words_laws, numbers_laws, marks_laws}
use Rattle.file_write.specs.Puts.{number_bytes, mark_bytes}

-- ---- one item
eight : {a b c d e f g h a' b' c' d' e' f' g' h' : ℕ} → a ≡ a' → b ≡ b' → c ≡ c' → d ≡ d' → e ≡ e' → f ≡ f' → g ≡ g' → h ≡ h'
    → (a ∷ b ∷ c ∷ d ∷ e ∷ f ∷ g ∷ h ∷ []) ≡ (a' ∷ b' ∷ c' ∷ d' ∷ e' ∷ f' ∷ g' ∷ h' ∷ [])
eight i j k l m n o p = rw (i, j, k, l, m, n, o, p)

pub number_le : (x : Float) → to_le_bytes w64 (to_bits binary64 x) ≡ number_bytes x
unfolding number_bytes word_bytes
number_le x = eight (omega arith) (omega arith) (omega arith) (omega arith) refl (omega arith) (omega arith) (omega arith)

pub length_number : (x : Float) → length (number_bytes x) ≡ 8
unfolding number_bytes word_bytes
length_number x = refl

-- ---- a list of them, before the item at place i
step : {A : Type 0} (bytes : A → List ℕ) (l : List A) (i : ℕ) (d : A) → i < length l → flat_map bytes (take (i + 1) l) ≡ flat_map bytes (take i l) ++ bytes (get_or l i d)
step {A} bytes l i d b =
    let s : i + 1 ≡ suc i = omega arith in
    ap (λ (j : ℕ). flat_map bytes (take j l)) s ∙ ap (λ (h : List A). flat_map bytes h) (take-suc l i d b) ∙ flat_map-append bytes (take i l) (get_or l i d ∷ [])
    ∙ ap (λ (r : List ℕ). flat_map bytes (take i l) ++ r) (append-nil (bytes (get_or l i d)))

pub record Row {A : Type 0} (bytes : A → List ℕ) (l : List A) (at : ℕ) (old : List ℕ) (i p : ℕ) (s : List ℕ) : Type 0 where
  pub so : Written at old (flat_map bytes (take i l)) p s

pub row_none : {A : Type 0} {bytes : A → List ℕ} {l : List A} {at : ℕ} {old : List ℕ} → Row bytes l at old 0 at old
row_none {A} {bytes} {l} {at} {old} = record { so = record { text = over_none at old; place = omega arith } }

pub row_on : {A : Type 0} {bytes : A → List ℕ} {l : List A} {at : ℕ} {old : List ℕ} {i p q : ℕ} {s t : List ℕ} (x : A) → x ≡ get_or l i x → Row bytes l at old i p s → i < length l
    → t ≡ over_from p (bytes x) s → q ≡ p + length (bytes x) → Row bytes l at old (i + 1) q t
row_on {A} {bytes} {l} {at} {old} {i} {p} {q} {s} {t} x k w b e f =
    let z : bytes (get_or l i x) ≡ bytes x = ap bytes (sym k) in
    record { so = rw (step bytes l i x b, z) (written_on (bytes x) w.so e f) }

-- there is room for the item that is next
pub row_room : {A : Type 0} {bytes : A → List ℕ} {all_bytes : List A → List ℕ} {l : List A} {at : ℕ} {old : List ℕ} {i p : ℕ} {s : List ℕ} (x : A) → x ≡ get_or l i x → Items bytes all_bytes
    → Row bytes l at old i p s → i < length l → at + length (all_bytes l) ≤ length old → p + length (bytes x) ≤ length old
row_room {A} {bytes} {all_bytes} {l} {at} {old} {i} {p} {s} x k h w b r =
    let e : length (all_bytes l) ≡ length (flat_map bytes l) = ap length (h.flat l) in
    let f : length (bytes x) ≡ length (bytes (get_or l i x)) = ap (λ (y : A). length (bytes y)) k in
    let m = length-flat_map-take bytes l i x b in
    let z = w.so.place in
    omega arith

pub row_done : {A : Type 0} {bytes : A → List ℕ} {all_bytes : List A → List ℕ} {l : List A} {at : ℕ} {old : List ℕ} {i p : ℕ} {s : List ℕ} → Items bytes all_bytes
    → Row bytes l at old i p s → i ≡ length l → Written at old (all_bytes l) p s
row_done {A} {bytes} {all_bytes} {l} k w e = rw (k.flat l, sym (take-length l), sym e) w.so

-- ---- lengths of the bodies
pub words-flat : (l : List ℕ) → words_bytes l ≡ flat_map word_bytes l
words-flat l = words_laws.flat l

pub numbers-flat : (l : List Float) → points_bytes l ≡ flat_map number_bytes l
numbers-flat l = numbers_laws.flat l

pub marks-flat : (l : List ℕ) → marks_bytes l ≡ flat_map mark_bytes l
marks-flat l = marks_laws.flat l

length-flat : {A : Type 0} (bytes : A → List ℕ) (w : ℕ) → ((x : A) → length (bytes x) ≡ w) → (l : List A) → length (flat_map bytes l) ≡ w * length l
length-flat bytes w e [] = sym (mul-zero w)
length-flat bytes w e (x ∷ l) =
    let a = length-append (bytes x) (flat_map bytes l) in
    let b = e x in
    let r = length-flat bytes w e l in
    let m = mul-suc w (length l) in
    omega arith

pub length-words : (l : List ℕ) → length (words_bytes l) ≡ 4 * length l
unfolding word_bytes
length-words l = ap length (words-flat l) ∙ length-flat word_bytes 4 (λ x. refl) l

pub length-numbers : (l : List Float) → length (points_bytes l) ≡ 8 * length l
unfolding number_bytes word_bytes
length-numbers l = ap length (numbers-flat l) ∙ length-flat number_bytes 8 (λ x. refl) l

pub length-marks : (l : List ℕ) → length (marks_bytes l) ≡ length l
unfolding mark_bytes
length-marks l = let e = length-flat mark_bytes 1 (λ x. refl) l in let g : length (marks_bytes l) ≡ length (flat_map mark_bytes l) = ap length (marks-flat l) in omega arith
