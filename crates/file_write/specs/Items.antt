-- Items in a row, each as its bytes. Assumes nothing.
use Rattle.std.specs.Prelude.{◌≡◌, refl, ℕ, ◌<◌, List, [], ◌∷◌, ◌++◌, length, get_or, Float}
use Rattle.std.proofs.Common.{ap}
use Rattle.std.specs.List.{flat_map}
use Rattle.file_read.specs.Format.{word_bytes, words_bytes, points_bytes, marks_bytes}
use Rattle.file_write.specs.Puts.{number_bytes, mark_bytes}

-- the bytes of a list are those of each item, one after another
pub record Items {A : Type 0} (bytes : A → List ℕ) (all_bytes : List A → List ℕ) : Type 0 where
  pub flat : (l : List A) → all_bytes l ≡ flat_map bytes l

-- each item of a list can be written
pub record AllFit {A : Type 0} (fit : A → Type 0) (l : List A) : Type 0 where
  pub at : (i : ℕ) (d : A) → i < length l → fit (get_or l i d)

words-flat : (l : List ℕ) → words_bytes l ≡ flat_map word_bytes l
unfolding words_bytes
words-flat [] = refl
words-flat (x ∷ l) = ap (λ (r : List ℕ). word_bytes x ++ r) (words-flat l)

numbers-flat : (l : List Float) → points_bytes l ≡ flat_map number_bytes l
unfolding points_bytes number_bytes word_bytes
numbers-flat [] = refl
numbers-flat (x ∷ l) = ap (λ (r : List ℕ). number_bytes x ++ r) (numbers-flat l)

marks-flat : (l : List ℕ) → marks_bytes l ≡ flat_map mark_bytes l
unfolding marks_bytes mark_bytes
marks-flat [] = refl
marks-flat (x ∷ l) = ap (λ (r : List ℕ). mark_bytes x ++ r) (marks-flat l)

pub words_laws : Items word_bytes words_bytes
words_laws = record { flat = words-flat }

pub numbers_laws : Items number_bytes points_bytes
numbers_laws = record { flat = numbers-flat }

pub marks_laws : Items mark_bytes marks_bytes
marks_laws = record { flat = marks-flat }
