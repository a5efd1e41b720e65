-- A file that is written consists of bytes. Assumes nothing.
use Prim.Native.Nat.{ℕ, zero, suc, ◌/◌, ◌%◌, ◌<◌}
use mathlib.Core.List.{List, [], ◌∷◌, ◌++◌}
use native.Mathlib.Omega.{arith}
use lib.Ieee.{Float, binary64, to_bits}
use lib.ListN.{length, get_or}
use Rattle.scope.specs.declared.records.Counts.{Counts}
use Rattle.scope.specs.Slices.{Slices, used, points_of}
use Rattle.file_read.specs.Format.{word_bytes, words_bytes, points_bytes, marks_bytes, contents_of, file_of}
use Rattle.file_laws.specs.Bytes.{Bytes}
use Rattle.file_laws.proofs.Inside.{marks-low}

bytes-none : Bytes []
bytes-none = record { at = λ i q. absurd (omega arith) }

bytes-on-at : (x : ℕ) (l : List ℕ) → x < 256 → Bytes l → (i : ℕ) → i < length (x ∷ l) → get_or (x ∷ l) i 0 < 256
bytes-on-at x l a h zero q = a
bytes-on-at x l a h (suc i) q = h.at i (omega arith)

bytes_on : {x : ℕ} {l : List ℕ} → x < 256 → Bytes l → Bytes (x ∷ l)
bytes_on {x} {l} a h = record { at = bytes-on-at x l a h }

bytes_rest : {x : ℕ} {l : List ℕ} → Bytes (x ∷ l) → Bytes l
bytes_rest h = record { at = λ i q. h.at (suc i) (omega arith) }

bytes-then : {k l : List ℕ} → Bytes k → Bytes l → Bytes (k ++ l)
bytes-then {k} {l} a b = go k a
  where
    go : (k : List ℕ) → Bytes k → Bytes (k ++ l)
    go [] a = b
    go (x ∷ k) a = bytes_on (a.at 0 (omega arith)) (go k (bytes_rest a))

bytes_word : (n : ℕ) → Bytes (word_bytes n)
unfolding word_bytes
bytes_word n = bytes_on (omega arith) (bytes_on (omega arith) (bytes_on (omega arith) (bytes_on (omega arith) bytes-none)))

bytes-words : (l : List ℕ) → Bytes (words_bytes l)
unfolding words_bytes
bytes-words [] = bytes-none
bytes-words (n ∷ l) = bytes-then (bytes_word n) (bytes-words l)

bytes-points : (l : List Float) → Bytes (points_bytes l)
unfolding points_bytes
bytes-points [] = bytes-none
bytes-points (x ∷ l) = let n = to_bits binary64 x in bytes-then (bytes-then (bytes_word (n % 4294967296)) (bytes_word (n / 4294967296))) (bytes-points l)

bytes-marks : (l : List ℕ) → Bytes (marks_bytes l)
bytes-marks l = record { at = λ i q. let m = marks-low l i in omega arith }

pub file-bytes : (c : Counts) (s : Slices) (ps : List Float) → Bytes (file_of c s ps)
unfolding file_of
file-bytes c s ps =
    let u = used c s in
    bytes-then (bytes-then (bytes-then (bytes-then (bytes-then (bytes-then (bytes-then (bytes-words (contents_of c)) (bytes-points (points_of c ps))) (bytes-words u.outs)) (bytes-words u.edges)) (bytes-words u.faces))
    (bytes-marks u.vmarks)) (bytes-marks u.emarks)) (bytes-marks u.fmarks)
