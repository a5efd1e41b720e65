-- A file that is right, whose coordinates are finite: what it holds, written again, is the file byte by byte. Assumes nothing.
use Prim.Native.Nat.{ℕ, ◌+◌, ◌*◌, ◌≤◌, ◌<◌}
use mathlib.Core.Path.{◌≡◌, refl, sym, ap, ◌∙◌}
use mathlib.Core.Bool.{true}
use mathlib.Core.List.{List, ◌++◌}
use native.Mathlib.Omega.{arith}
use lib.ListN.{length, get_or, take, drop}
use lib.Seq.{take_all, take-add, take-length}
use lib.Ieee.{Float, binary64, of_bits, nan}
use lib.Ieee.Scale.{finite}
use Rattle.scope.specs.declared.records.Counts.{Counts}
use Rattle.scope.specs.Slices.{used, points_of}
use Rattle.file_read.specs.Format.{word_at, bits_at, file_counts, file_slices, file_points, all_finite, right, words, bytes, numbers, outs_from, edges_from, faces_from, marks_from, word_bytes, words_bytes, points_bytes, marks_bytes, contents_of, file_of}
use Rattle.file_read.proofs.FillLaws.{at_place, length_run, all-at}
use Rattle.file_write.specs.Puts.{number_bytes, mark_bytes}
use Rattle.file_write.proofs.PutLaws.{words-flat, numbers-flat, marks-flat}
use Rattle.file_laws.specs.Bytes.{Bytes}
use Rattle.file_laws.proofs.Parts.{word_back, number-back, mark-back, run-back}
use Rattle.file_laws.proofs.Said.{Said, said}

-- ---- runs
start : (w from n : ℕ) (b : List ℕ) → take (w * n) (drop (from + w * 0) b) ≡ take (w * n) (drop from b)
start w from n b = let z : from + w * 0 ≡ from = omega arith in ap (λ (j : ℕ). take (w * n) (drop j b)) z

words_back : (b : List ℕ) (from n : ℕ) → Bytes b → from + 4 * n ≤ length b → words_bytes (words b from n) ≡ take (4 * n) (drop from b)
words_back b from n h l =
    words-flat (words b from n) ∙ run-back word_bytes 4 (λ i. word_at b (from + 4 * i)) b from n 0 (λ i q. word_back b (from + 4 * i) h (omega arith)) ∙ start 4 from n b

marks-back : (b : List ℕ) (from n : ℕ) → from + n ≤ length b → ((i : ℕ) → i < n → get_or b (from + i) 0 ≤ 1) → marks_bytes (bytes b from n) ≡ take n (drop from b)
marks-back b from n l m =
    let z : 1 * n ≡ n = omega arith in
    marks-flat (bytes b from n)
    ∙ run-back mark_bytes 1 (λ i. get_or b (from + i) 0) b from n 0 (λ i q. mark-back b (from + i) (omega arith) (m i (omega arith)) ∙ ap (λ (j : ℕ). take 1 (drop j b)) (let y : from + i ≡ from + 1 * i = omega arith in y))
    ∙ start 1 from n b ∙ ap (λ (j : ℕ). take j (drop from b)) z

numbers-back : (b : List ℕ) (from n : ℕ) → Bytes b → from + 8 * n ≤ length b → all_finite (numbers b from n) ≡ true → points_bytes (numbers b from n) ≡ take (8 * n) (drop from b)
unfolding all_finite
numbers-back b from n h l f =
    let ps = numbers b from n in
    let g : ℕ → Float = λ i. of_bits binary64 (bits_at b (from + 8 * i)) in
    let s : length ps ≡ n = length_run g n in
    let fin : (i : ℕ) → i < n → finite (g i) ≡ true = λ i q. ap finite (sym (at_place g n i nan q)) ∙ all-at (λ j. finite (get_or ps j nan)) (length ps) f i (omega arith) in
    numbers-flat ps ∙ run-back number_bytes 8 g b from n 0 (λ i q. number-back b (from + 8 * i) h (omega arith) (fin i (omega arith))) ∙ start 8 from n b

mark-at : (b : List ℕ) (p n i : ℕ) → get_or b (p + (n + i)) 0 ≤ 1 → get_or b (p + n + i) 0 ≤ 1
mark-at b p n i l = let e : p + n + i ≡ p + (n + i) = omega arith in rw e l

mark-at-two : (b : List ℕ) (p n k i : ℕ) → get_or b (p + (n + k + i)) 0 ≤ 1 → get_or b (p + n + k + i) 0 ≤ 1
mark-at-two b p n k i l = let e : p + n + k + i ≡ p + (n + k + i) = omega arith in rw e l

-- ---- part after part
joined : (b : List ℕ) (p n q : ℕ) (x y : List ℕ) → x ≡ take p b → y ≡ take n (drop p b) → q ≡ p + n → x ++ y ≡ take q b
joined b p n q x y e f g = rw (e, f, g) (sym (take-add p n b))

all_of : {A : Type 0} (f : List A) (n : ℕ) → length f ≡ n → take n f ≡ f
all_of f n e = take_all n f (omega arith)

used-words : (b : List ℕ) (from n : ℕ) → take n (words b from n) ≡ words b from n
used-words b from n = all_of (words b from n) n (length_run (λ i. word_at b (from + 4 * i)) n)

used-bytes : (b : List ℕ) (from n : ℕ) → take n (bytes b from n) ≡ bytes b from n
used-bytes b from n = all_of (bytes b from n) n (length_run (λ i. get_or b (from + i) 0) n)

used-numbers : (b : List ℕ) (from n : ℕ) → take n (numbers b from n) ≡ numbers b from n
used-numbers b from n = all_of (numbers b from n) n (length_run (λ i. of_bits binary64 (bits_at b (from + 8 * i))) n)

-- the file of counts c, of what stands in b where such a file has it
abbrev again : List ℕ → Counts → List ℕ
again b c =
    words_bytes (contents_of c)
    ++ points_bytes (numbers b 64 (3 * c.v))
    ++ words_bytes (words b (outs_from c) c.v) ++ words_bytes (words b (edges_from c) (8 * c.e)) ++ words_bytes (words b (faces_from c) c.f)
    ++ marks_bytes (bytes b (marks_from c) c.v) ++ marks_bytes (bytes b (marks_from c + c.v) c.e) ++ marks_bytes (bytes b (marks_from c + c.v + c.e) c.f)

whole : (b : List ℕ) (c : Counts) → Bytes b → Said b c → all_finite (numbers b 64 (3 * c.v)) ≡ true → again b c ≡ b
whole b c h s f =
    let l = s.end in
    let m = s.marks in
    let x0 = words_bytes (contents_of c) in
    let x1 = points_bytes (numbers b 64 (3 * c.v)) in
    let x2 = words_bytes (words b (outs_from c) c.v) in
    let x3 = words_bytes (words b (edges_from c) (8 * c.e)) in
    let x4 = words_bytes (words b (faces_from c) c.f) in
    let x5 = marks_bytes (bytes b (marks_from c) c.v) in
    let x6 = marks_bytes (bytes b (marks_from c + c.v) c.e) in
    let x7 = marks_bytes (bytes b (marks_from c + c.v + c.e) c.f) in
    let p0 : x0 ≡ take 64 b = ap words_bytes s.contents ∙ words_back b 0 16 h (omega arith) in
    let p1 : x0 ++ x1 ≡ take (outs_from c) b = joined b 64 (8 * (3 * c.v)) (outs_from c) x0 x1 p0 (numbers-back b 64 (3 * c.v) h (omega arith) f) (omega arith) in
    let p2 : x0 ++ x1 ++ x2 ≡ take (edges_from c) b = joined b (outs_from c) (4 * c.v) (edges_from c) (x0 ++ x1) x2 p1 (words_back b (outs_from c) c.v h (omega arith)) (omega arith) in
    let p3 : x0 ++ x1 ++ x2 ++ x3 ≡ take (faces_from c) b =
    joined b (edges_from c) (4 * (8 * c.e)) (faces_from c) (x0 ++ x1 ++ x2) x3 p2 (words_back b (edges_from c) (8 * c.e) h (omega arith)) (omega arith) in
    let p4 : x0 ++ x1 ++ x2 ++ x3 ++ x4 ≡ take (marks_from c) b =
    joined b (faces_from c) (4 * c.f) (marks_from c) (x0 ++ x1 ++ x2 ++ x3) x4 p3 (words_back b (faces_from c) c.f h (omega arith)) (omega arith) in
    let p5 : x0 ++ x1 ++ x2 ++ x3 ++ x4 ++ x5 ≡ take (marks_from c + c.v) b =
    joined b (marks_from c) c.v (marks_from c + c.v) (x0 ++ x1 ++ x2 ++ x3 ++ x4) x5 p4 (marks-back b (marks_from c) c.v (omega arith) (λ i q. m i (omega arith))) refl in
    let p6 : x0 ++ x1 ++ x2 ++ x3 ++ x4 ++ x5 ++ x6 ≡ take (marks_from c + c.v + c.e) b =
    joined b (marks_from c + c.v) c.e (marks_from c + c.v + c.e) (x0 ++ x1 ++ x2 ++ x3 ++ x4 ++ x5) x6 p5
    (marks-back b (marks_from c + c.v) c.e (omega arith) (λ i q. mark-at b (marks_from c) c.v i (m (c.v + i) (omega arith)))) refl in
    joined b (marks_from c + c.v + c.e) c.f (length b) (x0 ++ x1 ++ x2 ++ x3 ++ x4 ++ x5 ++ x6) x7 p6
    (marks-back b (marks_from c + c.v + c.e) c.f (omega arith) (λ i q. mark-at-two b (marks_from c) c.v c.e i (m (c.v + c.e + i) (omega arith)))) (omega arith)
    ∙ take-length b

-- written again
pub written-again : (b : List ℕ) → Bytes b → right b ≡ true → all_finite (file_points b) ≡ true → file_of (file_counts b) (file_slices b) (file_points b) ≡ b
unfolding file_of used points_of file_slices file_points
written-again b h r f =
    let c = file_counts b in
    rw (
      used-numbers b 64 (3 * c.v),
      used-words b (outs_from c) c.v,
      used-words b (edges_from c) (8 * c.e),
      used-words b (faces_from c) c.f,
      used-bytes b (marks_from c) c.v,
      used-bytes b (marks_from c + c.v) c.e,
      used-bytes b (marks_from c + c.v + c.e) c.f,
    )
    (whole b c h (said b r) f)
