-- What is known of a file whose contents are right. Assumes nothing.
use Prim.Native.Nat.{ℕ, ◌+◌, ◌-◌, ◌≤◌, ◌<◌}
use mathlib.Core.Path.{◌≡◌, refl, sym}
use mathlib.Core.Bool.{Bool, true, false, ◌&&◌}
use mathlib.Core.List.{List}
use native.Mathlib.Omega.{arith}
use borrow.Author.Tests.{eqb-true, le-leb, lt-leb, eq-eqb, ne_eqb, leb-true}
use lib.Dec.{eqb, leb}
use lib.ListN.{length}
use Rattle.scope.specs.declared.records.Counts.{Counts}
use Rattle.laws_check.proofs.Tells.{never}
use Rattle.file_read.specs.Format.{word_at, content, file_counts, points_from, outs_from, edges_from, faces_from, marks_from, row_right, file_end, rows_right, marks_right, right}

pub and_last : (a b : Bool) → (a && b) ≡ true → b ≡ true
and_last true b e = e
and_last false b e = never (sym e)

pub and_first : (a b : Bool) → (a && b) ≡ true → a ≡ true
and_first true b e = refl
and_first false b e = never (sym e)

abbrev rows-said : List ℕ → Counts → Bool
rows-said b c =
    row_right b 0 (points_from c) c.v && row_right b 1 (outs_from c) c.v && row_right b 2 (edges_from c) c.e
    && row_right b 3 (faces_from c) c.f && row_right b 4 (marks_from c) (c.v + c.e + c.f)

pub rows_end : (b : List ℕ) (c : Counts) → rows_right b c ≡ true → length b ≡ file_end c
unfolding rows_right
rows_end b c e = eqb-true (length b) (file_end c) (and_last (rows-said b c) (eqb (length b) (file_end c)) e)

-- ---- the ways to the answer
pub short-file : (b : List ℕ) → length b < 64 → false ≡ right b
unfolding right
short-file b l = rw (lt-leb _ _ l)

pub other_format : (b : List ℕ) → 64 ≤ length b → (word_at b 0 ≡ 1 → ⊥) → false ≡ right b
unfolding right
other_format b l n = rw (le-leb _ _ l, ne_eqb _ _ n)

pub other-rows : (b : List ℕ) (c : Counts) → c ≡ file_counts b → 64 ≤ length b → word_at b 0 ≡ 1 → rows_right b c ≡ false → false ≡ right b
unfolding right
other-rows b c e l w r = rw (← e, le-leb _ _ l, eq-eqb _ _ w, r)

pub by-marks : (b : List ℕ) (c : Counts) {x : Bool} → c ≡ file_counts b → 64 ≤ length b → word_at b 0 ≡ 1 → rows_right b c ≡ true
    → x ≡ marks_right b (length b - (c.v + c.e + c.f)) (c.v + c.e + c.f) → x ≡ right b
unfolding right
by-marks b c e l w r q =
    let t = rows_end b c r in
    let k : length b - (c.v + c.e + c.f) ≡ marks_from c = omega arith in
    rw (← e, le-leb _ _ l, eq-eqb _ _ w, r, ← k) q

-- ---- what a caller knows
abbrev the-marks : List ℕ → Bool
the-marks b = let c = file_counts b in marks_right b (marks_from c) (c.v + c.e + c.f)

pub right_long : (b : List ℕ) → right b ≡ true → 64 ≤ length b
unfolding right
right_long b e =
    leb-true 64 (length b)
    (and_first (leb 64 (length b)) (eqb (content b 0) 1)
    (and_first (leb 64 (length b) && eqb (content b 0) 1) (rows_right b (file_counts b))
    (and_first (leb 64 (length b) && eqb (content b 0) 1 && rows_right b (file_counts b)) (the-marks b) e)))

pub right_end : (b : List ℕ) → right b ≡ true → length b ≡ file_end (file_counts b)
unfolding right
right_end b e =
    rows_end b (file_counts b)
    (and_last (leb 64 (length b) && eqb (content b 0) 1) (rows_right b (file_counts b))
    (and_first (leb 64 (length b) && eqb (content b 0) 1 && rows_right b (file_counts b)) (the-marks b) e))
