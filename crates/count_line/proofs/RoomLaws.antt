-- Slices of these sizes have room for any file that the counter takes. Assumes nothing.
use Prim.Native.Nat.{ℕ, ◌*◌, ◌≤◌}
use mathlib.Core.Path.{◌≡◌, refl, sym, ap}
use mathlib.Core.Bool.{Bool, true, false, not}
use mathlib.Core.List.{List}
use Rattle.std.specs.Prelude.{Option, None, Some}
use native.Mathlib.Omega.{arith}
use borrow.Author.Tests.{le-leb, ltb-false}
use lib.Dec.{ltb}
use lib.ListN.{length, replicate, length-replicate}
use lib.Ieee.{Float}
use Rattle.scope.specs.declared.answers.Refusal.{Refusal}
use Rattle.scope.specs.declared.answers.Refusal.TheVariants.{NotFinite}
use Rattle.scope.specs.Lists.{◌or_else◌}
use Rattle.scope.specs.Slices.{sizes, fits, fits_with, links_of, float_zero}
use Rattle.scope.specs.Answers.{refuse_if}
use Rattle.check_mesh.specs.Checked.{slices_at}
use Rattle.file_read.specs.Format.{right, file_counts, file_slices, file_points, all_finite, contents_refusal, link_refusal, read_refusal}
use Rattle.file_read.proofs.ContentsLaws.{right_end}
use Rattle.count_fields.specs.Fields.{counted}
use Rattle.count_line.specs.Says.{saying, deleted_in, counter_says, counter_room, counter_line}

enough : (b : List ℕ) → length b ≤ 65536 → right b ≡ true → fits_with (file_counts b) counter_room 6912 ≡ true
unfolding fits_with fits
enough b l r =
    let c = file_counts b in
    let e = right_end b r in
    let v : c.v ≤ 2304 = omega arith in
    let n : 8 * c.e ≤ 16384 = omega arith in
    let f : c.f ≤ 13312 = omega arith in
    rw (
      le-leb c.v 2304 v,
      le-leb (8 * c.e) 16384 n,
      le-leb c.f 13312 f,
      le-leb c.v 13312 (omega arith),
      le-leb c.e 13312 (omega arith),
      le-leb c.v 1048576 (omega arith),
      le-leb c.e 1048576 (omega arith),
      le-leb c.f 1048576 (omega arith),
      le-leb (3 * c.v) 6912 (omega arith),
    ) refl

or_assoc : {A : Type 0} (a b c : Option A) → ((a or_else b) or_else c) ≡ (a or_else b or_else c)
or_assoc None b c = refl
or_assoc (Some x) b c = refl

-- so the line does not depend on them
line-alone : (b : List ℕ) → counter_says b counter_room 6912 ≡ counter_line b
unfolding counter_says counter_line read_refusal contents_refusal
line-alone b = go (ltb 65536 (length b)) (right b) refl refl
  where
    go : (long fine : Bool) → ltb 65536 (length b) ≡ long → right b ≡ fine → counter_says b counter_room 6912 ≡ counter_line b
    go true fine p q = rw (p) refl
    go false false p q = rw (p, q) refl
    go false true p q = rw (p, q, enough b (ltb-false 65536 (length b) p) q)
        (ap (λ (o : Option Refusal). saying o (counted (links_of (file_counts b) (file_slices b)))) (or_assoc (refuse_if (not (all_finite (file_points b))) NotFinite) (link_refusal b) (deleted_in (file_counts b) (file_slices b))))

-- nor on what fills them
pub in-the-room : (b os es fs vm em fm : List ℕ) (ps : List Float)
    → 2304 ≡ length os → 16384 ≡ length es → 13312 ≡ length fs → 13312 ≡ length vm → 13312 ≡ length em → 13312 ≡ length fm → 6912 ≡ length ps
    → counter_says b (sizes (slices_at os es fs vm em fm)) (length ps) ≡ counter_line b
unfolding sizes
in-the-room b os es fs vm em fm ps o e f v m g p = rw (← o, ← e, ← f, ← v, ← m, ← g, ← p) (line-alone b)

-- zeros, for one
pub in-zeros : (b : List ℕ) → counter_says b (sizes (slices_at (replicate 2304 0) (replicate 16384 0) (replicate 13312 0) (replicate 13312 0) (replicate 13312 0) (replicate 13312 0))) (length (replicate 6912 float_zero)) ≡ counter_line b
in-zeros b =
    let z : (n : ℕ) → n ≡ length (replicate n 0) = λ n. sym (length-replicate {0} {A = ℕ} n 0) in
    in-the-room b _ _ _ _ _ _ (replicate 6912 float_zero) (z 2304) (z 16384) (z 13312) (z 13312) (z 13312) (z 13312) (sym (length-replicate {0} {A = Float} 6912 float_zero))
