-- What read leaves, written: the file, byte by byte, or nothing where there is no room for it. Assumes nothing.
use Prim.Native.Nat.{ℕ, ◌+◌, ◌*◌, ◌≤◌, ◌<◌}
use mathlib.Core.Path.{◌≡◌, refl, sym, ap, ◌∙◌, subst⁻¹}
use mathlib.Core.Bool.{true}
use mathlib.Core.List.{List}
use Rattle.std.specs.Prelude.{Option, None, Some, Ok}
use native.Mathlib.Omega.{arith}
use lib.ListN.{length, take}
use lib.Seq.{take_all}
use lib.Ieee.{Float, binary64, of_bits}
use Rattle.scope.specs.declared.records.Counts.{Counts}
use Rattle.scope.specs.declared.answers.Refusal.{Refusal}
use Rattle.scope.specs.Lists.{◌or_else◌, over}
use Rattle.scope.specs.Slices.{Slices, sizes, fits, fits_with, used, points_of, float_zero}
use Rattle.mesh.proofs.SliceLaws.{length-lay}
use Rattle.file_read.specs.Format.{Lent, bits_at, file_counts, file_slices, file_points, file_end, file_of, all_finite, right, numbers, laid, read_refusal, contents_refusal, read_leaves, write_refusal}
use Rattle.file_read.proofs.FillLaws.{length_run}
use Rattle.file_read.proofs.ReadLaws.{reading-read, contents-none, right_room, sizes-laid, front, used-laid}
use Rattle.file_write.proofs.WriteLaws.{all_well, too_long, answer_none, answer_some, says_written, says_refused, fits_both, leaves_file, leaves_old}
use Rattle.file_laws.specs.Bytes.{Bytes}
use Rattle.file_laws.specs.Calls.{read_answer, read_left, Writes, ReadWrites, WritesNothing, ReadTooLong}
use Rattle.file_laws.proofs.Back.{written-again}

-- a file's bytes depend on what is used of the slices only
same-file : (c : Counts) (s r : Slices) (ps qs : List Float) → used c s ≡ used c r → points_of c ps ≡ points_of c qs → file_of c s ps ≡ file_of c r qs
unfolding file_of
same-file c s r ps qs e f = rw (e, f)

points-laid : (b : List ℕ) (l : Lent) → 3 * (file_counts b).v ≤ length l.points → points_of (file_counts b) (laid (file_slices b) (file_points b) l).points ≡ points_of (file_counts b) (file_points b)
unfolding points_of laid file_points
points-laid b l q = front float_zero (3 * (file_counts b).v) (λ i. of_bits binary64 (bits_at b (64 + 8 * i))) l.points q

points-used : (b : List ℕ) → points_of (file_counts b) (file_points b) ≡ file_points b
unfolding points_of file_points
points-used b =
    let n = 3 * (file_counts b).v in
    let e = length_run (λ i. of_bits binary64 (bits_at b (64 + 8 * i))) n in
    take_all n (numbers b 64 n) (omega arith)

points-long : (b : List ℕ) (l : Lent) → length (laid (file_slices b) (file_points b) l).points ≡ length l.points
unfolding laid
points-long b l = length-lay float_zero (file_points b) l.points

module _ (b : List ℕ) (l : Lent) (old : List ℕ) (r : right b ≡ true) (e : fits_with (file_counts b) (sizes l.slices) (length l.points) ≡ true) (f : all_finite (file_points b) ≡ true) where
  abbrev c : Counts
  c = file_counts b

  abbrev g : Lent
  g = laid (file_slices b) (file_points b) l

  abbrev o : Option Refusal
  o = write_refusal c g.slices g.points (length old)

  fit : (fits c (sizes l.slices) ≡ true) × (3 * c.v ≤ length l.points)
  fit = fits_both c l.slices (length l.points) e

  fit-left : (fits c (sizes g.slices) ≡ true) × (3 * c.v ≤ length g.points)
  fit-left = let long = points-long b l in let room = fit.1 in (rw (sizes-laid (file_slices b) (file_points b) l) fit.0, omega arith)

  finite-left : all_finite (take (3 * c.v) g.points) ≡ true
  unfolding points_of
  finite-left = ap all_finite (points-laid b l fit.1 ∙ points-used b) ∙ f

  is-file : Bytes b → file_of c g.slices g.points ≡ b
  is-file h = same-file c g.slices (file_slices b) g.points (file_points b) (used-laid b (file_points b) l fit.0) (points-laid b l fit.1) ∙ written-again b h r f

  writes : Bytes b → length b ≤ length old → Writes c g b old
  writes h q =
      let end = right_room b refl r in
      let a = answer_none o refl (sym (all_well c g.slices g.points (length old) fit-left.0 fit-left.1 finite-left (omega arith))) in
      record {
        answer = sym (says_written o (file_end c) a end);
        left = sym (leaves_file o c g.slices g.points old a) ∙ ap (λ (k : List ℕ). over k old) (is-file h);
      }

  writes_nothing : length old < length b → WritesNothing c g old
  writes_nothing q =
      let end = right_room b refl r in
      let a = answer_some o refl (sym (too_long c g.slices g.points (length old) fit-left.0 fit-left.1 finite-left (omega arith))) in
      record { answer = sym (says_refused o (file_end c) a); left = sym (leaves_old o c g.slices g.points old a) }

-- ---- what an answer of read tells
first-none : (o p : Option Refusal) → (o or_else p) ≡ None → o ≡ None
first-none None p e = refl
first-none (Some r) p e = e

contents-well : (b : List ℕ) (l : Lent) → read_refusal b (sizes l.slices) (length l.points) ≡ None → contents_refusal b (sizes l.slices) (length l.points) ≡ None
unfolding read_refusal
contents-well b l e = first-none (contents_refusal b (sizes l.slices) (length l.points)) _ e

left_is : (b : List ℕ) (l : Lent) → read_refusal b (sizes l.slices) (length l.points) ≡ None → read_left b l ≡ laid (file_slices b) (file_points b) l
unfolding read_leaves
left_is b l e = rw (e)

-- what holds of the counts and of the mesh in a file that is read holds of what is answered and left
read-so : (P : Counts → Lent → Type 0) (b : List ℕ) (l : Lent) (c : Counts) → read_answer b l ≡ Ok c
    → (right b ≡ true → fits_with (file_counts b) (sizes l.slices) (length l.points) ≡ true → all_finite (file_points b) ≡ true → P (file_counts b) (laid (file_slices b) (file_points b) l))
    → P c (read_left b l)
read-so P b l c e p =
    let (o, d) = reading-read (read_refusal b (sizes l.slices) (length l.points)) (file_counts b) e in
    let (r, s, f) = contents-none b (sizes l.slices) (length l.points) (contents-well b l o) in
    subst⁻¹ (λ (c : Counts). P c (read_left b l)) d (subst⁻¹ (P (file_counts b)) (left_is b l o) (p r s f))

pub read-writes : ReadWrites
read-writes b l c old h e q = read-so (λ c g. Writes c g b old) b l c e (λ r s f. writes b l old r s f h q)

pub read-too-long : ReadTooLong
read-too-long b l c old e q = read-so (λ c g. WritesNothing c g old) b l c e (λ r s f. writes_nothing b l old r s f q)
