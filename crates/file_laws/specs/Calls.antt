-- The calls read and write by the right-hand sides of their contracts, and what one leaves as the other finds it (document 01, section 5). Assumes nothing.
use Rattle.std.specs.Prelude.{ℕ, ◌≤◌, ◌<◌, ◌≡◌, not, true, List, [], length, take, Option, None, Some, Ok, Err}
use Rattle.scope.specs.declared.records.Counts.{Counts}
use Rattle.scope.specs.declared.answers.Refusal.{Refusal}
use Rattle.scope.specs.declared.answers.Refusal.TheVariants.{ShortSlice, NotConsistent, NoRoom}
use Rattle.scope.specs.Lists.{◌or_else◌, over}
use Rattle.scope.specs.Check.{fault}
use Rattle.scope.specs.Slices.{sizes, fits_with, links_of, marks_of, points_of}
use Rattle.scope.specs.Answers.{refuse_if, refuse}
use Rattle.file_read.specs.Format.{Reading}
use Rattle.file_read.specs.Format.{Lent, file_counts, file_end, reading, read_refusal, read_leaves, laid, no_slices, write_refusal, write_leaves}
use Rattle.file_write.specs.Writes.{Writing}
use Rattle.file_write.specs.Writes.{writing}
use Rattle.file_laws.specs.Bytes.{Bytes}
use Rattle.file_laws.specs.Trip.{Small, Doubles, filed}

-- ---- file_read::read::read, given the file b and lent the slices l: what it answers, and what it leaves in them
abbrev pub read_answer : List ℕ → Lent → Reading
read_answer b l = reading (read_refusal b (sizes l.slices) (length l.points)) (file_counts b)

abbrev pub read_left : List ℕ → Lent → Lent
read_left b l = read_leaves (read_refusal b (sizes l.slices) (length l.points)) b l

-- ---- file_write::write::write, given the slices g and the counts c and lent the slice old: what it answers, and what it leaves in it
abbrev pub write_answer : Counts → Lent → List ℕ → Writing
write_answer c g old = writing (write_refusal c g.slices g.points (length old)) (file_end c)

abbrev pub write_left : Counts → Lent → List ℕ → List ℕ
write_left c g old = write_leaves (write_refusal c g.slices g.points (length old)) c g.slices g.points old

-- what every slice of u32 and of f64 holds; of the mark bytes nothing is asked
pub record Typed (g : Lent) : Type 0 where
  pub outs : Small g.slices.outs
  pub edges : Small g.slices.edges
  pub faces : Small g.slices.faces
  pub points : Doubles g.points

-- ---- written, then read. Whatever mesh is given and whatever slices are lent: read answers 2 if these are too short, then 3 with what the check finds in the mesh
-- (a writer does not ask whether a mesh is consistent), else the counts
unfoldable pub owed : Counts → Lent → Lent → Option Refusal
owed c g l =
    refuse_if (not (fits_with c (sizes l.slices) (length l.points))) ShortSlice
    or_else refuse (fault (links_of c g.slices) (marks_of c g.slices)) NotConsistent

-- and it leaves the mesh as a file holds it, then zeros; after a refusal zeros
unfoldable pub owed_left : Option Refusal → Counts → Lent → Lent → Lent
owed_left None c g l = laid (filed c g.slices) (points_of c g.points) l
owed_left (Some r) c g l = laid no_slices [] l

-- what reading the file b into l gives, where b holds g with counts c
pub record Reads (c : Counts) (g l : Lent) (b : List ℕ) : Type 0 where
  pub answer : read_answer b l ≡ reading (owed c g l) c
  pub left : read_left b l ≡ owed_left (owed c g l) c g l

-- wherever write answers that n bytes are written, these n bytes are bytes, and read so into any slices
abbrev pub WrittenReads : Type 0
WrittenReads = (c : Counts) (g : Lent) (old : List ℕ) (n : ℕ) → Typed g → write_answer c g old ≡ Ok n
    → Bytes (take n (write_left c g old)) × ((l : Lent) → Reads c g l (take n (write_left c g old)))

-- the same where the slices have room and the mesh is consistent: the counts, and the mesh
pub record GivenAgain (c : Counts) (g l : Lent) (b : List ℕ) : Type 0 where
  pub answer : read_answer b l ≡ Ok c
  pub left : read_left b l ≡ laid (filed c g.slices) (points_of c g.points) l

abbrev pub WrittenSound : Type 0
WrittenSound = (c : Counts) (g : Lent) (old : List ℕ) (n : ℕ) → Typed g → write_answer c g old ≡ Ok n
    → (l : Lent) → fits_with c (sizes l.slices) (length l.points) ≡ true → fault (links_of c g.slices) (marks_of c g.slices) ≡ None
    → GivenAgain c g l (take n (write_left c g old))

-- ---- read, then written. Whatever bytes are read with the counts c: what read leaves, written with c into a slice that is no shorter than the file, is the file
-- byte by byte, and after it what was there
pub record Writes (c : Counts) (g : Lent) (b old : List ℕ) : Type 0 where
  pub answer : write_answer c g old ≡ Ok (length b)
  pub left : write_left c g old ≡ over b old

abbrev pub ReadWrites : Type 0
ReadWrites = (b : List ℕ) (l : Lent) (c : Counts) (old : List ℕ) → Bytes b → read_answer b l ≡ Ok c → length b ≤ length old → Writes c (read_left b l) b old

-- into a slice that is shorter than the file, nothing, and 5 is answered
pub record WritesNothing (c : Counts) (g : Lent) (old : List ℕ) : Type 0 where
  pub answer : write_answer c g old ≡ Err NoRoom
  pub left : write_left c g old ≡ old

abbrev pub ReadTooLong : Type 0
ReadTooLong = (b : List ℕ) (l : Lent) (c : Counts) (old : List ℕ) → read_answer b l ≡ Ok c → length old < length b → WritesNothing c (read_left b l) old
