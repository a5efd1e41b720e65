-- Answers as plain numbers. Assumes nothing.
use Rattle.std.specs.Prelude.{ℕ, Bool, not, eqb, get_or, Ok, Err}
use Rattle.scope.specs.declared.records.Counts.{Counts}
use Rattle.scope.specs.declared.answers.Said.{Said}
use Rattle.scope.specs.Answers.{Subdivided}
use Rattle.scope.specs.Lists.{if}
use Rattle.scope.specs.Answers.{told_of, said_of}
use Rattle.file_read.specs.Format.{Reading}
use Rattle.file_write.specs.Writes.{Writing}
use Rattle.exports_flat.specs.declared.answers.Flat.{Flat}
use Rattle.exports_flat.specs.declared.answers.FlatRead.{FlatRead}
use Rattle.exports_flat.specs.declared.answers.FlatWritten.{FlatWritten}
use Rattle.exports_flat.specs.declared.answers.FlatSubdivided.{FlatSubdivided}

-- document 01's number of an answer, and the three values that come with it, in their order
abbrev pub flat_of : Said → Flat
flat_of s = record {
  number = s.number;
  first = get_or s.values 0 0;
  second = get_or s.values 1 0;
  third = get_or s.values 2 0;
}

-- §4: 0 is done
abbrev pub done : Said
done = told_of 0 0 0 0

-- §5, the reader: the counts of what is read, zeros if nothing is
unfoldable pub flat_reading : Reading → FlatRead
flat_reading (Ok c) = record { answer = flat_of done; v = c.v; e = c.e; f = c.f }
flat_reading (Err r) = record { answer = flat_of (said_of r); v = 0; e = 0; f = 0 }

-- §5, the writer: how many bytes are written
unfoldable pub flat_writing : Writing → FlatWritten
flat_writing (Ok n) = record { answer = flat_of done; length = n }
flat_writing (Err r) = record { answer = flat_of (said_of r); length = 0 }

-- a flag as a number: 0 is false, anything else true; a flag that is answered is 0 or 1
abbrev pub flag_of : ℕ → Bool
flag_of n = not (eqb n 0)

abbrev pub flag_number : Bool → ℕ
flag_number flag = if flag 1 0

-- §4, a subdivision: the counts of the result and the next flag, zeros if it is refused
unfoldable pub flat_subdivided : Subdivided → FlatSubdivided
flat_subdivided (Ok (c, flag)) = record { answer = flat_of done; v = c.v; e = c.e; f = c.f; flag = flag_number flag }
flat_subdivided (Err r) = record { answer = flat_of (said_of r); v = 0; e = 0; f = 0; flag = 0 }

abbrev pub counts_at : ℕ → ℕ → ℕ → Counts
counts_at v e f = record { v = v; e = e; f = f }
