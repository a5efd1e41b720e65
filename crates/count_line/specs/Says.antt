-- What the counter says of a file (document 01, section 5), for any bytes. Assumes nothing.
use Rattle.std.specs.Prelude.{ℕ, not, List, ltb, length, Option, None, Some}
use Rattle.scope.specs.declared.records.Counts.{Counts}
use Rattle.scope.specs.declared.answers.Refusal.{Refusal}
use Rattle.scope.specs.declared.answers.Refusal.TheVariants.{ShortSlice, MarkedDeleted, BadContents, NotFinite}
use Rattle.scope.specs.Lists.{if, ◌or_else◌}
use Rattle.scope.specs.Check.{marked}
use Rattle.scope.specs.Slices.{Slices, Sizes, sizes, links_of, marks_of}
use Rattle.scope.specs.Answers.{said_of, refuse_if, refuse}
use Rattle.file_read.specs.Format.{right, file_counts, file_slices, file_points, all_finite, link_refusal, read_refusal, Lent, read_leaves}
use Rattle.count_fields.specs.declared.count.Tally.{Tally}
use Rattle.count_fields.specs.Fields.{counted}
use Rattle.count_line.specs.Line.{line_of, refusal_line}

-- §5: one line, of the fields or of the refusal
abbrev pub saying : Option Refusal → Tally → List ℕ
saying None t = line_of t
saying (Some r) t = refusal_line (said_of r).number

-- §5: anything deleted gives 4
abbrev pub deleted_in : Counts → Slices → Option Refusal
deleted_in c s = refuse (marked (marks_of c s)) MarkedDeleted

abbrev pub mesh_says : Counts → Slices → List ℕ
mesh_says c s = saying (deleted_in c s) (counted (links_of c s))

-- §5: a file of at most 65,536 bytes (longer: 2, before all else); the reader's answers; after these, anything deleted
unfoldable pub counter_says : List ℕ → Sizes → ℕ → List ℕ
counter_says b room points =
    let c = file_counts b in
    let s = file_slices b in
    saying (refuse_if (ltb 65536 (length b)) ShortSlice or_else read_refusal b room points or_else deleted_in c s) (counted (links_of c s))

-- what is in the mesh slices then: what the reader leaves there; a file that is too long is not read
unfoldable pub counter_leaves : List ℕ → Lent → Lent
counter_leaves b old =
    let r = read_refusal b (sizes old.slices) (length old.points) in
    if (ltb 65536 (length b)) old (read_leaves r b old)

-- ---- slices with room for any file of at most 65,536 bytes
abbrev pub counter_room : Sizes
counter_room = record { outs = 2304; edges = 16384; faces = 13312; vmarks = 13312; emarks = 13312; fmarks = 13312 }

-- so the line is that of the bytes alone: 2 if they are too many, then 15, 16, 3, 4
unfoldable pub counter_line : List ℕ → List ℕ
counter_line b =
    let c = file_counts b in
    let s = file_slices b in
    saying
    (refuse_if (ltb 65536 (length b)) ShortSlice
    or_else refuse_if (not (right b)) BadContents
    or_else refuse_if (not (all_finite (file_points b))) NotFinite
    or_else link_refusal b
    or_else deleted_in c s)
    (counted (links_of c s))
