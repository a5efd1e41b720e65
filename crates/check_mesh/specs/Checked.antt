-- What a check answers (document 01, section 4, answers 2 and 3), for every input. Assumes nothing.
use Rattle.std.specs.Prelude.{ℕ, not, List, Option, None, Some, Ok, Err}
use Rattle.scope.specs.declared.records.Counts.{Counts}
use Rattle.scope.specs.declared.answers.Fault.{Fault}
use Rattle.scope.specs.declared.answers.Refusal.{Refusal}
use Rattle.scope.specs.declared.answers.Refusal.TheVariants.{ShortSlice, NotConsistent}
use Rattle.scope.specs.Answers.{Checked}
use Rattle.scope.specs.Lists.{◌or_else◌}
use Rattle.scope.specs.Links.{Links, Marks}
use Rattle.scope.specs.Check.{fault}
use Rattle.scope.specs.Slices.{Slices, sizes, fits, fits_with, links_of, marks_of}
use Rattle.scope.specs.Answers.{refuse_if, refuse}

abbrev pub answered : Option Refusal → Checked
answered None = (Ok tt)
answered (Some r) = Err r

-- what is said of a mesh with this fault
abbrev pub say_of : Option Fault → Checked
say_of x = answered (refuse x NotConsistent)

-- answer 2, then 3: the links and marks of a mesh, as an edit has them
unfoldable pub checked_links : Counts → Slices → Checked
checked_links c s = answered (refuse_if (not (fits c (sizes s))) ShortSlice or_else refuse (fault (links_of c s) (marks_of c s)) NotConsistent)

-- and with that many numbers for its points
unfoldable pub checked : Counts → Slices → ℕ → Checked
checked c s points = answered (refuse_if (not (fits_with c (sizes s) points)) ShortSlice or_else refuse (fault (links_of c s) (marks_of c s)) NotConsistent)

-- ---- slices by their lists

abbrev pub slices_at : List ℕ → List ℕ → List ℕ → List ℕ → List ℕ → List ℕ → Slices
slices_at outs edges faces vmarks emarks fmarks = record { outs = outs; edges = edges; faces = faces; vmarks = vmarks; emarks = emarks; fmarks = fmarks }

abbrev pub links_at : ℕ → ℕ → ℕ → List ℕ → List ℕ → List ℕ → Links
links_at v e f outs edges faces = record { nv = v; ne = e; nf = f; outs = outs; edges = edges; faces = faces }

abbrev pub marks_at : List ℕ → List ℕ → List ℕ → Marks
marks_at vmarks emarks fmarks = record { vs = vmarks; es = emarks; fs = fmarks }
