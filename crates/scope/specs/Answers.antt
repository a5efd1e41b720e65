-- The answers' numbers and values (document 01, section 4). Assumes nothing.
use Rattle.std.specs.Prelude.{ℕ, [], ◌∷◌, Bool, true, false, ⊤, Option, None, Some, Result, Ok, Err}
use Rattle.scope.specs.declared.records.Counts.{Counts}
use Rattle.scope.specs.declared.answers.Place.{Place}
use Rattle.scope.specs.declared.answers.Place.TheVariants.{AtVertex, AtHalfedge, AtEdge, AtFace}
use Rattle.scope.specs.declared.answers.Refusal.{Refusal}
use Rattle.scope.specs.declared.answers.Refusal.TheVariants.{TooManyPasses, ShortSlice, NotConsistent, MarkedDeleted, NoRoom, NoWeight, BadHandle, CannotInsertEdge, HalfedgesNotInTheSameLoop, NotDeletedFace, ComplexVertex, CannotSwapBoundaryEdge, WouldBreak, BadContents, NotFinite}
use Rattle.scope.specs.declared.answers.Said.{Said}

-- what a check answers
abbrev pub Checked : Type 0
Checked = Result ⊤ Refusal

-- a subdivision: the counts of the result and the flag for the next call
abbrev pub Subdivided : Type 0
Subdivided = Result (Counts × Bool) Refusal

-- an edit: the counts afterwards, and the new halfedge or edge where the source returns one, else 0
abbrev pub Edited : Type 0
Edited = Result (Counts × ℕ) Refusal

-- the kind of a place, as a number, and its index
abbrev pub kind_of : Place → ℕ
kind_of (AtVertex i) = 0
kind_of (AtHalfedge i) = 1
kind_of (AtEdge i) = 2
kind_of (AtFace i) = 3

abbrev pub index_of : Place → ℕ
index_of (AtVertex i) = i
index_of (AtHalfedge i) = i
index_of (AtEdge i) = i
index_of (AtFace i) = i

abbrev pub told_of : ℕ → ℕ → ℕ → ℕ → Said
told_of n a b c = record { number = n; values = a ∷ b ∷ c ∷ [] }

-- §4, the table: 3 comes with the rule, the kind and the index of its place, 4 with the kind and the index, 6 with the pass and the vertex
abbrev pub said_of : Refusal → Said
said_of TooManyPasses = told_of 1 0 0 0
said_of ShortSlice = told_of 2 0 0 0
said_of (NotConsistent x) = told_of 3 x.rule (kind_of x.place) (index_of x.place)
said_of (MarkedDeleted p) = told_of 4 (kind_of p) (index_of p) 0
said_of NoRoom = told_of 5 0 0 0
said_of (NoWeight pass v) = told_of 6 pass v 0
said_of BadHandle = told_of 7 0 0 0
said_of CannotInsertEdge = told_of 8 0 0 0
said_of HalfedgesNotInTheSameLoop = told_of 9 0 0 0
said_of NotDeletedFace = told_of 10 0 0 0
said_of ComplexVertex = told_of 11 0 0 0
said_of CannotSwapBoundaryEdge = told_of 12 0 0 0
said_of WouldBreak = told_of 14 0 0 0
said_of BadContents = told_of 15 0 0 0
said_of NotFinite = told_of 16 0 0 0

-- §4: 0 is done
unfoldable pub said_checked : Checked → Said
said_checked (Ok x) = told_of 0 0 0 0
said_checked (Err r) = said_of r

unfoldable pub said_subdivided : Subdivided → Said
said_subdivided (Ok x) = told_of 0 0 0 0
said_subdivided (Err r) = said_of r

unfoldable pub said_edited : Edited → Said
said_edited (Ok x) = told_of 0 0 0 0
said_edited (Err r) = said_of r

-- ---- refusals in order: the first that is given
infixr 10 ◌else◌
abbrev pub ◌else◌ : {A : Type 0} → Option A → A → A
None else a = a
Some r else a = r

abbrev pub refuse_if : Bool → Refusal → Option Refusal
refuse_if true r = Some r
refuse_if false r = None

abbrev pub refuse : {A : Type 0} → Option A → (A → Refusal) → Option Refusal
refuse None r = None
refuse (Some x) r = Some (r x)
