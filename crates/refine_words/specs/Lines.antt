-- The line of a run on the job card, and the line of a refusal. Assumes nothing.
use Rattle.std.specs.Prelude.{ℕ, Bool, List, [], ◌++◌}
use Prim.Native.String.{String}
use Rattle.scope.specs.declared.records.Counts.{Counts}
use Rattle.scope.specs.declared.answers.Place.{Place}
use Rattle.scope.specs.declared.answers.Place.TheVariants.{AtVertex, AtHalfedge, AtEdge, AtFace}
use Rattle.scope.specs.declared.answers.Refusal.{Refusal}
use Rattle.scope.specs.declared.answers.Refusal.TheVariants.{TooManyPasses, ShortSlice, NotConsistent, MarkedDeleted, NoRoom, NoWeight, BadHandle, CannotInsertEdge, HalfedgesNotInTheSameLoop, NotDeletedFace, ComplexVertex, CannotSwapBoundaryEdge, WouldBreak, BadContents, NotFinite}
use Rattle.scope.specs.Answers.{said_of}
use Rattle.text.specs.Text.{decimal}
use Rattle.text.specs.Ascii.{ascii}
use Rattle.call_room.specs.declared.kind.Kind.{Kind}
use Rattle.refine_words.specs.Words.{scheme_word, flag_word}

-- a name and its number
abbrev pub field : String → ℕ → List ℕ
field name n = ascii name ++ decimal n

-- what was asked, and the flag that the next run must be given
unfoldable pub task_text : Kind → ℕ → Bool → Bool → List ℕ
task_text kind passes flag next =
    ascii "refined " ++ (scheme_word kind ++ (field " passes " passes ++ (ascii " flag " ++ (flag_word flag ++ (ascii " next " ++ flag_word next)))))

-- what came of it: the counts of the result, and its edges with a rim halfedge
unfoldable pub counts_text : Counts → ℕ → List ℕ
counts_text c rim = field " vertices " c.v ++ (field " edges " c.e ++ (field " faces " c.f ++ field " rim " rim))

-- the whole line, as in: refined catmull passes 2 flag update next update vertices 98 edges 192 faces 96 rim 0
unfoldable pub card_line : Kind → ℕ → Bool → Bool → Counts → ℕ → List ℕ
card_line kind passes flag next c rim = task_text kind passes flag next ++ (counts_text c rim ++ ascii "\n")

-- §4: a place is named by its kind and its index
unfoldable pub place_text : Place → List ℕ
place_text (AtVertex i) = field " vertex " i
place_text (AtHalfedge i) = field " halfedge " i
place_text (AtEdge i) = field " edge " i
place_text (AtFace i) = field " face " i

-- §4: answers 3, 4 and 6 name a place, the others none
unfoldable pub where_text : Refusal → List ℕ
where_text (NotConsistent x) = field " rule " x.rule ++ place_text x.place
where_text (MarkedDeleted p) = place_text p
where_text (NoWeight pass v) = field " pass " pass ++ field " vertex " v
where_text TooManyPasses = []
where_text ShortSlice = []
where_text NoRoom = []
where_text BadHandle = []
where_text CannotInsertEdge = []
where_text HalfedgesNotInTheSameLoop = []
where_text NotDeletedFace = []
where_text ComplexVertex = []
where_text CannotSwapBoundaryEdge = []
where_text WouldBreak = []
where_text BadContents = []
where_text NotFinite = []

-- the whole line, as in: refused 3 rule 6 halfedge 12
unfoldable pub refused_line : Refusal → List ℕ
refused_line r = field "refused " (said_of r).number ++ (where_text r ++ ascii "\n")
