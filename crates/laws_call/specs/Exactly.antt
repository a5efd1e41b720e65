-- Document 01, section 4: each answer of a subdivision call and exactly when it is given, for every input. Assumes nothing.
use Rattle.std.specs.Prelude.{ℕ, ◌≤◌, ◌<◌, ◌≡◌, Bool, true, false, length, None, Some, Ok, Err}
use Rattle.scope.specs.declared.answers.Refusal.TheVariants.{TooManyPasses, ShortSlice, NotConsistent, MarkedDeleted, NoRoom, NoWeight, BadHandle, CannotInsertEdge, HalfedgesNotInTheSameLoop, NotDeletedFace, ComplexVertex, CannotSwapBoundaryEdge, WouldBreak, BadContents, NotFinite}
use Rattle.scope.specs.Answers.{Subdivided}
use Rattle.scope.specs.Check.{fault}
use Rattle.scope.specs.Tally.{counts_of}
use Rattle.scope.specs.Slices.{Given, Buffers, sizes, fits_with}
use Rattle.scope.specs.Call.{Scheme, enough, unwanted, overweight, last_links, last_flag}
use Rattle.laws_call.specs.Demand.{links_in, marks_in}

module _ (S : Scheme) (k : ℕ) (flag : Bool) (g : Given) (b : Buffers) where
  -- 2: no slice is shorter than its count, and no count is over 1,048,576
  abbrev pub fitting : Bool
  fitting = fits_with g.counts (sizes g.slices) (length g.points)

  -- 5: the final counts are within the result slices and 1,048,576, and the work slice is long enough
  abbrev pub roomy : Bool
  roomy = enough S k flag (links_in g) (sizes b.result) (length b.points) (length b.work)

  -- past the first condition, past the first two, and so on
  abbrev pub Past1 : Type 0
  Past1 = k ≤ 12

  abbrev pub Past2 : Type 0
  Past2 = Past1 × (fitting ≡ true)

  abbrev pub Past3 : Type 0
  Past3 = Past2 × (fault (links_in g) (marks_in g) ≡ None)

  abbrev pub Past4 : Type 0
  Past4 = Past3 × (unwanted S k (marks_in g) ≡ None)

  abbrev pub Past5 : Type 0
  Past5 = Past4 × (roomy ≡ true)

  abbrev pub Past6 : Type 0
  Past6 = Past5 × (overweight S k flag (links_in g) ≡ None)

  -- the answers of edits and of the reader are never given
  unfoldable pub When : Subdivided → Type 0
  When (Err TooManyPasses) = 12 < k
  When (Err ShortSlice) = Past1 × (fitting ≡ false)
  When (Err (NotConsistent x)) = Past2 × (fault (links_in g) (marks_in g) ≡ Some x)
  When (Err (MarkedDeleted p)) = Past3 × (unwanted S k (marks_in g) ≡ Some p)
  When (Err NoRoom) = Past4 × (roomy ≡ false)
  When (Err (NoWeight pass v)) = Past5 × (overweight S k flag (links_in g) ≡ Some (pass, v))
  When (Err BadHandle) = ⊥
  When (Err CannotInsertEdge) = ⊥
  When (Err HalfedgesNotInTheSameLoop) = ⊥
  When (Err NotDeletedFace) = ⊥
  When (Err ComplexVertex) = ⊥
  When (Err CannotSwapBoundaryEdge) = ⊥
  When (Err WouldBreak) = ⊥
  When (Err BadContents) = ⊥
  When (Err NotFinite) = ⊥
  When (Ok (c, next)) = Past6 × (c ≡ counts_of (last_links S k flag (links_in g))) × (next ≡ last_flag S k flag (links_in g))
