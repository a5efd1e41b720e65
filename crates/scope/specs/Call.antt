-- A subdivision call (document 01, sections 3 and 4), over a scheme given by its parts: its answer for every input and what it leaves in every
-- slice. Links, counts and answers are computed from links, marks, sizes, passes and the flag alone (section 7). Assumes nothing.
use Rattle.std.specs.Prelude.{ℕ, zero, suc, ◌+◌, ◌*◌, Bool, not, ◌&&◌, List, leb, ltb, length, Float, Option, None, Some, Ok, Err}
use Rattle.scope.specs.declared.records.Counts.{Counts}
use Rattle.scope.specs.declared.answers.Place.{Place}
use Rattle.scope.specs.declared.answers.Refusal.{Refusal}
use Rattle.scope.specs.declared.answers.Refusal.TheVariants.{TooManyPasses, ShortSlice, NotConsistent, MarkedDeleted, NoRoom, NoWeight}
use Rattle.scope.specs.Answers.{Subdivided}
use Rattle.scope.specs.Lists.{if, ◌or_else◌}
use Rattle.scope.specs.Links.{Links, Marks}
use Rattle.scope.specs.Check.{fault, marked}
use Rattle.scope.specs.Tally.{Tally, tally_of, counts_of, counted}
use Rattle.scope.specs.Slices.{Given, Buffers, Sizes, sizes, fits_with, links_of, marks_of, points_of, clean, slices_of, filled, wiped}
use Rattle.scope.specs.Answers.{said_of, refuse_if, refuse}

-- ---- a scheme by its parts
pub record Scheme : Type 0 where
  -- before the first pass: the links, the flag, the tally
  pub prepare : Links → Links
  pub settle : Links → Bool → Bool
  pub ready : Tally → Tally
  -- one pass, with its flag: links, points, tally; the next flag; the lowest vertex whose weight is needed and not there
  pub pass : Bool → Links → Links
  pub smooth : Bool → Links → List Float → List Float
  pub grow : Bool → Tally → Tally
  pub turn : Bool → Bool
  pub weightless : Bool → Links → Option ℕ

abbrev pub in_pass : ℕ → Option ℕ → Option (ℕ × ℕ) → Option (ℕ × ℕ)
in_pass n None later = later
in_pass n (Some v) later = Some (n, v)

-- what the first pass starts from
pub record Start : Type 0 where
  pub links : Links
  pub flag : Bool
  pub tally : Tally

module _ (S : Scheme) where
  -- ---- k passes
  unfoldable pub links : ℕ → Bool → Links → Links
  links zero flag m = m
  links (suc k) flag m = links k (S.turn flag) (S.pass flag m)

  unfoldable pub points : ℕ → Bool → Links → List Float → List Float
  points zero flag m ps = ps
  points (suc k) flag m ps = points k (S.turn flag) (S.pass flag m) (S.smooth flag m ps)

  unfoldable pub tally : ℕ → Bool → Tally → Tally
  tally zero flag t = t
  tally (suc k) flag t = tally k (S.turn flag) (S.grow flag t)

  unfoldable pub turned : ℕ → Bool → Bool
  turned zero flag = flag
  turned (suc k) flag = turned k (S.turn flag)

  -- §4, answer 6: the first pass, counted from n, and its lowest vertex
  unfoldable pub heavy : ℕ → ℕ → Bool → Links → Option (ℕ × ℕ)
  heavy zero n flag m = None
  heavy (suc k) n flag m =
      let later = heavy k (suc n) (S.turn flag) (S.pass flag m) in
      in_pass n (S.weightless flag m) later

  -- ---- a call of k passes. §4: zero passes copy the mesh and hand the flag back, so nothing is prepared for them
  unfoldable pub begin : ℕ → Bool → Links → Start
  begin zero flag m = record { links = m; flag = flag; tally = tally_of m }
  begin (suc k) flag m = record { links = S.prepare m; flag = S.settle (S.prepare m) flag; tally = S.ready (tally_of m) }

  -- §3, the table, k times
  unfoldable pub final : ℕ → Bool → Links → Counts
  final k flag m = let s = begin k flag m in counted (tally k s.flag s.tally)

  -- §4: six numbers for each vertex, edge and face of the mesh that the last pass starts from; none for zero passes
  unfoldable pub work_needed : ℕ → Bool → Links → ℕ
  work_needed zero flag m = 0
  work_needed (suc k) flag m =
      let s = begin (suc k) flag m in
      let t = tally k s.flag s.tally in
      6 * (t.v + t.e + t.f)

  unfoldable pub enough : ℕ → Bool → Links → Sizes → ℕ → ℕ → Bool
  enough k flag m room points work = fits_with (final k flag m) room points && leb (work_needed k flag m) work

  unfoldable pub unwanted : ℕ → Marks → Option Place
  unwanted zero d = None
  unwanted (suc k) d = marked d

  unfoldable pub overweight : ℕ → Bool → Links → Option (ℕ × ℕ)
  overweight k flag m = let s = begin k flag m in heavy k 1 s.flag s.links

  -- §4: checked in the order 1 to 6. The sizes: of the mesh and its points as given; of the room for the result, its points and the work
  unfoldable pub refusal : ℕ → Bool → Links → Marks → Sizes → ℕ → Sizes → ℕ → ℕ → Option Refusal
  refusal k flag m d given given-points room points work =
      refuse_if (ltb 12 k) TooManyPasses
      or_else refuse_if (not (fits_with (counts_of m) given given-points)) ShortSlice
      or_else refuse (fault m d) NotConsistent
      or_else refuse (unwanted k d) MarkedDeleted
      or_else refuse_if (not (enough k flag m room points work)) NoRoom
      or_else refuse (overweight k flag m) (λ p. NoWeight p.0 p.1)

  -- ---- what a call that is done makes
  unfoldable pub last_links : ℕ → Bool → Links → Links
  last_links k flag m = let s = begin k flag m in links k s.flag s.links

  unfoldable pub last_flag : ℕ → Bool → Links → Bool
  last_flag k flag m = turned k (begin k flag m).flag

  unfoldable pub last_points : ℕ → Bool → Links → List Float → List Float
  last_points k flag m ps = let s = begin k flag m in points k s.flag s.links ps

  -- §4: zero passes copy the mesh, marks included
  unfoldable pub last_marks : ℕ → Bool → Links → Marks → Marks
  last_marks zero flag m d = d
  last_marks (suc k) flag m d = clean (last_links (suc k) flag m)

  unfoldable pub subdivided : ℕ → Bool → Given → Given
  subdivided k flag g =
      let m = links_of g.counts g.slices in
      let l = last_links k flag m in
      let d = last_marks k flag m (marks_of g.counts g.slices) in
      record { counts = counts_of l; slices = slices_of l d; points = last_points k flag m (points_of g.counts g.points) }

-- §4: after refusals 1 to 4 all is as handed in; after 5 and 6 result and work are all zero
unfoldable pub left_after : Refusal → Buffers → Buffers
left_after r b = let zeros = wiped b in if (leb (said_of r).number 4) b zeros

pub record Outcome : Type 0 where
  pub answer : Subdivided
  pub left : Buffers

unfoldable pub ended : Option Refusal → Given → Bool → Buffers → Outcome
ended None made flag b = record { answer = Ok (made.counts, flag); left = filled made.counts made.slices made.points b }
ended (Some r) made flag b = record { answer = Err r; left = left_after r b }

module _ (S : Scheme) where
  unfoldable pub call : ℕ → Bool → Given → Buffers → Outcome
  call k flag g b =
      let m = links_of g.counts g.slices in
      let d = marks_of g.counts g.slices in
      let r = refusal S k flag m d (sizes g.slices) (length g.points) (sizes b.result) (length b.points) (length b.work) in
      ended r (subdivided S k flag g) (last_flag S k flag m) b

  -- k passes more on what a call left, with its counts and flag, unless it was refused
  unfoldable pub then : Subdivided → ℕ → Outcome → Buffers → Outcome
  then (Ok (c, flag)) k o b = call k flag (record { counts = c; slices = o.left.result; points = o.left.points }) b
  then (Err r) k o b = o

  unfoldable pub onward : ℕ → Outcome → Buffers → Outcome
  onward k o b = then o.answer k o b
