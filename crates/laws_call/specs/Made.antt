-- What is so whenever a subdivision call is done (document 01, sections 3, 4 and 7). Assumes nothing.
use Rattle.std.specs.Prelude.{ℕ, suc, ◌+◌, ◌*◌, ◌≤◌, ◌<◌, ◌≡◌, Bool, true, not, List, length, Float, None, Ok, Err}
use Rattle.scope.specs.declared.records.Counts.{Counts}
use Rattle.scope.specs.declared.answers.Refusal.{Refusal}
use Rattle.scope.specs.Answers.{Subdivided}
use Rattle.scope.specs.Answers.{said_of}
use Rattle.scope.specs.Lists.{number_of}
use Rattle.scope.specs.Links.{Links, rim}
use Rattle.scope.specs.Check.{fault}
use Rattle.scope.specs.Tally.{Tally, tally_of, counted}
use Rattle.scope.specs.Slices.{Given, Buffers, sizes, fits_with, links_of, marks_of, clean, float_zero, filled}
use Rattle.scope.specs.Call.{Scheme, tally, turned, call}
use Rattle.laws_mesh.specs.Of.{Good}
use Rattle.laws_mesh.specs.Sides.{Sided}
use Rattle.laws_call.specs.Demand.{links_in, marks_in, Only, Lent}

-- with the counts c, every slice is zero past what is used, and the work slice wholly
pub record ZeroPast (c : Counts) (left : Buffers) : Type 0 where
  pub outs : Only 0 c.v left.result.outs
  pub edges : Only 0 (8 * c.e) left.result.edges
  pub faces : Only 0 c.f left.result.faces
  pub vmarks : Only 0 c.v left.result.vmarks
  pub emarks : Only 0 c.e left.result.emarks
  pub fmarks : Only 0 c.f left.result.fmarks
  pub points : Only float_zero (3 * c.v) left.points
  pub work : Only float_zero 0 left.work

-- document 01's table, k times, after preparing
abbrev pub grown : Scheme → ℕ → Bool → Links → Tally
grown S k flag m = tally S k (S.settle (S.prepare m) flag) (S.ready (tally_of m))

-- the mesh in `left`, read with the counts c, as k passes of S made it of the mesh given
pub record Made (S : Scheme) (sides k : ℕ) (flag : Bool) (g : Given) (c : Counts) (next : Bool) (left : Buffers) : Type 0 where
  -- its lists are as long as its counts say and it is consistent; the check finds no fault; nothing is deleted
  pub good : Good (links_of c left.result)
  pub faultless : fault (links_of c left.result) (marks_of c left.result) ≡ None
  pub undeleted : marks_of c left.result ≡ clean (links_of c left.result)
  -- the counts are those of the table, and so are the sum of face lengths and the number of rim edges, counted in the records present
  pub counts : c ≡ counted (grown S k flag (links_in g))
  pub records : tally_of (links_of c left.result) ≡ grown S k flag (links_in g)
  -- the sum of face lengths is the number of halfedges with a face
  pub corners : (tally_of (links_of c left.result)).s ≡ number_of (2 * c.e) (λ h. not (rim (links_of c left.result) h))
  -- V - E + F is as it was
  pub even : g.counts.v + g.counts.f + c.e ≡ c.v + c.f + g.counts.e
  -- the flag that comes back turned with each pass
  pub flag_back : next ≡ turned S k (S.settle (S.prepare (links_in g)) flag)
  -- every face has that many halfedges
  pub sided : Sided sides (links_of c left.result)

-- one pass or more
abbrev pub Makes : Scheme → ℕ → Type 0
Makes S sides =
    (k : ℕ) (flag : Bool) (g : Given) (b : Buffers) (c : Counts) (next : Bool) → (call S (suc k) flag g b).answer ≡ Ok (c, next) →
    Made S sides (suc k) flag g c next (call S (suc k) flag g b).left

-- any number of passes
abbrev pub Clears : Scheme → Type 0
Clears S =
    (k : ℕ) (flag : Bool) (g : Given) (b : Buffers) (c : Counts) (next : Bool) → (call S k flag g b).answer ≡ Ok (c, next) →
    ZeroPast c (call S k flag g b).left

-- no call changes a length
abbrev pub KeepsLengths : Scheme → Type 0
KeepsLengths S = (k : ℕ) (flag : Bool) (g : Given) (b : Buffers) → Lent b (call S k flag g b).left

-- section 4: after refusals 1 to 4 all is as handed in, after 5 and 6 result and work are all zero
abbrev pub Refuses : Scheme → Type 0
Refuses S =
    (k : ℕ) (flag : Bool) (g : Given) (b : Buffers) (r : Refusal) → (call S k flag g b).answer ≡ Err r →
    ((said_of r).number ≤ 4 → (call S k flag g b).left ≡ b)
    × (4 < (said_of r).number → ZeroPast (record { v = 0; e = 0; f = 0 }) (call S k flag g b).left)

-- section 4: zero passes copy the mesh, marks included, and hand the flag back
abbrev pub Copies : Scheme → Type 0
Copies S =
    (flag : Bool) (g : Given) (b : Buffers) →
    fits_with g.counts (sizes g.slices) (length g.points) ≡ true →
    fault (links_in g) (marks_in g) ≡ None →
    fits_with g.counts (sizes b.result) (length b.points) ≡ true →
    call S 0 flag g b ≡ record { answer = Ok (g.counts, flag); left = filled g.counts g.slices g.points b }

-- ---- section 7: what is shut out
-- copying: wherever there is a face, one pass or more add one
abbrev pub AddsFaces : Scheme → Type 0
AddsFaces S =
    (k : ℕ) (flag : Bool) (g : Given) (b : Buffers) (c : Counts) (next : Bool) → (call S (suc k) flag g b).answer ≡ Ok (c, next) →
    0 < g.counts.f → g.counts.f < c.f

-- idling after some pass: wherever there is a face, a pass more adds one
abbrev pub GoesOnAdding : Scheme → Type 0
GoesOnAdding S =
    (k : ℕ) (flag : Bool) (g : Given) (b b' : Buffers) (c c' : Counts) (next next' : Bool) →
    (call S (suc k) flag g b).answer ≡ Ok (c, next) → (call S (suc (suc k)) flag g b').answer ≡ Ok (c', next') →
    0 < g.counts.f → c.f < c'.f

-- one fixed answer
abbrev pub NotFixed : Scheme → Type 0
NotFixed S = (a : Subdivided) → ((k : ℕ) (flag : Bool) (g : Given) (b : Buffers) → (call S k flag g b).answer ≡ a) → ⊥

-- other coordinates, as many: the same answer, links, marks and counts
abbrev pub with_points : Given → List Float → Given
with_points g ps = record { counts = g.counts; slices = g.slices; points = ps }

abbrev pub BlindToCoordinates : Scheme → Type 0
BlindToCoordinates S =
    (k : ℕ) (flag : Bool) (g : Given) (ps : List Float) (b : Buffers) → length ps ≡ length g.points →
    ((call S k flag (with_points g ps) b).answer ≡ (call S k flag g b).answer) × ((call S k flag (with_points g ps) b).left.result ≡ (call S k flag g b).left.result)

-- other contents of the lent slices, with the same lengths: the same answer and, when done, the same left in all of them
abbrev pub BlindToContents : Scheme → Type 0
BlindToContents S =
    (k : ℕ) (flag : Bool) (g : Given) (b b' : Buffers) → Lent b b' →
    ((call S k flag g b').answer ≡ (call S k flag g b).answer)
    × ((c : Counts) (next : Bool) → (call S k flag g b).answer ≡ Ok (c, next) → (call S k flag g b').left ≡ (call S k flag g b).left)
