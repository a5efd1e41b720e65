-- What passes in place ask of the slices, and what they leave. Assumes nothing.
use Rattle.std.specs.Prelude.{ℕ, ◌+◌, ◌*◌, ◌≤◌, ◌≡◌, Bool, List, length, take, Float, None, Some, Result, Ok, Err}
use Rattle.scope.specs.declared.records.Counts.{Counts}
use Rattle.scope.specs.declared.answers.Refusal.TheVariants.{NoWeight}
use Rattle.scope.specs.Answers.{Subdivided}
use Rattle.scope.specs.Lists.{lay}
use Rattle.scope.specs.Links.{Links}
use Rattle.scope.specs.Tally.{Tally, tally_of, counts_of}
use Rattle.scope.specs.Slices.{Buffers, float_zero}
use Rattle.scope.specs.Call.{Scheme, links, points, tally, turned, heavy}
use Rattle.laws_mesh.specs.Of.{Good}
use Rattle.laws_mesh.specs.Sides.{Within}
use Rattle.call_room.specs.declared.kind.Kind.{Kind}
use Rattle.call_room.specs.Kinds.{scheme_of}
use Rattle.call_room.proofs.KindLaws.{laws-of}
use Rattle.links_edits.specs.Held.{given, Room}
use Rattle.call_steps.specs.Rooms.{needed}

-- a mesh with its points and then zeros
pub record Held (c : Counts) (outs edges faces : List ℕ) (ps : List Float) : Type 0 where
  pub outs_hold : outs ≡ lay 0 (take c.v outs) outs
  pub edges_hold : edges ≡ lay 0 (take (8 * c.e) edges) edges
  pub faces_hold : faces ≡ lay 0 (take c.f faces) faces
  pub points_hold : ps ≡ lay float_zero (take (3 * c.v) ps) ps

-- room for a mesh with this tally
pub record Roomy (t : Tally) (outs edges faces : List ℕ) (ps : List Float) : Type 0 where
  pub within : Within t
  pub links_room : Room t outs edges faces
  pub points_room : 3 * t.v ≤ length ps

-- the mesh m with the points ps, in slices, and then zeros
pub record Lies (m : Links) (qs : List Float) (outs₀ edges₀ faces₀ : List ℕ) (ps₀ : List Float) (outs edges faces : List ℕ) (ps : List Float) : Type 0 where
  pub outs_are : outs ≡ lay 0 m.outs outs₀
  pub edges_are : edges ≡ lay 0 m.edges edges₀
  pub faces_are : faces ≡ lay 0 m.faces faces₀
  pub points_are : ps ≡ lay float_zero qs ps₀

-- ---- before the first pass
pub record PrepareReady (kind : Kind) (c : Counts) (outs edges faces : List ℕ) : Type 0 where
  pub good : Good (given c outs edges faces)
  pub within : Within ((scheme_of kind).ready (tally_of (given c outs edges faces)))
  pub room : Room ((scheme_of kind).ready (tally_of (given c outs edges faces))) outs edges faces
  pub outs_hold : outs ≡ lay 0 (take c.v outs) outs
  pub edges_hold : edges ≡ lay 0 (take (8 * c.e) edges) edges
  pub faces_hold : faces ≡ lay 0 (take c.f faces) faces

-- ---- one pass
pub record PassReady (kind : Kind) (flag : Bool) (c : Counts) (outs edges faces : List ℕ) (ps work : List Float) : Type 0 where
  pub at : (laws-of kind).At flag (given c outs edges faces)
  pub held : Held c outs edges faces ps
  pub points_in : 3 * c.v ≤ length ps
  pub room : Roomy ((scheme_of kind).grow flag (tally_of (given c outs edges faces))) outs edges faces ps
  pub work_room : 6 * (c.v + c.e + c.f) ≤ length work

-- S made of the mesh x with the points qs, in slices that were so, the counts d in slices that are so
pub record Goes (S : Scheme) (flag : Bool) (x : Links) (qs : List Float) (d : Counts) (outs₀ edges₀ faces₀ : List ℕ) (ps₀ : List Float) (outs edges faces : List ℕ) (ps : List Float) : Type 0 where
  pub lies : Lies (S.pass flag x) (S.smooth flag x qs) outs₀ edges₀ faces₀ ps₀ outs edges faces ps
  pub counts_are : d ≡ counts_of (S.pass flag x)
  pub weights_there : S.weightless flag x ≡ None

-- a pass goes on, or stops at a vertex without weight
abbrev pub Went : Scheme → Bool → Links → List Float → List ℕ → List ℕ → List ℕ → List Float → List ℕ → List ℕ → List ℕ → List Float → Result Counts ℕ → Type 0
Went S flag x qs outs₀ edges₀ faces₀ ps₀ outs edges faces ps (Ok d) = Goes S flag x qs d outs₀ edges₀ faces₀ ps₀ outs edges faces ps
Went S flag x qs outs₀ edges₀ faces₀ ps₀ outs edges faces ps (Err v) = S.weightless flag x ≡ Some v

-- ---- k passes
pub record RunReady (kind : Kind) (k : ℕ) (flag : Bool) (c : Counts) (outs edges faces : List ℕ) (ps work : List Float) : Type 0 where
  pub at : (laws-of kind).At flag (given c outs edges faces)
  pub held : Held c outs edges faces ps
  pub room : Roomy (tally (scheme_of kind) k flag (tally_of (given c outs edges faces))) outs edges faces ps
  pub work_room : needed (scheme_of kind) k flag (tally_of (given c outs edges faces)) ≤ length work

pub record Comes (S : Scheme) (k : ℕ) (flag : Bool) (m : Links) (qs : List Float) (d : Counts) (next : Bool) (outs₀ edges₀ faces₀ : List ℕ) (ps₀ : List Float) (outs edges faces : List ℕ) (ps : List Float) : Type 0 where
  pub lies : Lies (links S k flag m) (points S k flag m qs) outs₀ edges₀ faces₀ ps₀ outs edges faces ps
  pub counts_are : d ≡ counts_of (links S k flag m)
  pub flag_is : next ≡ turned S k flag
  pub weights_there : heavy S k 1 flag m ≡ None

abbrev pub WentOn : Scheme → ℕ → Bool → Links → List Float → List ℕ → List ℕ → List ℕ → List Float → List ℕ → List ℕ → List ℕ → List Float → Subdivided → Type 0
WentOn S k flag m qs outs₀ edges₀ faces₀ ps₀ outs edges faces ps (Ok (d, next)) = Comes S k flag m qs d next outs₀ edges₀ faces₀ ps₀ outs edges faces ps
WentOn S k flag m qs outs₀ edges₀ faces₀ ps₀ outs edges faces ps (Err r) = (p : ℕ × ℕ) × (heavy S k 1 flag m ≡ Some p) × (r ≡ NoWeight p.0 p.1)

-- ---- the same in what is lent
abbrev pub PassFrom : Kind → Bool → Counts → Buffers → Type 0
PassFrom kind flag c b = PassReady kind flag c b.result.outs b.result.edges b.result.faces b.points b.work

abbrev pub WentFrom : Scheme → Bool → Counts → Buffers → Buffers → Result Counts ℕ → Type 0
WentFrom S flag c b a r =
    Went S flag (given c b.result.outs b.result.edges b.result.faces) (take (3 * c.v) b.points)
    b.result.outs b.result.edges b.result.faces b.points a.result.outs a.result.edges a.result.faces a.points r

abbrev pub RunFrom : Kind → ℕ → Bool → Counts → Buffers → Type 0
RunFrom kind k flag c b = RunReady kind k flag c b.result.outs b.result.edges b.result.faces b.points b.work

abbrev pub WentOnFrom : Scheme → ℕ → Bool → Counts → Buffers → Buffers → Subdivided → Type 0
WentOnFrom S k flag c b a r =
    WentOn S k flag (given c b.result.outs b.result.edges b.result.faces) (take (3 * c.v) b.points)
    b.result.outs b.result.edges b.result.faces b.points a.result.outs a.result.edges a.result.faces a.points r

-- passes leave the marks, and every slice as long as it was
pub record Stays (b a : Buffers) : Type 0 where
  pub vmarks_stay : a.result.vmarks ≡ b.result.vmarks
  pub emarks_stay : a.result.emarks ≡ b.result.emarks
  pub fmarks_stay : a.result.fmarks ≡ b.result.fmarks
  pub outs_long : length a.result.outs ≡ length b.result.outs
  pub edges_long : length a.result.edges ≡ length b.result.edges
  pub faces_long : length a.result.faces ≡ length b.result.faces
  pub points_long : length a.points ≡ length b.points
  pub work_long : length a.work ≡ length b.work
