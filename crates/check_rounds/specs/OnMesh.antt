-- The rules that need a walk, and what is known in between, on a mesh, in the words of Rule and Tour. Assumes nothing.
use Rattle.std.specs.Prelude.{ℕ, ◌*◌, Option}
use Rattle.check_rules.specs.declared.states.Mesh.{Mesh}
use Rattle.check_rules.specs.OnMesh.{HasFace, HasVertex}
use Rattle.check_rules.specs.Place.{Low}
use Rattle.check_rules.specs.Rule.{Looped, Named, R4, R7, R8}
use Rattle.check_rounds.specs.Tour.{Spun, Turned}
use Rattle.mesh.specs.Words.{tail_at}

-- the rules at their places
abbrev pub LoopOk : Mesh → ℕ → Type 0
LoopOk m f = HasFace m f → R4 m.edges.now m.emarks.now m.faces.now m.ne f

abbrev pub DifferOk : Mesh → ℕ → Type 0
DifferOk m f = HasFace m f → R7 m.edges.now m.emarks.now m.faces.now m.ne f

abbrev pub TurnOk : Mesh → ℕ → Type 0
TurnOk m v = HasVertex m v → R8 m.edges.now m.emarks.now m.outs.now m.ne v

-- C9 at a halfedge
abbrev pub IsNamed : Mesh → ℕ → Type 0
IsNamed m = Named m.edges.now m.emarks.now m.outs.now m.ne

-- the lowest vertex of a halfedge that is not in order
abbrev pub LowVertex : (Mesh → ℕ → Type 0) → Mesh → Option ℕ → Type 0
LowVertex Ok m = Low (Ok m) (tail_at m.edges.now) (2 * m.ne) m.nv

-- ---- what is known in between

abbrev pub IsLooped : Mesh → Type 0
IsLooped m = Looped m.edges.now m.emarks.now m.ne

abbrev pub IsSpun : Mesh → Type 0
IsSpun m = Spun m.edges.now m.emarks.now m.ne

abbrev pub IsTurned : Mesh → Type 0
IsTurned m = Turned m.edges.now m.emarks.now m.outs.now m.vmarks.now m.ne m.nv
