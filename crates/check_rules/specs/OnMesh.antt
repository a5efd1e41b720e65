-- The elements of a mesh and the rules at a place of it, in the words of Place and Rule. Assumes nothing.
use Rattle.std.specs.Prelude.{ℕ}
use Rattle.check_rules.specs.declared.states.Mesh.{Mesh}
use Rattle.check_rules.specs.Place.{Half, Live}
use Rattle.check_rules.specs.Rule.{Bears, Leaves, LongEnough, Named, R1f, R1h, R1v, R2, R3, R5, R6}

-- an element that is there
abbrev pub HasVertex : Mesh → ℕ → Type 0
HasVertex m = Live m.vmarks.now m.nv

abbrev pub HasHalf : Mesh → ℕ → Type 0
HasHalf m = Half m.emarks.now m.ne

abbrev pub HasFace : Mesh → ℕ → Type 0
HasFace m = Live m.fmarks.now m.nf

-- C1
abbrev pub VertexOk : Mesh → ℕ → Type 0
VertexOk m v = HasVertex m v → R1v m.outs.now m.emarks.now m.ne v

abbrev pub LinksOk : Mesh → ℕ → Type 0
LinksOk m h = R1h m.edges.now m.vmarks.now m.emarks.now m.fmarks.now m.nv m.ne m.nf h

abbrev pub HalfedgeOk : Mesh → ℕ → Type 0
HalfedgeOk m h = HasHalf m h → LinksOk m h

abbrev pub FaceOk : Mesh → ℕ → Type 0
FaceOk m f = HasFace m f → R1f m.faces.now m.emarks.now m.ne f

-- C2, C3, C5 and C6
abbrev pub UndoOk : Mesh → ℕ → Type 0
UndoOk m h = HasHalf m h → R2 m.edges.now h

abbrev pub SewOk : Mesh → ℕ → Type 0
SewOk m h = HasHalf m h → R3 m.edges.now h

abbrev pub EdgeOk : Mesh → ℕ → Type 0
EdgeOk m h = HasHalf m h → R5 m.edges.now h

abbrev pub SpikeOk : Mesh → ℕ → Type 0
SpikeOk m h = HasHalf m h → R6 m.edges.now h

-- the first halves of C4, C7 and C8, and C9 at a halfedge
abbrev pub BearsOk : Mesh → ℕ → Type 0
BearsOk m f = HasFace m f → Bears m.edges.now m.faces.now f

abbrev pub LongOk : Mesh → ℕ → Type 0
LongOk m f = HasFace m f → LongEnough m.edges.now m.faces.now f

abbrev pub LeavesOk : Mesh → ℕ → Type 0
LeavesOk m v = HasVertex m v → Leaves m.edges.now m.outs.now v

abbrev pub NamedOk : Mesh → ℕ → Type 0
NamedOk m = Named m.edges.now m.emarks.now m.outs.now m.ne
