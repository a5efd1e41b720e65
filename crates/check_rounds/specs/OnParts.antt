-- The parts of a sewn mesh, and the rules that need a walk and the tours, on these parts, in the words of Rule and Tour. Assumes nothing.
use Rattle.std.specs.Prelude.{ℕ, ◌*◌, Option}
use Rattle.check_rules.specs.declared.states.SewnMesh.{SewnMesh}
use Rattle.check_rounds.specs.declared.parts.SewnFaces.{SewnFaces}
use Rattle.check_rounds.specs.declared.parts.SewnHalves.{SewnHalves}
use Rattle.check_rounds.specs.declared.parts.SewnVertices.{SewnVertices}
use Rattle.check_rules.specs.Place.{Low}
use Rattle.check_rules.specs.Rule.{Alone, OnLoop, OnTurn}
use Rattle.check_rounds.specs.Tour.{AllBear, AllLeave, LedLoop, LedTurn, LoopTour, TurnTour}
use Rattle.mesh.specs.Words.{face_at, tail_at}

-- the parts
abbrev pub halves_of : SewnMesh → SewnHalves
halves_of m = record { edges = m.mesh.edges; emarks = m.mesh.emarks; ne = m.mesh.ne; fit = m.mesh.halfedges; sewn = m.sewn }

abbrev pub faces_of : SewnMesh → SewnFaces
faces_of m = record { halves = halves_of m; faces = m.mesh.faces; fmarks = m.mesh.fmarks; nf = m.mesh.nf; fit = m.mesh.sides; faced = m.faced }

abbrev pub vertices_of : SewnMesh → SewnVertices
vertices_of m = record { halves = halves_of m; outs = m.mesh.outs; vmarks = m.mesh.vmarks; nv = m.mesh.nv; fit = m.mesh.vertices; rooted = m.rooted }

-- the second halves of C4, C7 and C8, at a halfedge
abbrev pub IsOnLoop : SewnFaces → ℕ → Type 0
IsOnLoop m = OnLoop m.halves.edges.now m.halves.emarks.now m.faces.now m.halves.ne

abbrev pub IsAlone : SewnHalves → ℕ → Type 0
IsAlone m = Alone m.edges.now m.emarks.now m.ne

abbrev pub IsOnTurn : SewnVertices → ℕ → Type 0
IsOnTurn m = OnTurn m.halves.edges.now m.halves.emarks.now m.outs.now m.halves.ne

-- C4 and C8 at the least halfedge of a loop and of a turn
abbrev pub LeadsLoop : SewnFaces → ℕ → Type 0
LeadsLoop m = LedLoop m.halves.edges.now m.halves.emarks.now m.faces.now m.halves.ne

abbrev pub LeadsTurn : SewnVertices → ℕ → Type 0
LeadsTurn m = LedTurn m.halves.edges.now m.halves.emarks.now m.outs.now m.halves.ne

-- what a search finds: the lowest face or vertex of a halfedge that is not in order, or none
abbrev pub LowOffLoop : SewnFaces → Option ℕ → Type 0
LowOffLoop m = Low (IsOnLoop m) (face_at m.halves.edges.now) (2 * m.halves.ne) m.nf

abbrev pub LowNotAlone : SewnHalves → ℕ → Option ℕ → Type 0
LowNotAlone m nf = Low (IsAlone m) (face_at m.edges.now) (2 * m.ne) nf

abbrev pub LowOffTurn : SewnVertices → Option ℕ → Type 0
LowOffTurn m = Low (IsOnTurn m) (tail_at m.halves.edges.now) (2 * m.halves.ne) m.nv

-- ---- what is known in between

abbrev pub FacesBear : SewnFaces → Type 0
FacesBear m = AllBear m.halves.edges.now m.faces.now m.fmarks.now m.nf

abbrev pub VerticesLeave : SewnVertices → Type 0
VerticesLeave m = AllLeave m.halves.edges.now m.outs.now m.vmarks.now m.nv

abbrev pub FaceTour : SewnFaces → ℕ → ℕ → Type 0
FaceTour m = LoopTour m.halves.edges.now m.halves.emarks.now m.faces.now m.halves.ne

abbrev pub VertexTour : SewnVertices → ℕ → ℕ → Type 0
VertexTour m = TurnTour m.halves.edges.now m.halves.emarks.now m.outs.now m.halves.ne
