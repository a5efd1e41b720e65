-- The rules C1 to C9 as document 01 has them, each at its place: a halfedge, a face or a vertex. Assumes nothing.
use Rattle.std.specs.Prelude.{◌≡◌, ◌⊎◌, ◌≢◌, ℕ}
use Rattle.laws_mesh.specs.Reach.{Reach}
use Rattle.scope.specs.Links.{NONE, partner}
use Rattle.laws_mesh.specs.Mesh.{Mesh, tail, turn}

-- C1: each link is in range and reaches an undeleted element
pub record C1Vertex (m : Mesh) (v : ℕ) : Type 0 where
  pub out_ok : (m.out v ≡ NONE) ⊎ m.is_h (m.out v)

pub record C1Halfedge (m : Mesh) (h : ℕ) : Type 0 where
  pub face_ok : (m.face h ≡ NONE) ⊎ m.is_f (m.face h)
  pub head_ok : m.is_v (m.head h)
  pub next_ok : m.is_h (m.next h)
  pub prev_ok : m.is_h (m.prev h)

pub record C1Face (m : Mesh) (f : ℕ) : Type 0 where
  pub start_ok : m.is_h (m.start f)

-- C2: next and prev undo each other
pub record C2 (m : Mesh) (h : ℕ) : Type 0 where
  pub next_prev : m.next (m.prev h) ≡ h
  pub prev_next : m.prev (m.next h) ≡ h

-- C3: next starts at this head and has the same face
pub record C3 (m : Mesh) (h : ℕ) : Type 0 where
  pub from_head : tail m (m.next h) ≡ m.head h
  pub same_face : m.face (m.next h) ≡ m.face h

-- C4: a face's halfedge bears that face, and one loop holds all that bear it
pub record C4 (m : Mesh) (f : ℕ) : Type 0 where
  pub bears : m.face (m.start f) ≡ f
  pub holds : (b : ℕ) → m.is_h b → m.face b ≡ f → Reach m.next (m.start f) b

-- C5: every edge has at least one face
pub record C5 (m : Mesh) (h : ℕ) : Type 0 where
  pub faced : (m.face h ≢ NONE) ⊎ (m.face (partner h) ≢ NONE)

-- C6: no halfedge is followed by its partner
pub record C6 (m : Mesh) (h : ℕ) : Type 0 where
  pub no_spike : m.next h ≢ partner h

-- C7: a face has three or more halfedges, with heads all different
pub record C7 (m : Mesh) (f : ℕ) : Type 0 where
  pub three : m.next (m.next (m.start f)) ≢ m.start f
  pub differ : (a b : ℕ) → m.is_h a → m.is_h b → m.face a ≡ f → m.face b ≡ f → m.head a ≡ m.head b → a ≡ b

-- C8: a vertex's halfedge leaves it and the turn around it meets all that leave; none is named exactly if none leaves
pub record C8 (m : Mesh) (v : ℕ) : Type 0 where
  pub leaves : m.out v ≢ NONE → tail m (m.out v) ≡ v
  pub meets : m.out v ≢ NONE → (b : ℕ) → m.is_h b → tail m b ≡ v → Reach (turn m) (m.out v) b
  pub none_if : m.out v ≡ NONE → (h : ℕ) → m.is_h h → tail m h ≢ v

-- C9: at most one rim halfedge leaves a vertex, and the vertex then names it
pub record C9 (m : Mesh) (v : ℕ) : Type 0 where
  pub names : (h : ℕ) → m.is_h h → tail m h ≡ v → m.face h ≡ NONE → m.out v ≡ h

pub record Rules (m : Mesh) : Type 0 where
  pub c1v : (v : ℕ) → m.is_v v → C1Vertex m v
  pub c1h : (h : ℕ) → m.is_h h → C1Halfedge m h
  pub c1f : (f : ℕ) → m.is_f f → C1Face m f
  pub c2 : (h : ℕ) → m.is_h h → C2 m h
  pub c3 : (h : ℕ) → m.is_h h → C3 m h
  pub c4 : (f : ℕ) → m.is_f f → C4 m f
  pub c5 : (h : ℕ) → m.is_h h → C5 m h
  pub c6 : (h : ℕ) → m.is_h h → C6 m h
  pub c7 : (f : ℕ) → m.is_f f → C7 m f
  pub c8 : (v : ℕ) → m.is_v v → C8 m v
  pub c9 : (v : ℕ) → m.is_v v → C9 m v
