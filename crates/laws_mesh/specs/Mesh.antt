-- Halfedge meshes, and what it is for one to be consistent (document 01, section 2). Assumes nothing.
use Rattle.std.specs.Prelude.{◌≡◌, ◌⊎◌, ◌≢◌, ℕ, ◌<◌}
use Rattle.scope.specs.Links.{NONE, partner}
use Rattle.laws_mesh.specs.Reach.{Reach}

-- is_h, is_v and is_f say which halfedges, vertices and faces are there (in range and not marked deleted)
pub record Mesh : Type 1 where
  pub is_h : ℕ → Type 0
  pub is_v : ℕ → Type 0
  pub is_f : ℕ → Type 0
  pub face : ℕ → ℕ
  pub head : ℕ → ℕ
  pub next : ℕ → ℕ
  pub prev : ℕ → ℕ
  pub out : ℕ → ℕ
  pub start : ℕ → ℕ

abbrev pub tail : Mesh → ℕ → ℕ
tail m h = m.head (partner h)

abbrev pub turn : Mesh → ℕ → ℕ
turn m h = partner (m.prev h)

-- what every mesh that is laid out in slices has
pub record Shape (m : Mesh) : Type 0 where
  pub size : ℕ
  pub below : (x : ℕ) → m.is_h x → x < size
  pub H-partner : (x : ℕ) → m.is_h x → m.is_h (partner x)
  pub H-none : (x : ℕ) → m.is_h x → x ≢ NONE
  pub F-none : (x : ℕ) → m.is_f x → x ≢ NONE

-- C1 to C9, but that a face's loop may be of two halfedges
pub record Core (m : Mesh) : Type 0 where
  -- C1
  pub face_in : (h : ℕ) → m.is_h h → (m.face h ≡ NONE) ⊎ m.is_f (m.face h)
  pub head_in : (h : ℕ) → m.is_h h → m.is_v (m.head h)
  pub next_in : (h : ℕ) → m.is_h h → m.is_h (m.next h)
  pub prev_in : (h : ℕ) → m.is_h h → m.is_h (m.prev h)
  pub out_in : (v : ℕ) → m.is_v v → (m.out v ≡ NONE) ⊎ m.is_h (m.out v)
  pub start_in : (f : ℕ) → m.is_f f → m.is_h (m.start f)
  -- C2
  pub next_prev : (h : ℕ) → m.is_h h → m.next (m.prev h) ≡ h
  pub prev_next : (h : ℕ) → m.is_h h → m.prev (m.next h) ≡ h
  -- C3
  pub next_tail : (h : ℕ) → m.is_h h → tail m (m.next h) ≡ m.head h
  pub next_face : (h : ℕ) → m.is_h h → m.face (m.next h) ≡ m.face h
  -- C4
  pub start_bears : (f : ℕ) → m.is_f f → m.face (m.start f) ≡ f
  pub one_loop : (a b : ℕ) → m.is_h a → m.is_h b → m.face a ≢ NONE → m.face a ≡ m.face b → Reach m.next a b
  -- C5
  pub a_face : (h : ℕ) → m.is_h h → m.face h ≡ NONE → m.face (partner h) ≢ NONE
  -- C6
  pub no_spike : (h : ℕ) → m.is_h h → m.next h ≢ partner h
  -- C7
  pub heads_differ : (a b : ℕ) → m.is_h a → m.is_h b → m.face a ≢ NONE → m.face a ≡ m.face b → m.head a ≡ m.head b → a ≡ b
  pub two_long : (a : ℕ) → m.is_h a → m.face a ≢ NONE → m.next a ≢ a
  -- C8
  pub out_leaves : (v : ℕ) → m.is_v v → m.out v ≢ NONE → tail m (m.out v) ≡ v
  pub none_leaves : (v : ℕ) → m.is_v v → m.out v ≡ NONE → (h : ℕ) → m.is_h h → tail m h ≢ v
  pub one_turn : (a b : ℕ) → m.is_h a → m.is_h b → tail m a ≡ tail m b → Reach (turn m) a b
  -- C9
  pub rim_named : (h : ℕ) → m.is_h h → m.face h ≡ NONE → m.out (tail m h) ≡ h

-- the rest of C7
pub record Three (m : Mesh) : Type 0 where
  pub three_long : (a : ℕ) → m.is_h a → m.face a ≢ NONE → m.next (m.next a) ≢ a

pub record Consistent (m : Mesh) : Type 0 where
  pub core : Core m
  pub three : Three m

-- m with other vertices, leaving halfedges, and starts of its faces
abbrev pub relinked : Mesh → (ℕ → Type 0) → (ℕ → ℕ) → (ℕ → ℕ) → Mesh
relinked m V₁ out₁ start₁ = record {
  is_h = m.is_h;
  is_v = V₁;
  is_f = m.is_f;
  face = m.face;
  head = m.head;
  next = m.next;
  prev = m.prev;
  out = out₁;
  start = start₁;
}
