-- The mesh that links and marks describe, and what is asked of links: lists as long as the counts say, and consistency. Assumes nothing.
use Rattle.std.specs.Prelude.{◌≡◌, ℕ, ◌*◌, ◌/◌, ◌≤◌, ◌<◌, get_or, length}
use Rattle.scope.specs.Links.{Links, Marks, face, head, next, prev, out, start}
use Rattle.laws_mesh.specs.Mesh.{Mesh, Consistent}

-- the mesh of these links, with the halfedges, vertices and faces that H₁, V₁ and F₁ say
abbrev pub mesh_on : (ℕ → Type 0) → (ℕ → Type 0) → (ℕ → Type 0) → Links → Mesh
mesh_on H₁ V₁ F₁ m = record { is_h = H₁; is_v = V₁; is_f = F₁; face = face m; head = head m; next = next m; prev = prev m; out = out m; start = start m }

-- with all that is in range: nothing is marked
abbrev pub mesh : Links → Mesh
mesh m = mesh_on (λ h. h < 2 * m.ne) (λ v. v < m.nv) (λ f. f < m.nf) m

-- with those in range and not marked deleted
abbrev pub mesh_of : Links → Marks → Mesh
mesh_of m k =
    mesh_on (λ h. (h < 2 * m.ne) × (get_or k.es (h / 2) 0 ≡ 0)) (λ v. (v < m.nv) × (get_or k.vs v 0 ≡ 0)) (λ f. (f < m.nf) × (get_or k.fs f 0 ≡ 0)) m

-- each list is as long as its count says, and no count is over 1,048,576
pub record Sized (m : Links) : Type 0 where
  pub outs_long : length m.outs ≡ m.nv
  pub edges_long : length m.edges ≡ 8 * m.ne
  pub faces_long : length m.faces ≡ m.nf
  pub few_v : m.nv ≤ 1048576
  pub few_e : m.ne ≤ 1048576
  pub few_f : m.nf ≤ 1048576

-- the same of marks
pub record Marked (m : Links) (k : Marks) : Type 0 where
  pub vs_long : length k.vs ≡ m.nv
  pub es_long : length k.es ≡ m.ne
  pub fs_long : length k.fs ≡ m.nf

pub record Good (m : Links) : Type 0 where
  pub sized : Sized m
  pub consistent : Consistent (mesh m)
