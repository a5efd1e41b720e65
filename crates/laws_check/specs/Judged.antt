-- What a fault says, in propositions: the rules in order, each in order everywhere or broken at a first place. Assumes nothing.
use Rattle.std.specs.Prelude.{◌≡◌, ℕ, ◌*◌, ◌<◌, Option, None, Some}
use Rattle.scope.specs.declared.answers.Place.{Place}
use Rattle.scope.specs.declared.answers.Place.TheVariants.{AtVertex, AtHalfedge, AtFace}
use Rattle.scope.specs.declared.answers.Fault.{Fault}
use Rattle.scope.specs.Links.{Links, Marks}
use Rattle.laws_mesh.specs.Mesh.{Mesh}
use Rattle.laws_mesh.specs.Rules.{C1Vertex, C1Halfedge, C1Face, C2, C3, C4, C5, C6, C7, C8, C9}
use Rattle.laws_mesh.specs.Of.{mesh_of}

-- one rule at one kind of place, and what is said where it is in order everywhere
pub data Stage (rule : ℕ) (place : ℕ → Place) (size : ℕ) (Ok : ℕ → Type 0) (Rest : Option Fault → Type 0) (a : Option Fault) : Type 0 where
  broken_at : (i : ℕ) → i < size → ((j : ℕ) → j < i → Ok j) → (Ok i → ⊥) → a ≡ Some (record { rule = rule; place = place i }) → Stage rule place size Ok Rest a
  passed : ((i : ℕ) → i < size → Ok i) → Rest a → Stage rule place size Ok Rest a

-- a rule at the vertices, halfedges or faces that are there
abbrev pub AtV : ((M : Mesh) → ℕ → Type 0) → Links → Marks → ℕ → Type 0
AtV C m k v = (mesh_of m k).is_v v → C (mesh_of m k) v

abbrev pub AtH : ((M : Mesh) → ℕ → Type 0) → Links → Marks → ℕ → Type 0
AtH C m k h = (mesh_of m k).is_h h → C (mesh_of m k) h

abbrev pub AtF : ((M : Mesh) → ℕ → Type 0) → Links → Marks → ℕ → Type 0
AtF C m k f = (mesh_of m k).is_f f → C (mesh_of m k) f

abbrev pub Judged : Links → Marks → Option Fault → Type 0
Judged m k =
    Stage 1 AtVertex m.nv (AtV C1Vertex m k)
    (Stage 1 AtHalfedge (2 * m.ne) (AtH C1Halfedge m k)
    (Stage 1 AtFace m.nf (AtF C1Face m k)
    (Stage 2 AtHalfedge (2 * m.ne) (AtH C2 m k)
    (Stage 3 AtHalfedge (2 * m.ne) (AtH C3 m k)
    (Stage 4 AtFace m.nf (AtF C4 m k)
    (Stage 5 AtHalfedge (2 * m.ne) (AtH C5 m k)
    (Stage 6 AtHalfedge (2 * m.ne) (AtH C6 m k)
    (Stage 7 AtFace m.nf (AtF C7 m k)
    (Stage 8 AtVertex m.nv (AtV C8 m k)
    (Stage 9 AtVertex m.nv (AtV C9 m k)
    (λ (a : Option Fault). a ≡ None)))))))))))
