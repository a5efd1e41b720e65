-- Answer 14: what it is to break C6 or C7, and to be given exactly then. Assumes nothing.
use Rattle.std.specs.Prelude.{◌≡◌, ◌⊎◌, ℕ, None, Some}
use Rattle.scope.specs.declared.answers.Refusal.TheVariants.{WouldBreak}
use Rattle.scope.specs.Links.{Links, Marks}
use Rattle.scope.specs.EditCalls.{Edit}
use Rattle.laws_mesh.specs.Mesh.{Mesh, Consistent}
use Rattle.laws_mesh.specs.Rules.{C6, C7}
use Rattle.laws_mesh.specs.Of.{mesh_of, Sized, Marked}
use Rattle.laws_edit.specs.Kept.{marks_after}

-- a halfedge that is there breaks C6, or a face that is there breaks C7
abbrev pub Breaks : Mesh → Type 0
Breaks M = ((h : ℕ) × M.is_h h × (C6 M h → ⊥)) ⊎ ((f : ℕ) × M.is_f f × (C7 M f → ⊥))

-- on a consistent mesh: where the edit answers 14, what it would leave breaks C6 or C7; where it answers none of 7 to 14, that is consistent, so it breaks neither
pub record Guards (E : Edit) (m : Links) (k : Marks) : Type 0 where
  pub would_break : E.denied m k ≡ Some WouldBreak → Breaks (mesh_of (E.links m) (marks_after E m k))
  pub else_sound : E.denied m k ≡ None → Consistent (mesh_of (E.links m) (marks_after E m k))
  pub else_unbroken : E.denied m k ≡ None → ¬ Breaks (mesh_of (E.links m) (marks_after E m k))

abbrev pub Guarded : Edit → Type 0
Guarded E = (m : Links) (k : Marks) → Sized m → Marked m k → Consistent (mesh_of m k) → Guards E m k
