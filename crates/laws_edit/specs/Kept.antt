-- What an edit that is done leaves: lists as long as the counts say, a consistent mesh, the counts that were judged. Assumes nothing.
use Rattle.std.specs.Prelude.{◌≡◌, ◌*◌, length, None}
use Rattle.scope.specs.Links.{Links, Marks}
use Rattle.scope.specs.Tally.{counts_of}
use Rattle.scope.specs.Slices.{Sizes}
use Rattle.scope.specs.EditCalls.{Edit, unmarked_new, edit_refusal}
use Rattle.laws_mesh.specs.Mesh.{Consistent}
use Rattle.laws_mesh.specs.Of.{mesh_of}

-- each list is as long as its count says
pub record Laid (m : Links) (k : Marks) : Type 0 where
  pub outs_long : length m.outs ≡ m.nv
  pub edges_long : length m.edges ≡ 8 * m.ne
  pub faces_long : length m.faces ≡ m.nf
  pub vs_long : length k.vs ≡ m.nv
  pub es_long : length k.es ≡ m.ne
  pub fs_long : length k.fs ≡ m.nf

-- the marks afterwards
abbrev pub marks_after : Edit → Links → Marks → Marks
marks_after E m k = unmarked_new (E.links m) (E.marks k)

pub record Kept (E : Edit) (m : Links) (k : Marks) : Type 0 where
  pub laid : Laid (E.links m) (marks_after E m k)
  pub consistent : Consistent (mesh_of (E.links m) (marks_after E m k))
  pub counted : counts_of (E.links m) ≡ E.wanted m

-- whatever it is asked of, if it is not refused
abbrev pub Keeps : Edit → Type 0
Keeps E = (m : Links) (k : Marks) (own : Sizes) → Laid m k → edit_refusal E m k own ≡ None → Kept E m k
