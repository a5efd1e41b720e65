-- What a whole call of an edit leaves in its own mesh when it is done. Assumes nothing.
use Rattle.std.specs.Prelude.{◌≡◌, None}
use Rattle.scope.specs.declared.records.Counts.{Counts}
use Rattle.scope.specs.Links.{Links, Marks}
use Rattle.scope.specs.Check.{fault}
use Rattle.scope.specs.Slices.{links_of, marks_of}
use Rattle.scope.specs.EditCalls.{Edit, Own, edit}
use Rattle.laws_edit.specs.Kept.{marks_after}

-- the mesh that is handed over, and the one that is left under the counts c
abbrev pub own_links : Own → Links
own_links o = links_of o.counts o.slices

abbrev pub own_marks : Own → Marks
own_marks o = marks_of o.counts o.slices

pub record Leaves (E : Edit) (o : Own) (c : Counts) : Type 0 where
  -- the counts record says what the answer says, and both what was judged
  pub counts_left : (edit E o).left.counts ≡ c
  pub as_wanted : c ≡ E.wanted (own_links o)
  -- the slices hold the mesh of the definition
  pub links_left : own_links (edit E o).left ≡ E.links (own_links o)
  pub marks_left : own_marks (edit E o).left ≡ marks_after E (own_links o) (own_marks o)
  -- and the check finds nothing wrong in it
  pub sound : fault (own_links (edit E o).left) (own_marks (edit E o).left) ≡ None
