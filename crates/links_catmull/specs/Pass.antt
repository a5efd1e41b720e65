-- What the links of a Catmull-Clark pass ask of the slices: a good mesh and then zeros, and room for the mesh after the pass. Assumes nothing.
use Rattle.std.specs.Prelude.{ℕ, ◌*◌, ◌≡◌, List, take}
use Rattle.scope.specs.declared.records.Counts.{Counts}
use Rattle.scope.specs.Lists.{lay}
use Rattle.scope.specs.Tally.{tally_of, catmull_tally}
use Rattle.laws_mesh.specs.Of.{Good}
use Rattle.laws_mesh.specs.Sides.{Within}
use Rattle.links_edits.specs.Held.{given, Room}

pub record Ready (c : Counts) (outs edges faces : List ℕ) : Type 0 where
  pub good : Good (given c outs edges faces)
  pub within : Within (catmull_tally (tally_of (given c outs edges faces)))
  pub room : Room (catmull_tally (tally_of (given c outs edges faces))) outs edges faces
  pub outs_hold : outs ≡ lay 0 (take c.v outs) outs
  pub edges_hold : edges ≡ lay 0 (take (8 * c.e) edges) edges
  pub faces_hold : faces ≡ lay 0 (take c.f faces) faces
