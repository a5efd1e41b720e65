-- A whole Catmull-Clark pass: good again, with the counts of document 01's table, and every face of four. Assumes nothing.
use mathlib.Core.Path.{◌≡◌}
use Rattle.scope.specs.Links.{Links}
use Rattle.scope.specs.Passes.{catmull_pass}
use Rattle.scope.specs.Tally.{tally_of, catmull_tally}
use Rattle.laws_mesh.specs.Of.{Good}
use Rattle.laws_mesh.specs.Sides.{Within, Sided}
pub use Rattle.laws_catmull.proofs.Partway.{L, Partway, partway, len, k-in, most-v, most-e, most-f, room-v, room_e, room_f}
pub use Rattle.laws_catmull.proofs.Tally.{catmull-good, catmull-quads, catmull-tally, catmull-euler}

module _ (m : Links) (g : Good m) (w : Within (catmull_tally (tally_of m))) where
  -- one pass, all in one
  pub catmull-pass : Good (catmull_pass m) × (tally_of (catmull_pass m) ≡ catmull_tally (tally_of m)) × Sided 4 (catmull_pass m)
  catmull-pass = (catmull-good m g w, catmull-tally m g w, catmull-quads m g w)
