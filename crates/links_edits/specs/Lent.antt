-- Links in slices that were lent to code, and the counts of what they hold. Assumes nothing.
use Rattle.std.specs.Prelude.{◌≡◌, length}
use Rattle.scope.specs.Links.{Links}
use Rattle.links_edits.specs.declared.lent.Lent.{Lent}
use Rattle.links_edits.specs.Held.{held}

-- the links that they are
abbrev pub links_in : Lent → Links
links_in m = held m.v m.e m.f m.outs.now m.edges.now m.faces.now

-- n has the slices of m, as long as they were: what is written through it is written there
pub record SameSlices (m n : Lent) : Type 0 where
  pub same_outs : n.outs.ghost_name ≡ m.outs.ghost_name
  pub same_edges : n.edges.ghost_name ≡ m.edges.ghost_name
  pub same_faces : n.faces.ghost_name ≡ m.faces.ghost_name
  pub outs_long : length n.outs.now ≡ length m.outs.now
  pub edges_long : length n.edges.now ≡ length m.edges.now
  pub faces_long : length n.faces.now ≡ length m.faces.now
