-- What is lent to a reader, by the lists that the slices hold. Assumes nothing.
use Rattle.std.specs.Prelude.{◌≡◌}
use Rattle.file_read.specs.Format.{Lent}
use Rattle.file_read.specs.declared.lent.Lent as lent

abbrev pub held : lent.Lent → Lent
held l = record {
  slices = record {
    outs = l.outs.now;
    edges = l.edges.now;
    faces = l.faces.now;
    vmarks = l.vmarks.now;
    emarks = l.emarks.now;
    fmarks = l.fmarks.now;
  };
  points = l.points.now;
}

-- the same slices are lent after a call as before it
abbrev pub SameSlices : lent.Lent → lent.Lent → Type 0
SameSlices b d =
    (d.outs.ghost_name ≡ b.outs.ghost_name) × (d.edges.ghost_name ≡ b.edges.ghost_name) × (d.faces.ghost_name ≡ b.faces.ghost_name)
    × (d.vmarks.ghost_name ≡ b.vmarks.ghost_name) × (d.emarks.ghost_name ≡ b.emarks.ghost_name) × (d.fmarks.ghost_name ≡ b.fmarks.ghost_name)
    × (d.points.ghost_name ≡ b.points.ghost_name)
