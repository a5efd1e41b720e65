-- The amounts of a mesh as the sweep over its halfedges finds them, and as scope's tally. Assumes nothing.
use Rattle.std.specs.Prelude.{ℕ, ◌-◌, ◌*◌, not, List}
use Rattle.scope.specs.declared.records.Counts.{Counts}
use Rattle.scope.specs.Lists.{number_of}
use Rattle.scope.specs.Tally.{Tally}
use Rattle.mesh.specs.Rounds.{rim_at}
use Rattle.call_room.specs.declared.tally.Amounts.{Amounts}

-- S is the number of halfedges with a face, and b is what is left of all halfedges
unfoldable pub amounts_at : Counts → List ℕ → Amounts
amounts_at c es =
    let s = number_of (2 * c.e) (λ h. not (rim_at es h)) in
    record { v = c.v; e = c.e; f = c.f; s = s; b = 2 * c.e - s }

abbrev pub tallied : Amounts → Tally
tallied t = record { v = t.v; e = t.e; f = t.f; s = t.s; b = t.b }
