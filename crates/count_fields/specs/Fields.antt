-- The line of the counter as its fields (document 01, section 5). Assumes nothing.
use Rattle.std.specs.Prelude.{ℕ, ◌+◌, ◌-◌, ◌/◌, true, false, ltb}
use Rattle.scope.specs.Lists.{if}
use Rattle.scope.specs.Links.{Links}
use Rattle.scope.specs.Tally.{tally_of}
use Rattle.count_fields.specs.declared.count.Shells.{Shells}
use Rattle.count_fields.specs.declared.count.Tally.{Tally}
use Rattle.count_fields.specs.Count.{joined_of, rim_loops}

-- §5: shells, half of (vertices with an edge, less E, plus F, plus rim loops), with a minus sign below zero
unfoldable pub shells_of : ℕ → ℕ → ℕ → ℕ → Shells
shells_of w e f r =
    let up = w + f + r in
    let below : Shells = record { minus = true; size = (e - up) / 2 } in
    let above : Shells = record { minus = false; size = (up - e) / 2 } in
    if (ltb up e) below above

-- §5: V, E, F, S, b, and shells
unfoldable pub counted : Links → Tally
counted m = record {
  v = m.nv;
  e = m.ne;
  f = m.nf;
  corners = (tally_of m).s;
  rim = (tally_of m).b;
  shells = shells_of (joined_of m) m.ne m.nf (rim_loops m);
}
