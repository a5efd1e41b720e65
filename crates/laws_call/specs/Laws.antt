-- What the parts of a scheme owe: all that is said of its calls is proved from this. Assumes nothing.
use Rattle.std.specs.Prelude.{ℕ, ◌+◌, ◌*◌, ◌≤◌, ◌<◌, ◌≡◌, Bool, List, length, Float}
use Rattle.scope.specs.Links.{Links}
use Rattle.scope.specs.Tally.{Tally, tally_of}
use Rattle.scope.specs.Call.{Scheme}
use Rattle.laws_mesh.specs.Of.{Good}
use Rattle.laws_mesh.specs.Sides.{Within, Sided}

-- faces have three halfedges or more
abbrev pub Faced : Tally → Type 0
Faced t = 3 * t.f ≤ t.s

-- V - E + F stays
abbrev pub Even : Tally → Tally → Type 0
Even t t' = t.v + t.f + t'.e ≡ t'.v + t'.f + t.e

-- no count shrinks, V - E + F stays, and faces have three halfedges or more
pub record Step (t t' : Tally) : Type 0 where
  pub v_grows : t.v ≤ t'.v
  pub e_grows : t.e ≤ t'.e
  pub f_grows : t.f ≤ t'.f
  pub even : Even t t'
  pub faced : Faced t'

-- Of a scheme that leaves faces of `sides` halfedges. A law about links is asked only where the counts stay within 1,048,576: beyond
-- 4294967295 the number of a face could not be told from "none".
pub record Laws (S : Scheme) (sides : ℕ) : Type 1 where
  -- `At flag m`: a pass with this flag may begin at m. There preparing again changes nothing
  pub At : Bool → Links → Type 0
  pub at_good : (flag : Bool) (m : Links) → At flag m → Good m
  pub at_prepared : (flag : Bool) (m : Links) → At flag m → S.prepare m ≡ m
  pub at_settled : (flag : Bool) (m : Links) → At flag m → S.settle m flag ≡ flag
  pub at_ready : (flag : Bool) (m : Links) → At flag m → S.ready (tally_of m) ≡ tally_of m
  -- preparing comes to where a pass may begin, and so does a pass
  pub begins : (flag : Bool) (m : Links) → Good m → Within (S.ready (tally_of m)) → At (S.settle (S.prepare m) flag) (S.prepare m)
  pub goes_on : (flag : Bool) (m : Links) → At flag m → Within (S.grow flag (tally_of m)) → At (S.turn flag) (S.pass flag m)
  -- document 01's table counts the records present
  pub prepare_tally : (m : Links) → Good m → Within (S.ready (tally_of m)) → tally_of (S.prepare m) ≡ S.ready (tally_of m)
  pub pass_tally : (flag : Bool) (m : Links) → At flag m → Within (S.grow flag (tally_of m)) → tally_of (S.pass flag m) ≡ S.grow flag (tally_of m)
  pub pass_sides : (flag : Bool) (m : Links) → At flag m → Within (S.grow flag (tally_of m)) → Sided sides (S.pass flag m)
  -- a point for each vertex
  pub smooth_long : (flag : Bool) (m : Links) (ps : List Float) → At flag m → Within (S.grow flag (tally_of m)) → length ps ≡ 3 * m.nv →
      length (S.smooth flag m ps) ≡ 3 * (S.pass flag m).nv
  -- of the table itself: preparing adds no vertex, nothing shrinks, and a pass adds a face wherever there is one
  pub ready_vertices : (t : Tally) → (S.ready t).v ≡ t.v
  pub ready_step : (t : Tally) → Faced t → Step t (S.ready t)
  pub grow_step : (flag : Bool) (t : Tally) → Faced t → Step t (S.grow flag t)
  pub grow_more : (flag : Bool) (t : Tally) → Faced t → 0 < t.f → t.f < (S.grow flag t).f
