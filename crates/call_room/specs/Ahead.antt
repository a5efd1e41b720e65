-- What is known of the amounts some passes ahead. Assumes nothing.
use Rattle.std.specs.Prelude.{ℕ, ◌+◌, ◌*◌, ◌≤◌, ◌≡◌, Bool, Option, Some, None}
use Rattle.scope.specs.Tally.{Tally}
use Rattle.scope.specs.Call.{Scheme, tally, turned}
use Rattle.laws_mesh.specs.Sides.{Within}
use Rattle.laws_call.specs.Laws.{Faced}
use Rattle.call_room.specs.declared.tally.Amounts.{Amounts}
use Rattle.call_room.specs.Amounts.{tallied}

-- S and b are not more than all halfedges: of a good mesh they are all of them, but a table may be asked of any amounts
pub record Whole (t : Tally) : Type 0 where
  pub in_halves : t.s + t.b ≤ 2 * t.e

-- left more passes after x, the first with the flag next, come to what k passes after t come to, the first with flag, and so on from there
pub record AheadOf (S : Scheme) (k left : ℕ) (flag next : Bool) (t x : Tally) : Type 0 where
  pub whole : Whole x
  pub faced : Faced x
  pub onward : (j : ℕ) → tally S (k + j) flag t ≡ tally S (left + j) next x
  pub flag_onward : turned S k flag ≡ turned S left next

-- within the limit; or over it, then and ever after
abbrev pub Told : Scheme → ℕ → Bool → Tally → Option (Amounts × Bool) → Type 0
Told S k flag t (Some (a, next)) = Within (tallied a) × AheadOf S k 0 flag next t (tallied a)
Told S k flag t None = (j : ℕ) → Within (tally S (k + j) flag t) → ⊥
