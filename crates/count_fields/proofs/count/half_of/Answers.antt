use Prim.Native.Nat.{ℕ, ◌+◌, ◌-◌, ◌/◌}
use native.Mathlib.Omega.{arith}
use mathlib.Core.Path.{◌≡◌, refl}
use mathlib.Core.Bool.{Bool, true, false}
use lib.Dec.{ltb}
use borrow.Author.Tests.{ltb-true, ltb-false}
use Rattle.scope.specs.Lists.{if}
use Rattle.count_fields.specs.declared.count.Shells.{Shells}
use Rattle.count_fields.specs.Fields.{shells_of}
use Rattle.count_fields.proofs.count.half_of.Goals as goal

-- one of the two differences is 0
apart : (up e : ℕ) → ◌≡◌ {A = Shells} (record { minus = ltb up e; size = ((up - e) + (e - up)) / 2 })
    (if (ltb up e) (record { minus = true; size = (e - up) / 2 }) (record { minus = false; size = (up - e) / 2 }))
apart up e = go (ltb up e) refl
  where
    go : (b : Bool) → ltb up e ≡ b → ◌≡◌ {A = Shells} (record { minus = b; size = ((up - e) + (e - up)) / 2 })
        (if b (record { minus = true; size = (e - up) / 2 }) (record { minus = false; size = (up - e) / 2 }))
    go true t = let l = ltb-true up e t in let q : (up - e) + (e - up) ≡ e - up = omega arith in rw q refl
    go false t = let l = ltb-false up e t in let q : (up - e) + (e - up) ≡ up - e = omega arith in rw q refl

pub returns : goal.returns
unfolding shells_of
returns c = rw c.abs_diff.ensures (apart _ _)
