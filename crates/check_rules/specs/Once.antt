-- The facts of a checked mesh have one proof at most, so that a type can keep them. Assumes nothing.
use Rattle.std.specs.Prelude.{◌≡◌, List, ◌⊎◌, ℕ, ◌≤◌}
use denote.Struct.Props.{props}
use mathlib.Core.Logic.{inl, inr}
use mathlib.Core.Path.{ap}
use native.Mathlib.Omega.{arith}
use Rattle.check_rules.specs.Place.{Half, Live}
use Rattle.check_rules.specs.Rule.{Faced, Rooted}
use Rattle.scope.specs.Links.{NONE}

either_prop : {A B : Type 0} → IsProp A → IsProp B → (A → B → ⊥) → IsProp (A ⊎ B)
either_prop p q n (inl x) (inl y) = ap inl (p x y)
either_prop p q n (inr x) (inr y) = ap inr (q x y)
either_prop p q n (inl x) (inr y) = absurd (n x y)
either_prop p q n (inr x) (inl y) = absurd (n y x)

none_or_live-prop : {n : ℕ} → n ≤ 1048576 → (m : List ℕ) (x : ℕ) → IsProp ((x ≡ NONE) ⊎ Live m n x)
none_or_live-prop few m x = either_prop (hlevel props) (hlevel props) (λ e (l, q). omega arith)

none_or_half-prop : {n : ℕ} → n ≤ 1048576 → (m : List ℕ) (x : ℕ) → IsProp ((x ≡ NONE) ⊎ Half m n x)
none_or_half-prop few m x = either_prop (hlevel props) (hlevel props) (λ e (l, q). omega arith)

pub Faced-prop : {ed em fl fm : List ℕ} {e f : ℕ} → f ≤ 1048576 → IsProp (Faced ed em fl fm e f)
Faced-prop few = hlevel (none_or_live-prop few, props)

pub Rooted-prop : {ed em ol vm : List ℕ} {e v : ℕ} → e ≤ 1048576 → IsProp (Rooted ed em ol vm e v)
Rooted-prop few = hlevel (none_or_half-prop few, props)
