-- Whether anything is marked deleted. Assumes nothing.
use Prim.Native.Nat.{ℕ}
use mathlib.Core.Path.{◌≡◌, refl, sym, ◌∙◌}
use mathlib.Core.Bool.{Bool, true, false, true≢false}
use mathlib.Core.List.{List}
use Rattle.std.specs.Prelude.{Option, None, Some}
use Rattle.scope.specs.declared.answers.Place.{Place}
use Rattle.scope.specs.declared.answers.Place.TheVariants.{AtVertex, AtEdge, AtFace}
use Rattle.scope.specs.Lists.{◌or_else◌}
use Rattle.scope.specs.Check.{set_mark, spot, marked}
use Rattle.check_mesh.specs.Checked.{marks_at}
use Rattle.count_line.specs.Asks.{there}

pub there-not : {A : Type 0} (o : Option A) {r : Bool} → r ≡ there o → r ≡ false → o ≡ None
there-not None e f = refl
there-not (Some x) e f = absurd (true≢false (sym e ∙ f))

-- ---- the three
spot-there : (p : ℕ → Place) (o : Option ℕ) → there (spot p o) ≡ there o
spot-there p None = refl
spot-there p (Some i) = refl

first-there : (a b : Option Place) → there a ≡ true → true ≡ there (a or_else b)
first-there None b e = absurd (true≢false (sym e))
first-there (Some x) b e = refl

then-there : (a b : Option Place) → there a ≡ false → there b ≡ there (a or_else b)
then-there None b e = refl
then-there (Some x) b e = absurd (true≢false e)

module _ (vm em fm : List ℕ) where
  pub face-there : {r : Bool} → r ≡ there (set_mark fm) → r ≡ true → true ≡ there (marked (marks_at vm em fm))
  unfolding marked
  face-there e f = first-there (spot AtFace (set_mark fm)) _ (spot-there AtFace (set_mark fm) ∙ sym e ∙ f)

  edges-on : {r : Bool} → r ≡ there (set_mark fm) → r ≡ false → there (spot AtEdge (set_mark em) or_else spot AtVertex (set_mark vm)) ≡ there (marked (marks_at vm em fm))
  unfolding marked
  edges-on e f = then-there (spot AtFace (set_mark fm)) _ (spot-there AtFace (set_mark fm) ∙ sym e ∙ f)

  pub edge-there : {r s : Bool} → r ≡ there (set_mark fm) → r ≡ false → s ≡ there (set_mark em) → s ≡ true → true ≡ there (marked (marks_at vm em fm))
  edge-there e f d g = first-there (spot AtEdge (set_mark em)) _ (spot-there AtEdge (set_mark em) ∙ sym d ∙ g) ∙ edges-on e f

  pub vertex-there : {r s t : Bool} → r ≡ there (set_mark fm) → r ≡ false → s ≡ there (set_mark em) → s ≡ false → t ≡ there (set_mark vm) → t ≡ there (marked (marks_at vm em fm))
  vertex-there e f d g h =
      h ∙ sym (spot-there AtVertex (set_mark vm)) ∙ then-there (spot AtEdge (set_mark em)) _ (spot-there AtEdge (set_mark em) ∙ sym d ∙ g) ∙ edges-on e f
