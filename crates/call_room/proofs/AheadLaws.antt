-- Amounts pass by pass: S and b stay within all halfedges, and what is over the limit stays over it. Assumes nothing.
use Prim.Native.Nat.{ℕ, zero, suc, ◌+◌, ◌-◌, ◌<◌}
use mathlib.Core.Path.{◌≡◌, ◌∙◌}
use mathlib.Core.Bool.{Bool}
use native.Mathlib.Omega.{arith}
use Rattle.scope.specs.Tally.{Tally, catmull_tally}
use Rattle.scope.specs.Call.{Scheme, tally, turned}
use Rattle.scope.specs.Schemes.{catmull}
use Rattle.laws_mesh.specs.Sides.{Within}
use Rattle.laws_call.specs.Laws.{Faced}
use Rattle.laws_call.proofs.Passes.{within_step, tally-step}
use Rattle.call_room.specs.declared.kind.Kind.{Kind}
use Rattle.call_room.specs.declared.kind.Kind.TheVariants.{Catmull}
use Rattle.call_room.specs.Kinds.{scheme_of, sides_of}
use Rattle.call_room.specs.Ahead.{Whole, AheadOf}
use Rattle.call_room.proofs.KindLaws.{laws-of}

-- ---- the table of every kind keeps S and b within all halfedges
pub whole_ready : (kind : Kind) (t : Tally) → Faced t → Whole t → Whole ((scheme_of kind).ready t)
unfolding catmull
whole_ready Catmull t f w = w

whole-grown : (kind : Kind) (flag : Bool) (t : Tally) → Faced t → Whole t → Whole ((scheme_of kind).grow flag t)
unfolding catmull catmull_tally
whole-grown Catmull flag t f w = let e = w.in_halves in record { in_halves = omega arith }

-- ---- the first of some passes, and the rest
module _ (S : Scheme) where
  one_more : (left j : ℕ) (next : Bool) (x : Tally) → 0 < left → tally S (left + j) next x ≡ tally S (left - 1 + j) (S.turn next) (S.grow next x)
  unfolding tally
  one_more zero j next x l = absurd (omega arith)
  one_more (suc left) j next x l =
      let a : suc left + j ≡ suc (left + j) = omega arith in
      let b : suc left - 1 + j ≡ left + j = omega arith in
      rw (a, b)

  one_turn : (left : ℕ) (next : Bool) → 0 < left → turned S left next ≡ turned S (left - 1) (S.turn next)
  unfolding turned
  one_turn zero next l = absurd (omega arith)
  one_turn (suc left) next l = let a : suc left - 1 ≡ left = omega arith in rw a

-- ---- the search ahead
module _ (kind : Kind) where
  pub ahead-next : {k left : ℕ} {flag next then : Bool} {t x y : Tally} → AheadOf (scheme_of kind) k left flag next t x → 0 < left →
      y ≡ (scheme_of kind).grow next x → then ≡ (scheme_of kind).turn next → AheadOf (scheme_of kind) k (left - 1) flag then t y
  ahead-next {k} {left} {flag} {next} {then} {t} {x} {y} a l e d = record {
    whole = rw e (whole-grown kind next x a.faced a.whole);
    faced = rw e ((laws-of kind).grow_step next x a.faced).faced;
    onward = λ j. a.onward j ∙ rw (e, d) (one_more (scheme_of kind) left j next x l);
    flag_onward = a.flag_onward ∙ rw d (one_turn (scheme_of kind) left next l);
  }

  pub ahead-over : {k left : ℕ} {flag next : Bool} {t x : Tally} → AheadOf (scheme_of kind) k left flag next t x → (Within x → ⊥) →
      (j : ℕ) → Within (tally (scheme_of kind) (k + j) flag t) → ⊥
  ahead-over {k} {left} {flag} {next} {t} {x} a n j w =
      let v : Within (tally (scheme_of kind) (left + j) next x) = rw (a.onward j) at w in
      n (within_step x _ (tally-step (scheme_of kind) (sides_of kind) (laws-of kind) (left + j) next x a.faced) v)
