-- The looks before anything is written, step by step. Assumes nothing.
use Prim.Native.Nat.{ℕ, zero, suc, ◌<◌}
use mathlib.Core.Path.{◌≡◌, refl, sym, ap, ◌∙◌}
use mathlib.Core.Bool.{Bool, true, false, not}
use mathlib.Core.List.{List}
use Rattle.std.specs.Prelude.{Option, None, Some, Ok, Err}
use native.Mathlib.Omega.{arith}
use borrow.Author.Tests.{lt-ltb, le-ltb}
use mathlib.Core.Logic.{◌≢◌}
use Rattle.scope.specs.declared.records.Counts.{Counts}
use Rattle.scope.specs.declared.answers.Refusal.{Refusal}
use Rattle.scope.specs.declared.answers.Fault.{Fault}
use Rattle.scope.specs.declared.answers.Place.TheVariants.{AtVertex, AtEdge, AtFace}
use Rattle.scope.specs.declared.answers.Refusal.TheVariants.{TooManyPasses, ShortSlice, NotConsistent, MarkedDeleted}
use Rattle.scope.specs.Answers.{Checked}
use Rattle.scope.specs.Lists.{◌or_else◌}
use Rattle.std.specs.Option.{MatchOption, IsSomeAnd}
use Rattle.scope.specs.declared.answers.Place.{Place}
use Rattle.scope.specs.Check.{fault, marked, set_mark, spot}
use Rattle.scope.specs.Slices.{Slices, sizes, fits_with, links_of, marks_of, used}
use Rattle.scope.specs.Answers.{refuse_if, refuse}
use Rattle.check_mesh.specs.Checked.{answered, checked, marks_at}
use Rattle.check_mesh.proofs.EntryLaws.{sound}
use Rattle.call_steps.specs.Looks.{FewMarks, deleted_in, looked, unwanted_in}
use Rattle.laws_call.proofs.Handed.{what-fits}

-- ---- a place, or another
pub map_is : (o : Option ℕ) (r : Option Place) {P : ℕ → Place → Type 0} (p : ℕ → Place) → MatchOption o (r ≡ None) (λ x. IsSomeAnd r (P x)) → ((x : ℕ) (y : Place) → P x y → y ≡ p x) → r ≡ spot p o
map_is None r p m k = m
map_is (Some x) None p m k = absurd m
map_is (Some x) (Some y) p m k = ap Some (k x y m)

pub or_else_is : (o b r : Option Place) {P : Type 0} → MatchOption o P (λ x. r ≡ Some x) → (P → r ≡ b) → r ≡ (o or_else b)
or_else_is None b r m k = k m
or_else_is (Some x) b r m k = m

pub marked_is : (vm em fm : List ℕ) {f : Option ℕ} {m o p : Option Place} → f ≡ set_mark fm → m ≡ spot AtFace f → o ≡ (m or_else spot AtEdge (set_mark em))
    → p ≡ (o or_else spot AtVertex (set_mark vm)) → p ≡ marked (marks_at vm em fm)
unfolding marked
marked_is vm em fm {f} {m} {o} {p} a b d e = rw (e, d, b, a) (assoc (spot AtFace (set_mark fm)) (spot AtEdge (set_mark em)) (spot AtVertex (set_mark vm)))
  where
    assoc : (a b d : Option Place) → ((a or_else b) or_else d) ≡ (a or_else b or_else d)
    assoc None b d = refl
    assoc (Some x) b d = refl

-- ---- the order of the answers
module _ (k : ℕ) (c : Counts) (s : Slices) (p : ℕ) where
  pub looked-many : 12 < k → Err TooManyPasses ≡ answered (looked k c s p)
  unfolding looked
  looked-many l = rw (lt-ltb 12 k l)

  pub looked-checked : {r : Checked} {x : Refusal} → (12 < k → ⊥) → r ≡ checked c s p → r ≡ Err x → Err x ≡ answered (looked k c s p)
  unfolding looked checked
  looked-checked {r} {x} l e d = rw (le-ltb 12 k (omega arith)) (go (fits_with c (sizes s) p) (fault (links_of c s) (marks_of c s)) (sym d ∙ e))
    where
      go : (b : Bool) (o : Option Fault) → Err x ≡ answered (refuse_if (not b) ShortSlice or_else refuse o NotConsistent)
          → Err x ≡ answered (refuse_if (not b) ShortSlice or_else refuse o NotConsistent or_else refuse (unwanted_in k (marks_of c s)) MarkedDeleted)
      go false o q = q
      go true (Some f) q = q
      go true None q = let z : ◌≡◌ {A = ℕ} 0 1 = cc in absurd (omega arith)

  pub looked-sound : {r : Checked} → (12 < k → ⊥) → r ≡ checked c s p → r ≡ (Ok tt) → answered (refuse (unwanted_in k (marks_of c s)) MarkedDeleted) ≡ answered (looked k c s p)
  unfolding looked
  looked-sound {r} l e d = let q = sound c s p (sym e ∙ d) in rw (le-ltb 12 k (omega arith), q.0, q.1)

  pub looked-zero : {r : Checked} → r ≡ checked c s p → r ≡ (Ok tt) → k ≡ 0 → (Ok tt) ≡ answered (looked k c s p)
  looked-zero {r} e d z = rw (sym (looked-sound (λ l. omega arith) e d), z)

  pub looked-on : {r : Checked} → (12 < k → ⊥) → r ≡ checked c s p → r ≡ (Ok tt) → k ≢ 0 → answered (deleted_in c s.vmarks s.emarks s.fmarks) ≡ answered (looked k c s p)
  unfolding marks_of used
  looked-on {r} l e d z = wanted k z ∙ looked-sound l e d
    where
      wanted : (n : ℕ) → n ≢ 0 → answered (deleted_in c s.vmarks s.emarks s.fmarks) ≡ answered (refuse (unwanted_in n (marks_of c s)) MarkedDeleted)
      wanted zero x = absurd (x refl)
      wanted (suc n) x = refl

  pub few-marks : {r : Checked} → r ≡ checked c s p → r ≡ (Ok tt) → FewMarks c s.vmarks s.emarks s.fmarks
  unfolding sizes
  few-marks {r} e d =
      let h = what-fits c (sizes s) p (sound c s p (sym e ∙ d)).0 in
      record { few_v = h.v_in; few_e = h.e_in; few_f = h.f_in; v_in = h.vmarks_in; e_in = h.emarks_in; f_in = h.fmarks_in }
