-- Answer 5, judged from amounts that are looked up ahead. Assumes nothing.
use Prim.Native.Nat.{ℕ, zero, suc, ◌+◌, ◌-◌, ◌*◌, ◌/◌, ◌<◌}
use mathlib.Core.Path.{◌≡◌, refl, sym, ap, ◌∙◌, subst}
use mathlib.Core.Bool.{Bool, true, false, not, ◌&&◌}
use mathlib.Core.Logic.{◌≢◌}
use mathlib.Core.List.{List}
use Rattle.std.specs.Prelude.{Option, None, Some}
use native.Mathlib.Omega.{arith}
use borrow.Author.Tests.{le-leb, lt-leb}
use lib.Dec.{leb}
use Rattle.scope.specs.declared.records.Counts.{Counts}
use Rattle.scope.specs.Links.{Links}
use Rattle.scope.specs.Tally.{Tally, counted}
use Rattle.scope.specs.Slices.{Sizes, fits, fits_with}
use Rattle.scope.specs.Call.{Scheme, tally, begin, final, work_needed, enough}
use Rattle.laws_mesh.specs.Sides.{Within}
use Rattle.laws_call.specs.Laws.{Faced}
use Rattle.laws_call.proofs.Handed.{what-fits}
use Rattle.mesh.specs.Rounds.{rim_at}
use Rattle.call_room.specs.Amounts.{amounts_at, tallied}
use Rattle.call_room.specs.Ahead.{Whole, AheadOf, Told}
use Rattle.call_room.specs.Kinds.{scheme_of}
use Rattle.call_room.specs.declared.kind.Kind.{Kind}
use Rattle.call_room.specs.declared.tally.Amounts.{Amounts}
use Rattle.call_room.proofs.KindLaws.{laws-of}
use Rattle.call_room.proofs.TallyLaws.{number-few}
use Rattle.call_room.proofs.AheadLaws.{whole_ready}
use Rattle.call_steps.specs.Rooms.{readied, needed, enough_from}

-- ---- scope's test is this one, on what the first pass starts from
pub enough-is : (S : Scheme) (k : ℕ) (flag : Bool) (m : Links) (room : Sizes) (points work : ℕ) →
    enough_from S k (begin S k flag m).flag (begin S k flag m).tally room points work ≡ enough S k flag m room points work
unfolding enough_from enough needed work_needed final begin
enough-is S zero flag m room points work = refl
enough-is S (suc k) flag m room points work = refl

-- ---- three numbers for each vertex
pub with_points : (c : Counts) (s : Sizes) (points : ℕ) {r : Bool} → (points / 3 < c.v → ⊥) → r ≡ fits c s → r ≡ fits_with c s points
unfolding fits_with
with_points c s points {r} n e = rw (le-leb (3 * c.v) points (omega arith)) (whole r (fits c s) e)
  where
    whole : (a b : Bool) → a ≡ b → a ≡ b && true
    whole true b e = rw (sym e)
    whole false b e = rw (sym e)

pub without-points : (c : Counts) (s : Sizes) (points : ℕ) → points / 3 < c.v → false ≡ fits_with c s points
unfolding fits_with
without-points c s points l = rw (lt-leb (3 * c.v) points (omega arith)) (neither (fits c s))
  where
    neither : (b : Bool) → false ≡ b && false
    neither true = refl
    neither false = refl

-- ---- S and b of what is counted up are all halfedges
amounts-whole : (c : Counts) (es : List ℕ) → Whole (tallied (amounts_at c es))
unfolding amounts_at
amounts-whole c es = let q = number-few (2 * c.e) (λ h. not (rim_at es h)) in record { in_halves = omega arith }

pub counted-up : (c : Counts) (es : List ℕ) → counted (tallied (amounts_at c es)) ≡ c
unfolding counted amounts_at
counted-up c es = refl

-- ---- one pass or more: what the first starts from, and what the search ahead of it found
module _ (kind : Kind) (k : ℕ) (flag : Bool) (z : k ≢ 0) (c : Counts) (es : List ℕ) {t u : Amounts} (e : t ≡ amounts_at c es) (d : tallied u ≡ (scheme_of kind).ready (tallied t)) where
  started : tallied u ≡ readied (scheme_of kind) k (tallied (amounts_at c es))
  started = d ∙ ap (λ (x : Amounts). (scheme_of kind).ready (tallied x)) e ∙ of_some (scheme_of kind) k (tallied (amounts_at c es)) z
    where
      of_some : (S : Scheme) (k : ℕ) (x : Tally) → k ≢ 0 → S.ready x ≡ readied S k x
      of_some S zero x n = absurd (n refl)
      of_some S (suc k) x n = refl

  pub startable : Faced (tallied (amounts_at c es)) → Whole (tallied u) × Faced (tallied u)
  startable f =
      let p : tallied u ≡ (scheme_of kind).ready (tallied (amounts_at c es)) = d ∙ ap (λ (x : Amounts). (scheme_of kind).ready (tallied x)) e in (
        subst (λ (x : Tally). Whole x) (sym p) (whole_ready kind (tallied (amounts_at c es)) f (amounts-whole c es)),
        subst (λ (x : Tally). Faced x) (sym p) ((laws-of kind).ready_step (tallied (amounts_at c es)) f).faced,
      )

  pub reached : {r : Option (Amounts × Bool)} {a : Amounts} {next : Bool} → Told (scheme_of kind) (k - 1) flag (tallied u) r → r ≡ Some (a, next) →
      Within (tallied a) × AheadOf (scheme_of kind) (k - 1) 0 flag next (readied (scheme_of kind) k (tallied (amounts_at c es))) (tallied a)
  reached {r} {a} {next} w q =
      let w₁ : Told (scheme_of kind) (k - 1) flag (tallied u) (Some (a, next)) = subst (λ (x : Option (Amounts × Bool)). Told (scheme_of kind) (k - 1) flag (tallied u) x) q w in
      subst (λ (x : Tally). Within (tallied a) × AheadOf (scheme_of kind) (k - 1) 0 flag next x (tallied a)) started w₁

  pub passed_over : {r : Option (Amounts × Bool)} → Told (scheme_of kind) (k - 1) flag (tallied u) r → r ≡ None →
      (j : ℕ) → Within (tally (scheme_of kind) (k - 1 + j) flag (readied (scheme_of kind) k (tallied (amounts_at c es)))) → ⊥
  passed_over {r} w q =
      let w₁ : Told (scheme_of kind) (k - 1) flag (tallied u) None = subst (λ (x : Option (Amounts × Bool)). Told (scheme_of kind) (k - 1) flag (tallied u) x) q w in
      subst (λ (x : Tally). (j : ℕ) → Within (tally (scheme_of kind) (k - 1 + j) flag x) → ⊥) started w₁

-- ---- the ways to judge
both_false : (a b : Bool) → (a ≡ true → ⊥) → false ≡ a && b
both_false true b n = absurd (n refl)
both_false false b n = refl

second-false : (a b : Bool) → b ≡ false → false ≡ a && b
second-false true b e = sym e
second-false false b e = refl

second-true : (a b : Bool) {r : Bool} → r ≡ a → b ≡ true → r ≡ a && b
second-true true b e d = e ∙ sym d
second-true false b e d = e

needed-is : (S : Scheme) (k : ℕ) (flag : Bool) (t a : Tally) → k ≢ 0 → tally S (k - 1) flag t ≡ a → needed S k flag t ≡ 6 * (a.v + a.e + a.f)
unfolding needed
needed-is S zero flag t a n e = absurd (n refl)
needed-is S (suc k) flag t a n e =
    let p : suc k - 1 ≡ k = omega arith in
    let q : tally S k flag t ≡ a = rw p at e in
    rw q

module _ (S : Scheme) (k : ℕ) (flag : Bool) (t : Tally) (room : Sizes) (points work : ℕ) where
  pub room-now : {r : Bool} → k ≡ 0 → r ≡ fits_with (counted t) room points → r ≡ enough_from S k flag (readied S k t) room points work
  unfolding enough_from needed tally
  room-now {r} z e = rw z (second-true (fits_with (counted t) room points) (leb 0 work) e (le-leb 0 work (omega arith)))

  pub room-over : k ≢ 0 → ((j : ℕ) → Within (tally S (k - 1 + j) flag t) → ⊥) → false ≡ enough_from S k flag t room points work
  unfolding enough_from counted
  room-over z over =
      let e : k - 1 + 1 ≡ k = omega arith in
      let n : Within (tally S k flag t) → ⊥ = rw e at (over 1) in
      both_false (fits_with (counted (tally S k flag t)) room points) (leb (needed S k flag t) work)
      (λ f. let h = what-fits (counted (tally S k flag t)) room points f in n (record { v_within = h.v_in; e_within = h.e_in; f_within = h.f_in }))

  -- the mesh that the last pass starts from
  module _ (z : k ≢ 0) (next : Bool) (a : Tally) (ahead : AheadOf S (k - 1) 0 flag next t a) where
    before_last : tally S (k - 1) flag t ≡ a
    unfolding tally
    before_last = let e : k - 1 + 0 ≡ k - 1 = omega arith in rw e at (ahead.onward 0)

    last : tally S k flag t ≡ S.grow next a
    unfolding tally
    last = let e : k - 1 + 1 ≡ k = omega arith in rw e at (ahead.onward 1)

    work-is : needed S k flag t ≡ 6 * (a.v + a.e + a.f)
    work-is = needed-is S k flag t a z before_last

    pub room-short : work / 6 < a.v + a.e + a.f → false ≡ enough_from S k flag t room points work
    unfolding enough_from
    room-short l =
        second-false (fits_with (counted (tally S k flag t)) room points) (leb (needed S k flag t) work)
        (rw work-is (lt-leb (6 * (a.v + a.e + a.f)) work (omega arith)))

    pub room-fitting : {r : Bool} {b : Tally} → (work / 6 < a.v + a.e + a.f → ⊥) → b ≡ S.grow next a → r ≡ fits_with (record { v = b.v; e = b.e; f = b.f }) room points →
        r ≡ enough_from S k flag t room points work
    unfolding enough_from counted
    room-fitting {r} {b} l e f =
        second-true (fits_with (counted (tally S k flag t)) room points) (leb (needed S k flag t) work)
        (f ∙ ap (λ (x : Tally). fits_with (counted x) room points) (e ∙ sym last))
        (rw work-is (le-leb (6 * (a.v + a.e + a.f)) work (omega arith)))
