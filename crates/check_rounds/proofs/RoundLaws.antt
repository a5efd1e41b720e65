-- The rounds by next and by turn where C1, C2 and C3 are in order: they stay inside, meet what their start leads to, and are as long as their cycle. Assumes nothing.
use mathlib.Core.Path.{◌≡◌, sym, ap, ◌∙◌, subst, subst⁻¹}
use mathlib.Core.Bool.{Bool}
use mathlib.Core.List.{List}
use Prim.Native.Nat.{ℕ, ◌*◌, ◌≤◌}
use lib.ListN.{length}
use Rattle.scope.specs.Lists.{round, has}
use Rattle.mesh.specs.Words.{next_at, turn_at}
use Rattle.mesh.specs.Rounds.{Walk, loop_at, turns_at}
use Rattle.mesh.proofs.RoundLaws.{walk_inside}
use Rattle.laws_mesh.specs.Reach.{Reach}
use Rattle.laws_mesh.proofs.Cycle.{Perm}
use Rattle.laws_mesh.proofs.Count.{Length, length-of}
use Rattle.laws_check.specs.Tells.{Tells}
use Rattle.laws_check.proofs.Rounds.{same, length_run, round-cycle, t-has-round}
use Rattle.check_rules.specs.Place.{Half}
use Rattle.check_rules.specs.Rule.{Sewn}
use Rattle.check_rounds.specs.Steps.{perm-next, perm-turn}

cycle-long : {P : ℕ → Type 0} {n : ℕ} {f g : ℕ → ℕ} (m : Perm P n f g) {a : ℕ} → P a → {k : ℕ} → k ≡ length (round a f n a) → (k ≤ n) × Length f a k
cycle-long {P} {n} {f} m {a} p q =
    let (j, l, c) = length-of m p in
    subst (λ (k : ℕ). (k ≤ n) × Length f a k) (sym (q ∙ ap length (round-cycle m p l c) ∙ length_run same f j a)) (l, c)

module _ {ed em : List ℕ} {e : ℕ} (s : Sewn ed em e) {a : ℕ} (i : Half em e a) where
  pub next-walk : 8 * e ≤ length ed → Walk next_at ed e a
  next-walk r = walk_inside (Half em e) r (λ k j. j.0) s.next_in a i

  pub turn-walk : 8 * e ≤ length ed → Walk turn_at ed e a
  turn-walk r = walk_inside (Half em e) r (λ k j. j.0) (perm-turn s).fore a i

  pub loop-met : (y : ℕ) {t : Bool} → t ≡ has y (loop_at ed e a) → Tells t (Reach (next_at ed) a y)
  loop-met y q = subst⁻¹ (λ (t : Bool). Tells t (Reach (next_at ed) a y)) q (t-has-round (perm-next s) i y)

  pub turn-met : (y : ℕ) {t : Bool} → t ≡ has y (turns_at ed e a) → Tells t (Reach (turn_at ed) a y)
  turn-met y q = subst⁻¹ (λ (t : Bool). Tells t (Reach (turn_at ed) a y)) q (t-has-round (perm-turn s) i y)

  pub loop-long : {k : ℕ} → k ≡ length (loop_at ed e a) → (k ≤ 2 * e) × Length (next_at ed) a k
  loop-long q = cycle-long (perm-next s) i q

  pub turn-long : {k : ℕ} → k ≡ length (turns_at ed e a) → (k ≤ 2 * e) × Length (turn_at ed) a k
  turn-long q = cycle-long (perm-turn s) i q
