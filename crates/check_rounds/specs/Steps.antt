-- The steps by next and by turn where C1, C2 and C3 are in order: each is undone by another. Assumes nothing.
use Rattle.std.specs.Prelude.{ℕ, List, ◌*◌}
use Rattle.check_rules.proofs.HalfLaws.{half-partner}
use Rattle.check_rules.specs.Place.{Half}
use Rattle.check_rules.specs.Rule.{Sewn}
use Rattle.laws_mesh.proofs.Cycle.{Perm}
use Rattle.mesh.proofs.PartnerLaws.{partner-partner}
use Rattle.mesh.specs.Words.{next_at, prev_at, turn_at}
use Rattle.scope.specs.Links.{partner}

module _ {ed em : List ℕ} {e : ℕ} (s : Sewn ed em e) where
  pub perm-next : Perm (Half em e) (2 * e) (next_at ed) (prev_at ed)
  perm-next = record { below = λ x i. i.0; fore = s.next_in; back = s.prev_in; gf = s.prev_next; fg = s.next_prev }

  pub turn_in : (h : ℕ) → Half em e h → Half em e (turn_at ed h)
  turn_in h i = half-partner em e (prev_at ed h) (s.prev_in h i)

  pub perm-turn : Perm (Half em e) (2 * e) (turn_at ed) (λ h. next_at ed (partner h))
  perm-turn = record {
    below = λ x i. i.0;
    fore = turn_in;
    back = λ x i. s.next_in (partner x) (half-partner em e x i);
    gf = λ x i. cc (partner-partner (prev_at ed x), s.next_prev x i);
    fg = λ x i. cc (s.prev_next (partner x) (half-partner em e x i), partner-partner x);
  }
