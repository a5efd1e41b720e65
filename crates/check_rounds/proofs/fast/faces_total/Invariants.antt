use Rattle.check_rounds.specs.OnParts.{FaceTour}
use Rattle.check_rounds.proofs.fast.faces_total.Given as goal

abbrev pub invariant-loop-f : goal.invariant-loop-f
invariant-loop-f l = FaceTour l.m l.f l.total
