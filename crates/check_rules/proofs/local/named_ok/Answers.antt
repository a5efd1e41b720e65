use Rattle.scope.specs.Links.{partner}
use Rattle.laws_check.proofs.Tells.{is-so}
use native.Mathlib.Omega.{arith}
use Rattle.check_rules.proofs.HalfLaws.{half-partner, has-partner}
use Rattle.check_rules.proofs.local.named_ok.Goals.{then-not-live_half, else-not-live_half}
use Rattle.check_rules.proofs.local.named_ok.Goals as goal

pub tail-requires : goal.tail-requires
tail-requires c = has-partner c.args.edges.now c.args.ne c.args.h c.requires.edges_fit.room c.requires.h_bound

pub bounds-outs-tail : goal.bounds-outs-tail
bounds-outs-tail c = elim c.if-not-live_half.branch [
  | then-not-live_half w ↦ absurd (cc)
  | else-not-live_half w ↦
      let i = half-partner c.args.emarks.now c.args.ne c.args.h (is-so c.live_half.ensures w.if-not-live_half.false) in
      let j = c.requires.rooted.head_in (partner c.args.h) i in
      rw c.tail.ensures (omega (arith, j.0, c.requires.items_fit.room))
]
