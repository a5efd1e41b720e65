use Rattle.check_rules.proofs.HalfLaws.{has-partner}
use Rattle.laws_check.proofs.Tells.{is-so}
use Rattle.mesh.specs.Words.{link_at}
use mathlib.Core.Logic.{⊎_elim}
use Rattle.check_rules.proofs.local.leaves_ok.Goals as goal

pub tail-requires : goal.tail-requires
tail-requires c = ⊎_elim (λ e. absurd (c.if-h.false e)) (λ i. has-partner c.args.edges.now c.args.ne (link_at c.args.outs.now c.args.v) c.requires.edges_fit.room i.0)
    (c.requires.rooted.out_in c.args.v (is-so c.live.ensures c.if-not-live.false))
