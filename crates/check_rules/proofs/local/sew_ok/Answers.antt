use Rattle.check_rules.proofs.HalfLaws.{has-partner}
use Rattle.laws_check.proofs.Tells.{is-so}
use Rattle.mesh.specs.Words.{next_at}
use Rattle.check_rules.proofs.local.sew_ok.Goals as goal

pub tail-requires : goal.tail-requires
tail-requires c = let i = c.requires.chained.next_in c.args.h (is-so c.live_half.ensures c.if-not-live_half.false) in
    rw c.next-n.ensures (has-partner c.args.edges.now c.args.ne (next_at c.args.edges.now c.args.h) c.requires.edges_fit.room i.0)
