use Rattle.laws_check.proofs.Tells.{is-so}
use Rattle.check_rounds.specs.Steps.{perm-next}
use Rattle.check_rounds.proofs.AskLaws.{alone-round, perm-walk}
use mathlib.Core.Path.{◌∙◌}
use Rattle.check_rounds.proofs.around.alone_ok.Goals as goal

pub alone_quick-requires : goal.alone_quick-requires
alone_quick-requires c = record { looped = c.requires.looped; spun = c.requires.spun c.if-w.true; half = is-so c.live_half.ensures c.if-not-live_half.false; a_nonzero = λ e. c.if-face.false (c.face.ensures ∙ e) }

pub alone-requires : goal.alone-requires
alone-requires c = let m = c.args.m.now in
    perm-walk m.emarks.now (perm-next m.sewn) m.fit.room (is-so c.live_half.ensures c.if-not-live_half.false)

pub returns : goal.returns
returns c = alone-round c.args.m.now.sewn c.requires.looped (is-so c.live_half.ensures c.if-not-live_half.false) (λ e. c.if-face.false (c.face.ensures ∙ e)) c.alone.ensures
