use Rattle.laws_check.proofs.Tells.{is-so, tells-map}
use Rattle.check_rounds.proofs.RoundLaws.{loop-met, next-walk}
use Rattle.check_rounds.proofs.WalkLaws.{loop-told}
use mathlib.Core.Path.{◌∙◌}
use Rattle.check_rounds.proofs.around.loop_ok.Goals as goal

pub on_loop-requires : goal.on_loop-requires
on_loop-requires c = next-walk c.args.m.now.halves.sewn (is-so c.live_half.ensures c.if-not-live_half.false) c.args.m.now.halves.fit.room

pub returns : goal.returns
returns c = let m = c.args.m.now in
    let i = is-so c.live_half.ensures c.if-not-live_half.false in
    tells-map (loop-told m.halves.sewn m.faced i (λ e. c.if-f.false (c.face-f.ensures ∙ e)) c.face-f.ensures (loop-met m.halves.sewn i _ c.on_loop.ensures))
    (λ o i l. o i)
    (λ o i. o i (is-so c.least.ensures c.if-not-least.false))
