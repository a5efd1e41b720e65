use Rattle.laws_check.proofs.Tells.{denied, is-so, tells-map}
use Rattle.check_rounds.proofs.RoundLaws.{turn-met, turn-walk}
use Rattle.check_rounds.proofs.WalkLaws.{turn-told}
use borrow.Author.Tests.{eq-eqb}
use Rattle.check_rounds.proofs.around.turn_ok.Goals as goal

pub on_turn-requires : goal.on_turn-requires
on_turn-requires c = turn-walk c.args.m.now.halves.sewn (is-so c.live_half.ensures c.if-not-live_half.false) c.args.m.now.halves.fit.room

pub returns-then-s : goal.returns-then-s
returns-then-s c = let m = c.args.m.now in
    let i = is-so c.live_half.ensures c.if-not-live_half.false in
    tells-map (turn-told m.halves.sewn m.rooted i c.tail.ensures c.if-s.true (turn-met m.halves.sewn i _ c.on_turn.ensures))
    (λ o i l. o i)
    (λ o i. o i (is-so c.least.ensures c.if-not-least.false))

pub returns-else-s : goal.returns-else-s
returns-else-s c = rw (eq-eqb _ _ c.if-s.false) (denied (λ p. (p (is-so c.live_half.ensures c.if-not-live_half.false) (is-so c.least.ensures c.if-not-least.false)).0 (rw c.tail.ensures at c.if-s.false)))
