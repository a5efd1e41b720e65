use Rattle.laws_check.proofs.Tells.{is-so}
use Rattle.check_rounds.proofs.RoundLaws.{turn-long, turn-walk}
use Rattle.check_rounds.proofs.TourLaws.{tour-skip, turn-add}
use mathlib.Core.Logic.{⊎_elim}
use native.Mathlib.Nat.{add-zero}
use Rattle.check_rounds.proofs.fast.vertex_length.Goals as goal

pub returns-then-not-live : goal.returns-then-not-live
returns-then-not-live c = λ t r. rw (add-zero) (tour-skip r)

pub returns-then-h : goal.returns-then-h
returns-then-h c = λ t r. rw (add-zero) (tour-skip r)

pub turn_length-requires : goal.turn_length-requires
turn_length-requires c = let m = c.args.m.now in
    turn-walk m.halves.sewn (⊎_elim (λ e. absurd (c.if-h.false e)) (λ i. i) (m.rooted.out_in c.args.v (is-so c.live.ensures c.if-not-live.false))) m.halves.fit.room

pub returns : goal.returns
returns c = λ t r.
    let m = c.args.m.now in
    let l = is-so c.live.ensures c.if-not-live.false in
    let i = ⊎_elim (λ e. absurd (c.if-h.false e)) (λ i. i) (m.rooted.out_in c.args.v l) in
    turn-add m.halves.sewn m.outs.now c.if-h.false i (c.requires.all_leave.leave c.args.v l.0 l c.if-h.false) (turn-long m.halves.sewn i c.turn_length.ensures).1 r
