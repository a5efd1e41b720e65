use Rattle.laws_check.proofs.Tells.{is-so}
use Rattle.check_rounds.proofs.RoundLaws.{loop-long, next-walk}
use Rattle.check_rounds.proofs.TourLaws.{loop-add, tour-skip}
use native.Mathlib.Nat.{add-zero}
use Rattle.check_rounds.proofs.fast.face_length.Goals as goal

pub returns-then-not-live : goal.returns-then-not-live
returns-then-not-live c = λ t r. rw (add-zero) (tour-skip r)

pub loop_length-requires : goal.loop_length-requires
loop_length-requires c = let m = c.args.m.now in
    next-walk m.halves.sewn (m.faced.start_in c.args.f (is-so c.live.ensures c.if-not-live.false)) m.halves.fit.room

pub returns : goal.returns
returns c = λ t r.
    let m = c.args.m.now in
    let l = is-so c.live.ensures c.if-not-live.false in
    let i = m.faced.start_in c.args.f l in
    loop-add m.halves.sewn m.faces.now m.fit.few l.0 i (c.requires.all_bear.bear c.args.f l.0 l) (loop-long m.halves.sewn i c.loop_length.ensures).1 r
