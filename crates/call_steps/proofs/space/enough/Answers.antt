use borrow.Author.Tests.{lt-leb}
use native.Mathlib.Omega.{arith}
use Rattle.call_steps.proofs.RoomLaws.{counted-up, startable, reached, passed_over, room-now, room-over, room-short, room-fitting}
use Rattle.call_room.specs.Amounts.{amounts_at, tallied}
use Rattle.mesh.specs.Given.{lists}
use Rattle.scope.specs.Slices.{sizes, fits_with}
use Rattle.scope.specs.declared.records.Counts.{Counts}
use lib.ListN.{length}
use mathlib.Core.Path.{◌∙◌, ap, sym}
use Rattle.call_steps.proofs.space.enough.Goals as goal

pub returns-then-passes-eq0 : goal.returns-then-passes-eq0
returns-then-passes-eq0 c = let s = c.args in room-now _ s.passes _ (tallied (amounts_at s.c s.from.now)) _ _ _ c.if-passes-eq0.true (c.fits_with.ensures ∙ ap (λ (x : Counts). fits_with x (sizes (lists s.s)) (length s.points.now)) (sym (counted-up s.c s.from.now)))

pub forecast-requires : goal.forecast-requires
forecast-requires c = let s = c.args in let r = startable s.kind s.passes s.flag c.if-passes-eq0.false s.c s.from.now c.count_up.ensures c.ready.ensures (c.requires.faced c.if-passes-eq0.false) in record { whole = r.0; faced = r.1 }

pub returns-else-a-work : goal.returns-else-a-work
returns-else-a-work c = let s = c.args in let r = reached s.kind s.passes s.flag c.if-passes-eq0.false s.c s.from.now c.count_up.ensures c.ready.ensures c.forecast.ensures c.in-Some.is in rw (lt-leb _ _ c.if-a-work.false) (room-short _ _ _ _ _ _ _ c.if-passes-eq0.false _ _ r.1 c.if-a-work.false)

pub returns-in_default : goal.returns-in_default
returns-in_default c = let s = c.args in room-over _ _ _ _ _ _ _ c.if-passes-eq0.false (passed_over s.kind s.passes s.flag c.if-passes-eq0.false s.c s.from.now c.count_up.ensures c.ready.ensures c.forecast.ensures c.in_default.is)

pub returns-then-a-work : goal.returns-then-a-work
returns-then-a-work c = let s = c.args in let r = reached s.kind s.passes s.flag c.if-passes-eq0.false s.c s.from.now c.count_up.ensures c.ready.ensures c.forecast.ensures c.in-Some.is in room-fitting _ _ _ _ _ _ _ c.if-passes-eq0.false _ _ r.1 (λ l. omega arith) c.grow-last.ensures c.fits_with-then-a-work.ensures
