use Rattle.std.proofs.Common.{arith, subst, sym}
use Rattle.file_write.proofs.PutLaws.{row_none, row_on, row_room, row_done}
use Rattle.file_write.proofs.puts.put_all.Goals as goal

pub loop-x-init : goal.loop-x-init
loop-x-init g c = row_none

pub put-next-requires : goal.put-next-requires
put-next-requires g c =
    let t = g.T.Item in
    let s = c.loop-x.auto.file in
    let r = row_room c.x-item.result c.x-item.is t.laws c.loop-x.invariant c.loop-x-test.true c.requires.room in
    record { room = omega arith; fits = subst t.fit (sym c.x-item.is) (c.requires.fits.at c.loop-x.x-index c.x-item.result c.loop-x-test.true) }

pub loop-x-preserved : goal.loop-x-preserved
loop-x-preserved g c = let e = c.put-next.ensures in row_on c.x-item.result c.x-item.is c.loop-x.invariant c.loop-x-test.true e.file_after e.place

pub returns : goal.returns
returns g c =
    let t = c.loop-x-test.false in
    let s = c.loop-x.auto.x-index-end in
    let w = row_done g.T.Item.laws c.loop-x.invariant (omega arith) in
    record { file_after = w.text; place = w.place }
