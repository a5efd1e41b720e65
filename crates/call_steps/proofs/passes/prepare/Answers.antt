use Rattle.call_room.proofs.KindLaws.{alone}
use Rattle.call_steps.proofs.PassLaws.{prepares}
use Rattle.call_steps.proofs.passes.prepare.Goals as goal

pub returns : goal.returns
returns c = let e = alone c.args.kind in rw e (let r = prepares (rw e at c.requires) in record { outs_after = r.0; edges_after = r.1.0; faces_after = r.1.1.0; value = r.1.1.1 })
