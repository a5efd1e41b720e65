use Rattle.check_rules.proofs.HalfLaws.{has-partner}
use Rattle.check_rounds.proofs.parts.SewnHalves.tail.Goals as goal

pub tail-requires : goal.tail-requires
tail-requires c = let m = c.args.self.now in has-partner m.edges.now m.ne c.args.h m.fit.room c.requires
