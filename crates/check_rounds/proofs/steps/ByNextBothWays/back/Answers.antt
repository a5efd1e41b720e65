use Rattle.check_rules.proofs.HalfLaws.{has-partner}
use Rattle.check_rounds.proofs.steps.ByNextBothWays.back.Goals as goal

pub step_back-requires-clause-has_partner : goal.step_back-requires-clause-has_partner
step_back-requires-clause-has_partner c = let m = c.args.m.now in has-partner m.edges.now m.ne c.args.h m.halfedges.room c.requires
