use borrow.Author.Rules.{rules}
use borrow.Author.Tests.{tests}
use native.Mathlib.Omega.{arith}
use Prim.Native.Nat.{◌*◌}
use mathlib.Core.Path.{◌∙◌}
use mathlib.Core.Bool.{not}
use Rattle.std.proofs.lemmas.Iterator.{YieldsList-from_range}
use Rattle.std.proofs.lemmas.Iterator.Consumers.{YieldsList-from_filter, count_from_yields_List}
use Rattle.mesh.specs.Rounds.{rim_at}
use Rattle.call_room.proofs.TallyLaws.{range_number}
use Rattle.call_room.proofs.tally.corners.Goals as goal

pub returns : goal.returns
returns c =
    count_from_yields_List c.filter.result _ c.count.ensures.ran
    (YieldsList-from_filter _ (λ h. not (rim_at c.args.edges.now h)) (YieldsList-from_range 0 (2 * c.args.n) (2 * c.args.n) c.filter.ensures.source (omega arith)) c.filter.ensures.closure (λ x r q k. search (rules, tests)))
    ∙ range_number (2 * c.args.n) (λ h. not (rim_at c.args.edges.now h))
