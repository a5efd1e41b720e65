use Prim.Native.Nat.{◌*◌}
use Rattle.check_mesh.proofs.EntryLaws.{points-fit, points-short}
use borrow.Author.Tests.{le-leb, lt-leb}
use lib.ListN.{length}
use native.Mathlib.Omega.{arith}
use Rattle.check_mesh.proofs.entry.check.Goals as goal

pub returns-then-g : goal.returns-then-g
returns-then-g c = points-short c.args.g.counts _ _ (lt-leb (3 * c.args.g.counts.v) (length c.args.g.points.now) (let q = c.if-g.true in omega arith))

pub returns : goal.returns
returns c = points-fit c.args.g.counts _ _ (le-leb (3 * c.args.g.counts.v) (length c.args.g.points.now) (let q = c.if-g.false in omega arith)) c.check_links.ensures
