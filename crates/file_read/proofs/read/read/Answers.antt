use Rattle.std.proofs.Common.{sym, ◌∙◌}
use Rattle.file_read.specs.Held.{held}
use Rattle.file_read.proofs.ReadLaws.{cleared, stays}
use Rattle.file_read.proofs.read.read.Goals as goal

pub returns-then-is_err-clause-after : goal.returns-then-is_err-clause-after
returns-then-is_err-clause-after c = let e = c.load_mesh-read.ensures in cleared _ (held c.args.into.now) e.value (sym c.is_err.ensures.value ∙ c.if-is_err.true) e.after c.wipe.ensures.after

pub returns-else-is_err-clause-after : goal.returns-else-is_err-clause-after
returns-else-is_err-clause-after c = let e = c.load_mesh-read.ensures in stays _ (held c.args.into.now) e.value (sym c.is_err.ensures.value ∙ c.if-is_err.false) e.after
