use Rattle.std.proofs.Common.{ap, ◌∙◌, length}
use Rattle.scope.specs.Lists.{over}
use Rattle.count_line.proofs.RoomLaws.{in-zeros}
use Rattle.count_line.proofs.whole.say.Goals as goal

pub returns-clause-line_after : goal.returns-clause-line_after
returns-clause-line_after c = c.tell.ensures.out_after ∙ ap (λ w. over w c.args.line.now) (in-zeros c.args.file.now)

pub returns-clause-value : goal.returns-clause-value
returns-clause-value c = c.tell.ensures.value ∙ ap length (in-zeros c.args.file.now)
