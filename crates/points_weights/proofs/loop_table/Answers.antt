use Rattle.points_weights.proofs.TableLaws.{loop-same}
use Rattle.points_weights.proofs.loop_table.Goals as goal

pub returns : goal.returns
returns c = loop-same
