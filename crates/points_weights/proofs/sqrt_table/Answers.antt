use Rattle.points_weights.proofs.TableLaws.{sqrt-same}
use Rattle.points_weights.proofs.sqrt_table.Goals as goal

pub returns : goal.returns
returns c = sqrt-same
