use Rattle.std.proofs.lemmas.Float.{not_nan_f64_bits}
use Rattle.runs_catmull.proofs.cell.F64Cell.from_bits.Goals as goal

pub float_from_bits-result : goal.float_from_bits-result
float_from_bits-result c = not_nan_f64_bits _ c.if-bits-gt9218868437227405312.false
