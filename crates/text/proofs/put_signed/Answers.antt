use Rattle.std.proofs.Common.{arith}
use Rattle.text.specs.Text.{signed}
use Rattle.text.proofs.put_signed.Goals as goal

pub returns-then-minus : goal.returns-then-minus
unfolding signed
returns-then-minus c = rw c.if-minus.true (let e = c.put_field.ensures in record { out_after = e.out_after; value = e.value; upper_bound = let b = e.upper_bound in omega arith })

pub returns : goal.returns
unfolding signed
returns c = rw c.if-minus.false (let e = c.put_number.ensures in record { out_after = e.out_after; value = e.value; upper_bound = let b = e.upper_bound in omega arith })
