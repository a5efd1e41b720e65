use Rattle.std.proofs.Common.{arith}
use Rattle.text.proofs.DecimalLaws.{tenth-fits, digit-put, last-put}
use Rattle.text.proofs.+put_number.Goals as goal

pub returns-then-n-lt10 : goal.returns-then-n-lt10
returns-then-n-lt10 t c =
    let s = c.args in
    let r = digit-put s.out.now s.at s.n c.if-n-lt10.true in
    record { out_after = r.0; value = r.1.0; upper_bound = r.1.1 }

pub bounds-out-last : goal.bounds-out-last
bounds-out-last t c =
    let e = c.put_number-last.ensures.value in
    let w = tenth-fits c.args.n c.if-n-lt10.false (omega arith) in
    omega arith

pub returns : goal.returns
returns t c =
    let s = c.args in
    let e = c.put_number-last.ensures in
    let r = last-put s.out.now _ s.at s.n _ c.if-n-lt10.false (omega arith) e.out_after e.value in
    record { out_after = r.0; value = r.1.0; upper_bound = r.1.1 }
