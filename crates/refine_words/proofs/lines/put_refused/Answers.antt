use mathlib.Core.Path.{ap}
use native.Mathlib.Omega.{arith}
use Rattle.scope.specs.declared.answers.Said.{Said}
use Rattle.refine_words.proofs.LineLaws.{◌⨾◌, put_of, line, refused-put}
use Rattle.refine_words.proofs.lines.put_refused.Goals as goal

pub returns : goal.returns
returns c = let r = line (refused-put _ (ap (λ (x : Said). x.number) c.from.ensures) (put_of c.put_field-a.ensures.out_after c.put_field-a.ensures.value ⨾ put_of c.put_where-b.ensures.out_after c.put_where-b.ensures.value ⨾ put_of c.put.ensures.out_after c.put.ensures.value)) (omega arith) (omega arith) in record { out_after = r.0; value = r.1.0; upper_bound = r.1.1 }
