use Rattle.text.proofs.PutLaws.{field_put}
use Rattle.text.proofs.put_field.Goals as goal

pub returns-clause-out_after : goal.returns-clause-out_after
returns-clause-out_after c = (field_put _ _ _ _ c.put-next.ensures.out_after c.put-next.ensures.value c.put_number.ensures.out_after c.put_number.ensures.value c.put_number.ensures.upper_bound).0
