use Rattle.slices.proofs.CopyLaws.{lay-over}
use Rattle.slices.proofs.copies.lay.Goals as goal

pub returns : goal.returns
returns g c = rw (c.clear.ensures, c.copy.ensures) (lay-over c.args.z _ _ _ c.requires.n_in_bounds c.requires.n_in_bounds_2)
