use mathlib.Core.Path.{sym, ◌∙◌}
use Rattle.file_read.proofs.ReadLaws.{look_infinite, look_fine}
use Rattle.file_read.proofs.read.look.Goals as goal

pub returns-then-not-finite_numbers : goal.returns-then-not-finite_numbers
returns-then-not-finite_numbers c = look_infinite _ _ _ c.counts-c.ensures.value (sym c.right.ensures ∙ c.if-not-right.false) (sym c.fits.ensures ∙ c.if-not-fits.false) c.if-points-c.false (sym c.finite_numbers.ensures ∙ c.if-not-finite_numbers.true)

pub returns : goal.returns
returns c = look_fine _ _ _ c.counts-c.ensures.value (sym c.right.ensures ∙ c.if-not-right.false) (sym c.fits.ensures ∙ c.if-not-fits.false) c.if-points-c.false (sym c.finite_numbers.ensures ∙ c.if-not-finite_numbers.false)
