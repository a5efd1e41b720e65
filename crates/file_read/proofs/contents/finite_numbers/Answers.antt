use Rattle.std.proofs.Common.{arith, refl, rules, tests, ◌+◌, ◌*◌, ◌∙◌}
use Rattle.std.specs.Float.{binary64}
use Rattle.std.specs.Float.Ieee.{of_bits}
use Rattle.std.specs.Float.Ieee.Scale.{finite}
use Rattle.std.proofs.lemmas.Iterator.Search.{all_from_yields_List}
use Rattle.std.proofs.lemmas.Iterator.{YieldsList-from_range}
use Rattle.file_read.specs.Format.{bits_at}
use Rattle.file_read.proofs.FillLaws.{all_below}
use Rattle.file_read.proofs.contents.finite_numbers.Goals as goal

pub returns : goal.returns
returns c = all_from_yields_List (λ i. finite (of_bits binary64 (bits_at c.args.file.now (c.args.from + 8 * i)))) c.all.new.self _ _ c.all.ensures.ran (YieldsList-from_range 0 c.args.n c.args.n refl (omega arith)) (λ x b q k. search (rules, tests)) ∙ all_below _ c.args.n
