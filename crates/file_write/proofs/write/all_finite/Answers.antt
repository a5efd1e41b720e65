use Rattle.std.proofs.Common.{rules, tests, ◌∙◌}
use Rattle.std.specs.Float.Ieee.Scale.{finite}
use Rattle.std.proofs.lemmas.Iterator.Search.{all_from_yields_List}
use Rattle.std.proofs.lemmas.Iterator.{YieldsList-from_slice}
use Rattle.file_write.proofs.WriteLaws.{finite_same, all_finite_listed}
use Rattle.file_write.proofs.write.all_finite.Goals as goal

pub returns : goal.returns
returns c = all_from_yields_List finite c.all.new.self _ _ c.all.ensures.ran (YieldsList-from_slice _ c.iter.ensures.rest) (λ x b q k. (search (rules, tests), search (rules, tests, finite_same))) ∙ all_finite_listed _
