use Rattle.std.proofs.Common.{rules, tests, arith, ◌∙◌, leb}
use Rattle.std.proofs.lemmas.Iterator.Search.{all_from_yields_List}
use Rattle.std.proofs.lemmas.Iterator.{YieldsList-from_slice}
use Rattle.file_read.specs.Format.{marks_right}
use Rattle.file_read.proofs.FillLaws.{all_of_part}
use Rattle.file_read.proofs.contents.marks_right.Goals as goal

pub returns : goal.returns
unfolding marks_right
returns c = all_from_yields_List (λ m. leb m 1) c.all.new.self _ _ c.all.ensures.ran (YieldsList-from_slice _ c.iter.ensures.rest) (λ x b q k. search (rules, tests)) ∙ all_of_part _ c.args.from c.args.n _ c.args.file.now (omega arith) c.requires
