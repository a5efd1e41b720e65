use Rattle.std.proofs.Common.{ap, ◌∙◌}
use lib.Pointwise.{pointwise}
use lib.Dec.{eqb}
use Rattle.refine_words.proofs.WordLaws.{same_lists, update-asked, keep-asked, flag-unknown}
use Rattle.refine_words.proofs.words.flag_asked.Goals as goal

pub returns-then-eq : goal.returns-then-eq
returns-then-eq c = update-asked _ (c.eq.ensures ∙ ap (pointwise eqb _) c.flag_word.ensures.value ∙ same_lists _ _) c.if-eq.true

pub returns-then-eq-2 : goal.returns-then-eq-2
returns-then-eq-2 c =
    keep-asked _ (c.eq.ensures ∙ ap (pointwise eqb _) c.flag_word.ensures.value ∙ same_lists _ _) c.if-eq.false
    (c.eq-else-eq.ensures ∙ ap (pointwise eqb _) c.flag_word-else-eq.ensures.value ∙ same_lists _ _) c.if-eq-2.true

pub returns-else-eq-2 : goal.returns-else-eq-2
returns-else-eq-2 c =
    flag-unknown _ (c.eq.ensures ∙ ap (pointwise eqb _) c.flag_word.ensures.value ∙ same_lists _ _) c.if-eq.false
    (c.eq-else-eq.ensures ∙ ap (pointwise eqb _) c.flag_word-else-eq.ensures.value ∙ same_lists _ _) c.if-eq-2.false
