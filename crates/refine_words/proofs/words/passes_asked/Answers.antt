use Rattle.std.proofs.Common.{arith, sym}
use borrow.Author.Tests.{eqb-true, eqb-false}
use Rattle.refine_words.proofs.WordLaws.{no-digits, digit-on, empty-word, long-word, no-digit, all_digits}
use Rattle.refine_words.proofs.words.passes_asked.Goals as goal
use Rattle.refine_words.proofs.words.passes_asked.Goals.{then-is_empty-via-then-is_empty, then-is_empty-via-else-is_empty+then-word-gt3}

pub returns-then-is_empty : goal.returns-then-is_empty
returns-then-is_empty c =
    elim c.then-is_empty.branch [
      | then-is_empty-via-then-is_empty w ↦ let e = w.if-is_empty.ensures in empty-word _ (eqb-true _ _ (sym e))
      | then-is_empty-via-else-is_empty+then-word-gt3 w ↦ long-word _ w.if-word-gt3.true
    ]

pub loop-d-init : goal.loop-d-init
loop-d-init c = no-digits _

pub returns-then-not-is_ascii_digit : goal.returns-then-not-is_ascii_digit
returns-then-not-is_ascii_digit c = let e = c.if-not-is_ascii_digit.ensures in no-digit _ _ c.loop-d-test.true (sym e.value)

pub loop-d-preserved : goal.loop-d-preserved
loop-d-preserved c = let e = c.if-not-is_ascii_digit.ensures in digit-on c.loop-d.invariant c.loop-d-test.true e.cases.0 e.cases.1

pub returns : goal.returns
returns c =
    let below = c.loop-d.auto.d-index-end in
    let end = c.loop-d-test.false in
    let some = let e = c.if-is_empty.ensures in eqb-false _ _ (sym e) in
    all_digits c.loop-d.invariant (omega arith) (omega arith) c.if-word-gt3.false
