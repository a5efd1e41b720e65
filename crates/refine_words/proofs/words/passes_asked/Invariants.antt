use Rattle.refine_words.proofs.WordLaws.{Digits}
use Rattle.refine_words.proofs.words.passes_asked.Given as goal

abbrev pub invariant-loop-d : goal.invariant-loop-d
invariant-loop-d l = Digits l.word l.n l.d-index
