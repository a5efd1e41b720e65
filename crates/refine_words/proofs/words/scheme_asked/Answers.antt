use Rattle.refine_words.proofs.WordLaws.{scheme-known}
use Rattle.refine_words.proofs.words.scheme_asked.Goals as goal

pub returns : goal.returns
returns c = rw (c.then_some.ensures, c.eq.ensures, c.scheme_word.ensures.value) (scheme-known c.args.word.now)
