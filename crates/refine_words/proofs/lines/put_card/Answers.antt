use Rattle.text.proofs.PieceLaws.{at-front, front-length}
use Rattle.refine_words.proofs.LineLaws.{card-is}
use Rattle.refine_words.proofs.lines.put_card.Goals as goal

pub returns-clause-out_after : goal.returns-clause-out_after
returns-clause-out_after c =
    let s = c.args in
    at-front _ c.put_pieces.ensures.out_after (card-is s.kind s.passes s.flag s.next s.c s.rim c.scheme_word.ensures.value c.flag_word.ensures.value c.flag_word-2.ensures.value)

pub returns-clause-value : goal.returns-clause-value
returns-clause-value c =
    let s = c.args in
    front-length c.put_pieces.ensures.value (card-is s.kind s.passes s.flag s.next s.c s.rim c.scheme_word.ensures.value c.flag_word.ensures.value c.flag_word-2.ensures.value)
