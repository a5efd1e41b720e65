use native.Mathlib.Omega.{arith}
use Rattle.text.proofs.PieceLaws.{so-text, so-long}
use Rattle.refine_words.proofs.LineLaws.{rule-is, deleted-is, weight-is, nowhere-put}
use Rattle.refine_words.proofs.lines.put_where.Goals as goal

pub returns-in-NotConsistent-clause-out_after : goal.returns-in-NotConsistent-clause-out_after
returns-in-NotConsistent-clause-out_after c = rw (c.in-NotConsistent.is, c.in-NotConsistent.field-0-is) (so-text _ _ c.put_pieces.ensures.out_after (rule-is _ _ c.place_piece.ensures.text))

pub returns-in-NotConsistent-clause-value : goal.returns-in-NotConsistent-clause-value
returns-in-NotConsistent-clause-value c = rw (c.in-NotConsistent.is, c.in-NotConsistent.field-0-is) (so-long _ c.put_pieces.ensures.value (rule-is _ _ c.place_piece.ensures.text))

pub returns-in-MarkedDeleted-clause-out_after : goal.returns-in-MarkedDeleted-clause-out_after
returns-in-MarkedDeleted-clause-out_after c = rw c.in-MarkedDeleted.is (so-text _ _ c.put_pieces-in-MarkedDeleted.ensures.out_after (deleted-is _ c.place_piece-in-MarkedDeleted.ensures.text))

pub returns-in-MarkedDeleted-clause-value : goal.returns-in-MarkedDeleted-clause-value
returns-in-MarkedDeleted-clause-value c = rw c.in-MarkedDeleted.is (so-long _ c.put_pieces-in-MarkedDeleted.ensures.value (deleted-is _ c.place_piece-in-MarkedDeleted.ensures.text))

pub returns-in-NoWeight-clause-out_after : goal.returns-in-NoWeight-clause-out_after
returns-in-NoWeight-clause-out_after c = rw c.in-NoWeight.is (so-text _ _ c.put_pieces-in-NoWeight.ensures.out_after (weight-is _ _))

pub returns-in-NoWeight-clause-value : goal.returns-in-NoWeight-clause-value
returns-in-NoWeight-clause-value c = rw c.in-NoWeight.is (so-long _ c.put_pieces-in-NoWeight.ensures.value (weight-is _ _))

pub returns-in_default : goal.returns-in_default
returns-in_default c =
    let s = c.args in
    let d = c.in_default in
    let r = nowhere-put s.at s.out.now s.r d.not-NotConsistent d.not-MarkedDeleted d.not-NoWeight in
    record { out_after = r.text; value = r.place; upper_bound = omega arith }
