use native.Mathlib.Omega.{arith}
use mathlib.Core.Path.{sym, ap, ◌∙◌}
use Rattle.links_sqrt3.specs.Steps.{vertices_of}
use Rattle.links_sqrt3.specs.Answers.{points_in, taken}
use Rattle.links_sqrt3.proofs.AnswerLaws.{taken-points, taken-placed, centre-side, pair-side}
use Rattle.links_sqrt3.proofs.StepLaws.{centre-there, centre-opens, rim-opens}
use Rattle.links_sqrt3.proofs.faces.sqrt_face.Goals as goal

pub store_answer-requires-clause-in_place : goal.store_answer-requires-clause-in_place
store_answer-requires-clause-in_place c =
    let n = ap points_in c.take_answer-answer.ensures ∙ taken-points _ _ _ ∙ ap vertices_of c.side_of-side.ensures in
    let l = c.requires.in_place in
    omega arith

pub centre_face-requires-clause-centre_ok : goal.centre_face-requires-clause-centre_ok
centre_face-requires-clause-centre_ok c = centre-there c.requires.face_ok (sym c.side_of-side.ensures ∙ centre-side _ _ _ (sym c.take_answer-answer.ensures ∙ c.in-Centre.is))

pub returns-in-Centre-clause-links_after : goal.returns-in-Centre-clause-links_after
returns-in-Centre-clause-links_after c = c.centre_face.ensures.links_after ∙ centre-opens c.requires.face_ok (sym c.side_of-side.ensures ∙ centre-side _ _ _ (sym c.take_answer-answer.ensures ∙ c.in-Centre.is))

pub returns-in-Centre-clause-points_after : goal.returns-in-Centre-clause-points_after
returns-in-Centre-clause-points_after c = rw (c.store_answer.ensures, c.take_answer-answer.ensures, taken-placed, c.side_of-side.ensures)

pub returns-in-Some-clause-links_after : goal.returns-in-Some-clause-links_after
returns-in-Some-clause-links_after c = c.rim_face.ensures.links_after ∙ rim-opens c.requires.face_ok (sym c.side_of-side.ensures ∙ c.in-Some.is)

pub returns-in-Some-clause-points_after : goal.returns-in-Some-clause-points_after
returns-in-Some-clause-points_after c = rw (c.store_answer.ensures, c.take_answer-answer.ensures, taken-placed, c.side_of-side.ensures)

pub returns-in_default-clause-links_after : goal.returns-in_default-clause-links_after
returns-in_default-clause-links_after c = absurd (pair-side _ _ (ap (taken _ _) (sym c.in_default.is) ∙ sym c.take_answer-answer.ensures ∙ c.in-Pair.is))

pub returns-in_default-clause-points_after : goal.returns-in_default-clause-points_after
returns-in_default-clause-points_after c = absurd (pair-side _ _ (ap (taken _ _) (sym c.in_default.is) ∙ sym c.take_answer-answer.ensures ∙ c.in-Pair.is))
