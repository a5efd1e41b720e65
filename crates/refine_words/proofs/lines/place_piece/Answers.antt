use Rattle.std.proofs.Common.{refl}
use Rattle.refine_words.specs.Lines.{place_text}
use Rattle.refine_words.proofs.lines.place_piece.Goals as goal

pub returns-in-AtVertex-clause-text : goal.returns-in-AtVertex-clause-text
unfolding place_text
returns-in-AtVertex-clause-text c = rw c.in-AtVertex.is refl

pub returns-in-AtHalfedge-clause-text : goal.returns-in-AtHalfedge-clause-text
unfolding place_text
returns-in-AtHalfedge-clause-text c = rw c.in-AtHalfedge.is refl

pub returns-in-AtEdge-clause-text : goal.returns-in-AtEdge-clause-text
unfolding place_text
returns-in-AtEdge-clause-text c = rw c.in-AtEdge.is refl

pub returns-in-AtFace-clause-text : goal.returns-in-AtFace-clause-text
unfolding place_text
returns-in-AtFace-clause-text c = rw c.in-AtFace.is refl
