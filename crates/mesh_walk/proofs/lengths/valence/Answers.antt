use borrow.Author.Tests.{eq-eqb, ne_eqb}
use Rattle.mesh_walk.proofs.lengths.valence.Goals as goal

pub returns-then-h : goal.returns-then-h
returns-then-h c = rw (eq-eqb _ _ c.if-h.true)

pub turn_length-requires : goal.turn_length-requires
turn_length-requires c = c.requires.walk c.if-h.false

pub returns : goal.returns
returns c = rw (ne_eqb _ _ c.if-h.false) c.turn_length.ensures
