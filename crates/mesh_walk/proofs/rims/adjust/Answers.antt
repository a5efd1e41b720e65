use mathlib.Core.Path.{sym}
use borrow.Author.Tests.{eq-eqb, ne_eqb}
use Rattle.mesh.proofs.RoundLaws.{first-none}
use Rattle.mesh_walk.specs.Adjust.{adjusted}
use Rattle.mesh_walk.proofs.rims.adjust.Goals as goal

pub returns-in-Some : goal.returns-in-Some
unfolding adjusted
returns-in-Some c = rw (ne_eqb _ _ c.if-h.true, sym c.in-Some.ensures)

pub returns-in_default : goal.returns-in_default
unfolding adjusted
returns-in_default c = rw (ne_eqb _ _ c.if-h.true, sym c.rim_out.ensures, c.in_default.is)

pub returns-else-h : goal.returns-else-h
unfolding adjusted
returns-else-h c = rw (eq-eqb _ _ c.if-h.false, first-none _)
