use borrow.Author.Rules.{rules}
use mathlib.Core.Path.{◌≡◌}
use Rattle.std.specs.Prelude.{None}
use Rattle.mesh.proofs.RoundLaws.{walk-next}
use Rattle.points_triangles.proofs.FaceLaws.{side-lt, answer-still, answer-none, answer-rim}
use Rattle.points_triangles.proofs.faces.face_answer.Goals as goal
use Rattle.points_triangles.proofs.faces.face_answer.Goals.{else-flag-via-else-flag, else-flag-via-then-flag+in-None-1}

pub rim_side-requires : goal.rim_side-requires
rim_side-requires c = let m = c.args.faces.now in rw c.start.ensures (walk-next m.cage.halves.there m.cage.halves.next_in _ (m.starts_in.start_in _ c.requires))

pub rim_pair-requires : goal.rim_pair-requires
rim_pair-requires c = let m = c.args.faces.now in side-lt _ _ m.cage.halves _ (rw c.start.ensures (m.starts_in.start_in _ c.requires)) _ c.rim_side.ensures c.in-Some.is

pub returns-in-Some : goal.returns-in-Some
returns-in-Some c = answer-rim _ _ _ _ _ c.if-flag.true c.start.ensures c.rim_side.ensures _ c.in-Some.is c.rim_pair.ensures

pub returns-else-flag : goal.returns-else-flag
returns-else-flag c = elim c.else-flag.branch [
  | else-flag-via-else-flag w ↦ answer-still _ _ _ _ _ w.if-flag.false c.point.ensures
  | else-flag-via-then-flag+in-None-1 w ↦ let e : w.rim_side.result ≡ None = search rules in answer-none _ _ _ _ _ w.if-flag.true w.start.ensures w.rim_side.ensures e c.point.ensures
]
