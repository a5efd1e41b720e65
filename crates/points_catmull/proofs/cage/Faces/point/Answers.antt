use Rattle.mesh.proofs.RoundLaws.{walk-next}
use Rattle.points_catmull.proofs.SumLaws.{face-point-is}
use Rattle.points_catmull.proofs.cage.Faces.point.Goals as goal

pub heads-s-requires : goal.heads-s-requires
heads-s-requires c = let m = c.args.self.now in
    rw c.start.ensures (walk-next m.cage.halves.there m.cage.halves.next_in _ (m.starts_in.start_in _ c.requires))

pub returns : goal.returns
returns c = face-point-is _ _ _ _ _ _ c.start.ensures c.heads-s.ensures c.mean.ensures
