use Rattle.std.proofs.Common.{arith, take, ◌*◌}
use Rattle.mesh.specs.Given.{lists}
use Rattle.file_read.specs.Format.{words_bytes, points_bytes, marks_bytes}
use Rattle.text.proofs.PutLaws.{written_on}
use Rattle.file_write.proofs.WriteLaws.{parts, fit_finite, first-part, whole-file}
use Rattle.file_write.proofs.write.put_file.Goals as goal

pub put_all-outs-requires-clause-fits : goal.put_all-outs-requires-clause-fits
put_all-outs-requires-clause-fits c = fit_finite _ _ c.requires.points c.requires.finites

pub put_all-outs-requires-clause-room : goal.put_all-outs-requires-clause-room
put_all-outs-requires-clause-room c =
    let m = c.args.m in
    let p = parts m.counts (lists m.slices) m.points.now _ c.requires in
    omega arith

pub put_all-edges-requires-clause-room : goal.put_all-edges-requires-clause-room
put_all-edges-requires-clause-room c =
    let m = c.args.m in
    let p = parts m.counts (lists m.slices) m.points.now _ c.requires in
    omega arith

pub put_all-faces-requires-clause-room : goal.put_all-faces-requires-clause-room
put_all-faces-requires-clause-room c =
    let m = c.args.m in
    let p = parts m.counts (lists m.slices) m.points.now _ c.requires in
    omega arith

pub put_all-vmarks-requires-clause-room : goal.put_all-vmarks-requires-clause-room
put_all-vmarks-requires-clause-room c =
    let m = c.args.m in
    let p = parts m.counts (lists m.slices) m.points.now _ c.requires in
    omega arith

pub put_all-emarks-requires-clause-room : goal.put_all-emarks-requires-clause-room
put_all-emarks-requires-clause-room c =
    let m = c.args.m in
    let p = parts m.counts (lists m.slices) m.points.now _ c.requires in
    omega arith

pub put_all-fmarks-requires-clause-room : goal.put_all-fmarks-requires-clause-room
put_all-fmarks-requires-clause-room c =
    let m = c.args.m in
    let p = parts m.counts (lists m.slices) m.points.now _ c.requires in
    omega arith

pub put_all-requires-clause-room : goal.put_all-requires-clause-room
put_all-requires-clause-room c =
    let m = c.args.m in
    let p = parts m.counts (lists m.slices) m.points.now _ c.requires in
    omega arith

pub returns-clause-end : goal.returns-clause-end
returns-clause-end c =
    let m = c.args.m in
    let p = parts m.counts (lists m.slices) m.points.now _ c.requires in
    omega arith

pub returns-clause-file_after : goal.returns-clause-file_after
returns-clause-file_after c =
    let m = c.args.m in
    let b = c.args.file.now in
    let w1 = first-part m.counts b c.put_contents-points.ensures.file_after c.put_contents-points.ensures.place in
    let w2 = written_on (points_bytes (take (3 * m.counts.v) m.points.now)) w1 c.put_all-outs.ensures.file_after c.put_all-outs.ensures.place in
    let w3 = written_on (words_bytes (take m.counts.v m.slices.outs.now)) w2 c.put_all-edges.ensures.file_after c.put_all-edges.ensures.place in
    let w4 = written_on (words_bytes (take (8 * m.counts.e) m.slices.edges.now)) w3 c.put_all-faces.ensures.file_after c.put_all-faces.ensures.place in
    let w5 = written_on (words_bytes (take m.counts.f m.slices.faces.now)) w4 c.put_all-vmarks.ensures.file_after c.put_all-vmarks.ensures.place in
    let w6 = written_on (marks_bytes (take m.counts.v m.slices.vmarks.now)) w5 c.put_all-emarks.ensures.file_after c.put_all-emarks.ensures.place in
    let w7 = written_on (marks_bytes (take m.counts.e m.slices.emarks.now)) w6 c.put_all-fmarks.ensures.file_after c.put_all-fmarks.ensures.place in
    let w8 = written_on (marks_bytes (take m.counts.f m.slices.fmarks.now)) w7 c.put_all.ensures.file_after c.put_all.ensures.place in
    whole-file m.counts (lists m.slices) m.points.now b w8
