use Rattle.links_loop.proofs.PassLaws.{ready-splits, ready-faces, pass-outs, pass-edges, pass-faces, pass-counts}
use Rattle.links_loop.proofs.pass.loop_links.Goals as goal

pub split_edges-requires : goal.split_edges-requires
split_edges-requires c = ready-splits c.requires

pub loop_faces-requires : goal.loop_faces-requires
loop_faces-requires c = let d = c.split_edges.ensures in
    ready-faces c.requires d.outs_after d.edges_after

pub returns : goal.returns
returns c = let k = c.requires in
    let d = c.split_edges.ensures in
    let e = c.loop_faces.ensures in record { outs_after = pass-outs k d.outs_after d.edges_after; edges_after = pass-edges k d.outs_after d.edges_after e.edges_after; faces_after = pass-faces k d.outs_after d.edges_after e.faces_after; value = pass-counts k d.outs_after d.edges_after e.value }
