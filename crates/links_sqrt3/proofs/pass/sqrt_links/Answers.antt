use mathlib.Core.Path.{ap}
use Rattle.std.proofs.Common.{rules}
use Rattle.scope.specs.Links.{Links}
use Rattle.scope.specs.Tally.{counts_of}
use Rattle.links_sqrt3.proofs.AnswerLaws.{moved_to}
use Rattle.links_sqrt3.proofs.PassLaws.{ready-faces, ready-points, ready-swaps, ready-done, ready_vertices}
use Rattle.links_sqrt3.proofs.pass.sqrt_links.Goals as goal

pub open_faces-requires : goal.open_faces-requires
open_faces-requires c = let k = c.requires in record { faces_ok = ready-faces k.ready; points_ok = ready-points k.ready k.faces_in_bounds k.f_in_bounds }

pub swap_edges-requires : goal.swap_edges-requires
swap_edges-requires c = ready-swaps c.requires.ready c.open_faces.ensures.links_after

pub returns : goal.returns
unfolding counts_of
returns c =
    let k = c.requires.ready in
    let d = c.open_faces.ensures in
    let e = ready-done k d.links_after c.swap_edges.ensures.links_after in
    record {
      outs_after = search (rules, ap (λ (t : Links). t.outs) e);
      edges_after = search (rules, ap (λ (t : Links). t.edges) e);
      faces_after = search (rules, ap (λ (t : Links). t.faces) e);
      points_after = moved_to _ _ _ d.points_after (ready_vertices k d.links_after);
      value = ap counts_of e;
    }
