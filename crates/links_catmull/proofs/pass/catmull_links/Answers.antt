use mathlib.Core.Path.{ap, ◌∙◌}
use Rattle.std.proofs.Common.{rules}
use Rattle.scope.specs.Links.{Links}
use Rattle.scope.specs.Tally.{counts_of}
use Rattle.links_catmull.proofs.PassLaws.{ready-splits, ready-faces, ready-done}
use Rattle.links_catmull.proofs.pass.catmull_links.Goals as goal

pub split_edges-requires : goal.split_edges-requires
split_edges-requires c = ready-splits c.requires

pub split_faces-requires : goal.split_faces-requires
split_faces-requires c = let d = c.split_edges.ensures in
    ready-faces c.requires d.outs_after d.edges_after

pub returns : goal.returns
unfolding counts_of
returns c =
    let d = c.split_edges.ensures in
    let e = c.split_faces.ensures.links_after ∙ ready-done c.requires d.outs_after d.edges_after in
    record {
      outs_after = search (rules, ap (λ (t : Links). t.outs) e);
      edges_after = search (rules, ap (λ (t : Links). t.edges) e);
      faces_after = search (rules, ap (λ (t : Links). t.faces) e);
      value = c.counts.ensures ∙ ap counts_of e;
    }
