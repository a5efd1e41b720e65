use mathlib.Core.Path.{refl, ◌∙◌}
use native.Mathlib.Omega.{arith}
use Rattle.scope.specs.Lists.{each}
use Rattle.links_split.proofs.SplitsLaws.{split-on-outs, split-on-edges, split_done}
use Rattle.links_split.proofs.split_edges.Goals as goal

pub loop-e-init : goal.loop-e-init
unfolding each
loop-e-init c = record { outs = refl; edges = refl }

pub split_edge-requires : goal.split_edge-requires
split_edge-requires c = let i = c.loop-e.invariant in
    rw (i.outs, i.edges) (c.requires.each_ok _ c.loop-e-test.true)

pub loop-e-preserved : goal.loop-e-preserved
loop-e-preserved c = let i = c.loop-e.invariant in record {
  outs = c.split_edge.ensures.outs_after ∙ split-on-outs _ _ i.outs i.edges;
  edges = c.split_edge.ensures.edges_after ∙ split-on-edges _ _ i.outs i.edges;
}

pub returns : goal.returns
returns c = let i = c.loop-e.invariant in let r = split_done _ i.outs i.edges (let l = c.loop-e-test.false in omega arith) in record { outs_after = r.0; edges_after = r.1 }
