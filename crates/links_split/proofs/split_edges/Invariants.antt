use mathlib.Core.Path.{◌≡◌}
use mathlib.Core.List.{[]}
use Rattle.links_edits.specs.Held.{held}
use Rattle.links_split.specs.Splits.{split_to}
use Rattle.links_split.proofs.split_edges.Given as goal

abbrev pub invariant-loop-e : goal.invariant-loop-e
invariant-loop-e l = record {
  outs : l.outs ≡ (split_to l.e (held l.nv l.ne 0 l.initial.outs l.initial.edges [])).outs;
  edges : l.edges ≡ (split_to l.e (held l.nv l.ne 0 l.initial.outs l.initial.edges [])).edges;
}
