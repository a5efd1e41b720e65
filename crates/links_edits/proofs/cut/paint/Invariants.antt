use mathlib.Core.Path.{◌≡◌}
use lib.ListN.{drop}
use Rattle.links_edits.specs.Cut.{painted, AllHave}
use Rattle.links_edits.proofs.cut.paint.Given as goal

abbrev pub invariant-loop-h : goal.invariant-loop-h
invariant-loop-h l = record {
  all_have : AllHave l.edges (drop l.h-index l.hs);
  whole : painted l.edges l.g (drop l.h-index l.hs) ≡ painted l.initial.edges l.g l.hs;
}
