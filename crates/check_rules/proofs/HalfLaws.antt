-- The laws of halfedges that are there. Assumes nothing.
use Prim.Native.Nat.{ℕ, ◌*◌, ◌≤◌, ◌<◌}
use mathlib.Core.Path.{ap, ◌∙◌}
use mathlib.Core.List.{List}
use native.Mathlib.Omega.{arith}
use lib.ListN.{length, get_or}
use Rattle.mesh.proofs.PartnerLaws.{partner-half, partner-lt}
use Rattle.mesh.specs.Words.{Has}
use Rattle.check_rules.specs.Place.{Half}
use Rattle.scope.specs.Links.{partner}

pub half-partner : (em : List ℕ) (e h : ℕ) → Half em e h → Half em e (partner h)
half-partner em e h (l, q) = (partner-lt h e l, ap (λ (j : ℕ). get_or em j 0) (partner-half h) ∙ q)

pub has-partner : (ed : List ℕ) (e h : ℕ) → 8 * e ≤ length ed → h < 2 * e → Has ed (partner h)
has-partner ed e h r l = let q = partner-lt h e l in omega arith
