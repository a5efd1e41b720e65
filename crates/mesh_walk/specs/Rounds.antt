-- What is left of a round of halfedges. Assumes nothing.
use Rattle.std.specs.Prelude.{ℕ, List}
use Rattle.scope.specs.Lists.{round}
use Rattle.mesh.specs.Words.{Has}
use Rattle.mesh.specs.Rounds.{after}
use Rattle.mesh_walk.specs.declared.round.Round.{Round}

-- the halfedges that are met from x on are there
pub record Meets (step : ℕ → ℕ) (es : List ℕ) (x : ℕ) : Type 0 where
  pub met : (i : ℕ) → Has es (after step i x)

abbrev pub left_of : {S : Type 0} → (List ℕ → ℕ → ℕ) → Round S → List ℕ
left_of at r = round r.first (at r.edges.now) r.left r.at
