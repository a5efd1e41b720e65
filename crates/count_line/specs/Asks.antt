-- What counting asks of a mesh in its slices. Assumes nothing.
use Rattle.std.specs.Prelude.{ℕ, ◌*◌, ◌≤◌, Bool, true, false, List, length, take, Option, None, Some}
use Rattle.scope.specs.declared.records.Counts.{Counts}
use Rattle.count_fields.specs.Count.{Linked}

-- there is one
abbrev pub there : {A : Type 0} → Option A → Bool
there None = false
there (Some x) = true

-- marks as long as the counts, which are small
pub record MarksFit (c : Counts) (vm em fm : List ℕ) : Type 0 where
  pub few_v : c.v ≤ 1048576
  pub few_e : c.e ≤ 1048576
  pub few_f : c.f ≤ 1048576
  pub vmarks : c.v ≤ length vm
  pub emarks : c.e ≤ length em
  pub fmarks : c.f ≤ length fm

-- links as long as the counts, along which counting may walk
pub record Countable (c : Counts) (os es fs : List ℕ) : Type 0 where
  pub few : c.v ≤ 1048576
  pub outs : c.v ≤ length os
  pub edges : 8 * c.e ≤ length es
  pub faces : c.f ≤ length fs
  pub linked : Linked (take (8 * c.e) es) (take c.f fs) c.e
