-- Which elements are there, and what a search for the first broken place finds. Assumes nothing.
use Rattle.std.specs.Prelude.{◌≡◌, Bool, true, false, List, ◌⊎◌, ℕ, ◌*◌, ◌/◌, ◌≤◌, ◌<◌, get_or, Option, Some, IsSomeAnd, MatchOption}

-- a vertex or a face that is there: in range and not marked
abbrev pub Live : List ℕ → ℕ → ℕ → Type 0
Live marks n x = (x < n) × (get_or marks x 0 ≡ 0)

-- a halfedge that is there; n is the number of edges
abbrev pub Half : List ℕ → ℕ → ℕ → Type 0
Half marks n h = (h < 2 * n) × (get_or marks (h / 2) 0 ≡ 0)

-- r is the first place below n that is not in order
pub record First (Ok : ℕ → Type 0) (n r : ℕ) : Type 0 where
  pub within : r < n
  pub before : (k : ℕ) → k < r → Ok k
  pub broken : Ok r → ⊥

-- what a search finds: the first place below n that is not in order, or none
pub record Found (Ok : ℕ → Type 0) (n : ℕ) (r : Option ℕ) : Type 0 where
  pub finds : MatchOption r ((k : ℕ) → k < n → Ok k) (First Ok n)

-- the same by what a test said of each number
pub record FoundBy (Says : ℕ → Bool → Type 0) (n : ℕ) (r : Option ℕ) : Type 0 where
  pub finds : MatchOption r ((k : ℕ) → k < n → Says k true) (λ i. (i < n) × ((k : ℕ) → k < i → Says k true) × Says i false)

-- r is the lowest `place` of a number below n that is not in order, and below `limit`
pub record Lowest (Ok : ℕ → Type 0) (place : ℕ → ℕ) (n limit r : ℕ) : Type 0 where
  pub within : r < limit
  pub before : (k : ℕ) → k < n → place k < r → Ok k
  pub broken : (k : ℕ) × (k < n) × (place k ≡ r) × (Ok k → ⊥)

-- the lowest `place` below `limit` of a number below n that is not in order, or none
pub record Low (Ok : ℕ → Type 0) (place : ℕ → ℕ) (n limit : ℕ) (r : Option ℕ) : Type 0 where
  pub finds : MatchOption r ((k : ℕ) → k < n → place k < limit → Ok k) (Lowest Ok place n limit)

-- the same, without a limit, by what a test and a place said of each number
pub record LowBy (Says : ℕ → Bool → Type 0) (Puts : ℕ → ℕ → Type 0) (n : ℕ) (r : Option ℕ) : Type 0 where
  pub each : (k : ℕ) → k < n → Says k true ⊎ (Says k false × (p : ℕ) × Puts k p × IsSomeAnd r (λ x. x ≤ p))
  pub some : (x : ℕ) → r ≡ Some x → (k : ℕ) × (k < n) × Says k false × Puts k x

-- r is the lower of two places that may be none
pub record Lower (a b r : Option ℕ) : Type 0 where
  pub at_most_a : (x : ℕ) → a ≡ Some x → IsSomeAnd r (λ z. z ≤ x)
  pub at_most_b : (y : ℕ) → b ≡ Some y → IsSomeAnd r (λ z. z ≤ y)
  pub either : (r ≡ a) ⊎ (r ≡ b)
