-- The rim loops of a mesh and their number (document 01, sections 2 and 5). Assumes nothing.
use Rattle.std.specs.Prelude.{◌≡◌, true, List, [], ℕ, ◌*◌, ◌<◌, get_or, length}
use Rattle.scope.specs.Lists.{has, distinct}
use Rattle.scope.specs.Links.{Links, rim, loop}
use Rattle.count_fields.specs.Count.{lowest_rim}

-- §2: h is a rim halfedge of m
pub record Rim (m : Links) (h : ℕ) : Type 0 where
  pub in_range : h < 2 * m.ne
  pub no_face : rim m h ≡ true

-- ls lists the rim loops: each of it is the loop of a rim halfedge, every rim halfedge lies in one of it, and no halfedge lies in two
pub record RimLoops (m : Links) (ls : List (List ℕ)) : Type 0 where
  pub of_rim : (i : ℕ) → i < length ls → (h : ℕ) × Rim m h × (get_or ls i [] ≡ loop m h)
  pub every : (h : ℕ) → Rim m h → (i : ℕ) × (i < length ls) × (has h (get_or ls i []) ≡ true)
  pub apart : (i j h : ℕ) → i < j → j < length ls → has h (get_or ls i []) ≡ true → has h (get_or ls j []) ≡ true → ⊥

-- §5: m has n rim loops: there is such a list, and each is of n
pub record RimLoopCount (m : Links) (n : ℕ) : Type 0 where
  pub listed : (ls : List (List ℕ)) × RimLoops m ls
  pub long : (ls : List (List ℕ)) → RimLoops m ls → length ls ≡ n

-- the loop of a rim halfedge h: rim halfedges only, each once, and exactly one of them is the lowest, by which the counter knows the loop
pub record RimLoop (m : Links) (h : ℕ) : Type 0 where
  pub all_rim : (x : ℕ) → has x (loop m h) ≡ true → Rim m x
  pub once : distinct (loop m h) ≡ true
  pub lowest : (x : ℕ) × (has x (loop m h) ≡ true) × (lowest_rim m.edges m.ne x ≡ true)
  pub no_other : (x y : ℕ) → has x (loop m h) ≡ true → has y (loop m h) ≡ true → lowest_rim m.edges m.ne x ≡ true → lowest_rim m.edges m.ne y ≡ true → x ≡ y
