-- Walks, and tours: the loops of all faces or the turns of all vertices so far, one after the other. Assumes nothing.
use Rattle.std.specs.Prelude.{◌≡◌, Bool, not, ◌&&◌, ◌||◌, List, ◌≢◌, ℕ, ◌*◌, ◌/◌, ◌≤◌, ◌<◌, T, eqb, get_or, ◌+◌}
use Rattle.mesh.specs.Words.{face_at, head_at, link_at, next_at, prev_at, tail_at, turn_at}
use Rattle.check_rules.specs.Place.{Half, Live}
use Rattle.check_rules.specs.Rule.{Bears, Leaves, OnLoop, OnTurn}
use Rattle.scope.specs.Links.{NONE, partner}
use Rattle.laws_mesh.specs.Reach.{Reach, iter}

-- x is met after some steps of f from b, `left` of n being left, and all before it miss
pub record Walk (f : ℕ → ℕ) (Miss : ℕ → Type 0) (b n left x : ℕ) : Type 0 where
  pub steps : ℕ
  pub all : steps + left ≡ n
  pub here : iter f steps b ≡ x
  pub missed : (i : ℕ) → i < steps → Miss (iter f i b)

-- all that f leads to from a are a or above
abbrev pub Least : (ℕ → ℕ) → ℕ → Type 0
Least f a = (b : ℕ) → Reach f a b → a ≤ b

-- C4 and C8 at the least halfedge of each loop and of each turn
abbrev pub LedLoop : List ℕ → List ℕ → List ℕ → ℕ → ℕ → Type 0
LedLoop ed em fl e b = Half em e b → Least (next_at ed) b → face_at ed b ≢ NONE → Reach (next_at ed) (link_at fl (face_at ed b)) b

abbrev pub LedTurn : List ℕ → List ℕ → List ℕ → ℕ → ℕ → Type 0
LedTurn ed em ol e b = Half em e b → Least (turn_at ed) b → (link_at ol (tail_at ed b) ≢ NONE) × Reach (turn_at ed) (link_at ol (tail_at ed b)) b

-- a halfedge's mark says that it is there
abbrev pub unmarked : List ℕ → ℕ → Bool
unmarked em h = eqb (get_or em (h / 2) 0) 0

-- and it bears a face
abbrev pub bearing : List ℕ → List ℕ → ℕ → Bool
bearing ed em h = unmarked em h && not (eqb (face_at ed h) NONE)

-- x is a, or has another head
abbrev pub apart_at : List ℕ → ℕ → ℕ → Bool
apart_at ed a x = eqb x a || not (eqb (head_at ed x) (head_at ed a))

-- t different numbers below n that pass the test; each has a place below `upto` and is met
pub record Tour (p : ℕ → Bool) (place : ℕ → ℕ) (Met : ℕ → Type 0) (n upto t : ℕ) : Type 0 where
  pub seq : ℕ → ℕ
  pub in_range : (i : ℕ) → i < t → seq i < n
  pub passes : (i : ℕ) → i < t → T (p (seq i))
  pub differ : (i j : ℕ) → i < j → j < t → seq i ≢ seq j
  pub done : (i : ℕ) → i < t → place (seq i) < upto
  pub met : (i : ℕ) → i < t → Met (seq i)

-- C4 at x, a member of a tour of the faces
abbrev pub MetLoop : List ℕ → List ℕ → ℕ → Type 0
MetLoop ed fl x = Reach (next_at ed) (link_at fl (face_at ed x)) x

abbrev pub LoopTour : List ℕ → List ℕ → List ℕ → ℕ → ℕ → ℕ → Type 0
LoopTour ed em fl e upto t = Tour (bearing ed em) (λ (x : ℕ). face_at ed x) (MetLoop ed fl) (2 * e) upto t

-- C8 at x, a member of a tour of the vertices
abbrev pub MetTurn : List ℕ → List ℕ → ℕ → Type 0
MetTurn ed ol x = (link_at ol (tail_at ed x) ≢ NONE) × Reach (turn_at ed) (link_at ol (tail_at ed x)) x

abbrev pub TurnTour : List ℕ → List ℕ → List ℕ → ℕ → ℕ → ℕ → Type 0
TurnTour ed em ol e upto t = Tour (unmarked em) (λ (x : ℕ). tail_at ed x) (MetTurn ed ol) (2 * e) upto t

-- the first half of C4 and of C8 everywhere
pub record AllBear (ed fl fm : List ℕ) (f : ℕ) : Type 0 where
  pub bear : (k : ℕ) → k < f → Live fm f k → Bears ed fl k

pub record AllLeave (ed ol vm : List ℕ) (v : ℕ) : Type 0 where
  pub leave : (k : ℕ) → k < v → Live vm v k → Leaves ed ol k

pub record AllOnLoop (ed em fl : List ℕ) (e : ℕ) : Type 0 where
  pub on_loop : (k : ℕ) → k < 2 * e → OnLoop ed em fl e k

-- C8 everywhere
pub record Turned (ed em ol vm : List ℕ) (e v : ℕ) : Type 0 where
  pub leave : (k : ℕ) → k < v → Live vm v k → Leaves ed ol k
  pub on_turn : (k : ℕ) → k < 2 * e → OnTurn ed em ol e k

-- the next halfedge that ends where h ends
abbrev pub spin_at : List ℕ → ℕ → ℕ
spin_at ed h = prev_at ed (partner h)

-- C8's use to C7: spinning from a meets all that end where a ends
pub record Spun (ed em : List ℕ) (e : ℕ) : Type 0 where
  pub spin : (a b : ℕ) → Half em e a → Half em e b → head_at ed b ≡ head_at ed a → Reach (spin_at ed) a b
