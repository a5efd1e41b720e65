-- The rules at a place, over the lists. Assumes nothing.
use Rattle.std.specs.Prelude.{◌≡◌, List, ◌⊎◌, ◌≢◌, ℕ, ◌*◌, ◌≤◌, length}
use Rattle.mesh.specs.Words.{face_at, head_at, link_at, next_at, prev_at, tail_at, turn_at}
use Rattle.check_rules.specs.Place.{Half, Live}
use Rattle.scope.specs.Links.{NONE, partner}
use Rattle.laws_mesh.specs.Reach.{Reach}

-- C1
pub record R1v (ol em : List ℕ) (e v : ℕ) : Type 0 where
  pub out_ok : (link_at ol v ≡ NONE) ⊎ Half em e (link_at ol v)

pub record R1h (ed vm em fm : List ℕ) (v e f h : ℕ) : Type 0 where
  pub face_ok : (face_at ed h ≡ NONE) ⊎ Live fm f (face_at ed h)
  pub head_ok : Live vm v (head_at ed h)
  pub next_ok : Half em e (next_at ed h)
  pub prev_ok : Half em e (prev_at ed h)

pub record R1f (fl em : List ℕ) (e f : ℕ) : Type 0 where
  pub start_ok : Half em e (link_at fl f)

-- C2
pub record R2 (ed : List ℕ) (h : ℕ) : Type 0 where
  pub next_prev : next_at ed (prev_at ed h) ≡ h
  pub prev_next : prev_at ed (next_at ed h) ≡ h

-- C3
pub record R3 (ed : List ℕ) (h : ℕ) : Type 0 where
  pub from_head : tail_at ed (next_at ed h) ≡ head_at ed h
  pub same_face : face_at ed (next_at ed h) ≡ face_at ed h

-- C5
pub record R5 (ed : List ℕ) (h : ℕ) : Type 0 where
  pub faced : (face_at ed h ≢ NONE) ⊎ (face_at ed (partner h) ≢ NONE)

-- C6
pub record R6 (ed : List ℕ) (h : ℕ) : Type 0 where
  pub no_spike : next_at ed h ≢ partner h

-- ---- what is known after the first rules

-- the lists are long enough and the counts small
pub record EdgesFit (ed em : List ℕ) (e : ℕ) : Type 0 where
  pub few : e ≤ 1048576
  pub room : 8 * e ≤ length ed
  pub marks : e ≤ length em

pub record ItemsFit (l m : List ℕ) (n : ℕ) : Type 0 where
  pub few : n ≤ 1048576
  pub room : n ≤ length l
  pub marks : n ≤ length m

-- C1 at next and prev
pub record Chained (ed em : List ℕ) (e : ℕ) : Type 0 where
  pub next_in : (h : ℕ) → Half em e h → Half em e (next_at ed h)
  pub prev_in : (h : ℕ) → Half em e h → Half em e (prev_at ed h)

-- C1 at next and prev, C2 and C3
pub record Sewn (ed em : List ℕ) (e : ℕ) : Type 0 where
  pub next_in : (h : ℕ) → Half em e h → Half em e (next_at ed h)
  pub prev_in : (h : ℕ) → Half em e h → Half em e (prev_at ed h)
  pub next_prev : (h : ℕ) → Half em e h → next_at ed (prev_at ed h) ≡ h
  pub prev_next : (h : ℕ) → Half em e h → prev_at ed (next_at ed h) ≡ h
  pub next_tail : (h : ℕ) → Half em e h → tail_at ed (next_at ed h) ≡ head_at ed h
  pub next_face : (h : ℕ) → Half em e h → face_at ed (next_at ed h) ≡ face_at ed h

-- C1 at the links from and to faces
pub record Faced (ed em fl fm : List ℕ) (e f : ℕ) : Type 0 where
  pub face_in : (h : ℕ) → Half em e h → (face_at ed h ≡ NONE) ⊎ Live fm f (face_at ed h)
  pub start_in : (x : ℕ) → Live fm f x → Half em e (link_at fl x)

-- C1 at the links from and to vertices
pub record Rooted (ed em ol vm : List ℕ) (e v : ℕ) : Type 0 where
  pub head_in : (h : ℕ) → Half em e h → Live vm v (head_at ed h)
  pub out_in : (x : ℕ) → Live vm v x → (link_at ol x ≡ NONE) ⊎ Half em e (link_at ol x)

-- ---- the parts of C4, C7, C8 and C9: at the place itself, and at each halfedge

abbrev pub Bears : List ℕ → List ℕ → ℕ → Type 0
Bears ed fl f = face_at ed (link_at fl f) ≡ f

-- C4 at b, which bears a face
abbrev pub OnLoop : List ℕ → List ℕ → List ℕ → ℕ → ℕ → Type 0
OnLoop ed em fl e b = Half em e b → face_at ed b ≢ NONE → Reach (next_at ed) (link_at fl (face_at ed b)) b

abbrev pub LongEnough : List ℕ → List ℕ → ℕ → Type 0
LongEnough ed fl f = next_at ed (next_at ed (link_at fl f)) ≢ link_at fl f

-- C4, whole
pub record Looped (ed em : List ℕ) (e : ℕ) : Type 0 where
  pub one_loop : (a b : ℕ) → Half em e a → Half em e b → face_at ed a ≢ NONE → face_at ed b ≡ face_at ed a → Reach (next_at ed) a b

-- C7 at a: no other halfedge of its face has its head
abbrev pub Alone : List ℕ → List ℕ → ℕ → ℕ → Type 0
Alone ed em e a = Half em e a → face_at ed a ≢ NONE → (b : ℕ) → Half em e b → face_at ed b ≡ face_at ed a → head_at ed b ≡ head_at ed a → b ≡ a

abbrev pub Leaves : List ℕ → List ℕ → ℕ → Type 0
Leaves ed ol v = link_at ol v ≢ NONE → tail_at ed (link_at ol v) ≡ v

-- C8 at b
abbrev pub OnTurn : List ℕ → List ℕ → List ℕ → ℕ → ℕ → Type 0
OnTurn ed em ol e b = Half em e b → (link_at ol (tail_at ed b) ≢ NONE) × Reach (turn_at ed) (link_at ol (tail_at ed b)) b

-- C9 at h
abbrev pub Named : List ℕ → List ℕ → List ℕ → ℕ → ℕ → Type 0
Named ed em ol e h = Half em e h → face_at ed h ≡ NONE → link_at ol (tail_at ed h) ≡ h

-- ---- C4, C7, C8 and C9 at their places

pub record R4 (ed em fl : List ℕ) (e f : ℕ) : Type 0 where
  pub bears : Bears ed fl f
  pub holds : (b : ℕ) → Half em e b → face_at ed b ≡ f → Reach (next_at ed) (link_at fl f) b

pub record R7 (ed em fl : List ℕ) (e f : ℕ) : Type 0 where
  pub three : LongEnough ed fl f
  pub differ : (a b : ℕ) → Half em e a → Half em e b → face_at ed a ≡ f → face_at ed b ≡ f → head_at ed a ≡ head_at ed b → a ≡ b

pub record R8 (ed em ol : List ℕ) (e v : ℕ) : Type 0 where
  pub leaves : Leaves ed ol v
  pub meets : link_at ol v ≢ NONE → (b : ℕ) → Half em e b → tail_at ed b ≡ v → Reach (turn_at ed) (link_at ol v) b
  pub none_if : link_at ol v ≡ NONE → (h : ℕ) → Half em e h → tail_at ed h ≢ v

pub record R9 (ed em ol : List ℕ) (e v : ℕ) : Type 0 where
  pub names : (h : ℕ) → Half em e h → tail_at ed h ≡ v → face_at ed h ≡ NONE → link_at ol v ≡ h
