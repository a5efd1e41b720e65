-- What dividing faces around new vertices asks of the slices, at each part of each face. Assumes nothing.
use Rattle.std.specs.Prelude.{ℕ, suc, ◌+◌, ◌*◌, ◌/◌, ◌%◌, ◌≤◌, ◌<◌, ◌≡◌, List, [], ◌∷◌, length}
use Rattle.scope.specs.Lists.{each}
use Rattle.scope.specs.Links.{Links, next, start}
use Rattle.scope.specs.Edits.{Part, petal}
use Rattle.scope.specs.Passes.{pairs, from_old, catmull_face}
use Rattle.laws_mesh.proofs.Loops.{steps}
use Rattle.laws_mesh.proofs.FromOld.{first-old}
use Rattle.mesh.specs.Words.{next_at, Has}
use Rattle.mesh.specs.Rounds.{Walk}
use Rattle.links_edits.specs.Held.{held}
use Rattle.links_edits.specs.Petal.{PetalOk}

-- ---- a face

-- part q may get its spokes o and s, and from its halfedges t still leads on as nx does
pub record PartOk (nx : ℕ → ℕ) (o s : ℕ) (q : Part) (t : Links) : Type 0 where
  pub ranges : PetalOk t.edges t.faces o s q
  pub on_a : next t q.a ≡ nx q.a
  pub on_b : next t q.b ≡ nx q.b

-- so may each of the parts, from number i on, after those before it
abbrev pub FanOk : (ℕ → ℕ) → ℕ → ℕ → ℕ → ℕ → List Part → Links → Type 0
FanOk nx c e n i [] t = Unit {0}
FanOk nx c e n i (q ∷ qs) t =
    PartOk nx (2 * (e + i) + 1) (2 * (e + (suc i % n))) q t × FanOk nx c e n (suc i) qs (petal c (2 * (e + i) + 1) (2 * (e + (suc i % n))) q t)

pub record FanReady (edges faces : List ℕ) (c e g f a n : ℕ) : Type 0 where
  pub few_e : e + n ≤ 1048576
  pub few_f : g + n ≤ 2097152
  pub parts_ok : FanOk (next_at edges) c e n 0 (pairs f g (steps (next_at edges) a (2 * n))) (held 0 0 0 [] edges faces)

-- how many faces face f becomes
abbrev pub parts : ℕ → ℕ → Links → ℕ
parts old f m = length (from_old old f m) / 2

pub record FaceOk (old f : ℕ) (m : Links) : Type 0 where
  pub f_in : f < length m.faces
  pub start_in : Has m.edges (start m f)
  pub vertex : m.nv < length m.outs
  pub some : 1 ≤ parts old f m
  pub walk : Walk next_at m.edges m.ne (first-old old f m)
  pub even : from_old old f m ≡ steps (next m) (first-old old f m) (2 * parts old f m)
  pub fan_ok : FanReady m.edges m.faces m.nv m.ne m.nf f (first-old old f m) (parts old f m)

-- ---- the faces
pub record FacesOk (old : ℕ) (m : Links) : Type 0 where
  pub few_v : m.nv + m.nf ≤ 1048576
  pub few_e : m.ne ≤ 1048576
  pub few_f : m.nf ≤ 1048576
  pub each_ok : (f : ℕ) → f < m.nf → FaceOk old f (each f (catmull_face old) m)
