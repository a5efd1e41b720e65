-- Each word of the slices is scope's, on links that hold those lists. Assumes nothing.
use Prim.Native.Nat.{ℕ}
use mathlib.Core.Path.{◌≡◌, refl}
use mathlib.Core.List.{List}
use lib.Ieee.{Float}
use Rattle.scope.specs.declared.records.Halfedge.{Halfedge}
use Rattle.scope.specs.Links.{Links, face, head, next, prev, out, start, tail, turn, rim, rim_edge, rim_vertex, link, half}
use Rattle.scope.specs.Points as points
use Rattle.mesh.specs.Words.{face_at, head_at, next_at, prev_at, tail_at, turn_at, link_at, laid_half, laid_link, point_at}
use Rattle.mesh.specs.Rounds.{rim_at, rim_edge_at, rim_vertex_at}

-- the loads
pub record Loads (m : Links) : Type 0 where
  pub is-face : (h : ℕ) → face m h ≡ face_at m.edges h
  pub is-head : (h : ℕ) → head m h ≡ head_at m.edges h
  pub is-next : (h : ℕ) → next m h ≡ next_at m.edges h
  pub is-prev : (h : ℕ) → prev m h ≡ prev_at m.edges h
  pub is-tail : (h : ℕ) → tail m h ≡ tail_at m.edges h
  pub is-turn : (h : ℕ) → turn m h ≡ turn_at m.edges h
  pub is-out : (v : ℕ) → out m v ≡ link_at m.outs v
  pub is-start : (f : ℕ) → start m f ≡ link_at m.faces f
  pub is-rim : (h : ℕ) → rim m h ≡ rim_at m.edges h
  pub is-rim-edge : (e : ℕ) → rim_edge m e ≡ rim_edge_at m.edges e
  pub is-rim-vertex : (v : ℕ) → rim_vertex m v ≡ rim_vertex_at m.outs m.edges v

pub loads : (m : Links) → Loads m
loads m = record {
  is-face = λ h. refl;
  is-head = λ h. refl;
  is-next = λ h. refl;
  is-prev = λ h. refl;
  is-tail = λ h. refl;
  is-turn = λ h. refl;
  is-out = λ v. refl;
  is-start = λ f. refl;
  is-rim = λ h. refl;
  is-rim-edge = λ e. refl;
  is-rim-vertex = λ v. refl;
}

pub load-point : (ps : List Float) (v : ℕ) → points.point_at ps v ≡ point_at ps v
load-point ps v = refl

-- the stores of a halfedge, and of a link of two
pub half-laid : (m : Links) (h : ℕ) (x : Halfedge) → (half h x.face x.head x.next x.prev m).edges ≡ laid_half m.edges h x
half-laid m h x = refl

pub link-laid : (m : Links) (a b : ℕ) → (link a b m).edges ≡ laid_link m.edges a b
link-laid m a b = refl
