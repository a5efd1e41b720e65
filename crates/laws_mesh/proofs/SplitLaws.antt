-- Split edge on links: sizes, and consistency with and without marks. Assumes nothing.
use mathlib.Core.Path.{◌≡◌, refl, ◌∙◌}
use mathlib.Core.Logic.{inl, inr}
use Prim.Native.Nat.{ℕ, suc, ◌+◌, ◌*◌, ◌≤◌, ◌<◌}
use native.Mathlib.Omega.{arith}
use lib.ListN.{get_or, length}
use Rattle.scope.specs.Lists.{put}
use Rattle.scope.specs.Links.{Links, Marks, NONE, partner, ◌▸◌, out_is, more}
use Rattle.scope.specs.Edits.{split_edge}
use Rattle.laws_mesh.specs.Mesh.{Shape, Core, Consistent}
use Rattle.laws_mesh.specs.Of.{mesh_on, mesh, mesh_of, Sized, Marked, Good}
use Rattle.laws_mesh.proofs.Cycle.{split}
use Rattle.laws_mesh.proofs.Facts.{partner-lt, tail-in}
use Rattle.laws_mesh.proofs.Relink.{add-vertex}
use Rattle.laws_mesh.proofs.Puts.{get_or-put-same, get_or-put-other, put-long, put-long-end}
use Rattle.laws_mesh.proofs.Stores.{head, next, prev, at, stores-grown}
use Rattle.laws_mesh.proofs.Shapes.{shape-mesh, shape_of, recarry}
use Rattle.laws_mesh.proofs.Carriers.{range_same, range-edge, unmarked-same, unmarked-edge}
use Rattle.laws_mesh.proofs.SplitEdge.{SplitEdge, split-consistent}
use Rattle.laws_mesh.proofs.SplitOn.{split-stores, split-on}

-- ---- sizes

-- the halfedges around h and its partner are in range
pub record Near (m : Links) (h : ℕ) : Type 0 where
  pub h-low : h < 2 * m.ne
  pub b-low : at m.edges prev h < 2 * m.ne
  pub a-low : at m.edges next (partner h) < 2 * m.ne
  pub tail-low : at m.edges head (partner h) < m.nv

pub near : {H₁ V₁ F₁ : ℕ → Type 0} {m : Links} → Shape (mesh_on H₁ V₁ F₁ m) → Core (mesh_on H₁ V₁ F₁ m) → ((x : ℕ) → H₁ x → x < 2 * m.ne) → ((u : ℕ) → V₁ u → u < m.nv)
    → (h : ℕ) → H₁ h → Near m h
near s c lo vs h i = record { h-low = lo h i; b-low = lo _ (c.prev_in h i); a-low = lo _ (c.next_in (partner h) (s.H-partner h i)); tail-low = vs _ (tail-in s c h i) }

split-edges_long : (m : Links) (h v : ℕ) → length m.edges ≡ 8 * m.ne → Near m h → length (split_edge h v m).edges ≡ 8 * (m.ne + 1)
unfolding split_edge
split-edges_long m h v long a =
    let o = partner-lt h m.ne a.h-low in
    let up : (x : ℕ) → x < 2 * m.ne → x < suc (2 * m.ne + 1) = λ x i. omega arith in
    let n : 2 * m.ne < suc (2 * m.ne + 1) = omega arith in
    let k : 2 * m.ne + 1 < suc (2 * m.ne + 1) = omega arith in
    let r = stores-grown m.edges (2 * m.ne + 1) (split-stores h v m) (omega arith)
    (up _ o, (up _ a.h-low, (up _ o, (up _ a.a-low, (up _ a.b-low, (k, (k, (k, (k, (n, (n, (n, (n, tt)))))))))))))
    (inr (inr (inl refl))) in
    r ∙ omega arith

pub split-sized : (m : Links) (h v : ℕ) → Sized m → Near m h → v < m.nv → m.ne + 1 ≤ 1048576 → Sized (split_edge h v m)
unfolding split_edge
split-sized m h v z a i room = record {
  outs_long = put-long _ _ _ (put-long _ v _ z.outs_long i) a.tail-low ∙ omega arith;
  edges_long = split-edges_long m h v z.edges_long a;
  faces_long = z.faces_long ∙ omega arith;
  few_v = (let q = z.few_v in omega arith);
  few_e = room;
  few_f = (let q = z.few_f in omega arith);
}

-- ---- with marks: they stay, and past their end nothing is marked
module _ (m : Links) (k : Marks) (h v : ℕ) (z : Sized m) (l : Marked m k) (c : Consistent (mesh_of m k)) (hi : (mesh_of m k).is_h h) (vi : (mesh_of m k).is_v v) (free : (mesh_of m k).out v ≡ NONE)
    (room : m.ne + 1 ≤ 1048576) where
  pub split-marked : SplitEdge (mesh_of m k) (mesh_of (split_edge h v m) k) h v (2 * m.ne)
  unfolding split_edge
  split-marked = split-on {m = m} {outs₁ = m.outs}
      (record { shape = shape_of m k z.few_e z.few_f; core = c.core; h-in = hi; v_in = vi; v-free = free; others = λ u p. refl })
      (unmarked-edge m.ne (m.ne + 1) k.es refl l.es_long) (unmarked-same m.nv (m.nv + 0) k.vs (omega arith)) (unmarked-same m.nf (m.nf + 0) k.fs (omega arith))

  pub split-marked-sized : Sized (split_edge h v m)
  split-marked-sized = split-sized m h v z (near (shape_of m k z.few_e z.few_f) c.core (λ x i. i.0) (λ u i. i.0) h hi) vi.0 room

  pub split-marked-consistent : Consistent (mesh_of (split_edge h v m) k)
  split-marked-consistent =
      let z' = split-marked-sized in
      split-consistent (shape_of m k z.few_e z.few_f) (shape_of (split_edge h v m) k z'.few_e z'.few_f) c split-marked

-- ---- by a new vertex, with nothing marked
-- m with an isolated vertex more
unfoldable pub with-vertex : Links → Links
with-vertex m = m ▸ out_is m.nv NONE ▸ more 1 0 0

-- the edge of h split by a new vertex
unfoldable pub split-new : ℕ → Links → Links
split-new h m = m ▸ split_edge h m.nv ▸ more 1 0 0

pub vertex-good : (m : Links) → Good m → m.nv + 1 ≤ 1048576 → Good (with-vertex m)
unfolding with-vertex
vertex-good m g room = let z = g.sized in record {
  sized = record {
    outs_long = put-long-end m.outs NONE z.outs_long;
    edges_long = z.edges_long ∙ omega arith;
    faces_long = z.faces_long ∙ omega arith;
    few_v = room;
    few_e = (let q = z.few_e in omega arith);
    few_f = (let q = z.few_f in omega arith);
  };
  consistent = recarry (m ▸ out_is m.nv NONE ▸ more 1 0 0)
      (record { to_H = λ x i. (omega arith); from-H = λ x i. (omega arith); to-V = λ x i. i; from-V = λ x i. i; to-F = λ x i. (omega arith); from-F = λ x i. (omega arith) })
      (add-vertex (λ v. v < m.nv + 1) (λ v. get_or (put m.outs m.nv NONE) v 0) m.nv (shape-mesh m z.few_e z.few_f) g.consistent
      (λ i. omega arith) (λ u i. omega arith) (λ u i. split u m.nv (λ e. inr e) (λ ne. inl (omega arith)))
      (get_or-put-same m.outs m.nv NONE 0) (λ u i. get_or-put-other m.outs m.nv u NONE (omega arith)));
}

module _ (m : Links) (h : ℕ) (g : Good m) (hi : h < 2 * m.ne) (room-v : m.nv + 1 ≤ 1048576) (room_e : m.ne + 1 ≤ 1048576) where
  pub split-new-is : SplitEdge (mesh (with-vertex m)) (mesh (split-new h m)) h m.nv (2 * m.ne)
  unfolding split_edge with-vertex split-new
  split-new-is =
      let w = vertex-good m g room-v in
      split-on {m = m} {outs₁ = put m.outs m.nv NONE}
      (record {
        shape = shape-mesh (with-vertex m) w.sized.few_e w.sized.few_f;
        core = w.consistent.core;
        h-in = omega arith;
        v_in = omega arith;
        v-free = get_or-put-same m.outs m.nv NONE 0;
        others = λ u p. get_or-put-other m.outs m.nv u NONE p;
      })
      (range-edge m.ne (m.ne + 0) (m.ne + 1 + 0) (omega arith) (omega arith))
      (range_same (m.nv + 1) (m.nv + 0 + 1) (omega arith)) (range_same (m.nf + 0) (m.nf + 0 + 0) (omega arith))

  pub split-new-good : Good (split-new h m)
  unfolding split_edge with-vertex split-new
  split-new-good =
      let z = g.sized in
      let w = vertex-good m g room-v in
      let e : m.ne + 1 + 0 ≤ 1048576 = omega arith in
      let f : m.nf + 0 + 0 ≤ 1048576 = (let q = z.few_f in omega arith) in
      record {
        sized = record {
          outs_long = put-long _ _ _ (put-long-end m.outs _ z.outs_long) (let q = a.tail-low in omega arith) ∙ omega arith;
          edges_long = split-edges_long m h m.nv z.edges_long a ∙ omega arith;
          faces_long = z.faces_long ∙ omega arith;
          few_v = omega arith;
          few_e = e;
          few_f = f;
        };
        consistent = split-consistent (shape-mesh (with-vertex m) w.sized.few_e w.sized.few_f) (shape-mesh (split-new h m) e f) w.consistent split-new-is;
      }
    where
      a : Near m h
      a = near (shape-mesh m g.sized.few_e g.sized.few_f) g.consistent.core (λ x i. i) (λ u i. i) h hi
