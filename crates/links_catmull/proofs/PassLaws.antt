-- A whole Catmull-Clark pass in slices that hold a good mesh: every step has what it asks, and the slices hold the mesh after the pass. Assumes nothing.
use Prim.Native.Nat.{ℕ, zero, suc, ◌+◌, ◌-◌, ◌*◌, ◌≤◌, ◌<◌}
use mathlib.Core.Path.{◌≡◌, refl, ap, ◌∙◌, subst⁻¹}
use mathlib.Core.List.{List, []}
use native.Mathlib.Omega.{arith}
use lib.ListN.{length, take}
use Rattle.scope.specs.declared.records.Counts.{Counts}
use Rattle.scope.specs.Lists.{lay, each}
use Rattle.scope.specs.Links.{Links}
use Rattle.scope.specs.Passes.{split_edges, catmull_face, catmull_pass}
use Rattle.scope.specs.Tally.{tally_of, catmull_tally}
use Rattle.laws_mesh.specs.Of.{Good}
use Rattle.laws_mesh.specs.Sides.{Within}
use Rattle.laws_mesh.proofs.SplitEdges.{Halfway, halved}
use Rattle.laws_catmull.proofs.Pass.{L, Partway, partway, len, k-in, most-v, most-e, most-f, room-v, room_e, room_f}
use Rattle.links_edits.specs.Held.{held, laid, given, Room}
use Rattle.links_edits.proofs.StoreLaws.{held-is}
use Rattle.links_split.specs.Splits.{SplitsOk}
use Rattle.links_split.proofs.SplitsLaws.{splits-ok, splits-leave}
use Rattle.links_catmull.specs.Steps.{FaceOk, FacesOk}
use Rattle.links_catmull.specs.Pass.{Ready}
use Rattle.links_catmull.proofs.FaceLaws.{face-laid-ok, face-laid}

module _ (m : Links) (g : Good m) (w : Within (catmull_tally (tally_of m))) (outs edges faces : List ℕ) (r : Room (catmull_tally (tally_of m)) outs edges faces) where
  few_v : m.nv + m.ne + m.nf ≤ 1048576
  unfolding catmull_tally tally_of
  few_v = w.v_within

  few_e : 2 * m.ne ≤ 1048576
  unfolding catmull_tally tally_of
  few_e = let a = w.e_within in omega arith

  -- ---- the faces
  abbrev after : ℕ → Links
  after k = each k (catmull_face m.nv) (split_edges m)

  module _ (k : ℕ) (l : k < m.nf) where
    p : Partway m g w (after k) k
    p = partway m g w k (omega arith)

    e-most : 8 * ((after k).ne + L m g w k) ≤ length edges
    e-most = let a = most-e m g w (after k) k p l in let b = r.for_e in omega arith

    v-most : (after k).nv + 1 ≤ length outs
    v-most = let a = most-v m g w (after k) k p l in let b = r.for_v in omega arith

    f-most : (after k).nf + (L m g w k - 1) ≤ length faces
    f-most = let a = most-f m g w (after k) k p l in let b = r.for_f in omega arith

    one_ok : FaceOk m.nv k (laid (after k) outs edges faces)
    one_ok = face-laid-ok (after k) m.nv k (L m g w k) p.good (k-in m g w (after k) k p l) (len m g w (after k) k p l)
        (room-v m g w (after k) k p l) (room_e m g w (after k) k p l) (room_f m g w (after k) k p l) outs edges faces v-most e-most f-most

    one-laid : catmull_face m.nv k (laid (after k) outs edges faces) ≡ laid (catmull_face m.nv k (after k)) outs edges faces
    one-laid = face-laid (after k) m.nv k (L m g w k) p.good (k-in m g w (after k) k p l) (len m g w (after k) k p l)
        (room-v m g w (after k) k p l) (room_e m g w (after k) k p l) (room_f m g w (after k) k p l) outs edges faces v-most e-most f-most

  faces-laid : (k : ℕ) → k ≤ m.nf → each k (catmull_face m.nv) (laid (split_edges m) outs edges faces) ≡ laid (after k) outs edges faces
  unfolding each
  faces-laid zero l = refl
  faces-laid (suc k) l = ap (catmull_face m.nv k) (faces-laid k (omega arith)) ∙ one-laid k l

  halves : Halfway m (split_edges m) m.ne
  halves = halved m g (let a = few_v in omega arith) few_e

  pub faces-ok : FacesOk m.nv (laid (split_edges m) outs edges faces)
  faces-ok =
      let h = halves in
      let a = h.nv_is in
      let b = h.ne_is in
      let c = h.nf_is in
      let d = few_v in
      let e = few_e in
      record {
        few_v = omega arith;
        few_e = omega arith;
        few_f = omega arith;
        each_ok = λ k l. subst⁻¹ (FaceOk m.nv k) (faces-laid k (omega arith)) (one_ok k (omega arith));
      }

  pub pass-laid : each m.nf (catmull_face m.nv) (laid (split_edges m) outs edges faces) ≡ laid (catmull_pass m) outs edges faces
  unfolding catmull_pass
  pass-laid = faces-laid m.nf (omega arith)

-- ---- what the code asks and leaves
module _ {c : Counts} {outs edges faces : List ℕ} (k : Ready c outs edges faces) where
  v-few : c.v + c.e ≤ 1048576
  unfolding catmull_tally tally_of
  v-few = let a = k.within.v_within in omega arith

  e-few : 2 * c.e ≤ 1048576
  unfolding catmull_tally tally_of
  e-few = let a = k.within.e_within in omega arith

  v-long : c.v + c.e ≤ length outs
  unfolding catmull_tally tally_of
  v-long = let a = k.room.for_v in omega arith

  e-long : 8 * (2 * c.e) ≤ length edges
  unfolding catmull_tally tally_of
  e-long = let a = k.room.for_e in omega arith

  pub ready-splits : SplitsOk outs edges c.v c.e
  ready-splits =
      subst⁻¹ (λ (o : List ℕ). SplitsOk o edges c.v c.e) k.outs_hold
      (subst⁻¹ (λ (d : List ℕ). SplitsOk (lay 0 (take c.v outs) outs) d c.v c.e) k.edges_hold
      (splits-ok (given c outs edges faces) k.good v-few e-few outs edges faces v-long e-long))

  module _ {o d : List ℕ} (p : o ≡ (split_edges (held c.v c.e 0 outs edges [])).outs) (q : d ≡ (split_edges (held c.v c.e 0 outs edges [])).edges) where
    halfway-is : held (c.v + c.e) (2 * c.e) c.f o d faces ≡ laid (split_edges (given c outs edges faces)) outs edges faces
    halfway-is =
        let both : held c.v c.e 0 outs edges [] ≡ held c.v c.e 0 (lay 0 (take c.v outs) outs) (lay 0 (take (8 * c.e) edges) edges) [] = held-is k.outs_hold k.edges_hold refl in
        ap (λ (l : List ℕ). held (c.v + c.e) (2 * c.e) c.f o d l) k.faces_hold
        ∙ splits-leave (given c outs edges faces) k.good v-few e-few outs edges faces v-long e-long
        (p ∙ ap (λ (l : Links). (split_edges l).outs) both) (q ∙ ap (λ (l : Links). (split_edges l).edges) both)

    pub ready-faces : FacesOk c.v (held (c.v + c.e) (2 * c.e) c.f o d faces)
    ready-faces = subst⁻¹ (FacesOk c.v) halfway-is (faces-ok (given c outs edges faces) k.good k.within outs edges faces k.room)

    pub ready-done : each c.f (catmull_face c.v) (held (c.v + c.e) (2 * c.e) c.f o d faces) ≡ laid (catmull_pass (given c outs edges faces)) outs edges faces
    ready-done = ap (each c.f (catmull_face c.v)) halfway-is ∙ pass-laid (given c outs edges faces) k.good k.within outs edges faces k.room
