-- One face of a Catmull-Clark pass: a face of 2 n halfedges becomes n faces of four around a new vertex. Assumes nothing.
use mathlib.Core.Path.{◌≡◌, sym, ap, ◌∙◌, subst, subst⁻¹}
use mathlib.Core.Logic.{◌⊎◌, inl, inr, ◌≢◌}
use mathlib.Core.List.{List}
use Prim.Native.Nat.{ℕ, suc, ◌+◌, ◌-◌, ◌*◌, ◌≤◌, ◌<◌}
use native.Mathlib.Omega.{arith}
use lib.ListN.{length}
use Rattle.scope.specs.Lists.{put}
use Rattle.scope.specs.Links.{Links, face, next, start, loop, ◌▸◌, out_is, more}
use Rattle.scope.specs.Edits.{Part, fan}
use Rattle.scope.specs.Passes.{pairs, catmull_face}
use Rattle.laws_mesh.specs.Reach.{iter}
use Rattle.laws_mesh.specs.Mesh.{Shape, Core}
use Rattle.laws_mesh.specs.Of.{mesh_on, mesh, Sized, Good}
use Rattle.laws_mesh.proofs.Count.{Length}
use Rattle.laws_mesh.proofs.Facts.{next-ne}
use Rattle.laws_mesh.proofs.Puts.{put-long-end}
use Rattle.laws_mesh.proofs.Shapes.{shape-mesh}
use Rattle.laws_mesh.proofs.Loops.{good-shape, steps, loop-length, loop-cycle}
use Rattle.laws_mesh.proofs.Ring.{after, before}
use Rattle.laws_mesh.proofs.Fan.{Fan, fan-consistent, fan-quad, fan-length}
use Rattle.laws_mesh.proofs.FanOn.{Given, Run, fan-on, fan-counts, fan-edges_long, fan-faces_long}
use Rattle.laws_mesh.proofs.LoopParts.{name-first, names-first, double, pairs-run, pairs-length, pairs-parts, four-cycle}
use Rattle.laws_mesh.proofs.SplitFaceLaws.{grown-plain}
use Rattle.laws_mesh.proofs.FromOld.{first-old, first-old-is, from_old_lem}

module _ (m : Links) (old f n : ℕ) (g : Good m) (f_in : f < m.nf) (len : Length (next m) (start m f) (2 * n))
    (room-v : m.nv + 1 ≤ 1048576) (room_e : m.ne + n ≤ 1048576) (room_f : m.nf + (n - 1) ≤ 1048576) where
  z : Sized m
  z = g.sized

  s : Shape (mesh m)
  s = good-shape m g

  c : Core (mesh m)
  c = g.consistent.core

  -- the first halfedge of the first part
  abbrev corner : ℕ
  corner = first-old old f m

  pub corner-is : (corner < 2 * m.ne) × (face m corner ≡ f) × Length (next m) corner (2 * n)
  corner-is = first-old-is m g old f (2 * n) f_in len

  some : 0 < n
  some = let a = len.long in omega arith

  unfoldable pub qs : List Part
  qs = pairs f m.nf (steps (next m) corner (2 * n))

  pub qs-long : length qs ≡ n
  unfolding qs
  qs-long = pairs-length (next m) corner f m.nf n

  pub qs-run : Run (double (next m) corner f m.nf) 0 qs
  unfolding qs name-first
  qs-run = subst (λ (k : ℕ). Run (double (next m) corner f m.nf) 0 (pairs f k (steps (next m) corner (2 * n)))) (let q : m.nf + 0 ≡ m.nf = omega arith in q)
      (pairs-run (next m) corner f m.nf 0 n)

  -- what the fan is given, and the parts as it has them
  pub given : Given (mesh m).is_h (mesh m).is_v (mesh m).is_f m f m.nv n (double (next m) corner f m.nf)
  unfolding s
  given = record {
    shape = s;
    con = g.consistent;
    parts = pairs-parts s g.consistent f corner (s.F-none f f_in) corner-is.0 corner-is.1 n corner-is.2;
    names = names-first f m.nf n f_in some;
    low-H = λ y i. i;
    low-F = λ y i. i;
    f_in = f_in;
    c-free = λ y i q. (let a = c.head_in y i in omega arith);
  }

  is : catmull_face old f m ≡ (m ▸ fan m.nv qs ▸ out_is m.nv (2 * (m.ne + 0) + 1) ▸ more 1 0 0)
  unfolding catmull_face qs
  is =
      ap (λ (hs : List ℕ). m ▸ fan m.nv (pairs f m.nf hs) ▸ out_is m.nv (2 * m.ne + 1) ▸ more 1 0 0) (from_old_lem m g old f (2 * n) f_in len)
      ∙ ap (λ (h : ℕ). m ▸ fan m.nv (pairs f m.nf (steps (next m) corner (2 * n))) ▸ out_is m.nv h ▸ more 1 0 0) (let q : 2 * m.ne + 1 ≡ 2 * (m.ne + 0) + 1 = omega arith in q)

  abbrev m' : Links
  m' = catmull_face old f m

  pub catmull-face-counts : ((catmull_face old f m).nv ≡ m.nv + 1) × ((catmull_face old f m).ne ≡ m.ne + n) × ((catmull_face old f m).nf ≡ m.nf + (n - 1))
  catmull-face-counts = let (p, q, r, o) = fan-counts given qs qs-long qs-run in subst⁻¹ (λ (l : Links). (l.nv ≡ m.nv + 1) × (l.ne ≡ m.ne + n) × (l.nf ≡ m.nf + (n - 1))) is
      ((let w : (fan m.nv qs m).nv + 1 ≡ m.nv + 1 = omega arith in w), (let w : (fan m.nv qs m).ne + 0 ≡ m.ne + n = omega arith in w), (let w : (fan m.nv qs m).nf + 0 ≡ m.nf + (n - 1) = omega arith in w))

  -- halfedges 2 i and 2 i + 1 from the first on get a face, and halfedge 2 (ne + i) is the spoke from their tail to the new vertex
  pub catmull-face_is : Fan (mesh m) (mesh (catmull_face old f m)) f m.nv (λ i. i < n) (λ i. iter (next m) (2 * i) (first-old old f m)) (λ i. iter (next m) (suc (2 * i)) (first-old old f m))
      (after n) (before n) (λ i. 2 * (m.ne + i)) (name-first f m.nf)
  catmull-face_is = let (p, q, r) = catmull-face-counts in
      subst⁻¹ (λ (l : Links). Fan (mesh m) (mesh_on (mesh m').is_h (mesh m').is_v (mesh m').is_f l) f m.nv (λ i. i < n) (λ i. iter (next m) (2 * i) corner) (λ i. iter (next m) (suc (2 * i)) corner)
      (after n) (before n) (λ i. 2 * (m.ne + i)) (name-first f m.nf)) is
      (fan-on given qs qs-long qs-run (grown-plain m m' n p q r) 0 some)

  sized : Sized (catmull_face old f m)
  sized =
      let (p, q, r) = catmull-face-counts in
      let (_, _, _, o) = fan-counts given qs qs-long qs-run in
      let a = fan-edges_long given qs qs-long qs-run z.edges_long z.faces_long in
      let b = fan-faces_long given qs qs-long qs-run z.edges_long z.faces_long in
      record {
        outs_long = ap (λ (l : Links). length l.outs) is ∙ ap (λ (l : List ℕ). length (put l m.nv (2 * (m.ne + 0) + 1))) o ∙ put-long-end m.outs _ z.outs_long ∙ sym p;
        edges_long = ap (λ (l : Links). length l.edges) is ∙ a ∙ ap (λ (k : ℕ). 8 * k) (sym q);
        faces_long = ap (λ (l : Links). length l.faces) is ∙ b ∙ sym r;
        few_v = omega arith;
        few_e = omega arith;
        few_f = omega arith;
      }

  s' : Shape (mesh (catmull_face old f m))
  s' = shape-mesh (catmull_face old f m) sized.few_e sized.few_f

  pub catmull-face-good : Good (catmull_face old f m)
  catmull-face-good = record { sized = sized; consistent = fan-consistent s s' g.consistent catmull-face_is }

  -- a face of another number is as long as before
  pub catmull-face-old : (h : ℕ) → h < m.nf → h ≢ f → length (loop (catmull_face old f m) (start (catmull_face old f m) h)) ≡ length (loop m (start m h))
  catmull-face-old h i ne =
      let d = catmull-face_is in
      let j = c.start_in h i in
      let k = length (loop m (start m h)) in
      ap (λ (y : ℕ). length (loop m' y)) (d.start-free h i ne)
      ∙ loop-length m' catmull-face-good (start m h) k (d.keep-H (start m h) j) (fan-length s s' g.consistent d (start m h) k j (λ e. ne (sym (c.start_bears h i) ∙ e)) (loop-cycle m g (start m h) j))

  -- f and the new faces are of four
  pub catmull-face-new : (h : ℕ) → h < (catmull_face old f m).nf → (h ≡ f) ⊎ (m.nf ≤ h) → length (loop (catmull_face old f m) (start (catmull_face old f m) h)) ≡ 4
  catmull-face-new h i k = go (catmull-face_is.F-is h i) k
    where
      go : ((j : ℕ) × (j < n) × (h ≡ name-first f m.nf j)) ⊎ ((h < m.nf) × (h ≢ f)) → (h ≡ f) ⊎ (m.nf ≤ h) → length (loop m' (start m' h)) ≡ 4
      go (inl (j, l, e)) k =
          let d = catmull-face_is in
          let a = iter (next m) (2 * j) corner in
          let start_is : start m' h ≡ a = ap (start m') e ∙ d.start-sub j l in
          let a_in = d.keep-H a (d.parts.a_in j l) in
          ap (λ (y : ℕ). length (loop m' y)) start_is
          ∙ loop-length m' catmull-face-good a 4 a_in
          (four-cycle s' catmull-face-good.consistent a a_in (λ q. s'.F-none h i (e ∙ sym (d.face-a j l) ∙ q)) (fan-quad s s' g.consistent d j l (λ q. next-ne s c a (d.parts.a_in j l) (sym q))))
      go (inr (a, b)) (inl q) = absurd (b q)
      go (inr (a, b)) (inr q) = absurd (omega arith)
