-- Split face on links: it is `Fan` with parts of one halfedge, for a face of any length; sizes, and consistency, around an isolated vertex with marks, or around a new one with nothing marked. Assumes nothing.
use mathlib.Core.Path.{◌≡◌, sym, ap, ◌∙◌, subst, subst⁻¹}
use mathlib.Core.Logic.{inl, inr, ◌≢◌}
use mathlib.Core.List.{List}
use Prim.Native.Nat.{ℕ, ◌+◌, ◌-◌, ◌*◌, ◌/◌, ◌≤◌, ◌<◌}
use native.Mathlib.Omega.{arith}
use lib.ListN.{length}
use Rattle.scope.specs.Lists.{put}
use Rattle.scope.specs.Links.{Links, Marks, NONE, head, next, start, loop, ◌▸◌, out_is}
use Rattle.scope.specs.Edits.{Part, fan, singles, split_face}
use Rattle.scope.specs.Passes.{centre_face}
use Rattle.laws_mesh.specs.Reach.{here, step, iter}
use Rattle.laws_mesh.specs.Mesh.{Shape, Core, Consistent}
use Rattle.laws_mesh.specs.Of.{mesh_on, mesh, mesh_of, Sized, Marked, Good}
use Rattle.laws_mesh.proofs.Cycle.{split}
use Rattle.laws_mesh.proofs.Facts.{perm-next, none-ends}
use Rattle.laws_mesh.proofs.Count.{Length, length-of}
use Rattle.laws_mesh.proofs.Puts.{get_d_past, put-long, put-long-end}
use Rattle.laws_mesh.proofs.Shapes.{shape-mesh, size-mesh, shape_of, size_of}
use Rattle.laws_mesh.proofs.Loops.{steps, length-steps, length-around, round-cycle, length_most}
use Rattle.laws_mesh.proofs.Ring.{under, after, before}
use Rattle.laws_mesh.proofs.Fan.{Fan, fan-consistent}
use Rattle.laws_mesh.proofs.FanOn.{Given, Grown, Run, fan-on, fan-counts, fan-edges_long, fan-faces_long}
use Rattle.laws_mesh.proofs.LoopParts.{name-last, names-last, single, singles-run, singles-length, singles-parts}

-- the loop of h lists its cycle, whatever says which elements are there
pub loop-list : {H₁ V₁ F₁ : ℕ → Type 0} (m : Links) (s : Shape (mesh_on H₁ V₁ F₁ m)) → s.size ≡ 2 * m.ne → Core (mesh_on H₁ V₁ F₁ m) → (h k : ℕ) → H₁ h → Length (next m) h k
    → loop m h ≡ steps (next m) h k
unfolding loop
loop-list {H₁} {V₁} {F₁} m s z c h k i l = let q = length_most (mesh_on H₁ V₁ F₁ m) s c h k i l in round-cycle (next m) (2 * m.ne) h k l (omega arith)

-- and is as long
pub loop-long : {H₁ V₁ F₁ : ℕ → Type 0} (m : Links) (s : Shape (mesh_on H₁ V₁ F₁ m)) → s.size ≡ 2 * m.ne → Core (mesh_on H₁ V₁ F₁ m) → (h : ℕ) → H₁ h → Length (next m) h (length (loop m h))
loop-long m s z c h i =
    let (k, _, l) = length-of (perm-next s c) i in
    subst⁻¹ (Length (next m) h) (ap length (loop-list m s z c h k i l) ∙ length-steps (next m) h k) l

-- face f is of n halfedges, and nothing ends at v
pub record Whole (H₁ V₁ F₁ : ℕ → Type 0) (m : Links) (f v n : ℕ) : Type 0 where
  pub shape : Shape (mesh_on H₁ V₁ F₁ m)
  pub size_is : shape.size ≡ 2 * m.ne
  pub con : Consistent (mesh_on H₁ V₁ F₁ m)
  pub low-F : (x : ℕ) → F₁ x → x < m.nf
  pub f_in : F₁ f
  pub v-free : (x : ℕ) → H₁ x → head m x ≢ v
  pub length-is : Length (next m) (start m f) n

module _ {H₁ V₁ F₁ : ℕ → Type 0} {m : Links} {f v n : ℕ} (w : Whole H₁ V₁ F₁ m f v n) where
  -- the parts begin after the face's halfedge
  x : ℕ
  x = next m (start m f)

  s-in : H₁ (start m f)
  s-in = w.con.core.start_in f w.f_in

  x_in : H₁ x
  unfolding x
  x_in = w.con.core.next_in (start m f) s-in

  x-long : Length (next m) x n
  unfolding x
  x-long = length-around (perm-next w.shape w.con.core) s-in w.length-is (step here)

  qs : List Part
  qs = singles f m.nf (steps (next m) x n)

  qs-long : length qs ≡ n
  unfolding qs
  qs-long = singles-length (next m) x f m.nf n

  qs-run : Run (single (next m) x f m.nf n) 0 qs
  unfolding qs
  qs-run = subst (λ (z : ℕ). Run (single (next m) x f m.nf n) 0 (singles f z (steps (next m) x n))) (let q : m.nf + 0 ≡ m.nf = omega arith in q)
      (singles-run (next m) x f m.nf n 0 n (let q : 0 + n ≡ n = omega arith in q))

  given : Given H₁ V₁ F₁ m f v n (single (next m) x f m.nf n)
  unfolding x
  given = record {
    shape = w.shape;
    con = w.con;
    parts = singles-parts w.shape w.con f x (w.shape.F-none f w.f_in) x_in (w.con.core.next_face (start m f) s-in ∙ w.con.core.start_bears f w.f_in) n x-long;
    names = names-last f m.nf n (w.low-F f w.f_in) w.length-is.long;
    low-H = λ y i. (let a = w.shape.below y i in let b = w.size_is in omega arith);
    low-F = w.low-F;
    f_in = w.f_in;
    c-free = w.v-free;
  }

  is : split_face f v m ≡ out_is v (2 * (m.ne + (n - 1)) + 1) (fan v qs m)
  unfolding split_face qs x
  is =
      ap (λ (hs : List ℕ). m ▸ fan v (singles f m.nf hs) ▸ out_is v (2 * (m.ne + length hs) - 1)) (loop-list m w.shape w.size_is w.con.core x n x_in x-long)
      ∙ ap (λ (h : ℕ). out_is v h (fan v (singles f m.nf (steps (next m) x n)) m))
      (let a = length-steps (next m) x n in let b = w.length-is.long in let q : 2 * (m.ne + length (steps (next m) x n)) - 1 ≡ 2 * (m.ne + (n - 1)) + 1 = omega arith in q)

  pub split_face-counts : ((split_face f v m).nv ≡ m.nv) × ((split_face f v m).ne ≡ m.ne + n) × ((split_face f v m).nf ≡ m.nf + (n - 1))
  split_face-counts = let (a, b, c, d) = fan-counts given qs qs-long qs-run in subst⁻¹ (λ (l : Links). (l.nv ≡ m.nv) × (l.ne ≡ m.ne + n) × (l.nf ≡ m.nf + (n - 1))) is (a, b, c)

  pub split_face-outs : (split_face f v m).outs ≡ put m.outs v (2 * (m.ne + (n - 1)) + 1)
  split_face-outs = let (a, b, c, d) = fan-counts given qs qs-long qs-run in subst⁻¹ (λ (l : Links). l.outs ≡ put m.outs v (2 * (m.ne + (n - 1)) + 1)) is
      (ap (λ (l : List ℕ). put l v (2 * (m.ne + (n - 1)) + 1)) d)

  pub split_face-long : length m.edges ≡ 8 * m.ne → length m.faces ≡ m.nf → (length (split_face f v m).edges ≡ 8 * (m.ne + n)) × (length (split_face f v m).faces ≡ m.nf + (n - 1))
  split_face-long a b = subst⁻¹ (λ (l : Links). (length l.edges ≡ 8 * (m.ne + n)) × (length l.faces ≡ m.nf + (n - 1))) is
      (fan-edges_long given qs qs-long qs-run a b, fan-faces_long given qs qs-long qs-run a b)

  -- halfedge i after the face's gets a spoke from its tail to v, halfedge 2 (ne + i); the last keeps f
  pub split_face-on : {H₂ V₂ F₂ : ℕ → Type 0} → Grown H₁ V₁ F₁ H₂ V₂ F₂ m v n
      → Fan (mesh_on H₁ V₁ F₁ m) (mesh_on H₂ V₂ F₂ (split_face f v m)) f v (λ i. i < n) (λ i. iter (next m) i (next m (start m f))) (λ i. iter (next m) i (next m (start m f)))
      (after n) (before n) (λ i. 2 * (m.ne + i)) (name-last f m.nf n)
  unfolding x
  split_face-on {H₂} {V₂} {F₂} b = subst⁻¹ (λ (l : Links). Fan (mesh_on H₁ V₁ F₁ m) (mesh_on H₂ V₂ F₂ l) f v (λ i. i < n) (λ i. iter (next m) i (next m (start m f))) (λ i. iter (next m) i (next m (start m f)))
      (after n) (before n) (λ i. 2 * (m.ne + i)) (name-last f m.nf n)) is (fan-on given qs qs-long qs-run b (n - 1) (let a = w.length-is.long in omega arith))

-- ---- with marks: they stay, and past their end nothing is marked
pub grown-marked : (m l : Links) (k : Marks) (c n : ℕ) → Marked m k → (mesh_of m k).is_v c → l.nv ≡ m.nv → l.ne ≡ m.ne + n → l.nf ≡ m.nf + (n - 1)
    → Grown (mesh_of m k).is_h (mesh_of m k).is_v (mesh_of m k).is_f (mesh_of l k).is_h (mesh_of l k).is_v (mesh_of l k).is_f m c n
grown-marked m l k c n z (ci, cm) nv ne nf = record {
  keep-H = λ x (i, q). (omega arith, q);
  new-H = λ x u v. (omega arith, get_d_past k.es (x / 2) (let a = z.es_long in omega arith));
  H-is = λ x (i, q). under x (2 * m.ne) (λ u. inl (u, q)) (λ u. inr (u, omega arith));
  keep-V = λ x (i, q). (omega arith, q);
  c-in = (omega arith, cm);
  V-is = λ x (i, q). inl (omega arith, q);
  keep-F = λ x (i, q). (omega arith, q);
  new-F = λ x u v. (omega arith, get_d_past k.fs x (let a = z.fs_long in omega arith));
  F-is = λ x (i, q). under x m.nf (λ u. inl (u, q)) (λ u. inr (u, omega arith));
}

module _ (m : Links) (k : Marks) (f v n : ℕ) (z : Sized m) (l : Marked m k) (c : Consistent (mesh_of m k)) (fi : (mesh_of m k).is_f f) (vi : (mesh_of m k).is_v v) (free : (mesh_of m k).out v ≡ NONE)
    (len : Length (next m) (start m f) n) (room_e : m.ne + n ≤ 1048576) (room_f : m.nf + (n - 1) ≤ 1048576) where
  whole : Whole (mesh_of m k).is_h (mesh_of m k).is_v (mesh_of m k).is_f m f v n
  whole = record {
    shape = shape_of m k z.few_e z.few_f;
    size_is = size_of m k z.few_e z.few_f;
    con = c;
    low-F = λ x i. i.0;
    f_in = fi;
    v-free = none-ends (shape_of m k z.few_e z.few_f) c.core v vi free;
    length-is = len;
  }

  pub split_face-marked-counts : ((split_face f v m).nv ≡ m.nv) × ((split_face f v m).ne ≡ m.ne + n) × ((split_face f v m).nf ≡ m.nf + (n - 1))
  split_face-marked-counts = split_face-counts whole

  pub split_face-marked-sized : Sized (split_face f v m)
  split_face-marked-sized =
      let (a, b, d) = split_face-counts whole in
      let (e, g) = split_face-long whole z.edges_long z.faces_long in
      record {
        outs_long = ap length (split_face-outs whole) ∙ put-long m.outs v _ z.outs_long vi.0 ∙ sym a;
        edges_long = e ∙ ap (λ (x : ℕ). 8 * x) (sym b);
        faces_long = g ∙ sym d;
        few_v = (let q = z.few_v in omega arith);
        few_e = omega arith;
        few_f = omega arith;
      }

  pub split_face-marked : Fan (mesh_of m k) (mesh_of (split_face f v m) k) f v (λ i. i < n) (λ i. iter (next m) i (next m (start m f))) (λ i. iter (next m) i (next m (start m f)))
      (after n) (before n) (λ i. 2 * (m.ne + i)) (name-last f m.nf n)
  split_face-marked = let (a, b, d) = split_face-counts whole in split_face-on whole (grown-marked m (split_face f v m) k v n l vi a b d)

  pub split_face-marked-consistent : Consistent (mesh_of (split_face f v m) k)
  split_face-marked-consistent =
      let z' = split_face-marked-sized in
      fan-consistent (shape_of m k z.few_e z.few_f) (shape_of (split_face f v m) k z'.few_e z'.few_f) c split_face-marked

-- ---- around a new vertex, with nothing marked
pub grown-plain : (m l : Links) (n : ℕ) → l.nv ≡ m.nv + 1 → l.ne ≡ m.ne + n → l.nf ≡ m.nf + (n - 1)
    → Grown (mesh m).is_h (mesh m).is_v (mesh m).is_f (mesh l).is_h (mesh l).is_v (mesh l).is_f m m.nv n
grown-plain m l n nv ne nf = record {
  keep-H = λ x i. (omega arith);
  new-H = λ x u v. (omega arith);
  H-is = λ x i. under x (2 * m.ne) (λ u. inl u) (λ u. inr (u, omega arith));
  keep-V = λ x i. (omega arith);
  c-in = omega arith;
  V-is = λ x i. split x m.nv (λ q. inr q) (λ q. inl (omega arith));
  keep-F = λ x i. (omega arith);
  new-F = λ x u v. (omega arith);
  F-is = λ x i. under x m.nf (λ u. inl u) (λ u. inr (u, omega arith));
}

module _ (m : Links) (f n : ℕ) (g : Good m) (fi : f < m.nf) (len : Length (next m) (start m f) n)
    (room-v : m.nv + 1 ≤ 1048576) (room_e : m.ne + n ≤ 1048576) (room_f : m.nf + (n - 1) ≤ 1048576) where
  z : Sized m
  z = g.sized

  around : Whole (mesh m).is_h (mesh m).is_v (mesh m).is_f m f m.nv n
  around = record {
    shape = shape-mesh m z.few_e z.few_f;
    size_is = size-mesh m z.few_e z.few_f;
    con = g.consistent;
    low-F = λ x i. i;
    f_in = fi;
    v-free = λ x i q. (let a = g.consistent.core.head_in x i in omega arith);
    length-is = len;
  }

  pub centre-counts : ((centre_face f m).nv ≡ m.nv + 1) × ((centre_face f m).ne ≡ m.ne + n) × ((centre_face f m).nf ≡ m.nf + (n - 1))
  unfolding centre_face
  centre-counts = let (a, b, d) = split_face-counts around in (omega arith, omega arith, omega arith)

  sized' : Sized (centre_face f m)
  unfolding centre_face
  sized' =
      let (a, b, d) = split_face-counts around in
      let (p, q) = split_face-long around z.edges_long z.faces_long in
      record {
        outs_long = ap length (split_face-outs around) ∙ put-long-end m.outs _ z.outs_long ∙ (let r : m.nv + 1 ≡ (split_face f m.nv m).nv + 1 = omega arith in r);
        edges_long = omega arith;
        faces_long = omega arith;
        few_v = omega arith;
        few_e = omega arith;
        few_f = omega arith;
      }

  -- halfedge i after the face's gets a spoke from its tail to the new vertex, halfedge 2 (ne + i); the last keeps f
  pub centre-is : Fan (mesh m) (mesh (centre_face f m)) f m.nv (λ i. i < n) (λ i. iter (next m) i (next m (start m f))) (λ i. iter (next m) i (next m (start m f)))
      (after n) (before n) (λ i. 2 * (m.ne + i)) (name-last f m.nf n)
  unfolding centre_face
  centre-is = let (a, b, d) = centre-counts in split_face-on around (grown-plain m (centre_face f m) n a b d)

  pub centre-good : Good (centre_face f m)
  centre-good = record {
    sized = sized';
    consistent = fan-consistent (shape-mesh m z.few_e z.few_f) (shape-mesh (centre_face f m) sized'.few_e sized'.few_f) g.consistent centre-is;
  }
