-- One part more of a face, and one face more. Assumes nothing.
use Prim.Native.Nat.{ℕ, suc, ◌+◌, ◌-◌, ◌*◌, ◌/◌, ◌%◌, ◌≤◌, ◌<◌}
use mathlib.Core.Path.{◌≡◌, refl, sym, ap, ◌∙◌, subst, subst⁻¹}
use mathlib.Core.List.{List, [], ◌∷◌}
use native.Mathlib.Omega.{arith}
use lib.ListN.{length, set}
use Rattle.scope.specs.Lists.{put, each}
use Rattle.scope.specs.Links.{Links, next, loop}
use Rattle.scope.specs.Edits.{Part, petal, petals, fan}
use Rattle.scope.specs.Passes.{pairs, from_old, catmull_face}
use Rattle.laws_mesh.proofs.Loops.{steps}
use Rattle.laws_mesh.proofs.LoopParts.{pairs-length}
use Rattle.laws_mesh.proofs.FromOld.{first-old}
use Rattle.mesh.specs.Words.{next_at, Has}
use Rattle.mesh.specs.Rounds.{loop_at}
use Rattle.mesh.proofs.SliceLaws.{set-put}
use Rattle.links_edits.specs.Petal.{PetalOk}
use Rattle.links_edits.specs.Held.{held}
use Rattle.links_edits.proofs.FoldLaws.{each-more}
use Rattle.links_edits.proofs.StoreLaws.{links-is}
use Rattle.links_edits.proofs.PetalLaws.{petal-held}
use Rattle.links_catmull.specs.Steps.{PartOk, FanOk, parts, FaceOk}

-- ---- the parts of a face

-- the next part
abbrev pub pair : (ℕ → ℕ) → ℕ → ℕ → Part
pair nx a g = record { a = a; b = nx a; g = g }

-- the parts from number i on, of n: the next is from a and gets face g, those after it get faces from k on
abbrev left : (ℕ → ℕ) → ℕ → ℕ → ℕ → ℕ → ℕ → List Part
left nx n i g k a = pairs g k (steps nx a (2 * (n - i)))

left-on : (nx : ℕ → ℕ) (n i g k a : ℕ) → i < n → left nx n i g k a ≡ pair nx a g ∷ left nx n (suc i) k (suc k) (nx (nx a))
unfolding pairs steps
left-on nx n i g k a l = ap (λ (j : ℕ). pairs g k (steps nx a j)) (let q : 2 * (n - i) ≡ suc (suc (2 * (n - suc i))) = omega arith in q)

left-off : (nx : ℕ → ℕ) (n i g k a : ℕ) → n ≤ i → left nx n i g k a ≡ []
unfolding pairs steps
left-off nx n i g k a l = ap (λ (j : ℕ). pairs g k (steps nx a j)) (let q : 2 * (n - i) ≡ 0 = omega arith in q)

-- these parts may be made in t, and make w
pub record Fanning (nx : ℕ → ℕ) (c e n i g k a : ℕ) (t w : Links) : Type 0 where
  pub ready : FanOk nx c e n i (pairs g k (steps nx a (2 * (n - i)))) t
  pub whole : petals c e n i (pairs g k (steps nx a (2 * (n - i)))) t ≡ w

module _ {nx : ℕ → ℕ} {c e n i g k a : ℕ} {t w : Links} (d : Fanning nx c e n i g k a t w) where
  pub fan-done : n ≤ i → t ≡ w
  unfolding petals
  fan-done l = subst (λ (qs : List Part). petals c e n i qs t ≡ w) (left-off nx n i g k a l) d.whole

  module _ (l : i < n) where
    ready : FanOk nx c e n i (pair nx a g ∷ left nx n (suc i) k (suc k) (nx (nx a))) t
    ready = subst (λ (qs : List Part). FanOk nx c e n i qs t) (left-on nx n i g k a l) d.ready

    whole : petals c e n i (pair nx a g ∷ left nx n (suc i) k (suc k) (nx (nx a))) t ≡ w
    whole = subst (λ (qs : List Part). petals c e n i qs t ≡ w) (left-on nx n i g k a l) d.whole

    pub fan-part : PartOk nx (2 * (e + i) + 1) (2 * (e + (suc i % n))) (pair nx a g) t
    fan-part = ready.0

    pub fan-on : Fanning nx c e n (suc i) k (suc k) (nx (nx a)) (petal c (2 * (e + i) + 1) (2 * (e + (suc i % n))) (pair nx a g) t) w
    unfolding petals
    fan-on = record { ready = ready.1; whole = whole }

-- the next part in slices, as the code reads it: b after h, u after b, r the number of the spoke that comes back
module _ {nx : ℕ → ℕ} {c e n i own k h : ℕ} {es fs : List ℕ} {w : Links} (d : Fanning nx c e n i own k h (held 0 0 0 [] es fs) w) (l : i < n) where
  pub part-first : Has es h
  part-first = (fan-part d l).ranges.first

  module _ {b : ℕ} (p : b ≡ next_at es h) where
    b-is : b ≡ nx h
    b-is = p ∙ (fan-part d l).on_a

    pub part-last : Has es b
    part-last = subst⁻¹ (Has es) b-is (fan-part d l).ranges.last

    module _ {r : ℕ} (q : r ≡ suc i % n) where
      pub part-ranges : PetalOk es fs (2 * (e + i) + 1) (2 * (e + r)) (record { a = h; b = b; g = own })
      part-ranges = rw (q, b-is) (fan-part d l).ranges

      pub part-next : (g : ℕ) {u : ℕ} {es' fs' : List ℕ} → k ≡ g + i → u ≡ next_at es b
          → es' ≡ (petal c (2 * (e + i) + 1) (2 * (e + r)) (record { a = h; b = b; g = own }) (held 0 0 0 [] es fs)).edges
          → fs' ≡ (petal c (2 * (e + i) + 1) (2 * (e + r)) (record { a = h; b = b; g = own }) (held 0 0 0 [] es fs)).faces
          → Fanning nx c e n (i + 1) (g + i) (g + (i + 1)) u (held 0 0 0 [] es' fs') w
      part-next g {u} {es'} {fs'} k-is x y z =
          let u-is : u ≡ nx (nx h) = x ∙ ap (next_at es) b-is ∙ (fan-part d l).on_b in
          let s-is : suc i ≡ i + 1 = omega arith in
          let t = petal c (2 * (e + i) + 1) (2 * (e + (suc i % n))) (pair nx h own) (held 0 0 0 [] es fs) in
          let k-on : suc k ≡ g + (i + 1) = omega arith in
          let one : Part = record { a = h; b = b; g = own } in
          let two : one ≡ pair nx h own = ap (λ (b : ℕ). (let t : Part = record { a = h; b = b; g = own } in t)) b-is in
          let t-is : petal c (2 * (e + i) + 1) (2 * (e + (suc i % n))) (pair nx h own) (held 0 0 0 [] es fs) ≡ held 0 0 0 [] es' fs' =
          ap (λ (t : Part). petal c (2 * (e + i) + 1) (2 * (e + (suc i % n))) t (held 0 0 0 [] es fs)) (sym two)
          ∙ ap (λ (r : ℕ). petal c (2 * (e + i) + 1) (2 * (e + r)) one (held 0 0 0 [] es fs)) (sym q)
          ∙ petal-held c (2 * (e + i) + 1) (2 * (e + r)) one es fs y z in
          subst (λ (t : Links). Fanning nx c e n (i + 1) (g + i) (g + (i + 1)) u t w) t-is
          (subst⁻¹ (λ (u : ℕ). Fanning nx c e n (i + 1) (g + i) (g + (i + 1)) u t w) u-is
          (subst (λ (j : ℕ). Fanning nx c e n (i + 1) j (g + (i + 1)) (nx (nx h)) t w) k-is
          (subst (λ (j : ℕ). Fanning nx c e n (i + 1) k j (nx (nx h)) t w) k-on
          (subst (λ (j : ℕ). Fanning nx c e n j k (suc k) (nx (nx h)) t w) s-is
          (fan-on d l)))))

-- petals change edges and faces, by edges and faces
pub petals-same : (c e n i : ℕ) (qs : List Part) (m t : Links) → m.edges ≡ t.edges → m.faces ≡ t.faces
    → ((petals c e n i qs m).edges ≡ (petals c e n i qs t).edges) × ((petals c e n i qs m).faces ≡ (petals c e n i qs t).faces)
unfolding petals petal
petals-same c e n i [] m t a b = (a, b)
petals-same c e n i (q ∷ qs) m t a b = petals-same c e n (suc i) qs _ _ (rw a) (rw b)

petals-rest : (c e n i : ℕ) (qs : List Part) (m : Links)
    → ((petals c e n i qs m).nv ≡ m.nv) × ((petals c e n i qs m).ne ≡ m.ne) × ((petals c e n i qs m).nf ≡ m.nf) × ((petals c e n i qs m).outs ≡ m.outs)
unfolding petals petal
petals-rest c e n i [] m = (refl, refl, refl, refl)
petals-rest c e n i (q ∷ qs) m = petals-rest c e n (suc i) qs _

-- ---- a face

-- its parts as the walk meets them
abbrev pub walked : ℕ → ℕ → Links → List Part
walked old f m = pairs f m.nf (steps (next m) (first-old old f m) (2 * parts old f m))

-- a face in slices, by its parts
pub record Face (old f : ℕ) (m : Links) : Type 0 where
  pub outs-is : (catmull_face old f m).outs ≡ put m.outs m.nv (2 * m.ne + 1)
  pub edges-is : (catmull_face old f m).edges ≡ (petals m.nv m.ne (parts old f m) 0 (walked old f m) (held 0 0 0 [] m.edges m.faces)).edges
  pub faces-is : (catmull_face old f m).faces ≡ (petals m.nv m.ne (parts old f m) 0 (walked old f m) (held 0 0 0 [] m.edges m.faces)).faces
  pub nv_is : (catmull_face old f m).nv ≡ m.nv + 1
  pub ne_is : (catmull_face old f m).ne ≡ m.ne + parts old f m
  pub nf_is : (catmull_face old f m).nf ≡ m.nf + (parts old f m - 1)

module _ (old f : ℕ) (m : Links) (even : from_old old f m ≡ steps (next m) (first-old old f m) (2 * parts old f m)) where
  n : ℕ
  n = parts old f m

  long : length (walked old f m) ≡ parts old f m
  long = pairs-length (next m) (first-old old f m) f m.nf (parts old f m)

  abbrev made : ℕ → Links
  made k = petals m.nv m.ne k 0 (walked old f m) m

  is : catmull_face old f m ≡ held ((made (parts old f m)).nv + 0 + 1) ((made (parts old f m)).ne + parts old f m + 0) ((made (parts old f m)).nf + (parts old f m - 1) + 0)
      (put (made (parts old f m)).outs m.nv (2 * m.ne + 1)) (made (parts old f m)).edges (made (parts old f m)).faces
  unfolding catmull_face fan
  is =
      ap (λ (hs : List ℕ). let qs = pairs f m.nf hs in
      held ((petals m.nv m.ne (length qs) 0 qs m).nv + 0 + 1) ((petals m.nv m.ne (length qs) 0 qs m).ne + length qs + 0) ((petals m.nv m.ne (length qs) 0 qs m).nf + (length qs - 1) + 0)
      (put (petals m.nv m.ne (length qs) 0 qs m).outs m.nv (2 * m.ne + 1)) (petals m.nv m.ne (length qs) 0 qs m).edges (petals m.nv m.ne (length qs) 0 qs m).faces) even
      ∙ ap (λ (k : ℕ). held ((made k).nv + 0 + 1) ((made k).ne + k + 0) ((made k).nf + (k - 1) + 0) (put (made k).outs m.nv (2 * m.ne + 1)) (made k).edges (made k).faces) long

  pub face-by : Face old f m
  face-by =
      let k = parts old f m in
      let qs = walked old f m in
      let (a, b, c, d) = petals-rest m.nv m.ne k 0 qs m in
      let (x, y) = petals-same m.nv m.ne k 0 qs m (held 0 0 0 [] m.edges m.faces) refl refl in
      record {
        outs-is = ap (λ (t : Links). t.outs) is ∙ ap (λ (l : List ℕ). put l m.nv (2 * m.ne + 1)) d;
        edges-is = ap (λ (t : Links). t.edges) is ∙ x;
        faces-is = ap (λ (t : Links). t.faces) is ∙ y;
        nv_is = (let u = ap (λ (t : Links). t.nv) is in omega arith);
        ne_is = (let u = ap (λ (t : Links). t.ne) is in omega arith);
        nf_is = (let u = ap (λ (t : Links). t.nf) is in omega arith);
      }

-- a face as the code does it: a is where it starts, k the number of its parts
pub first-bare : (old f : ℕ) (m : Links) → first-old old f (held 0 0 0 [] m.edges m.faces) ≡ first-old old f m
unfolding first-old
first-bare old f m = refl

pub loop-parts : (old f : ℕ) (m : Links) → length (loop_at m.edges m.ne (first-old old f m)) / 2 ≡ parts old f m
unfolding from_old loop first-old
loop-parts old f m = refl

module _ {old f : ℕ} {m : Links} (k : FaceOk old f m) where
  pub face-done : {a n : ℕ} → a ≡ first-old old f m → n ≡ parts old f m → {outs edges faces : List ℕ}
      → outs ≡ set m.outs m.nv (2 * m.ne + 1)
      → edges ≡ (petals m.nv m.ne n 0 (pairs f m.nf (steps (next_at m.edges) a (2 * n))) (held 0 0 0 [] m.edges m.faces)).edges
      → faces ≡ (petals m.nv m.ne n 0 (pairs f m.nf (steps (next_at m.edges) a (2 * n))) (held 0 0 0 [] m.edges m.faces)).faces
      → held (m.nv + 1) (m.ne + n) (m.nf + (n - 1)) outs edges faces ≡ catmull_face old f m
  face-done {a} {n} p q {outs} {edges} {faces} x y z =
      let r = face-by old f m k.even in
      let same : petals m.nv m.ne n 0 (pairs f m.nf (steps (next_at m.edges) a (2 * n))) (held 0 0 0 [] m.edges m.faces)
      ≡ petals m.nv m.ne (parts old f m) 0 (walked old f m) (held 0 0 0 [] m.edges m.faces) = rw (p, q) in
      links-is (held (m.nv + 1) (m.ne + n) (m.nf + (n - 1)) outs edges faces) (catmull_face old f m)
      (sym r.nv_is)
      (ap (λ (n : ℕ). m.ne + n) q ∙ sym r.ne_is)
      (ap (λ (n : ℕ). m.nf + (n - 1)) q ∙ sym r.nf_is)
      (x ∙ set-put m.outs m.nv (2 * m.ne + 1) k.vertex ∙ sym r.outs-is)
      (y ∙ ap (λ (t : Links). t.edges) same ∙ sym r.edges-is)
      (z ∙ ap (λ (t : Links). t.faces) same ∙ sym r.faces-is)

-- ---- the faces: t is m after its first f faces
module _ (old f : ℕ) (m : Links) {t : Links} (d : t ≡ each f (catmull_face old) m) where
  pub facing-ok : FaceOk old f (each f (catmull_face old) m) → FaceOk old f t
  facing-ok k = subst⁻¹ (FaceOk old f) d k

  pub facing-vertices : FaceOk old f t → (each (f + 1) (catmull_face old) m).nv ≡ t.nv + 1
  facing-vertices k = sym (ap (λ (t : Links). t.nv) (each-more f (catmull_face old) m d)) ∙ (face-by old f t k.even).nv_is
