-- One face opened as the code does it, one face more, and one swap more. Assumes nothing.
use Prim.Native.Nat.{ℕ, suc, ◌+◌, ◌-◌, ◌*◌, ◌≤◌, ◌<◌}
use mathlib.Core.Path.{◌≡◌, sym, ap, ◌∙◌, subst, subst⁻¹}
use mathlib.Core.Bool.{Bool}
use mathlib.Core.List.{List, [], ◌∷◌}
use Rattle.std.specs.Prelude.{Option, None, Some}
use native.Mathlib.Omega.{arith}
use lib.ListN.{length, set}
use Rattle.scope.specs.Lists.{put, each}
use Rattle.scope.specs.Links.{Links, next, prev, start, loop}
use Rattle.scope.specs.Edits.{petal, petals, singles, fan, split_face, split_edge, cut_off}
use Rattle.scope.specs.Passes.{rim_side, rim_face, centre_face, sqrt_face}
use Rattle.laws_mesh.proofs.InsertLaws.{face-nv, face-ne, face-nf}
use Rattle.mesh.specs.Rounds.{loop_at, side_at, first_of}
use Rattle.mesh.proofs.SliceLaws.{set-put}
use Rattle.mesh.proofs.RoundLaws.{rim-of}
use Rattle.mesh.proofs.PartnerLaws.{partner-lt}
use Rattle.links_edits.specs.Held.{held}
use Rattle.links_edits.specs.Petal.{PetalOk}
use Rattle.links_edits.proofs.FoldLaws.{each-more}
use Rattle.links_edits.proofs.StoreLaws.{links-is}
use Rattle.links_sqrt3.specs.Steps.{second, CentreOk, split_once, cut_before, cut_after, SplitHere, CutBeforeOk, CutAfterOk, RimOk, side_by, vertices_of, gained, OpenOk, FaceOk}

-- ---- a face around its centre

-- a part of one halfedge
pub single-ok : (es faces : List ℕ) (n o s a g : ℕ) → 8 * n ≤ length es → a < 2 * n → o < 2 * n → s < 2 * n → g < length faces → PetalOk es faces o s (record { a = a; b = a; g = g })
single-ok es faces n o s a g r i p q f =
    let t = partner-lt a n i in
    record { first = omega arith; tail = omega arith; last = omega arith; out = omega arith; home = omega arith; face = f }

-- the three petals
abbrev pub petal-1 : ℕ → ℕ → ℕ → ℕ → Links → Links
petal-1 c e g x t = petal c (2 * e + 1) (2 * e + 2) (record { a = x; b = x; g = g }) t

abbrev pub petal-2 : ℕ → ℕ → ℕ → ℕ → Links → Links
petal-2 c e g y t = petal c (2 * e + 3) (2 * e + 4) (record { a = y; b = y; g = g + 1 }) t

abbrev pub petal-3 : ℕ → ℕ → ℕ → ℕ → Links → Links
petal-3 c e f z t = petal c (2 * e + 5) (2 * e) (record { a = z; b = z; g = f }) t

pub fan-is : (c e g f x y z : ℕ) (t : Links) → petals c e 3 0 (singles f g (x ∷ y ∷ z ∷ [])) t ≡ petal-3 c e f z (petal-2 c e g y (petal-1 c e g x t))
unfolding petals singles
fan-is c e g f x y z t =
    let p₀ : 2 * (e + 0) ≡ 2 * e = omega arith in
    let p₁ : 2 * (e + 1) ≡ 2 * e + 2 = omega arith in
    let p₂ : 2 * (e + 2) ≡ 2 * e + 4 = omega arith in
    let q₁ : 2 * e + 2 + 1 ≡ 2 * e + 3 = omega arith in
    let q₂ : 2 * e + 4 + 1 ≡ 2 * e + 5 = omega arith in
    let s : suc g ≡ g + 1 = omega arith in
    rw (p₀, p₁, p₂, q₁, q₂, s)

-- the whole face, by its loop
unfoldable pub centre_by : ℕ → ℕ → ℕ → ℕ → Links → Links
centre_by f x y z m =
    let t = petals m.nv m.ne 3 0 (singles f m.nf (x ∷ y ∷ z ∷ [])) m in
    held (t.nv + 0 + 1) (t.ne + 3 + 0) (t.nf + 2 + 0) (put t.outs m.nv (2 * (m.ne + 3) - 1)) t.edges t.faces

pub centre-by : (f x y z : ℕ) (m : Links) → loop m (next m (start m f)) ≡ x ∷ y ∷ z ∷ [] → centre_face f m ≡ centre_by f x y z m
unfolding centre_face split_face fan singles centre_by
centre-by f x y z m e =
    ap (λ (hs : List ℕ). let qs = singles f m.nf hs in let t = petals m.nv m.ne (length qs) 0 qs m in
    held (t.nv + 0 + 1) (t.ne + length qs + 0) (t.nf + (length qs - 1) + 0) (put t.outs m.nv (2 * (m.ne + length hs) - 1)) t.edges t.faces) e

-- its parts change edges and faces, by edges and faces
pub record Centre (f : ℕ) (m : Links) (x y z : ℕ) : Type 0 where
  pub nv_is : (centre_face f m).nv ≡ m.nv + 1
  pub ne_is : (centre_face f m).ne ≡ m.ne + 3
  pub nf_is : (centre_face f m).nf ≡ m.nf + 2
  pub outs-is : (centre_face f m).outs ≡ put m.outs m.nv (2 * m.ne + 5)
  pub edges-is : (centre_face f m).edges ≡ (petals m.nv m.ne 3 0 (singles f m.nf (x ∷ y ∷ z ∷ [])) (held 0 0 0 [] m.edges m.faces)).edges
  pub faces-is : (centre_face f m).faces ≡ (petals m.nv m.ne 3 0 (singles f m.nf (x ∷ y ∷ z ∷ [])) (held 0 0 0 [] m.edges m.faces)).faces

pub centre-parts : (f x y z : ℕ) (m : Links) → loop m (next m (start m f)) ≡ x ∷ y ∷ z ∷ [] → Centre f m x y z
unfolding centre_by petals petal singles
centre-parts f x y z m e =
    let q = centre-by f x y z m e in
    record {
      nv_is = ap (λ (t : Links). t.nv) q ∙ (let w : m.nv + 0 + 1 ≡ m.nv + 1 = omega arith in w);
      ne_is = ap (λ (t : Links). t.ne) q ∙ (let w : m.ne + 3 + 0 ≡ m.ne + 3 = omega arith in w);
      nf_is = ap (λ (t : Links). t.nf) q ∙ (let w : m.nf + 2 + 0 ≡ m.nf + 2 = omega arith in w);
      outs-is = ap (λ (t : Links). t.outs) q ∙ ap (λ (h : ℕ). put m.outs m.nv h) (let w : 2 * (m.ne + 3) - 1 ≡ 2 * m.ne + 5 = omega arith in w);
      edges-is = ap (λ (t : Links). t.edges) q;
      faces-is = ap (λ (t : Links). t.faces) q;
    }

-- as the code reads it: z first, then x and y; t is m after the three parts
module _ {f : ℕ} {m : Links} (k : CentreOk f m) {x y z : ℕ} (p : z ≡ start m f) (q : x ≡ next m z) (r : y ≡ next m x) where
  x-is : x ≡ second m f
  x-is = q ∙ ap (next m) p

  y-is : y ≡ next m (second m f)
  y-is = r ∙ ap (next m) x-is

  loops : loop m (next m (start m f)) ≡ x ∷ y ∷ z ∷ []
  loops = rw (y-is, x-is, p) k.loop_is

  -- t is m after the three parts
  module _ {t : Links} (d : t ≡ petals m.nv m.ne 3 0 (singles f m.nf (x ∷ y ∷ z ∷ [])) m) where
    pub centre-kept : (t.nv ≡ m.nv) × (t.ne ≡ m.ne) × (t.nf ≡ m.nf) × (t.outs ≡ m.outs)
    unfolding petals petal singles
    centre-kept = (ap (λ (t : Links). t.nv) d, ap (λ (t : Links). t.ne) d, ap (λ (t : Links). t.nf) d, ap (λ (t : Links). t.outs) d)

    pub centre-done : held (t.nv + 1) (t.ne + 3) (t.nf + 2) (set t.outs t.nv (2 * t.ne + 5)) t.edges t.faces ≡ centre_face f m
    unfolding petals petal singles
    centre-done =
        let (a, b, c, o) = centre-kept in
        let q = centre-parts f x y z m loops in
        links-is (held (t.nv + 1) (t.ne + 3) (t.nf + 2) (set t.outs t.nv (2 * t.ne + 5)) t.edges t.faces) (centre_face f m)
        (ap (λ (n : ℕ). n + 1) a ∙ sym q.nv_is)
        (ap (λ (n : ℕ). n + 3) b ∙ sym q.ne_is)
        (ap (λ (n : ℕ). n + 2) c ∙ sym q.nf_is)
        (rw (a, b, o) (set-put m.outs m.nv (2 * m.ne + 5) k.vertex ∙ sym q.outs-is))
        (ap (λ (t : Links). t.edges) d ∙ sym q.edges-is)
        (ap (λ (t : Links). t.faces) d ∙ sym q.faces-is)

-- ---- a face with a rim edge

-- counts, whatever the face
pub rim-counts : (h : ℕ) (m : Links) → ((rim_face h m).nv ≡ m.nv + 2) × ((rim_face h m).ne ≡ m.ne + 4) × ((rim_face h m).nf ≡ m.nf + 2)
unfolding rim_face cut_off split_edge
rim-counts h m =
    let k = split_once h (split_once h m) in
    let j = cut_before (2 * m.ne) k in
    let a = face-nv k.nf (2 * m.ne) (prev k (2 * m.ne)) k in
    let b = face-ne k.nf (2 * m.ne) (prev k (2 * m.ne)) k in
    let c = face-nf k.nf (2 * m.ne) (prev k (2 * m.ne)) k in
    let a' = face-nv j.nf (next j h) h j in
    let b' = face-ne j.nf (next j h) h j in
    let c' = face-nf j.nf (next j h) h j in
    (omega arith, omega arith, omega arith)

-- as the code does it: each of the splits and cuts finds what it asks
module _ {h : ℕ} {m : Links} (k : RimOk h m) {m₁ : Links} (p₁ : m₁ ≡ split_once h m) where
  pub rim-split : SplitHere h m₁
  rim-split = subst⁻¹ (SplitHere h) p₁ k.split_2

  module _ {m₂ : Links} (p₂ : m₂ ≡ split_once h m₁) where
    two : m₂ ≡ split_once h (split_once h m)
    two = p₂ ∙ ap (split_once h) p₁

    pub cut-there : CutBeforeOk h (2 * m.ne) m₂
    cut-there = subst⁻¹ (CutBeforeOk h (2 * m.ne)) two k.cut_1

    module _ {m₃ : Links} (p₃ : m₃ ≡ cut_before (2 * m.ne) m₂) where
      three : m₃ ≡ cut_before (2 * m.ne) (split_once h (split_once h m))
      three = p₃ ∙ ap (cut_before (2 * m.ne)) two

      pub cut-here : CutAfterOk h m₃
      cut-here = subst⁻¹ (CutAfterOk h) three k.cut_2

      pub rim-done : cut_after h m₃ ≡ rim_face h m
      unfolding rim_face
      rim-done = ap (cut_after h) three

-- ---- a face

-- where it matters, the walk finds the side
pub side-there : (f : ℕ) (m : Links) → first_of (side_at m.edges) (loop_at m.edges m.ne (start m f)) ≡ rim_side f m
unfolding rim_side loop
side-there f m = sym (rim-of m (loop_at m.edges m.ne (start m f)))

module _ {flag : Bool} {f : ℕ} {m : Links} (k : FaceOk flag f m) where
  module _ {h : ℕ} (q : side_by flag f m ≡ Some h) where
    pub rim-opens : rim_face h m ≡ sqrt_face flag f m
    unfolding sqrt_face
    rim-opens = sym (ap (λ (o : Option ℕ). elim o [ None ↦ centre_face f m | Some h ↦ rim_face h m ]) q)

  module _ (q : side_by flag f m ≡ None) where
    pub centre-there : CentreOk f m
    centre-there = subst (λ (o : Option ℕ). OpenOk o f m) q k.open_ok

    pub centre-opens : centre_face f m ≡ sqrt_face flag f m
    unfolding sqrt_face
    centre-opens = sym (ap (λ (o : Option ℕ). elim o [ None ↦ centre_face f m | Some h ↦ rim_face h m ]) q)

pub gained-le : (flag : Bool) (f : ℕ) (m : Links) → gained flag f m ≤ 2
gained-le flag f m = go (side_by flag f m)
  where
    go : (o : Option ℕ) → vertices_of o ≤ 2
    go None = omega arith
    go (Some h) = omega arith

-- the face by its side
abbrev pub opened : ℕ → Option ℕ → Links → Links
opened f o m = elim o [ None ↦ centre_face f m | Some h ↦ rim_face h m ]

pub opened-counts : (f : ℕ) (o : Option ℕ) (m : Links) → OpenOk o f m
    → ((opened f o m).nv ≡ m.nv + vertices_of o) × ((opened f o m).ne ≡ m.ne + (vertices_of o + 2)) × ((opened f o m).nf ≡ m.nf + 2)
opened-counts f None m c = let q = centre-parts f (second m f) (next m (second m f)) (start m f) m c.loop_is in (q.nv_is, q.ne_is, q.nf_is)
opened-counts f (Some h) m c = rim-counts h m

pub face-counts : {flag : Bool} {f : ℕ} {m : Links} → FaceOk flag f m
    → ((sqrt_face flag f m).nv ≡ m.nv + gained flag f m) × ((sqrt_face flag f m).ne ≡ m.ne + (gained flag f m + 2)) × ((sqrt_face flag f m).nf ≡ m.nf + 2)
unfolding sqrt_face
face-counts {flag} {f} {m} k = opened-counts f (side_by flag f m) m k.open_ok

-- ---- the faces

-- t is m after its first f faces
module _ (flag : Bool) (f : ℕ) (m : Links) {t : Links} (d : t ≡ each f (sqrt_face flag) m) where
  pub facing-ok : FaceOk flag f (each f (sqrt_face flag) m) → FaceOk flag f t
  facing-ok k = subst⁻¹ (FaceOk flag f) d k

  -- as many vertices as after the next face
  pub facing-up : FaceOk flag f t → (each (f + 1) (sqrt_face flag) m).nv ≡ t.nv + gained flag f t
  facing-up k = let (a, b, c) = face-counts k in sym (ap (λ (t : Links). t.nv) (each-more f (sqrt_face flag) m d)) ∙ a
