-- One face of a sqrt3 pass in slices that hold a good mesh of triangles: its steps have what they ask, and leave the mesh after that face. Assumes nothing.
use Prim.Native.Nat.{ℕ, ◌+◌, ◌-◌, ◌*◌, ◌≤◌, ◌<◌}
use mathlib.Core.Path.{◌≡◌, refl, sym, ap, ◌∙◌, subst⁻¹}
use mathlib.Core.Logic.{◌≢◌}
use mathlib.Core.Bool.{Bool, true, false}
use mathlib.Core.List.{List, [], ◌∷◌}
use Rattle.std.specs.Prelude.{Option, None, Some}
use native.Mathlib.Omega.{arith}
use lib.ListN.{length, get_or}
use Rattle.scope.specs.Lists.{put, lay}
use Rattle.scope.specs.Links.{Links, NONE, partner, face, next, prev, start, loop, more}
use Rattle.scope.specs.Edits.{petal, petals, singles, cut_off}
use Rattle.scope.specs.Passes.{rim_of, rim_side, rim_face, centre_face, sqrt_face}
use Rattle.laws_mesh.specs.Of.{mesh, Good}
use Rattle.laws_mesh.specs.Mesh.{Shape, Core}
use Rattle.laws_mesh.proofs.Facts.{next-ne}
use Rattle.laws_mesh.proofs.Loops.{good-shape}
use Rattle.laws_mesh.proofs.SplitLaws.{Near, near, split-new}
use Rattle.laws_triangulate.proofs.Triangular.{Triangular}
use Rattle.laws_sqrt3.proofs.Rims.{RimAt, side-cases}
use Rattle.laws_sqrt3.proofs.RimOn.{rim-good₁, rim-counts₁, rim-in₁, rim-good₂, rim-counts₂, rim-second, rim-over₂, rim-good₃, rim-counts₃, rim-over₃}
use Rattle.mesh.specs.Words.{next_at}
use Rattle.mesh.specs.Rounds.{Walk}
use Rattle.mesh.proofs.SliceLaws.{get_or-lay, length-lay}
use Rattle.mesh.proofs.PartnerLaws.{partner-lt}
use Rattle.mesh.proofs.RoundLaws.{walk-next}
use Rattle.links_edits.specs.Held.{held, laid}
use Rattle.links_edits.proofs.StoreLaws.{held-is, put-lay}
use Rattle.links_edits.proofs.PetalLaws.{petal-laid}
use Rattle.links_edits.proofs.SplitLaws.{SplitRoom, split-laid, split-laid-ok}
use Rattle.links_edits.proofs.RingLaws.{Ring, ring-loop, ring_laid}
use Rattle.links_edits.proofs.CutLaws as cuts
use Rattle.links_edits.proofs.CutLaws.{cut-laid, cut-laid-ok}
use Rattle.links_edits.proofs.AcrossLaws.{three-near, four-near}
use Rattle.links_sqrt3.specs.Steps.{CentreOk, split_once, cut_before, cut_after, SplitHere, CutBeforeOk, CutAfterOk, RimOk, side_by, OpenOk, FaceOk}
use Rattle.links_sqrt3.proofs.StepLaws.{petal-1, petal-2, petal-3, fan-is, centre_by, centre-by, centre-parts, rim-counts, opened}

-- ---- around a centre
module _ (m : Links) (f x y z : ℕ) (outs edges faces : List ℕ) (x_in : x < 2 * m.ne) (y_in : y < 2 * m.ne) (z_in : z < 2 * m.ne) (f_in : f < m.nf)
    (long-v : m.nv + 1 ≤ length outs) (long_e : 8 * (m.ne + 3) ≤ length edges) (long_f : m.nf + 2 ≤ length faces) where
  one-laid : (t : Links) (o s a g : ℕ) → a < 2 * m.ne → o < 2 * (m.ne + 3) → s < 2 * (m.ne + 3) → g < m.nf + 2
      → petal m.nv o s (record { a = a; b = a; g = g }) (laid t outs edges faces) ≡ laid (petal m.nv o s (record { a = a; b = a; g = g }) t) outs edges faces
  one-laid t o s a g i p q r =
      let u = partner-lt a m.ne i in
      petal-laid t outs edges faces m.nv o s (record { a = a; b = a; g = g }) (2 * (m.ne + 3)) (m.nf + 2)
      (record { first = omega arith; tail = omega arith; last = omega arith; out = p; home = q; face = r }) (omega arith) long_f

  fan-laid : petals m.nv m.ne 3 0 (singles f m.nf (x ∷ y ∷ z ∷ [])) (laid m outs edges faces) ≡ laid (petals m.nv m.ne 3 0 (singles f m.nf (x ∷ y ∷ z ∷ [])) m) outs edges faces
  fan-laid =
      let c = m.nv in
      let e = m.ne in
      let g = m.nf in
      fan-is c e g f x y z (laid m outs edges faces)
      ∙ ap (λ (t : Links). petal-3 c e f z (petal-2 c e g y t)) (one-laid m (2 * e + 1) (2 * e + 2) x g x_in (omega arith) (omega arith) (omega arith))
      ∙ ap (petal-3 c e f z) (one-laid (petal-1 c e g x m) (2 * e + 3) (2 * e + 4) y (g + 1) y_in (omega arith) (omega arith) (omega arith))
      ∙ one-laid (petal-2 c e g y (petal-1 c e g x m)) (2 * e + 5) (2 * e) z f z_in (omega arith) (omega arith) (omega arith)
      ∙ ap (λ (t : Links). laid t outs edges faces) (sym (fan-is c e g f x y z m))

  by-laid : centre_by f x y z (laid m outs edges faces) ≡ laid (centre_by f x y z m) outs edges faces
  unfolding centre_by
  by-laid =
      ap (λ (t : Links). held (t.nv + 0 + 1) (t.ne + 3 + 0) (t.nf + 2 + 0) (put t.outs m.nv (2 * (m.ne + 3) - 1)) t.edges t.faces) fan-laid
      ∙ held-is (put-lay (petals m.nv m.ne 3 0 (singles f m.nf (x ∷ y ∷ z ∷ [])) m).outs outs m.nv (2 * (m.ne + 3) - 1) (omega arith)) refl refl

-- ---- a triangle of a good mesh
module _ (m : Links) (g : Good m) (tri : Triangular (mesh m)) (f : ℕ) (i : f < m.nf) where
  S : Shape (mesh m)
  S = good-shape m g

  C : Core (mesh m)
  C = g.consistent.core

  abbrev z : ℕ
  z = start m f

  abbrev x : ℕ
  x = next m (start m f)

  abbrev y : ℕ
  y = next m (next m (start m f))

  zi : start m f < 2 * m.ne
  zi = C.start_in f i

  xi : next m (start m f) < 2 * m.ne
  xi = C.next_in z zi

  yi : next m (next m (start m f)) < 2 * m.ne
  yi = C.next_in x xi

  zn : face m (start m f) ≢ NONE
  zn q = S.F-none f i (sym (C.start_bears f i) ∙ q)

  closes : next m (next m (next m (start m f))) ≡ start m f
  closes = tri.closes z zi zn

  x≢z : x ≢ z
  x≢z = next-ne S C z zi

  y≢x : y ≢ x
  y≢x = next-ne S C x xi

  y≢z : y ≢ z
  y≢z = g.consistent.three.three_long z zi zn

  three : 3 ≤ 2 * m.ne
  three = let a = zi in let b = xi in let c = yi in let p = x≢z in let q = y≢x in let r = y≢z in omega arith

  from_second : Ring (next m) x x (y ∷ z ∷ [])
  from_second = (refl, (y≢x, (closes, ((λ e. x≢z (sym e)), refl))))

  from_start : Ring (next m) z z (x ∷ y ∷ [])
  from_start = (refl, (x≢z, (refl, (y≢z, closes))))

  loop-second : loop m (next m (start m f)) ≡ x ∷ y ∷ z ∷ []
  loop-second = ring-loop m x (y ∷ z ∷ []) (let t = three in omega arith) from_second

  loop-start : loop m (start m f) ≡ z ∷ x ∷ y ∷ []
  loop-start = ring-loop m z (x ∷ y ∷ []) (let t = three in omega arith) from_start

  module _ (outs edges faces : List ℕ) (long_e : 8 * m.ne ≤ length edges) (long_f : m.nf ≤ length faces) where
    load : (j : ℕ) → j < 8 * m.ne → get_or (lay 0 m.edges edges) j 0 ≡ get_or m.edges j 0
    load j l = get_or-lay 0 m.edges edges j (omega arith)

    next-laid : (t : ℕ) → t < 2 * m.ne → next (laid m outs edges faces) t ≡ next m t
    next-laid t l = load (4 * t + 2) (omega arith)

    start-laid : start (laid m outs edges faces) f ≡ start m f
    start-laid = get_or-lay 0 m.faces faces f (omega arith)

    second-laid : loop (laid m outs edges faces) (next (laid m outs edges faces) (start (laid m outs edges faces) f)) ≡ x ∷ y ∷ z ∷ []
    second-laid =
        ap (λ (s : ℕ). loop (laid m outs edges faces) (next (laid m outs edges faces) s)) start-laid
        ∙ ap (loop (laid m outs edges faces)) (next-laid z zi)
        ∙ ring_laid m x (y ∷ z ∷ []) (let t = three in omega arith) from_second outs edges faces long_e xi (yi, (zi, tt))

    side-is : rim_side f (laid m outs edges faces) ≡ rim_side f m
    unfolding rim_side rim_of
    side-is =
        let p = partner-lt z m.ne zi in
        let q = partner-lt x m.ne xi in
        let r = partner-lt y m.ne yi in
        let e : rim_of (laid m outs edges faces) (z ∷ x ∷ y ∷ []) ≡ rim_of m (z ∷ x ∷ y ∷ []) =
        rw (load (4 * partner z) (omega arith), load (4 * partner x) (omega arith), load (4 * partner y) (omega arith)) in
        ap (λ (s : ℕ). rim_of (laid m outs edges faces) (loop (laid m outs edges faces) s)) start-laid
        ∙ ap (rim_of (laid m outs edges faces)) (ring_laid m z (x ∷ y ∷ []) (let t = three in omega arith) from_start outs edges faces long_e zi (xi, (yi, tt)))
        ∙ e
        ∙ ap (rim_of m) (sym loop-start)

    side-laid : (flag : Bool) → side_by flag f (laid m outs edges faces) ≡ side_by flag f m
    side-laid true = side-is
    side-laid false = refl

    walks : Walk next_at (lay 0 m.edges edges) m.ne (start (laid m outs edges faces) f)
    walks = subst⁻¹ (Walk next_at (lay 0 m.edges edges) m.ne) start-laid
        (walk-next (let q = length-lay 0 m.edges edges in omega arith) (λ t l. subst⁻¹ (λ (u : ℕ). u < 2 * m.ne) (next-laid t l) (C.next_in t l)) (start m f) zi)

  -- around its centre
  module _ (outs edges faces : List ℕ) (few_e : m.ne ≤ 1048576) (few_f : m.nf ≤ 1048576) (long-v : m.nv + 1 ≤ length outs) (long_e : 8 * (m.ne + 3) ≤ length edges) (long_f : m.nf + 2 ≤ length faces) where
    pub centre-laid : centre_face f (laid m outs edges faces) ≡ laid (centre_face f m) outs edges faces
    centre-laid =
        centre-by f x y z (laid m outs edges faces) (second-laid outs edges faces (omega arith) (omega arith))
        ∙ by-laid m f x y z outs edges faces xi yi zi i long-v long_e long_f
        ∙ ap (λ (t : Links). laid t outs edges faces) (sym (centre-by f x y z m loop-second))

    pub centre-laid-ok : CentreOk f (laid m outs edges faces)
    centre-laid-ok =
        let p = length-lay 0 m.outs outs in
        let q = length-lay 0 m.edges edges in
        let r = length-lay 0 m.faces faces in
        let e : 8 * m.ne ≤ length edges = omega arith in
        let n : m.nf ≤ length faces = omega arith in
        let a = start-laid outs edges faces e n in
        let b = next-laid outs edges faces e n z zi in
        let c = next-laid outs edges faces e n x xi in
        record {
          three = rw (a, b, c) (record { few_e = few_e; few_f = few_f; room_e = omega arith; room_f = omega arith; f_in = omega arith; x_in = xi; y_in = yi; z_in = zi });
          loop_is = second-laid outs edges faces e n ∙ rw (a, b, c);
          vertex = omega arith;
        }

-- ---- a triangle with a rim edge
module _ (m : Links) (g : Good m) (tri : Triangular (mesh m)) (f : ℕ) (i : f < m.nf) (h : ℕ) (w : RimAt m f h) (v-lt : m.nv + 2 ≤ 1048576) (e-lt : m.ne + 4 ≤ 1048576) (f_lt : m.nf + 2 ≤ 1048576) where
  abbrev m₁ : Links
  m₁ = split_once h m

  abbrev m₂ : Links
  m₂ = split_once h (split_once h m)

  abbrev m₃ : Links
  m₃ = cut_before (2 * m.ne) (split_once h (split_once h m))

  good₁ : Good (split_once h m)
  unfolding split-new
  good₁ = rim-good₁ m g f h tri w.t-in i w.bears w.across v-lt e-lt f_lt

  count₁ : (m₁.nv ≡ m.nv + 1) × (m₁.ne ≡ m.ne + 1) × (m₁.nf ≡ m.nf)
  unfolding split-new
  count₁ = rim-counts₁ m g f h tri w.t-in i w.bears w.across v-lt e-lt f_lt

  in₁ : h < 2 * m₁.ne
  unfolding split-new
  in₁ = rim-in₁ m g f h tri w.t-in i w.bears w.across v-lt e-lt f_lt

  good₂ : Good (split_once h (split_once h m))
  unfolding split-new
  good₂ = rim-good₂ m g f h tri w.t-in i w.bears w.across v-lt e-lt f_lt

  count₂ : (m₂.nv ≡ m.nv + 2) × (m₂.ne ≡ m.ne + 2) × (m₂.nf ≡ m.nf)
  unfolding split-new
  count₂ = rim-counts₂ m g f h tri w.t-in i w.bears w.across v-lt e-lt f_lt

  near-1 : cuts.Near m₂ (2 * m.ne) (prev m₂ (2 * m.ne)) (next m₂ (2 * m.ne) ∷ h ∷ prev m₂ (prev m₂ (2 * m.ne)) ∷ [])
  unfolding split-new
  near-1 = let (a, b, c) = count₂ in
      four-near m₂ good₂ (2 * m.ne) (prev m₂ (2 * m.ne)) (rim-over₂ m g f h tri w.t-in i w.bears w.across v-lt e-lt f_lt) (omega arith) (rim-second m g f h tri w.t-in i w.bears w.across v-lt e-lt f_lt)

  good₃ : Good (cut_before (2 * m.ne) (split_once h (split_once h m)))
  unfolding split-new
  good₃ = rim-good₃ m g f h tri w.t-in i w.bears w.across v-lt e-lt f_lt

  count₃ : (m₃.nv ≡ m.nv + 2) × (m₃.ne ≡ m.ne + 3) × (m₃.nf ≡ m.nf + 1)
  unfolding split-new
  count₃ = rim-counts₃ m g f h tri w.t-in i w.bears w.across v-lt e-lt f_lt

  near-2 : cuts.Near m₃ (next m₃ h) h (next m₃ (next m₃ h) ∷ prev m₃ h ∷ [])
  unfolding split-new
  near-2 = let (a, b, c) = count₃ in three-near m₃ good₃ (next m₃ h) h (rim-over₃ m g f h tri w.t-in i w.bears w.across v-lt e-lt f_lt) (omega arith)

  module _ (outs edges faces : List ℕ) (long-v : m.nv + 2 ≤ length outs) (long_e : 8 * (m.ne + 4) ≤ length edges) (long_f : m.nf + 2 ≤ length faces) where
    close : Near m h
    close = near (good-shape m g) g.consistent.core (λ x i. i) (λ u i. i) h w.t-in

    space : SplitRoom m outs edges m.nv
    space = record { few = omega arith; edges_room = omega arith; outs-room = omega arith; vertex = omega arith }

    close₁ : Near m₁ h
    close₁ = near (good-shape m₁ good₁) good₁.consistent.core (λ x i. i) (λ u i. i) h in₁

    space₁ : SplitRoom m₁ outs edges m₁.nv
    space₁ = let (a, b, c) = count₁ in record { few = omega arith; edges_room = omega arith; outs-room = omega arith; vertex = omega arith }

    laid₁ : split_once h (laid m outs edges faces) ≡ laid (split_once h m) outs edges faces
    laid₁ = ap (more 1 0 0) (split-laid m outs edges faces h m.nv close space)

    laid₂ : split_once h (split_once h (laid m outs edges faces)) ≡ laid (split_once h (split_once h m)) outs edges faces
    laid₂ = ap (split_once h) laid₁ ∙ ap (more 1 0 0) (split-laid m₁ outs edges faces h m₁.nv close₁ space₁)

    load₂ : (j : ℕ) → j < 8 * m₂.ne → get_or (lay 0 m₂.edges edges) j 0 ≡ get_or m₂.edges j 0
    load₂ j l = let (a, b, c) = count₂ in get_or-lay 0 m₂.edges edges j (omega arith)

    load₃ : (j : ℕ) → j < 8 * m₃.ne → get_or (lay 0 m₃.edges edges) j 0 ≡ get_or m₃.edges j 0
    load₃ j l = let (a, b, c) = count₃ in get_or-lay 0 m₃.edges edges j (omega arith)

    n-low : 2 * m.ne < 2 * m₂.ne
    n-low = near-1.first

    before-laid : prev (laid m₂ outs edges faces) (2 * m.ne) ≡ prev m₂ (2 * m.ne)
    before-laid = let l = n-low in load₂ (4 * (2 * m.ne) + 3) (omega arith)

    after-laid : next (laid m₃ outs edges faces) h ≡ next m₃ h
    after-laid = let l = near-2.last in load₃ (4 * h + 2) (omega arith)

    cut-ok-1 : CutBeforeOk h (2 * m.ne) (laid m₂ outs edges faces)
    cut-ok-1 =
        let (a, b, c) = count₂ in
        let l = n-low in
        let k = near-1.last in
        rw (before-laid, load₂ (4 * (2 * m.ne) + 2) (omega arith), load₂ (4 * prev m₂ (2 * m.ne) + 3) (omega arith))
        (cut-laid-ok m₂ outs edges faces (2 * m.ne) (prev m₂ (2 * m.ne)) (next m₂ (2 * m.ne) ∷ h ∷ prev m₂ (prev m₂ (2 * m.ne)) ∷ []) near-1 (omega arith) (omega arith) (omega arith))

    laid₃ : cut_before (2 * m.ne) (split_once h (split_once h (laid m outs edges faces))) ≡ laid m₃ outs edges faces
    laid₃ =
        let (a, b, c) = count₂ in
        ap (cut_before (2 * m.ne)) laid₂
        ∙ ap (λ (n : ℕ). cut_off (2 * m.ne) n (laid m₂ outs edges faces)) before-laid
        ∙ cut-laid m₂ outs edges faces (2 * m.ne) (prev m₂ (2 * m.ne)) (next m₂ (2 * m.ne) ∷ h ∷ prev m₂ (prev m₂ (2 * m.ne)) ∷ []) near-1 (omega arith) (omega arith) (omega arith)

    cut-ok-2 : CutAfterOk h (laid m₃ outs edges faces)
    cut-ok-2 =
        let (a, b, c) = count₃ in
        let l = near-2.last in
        let k = near-2.first in
        rw (after-laid, load₃ (4 * next m₃ h + 2) (omega arith), load₃ (4 * h + 3) (omega arith))
        (cut-laid-ok m₃ outs edges faces (next m₃ h) h (next m₃ (next m₃ h) ∷ prev m₃ h ∷ []) near-2 (omega arith) (omega arith) (omega arith))

    pub rim-laid : rim_face h (laid m outs edges faces) ≡ laid (rim_face h m) outs edges faces
    unfolding rim_face
    rim-laid =
        let (a, b, c) = count₃ in
        ap (cut_after h) laid₃
        ∙ ap (λ (p : ℕ). cut_off p h (laid m₃ outs edges faces)) after-laid
        ∙ cut-laid m₃ outs edges faces (next m₃ h) h (next m₃ (next m₃ h) ∷ prev m₃ h ∷ []) near-2 (omega arith) (omega arith) (omega arith)

    pub rim-laid-ok : RimOk h (laid m outs edges faces)
    rim-laid-ok = record {
      few_v = omega arith;
      few_e = omega arith;
      few_f = omega arith;
      split_1 = split-laid-ok m outs edges faces h m.nv close space;
      split_2 = subst⁻¹ (SplitHere h) laid₁ (split-laid-ok m₁ outs edges faces h m₁.nv close₁ space₁);
      cut_1 = subst⁻¹ (CutBeforeOk h (2 * m.ne)) laid₂ cut-ok-1;
      cut_2 = subst⁻¹ (CutAfterOk h) laid₃ cut-ok-2;
    }

-- ---- any triangle, where the mesh after it has room
module _ (flag : Bool) (m : Links) (g : Good m) (tri : Triangular (mesh m)) (f : ℕ) (i : f < m.nf) (v e : ℕ) (few_v : v ≤ 1048576) (few_e : e ≤ 1048576) (few_f : m.nf + 2 ≤ 1048576)
    (v-most : (sqrt_face flag f m).nv ≤ v) (e-most : (sqrt_face flag f m).ne ≤ e)
    (outs edges faces : List ℕ) (long-v : v ≤ length outs) (long_e : 8 * e ≤ length edges) (long_f : m.nf + 2 ≤ length faces) where
  abbrev Opens : Option ℕ → Type 0
  Opens o = (opened f o m).nv ≤ v → (opened f o m).ne ≤ e → OpenOk o f (laid m outs edges faces) × (opened f o (laid m outs edges faces) ≡ laid (opened f o m) outs edges faces)

  around-centre : Opens None
  around-centre p q =
      let k = centre-parts f (next m (start m f)) (next m (next m (start m f))) (start m f) m (loop-second m g tri f i) in
      let a = k.nv_is in
      let b = k.ne_is in (
        centre-laid-ok m g tri f i outs edges faces (omega arith) (omega arith) (omega arith) (omega arith) long_f,
        centre-laid m g tri f i outs edges faces (omega arith) (omega arith) (omega arith) (omega arith) long_f,
      )

  on-rim : (h : ℕ) → RimAt m f h → Opens (Some h)
  on-rim h w p q =
      let (a, b, c) = rim-counts h m in (
        rim-laid-ok m g tri f i h w (omega arith) (omega arith) few_f outs edges faces (omega arith) (omega arith) long_f,
        rim-laid m g tri f i h w (omega arith) (omega arith) few_f outs edges faces (omega arith) (omega arith) long_f,
      )

  either : (flag : Bool) → Opens (side_by flag f m)
  either true = side-cases m g tri f i Opens on-rim (λ away. around-centre)
  either false = around-centre

  opens : OpenOk (side_by flag f m) f (laid m outs edges faces) × (opened f (side_by flag f m) (laid m outs edges faces) ≡ laid (opened f (side_by flag f m) m) outs edges faces)
  unfolding sqrt_face
  opens = either flag v-most e-most

  e-old : m.ne ≤ e
  unfolding sqrt_face
  e-old = go (side_by flag f m) e-most
    where
      go : (o : Option ℕ) → (opened f o m).ne ≤ e → m.ne ≤ e
      go None q = let b = (centre-parts f (next m (start m f)) (next m (next m (start m f))) (start m f) m (loop-second m g tri f i)).ne_is in omega arith
      go (Some h) q = let (a, b, c) = rim-counts h m in omega arith

  is : side_by flag f (laid m outs edges faces) ≡ side_by flag f m
  is = let q = e-old in side-laid m g tri f i outs edges faces (omega arith) (omega arith) flag

  pub face-laid-ok : FaceOk flag f (laid m outs edges faces)
  face-laid-ok = let q = e-old in record {
    f_in = (let r = length-lay 0 m.faces faces in omega arith);
    walk = walks m g tri f i outs edges faces (omega arith) (omega arith);
    open_ok = subst⁻¹ (λ (o : Option ℕ). OpenOk o f (laid m outs edges faces)) is opens.0;
  }

  pub face-laid : sqrt_face flag f (laid m outs edges faces) ≡ laid (sqrt_face flag f m) outs edges faces
  unfolding sqrt_face
  face-laid = ap (λ (o : Option ℕ). opened f o (laid m outs edges faces)) is ∙ opens.1
