-- A sqrt3 pass on a mesh of triangles, with either flag: good, triangles, document 01's tally; after one with the flag false no face has two rim edges. Assumes nothing.
use mathlib.Core.Path.{◌≡◌, refl, sym, ap, ◌∙◌, subst, subst⁻¹}
use mathlib.Core.Logic.{◌⊎◌, inl, inr, ◌≢◌}
use mathlib.Core.Bool.{Bool, true, false}
use Rattle.std.specs.Prelude.{None, Some}
use Prim.Native.Nat.{ℕ, zero, suc, ◌+◌, ◌*◌, ◌≤◌, ◌<◌}
use native.Mathlib.Decide.{dec_lt}
use native.Mathlib.Omega.{arith}
use lib.ListN.{length}
use Rattle.scope.specs.Lists.{each, if, number_of}
use Rattle.scope.specs.Links.{Links, NONE, partner, face, head, next, prev, start, rim_edge, loop}
use Rattle.scope.specs.Passes.{rim_face, centre_face, sqrt_face, swap_inner, sqrt_pass}
use Rattle.scope.specs.Schemes.{two_rims}
use Rattle.scope.specs.Tally.{tally_of, sqrt_tally}
use Rattle.laws_mesh.specs.Of.{mesh, Good}
use Rattle.laws_mesh.specs.Sides.{Within, Triangles}
use Rattle.laws_mesh.proofs.Cycle.{split}
use Rattle.laws_mesh.proofs.Count.{bit-T, bit_not}
use Rattle.laws_mesh.proofs.Facts.{partner-partner, partner-lt}
use Rattle.laws_mesh.proofs.Loops.{good-shape}
use Rattle.laws_mesh.proofs.Corners.{sum-all, rims-corners}
use Rattle.laws_mesh.proofs.Sides.{tally-is}
use Rattle.laws_triangulate.proofs.Triangular.{Triangular, to-triangular, from-triangular, tri-tip, tri-three}
use Rattle.laws_sqrt3.specs.Rims.{rimmed}
use Rattle.laws_sqrt3.proofs.Match.{count-up}
use Rattle.laws_sqrt3.proofs.Rims.{OneRim, RimAt, side-cases, rimmed-yes, rimmed-is, none-two, rims-faces}
use Rattle.laws_sqrt3.proofs.Spread.{opened-none, Spread, spread-here, spread-step}
use Rattle.laws_sqrt3.proofs.Centre.{centre-opened, centre-inner, centre-nv, centre-ne}
use Rattle.laws_sqrt3.proofs.RimOn.{rim-opened, rim-counts}
use Rattle.laws_sqrt3.proofs.Turn.{Turned, turns, swaps-counts}
pub use Rattle.laws_sqrt3.proofs.EdgedRecord.{Two}
use Rattle.laws_sqrt3.proofs.EdgedRecord.{Edged}

abbrev pub Any : ℕ → Type 0
Any t = Unit {0}

-- ---- from the opened faces to the edges
module _ (m₀ m : Links) (Q R : ℕ → Type 0) (g₀ : Good m₀) (s : Spread m₀ m Q m₀.nf) (inner : (t : ℕ) → t < 2 * m.ne → face m t ≡ NONE → R t) where
  face-lt : (t : ℕ) → t < 2 * m₀.ne → face m₀ t ≢ NONE → face m₀ t < m₀.nf
  face-lt t i r = go (g₀.consistent.core.face_in t i)
    where
      go : (face m₀ t ≡ NONE) ⊎ (face m₀ t < m₀.nf) → face m₀ t < m₀.nf
      go (inl q) = absurd (r q)
      go (inr q) = q

  to_turned : Turned m₀ m Q R zero
  to_turned = record {
    good = s.good;
    tri = s.tri;
    ne-lo = s.ne-lo;
    inner = inner;
    rim = λ t i r. s.wait t i (let a = g₀.sized.few_f in omega arith) ∙ r;
    faced = λ t i r. (s.done t i (face-lt t i r)).0;
    heads = λ t i q l. subst⁻¹ (λ (v : ℕ). v < m₀.nv) (s.heads t i q) (g₀.consistent.core.head_in t i);
    tips = λ t i q l r. s.tips t i q (face-lt t i r);
    apart = λ t i q l r r'. s.apart t i q (face-lt t i r) (face-lt (partner t) (partner-lt t m₀.ne i) r');
  }

-- what a pass leaves: so many vertices, edges and faces
record Passed (m : Links) (v e f : ℕ) : Type 0 where
  pub good : Good m
  pub tri : Triangular (mesh m)
  pub nv_is : m.nv ≡ v
  pub ne_is : m.ne ≡ e
  pub nf_is : m.nf ≡ f

-- ---- the flag false: centres
record Centred (m₀ m : Links) (f : ℕ) : Type 0 where
  pub spread : Spread m₀ m Any f
  pub nv_is : m.nv ≡ m₀.nv + f
  pub ne_is : m.ne ≡ m₀.ne + 3 * f
  pub inner : (t : ℕ) → t < 2 * m.ne → face m t ≡ NONE → t < 2 * m₀.ne

centres : (m₀ : Links) (f : ℕ) → f ≤ m₀.nf → Good m₀ → Triangular (mesh m₀) → m₀.nv + m₀.nf ≤ 1048576 → m₀.ne + 3 * m₀.nf ≤ 1048576 → 3 * m₀.nf ≤ 1048576
    → Centred m₀ (each f (sqrt_face false) m₀) f
unfolding each sqrt_face
centres m₀ zero l g tri v e h = record { spread = spread-here m₀ Any g tri; nv_is = omega arith; ne_is = omega arith; inner = λ t i q. i }
centres m₀ (suc f) l g tri v e h = go (centres m₀ f (omega arith) g tri v e h)
  where
    go : Centred m₀ (each f (sqrt_face false) m₀) f → Centred m₀ (centre_face f (each f (sqrt_face false) m₀)) (suc f)
    go s =
        let m = each f (sqrt_face false) m₀ in
        let p = s.spread in
        let a = s.nv_is in
        let b = s.ne_is in
        let c = p.nf_is in
        let fi : f < m.nf = omega arith in
        let v-lt : m.nv + 1 ≤ 1048576 = omega arith in
        let e-lt : m.ne + 3 ≤ 1048576 = omega arith in
        let f_lt : m.nf + 2 ≤ 1048576 = omega arith in
        let o = centre-opened m f p.good p.tri fi v-lt e-lt f_lt Any in
        record {
          spread = spread-step m₀ m (centre_face f m) Any f g (λ t q. q) p l Any (λ t i q. q) o;
          nv_is = (let q = centre-nv m f p.good p.tri fi v-lt e-lt f_lt in omega arith);
          ne_is = (let q = centre-ne m f p.good p.tri fi v-lt e-lt f_lt in omega arith);
          inner = λ t i q. let j = centre-inner m f p.good p.tri fi v-lt e-lt f_lt t i q in
              s.inner t j (opened-none m (centre_face f m) f Any o ((good-shape m p.good).F-none f fi) t j q);
        }

module _ (m₀ : Links) (g : Good m₀) (tri : Triangular (mesh m₀)) (v : m₀.nv + m₀.nf ≤ 1048576) (e : m₀.ne + 3 * m₀.nf ≤ 1048576) (h : 3 * m₀.nf ≤ 1048576) where
  centred : Centred m₀ (each m₀.nf (sqrt_face false) m₀) m₀.nf
  centred = centres m₀ m₀.nf (omega arith) g tri v e h

  turned-false : Turned m₀ (sqrt_pass false m₀) Any (λ t. t < 2 * m₀.ne) m₀.ne
  unfolding sqrt_pass
  turned-false = turns m₀ (each m₀.nf (sqrt_face false) m₀) Any (λ t. t < 2 * m₀.ne) m₀.ne (λ t q. q) (λ t i p q. tt) (omega arith)
      (to_turned m₀ (each m₀.nf (sqrt_face false) m₀) Any (λ t. t < 2 * m₀.ne) g centred.spread centred.inner)

  passed-false : Passed (sqrt_pass false m₀) (m₀.nv + m₀.nf) (m₀.ne + 3 * m₀.nf) (3 * m₀.nf)
  unfolding sqrt_pass
  passed-false =
      let (a, b, c) = swaps-counts m₀.ne (each m₀.nf (sqrt_face false) m₀) in
      record {
        good = turned-false.good;
        tri = turned-false.tri;
        nv_is = (let q = centred.nv_is in omega arith);
        ne_is = (let q = centred.ne_is in omega arith);
        nf_is = (let q = centred.spread.nf_is in omega arith);
      }

  -- no face has two rim edges
  rims-false : OneRim (mesh (sqrt_pass false m₀))
  rims-false = record { sole = sole }
    where
      m : Links
      m = sqrt_pass false m₀

      d : Turned m₀ m Any (λ t. t < 2 * m₀.ne) m₀.ne
      d = turned-false

      -- a rim edge is an old one, and still has its triangle with a new tip
      edge : (a : ℕ) → a < 2 * m.ne → face m a ≢ NONE → face m (partner a) ≡ NONE → (head m a < m₀.nv) × (head m (partner a) < m₀.nv) × (m₀.nv ≤ head m (next m a))
      edge a i f p =
          let j = d.inner (partner a) (partner-lt a m.ne i) p in
          let i₀ : a < 2 * m₀.ne = subst (λ (a : ℕ). a < 2 * m₀.ne) (partner-partner a) (partner-lt (partner a) m₀.ne j) in
          let p₀ : face m₀ (partner a) ≡ NONE = split (face m₀ (partner a)) NONE (λ q. q) (λ q. absurd (d.faced (partner a) j q p)) in (
            d.heads a i₀ tt (inr (inr p₀)),
            d.heads (partner a) j tt (inr (inl p₀)),
            d.tips a i₀ tt (inr (inr p₀)) (λ q. f (d.rim a i₀ q)),
          )

      sole : (a b : ℕ) → a < 2 * m.ne → b < 2 * m.ne → face m a ≢ NONE → face m a ≡ face m b → face m (partner a) ≡ NONE → face m (partner b) ≡ NONE → a ≡ b
      sole a b i j f q p p' = go (edge a i f p) (edge b j (λ z. f (q ∙ z)) p') (tri-three (good-shape m d.good) d.good.consistent d.tri a b i j f (sym q))
        where
          go : (head m a < m₀.nv) × (head m (partner a) < m₀.nv) × (m₀.nv ≤ head m (next m a)) → (head m b < m₀.nv) × (head m (partner b) < m₀.nv) × (m₀.nv ≤ head m (next m b))
              → (b ≡ a) ⊎ ((b ≡ next m a) ⊎ (b ≡ prev m a)) → a ≡ b
          go x y (inl z) = sym z
          go (x₁, x₂, x₃) (y₁, y₂, y₃) (inr (inl z)) = absurd (let w = ap (head m) z in omega arith)
          go (x₁, x₂, x₃) (y₁, y₂, y₃) (inr (inr z)) = absurd (let w = ap (λ (t : ℕ). head m (partner t)) z ∙ tri-tip (good-shape m d.good) d.good.consistent d.tri a i f in omega arith)

-- ---- the flag true: a face with a rim edge gets two points on it

module _ (m₀ m : Links) (g₀ : Good m₀) (tri : Triangular (mesh m₀)) (f : ℕ) (f_lt : f < m₀.nf) (s : Edged m₀ m f)
    (v : m₀.nv + m₀.nf + number_of m₀.nf (rimmed m₀) ≤ 1048576) (e : m₀.ne + 3 * m₀.nf + number_of m₀.nf (rimmed m₀) ≤ 1048576) (h : 3 * m₀.nf ≤ 1048576) where
  p : Spread m₀ m (Two m₀) f
  p = s.spread

  fi : f < m.nf
  fi = let c = p.nf_is in omega arith

  -- an old halfedge has a face now if it had one
  kept : (t : ℕ) → t < 2 * m₀.ne → face m₀ t ≢ NONE → face m t ≢ NONE
  kept t i ne = go (dec_lt (face m₀ t) f)
    where
      go : Dec (face m₀ t < f) → face m t ≢ NONE
      go (yes q) = (p.done t i q).0
      go (no q) = λ z. ne (sym (p.wait t i (omega arith)) ∙ z)

  to-two : (t : ℕ) → t < 2 * m₀.ne → Two m₀ t → Two m t
  to-two t i (a, b) = (kept t i a, kept (partner t) (partner-lt t m₀.ne i) b)

  sym-two : (t : ℕ) → Two m₀ t → Two m₀ (partner t)
  sym-two t (a, b) = (b, λ q. a (ap (face m₀) (sym (partner-partner t)) ∙ q))

  -- the rim edges of face f are those that it had at first
  before : (t : ℕ) → RimAt m f t → RimAt m₀ f t
  before t w = record {
    t-in = i;
    bears = go (dec_lt (face m₀ t) f);
    across = split (face m₀ (partner t)) NONE (λ q. q) (λ q. absurd (kept (partner t) (partner-lt t m₀.ne i) q w.across));
  }
    where
      i : t < 2 * m₀.ne
      i = let b = w.bears in p.back t w.t-in (omega arith) (omega arith)

      not-past : (face m t < f) ⊎ (m₀.nf ≤ face m t) → ⊥
      not-past (inl q) = let b = w.bears in omega arith
      not-past (inr q) = let b = w.bears in omega arith

      go : Dec (face m₀ t < f) → face m₀ t ≡ f
      go (yes q) = absurd (not-past (p.done t i q).1)
      go (no q) = sym (p.wait t i (omega arith)) ∙ w.bears

  since : (t : ℕ) → RimAt m₀ f t → RimAt m f t
  since t w = record {
    t-in = (let a = w.t-in in let b = p.ne-lo in omega arith);
    bears = p.wait t w.t-in (let b = w.bears in omega arith) ∙ w.bears;
    across = p.wait (partner t) (partner-lt t m₀.ne w.t-in) (let b = w.across in let a = g₀.sized.few_f in omega arith) ∙ w.across;
  }

  up : number_of (suc f) (rimmed m₀) ≤ number_of m₀.nf (rimmed m₀)
  up = count-up (rimmed m₀) (suc f) m₀.nf f_lt

  step-rim : (t : ℕ) → RimAt m f t → Edged m₀ (rim_face t m) (suc f)
  unfolding number_of
  step-rim t w =
      let one = bit-T (rimmed m₀ f) (rimmed-yes m₀ g₀ tri f f_lt t (before t w)) in
      let a = s.nv_is in
      let b = s.ne_is in
      let c = p.nf_is in
      let u = up in
      let v-lt : m.nv + 2 ≤ 1048576 = omega arith in
      let e-lt : m.ne + 4 ≤ 1048576 = omega arith in
      let f-lt' : m.nf + 2 ≤ 1048576 = omega arith in
      let (x, y) = rim-counts m p.good f t p.tri w.t-in fi w.bears w.across v-lt e-lt f-lt' in
      record {
        spread = spread-step m₀ m (rim_face t m) (Two m₀) f g₀ sym-two p f_lt (Two m) to-two (rim-opened m p.good f t p.tri w.t-in fi w.bears w.across v-lt e-lt f-lt');
        nv_is = omega arith;
        ne_is = omega arith;
      }

  step-centre : ((t : ℕ) → ¬ RimAt m f t) → Edged m₀ (centre_face f m) (suc f)
  unfolding number_of
  step-centre away =
      let nil = bit_not (rimmed m₀ f) (λ q. let (t, w) = rimmed-is m₀ g₀ tri f f_lt q in away t (since t w)) in
      let a = s.nv_is in
      let b = s.ne_is in
      let c = p.nf_is in
      let u = up in
      let v-lt : m.nv + 1 ≤ 1048576 = omega arith in
      let e-lt : m.ne + 3 ≤ 1048576 = omega arith in
      let f-lt' : m.nf + 2 ≤ 1048576 = omega arith in
      record {
        spread = spread-step m₀ m (centre_face f m) (Two m₀) f g₀ sym-two p f_lt (Two m) to-two (centre-opened m f p.good p.tri fi v-lt e-lt f-lt' (Two m));
        nv_is = (let q = centre-nv m f p.good p.tri fi v-lt e-lt f-lt' in omega arith);
        ne_is = (let q = centre-ne m f p.good p.tri fi v-lt e-lt f-lt' in omega arith);
      }

  edge-step : Edged m₀ (sqrt_face true f m) (suc f)
  unfolding sqrt_face
  edge-step = side-cases m p.good p.tri f fi (λ o. Edged m₀ (elim o [ None ↦ centre_face f m | Some h ↦ rim_face h m ]) (suc f)) step-rim step-centre

edges : (m₀ : Links) (f : ℕ) → f ≤ m₀.nf → Good m₀ → Triangular (mesh m₀)
    → m₀.nv + m₀.nf + number_of m₀.nf (rimmed m₀) ≤ 1048576 → m₀.ne + 3 * m₀.nf + number_of m₀.nf (rimmed m₀) ≤ 1048576 → 3 * m₀.nf ≤ 1048576
    → Edged m₀ (each f (sqrt_face true) m₀) f
unfolding each number_of
edges m₀ zero l g tri v e h = record { spread = spread-here m₀ (Two m₀) g tri; nv_is = omega arith; ne_is = omega arith }
edges m₀ (suc f) l g tri v e h = edge-step m₀ (each f (sqrt_face true) m₀) g tri f l (edges m₀ f (omega arith) g tri v e h) v e h

-- in any case: one more vertex and one more edge for each face with a rim edge
module _ (m₀ : Links) (g : Good m₀) (tri : Triangular (mesh m₀))
    (v : m₀.nv + m₀.nf + number_of m₀.nf (rimmed m₀) ≤ 1048576) (e : m₀.ne + 3 * m₀.nf + number_of m₀.nf (rimmed m₀) ≤ 1048576) (h : 3 * m₀.nf ≤ 1048576) where
  edged : Edged m₀ (each m₀.nf (sqrt_face true) m₀) m₀.nf
  edged = edges m₀ m₀.nf (omega arith) g tri v e h

  turned-true : Turned m₀ (sqrt_pass true m₀) (Two m₀) Any m₀.ne
  unfolding sqrt_pass
  turned-true = turns m₀ (each m₀.nf (sqrt_face true) m₀) (Two m₀) Any m₀.ne (λ t (a, b). (b, λ q. a (ap (face m₀) (sym (partner-partner t)) ∙ q))) (λ t i p q. (p, q)) (omega arith)
      (to_turned m₀ (each m₀.nf (sqrt_face true) m₀) (Two m₀) Any g edged.spread (λ t i q. tt))

  passed-true : Passed (sqrt_pass true m₀) (m₀.nv + m₀.nf + number_of m₀.nf (rimmed m₀)) (m₀.ne + 3 * m₀.nf + number_of m₀.nf (rimmed m₀)) (3 * m₀.nf)
  unfolding sqrt_pass
  passed-true =
      let (a, b, c) = swaps-counts m₀.ne (each m₀.nf (sqrt_face true) m₀) in
      record {
        good = turned-true.good;
        tri = turned-true.tri;
        nv_is = (let q = edged.nv_is in omega arith);
        ne_is = (let q = edged.ne_is in omega arith);
        nf_is = (let q = edged.spread.nf_is in omega arith);
      }

-- ---- the pass
module _ (m : Links) (g : Good m) (T₀ : Triangles m) where
  tri : Triangular (mesh m)
  tri = to-triangular m g T₀

  -- the bounds that the tally gives
  abbrev Room : ℕ → Type 0
  Room b = (m.nv + m.nf + b ≤ 1048576) × (m.ne + 3 * m.nf + b ≤ 1048576) × (3 * m.nf ≤ 1048576)

  room : (flag : Bool) → Within (sqrt_tally flag (tally_of m)) → Room (if flag (number_of m.ne (rim_edge m)) 0)
  unfolding sqrt_tally tally_of
  room flag w = (w.v_within, w.e_within, w.f_within)

  room-false : Within (sqrt_tally false (tally_of m)) → (m.nv + m.nf ≤ 1048576) × (m.ne + 3 * m.nf ≤ 1048576) × (3 * m.nf ≤ 1048576)
  room-false w = let (a, b, c) = room false w in (omega arith, omega arith, c)

  room-true : two_rims m ≡ None → Within (sqrt_tally true (tally_of m)) → Room (number_of m.nf (rimmed m))
  room-true one w = subst Room (rims-faces m g T₀ one) (room true w)

  -- after the first f faces
  pub spread-false : Within (sqrt_tally false (tally_of m)) → (f : ℕ) → f ≤ m.nf → Spread m (each f (sqrt_face false) m) Any f
  spread-false w f l = let (a, b, c) = room-false w in (centres m f l g tri a b c).spread

  pub spread-true : two_rims m ≡ None → Within (sqrt_tally true (tally_of m)) → (f : ℕ) → f ≤ m.nf → Spread m (each f (sqrt_face true) m) (Two m) f
  spread-true one w f l = let (a, b, c) = room-true one w in (edges m f l g tri a b c).spread

  passes : (flag : Bool) → (flag ≡ true → two_rims m ≡ None) → Within (sqrt_tally flag (tally_of m))
      → Passed (sqrt_pass flag m) (m.nv + m.nf + if flag (number_of m.ne (rim_edge m)) 0) (m.ne + 3 * m.nf + if flag (number_of m.ne (rim_edge m)) 0) (3 * m.nf)
  passes false one w =
      let (a, b, c) = room-false w in
      let p = passed-false m g tri a b c in
      record { good = p.good; tri = p.tri; nv_is = (let q = p.nv_is in omega arith); ne_is = (let q = p.ne_is in omega arith); nf_is = p.nf_is }
  passes true one w =
      let (a, b, c) = room-true (one refl) w in
      let r = rims-faces m g T₀ (one refl) in
      let p = passed-true m g tri a b c in
      record { good = p.good; tri = p.tri; nv_is = (let q = p.nv_is in omega arith); ne_is = (let q = p.ne_is in omega arith); nf_is = p.nf_is }

  module _ (flag : Bool) (one : flag ≡ true → two_rims m ≡ None) (w : Within (sqrt_tally flag (tally_of m))) where
    pub sqrt-good : Good (sqrt_pass flag m)
    sqrt-good = (passes flag one w).good

    -- V + F vertices, and one more for each rim edge if the flag is true
    pub sqrt-vertices : (sqrt_pass flag m).nv ≡ m.nv + m.nf + if flag (number_of m.ne (rim_edge m)) 0
    sqrt-vertices = (passes flag one w).nv_is

    pub sqrt-triangles : Triangles (sqrt_pass flag m)
    sqrt-triangles = from-triangular (sqrt_pass flag m) sqrt-good (passes flag one w).tri

    pub sqrt-tally : tally_of (sqrt_pass flag m) ≡ sqrt_tally flag (tally_of m)
    unfolding tally_of sqrt_tally
    sqrt-tally =
        let p = passes flag one w in
        let a = p.ne_is in
        let b = p.nf_is in
        let s = sum-all (sqrt_pass flag m).nf 3 (λ f. length (loop (sqrt_pass flag m) (start (sqrt_pass flag m) f))) sqrt-triangles in
        let s₀ = sum-all m.nf 3 (λ f. length (loop m (start m f))) T₀ in
        let c = rims-corners m g in
        let d = rims-corners (sqrt_pass flag m) sqrt-good in
        tally-is (tally_of (sqrt_pass flag m)) (sqrt_tally flag (tally_of m)) p.nv_is p.ne_is p.nf_is (omega arith) (omega arith)

    -- V - E + F stays
    pub sqrt-euler : m.nv + m.nf + (sqrt_pass flag m).ne ≡ (sqrt_pass flag m).nv + (sqrt_pass flag m).nf + m.ne
    sqrt-euler = let p = passes flag one w in let a = p.nv_is in let b = p.ne_is in let c = p.nf_is in omega arith

  -- after a pass with the flag false no face has more than one rim edge
  pub two_rims-after : Within (sqrt_tally false (tally_of m)) → two_rims (sqrt_pass false m) ≡ None
  two_rims-after w =
      let (a, b, c) = room-false w in
      let p = passed-false m g tri a b c in
      none-two (sqrt_pass false m) p.good p.tri (rims-false m g tri a b c)

-- a pass of sqrt3 leaves a good mesh of triangles with document 01's counts
pub sqrt-pass : (flag : Bool) (m : Links) → Good m → Triangles m → (flag ≡ true → two_rims m ≡ None) → Within (sqrt_tally flag (tally_of m))
    → Good (sqrt_pass flag m) × Triangles (sqrt_pass flag m) × (tally_of (sqrt_pass flag m) ≡ sqrt_tally flag (tally_of m))
sqrt-pass flag m g t one w = (sqrt-good m g t flag one w, sqrt-triangles m g t flag one w, sqrt-tally m g t flag one w)

-- ---- on the way
-- a good mesh of triangles, with no more of anything than there is after the pass
pub record Partway (m₀ m : Links) (flag : Bool) (f : ℕ) : Type 0 where
  pub good : Good m
  pub tri : Triangular (mesh m)
  pub nf_is : m.nf ≡ m₀.nf + 2 * f
  pub ne-lo : m₀.ne ≤ m.ne
  pub v-most : m.nv ≤ (sqrt_tally flag (tally_of m₀)).v
  pub e-most : m.ne ≤ (sqrt_tally flag (tally_of m₀)).e

module _ (m : Links) (g : Good m) (T₀ : Triangles m) where
  pub partway : (flag : Bool) → (flag ≡ true → two_rims m ≡ None) → Within (sqrt_tally flag (tally_of m)) → (f : ℕ) → f ≤ m.nf → Partway m (each f (sqrt_face flag) m) flag f
  unfolding sqrt_tally tally_of
  partway false one w f l =
      let (a, b, c) = room-false m g T₀ w in
      let s = centres m f l g (tri m g T₀) a b c in
      record { good = s.spread.good; tri = s.spread.tri; nf_is = s.spread.nf_is; ne-lo = s.spread.ne-lo; v-most = (let q = s.nv_is in omega arith); e-most = (let q = s.ne_is in omega arith) }
  partway true one w f l =
      let (a, b, c) = room-true m g T₀ (one refl) w in
      let r = rims-faces m g T₀ (one refl) in
      let u = count-up (rimmed m) f m.nf l in
      let s = edges m f l g (tri m g T₀) a b c in
      record { good = s.spread.good; tri = s.spread.tri; nf_is = s.spread.nf_is; ne-lo = s.spread.ne-lo; v-most = (let q = s.nv_is in omega arith); e-most = (let q = s.ne_is in omega arith) }

  -- while the edges are swapped
  pub swapping : (flag : Bool) → (flag ≡ true → two_rims m ≡ None) → Within (sqrt_tally flag (tally_of m)) → (e : ℕ) → e ≤ m.ne → Good (each e swap_inner (each m.nf (sqrt_face flag) m))
  swapping false one w e l =
      let (a, b, c) = room-false m g T₀ w in
      let s = centred m g (tri m g T₀) a b c in
      (turns m (each m.nf (sqrt_face false) m) Any (λ t. t < 2 * m.ne) e (λ t q. q) (λ t i p q. tt) l
      (to_turned m (each m.nf (sqrt_face false) m) Any (λ t. t < 2 * m.ne) g s.spread s.inner)).good
  swapping true one w e l =
      let (a, b, c) = room-true m g T₀ (one refl) w in
      let s = edged m g (tri m g T₀) a b c in
      (turns m (each m.nf (sqrt_face true) m) (Two m) Any e (λ t (a, b). (b, λ q. a (ap (face m) (sym (partner-partner t)) ∙ q))) (λ t i p q. (p, q)) l
      (to_turned m (each m.nf (sqrt_face true) m) (Two m) Any g s.spread (λ t i q. tt))).good
