-- Catmull-Clark's rules by cases, as the code takes them; and they see no more of the face points and edge points at hand than the links reach. Assumes nothing.
use Prim.Native.Nat.{ℕ, suc, ◌+◌, ◌*◌, ◌/◌, ◌≤◌, ◌<◌}
use mathlib.Core.Path.{◌≡◌, refl, sym, ap, ◌∙◌}
use mathlib.Core.Bool.{Bool, true, false, not, ◌&&◌, ◌||◌}
use mathlib.Core.Logic.{◌≢◌}
use mathlib.Core.List.{List, [], ◌∷◌, ◌++◌, map, map-append, append-nil}
use native.Mathlib.Numerals.{add-one}
use native.Mathlib.Omega.{arith}
use lib.Dec.{eqb}
use lib.ListN.{length}
use lib.Ieee.{Float}
use Rattle.std.proofs.lemmas.List.{length-map}
use borrow.Author.Tests.{eqb-false, eq-eqb, ne_eqb}
use Rattle.scope.specs.declared.records.Point.{Point}
use Rattle.scope.specs.declared.records.Counts.{Counts}
use Rattle.scope.specs.Point.{add_p, over_p, zero_p}
use Rattle.scope.specs.Rules.{cc_edge, cc_inner, middle}
use Rattle.scope.specs.Lists.{if, only, over}
use Rattle.scope.specs.Links.{Links, NONE, loop, around}
use Rattle.scope.specs.Points.{point_at, plus, number, heads, face_point, catmull_edge, catmull_rim, catmull_inner, catmull_vertex, catmull_points}
use Rattle.mesh.specs.Words.{face_at, link_at, turn_at}
use Rattle.mesh.specs.Rounds.{rim_at, rim_edge_at, rim_vertex_at, turns_at, after}
use Rattle.mesh.proofs.PartnerLaws.{partner-lt}
use Rattle.points_catmull.specs.declared.sums.Sum.{Sum}
use Rattle.points_catmull.specs.declared.catmull.Ring.{Ring}
use Rattle.points_catmull.specs.Place.{place, made}
use Rattle.points_catmull.specs.Sums.{Halves, Outs, Inside, mesh_of, slot, head_point, summed, more}
use Rattle.points_catmull.specs.Catmull.{edge_by, rim_by, inner_by, vertex_by, ring_of, joined}
use Rattle.points_catmull.proofs.PlaceLaws.{length-laid, made-same, made-read, laid-behind, whole}
use Rattle.points_catmull.proofs.SumLaws.{Every, end, also, every, weaken, plus-push, summed-push, summed-more, summed-count}

-- ---- an edge without rim halfedge has two faces
neither : (a b : Bool) → a || b ≡ false → (a ≡ false) × (b ≡ false)
neither false false e = (refl, refl)
neither false true e = absurd (let z : ◌≡◌ {A = ℕ} 0 1 = cc in omega arith)
neither true b e = absurd (let z : ◌≡◌ {A = ℕ} 0 1 = cc in omega arith)

pub faced-in : (c : Counts) (es : List ℕ) → Halves c es → (h : ℕ) → h < 2 * c.e → rim_at es h ≡ false → face_at es h < c.f
faced-in c es hs h l r = hs.face_in h l (eqb-false (face_at es h) NONE r)

pub two-faces : (c : Counts) (es : List ℕ) → Halves c es → (e : ℕ) → e < c.e → rim_edge_at es e ≡ false → (face_at es (2 * e) < c.f) × (face_at es (2 * e + 1) < c.f)
two-faces c es hs e l r =
    let n = neither (rim_at es (2 * e)) (rim_at es (2 * e + 1)) r in
    (faced-in c es hs (2 * e) (omega arith) n.0, faced-in c es hs (2 * e + 1) (omega arith) n.1)

-- ---- an edge point
module _ (c : Counts) (es : List ℕ) (ps : List Float) (f : ℕ → Point) (e : ℕ) {update : Bool} {a b q : Point} (ha : a ≡ head_point es ps (2 * e)) (hb : b ≡ head_point es ps (2 * e + 1)) where
  pub edge-still : update ≡ false → q ≡ middle a b → q ≡ edge_by f update (mesh_of c [] es []) ps e
  unfolding edge_by
  edge-still u h = h ∙ rw (u, ha, hb)

  pub edge-rim : update ≡ true → rim_edge_at es e ≡ true → q ≡ middle a b → q ≡ edge_by f update (mesh_of c [] es []) ps e
  unfolding edge_by
  edge-rim u r h = h ∙ rw (u, r, ha, hb)

  pub edge-inner : {x y : Point} → update ≡ true → rim_edge_at es e ≡ false → x ≡ f (face_at es (2 * e)) → y ≡ f (face_at es (2 * e + 1)) → q ≡ cc_edge a b x y →
      q ≡ edge_by f update (mesh_of c [] es []) ps e
  unfolding edge_by
  edge-inner u r hx hy h = h ∙ rw (u, r, ha, hb, hx, hy)

same_if : {A : Type 0} (b : Bool) (x y z : A) → (b ≡ true → x ≡ y) → if b x z ≡ if b y z
same_if true x y z h = h refl
same_if false x y z h = refl

both : (a b : Bool) → a && not b ≡ true → b ≡ false
both true false e = refl
both true true e = absurd (let z : ◌≡◌ {A = ℕ} 0 1 = cc in omega arith)
both false b e = absurd (let z : ◌≡◌ {A = ℕ} 0 1 = cc in omega arith)

-- the face points that it takes are those of faces
pub edge_same : (c : Counts) (outs es fs : List ℕ) (ps : List Float) → Halves c es → (f g : ℕ → Point) → ((i : ℕ) → i < c.f → f i ≡ g i) →
    (update : Bool) (e : ℕ) → e < c.e → edge_by f update (mesh_of c [] es []) ps e ≡ edge_by g update (mesh_of c outs es fs) ps e
unfolding edge_by
edge_same c outs es fs ps hs f g h update e l =
    same_if (update && not (rim_edge_at es e)) _ _ _
    (λ t. (let n = two-faces c es hs e l (both update (rim_edge_at es e) t) in rw (h (face_at es (2 * e)) n.0, h (face_at es (2 * e + 1)) n.1)))

-- ---- the points of the rim edges around a vertex
-- those that lie on the rim, of the edges of the halfedges l
abbrev pub rim_points : (ℕ → Point) → List ℕ → List ℕ → List Point
rim_points g es l = map g (only (rim_edge_at es) (map (λ h. h / 2) l))

only-push : (test : ℕ → Bool) (l : List ℕ) (x : ℕ) → only test (l ++ x ∷ []) ≡ only test l ++ if (test x) (x ∷ []) []
unfolding only
only-push test [] x = refl
only-push test (y ∷ l) x = go (test y) (only-push test l x)
  where
    go : (b : Bool) → only test (l ++ x ∷ []) ≡ only test l ++ if (test x) (x ∷ []) [] → if b (y ∷ only test (l ++ x ∷ [])) (only test (l ++ x ∷ [])) ≡ if b (y ∷ only test l) (only test l) ++ if (test x) (x ∷ []) []
    go true e = ap (λ (r : List ℕ). y ∷ r) e
    go false e = e

rim_push : (g : ℕ → Point) (es xs : List ℕ) (k : ℕ) → rim_points g es (xs ++ k ∷ []) ≡ rim_points g es xs ++ map g (if (rim_edge_at es (k / 2)) (k / 2 ∷ []) [])
rim_push g es xs k =
    ap (λ (l : List ℕ). map g (only (rim_edge_at es) l)) (map-append (λ h. h / 2) xs (k ∷ []))
    ∙ ap (map g) (only-push (rim_edge_at es) (map (λ h. h / 2) xs) (k / 2))
    ∙ map-append g (only (rim_edge_at es) (map (λ h. h / 2) xs)) (if (rim_edge_at es (k / 2)) (k / 2 ∷ []) [])

pub joins-rim : (g : ℕ → Point) (es : List ℕ) (p : Point) (xs : List ℕ) (k : ℕ) {s t : Sum} → s ≡ summed p (rim_points g es xs) → t ≡ joined (rim_edge_at es (k / 2)) s (g (k / 2)) →
    t ≡ summed p (rim_points g es (xs ++ k ∷ []))
unfolding joined
joins-rim g es p xs k {s} {t} hs e = rw (rim_push g es xs k) (go (rim_edge_at es (k / 2)) e)
  where
    go : (b : Bool) → t ≡ joined b s (g (k / 2)) → t ≡ summed p (rim_points g es xs ++ map g (if b (k / 2 ∷ []) []))
    go true q = q ∙ rw hs (summed-push p (rim_points g es xs) (g (k / 2)))
    go false q = q ∙ hs ∙ ap (summed p) (sym (append-nil (rim_points g es xs)))

pub joined-yes : {b : Bool} (s : Sum) (p : Point) {q : Point} → b ≡ true → q ≡ add_p s.total p → record { total = q; count = s.count + 1 } ≡ joined b s p
unfolding joined
joined-yes s p t e = rw (t, e)

pub joined-no : {b : Bool} (s : Sum) (p : Point) → b ≡ false → s ≡ joined b s p
unfolding joined
joined-no s p t = rw t

more-rim : (g : ℕ → Point) (es : List ℕ) (x : ℕ) (l : List ℕ) → length (rim_points g es (x ∷ l)) ≤ suc (length (rim_points g es l))
unfolding only
more-rim g es x l = go (rim_edge_at es (x / 2)) refl
  where
    go : (b : Bool) → rim_edge_at es (x / 2) ≡ b → length (rim_points g es (x ∷ l)) ≤ suc (length (rim_points g es l))
    go true r = rw r (omega arith)
    go false r = rw r (omega arith)

few-rim : (g : ℕ → Point) (es l : List ℕ) → length (rim_points g es l) ≤ length l
unfolding only
few-rim g es [] = omega arith
few-rim g es (x ∷ l) = let m = more-rim g es x l in let r = few-rim g es l in omega arith

pub few-sum : (g : ℕ → Point) (es l : List ℕ) (p : Point) {s : Sum} → s ≡ summed p (rim_points g es l) → s.count ≤ length l
unfolding summed
few-sum g es l p e = rw e (few-rim g es l)

-- ---- both sums around an interior vertex
pub ring-none : (f g : ℕ → Point) → record { faces = zero_p; heads = record { total = zero_p; count = 0 } } ≡ ring_of f g []
unfolding ring_of summed plus
ring-none f g = refl

pub ring-more : (f g : ℕ → Point) (xs : List ℕ) (k : ℕ) {a a' x y : Point} {s s' : Sum} → record { faces = a; heads = s } ≡ ring_of f g xs → x ≡ f k → y ≡ g k → a' ≡ add_p a x → s' ≡ more s y →
    record { faces = a'; heads = s' } ≡ ring_of f g (xs ++ k ∷ [])
unfolding ring_of
ring-more f g xs k {a} {a'} {x} {y} {s} {s'} e hx hy ha hs =
    let p : a ≡ plus zero_p (map f xs) = ap (λ (r : Ring). r.faces) e in
    let q : s ≡ summed zero_p (map g xs) = ap (λ (r : Ring). r.heads) e in
    let m : s' ≡ summed zero_p (map g (xs ++ k ∷ [])) = summed-more zero_p g xs k q hy hs in
    rw (m, ha, hx, p, map-append f xs (k ∷ []), plus-push zero_p (map f xs) (f k))

pub ring-count : (f g : ℕ → Point) (xs : List ℕ) {r : Ring} → r ≡ ring_of f g xs → r.heads.count ≡ length xs
unfolding ring_of
ring-count f g xs {r} e = summed-count zero_p g xs (ap (λ (r : Ring). r.heads) e)

-- ---- a vertex's point
module _ (c : Counts) (outs es : List ℕ) (ps : List Float) (f g : ℕ → Point) (v : ℕ) {update : Bool} {p : Point} (hp : p ≡ point_at ps v) where
  pub vertex-still : update ≡ false → p ≡ vertex_by f g update (mesh_of c outs es []) ps v
  unfolding vertex_by
  vertex-still u = hp ∙ rw u

  pub vertex-alone : {q : Point} → update ≡ true → link_at outs v ≡ NONE → q ≡ over_p p (number 1) → q ≡ vertex_by f g update (mesh_of c outs es []) ps v
  unfolding vertex_by rim_by around only plus
  vertex-alone u o h = h ∙ rw (u, eq-eqb (link_at outs v) NONE o, hp)

  module _ (h : ℕ) (o : h ≡ link_at outs v) (u : update ≡ true) (ne : h ≢ NONE) where
    pub vertex-rim : {q : Point} {s : Sum} → rim_at es h ≡ true → s ≡ summed p (rim_points g es (turns_at es c.e h)) → q ≡ over_p s.total (number (s.count + 1)) →
        q ≡ vertex_by f g update (mesh_of c outs es []) ps v
    unfolding vertex_by rim_by around summed
    vertex-rim r e d =
        let no : eqb (link_at outs v) NONE ≡ false = ne_eqb (link_at outs v) NONE (λ z. ne (o ∙ z)) in
        let rm : rim_at es (link_at outs v) ≡ true = rw o at r in
        let l = only (rim_edge_at es) (map (λ h. h / 2) (turns_at es c.e (link_at outs v))) in
        d ∙ rw (u, no, rm, e, o, hp, length-map l g, add-one (length l))

    pub vertex-inner : {q : Point} {r : Ring} → rim_at es h ≡ false → r ≡ ring_of (λ k. f (face_at es k)) (head_point es ps) (turns_at es c.e h) → q ≡ cc_inner r.faces r.heads.total p r.heads.count →
        q ≡ vertex_by f g update (mesh_of c outs es []) ps v
    unfolding vertex_by inner_by around heads ring_of summed
    vertex-inner n e d =
        let no : eqb (link_at outs v) NONE ≡ false = ne_eqb (link_at outs v) NONE (λ z. ne (o ∙ z)) in
        let rm : rim_at es (link_at outs v) ≡ false = rw o at n in
        d ∙ rw (u, no, rm, e, o, hp, length-map (turns_at es c.e (link_at outs v)) (head_point es ps))

pub out-lt : (c : Counts) (outs es : List ℕ) → Outs c outs es → (v h : ℕ) → v < c.v → h ≡ link_at outs v → h ≢ NONE → h < 2 * c.e
out-lt c outs es o v h l e ne = rw e (o.out_in v l (λ z. ne (e ∙ z)))

-- what an interior vertex's halfedges are
pub not-rim : (c : Counts) (outs es : List ℕ) → Outs c outs es → (v h : ℕ) → v < c.v → h ≡ link_at outs v → h ≢ NONE → rim_at es h ≡ false → Inside es h
not-rim c outs es o v h l e ne r =
    let no : eqb (link_at outs v) NONE ≡ false = ne_eqb (link_at outs v) NONE (λ z. ne (e ∙ z)) in
    let rm : rim_at es (link_at outs v) ≡ false = rw e at r in
    rw e (o.inner v l (rw (no, rm)))

-- ---- what a walk meets
map_same : {P : ℕ → Type 0} (f g : ℕ → Point) → ((k : ℕ) → P k → f k ≡ g k) → {l : List ℕ} → Every P l → map f l ≡ map g l
map_same f g e end = refl
map_same f g e (also {x} p r) = rw (e x p, map_same f g e r)

only_one : (test : ℕ → Bool) (f g : ℕ → Point) (x : ℕ) (l : List ℕ) → f x ≡ g x → map f (only test l) ≡ map g (only test l) →
    map f (only test (x ∷ l)) ≡ map g (only test (x ∷ l))
unfolding only
only_one test f g x l e r = go (test x) refl
  where
    go : (b : Bool) → test x ≡ b → map f (only test (x ∷ l)) ≡ map g (only test (x ∷ l))
    go true t = rw (t, e, r)
    go false t = rw (t, r)

only_same : {P : ℕ → Type 0} (test : ℕ → Bool) (f g : ℕ → Point) → ((k : ℕ) → P k → f (k / 2) ≡ g (k / 2)) → {l : List ℕ} → Every P l →
    map f (only test (map (λ h. h / 2) l)) ≡ map g (only test (map (λ h. h / 2) l))
unfolding only
only_same test f g e end = refl
only_same test f g e (also {x} {l} p r) = only_one test f g (x / 2) (map (λ h. h / 2) l) (e x p) (only_same test f g e r)

-- what is met from h among the edges, and what lies inside
module _ (c : Counts) (es : List ℕ) (hs : Halves c es) where
  turn_in : (k : ℕ) → k < 2 * c.e → turn_at es k < 2 * c.e
  turn_in k l = partner-lt _ c.e (hs.prev_in k l)

  pub met : (h : ℕ) → h < 2 * c.e → Every (λ k. k < 2 * c.e) (turns_at es c.e h)
  met h l = every (λ k. k < 2 * c.e) h (turn_at es) turn_in (2 * c.e) h l

  pub inside_on : {h : ℕ} → Inside es h → Inside es (turn_at es h)
  unfolding after
  inside_on i = record { faced = λ n. i.faced (suc n) }

  pub inside-here : {h : ℕ} → Inside es h → rim_at es h ≡ false
  unfolding after
  inside-here i = i.faced 0

  pub faced : (h : ℕ) → h < 2 * c.e → Inside es h → Every (λ k. (k < 2 * c.e) × (face_at es k < c.f)) (turns_at es c.e h)
  faced h l i = weaken (λ k p. (p.0, faced-in c es hs k p.0 (inside-here p.1))) (every (λ k. (k < 2 * c.e) × Inside es k) h (turn_at es) (λ k p. (turn_in k p.0, inside_on p.1)) (2 * c.e) h (l, i))

either_same : {A : Type 0} (b : Bool) (x y x' y' : A) → (b ≡ true → x ≡ x') → (b ≡ false → y ≡ y') → if b x y ≡ if b x' y'
either_same true x y x' y' h k = h refl
either_same false x y x' y' h k = k refl

-- ---- a vertex's point: the face points that it takes are those of faces, the edge points those of edges
module _ (c : Counts) (outs es fs : List ℕ) (ps : List Float) (hs : Halves c es) (os : Outs c outs es) (f f' g g' : ℕ → Point)
    (ff : (i : ℕ) → i < c.f → f i ≡ f' i) where
  rim-same : ((i : ℕ) → i < c.e → g i ≡ g' i) → (v : ℕ) → v < c.v → rim_by g (mesh_of c outs es []) ps v ≡ rim_by g' (mesh_of c outs es fs) ps v
  unfolding rim_by around only
  rim-same gg v l = go (eqb (link_at outs v) NONE) refl
    where
      go : (b : Bool) → eqb (link_at outs v) NONE ≡ b → rim_by g (mesh_of c outs es []) ps v ≡ rim_by g' (mesh_of c outs es fs) ps v
      go true t = rw t
      go false t =
          let m = met c es hs (link_at outs v) (os.out_in v l (eqb-false (link_at outs v) NONE t)) in
          rw (t, only_same (rim_edge_at es) g g' (λ k b. gg (k / 2) (omega arith)) m)

  inner-same : (v : ℕ) → v < c.v → rim_vertex_at outs es v ≡ false → inner_by f (mesh_of c outs es []) ps v ≡ inner_by f' (mesh_of c outs es fs) ps v
  unfolding inner_by around heads
  inner-same v l r =
      let n = neither (eqb (link_at outs v) NONE) (rim_at es (link_at outs v)) r in
      let m = faced c es hs (link_at outs v) (os.out_in v l (eqb-false (link_at outs v) NONE n.0)) (os.inner v l r) in
      rw (n.0, map_same (λ h. f (face_at es h)) (λ h. f' (face_at es h)) (λ k b. ff (face_at es k) b.1) m)

  pub vertex-same : (update : Bool) → (update ≡ true → (i : ℕ) → i < c.e → g i ≡ g' i) → (v : ℕ) → v < c.v →
      vertex_by f g update (mesh_of c outs es []) ps v ≡ vertex_by f' g' update (mesh_of c outs es fs) ps v
  unfolding vertex_by
  vertex-same update gg v l =
      same_if update _ _ _
      (λ u. either_same (rim_vertex_at outs es v) _ _ _ _ (λ t. rim-same (gg u) v l) (λ t. inner-same v l t))

-- ---- the whole pass: scope's rules are these, with the face points and the edge points themselves
edge-is : (update : Bool) (m : Links) (ps : List Float) (e : ℕ) → edge_by (face_point m ps) update m ps e ≡ catmull_edge update m ps e
unfolding edge_by catmull_edge
edge-is update m ps e = refl

vertex-is : (update : Bool) (m : Links) (ps : List Float) (v : ℕ) → vertex_by (face_point m ps) (catmull_edge true m ps) update m ps v ≡ catmull_vertex update m ps v
unfolding vertex_by catmull_vertex rim_by catmull_rim inner_by catmull_inner
vertex-is update m ps v = refl

face_is : (c : Counts) (outs es fs : List ℕ) (ps : List Float) (f : ℕ) → face_point (mesh_of c [] es fs) ps f ≡ face_point (mesh_of c outs es fs) ps f
unfolding face_point loop heads
face_is c outs es fs ps f = refl

module _ (c : Counts) (outs es fs : List ℕ) (ps w₀ : List Float) (update : Bool) (hs : Halves c es) (os : Outs c outs es) (room : 3 * (c.v + c.e + c.f) ≤ length w₀) where
  -- the work slice after the faces, the edges, the vertices
  module _ {w₁ w₂ w₃ : List Float}
      (h₁ : w₁ ≡ place (3 * (c.v + c.e)) (made (face_point (mesh_of c [] es fs) ps) c.f) w₀)
      (h₂ : w₂ ≡ place (3 * c.v) (made (edge_by (slot w₁ (c.v + c.e)) update (mesh_of c [] es []) ps) c.e) w₁)
      (h₃ : w₃ ≡ place 0 (made (vertex_by (slot w₂ (c.v + c.e)) (slot w₂ c.v) update (mesh_of c outs es []) ps) c.v) w₂) where
    pub catmull-whole : w₃ ≡ over (catmull_points update (mesh_of c outs es fs) ps) w₀
    unfolding catmull_points
    catmull-whole =
        let m = mesh_of c outs es fs in
        let l₁ : length w₁ ≡ length w₀ = length-laid _ _ _ h₁ in
        let e₁ : w₁ ≡ place (3 * (c.v + c.e)) (made (face_point m ps) c.f) w₀ =
        h₁ ∙ rw (made-same (face_point (mesh_of c [] es fs) ps) (face_point m ps) c.f (λ k l. face_is c outs es fs ps k)) in
        let f₁ : (i : ℕ) → i < c.f → slot w₁ (c.v + c.e) i ≡ face_point m ps i =
        λ i l. rw e₁ (made-read (face_point m ps) c.f (c.v + c.e) i w₀ l (omega arith)) in
        let e₂ : w₂ ≡ place (3 * c.v) (made (catmull_edge update m ps) c.e) w₁ =
        h₂ ∙ rw (made-same (edge_by (slot w₁ (c.v + c.e)) update (mesh_of c [] es []) ps) (catmull_edge update m ps) c.e
        (λ k l. edge_same c outs es fs ps hs (slot w₁ (c.v + c.e)) (face_point m ps) f₁ update k l ∙ edge-is update m ps k)) in
        let f₂ : (i : ℕ) → i < c.f → slot w₂ (c.v + c.e) i ≡ face_point m ps i =
        λ i l. laid-behind (catmull_edge update m ps) c.e c.v w₁ e₂ (c.v + c.e + i) (omega arith) ∙ f₁ i l in
        let g₂ : update ≡ true → (i : ℕ) → i < c.e → slot w₂ c.v i ≡ catmull_edge true m ps i =
        λ u i l.
        (let r : slot w₂ c.v i ≡ catmull_edge update m ps i = rw e₂ (made-read (catmull_edge update m ps) c.e c.v i w₁ l (omega arith)) in
        r ∙ ap (λ (b : Bool). catmull_edge b m ps i) u) in
        let e₃ : w₃ ≡ place 0 (made (catmull_vertex update m ps) c.v) w₂ =
        h₃ ∙ rw (made-same (vertex_by (slot w₂ (c.v + c.e)) (slot w₂ c.v) update (mesh_of c outs es []) ps) (catmull_vertex update m ps) c.v
        (λ k l. vertex-same c outs es fs ps hs os (slot w₂ (c.v + c.e)) (face_point m ps) (slot w₂ c.v) (catmull_edge true m ps) f₂ update g₂ k l ∙ vertex-is update m ps k)) in
        e₃ ∙ rw (e₂, e₁) (whole (catmull_vertex update m ps) (catmull_edge update m ps) (face_point m ps) c.v c.e c.f w₀)
