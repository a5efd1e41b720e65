-- The vertices of Loop and sqrt3 by cases, as the code takes them. Assumes nothing.
use Prim.Native.Nat.{ℕ, zero, suc, ◌+◌, ◌-◌, ◌*◌, ◌≤◌, ◌<◌}
use mathlib.Core.Path.{◌≡◌, refl, sym, ap, ◌∙◌}
use mathlib.Core.Bool.{Bool, true, false, not}
use mathlib.Core.Logic.{◌≢◌}
use mathlib.Core.List.{List, [], map}
use Rattle.std.specs.Prelude.{Option, None, Some, Ok, Err}
use native.Mathlib.Nat.{add-zero, add-suc}
use native.Mathlib.Numerals.{add-one}
use native.Mathlib.Omega.{arith}
use lib.Dec.{eqb, ltb}
use lib.ListN.{length, get_or}
use lib.Ieee.{Float}
use Rattle.std.proofs.lemmas.List.{length-map}
use borrow.Author.Tests.{eqb-true, eqb-false, eq-eqb, ne_eqb, ltb-true}
use Rattle.scope.specs.declared.records.Point.{Point}
use Rattle.scope.specs.declared.records.Counts.{Counts}
use Rattle.scope.specs.declared.records.Weights.{Weights}
use Rattle.scope.specs.Point.{zero_p}
use Rattle.scope.specs.Rules.{weighted}
use Rattle.scope.specs.Lists.{if, ◌or_else◌, first, round}
use Rattle.scope.specs.Links.{Links, NONE, rim_vertex, around}
use Rattle.scope.specs.Points.{point_at, plus, heads, on_rim}
use Rattle.scope.specs.Schemes.{crowded}
use Rattle.scope.specs.Weights.{row}
use Rattle.mesh.specs.Words.{link_at, prev_at, turn_at, put_point}
use Rattle.mesh.specs.Rounds.{rim_at, rim_vertex_at, turns_at, around_at}
use Rattle.points_catmull.specs.declared.sums.Sum.{Sum}
use Rattle.points_catmull.specs.Sums.{Outs, mesh_of, head_point, summed}
use Rattle.points_catmull.proofs.PlaceLaws.{made-first}
use Rattle.points_weights.specs.Tables.{no_row, table, found}
use Rattle.points_weights.proofs.TableLaws.{table-row}
use Rattle.points_catmull.specs.Place.{place, made}
use Rattle.points_triangles.specs.Passes.{reached, Smoothed}
use Rattle.points_triangles.specs.declared.inner.Moved.{Moved}
use Rattle.points_triangles.specs.declared.inner.Moved.TheVariants.{To, By}
use Rattle.points_triangles.specs.Vertices.{tail_point, weighed, unless_heavy, inner_move, heavy, vertex_of, vertex_move, moved_vertex}

-- ---- which row
found-row : (n i : ℕ) → found n ≡ Some i → (ltb n 64 ≡ true) × (i ≡ n)
unfolding found
found-row n i e = go (ltb n 64) refl
  where
    go : (b : Bool) → ltb n 64 ≡ b → (ltb n 64 ≡ true) × (i ≡ n)
    go true t = let q : Some n ≡ Some i = rw t at e in (t, cc)
    go false t = let q : None ≡ Some i = rw t at e in cc

found_none : (n : ℕ) → found n ≡ None → ltb n 64 ≡ false
unfolding found
found_none n e = go (ltb n 64) refl
  where
    go : (b : Bool) → ltb n 64 ≡ b → ltb n 64 ≡ false
    go true t = let q : Some n ≡ None = rw t at e in cc
    go false t = t

-- ---- an interior vertex
module _ (es : List ℕ) (n : ℕ) (ps : List Float) (h : ℕ) (p : Point) {s : Sum} (e : s ≡ summed zero_p (map (head_point es ps) (turns_at es n h))) where
  count-is : s.count ≡ length (turns_at es n h)
  unfolding summed
  count-is = ap (λ (t : Sum). t.count) e ∙ length-map (turns_at es n h) (head_point es ps)

  pub inner-row : {i : ℕ} → found s.count ≡ Some i → Some (By i s.total p) ≡ inner_move es n ps h p
  unfolding inner_move unless_heavy summed
  inner-row {i} r =
      let f = found-row s.count i r in
      let l : ltb (length (turns_at es n h)) 64 ≡ true = rw count-is at f.0 in
      let t : s.total ≡ plus zero_p (map (head_point es ps) (turns_at es n h)) = ap (λ (t : Sum). t.total) e in
      rw (l, t, f.1 ∙ count-is)

  pub inner-none : found s.count ≡ None → None ≡ inner_move es n ps h p
  unfolding inner_move unless_heavy
  inner-none r =
      let l : ltb (length (turns_at es n h)) 64 ≡ false = rw count-is at (found_none s.count r) in
      rw l

-- ---- a vertex
module _ (rim : Point → Point → Point → Point) (c : Counts) (outs es : List ℕ) (ps : List Float) (v : ℕ) {p : Point} (hp : p ≡ point_at ps v) where
  pub move-alone : link_at outs v ≡ NONE → Some (To p) ≡ vertex_move rim (mesh_of c outs es []) ps v
  unfolding vertex_move unless_heavy heavy on_rim
  move-alone o = rw (eq-eqb (link_at outs v) NONE o, hp)

  module _ (h : ℕ) (o : h ≡ link_at outs v) (ne : h ≢ NONE) where
    pub move-rim : {q : Point} → rim_at es h ≡ true → q ≡ rim p (head_point es ps h) (tail_point es ps (prev_at es h)) →
        Some (To q) ≡ vertex_move rim (mesh_of c outs es []) ps v
    unfolding vertex_move unless_heavy heavy on_rim
    move-rim r d =
        let no : eqb (link_at outs v) NONE ≡ false = ne_eqb (link_at outs v) NONE (λ z. ne (o ∙ z)) in
        let rm : rim_at es (link_at outs v) ≡ true = rw o at r in
        rw (no, rm, d, o, hp)

    pub move-inner : {q : Option Moved} → rim_at es h ≡ false → q ≡ inner_move es c.e ps h p → q ≡ vertex_move rim (mesh_of c outs es []) ps v
    unfolding vertex_move heavy inner_move around heads
    move-inner r d =
        let no : eqb (link_at outs v) NONE ≡ false = ne_eqb (link_at outs v) NONE (λ z. ne (o ∙ z)) in
        let rm : rim_at es (link_at outs v) ≡ false = rw o at r in
        d ∙ rw (no, rm, o, hp)

-- an interior vertex that is not heavy
pub not-heavy : (m : Links) (v : ℕ) → rim_vertex m v ≡ false → heavy m v ≡ false → ltb (length (around m v)) 64 ≡ true
unfolding heavy
not-heavy m v r h = not-false' (ltb (length (around m v)) 64) (rw r at h)
  where
    not-false' : (b : Bool) → not b ≡ false → b ≡ true
    not-false' true e = refl
    not-false' false e = absurd (let y : ◌≡◌ {A = ℕ} 0 1 = cc in omega arith)

-- ---- how it goes, or that it does not
unless_none : {A : Type 0} (b : Bool) (x : A) → None ≡ unless_heavy b x → b ≡ true
unfolding unless_heavy
unless_none true x e = refl
unless_none false x e = cc

unless-some : {A : Type 0} (b : Bool) (x y : A) → Some y ≡ unless_heavy b x → (b ≡ false) × (y ≡ x)
unfolding unless_heavy
unless-some true x y e = cc
unless-some false x y e = (refl, cc)

-- how it goes, weighed by rows, is where it goes
module _ (rim : Point → Point → Point → Point) (m : Links) (ps : List Float) (v : ℕ) {r : Option Moved} (e : r ≡ vertex_move rim m ps v) where
  pub point-none : (rows : List Weights) → r ≡ None → None ≡ moved_vertex rows rim m ps v
  unfolding vertex_move moved_vertex unless_heavy
  point-none rows t = let h = unless_none (heavy m v) _ (sym t ∙ e) in rw h

  some-is : {x : Moved} → r ≡ Some x → (heavy m v ≡ false) × (x ≡ if (rim_vertex m v) (To (on_rim rim m ps v)) (By (length (around m v)) (heads m ps (around m v)) (point_at ps v)))
  unfolding vertex_move
  some-is t = unless-some (heavy m v) _ _ (sym t ∙ e)

  pub point-to : (rows : List Weights) {p : Point} → r ≡ Some (To p) → Some p ≡ moved_vertex rows rim m ps v
  unfolding moved_vertex vertex_of unless_heavy
  point-to rows {p} t = go (rim_vertex m v) refl
    where
      go : (b : Bool) → rim_vertex m v ≡ b → Some p ≡ moved_vertex rows rim m ps v
      go true k =
          let q : To p ≡ To (on_rim rim m ps v) = rw k at (some-is t).1 in
          let o : p ≡ on_rim rim m ps v = cc in
          rw ((some-is t).0, k, o)
      go false k = let q : To p ≡ By (length (around m v)) (heads m ps (around m v)) (point_at ps v) = rw k at (some-is t).1 in cc

  module _ {i : ℕ} {ns p : Point} (t : r ≡ Some (By i ns p)) where
    by-is : (rim_vertex m v ≡ false) × (By i ns p ≡ By (length (around m v)) (heads m ps (around m v)) (point_at ps v))
    by-is = go (rim_vertex m v) refl
      where
        go : (b : Bool) → rim_vertex m v ≡ b → (rim_vertex m v ≡ false) × (By i ns p ≡ By (length (around m v)) (heads m ps (around m v)) (point_at ps v))
        go true k = let q : By i ns p ≡ To (on_rim rim m ps v) = rw k at (some-is t).1 in cc
        go false k = (k, rw k at (some-is t).1)

    pub by_row : i < 64
    by_row =
        let q = by-is.1 in
        let n : i ≡ length (around m v) = cc in
        let l = ltb-true (length (around m v)) 64 (not-heavy m v by-is.0 (some-is t).0) in
        omega arith

    pub point-by : (rows : List Weights) {w : Weights} {x : Point} → w ≡ get_or rows i no_row → x ≡ weighted ns p w.first w.second → Some x ≡ moved_vertex rows rim m ps v
    unfolding moved_vertex vertex_of weighed unless_heavy
    point-by rows hw hx =
        let q = by-is.1 in
        let n : i ≡ length (around m v) = cc in
        let s : ns ≡ heads m ps (around m v) = cc in
        let o : p ≡ point_at ps v = cc in
        rw ((some-is t).0, by-is.0, hx, hw, n, s, o)

module _ (rows : List Weights) (rim : Point → Point → Point → Point) (m : Links) (ps : List Float) (v : ℕ) where
  pub moved_none : None ≡ moved_vertex rows rim m ps v → heavy m v ≡ true
  unfolding moved_vertex
  moved_none e = unless_none (heavy m v) (vertex_of rows rim m ps v) e

  pub moved-some : {q : Point} → Some q ≡ moved_vertex rows rim m ps v → (heavy m v ≡ false) × (q ≡ vertex_of rows rim m ps v)
  unfolding moved_vertex
  moved-some {q} e = unless-some (heavy m v) (vertex_of rows rim m ps v) q e

-- ---- the lowest that is heavy: what is below it is not
unfoldable pub lowest : Links → ℕ → Option ℕ
lowest m n = first n (λ v. not (rim_vertex m v)) (λ v. ltb (length (around m v)) 64)

lowest-is : (m : Links) → crowded m ≡ lowest m m.nv
unfolding crowded lowest
lowest-is m = refl

pub lowest-zero : (m : Links) → lowest m 0 ≡ None
unfolding first lowest
lowest-zero m = refl

lowest-suc : (m : Links) (n : ℕ) → lowest m (suc n) ≡ lowest m n or_else if (heavy m n) (Some n) None
unfolding first heavy lowest
lowest-suc m n = refl

lowest-next : (m : Links) (v : ℕ) → lowest m v ≡ None → heavy m v ≡ false → lowest m (v + 1) ≡ None
lowest-next m v e h = rw (add-one v, lowest-suc m v, e, h)

lowest-stays : (m : Links) (v k d : ℕ) → lowest m k ≡ Some v → lowest m (k + d) ≡ Some v
lowest-stays m v k zero e = rw (add-zero k) e
lowest-stays m v k (suc d) e = rw (add-suc k d, lowest-suc m (k + d), lowest-stays m v k d e)

lowest-here : (m : Links) (v n : ℕ) → lowest m v ≡ None → heavy m v ≡ true → v < n → lowest m n ≡ Some v
lowest-here m v n e h l =
    let k : suc v + (n - suc v) ≡ n = omega arith in
    let s : lowest m (suc v) ≡ Some v = rw (lowest-suc m v, e, h) in
    rw k at (lowest-stays m v (suc v) (n - suc v) s)

none_here : (m : Links) (n : ℕ) → lowest m (suc n) ≡ None → (lowest m n ≡ None) × (heavy m n ≡ false)
none_here m n e = go (lowest m n) (heavy m n) refl refl
  where
    go : (o : Option ℕ) (b : Bool) → lowest m n ≡ o → heavy m n ≡ b → (lowest m n ≡ None) × (heavy m n ≡ false)
    go None false p q = (p, q)
    go None true p q = let z : Some n ≡ None = rw (lowest-suc m n, p, q) at e in absurd (let y : ◌≡◌ {A = ℕ} 0 1 = cc in omega arith)
    go (Some v) b p q = let z : Some v ≡ None = rw (lowest-suc m n, p) at e in absurd (let y : ◌≡◌ {A = ℕ} 0 1 = cc in omega arith)

below_step : (m : Links) (n k : ℕ) → k < suc n → heavy m n ≡ false → (k < n → heavy m k ≡ false) → heavy m k ≡ false
below_step m n k l h r = go (eqb k n) refl
  where
    go : (b : Bool) → eqb k n ≡ b → heavy m k ≡ false
    go true t = rw (eqb-true k n t) h
    go false t = let q = eqb-false k n t in r (omega arith)

below_none : (m : Links) (n : ℕ) → lowest m n ≡ None → (k : ℕ) → k < n → heavy m k ≡ false
below_none m zero e k l = absurd (omega arith)
below_none m (suc n) e k l = below_step m n k l (none_here m n e).1 (λ b. below_none m n (none_here m n e).0 k b)

some-step : (m : Links) (n v : ℕ) → lowest m (suc n) ≡ Some v → (lowest m n ≡ Some v → lowest m v ≡ None) → lowest m v ≡ None
some-step m n v e r = go (lowest m n) (heavy m n) refl refl
  where
    go : (o : Option ℕ) (b : Bool) → lowest m n ≡ o → heavy m n ≡ b → lowest m v ≡ None
    go (Some u) b p q =
        let z : Some u ≡ Some v = rw (lowest-suc m n, p) at e in
        r (p ∙ z)
    go None true p q =
        let z : Some n ≡ Some v = rw (lowest-suc m n, p, q) at e in
        let y : n ≡ v = cc in
        rw y at p
    go None false p q = let z : None ≡ Some v = rw (lowest-suc m n, p, q) at e in absurd (let y : ◌≡◌ {A = ℕ} 0 1 = cc in omega arith)

none_below : (m : Links) (n v : ℕ) → lowest m n ≡ Some v → lowest m v ≡ None
none_below m zero v e = let z : None ≡ Some v = rw (lowest-zero m) at e in absurd (let y : ◌≡◌ {A = ℕ} 0 1 = cc in omega arith)
none_below m (suc n) v e = some-step m n v e (λ q. none_below m n v q)

lt-step : (m : Links) (n v : ℕ) → lowest m (suc n) ≡ Some v → (lowest m n ≡ Some v → v < n) → v < suc n
lt-step m n v e r = go (lowest m n) (heavy m n) refl refl
  where
    go : (o : Option ℕ) (b : Bool) → lowest m n ≡ o → heavy m n ≡ b → v < suc n
    go (Some u) b p q =
        let z : Some u ≡ Some v = rw (lowest-suc m n, p) at e in
        let l = r (p ∙ z) in
        omega arith
    go None true p q =
        let z : Some n ≡ Some v = rw (lowest-suc m n, p, q) at e in
        let y : n ≡ v = cc in
        omega arith
    go None false p q = let z : None ≡ Some v = rw (lowest-suc m n, p, q) at e in absurd (let y : ◌≡◌ {A = ℕ} 0 1 = cc in omega arith)

lowest-lt : (m : Links) (n v : ℕ) → lowest m n ≡ Some v → v < n
lowest-lt m zero v e = let z : None ≡ Some v = rw (lowest-zero m) at e in absurd (let y : ◌≡◌ {A = ℕ} 0 1 = cc in omega arith)
lowest-lt m (suc n) v e = lt-step m n v e (λ q. lowest-lt m n v q)

pub reached-le : (m : Links) (o : Option ℕ) → crowded m ≡ o → reached o m.nv ≤ m.nv
reached-le m None e = omega arith
reached-le m (Some v) e = let l = lowest-lt m m.nv v (sym (lowest-is m) ∙ e) in omega arith

-- the vertices that are done have weights
pub light : (m : Links) (o : Option ℕ) → crowded m ≡ o → (k : ℕ) → k < reached o m.nv → heavy m k ≡ false
light m None e k l = below_none m m.nv (sym (lowest-is m) ∙ e) k l
light m (Some v) e k l = below_none m v (none_below m m.nv v (sym (lowest-is m) ∙ e)) k l

-- ---- one vertex more
pub put_next : (m : Links) (F : ℕ → Point) (w₀ : List Float) (v n : ℕ) {q : Point} {w w' : List Float} → v < n → w ≡ place 0 (made F v) w₀ → lowest m v ≡ None →
    (heavy m v ≡ false) × (q ≡ F v) → 3 * v + 2 < length w₀ → w' ≡ put_point w v q → (v + 1 ≤ n) × (w' ≡ place 0 (made F (v + 1)) w₀) × (lowest m (v + 1) ≡ None)
put_next m F w₀ v n {q} b hw l p room h = (omega arith, h ∙ rw hw (made-first F v w₀ q p.1 room), lowest-next m v l p.0)

-- ---- the vertices are done to the end, or up to one that is heavy
pub put_all : (m : Links) (F : ℕ → Point) (w₀ : List Float) {n : ℕ} {w : List Float} → n ≡ m.nv → lowest m n ≡ None → w ≡ place 0 (made F n) w₀ →
    Smoothed (crowded m) (Ok tt) w (place 0 (made F (reached (crowded m) m.nv)) w₀)
put_all m F w₀ e l h =
    let o : crowded m ≡ None = lowest-is m ∙ (rw e at l) in
    rw o (record { answer = refl; content = rw e at h })

pub put_some : (m : Links) (F : ℕ → Point) (w₀ : List Float) {v : ℕ} {w : List Float} → v < m.nv → lowest m v ≡ None → heavy m v ≡ true → w ≡ place 0 (made F v) w₀ →
    Smoothed (crowded m) (Err v) w (place 0 (made F (reached (crowded m) m.nv)) w₀)
put_some m F w₀ {v} b l t h =
    let o : crowded m ≡ Some v = lowest-is m ∙ lowest-here m v m.nv l t b in
    rw o (record { answer = refl; content = h })

-- ---- with the weights of a table these are scope's vertices
some-round : (s : ℕ) (step : ℕ → ℕ) (n x : ℕ) → 0 < n → 0 < length (round s step n x)
unfolding round
some-round s step zero x l = absurd (omega arith)
some-round s step (suc n) x l = omega arith

pub valence-pos : (c : Counts) (outs es : List ℕ) → Outs c outs es → (v : ℕ) → v < c.v → rim_vertex_at outs es v ≡ false → 0 < length (around_at outs es c.e v)
valence-pos c outs es o v l r = go (eqb (link_at outs v) NONE) refl
  where
    go : (b : Bool) → eqb (link_at outs v) NONE ≡ b → 0 < length (around_at outs es c.e v)
    go true t = let z : true ≡ false = rw t at r in absurd (let y : ◌≡◌ {A = ℕ} 0 1 = cc in omega arith)
    go false t =
        let b = o.out_in v l (eqb-false (link_at outs v) NONE t) in
        rw t (some-round (link_at outs v) (turn_at es) (2 * c.e) (link_at outs v) (omega arith))

pub row_is : (rows : List Weights) (ds : List (ℕ × ℕ)) (ns p : Point) (n : ℕ) → rows ≡ table ds → length ds ≡ 64 → 0 < n → ltb n 64 ≡ true →
    weighed rows ns p n ≡ weighted ns p (row ds n).first (row ds n).second
unfolding weighed
row_is rows ds ns p n e s a l =
    let b : n < length ds = let q = ltb-true n 64 l in omega arith in
    rw (e, table-row ds n a b)
