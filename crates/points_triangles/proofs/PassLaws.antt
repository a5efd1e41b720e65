-- The parts of a pass of Loop and of sqrt3, laid into the work slice, are scope's points of the whole pass. Assumes nothing.
use Prim.Native.Nat.{ℕ, ◌+◌, ◌*◌, ◌<◌}
use mathlib.Core.Path.{◌≡◌, refl, sym, ap, ◌∙◌}
use mathlib.Core.Bool.{Bool, true, false}
use mathlib.Core.List.{List, [], ◌∷◌, ◌++◌, map}
use Rattle.std.specs.Prelude.{Option, None, Some, Result, Ok, Err, ⊤}
use native.Mathlib.Omega.{arith}
use lib.Dec.{eqb}
use lib.ListN.{length}
use lib.Ieee.{Float}
use Rattle.scope.specs.declared.records.Point.{Point}
use Rattle.scope.specs.declared.records.Counts.{Counts}
use Rattle.scope.specs.declared.records.Weights.{Weights}
use Rattle.scope.specs.Lists.{if, over, range}
use Rattle.scope.specs.Links.{NONE, loop, around}
use Rattle.scope.specs.Passes.{rim_side}
use Rattle.scope.specs.Points.{point_at, flat, heads, face_point, on_rim, inner, loop_vertex, loop_edge_point, loop_points, sqrt_vertex, sqrt_answer, answers, sqrt_points}
use Rattle.scope.specs.Rules.{loop_edge, loop_rim, middle}
use Rattle.scope.specs.Schemes.{crowded}
use Rattle.scope.specs.Weights.{loop_rows, sqrt_rows}
use Rattle.mesh.specs.Words.{link_at, next_at}
use Rattle.mesh.specs.Rounds.{rim_edge_at, rim_vertex_at, around_at}
use Rattle.mesh.proofs.RoundLaws.{rim-of}
use Rattle.points.proofs.PassThrough.{answer-centre, answer-pair}
use Rattle.scope.specs.declared.records.FacePoints.TheVariants.{Centre}
use Rattle.points_catmull.specs.Place.{place, made}
use Rattle.points_catmull.specs.Sums.{Outs, mesh_of, head_point}
use Rattle.points_catmull.proofs.PlaceLaws.{flat_append, made-same, length-made}
use Rattle.points_weights.specs.Tables.{table}
use Rattle.points_triangles.specs.Vertices.{heavy, weighed, vertex_of}
use Rattle.points_triangles.specs.Passes.{reached, Smoothed, loop_wants, loop_left, sqrt_left, sqrt_rule}
use Rattle.points_triangles.proofs.VertexLaws.{light, reached-le, not-heavy, valence-pos, row_is}

-- ---- an edge point of Loop
module _ (c : Counts) (es : List ℕ) (ps : List Float) (e : ℕ) {update : Bool} {a b q : Point} (ha : a ≡ head_point es ps (2 * e)) (hb : b ≡ head_point es ps (2 * e + 1)) where
  pub edge-still : update ≡ false → q ≡ middle a b → q ≡ loop_edge_point update (mesh_of c [] es []) ps e
  unfolding loop_edge_point
  edge-still u h = h ∙ rw (u, ha, hb)

  pub edge-rim : update ≡ true → rim_edge_at es e ≡ true → q ≡ middle a b → q ≡ loop_edge_point update (mesh_of c [] es []) ps e
  unfolding loop_edge_point
  edge-rim u r h = h ∙ rw (u, r, ha, hb)

  pub edge-inner : {x y : Point} → update ≡ true → rim_edge_at es e ≡ false → x ≡ head_point es ps (next_at es (2 * e)) → y ≡ head_point es ps (next_at es (2 * e + 1)) → q ≡ loop_edge a b x y →
      q ≡ loop_edge_point update (mesh_of c [] es []) ps e
  unfolding loop_edge_point
  edge-inner u r hx hy h = h ∙ rw (u, r, ha, hb, hx, hy)

-- ---- a vertex with its row is scope's
either : {A : Type 0} (b : Bool) (x y x' y' : A) → (b ≡ true → x ≡ x') → (b ≡ false → y ≡ y') → if b x y ≡ if b x' y'
either true x y x' y' h k = h refl
either false x y x' y' h k = k refl

module _ (c : Counts) (outs es fs : List ℕ) (ps : List Float) (os : Outs c outs es) (rows : List Weights) (v : ℕ) (l : v < c.v) (h : heavy (mesh_of c outs es []) v ≡ false) where
  inner-is : (ds : List (ℕ × ℕ)) → rows ≡ table ds → length ds ≡ 64 → rim_vertex_at outs es v ≡ false →
      weighed rows (heads (mesh_of c outs es []) ps (around (mesh_of c outs es []) v)) (point_at ps v) (length (around (mesh_of c outs es []) v)) ≡ inner ds (mesh_of c outs es fs) ps v
  unfolding inner around heads
  inner-is ds e s r =
      row_is rows ds (heads (mesh_of c outs es []) ps (around (mesh_of c outs es []) v)) (point_at ps v) (length (around_at outs es c.e v)) e s
      (valence-pos c outs es os v l r)
      (not-heavy (mesh_of c outs es []) v r h)

  loop-vertex-is : rows ≡ table loop_rows → vertex_of rows loop_rim (mesh_of c outs es []) ps v ≡ loop_vertex true (mesh_of c outs es fs) ps v
  unfolding vertex_of loop_vertex on_rim
  loop-vertex-is e = either (rim_vertex_at outs es v) _ _ _ _ (λ t. refl) (λ t. inner-is loop_rows e refl t)

  stays : (b : Bool) (p : Point) → if b p p ≡ p
  stays true p = refl
  stays false p = refl

  sqrt-vertex-is : rows ≡ table sqrt_rows → (flag : Bool) → vertex_of rows (sqrt_rule flag) (mesh_of c outs es []) ps v ≡ sqrt_vertex flag (mesh_of c outs es fs) ps v
  unfolding vertex_of sqrt_vertex on_rim
  sqrt-vertex-is e true = either (rim_vertex_at outs es v) _ _ _ _ (λ t. refl) (λ t. inner-is sqrt_rows e refl t)
  sqrt-vertex-is e false = either (rim_vertex_at outs es v) _ _ _ _ (λ t. stays (eqb (link_at outs v) NONE) (point_at ps v)) (λ t. inner-is sqrt_rows e refl t)

-- ---- what is laid behind a part may come after it
over-after : (a b old : List Float) → place (length a) b (over a old) ≡ over (a ++ b) old
unfolding place over
over-after [] b old = refl
over-after (x ∷ a) b [] = refl
over-after (x ∷ a) b (y ∷ old) = ap (λ (r : List Float). x ∷ r) (over-after a b old)

made-flat : (f : ℕ → Point) (n : ℕ) → made f n ≡ flat (map f (range 0 n))
unfolding made
made-flat f n = refl

two-parts : (f : ℕ → Point) (n : ℕ) (l : List Point) (w : List Float) → place (3 * n) (flat l) (place 0 (made f n) w) ≡ over (flat (map f (range 0 n) ++ l)) w
unfolding made place
two-parts f n l w = rw (flat_append (map f (range 0 n)) l, ← length-made f n) (over-after (made f n) (flat l) w)

-- the first n alone
part : (f g : ℕ → Point) (n : ℕ) (w : List Float) → ((k : ℕ) → k < n → f k ≡ g k) → place 0 (made f n) w ≡ over (flat (map g (range 0 n))) w
unfolding place
part f g n w e = rw (made-same f g n e, made-flat g n)

-- ---- Loop
module _ (c : Counts) (outs es : List ℕ) (ps w : List Float) (update : Bool) where
  edges-is : (k : ℕ) → loop_edge_point update (mesh_of c [] es []) ps k ≡ loop_edge_point update (mesh_of c outs es []) ps k
  unfolding loop_edge_point
  edges-is k = refl

  loop-whole : (f : ℕ → Point) {w₁ w₂ : List Float} → w₁ ≡ place 0 (made f c.v) w → ((k : ℕ) → k < c.v → f k ≡ loop_vertex update (mesh_of c outs es []) ps k) →
      w₂ ≡ place (3 * c.v) (made (loop_edge_point update (mesh_of c [] es []) ps) c.e) w₁ → w₂ ≡ over (loop_points update (mesh_of c outs es []) ps) w
  unfolding loop_points
  loop-whole f a s b =
      let m = mesh_of c outs es [] in
      let x : made f c.v ≡ made (loop_vertex update m ps) c.v = made-same f (loop_vertex update m ps) c.v s in
      let y : made (loop_edge_point update (mesh_of c [] es []) ps) c.e ≡ flat (map (loop_edge_point update m ps) (range 0 c.e)) =
      made-same (loop_edge_point update (mesh_of c [] es []) ps) (loop_edge_point update m ps) c.e (λ k l. edges-is k) ∙ made-flat (loop_edge_point update m ps) c.e in
      b ∙ rw (a, x, y) (two-parts (loop_vertex update m ps) c.v (map (loop_edge_point update m ps) (range 0 c.e)) w)

  -- without the flag old points are kept
  pub loop-kept : {w₁ w₂ : List Float} → update ≡ false → w₁ ≡ place 0 (made (point_at ps) c.v) w → w₂ ≡ place (3 * c.v) (made (loop_edge_point update (mesh_of c [] es []) ps) c.e) w₁ →
      Smoothed (loop_wants update (mesh_of c outs es [])) (Ok tt) w₂ (over (loop_left (loop_wants update (mesh_of c outs es [])) update (mesh_of c outs es []) ps) w)
  unfolding loop_vertex
  loop-kept u a b =
      let o : loop_wants update (mesh_of c outs es []) ≡ None = rw u in
      let k : (k : ℕ) → k < c.v → point_at ps k ≡ loop_vertex update (mesh_of c outs es []) ps k = λ k l. rw u in
      rw o (record { answer = refl; content = loop-whole (point_at ps) a k b })

  module _ (os : Outs c outs es) (rows : List Weights) {r : Result ⊤ ℕ} {w₁ : List Float} (u : update ≡ true) (t : rows ≡ table loop_rows)
      (d : Smoothed (crowded (mesh_of c outs es [])) r w₁ (place 0 (made (vertex_of rows loop_rim (mesh_of c outs es []) ps) (reached (crowded (mesh_of c outs es [])) c.v)) w)) where
    wants : loop_wants update (mesh_of c outs es []) ≡ crowded (mesh_of c outs es [])
    wants = rw u

    vertices-are : (o : Option ℕ) → crowded (mesh_of c outs es []) ≡ o → (k : ℕ) → k < reached o c.v → vertex_of rows loop_rim (mesh_of c outs es []) ps k ≡ loop_vertex update (mesh_of c outs es []) ps k
    vertices-are o q k l =
        let b = reached-le (mesh_of c outs es []) o q in
        loop-vertex-is c outs es [] ps os rows k (omega arith) (light (mesh_of c outs es []) o q k l) t ∙ ap (λ (x : Bool). loop_vertex x (mesh_of c outs es []) ps k) (sym u)

    pub loop-moved : {w₂ : List Float} → r ≡ (Ok tt) → w₂ ≡ place (3 * c.v) (made (loop_edge_point update (mesh_of c [] es []) ps) c.e) w₁ →
        Smoothed (loop_wants update (mesh_of c outs es [])) (Ok tt) w₂ (over (loop_left (loop_wants update (mesh_of c outs es [])) update (mesh_of c outs es []) ps) w)
    loop-moved {w₂} n b = rw wants (go (crowded (mesh_of c outs es [])) refl d)
      where
        go : (o : Option ℕ) → crowded (mesh_of c outs es []) ≡ o → Smoothed o r w₁ (place 0 (made (vertex_of rows loop_rim (mesh_of c outs es []) ps) (reached o c.v)) w) →
            Smoothed (crowded (mesh_of c outs es [])) (Ok tt) w₂ (over (loop_left (crowded (mesh_of c outs es [])) update (mesh_of c outs es []) ps) w)
        go None o d' = rw o (record { answer = refl; content = loop-whole (vertex_of rows loop_rim (mesh_of c outs es []) ps) d'.content (vertices-are None o) b })
        go (Some v) o d' = let z : Ok tt ≡ Err v = sym n ∙ d'.answer in cc

    pub loop-refused : (v : ℕ) → r ≡ Err v →
        Smoothed (loop_wants update (mesh_of c outs es [])) (Err v) w₁ (over (loop_left (loop_wants update (mesh_of c outs es [])) update (mesh_of c outs es []) ps) w)
    loop-refused v n = rw wants (go (crowded (mesh_of c outs es [])) refl d)
      where
        go : (o : Option ℕ) → crowded (mesh_of c outs es []) ≡ o → Smoothed o r w₁ (place 0 (made (vertex_of rows loop_rim (mesh_of c outs es []) ps) (reached o c.v)) w) →
            Smoothed (crowded (mesh_of c outs es [])) (Err v) w₁ (over (loop_left (crowded (mesh_of c outs es [])) update (mesh_of c outs es []) ps) w)
        go None o d' = let z : Err v ≡ (Ok tt) = sym n ∙ d'.answer in cc
        go (Some x) o d' =
            rw o (record {
              answer = sym n ∙ d'.answer;
              content = d'.content ∙ part (vertex_of rows loop_rim (mesh_of c outs es []) ps) (loop_vertex update (mesh_of c outs es []) ps) x w (vertices-are (Some x) o);
            })

-- ---- sqrt3
module _ (c : Counts) (outs es fs : List ℕ) (ps w : List Float) (flag : Bool) where
  side_same : (f : ℕ) → rim_side f (mesh_of c [] es fs) ≡ rim_side f (mesh_of c outs es fs)
  unfolding rim_side loop
  side_same f = rim-of (mesh_of c [] es fs) _ ∙ sym (rim-of (mesh_of c outs es fs) _)

  face-same : (f : ℕ) → face_point (mesh_of c [] es fs) ps f ≡ face_point (mesh_of c outs es fs) ps f
  unfolding face_point loop heads
  face-same f = refl

  answer-same : (f : ℕ) → sqrt_answer flag (mesh_of c [] es fs) ps f ≡ sqrt_answer flag (mesh_of c outs es fs) ps f
  answer-same f = go (if flag (rim_side f (mesh_of c outs es fs)) None) refl
    where
      go : (o : Option ℕ) → if flag (rim_side f (mesh_of c outs es fs)) None ≡ o → sqrt_answer flag (mesh_of c [] es fs) ps f ≡ sqrt_answer flag (mesh_of c outs es fs) ps f
      go None e = answer-centre flag (mesh_of c [] es fs) ps f (rw (side_same f) e) ∙ ap Centre (face-same f) ∙ sym (answer-centre flag (mesh_of c outs es fs) ps f e)
      go (Some h) e = answer-pair flag (mesh_of c [] es fs) ps f h (rw (side_same f) e) ∙ sym (answer-pair flag (mesh_of c outs es fs) ps f h e)

  answers-same : (l : List ℕ) → answers flag (mesh_of c [] es fs) ps l ≡ answers flag (mesh_of c outs es fs) ps l
  unfolding answers
  answers-same [] = refl
  answers-same (f ∷ l) = rw (answer-same f, answers-same l)

  module _ (os : Outs c outs es) (rows : List Weights) {rule : Point → Point → Point → Point} {r : Result ⊤ ℕ} {w₁ : List Float} (u : rule ≡ sqrt_rule flag) (t : rows ≡ table sqrt_rows)
      (d : Smoothed (crowded (mesh_of c outs es [])) r w₁ (place 0 (made (vertex_of rows rule (mesh_of c outs es []) ps) (reached (crowded (mesh_of c outs es [])) c.v)) w)) where
    vertices-same : (o : Option ℕ) → crowded (mesh_of c outs es []) ≡ o → (k : ℕ) → k < reached o c.v → vertex_of rows rule (mesh_of c outs es []) ps k ≡ sqrt_vertex flag (mesh_of c outs es fs) ps k
    vertices-same o q k l =
        let b = reached-le (mesh_of c outs es []) o q in
        rw u (sqrt-vertex-is c outs es fs ps os rows k (omega arith) (light (mesh_of c outs es []) o q k l) t flag)

    pub sqrt-moved : {w₂ : List Float} → r ≡ (Ok tt) → w₂ ≡ place (3 * c.v) (flat (answers flag (mesh_of c [] es fs) ps (range 0 c.f))) w₁ →
        Smoothed (crowded (mesh_of c outs es [])) (Ok tt) w₂ (over (sqrt_left (crowded (mesh_of c outs es [])) flag (mesh_of c outs es fs) ps) w)
    unfolding sqrt_points
    sqrt-moved {w₂} n b = go (crowded (mesh_of c outs es [])) refl d
      where
        go : (o : Option ℕ) → crowded (mesh_of c outs es []) ≡ o → Smoothed o r w₁ (place 0 (made (vertex_of rows rule (mesh_of c outs es []) ps) (reached o c.v)) w) →
            Smoothed (crowded (mesh_of c outs es [])) (Ok tt) w₂ (over (sqrt_left (crowded (mesh_of c outs es [])) flag (mesh_of c outs es fs) ps) w)
        go None o d' =
            let x : made (vertex_of rows rule (mesh_of c outs es []) ps) c.v ≡ made (sqrt_vertex flag (mesh_of c outs es fs) ps) c.v =
            made-same (vertex_of rows rule (mesh_of c outs es []) ps) (sqrt_vertex flag (mesh_of c outs es fs) ps) c.v (vertices-same None o) in
            rw o (record {
              answer = refl;
              content = b ∙ rw (d'.content, x, answers-same (range 0 c.f))
                  (two-parts (sqrt_vertex flag (mesh_of c outs es fs) ps) c.v (answers flag (mesh_of c outs es fs) ps (range 0 c.f)) w);
            })
        go (Some v) o d' = let z : Ok tt ≡ Err v = sym n ∙ d'.answer in cc

    pub sqrt-refused : (v : ℕ) → r ≡ Err v →
        Smoothed (crowded (mesh_of c outs es [])) (Err v) w₁ (over (sqrt_left (crowded (mesh_of c outs es [])) flag (mesh_of c outs es fs) ps) w)
    sqrt-refused v n = go (crowded (mesh_of c outs es [])) refl d
      where
        go : (o : Option ℕ) → crowded (mesh_of c outs es []) ≡ o → Smoothed o r w₁ (place 0 (made (vertex_of rows rule (mesh_of c outs es []) ps) (reached o c.v)) w) →
            Smoothed (crowded (mesh_of c outs es [])) (Err v) w₁ (over (sqrt_left (crowded (mesh_of c outs es [])) flag (mesh_of c outs es fs) ps) w)
        go None o d' = let z : Err v ≡ (Ok tt) = sym n ∙ d'.answer in cc
        go (Some x) o d' =
            rw o (record {
              answer = sym n ∙ d'.answer;
              content = d'.content ∙ part (vertex_of rows rule (mesh_of c outs es []) ps) (sqrt_vertex flag (mesh_of c outs es fs) ps) x w (vertices-same (Some x) o);
            })
