-- The rim edges of the faces of a mesh of triangles: scope's `rim_side` finds one where there is one, `two_rims` tells whether a face has more than one, and then rim edges and rim faces are matched. Assumes nothing.
use mathlib.Core.Path.{◌≡◌, refl, sym, ap, ◌∙◌, subst, subst⁻¹}
use mathlib.Core.Logic.{◌⊎◌, inl, inr, ◌≢◌}
use mathlib.Core.Bool.{Bool, true, false, not, ◌&&◌, ◌||◌}
use mathlib.Core.List.{List, [], ◌∷◌}
use Rattle.std.specs.Prelude.{Option, None, Some}
use Prim.Native.Nat.{ℕ, zero, suc, ◌+◌, ◌-◌, ◌*◌, ◌/◌, ◌%◌, ◌<◌}
use native.Mathlib.Nat.{not-suc-le-zero}
use native.Mathlib.Omega.{arith}
use lib.Dec.{T, eqb, eqb→eq, eqb_refl, leb}
use lib.ListN.{length}
use Rattle.scope.specs.Lists.{if, ◌or_else◌, only, first, number_of}
use Rattle.scope.specs.Links.{Links, NONE, partner, face, next, prev, start, rim, rim_edge, loop}
use Rattle.scope.specs.Passes.{rim_of, rim_side}
use Rattle.scope.specs.Schemes.{two_rims}
use Rattle.laws_mesh.specs.Mesh.{Mesh, Shape, Core}
use Rattle.laws_mesh.specs.Of.{mesh, Good}
use Rattle.laws_mesh.specs.Sides.{Triangles}
use Rattle.laws_mesh.proofs.Cycle.{split, if-eq, if-ne}
use Rattle.laws_mesh.proofs.Facts.{partner-even, partner-odd, next-ne}
use Rattle.laws_mesh.proofs.Loops.{good-shape, steps, loop-steps}
use Rattle.laws_mesh.proofs.Sides.{three-cycle}
use Rattle.laws_triangulate.proofs.Triangular.{Triangular, to-triangular, tri-three, tri-back}
use Rattle.laws_sqrt3.specs.Rims.{there, rimmed}
use Rattle.laws_sqrt3.proofs.Match.{count-match}

-- no face has two edges on the rim
pub record OneRim (m : Mesh) : Type 0 where
  pub sole : (a b : ℕ) → m.is_h a → m.is_h b → m.face a ≢ NONE → m.face a ≡ m.face b → m.face (partner a) ≡ NONE → m.face (partner b) ≡ NONE → a ≡ b

-- t is of face f, and its edge is on the rim
pub record RimAt (m : Links) (f t : ℕ) : Type 0 where
  pub t-in : t < 2 * m.ne
  pub bears : face m t ≡ f
  pub across : face m (partner t) ≡ NONE

pub rim-yes : (m : Links) (t : ℕ) → face m t ≡ NONE → T (rim m t)
rim-yes m t e = subst⁻¹ (λ (x : ℕ). T (eqb x NONE)) e (eqb_refl NONE)

pub rim-is : (m : Links) (t : ℕ) → T (rim m t) → face m t ≡ NONE
rim-is m t w = eqb→eq (face m t) NONE w

-- ---- one face
module _ (m : Links) (g : Good m) (tri : Triangular (mesh m)) (f : ℕ) (i : f < m.nf) where
  S : Shape (mesh m)
  S = good-shape m g

  C : Core (mesh m)
  C = g.consistent.core

  abbrev z : ℕ
  z = start m f

  abbrev x : ℕ
  x = next m (start m f)

  abbrev y : ℕ
  y = next m (next m (start m f))

  zi : z < 2 * m.ne
  zi = C.start_in f i

  xi : x < 2 * m.ne
  xi = C.next_in z zi

  yi : y < 2 * m.ne
  yi = C.next_in x xi

  zf : face m z ≡ f
  zf = C.start_bears f i

  xf : face m x ≡ f
  xf = C.next_face z zi ∙ zf

  yf : face m y ≡ f
  yf = C.next_face x xi ∙ xf

  zn : face m z ≢ NONE
  zn q = S.F-none f i (sym zf ∙ q)

  -- the face's loop
  pub three-list : loop m (start m f) ≡ start m f ∷ next m (start m f) ∷ next m (next m (start m f)) ∷ []
  unfolding steps
  three-list = loop-steps m g z 3 zi (three-cycle m g z zi zn (tri.closes z zi zn))

  three : (t : ℕ) → t < 2 * m.ne → face m t ≡ f → (t ≡ z) ⊎ ((t ≡ x) ⊎ (t ≡ y))
  three t j e = go (tri-three S g.consistent tri z t zi j zn (e ∙ sym zf))
    where
      go : (t ≡ z) ⊎ ((t ≡ next m z) ⊎ (t ≡ prev m z)) → (t ≡ z) ⊎ ((t ≡ x) ⊎ (t ≡ y))
      go (inl q) = inl q
      go (inr (inl q)) = inr (inl q)
      go (inr (inr q)) = inr (inr (q ∙ sym (tri-back S g.consistent tri z zi zn)))

  -- `rim_side` finds a rim edge where there is one
  pub side-cases : (P : Option ℕ → Type 0) → ((t : ℕ) → RimAt m f t → P (Some t)) → (((t : ℕ) → ¬ RimAt m f t) → P None) → P (rim_side f m)
  unfolding rim_side rim_of
  side-cases P p q = subst⁻¹ (λ (l : List ℕ). P (rim_of m l)) three-list (go (rim m (partner z)) (rim m (partner x)) (rim m (partner y)) refl refl refl)
    where
      at : (t : ℕ) → t < 2 * m.ne → face m t ≡ f → rim m (partner t) ≡ true → RimAt m f t
      at t j e w = record { t-in = j; bears = e; across = rim-is m (partner t) (subst⁻¹ T w tt) }

      away : (t : ℕ) → rim m (partner t) ≡ false → face m (partner t) ≢ NONE
      away t w e = subst T w (rim-yes m (partner t) e)

      none_of : rim m (partner z) ≡ false → rim m (partner x) ≡ false → rim m (partner y) ≡ false → (t : ℕ) → RimAt m f t → ⊥
      none_of bz bx by' t w = out (three t w.t-in w.bears)
        where
          out : (t ≡ z) ⊎ ((t ≡ x) ⊎ (t ≡ y)) → ⊥
          out (inl e) = away z bz (ap (λ (u : ℕ). face m (partner u)) (sym e) ∙ w.across)
          out (inr (inl e)) = away x bx (ap (λ (u : ℕ). face m (partner u)) (sym e) ∙ w.across)
          out (inr (inr e)) = away y by' (ap (λ (u : ℕ). face m (partner u)) (sym e) ∙ w.across)

      go : (bz bx by' : Bool) → rim m (partner z) ≡ bz → rim m (partner x) ≡ bx → rim m (partner y) ≡ by' → P (if bz (Some z) (if bx (Some x) (if by' (Some y) None)))
      go true bx by' ez ex ey = p z (at z zi zf ez)
      go false true by' ez ex ey = p x (at x xi xf ex)
      go false false true ez ex ey = p y (at y yi yf ey)
      go false false false ez ex ey = q (none_of ez ex ey)

  pub rimmed-yes : (t : ℕ) → RimAt m f t → T (rimmed m f)
  unfolding rimmed
  rimmed-yes t w = side-cases (λ o. T (there o)) (λ t w. tt) (λ away. away t w)

  pub rimmed-is : T (rimmed m f) → (t : ℕ) × RimAt m f t
  unfolding rimmed
  rimmed-is = side-cases (λ o. T (there o) → (t : ℕ) × RimAt m f t) (λ t w u. (t, w)) (λ away u. absurd u)

  fn : f ≢ NONE
  fn = S.F-none f i

  z≢x : z ≢ x
  z≢x e = next-ne S C z zi (sym e)

  x≢y : x ≢ y
  x≢y e = next-ne S C x xi (sym e)

  z≢y : z ≢ y
  z≢y e = g.consistent.three.three_long z zi zn (sym e)

  -- the test of `two_rims` at f
  abbrev few-rims : Bool
  few-rims = leb (length (only (λ h. rim m (partner h)) (loop m (start m f)))) 1

  pub few-yes : OneRim (mesh m) → T few-rims
  unfolding only
  few-yes one = subst⁻¹ (λ (l : List ℕ). T (leb (length (only (λ h. rim m (partner h)) l)) 1)) three-list (go (rim m (partner z)) (rim m (partner x)) (rim m (partner y)) refl refl refl)
    where
      both : (s t : ℕ) → s < 2 * m.ne → t < 2 * m.ne → face m s ≡ f → face m t ≡ f → s ≢ t → rim m (partner s) ≡ true → rim m (partner t) ≡ true → ⊥
      both s t si ti sf tf ne u w =
          ne (one.sole s t si ti (λ q. fn (sym sf ∙ q)) (sf ∙ sym tf) (rim-is m (partner s) (subst⁻¹ T u tt)) (rim-is m (partner t) (subst⁻¹ T w tt)))

      go : (bz bx by' : Bool) → rim m (partner z) ≡ bz → rim m (partner x) ≡ bx → rim m (partner y) ≡ by'
          → T (leb (length (if bz (z ∷ if bx (x ∷ if by' (y ∷ []) []) (if by' (y ∷ []) [])) (if bx (x ∷ if by' (y ∷ []) []) (if by' (y ∷ []) [])))) 1)
      go true true by' ez ex ey = absurd (both z x zi xi zf xf z≢x ez ex)
      go true false true ez ex ey = absurd (both z y zi yi zf yf z≢y ez ey)
      go true false false ez ex ey = tt
      go false true true ez ex ey = absurd (both x y xi yi xf yf x≢y ex ey)
      go false true false ez ex ey = tt
      go false false true ez ex ey = tt
      go false false false ez ex ey = tt

  -- of any two one is not on the rim
  abbrev kept : Bool → Bool → Bool → List ℕ
  kept bz bx by' = if bz (z ∷ if bx (x ∷ if by' (y ∷ []) []) (if by' (y ∷ []) [])) (if bx (x ∷ if by' (y ∷ []) []) (if by' (y ∷ []) []))

  not-zx : (bz bx by' : Bool) → T (leb (length (kept bz bx by')) 1) → T bz → T bx → ⊥
  not-zx true true true t p q = t
  not-zx true true false t p q = t
  not-zx true false by' t p q = q
  not-zx false bx by' t p q = p

  not-zy : (bz bx by' : Bool) → T (leb (length (kept bz bx by')) 1) → T bz → T by' → ⊥
  not-zy true true true t p q = t
  not-zy true false true t p q = t
  not-zy true bx false t p q = q
  not-zy false bx by' t p q = p

  not-xy : (bz bx by' : Bool) → T (leb (length (kept bz bx by')) 1) → T bx → T by' → ⊥
  not-xy true true true t p q = t
  not-xy false true true t p q = t
  not-xy bz true false t p q = q
  not-xy bz false by' t p q = p

  pub few-is : T few-rims → (a b : ℕ) → RimAt m f a → RimAt m f b → a ≡ b
  unfolding only
  few-is t a b u v = go (three a u.t-in u.bears) (three b v.t-in v.bears)
    where
      t' : T (leb (length (kept (rim m (partner z)) (rim m (partner x)) (rim m (partner y)))) 1)
      t' = subst (λ (l : List ℕ). T (leb (length (only (λ h. rim m (partner h)) l)) 1)) three-list t

      to : {s : ℕ} (c : ℕ) → RimAt m f s → s ≡ c → T (rim m (partner c))
      to c w e = subst (λ (h : ℕ). T (rim m (partner h))) e (rim-yes m (partner _) w.across)

      zx : T (rim m (partner z)) → T (rim m (partner x)) → ⊥
      zx = not-zx (rim m (partner z)) (rim m (partner x)) (rim m (partner y)) t'

      zy : T (rim m (partner z)) → T (rim m (partner y)) → ⊥
      zy = not-zy (rim m (partner z)) (rim m (partner x)) (rim m (partner y)) t'

      xy : T (rim m (partner x)) → T (rim m (partner y)) → ⊥
      xy = not-xy (rim m (partner z)) (rim m (partner x)) (rim m (partner y)) t'

      go : (a ≡ z) ⊎ ((a ≡ x) ⊎ (a ≡ y)) → (b ≡ z) ⊎ ((b ≡ x) ⊎ (b ≡ y)) → a ≡ b
      go (inl p) (inl q) = p ∙ sym q
      go (inl p) (inr (inl q)) = absurd (zx (to z u p) (to x v q))
      go (inl p) (inr (inr q)) = absurd (zy (to z u p) (to y v q))
      go (inr (inl p)) (inl q) = absurd (zx (to z v q) (to x u p))
      go (inr (inl p)) (inr (inl q)) = p ∙ sym q
      go (inr (inl p)) (inr (inr q)) = absurd (xy (to x u p) (to y v q))
      go (inr (inr p)) (inl q) = absurd (zy (to z v q) (to y u p))
      go (inr (inr p)) (inr (inl q)) = absurd (xy (to x v q) (to y u p))
      go (inr (inr p)) (inr (inr q)) = p ∙ sym q

-- ---- all faces
found_none : (n : ℕ) (ok : ℕ → Bool) → ((i : ℕ) → i < n → T (ok i)) → first n (λ f. true) ok ≡ None
unfolding first
found_none zero ok h = refl
found_none (suc n) ok h =
    ap (λ (o : Option ℕ). o or_else if (true && not (ok n)) (Some n) None) (found_none n ok (λ i l. h i (omega arith)))
    ∙ go (ok n) (h n (omega arith))
  where
    go : (b : Bool) → T b → if (true && not b) (Some n) None ≡ None
    go true t = refl
    go false t = absurd t

none_found : (n : ℕ) (ok : ℕ → Bool) → first n (λ f. true) ok ≡ None → (i : ℕ) → i < n → T (ok i)
unfolding first
none_found zero ok e i l = absurd (not-suc-le-zero l)
none_found (suc n) ok e i l = split i n (λ q. subst⁻¹ (λ (i : ℕ). T (ok i)) q (here (ok n) (both (first n (λ f. true) ok) (if (true && not (ok n)) (Some n) None) e).1))
    (λ q. none_found n ok (both (first n (λ f. true) ok) (if (true && not (ok n)) (Some n) None) e).0 i (omega arith))
  where
    both : (o r : Option ℕ) → o or_else r ≡ None → (o ≡ None) × (r ≡ None)
    both None r q = (refl, q)
    both (Some j) r q = absurd (subst (λ (o : Option ℕ). T (there o)) q tt)

    here : (b : Bool) → if (true && not b) (Some n) None ≡ None → T b
    here true q = tt
    here false q = absurd (subst (λ (o : Option ℕ). T (there o)) q tt)

module _ (m : Links) (g : Good m) (tri : Triangular (mesh m)) where
  c : Core (mesh m)
  c = g.consistent.core

  face-lt : (t : ℕ) → t < 2 * m.ne → face m t ≢ NONE → face m t < m.nf
  face-lt t i ne = go (c.face_in t i)
    where
      go : (face m t ≡ NONE) ⊎ (face m t < m.nf) → face m t < m.nf
      go (inl q) = absurd (ne q)
      go (inr q) = q

  -- `two_rims` finds nothing exactly if no face has two rim edges
  pub none-two : OneRim (mesh m) → two_rims m ≡ None
  unfolding two_rims
  none-two one = found_none m.nf (λ f. leb (length (only (λ h. rim m (partner h)) (loop m (start m f)))) 1) (λ f i. few-yes m g tri f i one)

  pub two_none : two_rims m ≡ None → OneRim (mesh m)
  unfolding two_rims
  two_none e = record {
    sole = λ a b ai bi af ab pa pb.
        let i = face-lt a ai af in
        few-is m g tri (face m a) i (none_found m.nf (λ f. leb (length (only (λ h. rim m (partner h)) (loop m (start m f)))) 1) e (face m a) i) a b
        (record { t-in = ai; bears = refl; across = pa }) (record { t-in = bi; bears = sym ab; across = pb });
  }

  -- ---- rim faces and rim edges are matched
  -- the face of a rim edge
  φ : ℕ → ℕ
  φ e = if (rim m (2 * e)) (face m (2 * e + 1)) (face m (2 * e))

  faced : (f t : ℕ) → RimAt m f t → face m t ≢ NONE
  faced f t w q = c.a_face t w.t-in q w.across

  rim-lt : (f t : ℕ) → RimAt m f t → f < m.nf
  rim-lt f t w = subst (λ (x : ℕ). x < m.nf) w.bears (face-lt t w.t-in (faced f t w))

  -- its half with a face
  half : (e : ℕ) → e < m.ne → T (rim_edge m e) → (t : ℕ) × RimAt m (φ e) t × (t / 2 ≡ e)
  unfolding φ
  half e i w = split (face m (2 * e)) NONE
      (λ q. (2 * e + 1, record { t-in = omega arith; bears = sym (if-eq (face m (2 * e)) NONE _ _ q); across = ap (face m) (partner-odd e) ∙ q }, omega arith))
      (λ q. (2 * e, record { t-in = omega arith; bears = sym (if-ne (face m (2 * e)) NONE _ _ q); across = ap (face m) (partner-even e) ∙ second q (rim m (2 * e)) (rim m (2 * e + 1)) refl refl w }, omega arith))
    where
      second : face m (2 * e) ≢ NONE → (a b : Bool) → rim m (2 * e) ≡ a → rim m (2 * e + 1) ≡ b → T (a || b) → face m (2 * e + 1) ≡ NONE
      second q true b ea eb u = absurd (q (rim-is m (2 * e) (subst⁻¹ T ea tt)))
      second q false b ea eb u = rim-is m (2 * e + 1) (subst⁻¹ T eb u)

  or_left : (a b : Bool) → T a → T (a || b)
  or_left true b t = tt
  or_left false b t = absurd t

  or_right : (a b : Bool) → T b → T (a || b)
  or_right true b t = tt
  or_right false b t = t

  -- the edge of a rim face's halfedge
  edge_of : (f t : ℕ) → RimAt m f t → (i : ℕ) × (i < m.ne) × T (rim_edge m i) × (φ i ≡ f)
  unfolding φ partner
  edge_of f t w = split (t % 2) 0
      (λ q.
      let a : t ≡ 2 * (t / 2) = omega arith in
      let b : partner t ≡ 2 * (t / 2) + 1 = (let z : t / 2 * 2 + (1 - t % 2) ≡ 2 * (t / 2) + 1 = omega arith in z) in
      let across : face m (2 * (t / 2) + 1) ≡ NONE = ap (face m) (sym b) ∙ w.across in
      let own : face m (2 * (t / 2)) ≡ f = ap (face m) (sym a) ∙ w.bears in
      (t / 2, (let c = w.t-in in omega arith), or_right (rim m (2 * (t / 2))) (rim m (2 * (t / 2) + 1)) (rim-yes m _ across), if-ne (face m (2 * (t / 2))) NONE _ _ (λ z. faced f t w (ap (face m) a ∙ z)) ∙ own))
      (λ q.
      let a : t ≡ 2 * (t / 2) + 1 = omega arith in
      let b : partner t ≡ 2 * (t / 2) = (let z : t / 2 * 2 + (1 - t % 2) ≡ 2 * (t / 2) = omega arith in z) in
      let across : face m (2 * (t / 2)) ≡ NONE = ap (face m) (sym b) ∙ w.across in
      let own : face m (2 * (t / 2) + 1) ≡ f = ap (face m) (sym a) ∙ w.bears in
      (t / 2, (let c = w.t-in in omega arith), or_left (rim m (2 * (t / 2))) (rim m (2 * (t / 2) + 1)) (rim-yes m _ across), if-eq (face m (2 * (t / 2))) NONE _ _ across ∙ own))

  -- b is the number of faces with a rim edge
  pub rims-match : OneRim (mesh m) → number_of m.ne (rim_edge m) ≡ number_of m.nf (rimmed m)
  rims-match one = count-match m.ne (rim_edge m) (rimmed m) m.nf φ (record {
    into = λ e i w. let (t, u, _) = half e i w in (rim-lt (φ e) t u, rimmed-yes m g tri (φ e) (rim-lt (φ e) t u) t u);
    once = λ e e' i i' w w' q. let (t, u, a) = half e i w in let (t', u', a') = half e' i' w' in
        sym a ∙ ap (λ (t : ℕ). t / 2) (one.sole t t' u.t-in u'.t-in (faced (φ e) t u) (u.bears ∙ q ∙ sym u'.bears) u.across u'.across) ∙ a';
    all = λ f i w. let (t, u) = rimmed-is m g tri f i w in edge_of f t u;
  })

-- where no face has two rim edges, b is the number of faces with one
pub rims-faces : (m : Links) → Good m → Triangles m → two_rims m ≡ None → number_of m.ne (rim_edge m) ≡ number_of m.nf (rimmed m)
rims-faces m g t e = let tri = to-triangular m g t in rims-match m g tri (two_none m g tri e)
