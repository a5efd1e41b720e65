-- A loop is cut in two by a new edge: the mesh stays consistent. Assumes nothing.
--
-- The loop goes w, x, …, y, z, … back to w, where x is next after w, and z next after y. M is the part x, …, y.
-- The new halfedge c closes that part and has the new face g; its partner closes the rest and has the face, or none, that the loop had.
-- With a face this is `insert_edge(prev, next)` with w = prev, z = next; on a rim, where the new face is on the other side, y = prev and x = next.
use mathlib.Core.Path.{◌≡◌, refl, sym, ap, ◌∙◌, subst, subst⁻¹}
use mathlib.Core.Logic.{◌⊎◌, inl, inr, ◌≢◌}
use Prim.Native.Nat.{ℕ}
use Rattle.laws_mesh.specs.Reach.{Reach, here}
use Rattle.scope.specs.Links.{NONE, partner}
use Rattle.laws_mesh.specs.Mesh.{Mesh, tail, turn, Shape, Core, Three}
use Rattle.laws_mesh.proofs.Cycle.{split, Perm, Cut, reach-sym, reach-trans, reach-one, reach-next, reach-sim, reach-ind}
use Rattle.laws_mesh.proofs.Facts.{partner-partner, turn_in, tail-in, heads-apart, next-inj, next-ne, perm-next, pair-loop}

pub record InsertEdge (m m' : Mesh) (w y c g : ℕ) (M : ℕ → Type 0) : Type 0 where
  pub w-in : m.is_h w
  pub y_in : m.is_h y
  pub apart : w ≢ y
  pub part : Cut m.next (m.next w) y M
  pub c-new : ¬ m.is_h c
  pub k-new : ¬ m.is_h (partner c)
  pub g-new : ¬ m.is_f g
  pub keep-H : (t : ℕ) → m.is_h t → m'.is_h t
  pub c-in : m'.is_h c
  pub k-in : m'.is_h (partner c)
  pub H-is : (t : ℕ) → m'.is_h t → m.is_h t ⊎ ((t ≡ c) ⊎ (t ≡ partner c))
  pub keep-V : (u : ℕ) → m.is_v u → m'.is_v u
  pub V-is : (u : ℕ) → m'.is_v u → m.is_v u
  pub keep-F : (f : ℕ) → m.is_f f → m'.is_f f
  pub g_in : m'.is_f g
  pub F-is : (f : ℕ) → m'.is_f f → m.is_f f ⊎ (f ≡ g)
  pub face-c : m'.face c ≡ g
  pub face-k : m'.face (partner c) ≡ m.face w
  pub face-part : (t : ℕ) → M t → m'.face t ≡ g
  pub face-old : (t : ℕ) → m.is_h t → ¬ M t → m'.face t ≡ m.face t
  pub head-c : m'.head c ≡ m.head w
  pub head-k : m'.head (partner c) ≡ m.head y
  pub head-old : (t : ℕ) → m.is_h t → m'.head t ≡ m.head t
  pub next-c : m'.next c ≡ m.next w
  pub next-k : m'.next (partner c) ≡ m.next y
  pub next-y : m'.next y ≡ c
  pub next-w : m'.next w ≡ partner c
  pub next-old : (t : ℕ) → m.is_h t → t ≢ w → t ≢ y → m'.next t ≡ m.next t
  pub prev-c : m'.prev c ≡ y
  pub prev-k : m'.prev (partner c) ≡ w
  pub prev-x : m'.prev (m.next w) ≡ c
  pub prev-z : m'.prev (m.next y) ≡ partner c
  pub prev-old : (t : ℕ) → m.is_h t → t ≢ m.next w → t ≢ m.next y → m'.prev t ≡ m.prev t
  pub start_in : (f : ℕ) → m'.is_f f → m'.is_h (m'.start f)
  pub start_bears : (f : ℕ) → m'.is_f f → m'.face (m'.start f) ≡ f
  pub out-rim : m.face w ≡ NONE → m'.out (m.head w) ≡ partner c
  pub out-old : (u : ℕ) → m.is_v u → (m.face w ≡ NONE → u ≢ m.head w) → m'.out u ≡ m.out u

module _ {m m' : Mesh} {w y c g : ℕ} {M : ℕ → Type 0} (s : Shape m) (s' : Shape m') (C : Core m) (d : InsertEdge m m' w y c g M) where
  each : (P : ℕ → Type 0) → P c → P (partner c) → ((x : ℕ) → m.is_h x → P x) → (x : ℕ) → m'.is_h x → P x
  each P p q r x i = go (d.H-is x i)
    where
      go : m.is_h x ⊎ ((x ≡ c) ⊎ (x ≡ partner c)) → P x
      go (inl j) = r x j
      go (inr (inl e)) = subst⁻¹ P e p
      go (inr (inr e)) = subst⁻¹ P e q

  -- in the part or not
  inside : {P : Type 0} (t : ℕ) → (M t → P) → (¬ M t → P) → P
  inside {P} t f h = go (d.part.dec t)
    where
      go : Dec (M t) → P
      go (yes p) = f p
      go (no q) = h q

  x-old : m.is_h (m.next w)
  x-old = C.next_in w d.w-in

  z-old : m.is_h (m.next y)
  z-old = C.next_in y d.y_in

  old-c : (x : ℕ) → m.is_h x → x ≢ c
  old-c x i e = d.c-new (subst m.is_h e i)

  old-k : (x : ℕ) → m.is_h x → x ≢ partner c
  old-k x i e = d.k-new (subst m.is_h e i)

  z≢x : m.next y ≢ m.next w
  z≢x e = d.apart (next-inj s C w y d.w-in d.y_in (sym e))

  w-out : ¬ M w
  w-out = d.part.before-out w refl d.apart

  part-old : (t : ℕ) → M t → m.is_h t
  part-old t p = reach-ind m.is_h C.next_in x-old (d.part.reached t p)

  part-face : (t : ℕ) → M t → m.face t ≡ m.face w
  part-face t p =
      (reach-ind (λ (t : ℕ). m.is_h t × (m.face t ≡ m.face w)) (λ u q. (C.next_in u q.0, C.next_face u q.0 ∙ q.1)) (x-old, C.next_face w d.w-in) (d.part.reached t p)).1

  -- the step into the part is from w alone, or from the part
  next-out : (t : ℕ) → m.is_h t → ¬ M t → t ≢ w → ¬ M (m.next t)
  next-out t i o ne p = go (d.part.from (m.next t) p)
    where
      go : (m.next t ≡ m.next w) ⊎ ((u : ℕ) × M u × (u ≢ y) × (m.next u ≡ m.next t)) → ⊥
      go (inl e) = ne (next-inj s C t w i d.w-in e)
      go (inr (u, q, r, e)) = o (subst M (next-inj s C u t (part-old u q) i e) q)

  z-out : ¬ M (m.next y)
  z-out p = go (d.part.from (m.next y) p)
    where
      go : (m.next y ≡ m.next w) ⊎ ((u : ℕ) × M u × (u ≢ y) × (m.next u ≡ m.next y)) → ⊥
      go (inl e) = z≢x e
      go (inr (u, q, r, e)) = r (next-inj s C u y (part-old u q) d.y_in e)

  g-none : g ≢ NONE
  g-none = s'.F-none g d.g_in

  -- no old halfedge has the new face
  face-g : (t : ℕ) → m.is_h t → m.face t ≢ g
  face-g t i e = go (C.face_in t i)
    where
      go : (m.face t ≡ NONE) ⊎ m.is_f (m.face t) → ⊥
      go (inl q) = g-none (sym e ∙ q)
      go (inr q) = d.g-new (subst m.is_f e q)

  old_face-in : (t u : ℕ) → m.is_h t → m'.face u ≡ m.face t → (m'.face u ≡ NONE) ⊎ m'.is_f (m'.face u)
  old_face-in t u i e = go (C.face_in t i)
    where
      go : (m.face t ≡ NONE) ⊎ m.is_f (m.face t) → (m'.face u ≡ NONE) ⊎ m'.is_f (m'.face u)
      go (inl q) = inl (e ∙ q)
      go (inr q) = inr (subst⁻¹ m'.is_f e (d.keep-F (m.face t) q))

  face-in' : (x : ℕ) → m'.is_h x → (m'.face x ≡ NONE) ⊎ m'.is_f (m'.face x)
  face-in' = each _ (inr (subst⁻¹ m'.is_f d.face-c d.g_in)) (old_face-in w (partner c) d.w-in d.face-k)
      (λ t i. inside t (λ p. inr (subst⁻¹ m'.is_f (d.face-part t p) d.g_in)) (λ o. old_face-in t t i (d.face-old t i o)))

  head-in' : (x : ℕ) → m'.is_h x → m'.is_v (m'.head x)
  head-in' = each _ (subst⁻¹ m'.is_v d.head-c (d.keep-V _ (C.head_in w d.w-in))) (subst⁻¹ m'.is_v d.head-k (d.keep-V _ (C.head_in y d.y_in)))
      (λ t i. subst⁻¹ m'.is_v (d.head-old t i) (d.keep-V _ (C.head_in t i)))

  next-in' : (x : ℕ) → m'.is_h x → m'.is_h (m'.next x)
  next-in' = each _ (subst⁻¹ m'.is_h d.next-c (d.keep-H _ x-old)) (subst⁻¹ m'.is_h d.next-k (d.keep-H _ z-old))
      (λ t i. split t w
      (λ e. subst⁻¹ m'.is_h (ap m'.next e ∙ d.next-w) d.k-in)
      (λ n1. split t y
      (λ e. subst⁻¹ m'.is_h (ap m'.next e ∙ d.next-y) d.c-in)
      (λ n2. subst⁻¹ m'.is_h (d.next-old t i n1 n2) (d.keep-H _ (C.next_in t i)))))

  prev-in' : (x : ℕ) → m'.is_h x → m'.is_h (m'.prev x)
  prev-in' = each _ (subst⁻¹ m'.is_h d.prev-c (d.keep-H _ d.y_in)) (subst⁻¹ m'.is_h d.prev-k (d.keep-H _ d.w-in))
      (λ t i. split t (m.next w)
      (λ e. subst⁻¹ m'.is_h (ap m'.prev e ∙ d.prev-x) d.c-in)
      (λ n1. split t (m.next y)
      (λ e. subst⁻¹ m'.is_h (ap m'.prev e ∙ d.prev-z) d.k-in)
      (λ n2. subst⁻¹ m'.is_h (d.prev-old t i n1 n2) (d.keep-H _ (C.prev_in t i)))))

  next-prev' : (x : ℕ) → m'.is_h x → m'.next (m'.prev x) ≡ x
  next-prev' = each (λ x. m'.next (m'.prev x) ≡ x) (cc) (cc)
      (λ t i. split t (m.next w)
      (λ e. cc)
      (λ n1. split t (m.next y)
      (λ e. cc)
      (λ n2. cc (
        d.prev-old t i n1 n2,
        d.next-old (m.prev t) (C.prev_in t i) (λ e. n1 (cc (C.next_prev t i))) (λ e. n2 (cc (C.next_prev t i))),
        C.next_prev t i,
      ))))

  prev-next' : (x : ℕ) → m'.is_h x → m'.prev (m'.next x) ≡ x
  prev-next' = each (λ x. m'.prev (m'.next x) ≡ x) (cc) (cc)
      (λ t i. split t w
      (λ e. cc)
      (λ n1. split t y
      (λ e. cc)
      (λ n2. cc (
        d.next-old t i n1 n2,
        d.prev-old (m.next t) (C.next_in t i) (λ e. n1 (next-inj s C t w i d.w-in e)) (λ e. n2 (next-inj s C t y i d.y_in e)),
        C.prev_next t i,
      ))))

  perm-next' : Perm m'.is_h s'.size m'.next m'.prev
  perm-next' = record { below = s'.below; fore = next-in'; back = prev-in'; gf = prev-next'; fg = next-prev' }

  tail-old : (t : ℕ) → m.is_h t → tail m' t ≡ tail m t
  tail-old t i = d.head-old (partner t) (s.H-partner t i)

  tail-c : tail m' c ≡ m.head y
  tail-c = d.head-k

  tail-k : tail m' (partner c) ≡ m.head w
  tail-k = cc (partner-partner c)

  next-tail' : (x : ℕ) → m'.is_h x → tail m' (m'.next x) ≡ m'.head x
  next-tail' = each (λ x. tail m' (m'.next x) ≡ m'.head x)
      (cc (tail-old (m.next w) x-old, C.next_tail w d.w-in))
      (cc (tail-old (m.next y) z-old, C.next_tail y d.y_in))
      (λ t i. split t w
      (λ e. cc (tail-k, d.head-old t i))
      (λ n1. split t y
      (λ e. cc (tail-c, d.head-old t i))
      (λ n2. cc (d.next-old t i n1 n2, tail-old (m.next t) (C.next_in t i), C.next_tail t i, d.head-old t i))))

  next-face' : (x : ℕ) → m'.is_h x → m'.face (m'.next x) ≡ m'.face x
  next-face' = each (λ x. m'.face (m'.next x) ≡ m'.face x)
      (cc (d.face-part (m.next w) d.part.first-in))
      (cc (d.face-old (m.next y) z-old z-out, C.next_face y d.y_in, part-face y d.part.last-in))
      (λ t i. inside t
      (λ p. split t y
      (λ e. cc (d.face-part t p))
      (λ n2. cc (d.next-old t i (λ e. w-out (subst M e p)) n2, d.face-part t p, d.face-part (m.next t) (d.part.next_in t p n2))))
      (λ o. split t w
      (λ e. cc (d.face-old t i o))
      (λ n1. cc (d.next-old t i n1 (λ e. o (subst⁻¹ M e d.part.last-in)), d.face-old t i o, d.face-old (m.next t) (C.next_in t i) (next-out t i o n1), C.next_face t i))))

  -- the two loops
  reach-g : (t : ℕ) → m'.is_h t → m'.face t ≡ g → Reach m'.next c t
  reach-g = each _ (λ e. here) (λ e. absurd (face-g w d.w-in (cc)))
      (λ t i e. inside t
      (λ p. reach-trans (reach-one d.next-c)
      (d.part.walk m'.next (λ u q ne. d.next-old u (part-old u q) (λ r. w-out (subst M r q)) ne) t p))
      (λ o. absurd (face-g t i (cc (d.face-old t i o)))))

  Kept : ℕ → Type 0
  Kept t = m.is_h t × (M t ⊎ Reach m'.next (partner c) t)

  kept_step : (t : ℕ) → Kept t → Kept (m.next t)
  unfolding Kept
  kept_step t (i, k) = (
    C.next_in t i,
    inside t
        (λ p. split t y (λ e. inr (reach-one (cc))) (λ n2. inl (d.part.next_in t p n2)))
        (λ o. split t w (λ e. inl (subst⁻¹ M (ap m.next e) d.part.first-in)) (λ n1. inr (on o n1 k))),
  )
    where
      on : ¬ M t → t ≢ w → M t ⊎ Reach m'.next (partner c) t → Reach m'.next (partner c) (m.next t)
      on o n1 (inl p) = absurd (o p)
      on o n1 (inr r) = reach-next r (d.next-old t i n1 (λ e. o (subst⁻¹ M e d.part.last-in)))

  reach-k : m.face w ≢ NONE → (t : ℕ) → m'.is_h t → m'.face t ≡ m.face w → Reach m'.next (partner c) t
  unfolding Kept
  reach-k ne = each _ (λ e. absurd (face-g w d.w-in (cc))) (λ e. here)
      (λ t i e. inside t (λ p. absurd (face-g w d.w-in (cc (d.face-part t p))))
      (λ o. on o (reach-ind Kept kept_step (z-old, inr (reach-one d.next-k))
      (C.one_loop (m.next y) t z-old i (λ q. ne (cc (C.next_face y d.y_in, part-face y d.part.last-in)))
      (cc (C.next_face y d.y_in, part-face y d.part.last-in, d.face-old t i o)))).1))
    where
      on : {t : ℕ} → ¬ M t → M t ⊎ Reach m'.next (partner c) t → Reach m'.next (partner c) t
      on o (inl p) = absurd (o p)
      on o (inr r) = r

  other : (t : ℕ) → m'.is_h t → m'.face t ≢ g → m'.face t ≢ m.face w → m.is_h t × (m.face t ≡ m'.face t)
  other = each _ (λ e q. absurd (e d.face-c)) (λ e q. absurd (q d.face-k))
      (λ t i e q. inside t (λ p. absurd (e (d.face-part t p))) (λ o. (i, sym (d.face-old t i o))))

  next-sim : {a b : ℕ} → m.is_h a → m.face a ≢ m.face w → Reach m.next a b → Reach m'.next a b
  next-sim i ne = reach-sim (λ t. m.is_h t × (m.face t ≢ m.face w)) (λ t. t)
      (λ t (j, q). (C.next_in t j, λ e. q (sym (C.next_face t j) ∙ e)))
      (λ t (j, q). reach-one (d.next-old t j (λ e. q (ap m.face e)) (λ e. q (ap m.face e ∙ part-face y d.part.last-in))))
      (i, ne)

  one-loop' : (a b : ℕ) → m'.is_h a → m'.is_h b → m'.face a ≢ NONE → m'.face a ≡ m'.face b → Reach m'.next a b
  one-loop' a b i j ne e = split (m'.face a) g
      (λ q. reach-trans (reach-sym perm-next' d.c-in (reach-g a i q)) (reach-g b j (sym e ∙ q)))
      (λ n1. split (m'.face a) (m.face w)
      (λ q. reach-trans (reach-sym perm-next' d.k-in (reach-k (λ z. ne (q ∙ z)) a i q)) (reach-k (λ z. ne (q ∙ z)) b j (sym e ∙ q)))
      (λ n2.
      let (i₀, f) = other a i n1 n2 in
      let (j₀, h) = other b j (λ z. n1 (e ∙ z)) (λ z. n2 (e ∙ z)) in
      next-sim i₀ (λ z. n2 (sym f ∙ z)) (C.one_loop a b i₀ j₀ (λ z. ne (sym f ∙ z)) (cc))))

  a-face' : (t : ℕ) → m'.is_h t → m'.face t ≡ NONE → m'.face (partner t) ≢ NONE
  a-face' = each _ (λ e z. g-none (cc)) (λ e z. g-none (cc (partner-partner c)))
      (λ t i e z. inside t (λ p. g-none (cc (d.face-part t p)))
      (λ o. inside (partner t) (λ p. g-none (cc (d.face-part (partner t) p)))
      (λ q. C.a_face t i (cc (d.face-old t i o)) (cc (d.face-old (partner t) (s.H-partner t i) q)))))

  no-spike' : (t : ℕ) → m'.is_h t → m'.next t ≢ partner t
  no-spike' = each _
      (λ e. old-k (m.next w) x-old (cc))
      (λ e. old-c (m.next y) z-old (cc (partner-partner c)))
      (λ t i. split t w
      (λ e z. old-k (partner t) (s.H-partner t i) (cc))
      (λ n1. split t y
      (λ e z. old-c (partner t) (s.H-partner t i) (cc))
      (λ n2 z. C.no_spike t i (cc (d.next-old t i n1 n2)))))

  two-long' : (t : ℕ) → m'.is_h t → m'.face t ≢ NONE → m'.next t ≢ t
  two-long' = each _ (λ ne e. old-c (m.next w) x-old (cc)) (λ ne e. old-k (m.next y) z-old (cc))
      (λ t i ne. split t w (λ e z. old-k t i (cc))
      (λ n1. split t y (λ e z. old-c t i (cc)) (λ n2 z. next-ne s C t i (cc (d.next-old t i n1 n2)))))

  -- each halfedge has the head of an old one of the cut loop, and no other of its new loop has
  record Pulled (t r : ℕ) : Type 0 where
    r-in : m.is_h r
    r-head : m.head r ≡ m'.head t
    in_g : m'.face t ≡ g → (m.face r ≡ m.face w) × (r ≡ w → t ≡ c) × (r ≢ w → t ≡ r)
    not-g : m'.face t ≢ g → (m.face r ≡ m'.face t) × (r ≡ y → t ≡ partner c) × (r ≢ y → t ≡ r)

  pull : (t : ℕ) → m'.is_h t → (r : ℕ) × Pulled t r
  pull = each _
      (w, record { r-in = d.w-in; r-head = sym d.head-c; in_g = λ e. (refl, (λ q. refl), (λ q. absurd (q refl))); not-g = λ e. absurd (e d.face-c) }) (
        y,
        record {
          r-in = d.y_in;
          r-head = sym d.head-k;
          in_g = λ e. absurd (face-g w d.w-in (cc));
          not-g = λ e. (part-face y d.part.last-in ∙ sym d.face-k, (λ q. refl), (λ q. absurd (q refl)));
        },
      )
      (λ t i. (
        t,
        record {
          r-in = i;
          r-head = sym (d.head-old t i);
          in_g = λ e. inside t (λ p. (part-face t p, (λ q. absurd (w-out (subst M q p))), (λ q. refl))) (λ o. absurd (face-g t i (sym (d.face-old t i o) ∙ e)));
          not-g = λ e. inside t (λ p. absurd (e (d.face-part t p))) (λ o. (sym (d.face-old t i o), (λ q. absurd (o (subst⁻¹ M q d.part.last-in))), (λ q. refl)));
        },
      ))

  heads-differ' : (a b : ℕ) → m'.is_h a → m'.is_h b → m'.face a ≢ NONE → m'.face a ≡ m'.face b → m'.head a ≡ m'.head b → a ≡ b
  heads-differ' a b i j ne e q =
      let (r, p) = pull a i in
      let (r', p') = pull b j in
      let hd : m.head r ≡ m.head r' = p.r-head ∙ q ∙ sym p'.r-head in
      split (m'.face a) g
      (λ z.
      let (f, u, v) = p.in_g z in
      let (f', u', v') = p'.in_g (sym e ∙ z) in
      let same : r ≡ r' = heads-apart s C r r' p.r-in p'.r-in (f ∙ sym f') hd in
      split r w (λ x. u x ∙ sym (u' (sym same ∙ x))) (λ x. v x ∙ same ∙ sym (v' (λ l. x (same ∙ l)))))
      (λ z.
      let (f, u, v) = p.not-g z in
      let (f', u', v') = p'.not-g (λ l. z (e ∙ l)) in
      let same : r ≡ r' = heads-apart s C r r' p.r-in p'.r-in (f ∙ e ∙ sym f') hd in
      split r y (λ x. u x ∙ sym (u' (sym same ∙ x))) (λ x. v x ∙ same ∙ sym (v' (λ l. x (same ∙ l)))))

  -- the leaving halfedges
  out_cases : {P : Type 0} (u : ℕ) → m.is_v u → (m.face w ≡ NONE → u ≡ m.head w → m'.out u ≡ partner c → P) → (m'.out u ≡ m.out u → P) → P
  out_cases u i f h = split (m.face w) NONE
      (λ e. split u (m.head w) (λ q. f e q (ap m'.out q ∙ d.out-rim e)) (λ q. h (d.out-old u i (λ z. q))))
      (λ e. h (d.out-old u i (λ z. absurd (e z))))

  out-in' : (u : ℕ) → m'.is_v u → (m'.out u ≡ NONE) ⊎ m'.is_h (m'.out u)
  out-in' u i = out_cases u (d.V-is u i) (λ r e q. inr (subst⁻¹ m'.is_h q d.k-in)) (λ q. old q (C.out_in u (d.V-is u i)))
    where
      old : m'.out u ≡ m.out u → (m.out u ≡ NONE) ⊎ m.is_h (m.out u) → (m'.out u ≡ NONE) ⊎ m'.is_h (m'.out u)
      old q (inl r) = inl (q ∙ r)
      old q (inr r) = inr (subst⁻¹ m'.is_h q (d.keep-H _ r))

  out-leaves' : (u : ℕ) → m'.is_v u → m'.out u ≢ NONE → tail m' (m'.out u) ≡ u
  out-leaves' u i z = out_cases u (d.V-is u i) (λ r e q. cc (tail-k)) (λ q. old q (C.out_in u (d.V-is u i)))
    where
      old : m'.out u ≡ m.out u → (m.out u ≡ NONE) ⊎ m.is_h (m.out u) → tail m' (m'.out u) ≡ u
      old q (inl r) = absurd (z (q ∙ r))
      old q (inr r) = cc (tail-old (m.out u) r, C.out_leaves u (d.V-is u i) (s.H-none (m.out u) r))

  none-leaves' : (u : ℕ) → m'.is_v u → m'.out u ≡ NONE → (t : ℕ) → m'.is_h t → tail m' t ≢ u
  none-leaves' u i z = out_cases u (d.V-is u i) (λ r e q. absurd (s'.H-none (partner c) d.k-in (sym q ∙ z)))
      (λ q.
      let free = C.none_leaves u (d.V-is u i) (sym q ∙ z) in
      each (λ t. tail m' t ≢ u)
      (λ e. free (m.next y) z-old (cc (tail-c, C.next_tail y d.y_in)))
      (λ e. free (m.next w) x-old (cc (tail-k, C.next_tail w d.w-in)))
      (λ t j e. free t j (cc (tail-old t j))))

  -- the turns: one more halfedge on the way at each end
  turn_sim : {a b : ℕ} → m.is_h a → Reach (turn m) a b → Reach (turn m') a b
  turn_sim = reach-sim m.is_h (λ t. t) (turn_in s C) (λ t i. split t (m.next w)
      (λ e. reach-next (reach-one {b = partner c} (cc)) (cc (C.prev_next w d.w-in)))
      (λ n1. split t (m.next y)
      (λ e. reach-next (reach-one {b = c} (cc (partner-partner c))) (cc (C.prev_next y d.y_in)))
      (λ n2. reach-one (cc (d.prev-old t i n1 n2)))))

  fore : (t : ℕ) → m'.is_h t → (r : ℕ) × m.is_h r × (tail m r ≡ tail m' t) × Reach (turn m') t r
  fore = each _
      (partner y, s.H-partner y d.y_in, cc (partner-partner y), reach-one (cc))
      (partner w, s.H-partner w d.w-in, cc (partner-partner w, tail-k), reach-one (cc))
      (λ t i. (t, i, sym (tail-old t i), here))

  aft : (t : ℕ) → m'.is_h t → (r : ℕ) × m.is_h r × (tail m r ≡ tail m' t) × Reach (turn m') r t
  aft = each _
      (m.next y, z-old, cc (C.next_tail y d.y_in), reach-one (cc (partner-partner c)))
      (m.next w, x-old, cc (C.next_tail w d.w-in, tail-k), reach-one (cc))
      (λ t i. (t, i, sym (tail-old t i), here))

  one-turn' : (a b : ℕ) → m'.is_h a → m'.is_h b → tail m' a ≡ tail m' b → Reach (turn m') a b
  one-turn' a b i j e =
      let (a₀, i₀, t, r) = fore a i in
      let (b₀, j₀, u, q) = aft b j in
      reach-trans r (reach-trans (turn_sim i₀ (C.one_turn a₀ b₀ i₀ j₀ (t ∙ e ∙ sym u))) q)

  rim-named' : (t : ℕ) → m'.is_h t → m'.face t ≡ NONE → m'.out (tail m' t) ≡ t
  rim-named' = each (λ t. m'.face t ≡ NONE → m'.out (tail m' t) ≡ t)
      (λ e. absurd (g-none (cc)))
      (λ e. cc (tail-k, d.out-rim (sym d.face-k ∙ e)))
      (λ t i e. inside t (λ p. absurd (g-none (cc (d.face-part t p))))
      (λ o.
      let q : m.out (tail m t) ≡ t = C.rim_named t i (sym (d.face-old t i o) ∙ e) in
      cc (
        tail-old t i,
        d.out-old (tail m t) (tail-in s C t i) (λ r z.
            o (subst M (sym (C.rim_named (m.next w) x-old (C.next_face w d.w-in ∙ r)) ∙ ap m.out (C.next_tail w d.w-in ∙ sym z) ∙ q) d.part.first-in)),
      )))

  pub insert-core : Core m'
  insert-core = record {
    face_in = face-in';
    head_in = head-in';
    next_in = next-in';
    prev_in = prev-in';
    out_in = out-in';
    start_in = d.start_in;
    next_prev = next-prev';
    prev_next = prev-next';
    next_tail = next-tail';
    next_face = next-face';
    start_bears = d.start_bears;
    one_loop = one-loop';
    a_face = a-face';
    no_spike = no-spike';
    heads_differ = heads-differ';
    two_long = two-long';
    out_leaves = out-leaves';
    none_leaves = none-leaves';
    one_turn = one-turn';
    rim_named = rim-named';
  }

  -- neither part is a single halfedge (a rim may keep one)
  pub insert-three : m.next w ≢ y → (m.face w ≢ NONE → m.next y ≢ w) → Three m → Three m'
  insert-three long-g long-k t = record { three_long = λ x i ne e. go x i ne (cc (prev-next' (m'.next x) (next-in' x i))) }
    where
      -- two steps within the part do not come back
      away : (x : ℕ) → M x → x ≢ y → m.next x ≢ y → m.next x ≢ m.prev x
      away x p ne nn e = done (pair-loop s C x y (part-old x p) e
          (reach-trans (reach-sym (perm-next s C) x-old (d.part.reached x p)) (d.part.reached y d.part.last-in)))
        where
          done : (y ≡ x) ⊎ (y ≡ m.next x) → ⊥
          done (inl q) = ne (sym q)
          done (inr q) = nn (sym q)

      go : (x : ℕ) → m'.is_h x → m'.face x ≢ NONE → m'.next x ≢ m'.prev x
      go = each _ (λ ne e. long-g (cc)) (λ ne e. long-k (λ z. ne (cc)) (cc))
          (λ x i ne. split x w
          (λ xw z. split x (m.next w) (λ q. next-ne s C w d.w-in (cc))
          (λ n1. split x (m.next y) (λ q. long-k (λ r. ne (cc (d.face-old x i (λ p. w-out (subst M xw p))))) (cc))
          (λ n2. old-k (m.prev x) (C.prev_in x i) (cc (d.prev-old x i n1 n2)))))
          (λ nw. split x y
          (λ xy z. split x (m.next w) (λ q. long-g (cc))
          (λ n1. split x (m.next y) (λ q. next-ne s C y d.y_in (cc))
          (λ n2. old-c (m.prev x) (C.prev_in x i) (cc (d.prev-old x i n1 n2)))))
          (λ ny z. split x (m.next w) (λ q. old-c (m.next x) (C.next_in x i) (cc (d.next-old x i nw ny)))
          (λ n1. split x (m.next y) (λ q. old-k (m.next x) (C.next_in x i) (cc (d.next-old x i nw ny)))
          (λ n2.
          let same : m.next x ≡ m.prev x = cc (d.next-old x i nw ny, d.prev-old x i n1 n2) in
          inside x
          (λ p. away x p ny (λ q. n2 (cc (C.next_prev x i))) same)
          (λ o. t.three_long x i (λ r. ne (d.face-old x i o ∙ r)) (cc (C.next_prev x i))))))))
