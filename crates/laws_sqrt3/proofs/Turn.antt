-- The second half of a sqrt3 pass: every old edge with two faces is turned, in index order. Assumes nothing.
use mathlib.Core.Path.{◌≡◌, refl, sym, ap, ◌∙◌, subst, subst⁻¹}
use mathlib.Core.Logic.{◌⊎◌, inl, inr, ◌≢◌}
use mathlib.Core.Bool.{Bool, true, false, ◌||◌}
use Prim.Native.Nat.{ℕ, zero, suc, ◌+◌, ◌-◌, ◌*◌, ◌/◌, ◌%◌, ◌≤◌, ◌<◌}
use native.Mathlib.Omega.{arith}
use lib.Dec.{T, eqb, eqb_refl}
use Rattle.scope.specs.Lists.{each, if}
use Rattle.scope.specs.Links.{Links, NONE, partner, face, head, next, prev, rim}
use Rattle.scope.specs.Edits.{swap_ccw}
use Rattle.scope.specs.Passes.{swap_inner}
use Rattle.laws_mesh.specs.Mesh.{Mesh, Shape, Core, Consistent}
use Rattle.laws_mesh.specs.Of.{mesh}
use Rattle.laws_mesh.proofs.Cycle.{split}
use Rattle.laws_mesh.proofs.Facts.{partner-partner, partner-even, partner-odd, partner-lt, head-prev, next-inj}
use Rattle.laws_mesh.proofs.Loops.{good-shape}
use Rattle.laws_mesh.proofs.Swap.{Swap}
use Rattle.laws_mesh.proofs.SwapLaws.{ccw-end, Swappable, swap_ccw-is, swap_ccw-good}
use Rattle.laws_triangulate.proofs.Triangular.{Triangular, tri-back, tri-tip, tri-three}
pub use Rattle.laws_sqrt3.proofs.TurnedRecord.{Turned}

-- ---- a swap of two triangles, in any mesh of triangles
module _ {m m' : Mesh} {h o : ℕ} (s : Shape m) (k : Consistent m) (T : Triangular m) (d : Swap m m' h o) where
  c : Core m
  c = k.core

  six : ℕ → Type 0
  six t = (t ≡ h) ⊎ ((t ≡ m.next h) ⊎ ((t ≡ m.prev h) ⊎ ((t ≡ o) ⊎ ((t ≡ m.next o) ⊎ (t ≡ m.prev o)))))

  h-in : m.is_h h
  h-in = d.one.h-in

  o-in : m.is_h o
  o-in = d.two.h-in

  hb : m.next (m.next h) ≡ m.prev h
  hb = tri-back s k T h h-in d.one.faced

  ob : m.next (m.next o) ≡ m.prev o
  ob = tri-back s k T o o-in d.two.faced

  -- next leads into the six only from them
  into : (t : ℕ) → m.is_h t → six (m.next t) → six t
  unfolding six
  into t i (inl e) = inr (inr (inl (next-inj s c t _ i (c.prev_in h h-in) (e ∙ sym (c.next_prev h h-in)))))
  into t i (inr (inl e)) = inl (next-inj s c t h i h-in e)
  into t i (inr (inr (inl e))) = inr (inl (next-inj s c t _ i (c.next_in h h-in) (e ∙ sym hb)))
  into t i (inr (inr (inr (inl e)))) = inr (inr (inr (inr (inr (next-inj s c t _ i (c.prev_in o o-in) (e ∙ sym (c.next_prev o o-in)))))))
  into t i (inr (inr (inr (inr (inl e))))) = inr (inr (inr (inl (next-inj s c t o i o-in e))))
  into t i (inr (inr (inr (inr (inr e))))) = inr (inr (inr (inr (inl (next-inj s c t _ i (c.next_in o o-in) (e ∙ sym ob))))))

  free : (t : ℕ) → m.is_h t → ¬ six t → m'.next t ≡ m.next t
  unfolding six
  free t i n = d.next-old t i (λ e. n (inl e)) (λ e. n (inr (inl e))) (λ e. n (inr (inr (inl e)))) (λ e. n (inr (inr (inr (inl e)))))
      (λ e. n (inr (inr (inr (inr (inl e)))))) (λ e. n (inr (inr (inr (inr (inr e))))))

  pub swap-tri : Triangular m'
  unfolding six
  swap-tri = record {
    closes = λ t i ne.
        split t h (λ e. cc (hb)) (λ n₁. split t (m.next h) (λ e. cc (ob)) (λ n₂. split t (m.prev h) (λ e. cc (hb)) (λ n₃.
        split t o (λ e. cc (ob)) (λ n₄. split t (m.next o) (λ e. cc (hb)) (λ n₅. split t (m.prev o) (λ e. cc (ob)) (λ n₆.
        let j = d.H-is t i in
        let out : ¬ six t = outside t n₁ n₂ n₃ n₄ n₅ n₆ in
        let i₁ = c.next_in t j in
        let out₁ : ¬ six (m.next t) = λ q. out (into t j q) in
        let i₂ = c.next_in (m.next t) i₁ in
        let out₂ : ¬ six (m.next (m.next t)) = λ q. out₁ (into (m.next t) i₁ q) in
        cc (free t j out, free (m.next t) i₁ out₁, free (m.next (m.next t)) i₂ out₂, T.closes t j (λ q. ne (d.face-old t j n₂ n₅ ∙ q)))))))));
  }
    where
      outside : (t : ℕ) → t ≢ h → t ≢ m.next h → t ≢ m.prev h → t ≢ o → t ≢ m.next o → t ≢ m.prev o
          → (t ≡ h) ⊎ ((t ≡ m.next h) ⊎ ((t ≡ m.prev h) ⊎ ((t ≡ o) ⊎ ((t ≡ m.next o) ⊎ (t ≡ m.prev o))))) → ⊥
      outside t n₁ n₂ n₃ n₄ n₅ n₆ (inl e) = n₁ e
      outside t n₁ n₂ n₃ n₄ n₅ n₆ (inr (inl e)) = n₂ e
      outside t n₁ n₂ n₃ n₄ n₅ n₆ (inr (inr (inl e))) = n₃ e
      outside t n₁ n₂ n₃ n₄ n₅ n₆ (inr (inr (inr (inl e)))) = n₄ e
      outside t n₁ n₂ n₃ n₄ n₅ n₆ (inr (inr (inr (inr (inl e))))) = n₅ e
      outside t n₁ n₂ n₃ n₄ n₅ n₆ (inr (inr (inr (inr (inr e))))) = n₆ e

-- what `swap_inner` does: an edge on the rim is left
inner-cases : (m : Links) (e : ℕ) (P : Links → Type 0) → P m → (face m (2 * e) ≢ NONE → face m (2 * e + 1) ≢ NONE → P (swap_ccw e m)) → P (swap_inner e m)
unfolding swap_inner
inner-cases m e P p q = go (rim m (2 * e)) (rim m (2 * e + 1)) (λ a b. q (λ z. a (T-eq z)) (λ z. b (T-eq z)))
  where
    T-eq : {x y : ℕ} → x ≡ y → T (eqb x y)
    T-eq {x} {y} e = subst (λ (z : ℕ). T (eqb x z)) e (eqb_refl x)

    go : (a b : Bool) → (¬ T a → ¬ T b → P (swap_ccw e m)) → P (if (a || b) m (swap_ccw e m))
    go true b h = p
    go false true h = p
    go false false h = h (λ t. t) (λ t. t)

swap-ne : (m : Links) (e : ℕ) → (swap_ccw e m).ne ≡ m.ne
unfolding swap_ccw
swap-ne m e = refl

-- ---- the fold

module _ (m₀ m : Links) (Q R : ℕ → Type 0) (e : ℕ) (sym-Q : (t : ℕ) → Q t → Q (partner t))
    (Q-two : (t : ℕ) → t < 2 * m₀.ne → face m₀ t ≢ NONE → face m₀ (partner t) ≢ NONE → Q t)
    (s : Turned m₀ m Q R e) (e-lt : e < m₀.ne) where
  h₀ : 2 * e < 2 * m₀.ne
  h₀ = omega arith

  o₀ : 2 * e + 1 < 2 * m₀.ne
  o₀ = omega arith

  abbrev Later : ℕ → ℕ → Type 0
  Later e t = (2 * e ≤ t) ⊎ ((face m₀ t ≡ NONE) ⊎ (face m₀ (partner t) ≡ NONE))

  sooner : (t : ℕ) → Later (suc e) t → Later e t
  sooner t (inl q) = inl (omega arith)
  sooner t (inr q) = inr q

  partner-later : (t : ℕ) → Later (suc e) t → Later (suc e) (partner t)
  unfolding partner
  partner-later t (inl q) = inl (let g : 2 * suc e ≤ t / 2 * 2 + (1 - t % 2) = omega arith in g)
  partner-later t (inr (inl q)) = inr (inr (ap (face m₀) (partner-partner t) ∙ q))
  partner-later t (inr (inr q)) = inr (inl q)

  -- an edge on the rim is left
  left : Turned m₀ m Q R (suc e)
  left = record {
    good = s.good;
    tri = s.tri;
    ne-lo = s.ne-lo;
    inner = s.inner;
    rim = s.rim;
    faced = s.faced;
    heads = λ t i q l. s.heads t i q (sooner t l);
    tips = λ t i q l. s.tips t i q (sooner t l);
    apart = λ t i q l. s.apart t i q (omega arith);
  }

  module _ (hf : face m (2 * e) ≢ NONE) (of : face m (2 * e + 1) ≢ NONE) where
    C : Core (mesh m)
    C = s.good.consistent.core

    H : 2 * e < 2 * m.ne
    H = let q = s.ne-lo in omega arith

    O : 2 * e + 1 < 2 * m.ne
    O = let q = s.ne-lo in omega arith

    hp : partner (2 * e) ≡ 2 * e + 1
    hp = partner-even e

    op : partner (2 * e + 1) ≡ 2 * e
    op = partner-odd e

    hf₀ : face m₀ (2 * e) ≢ NONE
    hf₀ q = hf (s.rim (2 * e) h₀ q)

    of₀ : face m₀ (2 * e + 1) ≢ NONE
    of₀ q = of (s.rim (2 * e + 1) o₀ q)

    h_q : Q (2 * e)
    h_q = Q-two (2 * e) h₀ hf₀ (λ q. of₀ (ap (face m₀) (sym hp) ∙ q))

    o_q : Q (2 * e + 1)
    o_q = subst Q hp (sym-Q (2 * e) h_q)

    hn : ℕ
    hn = next m (2 * e)

    on : ℕ
    on = next m (2 * e + 1)

    -- ends and tips
    h-end : head m (2 * e) < m₀.nv
    h-end = s.heads (2 * e) h₀ h_q (inl (omega arith))

    o-end : head m (2 * e + 1) < m₀.nv
    o-end = s.heads (2 * e + 1) o₀ o_q (inl (omega arith))

    h-tip : m₀.nv ≤ head m (next m (2 * e))
    h-tip = s.tips (2 * e) h₀ h_q (inl (omega arith)) hf₀

    o-tip : m₀.nv ≤ head m (next m (2 * e + 1))
    o-tip = s.tips (2 * e + 1) o₀ o_q (inl (omega arith)) of₀

    two-tips : head m (next m (2 * e)) ≢ head m (next m (2 * e + 1))
    two-tips q = s.apart (2 * e) h₀ h_q (omega arith) hf₀ (λ z. of₀ (ap (face m₀) (sym hp) ∙ z)) (q ∙ ap (λ (t : ℕ). head m (next m t)) (sym hp))

    S : Shape (mesh m)
    S = good-shape m s.good

    from-tip : (t : ℕ) → t < 2 * m.ne → face m t ≢ NONE → head m (partner (prev m t)) ≡ head m (next m t)
    from-tip = tri-tip S s.good.consistent s.tri

    -- no corner of t's triangle is v, if its two ends and its tip are not
    clear_at : (t v : ℕ) → t < 2 * m.ne → face m t ≢ NONE → head m t ≢ v → head m (next m t) ≢ v → head m (partner t) ≢ v
        → (u : ℕ) → u < 2 * m.ne → face m u ≡ face m t → head m u ≢ v
    clear_at t v i r a b c u j q = go (tri-three S s.good.consistent s.tri t u i j r q)
      where
        go : (u ≡ t) ⊎ ((u ≡ next m t) ⊎ (u ≡ prev m t)) → head m u ≢ v
        go (inl z) w = a (ap (head m) (sym z) ∙ w)
        go (inr (inl z)) w = b (ap (head m) (sym z) ∙ w)
        go (inr (inr z)) w = c (sym (head-prev S C t i) ∙ ap (head m) (sym z) ∙ w)

    able : Swappable (mesh m) m (ccw-end m) e
    able = record {
      h-in = H;
      h-faced = hf;
      o-faced = of;
      h-clear = clear_at (2 * e) _ H hf (λ q. (let a = h-end in let b = o-tip in omega arith)) two-tips
          (λ q. (let a = o-end in let b = o-tip in let z : head m (2 * e + 1) ≡ _ = ap (head m) (sym hp) ∙ q in omega arith));
      o-clear = clear_at (2 * e + 1) _ O of (λ q. (let a = o-end in let b = h-tip in omega arith)) (λ q. two-tips (sym q))
          (λ q. (let a = h-end in let b = h-tip in let z : head m (2 * e) ≡ _ = ap (head m) (sym op) ∙ q in omega arith));
    }

    d : Swap (mesh m) (mesh (swap_ccw e m)) (2 * e) (2 * e + 1)
    d = swap_ccw-is m e s.good able

    abbrev m' : Links
    m' = swap_ccw e m

    -- an old halfedge that is still to come, or on the rim, is not touched, nor what follows it ends elsewhere
    module _ (t : ℕ) (i : t < 2 * m₀.ne) (q : Q t) (l : Later (suc e) t) where
      j : t < 2 * m.ne
      j = let a = s.ne-lo in omega arith

      t-end : head m t < m₀.nv
      t-end = s.heads t i q (sooner t l)

      t-start : head m (partner t) < m₀.nv
      t-start = s.heads (partner t) (partner-lt t m₀.ne i) (sym-Q t q) (sooner _ (partner-later t l))

      t≢h : t ≢ 2 * e
      t≢h z = go l
        where
          go : Later (suc e) t → ⊥
          go (inl w) = omega arith
          go (inr (inl w)) = hf₀ (ap (face m₀) (sym z) ∙ w)
          go (inr (inr w)) = of₀ (ap (face m₀) (sym (ap partner z ∙ hp)) ∙ w)

      t≢o : t ≢ 2 * e + 1
      t≢o z = go l
        where
          go : Later (suc e) t → ⊥
          go (inl w) = omega arith
          go (inr (inl w)) = of₀ (ap (face m₀) (sym z) ∙ w)
          go (inr (inr w)) = hf₀ (ap (face m₀) (sym (ap partner z ∙ op)) ∙ w)

      t≢hn : t ≢ next m (2 * e)
      t≢hn z = let a = t-end in let b = h-tip in let w = ap (head m) z in omega arith

      t≢on : t ≢ next m (2 * e + 1)
      t≢on z = let a = t-end in let b = o-tip in let w = ap (head m) z in omega arith

      t≢hb : t ≢ prev m (2 * e)
      t≢hb z = let a = t-start in let b = h-tip in let w = ap (λ (t : ℕ). head m (partner t)) z ∙ from-tip (2 * e) H hf in omega arith

      t≢ob : t ≢ prev m (2 * e + 1)
      t≢ob z = let a = t-start in let b = o-tip in let w = ap (λ (t : ℕ). head m (partner t)) z ∙ from-tip (2 * e + 1) O of in omega arith

      head-same : head m' t ≡ head m t
      head-same = d.head-old t j t≢h t≢o

      next-same : next m' t ≡ next m t
      next-same = d.next-old t j t≢h t≢hn t≢hb t≢o t≢on t≢ob

      tip_same : head m' (next m' t) ≡ head m (next m t)
      tip_same = ap (head m') next-same ∙ d.head-old (next m t) (C.next_in t j)
          (λ z. t≢hb (sym (C.prev_next t j) ∙ ap (prev m) z)) (λ z. t≢ob (sym (C.prev_next t j) ∙ ap (prev m) z))

    face-same : (t : ℕ) → t < 2 * m.ne → (face m t ≡ NONE → face m' t ≡ NONE) × (face m t ≢ NONE → face m' t ≢ NONE)
    face-same t i = split t (next m (2 * e))
        (λ z. ((λ r. absurd (hf (sym (C.next_face (2 * e) H) ∙ ap (face m) (sym z) ∙ r))), (λ r w. of (sym (ap (face m') z ∙ d.one.face-n) ∙ w))))
        (λ n₁. split t (next m (2 * e + 1))
        (λ z. ((λ r. absurd (of (sym (C.next_face (2 * e + 1) O) ∙ ap (face m) (sym z) ∙ r))), (λ r w. hf (sym (ap (face m') z ∙ d.two.face-n) ∙ w))))
        (λ n₂. let same = d.face-old t i n₁ n₂ in ((λ r. same ∙ r), (λ r w. r (sym same ∙ w)))))

    turned : Turned m₀ m' Q R (suc e)
    turned = record {
      good = swap_ccw-good m e s.good able;
      tri = swap-tri S s.good.consistent s.tri d;
      ne-lo = ne_same;
      inner = λ t i r. inner' t (subst (λ (x : ℕ). t < 2 * x) (swap-ne m e) i) r;
      rim = λ t i r. (face-same t (up t i)).0 (s.rim t i r);
      faced = λ t i r. (face-same t (up t i)).1 (s.faced t i r);
      heads = λ t i q l. subst⁻¹ (λ (v : ℕ). v < m₀.nv) (head-same t i q l) (s.heads t i q (sooner t l));
      tips = λ t i q l r. subst⁻¹ (λ (v : ℕ). m₀.nv ≤ v) (tip_same t i q l) (s.tips t i q (sooner t l) r);
      apart = λ t i q l r r' z. s.apart t i q (omega arith) r r'
          (sym (tip_same t i q (inl l)) ∙ z ∙ tip_same (partner t) (partner-lt t m₀.ne i) (sym-Q t q) (partner-later t (inl l)));
    }
      where
        up : (t : ℕ) → t < 2 * m₀.ne → t < 2 * m.ne
        up t i = let a = s.ne-lo in omega arith

        inner' : (t : ℕ) → t < 2 * m.ne → face m' t ≡ NONE → R t
        inner' t i r = split (face m t) NONE (λ z. s.inner t i z) (λ z. absurd ((face-same t i).1 z r))

        ne_same : m₀.ne ≤ m'.ne
        ne_same = subst⁻¹ (λ (x : ℕ). m₀.ne ≤ x) (swap-ne m e) s.ne-lo

  pub turn_step : Turned m₀ (swap_inner e m) Q R (suc e)
  turn_step = inner-cases m e (λ (m : Links). Turned m₀ m Q R (suc e)) left turned

pub turns : (m₀ m : Links) (Q R : ℕ → Type 0) (e : ℕ) → ((t : ℕ) → Q t → Q (partner t))
    → ((t : ℕ) → t < 2 * m₀.ne → face m₀ t ≢ NONE → face m₀ (partner t) ≢ NONE → Q t)
    → e ≤ m₀.ne → Turned m₀ m Q R zero → Turned m₀ (each e swap_inner m) Q R e
unfolding each
turns m₀ m Q R zero sq q2 l s = s
turns m₀ m Q R (suc e) sq q2 l s = turn_step m₀ (each e swap_inner m) Q R e sq q2 (turns m₀ m Q R e sq q2 (omega arith) s) l

-- counts stay
pub swap-counts : (m : Links) (e : ℕ) → ((swap_inner e m).nv ≡ m.nv) × ((swap_inner e m).ne ≡ m.ne) × ((swap_inner e m).nf ≡ m.nf)
unfolding swap_ccw
swap-counts m e = inner-cases m e (λ (m' : Links). (m'.nv ≡ m.nv) × (m'.ne ≡ m.ne) × (m'.nf ≡ m.nf)) (refl, refl, refl) (λ p q. (refl, refl, refl))

pub swaps-counts : (e : ℕ) (m : Links) → ((each e swap_inner m).nv ≡ m.nv) × ((each e swap_inner m).ne ≡ m.ne) × ((each e swap_inner m).nf ≡ m.nf)
unfolding each
swaps-counts zero m = (refl, refl, refl)
swaps-counts (suc e) m =
    let (a, b, c) = swap-counts (each e swap_inner m) e in
    let (a', b', c') = swaps-counts e m in
    (a ∙ a', b ∙ b', c ∙ c')
