-- An edge between two faces is turned clockwise: it is turned counter-clockwise in the mirror. Assumes nothing.
--
-- The loop h, hn, …, hpp, hp becomes h, op, hn, …, hpp, and the loop o, on, …, opp, op becomes o, hp, on, …, opp.
use mathlib.Core.Path.{◌≡◌, sym, ap, ◌∙◌, subst, subst⁻¹}
use mathlib.Core.Logic.{◌⊎◌, inl, inr, ◌≢◌}
use Prim.Native.Nat.{ℕ}
use Rattle.scope.specs.Links.{NONE, partner}
use Rattle.laws_mesh.specs.Mesh.{Mesh, tail, relinked, Shape, Core, Consistent}
use Rattle.laws_mesh.proofs.Cycle.{split, pick, pick_yes, pick_no}
use Rattle.laws_mesh.proofs.Facts.{partner-partner, partner-ne, tail-in, next-ne}
use Rattle.laws_mesh.proofs.Mirror.{mirror, mirror-consistent}
use Rattle.laws_mesh.proofs.Relink.{Linked, relink}
use Rattle.laws_mesh.proofs.Swap.{Half, Swap, swap-consistent}

pub record HalfCw (m m' : Mesh) (h o : ℕ) : Type 0 where
  pub h-in : m.is_h h
  pub is-partner : partner h ≡ o
  pub faced : m.face h ≢ NONE
  pub not_last : m.prev h ≢ partner (m.next o)
  pub clear : (t : ℕ) → m.is_h t → m.face t ≡ m.face h → tail m t ≢ tail m (m.prev o)
  pub head-o : m'.head o ≡ tail m (m.prev h)
  pub face-b : m'.face (m.prev h) ≡ m.face o
  pub prev-h : m'.prev h ≡ m.prev (m.prev h)
  pub prev-b : m'.prev (m.prev h) ≡ o
  pub prev-n : m'.prev (m.next h) ≡ m.prev o
  pub next-h : m'.next h ≡ m.prev o
  pub next-b : m'.next (m.prev h) ≡ m.next o
  pub next-bb : m'.next (m.prev (m.prev h)) ≡ h
  pub start-b : (f : ℕ) → m.is_f f → m.start f ≡ m.prev h → m'.start f ≡ h
  pub out-h : (u : ℕ) → m.is_v u → m.out u ≡ h → m'.out u ≡ m.next o

pub record SwapCw (m m' : Mesh) (h o : ℕ) : Type 0 where
  pub one : HalfCw m m' h o
  pub two : HalfCw m m' o h
  pub keep-H : (t : ℕ) → m.is_h t → m'.is_h t
  pub H-is : (t : ℕ) → m'.is_h t → m.is_h t
  pub keep-V : (u : ℕ) → m.is_v u → m'.is_v u
  pub V-is : (u : ℕ) → m'.is_v u → m.is_v u
  pub keep-F : (f : ℕ) → m.is_f f → m'.is_f f
  pub F-is : (f : ℕ) → m'.is_f f → m.is_f f
  pub face-old : (t : ℕ) → m.is_h t → t ≢ m.prev h → t ≢ m.prev o → m'.face t ≡ m.face t
  pub head-old : (t : ℕ) → m.is_h t → t ≢ h → t ≢ o → m'.head t ≡ m.head t
  pub next-old : (t : ℕ) → m.is_h t → t ≢ h → t ≢ m.prev h → t ≢ m.prev (m.prev h) → t ≢ o → t ≢ m.prev o → t ≢ m.prev (m.prev o) → m'.next t ≡ m.next t
  pub prev-old : (t : ℕ) → m.is_h t → t ≢ h → t ≢ m.prev h → t ≢ m.next h → t ≢ o → t ≢ m.prev o → t ≢ m.next o → m'.prev t ≡ m.prev t
  pub start-old : (f : ℕ) → m.is_f f → m.start f ≢ m.prev h → m.start f ≢ m.prev o → m'.start f ≡ m.start f
  pub out-old : (u : ℕ) → m.is_v u → m.out u ≢ h → m.out u ≢ o → m'.out u ≡ m.out u

flip : {m m' : Mesh} {h o : ℕ} → SwapCw m m' h o → SwapCw m m' o h
flip d = record {
  one = d.two;
  two = d.one;
  keep-H = d.keep-H;
  H-is = d.H-is;
  keep-V = d.keep-V;
  V-is = d.V-is;
  keep-F = d.keep-F;
  F-is = d.F-is;
  face-old = λ t i p q. d.face-old t i q p;
  head-old = λ t i p q. d.head-old t i q p;
  next-old = λ t i p₁ p₂ p₃ q₁ q₂ q₃. d.next-old t i q₁ q₂ q₃ p₁ p₂ p₃;
  prev-old = λ t i p₁ p₂ p₃ q₁ q₂ q₃. d.prev-old t i q₁ q₂ q₃ p₁ p₂ p₃;
  start-old = λ f i p q. d.start-old f i q p;
  out-old = λ u i p q. d.out-old u i q p;
}

-- what the mirror's vertices name after a counter-clockwise turn
out-ccw : Mesh → ℕ → ℕ → ℕ → ℕ
out-ccw m h o u = pick ((mirror m).out u) h (m.prev o) (pick ((mirror m).out u) o (m.prev h) ((mirror m).out u))

half : {m m' : Mesh} {h o : ℕ} → SwapCw m m' h o → (out'' : ℕ → ℕ) → ((u : ℕ) → (mirror m).out u ≡ h → out'' u ≡ m.prev o) → Half (mirror m) (relinked (mirror m') m'.is_v out'' m'.start) h o
half {m} {m'} d out'' q = record {
  h-in = d.one.h-in;
  is-partner = d.one.is-partner;
  faced = d.one.faced;
  not_last = d.one.not_last;
  clear = d.one.clear;
  head-h = ap m'.head d.one.is-partner ∙ d.one.head-o;
  face-n = d.one.face-b;
  next-h = d.one.prev-h;
  next-n = d.one.prev-b;
  next-b = d.one.prev-n;
  prev-h = d.one.next-h;
  prev-n = d.one.next-b;
  prev-nn = d.one.next-bb;
  start-n = d.one.start-b;
  out-h = λ u i. q u;
}

module _ {m m' : Mesh} {h o : ℕ} (s : Shape m) (s' : Shape m') (k : Consistent m) (d : SwapCw m m' h o) where
  h≢o : h ≢ o
  h≢o e = partner-ne h (d.one.is-partner ∙ sym e)

  out-at-h : (u : ℕ) → (mirror m).out u ≡ h → out-ccw m h o u ≡ m.prev o
  unfolding out-ccw
  out-at-h u e = pick_yes _ _ _ _ e

  out-at-o : (u : ℕ) → (mirror m).out u ≡ o → out-ccw m h o u ≡ m.prev h
  unfolding out-ccw
  out-at-o u e = pick_no _ _ _ _ (λ q. h≢o (sym q ∙ e)) ∙ pick_yes _ _ _ _ e

  out-else : (u : ℕ) → (mirror m).out u ≢ h → (mirror m).out u ≢ o → out-ccw m h o u ≡ (mirror m).out u
  unfolding out-ccw
  out-else u p q = pick_no _ _ _ _ p ∙ pick_no _ _ _ _ q

  swapped : Swap (mirror m) (relinked (mirror m') m'.is_v (out-ccw m h o) m'.start) h o
  swapped = record {
    one = half d (out-ccw m h o) out-at-h;
    two = half (flip d) (out-ccw m h o) out-at-o;
    keep-H = d.keep-H;
    H-is = d.H-is;
    keep-V = d.keep-V;
    V-is = d.V-is;
    keep-F = d.keep-F;
    F-is = d.F-is;
    face-old = d.face-old;
    head-old = λ t i p q. d.head-old (partner t) (s.H-partner t i) (λ e. q (cc (partner-partner t, d.one.is-partner))) (λ e. p (cc (partner-partner t, d.two.is-partner)));
    next-old = d.prev-old;
    prev-old = d.next-old;
    start-old = d.start-old;
    out-old = λ u i p q. out-else u p q;
  }

  shape-m : Shape (mirror m)
  shape-m = record { size = s.size; below = s.below; H-partner = s.H-partner; H-none = s.H-none; F-none = s.F-none }

  shape-2 : Shape (relinked (mirror m') m'.is_v (out-ccw m h o) m'.start)
  shape-2 = record { size = s'.size; below = s'.below; H-partner = s'.H-partner; H-none = s'.H-none; F-none = s'.F-none }

  twice : Consistent (mirror (relinked (mirror m') m'.is_v (out-ccw m h o) m'.start))
  twice =
      let km = mirror-consistent s k in
      mirror-consistent shape-2 (swap-consistent shape-m shape-2 km.core km.three swapped)

  -- the mirror of the mirror has the heads that were
  back : Consistent (relinked m' m'.is_v (mirror (relinked (mirror m') m'.is_v (out-ccw m h o) m'.start)).out m'.start)
  back = subst Consistent same twice
    where
      same : mirror (relinked (mirror m') m'.is_v (out-ccw m h o) m'.start) ≡ relinked m' m'.is_v (mirror (relinked (mirror m') m'.is_v (out-ccw m h o) m'.start)).out m'.start
      same = λ i. record {
        is_h = m'.is_h;
        is_v = m'.is_v;
        is_f = m'.is_f;
        face = m'.face;
        head = λ x. m'.head (partner-partner x i);
        next = m'.next;
        prev = m'.prev;
        out = (mirror (relinked (mirror m') m'.is_v (out-ccw m h o) m'.start)).out;
        start = m'.start;
      }

  -- the links
  c : Core m
  c = k.core

  tail-old : (t : ℕ) → m.is_h t → t ≢ h → t ≢ o → tail m' t ≡ tail m t
  tail-old t i p q = d.head-old (partner t) (s.H-partner t i) (λ e. q (cc (partner-partner t, d.one.is-partner))) (λ e. p (cc (partner-partner t, d.two.is-partner)))

  out_cases : {P : Type 0} (u : ℕ) → m.is_v u → (m.out u ≡ h → m'.out u ≡ m.next o → P) → (m.out u ≡ o → m'.out u ≡ m.next h → P)
      → (m.out u ≢ h → m.out u ≢ o → m'.out u ≡ m.out u → P) → P
  out_cases u i p q r = split (m.out u) h (λ e. p e (d.one.out-h u i e)) (λ n₁. split (m.out u) o (λ e. q e (d.two.out-h u i e)) (λ n₂. r n₁ n₂ (d.out-old u i n₁ n₂)))

  -- o's next leaves the tail of h
  leaves : (h o : ℕ) → m.is_h h → m.is_h o → partner h ≡ o → partner o ≡ h → (u : ℕ) → m.is_v u → m.out u ≡ h
      → tail m' (m.next o) ≡ tail m (m.next o) → tail m' (m.next o) ≡ u
  leaves h o i j p q u v e w = cc (k.core.next_tail o j, k.core.out_leaves u v (λ r. s.H-none h i (sym e ∙ r)))

  no-o : m.next o ≢ h
  no-o e = k.core.no_spike o d.two.h-in (e ∙ sym d.two.is-partner)

  no-h : m.next h ≢ o
  no-h e = k.core.no_spike h d.one.h-in (e ∙ sym d.one.is-partner)

  links : Linked m' m'.is_v m'.out m'.start
  links = record {
    head_in = back.core.head_in;
    start_in = back.core.start_in;
    start_bears = back.core.start_bears;
    out_in = λ u j. let i = d.V-is u j in out_cases u i
        (λ e q. inr (subst⁻¹ m'.is_h q (d.keep-H _ (k.core.next_in o d.two.h-in))))
        (λ e q. inr (subst⁻¹ m'.is_h q (d.keep-H _ (k.core.next_in h d.one.h-in))))
        (λ n₁ n₂ q. kept u q (k.core.out_in u i));
    out_leaves = λ u j z. let i = d.V-is u j in out_cases u i
        (λ e q. ap (tail m') q ∙ leaves h o d.one.h-in d.two.h-in d.one.is-partner d.two.is-partner u i e
        (tail-old (m.next o) (k.core.next_in o d.two.h-in) no-o (next-ne s k.core o d.two.h-in)))
        (λ e q. ap (tail m') q ∙ leaves o h d.two.h-in d.one.h-in d.two.is-partner d.one.is-partner u i e
        (tail-old (m.next h) (k.core.next_in h d.one.h-in) (next-ne s k.core h d.one.h-in) no-h))
        (λ n₁ n₂ q. old u i n₁ n₂ q z (k.core.out_in u i));
    none_leaves = λ u j z t l e. let i = d.V-is u j in out_cases u i
        (λ p q. s.H-none _ (k.core.next_in o d.two.h-in) (sym q ∙ z))
        (λ p q. s.H-none _ (k.core.next_in h d.one.h-in) (sym q ∙ z))
        (λ n₁ n₂ q.
        let free = k.core.none_leaves u i (sym q ∙ z) in
        split t h (λ x. free _ (k.core.prev_in h d.one.h-in) (cc (d.one.head-o, d.one.is-partner))) (λ x.
        split t o (λ y. free _ (k.core.prev_in o d.two.h-in) (cc (d.two.head-o, d.two.is-partner))) (λ y.
        free t (d.H-is t l) (sym (tail-old t (d.H-is t l) x y) ∙ e))));
    rim_named = λ t j e.
        let i = d.H-is t j in
        let b₁ : t ≢ m.prev h = λ q. d.two.faced (cc d.one.face-b) in
        let b₂ : t ≢ m.prev o = λ q. d.one.faced (cc d.two.face-b) in
        let r : m.face t ≡ NONE = sym (d.face-old t i b₁ b₂) ∙ e in
        let n₁ : t ≢ h = λ q. d.one.faced (cc) in
        let n₂ : t ≢ o = λ q. d.two.faced (cc) in
        let q : m.out (tail m t) ≡ t = k.core.rim_named t i r in
        cc (tail-old t i n₁ n₂, d.out-old (tail m t) (tail-in s k.core t i) (λ z. n₁ (cc)) (λ z. n₂ (cc)));
  }
    where
      kept : (u : ℕ) → m'.out u ≡ m.out u → (m.out u ≡ NONE) ⊎ m.is_h (m.out u) → (m'.out u ≡ NONE) ⊎ m'.is_h (m'.out u)
      kept u q (inl r) = inl (q ∙ r)
      kept u q (inr r) = inr (subst⁻¹ m'.is_h q (d.keep-H _ r))

      old : (u : ℕ) → m.is_v u → m.out u ≢ h → m.out u ≢ o → m'.out u ≡ m.out u → m'.out u ≢ NONE → (m.out u ≡ NONE) ⊎ m.is_h (m.out u) → tail m' (m'.out u) ≡ u
      old u i n₁ n₂ q z (inl r) = absurd (z (q ∙ r))
      old u i n₁ n₂ q z (inr r) = cc (tail-old (m.out u) r n₁ n₂, k.core.out_leaves u i (s.H-none (m.out u) r))

  pub swap_cw-consistent : Consistent m'
  swap_cw-consistent = relink back (record {
    head_in = links.head_in;
    out_in = links.out_in;
    start_in = links.start_in;
    start_bears = links.start_bears;
    out_leaves = links.out_leaves;
    none_leaves = links.none_leaves;
    rim_named = links.rim_named;
  })
