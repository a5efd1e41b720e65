-- What holds in every consistent mesh. Assumes nothing.
use mathlib.Core.Path.{◌≡◌, refl, sym, ap, ◌∙◌}
use mathlib.Core.Logic.{◌⊎◌, inl, inr, ◌≢◌}
use Prim.Native.Nat.{ℕ, ◌+◌, ◌*◌, ◌/◌, ◌<◌}
use native.Mathlib.Omega.{arith}
use Rattle.laws_mesh.specs.Reach.{Reach}
use Rattle.scope.specs.Links.{NONE, partner}
use Rattle.laws_mesh.specs.Mesh.{Mesh, tail, turn, Shape, Core}
use Rattle.laws_mesh.proofs.Cycle.{split, Perm, reach-ind}

pub partner-partner : (h : ℕ) → partner (partner h) ≡ h
unfolding partner
partner-partner h = omega arith

pub partner-ne : (h : ℕ) → partner h ≢ h
unfolding partner
partner-ne h = omega arith

pub partner-even : (e : ℕ) → partner (2 * e) ≡ 2 * e + 1
unfolding partner
partner-even e = omega arith

pub partner-odd : (e : ℕ) → partner (2 * e + 1) ≡ 2 * e
unfolding partner
partner-odd e = omega arith

pub partner-half : (h : ℕ) → partner h / 2 ≡ h / 2
unfolding partner
partner-half h = omega arith

pub partner-lt : (h n : ℕ) → h < 2 * n → partner h < 2 * n
unfolding partner
partner-lt h n l = omega arith

pub partner-inj : (a b : ℕ) → partner a ≡ partner b → a ≡ b
partner-inj a b e = cc (partner-partner a, partner-partner b)

module _ {m : Mesh} (s : Shape m) (c : Core m) where
  pub perm-next : Perm m.is_h s.size m.next m.prev
  perm-next = record { below = s.below; fore = c.next_in; back = c.prev_in; gf = c.prev_next; fg = c.next_prev }

  pub head-prev : (h : ℕ) → m.is_h h → m.head (m.prev h) ≡ tail m h
  head-prev h i = cc (c.next_prev h i, c.next_tail (m.prev h) (c.prev_in h i))

  pub turn_in : (h : ℕ) → m.is_h h → m.is_h (turn m h)
  turn_in h i = s.H-partner (m.prev h) (c.prev_in h i)

  -- the turn keeps the tail
  pub turn-tail : (h : ℕ) → m.is_h h → tail m (turn m h) ≡ tail m h
  turn-tail h i = cc (head-prev h i, partner-partner (m.prev h))

  pub perm-turn : Perm m.is_h s.size (turn m) (λ h. m.next (partner h))
  perm-turn = record {
    below = s.below;
    fore = turn_in;
    back = λ x i. c.next_in (partner x) (s.H-partner x i);
    gf = λ x i. cc (partner-partner (m.prev x), c.next_prev x i);
    fg = λ x i. cc (c.prev_next (partner x) (s.H-partner x i), partner-partner x);
  }

  pub prev-face : (h : ℕ) → m.is_h h → m.face (m.prev h) ≡ m.face h
  prev-face h i = cc (c.next_prev h i, c.next_face (m.prev h) (c.prev_in h i))

  -- a loop stays in one face, and among what is there
  pub loop-in : {a b : ℕ} → m.is_h a → Reach m.next a b → m.is_h b
  loop-in = reach-ind m.is_h c.next_in

  pub loop-face : {a b : ℕ} → m.is_h a → Reach m.next a b → m.face b ≡ m.face a
  loop-face {a} i r = (reach-ind (λ (t : ℕ). m.is_h t × (m.face t ≡ m.face a)) (λ u q. (c.next_in u q.0, c.next_face u q.0 ∙ q.1)) (i, refl) r).1

  -- C6 the other way round
  pub prev-ne : (h : ℕ) → m.is_h h → m.prev h ≢ partner h
  prev-ne h i e = c.no_spike (partner h) (s.H-partner h i) (cc (c.next_prev h i, partner-partner h))

  pub next-partner-ne : (h : ℕ) → m.is_h h → m.next (partner h) ≢ h
  next-partner-ne h i e = c.no_spike (partner h) (s.H-partner h i) (cc (partner-partner h))

  -- an edge's two faces differ
  pub two-faces : (h : ℕ) → m.is_h h → m.face h ≢ m.face (partner h)
  two-faces h i e =
      split (m.face h) NONE (λ r. c.a_face h i r (cc))
      (λ r. prev-ne h i (c.heads_differ (m.prev h) (partner h) (c.prev_in h i) (s.H-partner h i) (λ z. r (cc (prev-face h i))) (cc (prev-face h i)) (head-prev h i)))

  no-self-faced : (h : ℕ) → m.is_h h → m.face h ≢ NONE → tail m h ≢ m.head h
  no-self-faced h i r e =
      let q = c.heads_differ (m.prev h) h (c.prev_in h i) i (λ z. r (cc (prev-face h i))) (prev-face h i) (cc (head-prev h i)) in
      c.two_long h i r (cc (c.next_prev h i))

  -- no edge joins a vertex to itself
  pub no_self : (h : ℕ) → m.is_h h → tail m h ≢ m.head h
  no_self h i e =
      split (m.face h) NONE
      (λ r. no-self-faced (partner h) (s.H-partner h i) (c.a_face h i r) (cc (partner-partner h)))
      (λ r. no-self-faced h i r e)

  pub tail-in : (h : ℕ) → m.is_h h → m.is_v (tail m h)
  tail-in h i = c.head_in (partner h) (s.H-partner h i)

  -- nothing ends at a vertex that nothing leaves
  pub none-ends : (v : ℕ) → m.is_v v → m.out v ≡ NONE → (h : ℕ) → m.is_h h → m.head h ≢ v
  none-ends v i e h j q = c.none_leaves v i e (partner h) (s.H-partner h j) (cc (partner-partner h))

  -- C7's "heads all different" holds of rim loops too, by C9
  pub heads-apart : (a b : ℕ) → m.is_h a → m.is_h b → m.face a ≡ m.face b → m.head a ≡ m.head b → a ≡ b
  heads-apart a b i j e q = split (m.face a) NONE
      (λ r. cc (
        c.prev_next a i,
        c.prev_next b j,
        c.next_tail a i,
        c.next_tail b j,
        c.rim_named (m.next a) (c.next_in a i) (c.next_face a i ∙ r),
        c.rim_named (m.next b) (c.next_in b j) (c.next_face b j ∙ sym e ∙ r),
      ))
      (λ r. c.heads_differ a b i j r e q)

  pub next-inj : (a b : ℕ) → m.is_h a → m.is_h b → m.next a ≡ m.next b → a ≡ b
  next-inj a b i j e = cc (c.prev_next a i, c.prev_next b j)

  -- no loop, of a face or a rim, is of one halfedge
  pub next-ne : (a : ℕ) → m.is_h a → m.next a ≢ a
  next-ne a i e = no_self a i (cc (c.next_tail a i))

  -- a loop of two has no third
  pub pair-loop : (x y : ℕ) → m.is_h x → m.next x ≡ m.prev x → Reach m.next x y → (y ≡ x) ⊎ (y ≡ m.next x)
  pair-loop x y i e r = reach-ind (λ (u : ℕ). (u ≡ x) ⊎ (u ≡ m.next x)) on (inl refl) r
    where
      on : (u : ℕ) → (u ≡ x) ⊎ (u ≡ m.next x) → (m.next u ≡ x) ⊎ (m.next u ≡ m.next x)
      on u (inl q) = inr (ap m.next q)
      on u (inr q) = inl (ap m.next q ∙ ap m.next e ∙ c.next_prev x i)
