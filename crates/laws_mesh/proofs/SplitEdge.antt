-- An edge is split by an isolated vertex: the mesh stays consistent. Assumes nothing.
use mathlib.Core.Path.{◌≡◌, refl, sym, ap, ◌∙◌, subst, subst⁻¹}
use mathlib.Core.Logic.{◌⊎◌, inl, inr, ◌≢◌}
use Prim.Native.Nat.{ℕ}
use Rattle.laws_mesh.specs.Reach.{Reach, here}
use Rattle.scope.specs.Links.{NONE, partner}
use Rattle.laws_mesh.specs.Mesh.{Mesh, tail, turn, Shape, Core, Three, Consistent}
use Rattle.laws_mesh.proofs.Cycle.{split, pick, pick_yes, pick_no, Perm, reach-sym, reach-trans, reach-eq, reach-one, reach-next, reach-sim}
use Rattle.laws_mesh.proofs.Facts.{partner-partner, partner-ne, partner-inj, head-prev, turn_in, prev-ne, prev-face, next-partner-ne, two-faces, tail-in, none-ends, pair-loop}
pub use Rattle.laws_mesh.proofs.SplitEdgeRecord.{SplitEdge}

module _ {m m' : Mesh} {h v n : ℕ} (s : Shape m) (s' : Shape m') (c : Core m) (d : SplitEdge m m' h v n) where
  -- a statement on all of m''s halfedges: at the two new ones, and at the old
  each : (P : ℕ → Type 0) → P n → P (partner n) → ((x : ℕ) → m.is_h x → P x) → (x : ℕ) → m'.is_h x → P x
  each P p q r x i = go (d.H-is x i)
    where
      go : m.is_h x ⊎ ((x ≡ n) ⊎ (x ≡ partner n)) → P x
      go (inl j) = r x j
      go (inr (inl e)) = subst⁻¹ P e p
      go (inr (inr e)) = subst⁻¹ P e q

  o-old : m.is_h (partner h)
  o-old = s.H-partner h d.h-in

  b-old : m.is_h (m.prev h)
  b-old = c.prev_in h d.h-in

  a-old : m.is_h (m.next (partner h))
  a-old = c.next_in (partner h) o-old

  -- an old halfedge is none of the new ones
  old-n : (x : ℕ) → m.is_h x → x ≢ n
  old-n x i e = d.n-new (subst m.is_h e i)

  old-k : (x : ℕ) → m.is_h x → x ≢ partner n
  old-k x i e = d.o-new (subst m.is_h e i)

  face-in' : (x : ℕ) → m'.is_h x → (m'.face x ≡ NONE) ⊎ m'.is_f (m'.face x)
  face-in' = each _ (old h d.h-in n d.face-n) (old (partner h) o-old (partner n) d.face-o) (λ x i. old x i x (d.face-old x i))
    where
      old : (x : ℕ) → m.is_h x → (y : ℕ) → m'.face y ≡ m.face x → (m'.face y ≡ NONE) ⊎ m'.is_f (m'.face y)
      old x i y e = go (c.face_in x i)
        where
          go : (m.face x ≡ NONE) ⊎ m.is_f (m.face x) → (m'.face y ≡ NONE) ⊎ m'.is_f (m'.face y)
          go (inl q) = inl (e ∙ q)
          go (inr q) = inr (subst⁻¹ m'.is_f e (d.keep-F (m.face x) q))

  head-in' : (x : ℕ) → m'.is_h x → m'.is_v (m'.head x)
  head-in' = each _ (subst⁻¹ m'.is_v d.head-n (d.keep-V v d.v_in)) (subst⁻¹ m'.is_v d.head-o (d.keep-V _ (tail-in s c h d.h-in)))
      (λ x i. split x (partner h)
      (λ e. subst⁻¹ m'.is_v (ap m'.head e ∙ d.head-p) (d.keep-V v d.v_in))
      (λ ne. subst⁻¹ m'.is_v (d.head-old x i ne) (d.keep-V _ (c.head_in x i))))

  next-in' : (x : ℕ) → m'.is_h x → m'.is_h (m'.next x)
  next-in' = each _ (subst⁻¹ m'.is_h d.next-n (d.keep-H h d.h-in)) (subst⁻¹ m'.is_h d.next-o (d.keep-H _ a-old))
      (λ x i. split x (m.prev h)
      (λ e. subst⁻¹ m'.is_h (ap m'.next e ∙ d.next-b) d.n-in)
      (λ n1. split x (partner h)
      (λ e. subst⁻¹ m'.is_h (ap m'.next e ∙ d.next-p) d.o-in)
      (λ n2. subst⁻¹ m'.is_h (d.next-old x i n1 n2) (d.keep-H _ (c.next_in x i)))))

  prev-in' : (x : ℕ) → m'.is_h x → m'.is_h (m'.prev x)
  prev-in' = each _ (subst⁻¹ m'.is_h d.prev-n (d.keep-H _ b-old)) (subst⁻¹ m'.is_h d.prev-o (d.keep-H _ o-old))
      (λ x i. split x h
      (λ e. subst⁻¹ m'.is_h (ap m'.prev e ∙ d.prev-h) d.n-in)
      (λ n1. split x (m.next (partner h))
      (λ e. subst⁻¹ m'.is_h (ap m'.prev e ∙ d.prev-a) d.o-in)
      (λ n2. subst⁻¹ m'.is_h (d.prev-old x i n1 n2) (d.keep-H _ (c.prev_in x i)))))

  next-prev' : (x : ℕ) → m'.is_h x → m'.next (m'.prev x) ≡ x
  next-prev' = each (λ x. m'.next (m'.prev x) ≡ x) (cc) (cc)
      (λ x i. split x h
      (λ e. cc)
      (λ n1. split x (m.next (partner h))
      (λ e. cc)
      (λ n2. cc (
        d.prev-old x i n1 n2,
        d.next-old (m.prev x) (c.prev_in x i) (λ e. n1 (cc (c.next_prev x i, c.next_prev h d.h-in))) (λ e. n2 (cc (c.next_prev x i))),
        c.next_prev x i,
      ))))

  prev-next' : (x : ℕ) → m'.is_h x → m'.prev (m'.next x) ≡ x
  prev-next' = each (λ x. m'.prev (m'.next x) ≡ x) (cc) (cc)
      (λ x i. split x (m.prev h)
      (λ e. cc)
      (λ n1. split x (partner h)
      (λ e. cc)
      (λ n2. cc (
        d.next-old x i n1 n2,
        d.prev-old (m.next x) (c.next_in x i) (λ e. n1 (cc (c.prev_next x i))) (λ e. n2 (cc (c.prev_next x i, c.prev_next (partner h) o-old))),
        c.prev_next x i,
      ))))

  perm-next' : Perm m'.is_h s'.size m'.next m'.prev
  perm-next' = record { below = s'.below; fore = next-in'; back = prev-in'; gf = prev-next'; fg = next-prev' }

  -- the new tails
  tail-h : tail m' h ≡ v
  tail-h = d.head-p

  tail-n : tail m' n ≡ tail m h
  tail-n = d.head-o

  tail-k : tail m' (partner n) ≡ v
  tail-k = cc (partner-partner n)

  tail-old : (x : ℕ) → m.is_h x → x ≢ h → tail m' x ≡ tail m x
  tail-old x i ne = d.head-old (partner x) (s.H-partner x i) (λ e. ne (partner-inj x h e))

  tail-free : (x : ℕ) → m.is_h x → tail m x ≢ v
  tail-free = c.none_leaves v d.v_in d.v-free

  head-free : (x : ℕ) → m.is_h x → m.head x ≢ v
  head-free = none-ends s c v d.v_in d.v-free

  next-tail' : (x : ℕ) → m'.is_h x → tail m' (m'.next x) ≡ m'.head x
  next-tail' = each (λ x. tail m' (m'.next x) ≡ m'.head x) (cc (tail-h))
      (cc (tail-old (m.next (partner h)) a-old (next-partner-ne s c h d.h-in), c.next_tail (partner h) o-old))
      (λ x i. split x (m.prev h)
      (λ e. cc (tail-n, head-prev s c h d.h-in, d.head-old (m.prev h) b-old (prev-ne s c h d.h-in)))
      (λ n1. split x (partner h)
      (λ e. cc (tail-k))
      (λ n2. cc (d.next-old x i n1 n2, tail-old (m.next x) (c.next_in x i) (λ e. n1 (cc (c.prev_next x i))), c.next_tail x i, d.head-old x i n2))))

  next-face' : (x : ℕ) → m'.is_h x → m'.face (m'.next x) ≡ m'.face x
  next-face' = each (λ x. m'.face (m'.next x) ≡ m'.face x) (cc (d.face-old h d.h-in))
      (cc (d.face-old (m.next (partner h)) a-old, c.next_face (partner h) o-old))
      (λ x i. split x (m.prev h)
      (λ e. cc (prev-face s c h d.h-in, d.face-old x i))
      (λ n1. split x (partner h)
      (λ e. cc (d.face-old x i))
      (λ n2. cc (d.next-old x i n1 n2, d.face-old x i, d.face-old (m.next x) (c.next_in x i), c.next_face x i))))

  start-in' : (f : ℕ) → m'.is_f f → m'.is_h (m'.start f)
  start-in' f i = subst⁻¹ m'.is_h (d.start-old f (d.F-is f i)) (d.keep-H _ (c.start_in f (d.F-is f i)))

  start-bears' : (f : ℕ) → m'.is_f f → m'.face (m'.start f) ≡ f
  start-bears' f i = cc (d.start-old f (d.F-is f i), d.face-old (m.start f) (c.start_in f (d.F-is f i)), c.start_bears f (d.F-is f i))

  -- the old loops are walked with one more step on the way
  next-sim : {x y : ℕ} → m.is_h x → Reach m.next x y → Reach m'.next x y
  next-sim = reach-sim m.is_h (λ x. x) c.next_in (λ x i. split x (m.prev h)
      (λ e. reach-next (reach-one {b = n} (cc)) (cc (c.next_prev h d.h-in)))
      (λ n1. split x (partner h)
      (λ e. reach-next (reach-one {b = partner n} (cc)) (cc))
      (λ n2. reach-one (d.next-old x i n1 n2))))

  near : (x : ℕ) → m'.is_h x → (y : ℕ) × m.is_h y × (m.face y ≡ m'.face x) × Reach m'.next x y
  near = each _ (h, d.h-in, sym d.face-n, reach-one d.next-n)
      (m.next (partner h), a-old, c.next_face (partner h) o-old ∙ sym d.face-o, reach-one d.next-o)
      (λ x i. (x, i, sym (d.face-old x i), here))

  one-loop' : (x y : ℕ) → m'.is_h x → m'.is_h y → m'.face x ≢ NONE → m'.face x ≡ m'.face y → Reach m'.next x y
  one-loop' x y i j ne e =
      let (x₀, i₀, f, r) = near x i in
      let (y₀, j₀, g, q) = near y j in
      reach-trans r (reach-trans (next-sim i₀ (c.one_loop x₀ y₀ i₀ j₀ (λ z. ne (cc)) (cc))) (reach-sym perm-next' j q))

  a-face' : (x : ℕ) → m'.is_h x → m'.face x ≡ NONE → m'.face (partner x) ≢ NONE
  a-face' = each _
      (λ e z. c.a_face h d.h-in (cc) (cc))
      (λ e z. c.a_face (partner h) o-old (cc) (cc (partner-partner h, partner-partner n)))
      (λ x i e z. c.a_face x i (cc (d.face-old x i)) (cc (d.face-old (partner x) (s.H-partner x i))))

  no-spike' : (x : ℕ) → m'.is_h x → m'.next x ≢ partner x
  no-spike' = each _
      (λ e. old-k h d.h-in (cc))
      (λ e. old-n (m.next (partner h)) a-old (cc (partner-partner n)))
      (λ x i. split x (m.prev h)
      (λ e z. old-n (partner x) (s.H-partner x i) (cc))
      (λ n1. split x (partner h)
      (λ e z. old-k h d.h-in (cc (partner-partner h)))
      (λ n2 z. c.no_spike x i (cc (d.next-old x i n1 n2)))))

  two-long' : (x : ℕ) → m'.is_h x → m'.face x ≢ NONE → m'.next x ≢ x
  two-long' = each _
      (λ ne e. old-n h d.h-in (cc))
      (λ ne e. old-k (m.next (partner h)) a-old (cc))
      (λ x i ne. split x (m.prev h)
      (λ e z. old-n x i (cc))
      (λ n1. split x (partner h)
      (λ e z. old-k x i (cc))
      (λ n2 z. c.two_long x i (λ q. ne (cc (d.face-old x i))) (cc (d.next-old x i n1 n2)))))

  -- two halfedges end at the new vertex, of two faces
  at-v : (x : ℕ) → m'.is_h x → m'.head x ≡ v → (x ≡ n) ⊎ (x ≡ partner h)
  at-v = each _ (λ e. inl refl)
      (λ e. absurd (tail-free h d.h-in (cc)))
      (λ x i e. split x (partner h) (λ q. inr q) (λ q. absurd (head-free x i (cc (d.head-old x i q)))))

  -- any other has the face and the head of an old one
  Pulled : ℕ → ℕ → Type 0
  Pulled x y = m.is_h y × (m.face y ≡ m'.face x) × (m.head y ≡ m'.head x) × (y ≡ partner h → x ≡ partner n) × (y ≢ partner h → x ≡ y)

  pull : (x : ℕ) → m'.is_h x → m'.head x ≢ v → (y : ℕ) × Pulled x y
  unfolding Pulled
  pull = each _ (λ e. absurd (e d.head-n))
      (λ e. (partner h, (o-old, sym d.face-o, sym d.head-o, (λ z. refl), (λ z. absurd (z refl)))))
      (λ x i e. split x (partner h) (λ q. absurd (e (cc)))
      (λ q. (x, (i, sym (d.face-old x i), sym (d.head-old x i q), (λ z. absurd (q z)), (λ z. refl)))))

  heads-differ' : (x y : ℕ) → m'.is_h x → m'.is_h y → m'.face x ≢ NONE → m'.face x ≡ m'.face y → m'.head x ≡ m'.head y → x ≡ y
  unfolding Pulled
  heads-differ' x y i j ne e q = split (m'.head x) v
      (λ r. new (at-v x i r) (at-v y j (sym q ∙ r)))
      (λ r.
      let (x₀, (i₀, f, g, to-k, same)) = pull x i r in
      let (y₀, (j₀, f', g', to-k', same')) = pull y j (λ z. r (cc)) in
      let w : x₀ ≡ y₀ = c.heads_differ x₀ y₀ i₀ j₀ (λ z. ne (cc)) (cc) (cc) in
      split x₀ (partner h) (λ z. to-k z ∙ sym (to-k' (sym w ∙ z))) (λ z. same z ∙ w ∙ sym (same' (λ u. z (w ∙ u)))))
    where
      apart : m'.face n ≢ m'.face (partner h)
      apart z = two-faces s c h d.h-in (cc (d.face-old (partner h) o-old))

      new : (x ≡ n) ⊎ (x ≡ partner h) → (y ≡ n) ⊎ (y ≡ partner h) → x ≡ y
      new (inl u) (inl w) = cc
      new (inl u) (inr w) = absurd (apart (cc))
      new (inr u) (inl w) = absurd (apart (cc))
      new (inr u) (inr w) = cc

  out-v : (m'.out v ≡ partner n) ⊎ (m'.out v ≡ h)
  out-v = split (m.face (partner h)) NONE (λ e. inl (d.out-rim e)) (λ e. inr (d.out_in e))

  out-in' : (u : ℕ) → m'.is_v u → (m'.out u ≡ NONE) ⊎ m'.is_h (m'.out u)
  out-in' u i = split u v (λ e. new e out-v)
      (λ ne. split (m.out u) h (λ e. inr (subst⁻¹ m'.is_h (d.out-from u (d.V-is u i) e) d.n-in))
      (λ q. old ne q (c.out_in u (d.V-is u i))))
    where
      new : u ≡ v → (m'.out v ≡ partner n) ⊎ (m'.out v ≡ h) → (m'.out u ≡ NONE) ⊎ m'.is_h (m'.out u)
      new e (inl r) = inr (subst⁻¹ m'.is_h (ap m'.out e ∙ r) d.o-in)
      new e (inr r) = inr (subst⁻¹ m'.is_h (ap m'.out e ∙ r) (d.keep-H h d.h-in))

      old : u ≢ v → m.out u ≢ h → (m.out u ≡ NONE) ⊎ m.is_h (m.out u) → (m'.out u ≡ NONE) ⊎ m'.is_h (m'.out u)
      old ne q (inl r) = inl (d.out-old u (d.V-is u i) ne q ∙ r)
      old ne q (inr r) = inr (subst⁻¹ m'.is_h (d.out-old u (d.V-is u i) ne q) (d.keep-H _ r))

  out-leaves' : (u : ℕ) → m'.is_v u → m'.out u ≢ NONE → tail m' (m'.out u) ≡ u
  out-leaves' u i z = split u v (λ e. new e out-v)
      (λ ne. split (m.out u) h
      (λ e. cc (d.out-from u (d.V-is u i) e, tail-n, c.out_leaves u (d.V-is u i) (λ r. s.H-none h d.h-in (cc))))
      (λ q. old ne q (c.out_in u (d.V-is u i))))
    where
      new : u ≡ v → (m'.out v ≡ partner n) ⊎ (m'.out v ≡ h) → tail m' (m'.out u) ≡ u
      new e (inl r) = cc (tail-k)
      new e (inr r) = cc (tail-h)

      old : u ≢ v → m.out u ≢ h → (m.out u ≡ NONE) ⊎ m.is_h (m.out u) → tail m' (m'.out u) ≡ u
      old ne q (inl r) = absurd (z (d.out-old u (d.V-is u i) ne q ∙ r))
      old ne q (inr r) = cc (d.out-old u (d.V-is u i) ne q, tail-old (m.out u) r q, c.out_leaves u (d.V-is u i) (s.H-none (m.out u) r))

  none-leaves' : (u : ℕ) → m'.is_v u → m'.out u ≡ NONE → (x : ℕ) → m'.is_h x → tail m' x ≢ u
  none-leaves' u i z x j = split u v (λ e. absurd (new e out-v))
      (λ ne. split (m.out u) h (λ e. absurd (s'.H-none n d.n-in (cc (d.out-from u (d.V-is u i) e))))
      (λ q. old ne (cc (d.out-old u (d.V-is u i) ne q)) x j))
    where
      new : u ≡ v → (m'.out v ≡ partner n) ⊎ (m'.out v ≡ h) → ⊥
      new e (inl r) = s'.H-none (partner n) d.o-in (cc)
      new e (inr r) = s.H-none h d.h-in (cc)

      old : u ≢ v → m.out u ≡ NONE → (x : ℕ) → m'.is_h x → tail m' x ≢ u
      old ne r = each (λ x. tail m' x ≢ u)
          (λ e. c.none_leaves u (d.V-is u i) r h d.h-in (cc (tail-n)))
          (λ e. ne (cc (tail-k)))
          (λ x k. split x h (λ w e. ne (cc (tail-h))) (λ w e. c.none_leaves u (d.V-is u i) r x k (cc (tail-old x k w))))

  -- the turns: n takes the place of h in the turn of the old tail, and h and n's partner turn around v
  σ : ℕ → ℕ
  σ x = pick x h n x

  σ-h : (x : ℕ) → x ≡ h → σ x ≡ n
  unfolding σ
  σ-h x e = pick_yes x h n x e

  σ-old : (x : ℕ) → x ≢ h → σ x ≡ x
  unfolding σ
  σ-old x e = pick_no x h n x e

  turn_sim : {x y : ℕ} → m.is_h x → Reach (turn m) x y → Reach (turn m') (σ x) (σ y)
  turn_sim = reach-sim m.is_h σ (turn_in s c) (λ x i. reach-one (split x h
      (λ e. cc (σ-h x e, σ-old (turn m h) (λ z. prev-ne s c h d.h-in (cc (partner-partner (m.prev h))))))
      (λ n1. split x (m.next (partner h))
      (λ e. cc (σ-old x n1, partner-partner n, partner-partner h, c.prev_next (partner h) o-old, σ-h h refl))
      (λ n2. cc (
        σ-old x n1,
        d.prev-old x i n1 n2,
        σ-old (turn m x) (λ z. n2 (cc (c.next_prev x i, partner-partner (m.prev x)))),
      )))))

  leaves-v : (x : ℕ) → m'.is_h x → tail m' x ≡ v → (x ≡ h) ⊎ (x ≡ partner n)
  leaves-v = each _ (λ e. absurd (tail-free h d.h-in (cc (tail-n)))) (λ e. inr refl)
      (λ x i e. split x h (λ q. inl q) (λ q. absurd (tail-free x i (cc (tail-old x i q)))))

  base : (x : ℕ) → m'.is_h x → tail m' x ≢ v → (z : ℕ) × m.is_h z × (σ z ≡ x) × (tail m z ≡ tail m' x)
  base = each _ (λ e. (h, d.h-in, σ-h h refl, sym tail-n)) (λ e. absurd (e tail-k))
      (λ x i e. split x h (λ q. absurd (e (cc (tail-h)))) (λ q. (x, i, σ-old x q, sym (tail-old x i q))))

  one-turn' : (x y : ℕ) → m'.is_h x → m'.is_h y → tail m' x ≡ tail m' y → Reach (turn m') x y
  one-turn' x y i j e = split (tail m' x) v
      (λ r. new (leaves-v x i r) (leaves-v y j (sym e ∙ r)))
      (λ r.
      let (x₀, i₀, p, t) = base x i r in
      let (y₀, j₀, q, u) = base y j (λ z. r (e ∙ z)) in
      subst (λ (w : ℕ). Reach (turn m') w y) p (subst (λ (w : ℕ). Reach (turn m') (σ x₀) w) q (turn_sim i₀ (c.one_turn x₀ y₀ i₀ j₀ (t ∙ e ∙ sym u)))))
    where
      new : (x ≡ h) ⊎ (x ≡ partner n) → (y ≡ h) ⊎ (y ≡ partner n) → Reach (turn m') x y
      new (inl p) (inl q) = reach-eq (cc)
      new (inl p) (inr q) = reach-one (cc)
      new (inr p) (inl q) = reach-one (cc (partner-partner h))
      new (inr p) (inr q) = reach-eq (cc)

  rim-named' : (x : ℕ) → m'.is_h x → m'.face x ≡ NONE → m'.out (tail m' x) ≡ x
  rim-named' = each _
      (λ e. cc (tail-n, d.out-from (tail m h) (tail-in s c h d.h-in) (c.rim_named h d.h-in (cc))))
      (λ e. cc (tail-k, d.out-rim (cc)))
      (λ x i e. split x h
      (λ q. cc (tail-h, d.out_in (c.a_face h d.h-in (cc (d.face-old x i)))))
      (λ q.
      let w : m.out (tail m x) ≡ x = c.rim_named x i (cc (d.face-old x i)) in
      cc (tail-old x i q, d.out-old (tail m x) (tail-in s c x i) (tail-free x i) (λ z. q (cc)))))

  -- all of C1 to C9 but for C7's "three"
  pub split-core : Core m'
  split-core = record {
    face_in = face-in';
    head_in = head-in';
    next_in = next-in';
    prev_in = prev-in';
    out_in = out-in';
    start_in = start-in';
    next_prev = next-prev';
    prev_next = prev-next';
    next_tail = next-tail';
    next_face = next-face';
    start_bears = start-bears';
    one_loop = one-loop';
    a_face = a-face';
    no_spike = no-spike';
    heads_differ = heads-differ';
    two_long = two-long';
    out_leaves = out-leaves';
    none_leaves = none-leaves';
    one_turn = one-turn';
    rim_named = rim-named';
  }

  -- and the rest of C7. A loop of three or more: what comes after x is not what comes before it
  n≢k : n ≢ partner n
  n≢k e = partner-ne n (sym e)

  -- three or more, but perhaps in the two loops of the edge: the split makes two of them three
  abbrev pub Elsewhere : Type 0
  Elsewhere = (x : ℕ) → m.is_h x → m.face x ≢ NONE → m.face x ≢ m.face h → m.face x ≢ m.face (partner h) → m.next (m.next x) ≢ x

  pub split-three : Elsewhere → Three m'
  split-three t = record { three_long = λ x i ne e. go x i ne (cc (prev-next' (m'.next x) (next-in' x i))) }
    where
      b-ne : m.face h ≢ NONE → m.prev h ≢ h
      b-ne r e = c.two_long h d.h-in r (cc (c.next_prev h d.h-in))

      a-ne : m.face (partner h) ≢ NONE → m.next (partner h) ≢ partner h
      a-ne r e = c.two_long (partner h) o-old r e

      far : (x : ℕ) → m.is_h x → m.face x ≢ NONE → x ≢ h → x ≢ m.prev h → x ≢ partner h → x ≢ m.next (partner h) → m.next x ≢ m.prev x
      far x i r n1 n2 n3 n4 e = split (m.face x) (m.face h)
          (λ q. at-h (pair-loop s c x h i e (c.one_loop x h i d.h-in r q)))
          (λ q. split (m.face x) (m.face (partner h))
          (λ p. at-o (pair-loop s c x (partner h) i e (c.one_loop x (partner h) i o-old r p)))
          (λ p. t x i r q p (cc (c.next_prev x i))))
        where
          at-h : (h ≡ x) ⊎ (h ≡ m.next x) → ⊥
          at-h (inl q) = n1 (sym q)
          at-h (inr q) = n2 (cc (c.prev_next x i))

          at-o : (partner h ≡ x) ⊎ (partner h ≡ m.next x) → ⊥
          at-o (inl q) = n3 (sym q)
          at-o (inr q) = n4 (cc (c.next_prev x i))

      go : (x : ℕ) → m'.is_h x → m'.face x ≢ NONE → m'.next x ≢ m'.prev x
      go = each _
          (λ ne e. b-ne (λ z. ne (cc)) (cc))
          (λ ne e. a-ne (λ z. ne (cc)) (cc))
          (λ x i ne. split x (m.prev h)
          (λ xb z. split x h (λ xh. b-ne (λ w. ne (cc (d.face-old x i))) (cc))
          (λ n1. split x (m.next (partner h)) (λ xa. n≢k (cc)) (λ n2. old-n (m.prev x) (c.prev_in x i) (cc (d.prev-old x i n1 n2)))))
          (λ n1. split x (partner h)
          (λ xo z. split x h (λ xh. partner-ne h (cc))
          (λ n2. split x (m.next (partner h)) (λ xa. a-ne (λ w. ne (cc (d.face-old x i))) (cc))
          (λ n3. old-k (m.prev x) (c.prev_in x i) (cc (d.prev-old x i n2 n3)))))
          (λ n2 z. split x h (λ xh. old-n (m.next x) (c.next_in x i) (cc (d.next-old x i n1 n2)))
          (λ n3. split x (m.next (partner h)) (λ xa. old-k (m.next x) (c.next_in x i) (cc (d.next-old x i n1 n2)))
          (λ n4. far x i (λ w. ne (cc (d.face-old x i))) n3 n1 n2 n4 (cc (d.next-old x i n1 n2, d.prev-old x i n3 n4)))))))

pub split-consistent : {m m' : Mesh} {h v n : ℕ} → Shape m → Shape m' → Consistent m → SplitEdge m m' h v n → Consistent m'
split-consistent s s' c d = record { core = split-core s s' c.core d; three = split-three s s' c.core d (λ x i r p q. c.three.three_long x i r) }
