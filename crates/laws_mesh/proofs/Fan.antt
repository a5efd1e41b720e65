-- A face around a centre: its loop is cut into parts of one or two halfedges, and each part becomes a face of its own, with a spoke to the centre before it and one after.
-- So faces are split by Catmull-Clark (parts of two) and by split face (parts of one). The mesh stays consistent. Assumes nothing.
use mathlib.Core.Path.{◌≡◌, refl, sym, ap, ◌∙◌, subst, subst⁻¹}
use mathlib.Core.Logic.{◌⊎◌, inl, inr, ◌≢◌}
use Prim.Native.Nat.{ℕ, zero, suc}
use Rattle.scope.specs.Links.{NONE, partner}
use Rattle.laws_mesh.specs.Reach.{Reach, here, iter}
use Rattle.laws_mesh.specs.Mesh.{Mesh, tail, turn, Shape, Core, Consistent}
use Rattle.laws_mesh.proofs.Cycle.{split, reach-trans, reach-eq, reach-one, reach-next, reach-sim, reach-ind, iter-reach}
use Rattle.laws_mesh.proofs.Count.{Length}
use Rattle.laws_mesh.proofs.Facts.{partner-partner, partner-inj, turn_in, turn-tail, tail-in, prev-face}
use Rattle.laws_mesh.proofs.Parts.{Parts, next-two, each-a, each-b, b-in, prev-first, prev-two, dn-ne, up-reach, ends-ab, ends_at, ends-bt}
pub use Rattle.laws_mesh.proofs.FanRecord.{Fan}

module _ {m m' : Mesh} {f c : ℕ} {K : ℕ → Type 0} {a b up dn r sub : ℕ → ℕ} (s : Shape m) (s' : Shape m') (q : Consistent m) (d : Fan m m' f c K a b up dn r sub) where
  C : Core m
  C = q.core

  w : Parts m f K a b up dn
  w = d.parts

  each-new : (P : ℕ → Type 0) → ((x : ℕ) → m.is_h x → P x) → ((k : ℕ) → K k → P (r k)) → ((k : ℕ) → K k → P (partner (r k))) → (x : ℕ) → m'.is_h x → P x
  each-new P p pr po x i = go (d.H-is x i)
    where
      go : m.is_h x ⊎ (((k : ℕ) × K k × (x ≡ r k)) ⊎ ((k : ℕ) × K k × (x ≡ partner (r k)))) → P x
      go (inl j) = p x j
      go (inr (inl (k, j, e))) = subst⁻¹ P e (pr k j)
      go (inr (inr (k, j, e))) = subst⁻¹ P e (po k j)

  -- at b only where it is another than a; and the other way round
  by-a : (P : ℕ → Type 0) → ((k : ℕ) → K k → P (a k)) → ((k : ℕ) → K k → a k ≢ b k → P (b k)) → ((k : ℕ) → K k → P (r k)) → ((k : ℕ) → K k → P (partner (r k)))
      → ((x : ℕ) → m.is_h x → m.face x ≢ f → P x) → (x : ℕ) → m'.is_h x → P x
  by-a P pa pb pr po pf = each-new P (each-a s q w P pa pb pf) pr po

  by-b : (P : ℕ → Type 0) → ((k : ℕ) → K k → a k ≢ b k → P (a k)) → ((k : ℕ) → K k → P (b k)) → ((k : ℕ) → K k → P (r k)) → ((k : ℕ) → K k → P (partner (r k)))
      → ((x : ℕ) → m.is_h x → m.face x ≢ f → P x) → (x : ℕ) → m'.is_h x → P x
  by-b P pa pb pr po pf = each-new P (each-b s q w P pa pb pf) pr po

  b-old : (k : ℕ) → K k → m.is_h (b k)
  b-old = b-in s q w

  old-r : (x k : ℕ) → m.is_h x → K k → x ≢ r k
  old-r x k i j e = d.r-new k j (subst m.is_h e i)

  old-o : (x k : ℕ) → m.is_h x → K k → x ≢ partner (r k)
  old-o x k i j e = d.o-new k j (subst m.is_h e i)

  sub-none : (k : ℕ) → K k → sub k ≢ NONE
  sub-none k i = s'.F-none (sub k) (d.sub_in k i)

  -- what comes after and before one with another face has another face
  free-next : (x : ℕ) → m.is_h x → m.face x ≢ f → m.face (m.next x) ≢ f
  free-next x i n e = n (sym (C.next_face x i) ∙ e)

  free-prev : (x : ℕ) → m.is_h x → m.face x ≢ f → m.face (m.prev x) ≢ f
  free-prev x i n e = n (sym (prev-face s C x i) ∙ e)

  face-in' : (x : ℕ) → m'.is_h x → (m'.face x ≡ NONE) ⊎ m'.is_f (m'.face x)
  face-in' = by-a (λ x. (m'.face x ≡ NONE) ⊎ m'.is_f (m'.face x))
      (λ k i. inr (subst⁻¹ m'.is_f (d.face-a k i) (d.sub_in k i)))
      (λ k i ne. inr (subst⁻¹ m'.is_f (d.face-b k i) (d.sub_in k i)))
      (λ k i. inr (subst⁻¹ m'.is_f (d.face-r k i) (d.sub_in (dn k) (w.dn-in k i))))
      (λ k i. inr (subst⁻¹ m'.is_f (d.face-o k i) (d.sub_in k i)))
      (λ x i n. go x (d.face-free x i n) (C.face_in x i))
    where
      go : (x : ℕ) → m'.face x ≡ m.face x → (m.face x ≡ NONE) ⊎ m.is_f (m.face x) → (m'.face x ≡ NONE) ⊎ m'.is_f (m'.face x)
      go x e (inl z) = inl (e ∙ z)
      go x e (inr z) = inr (subst⁻¹ m'.is_f e (d.keep-F (m.face x) z))

  head-in' : (x : ℕ) → m'.is_h x → m'.is_v (m'.head x)
  head-in' = each-new (λ x. m'.is_v (m'.head x))
      (λ x i. subst⁻¹ m'.is_v (d.head-old x i) (d.keep-V _ (C.head_in x i)))
      (λ k i. subst⁻¹ m'.is_v (d.head-r k i) d.c-in)
      (λ k i. subst⁻¹ m'.is_v (d.head-o k i) (d.keep-V _ (tail-in s C (a k) (w.a_in k i))))

  next-in' : (x : ℕ) → m'.is_h x → m'.is_h (m'.next x)
  next-in' = by-b (λ x. m'.is_h (m'.next x))
      (λ k i ne. subst⁻¹ m'.is_h (d.next-a k i ne) (d.keep-H _ (b-old k i)))
      (λ k i. subst⁻¹ m'.is_h (d.next-b k i) (d.r-in (up k) (w.up_in k i)))
      (λ k i. subst⁻¹ m'.is_h (d.next-r k i) (d.o-in (dn k) (w.dn-in k i)))
      (λ k i. subst⁻¹ m'.is_h (d.next-o k i) (d.keep-H _ (w.a_in k i)))
      (λ x i n. subst⁻¹ m'.is_h (d.next-free x i n) (d.keep-H _ (C.next_in x i)))

  prev-in' : (x : ℕ) → m'.is_h x → m'.is_h (m'.prev x)
  prev-in' = by-a (λ x. m'.is_h (m'.prev x))
      (λ k i. subst⁻¹ m'.is_h (d.prev-a k i) (d.o-in k i))
      (λ k i ne. subst⁻¹ m'.is_h (d.prev-b k i ne) (d.keep-H _ (w.a_in k i)))
      (λ k i. subst⁻¹ m'.is_h (d.prev-r k i) (d.keep-H _ (b-old (dn k) (w.dn-in k i))))
      (λ k i. subst⁻¹ m'.is_h (d.prev-o k i) (d.r-in (up k) (w.up_in k i)))
      (λ x i n. subst⁻¹ m'.is_h (d.prev-free x i n) (d.keep-H _ (C.prev_in x i)))

  next-prev' : (x : ℕ) → m'.is_h x → m'.next (m'.prev x) ≡ x
  next-prev' = by-a (λ x. m'.next (m'.prev x) ≡ x)
      (λ k i. cc (d.prev-a k i, d.next-o k i))
      (λ k i ne. cc (d.prev-b k i ne, d.next-a k i ne))
      (λ k i. cc (d.prev-r k i, d.next-b (dn k) (w.dn-in k i), w.up-dn k i))
      (λ k i. cc (d.prev-o k i, d.next-r (up k) (w.up_in k i), w.dn-up k i))
      (λ x i n. cc (d.prev-free x i n, d.next-free (m.prev x) (C.prev_in x i) (free-prev x i n), C.next_prev x i))

  prev-next' : (x : ℕ) → m'.is_h x → m'.prev (m'.next x) ≡ x
  prev-next' = by-b (λ x. m'.prev (m'.next x) ≡ x)
      (λ k i ne. cc (d.next-a k i ne, d.prev-b k i ne))
      (λ k i. cc (d.next-b k i, d.prev-r (up k) (w.up_in k i), w.dn-up k i))
      (λ k i. cc (d.next-r k i, d.prev-o (dn k) (w.dn-in k i), w.up-dn k i))
      (λ k i. cc (d.next-o k i, d.prev-a k i))
      (λ x i n. cc (d.next-free x i n, d.prev-free (m.next x) (C.next_in x i) (free-next x i n), C.prev_next x i))

  -- tails
  tail-old : (x : ℕ) → m.is_h x → tail m' x ≡ tail m x
  tail-old x i = d.head-old (partner x) (s.H-partner x i)

  tail-r : (k : ℕ) → K k → tail m' (r k) ≡ tail m (a k)
  tail-r k i = d.head-o k i

  tail-o : (k : ℕ) → K k → tail m' (partner (r k)) ≡ c
  tail-o k i = cc (partner-partner (r k), d.head-r k i)

  tail-c : (x : ℕ) → m.is_h x → tail m x ≢ c
  tail-c x i = d.c-free (partner x) (s.H-partner x i)

  next-tail' : (x : ℕ) → m'.is_h x → tail m' (m'.next x) ≡ m'.head x
  next-tail' = by-b (λ x. tail m' (m'.next x) ≡ m'.head x)
      (λ k i ne. cc (d.next-a k i ne, next-two s q w k i ne, tail-old (b k) (b-old k i), C.next_tail (a k) (w.a_in k i), d.head-old (a k) (w.a_in k i)))
      (λ k i. cc (d.next-b k i, tail-r (up k) (w.up_in k i), w.onward k i, C.next_tail (b k) (b-old k i), d.head-old (b k) (b-old k i)))
      (λ k i. cc (d.next-r k i, tail-o (dn k) (w.dn-in k i), d.head-r k i))
      (λ k i. cc (d.next-o k i, tail-old (a k) (w.a_in k i), d.head-o k i))
      (λ x i n. cc (d.next-free x i n, tail-old (m.next x) (C.next_in x i), C.next_tail x i, d.head-old x i))

  next-face' : (x : ℕ) → m'.is_h x → m'.face (m'.next x) ≡ m'.face x
  next-face' = by-b (λ x. m'.face (m'.next x) ≡ m'.face x)
      (λ k i ne. cc (d.next-a k i ne, d.face-a k i, d.face-b k i))
      (λ k i. cc (d.next-b k i, d.face-b k i, d.face-r (up k) (w.up_in k i), w.dn-up k i))
      (λ k i. cc (d.next-r k i, d.face-r k i, d.face-o (dn k) (w.dn-in k i)))
      (λ k i. cc (d.next-o k i, d.face-o k i, d.face-a k i))
      (λ x i n. cc (d.next-free x i n, d.face-free x i n, d.face-free (m.next x) (C.next_in x i) (free-next x i n), C.next_face x i))

  start-in' : (g : ℕ) → m'.is_f g → m'.is_h (m'.start g)
  start-in' g i = go (d.F-is g i)
    where
      go : ((k : ℕ) × K k × (g ≡ sub k)) ⊎ (m.is_f g × (g ≢ f)) → m'.is_h (m'.start g)
      go (inl (k, j, e)) = subst⁻¹ m'.is_h (ap m'.start e ∙ d.start-sub k j) (d.keep-H _ (w.a_in k j))
      go (inr (j, n)) = subst⁻¹ m'.is_h (d.start-free g j n) (d.keep-H _ (C.start_in g j))

  start-bears' : (g : ℕ) → m'.is_f g → m'.face (m'.start g) ≡ g
  start-bears' g i = go (d.F-is g i)
    where
      go : ((k : ℕ) × K k × (g ≡ sub k)) ⊎ (m.is_f g × (g ≢ f)) → m'.face (m'.start g) ≡ g
      go (inl (k, j, e)) = cc (d.start-sub k j, d.face-a k j)
      go (inr (j, n)) = cc (d.start-free g j n, d.face-free (m.start g) (C.start_in g j) (λ z. n (sym (C.start_bears g j) ∙ z)), C.start_bears g j)

  -- those of a part's face
  abbrev Of : ℕ → ℕ → Type 0
  Of k x = (x ≡ a k) ⊎ ((x ≡ b k) ⊎ ((x ≡ r (up k)) ⊎ (x ≡ partner (r k))))

  -- every halfedge is one of a part's face, or was of another face than f
  home : (x : ℕ) → m'.is_h x → ((k : ℕ) × K k × (m'.face x ≡ sub k) × Of k x) ⊎ (m.is_h x × (m.face x ≢ f))
  home = by-a (λ x. ((k : ℕ) × K k × (m'.face x ≡ sub k) × Of k x) ⊎ (m.is_h x × (m.face x ≢ f)))
      (λ k i. inl (k, i, d.face-a k i, inl refl))
      (λ k i ne. inl (k, i, d.face-b k i, inr (inl refl)))
      (λ k i. inl (dn k, w.dn-in k i, d.face-r k i, inr (inr (inl (ap r (sym (w.up-dn k i)))))))
      (λ k i. inl (k, i, d.face-o k i, inr (inr (inr refl))))
      (λ x i n. inr (i, n))

  -- around a part's face
  to-b : (k : ℕ) → K k → Reach m'.next (a k) (b k)
  to-b k i = split (a k) (b k) (λ e. reach-eq e) (λ ne. reach-one (d.next-a k i ne))

  to-r : (k : ℕ) → K k → Reach m'.next (b k) (r (up k))
  to-r k i = reach-one (d.next-b k i)

  to-o : (k : ℕ) → K k → Reach m'.next (r (up k)) (partner (r k))
  to-o k i = reach-one (cc (d.next-r (up k) (w.up_in k i), w.dn-up k i))

  to-a : (k : ℕ) → K k → Reach m'.next (partner (r k)) (a k)
  to-a k i = reach-one (d.next-o k i)

  from : (k x : ℕ) → K k → Of k x → Reach m'.next (a k) x
  from k x i (inl e) = reach-eq (sym e)
  from k x i (inr (inl e)) = subst⁻¹ (Reach m'.next (a k)) e (to-b k i)
  from k x i (inr (inr (inl e))) = subst⁻¹ (Reach m'.next (a k)) e (reach-trans (to-b k i) (to-r k i))
  from k x i (inr (inr (inr e))) = subst⁻¹ (Reach m'.next (a k)) e (reach-trans (to-b k i) (reach-trans (to-r k i) (to-o k i)))

  to : (k x : ℕ) → K k → Of k x → Reach m'.next x (a k)
  to k x i (inl e) = reach-eq e
  to k x i (inr (inl e)) = subst⁻¹ (λ (x : ℕ). Reach m'.next x (a k)) e (reach-trans (to-r k i) (reach-trans (to-o k i) (to-a k i)))
  to k x i (inr (inr (inl e))) = subst⁻¹ (λ (x : ℕ). Reach m'.next x (a k)) e (reach-trans (to-o k i) (to-a k i))
  to k x i (inr (inr (inr e))) = subst⁻¹ (λ (x : ℕ). Reach m'.next x (a k)) e (to-a k i)

  -- a part's face was not another's
  sub-free : (k x : ℕ) → K k → m.is_h x → m.face x ≢ f → m.face x ≢ NONE → sub k ≢ m.face x
  sub-free k x i j n ne e = go (C.face_in x j)
    where
      go : (m.face x ≡ NONE) ⊎ m.is_f (m.face x) → ⊥
      go (inl z) = ne z
      go (inr z) = n (sym e ∙ d.sub-old k i (subst⁻¹ m.is_f e z))

  -- two of one face are both of another face than f before, or of one part's face
  both : (D : ℕ → ℕ → Type 0) → ((k x y : ℕ) → K k → Of k x → Of k y → D x y)
      → ((x y : ℕ) → m.is_h x → m.face x ≢ f → m.is_h y → m.face y ≢ f → m.face x ≢ NONE → m.face x ≡ m.face y → D x y)
      → (x y : ℕ) → m'.is_h x → m'.is_h y → m'.face x ≢ NONE → m'.face x ≡ m'.face y → D x y
  both D part free x y i j ne e = go (home x i) (home y j)
    where
      go : ((k : ℕ) × K k × (m'.face x ≡ sub k) × Of k x) ⊎ (m.is_h x × (m.face x ≢ f)) → ((k : ℕ) × K k × (m'.face y ≡ sub k) × Of k y) ⊎ (m.is_h y × (m.face y ≢ f)) → D x y
      go (inl (k, h, p, o)) (inl (l, h', p', o')) = part k x y h o (subst⁻¹ (λ (n : ℕ). Of n y) (d.sub_once k l h h' (cc)) o')
      go (inl (k, h, p, o)) (inr (h', n)) = absurd (sub-free k y h h' n (λ z. ne (cc (d.face-free y h' n))) (cc (d.face-free y h' n)))
      go (inr (h, n)) (inl (l, h', p', o')) = absurd (sub-free l x h' h n (λ z. ne (cc (d.face-free x h n))) (cc (d.face-free x h n)))
      go (inr (h, n)) (inr (h', n')) = free x y h n h' n' (λ z. ne (cc (d.face-free x h n))) (cc (d.face-free x h n, d.face-free y h' n'))

  free-sim : {x y : ℕ} → m.is_h x × (m.face x ≢ f) → Reach m.next x y → Reach m'.next x y
  free-sim = reach-sim (λ x. m.is_h x × (m.face x ≢ f)) (λ x. x) (λ x (i, n). (C.next_in x i, free-next x i n)) (λ x (i, n). reach-one (d.next-free x i n))

  one-loop' : (x y : ℕ) → m'.is_h x → m'.is_h y → m'.face x ≢ NONE → m'.face x ≡ m'.face y → Reach m'.next x y
  one-loop' = both (λ x y. Reach m'.next x y)
      (λ k x y i o o'. reach-trans (to k x i o) (from k y i o'))
      (λ x y i n j n' ne e. free-sim (i, n) (C.one_loop x y i j ne e))

  heads-differ' : (x y : ℕ) → m'.is_h x → m'.is_h y → m'.face x ≢ NONE → m'.face x ≡ m'.face y → m'.head x ≡ m'.head y → x ≡ y
  heads-differ' = both (λ x y. m'.head x ≡ m'.head y → x ≡ y)
      (λ k x y i o o'. part k x y i o o')
      (λ x y i n j n' ne e z. C.heads_differ x y i j ne e (cc (d.head-old x i, d.head-old y j)))
    where
      ha : (k : ℕ) → K k → m'.head (a k) ≡ m.head (a k)
      ha k i = d.head-old (a k) (w.a_in k i)

      hb : (k : ℕ) → K k → m'.head (b k) ≡ m.head (b k)
      hb k i = d.head-old (b k) (b-old k i)

      hr : (k : ℕ) → K k → m'.head (r (up k)) ≡ c
      hr k i = d.head-r (up k) (w.up_in k i)

      ab : (k : ℕ) → K k → m.head (a k) ≡ m.head (b k) → a k ≡ b k
      ab k i e = split (a k) (b k) (λ z. z) (λ z. absurd (ends-ab s q w k i z e))

      -- nothing ended at the centre
      c-a : (k : ℕ) → K k → m.head (a k) ≢ c
      c-a k i = d.c-free (a k) (w.a_in k i)

      c-b : (k : ℕ) → K k → m.head (b k) ≢ c
      c-b k i = d.c-free (b k) (b-old k i)

      c-t : (k : ℕ) → K k → tail m (a k) ≢ c
      c-t k i = tail-c (a k) (w.a_in k i)

      part : (k x y : ℕ) → K k → Of k x → Of k y → m'.head x ≡ m'.head y → x ≡ y
      part k x y i (inl p) (inl p') e = cc
      part k x y i (inl p) (inr (inl p')) e = p ∙ ab k i (cc (ha k i, hb k i)) ∙ sym p'
      part k x y i (inl p) (inr (inr (inl p'))) e = absurd (c-a k i (cc (ha k i, hr k i)))
      part k x y i (inl p) (inr (inr (inr p'))) e = absurd (ends_at s q w k i (cc (ha k i, d.head-o k i)))
      part k x y i (inr (inl p)) (inl p') e = p ∙ sym (ab k i (cc (ha k i, hb k i))) ∙ sym p'
      part k x y i (inr (inl p)) (inr (inl p')) e = cc
      part k x y i (inr (inl p)) (inr (inr (inl p'))) e = absurd (c-b k i (cc (hb k i, hr k i)))
      part k x y i (inr (inl p)) (inr (inr (inr p'))) e = absurd (ends-bt s q w k i (cc (hb k i, d.head-o k i)))
      part k x y i (inr (inr (inl p))) (inl p') e = absurd (c-a k i (cc (ha k i, hr k i)))
      part k x y i (inr (inr (inl p))) (inr (inl p')) e = absurd (c-b k i (cc (hb k i, hr k i)))
      part k x y i (inr (inr (inl p))) (inr (inr (inl p'))) e = cc
      part k x y i (inr (inr (inl p))) (inr (inr (inr p'))) e = absurd (c-t k i (cc (hr k i, d.head-o k i)))
      part k x y i (inr (inr (inr p))) (inl p') e = absurd (ends_at s q w k i (cc (ha k i, d.head-o k i)))
      part k x y i (inr (inr (inr p))) (inr (inl p')) e = absurd (ends-bt s q w k i (cc (hb k i, d.head-o k i)))
      part k x y i (inr (inr (inr p))) (inr (inr (inl p'))) e = absurd (c-t k i (cc (hr k i, d.head-o k i)))
      part k x y i (inr (inr (inr p))) (inr (inr (inr p'))) e = cc

  -- an old one has a face afterwards exactly if it had one
  pub fan-faced : (x : ℕ) → m.is_h x → m.face x ≢ NONE → m'.face x ≢ NONE
  fan-faced = each-a s q w (λ x. m.face x ≢ NONE → m'.face x ≢ NONE)
      (λ k i ne e. sub-none k i (cc (d.face-a k i)))
      (λ k i z ne e. sub-none k i (cc (d.face-b k i)))
      (λ x i n ne e. ne (cc (d.face-free x i n)))

  pub fan-rim : (x : ℕ) → m.is_h x → m.face x ≡ NONE → m'.face x ≡ NONE
  fan-rim x i e = d.face-free x i (λ z. w.faced (sym z ∙ e)) ∙ e

  a-face' : (x : ℕ) → m'.is_h x → m'.face x ≡ NONE → m'.face (partner x) ≢ NONE
  a-face' = by-a (λ x. m'.face x ≡ NONE → m'.face (partner x) ≢ NONE)
      (λ k i e. absurd (sub-none k i (cc (d.face-a k i))))
      (λ k i ne e. absurd (sub-none k i (cc (d.face-b k i))))
      (λ k i e. absurd (sub-none (dn k) (w.dn-in k i) (cc (d.face-r k i))))
      (λ k i e. absurd (sub-none k i (cc (d.face-o k i))))
      (λ x i n e. fan-faced (partner x) (s.H-partner x i) (C.a_face x i (cc (d.face-free x i n))))

  no-spike' : (x : ℕ) → m'.is_h x → m'.next x ≢ partner x
  no-spike' = by-b (λ x. m'.next x ≢ partner x)
      (λ k i ne e. C.no_spike (a k) (w.a_in k i) (cc (d.next-a k i ne, next-two s q w k i ne)))
      (λ k i e. old-r (partner (b k)) (up k) (s.H-partner _ (b-old k i)) (w.up_in k i) (cc (d.next-b k i)))
      (λ k i e. dn-ne s q w k i (d.r-once (dn k) k (w.dn-in k i) i (partner-inj (r (dn k)) (r k) (cc (d.next-r k i)))))
      (λ k i e. old-r (a k) k (w.a_in k i) i (cc (d.next-o k i, partner-partner (r k))))
      (λ x i n e. C.no_spike x i (cc (d.next-free x i n)))

  two-long' : (x : ℕ) → m'.is_h x → m'.face x ≢ NONE → m'.next x ≢ x
  two-long' = by-b (λ x. m'.face x ≢ NONE → m'.next x ≢ x)
      (λ k i z ne e. z (cc (d.next-a k i z)))
      (λ k i ne e. old-r (b k) (up k) (b-old k i) (w.up_in k i) (cc (d.next-b k i)))
      (λ k i ne e. old-o (b (dn k)) (dn k) (b-old (dn k) (w.dn-in k i)) (w.dn-in k i) (cc (d.next-r k i, d.prev-r k i, d.prev-o (dn k) (w.dn-in k i), w.up-dn k i)))
      (λ k i ne e. old-o (a k) k (w.a_in k i) i (cc (d.next-o k i)))
      (λ x i n ne e. C.two_long x i (λ z. ne (cc (d.face-free x i n))) (cc (d.next-free x i n)))

  three-long' : (x : ℕ) → m'.is_h x → m'.face x ≢ NONE → m'.next (m'.next x) ≢ x
  three-long' = by-b (λ x. m'.face x ≢ NONE → m'.next (m'.next x) ≢ x)
      (λ k i z ne e. old-r (a k) (up k) (w.a_in k i) (w.up_in k i) (cc (d.next-a k i z, d.next-b k i)))
      (λ k i ne e. old-o (b k) k (b-old k i) i (cc (d.next-b k i, d.next-r (up k) (w.up_in k i), w.dn-up k i)))
      (λ k i ne e. old-r (a (dn k)) k (w.a_in (dn k) (w.dn-in k i)) i (cc (d.next-r k i, d.next-o (dn k) (w.dn-in k i))))
      (λ k i ne e. split (a k) (b k)
      (λ z. o-r k i (cc (d.next-o k i, d.next-b k i)))
      (λ z. old-o (b k) k (b-old k i) i (cc (d.next-o k i, d.next-a k i z))))
      (λ x i n ne e. q.three.three_long x i (λ z. ne (cc (d.face-free x i n))) (cc (d.next-free x i n, d.next-free (m.next x) (C.next_in x i) (free-next x i n))))
    where
      -- a spoke's two halves end apart
      o-r : (k : ℕ) → K k → partner (r k) ≢ r (up k)
      o-r k i e = tail-c (a k) (w.a_in k i) (cc (d.head-o k i, d.head-r (up k) (w.up_in k i)))

  -- vertices
  each-V : (P : ℕ → Type 0) → ((v : ℕ) → m.is_v v → v ≢ c → P v) → P c → (v : ℕ) → m'.is_v v → P v
  each-V P p pc v i = go (d.V-is v i)
    where
      go : (v ≡ c) ⊎ (m.is_v v × (v ≢ c)) → P v
      go (inl e) = subst⁻¹ P e pc
      go (inr (j, n)) = p v j n

  out-in' : (v : ℕ) → m'.is_v v → (m'.out v ≡ NONE) ⊎ m'.is_h (m'.out v)
  out-in' = each-V (λ v. (m'.out v ≡ NONE) ⊎ m'.is_h (m'.out v)) (λ v i n. old v (d.out-old v i n) (C.out_in v i))
      (let (k, j, e) = d.out-c in inr (subst⁻¹ m'.is_h e (d.o-in k j)))
    where
      old : (v : ℕ) → m'.out v ≡ m.out v → (m.out v ≡ NONE) ⊎ m.is_h (m.out v) → (m'.out v ≡ NONE) ⊎ m'.is_h (m'.out v)
      old v e (inl z) = inl (e ∙ z)
      old v e (inr z) = inr (subst⁻¹ m'.is_h e (d.keep-H _ z))

  out-leaves' : (v : ℕ) → m'.is_v v → m'.out v ≢ NONE → tail m' (m'.out v) ≡ v
  out-leaves' = each-V (λ v. m'.out v ≢ NONE → tail m' (m'.out v) ≡ v) (λ v i n ne. old v i n ne (C.out_in v i))
      (λ ne. let (k, j, e) = d.out-c in cc (tail-o k j))
    where
      old : (v : ℕ) → m.is_v v → v ≢ c → m'.out v ≢ NONE → (m.out v ≡ NONE) ⊎ m.is_h (m.out v) → tail m' (m'.out v) ≡ v
      old v i n ne (inl z) = absurd (ne (d.out-old v i n ∙ z))
      old v i n ne (inr z) = cc (d.out-old v i n, tail-old (m.out v) z, C.out_leaves v i (s.H-none (m.out v) z))

  none-leaves' : (v : ℕ) → m'.is_v v → m'.out v ≡ NONE → (x : ℕ) → m'.is_h x → tail m' x ≢ v
  none-leaves' = each-V (λ v. m'.out v ≡ NONE → (x : ℕ) → m'.is_h x → tail m' x ≢ v) (λ v i n e. old v i n (cc (d.out-old v i n)))
      (λ z. let (k, j, e) = d.out-c in absurd (s'.H-none (partner (r k)) (d.o-in k j) (cc)))
    where
      old : (v : ℕ) → m.is_v v → v ≢ c → m.out v ≡ NONE → (x : ℕ) → m'.is_h x → tail m' x ≢ v
      old v i n e = each-new (λ x. tail m' x ≢ v)
          (λ x j z. C.none_leaves v i e x j (cc (tail-old x j)))
          (λ k j z. C.none_leaves v i e (a k) (w.a_in k j) (cc (tail-r k j)))
          (λ k j z. n (cc (tail-o k j)))

  -- turns: the spoke comes after the part's first
  turn-a : (k : ℕ) → K k → turn m' (a k) ≡ r k
  turn-a k i = cc (d.prev-a k i, partner-partner (r k))

  turn-r : (k : ℕ) → K k → turn m' (r k) ≡ turn m (a k)
  turn-r k i = cc (d.prev-r k i, prev-first s q w k i)

  turn-o : (k : ℕ) → K k → turn m' (partner (r k)) ≡ partner (r (up k))
  turn-o k i = cc (d.prev-o k i)

  turn_sim : {x y : ℕ} → m.is_h x → Reach (turn m) x y → Reach (turn m') x y
  turn_sim = reach-sim m.is_h (λ x. x) (turn_in s C) (each-a s q w (λ x. Reach (turn m') x (turn m x))
      (λ k i. reach-next (reach-one (turn-a k i)) (turn-r k i))
      (λ k i ne. reach-one (cc (d.prev-b k i ne, prev-two s q w k i ne)))
      (λ x i n. reach-one (cc (d.prev-free x i n))))

  -- an old one before, and one after, at the same vertex; or at the centre
  abbrev Near : ℕ → Type 0
  Near x = ((k : ℕ) × K k × (x ≡ partner (r k)))
      ⊎ ((y z : ℕ) × m.is_h y × m.is_h z × (tail m y ≡ tail m' x) × (tail m z ≡ tail m' x) × Reach (turn m') y x × Reach (turn m') x z)

  near : (x : ℕ) → m'.is_h x → Near x
  near = each-new Near
      (λ x i. inr (x, x, i, i, sym (tail-old x i), sym (tail-old x i), here, here))
      (λ k i. let j = w.a_in k i in
      inr (a k, turn m (a k), j, turn_in s C (a k) j, sym (tail-r k i), turn-tail s C (a k) j ∙ sym (tail-r k i), reach-one (turn-a k i), reach-one (turn-r k i)))
      (λ k i. inl (k, i, refl))

  one-turn' : (x y : ℕ) → m'.is_h x → m'.is_h y → tail m' x ≡ tail m' y → Reach (turn m') x y
  one-turn' x y i j e = go (near x i) (near y j)
    where
      go : Near x → Near y → Reach (turn m') x y
      go (inl (k, h, p)) (inl (l, h', p')) =
          subst⁻¹ (λ (x : ℕ). Reach (turn m') x y) p (subst⁻¹ (Reach (turn m') (partner (r k))) p'
          (reach-sim K (λ k. partner (r k)) w.up_in (λ n z. reach-one (turn-o n z)) h (up-reach s q w k l h h')))
      go (inl (k, h, p)) (inr (u, v, iu, iv, tu, tv, ru, rv)) = absurd (tail-c u iu (cc (tail-o k h)))
      go (inr (u, v, iu, iv, tu, tv, ru, rv)) (inl (k, h, p)) = absurd (tail-c u iu (cc (tail-o k h)))
      go (inr (u, v, iu, iv, tu, tv, ru, rv)) (inr (u', v', iu', iv', tu', tv', ru', rv')) = reach-trans rv (reach-trans (turn_sim iv (C.one_turn v u' iv iu' (cc))) ru')

  rim-named' : (x : ℕ) → m'.is_h x → m'.face x ≡ NONE → m'.out (tail m' x) ≡ x
  rim-named' = by-a (λ x. m'.face x ≡ NONE → m'.out (tail m' x) ≡ x)
      (λ k i e. absurd (sub-none k i (cc (d.face-a k i))))
      (λ k i ne e. absurd (sub-none k i (cc (d.face-b k i))))
      (λ k i e. absurd (sub-none (dn k) (w.dn-in k i) (cc (d.face-r k i))))
      (λ k i e. absurd (sub-none k i (cc (d.face-o k i))))
      (λ x i n e. cc (tail-old x i, d.out-old (tail m x) (tail-in s C x i) (tail-c x i), C.rim_named x i (cc (d.face-free x i n))))

  pub fan-consistent : Consistent m'
  fan-consistent = record {
    core = record {
      face_in = face-in';
      head_in = head-in';
      next_in = next-in';
      prev_in = prev-in';
      out_in = out-in';
      start_in = start-in';
      next_prev = next-prev';
      prev_next = prev-next';
      next_tail = next-tail';
      next_face = next-face';
      start_bears = start-bears';
      one_loop = one-loop';
      a_face = a-face';
      no_spike = no-spike';
      heads_differ = heads-differ';
      two_long = two-long';
      out_leaves = out-leaves';
      none_leaves = none-leaves';
      one_turn = one-turn';
      rim_named = rim-named';
    };
    three = record { three_long = three-long' };
  }

  -- the face of a part of two is a loop of four, and of a part of one a loop of three
  pub fan-quad : (k : ℕ) → K k → a k ≢ b k → m'.next (m'.next (m'.next (m'.next (a k)))) ≡ a k
  fan-quad k i ne = cc (d.next-a k i ne, d.next-b k i, d.next-r (up k) (w.up_in k i), w.dn-up k i, d.next-o k i)

  pub fan-triangle : (k : ℕ) → K k → a k ≡ b k → m'.next (m'.next (m'.next (a k))) ≡ a k
  fan-triangle k i e = cc (d.next-b k i, d.next-r (up k) (w.up_in k i), w.dn-up k i, d.next-o k i)

  -- whatever has not the face of a part is as it was
  pub fan-free : (x : ℕ) → m'.is_h x → ((k : ℕ) → K k → m'.face x ≢ sub k) → m.is_h x × (m.face x ≢ f)
  fan-free x i n = go (home x i)
    where
      go : ((k : ℕ) × K k × (m'.face x ≡ sub k) × Of k x) ⊎ (m.is_h x × (m.face x ≢ f)) → m.is_h x × (m.face x ≢ f)
      go (inl (k, j, e, o)) = absurd (n k j e)
      go (inr z) = z

  -- other faces' loops are walked as before
  pub fan-walk : (x : ℕ) → m.is_h x → m.face x ≢ f → (j : ℕ) → iter m'.next j x ≡ iter m.next j x
  fan-walk x i n zero = refl
  fan-walk x i n (suc j) =
      let (h, z) = reach-ind (λ (y : ℕ). m.is_h y × (m.face y ≢ f)) (λ y (h, z). (C.next_in y h, free-next y h z)) (i, n) (iter-reach m.next x j) in
      ap m'.next (fan-walk x i n j) ∙ d.next-free (iter m.next j x) h z

  pub fan-length : (x k : ℕ) → m.is_h x → m.face x ≢ f → Length m.next x k → Length m'.next x k
  fan-length x k i n l = record { long = l.long; closes = fan-walk x i n k ∙ l.closes; no-sooner = λ j u v e. l.no-sooner j u v (sym (fan-walk x i n j) ∙ e) }
