-- A face's loop cut into parts, each of one halfedge or of two. Assumes nothing.
use mathlib.Core.Path.{◌≡◌, refl, sym, ap, ◌∙◌, subst, subst⁻¹}
use mathlib.Core.Logic.{◌⊎◌, inl, inr, ◌≢◌}
use Prim.Native.Nat.{ℕ}
use Rattle.scope.specs.Links.{NONE}
use Rattle.laws_mesh.specs.Reach.{Reach, here, step}
use Rattle.laws_mesh.specs.Mesh.{Mesh, tail, Shape, Consistent}
use Rattle.laws_mesh.proofs.Cycle.{split, reach-ind}
use Rattle.laws_mesh.proofs.Facts.{head-prev, no_self}

-- part k (for those k that K says) goes from a k to b k; then comes part up k. Face f's loop has no others
pub record Parts (m : Mesh) (f : ℕ) (K : ℕ → Type 0) (a b up dn : ℕ → ℕ) : Type 0 where
  pub a_in : (k : ℕ) → K k → m.is_h (a k)
  pub of-f : (k : ℕ) → K k → m.face (a k) ≡ f
  pub faced : f ≢ NONE
  pub up_in : (k : ℕ) → K k → K (up k)
  pub dn-in : (k : ℕ) → K k → K (dn k)
  pub up-dn : (k : ℕ) → K k → up (dn k) ≡ k
  pub dn-up : (k : ℕ) → K k → dn (up k) ≡ k
  -- one halfedge, or two
  pub run : (k : ℕ) → K k → (a k ≡ b k) ⊎ (m.next (a k) ≡ b k)
  pub onward : (k : ℕ) → K k → m.next (b k) ≡ a (up k)
  pub a-once : (k l : ℕ) → K k → K l → a k ≡ a l → k ≡ l
  pub a-b : (k l : ℕ) → K k → K l → a k ≡ b l → a l ≡ b l
  pub all : (x : ℕ) → m.is_h x → m.face x ≡ f → (k : ℕ) × K k × ((x ≡ a k) ⊎ (x ≡ b k))

module _ {m : Mesh} {f : ℕ} {K : ℕ → Type 0} {a b up dn : ℕ → ℕ} (s : Shape m) (q : Consistent m) (d : Parts m f K a b up dn) where
  -- the two of a part of two
  pub next-two : (k : ℕ) → K k → a k ≢ b k → m.next (a k) ≡ b k
  next-two k i ne = go (d.run k i)
    where
      go : (a k ≡ b k) ⊎ (m.next (a k) ≡ b k) → m.next (a k) ≡ b k
      go (inl e) = absurd (ne e)
      go (inr e) = e

  pub b-in : (k : ℕ) → K k → m.is_h (b k)
  b-in k i = split (a k) (b k) (λ e. subst m.is_h e (d.a_in k i)) (λ ne. subst m.is_h (next-two k i ne) (q.core.next_in (a k) (d.a_in k i)))

  pub b-face : (k : ℕ) → K k → m.face (b k) ≡ f
  b-face k i = split (a k) (b k) (λ e. cc (d.of-f k i)) (λ ne. cc (next-two k i ne, d.of-f k i, q.core.next_face (a k) (d.a_in k i)))

  a-faced : (k : ℕ) → K k → m.face (a k) ≢ NONE
  a-faced k i e = d.faced (cc (d.of-f k i))

  -- a statement on all halfedges: at b only where it is another than a, or at a only where it is another than b
  pub each-a : (P : ℕ → Type 0) → ((k : ℕ) → K k → P (a k)) → ((k : ℕ) → K k → a k ≢ b k → P (b k)) → ((x : ℕ) → m.is_h x → m.face x ≢ f → P x) → (x : ℕ) → m.is_h x → P x
  each-a P pa pb pf x i = split (m.face x) f (λ e. go (d.all x i e)) (λ ne. pf x i ne)
    where
      go : (k : ℕ) × K k × ((x ≡ a k) ⊎ (x ≡ b k)) → P x
      go (k, j, inl e) = subst⁻¹ P e (pa k j)
      go (k, j, inr e) = split (a k) (b k) (λ w. subst⁻¹ P (e ∙ sym w) (pa k j)) (λ w. subst⁻¹ P e (pb k j w))

  pub each-b : (P : ℕ → Type 0) → ((k : ℕ) → K k → a k ≢ b k → P (a k)) → ((k : ℕ) → K k → P (b k)) → ((x : ℕ) → m.is_h x → m.face x ≢ f → P x) → (x : ℕ) → m.is_h x → P x
  each-b P pa pb pf = each-a P (λ k i. split (a k) (b k) (λ e. subst⁻¹ P e (pb k i)) (λ ne. pa k i ne)) (λ k i ne. pb k i) pf

  -- what comes before a part is the last of the part before
  pub prev-first : (k : ℕ) → K k → m.prev (a k) ≡ b (dn k)
  prev-first k i = cc (d.onward (dn k) (d.dn-in k i), d.up-dn k i, q.core.prev_next (b (dn k)) (b-in (dn k) (d.dn-in k i)))

  pub prev-two : (k : ℕ) → K k → a k ≢ b k → m.prev (b k) ≡ a k
  prev-two k i ne = cc (next-two k i ne, q.core.prev_next (a k) (d.a_in k i))

  pub b-once : (k l : ℕ) → K k → K l → b k ≡ b l → k ≡ l
  b-once k l i j e =
      let w = d.a-once (up k) (up l) (d.up_in k i) (d.up_in l j) (cc (d.onward k i, d.onward l j)) in
      cc (d.dn-up k i, d.dn-up l j)

  -- there is more than one part
  pub up-ne : (k : ℕ) → K k → up k ≢ k
  up-ne k i e = split (a k) (b k)
      (λ w. q.core.two_long (a k) (d.a_in k i) (a-faced k i) (cc (d.onward k i)))
      (λ w. q.three.three_long (a k) (d.a_in k i) (a-faced k i) (cc (next-two k i w, d.onward k i)))

  pub dn-ne : (k : ℕ) → K k → dn k ≢ k
  dn-ne k i e = up-ne k i (cc (d.up-dn k i))

  pub tail-is : (k : ℕ) → K k → tail m (a k) ≡ m.head (b (dn k))
  tail-is k i = cc (prev-first k i, head-prev s q.core (a k) (d.a_in k i))

  -- the ends of a part differ
  pub ends-ab : (k : ℕ) → K k → a k ≢ b k → m.head (a k) ≢ m.head (b k)
  ends-ab k i ne e = ne (q.core.heads_differ (a k) (b k) (d.a_in k i) (b-in k i) (a-faced k i) (cc (d.of-f k i, b-face k i)) e)

  pub ends_at : (k : ℕ) → K k → m.head (a k) ≢ tail m (a k)
  ends_at k i e = no_self s q.core (a k) (d.a_in k i) (sym e)

  pub ends-bt : (k : ℕ) → K k → m.head (b k) ≢ tail m (a k)
  ends-bt k i e =
      let j = d.dn-in k i in
      let w : b k ≡ b (dn k) = q.core.heads_differ (b k) (b (dn k)) (b-in k i) (b-in (dn k) j) (λ z. d.faced (cc (b-face k i))) (cc (b-face k i, b-face (dn k) j)) (cc (tail-is k i)) in
      dn-ne k i (b-once (dn k) k j i (sym w))

  -- x is in the part n, which comes after k
  abbrev Met : ℕ → ℕ → Type 0
  Met k x = (n : ℕ) × K n × Reach up k n × ((x ≡ a n) ⊎ (x ≡ b n))

  -- parts come after each other
  pub up-reach : (k l : ℕ) → K k → K l → Reach up k l
  up-reach k l i j = finish (reach-ind (Met k) on (k, i, here, inl refl) (q.core.one_loop (a k) (a l) (d.a_in k i) (d.a_in l j) (a-faced k i) (d.of-f k i ∙ sym (d.of-f l j))))
    where
      on : (x : ℕ) → Met k x → Met k (m.next x)
      on x (n, w, r, inl p) = split (a n) (b n) (λ e. (up n, d.up_in n w, step r, inl (ap m.next (p ∙ e) ∙ d.onward n w))) (λ ne. (n, w, r, inr (ap m.next p ∙ next-two n w ne)))
      on x (n, w, r, inr p) = (up n, d.up_in n w, step r, inl (ap m.next p ∙ d.onward n w))

      finish : Met k (a l) → Reach up k l
      finish (n, w, r, inl p) = subst⁻¹ (Reach up k) (d.a-once l n j w p) r
      finish (n, w, r, inr p) = subst⁻¹ (Reach up k) (d.a-once l n j w (p ∙ sym (d.a-b l n j w p))) r
