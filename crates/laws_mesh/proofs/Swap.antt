-- An edge between two faces is turned counter-clockwise: the mesh stays consistent. Assumes nothing.
--
-- h and o are its halves. The loop h, hn, hnn, …, hp becomes h, hnn, …, hp, on, and the loop o, on, onn, …, op becomes o, onn, …, op, hn.
-- What is said of h is said of o too (`Half`), so each fact at h is proved once, and used at o through `flip`.
use mathlib.Core.Path.{◌≡◌, refl, sym, ap, ◌∙◌, subst, subst⁻¹}
use mathlib.Core.Logic.{◌⊎◌, inl, inr, ◌≢◌}
use Prim.Native.Nat.{ℕ}
use Rattle.laws_mesh.specs.Reach.{Reach, here}
use Rattle.scope.specs.Links.{NONE, partner}
use Rattle.laws_mesh.specs.Mesh.{Mesh, tail, turn, Shape, Core, Three, Consistent}
use Rattle.laws_mesh.proofs.Cycle.{split, pick, pick_yes, pick_no, Perm, reach-sym, reach-trans, reach-eq, reach-one, reach-next, reach-sim}
use Rattle.laws_mesh.proofs.Facts.{partner-partner, head-prev, turn_in, prev-face, two-faces, tail-in, next-inj, next-ne}

pub record Half (m m' : Mesh) (h o : ℕ) : Type 0 where
  pub h-in : m.is_h h
  pub is-partner : partner h ≡ o
  pub faced : m.face h ≢ NONE
  -- answer 14: the end of h keeps another edge, and the new end of o is not yet on h's face
  pub not_last : m.next h ≢ partner (m.prev o)
  pub clear : (t : ℕ) → m.is_h t → m.face t ≡ m.face h → m.head t ≢ m.head (m.next o)
  pub head-h : m'.head h ≡ m.head (m.next h)
  pub face-n : m'.face (m.next h) ≡ m.face o
  pub next-h : m'.next h ≡ m.next (m.next h)
  pub next-n : m'.next (m.next h) ≡ o
  pub next-b : m'.next (m.prev h) ≡ m.next o
  pub prev-h : m'.prev h ≡ m.next o
  pub prev-n : m'.prev (m.next h) ≡ m.prev o
  pub prev-nn : m'.prev (m.next (m.next h)) ≡ h
  pub start-n : (f : ℕ) → m.is_f f → m.start f ≡ m.next h → m'.start f ≡ h
  pub out-h : (u : ℕ) → m.is_v u → m.out u ≡ h → m'.out u ≡ m.next o

pub record Swap (m m' : Mesh) (h o : ℕ) : Type 0 where
  pub one : Half m m' h o
  pub two : Half m m' o h
  pub keep-H : (t : ℕ) → m.is_h t → m'.is_h t
  pub H-is : (t : ℕ) → m'.is_h t → m.is_h t
  pub keep-V : (u : ℕ) → m.is_v u → m'.is_v u
  pub V-is : (u : ℕ) → m'.is_v u → m.is_v u
  pub keep-F : (f : ℕ) → m.is_f f → m'.is_f f
  pub F-is : (f : ℕ) → m'.is_f f → m.is_f f
  pub face-old : (t : ℕ) → m.is_h t → t ≢ m.next h → t ≢ m.next o → m'.face t ≡ m.face t
  pub head-old : (t : ℕ) → m.is_h t → t ≢ h → t ≢ o → m'.head t ≡ m.head t
  pub next-old : (t : ℕ) → m.is_h t → t ≢ h → t ≢ m.next h → t ≢ m.prev h → t ≢ o → t ≢ m.next o → t ≢ m.prev o → m'.next t ≡ m.next t
  pub prev-old : (t : ℕ) → m.is_h t → t ≢ h → t ≢ m.next h → t ≢ m.next (m.next h) → t ≢ o → t ≢ m.next o → t ≢ m.next (m.next o) → m'.prev t ≡ m.prev t
  pub start-old : (f : ℕ) → m.is_f f → m.start f ≢ m.next h → m.start f ≢ m.next o → m'.start f ≡ m.start f
  pub out-old : (u : ℕ) → m.is_v u → m.out u ≢ h → m.out u ≢ o → m'.out u ≡ m.out u

flip : {m m' : Mesh} {h o : ℕ} → Swap m m' h o → Swap m m' o h
flip d = record {
  one = d.two;
  two = d.one;
  keep-H = d.keep-H;
  H-is = d.H-is;
  keep-V = d.keep-V;
  V-is = d.V-is;
  keep-F = d.keep-F;
  F-is = d.F-is;
  face-old = λ t i p q. d.face-old t i q p;
  head-old = λ t i p q. d.head-old t i q p;
  next-old = λ t i p₁ p₂ p₃ q₁ q₂ q₃. d.next-old t i q₁ q₂ q₃ p₁ p₂ p₃;
  prev-old = λ t i p₁ p₂ p₃ q₁ q₂ q₃. d.prev-old t i q₁ q₂ q₃ p₁ p₂ p₃;
  start-old = λ f i p q. d.start-old f i q p;
  out-old = λ u i p q. d.out-old u i q p;
}

-- a statement at the three places around h where next changes, and at those where prev does
abbrev AtN : Mesh → ℕ → (ℕ → Type 0) → Type 0
AtN m h P = P h × P (m.next h) × P (m.prev h)

abbrev AtP : Mesh → ℕ → (ℕ → Type 0) → Type 0
AtP m h P = P h × P (m.next h) × P (m.next (m.next h))

-- ---- at h
module _ {m m' : Mesh} {h o : ℕ} (s : Shape m) (c : Core m) (th : Three m) (d : Swap m m' h o) where
  n-in : m.is_h (m.next h)
  n-in = c.next_in h d.one.h-in

  nn-in : m.is_h (m.next (m.next h))
  nn-in = c.next_in (m.next h) n-in

  b-in : m.is_h (m.prev h)
  b-in = c.prev_in h d.one.h-in

  n-face : m.face (m.next h) ≡ m.face h
  n-face = c.next_face h d.one.h-in

  nn-face : m.face (m.next (m.next h)) ≡ m.face h
  nn-face = c.next_face (m.next h) n-in ∙ n-face

  b-face : m.face (m.prev h) ≡ m.face h
  b-face = prev-face s c h d.one.h-in

  faces-apart : m.face h ≢ m.face o
  faces-apart e = two-faces s c h d.one.h-in (cc)

  apart : (x y : ℕ) → m.face x ≡ m.face h → m.face y ≡ m.face o → x ≢ y
  apart x y p q e = faces-apart (cc)

  n≢h : m.next h ≢ h
  n≢h = next-ne s c h d.one.h-in

  nn≢n : m.next (m.next h) ≢ m.next h
  nn≢n = next-ne s c (m.next h) n-in

  nn≢h : m.next (m.next h) ≢ h
  nn≢h = th.three_long h d.one.h-in d.one.faced

  b≢h : m.prev h ≢ h
  b≢h e = n≢h (cc (c.next_prev h d.one.h-in))

  b≢n : m.prev h ≢ m.next h
  b≢n e = nn≢h (cc (c.next_prev h d.one.h-in))

-- facts at h and at o
module _ {m m' : Mesh} {h o : ℕ} (s : Shape m) (c : Core m) (th : Three m) (d : Swap m m' h o) where
  -- a halfedge of h's face is none of those around o
  off : (t : ℕ) → m.face t ≡ m.face h → (t ≢ o) × (t ≢ m.next o) × (t ≢ m.prev o) × (t ≢ m.next (m.next o))
  off t e = (apart s c th d t o e refl, apart s c th d t _ e (n-face s c th (flip d)), apart s c th d t _ e (b-face s c th (flip d)), apart s c th d t _ e (nn-face s c th (flip d)))

  face-h : m'.face h ≡ m.face h
  face-h = d.face-old h d.one.h-in (λ e. n≢h s c th d (sym e)) (off h refl).1

  tail-h : tail m' h ≡ m.head (m.next o)
  tail-h = cc

  tail-old : (t : ℕ) → m.is_h t → t ≢ h → t ≢ o → tail m' t ≡ tail m t
  tail-old t i p q = d.head-old (partner t) (s.H-partner t i) (λ e. q (cc (partner-partner t))) (λ e. p (cc (partner-partner t)))

  next_in-at : AtN m h (λ t. m'.is_h (m'.next t))
  next_in-at = (
    subst⁻¹ m'.is_h d.one.next-h (d.keep-H _ (nn-in s c th d)),
    subst⁻¹ m'.is_h d.one.next-n (d.keep-H _ d.two.h-in),
    subst⁻¹ m'.is_h d.one.next-b (d.keep-H _ (n-in s c th (flip d))),
  )

  prev_in-at : AtP m h (λ t. m'.is_h (m'.prev t))
  prev_in-at = (
    subst⁻¹ m'.is_h d.one.prev-h (d.keep-H _ (n-in s c th (flip d))),
    subst⁻¹ m'.is_h d.one.prev-n (d.keep-H _ (b-in s c th (flip d))),
    subst⁻¹ m'.is_h d.one.prev-nn (d.keep-H _ d.one.h-in),
  )

  next_prev-at : AtP m h (λ t. m'.next (m'.prev t) ≡ t)
  next_prev-at = (cc, cc, cc)

  prev_next-at : AtN m h (λ t. m'.prev (m'.next t) ≡ t)
  prev_next-at = (cc, cc, cc)

  next_tail-at : AtN m h (λ t. tail m' (m'.next t) ≡ m'.head t)
  next_tail-at = (
    cc (tail-old (m.next (m.next h)) (nn-in s c th d) (nn≢h s c th d) (off _ (nn-face s c th d)).0, c.next_tail (m.next h) (n-in s c th d)),
    cc (d.head-old (m.next h) (n-in s c th d) (n≢h s c th d) (off _ (n-face s c th d)).0),
    cc (
      tail-old (m.next o) (n-in s c th (flip d)) (λ e. (off h refl).1 (sym e)) (n≢h s c th (flip d)),
      c.next_tail o d.two.h-in,
      head-prev s c h d.one.h-in,
      d.head-old (m.prev h) (b-in s c th d) (b≢h s c th d) (off _ (b-face s c th d)).0,
    ),
  )

  next_face-at : AtN m h (λ t. m'.face (m'.next t) ≡ m'.face t)
  next_face-at = (
    cc (face-h, d.face-old (m.next (m.next h)) (nn-in s c th d) (nn≢n s c th d) (off _ (nn-face s c th d)).1, nn-face s c th d),
    cc (d.face-old o d.two.h-in (λ e. (off _ (n-face s c th d)).0 (sym e)) (λ e. n≢h s c th (flip d) (sym e))),
    cc (d.face-old (m.prev h) (b-in s c th d) (b≢n s c th d) (off _ (b-face s c th d)).1, b-face s c th d),
  )

  no_spike-at : AtN m h (λ t. m'.next t ≢ partner t)
  no_spike-at = (
    (λ e. (off _ (nn-face s c th d)).0 (cc)),
    (λ e. n≢h s c th d (cc (partner-partner (m.next h)))),
    (λ e. d.two.not_last (cc)),
  )

  three-at : AtN m h (λ t. m'.next t ≢ m'.prev t)
  three-at = (
    (λ e. (off _ (nn-face s c th d)).1 (cc)),
    (λ e. b≢h s c th (flip d) (cc)),
    (λ e. split (m.prev h) (m.next (m.next h))
        (λ q. (off h refl).1 (cc))
        (λ q. (off _ (prev-face s c (m.prev h) (b-in s c th d) ∙ b-face s c th d)).1 (cc (d.prev-old (m.prev h) (b-in s c th d) (b≢h s c th d) (b≢n s c th d) q
        (off _ (b-face s c th d)).0 (off _ (b-face s c th d)).1 (off _ (b-face s c th d)).3)))),
  )

  three-nn : m'.next (m.next (m.next h)) ≢ m'.prev (m.next (m.next h))
  three-nn e = split (m.next (m.next h)) (m.prev h)
      (λ q. (off h refl).1 (cc))
      (λ q. q (cc (
        c.prev_next (m.next (m.next h)) (nn-in s c th d),
        d.next-old (m.next (m.next h)) (nn-in s c th d) (nn≢h s c th d) (nn≢n s c th d) q
            (off _ (nn-face s c th d)).0 (off _ (nn-face s c th d)).1 (off _ (nn-face s c th d)).2,
      )))

  out-h-leaves : (u : ℕ) → m.is_v u → m.out u ≡ h → tail m' (m'.out u) ≡ u
  out-h-leaves u i e =
      cc (
        d.one.out-h u i e,
        c.out_leaves u i (λ r. s.H-none h d.one.h-in (cc)),
        c.next_tail o d.two.h-in,
        tail-old (m.next o) (n-in s c th (flip d)) (λ e. (off h refl).1 (sym e)) (n≢h s c th (flip d)),
      )

module _ {m m' : Mesh} {h o : ℕ} (s : Shape m) (s' : Shape m') (c : Core m) (th : Three m) (d : Swap m m' h o) where
  each-n : (P : ℕ → Type 0) → AtN m h P → AtN m o P
      → ((t : ℕ) → m.is_h t → t ≢ h → t ≢ m.next h → t ≢ m.prev h → t ≢ o → t ≢ m.next o → t ≢ m.prev o → P t) → (t : ℕ) → m'.is_h t → P t
  each-n P (p₁, p₂, p₃) (q₁, q₂, q₃) r t i =
      split t h (λ e. subst⁻¹ P e p₁) (λ n₁. split t (m.next h) (λ e. subst⁻¹ P e p₂) (λ n₂. split t (m.prev h) (λ e. subst⁻¹ P e p₃) (λ n₃.
      split t o (λ e. subst⁻¹ P e q₁) (λ n₄. split t (m.next o) (λ e. subst⁻¹ P e q₂) (λ n₅. split t (m.prev o) (λ e. subst⁻¹ P e q₃) (λ n₆.
      r t (d.H-is t i) n₁ n₂ n₃ n₄ n₅ n₆))))))

  each-p : (P : ℕ → Type 0) → AtP m h P → AtP m o P
      → ((t : ℕ) → m.is_h t → t ≢ h → t ≢ m.next h → t ≢ m.next (m.next h) → t ≢ o → t ≢ m.next o → t ≢ m.next (m.next o) → P t) → (t : ℕ) → m'.is_h t → P t
  each-p P (p₁, p₂, p₃) (q₁, q₂, q₃) r t i =
      split t h (λ e. subst⁻¹ P e p₁) (λ n₁. split t (m.next h) (λ e. subst⁻¹ P e p₂) (λ n₂. split t (m.next (m.next h)) (λ e. subst⁻¹ P e p₃) (λ n₃.
      split t o (λ e. subst⁻¹ P e q₁) (λ n₄. split t (m.next o) (λ e. subst⁻¹ P e q₂) (λ n₅. split t (m.next (m.next o)) (λ e. subst⁻¹ P e q₃) (λ n₆.
      r t (d.H-is t i) n₁ n₂ n₃ n₄ n₅ n₆))))))

  -- four special places at most, for statements on face, head and tail
  face-in' : (t : ℕ) → m'.is_h t → (m'.face t ≡ NONE) ⊎ m'.is_f (m'.face t)
  face-in' t i = split t (m.next h) (λ e. to o d.two.h-in (ap m'.face e ∙ d.one.face-n))
      (λ n₁. split t (m.next o) (λ e. to h d.one.h-in (ap m'.face e ∙ d.two.face-n)) (λ n₂. to t (d.H-is t i) (d.face-old t (d.H-is t i) n₁ n₂)))
    where
      to : (r : ℕ) → m.is_h r → m'.face t ≡ m.face r → (m'.face t ≡ NONE) ⊎ m'.is_f (m'.face t)
      to r j e = go (c.face_in r j)
        where
          go : (m.face r ≡ NONE) ⊎ m.is_f (m.face r) → (m'.face t ≡ NONE) ⊎ m'.is_f (m'.face t)
          go (inl q) = inl (e ∙ q)
          go (inr q) = inr (subst⁻¹ m'.is_f e (d.keep-F _ q))

  head-in' : (t : ℕ) → m'.is_h t → m'.is_v (m'.head t)
  head-in' t i = split t h (λ e. to (m.next h) (n-in s c th d) (ap m'.head e ∙ d.one.head-h))
      (λ n₁. split t o (λ e. to (m.next o) (n-in s c th (flip d)) (ap m'.head e ∙ d.two.head-h)) (λ n₂. to t (d.H-is t i) (d.head-old t (d.H-is t i) n₁ n₂)))
    where
      to : (r : ℕ) → m.is_h r → m'.head t ≡ m.head r → m'.is_v (m'.head t)
      to r j e = subst⁻¹ m'.is_v e (d.keep-V _ (c.head_in r j))

  next-in' : (t : ℕ) → m'.is_h t → m'.is_h (m'.next t)
  next-in' = each-n _ (next_in-at s c th d) (next_in-at s c th (flip d))
      (λ t i n₁ n₂ n₃ n₄ n₅ n₆. subst⁻¹ m'.is_h (d.next-old t i n₁ n₂ n₃ n₄ n₅ n₆) (d.keep-H _ (c.next_in t i)))

  prev-in' : (t : ℕ) → m'.is_h t → m'.is_h (m'.prev t)
  prev-in' = each-p _ (prev_in-at s c th d) (prev_in-at s c th (flip d))
      (λ t i n₁ n₂ n₃ n₄ n₅ n₆. subst⁻¹ m'.is_h (d.prev-old t i n₁ n₂ n₃ n₄ n₅ n₆) (d.keep-H _ (c.prev_in t i)))

  next-prev' : (t : ℕ) → m'.is_h t → m'.next (m'.prev t) ≡ t
  next-prev' = each-p _ (next_prev-at s c th d) (next_prev-at s c th (flip d))
      (λ t i n₁ n₂ n₃ n₄ n₅ n₆. cc (
        d.prev-old t i n₁ n₂ n₃ n₄ n₅ n₆,
        c.next_prev t i,
        d.next-old (m.prev t) (c.prev_in t i)
            (λ e. n₂ (cc (c.next_prev t i))) (λ e. n₃ (cc (c.next_prev t i))) (λ e. n₁ (cc (c.next_prev t i, c.next_prev h d.one.h-in)))
            (λ e. n₅ (cc (c.next_prev t i))) (λ e. n₆ (cc (c.next_prev t i))) (λ e. n₄ (cc (c.next_prev t i, c.next_prev o d.two.h-in))),
      ))

  prev-next' : (t : ℕ) → m'.is_h t → m'.prev (m'.next t) ≡ t
  prev-next' = each-n _ (prev_next-at s c th d) (prev_next-at s c th (flip d))
      (λ t i n₁ n₂ n₃ n₄ n₅ n₆. cc (
        d.next-old t i n₁ n₂ n₃ n₄ n₅ n₆,
        c.prev_next t i,
        d.prev-old (m.next t) (c.next_in t i)
            (λ e. n₃ (cc (c.prev_next t i))) (λ e. n₁ (next-inj s c t h i d.one.h-in e)) (λ e. n₂ (next-inj s c t _ i (n-in s c th d) e))
            (λ e. n₆ (cc (c.prev_next t i))) (λ e. n₄ (next-inj s c t o i d.two.h-in e)) (λ e. n₅ (next-inj s c t _ i (n-in s c th (flip d)) e)),
      ))

  perm-next' : Perm m'.is_h s'.size m'.next m'.prev
  perm-next' = record { below = s'.below; fore = next-in'; back = prev-in'; gf = prev-next'; fg = next-prev' }

  next-tail' : (t : ℕ) → m'.is_h t → tail m' (m'.next t) ≡ m'.head t
  next-tail' = each-n _ (next_tail-at s c th d) (next_tail-at s c th (flip d))
      (λ t i n₁ n₂ n₃ n₄ n₅ n₆. cc (
        d.next-old t i n₁ n₂ n₃ n₄ n₅ n₆,
        c.next_tail t i,
        d.head-old t i n₁ n₄,
        tail-old s c th d (m.next t) (c.next_in t i) (λ e. n₃ (cc (c.prev_next t i))) (λ e. n₆ (cc (c.prev_next t i))),
      ))

  next-face' : (t : ℕ) → m'.is_h t → m'.face (m'.next t) ≡ m'.face t
  next-face' = each-n _ (next_face-at s c th d) (next_face-at s c th (flip d))
      (λ t i n₁ n₂ n₃ n₄ n₅ n₆. cc (
        d.next-old t i n₁ n₂ n₃ n₄ n₅ n₆,
        c.next_face t i,
        d.face-old t i n₂ n₅,
        d.face-old (m.next t) (c.next_in t i) (λ e. n₁ (next-inj s c t h i d.one.h-in e)) (λ e. n₄ (next-inj s c t o i d.two.h-in e)),
      ))

  no-spike' : (t : ℕ) → m'.is_h t → m'.next t ≢ partner t
  no-spike' = each-n _ (no_spike-at s c th d) (no_spike-at s c th (flip d))
      (λ t i n₁ n₂ n₃ n₄ n₅ n₆ e. c.no_spike t i (cc (d.next-old t i n₁ n₂ n₃ n₄ n₅ n₆)))

  three' : (t : ℕ) → m'.is_h t → m'.face t ≢ NONE → m'.next (m'.next t) ≢ t
  three' t i ne e = go t i ne (cc (prev-next' (m'.next t) (next-in' t i)))
    where
      go : (t : ℕ) → m'.is_h t → m'.face t ≢ NONE → m'.next t ≢ m'.prev t
      go = each-n _
          ((λ ne. (three-at s c th d).0), (λ ne. (three-at s c th d).1), (λ ne. (three-at s c th d).2))
          ((λ ne. (three-at s c th (flip d)).0), (λ ne. (three-at s c th (flip d)).1), (λ ne. (three-at s c th (flip d)).2))
          (λ t i n₁ n₂ n₃ n₄ n₅ n₆ ne e.
          split t (m.next (m.next h)) (λ q. three-nn s c th d (cc))
          (λ n₇. split t (m.next (m.next o)) (λ q. three-nn s c th (flip d) (cc))
          (λ n₈. th.three_long t i (λ r. ne (cc (d.face-old t i n₂ n₅)))
          (cc (d.next-old t i n₁ n₂ n₃ n₄ n₅ n₆, d.prev-old t i n₁ n₂ n₇ n₄ n₅ n₈, c.next_prev t i)))))

  start-cases : (P : ℕ → Type 0) (f : ℕ) → m.is_f f → (m.start f ≡ m.next h → P h) → (m.start f ≡ m.next o → P o) → (m.start f ≢ m.next h → m.start f ≢ m.next o → P (m.start f)) → P (m'.start f)
  start-cases P f i p q r = split (m.start f) (m.next h) (λ e. subst⁻¹ P (d.one.start-n f i e) (p e))
      (λ n₁. split (m.start f) (m.next o) (λ e. subst⁻¹ P (d.two.start-n f i e) (q e)) (λ n₂. subst⁻¹ P (d.start-old f i n₁ n₂) (r n₁ n₂)))

  start-in' : (f : ℕ) → m'.is_f f → m'.is_h (m'.start f)
  start-in' f i = start-cases m'.is_h f (d.F-is f i) (λ e. d.keep-H _ d.one.h-in) (λ e. d.keep-H _ d.two.h-in) (λ n₁ n₂. d.keep-H _ (c.start_in f (d.F-is f i)))

  start-bears' : (f : ℕ) → m'.is_f f → m'.face (m'.start f) ≡ f
  start-bears' f i = let j = d.F-is f i in start-cases (λ (t : ℕ). m'.face t ≡ f) f j
      (λ e. cc (face-h s c th d, n-face s c th d, c.start_bears f j))
      (λ e. cc (face-h s c th (flip d), n-face s c th (flip d), c.start_bears f j))
      (λ n₁ n₂. d.face-old (m.start f) (c.start_in f j) n₁ n₂ ∙ c.start_bears f j)

  -- the loops: hn is left out after h, and on comes in before it
  ν : ℕ → ℕ
  ν t = pick t (m.next h) h (pick t (m.next o) o t)

  ν-n : (t : ℕ) → t ≡ m.next h → ν t ≡ h
  unfolding ν
  ν-n t e = pick_yes t _ _ _ e

  ν-on : (t : ℕ) → t ≡ m.next o → ν t ≡ o
  unfolding ν
  ν-on t e = pick_no t _ _ _ (λ q. (off s c th d _ (n-face s c th d)).1 (sym q ∙ e)) ∙ pick_yes t _ _ _ e

  ν-old : (t : ℕ) → t ≢ m.next h → t ≢ m.next o → ν t ≡ t
  unfolding ν
  ν-old t p q = pick_no t _ _ _ p ∙ pick_no t _ _ _ q

  ν-h : ν h ≡ h
  ν-h = ν-old h (λ e. n≢h s c th d (sym e)) (off s c th d h refl).1

  ν-o : ν o ≡ o
  ν-o = ν-old o (λ e. (off s c th d _ (n-face s c th d)).0 (sym e)) (λ e. n≢h s c th (flip d) (sym e))

  ν-nn : ν (m.next (m.next h)) ≡ m.next (m.next h)
  ν-nn = ν-old _ (nn≢n s c th d) (off s c th d _ (nn-face s c th d)).1

  ν-onn : ν (m.next (m.next o)) ≡ m.next (m.next o)
  ν-onn = ν-old _ (off s c th (flip d) _ (nn-face s c th (flip d))).1 (nn≢n s c th (flip d))

  ν-b : ν (m.prev h) ≡ m.prev h
  ν-b = ν-old _ (b≢n s c th d) (off s c th d _ (b-face s c th d)).1

  ν-ob : ν (m.prev o) ≡ m.prev o
  ν-ob = ν-old _ (off s c th (flip d) _ (b-face s c th (flip d))).1 (b≢n s c th (flip d))

  ν-step : (t : ℕ) → m'.is_h t → Reach m'.next (ν t) (ν (m.next t))
  ν-step = each-n _
      (reach-eq (cc (ν-h, ν-n _ refl)), reach-one (cc (ν-n _ refl, ν-nn)), reach-next (reach-one {b = m.next o} (cc (ν-b))) (cc (c.next_prev h d.one.h-in, ν-h)))
      (reach-eq (cc (ν-o, ν-on _ refl)), reach-one (cc (ν-on _ refl, ν-onn)), reach-next (reach-one {b = m.next h} (cc (ν-ob))) (cc (c.next_prev o d.two.h-in, ν-o)))
      (λ t i n₁ n₂ n₃ n₄ n₅ n₆. reach-one (cc (
        ν-old t n₂ n₅,
        d.next-old t i n₁ n₂ n₃ n₄ n₅ n₆,
        ν-old (m.next t) (λ e. n₁ (next-inj s c t h i d.one.h-in e)) (λ e. n₄ (next-inj s c t o i d.two.h-in e)),
      )))

  near : (t : ℕ) → m'.is_h t → (r : ℕ) × m.is_h r × (m.face r ≡ m'.face t) × (ν r ≡ r) × Reach m'.next t r
  near t i = split t (m.next h) (λ e. (o, d.two.h-in, cc, ν-o, reach-one (cc)))
      (λ n₁. split t (m.next o) (λ e. (h, d.one.h-in, cc, ν-h, reach-one (cc)))
      (λ n₂. (t, d.H-is t i, sym (d.face-old t (d.H-is t i) n₁ n₂), ν-old t n₁ n₂, here)))

  one-loop' : (a b : ℕ) → m'.is_h a → m'.is_h b → m'.face a ≢ NONE → m'.face a ≡ m'.face b → Reach m'.next a b
  one-loop' a b i j ne e =
      let (x, ix, fx, νx, rx) = near a i in
      let (y, iy, fy, νy, ry) = near b j in
      let mid : Reach m'.next (ν x) (ν y) = reach-sim m.is_h ν c.next_in (λ t k. ν-step t (d.keep-H t k)) ix (c.one_loop x y ix iy (λ z. ne (sym fx ∙ z)) (fx ∙ e ∙ sym fy)) in
      reach-trans rx (reach-trans (subst (λ (w : ℕ). Reach m'.next w y) νx (subst (λ (w : ℕ). Reach m'.next (ν x) w) νy mid)) (reach-sym perm-next' j ry))

  -- the rim is as it was
  rim-back : (t : ℕ) → m.is_h t → m'.face t ≡ NONE → (m.face t ≡ NONE) × (t ≢ m.next h) × (t ≢ m.next o)
  rim-back t i e =
      let n₁ : t ≢ m.next h = λ q. d.two.faced (cc) in
      let n₂ : t ≢ m.next o = λ q. d.one.faced (cc) in
      (sym (d.face-old t i n₁ n₂) ∙ e, n₁, n₂)

  a-face' : (t : ℕ) → m'.is_h t → m'.face t ≡ NONE → m'.face (partner t) ≢ NONE
  a-face' t i e z = c.a_face t (d.H-is t i) (rim-back t (d.H-is t i) e).0 (rim-back (partner t) (s.H-partner t (d.H-is t i)) z).0

  -- heads: h has that of hn, o that of on; hn and on come to a face that had not their heads
  record Pulled (t r : ℕ) : Type 0 where
    r-in : m.is_h r
    r-face : m.face r ≡ m'.face t
    r-head : m.head r ≡ m'.head t
    was-n : r ≡ m.next h → t ≡ h
    was-on : r ≡ m.next o → t ≡ o
    was : r ≢ m.next h → r ≢ m.next o → t ≡ r

  pull : (t : ℕ) → m'.is_h t → t ≢ m.next h → t ≢ m.next o → (r : ℕ) × Pulled t r
  pull t i n₁ n₂ = split t h
      (λ e. (
        m.next h,
        record {
          r-in = n-in s c th d;
          r-face = cc (n-face s c th d, face-h s c th d);
          r-head = cc;
          was-n = λ q. e;
          was-on = λ q. absurd ((off s c th d _ (n-face s c th d)).1 q);
          was = λ q r. absurd (q refl);
        },
      ))
      (λ n₃. split t o
      (λ e. (
        m.next o,
        record {
          r-in = n-in s c th (flip d);
          r-face = cc (n-face s c th (flip d), face-h s c th (flip d));
          r-head = cc;
          was-on = λ q. e;
          was-n = λ q. absurd ((off s c th d _ (n-face s c th d)).1 (sym q));
          was = λ q r. absurd (r refl);
        },
      ))
      (λ n₄. (
        t,
        record {
          r-in = d.H-is t i;
          r-face = sym (d.face-old t (d.H-is t i) n₁ n₂);
          r-head = sym (d.head-old t (d.H-is t i) n₃ n₄);
          was-n = λ q. absurd (n₁ q);
          was-on = λ q. absurd (n₂ q);
          was = λ q r. refl;
        },
      )))

  head-n' : m'.head (m.next h) ≡ m.head (m.next h)
  head-n' = d.head-old _ (n-in s c th d) (n≢h s c th d) (off s c th d _ (n-face s c th d)).0

  head-on' : m'.head (m.next o) ≡ m.head (m.next o)
  head-on' = d.head-old _ (n-in s c th (flip d)) (off s c th (flip d) _ (n-face s c th (flip d))).0 (n≢h s c th (flip d))

  -- what has hn's new face and head is hn
  sole-n : (t : ℕ) → m'.is_h t → m'.face t ≡ m.face o → m'.head t ≡ m.head (m.next h) → t ≡ m.next h
  sole-n t i e q = split t (m.next h) (λ r. r) (λ n₁. split t (m.next o) (λ r. absurd (faces-apart s c th d (cc)))
      (λ n₂. let (r, p) = pull t i n₁ n₂ in absurd (d.two.clear r p.r-in (p.r-face ∙ e) (p.r-head ∙ q))))

  sole-on : (t : ℕ) → m'.is_h t → m'.face t ≡ m.face h → m'.head t ≡ m.head (m.next o) → t ≡ m.next o
  sole-on t i e q = split t (m.next o) (λ r. r) (λ n₂. split t (m.next h) (λ r. absurd (faces-apart s c th d (cc)))
      (λ n₁. let (r, p) = pull t i n₁ n₂ in absurd (d.one.clear r p.r-in (p.r-face ∙ e) (p.r-head ∙ q))))

  heads-differ' : (a b : ℕ) → m'.is_h a → m'.is_h b → m'.face a ≢ NONE → m'.face a ≡ m'.face b → m'.head a ≡ m'.head b → a ≡ b
  heads-differ' a b i j ne e q =
      split a (m.next h) (λ x. x ∙ sym (sole-n b j (cc) (cc (head-n')))) (λ a₁.
      split a (m.next o) (λ x. x ∙ sym (sole-on b j (cc) (cc (head-on')))) (λ a₂.
      split b (m.next h) (λ x. sole-n a i (cc) (cc (head-n')) ∙ sym x) (λ b₁.
      split b (m.next o) (λ x. sole-on a i (cc) (cc (head-on')) ∙ sym x) (λ b₂.
      let (r, p) = pull a i a₁ a₂ in
      let (r', p') = pull b j b₁ b₂ in
      let same : r ≡ r' = c.heads_differ r r' p.r-in p'.r-in (λ z. ne (sym p.r-face ∙ z)) (p.r-face ∙ e ∙ sym p'.r-face) (p.r-head ∙ q ∙ sym p'.r-head) in
      split r (m.next h) (λ x. p.was-n x ∙ sym (p'.was-n (sym same ∙ x))) (λ x.
      split r (m.next o) (λ y. p.was-on y ∙ sym (p'.was-on (sym same ∙ y))) (λ y.
      p.was x y ∙ same ∙ sym (p'.was (λ l. x (same ∙ l)) (λ l. y (same ∙ l)))))))))

  out_cases : {P : Type 0} (u : ℕ) → m.is_v u → (m.out u ≡ h → P) → (m.out u ≡ o → P) → (m.out u ≢ h → m.out u ≢ o → m'.out u ≡ m.out u → P) → P
  out_cases u i p q r = split (m.out u) h p (λ n₁. split (m.out u) o q (λ n₂. r n₁ n₂ (d.out-old u i n₁ n₂)))

  out-in' : (u : ℕ) → m'.is_v u → (m'.out u ≡ NONE) ⊎ m'.is_h (m'.out u)
  out-in' u j = let i = d.V-is u j in out_cases u i
      (λ e. inr (subst⁻¹ m'.is_h (d.one.out-h u i e) (d.keep-H _ (n-in s c th (flip d)))))
      (λ e. inr (subst⁻¹ m'.is_h (d.two.out-h u i e) (d.keep-H _ (n-in s c th d))))
      (λ n₁ n₂ q. old q (c.out_in u i))
    where
      old : m'.out u ≡ m.out u → (m.out u ≡ NONE) ⊎ m.is_h (m.out u) → (m'.out u ≡ NONE) ⊎ m'.is_h (m'.out u)
      old q (inl r) = inl (q ∙ r)
      old q (inr r) = inr (subst⁻¹ m'.is_h q (d.keep-H _ r))

  out-leaves' : (u : ℕ) → m'.is_v u → m'.out u ≢ NONE → tail m' (m'.out u) ≡ u
  out-leaves' u j z = let i = d.V-is u j in out_cases u i (out-h-leaves s c th d u i) (out-h-leaves s c th (flip d) u i) (λ n₁ n₂ q. old n₁ n₂ q (c.out_in u i))
    where
      old : m.out u ≢ h → m.out u ≢ o → m'.out u ≡ m.out u → (m.out u ≡ NONE) ⊎ m.is_h (m.out u) → tail m' (m'.out u) ≡ u
      old n₁ n₂ q (inl r) = absurd (z (q ∙ r))
      old n₁ n₂ q (inr r) = cc (tail-old s c th d (m.out u) r n₁ n₂, c.out_leaves u (d.V-is u j) (s.H-none (m.out u) r))

  none-leaves' : (u : ℕ) → m'.is_v u → m'.out u ≡ NONE → (t : ℕ) → m'.is_h t → tail m' t ≢ u
  none-leaves' u j z t k = let i = d.V-is u j in out_cases u i
      (λ e. absurd (s.H-none (m.next o) (n-in s c th (flip d)) (sym (d.one.out-h u i e) ∙ z)))
      (λ e. absurd (s.H-none (m.next h) (n-in s c th d) (sym (d.two.out-h u i e) ∙ z)))
      (λ n₁ n₂ q e.
      let free = c.none_leaves u i (sym q ∙ z) in
      split t h (λ x. free _ (nn-in s c th (flip d)) (cc (tail-h s c th d, c.next_tail (m.next o) (n-in s c th (flip d))))) (λ x.
      split t o (λ y. free _ (nn-in s c th d) (cc (tail-h s c th (flip d), c.next_tail (m.next h) (n-in s c th d)))) (λ y.
      free t (d.H-is t k) (cc (tail-old s c th d t (d.H-is t k) x y)))))

  rim-named' : (t : ℕ) → m'.is_h t → m'.face t ≡ NONE → m'.out (tail m' t) ≡ t
  rim-named' t j e =
      let i = d.H-is t j in
      let r = (rim-back t i e).0 in
      let n₁ : t ≢ h = λ q. d.one.faced (cc) in
      let n₂ : t ≢ o = λ q. d.two.faced (cc) in
      let q : m.out (tail m t) ≡ t = c.rim_named t i r in
      cc (tail-old s c th d t i n₁ n₂, d.out-old (tail m t) (tail-in s c t i) (λ z. n₁ (cc)) (λ z. n₂ (cc)))

  -- the turns: h is left out after on, o after hn; h comes in after onn, o after hnn
  τ : ℕ → ℕ
  τ t = pick t h (m.next o) (pick t o (m.next h) t)

  h≢o : h ≢ o
  h≢o e = (off s c th d h refl).0 e

  τ-h : (t : ℕ) → t ≡ h → τ t ≡ m.next o
  unfolding τ
  τ-h t e = pick_yes t _ _ _ e

  τ-o : (t : ℕ) → t ≡ o → τ t ≡ m.next h
  unfolding τ
  τ-o t e = pick_no t _ _ _ (λ q. h≢o (sym q ∙ e)) ∙ pick_yes t _ _ _ e

  τ-old : (t : ℕ) → t ≢ h → t ≢ o → τ t ≡ t
  unfolding τ
  τ-old t p q = pick_no t _ _ _ p ∙ pick_no t _ _ _ q

  -- the partner of what is neither h nor o is neither
  τ-partner : (t : ℕ) → t ≢ h → t ≢ o → τ (partner t) ≡ partner t
  τ-partner t p q = τ-old (partner t) (λ e. q (cc (partner-partner t))) (λ e. p (cc (partner-partner t)))

  τ-step : (t : ℕ) → m'.is_h t → Reach (turn m') (τ t) (τ (turn m t))
  τ-step = each-p _ (
    reach-one (cc (τ-h h refl, τ-partner (m.prev h) (b≢h s c th d) (off s c th d _ (b-face s c th d)).0)),
    reach-eq (cc (τ-old (m.next h) (n≢h s c th d) (off s c th d _ (n-face s c th d)).0, c.prev_next h d.one.h-in, τ-o o refl)),
    reach-next (reach-one {b = o} (cc (τ-old (m.next (m.next h)) (nn≢h s c th d) (off s c th d _ (nn-face s c th d)).0)))
        (cc (c.prev_next (m.next h) (n-in s c th d), τ-partner (m.next h) (n≢h s c th d) (off s c th d _ (n-face s c th d)).0)),
  ) (
    reach-one (cc (τ-o o refl, τ-partner (m.prev o) (off s c th (flip d) _ (b-face s c th (flip d))).0 (b≢h s c th (flip d)))),
    reach-eq (cc (τ-old (m.next o) (off s c th (flip d) _ (n-face s c th (flip d))).0 (n≢h s c th (flip d)), c.prev_next o d.two.h-in, τ-h h refl)),
    reach-next (reach-one {b = h} (cc (τ-old (m.next (m.next o)) (off s c th (flip d) _ (nn-face s c th (flip d))).0 (nn≢h s c th (flip d)))))
        (cc (c.prev_next (m.next o) (n-in s c th (flip d)), τ-partner (m.next o) (off s c th (flip d) _ (n-face s c th (flip d))).0 (n≢h s c th (flip d)))),
  )
      (λ t i n₁ n₂ n₃ n₄ n₅ n₆. reach-one (cc (
        τ-old t n₁ n₄,
        d.prev-old t i n₁ n₂ n₃ n₄ n₅ n₆,
        τ-partner (m.prev t) (λ e. n₂ (cc (c.next_prev t i))) (λ e. n₅ (cc (c.next_prev t i))),
      )))

  fore : (t : ℕ) → m'.is_h t → (r : ℕ) × m.is_h r × (tail m r ≡ tail m' t) × (τ r ≡ r) × Reach (turn m') t r
  fore t j = split t h
      (λ e. (
        partner (m.next o),
        s.H-partner _ (n-in s c th (flip d)),
        cc (partner-partner (m.next o), tail-h s c th d),
        τ-partner (m.next o) (off s c th (flip d) _ (n-face s c th (flip d))).0 (n≢h s c th (flip d)),
        reach-one (cc),
      ))
      (λ n₁. split t o
      (λ e. (
        partner (m.next h),
        s.H-partner _ (n-in s c th d),
        cc (partner-partner (m.next h), tail-h s c th (flip d)),
        τ-partner (m.next h) (n≢h s c th d) (off s c th d _ (n-face s c th d)).0,
        reach-one (cc),
      ))
      (λ n₂. (t, d.H-is t j, sym (tail-old s c th d t (d.H-is t j) n₁ n₂), τ-old t n₁ n₂, here)))

  aft : (t : ℕ) → m'.is_h t → (r : ℕ) × m.is_h r × (tail m r ≡ tail m' t) × (τ r ≡ r) × Reach (turn m') r t
  aft t j = split t h
      (λ e. (
        m.next (m.next o),
        nn-in s c th (flip d),
        cc (c.next_tail (m.next o) (n-in s c th (flip d)), tail-h s c th d),
        τ-old _ (off s c th (flip d) _ (nn-face s c th (flip d))).0 (nn≢h s c th (flip d)),
        reach-one (cc),
      ))
      (λ n₁. split t o
      (λ e. (
        m.next (m.next h),
        nn-in s c th d,
        cc (c.next_tail (m.next h) (n-in s c th d), tail-h s c th (flip d)),
        τ-old _ (nn≢h s c th d) (off s c th d _ (nn-face s c th d)).0,
        reach-one (cc),
      ))
      (λ n₂. (t, d.H-is t j, sym (tail-old s c th d t (d.H-is t j) n₁ n₂), τ-old t n₁ n₂, here)))

  one-turn' : (a b : ℕ) → m'.is_h a → m'.is_h b → tail m' a ≡ tail m' b → Reach (turn m') a b
  one-turn' a b i j e =
      let (x, ix, tx, τx, rx) = fore a i in
      let (y, iy, ty, τy, ry) = aft b j in
      let mid : Reach (turn m') (τ x) (τ y) = reach-sim m.is_h τ (turn_in s c) (λ t k. τ-step t (d.keep-H t k)) ix (c.one_turn x y ix iy (tx ∙ e ∙ sym ty)) in
      reach-trans rx (reach-trans (subst (λ (w : ℕ). Reach (turn m') w y) τx (subst (λ (w : ℕ). Reach (turn m') (τ x) w) τy mid)) ry)

  pub swap-consistent : Consistent m'
  swap-consistent = record {
    core = record {
      face_in = face-in';
      head_in = head-in';
      next_in = next-in';
      prev_in = prev-in';
      out_in = out-in';
      start_in = start-in';
      next_prev = next-prev';
      prev_next = prev-next';
      next_tail = next-tail';
      next_face = next-face';
      start_bears = start-bears';
      one_loop = one-loop';
      a_face = a-face';
      no_spike = no-spike';
      heads_differ = heads-differ';
      two_long = λ t i ne e. three' t i ne (ap m'.next e ∙ e);
      out_leaves = out-leaves';
      none_leaves = none-leaves';
      one_turn = one-turn';
      rim_named = rim-named';
    };
    three = record { three_long = three' };
  }
