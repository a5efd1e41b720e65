-- A triangle with one edge on the rim, split at two new vertices on that edge: two splits and two inserts. Assumes nothing.
-- The triangle is a, b, c; r is a's partner, on the rim. i₀ and i₂ are the halves that the splits add before a, j₅ and j₇ the inserts' halves with the new faces.
use mathlib.Core.Path.{◌≡◌, refl, sym, ap, ◌∙◌, subst, subst⁻¹}
use mathlib.Core.Logic.{◌⊎◌, inl, inr, ◌≢◌}
use Prim.Native.Nat.{ℕ}
use Rattle.scope.specs.Links.{NONE, partner}
use Rattle.laws_mesh.specs.Mesh.{Mesh, Shape, Consistent}
use Rattle.laws_mesh.proofs.Facts.{partner-ne, next-ne}
use Rattle.laws_mesh.proofs.InsertEdge.{InsertEdge}

-- where it happens
pub record Rim (m : Mesh) (a b c r : ℕ) : Type 0 where
  pub a_in : m.is_h a
  pub ar : partner a ≡ r
  pub ab : m.next a ≡ b
  pub bc : m.next b ≡ c
  pub ca : m.next c ≡ a
  pub faced : m.face a ≢ NONE
  pub rim : m.face r ≡ NONE

module _ {m : Mesh} {a b c r : ℕ} (s : Shape m) (k : Consistent m) (w : Rim m a b c r) where
  pub rim-b : m.is_h b
  rim-b = subst m.is_h w.ab (k.core.next_in a w.a_in)

  pub rim-c : m.is_h c
  rim-c = subst m.is_h w.bc (k.core.next_in b rim-b)

  pub rim-r : m.is_h r
  rim-r = subst m.is_h w.ar (s.H-partner a w.a_in)

  pub rim-b-face : m.face b ≡ m.face a
  rim-b-face = ap m.face (sym w.ab) ∙ k.core.next_face a w.a_in

  pub rim-c-face : m.face c ≡ m.face a
  rim-c-face = ap m.face (sym w.bc) ∙ k.core.next_face b rim-b ∙ rim-b-face

  pub rim-a≢b : a ≢ b
  rim-a≢b e = next-ne s k.core a w.a_in (w.ab ∙ sym e)

  pub rim-b≢c : b ≢ c
  rim-b≢c e = next-ne s k.core b rim-b (w.bc ∙ sym e)

  pub rim-c≢a : c ≢ a
  rim-c≢a e = next-ne s k.core c rim-c (w.ca ∙ sym e)

  -- r is on the rim
  pub rim-not-r : (t : ℕ) → m.face t ≡ m.face a → t ≢ r
  rim-not-r t e z = w.faced (sym e ∙ ap m.face z ∙ w.rim)

  rim-prev : m.prev a ≡ c
  rim-prev = ap m.prev (sym w.ca) ∙ k.core.prev_next c rim-c

-- the edge of h is split by v, and n is the new half that ends there: the halfedges' words, whatever the vertices name
pub record Halved (m m' : Mesh) (h v n : ℕ) : Type 0 where
  pub n-new : ¬ m.is_h n
  pub o-new : ¬ m.is_h (partner n)
  pub keep-H : (x : ℕ) → m.is_h x → m'.is_h x
  pub n-in : m'.is_h n
  pub o-in : m'.is_h (partner n)
  pub H-is : (x : ℕ) → m'.is_h x → m.is_h x ⊎ ((x ≡ n) ⊎ (x ≡ partner n))
  pub face-n : m'.face n ≡ m.face h
  pub face-o : m'.face (partner n) ≡ m.face (partner h)
  pub face-old : (x : ℕ) → m.is_h x → m'.face x ≡ m.face x
  pub head-n : m'.head n ≡ v
  pub head-old : (x : ℕ) → m.is_h x → x ≢ partner h → m'.head x ≡ m.head x
  pub next-n : m'.next n ≡ h
  pub next-b : m'.next (m.prev h) ≡ n
  pub next-old : (x : ℕ) → m.is_h x → x ≢ m.prev h → x ≢ partner h → m'.next x ≡ m.next x
  pub prev-h : m'.prev h ≡ n

-- ---- after the two splits
module _ {m₀ m₁ m₂ : Mesh} {a b c r i₀ i₂ va vb : ℕ} (s₀ : Shape m₀) (k₀ : Consistent m₀) (w : Rim m₀ a b c r)
    (d₁ : Halved m₀ m₁ a va i₀) (d₂ : Halved m₁ m₂ a vb i₂) where
  new₁ : (t : ℕ) → m₀.is_h t → (t ≢ i₀) × (t ≢ partner i₀)
  new₁ t i = ((λ e. d₁.n-new (subst m₀.is_h e i)), (λ e. d₁.o-new (subst m₀.is_h e i)))

  new₂ : (t : ℕ) → m₁.is_h t → (t ≢ i₂) × (t ≢ partner i₂)
  new₂ t i = ((λ e. d₂.n-new (subst m₁.is_h e i)), (λ e. d₂.o-new (subst m₁.is_h e i)))

  to₁ : (t : ℕ) → m₀.is_h t → m₁.is_h t
  to₁ = d₁.keep-H

  n₁-c : m₁.next c ≡ i₀
  n₁-c = ap m₁.next (sym (rim-prev s₀ k₀ w)) ∙ d₁.next-b

  -- a halfedge that the splits do not touch
  keeps₁ : (t : ℕ) → m₀.is_h t → t ≢ c → t ≢ r → m₁.next t ≡ m₀.next t
  keeps₁ t i n₁ n₂ = d₁.next-old t i (λ e. n₁ (e ∙ rim-prev s₀ k₀ w)) (λ e. n₂ (e ∙ w.ar))

  keeps₂ : (t : ℕ) → m₁.is_h t → t ≢ i₀ → t ≢ r → m₂.next t ≡ m₁.next t
  keeps₂ t i n₁ n₂ = d₂.next-old t i (λ e. n₁ (e ∙ d₁.prev-h)) (λ e. n₂ (e ∙ w.ar))

  pub rim-n₂-old : (t : ℕ) → m₀.is_h t → t ≢ c → t ≢ r → m₂.next t ≡ m₀.next t
  rim-n₂-old t i n₁ n₂ = keeps₂ t (to₁ t i) (new₁ t i).0 n₂ ∙ keeps₁ t i n₁ n₂

  pub rim-n₂-c : m₂.next c ≡ i₀
  rim-n₂-c = let i = rim-c s₀ k₀ w in keeps₂ c (to₁ c i) (new₁ c i).0 (rim-not-r s₀ k₀ w c (rim-c-face s₀ k₀ w)) ∙ n₁-c

  pub rim-n₂-i₀ : m₂.next i₀ ≡ i₂
  rim-n₂-i₀ = ap m₂.next (sym d₁.prev-h) ∙ d₂.next-b

  pub rim-n₂-i₂ : m₂.next i₂ ≡ a
  rim-n₂-i₂ = d₂.next-n

  pub rim-n₂-a : m₂.next a ≡ b
  rim-n₂-a = rim-n₂-old a w.a_in (λ e. rim-c≢a s₀ k₀ w (sym e)) (rim-not-r s₀ k₀ w a refl) ∙ w.ab

  pub rim-n₂-b : m₂.next b ≡ c
  rim-n₂-b = rim-n₂-old b (rim-b s₀ k₀ w) (rim-b≢c s₀ k₀ w) (rim-not-r s₀ k₀ w b (rim-b-face s₀ k₀ w)) ∙ w.bc

  pub rim-f₂-i₀ : m₂.face i₀ ≡ m₀.face a
  rim-f₂-i₀ = d₂.face-old i₀ d₁.n-in ∙ d₁.face-n

  pub rim-f₂-p₀ : m₂.face (partner i₀) ≡ m₀.face r
  rim-f₂-p₀ = d₂.face-old (partner i₀) d₁.o-in ∙ d₁.face-o ∙ ap m₀.face w.ar

  pub rim-f₂-p₂ : m₂.face (partner i₂) ≡ m₀.face r
  rim-f₂-p₂ = d₂.face-o ∙ ap m₁.face w.ar ∙ d₁.face-old r (rim-r s₀ k₀ w)

  pub rim-f₂-old : (t : ℕ) → m₀.is_h t → m₂.face t ≡ m₀.face t
  rim-f₂-old t i = d₂.face-old t (to₁ t i) ∙ d₁.face-old t i

  pub rim-h₂-i₀ : m₂.head i₀ ≡ va
  rim-h₂-i₀ = d₂.head-old i₀ d₁.n-in (λ e. (new₁ r (rim-r s₀ k₀ w)).0 (sym (e ∙ w.ar))) ∙ d₁.head-n

  pub rim-h₂-old : (t : ℕ) → m₀.is_h t → t ≢ r → m₂.head t ≡ m₀.head t
  rim-h₂-old t i n = d₂.head-old t (to₁ t i) (λ e. n (e ∙ w.ar)) ∙ d₁.head-old t i (λ e. n (e ∙ w.ar))

  pub rim-in₂ : (t : ℕ) → m₀.is_h t → m₂.is_h t
  rim-in₂ t i = d₂.keep-H t (to₁ t i)

  -- the old ones are none of the new
  pub rim-old₂ : (t : ℕ) → m₀.is_h t → (t ≢ i₀) × (t ≢ partner i₀) × (t ≢ i₂) × (t ≢ partner i₂)
  rim-old₂ t i = ((new₁ t i).0, (new₁ t i).1, (new₂ t (to₁ t i)).0, (new₂ t (to₁ t i)).1)

  pub rim-i₀≢i₂ : i₀ ≢ i₂
  rim-i₀≢i₂ = (new₂ i₀ d₁.n-in).0

  pub rim-p₀≢i₂ : partner i₀ ≢ i₂
  rim-p₀≢i₂ = (new₂ (partner i₀) d₁.o-in).0

-- ---- the whole: what next, face and head become where they are read
pub record RimFan (m m' : Mesh) (a b c r i₀ i₂ j₅ j₇ va vb g g' : ℕ) : Type 0 where
  pub next-c : m'.next c ≡ i₀
  pub next-i₀ : m'.next i₀ ≡ partner j₅
  pub next-k₅ : m'.next (partner j₅) ≡ c
  pub next-a : m'.next a ≡ b
  pub next-b : m'.next b ≡ partner j₇
  pub next-k₇ : m'.next (partner j₇) ≡ a
  pub next-i₂ : m'.next i₂ ≡ j₇
  pub next-j₇ : m'.next j₇ ≡ j₅
  pub next-j₅ : m'.next j₅ ≡ i₂
  pub next-old : (t : ℕ) → m.is_h t → t ≢ b → t ≢ c → t ≢ r → m'.next t ≡ m.next t
  pub face-i₀ : m'.face i₀ ≡ m.face a
  pub face-k₅ : m'.face (partner j₅) ≡ m.face a
  pub face-a : m'.face a ≡ g
  pub face-b : m'.face b ≡ g
  pub face-k₇ : m'.face (partner j₇) ≡ g
  pub face-i₂ : m'.face i₂ ≡ g'
  pub face-j₇ : m'.face j₇ ≡ g'
  pub face-j₅ : m'.face j₅ ≡ g'
  pub face-p₂ : m'.face (partner i₂) ≡ m.face r
  pub face-p₀ : m'.face (partner i₀) ≡ m.face r
  pub face-old : (t : ℕ) → m.is_h t → t ≢ a → t ≢ b → m'.face t ≡ m.face t
  pub head-i₀ : m'.head i₀ ≡ va
  pub head-k₇ : m'.head (partner j₇) ≡ vb
  pub head-old : (t : ℕ) → m.is_h t → t ≢ r → m'.head t ≡ m.head t

module _ {m₀ m₁ m₂ m₃ : Mesh} {a b c r i₀ i₂ j₅ va vb g : ℕ} {M₃ : ℕ → Type 0} (s₀ : Shape m₀) (k₀ : Consistent m₀) (w : Rim m₀ a b c r)
    (d₁ : Halved m₀ m₁ a va i₀) (d₂ : Halved m₁ m₂ a vb i₂) (d₃ : InsertEdge m₂ m₃ i₀ b j₅ g M₃) where
  new₃ : (t : ℕ) → m₂.is_h t → (t ≢ j₅) × (t ≢ partner j₅)
  new₃ t i = ((λ e. d₃.c-new (subst m₂.is_h e i)), (λ e. d₃.k-new (subst m₂.is_h e i)))

  b-in : m₀.is_h b
  b-in = rim-b s₀ k₀ w

  pub rim-n₃-j₅ : m₃.next j₅ ≡ i₂
  rim-n₃-j₅ = d₃.next-c ∙ rim-n₂-i₀ s₀ k₀ w d₁ d₂

  pub rim-n₃-i₂ : m₃.next i₂ ≡ a
  rim-n₃-i₂ = d₃.next-old i₂ d₂.n-in (λ e. rim-i₀≢i₂ s₀ k₀ w d₁ d₂ (sym e)) (λ e. (rim-old₂ s₀ k₀ w d₁ d₂ b b-in).2 (sym e)) ∙ rim-n₂-i₂ s₀ k₀ w d₁ d₂

  pub rim-n₃-a : m₃.next a ≡ b
  rim-n₃-a = d₃.next-old a (rim-in₂ s₀ k₀ w d₁ d₂ a w.a_in) (rim-old₂ s₀ k₀ w d₁ d₂ a w.a_in).0 (rim-a≢b s₀ k₀ w) ∙ rim-n₂-a s₀ k₀ w d₁ d₂

  pub rim-f₃-b : m₃.face b ≡ g
  rim-f₃-b = d₃.face-part b d₃.part.last-in

  pub rim-j₅≢i₂ : j₅ ≢ i₂
  rim-j₅≢i₂ e = (new₃ i₂ d₂.n-in).0 (sym e)

  module _ {m₄ : Mesh} {j₇ g' : ℕ} {M₄ : ℕ → Type 0} (only₃ : (t : ℕ) → M₃ t → (t ≡ i₂) ⊎ ((t ≡ a) ⊎ (t ≡ b))) (in₃ : M₃ a)
      (d₄ : InsertEdge m₃ m₄ b i₂ j₇ g' M₄) (only₄ : (t : ℕ) → M₄ t → (t ≡ j₅) ⊎ (t ≡ i₂)) (in₄ : M₄ j₅) where
    a_in : m₀.is_h a
    a_in = w.a_in

    c-in : m₀.is_h c
    c-in = rim-c s₀ k₀ w

    in₂ : (t : ℕ) → m₀.is_h t → m₂.is_h t
    in₂ = rim-in₂ s₀ k₀ w d₁ d₂

    old₂ : (t : ℕ) → m₀.is_h t → (t ≢ i₀) × (t ≢ partner i₀) × (t ≢ i₂) × (t ≢ partner i₂)
    old₂ = rim-old₂ s₀ k₀ w d₁ d₂

    i₀-in : m₂.is_h i₀
    i₀-in = d₂.keep-H i₀ d₁.n-in

    p₀-in : m₂.is_h (partner i₀)
    p₀-in = d₂.keep-H (partner i₀) d₁.o-in

    to₃ : (t : ℕ) → m₂.is_h t → m₃.is_h t
    to₃ = d₃.keep-H

    i₀≢b : i₀ ≢ b
    i₀≢b e = (old₂ b b-in).0 (sym e)

    p₀≢b : partner i₀ ≢ b
    p₀≢b e = (old₂ b b-in).1 (sym e)

    p₂≢b : partner i₂ ≢ b
    p₂≢b e = (old₂ b b-in).3 (sym e)

    i₀≢i₂ : i₀ ≢ i₂
    i₀≢i₂ = rim-i₀≢i₂ s₀ k₀ w d₁ d₂

    -- next, where neither insert comes
    keeps₄ : (t : ℕ) → m₂.is_h t → t ≢ i₀ → t ≢ b → t ≢ i₂ → m₄.next t ≡ m₂.next t
    keeps₄ t i n₁ n₂ n₃ = d₄.next-old t (to₃ t i) n₂ n₃ ∙ d₃.next-old t i n₁ n₂

    -- faces, where neither paints
    out₃ : (t : ℕ) → t ≢ i₂ → t ≢ a → t ≢ b → ¬ M₃ t
    out₃ t n₁ n₂ n₃ z = go (only₃ t z)
      where
        go : (t ≡ i₂) ⊎ ((t ≡ a) ⊎ (t ≡ b)) → ⊥
        go (inl e) = n₁ e
        go (inr (inl e)) = n₂ e
        go (inr (inr e)) = n₃ e

    out₄ : (t : ℕ) → t ≢ j₅ → t ≢ i₂ → ¬ M₄ t
    out₄ t n₁ n₂ z = go (only₄ t z)
      where
        go : (t ≡ j₅) ⊎ (t ≡ i₂) → ⊥
        go (inl e) = n₁ e
        go (inr e) = n₂ e

    face₄ : (t : ℕ) → m₂.is_h t → t ≢ i₂ → t ≢ a → t ≢ b → m₄.face t ≡ m₂.face t
    face₄ t i n₁ n₂ n₃ = d₄.face-old t (to₃ t i) (out₄ t (new₃ t i).0 n₁) ∙ d₃.face-old t i (out₃ t n₁ n₂ n₃)

    -- a and b, which the second insert leaves
    face-ab : (t : ℕ) → m₀.is_h t → M₃ t → m₄.face t ≡ g
    face-ab t i p = d₄.face-old t (to₃ t (in₂ t i)) (out₄ t (new₃ t (in₂ t i)).0 (old₂ t i).2) ∙ d₃.face-part t p

    head₄ : (t : ℕ) → m₂.is_h t → m₄.head t ≡ m₂.head t
    head₄ t i = d₄.head-old t (to₃ t i) ∙ d₃.head-old t i

    k₅≢ : (t : ℕ) → m₂.is_h t → partner j₅ ≢ t
    k₅≢ t i e = (new₃ t i).1 (sym e)

    pub rim-fan : RimFan m₀ m₄ a b c r i₀ i₂ j₅ j₇ va vb g g'
    rim-fan = record {
      next-c = keeps₄ c (in₂ c c-in) (old₂ c c-in).0 (λ e. rim-b≢c s₀ k₀ w (sym e)) (old₂ c c-in).2 ∙ rim-n₂-c s₀ k₀ w d₁ d₂;
      next-i₀ = d₄.next-old i₀ (to₃ i₀ i₀-in) i₀≢b i₀≢i₂ ∙ d₃.next-w;
      next-k₅ = d₄.next-old (partner j₅) d₃.k-in (k₅≢ b (in₂ b b-in)) (k₅≢ i₂ d₂.n-in) ∙ d₃.next-k ∙ rim-n₂-b s₀ k₀ w d₁ d₂;
      next-a = keeps₄ a (in₂ a a_in) (old₂ a a_in).0 (rim-a≢b s₀ k₀ w) (old₂ a a_in).2 ∙ rim-n₂-a s₀ k₀ w d₁ d₂;
      next-b = d₄.next-w;
      next-k₇ = d₄.next-k ∙ rim-n₃-i₂;
      next-i₂ = d₄.next-y;
      next-j₇ = d₄.next-c ∙ d₃.next-y;
      next-j₅ = d₄.next-old j₅ d₃.c-in (λ e. (new₃ b (in₂ b b-in)).0 (sym e)) rim-j₅≢i₂ ∙ rim-n₃-j₅;
      next-old = λ t i n₁ n₂ n₃. keeps₄ t (in₂ t i) (old₂ t i).0 n₁ (old₂ t i).2 ∙ rim-n₂-old s₀ k₀ w d₁ d₂ t i n₂ n₃;
      face-i₀ = face₄ i₀ i₀-in i₀≢i₂ (λ e. (old₂ a a_in).0 (sym e)) i₀≢b ∙ rim-f₂-i₀ s₀ k₀ w d₁ d₂;
      face-k₅ = d₄.face-old (partner j₅) d₃.k-in (out₄ (partner j₅) (partner-ne j₅) (k₅≢ i₂ d₂.n-in)) ∙ d₃.face-k ∙ rim-f₂-i₀ s₀ k₀ w d₁ d₂;
      face-a = face-ab a a_in in₃;
      face-b = face-ab b b-in d₃.part.last-in;
      face-k₇ = d₄.face-k ∙ d₃.face-part b d₃.part.last-in;
      face-i₂ = d₄.face-part i₂ d₄.part.last-in;
      face-j₇ = d₄.face-c;
      face-j₅ = d₄.face-part j₅ in₄;
      face-p₂ = face₄ (partner i₂) d₂.o-in (partner-ne i₂) (λ e. (old₂ a a_in).3 (sym e)) p₂≢b ∙ rim-f₂-p₂ s₀ k₀ w d₁ d₂;
      face-p₀ = face₄ (partner i₀) p₀-in (rim-p₀≢i₂ s₀ k₀ w d₁ d₂) (λ e. (old₂ a a_in).1 (sym e)) p₀≢b ∙ rim-f₂-p₀ s₀ k₀ w d₁ d₂;
      face-old = λ t i n₁ n₂. face₄ t (in₂ t i) (old₂ t i).2 n₁ n₂ ∙ rim-f₂-old s₀ k₀ w d₁ d₂ t i;
      head-i₀ = head₄ i₀ i₀-in ∙ rim-h₂-i₀ s₀ k₀ w d₁ d₂;
      head-k₇ = d₄.head-k ∙ d₃.head-old i₂ d₂.n-in ∙ d₂.head-n;
      head-old = λ t i n. head₄ t (in₂ t i) ∙ rim-h₂-old s₀ k₀ w d₁ d₂ t i n;
    }

    -- a statement on all halfedges: at the old, and at the eight new
    pub rim-each : (P : ℕ → Type 0) → ((t : ℕ) → m₀.is_h t → P t) → P i₀ → P (partner i₀) → P i₂ → P (partner i₂) → P j₅ → P (partner j₅) → P j₇ → P (partner j₇)
        → (t : ℕ) → m₄.is_h t → P t
    rim-each P old p₀ q₀ p₂ q₂ p₅ q₅ p₇ q₇ t i = from₃ (d₄.H-is t i)
      where
        from₀ : m₀.is_h t ⊎ ((t ≡ i₀) ⊎ (t ≡ partner i₀)) → P t
        from₀ (inl j) = old t j
        from₀ (inr (inl e)) = subst⁻¹ P e p₀
        from₀ (inr (inr e)) = subst⁻¹ P e q₀

        from₁ : m₁.is_h t ⊎ ((t ≡ i₂) ⊎ (t ≡ partner i₂)) → P t
        from₁ (inl j) = from₀ (d₁.H-is t j)
        from₁ (inr (inl e)) = subst⁻¹ P e p₂
        from₁ (inr (inr e)) = subst⁻¹ P e q₂

        from₂ : m₂.is_h t ⊎ ((t ≡ j₅) ⊎ (t ≡ partner j₅)) → P t
        from₂ (inl j) = from₁ (d₂.H-is t j)
        from₂ (inr (inl e)) = subst⁻¹ P e p₅
        from₂ (inr (inr e)) = subst⁻¹ P e q₅

        from₃ : m₃.is_h t ⊎ ((t ≡ j₇) ⊎ (t ≡ partner j₇)) → P t
        from₃ (inl j) = from₂ (d₃.H-is t j)
        from₃ (inr (inl e)) = subst⁻¹ P e p₇
        from₃ (inr (inr e)) = subst⁻¹ P e q₇
