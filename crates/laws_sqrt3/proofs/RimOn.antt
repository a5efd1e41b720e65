-- A triangle with an edge on the rim opened around two new vertices on that edge (scope's `rim_face`). Assumes nothing.
use mathlib.Core.Path.{◌≡◌, refl, sym, ap, ◌∙◌, subst, subst⁻¹}
use mathlib.Core.Logic.{◌⊎◌, inl, inr, ◌≢◌}
use Prim.Native.Nat.{ℕ, zero, suc, ◌+◌, ◌*◌, ◌≤◌, ◌<◌}
use native.Mathlib.Omega.{arith}
use Rattle.scope.specs.Links.{Links, NONE, partner, face, head, next, prev, start}
use Rattle.scope.specs.Edits.{split_edge, cut_off}
use Rattle.scope.specs.Passes.{rim_face}
use Rattle.laws_mesh.specs.Reach.{iter}
use Rattle.laws_mesh.specs.Mesh.{Shape, Core, Consistent}
use Rattle.laws_mesh.specs.Of.{mesh, Good}
use Rattle.laws_mesh.proofs.Cycle.{split, Part}
use Rattle.laws_mesh.proofs.Loops.{good-shape}
use Rattle.laws_mesh.proofs.SplitLaws.{with-vertex, split-new, split-new-is, split-new-good}
use Rattle.laws_mesh.proofs.InsertEdge.{InsertEdge}
use Rattle.laws_mesh.proofs.InsertLaws.{Across, cut-off-is, cut-off-good, cut-off-counts, cut-off-start-old}
use Rattle.laws_triangulate.proofs.Triangular.{Triangular, tri-three, tri-back}
use Rattle.laws_sqrt3.proofs.Spread.{Opened}
use Rattle.laws_sqrt3.proofs.RimFan.{Rim, Halved, RimFan, rim-b-face, rim-c-face, rim-a≢b, rim-b≢c, rim-c≢a, rim-n₂-i₀, rim-n₂-i₂, rim-n₂-a, rim-n₂-b, rim-n₂-c, rim-f₂-i₀, rim-in₂, rim-old₂, rim-n₃-j₅, rim-n₃-i₂, rim-n₃-a, rim-f₃-b, rim-j₅≢i₂, rim-fan, rim-each}

-- a split by a new vertex, as it is for the halfedges
module _ (m : Links) (h : ℕ) (g : Good m) (hi : h < 2 * m.ne) (room-v : m.nv + 1 ≤ 1048576) (room_e : m.ne + 1 ≤ 1048576) where
  split-counts : ((split-new h m).nv ≡ m.nv + 1) × ((split-new h m).ne ≡ m.ne + 1) × ((split-new h m).nf ≡ m.nf)
  unfolding split_edge split-new
  split-counts = (omega arith, omega arith, omega arith)

  halved : Halved (mesh m) (mesh (split-new h m)) h m.nv (2 * m.ne)
  unfolding with-vertex
  halved =
      let d = split-new-is m h g hi room-v room_e in
      let up : (x : ℕ) → x < 2 * m.ne → x < 2 * (m.ne + 0) = λ x i. omega arith in
      let down : (x : ℕ) → x < 2 * (m.ne + 0) → x < 2 * m.ne = λ x i. omega arith in
      record {
        n-new = λ i. d.n-new (up _ i);
        o-new = λ i. d.o-new (up _ i);
        keep-H = λ x i. d.keep-H x (up x i);
        n-in = d.n-in;
        o-in = d.o-in;
        H-is = λ x i. from x (d.H-is x i);
        face-n = d.face-n;
        face-o = d.face-o;
        face-old = λ x i. d.face-old x (up x i);
        head-n = d.head-n;
        head-old = λ x i. d.head-old x (up x i);
        next-n = d.next-n;
        next-b = d.next-b;
        next-old = λ x i. d.next-old x (up x i);
        prev-h = d.prev-h;
      }
    where
      from : (x : ℕ) → (x < 2 * (m.ne + 0)) ⊎ ((x ≡ 2 * m.ne) ⊎ (x ≡ partner (2 * m.ne))) → (x < 2 * m.ne) ⊎ ((x ≡ 2 * m.ne) ⊎ (x ≡ partner (2 * m.ne)))
      from x (inl i) = inl (omega arith)
      from x (inr e) = inr e

module _ (m : Links) (g : Good m) (f a : ℕ) (T : Triangular (mesh m)) (a_in : a < 2 * m.ne) (f_in : f < m.nf) (a_face : face m a ≡ f) (across : face m (partner a) ≡ NONE)
    (v-lt : m.nv + 2 ≤ 1048576) (e-lt : m.ne + 4 ≤ 1048576) (f_lt : m.nf + 2 ≤ 1048576) where
  S : Shape (mesh m)
  S = good-shape m g

  K : Consistent (mesh m)
  K = g.consistent

  C : Core (mesh m)
  C = g.consistent.core

  abbrev b : ℕ
  b = next m a

  abbrev c : ℕ
  c = next m (next m a)

  abbrev r : ℕ
  r = partner a

  faced : face m a ≢ NONE
  faced z = S.F-none f f_in (sym a_face ∙ z)

  w : Rim (mesh m) a (next m a) (next m (next m a)) (partner a)
  w = record { a_in = a_in; ar = refl; ab = refl; bc = refl; ca = T.closes a a_in faced; faced = faced; rim = across }

  b-in : b < 2 * m.ne
  b-in = C.next_in a a_in

  c-in : c < 2 * m.ne
  c-in = C.next_in b b-in

  -- ---- two splits
  abbrev m₁ : Links
  m₁ = split-new a m

  abbrev m₂ : Links
  m₂ = split-new a (split-new a m)

  pub rim-good₁ : Good m₁
  rim-good₁ = split-new-good m a g a_in (omega arith) (omega arith)

  d₁ : Halved (mesh m) (mesh m₁) a m.nv (2 * m.ne)
  d₁ = halved m a g a_in (omega arith) (omega arith)

  pub rim-counts₁ : (m₁.nv ≡ m.nv + 1) × (m₁.ne ≡ m.ne + 1) × (m₁.nf ≡ m.nf)
  rim-counts₁ = split-counts m a g a_in (omega arith) (omega arith)

  pub rim-in₁ : a < 2 * m₁.ne
  rim-in₁ = d₁.keep-H a a_in

  pub rim-good₂ : Good m₂
  rim-good₂ = let (x, y, z) = rim-counts₁ in split-new-good m₁ a rim-good₁ rim-in₁ (omega arith) (omega arith)

  d₂ : Halved (mesh m₁) (mesh m₂) a m₁.nv (2 * m₁.ne)
  d₂ = let (x, y, z) = rim-counts₁ in halved m₁ a rim-good₁ rim-in₁ (omega arith) (omega arith)

  pub rim-counts₂ : (m₂.nv ≡ m.nv + 2) × (m₂.ne ≡ m.ne + 2) × (m₂.nf ≡ m.nf)
  rim-counts₂ =
      let (x, y, z) = rim-counts₁ in
      let (x', y', z') = split-counts m₁ a rim-good₁ rim-in₁ (omega arith) (omega arith) in
      (omega arith, omega arith, omega arith)

  C₂ : Core (mesh m₂)
  C₂ = rim-good₂.consistent.core

  abbrev i₀ : ℕ
  i₀ = 2 * m.ne

  abbrev i₂ : ℕ
  i₂ = 2 * (split-new a m).ne

  in₂ : (t : ℕ) → t < 2 * m.ne → t < 2 * m₂.ne
  in₂ = rim-in₂ S K w d₁ d₂

  i₀-in : i₀ < 2 * m₂.ne
  i₀-in = d₂.keep-H i₀ d₁.n-in

  before-i₀ : prev m₂ i₀ ≡ c
  before-i₀ = ap (prev m₂) (sym (rim-n₂-c S K w d₁ d₂)) ∙ C₂.prev_next c (in₂ c c-in)

  before-c : prev m₂ (prev m₂ i₀) ≡ b
  before-c = ap (prev m₂) (before-i₀ ∙ sym (rim-n₂-b S K w d₁ d₂)) ∙ C₂.prev_next b (in₂ b b-in)

  -- from the new halfedge before a: i₂, a, b
  s_0 : next m₂ i₀ ≡ i₂
  s_0 = rim-n₂-i₀ S K w d₁ d₂

  pub rim-second : next m₂ (next m₂ i₀) ≡ a
  rim-second = ap (next m₂) s_0 ∙ rim-n₂-i₂ S K w d₁ d₂

  s-2 : next m₂ (next m₂ (next m₂ i₀)) ≡ b
  s-2 = ap (next m₂) rim-second ∙ rim-n₂-a S K w d₁ d₂

  b≢i₂ : i₂ ≢ b
  b≢i₂ e = (rim-old₂ S K w d₁ d₂ b b-in).2 (sym e)

  -- ---- the first insert
  abbrev m₃ : Links
  m₃ = cut_off (2 * m.ne) (prev m₂ (2 * m.ne)) m₂

  pub rim-over₂ : Across m₂ i₀ (prev m₂ i₀) 2
  rim-over₂ = record {
    p-in = i₀-in;
    n-in = C₂.prev_in i₀ i₀-in;
    faced = λ z. faced (sym (rim-f₂-i₀ S K w d₁ d₂) ∙ z);
    apart = λ e. (rim-old₂ S K w d₁ d₂ b b-in).0 (sym (e ∙ before-c));
    meets = s-2 ∙ sym before-c;
    first = early;
  }
    where
      early : (i : ℕ) → i < 2 → iter (next m₂) i (next m₂ i₀) ≢ prev m₂ (prev m₂ i₀)
      early zero l e = b≢i₂ (sym s_0 ∙ e ∙ before-c)
      early (suc zero) l e = rim-a≢b S K w (sym rim-second ∙ e ∙ before-c)
      early (suc (suc i)) l e = absurd (let q : suc (suc i) < 2 = l in omega arith)

  M₃ : ℕ → Type 0
  M₃ = Part (next m₂) (next m₂ i₀) 2

  d₃ : InsertEdge (mesh m₂) (mesh m₃) i₀ b (2 * m₂.ne + 1) m₂.nf M₃
  unfolding M₃
  d₃ = let (x, y, z) = rim-counts₂ in
      subst (λ (y : ℕ). InsertEdge (mesh m₂) (mesh m₃) i₀ y (2 * m₂.ne + 1) m₂.nf (Part (next m₂) (next m₂ i₀) 2)) before-c (cut-off-is m₂ rim-good₂ i₀ (prev m₂ i₀) 2 rim-over₂ (omega arith) (omega arith))

  pub rim-good₃ : Good m₃
  rim-good₃ = let (x, y, z) = rim-counts₂ in cut-off-good m₂ rim-good₂ i₀ (prev m₂ i₀) 2 rim-over₂ (omega arith) (omega arith) (λ e. b≢i₂ (sym s_0 ∙ e ∙ before-c)) (λ e. (rim-old₂ S K w d₁ d₂ c c-in).0 (sym before-i₀ ∙ e))

  pub rim-counts₃ : (m₃.nv ≡ m.nv + 2) × (m₃.ne ≡ m.ne + 3) × (m₃.nf ≡ m.nf + 1)
  rim-counts₃ =
      let (x, y, z) = rim-counts₂ in
      let (x', y', z') = cut-off-counts m₂ rim-good₂ i₀ (prev m₂ i₀) 2 rim-over₂ (omega arith) (omega arith) in
      (omega arith, omega arith, omega arith)

  only₃ : (t : ℕ) → M₃ t → (t ≡ i₂) ⊎ ((t ≡ a) ⊎ (t ≡ b))
  unfolding Part M₃
  only₃ t (zero, l, e) = inl (sym e ∙ s_0)
  only₃ t (suc zero, l, e) = inr (inl (sym e ∙ rim-second))
  only₃ t (suc (suc zero), l, e) = inr (inr (sym e ∙ s-2))
  only₃ t (suc (suc (suc j)), l, e) = absurd (let z : suc (suc (suc j)) ≤ 2 = l in omega arith)

  in₃ : M₃ a
  unfolding Part M₃
  in₃ = (1, omega arith, rim-second)

  -- ---- the second
  abbrev j₅ : ℕ
  j₅ = 2 * (split-new a (split-new a m)).ne + 1

  C₃ : Core (mesh m₃)
  C₃ = rim-good₃.consistent.core

  n₃-a : next m₃ a ≡ b
  n₃-a = rim-n₃-a S K w d₁ d₂ d₃

  before-a : prev m₃ a ≡ i₂
  before-a = ap (prev m₃) (sym (rim-n₃-i₂ S K w d₁ d₂ d₃)) ∙ C₃.prev_next i₂ (d₃.keep-H i₂ d₂.n-in)

  a-in₃ : a < 2 * m₃.ne
  a-in₃ = d₃.keep-H a (in₂ a a_in)

  t-0 : next m₃ b ≡ j₅
  t-0 = d₃.next-y

  t-1 : next m₃ (next m₃ b) ≡ i₂
  t-1 = ap (next m₃) t-0 ∙ rim-n₃-j₅ S K w d₁ d₂ d₃

  j₅≢i₂ : j₅ ≢ i₂
  j₅≢i₂ = rim-j₅≢i₂ S K w d₁ d₂ d₃

  abbrev m₄ : Links
  m₄ = cut_off (next m₃ a) a m₃

  pub rim-over₃ : Across m₃ (next m₃ a) a 1
  rim-over₃ = record {
    p-in = C₃.next_in a a-in₃;
    n-in = a-in₃;
    faced = λ z. (good-shape m₃ rim-good₃).F-none m₂.nf (let (x, y, z) = rim-counts₃ in let (x', y', z') = rim-counts₂ in omega arith) (sym (rim-f₃-b S K w d₁ d₂ d₃) ∙ ap (face m₃) (sym n₃-a) ∙ z);
    apart = λ e. b≢i₂ (sym (sym n₃-a ∙ e ∙ before-a));
    meets = ap (λ (t : ℕ). next m₃ (next m₃ t)) n₃-a ∙ t-1 ∙ sym before-a;
    first = early;
  }
    where
      early : (i : ℕ) → i < 1 → iter (next m₃) i (next m₃ (next m₃ a)) ≢ prev m₃ a
      early zero l e = j₅≢i₂ (sym t-0 ∙ ap (next m₃) (sym n₃-a) ∙ e ∙ before-a)
      early (suc i) l e = absurd (let q : suc i < 1 = l in omega arith)

  M₄ : ℕ → Type 0
  M₄ = Part (next m₃) (next m₃ b) 1

  d₄ : InsertEdge (mesh m₃) (mesh m₄) b i₂ (2 * m₃.ne + 1) m₃.nf M₄
  unfolding M₄
  d₄ = let (x, y, z) = rim-counts₃ in
      subst (λ (p : ℕ). InsertEdge (mesh m₃) (mesh m₄) p i₂ (2 * m₃.ne + 1) m₃.nf (Part (next m₃) (next m₃ p) 1)) n₃-a
      (subst (λ (y : ℕ). InsertEdge (mesh m₃) (mesh m₄) (next m₃ a) y (2 * m₃.ne + 1) m₃.nf (Part (next m₃) (next m₃ (next m₃ a)) 1)) before-a (cut-off-is m₃ rim-good₃ (next m₃ a) a 1 rim-over₃ (omega arith) (omega arith)))

  g₄ : Good m₄
  g₄ = let (x, y, z) = rim-counts₃ in cut-off-good m₃ rim-good₃ (next m₃ a) a 1 rim-over₃ (omega arith) (omega arith) (λ e. j₅≢i₂ (sym t-0 ∙ ap (next m₃) (sym n₃-a) ∙ e ∙ before-a)) (λ e. rim-a≢b S K w (e ∙ n₃-a))

  n₄ : (m₄.nv ≡ m.nv + 2) × (m₄.ne ≡ m.ne + 4) × (m₄.nf ≡ m.nf + 2)
  n₄ =
      let (x, y, z) = rim-counts₃ in
      let (x', y', z') = cut-off-counts m₃ rim-good₃ (next m₃ a) a 1 rim-over₃ (omega arith) (omega arith) in
      (omega arith, omega arith, omega arith)

  only₄ : (t : ℕ) → M₄ t → (t ≡ j₅) ⊎ (t ≡ i₂)
  unfolding Part M₄
  only₄ t (zero, l, e) = inl (sym e ∙ t-0)
  only₄ t (suc zero, l, e) = inr (sym e ∙ t-1)
  only₄ t (suc (suc j), l, e) = absurd (let z : suc (suc j) ≤ 1 = l in omega arith)

  in₄ : M₄ j₅
  unfolding Part M₄
  in₄ = (0, omega arith, t-0)

  abbrev j₇ : ℕ
  j₇ = 2 * (cut_off (2 * m.ne) (prev m₂ (2 * m.ne)) m₂).ne + 1

  x : RimFan (mesh m) (mesh m₄) a b c r i₀ i₂ j₅ j₇ m.nv m₁.nv m₂.nf m₃.nf
  x = rim-fan S K w d₁ d₂ d₃ only₃ in₃ d₄ only₄ in₄

  each : (P : ℕ → Type 0) → ((t : ℕ) → t < 2 * m.ne → P t) → P i₀ → P (partner i₀) → P i₂ → P (partner i₂) → P j₅ → P (partner j₅) → P j₇ → P (partner j₇) → (t : ℕ) → t < 2 * m₄.ne → P t
  each = rim-each S K w d₁ d₂ d₃ only₃ in₃ d₄ only₄ in₄

  -- ---- the step
  is : rim_face a m ≡ m₄
  unfolding rim_face split-new
  is = refl

  b-face : face m b ≡ f
  b-face = rim-b-face S K w ∙ a_face

  c-face : face m c ≡ f
  c-face = rim-c-face S K w ∙ a_face

  mine : (u : ℕ) → u < 2 * m.ne → face m u ≡ f → (u ≡ a) ⊎ ((u ≡ b) ⊎ (u ≡ c))
  mine u i e = go (tri-three S K T a u a_in i faced (e ∙ sym a_face))
    where
      go : (u ≡ a) ⊎ ((u ≡ next m a) ⊎ (u ≡ prev m a)) → (u ≡ a) ⊎ ((u ≡ b) ⊎ (u ≡ c))
      go (inl z) = inl z
      go (inr (inl z)) = inr (inl z)
      go (inr (inr z)) = inr (inr (z ∙ sym (tri-back S K T a a_in faced)))

  off : (u : ℕ) → face m u ≢ f → (u ≢ a) × (u ≢ b) × (u ≢ c)
  off u e = ((λ z. e (ap (face m) z ∙ a_face)), (λ z. e (ap (face m) z ∙ b-face)), (λ z. e (ap (face m) z ∙ c-face)))

  off-r : (u : ℕ) → face m u ≢ NONE → u ≢ r
  off-r u e z = e (ap (face m) z ∙ across)

  tri₄ : Triangular (mesh m₄)
  tri₄ = record {
    closes = each (λ (u : ℕ). face m₄ u ≢ NONE → next m₄ (next m₄ (next m₄ u)) ≡ u) old
        (λ y. cc (x.next-i₀, x.next-k₅, x.next-c)) (λ y. absurd (y (x.face-p₀ ∙ across))) (λ y. cc (x.next-i₂, x.next-j₇, x.next-j₅)) (λ y. absurd (y (x.face-p₂ ∙ across)))
        (λ y. cc (x.next-i₂, x.next-j₇, x.next-j₅)) (λ y. cc (x.next-i₀, x.next-k₅, x.next-c)) (λ y. cc (x.next-i₂, x.next-j₇, x.next-j₅)) (λ y. cc (x.next-a, x.next-b, x.next-k₇));
  }
    where
      old : (u : ℕ) → u < 2 * m.ne → face m₄ u ≢ NONE → next m₄ (next m₄ (next m₄ u)) ≡ u
      old u z ne = split u a (λ e. cc (x.next-a, x.next-b, x.next-k₇)) (λ ua. split u b (λ e. cc (x.next-a, x.next-b, x.next-k₇)) (λ ub.
          split u c (λ e. cc (x.next-i₀, x.next-k₅, x.next-c)) (λ uc.
          let uf : face m u ≢ f = λ e. out ua ub uc (mine u z e) in
          let un : face m u ≢ NONE = λ e. ne (x.face-old u z ua ub ∙ e) in
          let z₁ = C.next_in u z in
          let f₁ = C.next_face u z in
          let o₁ = off (next m u) (λ e. uf (sym f₁ ∙ e)) in
          let z₂ = C.next_in (next m u) z₁ in
          let f₂ = C.next_face (next m u) z₁ ∙ f₁ in
          let o₂ = off (next m (next m u)) (λ e. uf (sym f₂ ∙ e)) in
          cc (
            x.next-old u z ub uc (off-r u un),
            x.next-old (next m u) z₁ o₁.1 o₁.2 (off-r (next m u) (λ e. un (sym f₁ ∙ e))),
            x.next-old (next m (next m u)) z₂ o₂.1 o₂.2 (off-r (next m (next m u)) (λ e. un (sym f₂ ∙ e))),
            T.closes u z un,
          ))))
        where
          out : u ≢ a → u ≢ b → u ≢ c → (u ≡ a) ⊎ ((u ≡ b) ⊎ (u ≡ c)) → ⊥
          out p₁ p₂ p₃ (inl e) = p₁ e
          out p₁ p₂ p₃ (inr (inl e)) = p₂ e
          out p₁ p₂ p₃ (inr (inr e)) = p₃ e

  -- both halves have faces
  abbrev Two : ℕ → Type 0
  Two u = (face m u ≢ NONE) × (face m (partner u) ≢ NONE)

  -- the other faces start where they did
  start₂ : (h : ℕ) → start m₂ h ≡ start m h
  unfolding split_edge split-new
  start₂ h = refl

  starts : (h : ℕ) → h < m.nf → h ≢ f → start m₄ h ≡ start m h
  starts h i e =
      let (x₂, y₂, z₂) = rim-counts₂ in
      let (x₃, y₃, z₃) = rim-counts₃ in
      cut-off-start-old m₃ rim-good₃ (next m₃ a) a 1 rim-over₃ (omega arith) (omega arith) h (omega arith)
      (λ q. (let w : face m₃ (next m₃ a) ≡ m₂.nf = ap (face m₃) n₃-a ∙ rim-f₃-b S K w d₁ d₂ d₃ in omega arith))
      ∙ cut-off-start-old m₂ rim-good₂ i₀ (prev m₂ i₀) 2 rim-over₂ (omega arith) (omega arith) h (omega arith) (λ q. e (q ∙ rim-f₂-i₀ S K w d₁ d₂ ∙ a_face))
      ∙ start₂ h

  opened : Opened m m₄ f Two
  opened = let (nv_is, ne_is, nf_is) = n₄ in record {
    good = g₄;
    tri = tri₄;
    nv-lo = omega arith;
    ne-lo = omega arith;
    nf_is = nf_is;
    off-face = λ u i e. x.face-old u i (off u e).0 (off u e).1;
    off_next = λ u i e ne. x.next-old u i (off u e).1 (off u e).2 (off-r u ne);
    head_is = λ u i e. x.head-old u i (off-r u (kept u e));
    off-start = λ h i e. starts h i e;
    mine = λ u i e. to-face u (mine u i e);
    tip = λ u i e q. to-tip u e.1 (mine u i q);
    new = each (λ (u : ℕ). 2 * m.ne ≤ u → (face m₄ u ≡ NONE) ⊎ ((face m₄ u ≡ f) ⊎ (m.nf ≤ face m₄ u))) (λ u i l. absurd (omega arith))
        (λ l. inr (inl (x.face-i₀ ∙ a_face))) (λ l. inl (x.face-p₀ ∙ across)) (λ l. inr (inr (hi x.face-i₂ lo₃))) (λ l. inl (x.face-p₂ ∙ across))
        (λ l. inr (inr (hi x.face-j₅ lo₃))) (λ l. inr (inl (x.face-k₅ ∙ a_face))) (λ l. inr (inr (hi x.face-j₇ lo₃))) (λ l. inr (inr (hi x.face-k₇ lo₂)));
  }
    where
      kept : (u : ℕ) → Two u ⊎ (face m u ≢ NONE) → face m u ≢ NONE
      kept u (inl p) = p.0
      kept u (inr p) = p

      lo₂ : m.nf ≤ m₂.nf
      lo₂ = let (x, y, z) = rim-counts₂ in omega arith

      lo₃ : m.nf ≤ m₃.nf
      lo₃ = let (x, y, z) = rim-counts₃ in omega arith

      hi : {y z : ℕ} → y ≡ z → m.nf ≤ z → m.nf ≤ y
      hi e l = subst⁻¹ (λ (v : ℕ). m.nf ≤ v) e l

      few : m₂.nf ≢ NONE
      few e = let (x, y, z) = rim-counts₂ in omega arith

      to-face : (u : ℕ) → (u ≡ a) ⊎ ((u ≡ b) ⊎ (u ≡ c)) → (face m₄ u ≡ f) ⊎ ((m.nf ≤ face m₄ u) × (face m₄ u ≢ NONE))
      to-face u (inl z) = let e = ap (face m₄) z ∙ x.face-a in inr (hi e lo₂, λ p. few (sym e ∙ p))
      to-face u (inr (inl z)) = let e = ap (face m₄) z ∙ x.face-b in inr (hi e lo₂, λ p. few (sym e ∙ p))
      to-face u (inr (inr z)) = inl (ap (face m₄) z ∙ x.face-old c c-in (rim-c≢a S K w) (λ z. rim-b≢c S K w (sym z)) ∙ c-face)

      at-v : (u y v : ℕ) → next m₄ u ≡ y → head m₄ y ≡ v → m.nv ≤ v → m.nv ≤ head m₄ (next m₄ u)
      at-v u y v e h l = let z : head m₄ (next m₄ u) ≡ v = ap (head m₄) e ∙ h in omega arith

      to-tip : (u : ℕ) → face m (partner u) ≢ NONE → (u ≡ a) ⊎ ((u ≡ b) ⊎ (u ≡ c)) → m.nv ≤ head m₄ (next m₄ u)
      to-tip u p (inl z) = absurd (p (ap (λ (t : ℕ). face m (partner t)) z ∙ across))
      to-tip u p (inr (inl z)) = at-v u _ _ (ap (next m₄) z ∙ x.next-b) x.head-k₇ (let (x, y, z) = rim-counts₁ in omega arith)
      to-tip u p (inr (inr z)) = at-v u _ _ (ap (next m₄) z ∙ x.next-c) x.head-i₀ (omega arith)

  pub rim-opened : Opened m (rim_face a m) f (λ u. (face m u ≢ NONE) × (face m (partner u) ≢ NONE))
  rim-opened = subst⁻¹ (λ (n : Links). Opened m n f (λ u. (face m u ≢ NONE) × (face m (partner u) ≢ NONE))) is opened

  pub rim-counts : ((rim_face a m).nv ≡ m.nv + 2) × ((rim_face a m).ne ≡ m.ne + 4)
  rim-counts = let (x, y, z) = n₄ in subst⁻¹ (λ (n : Links). (n.nv ≡ m.nv + 2) × (n.ne ≡ m.ne + 4)) is (x, y)
