-- A face of six in slices that hold a good mesh: after each of its three cuts they hold the mesh after scope's. Assumes nothing.
use Prim.Native.Nat.{ℕ, zero, suc, ◌+◌, ◌*◌, ◌≤◌, ◌<◌}
use mathlib.Core.Path.{◌≡◌, refl, sym, ap, ◌∙◌, subst, subst⁻¹}
use mathlib.Core.Logic.{◌≢◌, ◌⊎◌, inl, inr}
use mathlib.Core.Bool.{Bool, true, false}
use mathlib.Core.List.{List, [], ◌∷◌}
use native.Mathlib.Omega.{arith}
use lib.Dec.{T, eqb, ltb}
use lib.ListN.{length, set}
use Rattle.scope.specs.Lists.{put, lay, if, has}
use Rattle.scope.specs.Links.{Links, NONE, face, head, next, prev, start, loop, face_is}
use Rattle.scope.specs.Edits.{joined, paint, cut_off}
use Rattle.laws_mesh.specs.Reach.{iter}
use Rattle.laws_mesh.specs.Mesh.{Core}
use Rattle.laws_mesh.specs.Of.{mesh, Good}
use Rattle.laws_mesh.proofs.Cycle.{Part, if-eq, if-ne}
use Rattle.laws_mesh.proofs.Count.{Length}
use Rattle.laws_mesh.proofs.Loops.{steps, loop-cycle}
use Rattle.laws_mesh.proofs.Paint.{has_here, has_there, has-cases, if-has, if-not}
use Rattle.laws_mesh.proofs.InsertEdge.{InsertEdge}
use Rattle.laws_mesh.proofs.InsertLaws.{Across, cut-off-is, cut-off-start-new}
use Rattle.laws_mesh.proofs.FromOld.{first-old}
use Rattle.laws_loop.proofs.Cut.{across, cut-walk, cut-rest-length}
use Rattle.laws_loop.proofs.Face as six
use Rattle.mesh.proofs.SliceLaws.{set-lay, length-lay}
use Rattle.links_edits.specs.declared.cut.Gap.{Gap}
use Rattle.links_edits.specs.Cut.{painted, divided, cut_three}
use Rattle.links_edits.proofs.StoreLaws.{put-put, put-swap}
use Rattle.links_edits.proofs.GapLaws.{Gapped, divided-laid, part-steps, cut-edges, cut-faces, three-part, cut-off-laid}
use Rattle.links_loop.specs.declared.corners.Six.{Six}
use Rattle.links_loop.specs.Corners.{third, cornered, named, SixOk}
use Rattle.links_loop.proofs.AlikeLaws.{whole₂, corners-same}

-- ---- a part of any length
-- all of hs are below n
abbrev Under : ℕ → List ℕ → Type 0
Under n [] = Unit {0}
Under n (h ∷ hs) = (h < n) × Under n hs

painted-laid : (hs : List ℕ) (g n : ℕ) (m : Links) (old : List ℕ) → 4 * n ≤ length old → Under n hs → painted (lay 0 m.edges old) g hs ≡ lay 0 (paint g hs m).edges old
unfolding painted paint
painted-laid [] g n m old b u = refl
painted-laid (h ∷ hs) g n m old b (i, u) =
    ap (λ (l : List ℕ). painted l g hs) (set-lay m.edges old (4 * h) g (omega arith)) ∙ painted-laid hs g n (face_is h g m) old b u

cut-laid : (t : Links) (c : Core (mesh t)) (x : Gap) → Gapped t x → t.ne + 1 ≤ 1048576 → (part : List ℕ) → loop (joined x.p x.n t) (2 * t.ne + 1) ≡ part → Under (2 * t.ne + 2) part
    → (edges : List ℕ) → 8 * (t.ne + 1) ≤ length edges → painted (divided (lay 0 t.edges edges) t.ne x) t.nf part ≡ lay 0 (cut_off x.p x.n t).edges edges
cut-laid t c x q few part e u edges long =
    ap (λ (l : List ℕ). painted l t.nf part) (divided-laid t c x q (omega arith) edges long)
    ∙ painted-laid part t.nf (2 * t.ne + 2) (joined x.p x.n t) edges (omega arith) u
    ∙ ap (λ (l : List ℕ). lay 0 l edges) (sym (cut-edges t x.p x.n part e))

-- where faces start after a cut across the one that was made last: y, which starts at a half k of the part that is cut off
renamed : (m : Links) (p n y k : ℕ) (part l : List ℕ) → loop (joined p n m) (2 * m.ne + 1) ≡ part → face m p ≡ y → start m y ≡ k → T (has k part) → m.faces ≡ put l y k → m.nf ≢ y
    → (cut_off p n m).faces ≡ put (put l y (2 * m.ne)) m.nf (2 * m.ne + 1)
renamed m p n y k part l e a b h q ne =
    let u = 2 * m.ne in
    cut-faces m p n part e
    ∙ ap (λ (y : ℕ). put (put m.faces m.nf (u + 1)) y (if (has (start m y) part) u (start m y))) a
    ∙ ap (λ (z : ℕ). put (put m.faces m.nf (u + 1)) y z) (if-has (has (start m y) part) u (start m y) (subst⁻¹ (λ (k : ℕ). T (has k part)) b h))
    ∙ put-swap m.faces m.nf y (u + 1) u ne
    ∙ ap (λ (r : List ℕ). put (put r y u) m.nf (u + 1)) q
    ∙ ap (λ (r : List ℕ). put r m.nf (u + 1)) (put-put l y k u)

-- ---- a face of six, from x
module _ (t : Links) (f x : ℕ) (g : Good t) (x_in : x < 2 * t.ne) (x-face : face t x ≡ f) (f-some : f ≢ NONE) (f_in : f < t.nf) (len : Length (next t) x 6)
    (room_e : t.ne + 3 ≤ 1048576) (room_f : t.nf + 3 ≤ 1048576) where
  abbrev at : ℕ → ℕ
  at i = iter (next t) i x

  abbrev m₁ : Links
  m₁ = cut_off (at 1) (at 0) t

  abbrev m₂ : Links
  m₂ = cut_off (at 3) (at 2) m₁

  abbrev n₂ : Links
  n₂ = cut_off (next m₁ (at 2)) (at 2) m₁

  abbrev k₀ : ℕ
  k₀ = 2 * t.ne + 1

  abbrev k₁ : ℕ
  k₁ = 2 * m₁.ne + 1

  c : Core (mesh t)
  c = g.consistent.core

  pub at_in : (i : ℕ) → iter (next t) i x < 2 * t.ne
  at_in zero = x_in
  at_in (suc i) = c.next_in _ (at_in i)

  last : prev t x ≡ at 5
  last = ap (prev t) (sym len.closes) ∙ c.prev_next (at 5) (at_in 5)

  x-faced : face t x ≢ NONE
  x-faced e = f-some (sym x-face ∙ e)

  few-e₁ : t.ne + 1 ≤ 1048576
  few-e₁ = omega arith

  few-f₁ : t.nf + 1 ≤ 1048576
  few-f₁ = omega arith

  -- ---- the first corner
  a₁ : Across t (at 1) x 3
  a₁ = across t g x 3 x_in x-faced len (omega arith) few-e₁ few-f₁

  d₁ : InsertEdge (mesh t) (mesh m₁) (at 1) (prev t x) k₀ t.nf (Part (next t) (at 2) 3)
  d₁ = cut-off-is t g (at 1) x 3 a₁ few-e₁ few-f₁

  counts₁ : (m₁.nv ≡ t.nv) × (m₁.ne ≡ t.ne + 1) × (m₁.nf ≡ t.nf + 1)
  counts₁ = six.counts₁ t f x g x_in x-face f-some f_in len room_e room_f

  good₁ : Good m₁
  good₁ = six.good₁ t f x g x_in x-face f-some f_in len room_e room_f

  c₁ : Core (mesh m₁)
  c₁ = good₁.consistent.core

  walk₁ : (i : ℕ) → i ≤ 3 → iter (next m₁) i (at 2) ≡ iter (next t) i (at 2)
  walk₁ = six.walk₁ t f x g x_in x-face f-some f_in len room_e room_f

  gapped₁ : Gapped t (record { p = at 1; n = x; a = at 2; b = at 5; f = f })
  gapped₁ = record { p-in = at_in 1; n-in = x_in; a-is = refl; b-is = sym last; f-is = sym x-face ∙ sym (c.next_face x x_in) }

  start₁ : start m₁ t.nf ≡ k₀
  start₁ = cut-off-start-new t g (at 1) x 3 a₁ few-e₁ few-f₁

  part₁ : loop (joined (at 1) x t) k₀ ≡ k₀ ∷ at 2 ∷ at 3 ∷ at 4 ∷ at 5 ∷ []
  unfolding steps
  part₁ =
      let nx = next m₁ in
      let l = loop-cycle m₁ good₁ (start m₁ t.nf) (c₁.start_in t.nf (let (_, _, b) = counts₁ in omega arith)) in
      let l₅ : Length (next m₁) k₀ 5 = subst (λ (y : ℕ). Length (next m₁) y 5) start₁ (subst (Length (next m₁) (start m₁ t.nf)) (cut-rest-length t g x 3 x_in x-faced len (omega arith) few-e₁ few-f₁) l) in
      part-steps t (at 1) x good₁ 5 d₁.c-in l₅
      ∙ ap {B = List ℕ} (λ (y : ℕ). k₀ ∷ y ∷ nx y ∷ nx (nx y) ∷ nx (nx (nx y)) ∷ []) d₁.next-c
      ∙ ap {B = List ℕ} (λ (y : ℕ). k₀ ∷ at 2 ∷ y ∷ nx (nx (at 2)) ∷ nx (nx (nx (at 2))) ∷ []) (walk₁ 1 (omega arith))
      ∙ ap {B = List ℕ} (λ (y : ℕ). k₀ ∷ at 2 ∷ at 3 ∷ y ∷ nx (nx (nx (at 2))) ∷ []) (walk₁ 2 (omega arith))
      ∙ ap {B = List ℕ} (λ (y : ℕ). k₀ ∷ at 2 ∷ at 3 ∷ at 4 ∷ y ∷ []) (walk₁ 3 (omega arith))

  under₁ : Under (2 * t.ne + 2) (k₀ ∷ at 2 ∷ at 3 ∷ at 4 ∷ at 5 ∷ [])
  under₁ =
      let up : (y : ℕ) → y < 2 * t.ne → y < 2 * t.ne + 2 = λ y i. omega arith in
      (omega arith, (up _ (at_in 2), (up _ (at_in 3), (up _ (at_in 4), (up _ (at_in 5), tt)))))

  -- ---- the second
  few-e₂ : m₁.ne + 1 ≤ 1048576
  few-e₂ = let (a, b, c) = counts₁ in omega arith

  few-f₂ : m₁.nf + 1 ≤ 1048576
  few-f₂ = let (a, b, c) = counts₁ in omega arith

  in₁ : at 2 < 2 * m₁.ne
  in₁ = d₁.keep-H (at 2) (at_in 2)

  face₁ : face m₁ (at 2) ≡ t.nf
  face₁ = six.face₁ t f x g x_in x-face f-some f_in len room_e room_f

  faced₁ : face m₁ (at 2) ≢ NONE
  faced₁ = six.faced₁ t f x g x_in x-face f-some f_in len room_e room_f

  len₁ : Length (next m₁) (at 2) 5
  len₁ = six.len₁ t f x g x_in x-face f-some f_in len room_e room_f

  on₃ : next m₁ (at 2) ≡ at 3
  on₃ = walk₁ 1 (omega arith)

  on₄ : next m₁ (at 3) ≡ at 4
  on₄ = ap (next m₁) (sym on₃) ∙ walk₁ 2 (omega arith)

  on₅ : next m₁ (at 4) ≡ at 5
  on₅ = ap (next m₁) (sym (walk₁ 2 (omega arith))) ∙ walk₁ 3 (omega arith)

  on₆ : next m₁ (at 5) ≡ k₀
  on₆ = ap (next m₁) (sym last) ∙ d₁.next-y

  face₃ : face m₁ (at 3) ≡ t.nf
  face₃ = ap (face m₁) (sym on₃) ∙ c₁.next_face (at 2) in₁ ∙ face₁

  a₂ : Across m₁ (at 3) (at 2) 2
  a₂ = subst (λ (y : ℕ). Across m₁ y (at 2) 2) on₃ (across m₁ good₁ (at 2) 2 in₁ faced₁ len₁ (omega arith) few-e₂ few-f₂)

  is₂ : m₂ ≡ n₂
  is₂ = six.is₂ t f x g x_in x-face f-some f_in len room_e room_f

  good₂ : Good m₂
  good₂ = subst⁻¹ Good is₂ (six.good₂ t f x g x_in x-face f-some f_in len room_e room_f)

  c₂ : Core (mesh m₂)
  c₂ = good₂.consistent.core

  counts₂ : (m₂.nv ≡ m₁.nv) × (m₂.ne ≡ m₁.ne + 1) × (m₂.nf ≡ m₁.nf + 1)
  counts₂ = subst⁻¹ (λ (l : Links). (l.nv ≡ m₁.nv) × (l.ne ≡ m₁.ne + 1) × (l.nf ≡ m₁.nf + 1)) is₂ (six.counts₂ t f x g x_in x-face f-some f_in len room_e room_f)

  d₂ : InsertEdge (mesh m₁) (mesh m₂) (at 3) (prev m₁ (at 2)) k₁ m₁.nf (Part (next m₁) (next m₁ (at 3)) 2)
  d₂ = cut-off-is m₁ good₁ (at 3) (at 2) 2 a₂ few-e₂ few-f₂

  gapped₂ : Gapped m₁ (record { p = at 3; n = at 2; a = at 4; b = k₀; f = t.nf })
  gapped₂ = record { p-in = d₁.keep-H (at 3) (at_in 3); n-in = in₁; a-is = sym on₄; b-is = sym d₁.prev-x; f-is = sym face₃ }

  start₂ : start m₂ m₁.nf ≡ k₁
  start₂ = cut-off-start-new m₁ good₁ (at 3) (at 2) 2 a₂ few-e₂ few-f₂

  next₄ : next m₂ k₁ ≡ at 4
  next₄ = d₂.next-c ∙ on₄

  next₅ : next m₂ (at 4) ≡ at 5
  next₅ = subst⁻¹ (λ (l : Links). next l (at 4) ≡ at 5) is₂ (six.next₂ t f x g x_in x-face f-some f_in len room_e room_f)

  next₆ : next m₂ (at 5) ≡ k₀
  next₆ =
      let w : next n₂ (next n₂ (at 4)) ≡ next m₁ (next m₁ (at 4)) =
      subst (λ (y : ℕ). next n₂ (next n₂ y) ≡ next m₁ (next m₁ y)) (walk₁ 2 (omega arith)) (cut-walk m₁ good₁ (at 2) 2 in₁ faced₁ len₁ (omega arith) few-e₂ few-f₂ 2 (omega arith)) in
      let v : next m₂ (next m₂ (at 4)) ≡ next m₁ (next m₁ (at 4)) = subst⁻¹ (λ (l : Links). next l (next l (at 4)) ≡ next m₁ (next m₁ (at 4))) is₂ w in
      ap (next m₂) (sym next₅) ∙ v ∙ ap (next m₁) on₅ ∙ on₆

  part₂ : loop (joined (at 3) (at 2) m₁) k₁ ≡ k₁ ∷ at 4 ∷ at 5 ∷ k₀ ∷ []
  unfolding steps
  part₂ =
      let nx = next m₂ in
      let l = loop-cycle m₂ good₂ (start m₂ m₁.nf) (c₂.start_in m₁.nf (let (_, _, b) = counts₂ in omega arith)) in
      let r : length (loop m₂ (start m₂ m₁.nf)) ≡ 4 =
      subst⁻¹ (λ (l : Links). length (loop l (start l m₁.nf)) ≡ 4) is₂ (cut-rest-length m₁ good₁ (at 2) 2 in₁ faced₁ len₁ (omega arith) few-e₂ few-f₂) in
      let l₄ : Length (next m₂) k₁ 4 = subst (λ (y : ℕ). Length (next m₂) y 4) start₂ (subst (Length (next m₂) (start m₂ m₁.nf)) r l) in
      part-steps m₁ (at 3) (at 2) good₂ 4 d₂.c-in l₄
      ∙ ap {B = List ℕ} (λ (y : ℕ). k₁ ∷ y ∷ nx y ∷ nx (nx y) ∷ []) next₄
      ∙ ap {B = List ℕ} (λ (y : ℕ). k₁ ∷ at 4 ∷ y ∷ nx y ∷ []) next₅
      ∙ ap {B = List ℕ} (λ (y : ℕ). k₁ ∷ at 4 ∷ at 5 ∷ y ∷ []) next₆

  under₂ : Under (2 * m₁.ne + 2) (k₁ ∷ at 4 ∷ at 5 ∷ k₀ ∷ [])
  under₂ =
      let (_, b, _) = counts₁ in
      let up : (y : ℕ) → y < 2 * t.ne → y < 2 * m₁.ne + 2 = λ y i. omega arith in
      (omega arith, (up _ (at_in 4), (up _ (at_in 5), (omega arith, tt))))

  -- ---- the third
  few-e₃ : m₂.ne + 1 ≤ 1048576
  few-e₃ = let (a, b, c) = counts₁ in let (p, q, r) = counts₂ in omega arith

  few-f₃ : m₂.nf + 1 ≤ 1048576
  few-f₃ = let (a, b, c) = counts₁ in let (p, q, r) = counts₂ in omega arith

  in₂ : (i : ℕ) → iter (next t) i x < 2 * m₂.ne
  in₂ i = d₂.keep-H _ (d₁.keep-H _ (at_in i))

  face₄ : face m₂ (at 4) ≡ m₁.nf
  face₄ = subst⁻¹ (λ (l : Links). face l (at 4) ≡ m₁.nf) is₂ (six.face₂ t f x g x_in x-face f-some f_in len room_e room_f)

  face₅ : face m₂ (at 5) ≡ m₁.nf
  face₅ = ap (face m₂) (sym next₅) ∙ c₂.next_face (at 4) (in₂ 4) ∙ face₄

  len₂ : Length (next m₂) (at 4) 4
  len₂ = subst⁻¹ (λ (l : Links). Length (next l) (at 4) 4) is₂ (six.len₂ t f x g x_in x-face f-some f_in len room_e room_f)

  faced₂ : face m₂ (at 4) ≢ NONE
  faced₂ e = let a = face₄ in let w = few-f₂ in omega arith

  a₃ : Across m₂ (at 5) (at 4) 1
  a₃ = subst (λ (y : ℕ). Across m₂ y (at 4) 1) next₅ (across m₂ good₂ (at 4) 1 (in₂ 4) faced₂ len₂ (omega arith) few-e₃ few-f₃)

  gapped₃ : Gapped m₂ (record { p = at 5; n = at 4; a = k₀; b = k₁; f = m₁.nf })
  gapped₃ = record { p-in = in₂ 5; n-in = in₂ 4; a-is = sym next₆; b-is = sym (ap (prev m₂) (sym on₄) ∙ d₂.prev-x); f-is = sym face₅ }

  part₃ : loop (joined (at 5) (at 4) m₂) (2 * m₂.ne + 1) ≡ (2 * m₂.ne + 1) ∷ k₀ ∷ k₁ ∷ []
  part₃ =
      three-part m₂ good₂ (at 5) (at 4) a₃
      ∙ ap {B = List ℕ} (λ (y : ℕ). (2 * m₂.ne + 1) ∷ y ∷ prev m₂ (at 4) ∷ []) next₆
      ∙ ap {B = List ℕ} (λ (y : ℕ). (2 * m₂.ne + 1) ∷ k₀ ∷ y ∷ []) (sym gapped₃.b-is)

  -- ---- in slices
  pub six-edges : (edges : List ℕ) → 8 * (t.ne + 3) ≤ length edges
      → cornered (lay 0 t.edges edges) t.ne f t.nf (record { h0 = iter (next t) 0 x; h1 = iter (next t) 1 x; h2 = iter (next t) 2 x; h3 = iter (next t) 3 x; h4 = iter (next t) 4 x; h5 = iter (next t) 5 x })
      ≡ lay 0 (cut_off (iter (next t) 5 x) (iter (next t) 4 x) (cut_off (iter (next t) 3 x) (iter (next t) 2 x) (cut_off (iter (next t) 1 x) (iter (next t) 0 x) t))).edges edges
  unfolding third
  six-edges edges long =
      let (_, e₁, g₁) = counts₁ in
      let (_, e₂, g₂) = counts₂ in
      let u : t.ne + 1 ≡ m₁.ne = sym e₁ in
      let v : t.nf + 1 ≡ m₁.nf = sym g₁ in
      let w : t.ne + 2 ≡ m₂.ne = omega arith in
      let z : t.nf + 2 ≡ m₂.nf = omega arith in
      let l₁ = lay 0 m₁.edges edges in
      let l₂ = lay 0 m₂.edges edges in
      let q : Gap = record { p = at 3; n = at 2; a = at 4; b = k₀; f = t.nf } in
      let s : Six = record { h0 = at 0; h1 = at 1; h2 = at 2; h3 = at 3; h4 = at 4; h5 = at 5 } in
      let n = length-lay 0 t.edges edges in
      let ok : SixOk (length (lay 0 t.edges edges)) t.ne s =
      record { few = room_e; room = omega arith; in_0 = at_in 0; in_1 = at_in 1; in_2 = at_in 2; in_3 = at_in 3; in_4 = at_in 4; in_5 = at_in 5 } in
      sym (corners-same (lay 0 t.edges edges) t.ne f t.nf s ok)
      ∙ ap (λ (l : List ℕ). third (whole₂ l t.ne t.nf s) t.ne t.nf s) (cut-laid t c (record { p = at 1; n = x; a = at 2; b = at 5; f = f }) gapped₁ few-e₁ _ part₁ under₁ edges (omega arith))
      ∙ ap (λ (e : ℕ). third (painted (divided l₁ e q) (t.nf + 1) ((2 * e + 1) ∷ at 4 ∷ at 5 ∷ k₀ ∷ [])) t.ne t.nf s) u
      ∙ ap (λ (g : ℕ). third (painted (divided l₁ m₁.ne q) g (k₁ ∷ at 4 ∷ at 5 ∷ k₀ ∷ [])) t.ne t.nf s) v
      ∙ ap (λ (l : List ℕ). third l t.ne t.nf s) (cut-laid m₁ c₁ q gapped₂ few-e₂ _ part₂ under₂ edges (omega arith))
      ∙ ap (λ (e : ℕ). cut_three l₂ (t.ne + 2) (record { p = at 5; n = at 4; a = k₀; b = 2 * e + 1; f = t.nf + 1 }) (t.nf + 2)) u
      ∙ ap (λ (g : ℕ). cut_three l₂ (t.ne + 2) (record { p = at 5; n = at 4; a = k₀; b = k₁; f = g }) (t.nf + 2)) v
      ∙ ap (λ (e : ℕ). cut_three l₂ e (record { p = at 5; n = at 4; a = k₀; b = k₁; f = m₁.nf }) (t.nf + 2)) w
      ∙ ap (λ (g : ℕ). cut_three l₂ m₂.ne (record { p = at 5; n = at 4; a = k₀; b = k₁; f = m₁.nf }) g) z
      ∙ cut-off-laid m₂ good₂ (record { p = at 5; n = at 4; a = k₀; b = k₁; f = m₁.nf }) gapped₃ a₃ few-e₃ edges (omega arith)

  -- where f starts after its first corner was cut off
  abbrev s₁ : ℕ
  s₁ = if (has (start t f) (k₀ ∷ at 2 ∷ at 3 ∷ at 4 ∷ at 5 ∷ [])) (2 * t.ne) (start t f)

  faces₁ : m₁.faces ≡ put (put t.faces f s₁) t.nf k₀
  faces₁ =
      let part = k₀ ∷ at 2 ∷ at 3 ∷ at 4 ∷ at 5 ∷ [] in
      cut-faces t (at 1) x part part₁
      ∙ ap (λ (y : ℕ). put (put t.faces t.nf k₀) y (if (has (start t y) part) (2 * t.ne) (start t y))) (c.next_face x x_in ∙ x-face)
      ∙ put-swap t.faces t.nf f k₀ s₁ (omega arith)

  faces₂ : m₂.faces ≡ put (put (put t.faces f s₁) t.nf (2 * m₁.ne)) m₁.nf k₁
  faces₂ =
      let (_, _, b) = counts₁ in
      renamed m₁ (at 3) (at 2) t.nf k₀ _ _ part₂ face₃ start₁ (has_there k₀ k₁ _ (has_there k₀ (at 4) _ (has_there k₀ (at 5) _ (has_here k₀ k₀ [] refl)))) faces₁ (omega arith)

  faces₃ : (cut_off (at 5) (at 4) m₂).faces ≡ put (put (put (put t.faces f s₁) t.nf (2 * m₁.ne)) m₁.nf (2 * m₂.ne)) m₂.nf (2 * m₂.ne + 1)
  faces₃ =
      let (_, _, b) = counts₂ in
      renamed m₂ (at 5) (at 4) m₁.nf k₁ _ _ part₃ face₅ start₂ (has_there k₁ (2 * m₂.ne + 1) _ (has_there k₁ k₀ _ (has_here k₁ k₁ [] refl))) faces₂ (omega arith)

  pub six-faces : (faces : List ℕ) → t.nf + 3 ≤ length faces
      → named (lay 0 t.faces faces) t.ne f t.nf (if (has (start t f) ((2 * t.ne + 1) ∷ iter (next t) 2 x ∷ iter (next t) 3 x ∷ iter (next t) 4 x ∷ iter (next t) 5 x ∷ [])) (2 * t.ne) (start t f))
      ≡ lay 0 (cut_off (iter (next t) 5 x) (iter (next t) 4 x) (cut_off (iter (next t) 3 x) (iter (next t) 2 x) (cut_off (iter (next t) 1 x) (iter (next t) 0 x) t))).faces faces
  unfolding named
  six-faces faces long =
      let (_, e₁, g₁) = counts₁ in
      let (_, e₂, g₂) = counts₂ in
      let e = t.ne in
      let g = t.nf in
      let l₀ = t.faces in
      let u : t.ne + 1 ≡ m₁.ne = sym e₁ in
      let v : t.nf + 1 ≡ m₁.nf = sym g₁ in
      let w : t.ne + 2 ≡ m₂.ne = omega arith in
      let z : t.nf + 2 ≡ m₂.nf = omega arith in
      let a = put l₀ f s₁ in
      let b = put a g (2 * (e + 1)) in
      let d = put b (g + 1) (2 * (e + 2)) in
      ap (λ (r : List ℕ). set (set (set r g (2 * (e + 1))) (g + 1) (2 * (e + 2))) (g + 2) (2 * (e + 2) + 1)) (set-lay l₀ faces f s₁ (omega arith))
      ∙ ap (λ (r : List ℕ). set (set r (g + 1) (2 * (e + 2))) (g + 2) (2 * (e + 2) + 1)) (set-lay a faces g (2 * (e + 1)) (omega arith))
      ∙ ap (λ (r : List ℕ). set r (g + 2) (2 * (e + 2) + 1)) (set-lay b faces (g + 1) (2 * (e + 2)) (omega arith))
      ∙ set-lay d faces (g + 2) (2 * (e + 2) + 1) (omega arith)
      ∙ ap (λ (i : ℕ). lay 0 (put (put (put a g (2 * i)) (g + 1) (2 * (e + 2))) (g + 2) (2 * (e + 2) + 1)) faces) u
      ∙ ap (λ (i : ℕ). lay 0 (put (put (put a g (2 * m₁.ne)) i (2 * (e + 2))) (g + 2) (2 * (e + 2) + 1)) faces) v
      ∙ ap (λ (i : ℕ). lay 0 (put (put (put a g (2 * m₁.ne)) m₁.nf (2 * i)) (g + 2) (2 * i + 1)) faces) w
      ∙ ap (λ (i : ℕ). lay 0 (put (put (put a g (2 * m₁.ne)) m₁.nf (2 * m₂.ne)) i (2 * m₂.ne + 1)) faces) z
      ∙ ap (λ (r : List ℕ). lay 0 r faces) (sym faces₃)

  -- f started at x, or just before it: in the first case it goes on doing so
  pub six-start : (start t f ≡ x) ⊎ (next t (start t f) ≡ x)
      → if (eqb (start t f) x) (start t f) (2 * t.ne)
      ≡ if (has (start t f) ((2 * t.ne + 1) ∷ iter (next t) 2 x ∷ iter (next t) 3 x ∷ iter (next t) 4 x ∷ iter (next t) 5 x ∷ [])) (2 * t.ne) (start t f)
  unfolding has
  six-start (inl e) = if-eq (start t f) x (start t f) (2 * t.ne) e ∙ sym (if-not (has (start t f) (k₀ ∷ at 2 ∷ at 3 ∷ at 4 ∷ at 5 ∷ [])) (2 * t.ne) (start t f) out)
    where
      off : (i : ℕ) → 0 < i → i < 6 → start t f ≢ iter (next t) i x
      off i a b q = len.no-sooner i a b (sym q ∙ e)

      out : ¬ T (has (start t f) (k₀ ∷ at 2 ∷ at 3 ∷ at 4 ∷ at 5 ∷ []))
      out h = has-cases (start t f) k₀ (at 2 ∷ at 3 ∷ at 4 ∷ at 5 ∷ []) h (λ q. (let w = x_in in let v : x ≡ 2 * t.ne + 1 = sym e ∙ q in omega arith))
          (λ h. has-cases (start t f) (at 2) (at 3 ∷ at 4 ∷ at 5 ∷ []) h (off 2 (omega arith) (omega arith))
          (λ h. has-cases (start t f) (at 3) (at 4 ∷ at 5 ∷ []) h (off 3 (omega arith) (omega arith))
          (λ h. has-cases (start t f) (at 4) (at 5 ∷ []) h (off 4 (omega arith) (omega arith))
          (λ h. has-cases (start t f) (at 5) [] h (off 5 (omega arith) (omega arith)) (λ h. h)))))
  six-start (inr e) =
      if-ne (start t f) x (start t f) (2 * t.ne) (λ q. len.no-sooner 5 (omega arith) (omega arith) (sym is ∙ q))
      ∙ sym (if-has (has (start t f) (k₀ ∷ at 2 ∷ at 3 ∷ at 4 ∷ at 5 ∷ [])) (2 * t.ne) (start t f) (has_there (start t f) k₀ (at 2 ∷ at 3 ∷ at 4 ∷ at 5 ∷ [])
      (has_there (start t f) (at 2) (at 3 ∷ at 4 ∷ at 5 ∷ []) (has_there (start t f) (at 3) (at 4 ∷ at 5 ∷ []) (has_there (start t f) (at 4) (at 5 ∷ []) (has_here (start t f) (at 5) [] is))))))
    where
      is : start t f ≡ at 5
      is = sym (c.prev_next (start t f) (c.start_in f f_in)) ∙ ap (prev t) e ∙ last

-- x is either of f's first two
pub first_two : (old f : ℕ) (t : Links) → (start t f ≡ first-old old f t) ⊎ (next t (start t f) ≡ first-old old f t)
unfolding first-old
first_two old f t = either (ltb (head t (start t f)) old) (start t f) (next t (start t f))
  where
    either : (b : Bool) (u v : ℕ) → (u ≡ if b u v) ⊎ (v ≡ if b u v)
    either true u v = inl refl
    either false u v = inr refl
