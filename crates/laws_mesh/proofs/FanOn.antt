-- Scope's fan makes the mesh that `Fan` describes, whatever says which elements are there. Assumes nothing.
use mathlib.Core.Path.{◌≡◌, refl, sym, ap, ◌∙◌, subst, subst⁻¹}
use mathlib.Core.Logic.{◌⊎◌, inl, inr, ◌≢◌}
use mathlib.Core.List.{List, [], ◌∷◌}
use Prim.Native.Nat.{ℕ, suc, ◌+◌, ◌-◌, ◌*◌, ◌/◌, ◌%◌, ◌≤◌, ◌<◌}
use native.Mathlib.Nat.{not-suc-le-zero}
use native.Mathlib.Omega.{arith}
use lib.ListN.{get_or, length}
use Rattle.scope.specs.Lists.{put}
use Rattle.scope.specs.Links.{Links, partner, out_is}
use Rattle.scope.specs.Edits.{Part, petal, petals, fan}
use Rattle.laws_mesh.specs.Mesh.{Shape, Consistent}
use Rattle.laws_mesh.specs.Of.{mesh_on}
use Rattle.laws_mesh.proofs.Cycle.{split}
use Rattle.laws_mesh.proofs.Facts.{partner-even}
use Rattle.laws_mesh.proofs.Puts.{get_or-put-same, get_or-put-other, put-grows, put_holds, put-within}
use Rattle.laws_mesh.proofs.Stores.{Word, face, head, next, prev, at, Store, store, stores, missed, found, stores-within, stores-hold}
use Rattle.laws_mesh.proofs.Ring.{under, after, before, after-lt, before-lt, after-before, after-once}
use Rattle.laws_mesh.proofs.Parts.{Parts, next-two, prev-two, b-in, b-face, b-once}
use Rattle.laws_mesh.proofs.Fan.{Fan}

-- the n parts' faces: f, and the new ones from g on
pub record Names (f g n : ℕ) (sub : ℕ → ℕ) : Type 0 where
  pub sub_is : (k : ℕ) → k < n → (sub k ≡ f) ⊎ ((g ≤ sub k) × (sub k < g + (n - 1)))
  pub sub_once : (k l : ℕ) → k < n → l < n → sub k ≡ sub l → k ≡ l
  pub f-met : (k : ℕ) × (k < n) × (f ≡ sub k)
  pub new-met : (x : ℕ) → g ≤ x → x < g + (n - 1) → (k : ℕ) × (k < n) × (x ≡ sub k)

-- what fan is given: face f's loop is n parts, and nothing ends at c
pub record Given (H₁ V₁ F₁ : ℕ → Type 0) (m : Links) (f c n : ℕ) (part : ℕ → Part) : Type 0 where
  pub shape : Shape (mesh_on H₁ V₁ F₁ m)
  pub con : Consistent (mesh_on H₁ V₁ F₁ m)
  pub parts : Parts (mesh_on H₁ V₁ F₁ m) f (λ i. i < n) (λ i. (part i).a) (λ i. (part i).b) (after n) (before n)
  pub names : Names f m.nf n (λ i. (part i).g)
  pub low-H : (x : ℕ) → H₁ x → x < 2 * m.ne
  pub low-F : (x : ℕ) → F₁ x → x < m.nf
  pub f_in : F₁ f
  pub c-free : (x : ℕ) → H₁ x → at m.edges head x ≢ c

-- and what there is afterwards: n edges and n - 1 faces more, and c
pub record Grown (H₁ V₁ F₁ H₂ V₂ F₂ : ℕ → Type 0) (m : Links) (c n : ℕ) : Type 0 where
  pub keep-H : (x : ℕ) → H₁ x → H₂ x
  pub new-H : (x : ℕ) → 2 * m.ne ≤ x → x < 2 * (m.ne + n) → H₂ x
  pub H-is : (x : ℕ) → H₂ x → H₁ x ⊎ ((2 * m.ne ≤ x) × (x < 2 * (m.ne + n)))
  pub keep-V : (x : ℕ) → V₁ x → V₂ x
  pub c-in : V₂ c
  pub V-is : (x : ℕ) → V₂ x → V₁ x ⊎ (x ≡ c)
  pub keep-F : (x : ℕ) → F₁ x → F₂ x
  pub new-F : (x : ℕ) → m.nf ≤ x → x < m.nf + (n - 1) → F₂ x
  pub F-is : (x : ℕ) → F₂ x → F₁ x ⊎ ((m.nf ≤ x) × (x < m.nf + (n - 1)))

-- the list's parts are part i, part (i + 1), ..
abbrev pub Run : (ℕ → Part) → ℕ → List Part → Type 0
Run part i [] = Unit {0}
Run part i (q ∷ qs) = (q ≡ part i) × Run part (suc i) qs

-- the stores of a petal, the last first; u is the tail of its first
abbrev petal-run : ℕ → ℕ → ℕ → Part → ℕ → List Store
petal-run c o s q u =
    store next q.b s ∷ store face q.b q.g ∷ store prev q.a o ∷ store face q.a q.g
    ∷ store prev s q.b ∷ store next s o ∷ store head s c ∷ store face s q.g
    ∷ store prev o s ∷ store next o q.a ∷ store head o u ∷ store face o q.g ∷ []

petal-edges : (c o s : ℕ) (q : Part) (m : Links) → (petal c o s q m).edges ≡ stores m.edges (petal-run c o s q (at m.edges head (partner q.a)))
unfolding petal
petal-edges c o s q m = refl

petal-faces : (c o s : ℕ) (q : Part) (m : Links) → (petal c o s q m).faces ≡ put m.faces q.g q.a
unfolding petal
petal-faces c o s q m = refl

petal-rest : (c o s : ℕ) (q : Part) (m : Links) → ((petal c o s q m).nv ≡ m.nv) × ((petal c o s q m).ne ≡ m.ne) × ((petal c o s q m).nf ≡ m.nf) × ((petal c o s q m).outs ≡ m.outs)
unfolding petal
petal-rest c o s q m = (refl, refl, refl, refl)

module _ {H₁ V₁ F₁ : ℕ → Type 0} {m : Links} {f c n : ℕ} {part : ℕ → Part} (g : Given H₁ V₁ F₁ m f c n part) where
  abbrev e : ℕ
  e = m.ne

  abbrev A : ℕ → ℕ
  A i = (part i).a

  abbrev B : ℕ → ℕ
  B i = (part i).b

  abbrev G : ℕ → ℕ
  G i = (part i).g

  -- the spoke that leaves the centre before part i, and the one that comes back after it
  abbrev o : ℕ → ℕ
  o i = 2 * (e + i) + 1

  abbrev s : ℕ → ℕ
  s i = 2 * (e + after n i)

  p : Parts (mesh_on H₁ V₁ F₁ m) f (λ i. i < n) (λ i. (part i).a) (λ i. (part i).b) (after n) (before n)
  p = g.parts

  pub a_lt : (i : ℕ) → i < n → A i < 2 * e
  a_lt i l = g.low-H (A i) (p.a_in i l)

  pub b_lt : (i : ℕ) → i < n → B i < 2 * e
  b_lt i l = g.low-H (B i) (b-in g.shape g.con p i l)

  a-a : (i j : ℕ) → i < n → j < n → i ≢ j → A i ≢ A j
  a-a i j l h z q = z (p.a-once i j l h q)

  pub a-b : (i j : ℕ) → i < n → j < n → i ≢ j → A i ≢ B j
  a-b i j l h z q = z (p.a-once i j l h (q ∙ sym (p.a-b i j l h q)))

  pub b-b : (i j : ℕ) → i < n → j < n → i ≢ j → B i ≢ B j
  b-b i j l h z q = z (b-once g.shape g.con p i j l h q)

  -- after the first i parts
  pub record Done (t : Links) (i : ℕ) : Type 0 where
    pub nv_is : t.nv ≡ m.nv
    pub ne_is : t.ne ≡ m.ne
    pub nf_is : t.nf ≡ m.nf
    pub outs-is : t.outs ≡ m.outs
    pub word-free : (w : Word) (y : ℕ) → y < 2 * e → ((j : ℕ) → j < i → y ≢ A j) → ((j : ℕ) → j < i → y ≢ B j) → at t.edges w y ≡ at m.edges w y
    pub head-old : (y : ℕ) → y < 2 * e → at t.edges head y ≡ at m.edges head y
    pub next-a : (j : ℕ) → j < n → A j ≢ B j → at t.edges next (A j) ≡ B j
    pub prev-b : (j : ℕ) → j < n → A j ≢ B j → at t.edges prev (B j) ≡ A j
    pub face-a : (j : ℕ) → j < i → at t.edges face (A j) ≡ G j
    pub prev-a : (j : ℕ) → j < i → at t.edges prev (A j) ≡ o j
    pub face-b : (j : ℕ) → j < i → at t.edges face (B j) ≡ G j
    pub next-b : (j : ℕ) → j < i → at t.edges next (B j) ≡ s j
    pub face-s : (j : ℕ) → j < i → at t.edges face (s j) ≡ G j
    pub head-s : (j : ℕ) → j < i → at t.edges head (s j) ≡ c
    pub next-s : (j : ℕ) → j < i → at t.edges next (s j) ≡ o j
    pub prev-s : (j : ℕ) → j < i → at t.edges prev (s j) ≡ B j
    pub face-o : (j : ℕ) → j < i → at t.edges face (o j) ≡ G j
    pub head-o : (j : ℕ) → j < i → at t.edges head (o j) ≡ at m.edges head (partner (A j))
    pub next-o : (j : ℕ) → j < i → at t.edges next (o j) ≡ A j
    pub prev-o : (j : ℕ) → j < i → at t.edges prev (o j) ≡ s j
    pub start-new : (j : ℕ) → j < i → get_or t.faces (G j) 0 ≡ A j
    pub start-old : (h : ℕ) → ((j : ℕ) → j < i → h ≢ G j) → get_or t.faces h 0 ≡ get_or m.faces h 0

  pub none_yet : Done m 0
  none_yet = record {
    nv_is = refl;
    ne_is = refl;
    nf_is = refl;
    outs-is = refl;
    word-free = λ w y l u v. refl;
    head-old = λ y l. refl;
    next-a = λ j l z. next-two g.shape g.con p j l z;
    prev-b = λ j l z. prev-two g.shape g.con p j l z;
    face-a = λ j l. absurd (not-suc-le-zero l);
    prev-a = λ j l. absurd (not-suc-le-zero l);
    face-b = λ j l. absurd (not-suc-le-zero l);
    next-b = λ j l. absurd (not-suc-le-zero l);
    face-s = λ j l. absurd (not-suc-le-zero l);
    head-s = λ j l. absurd (not-suc-le-zero l);
    next-s = λ j l. absurd (not-suc-le-zero l);
    prev-s = λ j l. absurd (not-suc-le-zero l);
    face-o = λ j l. absurd (not-suc-le-zero l);
    head-o = λ j l. absurd (not-suc-le-zero l);
    next-o = λ j l. absurd (not-suc-le-zero l);
    prev-o = λ j l. absurd (not-suc-le-zero l);
    start-new = λ j l. absurd (not-suc-le-zero l);
    start-old = λ h z. refl;
  }

  module _ (t : Links) (i : ℕ) (l : i < n) (d : Done t i) where
    ed : List ℕ
    ed = t.edges

    run : List Store
    run = petal-run c (o i) (s i) (part i) (at t.edges head (partner (A i)))

    t' : Links
    t' = petal c (o i) (s i) (part i) t

    is : t'.edges ≡ stores ed run
    unfolding t' run ed
    is = petal-edges c (o i) (s i) (part i) t

    sym-ne : {y z : ℕ} → y ≢ z → z ≢ y
    sym-ne u v = u (sym v)

    still : (w : Word) (y : ℕ) → y ≢ A i → y ≢ B i → y ≢ o i → y ≢ s i → at t'.edges w y ≡ at t.edges w y
    unfolding run ed
    still face y u v x z = ap (λ (q : List ℕ). at q face y) is ∙ missed ed face y run (v, (u, (z, (x, tt))))
    still head y u v x z = ap (λ (q : List ℕ). at q head y) is ∙ missed ed head y run (z, (x, tt))
    still next y u v x z = ap (λ (q : List ℕ). at q next y) is ∙ missed ed next y run (v, (z, (x, tt)))
    still prev y u v x z = ap (λ (q : List ℕ). at q prev y) is ∙ missed ed prev y run (u, (z, (x, tt)))

    s-lt : (j : ℕ) → j < n → s j < 2 * (e + n)
    s-lt j h = let q = after-lt n j h in omega arith

    -- at the other parts
    still-a : (w : Word) (j : ℕ) → j < n → j ≢ i → at t'.edges w (A j) ≡ at t.edges w (A j)
    still-a w j h z = still w (A j) (a-a j i h l z) (a-b j i h l z) (let q = a_lt j h in omega arith) (let q = a_lt j h in omega arith)

    still-b : (w : Word) (j : ℕ) → j < n → j ≢ i → at t'.edges w (B j) ≡ at t.edges w (B j)
    still-b w j h z = still w (B j) (sym-ne (a-b i j l h (sym-ne z))) (b-b j i h l z) (let q = b_lt j h in omega arith) (let q = b_lt j h in omega arith)

    still-o : (w : Word) (j : ℕ) → j ≢ i → at t'.edges w (o j) ≡ at t.edges w (o j)
    still-o w j z = still w (o j) (let q = a_lt i l in omega arith) (let q = b_lt i l in omega arith) (omega arith) (omega arith)

    still-s : (w : Word) (j : ℕ) → j < n → j ≢ i → at t'.edges w (s j) ≡ at t.edges w (s j)
    still-s w j h z = still w (s j) (let q = a_lt i l in omega arith) (let q = b_lt i l in omega arith) (omega arith)
        (let q : after n j ≢ after n i = λ u. z (after-once n j i h l u) in omega arith)

    -- an earlier part, or this one
    upto : (P : ℕ → Type 0) → P i → ((j : ℕ) → j < i → j ≢ i → P j) → (j : ℕ) → j < suc i → P j
    upto P u v j h = split j i (λ z. subst⁻¹ P z u) (λ z. v j (omega arith) z)

    a-o : A i ≢ o i
    a-o = let q = a_lt i l in omega arith

    a_s : A i ≢ s i
    a_s = let q = a_lt i l in omega arith

    b-o : B i ≢ o i
    b-o = let q = b_lt i l in omega arith

    b_s : B i ≢ s i
    b_s = let q = b_lt i l in omega arith

    o-s : o i ≢ s i
    o-s = omega arith

    there : (w : Word) (y z : ℕ) → at (stores ed run) w y ≡ z → at t'.edges w y ≡ z
    there w y z q = ap (λ (r : List ℕ). at r w y) is ∙ q

    one_more : Done t' (suc i)
    unfolding run ed t'
    one_more = let r = petal-rest c (o i) (s i) (part i) t in let st = petal-faces c (o i) (s i) (part i) t in record {
      nv_is = r.0 ∙ d.nv_is;
      ne_is = r.1 ∙ d.ne_is;
      nf_is = r.2 ∙ d.nf_is;
      outs-is = r.3 ∙ d.outs-is;
      word-free = λ w y h u v. still w y (u i (omega arith)) (v i (omega arith)) (omega arith) (omega arith) ∙ d.word-free w y h (λ j k. u j (omega arith)) (λ j k. v j (omega arith));
      head-old = λ y h. there head y _ (missed ed head y run (let z : y ≢ s i = omega arith in z, (let z : y ≢ o i = omega arith in z, tt))) ∙ d.head-old y h;
      next-a = λ j h z. there next (A j) _ (missed ed next (A j) run (
        (λ q. z (subst⁻¹ (λ (k : ℕ). A k ≡ B k) (p.a-once j i h l (q ∙ sym (p.a-b j i h l q))) (p.a-b j i h l q))),
        (let q = a_lt j h in let z : A j ≢ s i = omega arith in z, (let q = a_lt j h in let z : A j ≢ o i = omega arith in z, tt)),
      )) ∙ d.next-a j h z;
      prev-b = λ j h z. there prev (B j) _ (missed ed prev (B j) run
          ((λ q. z (p.a-b i j l h (sym q))), (let q = b_lt j h in let z : B j ≢ s i = omega arith in z, (let q = b_lt j h in let z : B j ≢ o i = omega arith in z, tt)))) ∙ d.prev-b j h z;
      face-a = upto (λ j. at t'.edges face (A j) ≡ G j)
          (there face (A i) _ (split (A i) (B i) (λ z. found ed face (A i) (G i) run (inl (z, refl))) (λ z. found ed face (A i) (G i) run (inr (z, inl (refl, refl))))))
          (λ j h z. still-a face j (omega arith) z ∙ d.face-a j h);
      prev-a = upto (λ j. at t'.edges prev (A j) ≡ o j) (there prev (A i) _ (found ed prev (A i) (o i) run (inl (refl, refl)))) (λ j h z. still-a prev j (omega arith) z ∙ d.prev-a j h);
      face-b = upto (λ j. at t'.edges face (B j) ≡ G j) (there face (B i) _ (found ed face (B i) (G i) run (inl (refl, refl)))) (λ j h z. still-b face j (omega arith) z ∙ d.face-b j h);
      next-b = upto (λ j. at t'.edges next (B j) ≡ s j) (there next (B i) _ (found ed next (B i) (s i) run (inl (refl, refl)))) (λ j h z. still-b next j (omega arith) z ∙ d.next-b j h);
      face-s = upto (λ j. at t'.edges face (s j) ≡ G j) (there face (s i) _ (found ed face (s i) (G i) run (inr (sym-ne b_s, inr (sym-ne a_s, inl (refl, refl))))))
          (λ j h z. still-s face j (omega arith) z ∙ d.face-s j h);
      head-s = upto (λ j. at t'.edges head (s j) ≡ c) (there head (s i) _ (found ed head (s i) c run (inl (refl, refl)))) (λ j h z. still-s head j (omega arith) z ∙ d.head-s j h);
      next-s = upto (λ j. at t'.edges next (s j) ≡ o j) (there next (s i) _ (found ed next (s i) (o i) run (inr (sym-ne b_s, inl (refl, refl))))) (λ j h z. still-s next j (omega arith) z ∙ d.next-s j h);
      prev-s = upto (λ j. at t'.edges prev (s j) ≡ B j) (there prev (s i) _ (found ed prev (s i) (B i) run (inr (sym-ne a_s, inl (refl, refl))))) (λ j h z. still-s prev j (omega arith) z ∙ d.prev-s j h);
      face-o = upto (λ j. at t'.edges face (o j) ≡ G j) (there face (o i) _ (found ed face (o i) (G i) run (inr (sym-ne b-o, inr (sym-ne a-o, inr (o-s, inl (refl, refl)))))))
          (λ j h z. still-o face j z ∙ d.face-o j h);
      head-o = upto (λ j. at t'.edges head (o j) ≡ at m.edges head (partner (A j)))
          (there head (o i) _ (found ed head (o i) _ run (inr (o-s, inl (refl, d.head-old (partner (A i)) (g.low-H (partner (A i)) (g.shape.H-partner (A i) (p.a_in i l))))))))
          (λ j h z. still-o head j z ∙ d.head-o j h);
      next-o = upto (λ j. at t'.edges next (o j) ≡ A j) (there next (o i) _ (found ed next (o i) (A i) run (inr (sym-ne b-o, inr (o-s, inl (refl, refl)))))) (λ j h z. still-o next j z ∙ d.next-o j h);
      prev-o = upto (λ j. at t'.edges prev (o j) ≡ s j) (there prev (o i) _ (found ed prev (o i) (s i) run (inr (sym-ne a-o, inr (o-s, inl (refl, refl)))))) (λ j h z. still-o prev j z ∙ d.prev-o j h);
      start-new = upto (λ j. get_or t'.faces (G j) 0 ≡ A j) (ap (λ (q : List ℕ). get_or q (G i) 0) st ∙ get_or-put-same t.faces (G i) (A i) 0)
          (λ j h z. ap (λ (q : List ℕ). get_or q (G j) 0) st ∙ get_or-put-other t.faces (G i) (G j) (A i) (λ u. z (g.names.sub_once j i (omega arith) l u)) ∙ d.start-new j h);
      start-old = λ h z. ap (λ (q : List ℕ). get_or q h 0) st ∙ get_or-put-other t.faces (G i) h (A i) (z i (omega arith)) ∙ d.start-old h (λ j u. z j (omega arith));
    }

  -- part i after those before it
  pub done_on : (t : Links) (i : ℕ) → i < n → Done t i → Done (petal c (2 * (m.ne + i) + 1) (2 * (m.ne + after n i)) (part i) t) (suc i)
  unfolding t'
  done_on t i l d = one_more t i l d

  pub done : (qs : List Part) (i : ℕ) (t : Links) → i + length qs ≡ n → Run part i qs → Done t i → Done (petals c e n i qs t) n
  unfolding petals t'
  done [] i t h r d = subst (Done t) (let q : i ≡ n = (omega arith) in q) d
  done (q ∷ qs) i t h (r, rs) d = done qs (suc i) (petal c (o i) (s i) q t) (omega arith) rs
      (subst⁻¹ (λ (q : Part). Done (petal c (o i) (s i) q t) (suc i)) r (one_more t i (omega arith) d))

  -- ---- how long the lists are after i parts
  record Long (t : Links) (i : ℕ) : Type 0 where
    edges-least : 8 * (e + i) ≤ length t.edges
    edges_most : length t.edges ≤ 8 * (e + n)
    faces-least : m.nf ≤ length t.faces
    faces-met : (j : ℕ) → j < i → G j < length t.faces
    faces-most : length t.faces ≤ m.nf + (n - 1)

  pub G-lt : (i : ℕ) → i < n → G i < m.nf + (n - 1)
  G-lt i l = go (g.names.sub_is i l)
    where
      go : (G i ≡ f) ⊎ ((m.nf ≤ G i) × (G i < m.nf + (n - 1))) → G i < m.nf + (n - 1)
      go (inl q) = let u = g.low-F f g.f_in in omega arith
      go (inr (u, v)) = v

  longer : (t : Links) (i : ℕ) → i < n → Long t i → Long (petal c (o i) (s i) (part i) t) (suc i)
  longer t i l d =
      let x = at t.edges head (partner (A i)) in
      let r = petal-run c (o i) (s i) (part i) x in
      let q = petal-edges c (o i) (s i) (part i) t in
      let w = petal-faces c (o i) (s i) (part i) t in
      let al : A i < 2 * (e + n) = (let z = a_lt i l in omega arith) in
      let bl : B i < 2 * (e + n) = (let z = b_lt i l in omega arith) in
      let sl : s i < 2 * (e + n) = (let z = after-lt n i l in omega arith) in
      let ol : o i < 2 * (e + n) = omega arith in
      let held = stores-hold t.edges (o i) r (inr (inr (inl refl))) in
      let within = stores-within (2 * (e + n)) t.edges r (let z = d.edges_most in omega arith) (bl, (bl, (al, (al, (sl, (sl, (sl, (sl, (ol, (ol, (ol, (ol, tt)))))))))))) in
      let grows = put-grows t.faces (G i) (A i) in
      record {
        edges-least = (let u = ap length q in omega arith);
        edges_most = (let u = ap length q in omega arith);
        faces-least = (let u = ap length w in let z = d.faces-least in omega arith);
        faces-met = λ j h. split j i
            (λ z. (let u = ap length w in let y = put_holds t.faces (G i) (A i) in let k = ap G z in omega arith))
            (λ z. (let u = ap length w in let y = d.faces-met j (omega arith) in omega arith));
        faces-most = (let u = ap length w in let z = put-within (m.nf + (n - 1)) t.faces (G i) (A i) d.faces-most (G-lt i l) in omega arith);
      }

  long : (qs : List Part) (i : ℕ) (t : Links) → i + length qs ≡ n → Run part i qs → Long t i → Long (petals c e n i qs t) n
  unfolding petals
  long [] i t h r d = subst (Long t) (let q : i ≡ n = (omega arith) in q) d
  long (q ∷ qs) i t h (r, rs) d = long qs (suc i) (petal c (o i) (s i) q t) (omega arith) rs
      (subst⁻¹ (λ (q : Part). Long (petal c (o i) (s i) q t) (suc i)) r (longer t i (omega arith) d))

  module _ (qs : List Part) (count : length qs ≡ n) (run : Run part 0 qs) where
    -- the words
    after-all : Done (petals c e (length qs) 0 qs m) n
    after-all = subst⁻¹ (λ (k : ℕ). Done (petals c e k 0 qs m) n) count (done qs 0 m (let q : 0 + length qs ≡ n = (omega arith) in q) run none_yet)

    -- the lists are as long as the counts say
    module _ (edges_long : length m.edges ≡ 8 * m.ne) (faces_long : length m.faces ≡ m.nf) where
      lengths-all : Long (petals c e (length qs) 0 qs m) n
      lengths-all = subst⁻¹ (λ (k : ℕ). Long (petals c e k 0 qs m) n) count (long qs 0 m (let q : 0 + length qs ≡ n = (omega arith) in q) run (record {
        edges-least = omega arith;
        edges_most = omega arith;
        faces-least = omega arith;
        faces-met = λ j l. absurd (not-suc-le-zero l);
        faces-most = omega arith;
      }))

      pub fan-edges_long : length (fan c qs m).edges ≡ 8 * (m.ne + n)
      unfolding fan
      fan-edges_long = let a = lengths-all.edges-least in let b = lengths-all.edges_most in omega arith

      pub fan-faces_long : length (fan c qs m).faces ≡ m.nf + (n - 1)
      unfolding fan
      fan-faces_long =
          let a = lengths-all.faces-least in
          let b = lengths-all.faces-most in
          under 1 n
          (λ l. let (k, h, q) = g.names.new-met (m.nf + (n - 2)) (omega arith) (omega arith) in let z = lengths-all.faces-met k h in omega arith)
          (λ l. omega arith)

    pub fan-counts : ((fan c qs m).nv ≡ m.nv) × ((fan c qs m).ne ≡ m.ne + n) × ((fan c qs m).nf ≡ m.nf + (n - 1)) × ((fan c qs m).outs ≡ m.outs)
    unfolding fan
    fan-counts = let d = after-all in
        ((let u = d.nv_is in omega arith), (let u = d.ne_is in omega arith), (let u = d.nf_is in let v = ap (λ (k : ℕ). k - 1) count in omega arith), d.outs-is)

    -- ---- the whole step; the centre names the spoke that leaves before part k
    module _ {H₂ V₂ F₂ : ℕ → Type 0} (b : Grown H₁ V₁ F₁ H₂ V₂ F₂ m c n) (k : ℕ) (k_lt : k < n) where
      par : (i : ℕ) → partner (2 * (e + i)) ≡ 2 * (e + i) + 1
      par i = partner-even (e + i)

      -- the spoke that comes back before part i came back after the part before
      back : (P : ℕ → Type 0) (i : ℕ) → i < n → P (s (before n i)) → P (2 * (e + i))
      back P i l = subst (λ (j : ℕ). P (2 * (e + j))) (after-before n i l)

      pub fan-on : Fan (mesh_on H₁ V₁ F₁ m) (mesh_on H₂ V₂ F₂ (out_is c (2 * (m.ne + k) + 1) (fan c qs m)))
          f c (λ i. i < n) (λ i. (part i).a) (λ i. (part i).b) (after n) (before n) (λ i. 2 * (m.ne + i)) (λ i. (part i).g)
      unfolding fan
      fan-on = let d = after-all in record {
        parts = p;
        r-new = λ i l h. (let z = g.low-H _ h in omega arith);
        o-new = λ i l h. (let z = g.low-H _ h in let q = par i in omega arith);
        r-once = λ i j l h q. (omega arith);
        keep-H = b.keep-H;
        r-in = λ i l. b.new-H (2 * (e + i)) (omega arith) (omega arith);
        o-in = λ i l. b.new-H (partner (2 * (e + i))) (let q = par i in omega arith) (let q = par i in omega arith);
        H-is = λ y h. is-H y (b.H-is y h);
        keep-V = b.keep-V;
        c-in = b.c-in;
        c-free = g.c-free;
        V-is = λ v h. split v c (λ q. inl q) (λ q. is-V v q (b.V-is v h));
        keep-F = b.keep-F;
        sub_in = λ i l. in-F i (g.names.sub_is i l);
        sub_once = g.names.sub_once;
        sub-old = λ i l h. old-F i h (g.names.sub_is i l);
        F-is = λ h u. is-F h (b.F-is h u);
        face-a = d.face-a;
        face-b = d.face-b;
        face-r = λ i l. back (λ y. at (petals c e (length qs) 0 qs m).edges face y ≡ G (before n i)) i l (d.face-s (before n i) (before-lt n i l));
        face-o = λ i l. ap (at (petals c e (length qs) 0 qs m).edges face) (par i) ∙ d.face-o i l;
        face-free = λ y i z. d.word-free face y (g.low-H y i) (free-a y z) (free-b y z);
        head-old = λ y i. d.head-old y (g.low-H y i);
        head-r = λ i l. back (λ y. at (petals c e (length qs) 0 qs m).edges head y ≡ c) i l (d.head-s (before n i) (before-lt n i l));
        head-o = λ i l. ap (at (petals c e (length qs) 0 qs m).edges head) (par i) ∙ d.head-o i l;
        next-a = d.next-a;
        next-b = d.next-b;
        next-r = λ i l. back (λ y. at (petals c e (length qs) 0 qs m).edges next y ≡ o (before n i)) i l (d.next-s (before n i) (before-lt n i l)) ∙ sym (par (before n i));
        next-o = λ i l. ap (at (petals c e (length qs) 0 qs m).edges next) (par i) ∙ d.next-o i l;
        next-free = λ y i z. d.word-free next y (g.low-H y i) (free-a y z) (free-b y z);
        prev-a = λ i l. d.prev-a i l ∙ sym (par i);
        prev-b = d.prev-b;
        prev-r = λ i l. back (λ y. at (petals c e (length qs) 0 qs m).edges prev y ≡ B (before n i)) i l (d.prev-s (before n i) (before-lt n i l));
        prev-o = λ i l. ap (at (petals c e (length qs) 0 qs m).edges prev) (par i) ∙ d.prev-o i l;
        prev-free = λ y i z. d.word-free prev y (g.low-H y i) (free-a y z) (free-b y z);
        start-sub = d.start-new;
        start-free = λ h i z. d.start-old h (λ j l. not-G h i z j l (g.names.sub_is j l));
        out-old = λ v i z. get_or-put-other _ c v _ z ∙ ap (λ (q : List ℕ). get_or q v 0) d.outs-is;
        out-c = (k, k_lt, get_or-put-same _ c _ 0 ∙ sym (par k));
      }
        where
          is-H : (y : ℕ) → H₁ y ⊎ ((2 * e ≤ y) × (y < 2 * (e + n))) → H₁ y ⊎ (((i : ℕ) × (i < n) × (y ≡ 2 * (e + i))) ⊎ ((i : ℕ) × (i < n) × (y ≡ partner (2 * (e + i)))))
          is-H y (inl h) = inl h
          is-H y (inr (u, v)) = split (y % 2) 0
              (λ z. inr (inl (y / 2 - e, omega arith, (let q : y ≡ 2 * (e + (y / 2 - e)) = omega arith in q))))
              (λ z. inr (inr (y / 2 - e, omega arith, (let q : y ≡ 2 * (e + (y / 2 - e)) + 1 = omega arith in q ∙ sym (par (y / 2 - e))))))

          is-V : (v : ℕ) → v ≢ c → V₁ v ⊎ (v ≡ c) → (v ≡ c) ⊎ (V₁ v × (v ≢ c))
          is-V v z (inl h) = inr (h, z)
          is-V v z (inr q) = inl q

          is-F : (h : ℕ) → F₁ h ⊎ ((m.nf ≤ h) × (h < m.nf + (n - 1))) → ((i : ℕ) × (i < n) × (h ≡ G i)) ⊎ (F₁ h × (h ≢ f))
          is-F h (inl u) = split h f (λ q. let (i, l, z) = g.names.f-met in inl (i, l, q ∙ z)) (λ q. inr (u, q))
          is-F h (inr (u, v)) = inl (g.names.new-met h u v)

          in-F : (i : ℕ) → (G i ≡ f) ⊎ ((m.nf ≤ G i) × (G i < m.nf + (n - 1))) → F₂ (G i)
          in-F i (inl q) = subst⁻¹ F₂ q (b.keep-F f g.f_in)
          in-F i (inr (u, v)) = b.new-F (G i) u v

          old-F : (i : ℕ) → F₁ (G i) → (G i ≡ f) ⊎ ((m.nf ≤ G i) × (G i < m.nf + (n - 1))) → G i ≡ f
          old-F i h (inl q) = q
          old-F i h (inr (u, v)) = let z = g.low-F (G i) h in absurd (omega arith)

          not-G : (h : ℕ) → F₁ h → h ≢ f → (j : ℕ) → j < n → (G j ≡ f) ⊎ ((m.nf ≤ G j) × (G j < m.nf + (n - 1))) → h ≢ G j
          not-G h i z j l (inl q) w = z (w ∙ q)
          not-G h i z j l (inr (u, v)) w = let y = g.low-F h i in omega arith

          free-a : (y : ℕ) → at m.edges face y ≢ f → (j : ℕ) → j < n → y ≢ A j
          free-a y z j l q = z (ap (at m.edges face) q ∙ p.of-f j l)

          free-b : (y : ℕ) → at m.edges face y ≢ f → (j : ℕ) → j < n → y ≢ B j
          free-b y z j l q = z (ap (at m.edges face) q ∙ b-face g.shape g.con p j l)
