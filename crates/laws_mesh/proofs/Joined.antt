-- What scope's joining of two halfedges by a new edge does to the words. Assumes nothing.
--
-- The new edge's halves are alike: across a face the second closes the part that gets the new face, across a hole the first. So it is said for a half c (`Joined`),
-- with w and y the halfedges before its part and at the end of it.
use mathlib.Core.Path.{◌≡◌, refl, sym, ap, ◌∙◌, subst}
use mathlib.Core.Logic.{inl, inr, ◌≢◌}
use mathlib.Core.List.{List, [], ◌∷◌}
use Prim.Native.Nat.{ℕ, suc, ◌+◌, ◌*◌, ◌<◌}
use native.Mathlib.Omega.{arith}
use lib.ListN.{length}
use Rattle.scope.specs.Links.{Links, partner}
use Rattle.scope.specs.Edits.{joined}
use Rattle.laws_mesh.specs.Mesh.{Shape, Core}
use Rattle.laws_mesh.specs.Of.{mesh_on}
use Rattle.laws_mesh.proofs.Facts.{partner-even, partner-odd, partner-ne, head-prev, prev-face}
use Rattle.laws_mesh.proofs.Stores.{face, head, next, prev, at, Store, store, stores, missed, found, stores-grown}
use Rattle.laws_mesh.proofs.Carriers.{NewEdge}

-- the stores of `joined`, the last first; h and k are the halves of the new edge
abbrev join-run : List ℕ → ℕ → ℕ → ℕ → ℕ → List Store
join-run ed p n h k =
    let b = at ed prev n in
    let a = at ed next p in
    store prev n h ∷ store next p h ∷ store next b k ∷ store prev a k
    ∷ store prev k b ∷ store next k a ∷ store head k (at ed head p) ∷ store face k (at ed face p)
    ∷ store prev h p ∷ store next h n ∷ store head h (at ed head (partner n)) ∷ store face h (at ed face p) ∷ []

abbrev pub join-stores : ℕ → ℕ → Links → List Store
join-stores p n m = join-run m.edges p n (2 * m.ne) (2 * m.ne + 1)

-- c comes after y and its partner after w, and each goes on where the other came from
pub record Joined (H₁ : ℕ → Type 0) (m l : Links) (w y c : ℕ) : Type 0 where
  pub face-k : at l.edges face (partner c) ≡ at m.edges face w
  pub face-old : (t : ℕ) → H₁ t → at l.edges face t ≡ at m.edges face t
  pub head-c : at l.edges head c ≡ at m.edges head w
  pub head-k : at l.edges head (partner c) ≡ at m.edges head y
  pub head-old : (t : ℕ) → H₁ t → at l.edges head t ≡ at m.edges head t
  pub next-c : at l.edges next c ≡ at m.edges next w
  pub next-k : at l.edges next (partner c) ≡ at m.edges next y
  pub next-y : at l.edges next y ≡ c
  pub next-w : at l.edges next w ≡ partner c
  pub next-old : (t : ℕ) → H₁ t → t ≢ w → t ≢ y → at l.edges next t ≡ at m.edges next t
  pub prev-c : at l.edges prev c ≡ y
  pub prev-k : at l.edges prev (partner c) ≡ w
  pub prev-x : at l.edges prev (at m.edges next w) ≡ c
  pub prev-z : at l.edges prev (at m.edges next y) ≡ partner c
  pub prev-old : (t : ℕ) → H₁ t → t ≢ at m.edges next w → t ≢ at m.edges next y → at l.edges prev t ≡ at m.edges prev t

module _ {H₁ V₁ F₁ H₂ : ℕ → Type 0} (m : Links) (p n : ℕ) (s : Shape (mesh_on H₁ V₁ F₁ m)) (c : Core (mesh_on H₁ V₁ F₁ m)) (p-in : H₁ p) (n-in : H₁ n)
    (b : NewEdge H₁ H₂ (2 * m.ne)) (apart : p ≢ at m.edges prev n) (one-face : at m.edges face p ≡ at m.edges face n) where
  ed : List ℕ
  ed = m.edges

  h : ℕ
  h = 2 * m.ne

  k : ℕ
  k = 2 * m.ne + 1

  is-k : partner h ≡ k
  unfolding h k
  is-k = partner-even m.ne

  is-h : partner k ≡ h
  unfolding h k
  is-h = partner-odd m.ne

  ne : {x y : ℕ} → x ≢ y → y ≢ x
  ne p q = p (sym q)

  h≢k : h ≢ k
  h≢k e = partner-ne h (is-k ∙ sym e)

  old-h : (x : ℕ) → H₁ x → x ≢ h
  unfolding h
  old-h x i e = b.n-new (subst H₁ e i)

  old-k : (x : ℕ) → H₁ x → x ≢ k
  unfolding h
  old-k x i e = b.o-new (subst H₁ (e ∙ sym is-k) i)

  b-in : H₁ (at ed prev n)
  unfolding ed
  b-in = c.prev_in n n-in

  a_in : H₁ (at ed next p)
  unfolding ed
  a_in = c.next_in p p-in

  -- where the words that change stand apart
  n≢a : n ≢ at ed next p
  unfolding ed
  n≢a e = apart (sym (c.prev_next p p-in) ∙ ap (at m.edges prev) (sym e))

  to-n : at ed next (at ed prev n) ≡ n
  unfolding ed
  to-n = c.next_prev n n-in

  from-n : at ed head (at ed prev n) ≡ at ed head (partner n)
  unfolding ed
  from-n = head-prev s c n n-in

  -- across a face
  pub joined-face : Joined H₁ m (joined p n m) p (at m.edges prev n) (2 * m.ne + 1)
  unfolding joined h k ed
  joined-face = let r = join-run ed p n h k in record {
    face-k = rw is-h (found ed face h _ r (inr (h≢k, inl (refl, refl))));
    face-old = λ t i. missed ed face t r (old-k t i, (old-h t i, tt));
    head-c = found ed head k _ r (inl (refl, refl));
    head-k = rw is-h (found ed head h _ r (inr (h≢k, inl (refl, refl)))) ∙ sym from-n;
    head-old = λ t i. missed ed head t r (old-k t i, (old-h t i, tt));
    next-c = found ed next k _ r (inr (ne (old-k p p-in), inr (ne (old-k _ b-in), inl (refl, refl))));
    next-k = rw is-h (found ed next h _ r (inr (ne (old-h p p-in), inr (ne (old-h _ b-in), inr (h≢k, inl (refl, refl)))))) ∙ sym to-n;
    next-y = found ed next _ _ r (inr (ne apart, inl (refl, refl)));
    next-w = rw is-h (found ed next p _ r (inl (refl, refl)));
    next-old = λ t i x y. missed ed next t r (x, (y, (old-k t i, (old-h t i, tt))));
    prev-c = found ed prev k _ r (inr (ne (old-k n n-in), inr (ne (old-k _ a_in), inl (refl, refl))));
    prev-k = rw is-h (found ed prev h _ r (inr (ne (old-h n n-in), inr (ne (old-h _ a_in), inr (h≢k, inl (refl, refl))))));
    prev-x = found ed prev _ _ r (inr (ne n≢a, inl (refl, refl)));
    prev-z = ap (at (stores ed r) prev) to-n ∙ rw is-h (found ed prev n _ r (inl (refl, refl)));
    prev-old = λ t i x y. missed ed prev t r ((λ e. y (e ∙ sym to-n)), (x, (old-k t i, (old-h t i, tt))));
  }

  -- across a hole
  pub joined-hole : Joined H₁ m (joined p n m) (at m.edges prev n) p (2 * m.ne)
  unfolding joined h k ed
  joined-hole = let r = join-run ed p n h k in record {
    face-k = rw is-k (found ed face k _ r (inl (refl, refl))) ∙ one-face ∙ sym (prev-face s c n n-in);
    face-old = joined-face.face-old;
    head-c = found ed head h _ r (inr (h≢k, inl (refl, refl))) ∙ sym from-n;
    head-k = rw is-k (found ed head k _ r (inl (refl, refl)));
    head-old = joined-face.head-old;
    next-c = found ed next h _ r (inr (ne (old-h p p-in), inr (ne (old-h _ b-in), inr (h≢k, inl (refl, refl))))) ∙ sym to-n;
    next-k = rw is-k (found ed next k _ r (inr (ne (old-k p p-in), inr (ne (old-k _ b-in), inl (refl, refl)))));
    next-y = found ed next p _ r (inl (refl, refl));
    next-w = rw is-k (found ed next _ _ r (inr (ne apart, inl (refl, refl))));
    next-old = λ t i x y. joined-face.next-old t i y x;
    prev-c = found ed prev h _ r (inr (ne (old-h n n-in), inr (ne (old-h _ a_in), inr (h≢k, inl (refl, refl)))));
    prev-k = rw is-k (found ed prev k _ r (inr (ne (old-k n n-in), inr (ne (old-k _ a_in), inl (refl, refl)))));
    prev-x = ap (at (stores ed r) prev) to-n ∙ found ed prev n _ r (inl (refl, refl));
    prev-z = rw is-k (found ed prev _ _ r (inr (ne n≢a, inl (refl, refl))));
    prev-old = λ t i x y. joined-face.prev-old t i y x;
  }

-- the words of the new halves come last
pub join-long : (m : Links) (p n : ℕ) → length m.edges ≡ 8 * m.ne → p < 2 * m.ne → n < 2 * m.ne → at m.edges next p < 2 * m.ne → at m.edges prev n < 2 * m.ne
    → length (joined p n m).edges ≡ 4 * (2 * m.ne + 2)
unfolding joined
join-long m p n long pi ni ai bi =
    let up : (x : ℕ) → x < 2 * m.ne → x < suc (2 * m.ne + 1) = λ x i. omega arith in
    let h : 2 * m.ne < suc (2 * m.ne + 1) = omega arith in
    let k : 2 * m.ne + 1 < suc (2 * m.ne + 1) = omega arith in
    stores-grown m.edges (2 * m.ne + 1) (join-stores p n m) (omega arith)
    (up _ ni, (up _ pi, (up _ bi, (up _ ai, (k, (k, (k, (k, (h, (h, (h, (h, tt))))))))))))
    (inr (inr (inl refl)))
    ∙ omega arith
