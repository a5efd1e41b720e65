-- A swap whose new end already lies on the face that gets it breaks C7 there. Assumes nothing.
use mathlib.Core.Path.{◌≡◌, refl, sym, ap, ◌∙◌}
use mathlib.Core.Logic.{inl, inr, ◌≢◌}
use mathlib.Core.List.{List}
use Prim.Native.Nat.{ℕ, ◌+◌, ◌*◌}
use Rattle.scope.specs.Links.{Links, partner}
use Rattle.scope.specs.Edits.{swap_ccw, swap_cw}
use Rattle.laws_mesh.specs.Rules.{C7}
use Rattle.laws_mesh.specs.Of.{mesh_on}
use Rattle.laws_mesh.proofs.Cycle.{split}
use Rattle.laws_mesh.proofs.Facts.{head-prev, no_self}
use Rattle.laws_mesh.proofs.Stores.{Word, face, head, next, prev, at, stores, missed, found}
use Rattle.laws_mesh.proofs.SwapOn.{Edge, flip, n-in, b-in, bb-in, n-face, b-face, bb-face, apart, n≢h, b≢h, b≢n, bb≢h, ccw-run, cw-run}

-- what moves: hx leaves h's face, ox comes to it, and h gets another head
pub record Moved (m m' : Links) (h o hx ox end : ℕ) : Type 0 where
  pub face-x : at m'.edges face ox ≡ at m.edges face h
  pub face-old : (t : ℕ) → t ≢ hx → t ≢ ox → at m'.edges face t ≡ at m.edges face t
  pub head-h : at m'.edges head h ≡ end
  pub head-old : (t : ℕ) → t ≢ h → t ≢ o → at m'.edges head t ≡ at m.edges head t

neq : {x y : ℕ} → x ≢ y → y ≢ x
neq p q = p (sym q)

module _ {H₁ V₁ F₁ : ℕ → Type 0} {m m' : Links} {h o : ℕ} (g : Edge H₁ V₁ F₁ m h o) where
  -- ---- counter-clockwise, next o comes to h's face; some t of that face has its head
  pub ccw-breaks : Moved m m' h o (at m.edges next h) (at m.edges next o) (at m.edges head (at m.edges next h))
      → (t : ℕ) → H₁ t → at m.edges face t ≡ at m.edges face h → at m.edges head t ≡ at m.edges head (at m.edges next o)
      → C7 (mesh_on H₁ V₁ F₁ m') (at m.edges face h) → ⊥
  ccw-breaks d t i f x c =
      split t (at m.edges next h)
      (λ e. apart g h on refl (n-face (flip g))
      (c.differ h on g.h-in on_in (d.face-old h (neq (n≢h g)) (apart g h on refl (n-face (flip g)))) d.face-x (d.head-h ∙ ap (at m.edges head) (sym e) ∙ x ∙ sym on-head)))
      (λ n. split t h
      (λ e. b≢n (flip g) (g.con.core.heads_differ (at m.edges prev o) on (b-in (flip g)) on_in (λ q. g.o-faced (sym (b-face (flip g)) ∙ q)) (b-face (flip g) ∙ sym (n-face (flip g)))
      (head-prev g.shape g.con.core o g.o-in ∙ ap (at m.edges head) (g.o-partner ∙ sym e) ∙ x)))
      (λ q. apart g t on f (n-face (flip g))
      (c.differ t on i on_in (d.face-old t n (apart g t on f (n-face (flip g))) ∙ f) d.face-x (d.head-old t q (apart g t o f refl) ∙ x ∙ sym on-head))))
    where
      on : ℕ
      on = at m.edges next o

      on_in : H₁ (at m.edges next o)
      on_in = n-in (flip g)

      on-head : at m'.edges head (at m.edges next o) ≡ at m.edges head (at m.edges next o)
      on-head = d.head-old (at m.edges next o) (neq (apart g h (at m.edges next o) refl (n-face (flip g)))) (n≢h (flip g))

  -- ---- clockwise, h's new end is the tail of prev o; some t of h's face has it as its head
  pub cw-breaks : Moved m m' h o (at m.edges prev h) (at m.edges prev o) (at m.edges head (partner (at m.edges prev o)))
      → (t : ℕ) → H₁ t → at m.edges face t ≡ at m.edges face h → at m.edges head t ≡ at m.edges head (partner (at m.edges prev o))
      → C7 (mesh_on H₁ V₁ F₁ m') (at m.edges face h) → ⊥
  cw-breaks d t i f x c =
      split t (at m.edges prev h)
      (λ e. bb≢h (flip g) (sym (g.con.core.heads_differ o (at m.edges prev (at m.edges prev o)) g.o-in (bb-in (flip g)) g.o-faced (sym (bb-face (flip g)))
      (ap (at m.edges head) (sym g.h-partner) ∙ sym (head-prev g.shape g.con.core h g.h-in) ∙ ap (at m.edges head) (sym e) ∙ x
      ∙ sym (head-prev g.shape g.con.core (at m.edges prev o) (b-in (flip g)))))))
      (λ n. split t h
      (λ e. no_self g.shape g.con.core (at m.edges prev o) (b-in (flip g))
      (sym x ∙ ap (at m.edges head) (e ∙ sym g.o-partner) ∙ sym (head-prev g.shape g.con.core o g.o-in)))
      (λ q. q (c.differ t h i g.h-in (d.face-old t n (apart g t _ f (b-face (flip g))) ∙ f) (d.face-old h (neq (b≢h g)) (apart g h _ refl (b-face (flip g))))
      (d.head-old t q (apart g t o f refl) ∙ x ∙ sym d.head-h))))

-- ---- what the stores move
module _ {H₁ V₁ F₁ : ℕ → Type 0} {m m' : Links} {h o : ℕ} (g : Edge H₁ V₁ F₁ m h o) where
  pub ccw-moved : m'.edges ≡ stores m.edges (ccw-run m.edges h o)
      → Moved m m' h o (at m.edges next h) (at m.edges next o) (at m.edges head (at m.edges next h)) × Moved m m' o h (at m.edges next o) (at m.edges next h) (at m.edges head (at m.edges next o))
  ccw-moved e = let ed = m.edges in let r = ccw-run m.edges h o in (
    record {
      face-x = word face _ ∙ found ed face _ _ r (inl (refl, refl));
      face-old = λ t p q. word face t ∙ missed ed face t r (q, (p, tt));
      head-h = word head h ∙ found ed head h _ r (inr (apart g h o refl refl, inl (refl, refl)));
      head-old = λ t p q. word head t ∙ missed ed head t r (q, (p, tt));
    },
    record {
      face-x = word face _ ∙ found ed face _ _ r (inr (apart g _ _ (n-face g) (n-face (flip g)), inl (refl, refl)));
      face-old = λ t p q. word face t ∙ missed ed face t r (p, (q, tt));
      head-h = word head o ∙ found ed head o _ r (inl (refl, refl));
      head-old = λ t p q. word head t ∙ missed ed head t r (p, (q, tt));
    },
  )
    where
      word : (w : Word) (t : ℕ) → at m'.edges w t ≡ at (stores m.edges (ccw-run m.edges h o)) w t
      word w t = ap (λ (l : List ℕ). at l w t) e

  pub cw-moved : m'.edges ≡ stores m.edges (cw-run m.edges h o)
      → Moved m m' h o (at m.edges prev h) (at m.edges prev o) (at m.edges head (partner (at m.edges prev o)))
      × Moved m m' o h (at m.edges prev o) (at m.edges prev h) (at m.edges head (partner (at m.edges prev h)))
  cw-moved e = let ed = m.edges in let r = cw-run m.edges h o in (
    record {
      face-x = word face _ ∙ found ed face _ _ r (inr (neq (apart g _ _ (b-face g) (b-face (flip g))), inl (refl, refl)));
      face-old = λ t p q. word face t ∙ missed ed face t r (p, (q, tt));
      head-h = word head h ∙ found ed head h _ r (inr (apart g h o refl refl, inl (refl, refl)));
      head-old = λ t p q. word head t ∙ missed ed head t r (q, (p, tt));
    },
    record {
      face-x = word face _ ∙ found ed face _ _ r (inl (refl, refl));
      face-old = λ t p q. word face t ∙ missed ed face t r (q, (p, tt));
      head-h = word head o ∙ found ed head o _ r (inl (refl, refl));
      head-old = λ t p q. word head t ∙ missed ed head t r (p, (q, tt));
    },
  )
    where
      word : (w : Word) (t : ℕ) → at m'.edges w t ≡ at (stores m.edges (cw-run m.edges h o)) w t
      word w t = ap (λ (l : List ℕ). at l w t) e

-- ---- scope's swaps
pub ccw-edges : (m : Links) (e : ℕ) → (swap_ccw e m).edges ≡ stores m.edges (ccw-run m.edges (2 * e) (2 * e + 1))
unfolding swap_ccw
ccw-edges m e = refl

pub cw-edges : (m : Links) (e : ℕ) → (swap_cw e m).edges ≡ stores m.edges (cw-run m.edges (2 * e) (2 * e + 1))
unfolding swap_cw
cw-edges m e = refl
