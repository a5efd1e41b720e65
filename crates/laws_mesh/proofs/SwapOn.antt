-- Scope's swaps make the meshes that `Swap` and `SwapCw` describe, whatever says which elements are there. Assumes nothing.
use mathlib.Core.Path.{◌≡◌, refl, sym, ap, ◌∙◌, subst, subst⁻¹}
use mathlib.Core.Logic.{inl, inr, ◌≢◌}
use mathlib.Core.List.{List, [], ◌∷◌}
use Prim.Native.Nat.{ℕ, ◌+◌, ◌*◌}
use lib.Dec.{eqb}
use lib.ListN.{get_or}
use Rattle.scope.specs.Lists.{put, if}
use Rattle.scope.specs.Links.{Links, NONE, partner}
use Rattle.scope.specs.Edits.{swap_ccw, swap_cw}
use Rattle.laws_mesh.specs.Mesh.{Shape, Consistent}
use Rattle.laws_mesh.specs.Of.{mesh_on}
use Rattle.laws_mesh.proofs.Cycle.{if-eq, if-ne, split}
use Rattle.laws_mesh.proofs.Facts.{partner-even, partner-partner, two-faces, no_self, next-ne, prev-face, head-prev}
use Rattle.laws_mesh.proofs.Puts.{get_or-put-same, get_or-put-other}
use Rattle.laws_mesh.proofs.Stores.{face, head, next, prev, at, Store, store, stores, missed, found}
use Rattle.laws_mesh.proofs.Swap.{Half, Swap}
use Rattle.laws_mesh.proofs.SwapCw.{HalfCw, SwapCw}

-- ---- where p holds a it gets b, and where q holds c it gets d
abbrev pub changes : List ℕ → ℕ → ℕ → ℕ → ℕ → ℕ → ℕ → List ℕ
changes l p a b q c d = put (put l p (if (eqb (get_or l p 0) a) b (get_or l p 0))) q (if (eqb (get_or l q 0) c) d (get_or l q 0))

module _ (l : List ℕ) (p a b q c d : ℕ) (ne : p ≢ q) where
  changed-p : get_or l p 0 ≡ a → get_or (changes l p a b q c d) p 0 ≡ b
  changed-p e = get_or-put-other _ q p _ ne ∙ get_or-put-same l p _ 0 ∙ if-eq _ _ _ _ e

  changed-q : get_or l q 0 ≡ c → get_or (changes l p a b q c d) q 0 ≡ d
  changed-q e = get_or-put-same _ q _ 0 ∙ if-eq _ _ _ _ e

  changed-not : (u : ℕ) → get_or l u 0 ≢ a → get_or l u 0 ≢ c → get_or (changes l p a b q c d) u 0 ≡ get_or l u 0
  changed-not u x y = split u q
      (λ e. subst⁻¹ (λ (u : ℕ). get_or (changes l p a b q c d) u 0 ≡ get_or l u 0) e (get_or-put-same _ q _ 0 ∙ if-ne _ _ _ _ (λ z. y (ap (λ (u : ℕ). get_or l u 0) e ∙ z))))
      (λ n. get_or-put-other _ q u _ n ∙ split u p
      (λ e. subst⁻¹ (λ (u : ℕ). get_or (put l p (if (eqb (get_or l p 0) a) b (get_or l p 0))) u 0 ≡ get_or l u 0) e
      (get_or-put-same l p _ 0 ∙ if-ne _ _ _ _ (λ z. x (ap (λ (u : ℕ). get_or l u 0) e ∙ z))))
      (λ k. get_or-put-other l p u _ k))

-- ---- what a swap is given: an edge between two faces
pub record Edge (H₁ V₁ F₁ : ℕ → Type 0) (m : Links) (h o : ℕ) : Type 0 where
  pub shape : Shape (mesh_on H₁ V₁ F₁ m)
  pub con : Consistent (mesh_on H₁ V₁ F₁ m)
  pub h-in : H₁ h
  pub o-in : H₁ o
  pub h-partner : partner h ≡ o
  pub o-partner : partner o ≡ h
  pub h-faced : at m.edges face h ≢ NONE
  pub o-faced : at m.edges face o ≢ NONE

-- and the end that each half gets is not yet on its face
pub record Given (H₁ V₁ F₁ : ℕ → Type 0) (m : Links) (end : ℕ → ℕ) (h o : ℕ) : Type 0 where
  pub edge : Edge H₁ V₁ F₁ m h o
  pub h-clear : (t : ℕ) → H₁ t → at m.edges face t ≡ at m.edges face h → at m.edges head t ≢ end o
  pub o-clear : (t : ℕ) → H₁ t → at m.edges face t ≡ at m.edges face o → at m.edges head t ≢ end h

pub flip : {H₁ V₁ F₁ : ℕ → Type 0} {m : Links} {h o : ℕ} → Edge H₁ V₁ F₁ m h o → Edge H₁ V₁ F₁ m o h
flip g = record {
  shape = g.shape;
  con = g.con;
  h-in = g.o-in;
  o-in = g.h-in;
  h-partner = g.o-partner;
  o-partner = g.h-partner;
  h-faced = g.o-faced;
  o-faced = g.h-faced;
}

turned : {H₁ V₁ F₁ : ℕ → Type 0} {m : Links} {end : ℕ → ℕ} {h o : ℕ} → Given H₁ V₁ F₁ m end h o → Given H₁ V₁ F₁ m end o h
turned d = record { edge = flip d.edge; h-clear = d.o-clear; o-clear = d.h-clear }

-- ---- the places around h
module _ {H₁ V₁ F₁ : ℕ → Type 0} {m : Links} {h o : ℕ} (g : Edge H₁ V₁ F₁ m h o) where
  pub n-in : H₁ (at m.edges next h)
  n-in = g.con.core.next_in h g.h-in

  nn-in : H₁ (at m.edges next (at m.edges next h))
  nn-in = g.con.core.next_in (at m.edges next h) n-in

  pub b-in : H₁ (at m.edges prev h)
  b-in = g.con.core.prev_in h g.h-in

  pub bb-in : H₁ (at m.edges prev (at m.edges prev h))
  bb-in = g.con.core.prev_in (at m.edges prev h) b-in

  pub n-face : at m.edges face (at m.edges next h) ≡ at m.edges face h
  n-face = g.con.core.next_face h g.h-in

  nn-face : at m.edges face (at m.edges next (at m.edges next h)) ≡ at m.edges face h
  nn-face = g.con.core.next_face (at m.edges next h) n-in ∙ n-face

  pub b-face : at m.edges face (at m.edges prev h) ≡ at m.edges face h
  b-face = prev-face g.shape g.con.core h g.h-in

  pub bb-face : at m.edges face (at m.edges prev (at m.edges prev h)) ≡ at m.edges face h
  bb-face = prev-face g.shape g.con.core (at m.edges prev h) b-in ∙ b-face

  pub apart : (x y : ℕ) → at m.edges face x ≡ at m.edges face h → at m.edges face y ≡ at m.edges face o → x ≢ y
  apart x y p q e = two-faces g.shape g.con.core h g.h-in (sym p ∙ ap (at m.edges face) e ∙ q ∙ ap (at m.edges face) (sym g.h-partner))

  pub n≢h : at m.edges next h ≢ h
  n≢h = next-ne g.shape g.con.core h g.h-in

  nn≢n : at m.edges next (at m.edges next h) ≢ at m.edges next h
  nn≢n = next-ne g.shape g.con.core (at m.edges next h) n-in

  nn≢h : at m.edges next (at m.edges next h) ≢ h
  nn≢h = g.con.three.three_long h g.h-in g.h-faced

  pub b≢h : at m.edges prev h ≢ h
  b≢h e = n≢h (ap (at m.edges next) (sym e) ∙ g.con.core.next_prev h g.h-in)

  pub b≢n : at m.edges prev h ≢ at m.edges next h
  b≢n e = nn≢h (ap (at m.edges next) (sym e) ∙ g.con.core.next_prev h g.h-in)

  bb≢b : at m.edges prev (at m.edges prev h) ≢ at m.edges prev h
  bb≢b e = b≢h (sym (g.con.core.next_prev _ b-in) ∙ ap (at m.edges next) e ∙ g.con.core.next_prev h g.h-in)

  pub bb≢h : at m.edges prev (at m.edges prev h) ≢ h
  bb≢h e = b≢n (sym (g.con.core.next_prev _ b-in) ∙ ap (at m.edges next) e)

  -- what leaves the tail of h
  tail_of : (u : ℕ) → V₁ u → get_or m.outs u 0 ≡ h → u ≡ at m.edges head o
  tail_of u i e =
      sym (g.con.core.out_leaves u i (λ q. g.shape.H-none h g.h-in (sym e ∙ q))) ∙ ap (λ (z : ℕ). at m.edges head (partner z)) e ∙ ap (at m.edges head) g.h-partner

  -- the face that starts at one of h's face
  start_of : (r t : ℕ) → F₁ r → get_or m.faces r 0 ≡ t → at m.edges face t ≡ at m.edges face h → r ≡ at m.edges face h
  start_of r t i e q = sym (g.con.core.start_bears r i) ∙ ap (at m.edges face) e ∙ q

  v≢w : at m.edges head o ≢ at m.edges head h
  v≢w e = no_self g.shape g.con.core h g.h-in (ap (at m.edges head) g.h-partner ∙ e)

  f≢f : at m.edges face h ≢ at m.edges face o
  f≢f e = apart o o (sym e) refl refl

-- the leaving halfedges and the starts of the faces, where hx and ox leave their faces
abbrev swapped-outs : Links → ℕ → ℕ → List ℕ
swapped-outs m h o = changes m.outs (at m.edges head o) h (at m.edges next o) (at m.edges head h) o (at m.edges next h)

abbrev swapped-starts : Links → ℕ → ℕ → ℕ → ℕ → List ℕ
swapped-starts m h o hx ox = changes m.faces (at m.edges face h) hx h (at m.edges face o) ox o

-- the stores, the last first
abbrev pub ccw-run : List ℕ → ℕ → ℕ → List Store
ccw-run ed h o =
    let hn = at ed next h in
    let on = at ed next o in
    let hp = at ed prev h in
    let op = at ed prev o in
    let hnn = at ed next hn in
    let onn = at ed next on in
    store face on (at ed face h) ∷ store face hn (at ed face o)
    ∷ store prev h on ∷ store next on h ∷ store prev on hp ∷ store next hp on ∷ store prev hnn h ∷ store next h hnn
    ∷ store prev o hn ∷ store next hn o ∷ store prev hn op ∷ store next op hn ∷ store prev onn o ∷ store next o onn
    ∷ store head o (at ed head on) ∷ store head h (at ed head hn) ∷ []

abbrev pub cw-run : List ℕ → ℕ → ℕ → List Store
cw-run ed h o =
    let hn = at ed next h in
    let on = at ed next o in
    let hp = at ed prev h in
    let op = at ed prev o in
    let hpp = at ed prev hp in
    let opp = at ed prev op in
    store face hp (at ed face o) ∷ store face op (at ed face h)
    ∷ store prev o opp ∷ store next opp o ∷ store prev on hp ∷ store next hp on ∷ store prev hp o ∷ store next o hp
    ∷ store prev h hpp ∷ store next hpp h ∷ store prev hn op ∷ store next op hn ∷ store prev op h ∷ store next h op
    ∷ store head o (at ed head (partner hp)) ∷ store head h (at ed head (partner op)) ∷ []

abbrev with-words : List ℕ → List ℕ → List ℕ → Links → Links
with-words o e s m = record { nv = m.nv; ne = m.ne; nf = m.nf; outs = o; edges = e; faces = s }

-- ---- counter-clockwise

-- else the new end of h would be on o's face
not_last : {H₁ V₁ F₁ : ℕ → Type 0} {m : Links} {h o : ℕ} → Given H₁ V₁ F₁ m (λ x. at m.edges head (at m.edges next x)) h o → at m.edges next h ≢ partner (at m.edges prev o)
not_last {m = m} d e =
    let g = d.edge in
    d.o-clear _ (bb-in (flip g)) (bb-face (flip g)) (head-prev g.shape g.con.core _ (b-in (flip g)) ∙ ap (at m.edges head) (sym e))

neq : {x y : ℕ} → x ≢ y → y ≢ x
neq p q = p (sym q)

module _ {H₁ V₁ F₁ : ℕ → Type 0} {m : Links} {h o : ℕ} (g : Edge H₁ V₁ F₁ m h o) (d : Given H₁ V₁ F₁ m (λ x. at m.edges head (at m.edges next x)) h o) where
  -- one of h's face is not one of o's, and the other way round
  ho : (x y : ℕ) → at m.edges face x ≡ at m.edges face h → at m.edges face y ≡ at m.edges face o → x ≢ y
  ho = apart g

  oh : (x y : ℕ) → at m.edges face x ≡ at m.edges face o → at m.edges face y ≡ at m.edges face h → x ≢ y
  oh x y p q = neq (apart g y x q p)

  after : Links
  after = with-words (swapped-outs m h o) (stores m.edges (ccw-run m.edges h o)) (swapped-starts m h o (at m.edges next h) (at m.edges next o)) m

  one : Half (mesh_on H₁ V₁ F₁ m) (mesh_on H₁ V₁ F₁ after) h o
  unfolding after
  one = let ed = m.edges in let r = ccw-run m.edges h o in record {
    h-in = g.h-in;
    is-partner = g.h-partner;
    faced = g.h-faced;
    not_last = not_last d;
    clear = d.h-clear;
    head-h = found ed head _ _ r (inr (ho _ _ refl refl, inl (refl, refl)));
    face-n = found ed face _ _ r (inr (ho _ _ (n-face g) (n-face (flip g)), inl (refl, refl)));
    next-h = found ed next _ _ r (inr (ho _ _ refl (n-face (flip g)), inr (neq (b≢h g), inl (refl, refl))));
    next-n = found ed next _ _ r (inr (ho _ _ (n-face g) (n-face (flip g)), inr (neq (b≢n g), inr (n≢h g, inl (refl, refl)))));
    next-b = found ed next _ _ r (inr (ho _ _ (b-face g) (n-face (flip g)), inl (refl, refl)));
    prev-h = found ed prev _ _ r (inl (refl, refl));
    prev-n = found ed prev _ _ r (inr (n≢h g, inr (ho _ _ (n-face g) (n-face (flip g)), inr (neq (nn≢n g), inr (ho _ _ (n-face g) refl, inl (refl, refl))))));
    prev-nn = found ed prev _ _ r (inr (nn≢h g, inr (ho _ _ (nn-face g) (n-face (flip g)), inl (refl, refl))));
    start-n = λ x i e. (let q = start_of g x _ i e (n-face g) in subst⁻¹ (λ (x : ℕ). get_or after.faces x 0 ≡ h) q
        (changed-p m.faces _ _ _ _ _ _ (f≢f g) (subst (λ (x : ℕ). get_or m.faces x 0 ≡ at m.edges next h) q e)));
    out-h = λ u i e. (let q = tail_of g u i e in subst⁻¹ (λ (u : ℕ). get_or after.outs u 0 ≡ at m.edges next o) q
        (changed-p m.outs _ _ _ _ _ _ (v≢w g) (subst (λ (u : ℕ). get_or m.outs u 0 ≡ h) q e)));
  }

  two : Half (mesh_on H₁ V₁ F₁ m) (mesh_on H₁ V₁ F₁ after) o h
  unfolding after
  two = let ed = m.edges in let r = ccw-run m.edges h o in record {
    h-in = g.o-in;
    is-partner = g.o-partner;
    faced = g.o-faced;
    not_last = not_last (turned d);
    clear = d.o-clear;
    head-h = found ed head _ _ r (inl (refl, refl));
    face-n = found ed face _ _ r (inl (refl, refl));
    next-h = found ed next _ _ r (inr (neq (n≢h (flip g)), inr (oh _ _ refl (b-face g), inr (oh _ _ refl refl, inr (oh _ _ refl (n-face g), inr (neq (b≢h (flip g)), inl (refl, refl)))))));
    next-n = found ed next _ _ r (inl (refl, refl));
    next-b = found ed next _ _ r
        (inr (b≢n (flip g), inr (oh _ _ (b-face (flip g)) (b-face g), inr (oh _ _ (b-face (flip g)) refl, inr (oh _ _ (b-face (flip g)) (n-face g), inl (refl, refl))))));
    prev-h = found ed prev _ _ r (inr (oh _ _ refl refl, inr (neq (n≢h (flip g)), inr (oh _ _ refl (nn-face g), inl (refl, refl)))));
    prev-n = found ed prev _ _ r (inr (oh _ _ (n-face (flip g)) refl, inl (refl, refl)));
    prev-nn = found ed prev _ _ r
        (inr (oh _ _ (nn-face (flip g)) refl, inr (nn≢n (flip g), inr (oh _ _ (nn-face (flip g)) (nn-face g), inr (nn≢h (flip g), inr (oh _ _ (nn-face (flip g)) (n-face g), inl (refl, refl)))))));
    start-n = λ x i e. (let q = start_of (flip g) x _ i e (n-face (flip g)) in subst⁻¹ (λ (x : ℕ). get_or after.faces x 0 ≡ o) q
        (changed-q m.faces _ _ _ _ _ _ (f≢f g) (subst (λ (x : ℕ). get_or m.faces x 0 ≡ at m.edges next o) q e)));
    out-h = λ u i e. (let q = tail_of (flip g) u i e in subst⁻¹ (λ (u : ℕ). get_or after.outs u 0 ≡ at m.edges next h) q
        (changed-q m.outs _ _ _ _ _ _ (v≢w g) (subst (λ (u : ℕ). get_or m.outs u 0 ≡ o) q e)));
  }

  both : Swap (mesh_on H₁ V₁ F₁ m) (mesh_on H₁ V₁ F₁ after) h o
  unfolding after
  both = let ed = m.edges in let r = ccw-run m.edges h o in record {
    one = one;
    two = two;
    keep-H = λ t i. i;
    H-is = λ t i. i;
    keep-V = λ u i. i;
    V-is = λ u i. i;
    keep-F = λ x i. i;
    F-is = λ x i. i;
    face-old = λ t i p q. missed ed face t r (q, (p, tt));
    head-old = λ t i p q. missed ed head t r (q, (p, tt));
    next-old = λ t i p₁ p₂ p₃ q₁ q₂ q₃. missed ed next t r (q₂, (p₃, (p₁, (p₂, (q₃, (q₁, tt))))));
    prev-old = λ t i p₁ p₂ p₃ q₁ q₂ q₃. missed ed prev t r (p₁, (q₂, (p₃, (q₁, (p₂, (q₃, tt))))));
    start-old = λ x i p q. changed-not m.faces _ _ _ _ _ _ (f≢f g) x p q;
    out-old = λ u i p q. changed-not m.outs _ _ _ _ _ _ (v≢w g) u p q;
  }

pub swap_ccw-on : {H₁ V₁ F₁ : ℕ → Type 0} (m : Links) (e : ℕ) → Given H₁ V₁ F₁ m (λ x. at m.edges head (at m.edges next x)) (2 * e) (2 * e + 1)
    → Swap (mesh_on H₁ V₁ F₁ m) (mesh_on H₁ V₁ F₁ (swap_ccw e m)) (2 * e) (2 * e + 1)
unfolding swap_ccw after
swap_ccw-on {H₁} {V₁} {F₁} m e g =
    subst (λ (t : ℕ). Swap (mesh_on H₁ V₁ F₁ m) (mesh_on H₁ V₁ F₁ (with-words (swapped-by t) (stores m.edges (ccw-run m.edges (2 * e) (2 * e + 1)))
    (swapped-starts m (2 * e) (2 * e + 1) (at m.edges next (2 * e)) (at m.edges next (2 * e + 1))) m)) (2 * e) (2 * e + 1)) (sym (partner-even e)) (both g.edge g)
  where
    swapped-by : ℕ → List ℕ
    swapped-by t = changes m.outs (at m.edges head t) (2 * e) (at m.edges next (2 * e + 1)) (at m.edges head (2 * e)) (2 * e + 1) (at m.edges next (2 * e))

-- ---- clockwise

-- what is not the head of any of a face's halfedges is not the tail of any
tails-clear : {H₁ V₁ F₁ : ℕ → Type 0} {m : Links} {end : ℕ → ℕ} {h o : ℕ} → Given H₁ V₁ F₁ m end h o → (t : ℕ) → H₁ t → at m.edges face t ≡ at m.edges face h → at m.edges head (partner t) ≢ end o
tails-clear d t i f e = let g = d.edge in d.h-clear _ (g.con.core.prev_in t i) (prev-face g.shape g.con.core t i ∙ f) (head-prev g.shape g.con.core t i ∙ e)

-- else the new end of h would be on o's face
not-last-cw : {H₁ V₁ F₁ : ℕ → Type 0} {m : Links} {h o : ℕ} → Given H₁ V₁ F₁ m (λ x. at m.edges head (partner (at m.edges prev x))) h o
    → at m.edges prev h ≢ partner (at m.edges next o)
not-last-cw {m = m} d e = let g = d.edge in d.o-clear _ (n-in (flip g)) (n-face (flip g)) (ap (at m.edges head) (sym (partner-partner _) ∙ ap partner (sym e)))

module _ {H₁ V₁ F₁ : ℕ → Type 0} {m : Links} {h o : ℕ} (g : Edge H₁ V₁ F₁ m h o) (d : Given H₁ V₁ F₁ m (λ x. at m.edges head (partner (at m.edges prev x))) h o) where
  hq : (x y : ℕ) → at m.edges face x ≡ at m.edges face h → at m.edges face y ≡ at m.edges face o → x ≢ y
  hq = apart g

  oq : (x y : ℕ) → at m.edges face x ≡ at m.edges face o → at m.edges face y ≡ at m.edges face h → x ≢ y
  oq x y p q = neq (apart g y x q p)

  after-cw : Links
  after-cw = with-words (swapped-outs m h o) (stores m.edges (cw-run m.edges h o)) (swapped-starts m h o (at m.edges prev h) (at m.edges prev o)) m

  one-cw : HalfCw (mesh_on H₁ V₁ F₁ m) (mesh_on H₁ V₁ F₁ after-cw) h o
  unfolding after-cw
  one-cw = let ed = m.edges in let r = cw-run m.edges h o in record {
    h-in = g.h-in;
    is-partner = g.h-partner;
    faced = g.h-faced;
    not_last = not-last-cw d;
    clear = tails-clear d;
    head-o = found ed head _ _ r (inl (refl, refl));
    face-b = found ed face _ _ r (inl (refl, refl));
    prev-h = found ed prev _ _ r (inr (hq _ _ refl refl, inr (hq _ _ refl (n-face (flip g)), inr (neq (b≢h g), inl (refl, refl)))));
    prev-b = found ed prev _ _ r (inr (hq _ _ (b-face g) refl, inr (hq _ _ (b-face g) (n-face (flip g)), inl (refl, refl))));
    prev-n = found ed prev _ _ r (inr (hq _ _ (n-face g) refl, inr (hq _ _ (n-face g) (n-face (flip g)), inr (neq (b≢n g), inr (n≢h g, inl (refl, refl))))));
    next-h = found ed next _ _ r (inr (hq _ _ refl (bb-face (flip g)), inr (neq (b≢h g), inr (hq _ _ refl refl, inr (neq (bb≢h g), inr (hq _ _ refl (b-face (flip g)), inl (refl, refl)))))));
    next-b = found ed next _ _ r (inr (hq _ _ (b-face g) (bb-face (flip g)), inl (refl, refl)));
    next-bb = found ed next _ _ r (inr (hq _ _ (bb-face g) (bb-face (flip g)), inr (bb≢b g, inr (hq _ _ (bb-face g) refl, inl (refl, refl)))));
    start-b = λ x i e. (let q = start_of g x _ i e (b-face g) in subst⁻¹ (λ (x : ℕ). get_or after-cw.faces x 0 ≡ h) q
        (changed-p m.faces _ _ _ _ _ _ (f≢f g) (subst (λ (x : ℕ). get_or m.faces x 0 ≡ at m.edges prev h) q e)));
    out-h = λ u i e. (let q = tail_of g u i e in subst⁻¹ (λ (u : ℕ). get_or after-cw.outs u 0 ≡ at m.edges next o) q
        (changed-p m.outs _ _ _ _ _ _ (v≢w g) (subst (λ (u : ℕ). get_or m.outs u 0 ≡ h) q e)));
  }

  two-cw : HalfCw (mesh_on H₁ V₁ F₁ m) (mesh_on H₁ V₁ F₁ after-cw) o h
  unfolding after-cw
  two-cw = let ed = m.edges in let r = cw-run m.edges h o in record {
    h-in = g.o-in;
    is-partner = g.o-partner;
    faced = g.o-faced;
    not_last = not-last-cw (turned d);
    clear = tails-clear (turned d);
    head-o = found ed head _ _ r (inr (hq _ _ refl refl, inl (refl, refl)));
    face-b = found ed face _ _ r (inr (oq _ _ (b-face (flip g)) (b-face g), inl (refl, refl)));
    prev-h = found ed prev _ _ r (inl (refl, refl));
    prev-b = found ed prev _ _ r
        (inr (b≢h (flip g), inr (b≢n (flip g), inr (oq _ _ (b-face (flip g)) (b-face g), inr (oq _ _ (b-face (flip g)) refl, inr (oq _ _ (b-face (flip g)) (n-face g), inl (refl, refl)))))));
    prev-n = found ed prev _ _ r (inr (n≢h (flip g), inl (refl, refl)));
    next-h = found ed next _ _ r (inr (neq (bb≢h (flip g)), inr (oq _ _ refl (b-face g), inl (refl, refl))));
    next-b = found ed next _ _ r
        (inr (neq (bb≢b (flip g)), inr (oq _ _ (b-face (flip g)) (b-face g), inr (b≢h (flip g), inr (oq _ _ (b-face (flip g)) (bb-face g), inl (refl, refl))))));
    next-bb = found ed next _ _ r (inl (refl, refl));
    start-b = λ x i e. (let q = start_of (flip g) x _ i e (b-face (flip g)) in subst⁻¹ (λ (x : ℕ). get_or after-cw.faces x 0 ≡ o) q
        (changed-q m.faces _ _ _ _ _ _ (f≢f g) (subst (λ (x : ℕ). get_or m.faces x 0 ≡ at m.edges prev o) q e)));
    out-h = λ u i e. (let q = tail_of (flip g) u i e in subst⁻¹ (λ (u : ℕ). get_or after-cw.outs u 0 ≡ at m.edges next h) q
        (changed-q m.outs _ _ _ _ _ _ (v≢w g) (subst (λ (u : ℕ). get_or m.outs u 0 ≡ o) q e)));
  }

  both-cw : SwapCw (mesh_on H₁ V₁ F₁ m) (mesh_on H₁ V₁ F₁ after-cw) h o
  unfolding after-cw
  both-cw = let ed = m.edges in let r = cw-run m.edges h o in record {
    one = one-cw;
    two = two-cw;
    keep-H = λ t i. i;
    H-is = λ t i. i;
    keep-V = λ u i. i;
    V-is = λ u i. i;
    keep-F = λ x i. i;
    F-is = λ x i. i;
    face-old = λ t i p q. missed ed face t r (p, (q, tt));
    head-old = λ t i p q. missed ed head t r (q, (p, tt));
    next-old = λ t i p₁ p₂ p₃ q₁ q₂ q₃. missed ed next t r (q₃, (p₂, (q₁, (p₃, (q₂, (p₁, tt))))));
    prev-old = λ t i p₁ p₂ p₃ q₁ q₂ q₃. missed ed prev t r (q₁, (q₃, (p₂, (p₁, (p₃, (q₂, tt))))));
    start-old = λ x i p q. changed-not m.faces _ _ _ _ _ _ (f≢f g) x p q;
    out-old = λ u i p q. changed-not m.outs _ _ _ _ _ _ (v≢w g) u p q;
  }

pub swap_cw-on : {H₁ V₁ F₁ : ℕ → Type 0} (m : Links) (e : ℕ) → Given H₁ V₁ F₁ m (λ x. at m.edges head (partner (at m.edges prev x))) (2 * e) (2 * e + 1)
    → SwapCw (mesh_on H₁ V₁ F₁ m) (mesh_on H₁ V₁ F₁ (swap_cw e m)) (2 * e) (2 * e + 1)
unfolding swap_cw after-cw
swap_cw-on {H₁} {V₁} {F₁} m e g =
    subst (λ (t : ℕ). SwapCw (mesh_on H₁ V₁ F₁ m) (mesh_on H₁ V₁ F₁ (with-words (swapped-by t) (stores m.edges (cw-run m.edges (2 * e) (2 * e + 1)))
    (swapped-starts m (2 * e) (2 * e + 1) (at m.edges prev (2 * e)) (at m.edges prev (2 * e + 1))) m)) (2 * e) (2 * e + 1)) (sym (partner-even e)) (both-cw g.edge g)
  where
    swapped-by : ℕ → List ℕ
    swapped-by t = changes m.outs (at m.edges head t) (2 * e) (at m.edges next (2 * e + 1)) (at m.edges head (2 * e)) (2 * e + 1) (at m.edges next (2 * e))
