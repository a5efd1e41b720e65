-- Scope's split edge makes the mesh that `SplitEdge` describes, whatever says which elements are there. Assumes nothing.
use mathlib.Core.Path.{◌≡◌, refl, sym, ap, ◌∙◌, subst, subst⁻¹}
use mathlib.Core.Logic.{inl, inr, ◌≢◌}
use mathlib.Core.List.{List, [], ◌∷◌}
use Prim.Native.Nat.{ℕ, ◌+◌, ◌*◌}
use lib.Dec.{eqb}
use lib.ListN.{get_or}
use Rattle.scope.specs.Lists.{put, if}
use Rattle.scope.specs.Links.{Links, NONE, partner}
use Rattle.scope.specs.Edits.{split_edge}
use Rattle.laws_mesh.specs.Mesh.{Shape, Core}
use Rattle.laws_mesh.specs.Of.{mesh_on}
use Rattle.laws_mesh.proofs.Cycle.{if-eq, if-ne, split}
use Rattle.laws_mesh.proofs.Facts.{partner-even, partner-ne, next-partner-ne, prev-ne}
use Rattle.laws_mesh.proofs.Puts.{get_or-put-same, get_or-put-other}
use Rattle.laws_mesh.proofs.Stores.{face, head, next, prev, at, Store, store, missed, found}
use Rattle.laws_mesh.proofs.Carriers.{SameSet, NewEdge}
use Rattle.laws_mesh.proofs.SplitEdge.{SplitEdge}

-- the stores of split edge, the last first; n, k are the halves of the new edge
abbrev split-run : List ℕ → ℕ → ℕ → ℕ → ℕ → List Store
split-run ed h v n k =
    let o = partner h in
    let b = at ed prev h in
    let a = at ed next o in
    store next o k ∷ store prev h n ∷ store head o v ∷ store prev a k ∷ store next b n
    ∷ store prev k o ∷ store next k a ∷ store head k (at ed head o) ∷ store face k (at ed face o)
    ∷ store prev n b ∷ store next n h ∷ store head n v ∷ store face n (at ed face h) ∷ []

abbrev pub split-stores : ℕ → ℕ → Links → List Store
split-stores h v m = split-run m.edges h v (2 * m.ne) (2 * m.ne + 1)

-- m with other leaving halfedges
abbrev pub with-outs : List ℕ → Links → Links
with-outs l m = record { nv = m.nv; ne = m.ne; nf = m.nf; outs = l; edges = m.edges; faces = m.faces }

-- what the edit is given: v is isolated; where it is new its link, read as none, need not be written yet
pub record Given (H₁ V₁ F₁ : ℕ → Type 0) (m : Links) (outs₁ : List ℕ) (h v : ℕ) : Type 0 where
  pub shape : Shape (mesh_on H₁ V₁ F₁ (with-outs outs₁ m))
  pub core : Core (mesh_on H₁ V₁ F₁ (with-outs outs₁ m))
  pub h-in : H₁ h
  pub v_in : V₁ v
  pub v-free : get_or outs₁ v 0 ≡ NONE
  pub others : (u : ℕ) → u ≢ v → get_or outs₁ u 0 ≡ get_or m.outs u 0

module _ {H₁ V₁ F₁ H₂ V₂ F₂ : ℕ → Type 0} {m : Links} {outs₁ : List ℕ} {h v : ℕ} (g : Given H₁ V₁ F₁ m outs₁ h v)
    (b : NewEdge H₁ H₂ (2 * m.ne)) (V₁₂ : SameSet V₁ V₂) (F₁₂ : SameSet F₁ F₂) where
  ed : List ℕ
  ed = m.edges

  n : ℕ
  n = 2 * m.ne

  k : ℕ
  k = 2 * m.ne + 1

  is-k : partner n ≡ k
  unfolding n k
  is-k = partner-even m.ne

  ne : {x y : ℕ} → x ≢ y → y ≢ x
  ne p q = p (sym q)

  n≢k : n ≢ k
  n≢k e = partner-ne n (is-k ∙ sym e)

  old-n : (x : ℕ) → H₁ x → x ≢ n
  unfolding n
  old-n x i e = b.n-new (subst H₁ e i)

  old-k : (x : ℕ) → H₁ x → x ≢ k
  unfolding n
  old-k x i e = b.o-new (subst H₁ (e ∙ sym is-k) i)

  o-in : H₁ (partner h)
  o-in = g.shape.H-partner h g.h-in

  b-in : H₁ (at ed prev h)
  unfolding ed
  b-in = g.core.prev_in h g.h-in

  a_in : H₁ (at ed next (partner h))
  unfolding ed
  a_in = g.core.next_in (partner h) o-in

  a : ℕ
  a = at ed head (partner h)

  a≢v : a ≢ v
  unfolding a ed
  a≢v = g.core.none_leaves v g.v_in g.v-free h g.h-in

  -- the leaving halfedges
  new-out : ℕ
  new-out = if (eqb (at ed face (partner h)) NONE) k h

  outs : List ℕ
  outs = put (put m.outs v new-out) a (if (eqb (get_or m.outs a 0) h) n (get_or m.outs a 0))

  out-v : get_or outs v 0 ≡ new-out
  unfolding outs
  out-v = get_or-put-other _ a v _ (ne a≢v) ∙ get_or-put-same m.outs v new-out 0

  out-from : (u : ℕ) → V₁ u → get_or outs₁ u 0 ≡ h → get_or outs u 0 ≡ n
  unfolding outs a ed
  out-from u i e =
      let q : a ≡ u = ap (λ (x : ℕ). at ed head (partner x)) (sym e) ∙ g.core.out_leaves u i (λ r. g.shape.H-none h g.h-in (sym e ∙ r)) in
      subst (λ (w : ℕ). get_or outs w 0 ≡ n) q
      (get_or-put-same _ a _ 0 ∙ if-eq _ h n _ (sym (g.others a a≢v) ∙ ap (λ (w : ℕ). get_or outs₁ w 0) q ∙ e))

  out-old : (u : ℕ) → u ≢ v → get_or outs₁ u 0 ≢ h → get_or outs u 0 ≡ get_or outs₁ u 0
  unfolding outs
  out-old u p q = split u a
      (λ e. subst⁻¹ (λ (w : ℕ). get_or outs w 0 ≡ get_or outs₁ w 0) e
      (get_or-put-same _ a _ 0 ∙ if-ne _ h n _ (λ r. q (ap (λ (w : ℕ). get_or outs₁ w 0) e ∙ g.others a a≢v ∙ r)) ∙ sym (g.others a a≢v)))
      (λ e. get_or-put-other _ a u _ e ∙ get_or-put-other m.outs v u new-out p ∙ sym (g.others u p))

  pub split-on : SplitEdge (mesh_on H₁ V₁ F₁ (with-outs outs₁ m)) (mesh_on H₂ V₂ F₂ (split_edge h v m)) h v (2 * m.ne)
  unfolding split_edge new-out outs a k n ed
  split-on = let r = split-run ed h v n k in record {
    h-in = g.h-in;
    v_in = g.v_in;
    v-free = g.v-free;
    n-new = b.n-new;
    o-new = b.o-new;
    keep-H = b.keep;
    n-in = b.n-in;
    o-in = b.o-in;
    H-is = b.is;
    keep-V = V₁₂.keep;
    V-is = V₁₂.is;
    keep-F = F₁₂.keep;
    F-is = F₁₂.is;
    face-n = found ed face n _ r (inr (n≢k, inl (refl, refl)));
    face-o = rw is-k (found ed face k _ r (inl (refl, refl)));
    face-old = λ x i. missed ed face x r (old-k x i, (old-n x i, tt));
    head-n = found ed head n _ r (inr (ne (old-n _ o-in), inr (n≢k, inl (refl, refl))));
    head-o = rw is-k (found ed head k _ r (inr (ne (old-k _ o-in), inl (refl, refl))));
    head-p = found ed head _ _ r (inl (refl, refl));
    head-old = λ x i p. missed ed head x r (p, (old-k x i, (old-n x i, tt)));
    next-n = found ed next n _ r (inr (ne (old-n _ o-in), inr (ne (old-n _ b-in), inr (n≢k, inl (refl, refl)))));
    next-o = rw is-k (found ed next k _ r (inr (ne (old-k _ o-in), inr (ne (old-k _ b-in), inl (refl, refl)))));
    next-b = found ed next _ _ r (inr (prev-ne g.shape g.core h g.h-in, inl (refl, refl)));
    next-p = rw is-k (found ed next _ _ r (inl (refl, refl)));
    next-old = λ x i p q. missed ed next x r (q, (p, (old-k x i, (old-n x i, tt))));
    prev-n = found ed prev n _ r (inr (ne (old-n _ g.h-in), inr (ne (old-n _ a_in), inr (n≢k, inl (refl, refl)))));
    prev-o = rw is-k (found ed prev k _ r (inr (ne (old-k _ g.h-in), inr (ne (old-k _ a_in), inl (refl, refl)))));
    prev-h = found ed prev _ _ r (inl (refl, refl));
    prev-a = rw is-k (found ed prev _ _ r (inr (next-partner-ne g.shape g.core h g.h-in, inl (refl, refl))));
    prev-old = λ x i p q. missed ed prev x r (p, (q, (old-k x i, (old-n x i, tt))));
    start-old = λ f i. refl;
    out-rim = λ e. out-v ∙ if-eq _ _ _ _ e ∙ sym is-k;
    out_in = λ e. out-v ∙ if-ne _ _ _ _ e;
    out-from = out-from;
    out-old = λ u i p q. out-old u p q;
  }
