-- What a list has, and a list of halfedges that are given a face. Assumes nothing.
use mathlib.Core.Path.{◌≡◌, refl, sym, ◌∙◌, subst, subst⁻¹}
use mathlib.Core.Logic.{inl}
use mathlib.Core.Bool.{Bool, true, false}
use mathlib.Core.List.{List, [], ◌∷◌}
use Prim.Native.Nat.{ℕ, zero, suc, ◌*◌, ◌<◌}
use native.Mathlib.Nat.{not-suc-le-zero}
use native.Mathlib.Omega.{arith}
use lib.Dec.{T}
use lib.ListN.{length}
use Rattle.scope.specs.Lists.{if, has}
use Rattle.scope.specs.Links.{Links}
use Rattle.scope.specs.Edits.{paint}
use Rattle.laws_mesh.specs.Reach.{iter}
use Rattle.laws_mesh.proofs.Cycle.{split, iter-front, if-eq, if-ne}
use Rattle.laws_mesh.proofs.Stores.{face, head, next, prev, at, store, missed, found, stores-kept}
use Rattle.laws_mesh.proofs.Loops.{steps}

-- ---- has

pub has_here : (x y : ℕ) (l : List ℕ) → x ≡ y → T (has x (y ∷ l))
unfolding has
has_here x y l e = subst⁻¹ T (if-eq x y true (has x l) e) tt

pub has_there : (x y : ℕ) (l : List ℕ) → T (has x l) → T (has x (y ∷ l))
unfolding has
has_there x y l t = split x y (λ e. subst⁻¹ T (if-eq x y true (has x l) e) tt) (λ n. subst⁻¹ T (if-ne x y true (has x l) n) t)

pub has-cases : {C : Type 0} (x y : ℕ) (l : List ℕ) → T (has x (y ∷ l)) → (x ≡ y → C) → (T (has x l) → C) → C
unfolding has
has-cases x y l t f g = split x y f (λ n. g (subst T (if-ne x y true (has x l) n) t))

pub has-steps : (f : ℕ → ℕ) (k x i t : ℕ) → i < k → iter f i x ≡ t → T (has t (steps f x k))
unfolding steps
has-steps f zero x i t l e = absurd (not-suc-le-zero l)
has-steps f (suc k) x zero t l e = has_here t x _ (sym e)
has-steps f (suc k) x (suc i) t l e = has_there t x _ (has-steps f k (f x) i t (omega arith) (sym (iter-front f x i) ∙ e))

pub steps-has : (f : ℕ → ℕ) (k x t : ℕ) → T (has t (steps f x k)) → (i : ℕ) × (i < k) × (iter f i x ≡ t)
unfolding steps has
steps-has f zero x t p = absurd p
steps-has f (suc k) x t p = has-cases t x (steps f (f x) k) p (λ e. (zero, omega arith, sym e))
    (λ q. let (i, l, e) = steps-has f k (f x) t q in (suc i, omega arith, iter-front f x i ∙ e))

-- a choice by what a list has
pub if-has : {A : Type 0} (b : Bool) (x y : A) → T b → if b x y ≡ x
if-has true x y t = refl
if-has false x y t = absurd t

pub if-not : {A : Type 0} (b : Bool) (x y : A) → ¬ T b → if b x y ≡ y
if-not true x y t = absurd (t tt)
if-not false x y t = refl

-- ---- paint

-- nothing but faces is changed
pub paint-outs : (g : ℕ) (hs : List ℕ) (m : Links) → (paint g hs m).outs ≡ m.outs
unfolding paint
paint-outs g [] m = refl
paint-outs g (h ∷ hs) m = paint-outs g hs _

pub paint-starts : (g : ℕ) (hs : List ℕ) (m : Links) → (paint g hs m).faces ≡ m.faces
unfolding paint
paint-starts g [] m = refl
paint-starts g (h ∷ hs) m = paint-starts g hs _

pub paint-nv : (g : ℕ) (hs : List ℕ) (m : Links) → (paint g hs m).nv ≡ m.nv
unfolding paint
paint-nv g [] m = refl
paint-nv g (h ∷ hs) m = paint-nv g hs _

pub paint-ne : (g : ℕ) (hs : List ℕ) (m : Links) → (paint g hs m).ne ≡ m.ne
unfolding paint
paint-ne g [] m = refl
paint-ne g (h ∷ hs) m = paint-ne g hs _

pub paint-nf : (g : ℕ) (hs : List ℕ) (m : Links) → (paint g hs m).nf ≡ m.nf
unfolding paint
paint-nf g [] m = refl
paint-nf g (h ∷ hs) m = paint-nf g hs _

pub paint-head : (g : ℕ) (hs : List ℕ) (m : Links) (t : ℕ) → at (paint g hs m).edges head t ≡ at m.edges head t
unfolding paint
paint-head g [] m t = refl
paint-head g (h ∷ hs) m t = paint-head g hs _ t ∙ missed m.edges head t (store face h g ∷ []) tt

pub paint-next : (g : ℕ) (hs : List ℕ) (m : Links) (t : ℕ) → at (paint g hs m).edges next t ≡ at m.edges next t
unfolding paint
paint-next g [] m t = refl
paint-next g (h ∷ hs) m t = paint-next g hs _ t ∙ missed m.edges next t (store face h g ∷ []) tt

pub paint-prev : (g : ℕ) (hs : List ℕ) (m : Links) (t : ℕ) → at (paint g hs m).edges prev t ≡ at m.edges prev t
unfolding paint
paint-prev g [] m t = refl
paint-prev g (h ∷ hs) m t = paint-prev g hs _ t ∙ missed m.edges prev t (store face h g ∷ []) tt

pub paint-off : (g : ℕ) (hs : List ℕ) (m : Links) (t : ℕ) → ¬ T (has t hs) → at (paint g hs m).edges face t ≡ at m.edges face t
unfolding paint
paint-off g [] m t o = refl
paint-off g (h ∷ hs) m t o = paint-off g hs _ t (λ p. o (has_there t h hs p)) ∙ missed m.edges face t (store face h g ∷ []) ((λ e. o (has_here t h hs e)), tt)

-- once it has face g it keeps it
painted : (g : ℕ) (hs : List ℕ) (m : Links) (t : ℕ) → at m.edges face t ≡ g → at (paint g hs m).edges face t ≡ g
unfolding paint
painted g [] m t e = e
painted g (h ∷ hs) m t e = painted g hs _ t (split t h
    (λ q. found m.edges face t g (store face h g ∷ []) (inl (q, refl)))
    (λ q. missed m.edges face t (store face h g ∷ []) (q, tt) ∙ e))

pub paint-on : (g : ℕ) (hs : List ℕ) (m : Links) (t : ℕ) → T (has t hs) → at (paint g hs m).edges face t ≡ g
unfolding paint has
paint-on g [] m t p = absurd p
paint-on g (h ∷ hs) m t p = has-cases t h hs p (λ e. painted g hs _ t (found m.edges face t g (store face h g ∷ []) (inl (e, refl)))) (λ q. paint-on g hs _ t q)

pub paint-long : (g : ℕ) (hs : List ℕ) (m : Links) (n : ℕ) → length m.edges ≡ 4 * n → ((t : ℕ) → T (has t hs) → t < n) → length (paint g hs m).edges ≡ 4 * n
unfolding paint
paint-long g [] m n e b = e
paint-long g (h ∷ hs) m n e b = paint-long g hs _ n (stores-kept n m.edges (store face h g ∷ []) e (b h (has_here h h hs refl), tt) ∙ e) (λ t p. b t (has_there t h hs p))
