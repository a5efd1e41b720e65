-- Runs of stores: in a slice that is long enough they are those in a list that grows, and they keep what a slice holds. Assumes nothing.
use Prim.Native.Nat.{ℕ, zero, suc, ◌*◌, ◌≤◌, ◌<◌}
use mathlib.Core.Path.{◌≡◌, refl, sym, ap, ◌∙◌}
use mathlib.Core.Logic.{◌≢◌}
use mathlib.Core.List.{List, [], ◌∷◌}
use native.Mathlib.Omega.{arith}
use lib.ListN.{length, set, length-set}
use Rattle.scope.specs.Lists.{put, lay}
use Rattle.laws_mesh.proofs.Stores.{Word, face, head, next, prev, slot, Store, store, stores, Below}
use Rattle.mesh.proofs.SliceLaws.{set-put, set-lay, length-lay}
use Rattle.scope.specs.Links.{Links}
use Rattle.links_edits.specs.Held.{held}

-- the same run in a slice
abbrev pub sets : List ℕ → List Store → List ℕ
sets es [] = es
sets es (store w h x ∷ r) = set (sets es r) (slot w h) x

slot_lt : (w : Word) (h n : ℕ) → h < n → slot w h < 4 * n
slot_lt face h n l = omega arith
slot_lt head h n l = omega arith
slot_lt next h n l = omega arith
slot_lt prev h n l = omega arith

sets-long : (es : List ℕ) (r : List Store) → length (sets es r) ≡ length es
sets-long es [] = refl
sets-long es (store w h x ∷ r) = length-set (sets es r) (slot w h) x ∙ sets-long es r

-- inside a slice
pub sets-stores : (n : ℕ) (es : List ℕ) (r : List Store) → 4 * n ≤ length es → Below n r → sets es r ≡ stores es r
sets-stores n es [] l b = refl
sets-stores n es (store w h x ∷ r) l (a, b) =
    let e = sets-stores n es r l b in
    set-put (sets es r) (slot w h) x (let p = slot_lt w h n a in let q = sets-long es r in omega arith) ∙ ap (λ (t : List ℕ). put t (slot w h) x) e

-- in a slice that holds l
pub put-lay : (l old : List ℕ) (i x : ℕ) → i < length old → put (lay 0 l old) i x ≡ lay 0 (put l i x) old
put-lay l old i x b = sym (set-put (lay 0 l old) i x (let q = length-lay 0 l old in omega arith)) ∙ set-lay l old i x b

pub stores-lay : (n : ℕ) (l old : List ℕ) (r : List Store) → 4 * n ≤ length old → Below n r → stores (lay 0 l old) r ≡ lay 0 (stores l r) old
stores-lay n l old [] b c = refl
stores-lay n l old (store w h x ∷ r) b (a, c) =
    ap (λ (t : List ℕ). put t (slot w h) x) (stores-lay n l old r b c)
    ∙ put-lay (stores l r) old (slot w h) x (let p = slot_lt w h n a in omega arith)

-- two stores in a list that grows: to one place, and to two
pub put-put : (l : List ℕ) (i x y : ℕ) → put (put l i x) i y ≡ put l i y
unfolding put
put-put [] zero x y = refl
put-put [] (suc i) x y = ap {B = List ℕ} (λ r. 0 ∷ r) (put-put [] i x y)
put-put (z ∷ l) zero x y = refl
put-put (z ∷ l) (suc i) x y = ap {B = List ℕ} (λ r. z ∷ r) (put-put l i x y)

pub put-swap : (l : List ℕ) (i j x y : ℕ) → i ≢ j → put (put l i x) j y ≡ put (put l j y) i x
unfolding put
put-swap [] zero zero x y n = absurd (n refl)
put-swap [] zero (suc j) x y n = refl
put-swap [] (suc i) zero x y n = refl
put-swap [] (suc i) (suc j) x y n = ap {B = List ℕ} (λ r. 0 ∷ r) (put-swap [] i j x y (λ e. n (ap suc e)))
put-swap (z ∷ l) zero zero x y n = absurd (n refl)
put-swap (z ∷ l) zero (suc j) x y n = refl
put-swap (z ∷ l) (suc i) zero x y n = refl
put-swap (z ∷ l) (suc i) (suc j) x y n = ap {B = List ℕ} (λ r. z ∷ r) (put-swap l i j x y (λ e. n (ap suc e)))

-- links with the same lists
pub held-is : {v e f : ℕ} {outs outs' edges edges' faces faces' : List ℕ} → outs ≡ outs' → edges ≡ edges' → faces ≡ faces' → held v e f outs edges faces ≡ held v e f outs' edges' faces'
held-is {v} {e} {f} {outs} {outs'} {edges} {edges'} {faces} {faces'} a b c =
    ap (λ (l : List ℕ). held v e f l edges faces) a ∙ ap (λ (l : List ℕ). held v e f outs' l faces) b ∙ ap (λ (l : List ℕ). held v e f outs' edges' l) c

pub links-is : (l k : Links) → l.nv ≡ k.nv → l.ne ≡ k.ne → l.nf ≡ k.nf → l.outs ≡ k.outs → l.edges ≡ k.edges → l.faces ≡ k.faces → l ≡ k
links-is l k a b c x y z =
    ap (λ (v : ℕ). held v l.ne l.nf l.outs l.edges l.faces) a
    ∙ ap (λ (e : ℕ). held k.nv e l.nf l.outs l.edges l.faces) b
    ∙ ap (λ (f : ℕ). held k.nv k.ne f l.outs l.edges l.faces) c
    ∙ held-is x y z
