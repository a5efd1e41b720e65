-- What a store in a slice is, where the slice holds a list that `lay` or `over` put there: the same store in that list. Assumes nothing.
use Prim.Native.Nat.{ℕ, zero, suc, ◌+◌, ◌*◌, ◌≤◌, ◌<◌}
use mathlib.Core.Path.{◌≡◌, refl, ap}
use mathlib.Core.List.{List, [], ◌∷◌}
use native.Mathlib.Omega.{arith}
use lib.ListN.{length, get_or, set, take}
use mathlib.Core.Logic.{◌≢◌}
use Rattle.scope.specs.Lists.{put, lay, over}
use Rattle.scope.specs.declared.records.Halfedge.{Halfedge}
use Rattle.scope.specs.declared.records.Edge.{Edge}
use Rattle.mesh.specs.Words.{Has, put_half, put_edge, linked, no_half, laid_half, laid_edge, laid_link}

-- ---- put
pub set-put : (l : List ℕ) (i x : ℕ) → i < length l → set l i x ≡ put l i x
unfolding put
set-put [] i x b = absurd (omega arith)
set-put (y ∷ l) zero x b = refl
set-put (y ∷ l) (suc i) x b = ap {B = List ℕ} (λ r. y ∷ r) (set-put l i x (omega arith))

pub length-put : (l : List ℕ) (i x : ℕ) → i < length l → length (put l i x) ≡ length l
unfolding put
length-put [] i x b = absurd (omega arith)
length-put (y ∷ l) zero x b = refl
length-put (y ∷ l) (suc i) x b = ap suc (length-put l i x (omega arith))

-- a store reaches its place, and leaves no list shorter
pub put-reaches : (l : List ℕ) (i x : ℕ) → i < length (put l i x)
unfolding put
put-reaches [] zero x = omega arith
put-reaches [] (suc i) x = let q = put-reaches [] i x in omega arith
put-reaches (y ∷ l) zero x = omega arith
put-reaches (y ∷ l) (suc i) x = let q = put-reaches l i x in omega arith

pub put-longer : (l : List ℕ) (i x : ℕ) → length l ≤ length (put l i x)
unfolding put
put-longer [] i x = omega arith
put-longer (y ∷ l) zero x = omega arith
put-longer (y ∷ l) (suc i) x = let q = put-longer l i x in omega arith

-- one past the end makes the list longer by one
pub length-put-end : (l : List ℕ) (i x : ℕ) → length l ≡ i → length (put l i x) ≡ suc i
unfolding put
length-put-end [] zero x e = refl
length-put-end [] (suc i) x e = absurd (omega arith)
length-put-end (y ∷ l) zero x e = absurd (omega arith)
length-put-end (y ∷ l) (suc i) x e = ap suc (length-put-end l i x (omega arith))

-- what is loaded after a store: wherever it is, as there are zeros between
pub get_or-put-same : (l : List ℕ) (i x d : ℕ) → get_or (put l i x) i d ≡ x
unfolding put
get_or-put-same [] zero x d = refl
get_or-put-same [] (suc i) x d = get_or-put-same [] i x d
get_or-put-same (y ∷ l) zero x d = refl
get_or-put-same (y ∷ l) (suc i) x d = get_or-put-same l i x d

pub get_or-put-other : (l : List ℕ) (i j x : ℕ) → j ≢ i → get_or (put l i x) j 0 ≡ get_or l j 0
unfolding put
get_or-put-other [] zero zero x n = absurd (n refl)
get_or-put-other [] zero (suc j) x n = refl
get_or-put-other [] (suc i) zero x n = refl
get_or-put-other [] (suc i) (suc j) x n = get_or-put-other [] i j x (λ e. n (ap suc e))
get_or-put-other (y ∷ l) zero zero x n = absurd (n refl)
get_or-put-other (y ∷ l) zero (suc j) x n = refl
get_or-put-other (y ∷ l) (suc i) zero x n = refl
get_or-put-other (y ∷ l) (suc i) (suc j) x n = get_or-put-other l i j x (λ e. n (ap suc e))

-- ---- lay
pub length-lay : {A : Type 0} (z : A) (l old : List A) → length (lay z l old) ≡ length old
unfolding lay
length-lay z l [] = refl
length-lay z [] (y ∷ old) = ap suc (length-lay z [] old)
length-lay z (x ∷ l) (y ∷ old) = ap suc (length-lay z l old)

-- a store in the slice is one in the list: past its end the list grows, as the slice has zeros there
pub set-lay : (l old : List ℕ) (i x : ℕ) → i < length old → set (lay 0 l old) i x ≡ lay 0 (put l i x) old
unfolding lay put
set-lay l [] i x b = absurd (omega arith)
set-lay [] (y ∷ old) zero x b = refl
set-lay [] (y ∷ old) (suc i) x b = ap {B = List ℕ} (λ r. 0 ∷ r) (set-lay [] old i x (omega arith))
set-lay (w ∷ l) (y ∷ old) zero x b = refl
set-lay (w ∷ l) (y ∷ old) (suc i) x b = ap {B = List ℕ} (λ r. w ∷ r) (set-lay l old i x (omega arith))

-- and a load is one from the list
pub get_or-lay : {A : Type 0} (z : A) (l old : List A) (i : ℕ) → i < length old → get_or (lay z l old) i z ≡ get_or l i z
unfolding lay
get_or-lay z l [] i b = absurd (omega arith)
get_or-lay z [] (y ∷ old) zero b = refl
get_or-lay z [] (y ∷ old) (suc i) b = get_or-lay z [] old i (omega arith)
get_or-lay z (x ∷ l) (y ∷ old) zero b = refl
get_or-lay z (x ∷ l) (y ∷ old) (suc i) b = get_or-lay z l old i (omega arith)

-- ---- over
pub length_over : {A : Type 0} (l old : List A) → length (over l old) ≡ length old
unfolding over
length_over [] old = refl
length_over (x ∷ l) [] = refl
length_over (x ∷ l) (y ∷ old) = ap suc (length_over l old)

-- a store in the list or one past its end
pub set-over : (l old : List ℕ) (i x : ℕ) → i ≤ length l → i < length old → set (over l old) i x ≡ over (put l i x) old
unfolding over put
set-over l [] i x a b = absurd (omega arith)
set-over [] (y ∷ old) zero x a b = refl
set-over [] (y ∷ old) (suc i) x a b = absurd (omega arith)
set-over (w ∷ l) (y ∷ old) zero x a b = refl
set-over (w ∷ l) (y ∷ old) (suc i) x a b = ap {B = List ℕ} (λ r. w ∷ r) (set-over l old i x (omega arith) (omega arith))

pub get_d_over : {A : Type 0} (l old : List A) (i : ℕ) (d : A) → i < length l → i < length old → get_or (over l old) i d ≡ get_or l i d
unfolding over
get_d_over [] old i d a b = absurd (omega arith)
get_d_over (x ∷ l) [] i d a b = absurd (omega arith)
get_d_over (x ∷ l) (y ∷ old) zero d a b = refl
get_d_over (x ∷ l) (y ∷ old) (suc i) d a b = get_d_over l old i d (omega arith) (omega arith)

-- what a slice holds, over itself
pub over-take : {A : Type 0} (n : ℕ) (old : List A) → over (take n old) old ≡ old
unfolding over
over-take zero old = refl
over-take (suc n) [] = refl
over-take {A} (suc n) (y ∷ old) = ap {B = List A} (λ r. y ∷ r) (over-take n old)

-- ---- the stores of a halfedge, of an edge and of a link of two
-- four stores in a row, by a law for one; `Ok l i` is what that law asks
half-by : (f : List ℕ → List ℕ) (Ok : List ℕ → ℕ → Type 0) → ((l : List ℕ) (i x : ℕ) → Ok l i → set (f l) i x ≡ f (put l i x))
    → (l : List ℕ) (h : ℕ) (x : Halfedge)
    → Ok l (4 * h) → Ok (put l (4 * h) x.face) (4 * h + 1) → Ok (put (put l (4 * h) x.face) (4 * h + 1) x.head) (4 * h + 2)
    → Ok (put (put (put l (4 * h) x.face) (4 * h + 1) x.head) (4 * h + 2) x.next) (4 * h + 3)
    → put_half (f l) h x ≡ f (laid_half l h x)
half-by f Ok law l h x a b c d = rw (law l (4 * h) x.face a, law _ (4 * h + 1) x.head b, law _ (4 * h + 2) x.next c, law _ (4 * h + 3) x.prev d)

pub half-lay : (l old : List ℕ) (h : ℕ) (x : Halfedge) → Has old h → put_half (lay 0 l old) h x ≡ lay 0 (laid_half l h x) old
half-lay l old h x b =
    half-by (λ r. lay 0 r old) (λ r i. i < length old) (λ r i y q. set-lay r old i y q) l h x (omega arith) (omega arith) (omega arith) b

-- a halfedge of the list, or the one after its last
pub half_over : (l old : List ℕ) (h : ℕ) (x : Halfedge) → 4 * h ≤ length l → Has old h → put_half (over l old) h x ≡ over (laid_half l h x) old
half_over l old h x a b =
    let q = put l (4 * h) x.face in
    let r = put q (4 * h + 1) x.head in
    let i = put-reaches l (4 * h) x.face in
    let j = put-reaches q (4 * h + 1) x.head in
    let k = put-reaches r (4 * h + 2) x.next in
    half-by (λ w. over w old) (λ w i. (i ≤ length w) × (i < length old)) (λ w i y q. set-over w old i y q.0 q.1) l h x
    (a, omega arith) (omega arith, omega arith) (omega arith, omega arith) (omega arith, b)

pub edge-lay : (l old : List ℕ) (e : ℕ) (x : Edge) → Has old (2 * e + 1) → put_edge (lay 0 l old) e x ≡ lay 0 (laid_edge l e x) old
edge-lay l old e x b = rw (half-lay l old (2 * e) (get_or x.halves 0 no_half) (omega arith)) (half-lay _ old (2 * e + 1) (get_or x.halves 1 no_half) b)

pub edge-over : (l old : List ℕ) (e : ℕ) (x : Edge) → 8 * e ≤ length l → Has old (2 * e + 1) → put_edge (over l old) e x ≡ over (laid_edge l e x) old
edge-over l old e x a b =
    let y = get_or x.halves 0 no_half in
    let q = put-reaches (put (put (put l (4 * (2 * e)) y.face) (4 * (2 * e) + 1) y.head) (4 * (2 * e) + 2) y.next) (4 * (2 * e) + 3) y.prev in
    rw (half_over l old (2 * e) y (omega arith) (omega arith)) (half_over _ old (2 * e + 1) (get_or x.halves 1 no_half) (omega arith) b)

pub link-lay : (l old : List ℕ) (a b : ℕ) → Has old a → Has old b → linked (lay 0 l old) a b ≡ lay 0 (laid_link l a b) old
link-lay l old a b p q = rw (set-lay l old (4 * a + 2) b (omega arith), set-lay (put l (4 * a + 2) b) old (4 * b + 3) a q)

pub link-over : (l old : List ℕ) (a b : ℕ) → Has l a → Has l b → Has old a → Has old b → linked (over l old) a b ≡ over (laid_link l a b) old
link-over l old a b p q r s =
    let k = put-longer l (4 * a + 2) b in
    rw (set-over l old (4 * a + 2) b (omega arith) (omega arith), set-over (put l (4 * a + 2) b) old (4 * b + 3) a (omega arith) s)
