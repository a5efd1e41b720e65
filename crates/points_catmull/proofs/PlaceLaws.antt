-- What is laid into a slice is read there and leaves the rest; one point more; parts laid one after the other are one whole. Assumes nothing.
use Prim.Native.Nat.{ℕ, zero, suc, ◌+◌, ◌*◌, ◌≤◌, ◌<◌}
use mathlib.Core.Path.{◌≡◌, refl, sym, ap, ◌∙◌}
use mathlib.Core.List.{List, [], ◌∷◌, ◌++◌, map, append_assoc, map-append}
use native.Mathlib.Nat.{add-zero, zero-add}
use native.Mathlib.Omega.{arith}
use lib.ListN.{length, get_or, set, length-append}
use lib.Ieee.{Float, nan}
use Rattle.std.proofs.lemmas.List.{length-map}
use Rattle.scope.specs.declared.records.Point.{Point}
use Rattle.scope.specs.Lists.{over, range}
use Rattle.scope.specs.Points.{point_at, flat}
use Rattle.mesh.specs.Words.{put_point}
use Rattle.mesh.proofs.SliceLaws.{length_over, get_d_over}
use Rattle.points_catmull.specs.Place.{place, made}

-- ---- numbers
pub length-place : {A : Type 0} (i : ℕ) (l old : List A) → length (place i l old) ≡ length old
unfolding place
length-place zero l old = length_over l old
length-place (suc i) l [] = refl
length-place (suc i) l (y ∷ old) = ap suc (length-place i l old)

pub place-nil : {A : Type 0} (i : ℕ) (old : List A) → place i [] old ≡ old
unfolding place over
place-nil zero old = refl
place-nil (suc i) [] = refl
place-nil {A} (suc i) (y ∷ old) = ap {B = List A} (λ r. y ∷ r) (place-nil i old)

over-append : {A : Type 0} (a b old : List A) → over (a ++ b) old ≡ over a (place (length a) b old)
unfolding place over
over-append [] b old = refl
over-append (x ∷ a) b [] = refl
over-append {A} (x ∷ a) b (y ∷ old) = ap {B = List A} (λ r. x ∷ r) (over-append a b old)

pub place-append : {A : Type 0} (i : ℕ) (a b old : List A) → place i (a ++ b) old ≡ place i a (place (i + length a) b old)
unfolding place
place-append zero a b old = rw (zero-add (length a)) (over-append a b old)
place-append (suc i) a b [] = let e : suc i + length a ≡ suc (i + length a) = omega arith in rw e
place-append {A} (suc i) a b (y ∷ old) =
    let e : suc i + length a ≡ suc (i + length a) = omega arith in
    rw e (ap {B = List A} (λ r. y ∷ r) (place-append i a b old))

-- one number in its place is a store
place-one : {A : Type 0} (i : ℕ) (x : A) (old : List A) → i < length old → place i (x ∷ []) old ≡ set old i x
unfolding place over
place-one i x [] l = absurd (omega arith)
place-one zero x (y ∷ old) l = refl
place-one {A} (suc i) x (y ∷ old) l = ap {B = List A} (λ r. y ∷ r) (place-one i x old (omega arith))

set-over-off : {A : Type 0} (l old : List A) (j : ℕ) (x : A) → length l ≤ j → set (over l old) j x ≡ over l (set old j x)
unfolding over
set-over-off [] old j x h = refl
set-over-off (w ∷ l) [] j x h = refl
set-over-off (w ∷ l) (y ∷ old) zero x h = absurd (omega arith)
set-over-off {A} (w ∷ l) (y ∷ old) (suc j) x h = ap {B = List A} (λ r. w ∷ r) (set-over-off l old j x (omega arith))

-- a store behind what is laid may come first
set-place : {A : Type 0} (i : ℕ) (l old : List A) (j : ℕ) (x : A) → i + length l ≤ j → set (place i l old) j x ≡ place i l (set old j x)
unfolding place
set-place zero l old j x h = set-over-off l old j x (omega arith)
set-place (suc i) l [] j x h = refl
set-place (suc i) l (y ∷ old) zero x h = absurd (omega arith)
set-place {A} (suc i) l (y ∷ old) (suc j) x h = ap {B = List A} (λ r. y ∷ r) (set-place i l old j x (omega arith))

-- one number more
pub place-next : {A : Type 0} (i : ℕ) (l old : List A) (j : ℕ) (x : A) → j ≡ i + length l → j < length old → set (place i l old) j x ≡ place i (l ++ x ∷ []) old
place-next i l old j x e h =
    let b : i + length l < length old = omega arith in
    set-place i l old j x (omega arith)
    ∙ rw (place-append i l (x ∷ []) old, place-one (i + length l) x old b, e)

get_or-over-off : {A : Type 0} (l old : List A) (j : ℕ) (d : A) → length l ≤ j → get_or (over l old) j d ≡ get_or old j d
unfolding over
get_or-over-off [] old j d h = refl
get_or-over-off (w ∷ l) [] j d h = refl
get_or-over-off (w ∷ l) (y ∷ old) zero d h = absurd (omega arith)
get_or-over-off (w ∷ l) (y ∷ old) (suc j) d h = get_or-over-off l old j d (omega arith)

pub place-behind : {A : Type 0} (i : ℕ) (l old : List A) (j : ℕ) (d : A) → i + length l ≤ j → get_or (place i l old) j d ≡ get_or old j d
unfolding place
place-behind zero l old j d h = get_or-over-off l old j d (omega arith)
place-behind (suc i) l [] j d h = refl
place-behind (suc i) l (y ∷ old) zero d h = absurd (omega arith)
place-behind (suc i) l (y ∷ old) (suc j) d h = place-behind i l old j d (omega arith)

pub place_at : {A : Type 0} (i : ℕ) (l old : List A) (k : ℕ) (d : A) → k < length l → i + k < length old → get_or (place i l old) (i + k) d ≡ get_or l k d
unfolding place
place_at zero l old k d h b = rw (zero-add k) (get_d_over l old k d h (omega arith))
place_at (suc i) l [] k d h b = absurd (omega arith)
place_at (suc i) l (y ∷ old) k d h b =
    let e : suc i + k ≡ suc (i + k) = omega arith in
    rw e (place_at i l old k d h (omega arith))

-- ---- points
pub flat_append : (a b : List Point) → flat (a ++ b) ≡ flat a ++ flat b
unfolding flat
flat_append [] b = refl
flat_append (p ∷ a) b = ap (λ (r : List Float). p.x ∷ p.y ∷ p.z ∷ r) (flat_append a b)

pub length-flat : (l : List Point) → length (flat l) ≡ 3 * length l
unfolding flat
length-flat [] = refl
length-flat (p ∷ l) = let h = length-flat l in omega arith

-- one point more, in its place, is its three numbers stored
pub flat-next : (s : ℕ) (l : List Point) (w : List Float) (n : ℕ) (p : Point) → n ≡ s + length l → 3 * n + 2 < length w →
    put_point (place (3 * s) (flat l) w) n p ≡ place (3 * s) (flat (l ++ p ∷ [])) w
unfolding flat
flat-next s l w n p e h =
    let k = length-flat l in
    let a = flat l in
    let la : length (a ++ p.x ∷ []) ≡ length a + 1 = length-append a (p.x ∷ []) in
    let lb : length (a ++ p.x ∷ [] ++ p.y ∷ []) ≡ length a + 2 = length-append (a ++ p.x ∷ []) (p.y ∷ []) ∙ omega arith in
    rw (
      place-next (3 * s) a w (3 * n) p.x (omega arith) (omega arith),
      place-next (3 * s) (a ++ p.x ∷ []) w (3 * n + 1) p.y (omega arith) (omega arith),
      place-next (3 * s) (a ++ p.x ∷ [] ++ p.y ∷ []) w (3 * n + 2) p.z (omega arith) (omega arith),
      flat_append l (p ∷ []),
      append_assoc (a ++ p.x ∷ []) (p.y ∷ []) (p.z ∷ []),
      append_assoc a (p.x ∷ []) (p.y ∷ p.z ∷ []),
    )

-- ---- points by their numbers
pub range-next : (i n : ℕ) → range i (suc n) ≡ range i n ++ (i + n) ∷ []
unfolding range
range-next i zero = rw (add-zero i)
range-next i (suc n) =
    let e : i + suc n ≡ suc i + n = omega arith in
    rw e (ap (λ (l : List ℕ). i ∷ l) (range-next (suc i) n))

pub length-range : (i n : ℕ) → length (range i n) ≡ n
unfolding range
length-range i zero = refl
length-range i (suc n) = ap suc (length-range (suc i) n)

pub length-made : (f : ℕ → Point) (n : ℕ) → length (made f n) ≡ 3 * n
unfolding made
length-made f n = length-flat _ ∙ rw (length-map (range 0 n) f, length-range 0 n)

pub made-next : (f : ℕ → Point) (n : ℕ) (s : ℕ) (w : List Float) (p : Point) → p ≡ f n → 3 * (s + n) + 2 < length w →
    put_point (place (3 * s) (made f n) w) (s + n) p ≡ place (3 * s) (made f (n + 1)) w
unfolding made
made-next f n s w p e h =
    let k : n + 1 ≡ suc n = omega arith in
    let l : length (map f (range 0 n)) ≡ n = length-map (range 0 n) f ∙ length-range 0 n in
    let g : map f (range 0 (suc n)) ≡ map f (range 0 n) ++ f n ∷ [] =
    ap (map f) (range-next 0 n) ∙ map-append f (range 0 n) ((0 + n) ∷ []) ∙ rw (zero-add n) in
    rw (k, g, e) (flat-next s (map f (range 0 n)) w (s + n) (f n) (omega arith) h)

-- the same from the first place on
pub made-first : (f : ℕ → Point) (n : ℕ) (w : List Float) (p : Point) → p ≡ f n → 3 * n + 2 < length w → put_point (place 0 (made f n) w) n p ≡ place 0 (made f (n + 1)) w
made-first f n w p e h = rw (zero-add n) at (made-next f n 0 w p e (rw (zero-add n) h))

-- before any is laid, and whatever is laid
pub made_none : (f : ℕ → Point) (i : ℕ) (w : List Float) → w ≡ place i (made f 0) w
unfolding made range flat
made_none f i w = sym (place-nil i w)

pub length-laid : {l : List Float} (i : ℕ) (g w : List Float) → l ≡ place i g w → length l ≡ length w
length-laid i g w e = ap length e ∙ length-place i g w

-- a loop that lays them one by one
pub laid-next : (f : ℕ → Point) (s : ℕ) (w : List Float) {n : ℕ} {l l' : List Float} {p : Point} → l ≡ place (3 * s) (made f n) w → p ≡ f n → l' ≡ put_point l (s + n) p → 3 * (s + n) + 2 < length w →
    l' ≡ place (3 * s) (made f (n + 1)) w
laid-next f s w {n} {l} {l'} {p} e hp h room = h ∙ rw e (made-next f n s w p hp room)

pub laid-first : (f : ℕ → Point) (w : List Float) {n : ℕ} {l l' : List Float} {p : Point} → l ≡ place 0 (made f n) w → p ≡ f n → l' ≡ put_point l n p → 3 * n + 2 < length w →
    l' ≡ place 0 (made f (n + 1)) w
laid-first f w {n} {l} {l'} {p} e hp h room = h ∙ rw e (made-first f n w p hp room)

-- the k-th of them is read in its place
flat-at : (f : ℕ → Point) (i n k : ℕ) → k < n → point_at (flat (map f (range i n))) k ≡ f (i + k)
unfolding flat range
flat-at f i zero k l = absurd (omega arith)
flat-at f i (suc n) zero l = rw (add-zero i)
flat-at f i (suc n) (suc k) l =
    let a : 3 * suc k ≡ suc (suc (suc (3 * k))) = omega arith in
    let b : 3 * suc k + 1 ≡ suc (suc (suc (3 * k + 1))) = omega arith in
    let c : 3 * suc k + 2 ≡ suc (suc (suc (3 * k + 2))) = omega arith in
    let e : i + suc k ≡ suc i + k = omega arith in
    rw (b, c, a, e) (flat-at f (suc i) n k (omega arith))

pub made-read : (f : ℕ → Point) (n s k : ℕ) (w : List Float) → k < n → 3 * (s + k) + 2 < length w → point_at (place (3 * s) (made f n) w) (s + k) ≡ f k
unfolding made
made-read f n s k w l h =
    let g = flat (map f (range 0 n)) in
    let len : length g ≡ 3 * n = length-flat _ ∙ rw (length-map (range 0 n) f, length-range 0 n) in
    let x : 3 * (s + k) ≡ 3 * s + 3 * k = omega arith in
    let y : 3 * s + 3 * k + 1 ≡ 3 * s + (3 * k + 1) = omega arith in
    let z : 3 * s + 3 * k + 2 ≡ 3 * s + (3 * k + 2) = omega arith in
    let q : f (0 + k) ≡ f k = rw (zero-add k) in
    rw (
      x,
      y,
      z,
      place_at (3 * s) g w (3 * k) nan (omega arith) (omega arith),
      place_at (3 * s) g w (3 * k + 1) nan (omega arith) (omega arith),
      place_at (3 * s) g w (3 * k + 2) nan (omega arith) (omega arith),
    )
    (flat-at f 0 n k l ∙ q)

-- and any other point is as it was
behind : (s n : ℕ) (g w : List Float) (j : ℕ) → length g ≤ 3 * n → s + n ≤ j → point_at (place (3 * s) g w) j ≡ point_at w j
behind s n g w j l h =
    rw (
      place-behind (3 * s) g w (3 * j) nan (omega arith),
      place-behind (3 * s) g w (3 * j + 1) nan (omega arith),
      place-behind (3 * s) g w (3 * j + 2) nan (omega arith),
    )

pub laid-behind : {l : List Float} (f : ℕ → Point) (k s : ℕ) (w : List Float) → l ≡ place (3 * s) (made f k) w → (j : ℕ) → s + k ≤ j → point_at l j ≡ point_at w j
laid-behind f k s w e j h = ap (λ (l : List Float). point_at l j) e ∙ behind s k (made f k) w j (let n = length-made f k in omega arith) h

range_same : (f g : ℕ → Point) (i n : ℕ) → ((k : ℕ) → i ≤ k → k < i + n → f k ≡ g k) → map f (range i n) ≡ map g (range i n)
unfolding range
range_same f g i zero e = refl
range_same f g i (suc n) e =
    rw (e i (omega arith) (omega arith), range_same f g (suc i) n (λ k a b. e k (omega arith) (omega arith)))

pub made-same : (f g : ℕ → Point) (n : ℕ) → ((k : ℕ) → k < n → f k ≡ g k) → made f n ≡ made g n
unfolding made
made-same f g n e = ap flat (range_same f g 0 n (λ k a b. e k (omega arith)))

-- three parts, the last laid first, are the whole
pub whole : (f g h : ℕ → Point) (a b c : ℕ) (w : List Float) →
    place 0 (made f a) (place (3 * a) (made g b) (place (3 * (a + b)) (made h c) w)) ≡ over (flat (map f (range 0 a) ++ map g (range 0 b) ++ map h (range 0 c))) w
unfolding made place
whole f g h a b c w =
    let x = flat (map f (range 0 a)) in
    let y = flat (map g (range 0 b)) in
    let z = flat (map h (range 0 c)) in
    let lx : length x ≡ 3 * a = length-made f a in
    let ly : length y ≡ 3 * b = length-made g b in
    let i : 0 + length x ≡ 3 * a = omega arith in
    let j : 0 + length (x ++ y) ≡ 3 * (a + b) = rw (length-append x y) (omega arith) in
    let s : flat (map f (range 0 a) ++ map g (range 0 b) ++ map h (range 0 c)) ≡ x ++ y ++ z =
    flat_append (map f (range 0 a) ++ map g (range 0 b)) (map h (range 0 c)) ∙ ap (λ (l : List Float). l ++ z) (flat_append (map f (range 0 a)) (map g (range 0 b))) in
    let q : over (x ++ y ++ z) w ≡ place 0 (x ++ y) (place (0 + length (x ++ y)) z w) = place-append 0 (x ++ y) z w in
    let r : place 0 (x ++ y) (place (3 * (a + b)) z w) ≡ place 0 x (place (0 + length x) y (place (3 * (a + b)) z w)) = place-append 0 x y _ in
    sym (rw s (q ∙ ap (λ (k : ℕ). place 0 (x ++ y) (place k z w)) j ∙ r ∙ ap (λ (k : ℕ). place 0 x (place k y (place (3 * (a + b)) z w))) i))
