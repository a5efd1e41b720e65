-- A slice that is written from its start or to its end, over any kind of element. Assumes nothing.
use Prim.Native.Nat.{ℕ, zero, suc, ◌+◌, ◌-◌, ◌≤◌, ◌<◌}
use mathlib.Core.Path.{◌≡◌, refl, ap, ◌∙◌}
use mathlib.Core.List.{List, [], ◌∷◌, ◌++◌}
use native.Mathlib.Omega.{arith}
use lib.ListN.{length, get_or, set, take, drop, replicate}
use borrow.Rule.Slice.PartMut.{put_mid}
use Rattle.std.proofs.lemmas.List.{length-drop, length-take-le, drop_all, append-nil, length-replicate}
use Rattle.scope.specs.Lists.{lay, over}
use Rattle.mesh.proofs.SliceLaws.{length_over}

-- the first i are copied, and one more
copy-next : {A : Type 0} (src dst : List A) (i : ℕ) (d : A) → i < length src → i < length dst →
    set (over (take i src) dst) i (get_or src i d) ≡ over (take (suc i) src) dst
unfolding over
copy-next [] dst i d a b = absurd (omega arith)
copy-next (x ∷ src) [] i d a b = absurd (omega arith)
copy-next (x ∷ src) (y ∷ dst) zero d a b = refl
copy-next {A} (x ∷ src) (y ∷ dst) (suc i) d a b = ap {B = List A} (λ r. x ∷ r) (copy-next src dst i d (omega arith) (omega arith))

pub copy-on : {A : Type 0} (src old dst : List A) (i : ℕ) (d : A) → dst ≡ over (take i src) old → i < length src → i < length dst →
    set dst i (get_or src i d) ≡ over (take (i + 1) src) old
copy-on src old dst i d c a b =
    let n : i + 1 ≡ suc i = omega arith in
    let l : length dst ≡ length old = rw c (length_over (take i src) old) in
    rw (c, n) (copy-next src old i d a (omega arith))

-- one more place of l is z
z-next : {A : Type 0} (z : A) (l : List A) (i : ℕ) → i < length l → set (replicate i z ++ drop i l) i z ≡ replicate (suc i) z ++ drop (suc i) l
z-next z [] i b = absurd (omega arith)
z-next z (y ∷ l) zero b = refl
z-next {A} z (y ∷ l) (suc i) b = ap {B = List A} (λ r. z ∷ r) (z-next z l i (omega arith))

-- what lies behind the first n, as a slice of its own
length-rest : {A : Type 0} (n : ℕ) (old : List A) → length (take (length old - n) (drop n old)) ≡ length old - n
length-rest n old = let d = length-drop n old in length-take-le _ (drop n old) (omega arith)

pub clear_next : {A : Type 0} (z : A) (n i : ℕ) (old s : List A) → s ≡ replicate i z ++ drop i (drop n old) → i < length (take (length old - n) (drop n old))
    → set s i z ≡ replicate (i + 1) z ++ drop (i + 1) (drop n old)
clear_next z n i old s e b =
    let k : i + 1 ≡ suc i = omega arith in
    let d = length-drop n old in
    let r = length-rest n old in
    rw (e, k) (z-next z (drop n old) i (omega arith))

-- the first n, then z in every place behind them
lay-end : {A : Type 0} (z : A) (n k : ℕ) (old : List A) → length old ≡ n + k → take n old ++ replicate k z ≡ lay z (take n old) old
unfolding lay
lay-end z zero zero [] e = refl
lay-end z zero (suc k) [] e = absurd (omega arith)
lay-end z (suc n) k [] e = absurd (omega arith)
lay-end z zero zero (y ∷ old) e = absurd (omega arith)
lay-end {A} z zero (suc k) (y ∷ old) e = ap {B = List A} (λ r. z ∷ r) (lay-end z 0 k old (omega arith))
lay-end {A} z (suc n) k (y ∷ old) e = ap {B = List A} (λ r. y ∷ r) (lay-end z n k old (omega arith))

pub clear_done : {A : Type 0} (z : A) (n i : ℕ) (old s : List A) → n ≤ length old → s ≡ replicate i z ++ drop i (drop n old)
    → length s ≡ length (take (length old - n) (drop n old)) → length (take (length old - n) (drop n old)) ≤ i
    → put_mid n (length old - n) old s ≡ lay z (take n old) old
clear_done z n i old s b e l d =
    let o = length-drop n old in
    let r = length-rest n old in
    let q = length-replicate i z in
    let w : s ≡ replicate i z = e ∙ rw (drop_all i (drop n old) (omega arith)) (append-nil (replicate i z)) in
    let m : length s ≡ i = ap length w ∙ q in
    let k : length old - n ≡ i = omega arith in
    rw (w, drop_all (length old - n) (drop n old) (omega arith), append-nil (replicate i z)) (lay-end z n i old (omega arith))

-- a copy, cleared behind it
pub lay-over : {A : Type 0} (z : A) (n : ℕ) (src dst : List A) → n ≤ length src → n ≤ length dst →
    lay z (take n (over (take n src) dst)) (over (take n src) dst) ≡ lay z (take n src) dst
unfolding over lay
lay-over z zero src dst a b = refl
lay-over z (suc n) [] dst a b = absurd (omega arith)
lay-over z (suc n) (x ∷ src) [] a b = absurd (omega arith)
lay-over {A} z (suc n) (x ∷ src) (y ∷ dst) a b = ap {B = List A} (λ r. x ∷ r) (lay-over z n src dst (omega arith) (omega arith))
