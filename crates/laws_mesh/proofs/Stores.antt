-- Runs of stores to the words of halfedges: what is read after one, and how long the list is. Assumes nothing.
use mathlib.Core.Path.{◌≡◌, refl, sym, ap, ◌∙◌, subst}
use mathlib.Core.Logic.{◌⊎◌, inl, inr, ◌≢◌}
use mathlib.Core.Bool.{Bool, true, false}
use mathlib.Core.List.{List, [], ◌∷◌}
use Prim.Native.Nat.{ℕ, suc, ◌+◌, ◌*◌, ◌≤◌, ◌<◌}
use native.Mathlib.Omega.{arith}
use lib.Dec.{T, eqb, eqb→eq, eqb_refl}
use lib.ListN.{get_or, length}
use Rattle.scope.specs.Lists.{put}
use Rattle.laws_mesh.proofs.Puts.{get_or-put-same, get_or-put-other, put-grows, put_holds, put-within}

-- the four words of a halfedge
pub data Word : Type 0 where
  face head next prev : Word

abbrev pub place : Word → ℕ
place face = 0
place head = 1
place next = 2
place prev = 3

-- where word w of halfedge h stands
abbrev pub slot : Word → ℕ → ℕ
slot face h = 4 * h
slot head h = 4 * h + 1
slot next h = 4 * h + 2
slot prev h = 4 * h + 3

-- word w of halfedge h
abbrev pub at : List ℕ → Word → ℕ → ℕ
at ed w h = get_or ed (slot w h) 0

-- one store, and a run of them: the head of the list is the LAST store
pub data Store : Type 0 where
  store : Word → ℕ → ℕ → Store

abbrev pub stores : List ℕ → List Store → List ℕ
stores ed [] = ed
stores ed (store w h x ∷ r) = put (stores ed r) (slot w h) x

abbrev pub same : Word → Word → Bool
same w v = eqb (place w) (place v)

-- no store of the run is to word w of halfedge t; and the last that is stores y
abbrev pub miss-one : Bool → Type 0 → Type 0 → Type 0
miss-one true A B = A × B
miss-one false A B = B

abbrev pub Miss : Word → ℕ → List Store → Type 0
Miss w t [] = Unit {0}
Miss w t (store v h x ∷ r) = miss-one (same w v) (t ≢ h) (Miss w t r)

abbrev pub hit-one : Bool → Type 0 → Type 0 → Type 0 → Type 0
hit-one true E N B = E ⊎ (N × B)
hit-one false E N B = B

abbrev pub Hit : Word → ℕ → ℕ → List Store → Type 0
Hit w t y [] = ⊥
Hit w t y (store v h x ∷ r) = hit-one (same w v) ((t ≡ h) × (x ≡ y)) (t ≢ h) (Hit w t y r)

place-lt : (w : Word) → place w < 4
place-lt face = omega arith
place-lt head = omega arith
place-lt next = omega arith
place-lt prev = omega arith

slot_is : (w : Word) (h : ℕ) → slot w h ≡ 4 * h + place w
slot_is face h = omega arith
slot_is head h = refl
slot_is next h = refl
slot_is prev h = refl

-- two places are the same only for one word and one halfedge
apart-h : (w v : Word) (t h : ℕ) → t ≢ h → slot w t ≢ slot v h
apart-h w v t h ne e =
    let a = place-lt w in
    let b = place-lt v in
    let p = slot_is w t in
    let q = slot_is v h in
    ne (omega arith)

apart-w : (w v : Word) (t h : ℕ) → same w v ≡ false → slot w t ≢ slot v h
apart-w w v t h d e =
    let a = place-lt w in
    let b = place-lt v in
    let r = slot_is w t in
    let s = slot_is v h in
    let q : place w ≡ place v = omega arith in
    subst T d (subst (λ (p : ℕ). T (eqb (place w) p)) q (eqb_refl (place w)))

pub missed : (ed : List ℕ) (w : Word) (t : ℕ) (r : List Store) → Miss w t r → at (stores ed r) w t ≡ at ed w t
missed ed w t [] m = refl
missed ed w t (store v h x ∷ r) m = go (same w v) refl (missed ed w t r) m
  where
    go : (b : Bool) → same w v ≡ b → (Miss w t r → get_or (stores ed r) (slot w t) 0 ≡ get_or ed (slot w t) 0) → miss-one b (t ≢ h) (Miss w t r)
        → get_or (put (stores ed r) (slot v h) x) (slot w t) 0 ≡ get_or ed (slot w t) 0
    go true e rec (ne, m) = get_or-put-other (stores ed r) (slot v h) (slot w t) x (apart-h w v t h ne) ∙ rec m
    go false e rec m = get_or-put-other (stores ed r) (slot v h) (slot w t) x (apart-w w v t h e) ∙ rec m

pub found : (ed : List ℕ) (w : Word) (t y : ℕ) (r : List Store) → Hit w t y r → at (stores ed r) w t ≡ y
found ed w t y [] m = absurd m
found ed w t y (store v h x ∷ r) m = go (same w v) refl (found ed w t y r) m
  where
    go : (b : Bool) → same w v ≡ b → (Hit w t y r → get_or (stores ed r) (slot w t) 0 ≡ y) → hit-one b ((t ≡ h) × (x ≡ y)) (t ≢ h) (Hit w t y r)
        → get_or (put (stores ed r) (slot v h) x) (slot w t) 0 ≡ y
    go true e rec (inl (p, q)) =
        let s : slot w t ≡ slot v h = slot_is w t ∙ ap (λ (u : ℕ). 4 * u + place w) p ∙ ap (λ (u : ℕ). 4 * h + u) (eqb→eq (place w) (place v) (subst T (sym e) tt)) ∙ sym (slot_is v h) in
        subst (λ (u : ℕ). get_or (put (stores ed r) u x) (slot w t) 0 ≡ y) s (get_or-put-same (stores ed r) (slot w t) x 0 ∙ q)
    go true e rec (inr (ne, m)) = get_or-put-other (stores ed r) (slot v h) (slot w t) x (apart-h w v t h ne) ∙ rec m
    go false e rec m = get_or-put-other (stores ed r) (slot v h) (slot w t) x (apart-w w v t h e) ∙ rec m

-- ---- lengths

-- every store is to a halfedge below n
abbrev pub Below : ℕ → List Store → Type 0
Below n [] = Unit {0}
Below n (store v h x ∷ r) = (h < n) × Below n r

-- the last word of halfedge h is among the stores
abbrev wrote_one : Bool → Type 0 → Type 0 → Type 0
wrote_one true E B = E ⊎ B
wrote_one false E B = B

abbrev pub Wrote : ℕ → List Store → Type 0
Wrote t [] = ⊥
Wrote t (store v h x ∷ r) = wrote_one (same prev v) (t ≡ h) (Wrote t r)

pub stores-grow : (ed : List ℕ) (r : List Store) → length ed ≤ length (stores ed r)
stores-grow ed [] = omega arith
stores-grow ed (store v h x ∷ r) = let a = stores-grow ed r in let b = put-grows (stores ed r) (slot v h) x in omega arith

pub stores-within : (n : ℕ) (ed : List ℕ) (r : List Store) → length ed ≤ 4 * n → Below n r → length (stores ed r) ≤ 4 * n
stores-within n ed [] l b = l
stores-within n ed (store v h x ∷ r) l (a, b) = put-within (4 * n) (stores ed r) (slot v h) x (stores-within n ed r l b) (let p = slot_is v h in let q = place-lt v in omega arith)

pub stores-hold : (ed : List ℕ) (t : ℕ) (r : List Store) → Wrote t r → 4 * t + 3 < length (stores ed r)
stores-hold ed t [] w = absurd w
stores-hold ed t (store v h x ∷ r) w = go (same prev v) refl (stores-hold ed t r) w
  where
    go : (b : Bool) → same prev v ≡ b → (Wrote t r → 4 * t + 3 < length (stores ed r)) → wrote_one b (t ≡ h) (Wrote t r) → 4 * t + 3 < length (put (stores ed r) (slot v h) x)
    go true e rec (inl p) =
        let a = put_holds (stores ed r) (slot v h) x in
        let b = slot_is v h in
        let c = eqb→eq 3 (place v) (subst T (sym e) tt) in
        omega arith
    go true e rec (inr w) = let a = rec w in let b = put-grows (stores ed r) (slot v h) x in omega arith
    go false e rec w = let a = rec w in let b = put-grows (stores ed r) (slot v h) x in omega arith

-- a run inside keeps the length
pub stores-kept : (n : ℕ) (ed : List ℕ) (r : List Store) → length ed ≡ 4 * n → Below n r → length (stores ed r) ≡ length ed
stores-kept n ed r l b = let x = stores-grow ed r in let y = stores-within n ed r (omega arith) b in omega arith

-- one that makes the words of halfedges up to t, the last that is stored to
pub stores-grown : (ed : List ℕ) (t : ℕ) (r : List Store) → length ed ≤ 4 * suc t → Below (suc t) r → Wrote t r → length (stores ed r) ≡ 4 * suc t
stores-grown ed t r l b w = let x = stores-hold ed t r w in let y = stores-within (suc t) ed r l b in omega arith
