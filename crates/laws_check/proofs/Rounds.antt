-- The laws of rounds: scope's `round` from a and back to a holds what repeated steps from a reach, once each. Assumes nothing.
use mathlib.Core.Path.{◌≡◌, refl, sym, ap, ◌∙◌, subst, subst⁻¹}
use mathlib.Core.Logic.{◌⊎◌, inl, inr, ◌≢◌, ⊎_elim}
use mathlib.Core.Bool.{Bool, true, false}
use mathlib.Core.List.{List, [], ◌∷◌, map}
use Prim.Native.Nat.{ℕ, zero, suc, ◌+◌, ◌-◌, ◌≤◌, ◌<◌}
use native.Mathlib.Omega.{arith}
use native.Mathlib.Decide.{dec_lt}
use lib.Dec.{eqb, leb}
use lib.ListN.{length}
use Rattle.scope.specs.Lists.{if, round, has, distinct}
use Rattle.laws_mesh.specs.Reach.{Reach, iter}
use Rattle.laws_mesh.proofs.Cycle.{Perm, iter-reach, iter-front, cancel, reach-within, if-eq, if-ne}
use Rattle.laws_mesh.proofs.Count.{Length, length-of}
use Rattle.laws_check.specs.Tells.{Tells}
use Rattle.laws_check.proofs.Tells.{told, denied, tells-map, t-eq, t-le, t-and, t_not}

-- key x, key (f x), .. , k of them
unfoldable pub run : (ℕ → ℕ) → (ℕ → ℕ) → ℕ → ℕ → List ℕ
run key f zero x = []
run key f (suc k) x = key x ∷ run key f k (f x)

abbrev pub same : ℕ → ℕ
same x = x

pub length_run : (key f : ℕ → ℕ) (k x : ℕ) → length (run key f k x) ≡ k
unfolding run
length_run key f zero x = refl
length_run key f (suc k) x = ap suc (length_run key f k (f x))

pub map-run : (key f : ℕ → ℕ) (k x : ℕ) → map key (run same f k x) ≡ run key f k x
unfolding run
map-run key f zero x = refl
map-run key f (suc k) x = ap (λ (r : List ℕ). key x ∷ r) (map-run key f k (f x))

-- a round that comes to s after k steps, and not before, is a run of k
pub round-run : (k n : ℕ) (f : ℕ → ℕ) (s x : ℕ) → 0 < k → k ≤ n → iter f k x ≡ s → ((i : ℕ) → 0 < i → i < k → iter f i x ≢ s) → round s f n x ≡ run same f k x
unfolding round run
round-run zero n f s x l b e d = absurd (omega arith)
round-run (suc k) zero f s x l b e d = absurd (omega arith)
round-run (suc zero) (suc n) f s x l b e d = ap (λ (r : List ℕ). x ∷ r) (if-eq (f x) s [] (round s f n (f x)) e)
round-run (suc (suc k)) (suc n) f s x l b e d = ap (λ (r : List ℕ). x ∷ r)
    (if-ne (f x) s [] (round s f n (f x)) (d 1 (omega arith) (omega arith))
    ∙ round-run (suc k) n f s (f x) (omega arith) (omega arith) (sym (iter-front f x (suc k)) ∙ e) (λ i h j q. d (suc i) (omega arith) (omega arith) (iter-front f x i ∙ q)))

-- ---- what a run holds

-- y is the key of one of k steps from x
abbrev pub Met : (ℕ → ℕ) → (ℕ → ℕ) → ℕ → ℕ → ℕ → Type 0
Met key f k x y = (i : ℕ) × (i < k) × (key (iter f i x) ≡ y)

pub t-has-run : (key f : ℕ → ℕ) (k x y : ℕ) → Tells (has y (run key f k x)) (Met key f k x y)
unfolding run has
t-has-run key f zero x y = denied (λ (i, l, e). omega arith)
t-has-run key f (suc k) x y = tells-map (either (eqb y (key x)) (t-eq y (key x)) (t-has-run key f k (f x) y))
    (λ z. ⊎_elim (λ e. (0, omega arith, sym e)) (λ (i, l, e). (suc i, omega arith, ap key (iter-front f x i) ∙ e)) z)
    from
  where
    either : {Q : Type 0} (b : Bool) → Tells b (y ≡ key x) → {c : Bool} → Tells c Q → Tells (if b true c) ((y ≡ key x) ⊎ Q)
    either true t u = told (inl (t.so refl))
    either false t u = tells-map u inr (λ z. ⊎_elim (λ p. absurd (t.not_so refl p)) (λ q. q) z)

    from : Met key f (suc k) x y → (y ≡ key x) ⊎ Met key f k (f x) y
    from (zero, l, e) = inl (sym e)
    from (suc i, l, e) = inr (i, omega arith, ap key (sym (iter-front f x i)) ∙ e)

pub t-distinct-run : (key f : ℕ → ℕ) (k x : ℕ) → Tells (distinct (run key f k x)) ((i j : ℕ) → i < j → j < k → key (iter f i x) ≢ key (iter f j x))
unfolding run distinct
t-distinct-run key f zero x = told (λ i j h l. absurd (omega arith))
t-distinct-run key f (suc k) x = tells-map (t-and (t_not (t-has-run key f k (f x) (key x))) (t-distinct-run key f k (f x)))
    (λ (a, b). apart a b)
    (λ d. (
      (λ (i, l, e). d 0 (suc i) (omega arith) (omega arith) (sym (ap key (iter-front f x i) ∙ e))),
      λ i j h l q. d (suc i) (suc j) (omega arith) (omega arith) (ap key (iter-front f x i) ∙ q ∙ sym (ap key (iter-front f x j))),
    ))
  where
    apart : (Met key f k (f x) (key x) → ⊥) → ((i j : ℕ) → i < j → j < k → key (iter f i (f x)) ≢ key (iter f j (f x)))
        → (i j : ℕ) → i < j → j < suc k → key (iter f i x) ≢ key (iter f j x)
    apart a b i zero h l q = omega arith
    apart a b zero (suc j) h l q = a (j, omega arith, sym (ap key (iter-front f x j)) ∙ sym q)
    apart a b (suc i) (suc j) h l q = b i j (omega arith) (omega arith) (sym (ap key (iter-front f x i)) ∙ q ∙ ap key (iter-front f x j))

-- ---- rounds of a permutation

module _ {P : ℕ → Type 0} {n : ℕ} {f g : ℕ → ℕ} (m : Perm P n f g) {a : ℕ} (p : P a) where
  -- a cycle's round is its run, as long as the cycle
  pub round-cycle : {k : ℕ} → k ≤ n → Length f a k → round a f n a ≡ run same f k a
  round-cycle {k} l c = round-run k n f a a c.long l c.closes c.no-sooner

  met-reach : {k y : ℕ} → Met same f k a y → Reach f a y
  met-reach (i, l, e) = subst (λ (x : ℕ). Reach f a x) e (iter-reach f a i)

  reach-met : (k : ℕ) {y : ℕ} → Length f a k → Reach f a y → Met same f k a y
  reach-met zero c r = absurd (let l = c.long in omega arith)
  reach-met (suc k) c r = let (i, l, e) = reach-within k c.closes r in (i, omega arith, e)

  -- different steps of a cycle are different
  steps-differ : {k : ℕ} → Length f a k → (i j : ℕ) → i < j → j < k → iter f i a ≢ iter f j a
  steps-differ c i j h l e =
      let (d, q) = gap i j h in
      c.no-sooner d (omega arith) (omega arith) (sym (cancel m p i d (e ∙ ap (λ (x : ℕ). iter f x a) (sym q))))
    where
      gap : (i j : ℕ) → i < j → (d : ℕ) × (d + i ≡ j)
      gap i j h = (j - i, omega arith)

  pub t-has-round : (y : ℕ) → Tells (has y (round a f n a)) (Reach f a y)
  t-has-round y =
      let (k, l, c) = length-of m p in
      subst⁻¹ (λ (r : List ℕ). Tells (has y r) (Reach f a y)) (round-cycle l c) (tells-map (t-has-run same f k a y) met-reach (reach-met k c))

  -- three or more
  pub t-three-round : Tells (leb 3 (length (round a f n a))) (f (f a) ≢ a)
  t-three-round =
      let (k, l, c) = length-of m p in
      subst⁻¹ (λ (i : ℕ). Tells (leb 3 i) (f (f a) ≢ a)) (ap length (round-cycle l c) ∙ length_run same f k a)
      (tells-map (t-le 3 k) (λ h. c.no-sooner 2 (omega arith) (omega arith)) (λ ne. long k c ne))
    where
      long : (k : ℕ) → Length f a k → f (f a) ≢ a → 3 ≤ k
      long zero c ne = absurd (let l = c.long in omega arith)
      long (suc zero) c ne = absurd (ne (ap f c.closes ∙ c.closes))
      long (suc (suc zero)) c ne = absurd (ne c.closes)
      long (suc (suc (suc k))) c ne = omega arith

  pub t-distinct-round : (key : ℕ → ℕ) → Tells (distinct (map key (round a f n a))) ((x y : ℕ) → Reach f a x → Reach f a y → key x ≡ key y → x ≡ y)
  t-distinct-round key =
      let (k, l, c) = length-of m p in
      subst⁻¹ (λ (r : List ℕ). Tells (distinct r) ((x y : ℕ) → Reach f a x → Reach f a y → key x ≡ key y → x ≡ y)) (ap (map key) (round-cycle l c) ∙ map-run key f k a)
      (tells-map (t-distinct-run key f k a) (λ d x y r s q. one d x y (reach-met k c r) (reach-met k c s) q)
      (λ u i j h l q. steps-differ c i j h l (u _ _ (iter-reach f a i) (iter-reach f a j) q)))
    where
      one : {k : ℕ} → ((i j : ℕ) → i < j → j < k → key (iter f i a) ≢ key (iter f j a)) → (x y : ℕ) → Met same f k a x → Met same f k a y → key x ≡ key y → x ≡ y
      one d x y (i, l, e) (j, h, z) q = pick (dec_lt i j) (dec_lt j i)
        where
          keys : key (iter f i a) ≡ key (iter f j a)
          keys = ap key e ∙ q ∙ ap key (sym z)

          pick : Dec (i < j) → Dec (j < i) → x ≡ y
          pick (yes b) o = absurd (d i j b h keys)
          pick (no b) (yes o) = absurd (d j i o l (sym keys))
          pick (no b) (no o) = let s : i ≡ j = omega arith in sym e ∙ ap (λ (w : ℕ). iter f w a) s ∙ z
