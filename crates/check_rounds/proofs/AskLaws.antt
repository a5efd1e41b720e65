-- What is asked of all halfedges of a round: is one the least, is it alone with its head. Assumes nothing.
use mathlib.Core.Path.{◌≡◌, refl, sym, ap, ◌∙◌, subst⁻¹}
use mathlib.Core.Bool.{Bool, true, false}
use mathlib.Core.List.{List, [], ◌∷◌}
use mathlib.Core.Logic.{◌⊎◌, inl, inr, ⊎_elim, ◌≢◌}
use Prim.Native.Nat.{ℕ, zero, suc, ◌*◌, ◌≤◌, ◌<◌}
use native.Mathlib.Omega.{arith}
use lib.ListN.{length}
use Rattle.std.specs.List.{list_all}
use Rattle.scope.specs.Lists.{round, has}
use Rattle.scope.specs.Links.{NONE}
use Rattle.mesh.proofs.RoundLaws.{walk_inside, has-none, has_here, has-past}
use Rattle.mesh.specs.Rounds.{Walk}
use Rattle.mesh.specs.Words.{face_at, head_at, next_at}
use Rattle.laws_mesh.specs.Reach.{Reach, iter}
use Rattle.laws_mesh.proofs.Cycle.{Perm, iter-front, iter-reach, reach-ind, reach-within, split}
use Rattle.laws_mesh.proofs.Count.{Length, length-of}
use Rattle.laws_check.specs.Tells.{Tells}
use Rattle.laws_check.proofs.Tells.{never, told, tells-map, t-and, t-eq, t-or, t_not}
use Rattle.laws_check.proofs.Rounds.{round-cycle, run, same, t-has-round}
use Rattle.check_rules.specs.Place.{Half}
use Rattle.check_rules.specs.Rule.{Alone, Looped, Sewn}
use Rattle.check_rounds.specs.Steps.{perm-next}
use Rattle.check_rounds.specs.Tour.{Least, apart_at}

-- a walk by a step that is undone stays inside
pub perm-walk : {ed : List ℕ} (em : List ℕ) {e : ℕ} {step : List ℕ → ℕ → ℕ} {g : ℕ → ℕ} → Perm (Half em e) (2 * e) (step ed) g → 8 * e ≤ length ed → {a : ℕ} → Half em e a → Walk step ed e a
perm-walk em {e} p r {a} i = walk_inside (Half em e) r (λ k j. j.0) p.fore a i

-- what is reached is met before the cycle closes
reach-met : {f : ℕ → ℕ} {a : ℕ} (k : ℕ) {y : ℕ} → Length f a k → Reach f a y → (i : ℕ) × (i < k) × (iter f i a ≡ y)
reach-met zero c r = absurd (let l = c.long in omega arith)
reach-met (suc k) c r = let (i, l, e) = reach-within k c.closes r in (i, omega arith, e)

tells-true : {b : Bool} {P : Type 0} → Tells b P → P → b ≡ true
tells-true {b} {P} = go b
  where
    go : (b : Bool) → Tells b P → P → b ≡ true
    go true t p = refl
    go false t p = absurd (t.not_so refl p)

-- ---- a test of all of a round

t-list_all-run : (t : ℕ → Bool) (f : ℕ → ℕ) (k x : ℕ) → Tells (list_all t (run same f k x)) ((i : ℕ) → i < k → t (iter f i x) ≡ true)
unfolding run
t-list_all-run t f zero x = told (λ i l. absurd (omega arith))
t-list_all-run t f (suc k) x = tells-map (t-and (record { so = λ e. e; not_so = λ e q. never (sym q ∙ e) }) (t-list_all-run t f k (f x)))
    (λ (a, b). each a b)
    (λ h. (h 0 (omega arith), λ i l. ap t (sym (iter-front f x i)) ∙ h (suc i) (omega arith)))
  where
    each : t x ≡ true → ((i : ℕ) → i < k → t (iter f i (f x)) ≡ true) → (i : ℕ) → i < suc k → t (iter f i x) ≡ true
    each a b zero l = a
    each a b (suc i) l = ap t (iter-front f x i) ∙ b i (omega arith)

module _ {P : ℕ → Type 0} {n : ℕ} {f g : ℕ → ℕ} (m : Perm P n f g) {a : ℕ} (p : P a) where
  pub all-round : (t : ℕ → Bool) → Tells (list_all t (round a f n a)) ((y : ℕ) → Reach f a y → t y ≡ true)
  all-round t =
      let (k, l, c) = length-of m p in
      subst⁻¹ (λ (r : List ℕ). Tells (list_all t r) ((y : ℕ) → Reach f a y → t y ≡ true)) (round-cycle m p l c)
      (tells-map (t-list_all-run t f k a) (λ h y r. (let (i, b, e) = reach-met k c r in ap t (sym e) ∙ h i b)) (λ h i b. h _ (iter-reach f a i)))

-- ---- the least

-- a round so far: what is left of it, and that all before is a or above
pub record Above (whole left : List ℕ) (a : ℕ) : Type 0 where
  pub of : (z : ℕ) → has z left ≡ true → has z whole ≡ true
  pub past : (z : ℕ) → has z whole ≡ true → (a ≤ z) ⊎ (has z left ≡ true)

pub above_start : {l : List ℕ} {a : ℕ} → Above l l a
above_start = record { of = λ z e. e; past = λ z e. inr e }

pub above_first : {whole left rest : List ℕ} {a x : ℕ} → Above whole left a → left ≡ x ∷ rest → has x whole ≡ true
above_first {whole} {left} {rest} {a} {x} w e = w.of x (ap (has x) e ∙ has_here x x rest refl)

pub above-on : {whole left rest : List ℕ} {a x : ℕ} → Above whole left a → left ≡ x ∷ rest → a ≤ x → Above whole rest a
above-on {whole} {left} {rest} {a} {x} w e l = record {
  of = λ z h. w.of z (ap (has z) e ∙ more z h);
  past = λ z h. ⊎_elim (λ q. inl q) (λ q. less z (sym (ap (has z) e) ∙ q)) (w.past z h);
}
  where
    more : (z : ℕ) → has z rest ≡ true → has z (x ∷ rest) ≡ true
    more z h = split x z (λ q. has_here z x rest q) (λ q. has-past z x rest q ∙ h)

    less : (z : ℕ) → has z (x ∷ rest) ≡ true → (a ≤ z) ⊎ (has z rest ≡ true)
    less z h = split x z (λ q. inl (omega arith)) (λ q. inr (sym (has-past z x rest q) ∙ h))

pub above-all : {whole left : List ℕ} {a : ℕ} → Above whole left a → left ≡ [] → (z : ℕ) → has z whole ≡ true → a ≤ z
above-all {whole} {left} {a} w e z h = ⊎_elim (λ q. q) (λ q. never (sym q ∙ ap (has z) e ∙ has-none z)) (w.past z h)

module _ {P : ℕ → Type 0} {n : ℕ} {f g : ℕ → ℕ} (m : Perm P n f g) {a : ℕ} (p : P a) where
  pub round-reach : {x : ℕ} → has x (round a f n a) ≡ true → Reach f a x
  round-reach {x} h = (t-has-round m p x).so h

  pub least-round : {left : List ℕ} → Above (round a f n a) left a → left ≡ [] → Least f a
  least-round w e b r = above-all w e b (tells-true (t-has-round m p b) r)

-- ---- alone with its head

t-apart : (ed : List ℕ) (a x : ℕ) → Tells (apart_at ed a x) ((x ≡ a) ⊎ (head_at ed x ≢ head_at ed a))
t-apart ed a x = t-or (t-eq x a) (t_not (t-eq (head_at ed x) (head_at ed a)))

module _ {ed em : List ℕ} {e a : ℕ} (s : Sewn ed em e) (lo : Looped ed em e) (i : Half em e a) (n : face_at ed a ≢ NONE) where
  on-loop : {x : ℕ} → Reach (next_at ed) a x → Half em e x × (face_at ed x ≡ face_at ed a)
  on-loop r = reach-ind (λ (x : ℕ). Half em e x × (face_at ed x ≡ face_at ed a)) (λ x (j, z). (s.next_in x j, s.next_face x j ∙ z)) (i, refl) r

  pub alone-round : {t : Bool} → t ≡ list_all (apart_at ed a) (round a (next_at ed) (2 * e) a) → Tells t (Alone ed em e a)
  alone-round {t} q = subst⁻¹ (λ (t : Bool). Tells t (Alone ed em e a)) q (tells-map (all-round (perm-next s) i (apart_at ed a))
      (λ h _ _ b j f v. ⊎_elim (λ z. z) (λ z. absurd (z v)) ((t-apart ed a b).so (h b (lo.one_loop a b i j n f))))
      (λ h y r. let (j, f) = on-loop r in tells-true (t-apart ed a y) (split y a inl (λ ne. inr (λ v. ne (h i n y j f v))))))
