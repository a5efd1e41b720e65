-- The laws of searches for the first and for the lowest place. Assumes nothing.
use Rattle.std.proofs.Common.{◌≡◌, ◌⊎◌, ℕ, ◌+◌, ◌≤◌, ◌<◌, Bool, true, false, refl, sym, ◌∙◌, subst, inl, inr, Option, None, Some, MatchOption}
use Rattle.std.specs.Prelude.{IsSomeAnd}
use native.Mathlib.Omega.{arith}
use Rattle.laws_check.specs.Tells.{Tells}
use Rattle.laws_mesh.proofs.Cycle.{split}
use Rattle.check_rules.specs.Place.{First, Found, FoundBy, Low, LowBy, Lower, Lowest}

-- what is found by a test that tells
pub found-tells : {Says : ℕ → Bool → Type 0} {Ok : ℕ → Type 0} {n : ℕ} {r : Option ℕ} → FoundBy Says n r → ((k : ℕ) (b : Bool) → Says k b → Tells b (Ok k)) → Found Ok n r
found-tells {Says} {Ok} {n} {r} f t = record { finds = go r f.finds }
  where
    go : (r : Option ℕ) → MatchOption r ((k : ℕ) → k < n → Says k true) (λ i. (i < n) × ((k : ℕ) → k < i → Says k true) × Says i false) → MatchOption r ((k : ℕ) → k < n → Ok k) (First Ok n)
    go None s = λ k l. (t k true (s k l)).so refl
    go (Some i) (l, s, x) = record { within = l; before = λ k q. (t k true (s k q)).so refl; broken = (t i false x).not_so refl }

-- what `(0..n).find(..)` finds
pub found-by-range : {Says : ℕ → Bool → Type 0} {n : ℕ} {r : Option ℕ} → MatchOption r ((k : ℕ) → 0 ≤ k → k < n → Says k true) (λ i. (0 ≤ i) × (i < n) × Says i false × ((k : ℕ) → 0 ≤ k → k < i → Says k true)) → FoundBy Says n r
found-by-range {Says} {n} {r} f = record { finds = go r f }
  where
    go : (r : Option ℕ) → MatchOption r ((k : ℕ) → 0 ≤ k → k < n → Says k true) (λ i. (0 ≤ i) × (i < n) × Says i false × ((k : ℕ) → 0 ≤ k → k < i → Says k true)) → MatchOption r ((k : ℕ) → k < n → Says k true) (λ i. (i < n) × ((k : ℕ) → k < i → Says k true) × Says i false)
    go None s = λ k l. s k (omega arith) l
    go (Some i) (_, l, x, s) = (l, (λ k q. s k (omega arith) q), x)

-- ---- the lowest

module _ {Says : ℕ → Bool → Type 0} {Puts : ℕ → ℕ → Type 0} where
  pub low-start : LowBy Says Puts 0 None
  low-start = record { each = λ k l. absurd (omega arith); some = λ x e. let z : None ≡ Some x = e in cc }

  pub low-pass : {n : ℕ} {r : Option ℕ} → LowBy Says Puts n r → Says n true → LowBy Says Puts (n + 1) r
  low-pass {n} {r} l s = record {
    each = λ k i. split k n (λ e. inl (subst (λ (j : ℕ). Says j true) (sym e) s)) (λ ne. l.each k (omega arith));
    some = λ x e. let (k, i, q, z) = l.some x e in (k, omega arith, q, z);
  }

  pub low_step : {n p : ℕ} {best r : Option ℕ} → LowBy Says Puts n best → Says n false → Puts n p → Lower best (Some p) r → LowBy Says Puts (n + 1) r
  low_step {n} {p} {best} {r} l s t w = record {
    each = λ k i. split k n
        (λ e. inr (subst (λ (j : ℕ). Says j false × (p : ℕ) × Puts j p × IsSomeAnd r (λ x. x ≤ p)) (sym e) (s, p, t, w.at_most_b p refl)))
        (λ ne. still k (l.each k (omega arith)));
    some = λ x e. from x e w.either;
  }
    where
      less : (best : Option ℕ) (q : ℕ) → ((x : ℕ) → best ≡ Some x → IsSomeAnd r (λ z. z ≤ x)) → IsSomeAnd best (λ x. x ≤ q) → IsSomeAnd r (λ x. x ≤ q)
      less None q f a = absurd a
      less (Some y) q f a = under r (f y refl)
        where
          under : (r : Option ℕ) → IsSomeAnd r (λ z. z ≤ y) → IsSomeAnd r (λ x. x ≤ q)
          under None b = b
          under (Some z) b = omega arith

      still : (k : ℕ) → Says k true ⊎ (Says k false × (p : ℕ) × Puts k p × IsSomeAnd best (λ x. x ≤ p)) → Says k true ⊎ (Says k false × (p : ℕ) × Puts k p × IsSomeAnd r (λ x. x ≤ p))
      still k (inl a) = inl a
      still k (inr (a, q, b, c)) = inr (a, q, b, less best q w.at_most_a c)

      from : (x : ℕ) → r ≡ Some x → (r ≡ best) ⊎ (r ≡ Some p) → (k : ℕ) × (k < n + 1) × Says k false × Puts k x
      from x e (inl b) = let (k, i, q, z) = l.some x (sym b ∙ e) in (k, omega arith, q, z)
      from x e (inr b) = let z : p ≡ x = cc (b, e) in (n, omega arith, s, subst (λ (y : ℕ). Puts n y) z t)

  -- what is found by a test that tells
  pub low-tells : {Ok : ℕ → Type 0} {place : ℕ → ℕ} {n limit : ℕ} {r : Option ℕ} → LowBy Says Puts n r
      → ((k : ℕ) (b : Bool) → Says k b → Tells b (Ok k)) → ((k p : ℕ) → Puts k p → p ≡ place k) → ((k : ℕ) → k < n → (Ok k → ⊥) → place k < limit) → Low Ok place n limit r
  low-tells {Ok} {place} {n} {limit} {r} l t at within = record { finds = go r l }
    where
      none : (k : ℕ) → Says k true ⊎ (Says k false × (p : ℕ) × Puts k p × IsSomeAnd {T = ℕ} None (λ x. x ≤ p)) → Ok k
      none k (inl s) = (t k true s).so refl
      none k (inr (s, p, q, a)) = absurd a

      lower : (x k : ℕ) → place k < x → Says k true ⊎ (Says k false × (p : ℕ) × Puts k p × IsSomeAnd (Some x) (λ x. x ≤ p)) → Ok k
      lower x k h (inl s) = (t k true s).so refl
      lower x k h (inr (s, p, q, a)) = let e = at k p q in absurd (omega arith)

      go : (r : Option ℕ) → LowBy Says Puts n r → MatchOption r ((k : ℕ) → k < n → place k < limit → Ok k) (Lowest Ok place n limit)
      go None l = λ k i _. none k (l.each k i)
      go (Some x) l =
          let (k, i, s, q) = l.some x refl in
          let e = at k x q in
          let no = (t k false s).not_so refl in
          record {
            within = let w = within k i no in omega arith;
            before = λ j i h. lower x j h (l.each j i);
            broken = (k, i, sym e, no);
          }

pub found-all : {Ok : ℕ → Type 0} {n : ℕ} {r : Option ℕ} → Found Ok n r → r ≡ None → (k : ℕ) → k < n → Ok k
found-all {Ok} {n} f e = (subst (λ (o : Option ℕ). Found Ok n o) e f).finds
