-- What is laid into slices: read back, zero after, and the same whatever was there before. Assumes nothing.
use mathlib.Core.Path.{◌≡◌, refl, sym, ap, ◌∙◌}
use mathlib.Core.List.{List, [], ◌∷◌}
use Prim.Native.Nat.{ℕ, zero, suc, ◌-◌, ◌≤◌}
use native.Mathlib.Nat.{le_of_suc-le-suc, not-suc-le-zero, suc_inj, suc-ne-zero, sub-zero, zero-sub, suc-sub-suc}
use native.Mathlib.Omega.{arith}
use lib.ListN.{length, take, drop, replicate, length-replicate}
use lib.Seq.{take_all}
use Rattle.scope.specs.Lists.{lay}
use Rattle.laws_call.specs.Demand.{Only, Alike}

module _ {A : Type 0} (z : A) where
  pub length-lay : (l old : List A) → length (lay z l old) ≡ length old
  unfolding lay
  length-lay l [] = refl
  length-lay [] (y ∷ old) = ap suc (length-lay [] old)
  length-lay (x ∷ l) (y ∷ old) = ap suc (length-lay l old)

  take-lay : (l old : List A) → length l ≤ length old → take (length l) (lay z l old) ≡ l
  unfolding lay
  take-lay [] [] h = refl
  take-lay (x ∷ l) [] h = absurd (not-suc-le-zero h)
  take-lay [] (y ∷ old) h = refl
  take-lay (x ∷ l) (y ∷ old) h = ap (λ (r : List A). x ∷ r) (take-lay l old (le_of_suc-le-suc h))

  -- the used part of l, laid down, is l again where l has that length
  pub read_back : (l old : List A) (n : ℕ) → length l ≡ n → n ≤ length old → take n (lay z (take n l) old) ≡ l
  read_back l old n e h =
      let all : take n l ≡ l = take_all n l (omega arith) in
      rw (all, ← e) (take-lay l old (rw e h))

  zeros-lay : (old : List A) → lay z [] old ≡ replicate (length old) z
  unfolding lay
  zeros-lay [] = refl
  zeros-lay (y ∷ old) = ap (λ (r : List A). z ∷ r) (zeros-lay old)

  drop-zeros : (n k : ℕ) → drop n (replicate k z) ≡ replicate (k - n) z
  drop-zeros zero k = ap (λ (i : ℕ). replicate i z) (sym (sub-zero k))
  drop-zeros (suc n) zero = ap (λ (i : ℕ). replicate i z) (sym (zero-sub (suc n)))
  drop-zeros (suc n) (suc k) = drop-zeros n k ∙ ap (λ (i : ℕ). replicate i z) (sym (suc-sub-suc k n))

  -- past what is used there is nothing but z
  pub only-lay : (n : ℕ) (l old : List A) → Only z n (lay z (take n l) old)
  unfolding lay
  only-lay zero l old = rw (zeros-lay old, length-replicate (length old) z) (drop-zeros 0 (length old))
  only-lay (suc n) l [] = ap (λ (i : ℕ). replicate i z) (sym (zero-sub (suc n)))
  only-lay (suc n) [] (y ∷ old) = rw (zeros-lay old, length-replicate (length old) z) (drop-zeros (suc n) (suc (length old)))
  only-lay (suc n) (x ∷ l) (y ∷ old) = only-lay n l old ∙ ap (λ (i : ℕ). replicate i z) (sym (suc-sub-suc (length (lay z (take n l) old)) n))

  -- only the length of what was there counts
  pub lay-same : (l s t : List A) → length s ≡ length t → lay z l s ≡ lay z l t
  unfolding lay
  lay-same l [] [] e = refl
  lay-same l [] (y ∷ t) e = absurd (suc-ne-zero _ (sym e))
  lay-same l (y ∷ s) [] e = absurd (suc-ne-zero _ e)
  lay-same [] (y ∷ s) (y' ∷ t) e = ap (λ (r : List A). z ∷ r) (lay-same [] s t (suc_inj e))
  lay-same (x ∷ l) (y ∷ s) (y' ∷ t) e = ap (λ (r : List A). x ∷ r) (lay-same l s t (suc_inj e))

  lay-used : (n : ℕ) (l s t : List A) → n ≤ length s → n ≤ length t → take n (lay z l s) ≡ take n (lay z l t)
  unfolding lay
  lay-used zero l s t h k = refl
  lay-used (suc n) l [] t h k = absurd (not-suc-le-zero h)
  lay-used (suc n) l (y ∷ s) [] h k = absurd (not-suc-le-zero k)
  lay-used (suc n) [] (y ∷ s) (y' ∷ t) h k = ap (λ (r : List A). z ∷ r) (lay-used n [] s t (le_of_suc-le-suc h) (le_of_suc-le-suc k))
  lay-used (suc n) (x ∷ l) (y ∷ s) (y' ∷ t) h k = ap (λ (r : List A). x ∷ r) (lay-used n l s t (le_of_suc-le-suc h) (le_of_suc-le-suc k))

  pub alike : (n : ℕ) (l s t : List A) → n ≤ length s → n ≤ length t → Alike z n (lay z (take n l) s) (lay z (take n l) t)
  alike n l s t h k = record {
    same = λ e. lay-same (take n l) s t (sym (length-lay (take n l) s) ∙ e ∙ length-lay (take n l) t);
    same_used = lay-used n (take n l) s t h k;
    zero_after = (only-lay n l s, only-lay n l t);
  }
