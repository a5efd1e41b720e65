-- What there is before and after an edit: the same elements, one more, or a new edge's two halves more. Assumes nothing.
use mathlib.Core.Path.{◌≡◌, sym, ap, ◌∙◌, subst⁻¹}
use mathlib.Core.Logic.{◌⊎◌, inl, inr, ◌≢◌}
use mathlib.Core.List.{List}
use Prim.Native.Nat.{ℕ, ◌+◌, ◌*◌, ◌/◌, ◌<◌}
use native.Mathlib.Omega.{arith}
use lib.ListN.{get_or, length}
use Rattle.scope.specs.Lists.{put}
use Rattle.scope.specs.Links.{partner}
use Rattle.laws_mesh.proofs.Cycle.{split}
use Rattle.laws_mesh.proofs.Facts.{partner-partner, partner-even}
use Rattle.laws_mesh.proofs.Puts.{get_d_past, get_or-put-same, get_or-put-other}

pub record SameSet (P Q : ℕ → Type 0) : Type 0 where
  pub keep : (x : ℕ) → P x → Q x
  pub is : (x : ℕ) → Q x → P x

pub record OneMore (P Q : ℕ → Type 0) (g : ℕ) : Type 0 where
  pub fresh : ¬ P g
  pub keep : (x : ℕ) → P x → Q x
  pub new : Q g
  pub is : (x : ℕ) → Q x → P x ⊎ (x ≡ g)

pub record NewEdge (P Q : ℕ → Type 0) (n : ℕ) : Type 0 where
  pub n-new : ¬ P n
  pub o-new : ¬ P (partner n)
  pub keep : (x : ℕ) → P x → Q x
  pub n-in : Q n
  pub o-in : Q (partner n)
  pub is : (x : ℕ) → Q x → P x ⊎ ((x ≡ n) ⊎ (x ≡ partner n))

-- in range, and unmarked in l
abbrev pub Unmarked : ℕ → List ℕ → ℕ → Type 0
Unmarked n l x = (x < n) × (get_or l x 0 ≡ 0)

abbrev pub UnmarkedHalf : ℕ → List ℕ → ℕ → Type 0
UnmarkedHalf n l h = (h < 2 * n) × (get_or l (h / 2) 0 ≡ 0)

-- counts that did not change are often said as n + 0
pub range_same : (n n' : ℕ) → n ≡ n' → SameSet (λ x. x < n) (λ x. x < n')
range_same n n' e = record { keep = λ x i. (omega arith); is = λ x i. (omega arith) }

pub unmarked-same : (n n' : ℕ) (l : List ℕ) → n ≡ n' → SameSet (Unmarked n l) (Unmarked n' l)
unmarked-same n n' l e = record { keep = λ x (i, q). (omega arith, q); is = λ x (i, q). (omega arith, q) }

pub range-more : (n n' : ℕ) → n + 1 ≡ n' → OneMore (λ x. x < n) (λ x. x < n') n
range-more n n' e = record { fresh = λ i. (omega arith); keep = λ x i. (omega arith); new = omega arith; is = λ x i. split x n (λ q. inr q) (λ q. inl (omega arith)) }

-- what is new is past the end of the marks, so unmarked
pub unmarked-more : (n n' : ℕ) (l : List ℕ) → n + 1 ≡ n' → length l ≡ n → OneMore (Unmarked n l) (Unmarked n' l) n
unmarked-more n n' l e long = record {
  fresh = λ (i, q). (omega arith);
  keep = λ x (i, q). (omega arith, q);
  new = (omega arith, get_d_past l n (omega arith));
  is = λ x (i, q). split x n (λ q. inr q) (λ ne. inl (omega arith, q));
}

-- a marked one that is used again
pub unmarked-again : (n n' g : ℕ) (l : List ℕ) → n ≡ n' → g < n → get_or l g 0 ≢ 0 → OneMore (Unmarked n l) (Unmarked n' (put l g 0)) g
unmarked-again n n' g l e b marked = record {
  fresh = λ (i, q). marked q;
  keep = λ x (i, q). (omega arith, get_or-put-other l g x 0 (λ r. marked (ap (λ (y : ℕ). get_or l y 0) (sym r) ∙ q)) ∙ q);
  new = (omega arith, get_or-put-same l g 0 0);
  is = λ x (i, q). split x g (λ r. inr r) (λ ne. inl (omega arith, sym (get_or-put-other l g x 0 ne) ∙ q));
}

-- a new edge's halves
pub range-edge : (n n₁ n₂ : ℕ) → n₁ ≡ n → n + 1 ≡ n₂ → NewEdge (λ x. x < 2 * n₁) (λ x. x < 2 * n₂) (2 * n)
range-edge n n₁ n₂ e₁ e₂ = let p = partner-even n in record {
  n-new = λ i. (omega arith);
  o-new = λ i. (omega arith);
  keep = λ x i. (omega arith);
  n-in = omega arith;
  o-in = omega arith;
  is = λ x i. split x (2 * n) (λ e. inr (inl e)) (λ ne. split x (partner (2 * n)) (λ e. inr (inr e)) (λ q. inl (omega arith)));
}

pub unmarked-edge : (n n' : ℕ) (l : List ℕ) → n + 1 ≡ n' → length l ≡ n → NewEdge (UnmarkedHalf n l) (UnmarkedHalf n' l) (2 * n)
unmarked-edge n n' l e long = let p = partner-even n in record {
  n-new = λ (i, q). (omega arith);
  o-new = λ (i, q). (omega arith);
  keep = λ x (i, q). (omega arith, q);
  n-in = (omega arith, get_d_past l (2 * n / 2) (omega arith));
  o-in = (omega arith, get_d_past l (partner (2 * n) / 2) (omega arith));
  is = λ x (i, q). split x (2 * n) (λ e. inr (inl e)) (λ ne. split x (partner (2 * n)) (λ e. inr (inr e)) (λ r. inl (omega arith, q)));
}

-- either half of it may be said to be the new one
pub edge-flip : {P Q : ℕ → Type 0} {n : ℕ} → NewEdge P Q n → NewEdge P Q (partner n)
edge-flip {P} {Q} {n} b = record {
  n-new = b.o-new;
  o-new = subst⁻¹ (λ (x : ℕ). ¬ P x) (partner-partner n) b.n-new;
  keep = b.keep;
  n-in = b.o-in;
  o-in = subst⁻¹ Q (partner-partner n) b.n-in;
  is = λ x i. go x (b.is x i);
}
  where
    go : (x : ℕ) → P x ⊎ ((x ≡ n) ⊎ (x ≡ partner n)) → P x ⊎ ((x ≡ partner n) ⊎ (x ≡ partner (partner n)))
    go x (inl i) = inl i
    go x (inr (inl e)) = inr (inr (e ∙ sym (partner-partner n)))
    go x (inr (inr e)) = inr (inl e)
