-- Two counts are equal where what they count is matched one to one. Assumes nothing.
use mathlib.Core.Path.{◌≡◌, sym, ap, ◌∙◌, subst, subst⁻¹}
use mathlib.Core.Logic.{◌≢◌}
use mathlib.Core.Bool.{Bool, true, false}
use Prim.Native.Nat.{ℕ, zero, suc, ◌+◌, ◌≤◌, ◌<◌}
use native.Mathlib.Nat.{not-suc-le-zero}
use native.Mathlib.Omega.{arith}
use lib.Dec.{T}
use Rattle.scope.specs.Lists.{number_of}
use Rattle.laws_mesh.specs.Count.{bit, count}
use Rattle.laws_mesh.proofs.Cycle.{split}
use Rattle.laws_mesh.proofs.Count.{bit-T, bit_not, count_none, count-one, without, without-z, without_other}

pub T-dec : {C : Type 0} (b : Bool) → (T b → C) → (¬ T b → C) → C
T-dec true f g = f tt
T-dec false f g = g (λ t. t)

pub count-up : (p : ℕ → Bool) (m n : ℕ) → m ≤ n → count p m ≤ count p n
unfolding number_of
count-up p m zero l = let e : m ≡ zero = omega arith in subst⁻¹ (λ (m : ℕ). count p m ≤ count p zero) e (omega arith)
count-up p m (suc n) l = split m (suc n) (λ e. subst⁻¹ (λ (m : ℕ). count p m ≤ count p (suc n)) e (omega arith))
    (λ e. let r = count-up p m n (omega arith) in omega arith)

pub record Matched (p : ℕ → Bool) (n : ℕ) (q : ℕ → Bool) (m : ℕ) (φ : ℕ → ℕ) : Type 0 where
  pub into : (i : ℕ) → i < n → T (p i) → (φ i < m) × T (q (φ i))
  pub once : (i j : ℕ) → i < n → j < n → T (p i) → T (p j) → φ i ≡ φ j → i ≡ j
  pub all : (j : ℕ) → j < m → T (q j) → (i : ℕ) × (i < n) × T (p i) × (φ i ≡ j)

pub count-match : (n : ℕ) (p q : ℕ → Bool) (m : ℕ) (φ : ℕ → ℕ) → Matched p n q m φ → count p n ≡ count q m
unfolding number_of
count-match zero p q m φ w = sym (count_none q m (λ j l t. not-suc-le-zero (w.all j l t).1))
count-match (suc n) p q m φ w = T-dec (p n)
    (λ t.
    let here = w.into n (omega arith) t in
    let rest : count p n ≡ count (without q (φ n)) m = count-match n p (without q (φ n)) m φ (record {
      into = λ i l u. let (a, b) = w.into i (omega arith) u in
          (a, subst⁻¹ T (without_other q (φ n) (φ i) (λ e. (let z = w.once i n (omega arith) (omega arith) u t e in omega arith))) b);
      once = λ i j a b. w.once i j (omega arith) (omega arith);
      all = λ j l u. split j (φ n) (λ e. absurd (without-z q (φ n) (subst (λ (x : ℕ). T (without q (φ n) x)) e u)))
          (λ ne. let (i, a, b, e) = w.all j l (subst T (without_other q (φ n) j ne) u) in
          (i, (let d : i ≢ n = λ z. ne (sym e ∙ ap φ z) in omega arith), b, e));
    }) in
    let more : count q m ≡ count (without q (φ n)) m + 1 = count-one q (without q (φ n)) (φ n) m here.0 (bit-T (q (φ n)) here.1) (bit_not (without q (φ n) (φ n)) (without-z q (φ n)))
    (λ x l ne. ap bit (sym (without_other q (φ n) x ne))) in
    let one = bit-T (p n) t in
    omega arith)
    (λ t.
    let rest : count p n ≡ count q m = count-match n p q m φ (record {
      into = λ i l u. w.into i (omega arith) u;
      once = λ i j a b. w.once i j (omega arith) (omega arith);
      all = λ j l u. let (i, a, b, e) = w.all j l u in (i, (let d : i ≢ n = λ z. t (subst (λ (x : ℕ). T (p x)) z b) in omega arith), b, e);
    }) in
    let none = bit_not (p n) t in
    omega arith)
