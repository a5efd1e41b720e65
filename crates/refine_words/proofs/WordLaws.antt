-- Words compared and numbers read, byte by byte. Assumes nothing.
use Prim.Native.Nat.{ℕ, zero, suc, ◌+◌, ◌*◌, ◌-◌, ◌≤◌, ◌<◌}
use mathlib.Core.Path.{◌≡◌, refl, sym, subst, ◌∙◌}
use mathlib.Core.Bool.{Bool, true, false, ◌&&◌, true≢false}
use mathlib.Core.List.{List}
use native.Mathlib.Omega.{arith}
use borrow.Author.Tests.{eq-eqb, eqb-true, eqb-false, le-leb, lt-leb}
use lib.Dec.{eqb, leb}
use lib.ListN.{length, get_or}
use lib.Seq.{ext_get_or}
use lib.Pointwise.{pointwise, bytes_decides}
use Rattle.std.specs.Prelude.{Option, Some, None}
use Rattle.std.specs.Bool.{then_some}
use Rattle.scope.specs.Lists.{if, all}
use Rattle.call_room.specs.declared.kind.Kind.TheVariants.{Catmull}
use Rattle.refine_words.specs.Words.{same, scheme_word, flag_word, scheme_asked, flag_asked, value, is_digit, passes_asked}

-- ---- tests of all numbers below one
both : (a b : Bool) → a && b ≡ true → (a ≡ true) × (b ≡ true)
both true true e = (refl, refl)
both true false e = absurd (true≢false (sym e))
both false b e = absurd (true≢false (sym e))

all_holds : (n : ℕ) (ok : ℕ → Bool) → ((i : ℕ) → ok i ≡ true) → all n ok ≡ true
unfolding all
all_holds zero ok h = refl
all_holds (suc n) ok h = rw (all_holds n ok h, h n) refl

all_at : (n : ℕ) (ok : ℕ → Bool) → all n ok ≡ true → (i : ℕ) → i < n → ok i ≡ true
unfolding all
all_at zero ok e i b = absurd (omega arith)
all_at (suc n) ok e i b = go (eqb i n) refl (λ l. all_at n ok (both (all n ok) (ok n) e).0 i l) (both (all n ok) (ok n) e).1
  where
    go : (t : Bool) → eqb i n ≡ t → (i < n → ok i ≡ true) → ok n ≡ true → ok i ≡ true
    go true q below last = let z : i ≡ n = eqb-true i n q in rw z last
    go false q below last = let z : i ≡ n → ⊥ = eqb-false i n q in below (omega arith)

all_fails : (n : ℕ) (ok : ℕ → Bool) (i : ℕ) → i < n → ok i ≡ false → all n ok ≡ false
all_fails n ok i b e = go (all n ok) refl
  where
    go : (t : Bool) → all n ok ≡ t → t ≡ false
    go false q = refl
    go true q = absurd (true≢false (sym (all_at n ok q i b) ∙ e))

-- ---- the same word
alike : List ℕ → List ℕ → ℕ → Bool
alike a b i = eqb (get_or a i 0) (get_or b i 0)

same_self : (a : List ℕ) → same a a ≡ true
unfolding same
same_self a = rw (eq-eqb (length a) (length a) refl) (all_holds (length a) (λ i. eqb (get_or a i 0) (get_or a i 0)) (λ i. eq-eqb _ _ refl))

same_equal : (a b : List ℕ) → same a b ≡ true → a ≡ b
unfolding same
same_equal a b e =
    let h = both _ _ e in
    ext_get_or 0 a b (eqb-true _ _ h.0) (λ i q. eqb-true _ _ (all_at _ _ h.1 i q))

-- what `==` answers
pub same_lists : (a b : List ℕ) → pointwise eqb a b ≡ same a b
same_lists a b = go (pointwise eqb a b) (same a b) refl refl
  where
    go : (t u : Bool) → pointwise eqb a b ≡ t → same a b ≡ u → t ≡ u
    go true true p q = refl
    go false false p q = refl
    go true false p q = absurd (true≢false (sym (subst (λ (w : List ℕ). same a w ≡ true) ((bytes_decides a b).0 p) (same_self a)) ∙ q))
    go false true p q = absurd (true≢false (sym ((bytes_decides a b).1 (same_equal a b q)) ∙ p))

-- ---- the words that are known; t and u are the answers of the comparisons
pub scheme-known : (w : List ℕ) → then_some (pointwise eqb w (scheme_word Catmull)) Catmull ≡ scheme_asked w
unfolding scheme_asked
scheme-known w = rw (same_lists w (scheme_word Catmull)) (go (same w (scheme_word Catmull)))
  where
    go : (t : Bool) → then_some t Catmull ≡ if t (Some Catmull) None
    go true = refl
    go false = refl

pub update-asked : (w : List ℕ) {t : Bool} → t ≡ same w (flag_word true) → t ≡ true → Some true ≡ flag_asked w
unfolding flag_asked
update-asked w e f = rw (sym e ∙ f) refl

pub keep-asked : (w : List ℕ) {t u : Bool} → t ≡ same w (flag_word true) → t ≡ false → u ≡ same w (flag_word false) → u ≡ true → Some false ≡ flag_asked w
unfolding flag_asked
keep-asked w e f g h = rw (sym e ∙ f, sym g ∙ h) refl

pub flag-unknown : (w : List ℕ) {t u : Bool} → t ≡ same w (flag_word true) → t ≡ false → u ≡ same w (flag_word false) → u ≡ false → None ≡ flag_asked w
unfolding flag_asked
flag-unknown w e f g h = rw (sym e ∙ f, sym g ∙ h) refl

-- ---- a number of one to three digits
abbrev pub digit_at : List ℕ → ℕ → Bool
digit_at w i = is_digit (get_or w i 0)

-- a loop that reads w, before its turn i
pub record Digits (w : List ℕ) (n i : ℕ) : Type 0 where
  pub passed : all i (digit_at w) ≡ true
  pub so_far : n ≡ value i w
  pub none : i ≤ 0 → n ≤ 0
  pub one : i ≤ 1 → n ≤ 9
  pub two : i ≤ 2 → n ≤ 99
  pub three : i ≤ 3 → n ≤ 999

pub no-digits : (w : List ℕ) → Digits w 0 0
unfolding value all
no-digits w = record { passed = refl; so_far = refl; none = λ h. omega arith; one = λ h. omega arith; two = λ h. omega arith; three = λ h. omega arith }

pub a-digit : (d : ℕ) → 48 ≤ d → d ≤ 57 → is_digit d ≡ true
a-digit d a b = rw (le-leb _ _ a, le-leb _ _ b) refl

value_on : (w : List ℕ) (i : ℕ) → value (i + 1) w ≡ 10 * value i w + (get_or w i 0 - 48)
unfolding value
value_on w i = let s : i + 1 ≡ suc i = omega arith in rw s refl

all_on : (w : List ℕ) (i : ℕ) → all i (digit_at w) ≡ true → digit_at w i ≡ true → all (i + 1) (digit_at w) ≡ true
unfolding all
all_on w i p q = let s : i + 1 ≡ suc i = omega arith in rw (s, p, q) refl

pub digit-on : {w : List ℕ} {n i : ℕ} → Digits w n i → i < length w → 48 ≤ get_or w i 0 → get_or w i 0 ≤ 57 → Digits w (10 * n + (get_or w i 0 - 48)) (i + 1)
digit-on {w} {n} {i} q b lo hi = record {
  passed = all_on w i q.passed (a-digit (get_or w i 0) lo hi);
  so_far = let v = value_on w i in let p = q.so_far in omega arith;
  none = λ h. omega arith;
  one = λ h. let z = q.none (omega arith) in omega arith;
  two = λ h. let z = q.one (omega arith) in omega arith;
  three = λ h. let z = q.two (omega arith) in omega arith;
}

-- ---- what is answered
other : (w : List ℕ) → all (length w) (digit_at w) ≡ false → None ≡ passes_asked w
unfolding passes_asked
other w e = rw e (go (leb 1 (length w) && leb (length w) 3))
  where
    go : (t : Bool) → ◌≡◌ {A = Option ℕ} None (if (t && false) (Some (value (length w) w)) None)
    go true = refl
    go false = refl

pub empty-word : (w : List ℕ) → length w ≡ 0 → None ≡ passes_asked w
unfolding passes_asked
empty-word w e = rw (e) refl

pub long-word : (w : List ℕ) → 3 < length w → None ≡ passes_asked w
unfolding passes_asked
long-word w b = rw (le-leb 1 (length w) (omega arith), lt-leb (length w) 3 b) refl

pub no-digit : (w : List ℕ) (i : ℕ) → i < length w → is_digit (get_or w i 0) ≡ false → None ≡ passes_asked w
no-digit w i b e = other w (all_fails (length w) (digit_at w) i b e)

pub all_digits : {w : List ℕ} {n i : ℕ} → Digits w n i → length w ≡ i → 1 ≤ length w → length w ≤ 3 → Some n ≡ passes_asked w
unfolding passes_asked
all_digits {w} {n} {i} q e one three =
    let p : n ≡ value (length w) w = rw e q.so_far in
    let d : all (length w) (digit_at w) ≡ true = rw e q.passed in
    rw (le-leb 1 (length w) one, le-leb (length w) 3 three, d, p) refl
