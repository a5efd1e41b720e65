-- The words of a card can be copied: asked with them, a run is asked for the same scheme, the same passes and that flag. Assumes nothing.
use Prim.Native.Nat.{ℕ, ◌+◌, ◌*◌, ◌-◌, ◌/◌, ◌%◌, ◌<◌}
use mathlib.Core.Path.{◌≡◌, refl, ap, ◌∙◌}
use mathlib.Core.Bool.{Bool, true, false}
use mathlib.Core.List.{List, [], ◌∷◌, ◌++◌}
use native.Mathlib.Omega.{arith}
use borrow.Author.Tests.{ltb-true, ltb-false}
use lib.Dec.{ltb}
use Rattle.std.specs.Prelude.{Option, Some}
use Rattle.scope.specs.Lists.{all}
use Rattle.text.specs.Text.{decimal}
use Rattle.text.proofs.DecimalLaws.{decimal-one, decimal-more}
use Rattle.call_room.specs.declared.kind.Kind.{Kind}
use Rattle.call_room.specs.declared.kind.Kind.TheVariants.{Catmull}
use Rattle.refine_words.specs.Words.{same, scheme_word, flag_word, scheme_asked, flag_asked, value, is_digit, passes_asked}
use Rattle.refine_words.proofs.WordLaws.{a-digit}

pub scheme-copied : (kind : Kind) → scheme_asked (scheme_word kind) ≡ Some kind
unfolding scheme_asked same all
scheme-copied Catmull = refl

pub flag-copied : (flag : Bool) → flag_asked (flag_word flag) ≡ Some flag
unfolding flag_asked same all
flag-copied true = refl
flag-copied false = refl

-- ---- numbers of one, two and three digits
abbrev digit : ℕ → ℕ
digit d = 48 + d

is_digit_lem : (d : ℕ) → d < 10 → is_digit (digit d) ≡ true
is_digit_lem d b = a-digit (digit d) (omega arith) (omega arith)

one-digit : (a : ℕ) → a < 10 → passes_asked (digit a ∷ []) ≡ Some a
unfolding passes_asked all value
one-digit a x = let v : 10 * 0 + (digit a - 48) ≡ a = omega arith in rw (is_digit_lem a x, v) refl

two_digits : (a b : ℕ) → a < 10 → b < 10 → passes_asked (digit a ∷ digit b ∷ []) ≡ Some (10 * a + b)
unfolding passes_asked all value
two_digits a b x y =
    let v : 10 * (10 * 0 + (digit a - 48)) + (digit b - 48) ≡ 10 * a + b = omega arith in
    rw (is_digit_lem a x, is_digit_lem b y, v) refl

three-digits : (a b c : ℕ) → a < 10 → b < 10 → c < 10 → passes_asked (digit a ∷ digit b ∷ digit c ∷ []) ≡ Some (10 * (10 * a + b) + c)
unfolding passes_asked all value
three-digits a b c x y z =
    let v : 10 * (10 * (10 * 0 + (digit a - 48)) + (digit b - 48)) + (digit c - 48) ≡ 10 * (10 * a + b) + c = omega arith in
    rw (is_digit_lem a x, is_digit_lem b y, is_digit_lem c z, v) refl

-- any number below 1,000, as a card has it
pub passes-copied : (n : ℕ) → n < 1000 → passes_asked (decimal n) ≡ Some n
passes-copied n b = go (ltb n 10) refl
  where
    last : List ℕ
    last = digit (n % 10) ∷ []

    go : (t : Bool) → ltb n 10 ≡ t → passes_asked (decimal n) ≡ Some n
    go true e = ap passes_asked (decimal-one n (ltb-true n 10 e)) ∙ one-digit n (ltb-true n 10 e)
    go false e = more (ltb (n / 10) 10) refl
      where
        tenth : decimal n ≡ decimal (n / 10) ++ last
        tenth = decimal-more n (ltb-false n 10 e)

        more : (t : Bool) → ltb (n / 10) 10 ≡ t → passes_asked (decimal n) ≡ Some n
        more true f =
            let h = ltb-true (n / 10) 10 f in
            let p : 10 * (n / 10) + n % 10 ≡ n = omega arith in
            ap passes_asked (tenth ∙ ap (λ (l : List ℕ). l ++ last) (decimal-one (n / 10) h)) ∙ two_digits (n / 10) (n % 10) h (omega arith) ∙ ap {B = (Option ℕ)} (λ k. Some k) p
        more false f =
            let h : n / 10 / 10 < 10 = omega arith in
            let p : 10 * (10 * (n / 10 / 10) + n / 10 % 10) + n % 10 ≡ n = omega arith in
            let d : decimal (n / 10) ≡ digit (n / 10 / 10) ∷ digit (n / 10 % 10) ∷ [] = decimal-more (n / 10) (ltb-false (n / 10) 10 f) ∙ ap (λ (l : List ℕ). l ++ (digit (n / 10 % 10) ∷ [])) (decimal-one (n / 10 / 10) h) in
            ap passes_asked (tenth ∙ ap (λ (l : List ℕ). l ++ last) d) ∙ three-digits (n / 10 / 10) (n / 10 % 10) (n % 10) h (omega arith) (omega arith) ∙ ap {B = (Option ℕ)} (λ k. Some k) p
