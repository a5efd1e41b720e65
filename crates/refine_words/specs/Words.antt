-- The words that ask for a run (document 01, sections 3 and 4: a scheme, a number of passes, a flag). Assumes nothing.
use Rattle.std.specs.Prelude.{ℕ, zero, suc, ◌+◌, ◌*◌, ◌-◌, Bool, true, false, ◌&&◌, List, eqb, leb, length, get_or, Option, Some, None}
use Rattle.scope.specs.Lists.{if, all}
use Rattle.text.specs.Ascii.{ascii}
use Rattle.call_room.specs.declared.kind.Kind.{Kind}
use Rattle.call_room.specs.declared.kind.Kind.TheVariants.{Catmull}

-- as long, and the same in every place
unfoldable pub same : List ℕ → List ℕ → Bool
same a b = eqb (length a) (length b) && all (length a) (λ i. eqb (get_or a i 0) (get_or b i 0))

-- the word of a scheme, and of a flag
abbrev pub scheme_word : Kind → List ℕ
scheme_word Catmull = ascii "catmull"

abbrev pub flag_word : Bool → List ℕ
flag_word true = ascii "update"
flag_word false = ascii "keep"

unfoldable pub scheme_asked : List ℕ → Option Kind
scheme_asked w = if (same w (scheme_word Catmull)) (Some Catmull) None

unfoldable pub flag_asked : List ℕ → Option Bool
flag_asked w = if (same w (flag_word true)) (Some true) (if (same w (flag_word false)) (Some false) None)

-- the number that the first n bytes of w are in decimal
unfoldable pub value : ℕ → List ℕ → ℕ
value zero w = 0
value (suc n) w = 10 * value n w + (get_or w n 0 - 48)

abbrev pub is_digit : ℕ → Bool
is_digit d = leb 48 d && leb d 57

-- one to three decimal digits and nothing else; zeros in front are taken
unfoldable pub passes_asked : List ℕ → Option ℕ
passes_asked w =
    let n = length w in
    if (leb 1 n && leb n 3 && all n (λ i. is_digit (get_or w i 0))) (Some (value n w)) None
