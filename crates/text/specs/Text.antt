-- Text in a slice of bytes: words and decimal numbers, one after the other. Assumes nothing.
use Rattle.std.specs.Prelude.{ℕ, zero, suc, ◌+◌, ◌/◌, ◌%◌, Bool, List, [], ◌∷◌, ◌++◌, ltb}
use Rattle.scope.specs.Lists.{if, over}

-- old with l over its places from there on
unfoldable pub over_from : ℕ → List ℕ → List ℕ → List ℕ
over_from zero l old = over l old
over_from (suc at) l [] = []
over_from (suc at) l (y ∷ old) = y ∷ over_from at l old

-- the last k decimal digits of n in ASCII, with no zero in front
unfoldable pub digits_of : ℕ → ℕ → List ℕ
digits_of zero n = []
digits_of (suc k) n =
    let more = digits_of k (n / 10) ++ ((48 + n % 10) ∷ []) in
    if (ltb n 10) ((48 + n) ∷ []) more

-- a number in decimal: it has at most as many digits as it counts, and one more
unfoldable pub decimal : ℕ → List ℕ
decimal n = digits_of (suc n) n

-- with a minus sign in front, if it has one
unfoldable pub signed : Bool → ℕ → List ℕ
signed minus n = if minus (45 ∷ decimal n) (decimal n)
