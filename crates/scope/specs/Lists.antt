-- Lists as what slices hold, and counting loops: the words in which document 01 is put here. Assumes nothing.
use Rattle.std.specs.Prelude.{ℕ, zero, suc, ◌+◌, Bool, true, false, not, ◌&&◌, List, [], ◌∷◌, eqb, Option, None, Some}

abbrev pub if : {A : Type 0} → Bool → A → A → A
if true a b = a
if false a b = b

infixr 20 ◌or_else◌
-- the first that is there
abbrev pub ◌or_else◌ : {A : Type 0} → Option A → Option A → Option A
None or_else b = b
Some a or_else b = Some a

-- a store; one past the end makes the list longer, with zeros between
unfoldable pub put : List ℕ → ℕ → ℕ → List ℕ
put [] zero x = x ∷ []
put [] (suc i) x = 0 ∷ put [] i x
put (y ∷ l) zero x = x ∷ l
put (y ∷ l) (suc i) x = y ∷ put l i x

-- a slice as long as `old` that holds l and then z
unfoldable pub lay : {A : Type 0} → A → List A → List A → List A
lay z l [] = []
lay z [] (y ∷ old) = z ∷ lay z [] old
lay z (x ∷ l) (y ∷ old) = x ∷ lay z l old

-- old with l over its first places
unfoldable pub over : {A : Type 0} → List A → List A → List A
over [] old = old
over (x ∷ l) [] = []
over (x ∷ l) (y ∷ old) = x ∷ over l old

-- a after step 0, then step 1, and so on, n of them
unfoldable pub each : {A : Type 0} → ℕ → (ℕ → A → A) → A → A
each zero step a = a
each (suc n) step a = step n (each n step a)

-- k, k + 1, .. , n of them
unfoldable pub range : ℕ → ℕ → List ℕ
range k zero = []
range k (suc n) = k ∷ range (suc k) n

-- x, step x, .. up to the one before s comes again, at most n of them
unfoldable pub round : ℕ → (ℕ → ℕ) → ℕ → ℕ → List ℕ
round s step zero x = []
round s step (suc n) x =
    let rest = round s step n (step x) in
    x ∷ if (eqb (step x) s) [] rest

-- those of l that pass
unfoldable pub only : (ℕ → Bool) → List ℕ → List ℕ
only test [] = []
only test (x ∷ l) = let r = only test l in if (test x) (x ∷ r) r

unfoldable pub has : ℕ → List ℕ → Bool
has x [] = false
has x (y ∷ l) = let r = has x l in if (eqb x y) true r

unfoldable pub distinct : List ℕ → Bool
distinct [] = true
distinct (x ∷ l) = not (has x l) && distinct l

-- of the numbers below n that are there, the first that fails the test
unfoldable pub first : ℕ → (ℕ → Bool) → (ℕ → Bool) → Option ℕ
first zero there ok = None
first (suc n) there ok = first n there ok or_else if (there n && not (ok n)) (Some n) None

-- every number below n passes
unfoldable pub all : ℕ → (ℕ → Bool) → Bool
all zero ok = true
all (suc n) ok = all n ok && ok n

-- how many numbers below n pass
unfoldable pub number_of : ℕ → (ℕ → Bool) → ℕ
number_of zero test = 0
number_of (suc n) test = number_of n test + if (test n) 1 0

-- f 0 + f 1 + .. , n of them
unfoldable pub sum : ℕ → (ℕ → ℕ) → ℕ
sum zero f = 0
sum (suc n) f = sum n f + f n
