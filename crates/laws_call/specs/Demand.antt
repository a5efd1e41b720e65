-- Demand 3: a passes and then b are a + b at once. Assumes nothing.
use Rattle.std.specs.Prelude.{ℕ, ◌+◌, ◌-◌, ◌*◌, ◌≤◌, ◌≡◌, ◌≢◌, Bool, true, List, eqb, length, get_or, take, drop, replicate, Float, Ok, Err}
use Rattle.scope.specs.declared.records.Counts.{Counts}
use Rattle.scope.specs.declared.answers.Refusal.{Refusal}
use Rattle.scope.specs.declared.answers.Refusal.TheVariants.{NoWeight}
use Rattle.scope.specs.Answers.{Subdivided}
use Rattle.scope.specs.Answers.{said_of, said_subdivided}
use Rattle.scope.specs.Lists.{if}
use Rattle.scope.specs.Links.{Links, Marks}
use Rattle.scope.specs.Slices.{Given, Buffers, sizes, links_of, marks_of, points_of, float_zero}
use Rattle.scope.specs.Call.{Scheme, Outcome, enough, call, onward}

-- the links, the marks and the coordinates of a mesh as given
abbrev pub links_in : Given → Links
links_in g = links_of g.counts g.slices

abbrev pub marks_in : Given → Marks
marks_in g = marks_of g.counts g.slices

abbrev pub points_in : Given → List Float
points_in g = points_of g.counts g.points

-- all that answer 5 weighs: the result's slices, its points and the work slice have room for k passes
abbrev pub Room : Scheme → ℕ → Bool → Given → Buffers → Type 0
Room S k flag g b = enough S k flag (links_in g) (sizes b.result) (length b.points) (length b.work) ≡ true

-- document 01's number of an answer
abbrev pub number : Outcome → ℕ
number o = (said_subdivided o.answer).number

-- answer 6 names a pass, and the second call counts its own from 1: counted from the first call's first pass, a come before
unfoldable pub counted_on : ℕ → Refusal → Refusal
counted_on a r =
    let said = said_of r in
    let pass = get_or said.values 0 0 in
    let vertex = get_or said.values 1 0 in
    if (eqb said.number 6) (NoWeight (a + pass) vertex) r

-- the answer to a + b passes at once, by the answers to a and then to b
unfoldable pub as_one : ℕ → Subdivided → Subdivided → Subdivided
as_one a (Err r) second = Err r
as_one a (Ok (c, flag)) (Err r) = Err (counted_on a r)
as_one a (Ok (c, flag)) (Ok (c', flag')) = Ok (c', flag')

-- nothing but z from place n on
abbrev pub Only : {A : Type 0} → A → ℕ → List A → Type 0
Only z n s = drop n s ≡ replicate (length s - n) z

-- two slices of which n places are used: all the same where they have one length; else the same in those places, and zero after
pub record Alike {A : Type 0} (z : A) (n : ℕ) (s t : List A) : Type 0 where
  pub same : length s ≡ length t → s ≡ t
  pub same_used : take n s ≡ take n t
  pub zero_after : Only z n s × Only z n t

-- every slice that was lent, where the counts are c
pub record AlikeInAll (c : Counts) (p q : Buffers) : Type 0 where
  pub outs : Alike 0 c.v p.result.outs q.result.outs
  pub edges : Alike 0 (8 * c.e) p.result.edges q.result.edges
  pub faces : Alike 0 c.f p.result.faces q.result.faces
  pub vmarks : Alike 0 c.v p.result.vmarks q.result.vmarks
  pub emarks : Alike 0 c.e p.result.emarks q.result.emarks
  pub fmarks : Alike 0 c.f p.result.fmarks q.result.fmarks
  pub points : Alike float_zero (3 * c.v) p.points q.points
  pub work : Alike float_zero 0 p.work q.work

-- slices of the same lengths
pub record Lent (b left : Buffers) : Type 0 where
  pub of_result : sizes left.result ≡ sizes b.result
  pub of_points : length left.points ≡ length b.points
  pub of_work : length left.work ≡ length b.work

-- two calls, one after the other, against one
pub record Repeated (a : ℕ) (first second once : Outcome) : Type 0 where
  -- the same number and, but for answer 6, the same values
  pub same_number : number once ≡ number second
  pub same_values : number second ≢ 6 → said_subdivided once.answer ≡ said_subdivided second.answer
  -- exactly the answer that these two come to: a refusal with its place, or the counts and the flag
  pub same_answer : once.answer ≡ as_one a first.answer second.answer
  -- and, when done, the same bits
  pub same_bits : (c : Counts) (flag : Bool) → once.answer ≡ Ok (c, flag) → AlikeInAll c second.left once.left

-- Demand 3. Whatever is given, and whatever was in the lent slices x, y and z: a passes into x and, unless refused, b more into y, on what
-- was left in x, with its counts and its flag, come to what a + b passes into z come to, unless one of the three calls answers 5.
abbrev pub Repeats : Scheme → Type 0
Repeats S =
    (a b : ℕ) (flag : Bool) (g : Given) (x y z : Buffers) → a + b ≤ 12 →
    number (call S a flag g x) ≢ 5 → number (onward S b (call S a flag g x) y) ≢ 5 → number (call S (a + b) flag g z) ≢ 5 →
    Repeated a (call S a flag g x) (onward S b (call S a flag g x) y) (call S (a + b) flag g z)

-- None of them does where x has room for a passes, y and z for a + b.
abbrev pub RoomIsEnough : Scheme → Type 0
RoomIsEnough S =
    (a b : ℕ) (flag : Bool) (g : Given) (x y z : Buffers) → Room S a flag g x → Room S (a + b) flag g y → Room S (a + b) flag g z →
    (number (call S a flag g x) ≢ 5) × (number (onward S b (call S a flag g x) y) ≢ 5) × (number (call S (a + b) flag g z) ≢ 5)

-- In short: where a + b passes are done, and y and z have the same lengths, the two calls come to exactly what the one comes to, in the answer
-- and in every slice, unless one of them answers 5.
abbrev pub RepeatsExactly : Scheme → Type 0
RepeatsExactly S =
    (a b : ℕ) (flag : Bool) (g : Given) (x y z : Buffers) → Lent y z →
    number (call S a flag g x) ≢ 5 → number (onward S b (call S a flag g x) y) ≢ 5 →
    (c : Counts) (next : Bool) → (call S (a + b) flag g z).answer ≡ Ok (c, next) → onward S b (call S a flag g x) y ≡ call S (a + b) flag g z
