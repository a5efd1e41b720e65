-- Room for a passes and for a + b is enough: no call of demand 3 answers 5. Assumes nothing.
use mathlib.Core.Path.{◌≡◌, refl}
use mathlib.Core.Logic.{◌≢◌}
use mathlib.Core.Bool.{Bool, true, false, not}
use Rattle.std.specs.Prelude.{Option, None, Some, Ok, Err}
use Prim.Native.Nat.{ℕ, zero, suc, ◌+◌}
use native.Mathlib.Omega.{arith}
use lib.Dec.{ltb}
use lib.ListN.{length}
use Rattle.scope.specs.declared.records.Counts.{Counts}
use Rattle.scope.specs.declared.answers.Place.{Place}
use Rattle.scope.specs.declared.answers.Fault.{Fault}
use Rattle.scope.specs.declared.answers.Refusal.{Refusal}
use Rattle.scope.specs.declared.answers.Refusal.TheVariants.{TooManyPasses, ShortSlice, NotConsistent, MarkedDeleted, NoRoom, NoWeight}
use Rattle.scope.specs.Answers.{Subdivided}
use Rattle.scope.specs.Answers.{said_of, said_subdivided, refuse_if, refuse}
use Rattle.scope.specs.Lists.{◌or_else◌}
use Rattle.scope.specs.Check.{fault}
use Rattle.scope.specs.Tally.{counts_of}
use Rattle.scope.specs.Slices.{Given, Buffers, sizes, fits_with}
use Rattle.scope.specs.Call.{Scheme, links, turned, begin, unwanted, overweight, refusal, last_links, last_flag, ended, call, then, onward}
use Rattle.laws_call.specs.Laws.{Laws}
use Rattle.laws_call.specs.Demand.{links_in, marks_in, Room, number, RoomIsEnough}
use Rattle.laws_call.proofs.Demand.{enough-on}
use Rattle.laws_call.proofs.Made.{made-flag, read-links, before, inside}

-- ---- a call with room does not answer 5
abbrev Not-5 : Option Refusal → Type 0
Not-5 None = Unit {0}
Not-5 (Some r) = (said_of r).number ≢ 5

none-of-them : (many short : Bool) (x : Option Fault) (p : Option Place) (v : Option (ℕ × ℕ)) →
    Not-5 (
    refuse_if many TooManyPasses or_else refuse_if short ShortSlice or_else refuse x NotConsistent or_else refuse p MarkedDeleted
    or_else refuse_if false NoRoom or_else refuse v (λ (v : ℕ × ℕ). NoWeight v.0 v.1)
    )
none-of-them true short x p v = λ e. omega arith
none-of-them false true x p v = λ e. omega arith
none-of-them false false (Some x) p v = λ e. omega arith
none-of-them false false None (Some p) v = λ e. omega arith
none-of-them false false None None (Some v) = λ e. omega arith
none-of-them false false None None None = tt

ended-not : (r : Option Refusal) (made : Given) (next : Bool) (b : Buffers) → Not-5 r → number (ended r made next b) ≢ 5
unfolding ended said_subdivided
ended-not None made next b p = λ e. omega arith
ended-not (Some r) made next b p = p

has-enough : (S : Scheme) (k : ℕ) (flag : Bool) (g : Given) (b : Buffers) → Room S k flag g b → number (call S k flag g b) ≢ 5
unfolding call refusal
has-enough S k flag g b room =
    ended-not _ _ _ b
    (rw room
    (none-of-them (ltb 12 k) (not (fits_with (counts_of (links_in g)) (sizes g.slices) (length g.points))) (fault (links_in g) (marks_in g)) (unwanted S k (marks_in g))
    (overweight S k flag (links_in g))))

-- ---- and so the second call does not
module _ (S : Scheme) (sides : ℕ) (w : Laws S sides) where
  second-room : (a b n : ℕ) → n ≡ a + b → (flag : Bool) (g : Given) (x y : Buffers) (c : Counts) (next : Bool) → (call S a flag g x).answer ≡ Ok (c, next) → Room S n flag g y →
      let left = (call S a flag g x).left in
      Room S b next (record { counts = c; slices = left.result; points = left.points }) y
  unfolding last_links last_flag begin
  second-room zero b n e flag g x y c next d r =
      let q : b ≡ n = omega arith in
      rw (read-links S sides w 0 flag g x c next d, made-flag S 0 flag g x c next d, q) (unfold links turned in r)
  second-room (suc a) b zero e flag g x y c next d r = absurd (omega arith)
  second-room (suc a) b (suc n) e flag g x y c next d r =
      rw (read-links S sides w (suc a) flag g x c next d, made-flag S (suc a) flag g x c next d)
      (enough-on S sides w a b n e flag (links_in g) (before S sides w a flag g x c next d) (inside S sides w a flag g x c next d)
      (sizes y.result) (length y.points) (length y.work) r)

  second-not : (a b : ℕ) (flag : Bool) (g : Given) (x y : Buffers) → Room S a flag g x → Room S (a + b) flag g y → (p : Subdivided) → (call S a flag g x).answer ≡ p →
      number (then S p b (call S a flag g x) y) ≢ 5
  unfolding then
  second-not a b flag g x y rx ry (Err r) q = has-enough S a flag g x rx
  second-not a b flag g x y rx ry (Ok (c, next)) q = has-enough S b next _ y (second-room a b (a + b) refl flag g x y c next q ry)

  pub room-is-enough : RoomIsEnough S
  unfolding onward
  room-is-enough a b flag g x y z rx ry rz =
      (has-enough S a flag g x rx, second-not a b flag g x y rx ry (call S a flag g x).answer refl, has-enough S (a + b) flag g z rz)
