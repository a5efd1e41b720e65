-- The amounts that the sweep finds are scope's tally. Assumes nothing.
use Prim.Native.Nat.{ℕ, zero, suc, ◌+◌, ◌-◌, ◌*◌, ◌≤◌}
use mathlib.Core.Path.{◌≡◌, refl, subst}
use mathlib.Core.Bool.{Bool, true, false, not, cond}
use mathlib.Core.List.{map, [], ◌∷◌}
use native.Mathlib.Omega.{arith}
use lib.ListN.{length}
use Rattle.std.specs.List.{filter, range_with_len}
use Rattle.std.proofs.lemmas.List.{length-append, map-id}
use Rattle.std.proofs.lemmas.List.FromFn.{filter_of_map_range_with_len_more}
use Rattle.scope.specs.Lists.{number_of, sum}
use Rattle.scope.specs.Links.{Links, start, loop, rim_edge}
use Rattle.scope.specs.Tally.{tally_of, counts_of}
use Rattle.laws_mesh.specs.Of.{Good}
use Rattle.laws_mesh.specs.Count.{bit}
use Rattle.laws_mesh.proofs.Corners.{corners, rims-corners}
use Rattle.mesh.specs.Rounds.{rim_at}
use Rattle.call_room.specs.Amounts.{amounts_at, tallied}

bit-few : (b : Bool) → bit b ≤ 1
bit-few true = omega arith
bit-few false = omega arith

pub number-few : (n : ℕ) (test : ℕ → Bool) → number_of n test ≤ n
unfolding number_of
number-few zero test = omega arith
number-few (suc n) test = let a = number-few n test in let b = bit-few (test n) in omega arith

-- over the numbers below n
range-counted : (n : ℕ) (test : ℕ → Bool) → length (filter test (map (λ x. x) (range_with_len 0 n))) ≡ number_of n test
unfolding number_of
range-counted zero test = refl
range-counted (suc n) test =
    let e : n + 1 ≡ suc n = omega arith in
    subst (λ k. length (filter test (map (λ x. x) (range_with_len 0 k))) ≡ number_of n test + bit (test n)) e
    (rw (filter_of_map_range_with_len_more test (λ x. x) 0 n n (omega arith), length-append, range-counted n test) (go (test n)))
  where
    go : (b : Bool) → number_of n test + length (cond b (n ∷ []) []) ≡ number_of n test + bit b
    go true = refl
    go false = refl

pub range_number : (n : ℕ) (test : ℕ → Bool) → length (filter test (range_with_len 0 n)) ≡ number_of n test
range_number n test = rw (map-id (range_with_len 0 n)) at (range-counted n test)

pub tally-is : (m : Links) → Good m → tallied (amounts_at (counts_of m) m.edges) ≡ tally_of m
unfolding amounts_at tally_of counts_of
tally-is m g =
    let s : sum m.nf (λ f. length (loop m (start m f))) ≡ number_of (2 * m.ne) (λ h. not (rim_at m.edges h)) = corners m g in
    let b = rims-corners m g in
    let r : 2 * m.ne - number_of (2 * m.ne) (λ h. not (rim_at m.edges h)) ≡ number_of m.ne (rim_edge m) = omega arith in
    rw (r, s)

pub number-below : (n : ℕ) (test : ℕ → Bool) {s : ℕ} → s ≡ number_of n test → s ≤ n
number-below n test e = rw e (number-few n test)
