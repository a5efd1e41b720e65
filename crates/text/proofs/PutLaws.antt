-- Bytes put into a slice, one item after another. Assumes nothing.
use Prim.Native.Nat.{ℕ, zero, suc, ◌+◌, ◌≤◌}
use mathlib.Core.Path.{◌≡◌, refl, ap, ◌∙◌}
use mathlib.Core.List.{List, [], ◌∷◌, ◌++◌}
use native.Mathlib.Omega.{arith}
use lib.ListN.{length, set, drop, length-append}
use borrow.Rule.Slice.PartMut.{put_mid}
use Rattle.scope.specs.Lists.{over}
use Rattle.mesh.proofs.SliceLaws.{length_over}
use Rattle.text.specs.Text.{over_from, decimal}

pub length_from : (at : ℕ) (l old : List ℕ) → length (over_from at l old) ≡ length old
unfolding over_from
length_from zero l old = length_over l old
length_from (suc at) l [] = refl
length_from (suc at) l (y ∷ old) = ap suc (length_from at l old)

pub over_none : (at : ℕ) (old : List ℕ) → old ≡ over_from at [] old
unfolding over_from over
over_none zero old = refl
over_none (suc at) [] = refl
over_none (suc at) (y ∷ old) = ap {B = List ℕ} (λ r. y ∷ r) (over_none at old)

-- ---- one after the other
over-on : (a b old : List ℕ) → over_from (length a) b (over a old) ≡ over (a ++ b) old
unfolding over_from over
over-on [] b old = refl
over-on (x ∷ a) b [] = refl
over-on (x ∷ a) b (y ∷ old) = ap {B = List ℕ} (λ r. x ∷ r) (over-on a b old)

pub from_on : (at : ℕ) (a b old : List ℕ) → over_from (at + length a) b (over_from at a old) ≡ over_from at (a ++ b) old
unfolding over_from
from_on zero a b old = let z : zero + length a ≡ length a = omega arith in rw z (over-on a b old)
from_on (suc at) a b [] = let z : suc at + length a ≡ suc (at + length a) = omega arith in rw z
from_on (suc at) a b (y ∷ old) =
    let z : suc at + length a ≡ suc (at + length a) = omega arith in
    rw z (ap {B = List ℕ} (λ r. y ∷ r) (from_on at a b old))

pub next-to : (at p : ℕ) (a b old : List ℕ) → p ≡ at + length a → over_from p b (over_from at a old) ≡ over_from at (a ++ b) old
next-to at p a b old e = rw e (from_on at a b old)

-- a text of several puts: so far it is w, over old from `at` on, and the next comes at p
pub record Written (at : ℕ) (old w : List ℕ) (p : ℕ) (s : List ℕ) : Type 0 where
  pub text : s ≡ over_from at w old
  pub place : p ≡ at + length w

pub written_on : {at : ℕ} {old w : List ℕ} {p : ℕ} {s : List ℕ} {p' : ℕ} {s' : List ℕ} (v : List ℕ) → Written at old w p s → s' ≡ over_from p v s → p' ≡ p + length v
    → Written at old (w ++ v) p' s'
written_on {at} {old} {w} {p} {s} v q e f = record {
  text = e ∙ ap (λ (h : List ℕ). over_from p v h) q.text ∙ next-to at p w v old q.place;
  place = let l = length-append w v in let z = q.place in omega arith;
}

-- a text that begins the slice
pub written-whole : {old w : List ℕ} {p : ℕ} {s : List ℕ} → Written 0 old w p s → (s ≡ over w old) × (p ≡ length w)
unfolding over_from
written-whole {old} {w} {p} {s} q = (q.text, let z = q.place in omega arith)

-- ---- a store
pub store-one : (f : List ℕ) (at x : ℕ) → set f at x ≡ over_from at (x ∷ []) f
unfolding over_from over
store-one [] zero x = refl
store-one [] (suc at) x = refl
store-one (y ∷ f) zero x = refl
store-one (y ∷ f) (suc at) x = ap {B = List ℕ} (λ r. y ∷ r) (store-one f at x)

-- ---- a part of the slice, written over as a whole
over-part : (w old : List ℕ) → length w ≤ length old → w ++ drop (length w) old ≡ over w old
unfolding over
over-part [] old b = refl
over-part (x ∷ w) [] b = absurd (omega arith)
over-part (x ∷ w) (y ∷ old) b = ap {B = List ℕ} (λ r. x ∷ r) (over-part w old (omega arith))

pub put_part : (at k : ℕ) (w old : List ℕ) → k ≡ length w → at + k ≤ length old → put_mid at k old w ≡ over_from at w old
unfolding over_from
put_part zero k w old e b = rw e (over-part w old (omega arith))
put_part (suc at) k w [] e b = absurd (omega arith)
put_part (suc at) k w (y ∷ old) e b = ap {B = List ℕ} (λ r. y ∷ r) (put_part at k w old e (omega arith))

-- ---- a name and its number
pub field_put : {one two : List ℕ} {p r : ℕ} (old name : List ℕ) (at n : ℕ) → one ≡ over_from at name old → p ≡ at + length name → two ≡ over_from p (decimal n) one → r ≡ p + length (decimal n) → r ≤ p + 20
    → (two ≡ over_from at (name ++ decimal n) old) × ((r ≡ at + length (name ++ decimal n)) × (r ≤ at + length name + 20))
field_put {one} {two} {p} {r} old name at n a b d e l =
    let f : Written at old name p one = record { text = a; place = b } in
    let w = written_on (decimal n) f d e in
    (w.text, (w.place, omega arith))
