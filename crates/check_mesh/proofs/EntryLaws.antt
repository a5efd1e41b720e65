-- The laws of sizes, and of the answers of a check. Assumes nothing.
use mathlib.Core.Path.{◌≡◌, refl, sym, ap, ◌∙◌, subst}
use mathlib.Core.Bool.{Bool, true, false, not, ◌&&◌}
use mathlib.Core.List.{List}
use Rattle.std.specs.Prelude.{Option, None, Some, Result, Ok, Err}
use Rattle.std.specs.Result.{MatchResult, IsErrAnd}
use Prim.Native.Nat.{ℕ, ◌*◌}
use native.Mathlib.Omega.{arith}
use lib.Dec.{leb}
use lib.ListN.{length, take}
use lib.Seq.{length-take-le}
use Rattle.scope.specs.declared.records.Counts.{Counts}
use Rattle.scope.specs.declared.answers.Fault.{Fault}
use Rattle.scope.specs.declared.answers.Refusal.{Refusal}
use Rattle.scope.specs.declared.answers.Refusal.TheVariants.{ShortSlice, NotConsistent}
use Rattle.scope.specs.Answers.{Checked}
use Rattle.scope.specs.Lists.{◌or_else◌}
use Rattle.scope.specs.Check.{fault}
use Rattle.scope.specs.Slices.{Slices, sizes, fits, fits_with, links_of, marks_of}
use Rattle.scope.specs.Answers.{refuse_if, refuse}
use Rattle.laws_check.specs.Tells.{Tells}
use Rattle.laws_check.proofs.Tells.{tells-map, t-le, t-and}
use Rattle.check_rules.specs.Rule.{EdgesFit, ItemsFit}
use Rattle.check_mesh.specs.Checked.{answered, say_of, checked_links, checked}
use Rattle.check_mesh.specs.Stages.{Fits, told_of}

-- two answers to one question
pub tells-same : {a b : Bool} {P : Type 0} → Tells a P → Tells b P → a ≡ b
tells-same {a} {b} {P} = go a b
  where
    go : (a b : Bool) → Tells a P → Tells b P → a ≡ b
    go true true t u = refl
    go false false t u = refl
    go true false t u = absurd (u.not_so refl (t.so refl))
    go false true t u = absurd (t.not_so refl (u.so refl))

-- scope's test of the sizes
pub t-fits : (c : Counts) (s : Slices) → Tells (fits c (sizes s)) (Fits c s)
unfolding fits sizes
t-fits c s = tells-map
    (t-and (t-and (t-and (t-and (t-and (t-and (t-and (t-and
    (t-le c.v (length s.outs)) (t-le (8 * c.e) (length s.edges))) (t-le c.f (length s.faces)))
    (t-le c.v (length s.vmarks))) (t-le c.e (length s.emarks))) (t-le c.f (length s.fmarks)))
    (t-le c.v 1048576)) (t-le c.e 1048576)) (t-le c.f 1048576))
    (λ ((((((((v, e), f), vm), em), fm), nv), ne), nf). record {
      vertices = record { few = nv; room = v; marks = vm };
      halfedges = record { few = ne; room = e; marks = em };
      sides = record { few = nf; room = f; marks = fm };
    })
    (λ r. ((((((((r.vertices.room, r.halfedges.room), r.sides.room), r.vertices.marks), r.halfedges.marks), r.sides.marks), r.vertices.few), r.halfedges.few), r.sides.few))

pub fitting : (c : Counts) (s : Slices) {r : Bool} → r ≡ fits c (sizes s) → r ≡ true → Fits c s
fitting c s {r} e q = (t-fits c s).so (sym e ∙ q)

-- the used part of what fits
pub items-used : {l m : List ℕ} {n : ℕ} → ItemsFit l m n → ItemsFit (take n l) (take n m) n
items-used {l} {m} {n} i = record {
  few = i.few;
  room = let q = length-take-le n l i.room in omega arith;
  marks = let q = length-take-le n m i.marks in omega arith;
}

pub edges-used : {l m : List ℕ} {n : ℕ} → EdgesFit l m n → EdgesFit (take (8 * n) l) (take n m) n
edges-used {l} {m} {n} i = record {
  few = i.few;
  room = let q = length-take-le (8 * n) l i.room in omega arith;
  marks = let q = length-take-le n m i.marks in omega arith;
}

-- ---- what a caller knows

pub answered-sound : (o : Option Refusal) → answered o ≡ (Ok tt) → o ≡ None
answered-sound None e = refl
answered-sound (Some r) e = let z : ◌≡◌ {A = ℕ} 0 1 = cc in absurd (omega arith)

pub answered-unsound : (o : Option Refusal) {r : Refusal} → answered o ≡ Err r → o ≡ Some r
answered-unsound None e = let z : ◌≡◌ {A = ℕ} 0 1 = cc in absurd (omega arith)
answered-unsound (Some q) e = cc

sound-both : (b : Bool) (o : Option Fault) → answered (refuse_if (not b) ShortSlice or_else refuse o NotConsistent) ≡ (Ok tt) → (b ≡ true) × (o ≡ None)
sound-both true None e = (refl, refl)
sound-both true (Some x) e = let z : ◌≡◌ {A = ℕ} 0 1 = cc in absurd (omega arith)
sound-both false o e = let z : ◌≡◌ {A = ℕ} 0 1 = cc in absurd (omega arith)

-- a sound answer: the slices fit and there is no fault
pub links-sound : (c : Counts) (s : Slices) → checked_links c s ≡ (Ok tt) → (fits c (sizes s) ≡ true) × (fault (links_of c s) (marks_of c s) ≡ None)
unfolding checked_links
links-sound c s = sound-both (fits c (sizes s)) (fault (links_of c s) (marks_of c s))

pub sound : (c : Counts) (s : Slices) (p : ℕ) → checked c s p ≡ (Ok tt) → (fits_with c (sizes s) p ≡ true) × (fault (links_of c s) (marks_of c s) ≡ None)
unfolding checked
sound c s p = sound-both (fits_with c (sizes s) p) (fault (links_of c s) (marks_of c s))

-- ---- the answers
module _ (c : Counts) (s : Slices) where
  pub links-short : {b : Bool} → b ≡ fits c (sizes s) → b ≡ false → Err ShortSlice ≡ checked_links c s
  unfolding checked_links
  links-short {b} e q = rw (sym e, q)

  pub links-fit : {b : Bool} {r : Checked} → b ≡ fits c (sizes s) → b ≡ true → r ≡ say_of (fault (links_of c s) (marks_of c s)) → r ≡ checked_links c s
  unfolding checked_links
  links-fit {b} e q x = rw (sym e, q) x

  pub points-short : (p : ℕ) → leb (3 * c.v) p ≡ false → Err ShortSlice ≡ checked c s p
  unfolding checked fits_with
  points-short p e = go (fits c (sizes s))
    where
      go : (b : Bool) → Err ShortSlice ≡ answered (refuse_if (not (b && leb (3 * c.v) p)) ShortSlice or_else refuse (fault (links_of c s) (marks_of c s)) NotConsistent)
      go true = rw (e) refl
      go false = refl

  pub points-fit : (p : ℕ) {r : Checked} → leb (3 * c.v) p ≡ true → r ≡ checked_links c s → r ≡ checked c s p
  unfolding checked checked_links fits_with
  points-fit p {r} e = go (fits c (sizes s))
    where
      go : (b : Bool) → r ≡ answered (refuse_if (not b) ShortSlice or_else refuse (fault (links_of c s) (marks_of c s)) NotConsistent)
          → r ≡ answered (refuse_if (not (b && leb (3 * c.v) p)) ShortSlice or_else refuse (fault (links_of c s) (marks_of c s)) NotConsistent)
      go true q = rw (e) q
      go false q = q

-- a fault as the refusal of a mesh that is not consistent
pub refused : (a : Option Fault) {r : Result (Unit {0}) Fault} {q : Checked} → r ≡ told_of a → MatchResult r (λ u. q ≡ Ok u) (λ x. IsErrAnd q (λ y. y ≡ NotConsistent x)) → q ≡ say_of a
refused None {r} {q} e m = subst (λ (r : Result (Unit {0}) Fault). MatchResult r (λ u. q ≡ Ok u) (λ x. IsErrAnd q (λ y. y ≡ NotConsistent x))) e m
refused (Some x) {r} {q} e m = go q (subst (λ (r : Result (Unit {0}) Fault). MatchResult r (λ u. q ≡ Ok u) (λ x. IsErrAnd q (λ y. y ≡ NotConsistent x))) e m)
  where
    go : (q : Checked) → IsErrAnd q (λ y. y ≡ NotConsistent x) → q ≡ Err (NotConsistent x)
    go (Ok _) z = absurd z
    go (Err y) z = ap Err z
