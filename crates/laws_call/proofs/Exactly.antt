-- Each answer is given exactly when document 01 says so (specs/Exactly). Assumes nothing.
use mathlib.Core.Path.{◌≡◌, refl, sym, ◌∙◌, subst}
use mathlib.Core.Bool.{Bool, true, false}
use Rattle.std.specs.Prelude.{Option, None, Some, Ok, Err}
use mathlib.Core.Logic.{◌↔◌}
use Prim.Native.Nat.{ℕ}
use borrow.Author.Tests.{ltb-true, ltb-false, lt-ltb, le-ltb}
use lib.Dec.{ltb}
use Rattle.scope.specs.declared.records.Counts.{Counts}
use Rattle.scope.specs.declared.answers.Place.{Place}
use Rattle.scope.specs.declared.answers.Fault.{Fault}
use Rattle.scope.specs.declared.answers.Refusal.TheVariants.{TooManyPasses, ShortSlice, NotConsistent, MarkedDeleted, NoRoom, NoWeight, BadHandle, CannotInsertEdge, HalfedgesNotInTheSameLoop, NotDeletedFace, ComplexVertex, CannotSwapBoundaryEdge, WouldBreak, BadContents, NotFinite}
use Rattle.scope.specs.Answers.{Subdivided}
use Rattle.scope.specs.Check.{fault}
use Rattle.scope.specs.Tally.{counts_of}
use Rattle.scope.specs.Slices.{Given, Buffers, links_of}
use Rattle.scope.specs.Call.{Scheme, unwanted, overweight, last_links, last_flag, subdivided, call}
use Rattle.laws_call.specs.Demand.{links_in, marks_in}
use Rattle.laws_call.specs.Exactly.{fitting, roomy, Past3, Past6, When}
use Rattle.laws_call.proofs.Ends.{Fitting, call-many, call-short, call-faulty, Open, call-deleted, call-full, call-heavy, call-done}

module _ (S : Scheme) (k : ℕ) (flag : Bool) (g : Given) (b : Buffers) where
  sized : (t : Bool) → fitting S k flag g b ≡ t → Fitting g t
  unfolding links_of counts_of
  sized t e = e

  pub opened : Past3 S k flag g b → Open S k flag g b
  opened p = record { few = le-ltb 12 k p.0.0; sized = sized true p.0.1; whole = p.1 }

  -- when it is so, it is answered so
  given-when : (a : Subdivided) → When S k flag g b a → (call S k flag g b).answer ≡ a
  unfolding When
  given-when (Err TooManyPasses) w = rw (call-many S k flag g b (lt-ltb 12 k w))
  given-when (Err ShortSlice) w = rw (call-short S k flag g b (le-ltb 12 k w.0) (sized false w.1))
  given-when (Err (NotConsistent x)) w = rw (call-faulty S k flag g b (le-ltb 12 k w.0.0) (sized true w.0.1) x w.1)
  given-when (Err (MarkedDeleted p)) w = rw (call-deleted S k flag g b (opened w.0) p w.1)
  given-when (Err NoRoom) w = rw (call-full S k flag g b (opened w.0.0) w.0.1 w.1)
  given-when (Err (NoWeight pass v)) w = rw (call-heavy S k flag g b (opened w.0.0.0) w.0.0.1 w.0.1 (pass, v) w.1)
  given-when (Err BadHandle) w = absurd w
  given-when (Err CannotInsertEdge) w = absurd w
  given-when (Err HalfedgesNotInTheSameLoop) w = absurd w
  given-when (Err NotDeletedFace) w = absurd w
  given-when (Err ComplexVertex) w = absurd w
  given-when (Err CannotSwapBoundaryEdge) w = absurd w
  given-when (Err WouldBreak) w = absurd w
  given-when (Err BadContents) w = absurd w
  given-when (Err NotFinite) w = absurd w
  given-when (Ok (c, next)) w =
      let p = w.0 in
      rw (call-done S k flag g b (opened p.0.0.0) p.0.0.1 p.0.1 p.1, w.1, w.2) (unfold subdivided in refl)

  -- some answer is so
  abbrev Answered : Type 0
  Answered = (a : Subdivided) × When S k flag g b a

  some-answer : Answered
  unfolding When
  some-answer = go (ltb 12 k) (fitting S k flag g b) (fault (links_in g) (marks_in g)) (unwanted S k (marks_in g)) (roomy S k flag g b) (overweight S k flag (links_in g)) refl refl refl refl refl refl
    where
      go : (many fit : Bool) (x : Option Fault) (p : Option Place) (room : Bool) (v : Option (ℕ × ℕ)) → ltb 12 k ≡ many → fitting S k flag g b ≡ fit →
          fault (links_in g) (marks_in g) ≡ x → unwanted S k (marks_in g) ≡ p → roomy S k flag g b ≡ room → overweight S k flag (links_in g) ≡ v → Answered
      go true fit x p room v e1 e2 e3 e4 e5 e6 = (Err TooManyPasses, ltb-true 12 k e1)
      go false false x p room v e1 e2 e3 e4 e5 e6 = (Err ShortSlice, (ltb-false 12 k e1, e2))
      go false true (Some x) p room v e1 e2 e3 e4 e5 e6 = (Err (NotConsistent x), ((ltb-false 12 k e1, e2), e3))
      go false true None (Some p) room v e1 e2 e3 e4 e5 e6 = (Err (MarkedDeleted p), (((ltb-false 12 k e1, e2), e3), e4))
      go false true None None false v e1 e2 e3 e4 e5 e6 = (Err NoRoom, ((((ltb-false 12 k e1, e2), e3), e4), e5))
      go false true None None true (Some v) e1 e2 e3 e4 e5 e6 = (Err (NoWeight v.0 v.1), (((((ltb-false 12 k e1, e2), e3), e4), e5), e6))
      go false true None None true None e1 e2 e3 e4 e5 e6 =
          (Ok (counts_of (last_links S k flag (links_in g)), last_flag S k flag (links_in g)), ((((((ltb-false 12 k e1, e2), e3), e4), e5), e6), refl, refl))

  -- section 4's "given exactly when", for each answer
  pub exactly : (a : Subdivided) → ((call S k flag g b).answer ≡ a) ↔ When S k flag g b a
  exactly a = (λ e. subst (When S k flag g b) (sym (given-when some-answer.0 some-answer.1) ∙ e) some-answer.1, given-when a)

  -- 0 is answered exactly where none of the six conditions holds
  pub done-exactly : ((c : Counts) × (next : Bool) × ((call S k flag g b).answer ≡ Ok (c, next))) ↔ Past6 S k flag g b
  unfolding When
  done-exactly = (λ d. ((exactly (Ok (d.0, d.1))).0 d.2).0, λ p. (_, _, given-when (Ok (_, _)) (p, refl, refl)))
