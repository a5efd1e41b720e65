-- Lengths stay, and demand 3 in short: whole outcomes that are equal. Assumes nothing.
use mathlib.Core.Path.{◌≡◌, refl, sym, ap, ◌∙◌}
use mathlib.Core.Logic.{◌≢◌}
use mathlib.Core.Bool.{Bool, true, false, false≢true}
use mathlib.Core.List.{List}
use Rattle.std.specs.Prelude.{Option, None, Some, Ok, Err}
use Prim.Native.Nat.{ℕ, ◌+◌, ◌≤◌}
use native.Mathlib.Omega.{arith}
use lib.Dec.{leb}
use lib.Ieee.{Float}
use Rattle.scope.specs.declared.records.Counts.{Counts}
use Rattle.scope.specs.declared.answers.Refusal.{Refusal}
use Rattle.scope.specs.Answers.{Subdivided}
use Rattle.scope.specs.Answers.{said_of, said_subdivided}
use Rattle.scope.specs.Lists.{if}
use Rattle.scope.specs.Slices.{Given, Slices, Buffers, Sizes, sizes, filled, wiped}
use Rattle.scope.specs.Call.{Scheme, Outcome, last_flag, subdivided, left_after, ended, call, then, onward}
use Rattle.laws_call.specs.Laws.{Laws}
use Rattle.laws_call.specs.Demand.{links_in, number, as_one, AlikeInAll, Lent, Repeated, RepeatsExactly}
use Rattle.laws_call.specs.Exactly.{When}
use Rattle.laws_call.specs.Made.{KeepsLengths}
use Rattle.laws_call.proofs.Handed.{filled-sizes, filled-points, filled-work}
use Rattle.laws_call.proofs.Exactly.{exactly}
use Rattle.laws_call.proofs.Demand.{is-done, repeats}

-- ---- lengths
filled-lent : (c : Counts) (s : Slices) (ps : List Float) (b : Buffers) → Lent b (filled c s ps b)
filled-lent c s ps b = record { of_result = filled-sizes c s ps b; of_points = filled-points c s ps b; of_work = filled-work c s ps b }

pub keeps-lengths : (S : Scheme) → KeepsLengths S
unfolding call
keeps-lengths S k flag g b = go _
  where
    same : Lent b b
    same = record { of_result = refl; of_points = refl; of_work = refl }

    either : (t : Bool) → Lent b (if t b (wiped b))
    either true = same
    either false = unfold wiped in filled-lent _ _ _ b

    go : (r : Option Refusal) → Lent b (ended r (subdivided S k flag g) (last_flag S k flag (links_in g)) b).left
    go None = unfold ended in filled-lent _ _ _ b
    go (Some r) = unfold ended left_after in either (leb (said_of r).number 4)

-- ---- equal slice by slice
same_left : (c : Counts) (y z p q : Buffers) → Lent y z → Lent y p → Lent z q → AlikeInAll c p q → p ≡ q
unfolding sizes
same_left c y z p q l lp lq a =
    let r : sizes p.result ≡ sizes q.result = lp.of_result ∙ sym l.of_result ∙ sym lq.of_result in
    let outs = a.outs.same (ap (λ (s : Sizes). s.outs) r) in
    let edges = a.edges.same (ap (λ (s : Sizes). s.edges) r) in
    let faces = a.faces.same (ap (λ (s : Sizes). s.faces) r) in
    let vmarks = a.vmarks.same (ap (λ (s : Sizes). s.vmarks) r) in
    let emarks = a.emarks.same (ap (λ (s : Sizes). s.emarks) r) in
    let fmarks = a.fmarks.same (ap (λ (s : Sizes). s.fmarks) r) in
    let points = a.points.same (lp.of_points ∙ sym l.of_points ∙ sym lq.of_points) in
    let work = a.work.same (lp.of_work ∙ sym l.of_work ∙ sym lq.of_work) in
    λ i. record {
      result = record { outs = outs i; edges = edges i; faces = faces i; vmarks = vmarks i; emarks = emarks i; fmarks = fmarks i };
      points = points i;
      work = work i;
    }

same_outcome : (o o' : Outcome) → o.answer ≡ o'.answer → o.left ≡ o'.left → o ≡ o'
same_outcome o o' p q = λ i. record { answer = p i; left = q i }

-- a call that is done had at most 12 passes, and does not answer 5
done-few : (S : Scheme) (k : ℕ) (flag : Bool) (g : Given) (b : Buffers) (c : Counts) (next : Bool) → (call S k flag g b).answer ≡ Ok (c, next) → k ≤ 12
unfolding When
done-few S k flag g b c next e = ((exactly S k flag g b (Ok (c, next))).0 e).0.0.0.0.0.0

done-number : (S : Scheme) (k : ℕ) (flag : Bool) (g : Given) (b : Buffers) (c : Counts) (next : Bool) → (call S k flag g b).answer ≡ Ok (c, next) → number (call S k flag g b) ≢ 5
unfolding said_subdivided
done-number S k flag g b c next e q =
    let zero_is : 0 ≡ number (call S k flag g b) = rw e in
    absurd (omega arith)

-- the second call against one that is done
module _ (S : Scheme) (a b : ℕ) (first once : Outcome) (y z : Buffers) (l : Lent y z) (lz : Lent z once.left) (c : Counts) (next : Bool) (e : once.answer ≡ Ok (c, next)) where
  done-too : (o : Outcome) (p : Subdivided) (c₁ : Counts) (f₁ : Bool) → o.answer ≡ p → Lent y o.left → as_one a (Ok (c₁, f₁)) p ≡ Ok (c, next) →
      AlikeInAll c o.left once.left → o ≡ once
  unfolding as_one
  done-too o (Err r) c₁ f₁ q lo d s = absurd (false≢true (ap is-done d))
  done-too o (Ok (c₂, f₂)) c₁ f₁ q lo d s = same_outcome o once (q ∙ d ∙ sym e) (same_left c y z o.left once.left l lo lz s)

  whole : (p : Subdivided) → first.answer ≡ p → Repeated a first (then S p b first y) once → then S p b first y ≡ once
  unfolding then as_one
  whole (Err r) q h = absurd (false≢true (ap is-done (sym (ap (λ (t : Subdivided). as_one a t first.answer) q) ∙ sym h.same_answer ∙ e)))
  whole (Ok (c₁, f₁)) q h =
      let o = then S (Ok (c₁, f₁)) b first y in
      done-too o o.answer c₁ f₁ refl (keeps-lengths S b f₁ (record { counts = c₁; slices = first.left.result; points = first.left.points }) y)
      (ap (λ (t : Subdivided). as_one a t o.answer) (sym q) ∙ sym h.same_answer ∙ e)
      (h.same_bits c next e)

pub repeats-exactly : (S : Scheme) (sides : ℕ) → Laws S sides → RepeatsExactly S
unfolding onward
repeats-exactly S sides w a b flag g x y z l nx ny c next e =
    let first = call S a flag g x in
    let few = done-few S (a + b) flag g z c next e in
    let nz = done-number S (a + b) flag g z c next e in
    whole S a b first (call S (a + b) flag g z) y z l (keeps-lengths S (a + b) flag g z) c next e first.answer refl (repeats S sides w a b flag g x y z few nx ny nz)
