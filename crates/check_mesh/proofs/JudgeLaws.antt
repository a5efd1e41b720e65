-- What the first rules give the later ones, and what the search through the rules says: scope's `fault`. Assumes nothing.
use mathlib.Core.Path.{◌≡◌, refl, ap, ◌∙◌}
use mathlib.Core.List.{List}
use Rattle.std.specs.Prelude.{Option, None, Some, Result, Ok, Err, MatchOption}
use Prim.Native.Nat.{ℕ, ◌*◌, ◌<◌}
use Rattle.scope.specs.declared.answers.Place.{Place}
use Rattle.scope.specs.declared.answers.Fault.{Fault}
use Rattle.scope.specs.Links.{Links, Marks}
use Rattle.scope.specs.Check.{fault}
use Rattle.laws_check.specs.Judged.{Stage, broken_at, passed, Judged}
use Rattle.laws_check.proofs.Tests.{judged-fault}
use Rattle.check_rules.specs.Place.{First, Found, Half, Live}
use Rattle.check_rules.specs.Rule.{Faced, R1f, R1h, R1v, R2, R3, Rooted, Sewn}
use Rattle.check_rules.proofs.Searches.{found-all}
use Rattle.check_mesh.specs.Stages.{FromC1, Passed, told_of}

module _ {ed vm em fm : List ℕ} {v e f : ℕ} (h : (k : ℕ) → k < 2 * e → Half em e k → R1h ed vm em fm v e f k) where
  pub sewn-of : ((k : ℕ) → k < 2 * e → Half em e k → R2 ed k) → ((k : ℕ) → k < 2 * e → Half em e k → R3 ed k) → Sewn ed em e
  sewn-of u t = record {
    next_in = λ x i. (h x i.0 i).next_ok;
    prev_in = λ x i. (h x i.0 i).prev_ok;
    next_prev = λ x i. (u x i.0 i).next_prev;
    prev_next = λ x i. (u x i.0 i).prev_next;
    next_tail = λ x i. (t x i.0 i).from_head;
    next_face = λ x i. (t x i.0 i).same_face;
  }

  pub faced-of : {fl : List ℕ} → ((k : ℕ) → k < f → Live fm f k → R1f fl em e k) → Faced ed em fl fm e f
  faced-of s = record { face_in = λ x i. (h x i.0 i).face_ok; start_in = λ x i. (s x i.0 i).start_ok }

  pub rooted-of : {ol : List ℕ} → ((k : ℕ) → k < v → Live vm v k → R1v ol em e k) → Rooted ed em ol vm e v
  rooted-of o = record { head_in = λ x i. (h x i.0 i).head_ok; out_in = λ x i. (o x i.0 i).out_ok }

-- ---- the rules over lists are those of the mesh, field by field

stage-map : {rule : ℕ} {place : ℕ → Place} {size : ℕ} {A B : ℕ → Type 0} {S T : Option Fault → Type 0} {a : Option Fault} → ((i : ℕ) → A i → B i) → ((i : ℕ) → B i → A i) → (S a → T a)
    → Stage rule place size A S a → Stage rule place size B T a
stage-map to from on (broken_at i l b n e) = broken_at i l (λ j h. to j (b j h)) (λ x. n (from i x)) e
stage-map to from on (passed b x) = passed (λ j h. to j (b j h)) (on x)

judged-of : (m : Links) (k : Marks) {a : Option Fault} → FromC1 m k a → Judged m k a
judged-of m k =
    stage-map (λ v r i. record { out_ok = (r i).out_ok }) (λ v r i. record { out_ok = (r i).out_ok })
    (stage-map (λ h r i. record { face_ok = (r i).face_ok; head_ok = (r i).head_ok; next_ok = (r i).next_ok; prev_ok = (r i).prev_ok })
    (λ h r i. record { face_ok = (r i).face_ok; head_ok = (r i).head_ok; next_ok = (r i).next_ok; prev_ok = (r i).prev_ok })
    (stage-map (λ f r i. record { start_ok = (r i).start_ok }) (λ f r i. record { start_ok = (r i).start_ok })
    (stage-map (λ h r i. record { next_prev = (r i).next_prev; prev_next = (r i).prev_next }) (λ h r i. record { next_prev = (r i).next_prev; prev_next = (r i).prev_next })
    (stage-map (λ h r i. record { from_head = (r i).from_head; same_face = (r i).same_face }) (λ h r i. record { from_head = (r i).from_head; same_face = (r i).same_face })
    (stage-map (λ f r i. record { bears = (r i).bears; holds = (r i).holds }) (λ f r i. record { bears = (r i).bears; holds = (r i).holds })
    (stage-map (λ h r i. record { faced = (r i).faced }) (λ h r i. record { faced = (r i).faced })
    (stage-map (λ h r i. record { no_spike = (r i).no_spike }) (λ h r i. record { no_spike = (r i).no_spike })
    (stage-map (λ f r i. record { three = (r i).three; differ = (r i).differ }) (λ f r i. record { three = (r i).three; differ = (r i).differ })
    (stage-map (λ v r i. record { leaves = (r i).leaves; meets = (r i).meets; none_if = (r i).none_if }) (λ v r i. record { leaves = (r i).leaves; meets = (r i).meets; none_if = (r i).none_if })
    (stage-map (λ v r i. record { names = (r i).names }) (λ v r i. record { names = (r i).names })
    (λ e. e)))))))))))

-- what is found is the fault
pub says : (m : Links) (k : Marks) {a : Option Fault} {r : Result (Unit {0}) Fault} → r ≡ told_of a → FromC1 m k a → r ≡ told_of (fault m k)
says m k e x = e ∙ ap told_of (judged-fault m k (judged-of m k x))

-- ---- one search

pub found-nothing : {Puts : ℕ → Place → Type 0} {rule : ℕ} {f : Option ℕ} {r : Result (Unit {0}) Fault} → Passed Puts rule f r → r ≡ Ok tt → f ≡ None
found-nothing {Puts} {rule} {f} {r} p e = go f p.says
  where
    go : (f : Option ℕ) → MatchOption f (r ≡ Ok tt) (λ i. (p : Place) × Puts i p × (r ≡ Err (record { rule = rule; place = p }))) → f ≡ None
    go None _ = refl
    go (Some i) (_, _, w) = cc

module _ {Puts : ℕ → Place → Type 0} {rule : ℕ} {place : ℕ → Place} {n : ℕ} {Ok' : ℕ → Type 0} {f : Option ℕ} {r : Result (Unit {0}) Fault} where
  -- nothing was found: the rules after it say the rest
  pub stage-on : {Rest : Option Fault → Type 0} {a : Option Fault} → Found Ok' n f → Passed Puts rule f r → r ≡ Ok tt → Rest a → Stage rule place n Ok' Rest a
  stage-on d p e x = passed (found-all d (found-nothing p e)) x

  -- the first place was found
  pub stage-out : {Rest : Option Fault → Type 0} {x : Fault} → Found Ok' n f → Passed Puts rule f r → ((i : ℕ) (p : Place) → Puts i p → p ≡ place i) → r ≡ Err x → Stage rule place n Ok' Rest (Some x)
  stage-out {Rest} {x} d p at e = go f d.finds p.says
    where
      go : (f : Option ℕ) → MatchOption f ((k : ℕ) → k < n → Ok' k) (First Ok' n) → MatchOption f (r ≡ Ok tt) (λ i. (p : Place) × Puts i p × (r ≡ Err (record { rule = rule; place = p }))) → Stage rule place n Ok' Rest (Some x)
      go None _ w = cc
      go (Some i) d (q, h, w) = let z = at i q h in broken_at i d.within d.before d.broken (cc)

  -- the last rule
  pub stage-end : Found Ok' n f → Passed Puts rule f r → ((i : ℕ) (p : Place) → Puts i p → p ≡ place i) → (a : Option Fault) × Stage rule place n Ok' (λ (a : Option Fault). a ≡ None) a × (r ≡ told_of a)
  stage-end d p at = go f d.finds p.says
    where
      go : (f : Option ℕ) → MatchOption f ((k : ℕ) → k < n → Ok' k) (First Ok' n) → MatchOption f (r ≡ Ok tt) (λ i. (p : Place) × Puts i p × (r ≡ Err (record { rule = rule; place = p })))
          → (a : Option Fault) × Stage rule place n Ok' (λ (a : Option Fault). a ≡ None) a × (r ≡ told_of a)
      go None d w = (None, passed d refl, w)
      go (Some i) d (q, h, w) = let z = at i q h in (Some (record { rule = rule; place = q }), broken_at i d.within d.before d.broken (cc), w)
