-- What the search through the rules finds, in the words of its functions: laws_check' `Judged` over lists. Assumes nothing.
use Rattle.std.specs.Prelude.{◌≡◌, ℕ, ◌*◌, Option, None, Some, Result, Ok, Err, MatchOption}
use Rattle.scope.specs.declared.answers.Place.{Place}
use Rattle.scope.specs.declared.answers.Place.TheVariants.{AtVertex, AtHalfedge, AtFace}
use Rattle.scope.specs.declared.answers.Fault.{Fault}
use Rattle.scope.specs.declared.records.Counts.{Counts}
use Rattle.scope.specs.Links.{Links, Marks}
use Rattle.scope.specs.Slices.{Slices}
use Rattle.laws_check.specs.Judged.{Stage}
use Rattle.check_rules.specs.Place.{Live, Half}
use Rattle.check_rules.specs.Rule.{R1v, R1h, R1f, R2, R3, R4, R5, R6, R7, R8, R9, EdgesFit, ItemsFit}

-- a rule at the vertices, halfedges or faces that are there
abbrev pub OnV : (ℕ → Type 0) → Links → Marks → ℕ → Type 0
OnV R m k v = Live k.vs m.nv v → R v

abbrev pub OnH : (ℕ → Type 0) → Links → Marks → ℕ → Type 0
OnH R m k h = Half k.es m.ne h → R h

abbrev pub OnF : (ℕ → Type 0) → Links → Marks → ℕ → Type 0
OnF R m k f = Live k.fs m.nf f → R f

-- C4 to C9
abbrev pub FromC4 : Links → Marks → Option Fault → Type 0
FromC4 m k =
    Stage 4 AtFace m.nf (OnF (R4 m.edges k.es m.faces m.ne) m k)
    (Stage 5 AtHalfedge (2 * m.ne) (OnH (R5 m.edges) m k)
    (Stage 6 AtHalfedge (2 * m.ne) (OnH (R6 m.edges) m k)
    (Stage 7 AtFace m.nf (OnF (R7 m.edges k.es m.faces m.ne) m k)
    (Stage 8 AtVertex m.nv (OnV (R8 m.edges k.es m.outs m.ne) m k)
    (Stage 9 AtVertex m.nv (OnV (R9 m.edges k.es m.outs m.ne) m k)
    (λ (a : Option Fault). a ≡ None))))))

-- C1 to C9
abbrev pub FromC1 : Links → Marks → Option Fault → Type 0
FromC1 m k =
    Stage 1 AtVertex m.nv (OnV (R1v m.outs k.es m.ne) m k)
    (Stage 1 AtHalfedge (2 * m.ne) (OnH (R1h m.edges k.vs k.es k.fs m.nv m.ne m.nf) m k)
    (Stage 1 AtFace m.nf (OnF (R1f m.faces k.es m.ne) m k)
    (Stage 2 AtHalfedge (2 * m.ne) (OnH (R2 m.edges) m k)
    (Stage 3 AtHalfedge (2 * m.ne) (OnH (R3 m.edges) m k)
    (FromC4 m k)))))

-- nothing, or a fault
abbrev pub told_of : Option Fault → Result (Unit {0}) Fault
told_of None = Ok tt
told_of (Some x) = Err x

-- what is said of a search: nothing, or the rule with the place that was put to what it found
pub record Passed (Puts : ℕ → Place → Type 0) (rule : ℕ) (found : Option ℕ) (r : Result (Unit {0}) Fault) : Type 0 where
  pub says : MatchOption found (r ≡ Ok tt) (λ i. (p : Place) × Puts i p × (r ≡ Err (record { rule = rule; place = p })))

-- the slices have what the counts ask for, and no count is over 1,048,576
pub record Fits (c : Counts) (s : Slices) : Type 0 where
  pub vertices : ItemsFit s.outs s.vmarks c.v
  pub halfedges : EdgesFit s.edges s.emarks c.e
  pub sides : ItemsFit s.faces s.fmarks c.f
