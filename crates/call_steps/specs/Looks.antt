-- Answers 1 to 4 of a subdivision call (document 01, section 4), which ask nothing of the scheme. Assumes nothing.
use Rattle.std.specs.Prelude.{ℕ, zero, suc, ◌≤◌, not, List, ltb, length, take, Option, None}
use Rattle.scope.specs.declared.records.Counts.{Counts}
use Rattle.scope.specs.declared.answers.Place.{Place}
use Rattle.scope.specs.declared.answers.Refusal.{Refusal}
use Rattle.scope.specs.declared.answers.Refusal.TheVariants.{TooManyPasses, ShortSlice, NotConsistent, MarkedDeleted}
use Rattle.scope.specs.Lists.{◌or_else◌}
use Rattle.scope.specs.Links.{Marks}
use Rattle.scope.specs.Check.{fault, marked}
use Rattle.scope.specs.Slices.{Slices, sizes, fits_with, links_of, marks_of}
use Rattle.scope.specs.Answers.{refuse_if, refuse}

pub record FewMarks (c : Counts) (vmarks emarks fmarks : List ℕ) : Type 0 where
  pub few_v : c.v ≤ 1048576
  pub few_e : c.e ≤ 1048576
  pub few_f : c.f ≤ 1048576
  pub v_in : c.v ≤ length vmarks
  pub e_in : c.e ≤ length emarks
  pub f_in : c.f ≤ length fmarks

abbrev pub deleted_in : Counts → List ℕ → List ℕ → List ℕ → Option Refusal
deleted_in c vmarks emarks fmarks = refuse (marked (record { vs = take c.v vmarks; es = take c.e emarks; fs = take c.f fmarks })) MarkedDeleted

-- passes wanted and something is marked deleted
abbrev pub unwanted_in : ℕ → Marks → Option Place
unwanted_in zero d = None
unwanted_in (suc k) d = marked d

unfoldable pub looked : ℕ → Counts → Slices → ℕ → Option Refusal
looked k c s points =
    refuse_if (ltb 12 k) TooManyPasses
    or_else refuse_if (not (fits_with c (sizes s) points)) ShortSlice
    or_else refuse (fault (links_of c s) (marks_of c s)) NotConsistent
    or_else refuse (unwanted_in k (marks_of c s)) MarkedDeleted
