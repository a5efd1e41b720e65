-- What the check's answers mean: sound exactly if the slices fit and the mesh is consistent, else the lowest broken rule at its first place. Assumes nothing.
use mathlib.Core.Path.{◌≡◌, refl}
use mathlib.Core.Bool.{Bool, true, false, not, ◌&&◌}
use Rattle.std.specs.Prelude.{Option, None, Some, Ok, Err}
use Prim.Native.Nat.{ℕ, ◌*◌}
use native.Mathlib.Omega.{arith}
use lib.Dec.{leb}
use Rattle.scope.specs.declared.records.Counts.{Counts}
use Rattle.scope.specs.declared.answers.Fault.{Fault}
use Rattle.scope.specs.declared.answers.Refusal.TheVariants.{ShortSlice, NotConsistent}
use Rattle.scope.specs.Lists.{◌or_else◌}
use Rattle.scope.specs.Check.{fault}
use Rattle.scope.specs.Slices.{Slices, sizes, fits, fits_with, links_of, marks_of}
use Rattle.scope.specs.Answers.{refuse_if, refuse}
use Rattle.laws_mesh.specs.Mesh.{Consistent}
use Rattle.laws_mesh.specs.Of.{mesh_of}
use Rattle.laws_check.specs.Names.{Names}
use Rattle.laws_check.proofs.Theorems.{none-consistent, consistent-none, fault-names}
use Rattle.check_mesh.specs.Checked.{answered, checked}
use Rattle.check_mesh.specs.Stages.{Fits}
use Rattle.check_mesh.proofs.EntryLaws.{t-fits, sound}

module _ (c : Counts) (s : Slices) (p : ℕ) where
  first_part : (a b : Bool) → a && b ≡ true → a ≡ true
  first_part true b e = refl
  first_part false b e = e

  fitted : fits_with c (sizes s) p ≡ true → Fits c s
  unfolding fits_with
  fitted e = (t-fits c s).so (first_part (fits c (sizes s)) (leb (3 * c.v) p) e)

  -- sound: the slices fit and the mesh is consistent
  pub sound-consistent : checked c s p ≡ (Ok tt) → (fits_with c (sizes s) p ≡ true) × Consistent (mesh_of (links_of c s) (marks_of c s))
  unfolding links_of
  sound-consistent e = let (a, b) = sound c s p e in (a, none-consistent (links_of c s) (marks_of c s) (fitted a).halfedges.few (fitted a).sides.few b)

  -- and always so
  pub consistent-sound : fits_with c (sizes s) p ≡ true → Consistent (mesh_of (links_of c s) (marks_of c s)) → checked c s p ≡ (Ok tt)
  unfolding checked links_of
  consistent-sound a q = rw (a, consistent-none (links_of c s) (marks_of c s) (fitted a).halfedges.few (fitted a).sides.few q) refl

  by_cases : (b : Bool) (o : Option Fault) {x : Fault} → answered (refuse_if (not b) ShortSlice or_else refuse o NotConsistent) ≡ Err (NotConsistent x) → o ≡ Some x
  by_cases true None e = let z : ◌≡◌ {A = ℕ} 0 1 = cc in absurd (omega arith)
  by_cases true (Some y) e = cc
  by_cases false o e = let z : ◌≡◌ {A = ℕ} 0 1 = cc in absurd (omega arith)

  -- not consistent: the lowest broken rule at its first place
  pub unsound-names : (x : Fault) → checked c s p ≡ Err (NotConsistent x) → Names (links_of c s) (marks_of c s) x
  unfolding checked
  unsound-names x e = fault-names (links_of c s) (marks_of c s) x (by_cases (fits_with c (sizes s) p) (fault (links_of c s) (marks_of c s)) e)

  -- a short slice: they do not fit
  pub short-fits : checked c s p ≡ Err ShortSlice → fits_with c (sizes s) p ≡ false
  unfolding checked
  short-fits = go (fits_with c (sizes s) p) (fault (links_of c s) (marks_of c s))
    where
      go : (b : Bool) (o : Option Fault) → answered (refuse_if (not b) ShortSlice or_else refuse o NotConsistent) ≡ Err ShortSlice → b ≡ false
      go true None e = let z : ◌≡◌ {A = ℕ} 0 1 = cc in absurd (omega arith)
      go true (Some y) e = let z : ◌≡◌ {A = ℕ} 0 1 = cc in absurd (omega arith)
      go false o e = refl

  pub fits-short : fits_with c (sizes s) p ≡ false → checked c s p ≡ Err ShortSlice
  unfolding checked
  fits-short e = rw e refl
