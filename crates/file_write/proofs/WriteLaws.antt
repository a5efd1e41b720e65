-- The answers of a writer, and what it leaves. Assumes nothing.
use Prim.Native.Nat.{ℕ, ◌*◌, ◌≤◌, ◌<◌}
use mathlib.Core.Path.{◌≡◌, refl, sym, ap, ◌∙◌, subst}
use Rattle.std.proofs.lemmas.List.{get_or_default}
use mathlib.Core.Bool.{Bool, true, false, not, ◌&&◌}
use mathlib.Core.List.{List, ◌++◌}
use Rattle.std.specs.Prelude.{Option, None, Some, Ok, Err}
use native.Mathlib.Omega.{arith}
use borrow.Author.Tests.{le-leb, lt-leb, leb-true}
use lib.Dec.{leb}
use lib.ListN.{length, get_or, take}
use lib.Seq.{length-take-le, get_or-take}
use lib.Ieee.{Float, nan, inf, fin}
use lib.Ieee.Scale.{finite}
use Rattle.scope.specs.declared.records.Counts.{Counts}
use Rattle.scope.specs.declared.answers.Refusal.{Refusal}
use Rattle.scope.specs.declared.answers.Refusal.TheVariants.{ShortSlice, NoRoom, NotFinite}
use Rattle.scope.specs.Lists.{◌or_else◌, all, over}
use Rattle.scope.specs.Slices.{Slices, sizes, fits, fits_with, used, points_of}
use Rattle.scope.specs.Answers.{refuse_if}
use Rattle.laws_check.proofs.Tells.{never}
use Rattle.check_mesh.specs.Stages.{Fits}
use Rattle.check_mesh.specs.Checked.{answered}
use Rattle.check_mesh.proofs.EntryLaws.{fitting, t-fits, answered-sound, answered-unsound}
use Rattle.scope.specs.Answers.{Checked}
use Rattle.file_read.specs.Format.{all_finite, file_end, words_bytes, points_bytes, marks_bytes, contents_of, file_of, write_refusal, write_leaves}
use Rattle.file_read.proofs.FillLaws.{all-is, all-at, all_listed}
use Rattle.text.specs.Text.{over_from}
use Rattle.std.specs.Float.{float_is_finite}
use Rattle.file_write.specs.Items.{AllFit}
use Rattle.file_write.specs.Puts.{Finites, Held, Room}
use Rattle.file_write.specs.Writes.{writing}
use Rattle.text.specs.Text.{over_from}
use Rattle.text.proofs.PutLaws.{Written, written-whole}
use Rattle.std.specs.List.{list_all}
use Rattle.file_write.proofs.PutLaws.{length-words, length-numbers, length-marks}

-- ---- finite numbers
pub finite-front : (ps : List Float) (n : ℕ) → n ≤ length ps → all n (λ i. finite (get_or ps i nan)) ≡ all_finite (take n ps)
unfolding all_finite
finite-front ps n b =
    rw (length-take-le n ps b) (all-is (λ i. finite (get_or ps i nan)) (λ i. finite (get_or (take n ps) i nan)) n (λ i q. ap finite (sym (get_or-take n ps i nan q))))

pub finites : (ps : List Float) (n : ℕ) → n ≤ length ps → all_finite (take n ps) ≡ true → Finites ps n
finites ps n b e = record { at = all-at (λ i. finite (get_or ps i nan)) n (finite-front ps n b ∙ e) }

-- ---- the sizes
pub held : (c : Counts) (s : Slices) {r : Bool} → r ≡ fits c (sizes s) → r ≡ true → Held c
held c s e q = let k = fitting c s e q in record { v = k.vertices.few; e = k.halfedges.few; f = k.sides.few }

sized : (c : Counts) (s : Slices) (n : ℕ) → fits c (sizes s) ≡ true → 3 * c.v ≤ n → fits_with c (sizes s) n ≡ true
unfolding fits_with
sized c s n e b = rw (e, le-leb _ _ b)

-- ---- the ways to the answer
pub short : (c : Counts) (s : Slices) (ps : List Float) (room : ℕ) {r : Bool} → r ≡ fits c (sizes s) → r ≡ false → Err ShortSlice ≡ answered (write_refusal c s ps room)
unfolding write_refusal fits_with
short c s ps room {r} e q = rw (sym e ∙ q)

pub few_points : (c : Counts) (s : Slices) (ps : List Float) (room : ℕ) → fits c (sizes s) ≡ true → length ps < 3 * c.v → Err ShortSlice ≡ answered (write_refusal c s ps room)
unfolding write_refusal fits_with
few_points c s ps room e b = rw (e, lt-leb _ _ b)

pub some_infinite : (c : Counts) (s : Slices) (ps : List Float) (room : ℕ) → fits c (sizes s) ≡ true → 3 * c.v ≤ length ps → all_finite (take (3 * c.v) ps) ≡ false
    → Err NotFinite ≡ answered (write_refusal c s ps room)
unfolding write_refusal points_of
some_infinite c s ps room e b q = rw (sized c s (length ps) e b, q)

pub too_long : (c : Counts) (s : Slices) (ps : List Float) (room : ℕ) → fits c (sizes s) ≡ true → 3 * c.v ≤ length ps → all_finite (take (3 * c.v) ps) ≡ true → room < file_end c
    → Err NoRoom ≡ answered (write_refusal c s ps room)
unfolding write_refusal points_of
too_long c s ps room e b q l = rw (sized c s (length ps) e b, q, lt-leb _ _ l)

pub all_well : (c : Counts) (s : Slices) (ps : List Float) (room : ℕ) → fits c (sizes s) ≡ true → 3 * c.v ≤ length ps → all_finite (take (3 * c.v) ps) ≡ true → file_end c ≤ room
    → Ok tt ≡ answered (write_refusal c s ps room)
unfolding write_refusal points_of
all_well c s ps room e b q l = rw (sized c s (length ps) e b, q, le-leb _ _ l)

-- ---- what an answer tells
pub is-written : (o : Option Refusal) (k : ℕ) {n : ℕ} → writing o k ≡ Ok n → o ≡ None
is-written None k e = refl
is-written (Some r) k e = let z : ◌≡◌ {A = ℕ} 0 1 = cc in absurd (omega arith)

pub written_all : (o : Option Refusal) (k : ℕ) {n : ℕ} → writing o k ≡ Ok n → n ≡ k
written_all None k e = cc
written_all (Some r) k e = let z : ◌≡◌ {A = ℕ} 0 1 = cc in absurd (omega arith)

pub is-refused : (o : Option Refusal) (k : ℕ) {r : Refusal} → writing o k ≡ Err r → o ≡ Some r
is-refused None k e = let z : ◌≡◌ {A = ℕ} 0 1 = cc in absurd (omega arith)
is-refused (Some q) k e = cc

pub answer_none : (o : Option Refusal) {r : Checked} → r ≡ answered o → r ≡ Ok tt → o ≡ None
answer_none o e d = answered-sound o (sym e ∙ d)

pub answer_some : (o : Option Refusal) {r : Checked} {x : Refusal} → r ≡ answered o → r ≡ Err x → o ≡ Some x
answer_some o e d = answered-unsound o (sym e ∙ d)

pub says_written : (o : Option Refusal) (k : ℕ) {n : ℕ} → o ≡ None → n ≡ k → Ok n ≡ writing o k
says_written o k e f = rw (e, f) refl

pub says_refused : (o : Option Refusal) (k : ℕ) {r : Refusal} → o ≡ Some r → Err r ≡ writing o k
says_refused o k e = rw e refl

never-some : {A : Type 0} {r : Refusal} → Some r ≡ None → A
never-some e = let z : ◌≡◌ {A = ℕ} 0 1 = cc in absurd (omega arith)

all_three : (a b c : Bool) (x y z : Refusal) → (refuse_if (not a) x or_else refuse_if (not b) y or_else refuse_if (not c) z) ≡ None → (a ≡ true) × (b ≡ true) × (c ≡ true)
all_three true true true x y z e = (refl, refl, refl)
all_three true true false x y z e = never-some e
all_three true false c x y z e = never-some e
all_three false b c x y z e = never-some e

pub both : (a b : Bool) → (a && b) ≡ true → (a ≡ true) × (b ≡ true)
both true b e = (refl, e)
both false b e = never (sym e)

pub fits_both : (c : Counts) (s : Slices) (n : ℕ) → fits_with c (sizes s) n ≡ true → (fits c (sizes s) ≡ true) × (3 * c.v ≤ n)
unfolding fits_with
fits_both c s n e = let p = both (fits c (sizes s)) (leb (3 * c.v) n) e in (p.0, leb-true (3 * c.v) n p.1)

pub tests : (c : Counts) (s : Slices) (ps : List Float) (room : ℕ) → write_refusal c s ps room ≡ None
    → (fits_with c (sizes s) (length ps) ≡ true) × (all_finite (take (3 * c.v) ps) ≡ true) × (leb (file_end c) room ≡ true)
unfolding write_refusal points_of
tests c s ps room e = all_three (fits_with c (sizes s) (length ps)) (all_finite (take (3 * c.v) ps)) (leb (file_end c) room) ShortSlice NotFinite NoRoom e

pub room_for : (c : Counts) (s : Slices) (ps : List Float) (b : List ℕ) → write_refusal c s ps (length b) ≡ None → Room c s ps b
room_for c s ps b e =
    let t = tests c s ps (length b) e in
    let u = fits_both c s (length ps) t.0 in
    let k : Fits c s = (t-fits c s).so u.0 in
    record {
      held = record { v = k.vertices.few; e = k.halfedges.few; f = k.sides.few };
      outs = k.vertices.room;
      edges = k.halfedges.room;
      faces = k.sides.room;
      vmarks = k.vertices.marks;
      emarks = k.halfedges.marks;
      fmarks = k.sides.marks;
      points = u.1;
      finites = finites ps (3 * c.v) u.1 t.1;
      file = leb-true (file_end c) (length b) t.2;
    }

pub leaves_file : (o : Option Refusal) (c : Counts) (s : Slices) (ps : List Float) (old : List ℕ) → o ≡ None → over (file_of c s ps) old ≡ write_leaves o c s ps old
unfolding write_leaves
leaves_file o c s ps old e = rw e

pub leaves_old : (o : Option Refusal) (c : Counts) (s : Slices) (ps : List Float) (old : List ℕ) {r : Refusal} → o ≡ Some r → old ≡ write_leaves o c s ps old
unfolding write_leaves
leaves_old o c s ps old e = rw e

-- ---- the contents
pub length-contents : (c : Counts) → length (words_bytes (contents_of c)) ≡ 64
unfolding contents_of
length-contents c = length-words (contents_of c)

-- ---- the whole file, part after part: how long each part after the contents is
pub record Parts (c : Counts) (s : Slices) (ps : List Float) : Type 0 where
  pub points : length (points_bytes (take (3 * c.v) ps)) ≡ 24 * c.v
  pub outs : length (words_bytes (take c.v s.outs)) ≡ 4 * c.v
  pub edges : length (words_bytes (take (8 * c.e) s.edges)) ≡ 32 * c.e
  pub faces : length (words_bytes (take c.f s.faces)) ≡ 4 * c.f
  pub vmarks : length (marks_bytes (take c.v s.vmarks)) ≡ c.v
  pub emarks : length (marks_bytes (take c.e s.emarks)) ≡ c.e
  pub fmarks : length (marks_bytes (take c.f s.fmarks)) ≡ c.f

pub parts : (c : Counts) (s : Slices) (ps : List Float) (b : List ℕ) → Room c s ps b → Parts c s ps
parts c s ps b r = record {
  points = let n = length-numbers (take (3 * c.v) ps) in let m = length-take-le (3 * c.v) ps r.points in omega arith;
  outs = let n = length-words (take c.v s.outs) in let m = length-take-le c.v s.outs r.outs in omega arith;
  edges = let n = length-words (take (8 * c.e) s.edges) in let m = length-take-le (8 * c.e) s.edges r.edges in omega arith;
  faces = let n = length-words (take c.f s.faces) in let m = length-take-le c.f s.faces r.faces in omega arith;
  vmarks = let n = length-marks (take c.v s.vmarks) in let m = length-take-le c.v s.vmarks r.vmarks in omega arith;
  emarks = let n = length-marks (take c.e s.emarks) in let m = length-take-le c.e s.emarks r.emarks in omega arith;
  fmarks = let n = length-marks (take c.f s.fmarks) in let m = length-take-le c.f s.fmarks r.fmarks in omega arith;
}

pub fit_finite : (ps : List Float) (n : ℕ) → n ≤ length ps → Finites ps n → AllFit (λ x. finite x ≡ true) (take n ps)
fit_finite ps n b f = record {
  at = λ i d l.
      let e = length-take-le n ps b in
      let k : i < n = omega arith in
      subst (λ x. finite x ≡ true) (sym (get_or-take n ps i d k ∙ get_or_default ps i d nan (omega arith))) (f.at i k);
}

pub finite_same : (x : Float) → float_is_finite x ≡ finite x
unfolding float_is_finite
finite_same nan = refl
finite_same (inf s) = refl
finite_same (fin s m e) = refl

pub all_finite_listed : (ps : List Float) → list_all finite ps ≡ all_finite ps
unfolding all_finite
all_finite_listed ps = all_listed finite nan ps

-- the parts so far, after the contents: each is written where the one before it ends
abbrev body : Counts → Slices → List Float → List ℕ
body c s ps =
    words_bytes (contents_of c)
    ++ points_bytes (take (3 * c.v) ps)
    ++ words_bytes (take c.v s.outs) ++ words_bytes (take (8 * c.e) s.edges) ++ words_bytes (take c.f s.faces)
    ++ marks_bytes (take c.v s.vmarks) ++ marks_bytes (take c.e s.emarks) ++ marks_bytes (take c.f s.fmarks)

pub first-part : (c : Counts) (b : List ℕ) {p : ℕ} {f : List ℕ} → f ≡ over_from 0 (words_bytes (contents_of c)) b → p ≡ 64 → Written 0 b (words_bytes (contents_of c)) p f
first-part c b t q = let n = length-contents c in record { text = t; place = omega arith }

pub whole-file : (c : Counts) (s : Slices) (ps : List Float) (b : List ℕ) {p : ℕ} {f : List ℕ} → Written 0 b (body c s ps) p f → f ≡ over (file_of c s ps) b
unfolding file_of used points_of
whole-file c s ps b w = (written-whole w).0
