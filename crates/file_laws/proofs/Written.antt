-- What write leaves, read: the mesh that was given, as a file holds it. Assumes nothing.
use Prim.Native.Nat.{ℕ, zero, suc, ◌*◌, ◌≤◌}
use mathlib.Core.Path.{◌≡◌, refl, sym, ap, ◌∙◌, subst⁻¹}
use mathlib.Core.Bool.{Bool, true, false, not}
use mathlib.Core.List.{List, [], ◌∷◌}
use Rattle.std.specs.Prelude.{Option, None, Some, Ok}
use native.Mathlib.Omega.{arith}
use borrow.Author.Tests.{leb-true}
use lib.Dec.{eqb}
use lib.ListN.{length, get_or, take}
use lib.Seq.{take-take, get_or-take, length-take-le, ext_get_or}
use lib.Ieee.{Float, nan}
use Rattle.scope.specs.declared.records.Counts.{Counts}
use Rattle.scope.specs.declared.answers.Refusal.{Refusal}
use Rattle.scope.specs.declared.answers.Refusal.TheVariants.{ShortSlice, NotConsistent}
use Rattle.scope.specs.Lists.{if, ◌or_else◌, over}
use Rattle.scope.specs.Check.{fault}
use Rattle.scope.specs.Slices.{Slices, Sizes, sizes, fits_with, used, links_of, marks_of, points_of}
use Rattle.scope.specs.Answers.{refuse_if, refuse}
use Rattle.mesh.proofs.SliceLaws.{length_over, get_d_over}
use Rattle.check_mesh.proofs.EntryLaws.{t-fits}
use Rattle.file_read.specs.Format.{Lent, file_of, file_end, marks_bytes, all_finite, reading, read_refusal, contents_refusal, link_refusal, read_leaves, write_refusal}
use Rattle.file_write.proofs.WriteLaws.{is-written, written_all, tests, fits_both, leaves_file}
use Rattle.file_laws.specs.Bytes.{Bytes}
use Rattle.file_laws.specs.Trip.{Small, Doubles, Fair, filed, GivenBack}
use Rattle.file_laws.specs.Calls.{write_answer, write_left, Typed, owed, owed_left, Reads, GivenAgain, WrittenReads, WrittenSound}
use Rattle.file_laws.proofs.Said.{said}
use Rattle.file_laws.proofs.Forth.{read_again}
use Rattle.file_laws.proofs.FileBytes.{file-bytes}
use Rattle.file_laws.proofs.FaultMarks.{Alike, fault-alike, zero-mark}

-- ---- the check finds in the mesh as a file holds it what it finds in the mesh
take-marks : (n : ℕ) (l : List ℕ) → take n (marks_bytes (take n l)) ≡ marks_bytes (take n l)
unfolding marks_bytes
take-marks zero l = refl
take-marks (suc n) [] = refl
take-marks (suc n) (x ∷ l) = ap (λ (r : List ℕ). if (eqb x 0) 0 1 ∷ r) (take-marks n l)

filed-zero : (n : ℕ) (l : List ℕ) (i : ℕ) → eqb (get_or (take n (marks_bytes (take n l))) i 0) 0 ≡ eqb (get_or (take n l) i 0) 0
filed-zero n l i = ap (λ (r : List ℕ). eqb (get_or r i 0) 0) (take-marks n l) ∙ zero-mark (take n l) i

links-filed : (c : Counts) (s : Slices) → links_of c (filed c s) ≡ links_of c s
unfolding links_of used filed
links-filed c s = rw (take-take c.v c.v s.outs (omega arith), take-take (8 * c.e) (8 * c.e) s.edges (omega arith), take-take c.f c.f s.faces (omega arith))

marks-filed : (c : Counts) (s : Slices) → Alike (marks_of c (filed c s)) (marks_of c s)
unfolding marks_of used filed
marks-filed c s = record { vs = filed-zero c.v s.vmarks; es = filed-zero c.e s.emarks; fs = filed-zero c.f s.fmarks }

fault-filed : (c : Counts) (s : Slices) → fault (links_of c (filed c s)) (marks_of c (filed c s)) ≡ fault (links_of c s) (marks_of c s)
fault-filed c s =
    ap (λ m. fault m (marks_of c (filed c s))) (links-filed c s)
    ∙ fault-alike (links_of c s) (marks_of c (filed c s)) (marks_of c s) (marks-filed c s)

-- ---- a file that holds a mesh, read
second : (b : Bool) (o : Option Refusal) → ((None or_else (refuse_if (not b) ShortSlice or_else None)) or_else o) ≡ (refuse_if (not b) ShortSlice or_else o)
second true o = refl
second false o = refl

refusal_is : (b : List ℕ) (room : Sizes) (p : ℕ) (c : Counts) (s : Slices) (ps : List Float) → GivenBack b c s ps → all_finite ps ≡ true
    → read_refusal b room p ≡ (refuse_if (not (fits_with c room p)) ShortSlice or_else refuse (fault (links_of c s) (marks_of c s)) NotConsistent)
unfolding read_refusal contents_refusal link_refusal
refusal_is b room p c s ps k f =
    rw (k.right, k.counts, k.slices, k.points, f) (second (fits_with c room p) (refuse (fault (links_of c s) (marks_of c s)) NotConsistent))

module _ (b : List ℕ) (c : Counts) (g l : Lent) (k : GivenBack b c (filed c g.slices) (points_of c g.points)) (f : all_finite (points_of c g.points) ≡ true) where
  is-owed : read_refusal b (sizes l.slices) (length l.points) ≡ owed c g l
  unfolding owed
  is-owed = rw (← fault-filed c g.slices) (refusal_is b (sizes l.slices) (length l.points) c (filed c g.slices) (points_of c g.points) k f)

  leaves-owed : (o : Option Refusal) → read_leaves o b l ≡ owed_left o c g l
  unfolding read_leaves owed_left
  leaves-owed None = rw (k.slices, k.points)
  leaves-owed (Some r) = refl

  reads : Reads c g l b
  reads = record { answer = rw (is-owed, k.counts); left = rw (is-owed) (leaves-owed (owed c g l)) }

-- ---- what write leaves
small-front : {l : List ℕ} (n : ℕ) → n ≤ length l → Small l → Small (take n l)
small-front {l} n b h = record { at = λ i q. let e = length-take-le n l b in rw (get_or-take n l i 0 (omega arith)) (h.at i (omega arith)) }

doubles-front : {l : List Float} (n : ℕ) → n ≤ length l → Doubles l → Doubles (take n l)
doubles-front {l} n b h = record { at = λ i q. let e = length-take-le n l b in rw (get_or-take n l i nan (omega arith)) (h.at i (omega arith)) }

fair : (c : Counts) (g : Lent) → Typed g → fits_with c (sizes g.slices) (length g.points) ≡ true → Fair c g.slices g.points
unfolding used points_of
fair c g t e =
    let u = fits_both c g.slices (length g.points) e in
    let k = (t-fits c g.slices).so u.0 in
    record {
      sized = e;
      outs = small-front c.v k.vertices.room t.outs;
      edges = small-front (8 * c.e) k.halfedges.room t.edges;
      faces = small-front c.f k.sides.room t.faces;
      points = doubles-front (3 * c.v) u.1 t.points;
    }

front-over : (l old : List ℕ) (n : ℕ) → length l ≡ n → n ≤ length old → take n (over l old) ≡ l
front-over l old n e b =
    let w = length_over l old in
    let k = length-take-le n (over l old) (omega arith) in
    ext_get_or 0 (take n (over l old)) l (k ∙ sym e) (λ i q. get_or-take n (over l old) i 0 (omega arith) ∙ get_d_over l old i 0 (omega arith) (omega arith))

file-long : (b : List ℕ) (c : Counts) (s : Slices) (ps : List Float) → GivenBack b c s ps → length b ≡ file_end c
file-long b c s ps k = (said b k.right).end ∙ ap (λ (c : Counts). file_end c) k.counts

module _ (c : Counts) (g : Lent) (old : List ℕ) (n : ℕ) (t : Typed g) (w : write_answer c g old ≡ Ok n) where
  no-refusal : write_refusal c g.slices g.points (length old) ≡ None
  no-refusal = is-written (write_refusal c g.slices g.points (length old)) (file_end c) w

  finite-given : all_finite (points_of c g.points) ≡ true
  unfolding points_of
  finite-given = (tests c g.slices g.points (length old) no-refusal).1

  held : GivenBack (file_of c g.slices g.points) c (filed c g.slices) (points_of c g.points)
  held = read_again c g.slices g.points (fair c g t (tests c g.slices g.points (length old) no-refusal).0)

  cut : take n (write_left c g old) ≡ file_of c g.slices g.points
  cut =
      let file = file_of c g.slices g.points in
      let e : n ≡ file_end c = written_all (write_refusal c g.slices g.points (length old)) (file_end c) w in
      let k = file-long file c (filed c g.slices) (points_of c g.points) held in
      let r = leb-true (file_end c) (length old) (tests c g.slices g.points (length old) no-refusal).2 in
      ap (λ (r : List ℕ). take n r) (sym (leaves_file (write_refusal c g.slices g.points (length old)) c g.slices g.points old no-refusal))
      ∙ front-over file old n (omega arith) (omega arith)

pub written-reads : WrittenReads
written-reads c g old n t w = (
  subst⁻¹ Bytes (cut c g old n t w) (file-bytes c g.slices g.points),
  λ l. subst⁻¹ (Reads c g l) (cut c g old n t w) (reads (file_of c g.slices g.points) c g l (held c g old n t w) (finite-given c g old n t w)),
)

-- ---- with room, and a consistent mesh
owed_none : (c : Counts) (g l : Lent) → fits_with c (sizes l.slices) (length l.points) ≡ true → fault (links_of c g.slices) (marks_of c g.slices) ≡ None → owed c g l ≡ None
unfolding owed
owed_none c g l e f = rw (e, f)

given-again : (c : Counts) (g l : Lent) (b : List ℕ) → Reads c g l b → owed c g l ≡ None → GivenAgain c g l b
unfolding owed_left
given-again c g l b r e = record { answer = r.answer ∙ ap (λ o. reading o c) e; left = r.left ∙ ap (λ o. owed_left o c g l) e }

pub written-sound : WrittenSound
written-sound c g old n t w l e f = given-again c g l (take n (write_left c g old)) ((written-reads c g old n t w).1 l) (owed_none c g l e f)
