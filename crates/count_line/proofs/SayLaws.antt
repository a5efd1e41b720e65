-- What the counter says, by the ways to it: a file too long, a file that is refused, a mesh that was read. Assumes nothing.
use Prim.Native.Nat.{ℕ, ◌*◌, ◌≤◌, ◌<◌}
use mathlib.Core.Path.{◌≡◌, refl, sym, ap, ◌∙◌}
use mathlib.Core.Bool.{Bool, true, false, true≢false}
use mathlib.Core.List.{List}
use Rattle.std.specs.Prelude.{Option, None, Some}
use native.Mathlib.Omega.{arith}
use borrow.Author.Tests.{lt-ltb, le-ltb}
use lib.ListN.{length, take}
use lib.Seq.{length-take-le}
use Rattle.scope.specs.declared.records.Counts.{Counts}
use Rattle.scope.specs.declared.answers.Refusal.{Refusal}
use Rattle.scope.specs.declared.answers.Refusal.TheVariants.{MarkedDeleted}
use Rattle.scope.specs.declared.answers.Place.{Place}
use Rattle.scope.specs.Lists.{over}
use Rattle.scope.specs.Check.{fault, marked}
use Rattle.scope.specs.Slices.{Slices, sizes, fits, used, links_of, marks_of}
use Rattle.scope.specs.Answers.{said_of, refuse}
use Rattle.laws_mesh.proofs.Shapes.{to-mesh}
use Rattle.laws_check.proofs.Theorems.{none-consistent}
use Rattle.laws_call.proofs.Handed.{unmarked, or-none}
use Rattle.check_mesh.specs.Stages.{Fits}
use Rattle.check_mesh.specs.Checked.{answered, links_at, marks_at}
use Rattle.check_mesh.proofs.EntryLaws.{t-fits, links-sound}
use Rattle.file_read.specs.Format.{file_counts, file_slices, file_points, contents_refusal, link_refusal, read_refusal, Lent, laid, read_leaves}
use Rattle.file_read.proofs.ReadLaws.{contents-none, fits-first, said, links-read, marks-read}
use Rattle.count_line.specs.Asks.{there, Countable}
use Rattle.count_fields.specs.Fields.{counted}
use Rattle.count_line.specs.Line.{line_of, refusal_line}
use Rattle.count_line.specs.Says.{saying, mesh_says, counter_says, counter_leaves}
use Rattle.count_line.proofs.MarkLaws.{there-not}

-- ---- a mesh without fault in which nothing is deleted
countable : (c : Counts) (s : Slices) → Fits c s → fault (links_of c s) (marks_of c s) ≡ None → marked (marks_of c s) ≡ None → Countable c s.outs s.edges s.faces
unfolding links_of marks_of used
countable c s h q e =
    let m = links_of c s in
    let k = marks_of c s in
    let all =
    unmarked m k (length-take-le c.v s.vmarks h.vertices.marks) (length-take-le c.e s.emarks h.halfedges.marks)
    (length-take-le c.f s.fmarks h.sides.marks) e in
    let g = (to-mesh m k all (none-consistent m k h.halfedges.few h.sides.few q)).core in
    let l = length-take-le (8 * c.e) s.edges h.halfedges.room in
    let n = length-take-le c.f s.faces h.sides.room in
    record {
      few = h.vertices.few;
      outs = h.vertices.room;
      edges = h.halfedges.room;
      faces = h.sides.room;
      linked = record {
        few = h.halfedges.few;
        few_faces = let f = h.sides.few in omega arith;
        room = omega arith;
        step = g.next_in;
        from = λ f b. g.start_in f (omega arith);
      };
    }

-- ---- the line of a mesh
module _ (c : Counts) (s : Slices) {r : Bool} (e : r ≡ there (marked (marks_at (take c.v s.vmarks) (take c.e s.emarks) (take c.f s.fmarks)))) where
  pub deleted-says : r ≡ true → mesh_says c s ≡ refusal_line 4
  unfolding marks_of used
  deleted-says f = go (marked (marks_of c s)) (sym e ∙ f)
    where
      go : (o : Option Place) → there o ≡ true → saying (refuse o MarkedDeleted) (counted (links_of c s)) ≡ refusal_line 4
      go None q = absurd (true≢false (sym q))
      go (Some x) q = refl

  unmarked-so : r ≡ false → marked (marks_of c s) ≡ None
  unfolding marks_of used
  unmarked-so f = there-not (marked (marks_of c s)) e f

  pub fields-say : r ≡ false → mesh_says c s ≡ line_of (counted (links_at c.v c.e c.f (take c.v s.outs) (take (8 * c.e) s.edges) (take c.f s.faces)))
  unfolding links_of used
  fields-say f = rw (unmarked-so f) refl

  pub may-count : Fits c s → fault (links_of c s) (marks_of c s) ≡ None → r ≡ false → Countable c s.outs s.edges s.faces
  may-count h q f = countable c s h q (unmarked-so f)

-- ---- a file that was read
module _ (b : List ℕ) (old : Lent) where
  -- what was put is what the counter says
  pub says_so : {w line : List ℕ} {r : ℕ} (out : List ℕ) → counter_says b (sizes old.slices) (length old.points) ≡ w → line ≡ over w out → r ≡ length w
      → (line ≡ over (counter_says b (sizes old.slices) (length old.points)) out) × (r ≡ length (counter_says b (sizes old.slices) (length old.points)))
  says_so out e p q = (rw (e) p, rw (e) q)

  pub long-says : 65536 < length b → counter_says b (sizes old.slices) (length old.points) ≡ refusal_line 2
  unfolding counter_says
  long-says l = rw (lt-ltb 65536 (length b) l) refl

  pub long-leaves : 65536 < length b → old ≡ counter_leaves b old
  unfolding counter_leaves
  long-leaves l = rw (lt-ltb 65536 (length b) l) refl

  pub refused_says : {r : Refusal} → length b ≤ 65536 → read_refusal b (sizes old.slices) (length old.points) ≡ Some r
      → counter_says b (sizes old.slices) (length old.points) ≡ refusal_line (said_of r).number
  unfolding counter_says
  refused_says l e = rw (le-ltb 65536 (length b) l, e) refl

  pub short-leaves : {new : Lent} → length b ≤ 65536 → new ≡ read_leaves (read_refusal b (sizes old.slices) (length old.points)) b old → new ≡ counter_leaves b old
  unfolding counter_leaves
  short-leaves l e = rw (le-ltb 65536 (length b) l) e

  module _ (new : Lent) {c : Counts} (e : c ≡ file_counts b) (o : read_refusal b (sizes old.slices) (length old.points) ≡ None)
      (q : new ≡ read_leaves (read_refusal b (sizes old.slices) (length old.points)) b old) where
    parts : (contents_refusal b (sizes old.slices) (length old.points) ≡ None) × (link_refusal b ≡ None)
    unfolding read_refusal
    parts = or-none _ _ o

    held : fits c (sizes old.slices) ≡ true
    held = rw (e) (fits-first (file_counts b) (sizes old.slices) (length old.points) (contents-none b (sizes old.slices) (length old.points) parts.0).1)

    filled : new ≡ laid (file_slices b) (file_points b) old
    unfolding read_leaves
    filled = q ∙ ap (λ (r : Option Refusal). read_leaves r b old) o

    -- it fits and has no fault
    pub read-sound : Fits c new.slices × (fault (links_of c new.slices) (marks_of c new.slices) ≡ None)
    read-sound =
        let k = links-sound c new.slices (said b old new e held filled ∙ ap answered parts.1) in
        ((t-fits c new.slices).so k.0, k.1)

    pub read-says : length b ≤ 65536 → counter_says b (sizes old.slices) (length old.points) ≡ mesh_says c new.slices
    unfolding counter_says
    read-says l = rw (le-ltb 65536 (length b) l, o, links-read b old new e held filled, marks-read b old new e held filled) refl
