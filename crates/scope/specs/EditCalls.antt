-- The edits as calls on their own mesh (document 01, section 4): their answers in order, and what they leave in every slice. Assumes nothing.
use Rattle.std.specs.Prelude.{ℕ, ◌+◌, ◌-◌, ◌*◌, Bool, true, false, not, ◌&&◌, ◌||◌, List, ◌++◌, map, eqb, ltb, length, replicate, Option, None, Some, Ok, Err}
use Rattle.scope.specs.declared.records.Counts.{Counts}
use Rattle.scope.specs.declared.answers.Refusal.{Refusal}
use Rattle.scope.specs.declared.answers.Refusal.TheVariants.{ShortSlice, NotConsistent, MarkedDeleted, NoRoom, BadHandle, CannotInsertEdge, HalfedgesNotInTheSameLoop, NotDeletedFace, ComplexVertex, CannotSwapBoundaryEdge, WouldBreak}
use Rattle.scope.specs.Answers.{Edited}
use Rattle.scope.specs.Lists.{if, ◌or_else◌, has, put, over}
use Rattle.scope.specs.Links.{Links, Marks, NONE, face, head, next, prev, start, tail, rim, rim_edge, isolated, loop, is_v, is_e, is_h, is_f}
use Rattle.scope.specs.Check.{fault, marked}
use Rattle.scope.specs.Edits.{split_edge, split_face, insert_edge, insert_new, swap_ccw, swap_cw, triangulate}
use Rattle.scope.specs.Tally.{tally_of, counts_of, counted, triangulated}
use Rattle.scope.specs.Slices.{Slices, Sizes, sizes, fits, used, links_of, marks_of, slices_of}
use Rattle.scope.specs.Answers.{refuse_if, refuse}

-- ---- an edit by its parts, its handles given
pub record Edit : Type 0 where
  -- whether it is refused where anything is marked deleted
  pub whole : Bool
  -- its own refusals, 7 to 14
  pub denied : Links → Marks → Option Refusal
  -- the counts afterwards, as room is judged by them
  pub wanted : Links → Counts
  -- links and marks afterwards; what is new is unmarked
  pub links : Links → Links
  pub marks : Marks → Marks
  -- what it returns
  pub value : Links → ℕ

-- an edit's own mesh
pub record Own : Type 0 where
  pub counts : Counts
  pub slices : Slices

pub record EditOutcome : Type 0 where
  pub answer : Edited
  pub left : Own

-- zeros for what is new, n in all
abbrev lengthened : List ℕ → ℕ → List ℕ
lengthened l n = l ++ replicate (n - length l) 0

unfoldable pub unmarked_new : Links → Marks → Marks
unmarked_new m k = record { vs = lengthened k.vs m.nv; es = lengthened k.es m.ne; fs = lengthened k.fs m.nf }

-- the mesh over what the slices held; past what is used they hold what they held
unfoldable pub written : Counts → Slices → Slices → Slices
written c s old =
    let u = used c s in
    record {
      outs = over u.outs old.outs;
      edges = over u.edges old.edges;
      faces = over u.faces old.faces;
      vmarks = over u.vmarks old.vmarks;
      emarks = over u.emarks old.emarks;
      fmarks = over u.fmarks old.fmarks;
    }

-- §4: a refusal changes nothing
unfoldable pub edit_ended : Option Refusal → Links → Marks → ℕ → Own → EditOutcome
edit_ended None m k value o = record {
  answer = Ok (counts_of m, value);
  left = record { counts = counts_of m; slices = written (counts_of m) (slices_of m k) o.slices };
}
edit_ended (Some r) m k value o = record { answer = Err r; left = o }

module _ (E : Edit) where
  -- §4: the order is 2, 3, 4, 7, then 8 to 12 in the source's order, 14, 5
  unfoldable pub edit_refusal : Links → Marks → Sizes → Option Refusal
  edit_refusal m k own =
      refuse_if (not (fits (counts_of m) own)) ShortSlice
      or_else refuse (fault m k) NotConsistent
      or_else refuse (if E.whole (marked k) None) MarkedDeleted
      or_else E.denied m k
      or_else refuse_if (not (fits (E.wanted m) own)) NoRoom

  unfoldable pub edit : Own → EditOutcome
  edit o =
      let m = links_of o.counts o.slices in
      let k = marks_of o.counts o.slices in
      let l = E.links m in
      edit_ended (edit_refusal m k (sizes o.slices)) l (unmarked_new l (E.marks k)) (E.value m) o

-- ---- the six edits
abbrev grown : ℕ → ℕ → Links → Counts
grown e f m = record { v = m.nv; e = m.ne + e; f = m.nf + f }

-- §4: split edge and split face want an isolated vertex. The value is the new halfedge a → v
unfoldable pub split_edge_edit : ℕ → ℕ → Edit
split_edge_edit h v = record {
  whole = false;
  denied = λ m k. refuse_if (not (is_h m k h && is_v m k v)) BadHandle or_else refuse_if (not (isolated m v)) ComplexVertex;
  wanted = grown 1 0;
  links = split_edge h v;
  marks = λ k. k;
  value = λ m. 2 * m.ne;
}

unfoldable pub split_face_edit : ℕ → ℕ → Edit
split_face_edit f v = record {
  whole = false;
  denied = λ m k. refuse_if (not (is_f m k f && is_v m k v)) BadHandle or_else refuse_if (not (isolated m v)) ComplexVertex;
  wanted = λ m. let n = length (loop m (start m f)) in grown n (n - 1) m;
  links = split_face f v;
  marks = λ k. k;
  value = λ m. 0;
}

-- the face that is given, used again, or none
abbrev given : ℕ → Bool
given g = not (eqb g NONE)

-- §4: the source's order; different rim loops give 9 too. 14: an insert across a face that cuts off one single halfedge. The value is the new edge
unfoldable pub insert_edge_edit : ℕ → ℕ → ℕ → Edit
insert_edge_edit p n g = record {
  whole = false;
  denied = λ m k.
      refuse_if (not (is_h m k p && is_h m k n) || (given g && not (ltb g m.nf))) BadHandle
      or_else refuse_if (eqb p n || eqb (next m p) n) CannotInsertEdge
      or_else refuse_if (not (eqb (face m p) (face m n))) HalfedgesNotInTheSameLoop
      or_else refuse_if (given g && is_f m k g) NotDeletedFace
      or_else refuse_if (not (has n (loop m p))) HalfedgesNotInTheSameLoop
      or_else refuse_if (not (rim m p) && eqb (next m (next m p)) n) WouldBreak;
  wanted = if (given g) (grown 1 0) (grown 1 1);
  links = λ m. let new = insert_new p n m in let again = insert_edge g p n m in if (given g) again new;
  marks = λ k. let again : Marks = record { vs = k.vs; es = k.es; fs = put k.fs g 0 } in if (given g) again k;
  value = λ m. m.ne;
}

-- x lies on the loop of h
abbrev on_loop : Links → ℕ → ℕ → Bool
on_loop m h x = has x (map (head m) (loop m h))

-- §4: both swaps answer 12 as `swap_edge_ccw` does; 14 where a new end already lies on the face that gets it
unfoldable pub swap_denied : (Links → ℕ → ℕ) → ℕ → Links → Marks → Option Refusal
swap_denied end e m k =
    refuse_if (not (is_e m k e)) BadHandle
    or_else refuse_if (rim_edge m e) CannotSwapBoundaryEdge
    or_else refuse_if (on_loop m (2 * e) (end m (2 * e + 1)) || on_loop m (2 * e + 1) (end m (2 * e))) WouldBreak

abbrev swap_by_edit : (Links → ℕ → ℕ) → (ℕ → Links → Links) → ℕ → Edit
swap_by_edit end swapped e = record { whole = false; denied = swap_denied end e; wanted = counts_of; links = swapped e; marks = λ k. k; value = λ m. 0 }

unfoldable pub swap_ccw_edit : ℕ → Edit
swap_ccw_edit e = swap_by_edit (λ m h. head m (next m h)) swap_ccw e

unfoldable pub swap_cw_edit : ℕ → Edit
swap_cw_edit e = swap_by_edit (λ m h. tail m (prev m h)) swap_cw e

unfoldable pub triangulate_all : Edit
triangulate_all = record {
  whole = true;
  denied = λ m k. None;
  wanted = λ m. counted (triangulated (tally_of m));
  links = triangulate;
  marks = λ k. k;
  value = λ m. 0;
}
