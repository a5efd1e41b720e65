-- The counter's number of rim loops for a file that is read and in which nothing is marked. Assumes nothing.
use Rattle.std.proofs.lemmas.Option.{none-some}
use Prim.Native.Nat.{ℕ, ◌+◌, ◌*◌}
use mathlib.Core.Path.{◌≡◌, refl, sym, subst⁻¹}
use mathlib.Core.List.{List, map}
use Rattle.std.specs.Prelude.{Option, None, Some, Ok}
use native.Mathlib.Omega.{arith}
use lib.ListN.{get_or, length, take}
use lib.Seq.{length-take-le}
use Rattle.scope.specs.declared.records.Counts.{Counts}
use Rattle.scope.specs.declared.answers.Fault.{Fault}
use Rattle.scope.specs.declared.answers.Refusal.{Refusal}
use Rattle.scope.specs.declared.answers.Refusal.TheVariants.{NotConsistent}
use Rattle.scope.specs.Lists.{◌or_else◌, range}
use Rattle.scope.specs.Check.{fault, marked}
use Rattle.scope.specs.Slices.{Sizes, used, links_of, marks_of}
use Rattle.scope.specs.Answers.{refuse}
use Rattle.laws_mesh.specs.Of.{Sized, Marked}
use Rattle.laws_call.proofs.Handed.{what-fits, unmarked}
use Rattle.file_read.specs.Format.{word_at, file_counts, file_slices, outs_from, edges_from, faces_from, marks_from, contents_refusal, link_refusal, read_refusal, reading}
use Rattle.file_read.proofs.FillLaws.{length_run}
use Rattle.file_read.proofs.ReadLaws.{reading-read, contents-none}
use Rattle.count_fields.specs.Count.{rim_loops}
use Rattle.count_laws.specs.RimLoops.{RimLoopCount}
use Rattle.count_laws.proofs.RimLaws.{sound-rim-loops}

-- ---- no refusal
both-none : (o p : Option Refusal) → (o or_else p) ≡ None → (o ≡ None) × (p ≡ None)
both-none None p e = (refl, e)
both-none (Some r) p e = absurd (none-some _ (sym e))

no-fault : (o : Option Fault) → refuse o NotConsistent ≡ None → o ≡ None
no-fault None e = refl
no-fault (Some x) e = absurd (none-some _ (sym e))

faultless : (b : List ℕ) → link_refusal b ≡ None → fault (links_of (file_counts b) (file_slices b)) (marks_of (file_counts b) (file_slices b)) ≡ None
unfolding link_refusal
faultless b e = no-fault (fault (links_of (file_counts b) (file_slices b)) (marks_of (file_counts b) (file_slices b))) e

refusals : (b : List ℕ) (room : Sizes) (p : ℕ) → read_refusal b room p ≡ None → (contents_refusal b room p ≡ None) × (link_refusal b ≡ None)
unfolding read_refusal
refusals b room p e = both-none (contents_refusal b room p) (link_refusal b) e

-- ---- lists as long as the counts
run-used : (f : ℕ → ℕ) (n : ℕ) → length (take n (map f (range 0 n))) ≡ n
run-used f n = let e = length_run f n in length-take-le n (map f (range 0 n)) (omega arith)

file-sized : (b : List ℕ) (room : Sizes) (p : ℕ) → contents_refusal b room p ≡ None → Sized (links_of (file_counts b) (file_slices b))
unfolding links_of used file_slices
file-sized b room p e =
    let c = file_counts b in
    let h = what-fits c room p (contents-none b room p e).1 in
    record {
      outs_long = run-used (λ i. word_at b (outs_from c + 4 * i)) c.v;
      edges_long = run-used (λ i. word_at b (edges_from c + 4 * i)) (8 * c.e);
      faces_long = run-used (λ i. word_at b (faces_from c + 4 * i)) c.f;
      few_v = h.v_in;
      few_e = h.e_in;
      few_f = h.f_in;
    }

file-marked : (b : List ℕ) → Marked (links_of (file_counts b) (file_slices b)) (marks_of (file_counts b) (file_slices b))
unfolding links_of marks_of used file_slices
file-marked b =
    let c = file_counts b in
    record {
      vs_long = run-used (λ i. get_or b (marks_from c + i) 0) c.v;
      es_long = run-used (λ i. get_or b (marks_from c + c.v + i) 0) c.e;
      fs_long = run-used (λ i. get_or b (marks_from c + c.v + c.e + i) 0) c.f;
    }

-- a file that is read, and in which nothing is marked
pub file-rim-loops : (b : List ℕ) (room : Sizes) (p : ℕ) (c : Counts) → reading (read_refusal b room p) (file_counts b) ≡ Ok c → marked (marks_of c (file_slices b)) ≡ None
    → RimLoopCount (links_of c (file_slices b)) (rim_loops (links_of c (file_slices b)))
file-rim-loops b room p c e k =
    let (o, d) = reading-read (read_refusal b room p) (file_counts b) e in
    let (u, w) = refusals b room p o in
    subst⁻¹ (λ (c : Counts). RimLoopCount (links_of c (file_slices b)) (rim_loops (links_of c (file_slices b)))) d
    (counted (rw (d) at k) u w)
  where
    counted : marked (marks_of (file_counts b) (file_slices b)) ≡ None → contents_refusal b room p ≡ None → link_refusal b ≡ None
        → RimLoopCount (links_of (file_counts b) (file_slices b)) (rim_loops (links_of (file_counts b) (file_slices b)))
    counted k u w =
        let m = links_of (file_counts b) (file_slices b) in
        let j = marks_of (file_counts b) (file_slices b) in
        let q = file-marked b in
        sound-rim-loops m j (file-sized b room p u) (unmarked m j q.vs_long q.es_long q.fs_long k) (faultless b w)
