-- One run over the bytes of a mesh file: the reader's answer (document 01, section 5), then the call's (section 4), then the writer's. Assumes nothing.
use Rattle.std.specs.Prelude.{ℕ, ◌≤◌, ◌≡◌, Bool, List, length, take, Float, Option, None, Some, Result, Ok, Err}
use Rattle.scope.specs.declared.records.Counts.{Counts}
use Rattle.scope.specs.declared.answers.Refusal.{Refusal}
use Rattle.scope.specs.Answers.{Subdivided}
use Rattle.scope.specs.Lists.{number_of}
use Rattle.scope.specs.Slices.{Slices, Buffers, sizes}
use Rattle.scope.specs.Call.{Scheme, Outcome, call}
use Rattle.mesh.specs.Rounds.{rim_edge_at}
use Rattle.file_read.specs.Format.{Lent, file_counts, file_end, read_refusal, read_leaves, write_refusal, write_leaves}
use Rattle.call_steps.specs.Lent.{given_at}
use Rattle.refine_job.specs.declared.Written.{Written}

-- what a run answers
abbrev pub Refined : Type 0
Refined = Result Written Refusal

abbrev pub written : ℕ → Counts → Bool → ℕ → Refined
written n c next rim = Ok (record { size = n; counts = c; next = next; rim = rim })

-- a file that was written has at most m bytes
pub record Within (r : Refined) (m : ℕ) : Type 0 where
  pub so : (n : ℕ) (c : Counts) (next : Bool) (rim : ℕ) → r ≡ written n c next rim → n ≤ m

-- ---- the writer's part: an answer, and the bytes
pub record Saved : Type 0 where
  pub answer : Refined
  pub file : List ℕ

abbrev pub saved_at : Refined → List ℕ → Saved
saved_at r file = record { answer = r; file = file }

-- §3: b is the number of edges with a rim halfedge
abbrev pub saving : Option Refusal → Counts → Bool → List ℕ → Refined
saving None c next edges = written (file_end c) c next (number_of c.e (rim_edge_at edges))
saving (Some r) c next edges = Err r

unfoldable pub saved : Counts → Bool → Slices → List Float → List ℕ → Saved
saved c next s ps file =
    let w = write_refusal c s ps (length file) in
    saved_at (saving w c next s.edges) (write_leaves w c s ps file)

-- ---- with the call before it: what it left is what is written
pub record Made : Type 0 where
  pub saved : Saved
  pub buffers : Buffers

abbrev pub made_at : Refined → List ℕ → Buffers → Made
made_at r file b = record { saved = saved_at r file; buffers = b }

unfoldable pub answering : Subdivided → Buffers → List ℕ → Made
answering (Ok (c, next)) b file = record { saved = saved c next b.result b.points file; buffers = b }
answering (Err r) b file = made_at (Err r) file b

abbrev pub made : Outcome → List ℕ → Made
made o file = answering o.answer o.left file

-- ---- with the reader before that: what it read is what the call is given
pub record Left : Type 0 where
  pub made : Made
  pub cage : Lent

abbrev pub left_at : Refined → List ℕ → Lent → Buffers → Left
left_at r file cage b = record { made = made_at r file b; cage = cage }

-- the reader's answer, the bytes that were read, all bytes, the mesh that was read and what is lent for the result
unfoldable pub going : Option Refusal → Scheme → ℕ → Bool → List ℕ → List ℕ → Lent → Buffers → Made
going None S k flag given file cage b = made (call S k flag (given_at (file_counts given) cage.slices cage.points) b) file
going (Some r) S k flag given file cage b = made_at (Err r) file b

unfoldable pub refined : Scheme → ℕ → Bool → ℕ → List ℕ → Lent → Buffers → Left
refined S k flag n file cage b =
    let given = take n file in
    let r = read_refusal given (sizes cage.slices) (length cage.points) in
    let read = read_leaves r given cage in
    record { made = going r S k flag given file read b; cage = read }
