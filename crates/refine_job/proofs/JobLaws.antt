-- What the reader, the call and the writer answered is what the run answers. Assumes nothing.
use Prim.Native.Nat.{ℕ, ◌≤◌}
use mathlib.Core.Path.{◌≡◌, refl, sym, ap, ◌∙◌}
use mathlib.Core.Bool.{Bool}
use mathlib.Core.List.{List}
use Rattle.std.specs.Prelude.{Option, None, Some, Ok, Err}
use native.Mathlib.Omega.{arith}
use lib.ListN.{length, take}
use lib.Ieee.{Float}
use Rattle.scope.specs.declared.records.Counts.{Counts}
use Rattle.scope.specs.declared.answers.Refusal.{Refusal}
use Rattle.scope.specs.Answers.{Subdivided}
use Rattle.scope.specs.Lists.{number_of}
use Rattle.scope.specs.Slices.{Slices, Buffers, sizes}
use Rattle.scope.specs.Call.{Scheme, Outcome, call}
use Rattle.mesh.specs.Rounds.{rim_edge_at}
use Rattle.file_read.specs.Format.{Reading}
use Rattle.file_read.specs.Format.{Lent, file_counts, file_end, reading, read_refusal, read_leaves, write_refusal, write_leaves}
use Rattle.file_read.proofs.ReadLaws.{reading-read, reading-refused}
use Rattle.file_write.specs.Writes.{Writing}
use Rattle.file_write.specs.Puts.{Room}
use Rattle.file_write.specs.Writes.{writing}
use Rattle.file_write.proofs.WriteLaws.{is-written, is-refused, room_for}
use Rattle.call_steps.specs.Lent.{given_at, outcome_at}
use Rattle.refine_job.specs.Job.{Refined, written, Within, Saved, saved_at, saving, saved, Made, made_at, answering, made, left_at, going, refined}

-- ---- the writer
written-size : (o : Option Refusal) (k : ℕ) {n : ℕ} → writing o k ≡ Ok n → n ≡ k
written-size None k e = cc
written-size (Some r) k e = let z : ◌≡◌ {A = ℕ} 0 1 = cc in absurd (omega arith)

said-written : (o : Option Refusal) (c : Counts) (next : Bool) (edges : List ℕ) {n rim : ℕ} → o ≡ None → n ≡ file_end c → rim ≡ number_of c.e (rim_edge_at edges)
    → written n c next rim ≡ saving o c next edges
said-written o c next edges e f g = rw (e, f, g) refl

pub saved_written : (c : Counts) (next : Bool) (s : Slices) (ps : List Float) (file : List ℕ) {w : Writing} {n rim : ℕ} {file' : List ℕ}
    → w ≡ writing (write_refusal c s ps (length file)) (file_end c) → w ≡ Ok n → file' ≡ write_leaves (write_refusal c s ps (length file)) c s ps file
    → rim ≡ number_of c.e (rim_edge_at s.edges) → saved_at (written n c next rim) file' ≡ saved c next s ps file
unfolding saved
saved_written c next s ps file {w} {n} {rim} {file'} e d l b =
    let o = write_refusal c s ps (length file) in
    let x = said-written o c next s.edges (is-written o (file_end c) (sym e ∙ d)) (written-size o (file_end c) (sym e ∙ d)) b in
    ap (λ (r : Refined). saved_at r file') x ∙ ap (λ (f : List ℕ). saved_at (saving o c next s.edges) f) l

pub saved_refused : (c : Counts) (next : Bool) (s : Slices) (ps : List Float) (file : List ℕ) {w : Writing} {r : Refusal} {file' : List ℕ}
    → w ≡ writing (write_refusal c s ps (length file)) (file_end c) → w ≡ Err r → file' ≡ write_leaves (write_refusal c s ps (length file)) c s ps file
    → saved_at (Err r) file' ≡ saved c next s ps file
unfolding saved
saved_refused c next s ps file {w} {r} {file'} e d l =
    let o = write_refusal c s ps (length file) in
    let x : Err r ≡ saving o c next s.edges = rw (is-refused o (file_end c) (sym e ∙ d)) refl in
    ap (λ (r : Refined). saved_at r file') x ∙ ap (λ (f : List ℕ). saved_at (saving o c next s.edges) f) l

-- ---- the room for what is written
pub room_written : (c : Counts) (s : Slices) (ps : List Float) (file : List ℕ) {w : Writing} {n : ℕ}
    → w ≡ writing (write_refusal c s ps (length file)) (file_end c) → w ≡ Ok n → Room c s ps file
room_written c s ps file e d = room_for c s ps file (is-written (write_refusal c s ps (length file)) (file_end c) (sym e ∙ d))

pub size_written : (c : Counts) (s : Slices) (ps : List Float) (file : List ℕ) {m : ℕ} {w : Writing} {n : ℕ}
    → w ≡ writing (write_refusal c s ps (length file)) (file_end c) → w ≡ Ok n → m ≡ length file → n ≤ m
size_written c s ps file {m} {w} {n} e d l =
    let z = written-size (write_refusal c s ps (length file)) (file_end c) (sym e ∙ d) in
    let b = (room_written c s ps file e d).file in
    omega arith

abbrev size_of : Refined → ℕ
size_of (Ok w) = w.size
size_of (Err r) = 0

pub within_written : {n m : ℕ} {c : Counts} {next : Bool} {rim : ℕ} → n ≤ m → Within (written n c next rim) m
within_written {n} {m} {c} {next} {rim} b = record { so = λ k d q j e. let z : n ≡ k = ap size_of e in omega arith }

pub within_refused : {r : Refusal} {m : ℕ} → Within (Err r) m
within_refused = record { so = λ k d q j e. let z : ◌≡◌ {A = ℕ} 0 1 = cc in absurd (omega arith) }

-- ---- the call
pub made_done : {o : Outcome} {w : Subdivided} {b' : Buffers} {c : Counts} {next : Bool} {r : Refined} (file : List ℕ) {file' : List ℕ}
    → outcome_at w b' ≡ o → w ≡ Ok (c, next) → saved_at r file' ≡ saved c next b'.result b'.points file → made_at r file' b' ≡ made o file
unfolding answering
made_done {o} {w} {b'} {c} {next} {r} file {file'} e d s =
    ap (λ (x : Saved). record { saved = x; buffers = b' }) s ∙ ap (λ (x : Subdivided). answering x b' file) (sym d) ∙ ap (λ (x : Outcome). made x file) e

pub made_refused : {o : Outcome} {w : Subdivided} {b' : Buffers} {r : Refusal} (file : List ℕ) → outcome_at w b' ≡ o → w ≡ Err r → made_at (Err r) file b' ≡ made o file
unfolding answering
made_refused {o} {w} {b'} {r} file e d = ap (λ (x : Subdivided). answering x b' file) (sym d) ∙ ap (λ (x : Outcome). made x file) e

-- ---- the reader
module _ (S : Scheme) (k : ℕ) (flag : Bool) (n : ℕ) (file : List ℕ) (cage : Lent) (b : Buffers) where
  abbrev answer : Option Refusal
  answer = read_refusal (take n file) (sizes cage.slices) (length cage.points)

  pub left-read : {w : Reading} {c : Counts} {cage' : Lent} {r : Refined} {file' : List ℕ} {b' : Buffers}
      → w ≡ reading answer (file_counts (take n file)) → w ≡ Ok c → cage' ≡ read_leaves answer (take n file) cage
      → made_at r file' b' ≡ made (call S k flag (given_at c cage'.slices cage'.points) b) file → left_at r file' cage' b' ≡ refined S k flag n file cage b
  unfolding refined going
  left-read {w} {c} {cage'} {r} {file'} {b'} e d l m =
      let q = reading-read answer (file_counts (take n file)) (sym e ∙ d) in
      let g : (o : Option Refusal) → o ≡ None → made (call S k flag (given_at c cage'.slices cage'.points) b) file ≡ going o S k flag (take n file) file cage' b =
      λ o z. rw (z, q.1) refl in
      ap (λ (x : Made). record { made = x; cage = cage' }) (m ∙ g answer q.0) ∙ ap (λ (x : Lent). record { made = going answer S k flag (take n file) file x b; cage = x }) l

  pub left-refused : {w : Reading} {x : Refusal} {cage' : Lent} → w ≡ reading answer (file_counts (take n file)) → w ≡ Err x → cage' ≡ read_leaves answer (take n file) cage
      → left_at (Err x) file cage' b ≡ refined S k flag n file cage b
  unfolding refined going
  left-refused {w} {x} {cage'} e d l =
      let q = reading-refused answer (file_counts (take n file)) (sym e ∙ d) in
      let g : (o : Option Refusal) → o ≡ Some x → made_at (Err x) file b ≡ going o S k flag (take n file) file cage' b = λ o z. rw (z) refl in
      ap (λ (y : Made). record { made = y; cage = cage' }) (g answer q) ∙ ap (λ (y : Lent). record { made = going answer S k flag (take n file) file y b; cage = y }) l
