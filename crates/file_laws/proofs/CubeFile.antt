-- The cube's file, read and written again, by computation. Assumes nothing.
use Rattle.std.specs.Prelude.{Ok}
use Prim.Native.Nat.{ℕ, ◌≤◌}
use mathlib.Core.Path.{◌≡◌, refl}
use mathlib.Core.Bool.{true}
use mathlib.Core.List.{List}
use borrow.Author.Tests.{ltb-true}
use lib.Dec.{ltb}
use lib.ListN.{get_or, length, replicate}
use lib.Ieee.{of_bits}
use Rattle.scope.specs.Lists.{all, first, has, distinct, round, range}
use Rattle.scope.specs.Links.{partner, loop, around, is_v, is_h, is_f}
use Rattle.scope.specs.Check.{every, c1_vertex, c1_halfedge, c1_face, c2, c3, c4, c5, c6, c7, c8, c9, fault}
use Rattle.scope.specs.declared.records.Counts.{Counts}
use Rattle.scope.specs.Slices.{float_zero, sizes, fits, fits_with, used, links_of, marks_of}
use Rattle.file_read.specs.Format.{Lent, lent_at, word_at, bits_at, file_counts, row_right, rows_right, marks_right, right, file_slices, file_points, all_finite, contents_refusal, link_refusal, read_refusal}
use Rattle.file_read.proofs.FillLaws.{all-at}
use Rattle.file_laws.specs.Bytes.{Bytes}
use Rattle.file_laws.specs.Calls.{read_answer, read_left, Writes}
use Rattle.file_laws.specs.Cube.{cube_file}
use Rattle.file_laws.proofs.ReadCall.{read-writes}

abbrev pub cube_counts : Counts
cube_counts = record { v = 8; e = 12; f = 6 }

-- slices that are as long as the cube asks for, and hold something else
abbrev pub cube_room : Lent
cube_room = lent_at (replicate 8 7) (replicate 96 7) (replicate 6 7) (replicate 8 7) (replicate 12 7) (replicate 6 7) (replicate 24 float_zero)

all-bytes : all 722 (λ i. ltb (get_or cube_file i 0) 256) ≡ true
unfolding all
all-bytes = refl

cube-bytes : Bytes cube_file
cube-bytes = record { at = λ i q. ltb-true (get_or cube_file i 0) 256 (all-at (λ i. ltb (get_or cube_file i 0) 256) 722 all-bytes i q) }

-- it is read with 8 vertices, 12 edges and 6 faces
pub cube-read : read_answer cube_file cube_room ≡ Ok cube_counts
unfolding read_refusal contents_refusal link_refusal right rows_right row_right marks_right file_counts file_slices file_points all_finite word_at bits_at of_bits fits fits_with sizes used links_of marks_of fault every c1_vertex c1_halfedge c1_face c2 c3 c4 c5 c6 c7 c8 c9 is_v is_h is_f partner loop around all first has distinct round range
cube-read = refl

-- and written again it is the same 722 bytes, wherever there is room for them
pub cube-again : (old : List ℕ) → 722 ≤ length old → Writes cube_counts (read_left cube_file cube_room) cube_file old
cube-again old q = read-writes cube_file cube_room cube_counts old cube-bytes cube-read q
