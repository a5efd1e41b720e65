-- The mesh file (document 01, section 5): what it holds, what is wrong with it, and what a reader and a writer answer and leave. Assumes nothing.
use Rattle.std.specs.Prelude.{◌≡◌, ℕ, ◌+◌, ◌*◌, ◌/◌, ◌%◌, ◌<◌, Bool, true, not, ◌&&◌, List, [], ◌∷◌, ◌++◌, map, eqb, leb, get_or, length, Float, Option, None, Some, Result, Ok, Err}
use Rattle.std.specs.Float.{nan, binary64}
use Rattle.std.specs.Float.Ieee.{of_bits, to_bits}
use Rattle.std.specs.Float.Ieee.Scale.{finite}
use Rattle.scope.specs.declared.records.Counts.{Counts}
use Rattle.scope.specs.declared.answers.Refusal.{Refusal}
use Rattle.scope.specs.declared.answers.Refusal.TheVariants.{ShortSlice, NotConsistent, NoRoom, BadContents, NotFinite}
use Rattle.scope.specs.Lists.{if, ◌or_else◌, range, all, lay, over}
use Rattle.scope.specs.Check.{fault}
use Rattle.scope.specs.Slices.{Slices, Sizes, sizes, fits_with, links_of, marks_of, points_of, used, float_zero}
use Rattle.scope.specs.Answers.{refuse_if, refuse}

-- ---- §5: little-endian u32 words; the bits of an f64 are two of them
unfoldable pub word_at : List ℕ → ℕ → ℕ
word_at b at = get_or b at 0 + 256 * get_or b (at + 1) 0 + 65536 * get_or b (at + 2) 0 + 16777216 * get_or b (at + 3) 0

unfoldable pub bits_at : List ℕ → ℕ → ℕ
bits_at b at = word_at b at + 4294967296 * word_at b (at + 4)

-- ---- §5: the contents. Word 1 (the format), then for kinds 1 to 5: kind, start byte, count
abbrev pub content : List ℕ → ℕ → ℕ
content b i = word_at b (4 * i)

abbrev pub kind_at : List ℕ → ℕ → ℕ
kind_at b k = content b (3 * k + 1)

abbrev pub start_at : List ℕ → ℕ → ℕ
start_at b k = content b (3 * k + 2)

abbrev pub count_at : List ℕ → ℕ → ℕ
count_at b k = content b (3 * k + 3)

-- the counts of the mesh: vertex links, edges, faces are the second, third and fourth kind
unfoldable pub file_counts : List ℕ → Counts
file_counts b = record { v = count_at b 1; e = count_at b 2; f = count_at b 3 }

-- counts that are words
pub record Small (c : Counts) : Type 0 where
  pub v : c.v < 4294967296
  pub e : c.e < 4294967296
  pub f : c.f < 4294967296

-- §5: the bodies in that order, the first at byte 64, no gap: points (24 bytes), vertex links (4), edges (32), faces (4), marks (1)
abbrev pub points_from : Counts → ℕ
points_from c = 64

abbrev pub outs_from : Counts → ℕ
outs_from c = points_from c + 24 * c.v

abbrev pub edges_from : Counts → ℕ
edges_from c = outs_from c + 4 * c.v

abbrev pub faces_from : Counts → ℕ
faces_from c = edges_from c + 32 * c.e

abbrev pub marks_from : Counts → ℕ
marks_from c = faces_from c + 4 * c.f

abbrev pub file_end : Counts → ℕ
file_end c = marks_from c + (c.v + c.e + c.f)

-- §5: the contents' row of kind k + 1
unfoldable pub row_right : List ℕ → ℕ → ℕ → ℕ → Bool
row_right b k from n = eqb (kind_at b k) (k + 1) && eqb (start_at b k) from && eqb (count_at b k) n

-- §5: points equal vertex links in count, marks V+E+F; nothing after
unfoldable pub rows_right : List ℕ → Counts → Bool
rows_right b c =
    row_right b 0 (points_from c) c.v && row_right b 1 (outs_from c) c.v && row_right b 2 (edges_from c) c.e
    && row_right b 3 (faces_from c) c.f && row_right b 4 (marks_from c) (c.v + c.e + c.f)
    && eqb (length b) (file_end c)

-- §5: marks are 0 or 1
unfoldable pub marks_right : List ℕ → ℕ → ℕ → Bool
marks_right b from n = all n (λ i. leb (get_or b (from + i) 0) 1)

unfoldable pub right : List ℕ → Bool
right b =
    let c = file_counts b in
    leb 64 (length b) && eqb (content b 0) 1 && rows_right b c && marks_right b (marks_from c) (c.v + c.e + c.f)

-- ---- the mesh that a file holds
abbrev pub words : List ℕ → ℕ → ℕ → List ℕ
words b from n = map (λ i. word_at b (from + 4 * i)) (range 0 n)

abbrev pub bytes : List ℕ → ℕ → ℕ → List ℕ
bytes b from n = map (λ i. get_or b (from + i) 0) (range 0 n)

unfoldable pub file_slices : List ℕ → Slices
file_slices b =
    let c = file_counts b in
    record {
      outs = words b (outs_from c) c.v;
      edges = words b (edges_from c) (8 * c.e);
      faces = words b (faces_from c) c.f;
      vmarks = bytes b (marks_from c) c.v;
      emarks = bytes b (marks_from c + c.v) c.e;
      fmarks = bytes b (marks_from c + c.v + c.e) c.f;
    }

abbrev pub numbers : List ℕ → ℕ → ℕ → List Float
numbers b from n = map (λ i. of_bits binary64 (bits_at b (from + 8 * i))) (range 0 n)

-- none of them is infinite or a NaN
pub record Finite (b : List ℕ) (from n : ℕ) : Type 0 where
  pub at : (i : ℕ) → i < n → finite (of_bits binary64 (bits_at b (from + 8 * i))) ≡ true

unfoldable pub file_points : List ℕ → List Float
file_points b = let c = file_counts b in numbers b (points_from c) (3 * c.v)

-- §4, answer 16: a coordinate in the file is infinite or a NaN
unfoldable pub all_finite : List Float → Bool
all_finite ps = all (length ps) (λ i. finite (get_or ps i nan))

-- ---- the reader. §5: its order is 15, 2, 16, 3; room is what the mesh slices are lent
unfoldable pub contents_refusal : List ℕ → Sizes → ℕ → Option Refusal
contents_refusal b room points =
    refuse_if (not (right b)) BadContents
    or_else refuse_if (not (fits_with (file_counts b) room points)) ShortSlice
    or_else refuse_if (not (all_finite (file_points b))) NotFinite

unfoldable pub link_refusal : List ℕ → Option Refusal
link_refusal b = let c = file_counts b in refuse (fault (links_of c (file_slices b)) (marks_of c (file_slices b))) NotConsistent

unfoldable pub read_refusal : List ℕ → Sizes → ℕ → Option Refusal
read_refusal b room points = contents_refusal b room points or_else link_refusal b

-- what a reader answers: the counts of the mesh that is now in the slices, or why there is none
abbrev pub Reading : Type 0
Reading = Result Counts Refusal

abbrev pub reading : Option Refusal → Counts → Reading
reading None c = Ok c
reading (Some r) c = Err r

-- what is lent to a reader, and to a writer
pub record Lent : Type 0 where
  pub slices : Slices
  pub points : List Float

abbrev pub lent_at : List ℕ → List ℕ → List ℕ → List ℕ → List ℕ → List ℕ → List Float → Lent
lent_at outs edges faces vmarks emarks fmarks points = record {
  slices = record { outs = outs; edges = edges; faces = faces; vmarks = vmarks; emarks = emarks; fmarks = fmarks };
  points = points;
}

-- §5: the mesh slices are zero past what is read, wholly zero after a refusal
unfoldable pub laid : Slices → List Float → Lent → Lent
laid s ps old =
    let o = old.slices in
    record {
      slices = record {
        outs = lay 0 s.outs o.outs;
        edges = lay 0 s.edges o.edges;
        faces = lay 0 s.faces o.faces;
        vmarks = lay 0 s.vmarks o.vmarks;
        emarks = lay 0 s.emarks o.emarks;
        fmarks = lay 0 s.fmarks o.fmarks;
      };
      points = lay float_zero ps old.points;
    }

abbrev pub no_slices : Slices
no_slices = record { outs = []; edges = []; faces = []; vmarks = []; emarks = []; fmarks = [] }

-- before the slices are cleared, a mesh whose links are refused is in them
unfoldable pub load_leaves : Option Refusal → List ℕ → Lent → Lent
load_leaves None b old = laid (file_slices b) (file_points b) old
load_leaves (Some r) b old = old

unfoldable pub read_leaves : Option Refusal → List ℕ → Lent → Lent
read_leaves None b old = laid (file_slices b) (file_points b) old
read_leaves (Some r) b old = laid no_slices [] old

-- ---- the writer: the file that holds a mesh. A mark that is not 0 is written as 1
unfoldable pub word_bytes : ℕ → List ℕ
word_bytes n = n % 256 ∷ n / 256 % 256 ∷ n / 65536 % 256 ∷ n / 16777216 % 256 ∷ []

unfoldable pub words_bytes : List ℕ → List ℕ
words_bytes [] = []
words_bytes (n ∷ l) = word_bytes n ++ words_bytes l

unfoldable pub points_bytes : List Float → List ℕ
points_bytes [] = []
points_bytes (x ∷ l) = let n = to_bits binary64 x in word_bytes (n % 4294967296) ++ word_bytes (n / 4294967296) ++ points_bytes l

unfoldable pub marks_bytes : List ℕ → List ℕ
marks_bytes l = map (λ k. if (eqb k 0) 0 1) l

unfoldable pub contents_of : Counts → List ℕ
contents_of c =
    1
    ∷ 1 ∷ points_from c ∷ c.v
    ∷ 2 ∷ outs_from c ∷ c.v
    ∷ 3 ∷ edges_from c ∷ c.e
    ∷ 4 ∷ faces_from c ∷ c.f
    ∷ 5 ∷ marks_from c ∷ (c.v + c.e + c.f)
    ∷ []

unfoldable pub file_of : Counts → Slices → List Float → List ℕ
file_of c s ps =
    let u = used c s in
    words_bytes (contents_of c)
    ++ points_bytes (points_of c ps)
    ++ words_bytes u.outs ++ words_bytes u.edges ++ words_bytes u.faces
    ++ marks_bytes u.vmarks ++ marks_bytes u.emarks ++ marks_bytes u.fmarks

-- its order is 2, 16, 5; a refusal writes nothing, and past the file's end the slice is as it was
unfoldable pub write_refusal : Counts → Slices → List Float → ℕ → Option Refusal
write_refusal c s ps room =
    refuse_if (not (fits_with c (sizes s) (length ps))) ShortSlice
    or_else refuse_if (not (all_finite (points_of c ps))) NotFinite
    or_else refuse_if (not (leb (file_end c) room)) NoRoom

unfoldable pub write_leaves : Option Refusal → Counts → Slices → List Float → List ℕ → List ℕ
write_leaves None c s ps old = over (file_of c s ps) old
write_leaves (Some r) c s ps old = old
