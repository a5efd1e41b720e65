-- A mesh written and read: the file is right, and it holds that mesh in every link and number, and every mark as 0 or 1. Assumes nothing.
use Prim.Native.Nat.{ℕ, zero, suc, ◌+◌, ◌-◌, ◌*◌, ◌≤◌, ◌<◌}
use mathlib.Core.Path.{◌≡◌, refl, sym, ap, ◌∙◌}
use mathlib.Core.Bool.{Bool, true, false}
use mathlib.Core.List.{List, ◌++◌}
use native.Mathlib.Omega.{arith}
use borrow.Author.Tests.{eq-eqb, le-leb, ltb-true, ltb-false}
use lib.Dec.{ltb, leb}
use lib.ListN.{length, get_or, length-append}
use lib.Seq.{length-take-le}
use lib.Ieee.{Float}
use Rattle.scope.specs.declared.records.Counts.{Counts}
use Rattle.scope.specs.Lists.{all}
use Rattle.scope.specs.Slices.{Slices, sizes, fits_with, used, points_of}
use Rattle.check_mesh.specs.Stages.{Fits}
use Rattle.check_mesh.proofs.EntryLaws.{t-fits}
use Rattle.file_read.specs.Format.{word_at, kind_at, start_at, count_at, file_counts, file_slices, file_points, row_right, rows_right, marks_right, right, points_from, outs_from, edges_from, faces_from, marks_from, file_end, words_bytes, points_bytes, marks_bytes, contents_of, file_of, words, bytes, numbers}
use Rattle.file_write.proofs.PutLaws.{length-words, length-numbers, length-marks}
use Rattle.file_write.proofs.WriteLaws.{fits_both}
use Rattle.file_laws.proofs.Inside.{Inside, inside-first, inside-last, keep, small-none, small-on, word_read, words-read, marks-read, numbers-read, marks-low, marks-kept}
use Rattle.file_laws.specs.Trip.{Small, Marks01, Fair, filed, GivenBack}

-- where the parts of a file stand
record Placed (b : List ℕ) (c : Counts) (ps : List Float) (os es fs vm em fm : List ℕ) : Type 0 where
  whole : length b ≡ file_end c
  contents : Inside b 0 (words_bytes (contents_of c))
  points : Inside b 64 (points_bytes ps)
  outs : Inside b (outs_from c) (words_bytes os)
  edges : Inside b (edges_from c) (words_bytes es)
  faces : Inside b (faces_from c) (words_bytes fs)
  vmarks : Inside b (marks_from c) (marks_bytes vm)
  emarks : Inside b (marks_from c + c.v) (marks_bytes em)
  fmarks : Inside b (marks_from c + c.v + c.e) (marks_bytes fm)

-- as many items as the counts say
record Counted (c : Counts) (ps : List Float) (os es fs vm em fm : List ℕ) : Type 0 where
  points : length ps ≡ 3 * c.v
  outs : length os ≡ c.v
  edges : length es ≡ 8 * c.e
  faces : length fs ≡ c.f
  vmarks : length vm ≡ c.v
  emarks : length em ≡ c.e
  fmarks : length fm ≡ c.f

length-contents : (c : Counts) → length (words_bytes (contents_of c)) ≡ 64
unfolding contents_of
length-contents c = length-words (contents_of c)

abbrev file : Counts → List Float → List ℕ → List ℕ → List ℕ → List ℕ → List ℕ → List ℕ → List ℕ
file c ps os es fs vm em fm =
    words_bytes (contents_of c) ++ points_bytes ps ++ words_bytes os ++ words_bytes es ++ words_bytes fs ++ marks_bytes vm ++ marks_bytes em ++ marks_bytes fm

placed : (c : Counts) (ps : List Float) (os es fs vm em fm : List ℕ) → Counted c ps os es fs vm em fm → Placed (file c ps os es fs vm em fm) c ps os es fs vm em fm
placed c ps os es fs vm em fm k =
    let x0 = words_bytes (contents_of c) in
    let x1 = points_bytes ps in
    let x2 = words_bytes os in
    let x3 = words_bytes es in
    let x4 = words_bytes fs in
    let x5 = marks_bytes vm in
    let x6 = marks_bytes em in
    let x7 = marks_bytes fm in
    let n0 = length-contents c in
    let n1 = length-numbers ps in
    let n2 = length-words os in
    let n3 = length-words es in
    let n4 = length-words fs in
    let n5 = length-marks vm in
    let n6 = length-marks em in
    let n7 = length-marks fm in
    let l0 : length x0 ≡ 64 = n0 in
    let l1 : length (x0 ++ x1) ≡ outs_from c = (let a = length-append x0 x1 in let z = k.points in omega arith) in
    let l2 : length (x0 ++ x1 ++ x2) ≡ edges_from c = (let a = length-append (x0 ++ x1) x2 in let z = k.outs in omega arith) in
    let l3 : length (x0 ++ x1 ++ x2 ++ x3) ≡ faces_from c = (let a = length-append (x0 ++ x1 ++ x2) x3 in let z = k.edges in omega arith) in
    let l4 : length (x0 ++ x1 ++ x2 ++ x3 ++ x4) ≡ marks_from c = (let a = length-append (x0 ++ x1 ++ x2 ++ x3) x4 in let z = k.faces in omega arith) in
    let l5 : length (x0 ++ x1 ++ x2 ++ x3 ++ x4 ++ x5) ≡ marks_from c + c.v = (let a = length-append (x0 ++ x1 ++ x2 ++ x3 ++ x4) x5 in let z = k.vmarks in omega arith) in
    let l6 : length (x0 ++ x1 ++ x2 ++ x3 ++ x4 ++ x5 ++ x6) ≡ marks_from c + c.v + c.e = (let a = length-append (x0 ++ x1 ++ x2 ++ x3 ++ x4 ++ x5) x6 in let z = k.emarks in omega arith) in
    record {
      whole = let a = length-append (x0 ++ x1 ++ x2 ++ x3 ++ x4 ++ x5 ++ x6) x7 in let z = k.fmarks in omega arith;
      contents = keep x7 (keep x6 (keep x5 (keep x4 (keep x3 (keep x2 (keep x1 (inside-first x0)))))));
      points = keep x7 (keep x6 (keep x5 (keep x4 (keep x3 (keep x2 (inside-last x0 x1 64 (sym l0)))))));
      outs = keep x7 (keep x6 (keep x5 (keep x4 (keep x3 (inside-last (x0 ++ x1) x2 (outs_from c) (sym l1))))));
      edges = keep x7 (keep x6 (keep x5 (keep x4 (inside-last (x0 ++ x1 ++ x2) x3 (edges_from c) (sym l2)))));
      faces = keep x7 (keep x6 (keep x5 (inside-last (x0 ++ x1 ++ x2 ++ x3) x4 (faces_from c) (sym l3))));
      vmarks = keep x7 (keep x6 (inside-last (x0 ++ x1 ++ x2 ++ x3 ++ x4) x5 (marks_from c) (sym l4)));
      emarks = keep x7 (inside-last (x0 ++ x1 ++ x2 ++ x3 ++ x4 ++ x5) x6 (marks_from c + c.v) (sym l5));
      fmarks = inside-last (x0 ++ x1 ++ x2 ++ x3 ++ x4 ++ x5 ++ x6) x7 (marks_from c + c.v + c.e) (sym l6);
    }

-- ---- the contents
small-contents : (c : Counts) → c.v ≤ 1048576 → c.e ≤ 1048576 → c.f ≤ 1048576 → Small (contents_of c)
unfolding contents_of
small-contents c v e f =
    small-on (omega arith) (small-on (omega arith) (small-on (omega arith) (small-on (omega arith)
    (small-on (omega arith) (small-on (omega arith) (small-on (omega arith) (small-on (omega arith)
    (small-on (omega arith) (small-on (omega arith) (small-on (omega arith) (small-on (omega arith)
    (small-on (omega arith) (small-on (omega arith) (small-on (omega arith) (small-on (omega arith) small-none)))))))))))))))

row-holds : (b : List ℕ) (k from n : ℕ) → kind_at b k ≡ k + 1 → start_at b k ≡ from → count_at b k ≡ n → row_right b k from n ≡ true
unfolding row_right
row-holds b k from n x y z = rw (eq-eqb _ _ x, eq-eqb _ _ y, eq-eqb _ _ z)

record Words (b : List ℕ) (c : Counts) : Type 0 where
  format : word_at b 0 ≡ 1
  r0 : row_right b 0 (points_from c) c.v ≡ true
  r1 : row_right b 1 (outs_from c) c.v ≡ true
  r2 : row_right b 2 (edges_from c) c.e ≡ true
  r3 : row_right b 3 (faces_from c) c.f ≡ true
  r4 : row_right b 4 (marks_from c) (c.v + c.e + c.f) ≡ true
  v : word_at b 24 ≡ c.v
  e : word_at b 36 ≡ c.e
  f : word_at b 48 ≡ c.f

words_of : (b : List ℕ) (c : Counts) → Inside b 0 (words_bytes (contents_of c)) → Small (contents_of c) → Words b c
unfolding contents_of
words_of b c h s =
    let l = contents_of c in
    let at : (i : ℕ) → i < 16 → word_at b (0 + 4 * i) ≡ get_or l i 0 = λ i q. word_read b 0 l i h s q in
    record {
      format = at 0 (omega arith);
      r0 = row-holds b 0 (points_from c) c.v (at 1 (omega arith)) (at 2 (omega arith)) (at 3 (omega arith));
      r1 = row-holds b 1 (outs_from c) c.v (at 4 (omega arith)) (at 5 (omega arith)) (at 6 (omega arith));
      r2 = row-holds b 2 (edges_from c) c.e (at 7 (omega arith)) (at 8 (omega arith)) (at 9 (omega arith));
      r3 = row-holds b 3 (faces_from c) c.f (at 10 (omega arith)) (at 11 (omega arith)) (at 12 (omega arith));
      r4 = row-holds b 4 (marks_from c) (c.v + c.e + c.f) (at 13 (omega arith)) (at 14 (omega arith)) (at 15 (omega arith));
      v = at 6 (omega arith);
      e = at 9 (omega arith);
      f = at 12 (omega arith);
    }

counts_of : (b : List ℕ) (c : Counts) → Words b c → file_counts b ≡ c
unfolding file_counts
counts_of b c w = rw (w.v, w.e, w.f)

rows_of : (b : List ℕ) (c : Counts) → Words b c → length b ≡ file_end c → rows_right b c ≡ true
unfolding rows_right
rows_of b c w l = rw (w.r0, w.r1, w.r2, w.r3, w.r4, eq-eqb _ _ l)

-- ---- the marks
all_so : (n : ℕ) (t : ℕ → Bool) → ((i : ℕ) → i < n → t i ≡ true) → all n t ≡ true
unfolding all
all_so zero t h = refl
all_so (suc n) t h = rw (all_so n t (λ i q. h i (omega arith)), h n (omega arith))

low-in : (b : List ℕ) (from : ℕ) (l : List ℕ) (i j : ℕ) → Inside b from (marks_bytes l) → j < length l → from + j ≡ i → get_or b i 0 ≤ 1
low-in b from l i j h q e =
    let n = length-marks l in
    let g : get_or b i 0 ≡ get_or (marks_bytes l) j 0 = ap (λ (k : ℕ). get_or b k 0) (sym e) ∙ h.at j (omega arith) in
    let m = marks-low l j in
    omega arith

low-at : (b : List ℕ) (p : ℕ) (x y z : List ℕ) → Inside b p (marks_bytes x) → Inside b (p + length x) (marks_bytes y) → Inside b (p + length x + length y) (marks_bytes z)
    → (i : ℕ) → i < length x + length y + length z → get_or b (p + i) 0 ≤ 1
low-at b p x y z hx hy hz i q = first (ltb i (length x)) refl
  where
    second : length x ≤ i → (t : Bool) → ltb i (length x + length y) ≡ t → get_or b (p + i) 0 ≤ 1
    second g true e = let u = ltb-true i (length x + length y) e in low-in b (p + length x) y (p + i) (i - length x) hy (omega arith) (omega arith)
    second g false e = let u = ltb-false i (length x + length y) e in low-in b (p + length x + length y) z (p + i) (i - (length x + length y)) hz (omega arith) (omega arith)

    first : (t : Bool) → ltb i (length x) ≡ t → get_or b (p + i) 0 ≤ 1
    first true e = let u = ltb-true i (length x) e in low-in b p x (p + i) i hx (omega arith) refl
    first false e = let u = ltb-false i (length x) e in second (omega arith) (ltb i (length x + length y)) refl

marks_of_lem : (b : List ℕ) (c : Counts) (x y z : List ℕ) → length x ≡ c.v → length y ≡ c.e → length z ≡ c.f
    → Inside b (marks_from c) (marks_bytes x) → Inside b (marks_from c + c.v) (marks_bytes y) → Inside b (marks_from c + c.v + c.e) (marks_bytes z)
    → marks_right b (marks_from c) (c.v + c.e + c.f) ≡ true
unfolding marks_right
marks_of_lem b c x y z lx ly lz hx hy hz =
    all_so (c.v + c.e + c.f) (λ i. leb (get_or b (marks_from c + i) 0) 1)
    (λ i q. le-leb _ _ (low-at b (marks_from c) x y z hx (rw lx hy) (rw (lx, ly) hz) i (omega arith)))

right_of : (b : List ℕ) (c : Counts) → Words b c → length b ≡ file_end c → marks_right b (marks_from c) (c.v + c.e + c.f) ≡ true → right b ≡ true
unfolding right
right_of b c w l m = rw (counts_of b c w, le-leb 64 (length b) (omega arith), eq-eqb _ _ w.format, rows_of b c w l, m)

slices-of : (b : List ℕ) (c : Counts) (s : Slices) → file_counts b ≡ c
    → words b (outs_from c) c.v ≡ s.outs → words b (edges_from c) (8 * c.e) ≡ s.edges → words b (faces_from c) c.f ≡ s.faces
    → bytes b (marks_from c) c.v ≡ s.vmarks → bytes b (marks_from c + c.v) c.e ≡ s.emarks → bytes b (marks_from c + c.v + c.e) c.f ≡ s.fmarks
    → file_slices b ≡ s
unfolding file_slices
slices-of b c s k o e f v m n = rw (k, o, e, f, v, m, n)

points-of : (b : List ℕ) (c : Counts) (ps : List Float) → file_counts b ≡ c → numbers b 64 (3 * c.v) ≡ ps → file_points b ≡ ps
unfolding file_points
points-of b c ps k p = rw (k, p)

counted : (c : Counts) (s : Slices) (ps : List Float) → fits_with c (sizes s) (length ps) ≡ true
    → Counted c (points_of c ps) (used c s).outs (used c s).edges (used c s).faces (used c s).vmarks (used c s).emarks (used c s).fmarks
unfolding used points_of
counted c s ps e =
    let u = fits_both c s (length ps) e in
    let k : Fits c s = (t-fits c s).so u.0 in
    record {
      points = length-take-le (3 * c.v) ps u.1;
      outs = length-take-le c.v s.outs k.vertices.room;
      edges = length-take-le (8 * c.e) s.edges k.halfedges.room;
      faces = length-take-le c.f s.faces k.sides.room;
      vmarks = length-take-le c.v s.vmarks k.vertices.marks;
      emarks = length-take-le c.e s.emarks k.halfedges.marks;
      fmarks = length-take-le c.f s.fmarks k.sides.marks;
    }

file-is : (c : Counts) (s : Slices) (ps : List Float)
    → file_of c s ps ≡ file c (points_of c ps) (used c s).outs (used c s).edges (used c s).faces (used c s).vmarks (used c s).emarks (used c s).fmarks
unfolding file_of
file-is c s ps = refl

given_back : (b : List ℕ) (c : Counts) (s : Slices) (ps : List Float) → Fair c s ps
    → Placed b c (points_of c ps) (used c s).outs (used c s).edges (used c s).faces (used c s).vmarks (used c s).emarks (used c s).fmarks
    → GivenBack b c (filed c s) (points_of c ps)
unfolding filed
given_back b c s ps h p =
    let k = (t-fits c s).so (fits_both c s (length ps) h.sized).0 in
    let n = counted c s ps h.sized in
    let w = words_of b c p.contents (small-contents c k.vertices.few k.halfedges.few k.sides.few) in
    let u = used c s in
    let e = counts_of b c w in
    record {
      right = right_of b c w p.whole (marks_of_lem b c u.vmarks u.emarks u.fmarks n.vmarks n.emarks n.fmarks p.vmarks p.emarks p.fmarks);
      counts = e;
      slices = slices-of b c (filed c s) e
          (words-read b (outs_from c) c.v u.outs p.outs h.outs n.outs)
          (words-read b (edges_from c) (8 * c.e) u.edges p.edges h.edges n.edges)
          (words-read b (faces_from c) c.f u.faces p.faces h.faces n.faces)
          (marks-read b (marks_from c) c.v u.vmarks p.vmarks n.vmarks)
          (marks-read b (marks_from c + c.v) c.e u.emarks p.emarks n.emarks)
          (marks-read b (marks_from c + c.v + c.e) c.f u.fmarks p.fmarks n.fmarks);
      points = points-of b c (points_of c ps) e (numbers-read b 64 (3 * c.v) (points_of c ps) p.points h.points n.points);
    }

-- reading what was written gives the mesh back
pub read_again : (c : Counts) (s : Slices) (ps : List Float) → Fair c s ps → GivenBack (file_of c s ps) c (filed c s) (points_of c ps)
read_again c s ps h =
    rw (file-is c s ps)
    (given_back (file c (points_of c ps) (used c s).outs (used c s).edges (used c s).faces (used c s).vmarks (used c s).emarks (used c s).fmarks) c s ps h
    (placed c (points_of c ps) (used c s).outs (used c s).edges (used c s).faces (used c s).vmarks (used c s).emarks (used c s).fmarks (counted c s ps h.sized)))

-- and where its marks are 0 or 1, every one of them as it was
pub filed-used : (c : Counts) (s : Slices) → Marks01 (used c s).vmarks → Marks01 (used c s).emarks → Marks01 (used c s).fmarks → filed c s ≡ used c s
unfolding filed
filed-used c s v e f = rw (marks-kept (used c s).vmarks v, marks-kept (used c s).emarks e, marks-kept (used c s).fmarks f)
