-- What a file says that is right, part by part. Assumes nothing.
use Prim.Native.Nat.{ℕ, ◌+◌, ◌≤◌, ◌<◌}
use mathlib.Core.Path.{◌≡◌, refl, sym, ◌∙◌}
use mathlib.Core.Bool.{true, ◌&&◌}
use mathlib.Core.List.{List, [], ◌∷◌}
use borrow.Author.Tests.{eqb-true, leb-true}
use lib.Dec.{eqb, leb}
use lib.ListN.{length, get_or}
use Rattle.scope.specs.declared.records.Counts.{Counts}
use Rattle.scope.specs.Lists.{range}
use Rattle.file_read.specs.Format.{word_at, content, kind_at, start_at, count_at, file_counts, points_from, outs_from, edges_from, faces_from, marks_from, file_end, row_right, rows_right, marks_right, right, words, contents_of}
use Rattle.file_read.proofs.FillLaws.{all-at}
use Rattle.file_write.proofs.WriteLaws.{both}

row-said : (b : List ℕ) (k from n : ℕ) → row_right b k from n ≡ true → (kind_at b k ≡ k + 1) × (start_at b k ≡ from) × (count_at b k ≡ n)
unfolding row_right
row-said b k from n e =
    let p = both (eqb (kind_at b k) (k + 1) && eqb (start_at b k) from) (eqb (count_at b k) n) e in
    let q = both (eqb (kind_at b k) (k + 1)) (eqb (start_at b k) from) p.0 in
    (eqb-true (kind_at b k) (k + 1) q.0, eqb-true (start_at b k) from q.1, eqb-true (count_at b k) n p.1)

sixteen : (b : List ℕ) → words b 0 16
    ≡ word_at b 0 ∷ word_at b 4 ∷ word_at b 8 ∷ word_at b 12 ∷ word_at b 16 ∷ word_at b 20 ∷ word_at b 24 ∷ word_at b 28 ∷ word_at b 32 ∷ word_at b 36 ∷ word_at b 40 ∷ word_at b 44 ∷ word_at b 48 ∷ word_at b 52 ∷ word_at b 56 ∷ word_at b 60 ∷ []
unfolding range
sixteen b = refl

pub contents-said : (b : List ℕ) (c : Counts) → word_at b 0 ≡ 1 → rows_right b c ≡ true → contents_of c ≡ words b 0 16
unfolding contents_of rows_right
contents-said b c w e =
    let n = c.v + c.e + c.f in
    let r0 = row_right b 0 (points_from c) c.v in
    let r1 = row_right b 1 (outs_from c) c.v in
    let r2 = row_right b 2 (edges_from c) c.e in
    let r3 = row_right b 3 (faces_from c) c.f in
    let r4 = row_right b 4 (marks_from c) n in
    let p = both (r0 && r1 && r2 && r3 && r4) (eqb (length b) (file_end c)) e in
    let p4 = both (r0 && r1 && r2 && r3) r4 p.0 in
    let p3 = both (r0 && r1 && r2) r3 p4.0 in
    let p2 = both (r0 && r1) r2 p3.0 in
    let p1 = both r0 r1 p2.0 in
    let s0 = row-said b 0 (points_from c) c.v p1.0 in
    let s1 = row-said b 1 (outs_from c) c.v p1.1 in
    let s2 = row-said b 2 (edges_from c) c.e p2.1 in
    let s3 = row-said b 3 (faces_from c) c.f p3.1 in
    let s4 = row-said b 4 (marks_from c) n p4.1 in
    same (word_at b 0) (word_at b 4) (word_at b 8) (word_at b 12) (word_at b 16) (word_at b 20) (word_at b 24) (word_at b 28) (word_at b 32) (word_at b 36) (word_at b 40) (word_at b 44) (word_at b 48) (word_at b 52) (word_at b 56) (word_at b 60)
    w s0.0 s0.1 s0.2 s1.0 s1.1 s1.2 s2.0 s2.1 s2.2 s3.0 s3.1 s3.2 s4.0 s4.1 s4.2
    ∙ sym (sixteen b)
  where
    same : (x0 x1 x2 x3 x4 x5 x6 x7 x8 x9 xa xb xc xd xe xf : ℕ) → {y0 y1 y2 y3 y4 y5 y6 y7 y8 y9 ya yb yc yd ye yf : ℕ}
        → x0 ≡ y0 → x1 ≡ y1 → x2 ≡ y2 → x3 ≡ y3 → x4 ≡ y4 → x5 ≡ y5 → x6 ≡ y6 → x7 ≡ y7 → x8 ≡ y8 → x9 ≡ y9 → xa ≡ ya → xb ≡ yb → xc ≡ yc → xd ≡ yd → xe ≡ ye → xf ≡ yf
        → y0 ∷ y1 ∷ y2 ∷ y3 ∷ y4 ∷ y5 ∷ y6 ∷ y7 ∷ y8 ∷ y9 ∷ ya ∷ yb ∷ yc ∷ yd ∷ ye ∷ yf ∷ [] ≡ x0 ∷ x1 ∷ x2 ∷ x3 ∷ x4 ∷ x5 ∷ x6 ∷ x7 ∷ x8 ∷ x9 ∷ xa ∷ xb ∷ xc ∷ xd ∷ xe ∷ xf ∷ []
    same x0 x1 x2 x3 x4 x5 x6 x7 x8 x9 xa xb xc xd xe xf e0 e1 e2 e3 e4 e5 e6 e7 e8 e9 ea eb ec ed ee ef =
        rw (e0, e1, e2, e3, e4, e5, e6, e7, e8, e9, ea, eb, ec, ed, ee, ef)

pub record Said (b : List ℕ) (c : Counts) : Type 0 where
  pub contents : contents_of c ≡ words b 0 16
  pub end : length b ≡ file_end c
  pub marks : (i : ℕ) → i < c.v + c.e + c.f → get_or b (marks_from c + i) 0 ≤ 1

end-said : (b : List ℕ) (c : Counts) → rows_right b c ≡ true → length b ≡ file_end c
unfolding rows_right
end-said b c e =
    eqb-true (length b) (file_end c)
    (both (row_right b 0 (points_from c) c.v && row_right b 1 (outs_from c) c.v && row_right b 2 (edges_from c) c.e && row_right b 3 (faces_from c) c.f && row_right b 4 (marks_from c) (c.v + c.e + c.f)) (eqb (length b) (file_end c)) e).1

marks-said : (b : List ℕ) (from n : ℕ) → marks_right b from n ≡ true → (i : ℕ) → i < n → get_or b (from + i) 0 ≤ 1
unfolding marks_right
marks-said b from n e i l = leb-true (get_or b (from + i) 0) 1 (all-at (λ j. leb (get_or b (from + j) 0) 1) n e i l)

pub said : (b : List ℕ) → right b ≡ true → Said b (file_counts b)
unfolding right
said b e =
    let c = file_counts b in
    let m = marks_right b (marks_from c) (c.v + c.e + c.f) in
    let p = both (leb 64 (length b) && eqb (content b 0) 1 && rows_right b c) m e in
    let q = both (leb 64 (length b) && eqb (content b 0) 1) (rows_right b c) p.0 in
    let r = both (leb 64 (length b)) (eqb (content b 0) 1) q.0 in
    record {
      contents = contents-said b c (eqb-true (content b 0) 1 r.1) q.1;
      end = end-said b c q.1;
      marks = marks-said b (marks_from c) (c.v + c.e + c.f) p.1;
    }
