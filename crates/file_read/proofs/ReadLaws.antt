-- The answers of a reader, and what the check says of slices that a file was laid into. Assumes nothing.
use Prim.Native.Nat.{ℕ, ◌+◌, ◌*◌, ◌≤◌, ◌<◌}
use mathlib.Core.Path.{◌≡◌, refl, sym, ap, ◌∙◌}
use mathlib.Core.Bool.{Bool, true, false, not, ◌&&◌}
use mathlib.Core.List.{List, [], map}
use Rattle.std.specs.Prelude.{Option, None, Some, Ok, Err}
use Rattle.std.specs.Result.{is_err}
use native.Mathlib.Omega.{arith}
use borrow.Author.Tests.{le-leb, lt-leb}
use lib.Dec.{leb}
use lib.ListN.{length, get_or, take, replicate}
use lib.Ieee.{Float, nan, binary64, of_bits}
use lib.Ieee.Scale.{finite}
use Rattle.scope.specs.declared.records.Counts.{Counts}
use Rattle.scope.specs.declared.answers.Refusal.{Refusal}
use Rattle.scope.specs.declared.answers.Refusal.TheVariants.{ShortSlice, BadContents, NotFinite}
use Rattle.scope.specs.Answers.{Checked}
use Rattle.scope.specs.Lists.{◌or_else◌, lay, all, range}
use Rattle.scope.specs.Slices.{Slices, Sizes, sizes, fits, fits_with, used, links_of, marks_of, float_zero}
use Rattle.scope.specs.Answers.{refuse_if}
use Rattle.laws_check.proofs.Tells.{never}
use Rattle.check_mesh.specs.Checked.{answered, checked_links}
use Rattle.check_mesh.proofs.EntryLaws.{t-fits, answered-sound, answered-unsound}
use Rattle.mesh.proofs.SliceLaws.{length-lay}
use Rattle.file_read.specs.Format.{Reading}
use Rattle.file_read.specs.Format.{bits_at, word_at, file_counts, file_slices, file_points, all_finite, Finite, right, numbers, words, bytes, outs_from, edges_from, faces_from, marks_from, contents_refusal, link_refusal, read_refusal, reading, Lent, lent_at, file_end, laid, no_slices, load_leaves, read_leaves}
use Rattle.file_read.proofs.ContentsLaws.{right_end}
use Rattle.file_read.proofs.FillLaws.{take-lay, lay-lay, lay_none, length_run, at_place, all-is, all-at}

-- ---- answers by cases
pub reading-read : (o : Option Refusal) (c : Counts) {d : Counts} → reading o c ≡ Ok d → (o ≡ None) × (d ≡ c)
reading-read None c e = (refl, cc)
reading-read (Some r) c e = let z : ◌≡◌ {A = ℕ} 0 1 = cc in absurd (omega arith)

pub reading-refused : (o : Option Refusal) (c : Counts) {r : Refusal} → reading o c ≡ Err r → o ≡ Some r
reading-refused None c e = let z : ◌≡◌ {A = ℕ} 0 1 = cc in absurd (omega arith)
reading-refused (Some q) c e = cc

three : (a b d : Bool) → (refuse_if (not a) BadContents or_else refuse_if (not b) ShortSlice or_else refuse_if (not d) NotFinite) ≡ None → (a ≡ true) × (b ≡ true) × (d ≡ true)
three true true true e = (refl, refl, refl)
three true true false e = let z : ◌≡◌ {A = ℕ} 0 1 = cc in absurd (omega arith)
three true false d e = let z : ◌≡◌ {A = ℕ} 0 1 = cc in absurd (omega arith)
three false b d e = let z : ◌≡◌ {A = ℕ} 0 1 = cc in absurd (omega arith)

pub contents-none : (b : List ℕ) (room : Sizes) (p : ℕ) → contents_refusal b room p ≡ None → (right b ≡ true) × (fits_with (file_counts b) room p ≡ true) × (all_finite (file_points b) ≡ true)
unfolding contents_refusal
contents-none b room p e = three (right b) (fits_with (file_counts b) room p) (all_finite (file_points b)) e

pub fits-first : (c : Counts) (room : Sizes) (p : ℕ) → fits_with c room p ≡ true → fits c room ≡ true
unfolding fits_with
fits-first c room p e = go (fits c room) (leb (3 * c.v) p) e
  where
    go : (a b : Bool) → (a && b) ≡ true → a ≡ true
    go true b e = refl
    go false b e = never (sym e)

-- ---- finite numbers
pub finite-file : (b : List ℕ) → all_finite (file_points b) ≡ all (3 * (file_counts b).v) (λ i. finite (of_bits binary64 (bits_at b (64 + 8 * i))))
unfolding all_finite file_points
finite-file b =
    let n = 3 * (file_counts b).v in
    let f : ℕ → Float = λ i. of_bits binary64 (bits_at b (64 + 8 * i)) in
    rw (length_run f n) (all-is (λ i. finite (get_or (numbers b 64 n) i nan)) (λ i. finite (f i)) n (λ i l. ap finite (at_place f n i nan l)))

pub finite-known : (b : List ℕ) → all_finite (file_points b) ≡ true → Finite b 64 (3 * (file_counts b).v)
finite-known b e = record { at = all-at (λ i. finite (of_bits binary64 (bits_at b (64 + 8 * i)))) (3 * (file_counts b).v) (sym (finite-file b) ∙ e) }

-- ---- the answers of the look
module _ (b : List ℕ) (room : Sizes) (p : ℕ) where
  pub look_contents : right b ≡ false → Err BadContents ≡ reading (contents_refusal b room p) (file_counts b)
  unfolding contents_refusal
  look_contents r = rw (r)

  pub look_short : {c : Counts} → c ≡ file_counts b → right b ≡ true → fits c room ≡ false → Err ShortSlice ≡ reading (contents_refusal b room p) (file_counts b)
  unfolding contents_refusal fits_with
  look_short e r f = rw (r, ← e, f)

  pub look_few : {c : Counts} → c ≡ file_counts b → right b ≡ true → fits c room ≡ true → p < 3 * c.v → Err ShortSlice ≡ reading (contents_refusal b room p) (file_counts b)
  unfolding contents_refusal fits_with
  look_few e r f l = rw (r, ← e, f, lt-leb _ _ l)

  pub look_infinite : {c : Counts} → c ≡ file_counts b → right b ≡ true → fits c room ≡ true → 3 * c.v ≤ p
      → all (3 * c.v) (λ i. finite (of_bits binary64 (bits_at b (64 + 8 * i)))) ≡ false → Err NotFinite ≡ reading (contents_refusal b room p) (file_counts b)
  unfolding contents_refusal fits_with
  look_infinite e r f l a = rw (r, finite-file b, ← e, f, le-leb _ _ l, a)

  pub look_fine : {c : Counts} → c ≡ file_counts b → right b ≡ true → fits c room ≡ true → 3 * c.v ≤ p
      → all (3 * c.v) (λ i. finite (of_bits binary64 (bits_at b (64 + 8 * i)))) ≡ true → Ok c ≡ reading (contents_refusal b room p) (file_counts b)
  unfolding contents_refusal fits_with
  look_fine e r f l a = rw (r, finite-file b, ← e, f, le-leb _ _ l, a)

-- ---- the check of what was laid
pub sizes-laid : (s : Slices) (ps : List Float) (old : Lent) → sizes (laid s ps old).slices ≡ sizes old.slices
unfolding sizes laid
sizes-laid s ps old = rw (
  length-lay 0 s.outs old.slices.outs,
  length-lay 0 s.edges old.slices.edges,
  length-lay 0 s.faces old.slices.faces,
  length-lay 0 s.vmarks old.slices.vmarks,
  length-lay 0 s.emarks old.slices.emarks,
  length-lay 0 s.fmarks old.slices.fmarks,
)

pub front : {A : Type 0} (z : A) (n : ℕ) (f : ℕ → A) (old : List A) → n ≤ length old → take n (lay z (map f (range 0 n)) old) ≡ take n (map f (range 0 n))
front z n f old l = let e = length_run f n in take-lay z n (map f (range 0 n)) old (omega arith) l

-- what is used of the slices is what is used of the file
pub used-laid : (b : List ℕ) (ps : List Float) (old : Lent) → fits (file_counts b) (sizes old.slices) ≡ true
    → used (file_counts b) (laid (file_slices b) ps old).slices ≡ used (file_counts b) (file_slices b)
unfolding used laid file_slices
used-laid b ps old h =
    let f = (t-fits (file_counts b) old.slices).so h in
    let c = file_counts b in
    rw (
      front 0 c.v (λ i. word_at b (outs_from c + 4 * i)) old.slices.outs f.vertices.room,
      front 0 (8 * c.e) (λ i. word_at b (edges_from c + 4 * i)) old.slices.edges f.halfedges.room,
      front 0 c.f (λ i. word_at b (faces_from c + 4 * i)) old.slices.faces f.sides.room,
      front 0 c.v (λ i. get_or b (marks_from c + i) 0) old.slices.vmarks f.vertices.marks,
      front 0 c.e (λ i. get_or b (marks_from c + c.v + i) 0) old.slices.emarks f.halfedges.marks,
      front 0 c.f (λ i. get_or b (marks_from c + c.v + c.e + i) 0) old.slices.fmarks f.sides.marks,
    )

checked-laid : (b : List ℕ) (ps : List Float) (old : Lent) → fits (file_counts b) (sizes old.slices) ≡ true → checked_links (file_counts b) (laid (file_slices b) ps old).slices ≡ answered (link_refusal b)
unfolding checked_links link_refusal links_of marks_of
checked-laid b ps old h = rw (sizes-laid (file_slices b) ps old, h, used-laid b ps old h)

wipe-laid : (s : Slices) (ps : List Float) (old : Lent) → laid no_slices [] (laid s ps old) ≡ laid no_slices [] old
unfolding laid
wipe-laid s ps old = rw (
  lay-lay 0 [] s.outs old.slices.outs,
  lay-lay 0 [] s.edges old.slices.edges,
  lay-lay 0 [] s.faces old.slices.faces,
  lay-lay 0 [] s.vmarks old.slices.vmarks,
  lay-lay 0 [] s.emarks old.slices.emarks,
  lay-lay 0 [] s.fmarks old.slices.fmarks,
  lay-lay float_zero [] ps old.points,
)

-- what is in the slices, and what the check said of it
module _ (b : List ℕ) (old new : Lent) {c : Counts} (e : c ≡ file_counts b) (h : fits c (sizes old.slices) ≡ true) (q : new ≡ laid (file_slices b) (file_points b) old) where
  held : fits (file_counts b) (sizes old.slices) ≡ true
  held = rw (← e) h

  pub said : checked_links c new.slices ≡ answered (link_refusal b)
  said = rw (e, q) (checked-laid b (file_points b) old held)

  pub links-read : links_of c new.slices ≡ links_of (file_counts b) (file_slices b)
  unfolding links_of
  links-read = rw (e, q, used-laid b (file_points b) old held)

  pub marks-read : marks_of c new.slices ≡ marks_of (file_counts b) (file_slices b)
  unfolding marks_of
  marks-read = rw (e, q, used-laid b (file_points b) old held)

-- ---- the slices after each step
pub fill_all : (b : List ℕ) (c : Counts) (old : Lent) {outs edges faces vmarks emarks fmarks : List ℕ} {points : List Float} → c ≡ file_counts b
    → outs ≡ lay 0 (words b (outs_from c) c.v) old.slices.outs
    → edges ≡ lay 0 (words b (edges_from c) (8 * c.e)) old.slices.edges
    → faces ≡ lay 0 (words b (faces_from c) c.f) old.slices.faces
    → vmarks ≡ lay 0 (bytes b (marks_from c) c.v) old.slices.vmarks
    → emarks ≡ lay 0 (bytes b (marks_from c + c.v) c.e) old.slices.emarks
    → fmarks ≡ lay 0 (bytes b (marks_from c + c.v + c.e) c.f) old.slices.fmarks
    → points ≡ lay float_zero (numbers b 64 (3 * c.v)) old.points
    → lent_at outs edges faces vmarks emarks fmarks points ≡ laid (file_slices b) (file_points b) old
unfolding laid file_slices file_points
fill_all b c old e o d f v m g p = rw (o, d, f, v, m, g, p, e)

pub wipe_all : (old : Lent) {outs edges faces vmarks emarks fmarks : List ℕ} {points : List Float}
    → outs ≡ replicate (length old.slices.outs) 0
    → edges ≡ replicate (length old.slices.edges) 0
    → faces ≡ replicate (length old.slices.faces) 0
    → vmarks ≡ replicate (length old.slices.vmarks) 0
    → emarks ≡ replicate (length old.slices.emarks) 0
    → fmarks ≡ replicate (length old.slices.fmarks) 0
    → points ≡ replicate (length old.points) float_zero
    → lent_at outs edges faces vmarks emarks fmarks points ≡ laid no_slices [] old
unfolding laid
wipe_all old o d f v m g p = rw (
  o,
  d,
  f,
  v,
  m,
  g,
  p,
  lay_none 0 old.slices.outs,
  lay_none 0 old.slices.edges,
  lay_none 0 old.slices.faces,
  lay_none 0 old.slices.vmarks,
  lay_none 0 old.slices.emarks,
  lay_none 0 old.slices.fmarks,
  lay_none float_zero old.points,
)

pub right_room : (b : List ℕ) {c : Counts} → c ≡ file_counts b → right b ≡ true → length b ≡ file_end c
right_room b e r = rw (e) (right_end b r)

-- ---- the mesh loaded, by the slices as they were lent
module _ (b : List ℕ) (old : Lent) where
  abbrev before : Option Refusal
  before = contents_refusal b (sizes old.slices) (length old.points)

  abbrev answer : Option Refusal
  answer = read_refusal b (sizes old.slices) (length old.points)

  pub looked : {r : Reading} {s : Slices} → r ≡ reading (contents_refusal b (sizes s) (length old.points)) (file_counts b) → s ≡ old.slices → r ≡ reading before (file_counts b)
  looked e d = e ∙ ap (λ (s : Slices). reading (contents_refusal b (sizes s) (length old.points)) (file_counts b)) d

  pub look-refused : {r : Reading} {x : Refusal} → r ≡ reading before (file_counts b) → r ≡ Err x → (Err x ≡ reading answer (file_counts b)) × (old ≡ load_leaves before b old)
  unfolding read_refusal load_leaves
  look-refused {r} {x} e d = let o : before ≡ Some x = reading-refused before (file_counts b) (sym e ∙ d) in (rw (o), rw (o))

  pub look-ready : {r : Reading} {c : Counts} → r ≡ reading before (file_counts b) → r ≡ Ok c
      → (before ≡ None) × (c ≡ file_counts b) × (file_end c ≤ length b) × Finite b 64 (3 * c.v) × (fits c (sizes old.slices) ≡ true)
  look-ready {r} {c} e d =
      let k = reading-read before (file_counts b) (sym e ∙ d) in
      let n = contents-none b (sizes old.slices) (length old.points) k.0 in
      let q = right_room b k.1 n.0 in
      (k.0, k.1, omega arith, rw (k.1) (finite-known b n.2), rw (k.1) (fits-first (file_counts b) (sizes old.slices) (length old.points) n.1))

  links-read_as : {r : Reading} {c : Counts} {new : Lent} {k : Checked} → r ≡ reading before (file_counts b) → r ≡ Ok c → new ≡ laid (file_slices b) (file_points b) old
      → k ≡ checked_links c new.slices → (k ≡ answered (link_refusal b)) × (new ≡ load_leaves before b old)
  unfolding load_leaves
  links-read_as {r} {c} {new} e d l k =
      let p = look-ready e d in
      (k ∙ said b old new p.1 p.4 l, rw (p.0) l)

  pub links-refused : {r : Reading} {c : Counts} {new : Lent} {k : Checked} {x : Refusal} → r ≡ reading before (file_counts b) → r ≡ Ok c → new ≡ laid (file_slices b) (file_points b) old
      → k ≡ checked_links c new.slices → k ≡ Err x → (Err x ≡ reading answer (file_counts b)) × (new ≡ load_leaves before b old)
  unfolding read_refusal
  links-refused {r} {c} {new} {k} {x} e d l q w =
      let p = look-ready e d in
      let s = links-read_as e d l q in
      let o : link_refusal b ≡ Some x = answered-unsound (link_refusal b) (sym s.0 ∙ w) in
      (rw (p.0, o), s.1)

  pub links-sound : {r : Reading} {c : Counts} {new : Lent} {k : Checked} → r ≡ reading before (file_counts b) → r ≡ Ok c → new ≡ laid (file_slices b) (file_points b) old
      → k ≡ checked_links c new.slices → k ≡ Ok tt → (Ok c ≡ reading answer (file_counts b)) × (new ≡ load_leaves before b old)
  unfolding read_refusal
  links-sound {r} {c} {new} {k} e d l q w =
      let p = look-ready e d in
      let s = links-read_as e d l q in
      let o : link_refusal b ≡ None = answered-sound (link_refusal b) (sym s.0 ∙ w) in
      (rw (p.0, o) (ap {B = Reading} (λ x. Ok x) p.1), s.1)

  -- a refusal leaves what is cleared, and a mesh that was read stays
  pub cleared : {r : Reading} {mid last : Lent} → r ≡ reading answer (file_counts b) → is_err r ≡ true → mid ≡ load_leaves before b old → last ≡ laid no_slices [] mid → last ≡ read_leaves answer b old
  unfolding read_refusal load_leaves read_leaves
  cleared {r} {mid} {last} e d m l = go before (link_refusal b) (ap is_err (sym e) ∙ d) m
    where
      go : (o k : Option Refusal) → is_err (reading (o or_else k) (file_counts b)) ≡ true → mid ≡ load_leaves o b old → last ≡ read_leaves (o or_else k) b old
      go None None f m = never (sym f)
      go None (Some x) f m = l ∙ ap (λ (n : Lent). laid no_slices [] n) m ∙ wipe-laid (file_slices b) (file_points b) old
      go (Some x) k f m = l ∙ ap (λ (n : Lent). laid no_slices [] n) m

  pub stays : {r : Reading} {mid : Lent} → r ≡ reading answer (file_counts b) → is_err r ≡ false → mid ≡ load_leaves before b old → mid ≡ read_leaves answer b old
  unfolding read_refusal load_leaves read_leaves
  stays {r} {mid} e d m = go before (link_refusal b) (ap is_err (sym e) ∙ d) m
    where
      go : (o k : Option Refusal) → is_err (reading (o or_else k) (file_counts b)) ≡ false → mid ≡ load_leaves o b old → mid ≡ read_leaves (o or_else k) b old
      go None None f m = m
      go None (Some x) f m = never f
      go (Some x) k f m = never f
