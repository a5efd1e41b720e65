-- What fits is read back as it was laid down; marks that are all zero; what is given has the lengths that its counts say. Assumes nothing.
use Rattle.std.proofs.lemmas.Option.{none-some}
use mathlib.Core.Path.{◌≡◌, refl, sym}
use mathlib.Core.Bool.{Bool, true, false, not, ◌&&◌, false≢true}
use mathlib.Core.List.{List, []}
use Rattle.std.specs.Prelude.{Option, None, Some}
use Prim.Native.Nat.{ℕ, zero, suc, ◌*◌, ◌≤◌, ◌<◌}
use native.Mathlib.Nat.{not-suc-le-zero}
use native.Mathlib.Decide.{ℕ_discrete}
use native.Mathlib.Omega.{arith}
use borrow.Author.Tests.{leb-true, eqb-true, eq-eqb}
use lib.Dec.{eqb}
use lib.ListN.{length, get_or, replicate}
use lib.Seq.{length-take-le}
use lib.Ieee.{Float}
use Rattle.scope.specs.declared.records.Counts.{Counts}
use Rattle.scope.specs.declared.answers.Place.{Place}
use Rattle.scope.specs.declared.answers.Place.TheVariants.{AtVertex, AtEdge, AtFace}
use Rattle.scope.specs.Lists.{if, ◌or_else◌, first}
use Rattle.scope.specs.Links.{Links, Marks}
use Rattle.scope.specs.Check.{spot, set_mark, marked}
use Rattle.scope.specs.Tally.{counts_of}
use Rattle.scope.specs.Slices.{Slices, Given, Buffers, Sizes, sizes, fits, fits_with, used, links_of, marks_of, points_of, clean, slices_of, float_zero, filled}
use Rattle.laws_mesh.proofs.Shapes.{Unmarked}
use Rattle.laws_call.proofs.Lists.{length-lay, read_back}

-- ---- tests
pub both : (a b : Bool) → (a && b) ≡ true → (a ≡ true) × (b ≡ true)
both true b e = (refl, e)
both false b e = absurd (false≢true e)

pub and : (a b : Bool) → a ≡ true → b ≡ true → (a && b) ≡ true
and a b p q = rw (p, q)

-- ---- what `fits_with` says
pub record Fits (c : Counts) (s : Sizes) (points : ℕ) : Type 0 where
  pub outs_in : c.v ≤ s.outs
  pub edges_in : 8 * c.e ≤ s.edges
  pub faces_in : c.f ≤ s.faces
  pub vmarks_in : c.v ≤ s.vmarks
  pub emarks_in : c.e ≤ s.emarks
  pub fmarks_in : c.f ≤ s.fmarks
  pub v_in : c.v ≤ 1048576
  pub e_in : c.e ≤ 1048576
  pub f_in : c.f ≤ 1048576
  pub points_in : 3 * c.v ≤ points

pub what-fits : (c : Counts) (s : Sizes) (points : ℕ) → fits_with c s points ≡ true → Fits c s points
unfolding fits_with fits
what-fits c s points e =
    let p1 = both _ _ e in
    let p2 = both _ _ p1.0 in
    let p3 = both _ _ p2.0 in
    let p4 = both _ _ p3.0 in
    let p5 = both _ _ p4.0 in
    let p6 = both _ _ p5.0 in
    let p7 = both _ _ p6.0 in
    let p8 = both _ _ p7.0 in
    let p9 = both _ _ p8.0 in
    record {
      outs_in = leb-true c.v s.outs p9.0;
      edges_in = leb-true (8 * c.e) s.edges p9.1;
      faces_in = leb-true c.f s.faces p8.1;
      vmarks_in = leb-true c.v s.vmarks p7.1;
      emarks_in = leb-true c.e s.emarks p6.1;
      fmarks_in = leb-true c.f s.fmarks p5.1;
      v_in = leb-true c.v 1048576 p4.1;
      e_in = leb-true c.e 1048576 p3.1;
      f_in = leb-true c.f 1048576 p2.1;
      points_in = leb-true (3 * c.v) points p1.1;
    }

-- ---- a mesh whose lists are as long as its counts say
pub record Exact (m : Links) (d : Marks) (ps : List Float) : Type 0 where
  pub outs_long : length m.outs ≡ m.nv
  pub edges_long : length m.edges ≡ 8 * m.ne
  pub faces_long : length m.faces ≡ m.nf
  pub vs_long : length d.vs ≡ m.nv
  pub es_long : length d.es ≡ m.ne
  pub fs_long : length d.fs ≡ m.nf
  pub points-long : length ps ≡ 3 * m.nv

-- what b holds when that mesh was laid into it, read with its counts
abbrev pub handed : Links → Marks → List Float → Buffers → Given
handed m d ps b =
    let l = filled (counts_of m) (slices_of m d) ps b in
    record { counts = counts_of m; slices = l.result; points = l.points }

module _ (m : Links) (d : Marks) (ps : List Float) (b : Buffers) (x : Exact m d ps)
    (h : Fits (counts_of m) (sizes b.result) (length b.points)) where
  pub handed-links : links_of (counts_of m) (handed m d ps b).slices ≡ m
  unfolding links_of counts_of filled used sizes
  handed-links =
      rw (
        read_back 0 m.outs b.result.outs m.nv x.outs_long h.outs_in,
        read_back 0 m.edges b.result.edges (8 * m.ne) x.edges_long h.edges_in,
        read_back 0 m.faces b.result.faces m.nf x.faces_long h.faces_in,
      )

  pub handed-marks : marks_of (counts_of m) (handed m d ps b).slices ≡ d
  unfolding marks_of counts_of filled used sizes
  handed-marks =
      rw (
        read_back 0 d.vs b.result.vmarks m.nv x.vs_long h.vmarks_in,
        read_back 0 d.es b.result.emarks m.ne x.es_long h.emarks_in,
        read_back 0 d.fs b.result.fmarks m.nf x.fs_long h.fmarks_in,
      )

  pub handed-points : points_of (counts_of m) (handed m d ps b).points ≡ ps
  unfolding points_of counts_of filled used
  handed-points = read_back float_zero ps b.points (3 * m.nv) x.points-long h.points_in

-- what is laid down changes no length
pub filled-sizes : (c : Counts) (s : Slices) (ps : List Float) (b : Buffers) → sizes (filled c s ps b).result ≡ sizes b.result
unfolding sizes filled
filled-sizes c s ps b = simp length-lay

pub filled-points : (c : Counts) (s : Slices) (ps : List Float) (b : Buffers) → length (filled c s ps b).points ≡ length b.points
unfolding filled
filled-points c s ps b = length-lay float_zero (points_of c ps) b.points

pub filled-work : (c : Counts) (s : Slices) (ps : List Float) (b : Buffers) → length (filled c s ps b).work ≡ length b.work
unfolding filled
filled-work c s ps b = length-lay float_zero [] b.work

-- what is given has these lengths
pub given-exact : (g : Given) → Fits g.counts (sizes g.slices) (length g.points) →
    Exact (links_of g.counts g.slices) (marks_of g.counts g.slices) (points_of g.counts g.points)
unfolding links_of marks_of points_of used sizes
given-exact g h = record {
  outs_long = length-take-le g.counts.v g.slices.outs h.outs_in;
  edges_long = length-take-le (8 * g.counts.e) g.slices.edges h.edges_in;
  faces_long = length-take-le g.counts.f g.slices.faces h.faces_in;
  vs_long = length-take-le g.counts.v g.slices.vmarks h.vmarks_in;
  es_long = length-take-le g.counts.e g.slices.emarks h.emarks_in;
  fs_long = length-take-le g.counts.f g.slices.fmarks h.fmarks_in;
  points-long = length-take-le (3 * g.counts.v) g.points h.points_in;
}

-- ---- options and searches
pub or-none : {A : Type 0} (a b : Option A) → (a or_else b) ≡ None → (a ≡ None) × (b ≡ None)
or-none None b e = (refl, e)
or-none (Some x) b e = absurd (none-some x (sym e))

-- a search that finds nothing has met nothing that fails
pub all_pass : (n : ℕ) (there ok : ℕ → Bool) → first n there ok ≡ None → (i : ℕ) → i < n → there i ≡ true → ok i ≡ true
unfolding first
all_pass zero there ok e i h t = absurd (not-suc-le-zero h)
all_pass (suc n) there ok e i h t = elim (ℕ_discrete i n) [ yes q ↦ here q | no q ↦ all_pass n there ok (or-none _ _ e).0 i (omega arith) t ]
  where
    last : (a b : Bool) → a ≡ true → if (a && not b) (Some n) None ≡ None → b ≡ true
    last true true p q = refl
    last true false p q = absurd (none-some n (sym q))
    last false b p q = absurd (false≢true p)

    here : i ≡ n → ok i ≡ true
    here q = rw q (last (there n) (ok n) (rw q at t) (or-none (first n there ok) _ e).1)

-- ---- nothing is marked
spot-none : (p : ℕ → Place) (o : Option ℕ) → spot p o ≡ None → o ≡ None
spot-none p None e = refl
spot-none p (Some i) e = absurd (none-some (p i) (sym e))

unset : (l : List ℕ) → set_mark l ≡ None → (i : ℕ) → i < length l → get_or l i 0 ≡ 0
unfolding set_mark
unset l e i h = eqb-true _ _ (all_pass (length l) (λ i. true) (λ i. eqb (get_or l i 0) 0) e i h refl)

pub unmarked : (m : Links) (d : Marks) → length d.vs ≡ m.nv → length d.es ≡ m.ne → length d.fs ≡ m.nf → marked d ≡ None → Unmarked m d
unfolding marked
unmarked m d v e f q =
    let p1 = or-none (spot AtFace (set_mark d.fs)) _ q in
    let p2 = or-none (spot AtEdge (set_mark d.es)) (spot AtVertex (set_mark d.vs)) p1.1 in
    record {
      no-v = λ i h. unset d.vs (spot-none AtVertex _ p2.1) i (rw v h);
      no-e = λ i h. unset d.es (spot-none AtEdge _ p2.0) i (rw e h);
      no-f = λ i h. unset d.fs (spot-none AtFace _ p1.0) i (rw f h);
    }

zero-at : (k i : ℕ) → ◌≡◌ {A = ℕ} (get_or (replicate k 0) i 0) 0
zero-at zero i = refl
zero-at (suc k) zero = refl
zero-at (suc k) (suc i) = zero-at k i

pub clean-open : (m : Links) → Unmarked m (clean m)
unfolding clean
clean-open m = record { no-v = λ i h. zero-at m.nv i; no-e = λ i h. zero-at m.ne i; no-f = λ i h. zero-at m.nf i }

zeros-first : (n k : ℕ) → first n (λ i. true) (λ i. eqb (get_or (replicate k 0) i 0) 0) ≡ None
unfolding first
zeros-first zero k = refl
zeros-first (suc n) k = rw (zeros-first n k, eq-eqb (get_or (replicate k 0) n 0) 0 (zero-at k n))

pub clean-unmarked : (m : Links) → marked (clean m) ≡ None
unfolding marked clean set_mark
clean-unmarked m = rw (zeros-first _ m.nf, zeros-first _ m.ne, zeros-first _ m.nv)
