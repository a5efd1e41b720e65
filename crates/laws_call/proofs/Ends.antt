-- How a call ends, and that what it leaves when done has the lengths that its counts say. Assumes nothing.
use mathlib.Core.Path.{◌≡◌, refl, sym, ap, ◌∙◌}
use mathlib.Core.Bool.{Bool, true, false}
use Rattle.std.specs.Prelude.{None, Some, Ok, Err}
use Prim.Native.Nat.{ℕ, zero, suc, ◌*◌}
use lib.Dec.{ltb}
use lib.ListN.{length, length-replicate}
use Rattle.scope.specs.declared.answers.Place.{Place}
use Rattle.scope.specs.declared.answers.Fault.{Fault}
use Rattle.scope.specs.declared.answers.Refusal.TheVariants.{TooManyPasses, ShortSlice, NotConsistent, MarkedDeleted, NoRoom, NoWeight}
use Rattle.scope.specs.Links.{Links}
use Rattle.scope.specs.Check.{fault, marked}
use Rattle.scope.specs.Tally.{Tally, tally_of, counts_of, counted}
use Rattle.scope.specs.Slices.{Given, Buffers, sizes, fits_with, links_of, clean, filled, wiped}
use Rattle.scope.specs.Call.{Scheme, links, points, tally, begin, final, enough, unwanted, overweight, refusal, last_links, last_flag, last_points, last_marks, subdivided, left_after, ended, call}
use Rattle.laws_mesh.specs.Of.{Good}
use Rattle.laws_mesh.specs.Sides.{Within}
use Rattle.laws_mesh.proofs.Shapes.{to-mesh, from-mesh}
use Rattle.laws_check.proofs.Theorems.{none-consistent, consistent-none}
use Rattle.laws_call.specs.Laws.{Laws}
use Rattle.laws_call.specs.Demand.{links_in, marks_in, points_in, Room}
use Rattle.laws_call.proofs.Handed.{both, Fits, what-fits, Exact, given-exact, unmarked, clean-open}
use Rattle.laws_call.proofs.Passes.{within_step, good-faced, tally-step, After, after}

-- no slice given is short
abbrev pub Fitting : Given → Bool → Type 0
Fitting g t = fits_with (counts_of (links_in g)) (sizes g.slices) (length g.points) ≡ t

-- ---- every way in which a call ends
module _ (S : Scheme) (k : ℕ) (flag : Bool) (g : Given) (b : Buffers) where
  pub call-many : ltb 12 k ≡ true → call S k flag g b ≡ record { answer = Err TooManyPasses; left = b }
  unfolding call refusal ended left_after
  call-many many = rw many

  pub call-short : ltb 12 k ≡ false → Fitting g false → call S k flag g b ≡ record { answer = Err ShortSlice; left = b }
  unfolding call refusal ended left_after
  call-short few e = rw (few, e)

  pub call-faulty : ltb 12 k ≡ false → Fitting g true → (x : Fault) → fault (links_in g) (marks_in g) ≡ Some x →
      call S k flag g b ≡ record { answer = Err (NotConsistent x); left = b }
  unfolding call refusal ended left_after
  call-faulty few e x q = rw (few, e, q)

  -- none of these
  pub record Open : Type 0 where
    pub few : ltb 12 k ≡ false
    pub sized : Fitting g true
    pub whole : fault (links_in g) (marks_in g) ≡ None

  module _ (o : Open) where
    pub call-deleted : (p : Place) → unwanted S k (marks_in g) ≡ Some p → call S k flag g b ≡ record { answer = Err (MarkedDeleted p); left = b }
    unfolding call refusal ended left_after
    call-deleted p e = rw (o.few, o.sized, o.whole, e)

    pub call-full : unwanted S k (marks_in g) ≡ None → enough S k flag (links_in g) (sizes b.result) (length b.points) (length b.work) ≡ false →
        call S k flag g b ≡ record { answer = Err NoRoom; left = wiped b }
    unfolding call refusal ended left_after
    call-full e r = rw (o.few, o.sized, o.whole, e, r)

    pub call-heavy : unwanted S k (marks_in g) ≡ None → Room S k flag g b → (p : ℕ × ℕ) → overweight S k flag (links_in g) ≡ Some p →
        call S k flag g b ≡ record { answer = Err (NoWeight p.0 p.1); left = wiped b }
    unfolding call refusal ended left_after
    call-heavy e r p q = rw (o.few, o.sized, o.whole, e, r, q)

    pub call-done : unwanted S k (marks_in g) ≡ None → Room S k flag g b → overweight S k flag (links_in g) ≡ None →
        let made = subdivided S k flag g in
        call S k flag g b ≡ record { answer = Ok (made.counts, last_flag S k flag (links_in g)); left = filled made.counts made.slices made.points b }
    unfolding call refusal ended
    call-done e r q = rw (o.few, o.sized, o.whole, e, r, q)

-- what room says of the counts
pub room_fits : (S : Scheme) (k : ℕ) (flag : Bool) (g : Given) (b : Buffers) → Room S k flag g b →
    fits_with (final S k flag (links_in g)) (sizes b.result) (length b.points) ≡ true
unfolding enough
room_fits S k flag g b r = (both (fits_with (final S k flag (links_in g)) (sizes b.result) (length b.points)) _ r).0

-- ---- what is given
module _ (S : Scheme) (k : ℕ) (flag : Bool) (g : Given) (b : Buffers) (o : Open S k flag g b) where
  given-fits : Fits g.counts (sizes g.slices) (length g.points)
  given-fits = what-fits g.counts (sizes g.slices) (length g.points) (unfold links_of counts_of in o.sized)

  pub given-good : marked (marks_in g) ≡ None → Good (links_in g)
  unfolding links_of
  given-good e =
      let m = links_in g in
      let h = given-fits in
      let x = given-exact g h in
      let open-all = unmarked m (marks_in g) x.vs_long x.es_long x.fs_long e in
      record {
        sized = record {
          outs_long = x.outs_long;
          edges_long = x.edges_long;
          faces_long = x.faces_long;
          few_v = h.v_in;
          few_e = h.e_in;
          few_f = h.f_in;
        };
        consistent = to-mesh m (marks_in g) open-all (none-consistent m (marks_in g) h.e_in h.f_in o.whole);
      }

-- the check finds no fault in a good mesh without marks
pub good-faultless : (m : Links) → Good m → fault m (clean m) ≡ None
good-faultless m g =
    consistent-none m (clean m) g.sized.few_e g.sized.few_f (from-mesh m (clean m) (clean-open m) g.consistent)

-- ---- passes of a good mesh, within the limit
module _ (S : Scheme) (sides : ℕ) (w : Laws S sides) where
  -- where the first pass begins
  pub record Begun (flag : Bool) (m : Links) : Type 0 where
    pub at : w.At (S.settle (S.prepare m) flag) (S.prepare m)
    pub as-counted : tally_of (S.prepare m) ≡ S.ready (tally_of m)
    pub vertices : (S.prepare m).nv ≡ m.nv

  module _ (k : ℕ) (flag : Bool) (m : Links) (h : Good m) (r : Within (tally S k (S.settle (S.prepare m) flag) (S.ready (tally_of m)))) where
    pub begun : Begun flag m
    unfolding tally_of
    begun =
        let g = w.ready_step (tally_of m) (good-faced m h) in
        let inside = within_step _ _ (tally-step S sides w k (S.settle (S.prepare m) flag) (S.ready (tally_of m)) g.faced) r in
        let e = w.prepare_tally m h inside in
        record { at = w.begins flag m h inside; as-counted = e; vertices = ap (λ (t : Tally). t.v) e ∙ w.ready_vertices (tally_of m) }

    pub passed : After S sides w k (S.settle (S.prepare m) flag) (S.prepare m)
    passed = after S sides w k (S.settle (S.prepare m) flag) (S.prepare m) begun.at (rw begun.as-counted r)

    pub tally-passed : tally_of (links S k (S.settle (S.prepare m) flag) (S.prepare m)) ≡ tally S k (S.settle (S.prepare m) flag) (S.ready (tally_of m))
    tally-passed = passed.as-counted ∙ ap (tally S k (S.settle (S.prepare m) flag)) begun.as-counted

  pub room_within : (k : ℕ) (flag : Bool) (g : Given) (b : Buffers) → Room S (suc k) flag g b →
      Within (tally S (suc k) (S.settle (S.prepare (links_in g)) flag) (S.ready (tally_of (links_in g))))
  unfolding final begin counted
  room_within k flag g b r =
      let h = what-fits _ _ _ (room_fits S (suc k) flag g b r) in
      record { v_within = h.v_in; e_within = h.e_in; f_within = h.f_in }

  -- the counts that room is judged by are those of the links
  pub final-counts : (k : ℕ) (flag : Bool) (g : Given) (b : Buffers) → Open S k flag g b → unwanted S k (marks_in g) ≡ None → Room S k flag g b →
      counts_of (last_links S k flag (links_in g)) ≡ final S k flag (links_in g)
  unfolding last_links final begin counts_of counted tally_of links tally unwanted
  final-counts zero flag g b o e r = refl
  final-counts (suc k) flag g b o e r =
      ap counted (tally-passed (suc k) flag (links_in g) (given-good S (suc k) flag g b o e) (room_within k flag g b r))

  -- ---- a call that is done
  pub record Ends (k : ℕ) (flag : Bool) (g : Given) (b : Buffers) : Type 0 where
    pub exact : Exact (last_links S k flag (links_in g)) (last_marks S k flag (links_in g) (marks_in g)) (last_points S k flag (links_in g) (points_in g))
    pub room : fits_with (counts_of (last_links S k flag (links_in g))) (sizes b.result) (length b.points) ≡ true

  ends-exact : (k : ℕ) (flag : Bool) (g : Given) (b : Buffers) → Open S k flag g b → unwanted S k (marks_in g) ≡ None → Room S k flag g b →
      Exact (last_links S k flag (links_in g)) (last_marks S k flag (links_in g) (marks_in g)) (last_points S k flag (links_in g) (points_in g))
  unfolding last_links last_marks last_points begin links points unwanted clean
  ends-exact zero flag g b o e r = given-exact g (given-fits S 0 flag g b o)
  ends-exact (suc k) flag g b o e r =
      let m = links_in g in
      let h = given-good S (suc k) flag g b o e in
      let inside = room_within k flag g b r in
      let start = begun (suc k) flag m h inside in
      let end = passed (suc k) flag m h inside in
      let l = links S (suc k) (S.settle (S.prepare m) flag) (S.prepare m) in
      let s = (w.at_good _ l end.at).sized in
      let long : length (points_in g) ≡ 3 * (S.prepare m).nv =
      (given-exact g (given-fits S (suc k) flag g b o)).points-long ∙ ap (λ (n : ℕ). 3 * n) (sym start.vertices) in
      record {
        outs_long = s.outs_long;
        edges_long = s.edges_long;
        faces_long = s.faces_long;
        vs_long = length-replicate l.nv 0;
        es_long = length-replicate l.ne 0;
        fs_long = length-replicate l.nf 0;
        points-long = end.points-long (points_in g) long;
      }

  pub ends : (k : ℕ) (flag : Bool) (g : Given) (b : Buffers) → Open S k flag g b → unwanted S k (marks_in g) ≡ None → Room S k flag g b → Ends k flag g b
  ends k flag g b o e r = record {
    exact = ends-exact k flag g b o e r;
    room = rw (final-counts k flag g b o e r) (room_fits S k flag g b r);
  }
