-- What is so whenever a call is done, and what section 7 shuts out (specs/Made). Assumes nothing.
use mathlib.Core.Path.{◌≡◌, refl, sym, ap, ◌∙◌}
use mathlib.Core.Bool.{Bool, true, not, false≢true}
use mathlib.Core.List.{List, [], ◌∷◌}
use Rattle.std.specs.Prelude.{Option, None, Some, Ok, Err}
use Prim.Native.Nat.{ℕ, zero, suc, ◌+◌, ◌*◌, ◌≤◌, ◌<◌}
use native.Mathlib.Omega.{arith}
use borrow.Author.Tests.{le-leb, lt-leb}
use lib.Dec.{leb, leb-zero}
use lib.ListN.{length, take}
use lib.Ieee.{Float}
use Rattle.scope.specs.declared.records.Counts.{Counts}
use Rattle.scope.specs.declared.answers.Refusal.{Refusal}
use Rattle.scope.specs.declared.answers.Refusal.TheVariants.{TooManyPasses}
use Rattle.scope.specs.Answers.{Subdivided}
use Rattle.scope.specs.Answers.{said_of}
use Rattle.scope.specs.Lists.{first, number_of}
use Rattle.scope.specs.Links.{Links, rim}
use Rattle.scope.specs.Check.{fault}
use Rattle.scope.specs.Tally.{tally_of, counts_of, counted}
use Rattle.scope.specs.Slices.{Slices, Given, Buffers, Sizes, sizes, fits, fits_with, used, links_of, marks_of, points_of, clean, float_zero, filled, wiped}
use Rattle.scope.specs.Call.{Scheme, Outcome, links, points, tally, turned, heavy, begin, final, work_needed, enough, unwanted, overweight, last_links, last_flag, last_points, last_marks, subdivided, left_after, ended, call}
use Rattle.laws_mesh.specs.Of.{Good}
use Rattle.laws_mesh.specs.Sides.{Within}
use Rattle.laws_mesh.proofs.Corners.{corners}
use Rattle.laws_call.specs.Laws.{Step, Laws}
use Rattle.laws_call.specs.Demand.{links_in, marks_in, Room, Lent}
use Rattle.laws_call.specs.Exactly.{Past6, When}
use Rattle.laws_call.specs.Made.{ZeroPast, grown, Made, Makes, Clears, Refuses, Copies, AddsFaces, GoesOnAdding, NotFixed, with_points, BlindToCoordinates, BlindToContents}
use Rattle.laws_call.proofs.Lists.{only-lay, lay-same}
use Rattle.laws_call.proofs.Handed.{and, what-fits, handed-links, handed-marks}
use Rattle.laws_call.proofs.Passes.{step-trans, tally-add, good-faced, tally-step, after-sides}
use Rattle.laws_call.proofs.Ends.{call-many, call-done, given-good, good-faultless, begun, passed, tally-passed, room_within, Ends, ends}
use Rattle.laws_call.proofs.Demand.{is-done}
use Rattle.laws_call.proofs.Exactly.{opened, exactly}

-- ---- a done call: what it says, and what it laid down
module _ (S : Scheme) (k : ℕ) (flag : Bool) (g : Given) (b : Buffers) (c : Counts) (next : Bool) (e : (call S k flag g b).answer ≡ Ok (c, next)) where
  pub clear : Past6 S k flag g b
  unfolding When
  clear = ((exactly S k flag g b (Ok (c, next))).0 e).0

  pub made-counts : c ≡ counts_of (last_links S k flag (links_in g))
  unfolding When
  made-counts = ((exactly S k flag g b (Ok (c, next))).0 e).1

  pub made-flag : next ≡ last_flag S k flag (links_in g)
  unfolding When
  made-flag = ((exactly S k flag g b (Ok (c, next))).0 e).2

  pub laid : (call S k flag g b).left ≡ filled (subdivided S k flag g).counts (subdivided S k flag g).slices (subdivided S k flag g).points b
  laid =
      let p = clear in
      ap (λ (o : Outcome). o.left) (call-done S k flag g b (opened S k flag g b p.0.0.0) p.0.0.1 p.0.1 p.1)

take_twice : {A : Type 0} (n : ℕ) (l : List A) → take n (take n l) ≡ take n l
take_twice zero l = refl
take_twice (suc n) [] = refl
take_twice {A} (suc n) (x ∷ l) = ap (λ (r : List A). x ∷ r) (take_twice n l)

-- ---- zero past what is used, for any number of passes and any scheme
zero-filled : (c : Counts) (s : Slices) (ps : List Float) (b : Buffers) → ZeroPast c (filled c s ps b)
unfolding filled used points_of
zero-filled c s ps b = record {
  outs = only-lay 0 c.v s.outs b.result.outs;
  edges = only-lay 0 (8 * c.e) s.edges b.result.edges;
  faces = only-lay 0 c.f s.faces b.result.faces;
  vmarks = only-lay 0 c.v s.vmarks b.result.vmarks;
  emarks = only-lay 0 c.e s.emarks b.result.emarks;
  fmarks = only-lay 0 c.f s.fmarks b.result.fmarks;
  points = only-lay float_zero (3 * c.v) ps b.points;
  work = only-lay float_zero 0 [] b.work;
}

pub clears : (S : Scheme) → Clears S
unfolding subdivided
clears S k flag g b c next e =
    let made = subdivided S k flag g in
    rw (laid S k flag g b c next e, made-counts S k flag g b c next e) (zero-filled made.counts made.slices made.points b)

-- ---- refused
abbrev refusal-of : Refusal → Subdivided → Refusal
refusal-of d (Ok (c, next)) = d
refusal-of d (Err r) = r

ended-refused : (o : Option Refusal) (made : Given) (next : Bool) (b : Buffers) (r : Refusal) → (ended o made next b).answer ≡ Err r →
    ((said_of r).number ≤ 4 → (ended o made next b).left ≡ b) × (4 < (said_of r).number → ZeroPast (record { v = 0; e = 0; f = 0 }) (ended o made next b).left)
unfolding ended left_after wiped
ended-refused None made next b r e = absurd (false≢true (ap is-done (sym e)))
ended-refused (Some s) made next b r e =
    let q : s ≡ r = ap (refusal-of r) e in
    (λ l. rw (q, le-leb (said_of r).number 4 l), λ l. rw (q, lt-leb (said_of r).number 4 l) (zero-filled _ _ _ b))

pub refuses : (S : Scheme) → Refuses S
unfolding call
refuses S k flag g b r e = ended-refused _ _ _ b r e

-- ---- what was laid down is read back
module _ (S : Scheme) (sides : ℕ) (w : Laws S sides) (k : ℕ) (flag : Bool) (g : Given) (b : Buffers) (c : Counts) (next : Bool)
    (e : (call S k flag g b).answer ≡ Ok (c, next)) where
  end : Ends S sides w k flag g b
  end = let p = clear S k flag g b c next e in ends S sides w k flag g b (opened S k flag g b p.0.0.0) p.0.0.1 p.0.1

  pub read-links : links_of c (call S k flag g b).left.result ≡ last_links S k flag (links_in g)
  unfolding subdivided
  read-links = rw (laid S k flag g b c next e, made-counts S k flag g b c next e) (handed-links _ _ _ b end.exact (what-fits _ _ _ end.room))

  read-marks : marks_of c (call S k flag g b).left.result ≡ last_marks S k flag (links_in g) (marks_in g)
  unfolding subdivided
  read-marks = rw (laid S k flag g b c next e, made-counts S k flag g b c next e) (handed-marks _ _ _ b end.exact (what-fits _ _ _ end.room))

-- ---- one pass or more
module _ (S : Scheme) (sides : ℕ) (w : Laws S sides) where
  grown-step : (k : ℕ) (flag : Bool) (m : Links) → Good m → Step (tally_of m) (grown S k flag m)
  grown-step k flag m h =
      let r = w.ready_step (tally_of m) (good-faced m h) in
      step-trans (tally_of m) (S.ready (tally_of m)) (grown S k flag m) r (tally-step S sides w k (S.settle (S.prepare m) flag) (S.ready (tally_of m)) r.faced)

  module _ (k : ℕ) (flag : Bool) (g : Given) (b : Buffers) (c : Counts) (next : Bool) (e : (call S (suc k) flag g b).answer ≡ Ok (c, next)) where
    abbrev m : Links
    m = links_in g

    abbrev l : Links
    l = links S (suc k) (S.settle (S.prepare m) flag) (S.prepare m)

    abbrev left : Buffers
    left = (call S (suc k) flag g b).left

    past : Past6 S (suc k) flag g b
    past = clear S (suc k) flag g b c next e

    pub before : Good m
    unfolding unwanted
    before = given-good S (suc k) flag g b (opened S (suc k) flag g b past.0.0.0) past.0.0.1

    pub inside : Within (grown S (suc k) flag m)
    inside = room_within S sides w k flag g b past.0.1

    after : Good l
    after = w.at_good _ l (passed S sides w (suc k) flag m before inside).at

    c-is : c ≡ counts_of l
    unfolding last_links begin
    c-is = made-counts S (suc k) flag g b c next e

    links_left : links_of c left.result ≡ l
    unfolding last_links begin
    links_left = read-links S sides w (suc k) flag g b c next e

    marks_left : marks_of c left.result ≡ clean l
    unfolding last_marks last_links begin
    marks_left = read-marks S sides w (suc k) flag g b c next e

    counted-left : tally_of l ≡ grown S (suc k) flag m
    counted-left = tally-passed S sides w (suc k) flag m before inside

    pub counts_left : c ≡ counted (grown S (suc k) flag m)
    counts_left = c-is ∙ unfold counts_of tally_of counted in (ap counted counted-left)

    flag-left : next ≡ turned S (suc k) (S.settle (S.prepare m) flag)
    unfolding last_flag begin
    flag-left = made-flag S (suc k) flag g b c next e

    corners-left : (tally_of l).s ≡ number_of (2 * c.e) (λ h. not (rim l h))
    unfolding tally_of counts_of
    corners-left = rw c-is (corners l after)

    even-left : g.counts.v + g.counts.f + c.e ≡ c.v + c.f + g.counts.e
    unfolding tally_of links_of counted
    even-left = rw counts_left (grown-step (suc k) flag m before).even

    pub made : Made S sides (suc k) flag g c next left
    made = record {
      good = rw links_left after;
      faultless = rw (links_left, marks_left) (good-faultless l after);
      undeleted = rw links_left marks_left;
      counts = counts_left;
      records = rw links_left counted-left;
      corners = rw links_left (corners-left);
      even = even-left;
      flag_back = flag-left;
      sided = rw links_left
          (after-sides S sides w k (S.settle (S.prepare m) flag) (S.prepare m) (begun S sides w (suc k) flag m before inside).at
          (rw (begun S sides w (suc k) flag m before inside).as-counted inside));
    }

  pub makes : Makes S sides
  makes = made

  -- ---- wherever there is a face, a pass adds one
  grown-more : (k : ℕ) (flag : Bool) (m : Links) → Good m → 0 < (tally_of m).f → (tally_of m).f < (grown S (suc k) flag m).f
  unfolding tally
  grown-more k flag m h some-face =
      let f = S.settle (S.prepare m) flag in
      let t = S.ready (tally_of m) in
      let r = w.ready_step (tally_of m) (good-faced m h) in
      let more = w.grow_more f t r.faced (omega (arith, some-face, r.f_grows)) in
      let rest = tally-step S sides w k (S.turn f) (S.grow f t) (w.grow_step f t r.faced).faced in
      omega (arith, r.f_grows, more, rest.f_grows)

  pub adds-faces : AddsFaces S
  unfolding tally_of links_of counted
  adds-faces k flag g b c next e h = rw (counts_left k flag g b c next e) (grown-more k flag (links_in g) (before k flag g b c next e) h)

  pub goes-on-adding : GoesOnAdding S
  unfolding tally_of links_of counted
  goes-on-adding k flag g b b' c c' next next' e e' h =
      let m = links_in g in
      let sound = before k flag g b c next e in
      let f = S.settle (S.prepare m) flag in
      let t = grown S (suc k) flag m in
      let last : grown S (suc (suc k)) flag m ≡ S.grow (turned S (suc k) f) t =
      tally-add S (suc k) 1 (suc (suc k)) (omega arith) f (S.ready (tally_of m)) ∙ unfold tally in refl in
      rw (counts_left k flag g b c next e, counts_left (suc k) flag g b' c' next' e', last)
      (w.grow_more (turned S (suc k) f) t (grown-step (suc k) flag m sound).faced (omega (arith, h, (grown-step (suc k) flag m sound).f_grows)))

-- ---- of any scheme
-- zero passes: a copy
pub copies : (S : Scheme) → Copies S
copies S flag g b fit sound room =
    call-done S 0 flag g b (opened S 0 flag g b ((omega arith, fit), sound)) (unfold unwanted in refl) roomy (unfold overweight begin heavy in refl) ∙ copied
  where
    roomy : Room S 0 flag g b
    roomy = unfold enough final begin tally counted tally_of links_of work_needed in
        (and (fits_with g.counts (sizes b.result) (length b.points)) (leb 0 (length b.work)) room (leb-zero (length b.work)))

    copied : ◌≡◌ {A = Outcome} (record {
      answer = Ok ((subdivided S 0 flag g).counts, last_flag S 0 flag (links_in g));
      left = filled (subdivided S 0 flag g).counts (subdivided S 0 flag g).slices (subdivided S 0 flag g).points b;
    }) (record { answer = Ok (g.counts, flag); left = filled g.counts g.slices g.points b })
    copied = unfold subdivided last_links last_flag last_marks last_points begin links points turned counts_of links_of marks_of points_of filled used in (simp take_twice)

pub not-fixed : (S : Scheme) → NotFixed S
not-fixed S a fixed = false≢true (ap is-done (sym many ∙ fixed 13 true nothing room ∙ sym (fixed 0 true nothing room) ∙ copied))
  where
    no_slices : Slices
    no_slices = record { outs = []; edges = []; faces = []; vmarks = []; emarks = []; fmarks = [] }

    nothing : Given
    nothing = record { counts = record { v = 0; e = 0; f = 0 }; slices = no_slices; points = [] }

    room : Buffers
    room = record { result = no_slices; points = []; work = [] }

    many : (call S 13 true nothing room).answer ≡ Err TooManyPasses
    many = rw (call-many S 13 true nothing room refl)

    copied : (call S 0 true nothing room).answer ≡ Ok (record { v = 0; e = 0; f = 0 }, true)
    copied = rw (copies S true nothing room (unfold fits_with fits sizes in refl) (unfold fault links_of first used in refl) (unfold fits_with fits sizes in refl))

-- ---- coordinates
pub blind-to-coordinates : (S : Scheme) → BlindToCoordinates S
unfolding call
blind-to-coordinates S k flag g ps b e = (rw e (answers _), rw e (results _))
  where
    answers : (r : Option Refusal) → (ended r (subdivided S k flag (with_points g ps)) (last_flag S k flag (links_in g)) b).answer ≡
        (ended r (subdivided S k flag g) (last_flag S k flag (links_in g)) b).answer
    answers None = unfold ended subdivided in refl
    answers (Some r) = unfold ended in refl

    results : (r : Option Refusal) → (ended r (subdivided S k flag (with_points g ps)) (last_flag S k flag (links_in g)) b).left.result ≡
        (ended r (subdivided S k flag g) (last_flag S k flag (links_in g)) b).left.result
    results None = unfold ended subdivided filled in refl
    results (Some r) = unfold ended in refl

-- ---- what the lent slices held
filled-same : (c : Counts) (s : Slices) (ps : List Float) (b b' : Buffers) → Lent b b' → filled c s ps b' ≡ filled c s ps b
unfolding filled sizes
filled-same c s ps b b' l =
    let r = l.of_result in
    let outs = lay-same 0 (used c s).outs b'.result.outs b.result.outs (ap (λ (z : Sizes). z.outs) r) in
    let edges = lay-same 0 (used c s).edges b'.result.edges b.result.edges (ap (λ (z : Sizes). z.edges) r) in
    let faces = lay-same 0 (used c s).faces b'.result.faces b.result.faces (ap (λ (z : Sizes). z.faces) r) in
    let vmarks = lay-same 0 (used c s).vmarks b'.result.vmarks b.result.vmarks (ap (λ (z : Sizes). z.vmarks) r) in
    let emarks = lay-same 0 (used c s).emarks b'.result.emarks b.result.emarks (ap (λ (z : Sizes). z.emarks) r) in
    let fmarks = lay-same 0 (used c s).fmarks b'.result.fmarks b.result.fmarks (ap (λ (z : Sizes). z.fmarks) r) in
    let points = lay-same float_zero (points_of c ps) b'.points b.points l.of_points in
    let work = lay-same float_zero [] b'.work b.work l.of_work in
    λ i. record {
      result = record { outs = outs i; edges = edges i; faces = faces i; vmarks = vmarks i; emarks = emarks i; fmarks = fmarks i };
      points = points i;
      work = work i;
    }

pub blind-to-contents : (S : Scheme) → BlindToContents S
blind-to-contents S k flag g b b' l =
    let same = answer-same in
    (same, λ c next e. laid S k flag g b' c next (same ∙ e) ∙ filled-same _ _ _ b b' l ∙ sym (laid S k flag g b c next e))
  where
    ended_same : (r : Option Refusal) → (ended r (subdivided S k flag g) (last_flag S k flag (links_in g)) b').answer ≡ (ended r (subdivided S k flag g) (last_flag S k flag (links_in g)) b).answer
    ended_same None = unfold ended in refl
    ended_same (Some r) = unfold ended in refl

    answer-same : (call S k flag g b').answer ≡ (call S k flag g b).answer
    answer-same = unfold call in (rw (l.of_result, l.of_points, l.of_work) (ended_same _))

-- two outcomes that a contract `≡ call ..` allows are equal
pub one-outcome : (S : Scheme) (k : ℕ) (flag : Bool) (g : Given) (b : Buffers) (o o' : Outcome) → o ≡ call S k flag g b → o' ≡ call S k flag g b → o ≡ o'
one-outcome S k flag g b o o' p q = p ∙ sym q
