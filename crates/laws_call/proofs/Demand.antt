-- Demand 3, once over every scheme that keeps its laws: a passes and, unless refused, b more, are a + b at once. Assumes nothing.
use mathlib.Core.Path.{◌≡◌, refl, sym, ap, ◌∙◌}
use mathlib.Core.Logic.{◌≢◌}
use mathlib.Core.Bool.{Bool, true, false, false≢true}
use mathlib.Core.List.{List, []}
use Rattle.std.specs.Prelude.{Option, None, Some, Ok, Err}
use Prim.Native.Nat.{ℕ, zero, suc, ◌+◌, ◌*◌, ◌≤◌}
use native.Mathlib.Omega.{arith}
use borrow.Author.Tests.{le-ltb}
use lib.Dec.{leb, ltb, leb-zero}
use lib.ListN.{length}
use lib.Ieee.{Float}
use Rattle.scope.specs.declared.records.Counts.{Counts}
use Rattle.scope.specs.declared.answers.Place.{Place}
use Rattle.scope.specs.declared.answers.Fault.{Fault}
use Rattle.scope.specs.declared.answers.Refusal.{Refusal}
use Rattle.scope.specs.declared.answers.Refusal.TheVariants.{ShortSlice, NotConsistent, MarkedDeleted, NoWeight}
use Rattle.scope.specs.Answers.{Subdivided}
use Rattle.scope.specs.Answers.{said_subdivided}
use Rattle.scope.specs.Links.{Links, Marks}
use Rattle.scope.specs.Check.{fault, marked}
use Rattle.scope.specs.Tally.{tally_of, counts_of, counted}
use Rattle.scope.specs.Slices.{Slices, Given, Buffers, Sizes, sizes, fits_with, used, points_of, clean, slices_of, float_zero, filled, wiped}
use Rattle.scope.specs.Call.{Scheme, Outcome, links, points, tally, turned, heavy, begin, final, work_needed, enough, unwanted, overweight, last_links, last_flag, last_points, last_marks, subdivided, call, then, onward}
use Rattle.laws_mesh.specs.Of.{Good}
use Rattle.laws_mesh.specs.Sides.{Within}
use Rattle.laws_call.specs.Laws.{Laws}
use Rattle.laws_call.specs.Demand.{links_in, marks_in, points_in, Room, number, counted_on, as_one, AlikeInAll, Repeated, Repeats}
use Rattle.laws_call.proofs.Lists.{alike}
use Rattle.laws_call.proofs.Handed.{both, and, Fits, what-fits, Exact, handed, handed-links, handed-marks, handed-points, filled-sizes, filled-points, clean-unmarked}
use Rattle.laws_call.proofs.Passes.{moved, links-add, points-add, tally-add, turned-add, heavy-early, heavy-late, resumes}
use Rattle.laws_call.proofs.Ends.{Fitting, call-short, call-faulty, Open, call-deleted, call-full, call-heavy, call-done, given-good, good-faultless, passed, tally-passed, room_within, Ends, ends}

-- ---- one mesh laid into two sets of slices
pub alike-filled : (c : Counts) (s : Slices) (ps : List Float) (p q : Buffers) → Fits c (sizes p.result) (length p.points) →
    Fits c (sizes q.result) (length q.points) → AlikeInAll c (filled c s ps p) (filled c s ps q)
unfolding filled used points_of sizes
alike-filled c s ps p q x y = record {
  outs = alike 0 c.v s.outs p.result.outs q.result.outs x.outs_in y.outs_in;
  edges = alike 0 (8 * c.e) s.edges p.result.edges q.result.edges x.edges_in y.edges_in;
  faces = alike 0 c.f s.faces p.result.faces q.result.faces x.faces_in y.faces_in;
  vmarks = alike 0 c.v s.vmarks p.result.vmarks q.result.vmarks x.vmarks_in y.vmarks_in;
  emarks = alike 0 c.e s.emarks p.result.emarks q.result.emarks x.emarks_in y.emarks_in;
  fmarks = alike 0 c.f s.fmarks p.result.fmarks q.result.fmarks x.fmarks_in y.fmarks_in;
  points = alike float_zero (3 * c.v) ps p.points q.points x.points_in y.points_in;
  work = alike float_zero 0 [] p.work q.work (omega arith) (omega arith);
}

-- ---- answers
abbrev pub is-done : Subdivided → Bool
is-done (Ok (c, flag)) = true
is-done (Err r) = false

abbrev counts_answered : Counts → Subdivided → Counts
counts_answered d (Ok (c, flag)) = c
counts_answered d (Err r) = d

-- both are refused, with first and second the same
refused-first : (a : ℕ) (r : Refusal) (p q : Buffers) →
    let o : Outcome = record { answer = Err r; left = p } in
    Repeated a o o (record { answer = Err r; left = q })
unfolding as_one
refused-first a r p q = record { same_number = refl; same_values = λ ne. refl; same_answer = refl; same_bits = λ c flag e. absurd (false≢true (ap is-done e)) }

-- a call that gets as far as room, and does not answer 5, has it
pub has_room : (S : Scheme) (k : ℕ) (flag : Bool) (g : Given) (b : Buffers) → Open S k flag g b → number (call S k flag g b) ≢ 5 → unwanted S k (marks_in g) ≡ None →
    Room S k flag g b
unfolding said_subdivided
has_room S k flag g b o n e = go (enough S k flag (links_in g) (sizes b.result) (length b.points) (length b.work)) refl
  where
    go : (t : Bool) → enough S k flag (links_in g) (sizes b.result) (length b.points) (length b.work) ≡ t → Room S k flag g b
    go true q = q
    go false q = absurd (n (ap number (call-full S k flag g b o e q)))

-- ---- the second call against one, where the first was done
module _ (S : Scheme) (sides : ℕ) (w : Laws S sides) (a : ℕ) (c₀ : Counts) (f₀ : Bool) (x : Buffers) (k n : ℕ) (flag flag' : Bool) (g g' : Given) (y z : Buffers)
    (o : Open S k flag g y) (o' : Open S n flag' g' z) (r : unwanted S k (marks_in g) ≡ None → Room S k flag g y) (r' : unwanted S n (marks_in g') ≡ None → Room S n flag' g' z) where
  abbrev Compared : Type 0
  Compared = Repeated a (record { answer = Ok (c₀, f₀); left = x }) (call S k flag g y) (call S n flag' g' z)

  both-deleted : (p : Place) → unwanted S k (marks_in g) ≡ Some p → unwanted S n (marks_in g') ≡ Some p → Compared
  unfolding as_one counted_on said_subdivided
  both-deleted p e e' =
      rw (call-deleted S k flag g y o p e, call-deleted S n flag' g' z o' p e')
      (record { same_number = refl; same_values = λ ne. refl; same_answer = refl; same_bits = λ c flag e. absurd (false≢true (ap is-done e)) })

  both-heavy : (p : ℕ × ℕ) → unwanted S k (marks_in g) ≡ None → unwanted S n (marks_in g') ≡ None → overweight S k flag (links_in g) ≡ Some p →
      overweight S n flag' (links_in g') ≡ Some (a + p.0, p.1) → Compared
  unfolding as_one counted_on said_subdivided
  both-heavy p e e' q q' =
      rw (call-heavy S k flag g y o e (r e) p q, call-heavy S n flag' g' z o' e' (r' e') (a + p.0, p.1) q')
      (record { same_number = refl; same_values = λ ne. absurd (ne refl); same_answer = refl; same_bits = λ c flag e. absurd (false≢true (ap is-done e)) })

  both-done : unwanted S k (marks_in g) ≡ None → unwanted S n (marks_in g') ≡ None → overweight S k flag (links_in g) ≡ None →
      overweight S n flag' (links_in g') ≡ None → subdivided S k flag g ≡ subdivided S n flag' g' →
      last_flag S k flag (links_in g) ≡ last_flag S n flag' (links_in g') → Compared
  unfolding as_one said_subdivided
  both-done e e' q q' s t =
      let made = subdivided S n flag' g' in
      let fy : Fits (subdivided S k flag g).counts (sizes y.result) (length y.points) = what-fits _ _ _ (unfold subdivided in (ends S sides w k flag g y o e (r e)).room) in
      let fz : Fits made.counts (sizes z.result) (length z.points) = what-fits _ _ _ (unfold subdivided in (ends S sides w n flag' g' z o' e' (r' e')).room) in
      rw (call-done S k flag g y o e (r e) q, call-done S n flag' g' z o' e' (r' e') q', s, t)
      (record {
        same_number = refl;
        same_values = λ ne. refl;
        same_answer = refl;
        same_bits = λ c flag i.
            let j : made.counts ≡ c = ap (counts_answered c₀) i in
            rw (← j) (alike-filled made.counts made.slices made.points y z (rw s at fy) fz);
      })

  compare : (u : Option Place) → unwanted S k (marks_in g) ≡ u → unwanted S n (marks_in g') ≡ u →
      (u ≡ None → overweight S n flag' (links_in g') ≡ moved a (overweight S k flag (links_in g))) →
      (u ≡ None → subdivided S k flag g ≡ subdivided S n flag' g') → (u ≡ None → last_flag S k flag (links_in g) ≡ last_flag S n flag' (links_in g')) →
      Compared
  compare (Some p) e e' h s t = both-deleted p e e'
  compare None e e' h s t = go (overweight S k flag (links_in g)) refl
    where
      go : (v : Option (ℕ × ℕ)) → overweight S k flag (links_in g) ≡ v → Compared
      go None q = both-done e e' q (h refl ∙ ap (moved a) q) (s refl) (t refl)
      go (Some p) q = both-heavy p e e' q (h refl ∙ ap (moved a) q)

module _ (S : Scheme) (sides : ℕ) (w : Laws S sides) where
  few-enough : (k : ℕ) → k ≤ 12 → ltb 12 k ≡ false
  few-enough k h = le-ltb 12 k h

  -- ---- refused before anything is looked at that the number of passes could change
  short-both : (a b n : ℕ) (flag : Bool) (g : Given) (x y z : Buffers) → a ≤ 12 → n ≤ 12 → Fitting g false →
      Repeated a (call S a flag g x) (onward S b (call S a flag g x) y) (call S n flag g z)
  unfolding onward then
  short-both a b n flag g x y z ha hn e =
      rw (call-short S a flag g x (few-enough a ha) e, call-short S n flag g z (few-enough n hn) e) (refused-first a ShortSlice x z)

  faulty-both : (a b n : ℕ) (flag : Bool) (g : Given) (x y z : Buffers) → a ≤ 12 → n ≤ 12 → Fitting g true → (p : Fault) →
      fault (links_in g) (marks_in g) ≡ Some p → Repeated a (call S a flag g x) (onward S b (call S a flag g x) y) (call S n flag g z)
  unfolding onward then
  faulty-both a b n flag g x y z ha hn e p q =
      rw (call-faulty S a flag g x (few-enough a ha) e p q, call-faulty S n flag g z (few-enough n hn) e p q) (refused-first a (NotConsistent p) x z)

  -- ---- no pass first: a copy
  after-copy : (b : ℕ) (flag : Bool) (g : Given) (x y z : Buffers) → Open S 0 flag g x → Open S b flag g z → number (call S 0 flag g x) ≢ 5 →
      number (onward S b (call S 0 flag g x) y) ≢ 5 → number (call S b flag g z) ≢ 5 → Repeated 0 (call S 0 flag g x) (onward S b (call S 0 flag g x) y) (call S b flag g z)
  unfolding onward then subdivided last_links last_marks last_points last_flag begin links points turned heavy unwanted overweight
  after-copy b flag g x y z ox oz nx ny nz =
      let m = links_in g in
      let d = marks_in g in
      let ps = points_in g in
      let g' = handed m d ps x in
      let rx = has_room S 0 flag g x ox nx refl in
      let e = ends S sides w 0 flag g x ox refl rx in
      let r = what-fits _ _ _ e.room in
      let l = handed-links m d ps x e.exact r in
      let k = handed-marks m d ps x e.exact r in
      let p = handed-points m d ps x e.exact r in
      let o' : Open S b flag g' y = record {
        few = oz.few;
        sized = rw (l, filled-sizes, filled-points) e.room;
        whole = rw (l, k) oz.whole;
      } in
      let first = call-done S 0 flag g x ox refl rx refl in
      let n' : number (call S b flag g' y) ≢ 5 = rw first at ny in
      rw first
      (compare S sides w 0 (counts_of m) flag (filled (counts_of m) (slices_of m d) ps x) b b flag flag g' g y z o' oz (has_room S b flag g' y o' n') (has_room S b flag g z oz nz)
      (unwanted S b d) (ap (unwanted S b) k) refl
      (λ u. rw l (unmoved _))
      (λ u. rw (l, k, p))
      (λ u. rw l))
    where
      unmoved : (v : Option (ℕ × ℕ)) → v ≡ moved 0 v
      unmoved None = refl
      unmoved (Some p) = let q : 0 + p.0 ≡ p.0 = omega arith in rw q

  -- ---- one pass or more first, from a sound mesh: b more are n + 1 in all
  module _ (a b n : ℕ) (n-is : suc n ≡ suc a + b) (flag : Bool) (m : Links) (h : Good m)
      (inside : Within (tally S (suc a) (S.settle (S.prepare m) flag) (S.ready (tally_of m)))) where
    abbrev f₀ : Bool
    f₀ = S.settle (S.prepare m) flag

    abbrev f : Bool
    f = turned S (suc a) f₀

    abbrev l : Links
    l = links S (suc a) f₀ (S.prepare m)

    at-end : w.At f l
    at-end = (passed S sides w (suc a) flag m h inside).at

    -- the tallies that room is judged by
    tally-on : (c k : ℕ) → k ≡ suc a + c → tally S c f (tally_of l) ≡ tally S k f₀ (S.ready (tally_of m))
    tally-on c k e = rw (tally-passed S sides w (suc a) flag m h inside) (sym (tally-add S (suc a) c k e f₀ (S.ready (tally_of m))))

    final-on : final S b f l ≡ final S (suc n) flag m
    unfolding final
    final-on = rw (resumes S sides w f l at-end b) (unfold begin in ap counted (tally-on b (suc n) n-is))

    work-on : (r : ℕ) → leb (work_needed S (suc n) flag m) r ≡ true → leb (work_needed S b f l) r ≡ true
    work-on r t = go b n-is
      where
        go : (b : ℕ) → suc n ≡ suc a + b → leb (work_needed S b f l) r ≡ true
        go zero e = unfold work_needed in leb-zero r
        go (suc c) e =
            let same = tally-on c n (omega arith) in
            let k : work_needed S (suc c) f l ≡ work_needed S (suc n) flag m = unfold work_needed in (rw (resumes S sides w f l at-end (suc c), same) (unfold begin in refl)) in
            rw k t

    pub enough-on : (s : Sizes) (p r : ℕ) → enough S (suc n) flag m s p r ≡ true → enough S b f l s p r ≡ true
    unfolding enough
    enough-on s p r q =
        let t = both (fits_with (final S (suc n) flag m) s p) (leb (work_needed S (suc n) flag m) r) q in
        and (fits_with (final S b f l) s p) (leb (work_needed S b f l) r) (rw final-on t.0) (work-on r t.1)

    links-on : last_links S b f l ≡ last_links S (suc n) flag m
    unfolding last_links
    links-on = rw (resumes S sides w f l at-end b) (unfold begin in sym (links-add S (suc a) b (suc n) n-is f₀ (S.prepare m)))

    flag-on : last_flag S b f l ≡ last_flag S (suc n) flag m
    unfolding last_flag
    flag-on = rw (resumes S sides w f l at-end b) (unfold begin in sym (turned-add S (suc a) b (suc n) n-is f₀))

    points_on : (ps : List Float) → last_points S b f l (points S (suc a) f₀ (S.prepare m) ps) ≡ last_points S (suc n) flag m ps
    unfolding last_points
    points_on ps = rw (resumes S sides w f l at-end b) (unfold begin in sym (points-add S (suc a) b (suc n) n-is f₀ (S.prepare m) ps))

    marks-on : (d : Marks) → last_marks S b f l (clean l) ≡ last_marks S (suc n) flag m d
    unfolding last_marks
    marks-on d = same b ∙ ap clean links-on
      where
        same : (b : ℕ) → last_marks S b f l (clean l) ≡ clean (last_links S b f l)
        same zero = unfold last_links begin links in refl
        same (suc b) = refl

    heavy-on : overweight S (suc a) flag m ≡ None → overweight S (suc n) flag m ≡ moved (suc a) (overweight S b f l)
    unfolding overweight
    heavy-on q = rw (resumes S sides w f l at-end b) (unfold begin in heavy-late S (suc a) b (suc n) n-is f₀ (S.prepare m) (unfold begin in q))

  no-marks : (b : ℕ) (m : Links) → unwanted S b (clean m) ≡ None
  unfolding unwanted
  no-marks zero m = refl
  no-marks (suc b) m = clean-unmarked m

  after-passes : (a b n : ℕ) → suc n ≡ suc a + b → b ≤ 12 → (flag : Bool) (g : Given) (x y z : Buffers) →
      Open S (suc a) flag g x → Open S (suc n) flag g z → number (call S (suc a) flag g x) ≢ 5 → number (onward S b (call S (suc a) flag g x) y) ≢ 5 →
      number (call S (suc n) flag g z) ≢ 5 → marked (marks_in g) ≡ None → overweight S (suc a) flag (links_in g) ≡ None →
      Repeated (suc a) (call S (suc a) flag g x) (onward S b (call S (suc a) flag g x) y) (call S (suc n) flag g z)
  unfolding onward then subdivided last_marks unwanted
  after-passes a b n e hb flag g x y z ox oz nx ny nz clear light =
      let m = links_in g in
      let rx = has_room S (suc a) flag g x ox nx clear in
      let h = given-good S (suc a) flag g x ox clear in
      let inside = room_within S sides w a flag g x rx in
      let f = turned S (suc a) (S.settle (S.prepare m) flag) in
      let l = links S (suc a) (S.settle (S.prepare m) flag) (S.prepare m) in
      let ps = points S (suc a) (S.settle (S.prepare m) flag) (S.prepare m) (points_in g) in
      let g' = handed l (clean l) ps x in
      let end : Ends S sides w (suc a) flag g x = ends S sides w (suc a) flag g x ox clear rx in
      let room : fits_with (counts_of l) (sizes x.result) (length x.points) ≡ true = unfold last_links begin in end.room in
      let exact : Exact l (clean l) ps = unfold last_links last_marks last_points begin in end.exact in
      let r = what-fits _ _ _ room in
      let el = handed-links l (clean l) ps x exact r in
      let ek = handed-marks l (clean l) ps x exact r in
      let ep = handed-points l (clean l) ps x exact r in
      let o' : Open S b f g' y = record {
        few = few-enough b hb;
        sized = rw (el, filled-sizes, filled-points) room;
        whole = rw (el, ek) (good-faultless l (w.at_good f l (at-end a b n e flag m h inside)));
      } in
      let first : call S (suc a) flag g x ≡ record { answer = Ok (counts_of l, f); left = filled (counts_of l) (slices_of l (clean l)) ps x } =
      unfold subdivided last_links last_flag last_points last_marks begin in (call-done S (suc a) flag g x ox clear rx light) in
      let n' : number (call S b f g' y) ≢ 5 = rw first at ny in
      rw first
      (compare S sides w (suc a) (counts_of l) f (filled (counts_of l) (slices_of l (clean l)) ps x) b (suc n) f flag g' g y z o' oz
      (has_room S b f g' y o' n') (has_room S (suc n) flag g z oz nz) None (ap (unwanted S b) ek ∙ no-marks b l) clear
      (λ u. rw el (heavy-on a b n e flag m h inside light))
      (λ u. rw (el, ek, ep, links-on a b n e flag m h inside, marks-on a b n e flag m h inside (marks_in g), points_on a b n e flag m h inside (points_in g)))
      (λ u. rw el (flag-on a b n e flag m h inside)))

  heavy-both : (a b n : ℕ) → suc n ≡ suc a + b → (flag : Bool) (g : Given) (x y z : Buffers) → Open S (suc a) flag g x → Open S (suc n) flag g z →
      number (call S (suc a) flag g x) ≢ 5 → number (call S (suc n) flag g z) ≢ 5 → marked (marks_in g) ≡ None → (p : ℕ × ℕ) → overweight S (suc a) flag (links_in g) ≡ Some p →
      Repeated (suc a) (call S (suc a) flag g x) (onward S b (call S (suc a) flag g x) y) (call S (suc n) flag g z)
  unfolding onward then unwanted
  heavy-both a b n e flag g x y z ox oz nx nz clear p q =
      let m = links_in g in
      let rx = has_room S (suc a) flag g x ox nx clear in
      let rz = has_room S (suc n) flag g z oz nz clear in
      let early : overweight S (suc n) flag m ≡ Some p =
      unfold overweight begin in (heavy-early S (suc a) b (suc n) e 1 (S.settle (S.prepare m) flag) (S.prepare m) p q) in
      rw (call-heavy S (suc a) flag g x ox clear rx p q, call-heavy S (suc n) flag g z oz clear rz p early) (refused-first (suc a) (NoWeight p.0 p.1) (wiped x) (wiped z))

  deleted-both : (a b n : ℕ) (flag : Bool) (g : Given) (x y z : Buffers) → Open S (suc a) flag g x → Open S (suc n) flag g z → (p : Place) →
      marked (marks_in g) ≡ Some p → Repeated (suc a) (call S (suc a) flag g x) (onward S b (call S (suc a) flag g x) y) (call S (suc n) flag g z)
  unfolding onward then unwanted
  deleted-both a b n flag g x y z ox oz p q =
      rw (call-deleted S (suc a) flag g x ox p q, call-deleted S (suc n) flag g z oz p q) (refused-first (suc a) (MarkedDeleted p) x z)

  -- ---- all cases
  repeats-at : (a b n : ℕ) → n ≡ a + b → n ≤ 12 → (flag : Bool) (g : Given) (x y z : Buffers) → number (call S a flag g x) ≢ 5 →
      number (onward S b (call S a flag g x) y) ≢ 5 → number (call S n flag g z) ≢ 5 → Repeated a (call S a flag g x) (onward S b (call S a flag g x) y) (call S n flag g z)
  repeats-at a b n e hn flag g x y z nx ny nz = go (fits_with (counts_of (links_in g)) (sizes g.slices) (length g.points)) (fault (links_in g) (marks_in g)) refl refl
    where
      opened : (k : ℕ) (b : Buffers) → k ≤ 12 → Fitting g true → fault (links_in g) (marks_in g) ≡ None → Open S k flag g b
      opened k b h s t = record { few = few-enough k h; sized = s; whole = t }

      passes : (a n : ℕ) → n ≡ a + b → n ≤ 12 → Fitting g true → fault (links_in g) (marks_in g) ≡ None → number (call S a flag g x) ≢ 5 →
          number (onward S b (call S a flag g x) y) ≢ 5 → number (call S n flag g z) ≢ 5 → Repeated a (call S a flag g x) (onward S b (call S a flag g x) y) (call S n flag g z)
      passes zero n e h s t nx ny nz =
          let q : n ≡ b = omega arith in
          rw q (after-copy b flag g x y z (opened 0 x (omega arith) s t) (opened b z (omega arith) s t) nx ny (rw q at nz))
      passes (suc a) zero e h s t nx ny nz = absurd (omega arith)
      passes (suc a) (suc n) e h s t nx ny nz = on (marked (marks_in g)) (overweight S (suc a) flag (links_in g)) refl refl
        where
          ox : Open S (suc a) flag g x
          ox = opened (suc a) x (omega arith) s t

          oz : Open S (suc n) flag g z
          oz = opened (suc n) z h s t

          on : (u : Option Place) (v : Option (ℕ × ℕ)) → marked (marks_in g) ≡ u → overweight S (suc a) flag (links_in g) ≡ v →
              Repeated (suc a) (call S (suc a) flag g x) (onward S b (call S (suc a) flag g x) y) (call S (suc n) flag g z)
          on (Some p) v p' q = deleted-both a b n flag g x y z ox oz p p'
          on None (Some p) p' q = heavy-both a b n e flag g x y z ox oz nx nz p' p q
          on None None p' q = after-passes a b n e (omega arith) flag g x y z ox oz nx ny nz p' q

      go : (s : Bool) (t : Option Fault) → Fitting g s → fault (links_in g) (marks_in g) ≡ t →
          Repeated a (call S a flag g x) (onward S b (call S a flag g x) y) (call S n flag g z)
      go false t p q = short-both a b n flag g x y z (omega arith) hn p
      go true (Some f) p q = faulty-both a b n flag g x y z (omega arith) hn p f q
      go true None p q = passes a n e hn p q nx ny nz

  pub repeats : Repeats S
  repeats a b flag g x y z h nx ny nz = repeats-at a b (a + b) refl h flag g x y z nx ny nz
