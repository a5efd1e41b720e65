-- How the call ends, step by step: refused by the first looks, for want of room, or done. Assumes nothing.
use Prim.Native.Nat.{ℕ, zero, suc, ◌*◌, ◌≤◌}
use mathlib.Core.Path.{◌≡◌, refl, sym, ap, ◌∙◌, subst, subst⁻¹}
use mathlib.Core.Logic.{◌≢◌}
use mathlib.Core.Bool.{Bool, true, false, not}
use mathlib.Core.List.{List, [], ◌∷◌}
use Rattle.std.specs.Prelude.{Option, None, Some, Ok, Err}
use native.Mathlib.Omega.{arith}
use borrow.Author.Tests.{leb-true}
use lib.Dec.{ltb}
use lib.ListN.{length, take, replicate, length-replicate}
use lib.Seq.{take_all}
use lib.Ieee.{Float}
use Rattle.scope.specs.declared.answers.Place.{Place}
use Rattle.scope.specs.declared.answers.Fault.{Fault}
use Rattle.scope.specs.declared.answers.Refusal.{Refusal}
use Rattle.scope.specs.declared.answers.Refusal.TheVariants.{ShortSlice, NotConsistent, MarkedDeleted, NoRoom}
use Rattle.scope.specs.Answers.{Checked}
use Rattle.scope.specs.Lists.{lay, ◌or_else◌}
use Rattle.scope.specs.Links.{Links, Marks}
use Rattle.scope.specs.Check.{fault}
use Rattle.scope.specs.Tally.{Tally, tally_of, counts_of, counted}
use Rattle.scope.specs.Slices.{Given, Buffers, sizes, fits_with, used, links_of, points_of, clean, slices_of, filled, wiped}
use Rattle.scope.specs.Call.{Scheme, links, points, tally, turned, heavy, begin, final, work_needed, enough, unwanted, overweight, last_links, last_flag, last_points, last_marks, subdivided, call}
use Rattle.scope.specs.Answers.{refuse_if, refuse}
use Rattle.laws_mesh.specs.Of.{Good}
use Rattle.laws_call.specs.Laws.{Faced, Laws}
use Rattle.laws_call.specs.Demand.{links_in, marks_in, points_in, Room}
use Rattle.laws_call.proofs.Handed.{both, Fits, what-fits, Exact}
use Rattle.laws_call.proofs.Passes.{good-faced}
use Rattle.laws_call.proofs.Ends.{Fitting, Open, call-many, call-short, call-faulty, call-deleted, call-full, call-heavy, call-done, given-good, room_fits, ends}
use Rattle.laws_call.proofs.Made.{copies}
use Rattle.check_mesh.specs.Checked.{answered}
use Rattle.check_mesh.proofs.EntryLaws.{answered-sound, answered-unsound}
use Rattle.call_room.specs.Amounts.{amounts_at, tallied}
use Rattle.call_room.proofs.TallyLaws.{tally-is}
use Rattle.links_edits.specs.Held.{given}
use Rattle.call_steps.specs.Looks.{looked, unwanted_in}
use Rattle.call_steps.specs.Rooms.{readied, needed, enough_from}
use Rattle.call_steps.specs.Lent.{outcome_at}
use Rattle.call.specs.Gone.{laid_in, gone, gone_by, GoReady}
use Rattle.call_steps.proofs.RoomLaws.{enough-is}

unwanted-is : (S : Scheme) (k : ℕ) (d : Marks) → unwanted S k d ≡ unwanted_in k d
unfolding unwanted
unwanted-is S zero d = refl
unwanted-is S (suc k) d = refl

-- ---- the first looks: answers 1 to 4, or none of them
module _ (S : Scheme) (k : ℕ) (flag : Bool) (g : Given) (b : Buffers) where
  -- none of the answers 1 to 4
  pub record Clear : Type 0 where
    pub past : Open S k flag g b
    pub wanted : unwanted S k (marks_in g) ≡ None

  abbrev Sees : Option Refusal → Type 0
  Sees None = Clear
  Sees (Some r) = call S k flag g b ≡ outcome_at (Err r) b

  seen : Sees (looked k g.counts g.slices (length g.points))
  unfolding looked
  seen = at-many (ltb 12 k) refl
    where
      at-deleted : Open S k flag g b → (o : Option Place) → unwanted S k (marks_in g) ≡ o → Sees (refuse o MarkedDeleted)
      at-deleted w None e = record { past = w; wanted = e }
      at-deleted w (Some p) e = call-deleted S k flag g b w p e

      at-fault : ltb 12 k ≡ false → Fitting g true → (o : Option Fault) → fault (links_in g) (marks_in g) ≡ o →
          Sees (refuse o NotConsistent or_else refuse (unwanted_in k (marks_in g)) MarkedDeleted)
      at-fault few fit None e =
          at-deleted (record { few = few; sized = fit; whole = e }) (unwanted_in k (marks_in g)) (unwanted-is S k (marks_in g))
      at-fault few fit (Some x) e = call-faulty S k flag g b few fit x e

      at-short : ltb 12 k ≡ false → (t : Bool) → Fitting g t →
          Sees (refuse_if (not t) ShortSlice or_else refuse (fault (links_in g) (marks_in g)) NotConsistent or_else refuse (unwanted_in k (marks_in g)) MarkedDeleted)
      at-short few true fit = at-fault few fit (fault (links_in g) (marks_in g)) refl
      at-short few false fit = call-short S k flag g b few fit

      at-many : (t : Bool) → ltb 12 k ≡ t → Sees (looked k g.counts g.slices (length g.points))
      at-many true e = rw e (call-many S k flag g b e)
      at-many false e = rw e (at-short e (fits_with g.counts (sizes g.slices) (length g.points)) (unfold counts_of links_of in refl))

  pub seen-refused : {r : Checked} {x : Refusal} → r ≡ answered (looked k g.counts g.slices (length g.points)) → r ≡ Err x →
      outcome_at (Err x) b ≡ call S k flag g b
  seen-refused {r} {x} e d =
      let q = answered-unsound (looked k g.counts g.slices (length g.points)) (sym e ∙ d) in
      sym (subst Sees q seen)

  pub seen-clear : {r : Checked} → r ≡ answered (looked k g.counts g.slices (length g.points)) → r ≡ (Ok tt) → Clear
  seen-clear {r} e d =
      let q = answered-sound (looked k g.counts g.slices (length g.points)) (sym e ∙ d) in
      subst Sees q seen

-- ---- past the first looks
module _ {S : Scheme} {k : ℕ} {flag : Bool} {g : Given} {b : Buffers} (clear : Clear S k flag g b) where
  pub fits-given : Fits g.counts (sizes g.slices) (length g.points)
  fits-given = what-fits g.counts (sizes g.slices) (length g.points) (unfold links_of counts_of in clear.past.sized)

  -- one pass or more: the mesh is good
  pub clear-good : k ≢ 0 → Good (links_in g)
  unfolding unwanted
  clear-good n = go k n clear
    where
      go : (j : ℕ) → j ≢ 0 → Clear S j flag g b → Good (links_in g)
      go zero n c = absurd (n refl)
      go (suc j) n c = given-good S (suc j) flag g b c.past c.wanted

  -- the amounts that are counted up, of the mesh as it is in the slices
  abbrev up : Tally
  up = tallied (amounts_at g.counts (take (8 * g.counts.e) g.slices.edges))

  pub up_is : k ≢ 0 → up ≡ tally_of (links_in g)
  unfolding links_of used counts_of
  up_is n = tally-is (links_in g) (clear-good n)

  pub up-faced : k ≢ 0 → Faced up
  up-faced n = subst⁻¹ Faced (up_is n) (good-faced (links_in g) (clear-good n))

  up-counted : counted up ≡ counted (tally_of (links_in g))
  unfolding counted amounts_at tally_of links_of
  up-counted = refl

  -- the test of room is scope's
  module _ (first : Bool) (settled : first ≡ S.settle (S.prepare (links_in g)) flag) where
    judged : (j : ℕ) → (j ≢ 0 → up ≡ tally_of (links_in g)) →
        enough_from S j first (readied S j up) (sizes b.result) (length b.points) (length b.work)
        ≡ enough S j flag (links_in g) (sizes b.result) (length b.points) (length b.work)
    unfolding begin
    judged zero e = unfold enough_from enough needed work_needed final tally in rw up-counted
    judged (suc j) e = rw (e (λ z. omega arith), settled) (enough-is S (suc j) flag (links_in g) (sizes b.result) (length b.points) (length b.work))

    pub room-judged : {r : Bool} → r ≡ enough_from S k first (readied S k up) (sizes b.result) (length b.points) (length b.work) →
        r ≡ enough S k flag (links_in g) (sizes b.result) (length b.points) (length b.work)
    room-judged e = e ∙ judged k up_is

  -- answer 5
  pub ends-full : {r : Bool} → r ≡ enough S k flag (links_in g) (sizes b.result) (length b.points) (length b.work) → r ≡ false →
      outcome_at (Err NoRoom) (wiped b) ≡ call S k flag g b
  ends-full e d = sym (call-full S k flag g b clear.past clear.wanted (sym e ∙ d))

  module _ (room : Room S k flag g b) where
    -- zero passes
    pub fits-zero : k ≡ 0 → fits_with g.counts (sizes b.result) (length b.points) ≡ true
    unfolding final begin tally counted tally_of links_of
    fits-zero z = let e : Room S 0 flag g b = rw z at room in room_fits S 0 flag g b e

    pub ends-copied : k ≡ 0 → outcome_at (Ok (g.counts, flag)) (filled g.counts g.slices g.points b) ≡ call S k flag g b
    ends-copied z =
        sym (copies S flag g b (unfold links_of counts_of in clear.past.sized) clear.past.whole (fits-zero z))
        ∙ ap (λ (j : ℕ). call S j flag g b) (sym z)

-- ---- zeros laid down are as nothing laid down
lay-zeros : {A : Type 0} (z : A) (n : ℕ) (old : List A) → lay z (replicate n z) old ≡ lay z [] old
unfolding lay
lay-zeros z zero old = refl
lay-zeros z (suc n) [] = refl
lay-zeros {A} z (suc n) (y ∷ old) = ap {B = List A} (λ r. z ∷ r) (lay-zeros z n old)

taken-zeros : {A : Type 0} (z : A) (n : ℕ) (old : List A) → lay z (take n (replicate n z)) old ≡ lay z [] old
taken-zeros z n old =
    let e = length-replicate n z in
    ap (λ l. lay z l old) (take_all n (replicate n z) (omega arith)) ∙ lay-zeros z n old

-- a mesh without marks whose lists are as long as its counts say
done-laid : (l : Links) (ps : List Float) (b : Buffers) → Exact l (clean l) ps → filled (counts_of l) (slices_of l (clean l)) ps b ≡ laid_in l ps b
unfolding filled laid_in used points_of counts_of clean
done-laid l ps b x =
    let o = x.outs_long in
    let e = x.edges_long in
    let f = x.faces_long in
    let p = x.points-long in
    rw (
      take_all l.nv l.outs (omega arith),
      take_all (8 * l.ne) l.edges (omega arith),
      take_all l.nf l.faces (omega arith),
      take_all (3 * l.nv) ps (omega arith),
      taken-zeros 0 l.nv b.result.vmarks,
      taken-zeros 0 l.ne b.result.emarks,
      taken-zeros 0 l.nf b.result.fmarks,
    )

-- ---- one pass or more
module _ (S : Scheme) (sides : ℕ) (w : Laws S sides) (flag : Bool) (g : Given) (b : Buffers) where
  abbrev first : Bool
  first = S.settle (S.prepare (links_in g)) flag

  module _ (j : ℕ) (clear : Clear S (suc j) flag g b) (room : Room S (suc j) flag g b) where
    gone-on : (o : Option (ℕ × ℕ)) → overweight S (suc j) flag (links_in g) ≡ o →
        call S (suc j) flag g b ≡ gone o S (suc j) first (S.prepare (links_in g)) (points_in g) b
    unfolding gone last_links last_flag last_points last_marks subdivided begin
    gone-on None e =
        call-done S (suc j) flag g b clear.past clear.wanted room e
        ∙ ap (outcome_at (Ok (counts_of (links S (suc j) first (S.prepare (links_in g))), turned S (suc j) first)))
        (done-laid (links S (suc j) first (S.prepare (links_in g))) (points S (suc j) first (S.prepare (links_in g)) (points_in g)) b (ends S sides w (suc j) flag g b clear.past clear.wanted room).exact)
    gone-on (Some p) e = call-heavy S (suc j) flag g b clear.past clear.wanted room p e

    gone-call : gone_by S (suc j) first (links_in g) (points_in g) b ≡ call S (suc j) flag g b
    unfolding overweight begin
    gone-call = sym (gone-on (heavy S (suc j) 1 first (S.prepare (links_in g))) refl)

    work-there : needed S (suc j) first (S.ready (tally_of (links_in g))) ≤ length b.work
    unfolding enough needed work_needed begin
    work-there = leb-true (needed S (suc j) first (S.ready (tally_of (links_in g)))) (length b.work) (both (fits_with (final S (suc j) flag (links_in g)) (sizes b.result) (length b.points)) _ room).1

    ready-to-go : GoReady S (suc j) first g.counts g.slices.outs g.slices.edges g.slices.faces g.points b
    unfolding links_of used sizes final begin counted
    ready-to-go =
        let h = fits-given clear in
        let r = what-fits _ _ _ (room_fits S (suc j) flag g b room) in
        record {
          good = clear-good clear (λ z. omega arith);
          asked = flag;
          settled = refl;
          takes = record { few = h.e_in; outs_in = h.outs_in; edges_in = h.edges_in; faces_in = h.faces_in };
          points_in = h.points_in;
          room = record {
            within = record { v_within = r.v_in; e_within = r.e_in; f_within = r.f_in };
            links_room = record { for_v = r.outs_in; for_e = r.edges_in; for_f = r.faces_in };
            points_room = r.points_in;
          };
          work_room = work-there;
        }

  -- as the code has them: k passes, not none
  module _ {k : ℕ} (n : k ≢ 0) (clear : Clear S k flag g b) (room : Room S k flag g b) {f : Bool} (e : f ≡ first) where
    pub ends-ready : GoReady S k f g.counts g.slices.outs g.slices.edges g.slices.faces g.points b
    ends-ready = rw e (go k n clear room)
      where
        go : (j : ℕ) → j ≢ 0 → Clear S j flag g b → Room S j flag g b → GoReady S j first g.counts g.slices.outs g.slices.edges g.slices.faces g.points b
        go zero n c r = absurd (n refl)
        go (suc j) n c r = ready-to-go j c r

    pub ends-gone : gone_by S k f (given g.counts g.slices.outs g.slices.edges g.slices.faces) (take (3 * g.counts.v) g.points) b ≡ call S k flag g b
    unfolding links_of used points_of
    ends-gone = rw e (go k n clear room)
      where
        go : (j : ℕ) → j ≢ 0 → Clear S j flag g b → Room S j flag g b → gone_by S j first (links_in g) (points_in g) b ≡ call S j flag g b
        go zero n c r = absurd (n refl)
        go (suc j) n c r = gone-call j c r
