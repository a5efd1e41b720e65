-- The state of the slices between two passes, over any scheme that is code. Assumes nothing.
use Prim.Native.Nat.{ℕ, zero, suc, ◌+◌, ◌-◌, ◌*◌, ◌≤◌, ◌<◌}
use mathlib.Core.Path.{◌≡◌, refl, sym, ap, ◌∙◌, subst, subst⁻¹}
use mathlib.Core.Bool.{Bool}
use mathlib.Core.List.{List}
use Rattle.std.specs.Prelude.{None, Some, Result, Ok, Err}
use Rattle.std.specs.Result.{MatchResult, IsErrAnd}
use native.Mathlib.Omega.{arith}
use lib.ListN.{length, take}
use lib.Seq.{length-take-le}
use lib.Ieee.{Float}
use Rattle.scope.specs.declared.records.Counts.{Counts}
use Rattle.scope.specs.Lists.{lay}
use Rattle.scope.specs.Links.{Links}
use Rattle.scope.specs.Tally.{Tally, tally_of, counts_of}
use Rattle.scope.specs.Slices.{Buffers, float_zero}
use Rattle.scope.specs.Call.{Scheme, links, points, tally, turned, heavy}
use Rattle.mesh.proofs.SliceLaws.{length-lay}
use Rattle.laws_call.specs.Laws.{Faced, Step, Laws}
use Rattle.laws_call.proofs.Passes.{within_step, tally-step, good-faced}
use Rattle.call_room.specs.declared.kind.Kind.{Kind}
use Rattle.call_room.specs.Kinds.{scheme_of, sides_of}
use Rattle.call_room.proofs.KindLaws.{laws-of}
use Rattle.links_edits.specs.Held.{given}
use Rattle.links_edits.proofs.HeldLaws.{take-lay, lay-lay, held-lay, given-laid}
use Rattle.call_steps.specs.Rooms.{needed}
use Rattle.call_steps.specs.Passing.{Held, Roomy, Lies, PassReady, Goes, RunReady, Comes, Stays}
use Rattle.call_steps.proofs.PassLaws.{tally-v}

-- ---- a result whose error was turned into another
pub mapped-ok : {A E D : Type 0} (P : E → D → Type 0) (r : Result A E) (s : Result A D) {x : A} → MatchResult r (λ y. s ≡ Ok y) (λ e. IsErrAnd s (P e)) → s ≡ Ok x → r ≡ Ok x
mapped-ok P (Ok y) s m e = cc
mapped-ok P (Err f) (Ok y) m e = absurd m
mapped-ok P (Err f) (Err d) m e = cc

pub mapped-err : {A E D : Type 0} (P : E → D → Type 0) (r : Result A E) (s : Result A D) {d : D} → MatchResult r (λ y. s ≡ Ok y) (λ e. IsErrAnd s (P e)) → s ≡ Err d → (f : E) × (r ≡ Err f) × P f d
mapped-err P (Ok y) s m e = cc
mapped-err P (Err f) (Ok y) m e = absurd m
mapped-err P (Err f) (Err d') {d} m e = let q : d' ≡ d = cc in (f, refl, subst (P f) q m)

-- ---- what stays in a pass, and in the next
pub stays-on : {x y z : Buffers} → Stays x y → Stays y z → Stays x z
stays-on a b = record {
  vmarks_stay = b.vmarks_stay ∙ a.vmarks_stay;
  emarks_stay = b.emarks_stay ∙ a.emarks_stay;
  fmarks_stay = b.fmarks_stay ∙ a.fmarks_stay;
  outs_long = b.outs_long ∙ a.outs_long;
  edges_long = b.edges_long ∙ a.edges_long;
  faces_long = b.faces_long ∙ a.faces_long;
  points_long = b.points_long ∙ a.points_long;
  work_long = b.work_long ∙ a.work_long;
}

-- ---- room for what comes later is room for what comes before
roomy-less : {s t : Tally} {outs edges faces : List ℕ} {ps : List Float} → Step s t → Roomy t outs edges faces ps → Roomy s outs edges faces ps
roomy-less {s} {t} st r =
    let a = st.v_grows in
    let b = st.e_grows in
    let c = st.f_grows in
    let v = r.links_room.for_v in
    let e = r.links_room.for_e in
    let f = r.links_room.for_f in
    let p = r.points_room in
    record {
      within = within_step s t st r.within;
      links_room = record { for_v = omega arith; for_e = omega arith; for_f = omega arith };
      points_room = omega arith;
    }

-- a pass needs no more than it and those after it
needed-first : (S : Scheme) (sides : ℕ) → Laws S sides → (n : ℕ) (next : Bool) (t : Tally) → Faced t → 6 * (t.v + t.e + t.f) ≤ needed S (suc n) next t
unfolding needed
needed-first S sides w n next t f =
    let s = tally-step S sides w n next t f in
    let a = s.v_grows in
    let b = s.e_grows in
    let c = s.f_grows in
    omega arith

needed-after : (S : Scheme) (n : ℕ) (next : Bool) (t : Tally) → needed S n (S.turn next) (S.grow next t) ≤ needed S (suc n) next t
unfolding needed tally
needed-after S zero next t = omega arith
needed-after S (suc n) next t = omega arith

-- ---- what is left: the next passes of x with the points qs, after those that are done, come to k passes of m with the points ps
pub record Remain (S : Scheme) (k : ℕ) (flag : Bool) (m : Links) (ps : List Float) (outs₀ edges₀ faces₀ : List ℕ) (points₀ work₀ : List Float)
    (left done : ℕ) (next : Bool) (x : Links) (qs : List Float) : Type 0 where
  pub links_left : links S left next x ≡ links S k flag m
  pub points-left : points S left next x qs ≡ points S k flag m ps
  pub flag-left : turned S left next ≡ turned S k flag
  pub heavy-left : heavy S left (suc done) next x ≡ heavy S k 1 flag m
  pub room : Roomy (tally S left next (tally_of x)) outs₀ edges₀ faces₀ points₀
  pub work_room : needed S left next (tally_of x) ≤ length work₀

module _ {S : Scheme} {k : ℕ} {flag : Bool} {m : Links} {ps : List Float} {outs₀ edges₀ faces₀ : List ℕ} {points₀ work₀ : List Float}
    {n done : ℕ} {next : Bool} {x : Links} {qs : List Float} (r : Remain S k flag m ps outs₀ edges₀ faces₀ points₀ work₀ (suc n) done next x qs) where
  one-done : S.weightless next x ≡ None → tally_of (S.pass next x) ≡ S.grow next (tally_of x) →
      Remain S k flag m ps outs₀ edges₀ faces₀ points₀ work₀ n (suc done) (S.turn next) (S.pass next x) (S.smooth next x qs)
  unfolding links points turned heavy tally
  one-done e t = record {
    links_left = r.links_left;
    points-left = r.points-left;
    flag-left = r.flag-left;
    heavy-left = rw e at r.heavy-left;
    room = rw t r.room;
    work_room = rw t (let a = needed-after S n next (tally_of x) in let b = r.work_room in omega arith);
  }

  stops : {v : ℕ} → S.weightless next x ≡ Some v → heavy S k 1 flag m ≡ Some (suc done, v)
  unfolding heavy
  stops e = sym (rw e at r.heavy-left)

-- ---- the mesh x with the points qs is in the slices, with these counts
pub record Running (kind : Kind) (k : ℕ) (flag : Bool) (m : Links) (ps : List Float) (outs₀ edges₀ faces₀ : List ℕ) (points₀ work₀ : List Float)
    (done : ℕ) (next : Bool) (d : Counts) (outs edges faces : List ℕ) (ps₁ work : List Float) : Type 0 where
  pub left : ℕ
  pub x : Links
  pub qs : List Float
  pub left-are : left + done ≡ k
  pub remain : Remain (scheme_of kind) k flag m ps outs₀ edges₀ faces₀ points₀ work₀ left done next x qs
  pub at : (laws-of kind).At next x
  pub counts_are : d ≡ counts_of x
  pub lies : Lies x qs outs₀ edges₀ faces₀ points₀ outs edges faces ps₁
  pub points-long : length qs ≡ 3 * x.nv
  pub work-long : length work ≡ length work₀

-- room for the mesh that passes start from
first-room : (kind : Kind) (k : ℕ) (flag : Bool) (m : Links) {outs edges faces : List ℕ} {ps : List Float} → (laws-of kind).At flag m →
    Roomy (tally (scheme_of kind) k flag (tally_of m)) outs edges faces ps → Roomy (tally_of m) outs edges faces ps
first-room kind k flag m a r = roomy-less (tally-step (scheme_of kind) (sides_of kind) (laws-of kind) k flag (tally_of m) (good-faced m ((laws-of kind).at_good flag m a))) r

tally-all : (m : Links) → (tally_of m).v + (tally_of m).e + (tally_of m).f ≡ m.nv + m.ne + m.nf
unfolding tally_of
tally-all m = refl

pub run-start : {kind : Kind} {k : ℕ} {flag : Bool} {c : Counts} {outs edges faces : List ℕ} {ps work : List Float} → RunReady kind k flag c outs edges faces ps work →
    Running kind k flag (given c outs edges faces) (take (3 * c.v) ps) outs edges faces ps work 0 flag c outs edges faces ps work
unfolding counts_of
run-start {kind} {k} {flag} {c} {outs} {edges} {faces} {ps} {work} r =
    let m = given c outs edges faces in
    let p = (first-room kind k flag m r.at r.room).points_room in
    let v = tally-v m in
    record {
      left = k;
      x = m;
      qs = take (3 * c.v) ps;
      left-are = omega arith;
      remain = record { links_left = refl; points-left = refl; flag-left = refl; heavy-left = refl; room = r.room; work_room = r.work_room };
      at = r.at;
      counts_are = refl;
      lies = record { outs_are = r.held.outs_hold; edges_are = r.held.edges_hold; faces_are = r.held.faces_hold; points_are = r.held.points_hold };
      points-long = length-take-le (3 * c.v) ps (omega arith);
      work-long = refl;
    }

-- ---- slices that something was laid into
laid-length : {A : Type 0} (z : A) (l old : List A) {s : List A} → s ≡ lay z l old → length s ≡ length old
laid-length z l old e = ap length e ∙ length-lay z l old

laid_on : {A : Type 0} (z : A) (new was old : List A) {s t : List A} → s ≡ lay z was old → t ≡ lay z new s → t ≡ lay z new old
laid_on z new was old a b = b ∙ ap (lay z new) a ∙ lay-lay z new was old

lies-on : {x y : Links} {ps qs : List Float} {outs₀ edges₀ faces₀ outs edges faces outs' edges' faces' : List ℕ} {points₀ points points' : List Float} →
    Lies x ps outs₀ edges₀ faces₀ points₀ outs edges faces points → Lies y qs outs edges faces points outs' edges' faces' points' →
    Lies y qs outs₀ edges₀ faces₀ points₀ outs' edges' faces' points'
lies-on {x} {y} {ps} {qs} {outs₀} {edges₀} {faces₀} {points₀ = points₀} a b = record {
  outs_are = laid_on 0 y.outs x.outs outs₀ a.outs_are b.outs_are;
  edges_are = laid_on 0 y.edges x.edges edges₀ a.edges_are b.edges_are;
  faces_are = laid_on 0 y.faces x.faces faces₀ a.faces_are b.faces_are;
  points_are = laid_on float_zero qs ps points₀ a.points_are b.points_are;
}

-- room goes by lengths
roomy-in : {t : Tally} {outs₀ edges₀ faces₀ outs edges faces : List ℕ} {points₀ points : List Float} →
    (length outs ≡ length outs₀) × (length edges ≡ length edges₀) × (length faces ≡ length faces₀) × (length points ≡ length points₀) →
    Roomy t outs₀ edges₀ faces₀ points₀ → Roomy t outs edges faces points
roomy-in e r =
    let a = e.0 in
    let b = e.1 in
    let c = e.2 in
    let d = e.3 in
    let v = r.links_room.for_v in
    let h = r.links_room.for_e in
    let f = r.links_room.for_f in
    let p = r.points_room in
    record {
      within = r.within;
      links_room = record { for_v = omega arith; for_e = omega arith; for_f = omega arith };
      points_room = omega arith;
    }

module _ {kind : Kind} {k : ℕ} {flag : Bool} {m : Links} {ps : List Float} {outs₀ edges₀ faces₀ : List ℕ} {points₀ work₀ : List Float}
    {done : ℕ} {next : Bool} {d : Counts} {outs edges faces : List ℕ} {ps₁ work : List Float}
    (i : Running kind k flag m ps outs₀ edges₀ faces₀ points₀ work₀ done next d outs edges faces ps₁ work) where
  -- ---- what the slices hold
  here : Roomy (tally_of i.x) outs₀ edges₀ faces₀ points₀
  here = first-room kind i.left next i.x i.at i.remain.room

  mesh-there : given d outs edges faces ≡ i.x
  mesh-there =
      rw (i.counts_are, i.lies.outs_are, i.lies.edges_are, i.lies.faces_are)
      (given-laid i.x ((laws-of kind).at_good next i.x i.at).sized outs₀ edges₀ faces₀ here.links_room)

  d-v : d.v ≡ i.x.nv
  d-v = ap (λ (y : Links). y.nv) mesh-there

  points-fit : 3 * d.v ≤ length points₀
  points-fit = let a = here.points_room in let b = tally-v i.x in let c = d-v in omega arith

  points-count : length i.qs ≡ 3 * d.v
  points-count = let a = i.points-long in let c = d-v in omega arith

  points-there : take (3 * d.v) ps₁ ≡ i.qs
  points-there = rw i.lies.points_are (take-lay float_zero i.qs points₀ (3 * d.v) points-count points-fit)

  pub lengths : (length outs ≡ length outs₀) × (length edges ≡ length edges₀) × (length faces ≡ length faces₀) × (length ps₁ ≡ length points₀)
  lengths = (
    laid-length 0 i.x.outs outs₀ i.lies.outs_are,
    laid-length 0 i.x.edges edges₀ i.lies.edges_are,
    laid-length 0 i.x.faces faces₀ i.lies.faces_are,
    laid-length float_zero i.qs points₀ i.lies.points_are,
  )

  held : Held d outs edges faces ps₁
  unfolding tally_of
  held =
      let z = ((laws-of kind).at_good next i.x i.at).sized in
      let v = d-v in
      let e : d.e ≡ i.x.ne = ap (λ (y : Links). y.ne) mesh-there in
      let f : d.f ≡ i.x.nf = ap (λ (y : Links). y.nf) mesh-there in
      let a = z.outs_long in
      let b = z.edges_long in
      let c = z.faces_long in
      let o = here.links_room.for_v in
      let h = here.links_room.for_e in
      let g = here.links_room.for_f in
      record {
        outs_hold = held-lay 0 i.x.outs outs₀ d.v i.lies.outs_are (omega arith) (omega arith);
        edges_hold = held-lay 0 i.x.edges edges₀ (8 * d.e) i.lies.edges_are (omega arith) (omega arith);
        faces_hold = held-lay 0 i.x.faces faces₀ d.f i.lies.faces_are (omega arith) (omega arith);
        points_hold = held-lay float_zero i.qs points₀ (3 * d.v) i.lies.points_are points-count points-fit;
      }

  -- ---- one pass more
  module _ (l : done < k) where
    remain : Remain (scheme_of kind) k flag m ps outs₀ edges₀ faces₀ points₀ work₀ (suc (i.left - 1)) done next i.x i.qs
    remain =
        let b = i.left-are in
        let e : i.left ≡ suc (i.left - 1) = omega arith in
        rw e at i.remain

    grown : Roomy ((scheme_of kind).grow next (tally_of i.x)) outs₀ edges₀ faces₀ points₀
    unfolding tally
    grown =
        let t = tally_of i.x in
        let f = good-faced i.x ((laws-of kind).at_good next i.x i.at) in
        roomy-less (tally-step (scheme_of kind) (sides_of kind) (laws-of kind) (i.left - 1) ((scheme_of kind).turn next) ((scheme_of kind).grow next t) ((laws-of kind).grow_step next t f).faced) remain.room

    pub run-ready : PassReady kind next d outs edges faces ps₁ work
    run-ready =
        let w = needed-first (scheme_of kind) (sides_of kind) (laws-of kind) (i.left - 1) next (tally_of i.x) (good-faced i.x ((laws-of kind).at_good next i.x i.at)) in
        let a = tally-all i.x in
        let n = remain.work_room in
        let wl = i.work-long in
        let q = lengths.3 in
        let p = points-fit in
        record {
          at = subst⁻¹ ((laws-of kind).At next) mesh-there i.at;
          held = held;
          points_in = omega arith;
          room = subst⁻¹ (λ (y : Links). Roomy ((scheme_of kind).grow next (tally_of y)) outs edges faces ps₁) mesh-there (roomy-in lengths grown);
          work_room = (let s : d.v + d.e + d.f ≡ i.x.nv + i.x.ne + i.x.nf = ap (λ (y : Links). y.nv + y.ne + y.nf) mesh-there in omega arith);
        }

    pub run-next : {d' : Counts} {next' : Bool} {outs' edges' faces' : List ℕ} {ps' work' : List Float} →
        Goes (scheme_of kind) next (given d outs edges faces) (take (3 * d.v) ps₁) d' outs edges faces ps₁ outs' edges' faces' ps' →
        next' ≡ (scheme_of kind).turn next → length work' ≡ length work →
        Running kind k flag m ps outs₀ edges₀ faces₀ points₀ work₀ (done + 1) next' d' outs' edges' faces' ps' work'
    run-next {d'} {next'} {outs'} {edges'} {faces'} {ps'} {work'} goes t wl =
        let S = scheme_of kind in
        let g : Goes S next i.x i.qs d' outs edges faces ps₁ outs' edges' faces' ps' =
        subst (λ (qs : List Float). Goes S next i.x qs d' outs edges faces ps₁ outs' edges' faces' ps') points-there
        (subst (λ (y : Links). Goes S next y (take (3 * d.v) ps₁) d' outs edges faces ps₁ outs' edges' faces' ps') mesh-there goes) in
        let e : done + 1 ≡ suc done = omega arith in
        let b = i.left-are in
        record {
          left = i.left - 1;
          x = S.pass next i.x;
          qs = S.smooth next i.x i.qs;
          left-are = omega arith;
          remain = rw (e, t) (one-done remain g.weights_there ((laws-of kind).pass_tally next i.x i.at grown.within));
          at = rw t ((laws-of kind).goes_on next i.x i.at grown.within);
          counts_are = g.counts_are;
          lies = lies-on i.lies g.lies;
          points-long = (laws-of kind).smooth_long next i.x i.qs i.at grown.within i.points-long;
          work-long = wl ∙ i.work-long;
        }

    pub run-stops : {v : ℕ} → (scheme_of kind).weightless next (given d outs edges faces) ≡ Some v → heavy (scheme_of kind) k 1 flag m ≡ Some (done + 1, v)
    run-stops {v} e =
        let a : done + 1 ≡ suc done = omega arith in
        rw a (stops remain (ap ((scheme_of kind).weightless next) (sym mesh-there) ∙ e))

  -- ---- the last pass is done
  pub run-done : k ≤ done → Comes (scheme_of kind) k flag m ps d next outs₀ edges₀ faces₀ points₀ outs edges faces ps₁
  unfolding links points turned heavy
  run-done l =
      let b = i.left-are in
      let z : i.left ≡ 0 = omega arith in
      let r : Remain (scheme_of kind) k flag m ps outs₀ edges₀ faces₀ points₀ work₀ 0 done next i.x i.qs = rw z at i.remain in
      record {
        lies = rw (← r.links_left, ← r.points-left) i.lies;
        counts_are = i.counts_are ∙ ap counts_of r.links_left;
        flag_is = r.flag-left;
        weights_there = sym r.heavy-left;
      }
