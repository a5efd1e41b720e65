-- A pass of Catmull-Clark: a good mesh in slices is as its points ask it to be, and points are laid over points. Assumes nothing.
use Prim.Native.Nat.{ℕ, zero, suc, ◌+◌, ◌*◌, ◌≤◌, ◌<◌}
use mathlib.Core.Path.{◌≡◌, refl, sym, ap, ◌∙◌, subst}
use mathlib.Core.Logic.{◌≢◌, ◌⊎◌, inl, inr}
use mathlib.Core.Bool.{Bool, true, false, ◌||◌, true≢false}
use mathlib.Core.List.{List, [], ◌∷◌}
use native.Mathlib.Omega.{arith}
use borrow.Author.Tests.{eqb-true, eqb-false}
use lib.Dec.{eqb}
use lib.ListN.{length, take}
use lib.Seq.{length-take-le}
use lib.Ieee.{Float}
use Rattle.scope.specs.declared.records.Counts.{Counts}
use Rattle.scope.specs.Lists.{lay, over}
use Rattle.scope.specs.Links.{Links, NONE, face, out, tail}
use Rattle.scope.specs.Points.{catmull_points}
use Rattle.scope.specs.Passes.{catmull_pass}
use Rattle.scope.specs.Tally.{Tally, tally_of, counts_of, catmull_tally}
use Rattle.scope.specs.Slices.{float_zero}
use Rattle.scope.specs.Schemes.{catmull}
use Rattle.laws_mesh.specs.Of.{mesh, Good}
use Rattle.laws_mesh.specs.Sides.{Within}
use Rattle.laws_mesh.specs.Mesh.{Core}
use Rattle.laws_mesh.proofs.Facts.{turn_in, turn-tail}
use Rattle.laws_mesh.proofs.Loops.{good-shape}
use Rattle.mesh.specs.Words.{face_at, link_at, turn_at}
use Rattle.mesh.specs.Rounds.{rim_at, rim_vertex_at, after}
use Rattle.points_catmull.specs.Sums.{Halves, Starts, Outs, Inside}
use Rattle.laws_catmull.proofs.Pass.{catmull-tally}
use Rattle.laws_schemes.proofs.Catmull.{points-long}
use Rattle.call_room.specs.declared.kind.Kind.TheVariants.{Catmull}
use Rattle.call_room.proofs.KindLaws.{laws-of}
use Rattle.links_edits.specs.Held.{given}
use Rattle.links_catmull.specs.Pass.{Ready}
use Rattle.call_steps.specs.Passing.{PrepareReady, PassReady, Goes}

neither : (a b : Bool) → (a || b) ≡ false → (a ≡ false) × (b ≡ false)
neither true b e = absurd (true≢false e)
neither false b e = (refl, e)

module _ (m : Links) (g : Good m) where
  core : Core (mesh m)
  core = g.consistent.core

  faced : (h : ℕ) → h < 2 * m.ne → face_at m.edges h ≢ NONE → face_at m.edges h < m.nf
  faced h l n = go (core.face_in h l)
    where
      go : (face m h ≡ NONE) ⊎ (face m h < m.nf) → face_at m.edges h < m.nf
      go (inl e) = absurd (n e)
      go (inr b) = b

  pub halves : Halves (counts_of m) m.edges
  unfolding counts_of
  halves = record {
    few_v = g.sized.few_v;
    few_e = g.sized.few_e;
    few_f = g.sized.few_f;
    there = (let e = g.sized.edges_long in omega arith);
    head_in = core.head_in;
    next_in = core.next_in;
    prev_in = core.prev_in;
    face_in = faced;
  }

  pub starts : Starts (counts_of m) m.faces
  unfolding counts_of
  starts = record { there = (let e = g.sized.faces_long in omega arith); start_in = core.start_in }

  -- around v from h: every halfedge leaves v
  leaves : (i h v : ℕ) → h < 2 * m.ne → tail m h ≡ v → (after (turn_at m.edges) i h < 2 * m.ne) × (tail m (after (turn_at m.edges) i h) ≡ v)
  unfolding after
  leaves zero h v l e = (l, e)
  leaves (suc i) h v l e =
      leaves i (turn_at m.edges h) v (turn_in (good-shape m g) core h l) (turn-tail (good-shape m g) core h l ∙ e)

  named : (v : ℕ) → v < m.nv → link_at m.outs v ≢ NONE → link_at m.outs v < 2 * m.ne
  named v l n = go (core.out_in v l)
    where
      go : (out m v ≡ NONE) ⊎ (out m v < 2 * m.ne) → link_at m.outs v < 2 * m.ne
      go (inl e) = absurd (n e)
      go (inr b) = b

  -- a rim halfedge that leaves v would be the one that v names
  inside : (v : ℕ) → v < m.nv → rim_vertex_at m.outs m.edges v ≡ false → Inside m.edges (link_at m.outs v)
  inside v l r = record { faced = λ i. go i (rim_at m.edges (after (turn_at m.edges) i (link_at m.outs v))) refl }
    where
      go : (i : ℕ) (b : Bool) → rim_at m.edges (after (turn_at m.edges) i (link_at m.outs v)) ≡ b → rim_at m.edges (after (turn_at m.edges) i (link_at m.outs v)) ≡ false
      go i false e = e
      go i true e =
          let n = neither (eqb (link_at m.outs v) NONE) (rim_at m.edges (link_at m.outs v)) r in
          let x = after (turn_at m.edges) i (link_at m.outs v) in
          let there : link_at m.outs v ≢ NONE = eqb-false (link_at m.outs v) NONE n.0 in
          let q = leaves i (link_at m.outs v) v (named v l there) (core.out_leaves v l there) in
          let f : face m x ≡ NONE = eqb-true (face m x) NONE e in
          let o : out m v ≡ x = subst (λ (w : ℕ). out m w ≡ x) q.1 (core.rim_named x q.0 f) in
          ap (rim_at m.edges) (sym o) ∙ n.1

  pub outs_in : Outs (counts_of m) m.outs m.edges
  unfolding counts_of
  outs_in = record { there = (let e = g.sized.outs_long in omega arith); out_in = named; inner = inside }

-- ---- a pass
pub tally-v : (m : Links) → m.nv ≡ (tally_of m).v
unfolding tally_of
tally-v m = refl

tally-sum : (m : Links) → (catmull_tally (tally_of m)).v ≡ m.nv + m.ne + m.nf
unfolding catmull_tally tally_of
tally-sum m = refl

grown-v : (m : Links) → Good m → Within (catmull_tally (tally_of m)) → (catmull_pass m).nv ≡ (catmull_tally (tally_of m)).v
grown-v m g w = tally-v (catmull_pass m) ∙ ap (λ (t : Tally). t.v) (catmull-tally m g w)

-- ---- points over points
take-over : {A : Type 0} (l old : List A) (n : ℕ) → length l ≡ n → n ≤ length old → take n (over l old) ≡ l
unfolding over
take-over [] old zero e b = refl
take-over [] old (suc n) e b = absurd (omega arith)
take-over (x ∷ l) old zero e b = absurd (omega arith)
take-over (x ∷ l) [] (suc n) e b = absurd (omega arith)
take-over {A} (x ∷ l) (y ∷ old) (suc n) e b = ap {B = List A} (λ r. x ∷ r) (take-over l old n (omega arith) (omega arith))

over-lay : {A : Type 0} (z : A) (l k old : List A) → length k ≤ length l → over l (lay z k old) ≡ lay z l old
unfolding over lay
over-lay z [] [] old b = refl
over-lay z [] (y ∷ k) old b = absurd (omega arith)
over-lay z (x ∷ l) [] [] b = refl
over-lay z (x ∷ l) (w ∷ k) [] b = refl
over-lay {A} z (x ∷ l) [] (y ∷ old) b = ap {B = List A} (λ r. x ∷ r) (over-lay z l [] old (omega arith))
over-lay {A} z (x ∷ l) (w ∷ k) (y ∷ old) b = ap {B = List A} (λ r. x ∷ r) (over-lay z l k old (omega arith))

-- what the work slice holds, copied over the points
points-over : {A : Type 0} (z : A) (new ps work points : List A) (n : ℕ) → length new ≡ n → n ≤ length work → length ps ≤ n → points ≡ lay z ps points →
    over (take n (over new work)) points ≡ lay z new points
points-over z new ps work points n e b l h =
    ap (λ k. over k points) (take-over new work n e b) ∙ ap (over new) h ∙ over-lay z new ps points (omega arith)

-- ---- before the first pass: Catmull-Clark prepares nothing
pub prepares : {c : Counts} {outs edges faces : List ℕ} → PrepareReady Catmull c outs edges faces →
    (outs ≡ lay 0 (catmull.prepare (given c outs edges faces)).outs outs)
    × ((edges ≡ lay 0 (catmull.prepare (given c outs edges faces)).edges edges)
    × ((faces ≡ lay 0 (catmull.prepare (given c outs edges faces)).faces faces)
    × (c ≡ counts_of (catmull.prepare (given c outs edges faces)))))
unfolding catmull counts_of
prepares r = (r.outs_hold, (r.edges_hold, (r.faces_hold, refl)))

-- ---- what a pass of these slices has to do with
module _ {update : Bool} {c : Counts} {outs edges faces : List ℕ} {points work : List Float} (r : PassReady Catmull update c outs edges faces points work) where
  pub good : Good (given c outs edges faces)
  good = (laws-of Catmull).at_good update (given c outs edges faces) r.at

  within : Within (catmull_tally (tally_of (given c outs edges faces)))
  unfolding catmull
  within = r.room.within

  pub links-ready : Ready c outs edges faces
  unfolding catmull
  links-ready = record {
    good = good;
    within = within;
    room = r.room.links_room;
    outs_hold = r.held.outs_hold;
    edges_hold = r.held.edges_hold;
    faces_hold = r.held.faces_hold;
  }

  -- the counts d after it
  module _ {d : Counts} (e : d ≡ counts_of (catmull_pass (given c outs edges faces))) where
    after-v : d.v ≡ c.v + c.e + c.f
    unfolding counts_of
    after-v =
        let m = given c outs edges faces in
        ap (λ (x : Counts). x.v) e ∙ grown-v m good within ∙ tally-sum m

    pub after-few : d.v ≤ 1048576
    after-few =
        let a = after-v in
        let b = tally-sum (given c outs edges faces) in
        let w = within.v_within in
        omega arith

    pub after-work : 3 * d.v ≤ length work
    after-work = let a = after-v in let b = r.work_room in omega arith

    pub after-points : 3 * d.v ≤ length points
    unfolding catmull
    after-points =
        let a = after-v in
        let b = tally-sum (given c outs edges faces) in
        let p : 3 * (catmull_tally (tally_of (given c outs edges faces))).v ≤ length points = r.room.points_room in
        omega arith

    points-moved : over (take (3 * d.v) (over (catmull_points update (given c outs edges faces) (take (3 * c.v) points)) work)) points
        ≡ lay float_zero (catmull_points update (given c outs edges faces) (take (3 * c.v) points)) points
    points-moved =
        let m = given c outs edges faces in
        let ps = take (3 * c.v) points in
        let a = after-v in
        let b = tally-sum m in
        let l = points-long update m ps in
        let k = length-take-le (3 * c.v) points r.points_in in
        points-over float_zero (catmull_points update m ps) ps work points (3 * d.v) (omega arith) after-work (omega arith) r.held.points_hold

    -- the new points from the work slice, once the links are there
    pub goes : {outs' edges' faces' : List ℕ} {points' work' : List Float} →
        outs' ≡ lay 0 (catmull_pass (given c outs edges faces)).outs outs →
        edges' ≡ lay 0 (catmull_pass (given c outs edges faces)).edges edges →
        faces' ≡ lay 0 (catmull_pass (given c outs edges faces)).faces faces →
        work' ≡ over (catmull_points update (given c outs edges faces) (take (3 * c.v) points)) work →
        points' ≡ over (take (3 * d.v) work') points →
        Goes catmull update (given c outs edges faces) (take (3 * c.v) points) d outs edges faces points outs' edges' faces' points'
    unfolding catmull
    goes os es fs w ps = record {
      lies = record { outs_are = os; edges_are = es; faces_are = fs; points_are = ps ∙ ap (λ (l : List Float). over (take (3 * d.v) l) points) w ∙ points-moved };
      counts_are = e;
      weights_there = refl;
    }
