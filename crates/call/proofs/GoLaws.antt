-- One pass or more for which there is room: from the mesh as given to what is left in the lent slices. Assumes nothing.
use Prim.Native.Nat.{ℕ, ◌*◌, ◌≤◌}
use mathlib.Core.Path.{◌≡◌, refl, sym, ap, ◌∙◌, subst⁻¹}
use mathlib.Core.Bool.{Bool}
use mathlib.Core.List.{List, []}
use Rattle.std.specs.Prelude.{Some, Ok, Err}
use native.Mathlib.Omega.{arith}
use lib.ListN.{length, take}
use lib.Seq.{length-take-le}
use lib.Ieee.{Float}
use Rattle.scope.specs.declared.records.Counts.{Counts}
use Rattle.scope.specs.declared.answers.Refusal.{Refusal}
use Rattle.scope.specs.declared.answers.Refusal.TheVariants.{NoWeight}
use Rattle.scope.specs.Answers.{Subdivided}
use Rattle.scope.specs.Lists.{lay}
use Rattle.scope.specs.Links.{Links}
use Rattle.scope.specs.Tally.{Tally, tally_of, counts_of}
use Rattle.scope.specs.Slices.{Buffers, float_zero, filled, wiped, used, points_of}
use Rattle.scope.specs.Call.{Scheme, links, points, tally, heavy}
use Rattle.laws_mesh.specs.Of.{Good}
use Rattle.laws_mesh.specs.Sides.{Within}
use Rattle.laws_call.specs.Laws.{Step, Laws}
use Rattle.laws_call.proofs.Lists.{length-lay, lay-same}
use Rattle.laws_call.proofs.Passes.{within_step, good-faced, tally-step}
use Rattle.check_mesh.specs.Checked.{slices_at}
use Rattle.call_room.specs.declared.kind.Kind.{Kind}
use Rattle.call_room.specs.Kinds.{scheme_of, sides_of}
use Rattle.call_room.proofs.KindLaws.{laws-of}
use Rattle.links_edits.proofs.StoreLaws.{held-is}
use Rattle.links_edits.specs.Held.{given, Room}
use Rattle.links_edits.proofs.HeldLaws.{take-lay, lay-lay, held-lay, given-laid}
use Rattle.call_steps.specs.Rooms.{needed}
use Rattle.call_steps.specs.Stores.{Takes}
use Rattle.call_steps.specs.Passing.{Roomy, PrepareReady, RunReady, Comes, WentOn, Stays}
use Rattle.call_steps.specs.Lent.{buffers_at, outcome_at}
use Rattle.call.specs.Gone.{laid_in, gone, gone_by, GoReady}

laid-long : {A : Type 0} (z : A) (l old s : List A) → s ≡ lay z l old → length s ≡ length old
laid-long z l old s e = ap length e ∙ length-lay z l old

module _ (kind : Kind) {k : ℕ} {flag : Bool} {c : Counts} {outs edges faces : List ℕ} {ps : List Float} {b : Buffers}
    (r : GoReady (scheme_of kind) k flag c outs edges faces ps b) where
  abbrev S : Scheme
  S = scheme_of kind

  abbrev w : Laws S (sides_of kind)
  w = laws-of kind

  abbrev m : Links
  m = given c outs edges faces

  abbrev x : Links
  x = S.prepare m

  -- nothing shrinks on the way
  begun : Step (tally_of m) (S.ready (tally_of m))
  begun = w.ready_step (tally_of m) (good-faced m r.good)

  onward : Step (S.ready (tally_of m)) (tally S k flag (S.ready (tally_of m)))
  onward = tally-step S (sides_of kind) w k flag (S.ready (tally_of m)) begun.faced

  ready-within : Within (S.ready (tally_of m))
  ready-within = within_step _ _ onward r.room.within

  x-at : w.At flag x
  x-at = subst⁻¹ (λ (u : Bool). w.At u x) r.settled (w.begins r.asked m r.good ready-within)

  x-good : Good x
  x-good = w.at_good flag x x-at

  x-tally : tally_of x ≡ S.ready (tally_of m)
  x-tally = w.prepare_tally m r.good ready-within

  x-v : x.nv ≡ (S.ready (tally_of m)).v
  unfolding tally_of
  x-v = ap (λ (t : Tally). t.v) x-tally

  x-e : x.ne ≡ (S.ready (tally_of m)).e
  unfolding tally_of
  x-e = ap (λ (t : Tally). t.e) x-tally

  x-f : x.nf ≡ (S.ready (tally_of m)).f
  unfolding tally_of
  x-f = ap (λ (t : Tally). t.f) x-tally

  m-v : c.v ≡ (tally_of m).v
  unfolding tally_of
  m-v = refl

  m-e : c.e ≡ (tally_of m).e
  unfolding tally_of
  m-e = refl

  m-f : c.f ≡ (tally_of m).f
  unfolding tally_of
  m-f = refl

  same-v : x.nv ≡ c.v
  same-v = x-v ∙ w.ready_vertices (tally_of m) ∙ sym m-v

  pub takes-new : Takes c (length b.result.outs) (length b.result.edges) (length b.result.faces)
  takes-new =
      let p = begun in
      let q = onward in
      let l = r.room.links_room in
      let u = m-v in
      let v = m-e in
      let z = m-f in
      record { few = r.takes.few; outs_in = omega (arith, p, q, l); edges_in = omega (arith, p, q, l); faces_in = omega (arith, p, q, l) }

  pub points-new : 3 * c.v ≤ length b.points
  points-new =
      let p = begun in
      let q = onward in
      let l = r.room.points_room in
      let u = m-v in
      omega (arith, p, q)

  -- ---- after the copy
  module _ {o₁ e₁ f₁ : List ℕ} (oe : o₁ ≡ lay 0 (take c.v outs) b.result.outs) (ee : e₁ ≡ lay 0 (take (8 * c.e) edges) b.result.edges)
      (fe : f₁ ≡ lay 0 (take c.f faces) b.result.faces) where
    o-long : length (take c.v outs) ≡ c.v
    o-long = length-take-le c.v outs r.takes.outs_in

    e-long : length (take (8 * c.e) edges) ≡ 8 * c.e
    e-long = length-take-le (8 * c.e) edges r.takes.edges_in

    f-long : length (take c.f faces) ≡ c.f
    f-long = length-take-le c.f faces r.takes.faces_in

    copied : given c o₁ e₁ f₁ ≡ m
    copied =
        let t = takes-new in
        rw (oe, ee, fe)
        (held-is (take-lay 0 (take c.v outs) b.result.outs c.v o-long t.outs_in) (take-lay 0 (take (8 * c.e) edges) b.result.edges (8 * c.e) e-long t.edges_in) (take-lay 0 (take c.f faces) b.result.faces c.f f-long t.faces_in))

    o₁-long : length o₁ ≡ length b.result.outs
    o₁-long = laid-long 0 (take c.v outs) b.result.outs o₁ oe

    e₁-long : length e₁ ≡ length b.result.edges
    e₁-long = laid-long 0 (take (8 * c.e) edges) b.result.edges e₁ ee

    f₁-long : length f₁ ≡ length b.result.faces
    f₁-long = laid-long 0 (take c.f faces) b.result.faces f₁ fe

    pub prepare-ready : PrepareReady kind c o₁ e₁ f₁
    prepare-ready =
        let t = takes-new in
        let q = onward in
        let l = r.room.links_room in
        let u = o₁-long in
        let v = e₁-long in
        let z = f₁-long in
        record {
          good = subst⁻¹ Good copied r.good;
          within = subst⁻¹ (λ (y : Links). Within (S.ready (tally_of y))) copied ready-within;
          room = subst⁻¹ (λ (y : Links). Room (S.ready (tally_of y)) o₁ e₁ f₁) copied
              (record { for_v = omega (arith, q, l); for_e = omega (arith, q, l); for_f = omega (arith, q, l) });
          outs_hold = held-lay 0 (take c.v outs) b.result.outs c.v oe o-long t.outs_in;
          edges_hold = held-lay 0 (take (8 * c.e) edges) b.result.edges (8 * c.e) ee e-long t.edges_in;
          faces_hold = held-lay 0 (take c.f faces) b.result.faces c.f fe f-long t.faces_in;
        }

    -- ---- after preparing
    module _ {d : Counts} {o₂ e₂ f₂ : List ℕ} {p₁ : List Float} (de : d ≡ counts_of (S.prepare (given c o₁ e₁ f₁)))
        (oe₂ : o₂ ≡ lay 0 (S.prepare (given c o₁ e₁ f₁)).outs o₁) (ee₂ : e₂ ≡ lay 0 (S.prepare (given c o₁ e₁ f₁)).edges e₁)
        (fe₂ : f₂ ≡ lay 0 (S.prepare (given c o₁ e₁ f₁)).faces f₁) (pe : p₁ ≡ lay float_zero (take (3 * c.v) ps) b.points) where
      d-is : d ≡ counts_of x
      d-is = de ∙ ap (λ (y : Links). counts_of (S.prepare y)) copied

      o₂-is : o₂ ≡ lay 0 x.outs b.result.outs
      o₂-is = oe₂ ∙ ap (λ (y : Links). lay 0 (S.prepare y).outs o₁) copied ∙ ap (lay 0 x.outs) oe ∙ lay-lay 0 x.outs (take c.v outs) b.result.outs

      e₂-is : e₂ ≡ lay 0 x.edges b.result.edges
      e₂-is = ee₂ ∙ ap (λ (y : Links). lay 0 (S.prepare y).edges e₁) copied ∙ ap (lay 0 x.edges) ee ∙ lay-lay 0 x.edges (take (8 * c.e) edges) b.result.edges

      f₂-is : f₂ ≡ lay 0 x.faces b.result.faces
      f₂-is = fe₂ ∙ ap (λ (y : Links). lay 0 (S.prepare y).faces f₁) copied ∙ ap (lay 0 x.faces) fe ∙ lay-lay 0 x.faces (take c.f faces) b.result.faces

      x-v_in : x.nv ≤ length b.result.outs
      x-v_in = let q = onward in let l = r.room.links_room in let u = x-v in omega (arith, q, l)

      x-e_in : 8 * x.ne ≤ length b.result.edges
      x-e_in = let q = onward in let l = r.room.links_room in let u = x-e in omega (arith, q, l)

      x-f_in : x.nf ≤ length b.result.faces
      x-f_in = let q = onward in let l = r.room.links_room in let u = x-f in omega (arith, q, l)

      prepared : given d o₂ e₂ f₂ ≡ x
      prepared =
          rw (d-is, o₂-is, e₂-is, f₂-is)
          (given-laid x x-good.sized b.result.outs b.result.edges b.result.faces (unfold tally_of in record { for_v = x-v_in; for_e = x-e_in; for_f = x-f_in }))

      d-v : d.v ≡ c.v
      unfolding counts_of
      d-v = ap (λ (y : Counts). y.v) d-is ∙ same-v

      d-e : d.e ≡ x.ne
      unfolding counts_of
      d-e = ap (λ (y : Counts). y.e) d-is

      d-f : d.f ≡ x.nf
      unfolding counts_of
      d-f = ap (λ (y : Counts). y.f) d-is

      ps-long : length (take (3 * c.v) ps) ≡ 3 * c.v
      ps-long = length-take-le (3 * c.v) ps r.points_in

      -- the points are still those that were given
      points-given : take (3 * d.v) p₁ ≡ take (3 * c.v) ps
      points-given = rw (d-v, pe) (take-lay float_zero (take (3 * c.v) ps) b.points (3 * c.v) ps-long points-new)

      o₂-long : length o₂ ≡ length b.result.outs
      o₂-long = laid-long 0 x.outs b.result.outs o₂ o₂-is

      e₂-long : length e₂ ≡ length b.result.edges
      e₂-long = laid-long 0 x.edges b.result.edges e₂ e₂-is

      f₂-long : length f₂ ≡ length b.result.faces
      f₂-long = laid-long 0 x.faces b.result.faces f₂ f₂-is

      p₁-long : length p₁ ≡ length b.points
      p₁-long = laid-long float_zero (take (3 * c.v) ps) b.points p₁ pe

      pub run-there : RunReady kind k flag d o₂ e₂ f₂ p₁ b.work
      run-there =
          let z = x-good.sized in
          let l = r.room.links_room in
          let p = r.room.points_room in
          let u = o₂-long in
          let v = e₂-long in
          let y = f₂-long in
          let q = p₁-long in
          let s = d-v in
          let t = same-v in
          let i = d-e in
          let j = d-f in
          let a = x-v_in in
          record {
            at = subst⁻¹ (λ (y : Links). w.At flag y) prepared x-at;
            held = record {
              outs_hold = held-lay 0 x.outs b.result.outs d.v o₂-is (z.outs_long ∙ t ∙ sym s) (omega arith);
              edges_hold = held-lay 0 x.edges b.result.edges (8 * d.e) e₂-is (z.edges_long ∙ ap (λ (n : ℕ). 8 * n) (sym i)) (rw i x-e_in);
              faces_hold = held-lay 0 x.faces b.result.faces d.f f₂-is (z.faces_long ∙ sym j) (rw j x-f_in);
              points_hold = held-lay float_zero (take (3 * c.v) ps) b.points (3 * d.v) pe (ps-long ∙ ap (λ (n : ℕ). 3 * n) (sym s)) (rw s points-new);
            };
            room = subst⁻¹ (λ (y : Links). Roomy (tally S k flag (tally_of y)) o₂ e₂ f₂ p₁) prepared (rw x-tally
                (record {
                  within = r.room.within;
                  links_room = record { for_v = omega (arith, l); for_e = omega (arith, l); for_f = omega (arith, l) };
                  points_room = omega arith;
                }));
            work_room = subst⁻¹ (λ (y : Links). needed S k flag (tally_of y) ≤ length b.work) prepared (rw x-tally r.work_room);
          }

      -- ---- after the passes
      module _ (a : Buffers) (u : Subdivided)
          (h : WentOn S k flag (given d o₂ e₂ f₂) (take (3 * d.v) p₁) o₂ e₂ f₂ p₁ a.result.outs a.result.edges a.result.faces a.points u)
          (st : Stays (buffers_at (slices_at o₂ e₂ f₂ b.result.vmarks b.result.emarks b.result.fmarks) p₁ b.work) a) where
        from-given : WentOn S k flag x (take (3 * c.v) ps) o₂ e₂ f₂ p₁ a.result.outs a.result.edges a.result.faces a.points u
        from-given = rw (prepared, points-given) at h

        pub ends_through : {n : Counts} {next : Bool} {vm em fm : List ℕ} {wk : List Float} → u ≡ Ok (n, next) →
            vm ≡ lay 0 [] a.result.vmarks → em ≡ lay 0 [] a.result.emarks → fm ≡ lay 0 [] a.result.fmarks → wk ≡ lay float_zero (take 0 a.work) a.work →
            outcome_at (Ok (n, next)) (buffers_at (slices_at a.result.outs a.result.edges a.result.faces vm em fm) a.points wk) ≡ gone_by S k flag m (take (3 * c.v) ps) b
        unfolding gone laid_in
        ends_through {n} {next} {vm} {em} {fm} {wk} q ve me ge we =
            let t : Comes S k flag x (take (3 * c.v) ps) n next o₂ e₂ f₂ p₁ a.result.outs a.result.edges a.result.faces a.points = rw q at from-given in
            let l = t.lies in
            let o = l.outs_are ∙ ap (lay 0 (links S k flag x).outs) o₂-is ∙ lay-lay 0 (links S k flag x).outs x.outs b.result.outs in
            let e = l.edges_are ∙ ap (lay 0 (links S k flag x).edges) e₂-is ∙ lay-lay 0 (links S k flag x).edges x.edges b.result.edges in
            let f = l.faces_are ∙ ap (lay 0 (links S k flag x).faces) f₂-is ∙ lay-lay 0 (links S k flag x).faces x.faces b.result.faces in
            let p =
            l.points_are
            ∙ ap (lay float_zero (points S k flag x (take (3 * c.v) ps))) pe
            ∙ lay-lay float_zero (points S k flag x (take (3 * c.v) ps)) (take (3 * c.v) ps) b.points in
            let y = we ∙ lay-same float_zero [] a.work b.work st.work_long in
            rw (o, e, f, p, ve ∙ ap (lay 0 []) st.vmarks_stay, me ∙ ap (lay 0 []) st.emarks_stay, ge ∙ ap (lay 0 []) st.fmarks_stay, y, t.counts_are, t.flag_is, t.weights_there)

        -- zeros go by lengths
        wiped-here : wiped a ≡ wiped b
        unfolding wiped filled used points_of
        wiped-here = rw (
          lay-same 0 [] a.result.outs b.result.outs (st.outs_long ∙ o₂-long),
          lay-same 0 [] a.result.edges b.result.edges (st.edges_long ∙ e₂-long),
          lay-same 0 [] a.result.faces b.result.faces (st.faces_long ∙ f₂-long),
          st.vmarks_stay,
          st.emarks_stay,
          st.fmarks_stay,
          lay-same float_zero [] a.points b.points (st.points_long ∙ p₁-long),
          lay-same float_zero [] a.work b.work st.work_long,
        )

        pub ends-stopped : {e : Refusal} {left : Buffers} → u ≡ Err e → left ≡ wiped a →
            outcome_at (Err e) left ≡ gone_by S k flag m (take (3 * c.v) ps) b
        unfolding gone
        ends-stopped {e} {left} q le =
            let s : (p : ℕ × ℕ) × (heavy S k 1 flag x ≡ Some p) × (e ≡ NoWeight p.0 p.1) = rw q at from-given in
            rw (le ∙ wiped-here, s.2, s.1)
