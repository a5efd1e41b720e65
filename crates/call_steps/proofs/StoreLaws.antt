-- Slices that are filled or cleared one by one are all filled or cleared. Assumes nothing.
use Prim.Native.Nat.{ℕ, ◌*◌, ◌≤◌}
use mathlib.Core.Path.{◌≡◌}
use mathlib.Core.Bool.{true}
use mathlib.Core.List.{List, []}
use lib.ListN.{length, take}
use lib.Ieee.{Float}
use Rattle.scope.specs.declared.records.Counts.{Counts}
use Rattle.scope.specs.Lists.{lay}
use Rattle.scope.specs.Slices.{Slices, Buffers, sizes, fits_with, float_zero, used, points_of, filled, wiped}
use Rattle.laws_call.proofs.Handed.{what-fits}
use Rattle.check_mesh.specs.Checked.{slices_at}
use Rattle.call_steps.specs.Stores.{Takes, Holds}
use Rattle.call_steps.specs.Lent.{buffers_at}

module _ (b : Buffers) {o e f vm em fm : List ℕ} {p w : List Float} (we : w ≡ lay float_zero (take 0 b.work) b.work) where
  pub all-wiped : o ≡ lay 0 (take 0 b.result.outs) b.result.outs → e ≡ lay 0 (take 0 b.result.edges) b.result.edges →
      f ≡ lay 0 (take 0 b.result.faces) b.result.faces → vm ≡ lay 0 [] b.result.vmarks → em ≡ lay 0 [] b.result.emarks →
      fm ≡ lay 0 [] b.result.fmarks → p ≡ lay float_zero (take 0 b.points) b.points → buffers_at (slices_at o e f vm em fm) p w ≡ wiped b
  unfolding wiped filled used points_of
  all-wiped oe ee fe ve me ge pe = rw (oe, ee, fe, ve, me, ge, pe, we)

  pub all-filled : (c : Counts) (s : Slices) (ps : List Float) → o ≡ lay 0 (take c.v s.outs) b.result.outs →
      e ≡ lay 0 (take (8 * c.e) s.edges) b.result.edges → f ≡ lay 0 (take c.f s.faces) b.result.faces →
      vm ≡ lay 0 (take c.v s.vmarks) b.result.vmarks → em ≡ lay 0 (take c.e s.emarks) b.result.emarks →
      fm ≡ lay 0 (take c.f s.fmarks) b.result.fmarks → p ≡ lay float_zero (take (3 * c.v) ps) b.points →
      buffers_at (slices_at o e f vm em fm) p w ≡ filled c s ps b
  unfolding filled used points_of
  all-filled c s ps oe ee fe ve me ge pe = rw (oe, ee, fe, ve, me, ge, pe, we)

-- ---- slices that fit
module _ (c : Counts) (s : Slices) (n : ℕ) (h : fits_with c (sizes s) n ≡ true) where
  pub takes_of : Takes c (length s.outs) (length s.edges) (length s.faces)
  unfolding sizes
  takes_of = let x = what-fits c (sizes s) n h in record { few = x.e_in; outs_in = x.outs_in; edges_in = x.edges_in; faces_in = x.faces_in }

  pub holds_of : Holds c (length s.vmarks) (length s.emarks) (length s.fmarks)
  unfolding sizes
  holds_of = let x = what-fits c (sizes s) n h in record { vmarks_in = x.vmarks_in; emarks_in = x.emarks_in; fmarks_in = x.fmarks_in }

  pub points-of : 3 * c.v ≤ n
  points-of = (what-fits c (sizes s) n h).points_in

  pub few-of : c.v ≤ 1048576
  few-of = (what-fits c (sizes s) n h).v_in
