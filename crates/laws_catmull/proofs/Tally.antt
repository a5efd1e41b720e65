-- What a Catmull-Clark pass makes: a good mesh with the counts of document 01's table, and every face of four. Assumes nothing.
use mathlib.Core.Path.{◌≡◌, ap, ◌∙◌}
use mathlib.Core.Logic.{inl, inr}
use Prim.Native.Nat.{ℕ, ◌+◌, ◌*◌}
use native.Mathlib.Omega.{arith}
use lib.ListN.{length}
use Rattle.scope.specs.Links.{Links, start, loop}
use Rattle.scope.specs.Passes.{catmull_pass}
use Rattle.scope.specs.Tally.{tally_of, catmull_tally}
use Rattle.laws_mesh.specs.Of.{Good}
use Rattle.laws_mesh.specs.Sides.{Within, Sided}
use Rattle.laws_mesh.proofs.Corners.{sum-all, rims-corners}
use Rattle.laws_mesh.proofs.Ring.{under}
use Rattle.laws_mesh.proofs.Sides.{tally-is}
use Rattle.laws_catmull.proofs.Partway.{L, S, at_last}

module _ (m : Links) (g : Good m) (w : Within (catmull_tally (tally_of m))) where
  pub catmull-good : Good (catmull_pass m)
  catmull-good = (at_last m g w).good

  pub catmull-quads : Sided 4 (catmull_pass m)
  catmull-quads f i = (at_last m g w).done f i (under f m.nf (λ u. inl u) (λ u. inr u))

  pub catmull-tally : tally_of (catmull_pass m) ≡ catmull_tally (tally_of m)
  unfolding tally_of catmull_tally S L
  catmull-tally =
      let v = (at_last m g w).nv_is in
      let e = (at_last m g w).ne_is in
      let f = (at_last m g w).nf_is in
      let nf : (catmull_pass m).nf ≡ S m g w = omega arith in
      let s = sum-all (catmull_pass m).nf 4 (λ f. length (loop (catmull_pass m) (start (catmull_pass m) f))) catmull-quads in
      let b = rims-corners m g in
      let b' = rims-corners (catmull_pass m) catmull-good in
      tally-is _ _ v e nf (s ∙ ap (λ (k : ℕ). 4 * k) nf) (omega arith)

  -- Euler's number stays
  pub catmull-euler : (catmull_pass m).nv + (catmull_pass m).nf + m.ne ≡ m.nv + m.nf + (catmull_pass m).ne
  unfolding S
  catmull-euler = let v = (at_last m g w).nv_is in let e = (at_last m g w).ne_is in let f = (at_last m g w).nf_is in omega arith
