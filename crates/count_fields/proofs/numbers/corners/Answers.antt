use borrow.Author.Rules.{rules}
use native.Mathlib.Omega.{arith}
use Prim.Native.Nat.{ℕ}
use lib.ListN.{length}
use mathlib.Core.Path.{refl, ◌∙◌}
use Rattle.std.proofs.lemmas.Iterator.{YieldsList-from_slice, YieldsList-from_map}
use Rattle.std.proofs.lemmas.Iterator.Adapters.{serves_from_places}
use Rattle.std.proofs.lemmas.Iterator.Consumers.{sum_by_from_yields_List, fits_by_from_yields_list}
use Rattle.mesh.specs.Rounds.{loop_at}
use Rattle.count_fields.proofs.CountLaws.{sum_is, sum-small, names, loop-small}
use Rattle.count_fields.proofs.numbers.corners.Goals as goal

pub sum-requires-clause-can : goal.sum-requires-clause-can
sum-requires-clause-can c = (tt, serves_from_places (YieldsList-from_slice c.args.faces.now (cc)) (λ x q k. search rules) (λ x k l e. let w = names c.requires k x.now l e in search (rules, w)))

pub sum-requires-clause-fits : goal.sum-requires-clause-fits
sum-requires-clause-fits c =
    let of : ℕ → ℕ = λ h. length (loop_at c.args.edges.now c.args.n h) in
    let s = sum-small of 2097152 1048576 c.args.faces.now (λ h. loop-small c.args.edges.now c.args.n h refl c.requires.few) c.requires.few_faces in
    fits_by_from_yields_list of c.args.faces.now c.map.result _
    (YieldsList-from_map _ of (YieldsList-from_slice c.args.faces.now (cc)) c.map.ensures.closure (λ x r q k. search rules)) (omega arith)

pub returns : goal.returns
returns c =
    let of : ℕ → ℕ = λ h. length (loop_at c.args.edges.now c.args.n h) in
    sum_by_from_yields_List of c.args.faces.now c.map.result _ c.sum.ensures.ran
    (YieldsList-from_map _ of (YieldsList-from_slice c.args.faces.now (cc)) c.map.ensures.closure (λ x r q k. search rules))
    ∙ sum_is of c.args.faces.now
