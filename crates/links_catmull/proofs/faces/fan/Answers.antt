use mathlib.Core.Path.{refl, ap}
use Rattle.scope.specs.Links.{Links}
use Rattle.links_catmull.proofs.StepLaws.{fan-done, part-first, part-last, part-ranges, part-next}
use Rattle.links_catmull.proofs.faces.fan.Goals as goal

pub next-b-requires : goal.next-b-requires
next-b-requires c = part-first c.loop-i.invariant c.loop-i-test.true

pub next-then-requires : goal.next-then-requires
next-then-requires c = part-last c.loop-i.invariant c.loop-i-test.true c.next-b.ensures

pub petal-requires : goal.petal-requires
petal-requires c = part-ranges c.loop-i.invariant c.loop-i-test.true c.next-b.ensures c.after.ensures

pub loop-i-preserved : goal.loop-i-preserved
loop-i-preserved c =
    part-next c.loop-i.invariant c.loop-i-test.true c.next-b.ensures c.after.ensures c.args.g refl c.next-then.ensures c.petal.ensures.edges_after c.petal.ensures.faces_after

pub returns : goal.returns
returns c = let t = fan-done c.loop-i.invariant c.loop-i-test.false in record { edges_after = ap (λ (m : Links). m.edges) t; faces_after = ap (λ (m : Links). m.faces) t }
