use borrow.Author.Rules.{rules}
use lib.ListN.{take}
use Rattle.scope.specs.declared.answers.Place.TheVariants.{AtVertex, AtEdge, AtFace}
use Rattle.scope.specs.Check.{set_mark, spot}
use Rattle.call_steps.proofs.LookLaws.{map_is, or_else_is, marked_is}
use Rattle.call_steps.proofs.look.marked.Goals as goal

pub returns : goal.returns
returns c = let s = c.args in
    marked_is (take s.c.v s.vmarks.now) (take s.c.e s.emarks.now) (take s.c.f s.fmarks.now) c.first_mark.ensures
    (map_is c.first_mark.result c.map.result AtFace c.map.ensures.cases (λ x y k. search rules))
    (or_else_is c.map.result (spot AtEdge (set_mark (take s.c.e s.emarks.now))) c.or_else.result c.or_else.ensures (λ k. search (rules, map_is)))
    (or_else_is c.or_else.result (spot AtVertex (set_mark (take s.c.v s.vmarks.now))) c.or_else-2.result c.or_else-2.ensures (λ k. search (rules, map_is)))
