use Rattle.std.proofs.lemmas.Result.{err_from_is_err_and}
use Rattle.std.specs.Prelude.{Ok, Err}
use Prim.Native.Nat.{◌*◌}
use mathlib.Core.Path.{sym, ap, ◌∙◌}
use native.Mathlib.Omega.{arith}
use lib.Seq.{length-take-le}
use Rattle.scope.specs.declared.answers.Refusal.TheVariants.{NoRoom}
use Rattle.scope.specs.Slices.{sizes, links_of}
use Rattle.scope.specs.Tally.{counts_of}
use Rattle.laws_call.specs.Demand.{links_in}
use Rattle.mesh.specs.Given.{given}
use Rattle.call_room.specs.Kinds.{scheme_of, sides_of}
use Rattle.call_room.proofs.KindLaws.{laws-of}
use Rattle.call_steps.specs.Lent.{lent, outcome_at}
use Rattle.call.proofs.CallLaws.{seen-refused, seen-clear, fits-given, up-faced, room-judged, ends-full, fits-zero, ends-copied, ends-ready, ends-gone}
use Rattle.call.proofs.subdivide.Goals as goal

pub overflow_mul-used : goal.overflow_mul-used
overflow_mul-used c = let s = c.args in
    let S = scheme_of s.kind in
    let g = given s.g in
    let b = lent s.room.now in
    let k = seen-clear S s.passes s.flag g b c.look.ensures c.in_ok-look.was in
    let h = fits-given k in omega (arith, h)

pub slice_bounds-used-end : goal.slice_bounds-used-end
slice_bounds-used-end c = let s = c.args in
    let S = scheme_of s.kind in
    let g = given s.g in
    let b = lent s.room.now in
    let k = seen-clear S s.passes s.flag g b c.look.ensures c.in_ok-look.was in sym (length-take-le (8 * s.g.counts.e) s.g.slices.edges.now (unfold sizes in (fits-given k).edges_in))

pub enough-requires : goal.enough-requires
enough-requires c = let s = c.args in
    let S = scheme_of s.kind in
    let g = given s.g in
    let b = lent s.room.now in
    let k = seen-clear S s.passes s.flag g b c.look.ensures c.in_ok-look.was in
    let h = fits-given k in
    let l = length-take-le (8 * s.g.counts.e) s.g.slices.edges.now (unfold sizes in h.edges_in) in record { e_bound = h.e_in; e_in_bounds = omega arith; faced = up-faced k }

pub returns-then-not-enough-clause-outcome : goal.returns-then-not-enough-clause-outcome
returns-then-not-enough-clause-outcome c = let s = c.args in
    let S = scheme_of s.kind in
    let g = given s.g in
    let b = lent s.room.now in
    let k = seen-clear S s.passes s.flag g b c.look.ensures c.in_ok-look.was in
    let f = c.settle-first.ensures (links_in g) in
    let e = room-judged k _ f (rw c.slices.ensures at c.enough.ensures) in ap (outcome_at (Err NoRoom)) c.wipe.ensures.after ∙ ends-full k e c.if-not-enough.true

pub copy_mesh-requires : goal.copy_mesh-requires
copy_mesh-requires c = let s = c.args in
    let S = scheme_of s.kind in
    let g = given s.g in
    let b = lent s.room.now in
    let k = seen-clear S s.passes s.flag g b c.look.ensures c.in_ok-look.was in
    let f = c.settle-first.ensures (links_in g) in
    let e = room-judged k _ f (rw c.slices.ensures at c.enough.ensures) in record { points_value = unfold links_of counts_of in k.past.sized; newpoints_value = fits-zero k (sym e ∙ c.if-not-enough.false) c.if-passes-eq0.true }

pub returns-then-passes-eq0-clause-outcome : goal.returns-then-passes-eq0-clause-outcome
returns-then-passes-eq0-clause-outcome c = let s = c.args in
    let S = scheme_of s.kind in
    let g = given s.g in
    let b = lent s.room.now in
    let k = seen-clear S s.passes s.flag g b c.look.ensures c.in_ok-look.was in
    let f = c.settle-first.ensures (links_in g) in
    let e = room-judged k _ f (rw c.slices.ensures at c.enough.ensures) in ap (outcome_at (Ok (s.g.counts, s.flag))) c.copy_mesh.ensures.after ∙ ends-copied k (sym e ∙ c.if-not-enough.false) c.if-passes-eq0.true

pub go-requires : goal.go-requires
go-requires c = let s = c.args in
    let S = scheme_of s.kind in
    let g = given s.g in
    let b = lent s.room.now in
    let k = seen-clear S s.passes s.flag g b c.look.ensures c.in_ok-look.was in
    let f = c.settle-first.ensures (links_in g) in
    let e = room-judged k _ f (rw c.slices.ensures at c.enough.ensures) in ends-ready S (sides_of s.kind) (laws-of s.kind) s.flag g b c.if-passes-eq0.false k (sym e ∙ c.if-not-enough.false) f

pub returns-in_err-look-clause-outcome : goal.returns-in_err-look-clause-outcome
returns-in_err-look-clause-outcome c = let s = c.args in
    let S = scheme_of s.kind in
    let g = given s.g in
    let b = lent s.room.now in
    let p = err_from_is_err_and c.from_residual.result c.from_residual.ensures.1 in
    rw (p.1, p.2) (seen-refused S s.passes s.flag g b c.look.ensures c.in_err-look.was)

pub returns-clause-outcome : goal.returns-clause-outcome
returns-clause-outcome c = let s = c.args in
    let S = scheme_of s.kind in
    let g = given s.g in
    let b = lent s.room.now in
    let k = seen-clear S s.passes s.flag g b c.look.ensures c.in_ok-look.was in
    let f = c.settle-first.ensures (links_in g) in
    let e = room-judged k _ f (rw c.slices.ensures at c.enough.ensures) in c.go.ensures.outcome ∙ ends-gone S (sides_of s.kind) (laws-of s.kind) s.flag g b c.if-passes-eq0.false k (sym e ∙ c.if-not-enough.false) f
