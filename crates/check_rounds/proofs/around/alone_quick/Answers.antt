use Rattle.laws_check.proofs.Tells.{denied, told}
use Rattle.mesh.specs.Words.{face_at, head_at}
use Rattle.check_rounds.proofs.TourLaws.{only_at, perm-spin, spin-head}
use Rattle.check_rounds.proofs.WalkLaws.{walk-closed, walk-on, walk_start}
use Rattle.check_rounds.specs.Steps.{perm-next}
use Rattle.check_rules.proofs.HalfLaws.{has-partner}
use mathlib.Core.Path.{◌∙◌, sym}
use native.Mathlib.Omega.{arith}
use Rattle.check_rounds.proofs.around.alone_quick.Goals as goal

pub head-v-requires : goal.head-v-requires
head-v-requires c = omega (arith, c.requires.half.0, c.args.m.now.fit.room)

pub face-f-requires : goal.face-f-requires
face-f-requires c = omega (arith, c.requires.half.0, c.args.m.now.fit.room)

pub next-x-requires : goal.next-x-requires
next-x-requires c = omega (arith, c.requires.half.0, c.args.m.now.fit.room)

pub spin-y-requires : goal.spin-y-requires
spin-y-requires c = has-partner c.args.m.now.edges.now c.args.m.now.ne c.args.a c.args.m.now.fit.room c.requires.half.0

pub overflow_mul-left : goal.overflow_mul-left
overflow_mul-left c = omega (arith, c.args.m.now.fit.few)

pub loop-left-init : goal.loop-left-init
loop-left-init c = let i = c.requires.half in
    rw (c.next-x.ensures, c.spin-y.ensures) (
      c.args.m.now.sewn.next_in c.args.a i,
      c.args.m.now.sewn.next_face c.args.a i,
      walk_start,
      (perm-spin c.args.m.now.sewn).fore c.args.a i,
      spin-head c.args.m.now.sewn c.args.a i,
      walk_start,
    )

pub returns-then-x-a : goal.returns-then-x-a
returns-then-x-a c = told (λ i n b j p q. only_at {key = head_at c.args.m.now.edges.now} c.loop-left.invariant.2 c.if-x-a.true (c.requires.looped.one_loop c.args.a b i j n p) q)

pub returns-then-y-a : goal.returns-then-y-a
returns-then-y-a c = told (λ i n b j p q. only_at {key = face_at c.args.m.now.edges.now} c.loop-left.invariant.5 c.if-y-a.true (c.requires.spun.spin c.args.a b i j q) p)

pub head-requires : goal.head-requires
head-requires c = omega (arith, c.loop-left.invariant.0.0, c.args.m.now.fit.room)

pub returns-then-head-v : goal.returns-then-head-v
returns-then-head-v c = denied (λ p. c.if-x-a.false (p c.requires.half c.requires.a_nonzero c.loop-left.x c.loop-left.invariant.0 c.loop-left.invariant.1 (sym c.head.ensures ∙ c.if-head-v.true ∙ c.head-v.ensures)))

pub face-requires : goal.face-requires
face-requires c = omega (arith, c.loop-left.invariant.3.0, c.args.m.now.fit.room)

pub returns-then-face-f : goal.returns-then-face-f
returns-then-face-f c = denied (λ p. c.if-y-a.false (p c.requires.half c.requires.a_nonzero c.loop-left.y c.loop-left.invariant.3 (sym c.face.ensures ∙ c.if-face-f.true ∙ c.face-f.ensures) c.loop-left.invariant.4))

pub next-x-requires-in-loop-left : goal.next-x-requires-in-loop-left
next-x-requires-in-loop-left c = omega (arith, c.loop-left.invariant.0.0, c.args.m.now.fit.room)

pub spin-y-requires-in-loop-left : goal.spin-y-requires-in-loop-left
spin-y-requires-in-loop-left c = has-partner c.args.m.now.edges.now c.args.m.now.ne c.loop-left.y c.args.m.now.fit.room c.loop-left.invariant.3.0

pub loop-left-preserved : goal.loop-left-preserved
loop-left-preserved c = let i = c.loop-left.invariant in
    rw (c.next-x-in-loop-left.ensures, c.spin-y-in-loop-left.ensures) (
      c.args.m.now.sewn.next_in c.loop-left.x i.0,
      c.args.m.now.sewn.next_face c.loop-left.x i.0 ∙ i.1,
      walk-on i.2 c.loop-left-test.true (c.if-x-a.false, λ e. c.if-head-v.false (c.head.ensures ∙ e ∙ sym c.head-v.ensures)),
      (perm-spin c.args.m.now.sewn).fore c.loop-left.y i.3,
      spin-head c.args.m.now.sewn c.loop-left.y i.3 ∙ i.4,
      walk-on i.5 c.loop-left-test.true (c.if-y-a.false, λ e. c.if-face-f.false (c.face.ensures ∙ e ∙ sym c.face-f.ensures)),
    )

pub returns : goal.returns
returns c = absurd (walk-closed (perm-next c.args.m.now.sewn) c.requires.half c.loop-left.invariant.2 c.loop-left-test.false)
