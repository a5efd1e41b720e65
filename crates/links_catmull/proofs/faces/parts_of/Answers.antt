use native.Mathlib.Omega.{arith}
use mathlib.Core.Path.{ap, ◌∙◌}
use Prim.Native.Nat.{ℕ, ◌/◌}
use lib.ListN.{length}
use Rattle.mesh.specs.Rounds.{loop_at}
use Rattle.links_edits.specs.Lent.{links_in}
use Rattle.links_catmull.proofs.StepLaws.{first-bare, loop-parts}
use Rattle.links_catmull.proofs.faces.parts_of.Goals as goal

pub loop_length-n-requires : goal.loop_length-n-requires
loop_length-n-requires c = rw (c.first_old-a.ensures, first-bare c.args.old c.args.f (links_in c.args.m.now)) c.requires.walk

pub overflow_cast-result : goal.overflow_cast-result
overflow_cast-result c =
    let m = links_in c.args.m.now in
    let p = c.first_old-a.ensures ∙ first-bare c.args.old c.args.f m in
    let q = ap (λ (l : ℕ). l / 2) (c.loop_length-n.ensures ∙ ap (λ (a : ℕ). length (loop_at m.edges m.ne a)) p) ∙ loop-parts c.args.old c.args.f m in
    let k = c.requires.fan_ok.few_e in
    omega arith

pub returns : goal.returns
returns c =
    let m = links_in c.args.m.now in
    let p = c.first_old-a.ensures ∙ first-bare c.args.old c.args.f m in
    record {
      from = p;
      number = ap (λ (l : ℕ). l / 2) (c.loop_length-n.ensures ∙ ap (λ (a : ℕ). length (loop_at m.edges m.ne a)) p) ∙ loop-parts c.args.old c.args.f m;
    }
