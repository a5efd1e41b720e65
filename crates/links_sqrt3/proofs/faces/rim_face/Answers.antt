use Prim.Native.Nat.{ℕ, ◌*◌}
use native.Mathlib.Omega.{arith}
use mathlib.Core.Path.{ap, ◌∙◌}
use Rattle.scope.specs.Links.{Links}
use Rattle.scope.specs.Edits.{split_edge, cut_off}
use Rattle.links_edits.specs.Lent.{links_in}
use Rattle.links_edits.proofs.LentLaws.{cut-faces}
use Rattle.links_sqrt3.proofs.StepLaws.{rim-split, cut-there, cut-here, rim-done}
use Rattle.links_sqrt3.proofs.faces.rim_face.Goals as goal

pub split_edge-requires-2 : goal.split_edge-requires-2
unfolding split_edge
split_edge-requires-2 c =
    let p = c.split_edge.ensures.links_after in
    record {
      few = let a = ap (λ (t : Links). t.nv) p in let b = c.requires.few_v in omega arith;
      split_ok = rim-split c.requires p;
    }

pub cut_four-requires : goal.cut_four-requires
unfolding split_edge
cut_four-requires c =
    let p = c.split_edge.ensures.links_after in
    let q = c.split_edge-2.ensures.links_after in
    record {
      few = let a = ap (λ (t : Links). t.nf) p in let b = ap (λ (t : Links). t.nf) q in let k = c.requires.few_f in omega arith;
      cut_ok = rw c.prev-c.ensures (cut-there c.requires p q);
    }

pub cut_three-requires : goal.cut_three-requires
unfolding split_edge
cut_three-requires c =
    let n = 2 * c.args.m.now.e in
    let p = c.split_edge.ensures.links_after in
    let q = c.split_edge-2.ensures.links_after in
    let t = links_in c.split_edge-2.new.self in
    let r = c.cut_four.ensures.links_after in
    record {
      few = let a = ap (λ (t : Links). t.nf) p in let b = ap (λ (t : Links). t.nf) q in let d = ap (λ (t : Links). t.nf) r ∙ cut-faces n c.prev-c.result t in let k = c.requires.few_f in omega arith;
      cut_ok = rw c.next-b.ensures (cut-here c.requires p q (r ∙ ap (λ (k : ℕ). cut_off n k t) c.prev-c.ensures));
    }

pub returns-clause-links_after : goal.returns-clause-links_after
returns-clause-links_after c =
    let n = 2 * c.args.m.now.e in
    let h = c.args.h in
    let t = links_in c.split_edge-2.new.self in
    let u = links_in c.cut_four.new.self in
    c.cut_three.ensures.links_after
    ∙ ap (λ (k : ℕ). cut_off k h u) c.next-b.ensures
    ∙ rim-done c.requires c.split_edge.ensures.links_after c.split_edge-2.ensures.links_after (c.cut_four.ensures.links_after ∙ ap (λ (k : ℕ). cut_off n k t) c.prev-c.ensures)
