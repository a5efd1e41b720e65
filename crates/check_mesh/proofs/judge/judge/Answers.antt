use Rattle.std.proofs.Common.{rules}
use Rattle.check_mesh.proofs.JudgeLaws.{faced-of, found-nothing, rooted-of, says, sewn-of, stage-on, stage-out}
use Rattle.check_mesh.specs.OnMesh.{links_in, marks_in}
use Rattle.check_rules.proofs.Searches.{found-all}
use Rattle.check_mesh.proofs.judge.judge.Goals as goal

pub returns-in_err-pass : goal.returns-in_err-pass
returns-in_err-pass c = says (links_in c.args.m.now) (marks_in c.args.m.now) (search rules) (stage-out c.vertices_linked.ensures c.pass.ensures (λ i p k. search rules) c.in_err-pass.was)

pub returns-in_err-pass-2 : goal.returns-in_err-pass-2
returns-in_err-pass-2 c = says (links_in c.args.m.now) (marks_in c.args.m.now) (search rules)
    (stage-on c.vertices_linked.ensures c.pass.ensures c.in_ok-pass.was
    (stage-out c.halfedges_linked.ensures c.pass-2.ensures (λ i p k. search rules) c.in_err-pass-2.was))

pub returns-in_err-pass-3 : goal.returns-in_err-pass-3
returns-in_err-pass-3 c = says (links_in c.args.m.now) (marks_in c.args.m.now) (search rules)
    (stage-on c.vertices_linked.ensures c.pass.ensures c.in_ok-pass.was
    (stage-on c.halfedges_linked.ensures c.pass-2.ensures c.in_ok-pass-2.was
    (stage-out c.faces_linked.ensures c.pass-3.ensures (λ i p k. search rules) c.in_err-pass-3.was)))

pub returns-in_err-pass-4 : goal.returns-in_err-pass-4
returns-in_err-pass-4 c = says (links_in c.args.m.now) (marks_in c.args.m.now) (search rules)
    (stage-on c.vertices_linked.ensures c.pass.ensures c.in_ok-pass.was
    (stage-on c.halfedges_linked.ensures c.pass-2.ensures c.in_ok-pass-2.was
    (stage-on c.faces_linked.ensures c.pass-3.ensures c.in_ok-pass-3.was
    (stage-out c.all_undo.ensures c.pass-4.ensures (λ i p k. search rules) c.in_err-pass-4.was))))

pub returns-in_err-pass-5 : goal.returns-in_err-pass-5
returns-in_err-pass-5 c = says (links_in c.args.m.now) (marks_in c.args.m.now) (search rules)
    (stage-on c.vertices_linked.ensures c.pass.ensures c.in_ok-pass.was
    (stage-on c.halfedges_linked.ensures c.pass-2.ensures c.in_ok-pass-2.was
    (stage-on c.faces_linked.ensures c.pass-3.ensures c.in_ok-pass-3.was
    (stage-on c.all_undo.ensures c.pass-4.ensures c.in_ok-pass-4.was
    (stage-out c.all_sewn.ensures c.pass-5.ensures (λ i p k. search rules) c.in_err-pass-5.was)))))

pub invariant_of-judge_rounds : goal.invariant_of-judge_rounds
invariant_of-judge_rounds c =
    let v = found-all c.vertices_linked.ensures (found-nothing c.pass.ensures c.in_ok-pass.was) in
    let h = found-all c.halfedges_linked.ensures (found-nothing c.pass-2.ensures c.in_ok-pass-2.was) in
    let f = found-all c.faces_linked.ensures (found-nothing c.pass-3.ensures c.in_ok-pass-3.was) in
    let u = found-all c.all_undo.ensures (found-nothing c.pass-4.ensures c.in_ok-pass-4.was) in
    let t = found-all c.all_sewn.ensures (found-nothing c.pass-5.ensures c.in_ok-pass-5.was) in
    record { sewn = sewn-of h u t; faced = faced-of h f; rooted = rooted-of h v }

pub returns : goal.returns
returns c = let (a, x, e) = c.judge_rounds.ensures in
    says (links_in c.args.m.now) (marks_in c.args.m.now) e
    (stage-on c.vertices_linked.ensures c.pass.ensures c.in_ok-pass.was
    (stage-on c.halfedges_linked.ensures c.pass-2.ensures c.in_ok-pass-2.was
    (stage-on c.faces_linked.ensures c.pass-3.ensures c.in_ok-pass-3.was
    (stage-on c.all_undo.ensures c.pass-4.ensures c.in_ok-pass-4.was
    (stage-on c.all_sewn.ensures c.pass-5.ensures c.in_ok-pass-5.was x)))))
