use Rattle.std.proofs.Common.{rules, Some}
use Rattle.check_mesh.proofs.JudgeLaws.{found-nothing, stage-end, stage-on, stage-out}
use Rattle.check_rules.proofs.Searches.{found-all}
use Rattle.check_rounds.proofs.RuleLaws.{looped, rule-9}
use Rattle.check_rounds.proofs.TourLaws.{spun}
use Rattle.check_mesh.proofs.judge.judge_rounds.Goals as goal

pub returns-in_err-pass : goal.returns-in_err-pass
returns-in_err-pass c = (Some c.in_err-pass.field-0.0, stage-out c.rule_4.ensures c.pass.ensures (λ i p k. search rules) c.in_err-pass.was, search rules)

pub returns-in_err-pass-2 : goal.returns-in_err-pass-2
returns-in_err-pass-2 c = (
  Some c.in_err-pass-2.field-0.0,
  stage-on c.rule_4.ensures c.pass.ensures c.in_ok-pass.was
      (stage-out c.all_edges.ensures c.pass-2.ensures (λ i p k. search rules) c.in_err-pass-2.was),
  search rules,
)

pub returns-in_err-pass-3 : goal.returns-in_err-pass-3
returns-in_err-pass-3 c = (
  Some c.in_err-pass-3.field-0.0,
  stage-on c.rule_4.ensures c.pass.ensures c.in_ok-pass.was
      (stage-on c.all_edges.ensures c.pass-2.ensures c.in_ok-pass-2.was
      (stage-out c.no_spikes.ensures c.pass-3.ensures (λ i p k. search rules) c.in_err-pass-3.was)),
  search rules,
)

pub rule_7-requires-clause-looped : goal.rule_7-requires-clause-looped
rule_7-requires-clause-looped c = looped c.args.m.now.sewn c.args.m.now.faced (found-all c.rule_4.ensures (found-nothing c.pass.ensures c.in_ok-pass.was))

pub rule_7-requires-clause-spun : goal.rule_7-requires-clause-spun
rule_7-requires-clause-spun c = λ e. spun c.args.m.now.sewn c.args.m.now.rooted (c.turns_whole-w.ensures e)

pub returns-in_err-pass-4 : goal.returns-in_err-pass-4
returns-in_err-pass-4 c = (
  Some c.in_err-pass-4.field-0.0,
  stage-on c.rule_4.ensures c.pass.ensures c.in_ok-pass.was
      (stage-on c.all_edges.ensures c.pass-2.ensures c.in_ok-pass-2.was
      (stage-on c.no_spikes.ensures c.pass-3.ensures c.in_ok-pass-3.was
      (stage-out c.rule_7.ensures c.pass-4.ensures (λ i p k. search rules) c.in_err-pass-4.was))),
  search rules,
)

pub returns-in_err-pass-5 : goal.returns-in_err-pass-5
returns-in_err-pass-5 c = (
  Some c.in_err-pass-5.field-0.0,
  stage-on c.rule_4.ensures c.pass.ensures c.in_ok-pass.was
      (stage-on c.all_edges.ensures c.pass-2.ensures c.in_ok-pass-2.was
      (stage-on c.no_spikes.ensures c.pass-3.ensures c.in_ok-pass-3.was
      (stage-on c.rule_7.ensures c.pass-4.ensures c.in_ok-pass-4.was
      (stage-out c.rule_8.ensures c.pass-5.ensures (λ i p k. search rules) c.in_err-pass-5.was)))),
  search rules,
)

pub returns : goal.returns
returns c = let (a, x, e) = stage-end (rule-9 c.args.m.now.rooted c.lowest_not_named.ensures) c.pass-6.ensures (λ i p k. search rules) in (
  a,
  stage-on c.rule_4.ensures c.pass.ensures c.in_ok-pass.was
      (stage-on c.all_edges.ensures c.pass-2.ensures c.in_ok-pass-2.was
      (stage-on c.no_spikes.ensures c.pass-3.ensures c.in_ok-pass-3.was
      (stage-on c.rule_7.ensures c.pass-4.ensures c.in_ok-pass-4.was
      (stage-on c.rule_8.ensures c.pass-5.ensures c.in_ok-pass-5.was x)))),
  e,
)
