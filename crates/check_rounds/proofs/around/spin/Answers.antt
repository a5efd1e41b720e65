use Rattle.check_rounds.proofs.around.spin.Goals as goal

pub returns : goal.returns
returns c = cc
