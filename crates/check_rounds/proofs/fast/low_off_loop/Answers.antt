use Rattle.check_rounds.proofs.TourLaws.{loop-whole, low-none}
use mathlib.Core.Path.{◌∙◌}
use Rattle.check_rounds.proofs.fast.low_off_loop.Goals as goal

pub returns-then-faces_total-bearing_count : goal.returns-then-faces_total-bearing_count
returns-then-faces_total-bearing_count c = let m = c.args.m.now in
    low-none (loop-whole m.halves.edges.now m.halves.emarks.now m.faces.now c.faces_total.ensures (c.if-faces_total-bearing_count.true ∙ c.bearing_count.ensures)).on_loop
