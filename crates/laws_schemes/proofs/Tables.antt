-- The table of counts, of calls of one pass (specs/Tables). Assumes nothing.
use mathlib.Core.Path.{◌≡◌}
use mathlib.Core.Bool.{Bool}
use Rattle.scope.specs.declared.records.Counts.{Counts}
use Rattle.scope.specs.Tally.{counted, triangulated, catmull_tally, loop_tally, sqrt_tally}
use Rattle.scope.specs.Call.{tally, turned}
use Rattle.scope.specs.Schemes.{catmull, loop_scheme, sqrt3}
use Rattle.laws_schemes.specs.Tables.{CatmullTable, LoopTable, Sqrt3Table}
use Rattle.laws_schemes.proofs.Catmull.{catmull-makes}
use Rattle.laws_schemes.proofs.Loop.{loop-makes}
use Rattle.laws_schemes.proofs.Sqrt3.{sqrt3-makes}

pair : {c c' : Counts} {f f' : Bool} → c ≡ c' → f ≡ f' → ◌≡◌ {A = Counts × Bool} (c, f) (c', f')
pair p q = λ i. (p i, q i)

pub catmull-table : CatmullTable
unfolding tally turned counted catmull catmull_tally
catmull-table update g b c next e = let m = catmull-makes 0 update g b c next e in pair m.counts m.flag_back

pub loop-table : LoopTable
unfolding tally turned counted loop_scheme triangulated loop_tally
loop-table update g b c next e = let m = loop-makes 0 update g b c next e in pair m.counts m.flag_back

pub sqrt3-table : Sqrt3Table
unfolding tally turned counted sqrt3 triangulated sqrt_tally
sqrt3-table asked g b c next e = let m = sqrt3-makes 0 asked g b c next e in pair m.counts m.flag_back
