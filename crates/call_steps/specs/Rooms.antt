-- Answer 5 of a call from the tally of what is given (document 01, section 4). Assumes nothing.
use Rattle.std.specs.Prelude.{ℕ, zero, suc, ◌+◌, ◌*◌, Bool, ◌&&◌, List, leb, length}
use Rattle.scope.specs.declared.records.Counts.{Counts}
use Rattle.scope.specs.Tally.{Tally, counted}
use Rattle.scope.specs.Slices.{Buffers, Sizes, sizes, fits_with}
use Rattle.scope.specs.Call.{Scheme, tally}
use Rattle.call_room.specs.Amounts.{amounts_at, tallied}

-- what the first of k passes starts from; zero passes prepare nothing
abbrev pub readied : Scheme → ℕ → Tally → Tally
readied S zero t = t
readied S (suc k) t = S.ready t

-- six numbers for each vertex, edge and face of the mesh that the last pass starts from
unfoldable pub needed : Scheme → ℕ → Bool → Tally → ℕ
needed S zero flag t = 0
needed S (suc k) flag t = let l = tally S k flag t in 6 * (l.v + l.e + l.f)

-- k passes from t, the first with this flag
unfoldable pub enough_from : Scheme → ℕ → Bool → Tally → Sizes → ℕ → ℕ → Bool
enough_from S k flag t room points work = fits_with (counted (tally S k flag t)) room points && leb (needed S k flag t) work

-- of a mesh with these counts and edges, into what is lent
abbrev pub enough_in : Scheme → ℕ → Bool → Counts → List ℕ → Buffers → Bool
enough_in S k flag c es b = enough_from S k flag (readied S k (tallied (amounts_at c es))) (sizes b.result) (length b.points) (length b.work)
