use mathlib.Core.Path.{sym}
use Prim.Native.Nat.{ℕ}
use lib.ListN.{length-replicate}
use Rattle.refine_room.proofs.file_bytes.Goals as goal

pub returns : goal.returns
returns c = sym {b = 2901056} (length-replicate {0} {A = ℕ} 2901056 0)
