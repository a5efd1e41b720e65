-- An edge is inserted: the mesh stays consistent. Assumes nothing.
use mathlib.Core.Logic.{◌≢◌}
use Prim.Native.Nat.{ℕ}
use Rattle.scope.specs.Links.{NONE}
use Rattle.laws_mesh.specs.Mesh.{Mesh, Shape, Consistent}
use Rattle.laws_mesh.proofs.InsertEdge.{InsertEdge, insert-core, insert-three}

pub insert-consistent : {m m' : Mesh} {w y c g : ℕ} {M : ℕ → Type 0} → Shape m → Shape m' → Consistent m → InsertEdge m m' w y c g M
    → m.next w ≢ y → (m.face w ≢ NONE → m.next y ≢ w) → Consistent m'
insert-consistent s s' k d long-g long-k = record { core = insert-core s s' k.core d; three = insert-three s s' k.core d long-g long-k k.three }
