-- Every scheme that is code keeps the laws of a scheme. Assumes nothing.
use mathlib.Core.Path.{◌≡◌, refl}
use Rattle.laws_call.specs.Laws.{Laws}
use Rattle.laws_schemes.proofs.Catmull.{catmull-laws}
use Rattle.call_room.specs.declared.kind.Kind.{Kind}
use Rattle.call_room.specs.declared.kind.Kind.TheVariants.{Catmull}
use Rattle.call_room.specs.Kinds.{scheme_of, sides_of}

pub laws-of : (kind : Kind) → Laws (scheme_of kind) (sides_of kind)
laws-of Catmull = catmull-laws

-- Catmull-Clark is the only one so far
pub alone : (kind : Kind) → kind ≡ Catmull
alone Catmull = refl
