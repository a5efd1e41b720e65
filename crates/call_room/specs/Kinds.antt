-- The schemes that are code, as scope defines them (document 01, section 3). Assumes nothing.
use Rattle.std.specs.Prelude.{ℕ}
use Rattle.scope.specs.Call.{Scheme}
use Rattle.scope.specs.Schemes.{catmull}
use Rattle.call_room.specs.declared.kind.Kind.{Kind}
use Rattle.call_room.specs.declared.kind.Kind.TheVariants.{Catmull}

abbrev pub scheme_of : Kind → Scheme
scheme_of Catmull = catmull

-- how many halfedges a pass leaves each face
abbrev pub sides_of : Kind → ℕ
sides_of Catmull = 4
