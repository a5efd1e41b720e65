-- Points and the operations on them, coordinate by coordinate, each rounded once.
use Rattle.std.specs.Prelude.{Float}
use Rattle.std.specs.Float.{binary64}
use Rattle.std.specs.Float.Ieee.{add, mul, div, of_bits}
use Rattle.scope.specs.declared.records.Point.{Point}

unfoldable pub zero_p : Point
zero_p = record { x = of_bits binary64 0; y = of_bits binary64 0; z = of_bits binary64 0 }

unfoldable pub add_p : Point → Point → Point
add_p a b = record { x = add binary64 a.x b.x; y = add binary64 a.y b.y; z = add binary64 a.z b.z }

unfoldable pub scale_p : Point → Float → Point
scale_p a s = record { x = mul binary64 a.x s; y = mul binary64 a.y s; z = mul binary64 a.z s }

unfoldable pub over_p : Point → Float → Point
over_p a s = record { x = div binary64 a.x s; y = div binary64 a.y s; z = div binary64 a.z s }
