-- The smoothing rules of the three schemes, in the fixed order of their steps. Numbers are given by their bit patterns.
use Rattle.std.specs.Prelude.{Float, pos, ℕ}
use Rattle.std.specs.Float.{binary64}
use Rattle.std.specs.Float.Ieee.{of_bits, of_int, sub}
use Rattle.scope.specs.declared.records.Point.{Point}
use Rattle.scope.specs.declared.records.FacePoints.{FacePoints}
use Rattle.scope.specs.declared.records.FacePoints.TheVariants.{Pair}
use Rattle.scope.specs.Point.{add_p, scale_p, over_p}

-- the numbers of the rules
abbrev pub n0_25 : Float
n0_25 = of_bits binary64 0x3fd0_0000_0000_0000

abbrev pub n0_5 : Float
n0_5 = of_bits binary64 0x3fe0_0000_0000_0000

abbrev pub n2 : Float
n2 = of_bits binary64 0x4000_0000_0000_0000

abbrev pub n3 : Float
n3 = of_bits binary64 0x4008_0000_0000_0000

abbrev pub n4 : Float
n4 = of_bits binary64 0x4010_0000_0000_0000

abbrev pub n6 : Float
n6 = of_bits binary64 0x4018_0000_0000_0000

abbrev pub n8 : Float
n8 = of_bits binary64 0x4020_0000_0000_0000

abbrev pub n10 : Float
n10 = of_bits binary64 0x4024_0000_0000_0000

abbrev pub n16 : Float
n16 = of_bits binary64 0x4030_0000_0000_0000

abbrev pub n19 : Float
n19 = of_bits binary64 0x4033_0000_0000_0000

abbrev pub n27 : Float
n27 = of_bits binary64 0x403b_0000_0000_0000

-- Catmull-Clark, edge with two faces
unfoldable pub cc_edge : Point → Point → Point → Point → Point
cc_edge a b f g = scale_p (add_p (add_p (add_p a b) f) g) n0_25

-- the middle of an edge
unfoldable pub middle : Point → Point → Point
middle a b = scale_p (add_p a b) n0_5

-- Catmull-Clark, interior vertex p of valence n, with the sums of face points and of neighbours
unfoldable pub cc_inner : Point → Point → Point → ℕ → Point
cc_inner fs ns p n =
    over_p (add_p (over_p (add_p fs ns) (of_int binary64 (pos n))) (scale_p p (sub binary64 (of_int binary64 (pos n)) n2))) (of_int binary64 (pos n))

-- Loop, edge between a and b with the opposite corners c and d
unfoldable pub loop_edge : Point → Point → Point → Point → Point
loop_edge a b c d = over_p (add_p (scale_p (add_p a b) n3) (add_p c d)) n8

-- Loop, rim vertex
unfoldable pub loop_rim : Point → Point → Point → Point
loop_rim p a b = over_p (add_p (add_p (scale_p p n6) a) b) n8

-- Loop and sqrt3, interior vertex
unfoldable pub weighted : Point → Point → Float → Float → Point
weighted ns p first second = add_p (scale_p ns second) (scale_p p first)

-- sqrt3, rim vertex
unfoldable pub sqrt_rim : Point → Point → Point → Point
sqrt_rim p a b = over_p (add_p (scale_p (add_p a b) n4) (scale_p p n19)) n27

-- sqrt3, the two points on a rim edge
unfoldable pub sqrt_pair : Point → Point → Point → Point → FacePoints
sqrt_pair p1 p2 p3 p4 =
    Pair (over_p (add_p (add_p p1 (scale_p p2 n16)) (scale_p p3 n10)) n27) (over_p (add_p (add_p (scale_p p2 n10) (scale_p p3 n16)) p4) n27)
