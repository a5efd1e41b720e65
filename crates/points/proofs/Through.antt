-- A relation of numbers that zero, sums, products and quotients keep goes through every smoothing rule, coordinate by coordinate.
-- Equality is one, being each other's mirror another: one coordinate mirrored and two kept is proved once, for any axis. Assumes nothing.
use mathlib.Core.Path.{◌≡◌, refl}
use mathlib.Core.Logic.{inr}
use Prim.Native.Nat.{ℕ}
use lib.Ieee.{Float, nan, binary64, add, mul, div, of_bits}
use Rattle.scope.specs.declared.records.Point.{Point}
use Rattle.scope.specs.declared.records.FacePoints.{FacePoints}
use Rattle.scope.specs.declared.records.FacePoints.TheVariants.{Centre, Pair}
use Rattle.scope.specs.Point.{add_p, scale_p, over_p, zero_p}
use Rattle.scope.specs.Rules.{cc_edge, cc_inner, middle, loop_edge, loop_rim, weighted, sqrt_rim, sqrt_pair}
use Rattle.points.proofs.Mirror.{Mirror, mirror-add, mirror-mul, mirror-div}

-- R is kept by zero, by sums, and by products with and quotients by a number that is the same on both sides
pub record Through (R : Float → Float → Type 0) : Type 0 where
  pub zeros : R (of_bits binary64 0) (of_bits binary64 0)
  pub sums : (a a' b b' : Float) → R a a' → R b b' → R (add binary64 a b) (add binary64 a' b')
  pub products : (a a' k : Float) → R a a' → R (mul binary64 a k) (mul binary64 a' k)
  pub quotients : (a a' k : Float) → R a a' → R (div binary64 a k) (div binary64 a' k)

pub mirrored : Through Mirror
unfolding of_bits
mirrored = record { zeros = inr (tt, tt); sums = mirror-add; products = mirror-mul; quotients = mirror-div }

pub kept : Through (λ x y. x ≡ y)
kept = record {
  zeros = refl;
  sums = λ a a' b b' p q. rw (p, q);
  products = λ a a' k p. rw p;
  quotients = λ a a' k p. rw p;
}

zero-over-zero : div binary64 (of_bits binary64 0) (of_bits binary64 0) ≡ nan
unfolding div of_bits
zero-over-zero = refl

-- zero over zero is the NaN
pub nans : {R : Float → Float → Type 0} → Through R → R nan nan
nans r = rw zero-over-zero at (r.quotients _ _ (of_bits binary64 0) r.zeros)

-- ---- points, each coordinate by its own relation
pub record Each (R S T : Float → Float → Type 0) (p q : Point) : Type 0 where
  pub at_x : R p.x q.x
  pub at_y : S p.y q.y
  pub at-z : T p.z q.z

-- a face's answer: the same case, with each point
abbrev pub EachAnswer : (R S T : Float → Float → Type 0) → FacePoints → FacePoints → Type 0
EachAnswer R S T (Centre p) (Centre q) = Each R S T p q
EachAnswer R S T (Centre p) (Pair q r) = ⊥
EachAnswer R S T (Pair p q) (Centre r) = ⊥
EachAnswer R S T (Pair p q) (Pair p' q') = Each R S T p p' × Each R S T q q'

module _ (R S T : Float → Float → Type 0) (r : Through R) (s : Through S) (t : Through T) where
  pub zero-each : Each R S T zero_p zero_p
  unfolding zero_p
  zero-each = record { at_x = r.zeros; at_y = s.zeros; at-z = t.zeros }

  pub add-each : {p p' q q' : Point} → Each R S T p p' → Each R S T q q' → Each R S T (add_p p q) (add_p p' q')
  unfolding add_p
  add-each a b = record {
    at_x = r.sums _ _ _ _ a.at_x b.at_x;
    at_y = s.sums _ _ _ _ a.at_y b.at_y;
    at-z = t.sums _ _ _ _ a.at-z b.at-z;
  }

  pub scale-each : (k : Float) {p p' : Point} → Each R S T p p' → Each R S T (scale_p p k) (scale_p p' k)
  unfolding scale_p
  scale-each k a = record { at_x = r.products _ _ k a.at_x; at_y = s.products _ _ k a.at_y; at-z = t.products _ _ k a.at-z }

  pub over-each : (k : Float) {p p' : Point} → Each R S T p p' → Each R S T (over_p p k) (over_p p' k)
  unfolding over_p
  over-each k a = record { at_x = r.quotients _ _ k a.at_x; at_y = s.quotients _ _ k a.at_y; at-z = t.quotients _ _ k a.at-z }

  -- ---- the rules
  pub middle-each : {a a' b b' : Point} → Each R S T a a' → Each R S T b b' → Each R S T (middle a b) (middle a' b')
  unfolding middle
  middle-each ha hb = scale-each _ (add-each ha hb)

  pub cc-edge-each : {a a' b b' f f' g g' : Point} → Each R S T a a' → Each R S T b b' → Each R S T f f' → Each R S T g g' →
      Each R S T (cc_edge a b f g) (cc_edge a' b' f' g')
  unfolding cc_edge
  cc-edge-each ha hb hf hg = scale-each _ (add-each (add-each (add-each ha hb) hf) hg)

  pub cc-inner-each : (n : ℕ) {f f' m m' p p' : Point} → Each R S T f f' → Each R S T m m' → Each R S T p p' →
      Each R S T (cc_inner f m p n) (cc_inner f' m' p' n)
  unfolding cc_inner
  cc-inner-each n hf hm hp = over-each _ (add-each (over-each _ (add-each hf hm)) (scale-each _ hp))

  pub loop-edge-each : {a a' b b' c c' d d' : Point} → Each R S T a a' → Each R S T b b' → Each R S T c c' → Each R S T d d' →
      Each R S T (loop_edge a b c d) (loop_edge a' b' c' d')
  unfolding loop_edge
  loop-edge-each ha hb hc hd = over-each _ (add-each (scale-each _ (add-each ha hb)) (add-each hc hd))

  pub loop-rim-each : {p p' a a' b b' : Point} → Each R S T p p' → Each R S T a a' → Each R S T b b' → Each R S T (loop_rim p a b) (loop_rim p' a' b')
  unfolding loop_rim
  loop-rim-each hp ha hb = over-each _ (add-each (add-each (scale-each _ hp) ha) hb)

  pub weighted-each : (v w : Float) {n n' p p' : Point} → Each R S T n n' → Each R S T p p' → Each R S T (weighted n p v w) (weighted n' p' v w)
  unfolding weighted
  weighted-each v w hn hp = add-each (scale-each _ hn) (scale-each _ hp)

  pub sqrt-rim-each : {p p' a a' b b' : Point} → Each R S T p p' → Each R S T a a' → Each R S T b b' → Each R S T (sqrt_rim p a b) (sqrt_rim p' a' b')
  unfolding sqrt_rim
  sqrt-rim-each hp ha hb = over-each _ (add-each (scale-each _ (add-each ha hb)) (scale-each _ hp))

  pub sqrt-pair-each : {a a' b b' c c' d d' : Point} → Each R S T a a' → Each R S T b b' → Each R S T c c' → Each R S T d d' →
      EachAnswer R S T (sqrt_pair a b c d) (sqrt_pair a' b' c' d')
  unfolding sqrt_pair
  sqrt-pair-each ha hb hc hd = (
    over-each _ (add-each (add-each ha (scale-each _ hb)) (scale-each _ hc)),
    over-each _ (add-each (add-each (scale-each _ hb) (scale-each _ hc)) hd),
  )
