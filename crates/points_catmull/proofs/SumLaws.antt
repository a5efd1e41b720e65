-- Sums over a walk: what the loop that runs it meets, one point more, and the whole. Assumes nothing.
use Prim.Native.Nat.{ℕ, zero, suc, ◌*◌, ◌≤◌, ◌<◌}
use mathlib.Core.Path.{◌≡◌, refl, sym, ap, subst, ◌∙◌}
use mathlib.Core.Bool.{Bool, true, false}
use mathlib.Core.List.{List, [], ◌∷◌, ◌++◌, map, map-append}
use Rattle.std.specs.Prelude.{Option, Some, None}
use Rattle.std.specs.Iterator.{Yields, YieldsFirst}
use Rattle.std.proofs.lemmas.Iterator.Consumers.{YieldsList-from_first, YieldsList-turn, YieldsList-end}
use Rattle.std.proofs.lemmas.List.{length-map, map-id}
use native.Mathlib.Omega.{arith}
use lib.Dec.{eqb}
use lib.ListN.{length, get_or, length-append}
use lib.Ieee.{Float}
use Rattle.scope.specs.declared.records.Point.{Point}
use Rattle.scope.specs.declared.records.Counts.{Counts}
use Rattle.scope.specs.Links.{loop}
use Rattle.scope.specs.Point.{add_p, over_p, zero_p}
use Rattle.scope.specs.Points.{plus, number, heads, face_point}
use Rattle.scope.specs.Lists.{if, round}
use Rattle.mesh.specs.Words.{link_at}
use Rattle.mesh.specs.Rounds.{loop_at, Walk}
use Rattle.mesh.proofs.RoundLaws.{walk_here, walk-on}
use Rattle.points_catmull.specs.declared.sums.Sum.{Sum}
use Rattle.points_catmull.specs.Sums.{summed, more, head_point, mesh_of}

-- ---- what a walk meets
pub data Every (P : ℕ → Type 0) : List ℕ → Type 0 where
  end : Every P []
  also : {x : ℕ} {l : List ℕ} → P x → Every P l → Every P (x ∷ l)

unless : {P : ℕ → Type 0} (b : Bool) {x : ℕ} {l : List ℕ} → P x → Every P l → Every P (x ∷ if b [] l)
unless true p r = also p end
unless false p r = also p r

-- what holds at the start, and goes on holding by a step
pub every : (P : ℕ → Type 0) (s : ℕ) (step : ℕ → ℕ) → ((k : ℕ) → P k → P (step k)) → (n x : ℕ) → P x → Every P (round s step n x)
unfolding round
every P s step on zero x p = end
every P s step on (suc n) x p = unless (eqb (step x) s) p (every P s step on n (step x) (on x p))

pub weaken : {P Q : ℕ → Type 0} → ((k : ℕ) → P k → Q k) → {l : List ℕ} → Every P l → Every Q l
weaken f end = end
weaken f (also {x} p r) = also (f x p) (weaken f r)

every-at : {P : ℕ → Type 0} {l : List ℕ} (k d : ℕ) → Every P l → k < length l → P (get_or l k d)
every-at k d end l = absurd (omega arith)
every-at zero d (also p r) l = p
every-at (suc k) d (also p r) l = every-at k d r (omega arith)

pub walked : (step : List ℕ → ℕ → ℕ) (es : List ℕ) (n h : ℕ) → Walk step es n h → Every (λ k. k < 2 * n) (round h (step es) (2 * n) h)
walked step es n h w = weaken (λ k v. walk_here v) (every (λ k. Walk step es n k) h (step es) (λ k v. walk-on refl v) (2 * n) h w)

pub round-short : (s : ℕ) (step : ℕ → ℕ) (n x : ℕ) → length (round s step n x) ≤ n
unfolding round
round-short s step zero x = omega arith
round-short s step (suc n) x = go (eqb (step x) s) (round-short s step n (step x))
  where
    go : (b : Bool) → length (round s step n (step x)) ≤ n → length (x ∷ if b [] (round s step n (step x))) ≤ suc n
    go true l = omega arith
    go false l = omega arith

-- ---- a loop over an iterator that has a list left: it began at s, which is i, and has met xs
module _ {S : Type 0} (rest : S → List ℕ) {i : S} (s t u : S) {all : List ℕ} (xs : List ℕ) (w : s ≡ i) (e : rest i ≡ all) (y : Yields (YieldsFirst rest) s xs t) {r : Option ℕ} (q : YieldsFirst rest t r u) where
  -- this turn's item is one of the list, which is longer than what was met
  pub at-turn : {P : ℕ → Type 0} → Every P all → {x : ℕ} → r ≡ Some x → P x × (length xs < length all)
  at-turn {P} v {x} a =
      let i = YieldsList-turn (YieldsList-from_first (λ x. x) rest all (ap rest w ∙ e)) xs t y r u x a q in
      (subst P (sym i.1) (every-at (length xs) x v i.0), i.0)

  -- at the end all were met
  pub at-end : r ≡ None → xs ≡ all
  at-end a = sym (map-id xs) ∙ (YieldsList-end (YieldsList-from_first (λ x. x) rest all (ap rest w ∙ e)) xs t y r u a q).0

-- ---- one point more
pub plus-push : (p : Point) (l : List Point) (x : Point) → plus p (l ++ x ∷ []) ≡ add_p (plus p l) x
unfolding plus
plus-push p [] x = refl
plus-push p (y ∷ l) x = plus-push (add_p p y) l x

pub summed-push : (p : Point) (l : List Point) (x : Point) → more (summed p l) x ≡ summed p (l ++ x ∷ [])
unfolding summed
summed-push p l x = rw (plus-push p l x, length-append l (x ∷ []))

pub summed-none : (p : Point) → record { total = p; count = 0 } ≡ summed p []
unfolding summed plus
summed-none p = refl

pub summed-more : (p : Point) (g : ℕ → Point) (xs : List ℕ) (x : ℕ) {s t : Sum} {q : Point} → s ≡ summed p (map g xs) → q ≡ g x → t ≡ more s q → t ≡ summed p (map g (xs ++ x ∷ []))
summed-more p g xs x hs hq ht = ht ∙ rw (hs, hq) (summed-push p (map g xs) (g x)) ∙ ap (summed p) (sym (map-append g xs (x ∷ [])))

pub summed-count : (p : Point) (g : ℕ → Point) (xs : List ℕ) {s : Sum} → s ≡ summed p (map g xs) → s.count ≡ length xs
unfolding summed
summed-count p g xs e = ap (λ (t : Sum). t.count) e ∙ length-map xs g

-- a face's point: the sum from its halfedge, divided by the count
pub face-point-is : (c : Counts) (es fs : List ℕ) (ps : List Float) {s : Sum} {q : Point} (f h : ℕ) → h ≡ link_at fs f → s ≡ summed zero_p (map (head_point es ps) (loop_at es c.e h)) →
    q ≡ over_p s.total (number s.count) → q ≡ face_point (mesh_of c [] es fs) ps f
unfolding face_point heads loop summed
face-point-is c es fs ps f h a b d = d ∙ rw (b, a, length-map (loop_at es c.e (link_at fs f)) (head_point es ps))
