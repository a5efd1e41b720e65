-- Passes one after the other, over any scheme that keeps its laws. Assumes nothing.
use Rattle.std.proofs.lemmas.Option.{none-some}
use mathlib.Core.Path.{◌≡◌, refl, sym, ap, ◌∙◌}
use mathlib.Core.Bool.{Bool}
use mathlib.Core.List.{List}
use Rattle.std.specs.Prelude.{Option, None, Some}
use Prim.Native.Nat.{ℕ, zero, suc, ◌+◌, ◌*◌, ◌≤◌, ◌<◌}
use native.Mathlib.Omega.{arith}
use lib.ListN.{length}
use lib.Ieee.{Float}
use Rattle.scope.specs.Lists.{sum}
use Rattle.scope.specs.Links.{Links}
use Rattle.scope.specs.Tally.{Tally, tally_of}
use Rattle.scope.specs.Call.{Scheme, in_pass, links, points, tally, turned, heavy, begin}
use Rattle.laws_mesh.specs.Of.{Good}
use Rattle.laws_mesh.specs.Sides.{Within, Sided}
use Rattle.laws_mesh.proofs.Loops.{face-three}
use Rattle.laws_call.specs.Laws.{Faced, Step, Laws}

-- ---- tallies
step-refl : (t : Tally) → Faced t → Step t t
step-refl t h = omega arith

pub step-trans : (r s t : Tally) → Step r s → Step s t → Step r t
step-trans r s t p q = omega arith

pub within_step : (s t : Tally) → Step s t → Within t → Within s
within_step s t p h = omega arith

-- ---- a face of a good mesh has three halfedges or more
sum-at-least : (k n : ℕ) (f : ℕ → ℕ) → ((i : ℕ) → i < n → k ≤ f i) → k * n ≤ sum n f
unfolding sum
sum-at-least k zero f h = omega arith
sum-at-least k (suc n) f h =
    let e = sum-at-least k n f (λ i l. h i (omega arith)) in
    let g = h n (omega arith) in
    omega arith

pub good-faced : (m : Links) → Good m → Faced (tally_of m)
unfolding tally_of
good-faced m g = sum-at-least 3 m.nf _ (face-three m g)

-- ---- a place in a pass, that many passes later
abbrev pub moved : ℕ → Option (ℕ × ℕ) → Option (ℕ × ℕ)
moved a None = None
moved a (Some p) = Some (a + p.0, p.1)

module _ (S : Scheme) where
  -- ---- a, then b, are n = a + b
  pub links-add : (a b n : ℕ) → n ≡ a + b → (flag : Bool) (m : Links) → links S n flag m ≡ links S b (turned S a flag) (links S a flag m)
  unfolding links turned
  links-add zero b n e flag m = let q : n ≡ b = omega arith in rw q
  links-add (suc a) b zero e flag m = absurd (omega arith)
  links-add (suc a) b (suc n) e flag m = links-add a b n (omega arith) (S.turn flag) (S.pass flag m)

  pub points-add : (a b n : ℕ) → n ≡ a + b → (flag : Bool) (m : Links) (ps : List Float) →
      points S n flag m ps ≡ points S b (turned S a flag) (links S a flag m) (points S a flag m ps)
  unfolding links turned points
  points-add zero b n e flag m ps = let q : n ≡ b = omega arith in rw q
  points-add (suc a) b zero e flag m ps = absurd (omega arith)
  points-add (suc a) b (suc n) e flag m ps = points-add a b n (omega arith) (S.turn flag) (S.pass flag m) (S.smooth flag m ps)

  pub tally-add : (a b n : ℕ) → n ≡ a + b → (flag : Bool) (t : Tally) → tally S n flag t ≡ tally S b (turned S a flag) (tally S a flag t)
  unfolding tally turned
  tally-add zero b n e flag t = let q : n ≡ b = omega arith in rw q
  tally-add (suc a) b zero e flag t = absurd (omega arith)
  tally-add (suc a) b (suc n) e flag t = tally-add a b n (omega arith) (S.turn flag) (S.grow flag t)

  pub turned-add : (a b n : ℕ) → n ≡ a + b → (flag : Bool) → turned S n flag ≡ turned S b (turned S a flag)
  unfolding turned
  turned-add zero b n e flag = let q : n ≡ b = omega arith in rw q
  turned-add (suc a) b zero e flag = absurd (omega arith)
  turned-add (suc a) b (suc n) e flag = turned-add a b n (omega arith) (S.turn flag)

  -- a vertex without weight in the first a passes is met in n too
  early-go : (o : Option ℕ) (i : ℕ) (x y : Option (ℕ × ℕ)) (p : ℕ × ℕ) → (x ≡ Some p → y ≡ Some p) → in_pass i o x ≡ Some p → in_pass i o y ≡ Some p
  early-go None i x y p k r = k r
  early-go (Some v) i x y p k r = r

  pub heavy-early : (a b n : ℕ) → n ≡ a + b → (i : ℕ) (flag : Bool) (m : Links) (p : ℕ × ℕ) → heavy S a i flag m ≡ Some p → heavy S n i flag m ≡ Some p
  unfolding heavy
  heavy-early zero b n e i flag m p q = absurd (none-some p q)
  heavy-early (suc a) b zero e i flag m p q = absurd (omega arith)
  heavy-early (suc a) b (suc n) e i flag m p q =
      early-go (S.weightless flag m) i _ _ p (heavy-early a b n (omega arith) (suc i) (S.turn flag) (S.pass flag m) p) q

  -- counted from a later pass, it is named that many passes later
  moved-go : (o : Option ℕ) (a i j : ℕ) (x y : Option (ℕ × ℕ)) → j ≡ a + i → x ≡ moved a y → in_pass j o x ≡ moved a (in_pass i o y)
  moved-go None a i j x y e h = h
  moved-go (Some v) a i j x y e h = rw e

  heavy-moved : (b a i j : ℕ) → j ≡ a + i → (flag : Bool) (m : Links) → heavy S b j flag m ≡ moved a (heavy S b i flag m)
  unfolding heavy
  heavy-moved zero a i j e flag m = refl
  heavy-moved (suc b) a i j e flag m =
      moved-go (S.weightless flag m) a i j _ _ e (heavy-moved b a (suc i) (suc j) (omega arith) (S.turn flag) (S.pass flag m))

  -- past a passes without one, it is as from there on
  late-go : (o : Option ℕ) (i : ℕ) (x y z : Option (ℕ × ℕ)) → (x ≡ None → y ≡ z) → in_pass i o x ≡ None → in_pass i o y ≡ z
  late-go None i x y z k r = k r
  late-go (Some v) i x y z k r = absurd (none-some (i, v) (sym r))

  heavy-from : (a b n : ℕ) → n ≡ a + b → (i j : ℕ) → j ≡ a + i → (flag : Bool) (m : Links) → heavy S a i flag m ≡ None →
      heavy S n i flag m ≡ heavy S b j (turned S a flag) (links S a flag m)
  unfolding heavy turned links
  heavy-from zero b n e i j d flag m q =
      let r : n ≡ b = omega arith in
      let s : j ≡ i = omega arith in
      rw (r, s)
  heavy-from (suc a) b zero e i j d flag m q = absurd (omega arith)
  heavy-from (suc a) b (suc n) e i j d flag m q =
      late-go (S.weightless flag m) i _ _ _ (heavy-from a b n (omega arith) (suc i) j (omega arith) (S.turn flag) (S.pass flag m)) q

  pub heavy-late : (a b n : ℕ) → n ≡ a + b → (flag : Bool) (m : Links) → heavy S a 1 flag m ≡ None →
      heavy S n 1 flag m ≡ moved a (heavy S b 1 (turned S a flag) (links S a flag m))
  heavy-late a b n e flag m q =
      heavy-from a b n e 1 (a + 1) refl flag m q ∙ heavy-moved b a 1 (a + 1) refl (turned S a flag) (links S a flag m)

  -- ---- what the laws give for many passes
  module _ (sides : ℕ) (w : Laws S sides) where
    pub tally-step : (k : ℕ) (flag : Bool) (t : Tally) → Faced t → Step t (tally S k flag t)
    unfolding tally
    tally-step zero flag t h = step-refl t h
    tally-step (suc k) flag t h =
        let g = w.grow_step flag t h in
        step-trans t (S.grow flag t) _ g (tally-step k (S.turn flag) (S.grow flag t) g.faced)

    -- after a passes whose counts stay within the limit
    pub record After (a : ℕ) (flag : Bool) (m : Links) : Type 0 where
      pub at : w.At (turned S a flag) (links S a flag m)
      pub as-counted : tally_of (links S a flag m) ≡ tally S a flag (tally_of m)
      pub points-long : (ps : List Float) → length ps ≡ 3 * m.nv → length (points S a flag m ps) ≡ 3 * (links S a flag m).nv

    pub after : (a : ℕ) (flag : Bool) (m : Links) → w.At flag m → Within (tally S a flag (tally_of m)) → After a flag m
    unfolding turned links tally points
    after zero flag m h r = record { at = h; as-counted = refl; points-long = λ ps l. l }
    after (suc a) flag m h r =
        let g = w.grow_step flag (tally_of m) (good-faced m (w.at_good flag m h)) in
        let inside = within_step _ _ (tally-step a (S.turn flag) (S.grow flag (tally_of m)) g.faced) r in
        let e = w.pass_tally flag m h inside in
        let rest = after a (S.turn flag) (S.pass flag m) (w.goes_on flag m h inside) (rw e r) in
        record {
          at = rest.at;
          as-counted = rest.as-counted ∙ ap (tally S a (S.turn flag)) e;
          points-long = λ ps l. rest.points-long (S.smooth flag m ps) (w.smooth_long flag m ps h inside l);
        }

    -- the last of them left faces with that many halfedges
    pub after-sides : (a : ℕ) (flag : Bool) (m : Links) → w.At flag m → Within (tally S (suc a) flag (tally_of m)) → Sided sides (links S (suc a) flag m)
    unfolding links tally
    after-sides zero flag m h r = w.pass_sides flag m h r
    after-sides (suc a) flag m h r =
        let g = w.grow_step flag (tally_of m) (good-faced m (w.at_good flag m h)) in
        let inside = within_step _ _ (tally-step (suc a) (S.turn flag) (S.grow flag (tally_of m)) g.faced) r in
        after-sides a (S.turn flag) (S.pass flag m) (w.goes_on flag m h inside) (rw (w.pass_tally flag m h inside) r)

    -- a call that starts where a pass may begin prepares nothing
    pub resumes : (flag : Bool) (m : Links) → w.At flag m → (b : ℕ) → begin S b flag m ≡ record { links = m; flag = flag; tally = tally_of m }
    unfolding begin
    resumes flag m h zero = refl
    resumes flag m h (suc b) = rw (w.at_prepared flag m h, w.at_settled flag m h, w.at_ready flag m h)
