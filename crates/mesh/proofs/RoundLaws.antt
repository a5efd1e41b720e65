-- The laws of a walk, over any step: one step of `round` (it comes back, or goes on), what is met stays in range, and walks that agree. Assumes nothing.
use Prim.Native.Nat.{ℕ, zero, suc, ◌+◌, ◌-◌, ◌*◌, ◌≤◌, ◌<◌}
use mathlib.Core.Path.{◌≡◌, refl, sym, ap}
use mathlib.Core.Bool.{Bool, true, false}
use mathlib.Core.List.{List, [], ◌∷◌}
use mathlib.Core.Logic.{◌≢◌}
use Rattle.std.specs.Prelude.{None, Some}
use native.Mathlib.Omega.{arith}
use lib.Dec.{eqb}
use lib.ListN.{length, get_or, take}
use lib.Seq.{get_or-take}
use borrow.Author.Tests.{eq-eqb, ne_eqb, eqb-false}
use Rattle.scope.specs.Lists.{if, lay, over, round, has}
use Rattle.scope.specs.Links.{Links, NONE, partner, out, loop, around}
use Rattle.scope.specs.Passes.{rim_of}
use Rattle.mesh.specs.Words.{next_at, prev_at, turn_at, link_at, Has}
use Rattle.mesh.specs.Rounds.{loop_at, turns_at, around_at, side_at, first_of, after, Walk}
use Rattle.mesh.proofs.PartnerLaws.{partner-lt}
use Rattle.mesh.proofs.SliceLaws.{get_or-lay, get_d_over}

-- ---- one step; with no steps left the round is empty by computation
pub round-back : (s : ℕ) (step : ℕ → ℕ) (n x : ℕ) → 0 < n → step x ≡ s → round s step n x ≡ x ∷ []
unfolding round
round-back s step zero x l e = absurd (omega arith)
round-back s step (suc n) x l e = rw (eq-eqb (step x) s e)

pub round-on : (s : ℕ) (step : ℕ → ℕ) (n x : ℕ) → 0 < n → step x ≢ s → round s step n x ≡ x ∷ round s step (n - 1) (step x)
unfolding round
round-on s step zero x l e = absurd (omega arith)
round-on s step (suc n) x l e =
    let p : suc n - 1 ≡ n = omega arith in
    rw (ne_eqb (step x) s e, p)

-- ---- has, and the first that passes
pub has-none : (v : ℕ) → has v [] ≡ false
unfolding has
has-none v = refl

pub has_here : (v x : ℕ) (l : List ℕ) → x ≡ v → has v (x ∷ l) ≡ true
unfolding has
has_here v x l e = rw (eq-eqb v x (sym e))

pub has-past : (v x : ℕ) (l : List ℕ) → x ≢ v → has v (x ∷ l) ≡ has v l
unfolding has
has-past v x l e = rw (ne_eqb v x (λ w. e (sym w)))

pub first-none : (test : ℕ → Bool) → first_of test [] ≡ None
unfolding first_of
first-none test = refl

pub first-here : (test : ℕ → Bool) (x : ℕ) (l : List ℕ) → test x ≡ true → first_of test (x ∷ l) ≡ Some x
unfolding first_of
first-here test x l e = rw e

pub first_past : (test : ℕ → Bool) (x : ℕ) (l : List ℕ) → test x ≡ false → first_of test (x ∷ l) ≡ first_of test l
unfolding first_of
first_past test x l e = rw e

-- ---- what is met
pub walk_here : {step : List ℕ → ℕ → ℕ} {es : List ℕ} {n x : ℕ} → Walk step es n x → x < 2 * n
unfolding after
walk_here w = w.met 0

pub walk-has : {step : List ℕ → ℕ → ℕ} {es : List ℕ} {n x : ℕ} → Walk step es n x → Has es x
walk-has w = omega (arith, walk_here w, w.room)

pub walk-on : {step : List ℕ → ℕ → ℕ} {es : List ℕ} {n x y : ℕ} → y ≡ step es x → Walk step es n x → Walk step es n y
unfolding after
walk-on {step} {es} {n} {x} e w = rw e (record { room = w.room; met = λ i. w.met (suc i) })

-- a walk inside a set that the step does not leave
pub walk_inside : {step : List ℕ → ℕ → ℕ} {es : List ℕ} {n : ℕ} (P : ℕ → Type 0) → 8 * n ≤ length es → ((k : ℕ) → P k → k < 2 * n) → ((k : ℕ) → P k → P (step es k))
    → (x : ℕ) → P x → Walk step es n x
unfolding after
walk_inside {step} {es} {n} P r b c x p = record { room = r; met = λ i. go i x p }
  where
    go : (i x : ℕ) → P x → after (step es) i x < 2 * n
    go zero x p = b x p
    go (suc i) x p = go i (step es x) (c x p)

-- where every link is in range
pub walk-next : {es : List ℕ} {n : ℕ} → 8 * n ≤ length es → ((k : ℕ) → k < 2 * n → next_at es k < 2 * n) → (h : ℕ) → h < 2 * n → Walk next_at es n h
walk-next {es} {n} r c h l = walk_inside (λ (k : ℕ). k < 2 * n) r (λ k p. p) c h l

pub walk_turn : {es : List ℕ} {n : ℕ} → 8 * n ≤ length es → ((k : ℕ) → k < 2 * n → prev_at es k < 2 * n) → (h : ℕ) → h < 2 * n → Walk turn_at es n h
walk_turn {es} {n} r c h l = walk_inside (λ (k : ℕ). k < 2 * n) r (λ k p. p) (λ k p. partner-lt _ n (c k p)) h l

-- ---- walks that agree: two steps that are the same wherever the first leads from x
pub round_same : (s : ℕ) (f g : ℕ → ℕ) (n x : ℕ) → ((i : ℕ) → f (after f i x) ≡ g (after f i x)) → round s f n x ≡ round s g n x
unfolding round after
round_same s f g zero x e = refl
round_same s f g (suc n) x e = rw (sym (e 0), sym (round_same s f g n (f x) (λ i. e (suc i))))

-- two lists with the same words for n edges, such as a slice and the edges that it holds
pub record Agree (n : ℕ) (es l : List ℕ) : Type 0 where
  pub same : (i : ℕ) → i < 8 * n → get_or es i 0 ≡ get_or l i 0

pub agree-lay : (n : ℕ) (l old : List ℕ) → 8 * n ≤ length old → Agree n (lay 0 l old) l
agree-lay n l old r = record { same = λ i b. get_or-lay 0 l old i (omega arith) }

pub agree-over : (n : ℕ) (l old : List ℕ) → 8 * n ≤ length l → 8 * n ≤ length old → Agree n (over l old) l
agree-over n l old q r = record { same = λ i b. get_d_over l old i 0 (omega arith) (omega arith) }

pub agree-take : (n : ℕ) (es : List ℕ) → Agree n es (take (8 * n) es)
agree-take n es = record { same = λ i b. sym (get_or-take (8 * n) es i 0 b) }

pub agree-next : {n : ℕ} {es l : List ℕ} → Agree n es l → (k : ℕ) → k < 2 * n → next_at es k ≡ next_at l k
agree-next a k b = a.same (4 * k + 2) (omega arith)

pub agree-turn : {n : ℕ} {es l : List ℕ} → Agree n es l → (k : ℕ) → k < 2 * n → turn_at es k ≡ turn_at l k
agree-turn a k b = ap partner (a.same (4 * k + 3) (omega arith))

-- so a walk in the one is a walk in the other
pub walk_same : {step : List ℕ → ℕ → ℕ} {es l : List ℕ} {n h : ℕ} → ((k : ℕ) → k < 2 * n → step es k ≡ step l k) → 8 * n ≤ length es → Walk step l n h → Walk step es n h
unfolding after
walk_same {step} {es} {l} {n} {h} e r w = record { room = r; met = λ i. go i h w }
  where
    go : (i x : ℕ) → Walk step l n x → after (step es) i x < 2 * n
    go zero x w = walk_here w
    go (suc i) x w = go i (step es x) (walk-on (e x (walk_here w)) w)

pub loop-agree : {n : ℕ} {es l : List ℕ} {h : ℕ} → Agree n es l → Walk next_at es n h → loop_at es n h ≡ loop_at l n h
loop-agree {n} {es} {l} {h} a w = round_same h (next_at es) (next_at l) (2 * n) h (λ i. agree-next a _ (w.met i))

pub turns-agree : {n : ℕ} {es l : List ℕ} {h : ℕ} → Agree n es l → Walk turn_at es n h → turns_at es n h ≡ turns_at l n h
turns-agree {n} {es} {l} {h} a w = round_same h (turn_at es) (turn_at l) (2 * n) h (λ i. agree-turn a _ (w.met i))

-- ---- scope's loops, turns and rim sides, in a slice that holds a mesh's edges
pub loop_is : (m : Links) {es : List ℕ} {h : ℕ} → Agree m.ne es m.edges → Walk next_at es m.ne h → loop_at es m.ne h ≡ loop m h
unfolding loop
loop_is m a w = loop-agree a w

pub around-is : (m : Links) (outs : List ℕ) (v : ℕ) {es : List ℕ} → Agree m.ne es m.edges → link_at outs v ≡ out m v → (out m v ≢ NONE → Walk turn_at es m.ne (out m v))
    → around_at outs es m.ne v ≡ around m v
unfolding around
around-is m outs v {es} a e w = rw e (go (eqb (out m v) NONE) refl)
  where
    go : (t : Bool) → eqb (out m v) NONE ≡ t
        → if t [] (turns_at es m.ne (out m v)) ≡ if t [] (turns_at m.edges m.ne (out m v))
    go true q = refl
    go false q = turns-agree a (w (eqb-false (out m v) NONE q))

pub rim-of : (m : Links) (hs : List ℕ) → rim_of m hs ≡ first_of (side_at m.edges) hs
unfolding rim_of first_of
rim-of m [] = refl
rim-of m (h ∷ hs) = rw (rim-of m hs)
