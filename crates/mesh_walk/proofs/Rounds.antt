-- One step of a round of halfedges, and what a whole round gives. Assumes nothing.
use Prim.Native.Nat.{ℕ, zero, suc, ◌-◌, ◌*◌, ◌^◌, ◌≤◌, ◌<◌}
use mathlib.Core.Path.{◌≡◌, refl, sym, ap, ◌∙◌}
use mathlib.Core.Logic.{◌≢◌}
use mathlib.Core.Bool.{Bool, true, false, ◌||◌, cond}
use mathlib.Core.List.{List, [], ◌∷◌, map}
use Rattle.std.specs.Prelude.{Option, Some}
use Rattle.std.specs.List.{list_any, find}
use Rattle.std.specs.Iterator.{YieldsFirst, CallableAtEachTurn, ChecksAny, FindsItem}
use Rattle.std.specs.Fn.{Called, CalledAt}
use Rattle.std.proofs.lemmas.Iterator.Adapters.{option_map_id, serves_from_places}
use Rattle.std.proofs.lemmas.Iterator.Consumers.{YieldsList-from_first}
use Rattle.std.proofs.lemmas.Iterator.Search.{any_from_yields_List, find_from_yields_List}
use denote.Param.Members.{Mut}
use denote.Ref.{Bor}
use native.Mathlib.Omega.{arith}
use lib.Dec.{eqb}
use borrow.Author.Tests.{eqb-true, eqb-false}
use lib.ListN.{length, get_or}
use Rattle.scope.specs.Lists.{if, round, has}
use Rattle.scope.specs.Links.{partner}
use Rattle.mesh.specs.Words.{Has}
use Rattle.mesh.specs.Rounds.{after, first_of, Walk}
use Rattle.mesh.proofs.PartnerLaws.{partner-lt}
use Rattle.mesh.proofs.RoundLaws.{round-back, round-on, walk_here, walk-on, has_here, has-past, first-here, first_past, first-none, has-none}
use Rattle.mesh_walk.specs.Rounds.{Meets}

pub meets-here : {step : ℕ → ℕ} {es : List ℕ} {x : ℕ} → Meets step es x → Has es x
unfolding after
meets-here m = m.met 0

pub meets-on : {step : ℕ → ℕ} {es : List ℕ} {x y : ℕ} → y ≡ step x → Meets step es x → Meets step es y
unfolding after
meets-on {step} {es} {x} e m = rw e (record { met = λ i. m.met (suc i) })

pub round-out : (s : ℕ) (step : ℕ → ℕ) (n x : ℕ) → n ≡ 0 → round s step n x ≡ []
unfolding round
round-out s step n x e = rw e refl

pub round-last : (s : ℕ) (step : ℕ → ℕ) {n x y k : ℕ} → n ≢ 0 → y ≡ step x → y ≡ s → k ≡ 0 → round s step n x ≡ x ∷ round s step k y
unfolding round
round-last s step {n} {x} {y} {k} l e b z = rw (z) (round-back s step n x (omega arith) (sym e ∙ b))

pub round-next : (s : ℕ) (step : ℕ → ℕ) {n x y k : ℕ} → n ≢ 0 → y ≡ step x → y ≢ s → k ≡ n - 1 → round s step n x ≡ x ∷ round s step k y
round-next s step {n} {x} {y} {k} l e b z = rw (z, e) (round-on s step n x (omega arith) (λ w. b (e ∙ w)))

-- ---- a whole round
pub round-short : (s : ℕ) (step : ℕ → ℕ) (n x : ℕ) → length (round s step n x) ≤ n
unfolding round
round-short s step zero x = omega arith
round-short s step (suc n) x = go (eqb (step x) s) (round-short s step n (step x))
  where
    go : (b : Bool) → length (round s step n (step x)) ≤ n → length (x ∷ if b [] (round s step n (step x))) ≤ suc n
    go true l = omega arith
    go false l = omega arith

pub round-fits : (s : ℕ) (step : ℕ → ℕ) (n x : ℕ) → n < 2 ^ 64 → length (round s step n x) < 2 ^ 64
round-fits s step n x f = omega (arith, round-short s step n x)

-- what a round of a walk gives is there
round-met : {step : List ℕ → ℕ → ℕ} {es : List ℕ} {n x : ℕ} (s m k d : ℕ) → Walk step es n x → k < length (round s (step es) m x) → get_or (round s (step es) m x) k d < 2 * n
unfolding round
round-met s zero k d w l = absurd (omega arith)
round-met s (suc m) zero d w l = walk_here w
round-met {step} {es} {n} {x} s (suc m) (suc k) d w l = go (eqb (step es x) s) l (λ q. round-met s m k d (walk-on refl w) q)
  where
    go : (b : Bool) → suc k < length (x ∷ if b [] (round s (step es) m (step es x))) → (k < length (round s (step es) m (step es x)) → get_or (round s (step es) m (step es x)) k d < 2 * n)
        → get_or (x ∷ if b [] (round s (step es) m (step es x))) (suc k) d < 2 * n
    go true l f = absurd (omega arith)
    go false l f = f (omega arith)

pub round-has : {step : List ℕ → ℕ → ℕ} {es : List ℕ} {n h : ℕ} (x k : ℕ) → Walk step es n h → k < length (round h (step es) (2 * n) h) → x ≡ get_or (round h (step es) (2 * n) h) k x → Has es x × Has es (partner x)
round-has {step} {es} {n} {h} x k w l e =
    let b : x < 2 * n = rw e (round-met _ _ k x w l) in
    (omega (arith, w.room), omega (arith, partner-lt x n b, w.room))

-- so a test that asks for no more than that may be put to each
pub may_ask : {S F : Type 0} {rest : S → List ℕ} {s : S} {step : List ℕ → ℕ → ℕ} {es : List ℕ} {n h : ℕ} {R : F → ℕ → F → Type 0} {Q : F → ℕ → Type 0} {f : F}
    → rest s ≡ round h (step es) (2 * n) h → Walk step es n h → ((x : ℕ) (q : F) → R f x q → q ≡ f) → ((x : ℕ) → Has es x → Has es (partner x) → Q f x)
    → CallableAtEachTurn (YieldsFirst rest) R Q s f
may_ask {S} {F} {rest} {s} {step} {es} {n} {h} e w k a =
    serves_from_places (YieldsList-from_first (λ x. x) rest (round h (step es) (2 * n) h) e) k (λ x i l p. let b = round-has x i w l p in a x b.0 b.1)

-- ---- the searches, in scope's words
list_any_has : (v : ℕ) (l : List ℕ) → list_any (λ x. eqb x v) l ≡ has v l
list_any_has v [] = sym (has-none v)
list_any_has v (x ∷ l) = go (eqb x v) refl (list_any_has v l)
  where
    go : (b : Bool) → eqb x v ≡ b → list_any (λ x. eqb x v) l ≡ has v l → (b || list_any (λ x. eqb x v) l) ≡ has v (x ∷ l)
    go true e i = sym (has_here v x l (eqb-true x v e))
    go false e i = i ∙ sym (has-past v x l (eqb-false x v e))

list_any-map : (test : ℕ → Bool) (f : ℕ → ℕ) (l : List ℕ) → list_any (λ x. test (f x)) l ≡ list_any test (map f l)
list_any-map test f [] = refl
list_any-map test f (x ∷ l) = ap (λ b. test (f x) || b) (list_any-map test f l)

find_first : (test : ℕ → Bool) (l : List ℕ) → find test l ≡ first_of test l
find_first test [] = sym (first-none test)
find_first test (x ∷ l) = go (test x) refl (find_first test l)
  where
    go : (b : Bool) → test x ≡ b → find test l ≡ first_of test l → cond b (Some x) (find test l) ≡ first_of test (x ∷ l)
    go true e i = sym (first-here test x l e)
    go false e i = i ∙ sym (first_past test x l e)

module _ {S F : Type 0} {rest : S → List ℕ} {s : S} {l : List ℕ} (u : S) (f : F) (e : rest s ≡ l) where
  pub any_has : {g : Mut F (ℕ × Unit {0}) Bool} (v : ℕ) (r : Bool) → ChecksAny (YieldsFirst rest) g s f r u
      → ((x : ℕ) (b : Bool) (q : F) → Called g f (x, tt) b q → (q ≡ f) × (b ≡ eqb x v)) → r ≡ has v l
  any_has v r a t = any_from_yields_List (λ x. eqb x v) u f r a (YieldsList-from_first (λ x. x) rest l e) t ∙ list_any_has v l

  pub any_has_of : {g : Mut F (ℕ × Unit {0}) Bool} (of : ℕ → ℕ) (v : ℕ) (r : Bool) → ChecksAny (YieldsFirst rest) g s f r u
      → ((x : ℕ) (b : Bool) (q : F) → Called g f (x, tt) b q → (q ≡ f) × (b ≡ eqb (of x) v)) → r ≡ has v (map of l)
  any_has_of of v r a t = any_from_yields_List (λ x. eqb (of x) v) u f r a (YieldsList-from_first (λ x. x) rest l e) t ∙ list_any-map (λ x. eqb x v) of l ∙ list_any_has v (map of l)

  pub find_is : {g : Mut F (Bor ℕ × Unit {0}) Bool} (test : ℕ → Bool) (r : Option ℕ) → FindsItem (YieldsFirst rest) g s f r u
      → ((x : ℕ) (b : Bool) (q : F) → CalledAt g f x b q → (q ≡ f) × (b ≡ test x)) → r ≡ first_of test l
  find_is test r a t = sym (option_map_id r) ∙ find_from_yields_List test u f r a (YieldsList-from_first (λ x. x) rest l e) t ∙ find_first test l
