-- The laws of least halfedges: each loop and each turn has one, and what holds of it holds of all. Assumes nothing.
use mathlib.Core.Path.{◌≡◌, refl, sym, ◌∙◌, subst⁻¹}
use mathlib.Core.Logic.{◌⊎◌, inl, inr, ◌≢◌}
use mathlib.Core.List.{List}
use Rattle.std.specs.Prelude.{Option, None, Some, MatchOption}
use Prim.Native.Nat.{ℕ, zero, suc, ◌*◌, ◌<◌}
use native.Mathlib.Omega.{arith}
use native.Mathlib.Decide.{dec_lt}
use Rattle.scope.specs.Links.{NONE}
use Rattle.mesh.specs.Words.{face_at, link_at, next_at, tail_at, turn_at}
use Rattle.laws_mesh.specs.Reach.{Reach, here, iter}
use Rattle.laws_mesh.proofs.Cycle.{First, first, Perm, iter-in, iter-reach, reach-bound, reach-in, reach-ind, reach-sym, reach-trans}
use Rattle.check_rules.specs.Place.{Half, Low, Lowest}
use Rattle.check_rules.specs.Rule.{OnLoop, OnTurn, Sewn}
use Rattle.check_rounds.specs.Tour.{Least, LedLoop, LedTurn}
use Rattle.check_rounds.specs.Steps.{perm-next, perm-turn}
use Rattle.check_rounds.proofs.TourLaws.{turn-tail}

module _ {P : ℕ → Type 0} {n : ℕ} {f g : ℕ → ℕ} (m : Perm P n f g) where
  down : (k a : ℕ) → a < k → P a → (b : ℕ) × Reach f a b × Least f b
  down zero a l p = absurd (omega arith)
  down (suc k) a l p = go (λ b h q. down k b h q) (first (λ i. iter f i a < a) (λ i. dec_lt (iter f i a) a) n)
    where
      go : ((b : ℕ) → b < k → P b → (c : ℕ) × Reach f b c × Least f c) → First (λ i. iter f i a < a) n ⊎ ((i : ℕ) → i < n → ¬ (iter f i a < a)) → (b : ℕ) × Reach f a b × Least f b
      go rec (inl (i, _, h, _)) = let (b, r, q) = rec (iter f i a) (omega arith) (iter-in m p i) in (b, reach-trans (iter-reach f a i) r, q)
      go rec (inr away) = (a, here, λ b r. let (i, h, e) = reach-bound m p r in let x = away i h in omega arith)

  pub least-of : {a : ℕ} → P a → (b : ℕ) × Reach f a b × Least f b
  least-of {a} p = down (suc a) a (omega arith) p

  -- the lowest place, looked for at the least of each cycle only
  pub low-led : {Q : ℕ → Type 0} {place : ℕ → ℕ} {limit : ℕ} {r : Option ℕ} → ((a b : ℕ) → P a → Reach f a b → (place b ≡ place a) × (Q b → Q a))
      → Low (λ k. P k → Least f k → Q k) place n limit r → Low (λ k. P k → Q k) place n limit r
  low-led {Q} {place} {limit} {r} same l = record { finds = go r l.finds }
    where
      led : (k : ℕ) → P k → ((b : ℕ) → P b → place b ≡ place k → Least f b → Q b) → Q k
      led k p h =
          let (b, u, q) = least-of p in
          let (e, back) = same k b p u in
          back (h b (reach-in m p u) e q)

      go : (r : Option ℕ) → MatchOption r ((k : ℕ) → k < n → place k < limit → P k → Least f k → Q k) (Lowest (λ k. P k → Least f k → Q k) place n limit)
          → MatchOption r ((k : ℕ) → k < n → place k < limit → P k → Q k) (Lowest (λ k. P k → Q k) place n limit)
      go None l = λ k i h p. led k p (λ b p' e q. l b (m.below b p') (omega arith) p' q)
      go (Some x) l = record {
        within = l.within;
        before = λ k i h p. led k p (λ b p' e q. l.before b (m.below b p') (omega arith) p' q);
        broken = let (k, i, e, not) = l.broken in (k, i, e, λ ok. not (λ p _. ok p));
      }

module _ {ed em : List ℕ} {e : ℕ} (s : Sewn ed em e) where
  loop-same : (fl : List ℕ) (a b : ℕ) → Half em e a → Reach (next_at ed) a b
      → (face_at ed b ≡ face_at ed a) × ((face_at ed b ≢ NONE → Reach (next_at ed) (link_at fl (face_at ed b)) b) → face_at ed a ≢ NONE → Reach (next_at ed) (link_at fl (face_at ed a)) a)
  loop-same fl a b i r =
      let q = (reach-ind (λ (x : ℕ). Half em e x × (face_at ed x ≡ face_at ed a)) (λ x (j, z). (s.next_in x j, s.next_face x j ∙ z)) (i, refl) r).1 in
      (q, λ o n. reach-trans (subst⁻¹ (λ (x : ℕ). Reach (next_at ed) (link_at fl x) b) (sym q) (o (λ z. n (sym q ∙ z)))) (reach-sym (perm-next s) i r))

  turn-same : (ol : List ℕ) (a b : ℕ) → Half em e a → Reach (turn_at ed) a b
      → (tail_at ed b ≡ tail_at ed a) × ((link_at ol (tail_at ed b) ≢ NONE) × Reach (turn_at ed) (link_at ol (tail_at ed b)) b → (link_at ol (tail_at ed a) ≢ NONE) × Reach (turn_at ed) (link_at ol (tail_at ed a)) a)
  turn-same ol a b i r =
      let q = (reach-ind (λ (x : ℕ). Half em e x × (tail_at ed x ≡ tail_at ed a)) (λ x (j, z). ((perm-turn s).fore x j, turn-tail s x j ∙ z)) (i, refl) r).1 in (
        q,
        λ (o, u). (
          subst⁻¹ (λ (x : ℕ). link_at ol x ≢ NONE) (sym q) o,
          reach-trans (subst⁻¹ (λ (x : ℕ). Reach (turn_at ed) (link_at ol x) b) (sym q) u) (reach-sym (perm-turn s) i r),
        ),
      )

  pub loops-led : (fl : List ℕ) {nf : ℕ} {r : Option ℕ} → Low (λ (k : ℕ). LedLoop ed em fl e k) (λ (k : ℕ). face_at ed k) (2 * e) nf r → Low (λ (k : ℕ). OnLoop ed em fl e k) (λ (k : ℕ). face_at ed k) (2 * e) nf r
  loops-led fl = low-led (perm-next s) (loop-same fl)

  pub turns-led : (ol : List ℕ) {nv : ℕ} {r : Option ℕ} → Low (λ (k : ℕ). LedTurn ed em ol e k) (λ (k : ℕ). tail_at ed k) (2 * e) nv r → Low (λ (k : ℕ). OnTurn ed em ol e k) (λ (k : ℕ). tail_at ed k) (2 * e) nv r
  turns-led ol = low-led (perm-turn s) (turn-same ol)
