-- The laws of walks. Assumes nothing.
use mathlib.Core.Path.{◌≡◌, refl, ap, subst, subst⁻¹}
use mathlib.Core.Logic.{◌⊎◌, inl, inr, ◌≢◌}
use mathlib.Core.List.{List}
use Prim.Native.Nat.{ℕ, zero, suc, ◌-◌, ◌≤◌, ◌<◌}
use native.Mathlib.Omega.{arith}
use Rattle.laws_check.proofs.Tells.{tells-map}
use Rattle.laws_check.specs.Tells.{Tells}
use Rattle.mesh.specs.Words.{face_at, link_at, next_at, tail_at, turn_at}
use Rattle.check_rounds.specs.Steps.{perm-next, perm-turn}
use Rattle.check_rounds.specs.Tour.{Walk}
use Rattle.check_rules.proofs.HalfLaws.{half-partner}
use Rattle.check_rules.specs.Place.{Half, Live}
use Rattle.check_rules.specs.Rule.{Faced, OnLoop, OnTurn, Rooted, Sewn}
use Rattle.scope.specs.Links.{NONE, partner}
use Rattle.laws_mesh.proofs.Cycle.{Perm, reach-bound, reach-one, reach-sym, split}
use Rattle.laws_mesh.specs.Reach.{Reach, iter}
use mathlib.Core.Bool.{Bool}

module _ {f : ℕ → ℕ} {Miss : ℕ → Type 0} {b n : ℕ} where
  pub walk_start : Walk f Miss b n n b
  walk_start = record { steps = zero; all = omega arith; here = refl; missed = λ i l. absurd (omega arith) }

  pub walk-on : {left x : ℕ} → Walk f Miss b n left x → 0 < left → Miss x → Walk f Miss b n (left - 1) (f x)
  walk-on {left} {x} w l m = record {
    steps = suc w.steps;
    all = let q = w.all in omega arith;
    here = ap f w.here;
    missed = λ i h. split i w.steps (λ e. subst⁻¹ (λ (j : ℕ). Miss (iter f j b)) e (subst⁻¹ Miss w.here m)) (λ ne. w.missed i (omega arith));
  }

-- n steps from f a cannot miss a
pub walk-closed : {P : ℕ → Type 0} {f g : ℕ → ℕ} {Q : ℕ → Type 0} {a n left x : ℕ} → Perm P n f g → P a → Walk f (λ y. (y ≢ a) × Q y) (f a) n left x → left ≤ 0 → ⊥
walk-closed {P} {f} {g} {Q} {a} p i w l =
    let (k, h, q) = reach-bound p (p.fore a i) (reach-sym p i (reach-one {f = f} {a = a} refl)) in
    (w.missed k (let z = w.all in omega arith)).0 q

-- ---- what a walk's answer says of its halfedge

pub loop-told : {ed em fl fm : List ℕ} {e nf b f : ℕ} {t : Bool} → Sewn ed em e → Faced ed em fl fm e nf → Half em e b → face_at ed b ≢ NONE → f ≡ face_at ed b
    → Tells t (Reach (next_at ed) b (link_at fl f)) → Tells t (OnLoop ed em fl e b)
loop-told {ed} {em} {fl} {fm} {e} {nf} {b} {f} s g i n q t = tells-map t
    (λ r _ _. subst (λ (x : ℕ). Reach (next_at ed) (link_at fl x) b) q (reach-sym (perm-next s) i r))
    (λ r. subst⁻¹ (λ (x : ℕ). Reach (next_at ed) b (link_at fl x)) q (reach-sym (perm-next s) (g.start_in (face_at ed b) (is_live (g.face_in b i))) (r i n)))
  where
    is_live : (face_at ed b ≡ NONE) ⊎ Live fm nf (face_at ed b) → Live fm nf (face_at ed b)
    is_live (inl z) = absurd (n z)
    is_live (inr z) = z

pub turn-told : {ed em ol vm : List ℕ} {e nv b v : ℕ} {t : Bool} → Sewn ed em e → Rooted ed em ol vm e nv → Half em e b → v ≡ tail_at ed b → link_at ol v ≢ NONE
    → Tells t (Reach (turn_at ed) b (link_at ol v)) → Tells t (OnTurn ed em ol e b)
turn-told {ed} {em} {ol} {vm} {e} {nv} {b} {v} s g i q n t =
    let n' : link_at ol (tail_at ed b) ≢ NONE = subst (λ (x : ℕ). link_at ol x ≢ NONE) q n in
    tells-map t
    (λ r _. (n', subst (λ (x : ℕ). Reach (turn_at ed) (link_at ol x) b) q (reach-sym (perm-turn s) i r)))
    (λ r. subst⁻¹ (λ (x : ℕ). Reach (turn_at ed) b (link_at ol x)) q (reach-sym (perm-turn s) (is-half (tail_at ed b) n' (g.out_in (tail_at ed b) (g.head_in (partner b) (half-partner em e b i)))) (r i).1))
  where
    is-half : (x : ℕ) → link_at ol x ≢ NONE → (link_at ol x ≡ NONE) ⊎ Half em e (link_at ol x) → Half em e (link_at ol x)
    is-half x n (inl z) = absurd (n z)
    is-half x n (inr z) = z
