-- The laws of tours: as many different halfedges as there are, are all. Assumes nothing.
use mathlib.Core.Path.{◌≡◌, refl, sym, ap, ◌∙◌, subst, subst⁻¹}
use mathlib.Core.Bool.{Bool, true, false}
use mathlib.Core.List.{List}
use mathlib.Core.Logic.{◌⊎◌, inl, inr, ◌≢◌}
use Prim.Native.Nat.{ℕ, zero, suc, ◌+◌, ◌-◌, ◌*◌, ◌/◌, ◌≤◌, ◌<◌}
use native.Mathlib.Omega.{arith}
use native.Mathlib.Decide.{dec_lt}
use lib.Dec.{T}
use lib.ListN.{get_or}
use Rattle.mesh.proofs.PartnerLaws.{partner-partner}
use Rattle.mesh.specs.Words.{face_at, head_at, link_at, next_at, prev_at, tail_at, turn_at}
use Rattle.check_rounds.proofs.RuleLaws.{rule-8}
use Rattle.check_rounds.specs.Steps.{perm-next, perm-turn}
use Rattle.check_rounds.specs.Tour.{AllLeave, AllOnLoop, LoopTour, Spun, Tour, TurnTour, Turned, Walk, bearing, spin_at, unmarked}
use Rattle.check_rules.proofs.HalfLaws.{half-partner}
use Rattle.check_rules.specs.Place.{Found, Half, Live, Low}
use Rattle.check_rules.specs.Rule.{Bears, R8, Rooted, Sewn}
use Rattle.scope.specs.Links.{NONE, partner}
use Rattle.scope.specs.Lists.{number_of}
use Rattle.laws_mesh.proofs.Count.{Length, count-some, some-all}
use Rattle.laws_mesh.proofs.Count as counts
use Rattle.std.specs.Prelude.{None}
use Rattle.laws_mesh.proofs.Cycle.{Perm, cancel, iter-front, iter-in, iter-reach, reach-one, reach-sim, reach-sym, reach-trans, reach-within}
use Rattle.laws_mesh.specs.Count.{bit, count}
use Rattle.laws_mesh.specs.Reach.{Reach, iter}
use native.Mathlib.Numerals.{add-one}
use borrow.Author.Tests.{eq-eqb, ne_eqb}

-- a below t, then b
abbrev chosen : {i t : ℕ} → Dec (i < t) → ℕ → ℕ → ℕ
chosen (yes l) a b = a
chosen (no l) a b = b

join : ℕ → (ℕ → ℕ) → (ℕ → ℕ) → ℕ → ℕ
join t a b i = chosen (dec_lt i t) (a i) (b (i - t))

join-low : (t : ℕ) (a b : ℕ → ℕ) (i : ℕ) → i < t → join t a b i ≡ a i
unfolding join
join-low t a b i l = go (dec_lt i t)
  where
    go : (d : Dec (i < t)) → chosen d (a i) (b (i - t)) ≡ a i
    go (yes q) = refl
    go (no q) = absurd (q l)

join-high : (t : ℕ) (a b : ℕ → ℕ) (i : ℕ) → t ≤ i → join t a b i ≡ b (i - t)
unfolding join
join-high t a b i l = go (dec_lt i t)
  where
    go : (d : Dec (i < t)) → chosen d (a i) (b (i - t)) ≡ b (i - t)
    go (yes q) = absurd (omega arith)
    go (no q) = refl

-- what holds of both parts holds of the whole
by_part : (Q : ℕ → Type 0) (t k : ℕ) (a b : ℕ → ℕ) → ((i : ℕ) → i < t → Q (a i)) → ((i : ℕ) → i < k → Q (b i)) → (i : ℕ) → i < t + k → Q (join t a b i)
by_part Q t k a b x y i l = go (dec_lt i t)
  where
    go : Dec (i < t) → Q (join t a b i)
    go (yes q) = subst⁻¹ Q (join-low t a b i q) (x i q)
    go (no q) = subst⁻¹ Q (join-high t a b i (omega arith)) (y (i - t) (omega arith))

module _ {p : ℕ → Bool} {place : ℕ → ℕ} {Met : ℕ → Type 0} {n : ℕ} where
  pub tour-start : Tour p place Met n 0 0
  tour-start = record {
    seq = λ i. i;
    in_range = λ i l. absurd (omega arith);
    passes = λ i l. absurd (omega arith);
    differ = λ i j h l. absurd (omega arith);
    done = λ i l. absurd (omega arith);
    met = λ i l. absurd (omega arith);
  }

  pub tour-skip : {u t : ℕ} → Tour p place Met n u t → Tour p place Met n (u + 1) t
  tour-skip r = record {
    seq = r.seq;
    in_range = r.in_range;
    passes = r.passes;
    differ = r.differ;
    done = λ i l. (let q = r.done i l in omega arith);
    met = r.met;
  }

  tour-some : {u t : ℕ} (r : Tour p place Met n u t) → counts.Some p n t r.seq
  tour-some r = record { in_range = r.in_range; passes = r.passes; differ = r.differ }

  -- no more than n
  pub tour-few : {u t : ℕ} → Tour p place Met n u t → t ≤ count p n
  tour-few {u} {t} r = count-some t p n r.seq (tour-some r)

  pub tour-all : {u t : ℕ} → Tour p place Met n u t → count p n ≡ t → (x : ℕ) → x < n → T (p x) → Met x
  tour-all {u} {t} r c x l y =
      let (i, b, e) = some-all t p n r.seq (tour-some r) c x l y in
      subst Met e (r.met i b)

  -- one more loop, whose members have the place u
  pub tour-add : {P : ℕ → Type 0} {f g : ℕ → ℕ} {u t k a : ℕ} → Perm P n f g → Tour p place Met n u t → P a
      → ((x : ℕ) → P x → place x ≡ u → (place (f x) ≡ u)) → place a ≡ u → ((x : ℕ) → P x → place x ≡ u → T (p x))
      → ((x : ℕ) → place x ≡ u → Reach f a x → Met x) → Length f a k
      → Tour p place Met n (u + 1) (t + k)
  tour-add {P} {f} {g} {u} {t} {k} {a} m r h keep home test meet len = record {
    seq = join t r.seq loop;
    in_range = by_part (λ (x : ℕ). x < n) t k r.seq loop r.in_range (λ i l. m.below (loop i) (iter-in m h i));
    passes = by_part (λ (x : ℕ). T (p x)) t k r.seq loop r.passes (λ i l. test (loop i) (iter-in m h i) (at-u i));
    differ = λ i j c d. apart i j c d (dec_lt i t) (dec_lt j t);
    done = by_part (λ (x : ℕ). place x < u + 1) t k r.seq loop (λ i l. (let q = r.done i l in omega arith)) (λ i l. (let q = at-u i in omega arith));
    met = by_part Met t k r.seq loop r.met (λ i l. meet (loop i) (at-u i) (iter-reach f a i));
  }
    where
      loop : ℕ → ℕ
      loop i = iter f i a

      at-u : (i : ℕ) → place (loop i) ≡ u
      at-u zero = home
      at-u (suc i) = keep (loop i) (iter-in m h i) (at-u i)

      apart : (i j : ℕ) → i < j → j < t + k → Dec (i < t) → Dec (j < t) → join t r.seq loop i ≢ join t r.seq loop j
      apart i j c d (yes x) (yes y) e = r.differ i j c y (sym (join-low t r.seq loop i x) ∙ e ∙ join-low t r.seq loop j y)
      apart i j c d (yes x) (no y) e =
          let q : place (r.seq i) ≡ place (loop (j - t)) = ap place (sym (join-low t r.seq loop i x) ∙ e ∙ join-high t r.seq loop j (omega arith)) in
          let w = r.done i x in
          let z = at-u (j - t) in
          omega arith
      apart i j c d (no x) (yes y) e = omega arith
      apart i j c d (no x) (no y) e =
          let q : loop (i - t) ≡ loop (j - t) = sym (join-high t r.seq loop i (omega arith)) ∙ e ∙ join-high t r.seq loop j (omega arith) in
          let s : (j - i) + (i - t) ≡ j - t = omega arith in
          len.no-sooner (j - i) (omega arith) (omega arith) (sym (cancel m h (i - t) (j - i) (q ∙ ap (λ (y : ℕ). iter f y a) (sym s))))

-- ---- counts

pub count_next : (p : ℕ → Bool) (k : ℕ) → count p (k + 1) ≡ count p k + bit (p k)
unfolding number_of
count_next p k = rw add-one

bit-few : (b : Bool) → bit b ≤ 1
bit-few true = omega arith
bit-few false = omega arith

pub count-few : (p : ℕ → Bool) (n : ℕ) → count p n ≤ n
unfolding number_of
count-few p zero = omega arith
count-few p (suc n) = let a = count-few p n in let b = bit-few (p n) in omega arith

-- ---- the two tours

unmarked-T : (em : List ℕ) (x : ℕ) → get_or em (x / 2) 0 ≡ 0 → T (unmarked em x)
unmarked-T em x e = subst⁻¹ T (eq-eqb (get_or em (x / 2) 0) 0 e) tt

bearing-T : (ed em : List ℕ) (x : ℕ) → get_or em (x / 2) 0 ≡ 0 → face_at ed x ≢ NONE → T (bearing ed em x)
bearing-T ed em x e n = rw (eq-eqb (get_or em (x / 2) 0) 0 e, ne_eqb (face_at ed x) NONE n) tt

module _ {ed em : List ℕ} {e : ℕ} (s : Sewn ed em e) where
  pub loop-add : (fl : List ℕ) {nf u t k : ℕ} → nf ≤ 1048576 → u < nf → Half em e (link_at fl u) → Bears ed fl u → Length (next_at ed) (link_at fl u) k → LoopTour ed em fl e u t → LoopTour ed em fl e (u + 1) (t + k)
  loop-add fl {nf} {u} few l h b len r =
      tour-add (perm-next s) r h (λ x i q. s.next_face x i ∙ q) b (λ x i q. bearing-T ed em x i.1 (λ z. let y : u ≡ NONE = sym q ∙ z in omega arith))
      (λ x q w. subst⁻¹ (λ (y : ℕ). Reach (next_at ed) (link_at fl y) x) q w) len

  pub turn-tail : (x : ℕ) → Half em e x → tail_at ed (turn_at ed x) ≡ tail_at ed x
  turn-tail x i = cc (s.next_prev x i, s.next_tail (prev_at ed x) (s.prev_in x i), partner-partner (prev_at ed x))

  pub turn-add : (ol : List ℕ) {u t k : ℕ} → link_at ol u ≢ NONE → Half em e (link_at ol u) → tail_at ed (link_at ol u) ≡ u → Length (turn_at ed) (link_at ol u) k → TurnTour ed em ol e u t → TurnTour ed em ol e (u + 1) (t + k)
  turn-add ol {u} n h b len r =
      tour-add (perm-turn s) r h (λ x i q. turn-tail x i ∙ q) b (λ x i q. unmarked-T em x i.1)
      (λ x q w. subst⁻¹ (λ (y : ℕ). (link_at ol y ≢ NONE) × Reach (turn_at ed) (link_at ol y) x) q (n, w)) len

  -- all that end where a ends are met by spinning from a
  pub spins : {ol vm : List ℕ} {nv : ℕ} → Rooted ed em ol vm e nv → Turned ed em ol vm e nv → (a b : ℕ) → Half em e a → Half em e b → head_at ed b ≡ head_at ed a → Reach (spin_at ed) a b
  spins {ol} {vm} {nv} g t a b i j q =
      let i' = half-partner em e a i in
      let j' = half-partner em e b j in
      let x = t.on_turn (partner a) i'.0 i' in
      let y = t.on_turn (partner b) j'.0 j' in
      let same : tail_at ed (partner b) ≡ tail_at ed (partner a) = cc (partner-partner a, partner-partner b) in
      let h = is-half x.0 (g.out_in (tail_at ed (partner a)) (g.head_in (partner (partner a)) (half-partner em e (partner a) i'))) in
      let r = reach-trans (reach-sym (perm-turn s) h x.1) (subst (λ (v : ℕ). Reach (turn_at ed) (link_at ol v) (partner b)) same y.1) in
      let z : Reach (spin_at ed) (partner (partner a)) (partner (partner b)) = reach-sim (Half em e) partner (perm-turn s).fore (λ v k. reach-one (cc (partner-partner v, partner-partner (prev_at ed v)))) i' r in
      subst (λ (v : ℕ). Reach (spin_at ed) a v) (partner-partner b) (subst (λ (v : ℕ). Reach (spin_at ed) v (partner (partner b))) (partner-partner a) z)
    where
      is-half : link_at ol (tail_at ed (partner a)) ≢ NONE → (link_at ol (tail_at ed (partner a)) ≡ NONE) ⊎ Half em e (link_at ol (tail_at ed (partner a))) → Half em e (link_at ol (tail_at ed (partner a)))
      is-half n (inl z) = absurd (n z)
      is-half n (inr z) = z

pub loop-whole : (ed em fl : List ℕ) {e u t : ℕ} → LoopTour ed em fl e u t → t ≡ count (bearing ed em) (2 * e) → AllOnLoop ed em fl e
loop-whole ed em fl r q = record { on_loop = λ k l i n. tour-all r (sym q) k l (bearing-T ed em k i.1 n) }

pub turn-whole : {ed em ol vm : List ℕ} {e v u t : ℕ} → AllLeave ed ol vm v → TurnTour ed em ol e u t → t ≡ count (unmarked em) (2 * e) → Turned ed em ol vm e v
turn-whole {ed} {em} a r q = record { leave = a.leave; on_turn = λ k l i. tour-all r (sym q) k l (unmarked-T em k i.1) }

pub low-none : {Ok : ℕ → Type 0} {place : ℕ → ℕ} {n limit : ℕ} → ((k : ℕ) → k < n → Ok k) → Low Ok place n limit None
low-none a = record { finds = λ k i _. a k i }

-- a walk that comes back has met every other with a's key
pub only_at : {f key : ℕ → ℕ} {a n left x b : ℕ} → Walk f (λ y. (y ≢ a) × (key y ≢ key a)) (f a) n left x → x ≡ a → Reach f a b → key b ≡ key a → b ≡ a
only_at {f} {key} {a} {n} {left} {x} {b} w q r z = go (reach-within w.steps (iter-front f a w.steps ∙ w.here ∙ q) r)
  where
    go : (k : ℕ) × (k ≤ w.steps) × (iter f k a ≡ b) → b ≡ a
    go (zero, l, y) = sym y
    go (suc k, l, y) = absurd ((w.missed k l).1 (ap key (sym (iter-front f a k) ∙ y) ∙ z))

pub spun : {ed em ol vm : List ℕ} {e nv : ℕ} → Sewn ed em e → Rooted ed em ol vm e nv → Turned ed em ol vm e nv → Spun ed em e
spun s g t = record { spin = spins s g t }

pub turned-8 : {ed em ol vm : List ℕ} {e nv : ℕ} → Rooted ed em ol vm e nv → Turned ed em ol vm e nv → Found (λ (k : ℕ). Live vm nv k → R8 ed em ol e k) nv None
turned-8 g t = rule-8 {a = None} {b = None} {r = None} g (record { finds = t.leave }) (low-none t.on_turn) (record { at_most_a = λ x e. cc; at_most_b = λ x e. cc; either = inl refl })

-- the turn around a's head closes
pub perm-spin : {ed em : List ℕ} {e : ℕ} → Sewn ed em e → Perm (Half em e) (2 * e) (spin_at ed) (λ h. partner (next_at ed h))
perm-spin {ed} {em} {e} s = record {
  below = λ x i. i.0;
  fore = λ x i. s.prev_in (partner x) (half-partner em e x i);
  back = λ x i. half-partner em e (next_at ed x) (s.next_in x i);
  gf = λ x i. cc (s.next_prev (partner x) (half-partner em e x i), partner-partner x);
  fg = λ x i. cc (partner-partner (next_at ed x), s.prev_next x i);
}

pub spin-head : {ed em : List ℕ} {e : ℕ} → Sewn ed em e → (x : ℕ) → Half em e x → head_at ed (spin_at ed x) ≡ head_at ed x
spin-head {ed} {em} {e} s x i =
    let j = half-partner em e x i in
    cc (s.next_prev (partner x) j, s.next_tail (prev_at ed (partner x)) (s.prev_in (partner x) j), partner-partner x)
