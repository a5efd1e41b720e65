-- A face's loop, known by its length, as parts: each halfedge a part, or each two. Assumes nothing.
use mathlib.Core.Path.{◌≡◌, refl, sym, ap, ◌∙◌, subst, subst⁻¹}
use mathlib.Core.Logic.{◌⊎◌, inl, inr, ◌≢◌}
use Prim.Native.Nat.{ℕ, zero, suc, ◌+◌, ◌-◌, ◌*◌, ◌/◌, ◌%◌, ◌<◌}
use native.Mathlib.Nat.{not-suc-le-zero}
use native.Mathlib.Omega.{arith}
use lib.Dec.{eqb}
use lib.ListN.{length}
use Rattle.scope.specs.Lists.{if}
use Rattle.scope.specs.Links.{NONE}
use Rattle.scope.specs.Edits.{Part, singles}
use Rattle.scope.specs.Passes.{pairs}
use Rattle.laws_mesh.specs.Reach.{Reach, iter}
use Rattle.laws_mesh.specs.Mesh.{Mesh, Shape, Consistent}
use Rattle.laws_mesh.proofs.Cycle.{split, if-eq, if-ne, Perm, cancel, iter-reach, reach-ind, reach-within}
use Rattle.laws_mesh.proofs.Facts.{perm-next, next-ne}
use Rattle.laws_mesh.proofs.Count.{Length}
use Rattle.laws_mesh.proofs.Loops.{steps}
use Rattle.laws_mesh.proofs.Ring.{under, after, before, after_last, after-other, after-lt, before-lt, after-before, before-after}
use Rattle.laws_mesh.proofs.Parts.{Parts}
use Rattle.laws_mesh.proofs.FanOn.{Names, Run}

-- ---- a cycle of n

-- its members are met once each
pub cycle-once : {P : ℕ → Type 0} {z n x : ℕ} {f g : ℕ → ℕ} → Perm P z f g → P x → Length f x n → (i j : ℕ) → i < n → j < n → iter f i x ≡ iter f j x → i ≡ j
cycle-once {P} {z} {n} {x} {f} m p len i j l h e = under i j (λ u. absurd (less i j u h e)) (λ u. split i j (λ q. q) (λ q. absurd (less j i (omega arith) l (sym e))))
  where
    less : (i j : ℕ) → i < j → j < n → iter f i x ≢ iter f j x
    less i j u h e =
        let w : j - i + i ≡ j = omega arith in
        len.no-sooner (j - i) (omega arith) (omega arith) (sym (cancel m p i (j - i) (e ∙ ap (λ (k : ℕ). iter f k x) (sym w))))

-- and all that x reaches are among them
pub cycle-met : {n x y : ℕ} {f : ℕ → ℕ} → Length f x n → Reach f x y → (k : ℕ) × (k < n) × (y ≡ iter f k x)
cycle-met {n} {x} {y} {f} len r = go n len.long len.closes
  where
    go : (n : ℕ) → 0 < n → iter f n x ≡ x → (k : ℕ) × (k < n) × (y ≡ iter f k x)
    go zero h e = absurd (not-suc-le-zero h)
    go (suc n) h e = let (i, u, w) = reach-within n e r in (i, omega arith, sym w)

-- walking on from the member k
pub cycle-on : {n x : ℕ} {f : ℕ → ℕ} → Length f x n → (k : ℕ) → k < n → f (iter f k x) ≡ iter f (after n k) x
cycle-on {n} {x} {f} len k l = split (suc k) n
    (λ e. ap (λ (i : ℕ). iter f i x) e ∙ len.closes ∙ ap (λ (i : ℕ). iter f i x) (sym (after_last n k e)))
    (λ e. ap (λ (i : ℕ). iter f i x) (sym (after-other n k (omega arith))))

-- ---- the faces of parts

-- f last, and the others from g on; or f first
unfoldable pub name-last : ℕ → ℕ → ℕ → ℕ → ℕ
name-last f g n i = if (eqb (suc i) n) f (g + i)

unfoldable pub name-first : ℕ → ℕ → ℕ → ℕ
name-first f g zero = f
name-first f g (suc i) = g + i

module _ (f g n : ℕ) where
  last-f : (i : ℕ) → suc i ≡ n → name-last f g n i ≡ f
  unfolding name-last
  last-f i e = if-eq (suc i) n f (g + i) e

  last-new : (i : ℕ) → suc i ≢ n → name-last f g n i ≡ g + i
  unfolding name-last
  last-new i e = if-ne (suc i) n f (g + i) e

  first-f : (i : ℕ) → i ≡ 0 → name-first f g i ≡ f
  unfolding name-first
  first-f zero e = refl
  first-f (suc i) e = absurd (omega arith)

  first-new : (i : ℕ) → i ≢ 0 → name-first f g i ≡ g + (i - 1)
  unfolding name-first
  first-new zero e = absurd (e refl)
  first-new (suc i) e = let q : g + i ≡ g + (suc i - 1) = omega arith in q

  module _ (old : f < g) (some : 0 < n) where
    pub names-last : Names f g n (name-last f g n)
    names-last = record {
      sub_is = λ k l. split (suc k) n (λ e. inl (last-f k e)) (λ e. inr (let q = last-new k e in (omega arith, omega arith)));
      sub_once = λ k j l h e. split (suc k) n
          (λ u. split (suc j) n (λ v. (omega arith)) (λ v. let a = last-f k u in let b = last-new j v in absurd (omega arith)))
          (λ u. split (suc j) n (λ v. let a = last-new k u in let b = last-f j v in absurd (omega arith)) (λ v. let a = last-new k u in let b = last-new j v in omega arith));
      f-met = (n - 1, omega arith, sym (last-f (n - 1) (omega arith)));
      new-met = λ x u v. (x - g, omega arith, (let q = last-new (x - g) (omega arith) in omega arith));
    }

    pub names-first : Names f g n (name-first f g)
    names-first = record {
      sub_is = λ k l. split k 0 (λ e. inl (first-f k e)) (λ e. inr (let q = first-new k e in (omega arith, omega arith)));
      sub_once = λ k j l h e. split k 0
          (λ u. split j 0 (λ v. u ∙ sym v) (λ v. let a = first-f k u in let b = first-new j v in absurd (omega arith)))
          (λ u. split j 0 (λ v. let a = first-new k u in let b = first-f j v in absurd (omega arith)) (λ v. let a = first-new k u in let b = first-new j v in omega arith));
      f-met = (0, some, sym (first-f 0 refl));
      new-met = λ x u v. (suc (x - g), omega arith, (let q = first-new (suc (x - g)) (omega arith) in omega arith));
    }

-- ---- scope's lists of parts

part_is : {a a' b b' g g' : ℕ} → a ≡ a' → b ≡ b' → g ≡ g' → (let q : Part = record { a = a; b = b; g = g } in q) ≡ record { a = a'; b = b'; g = g' }
part_is {a} {a'} {b} {b'} {g} {g'} p q r =
    ap (λ (x : ℕ). (let y : Part = record { a = x; b = b; g = g } in y)) p
    ∙ ap (λ (x : ℕ). (let y : Part = record { a = a'; b = x; g = g } in y)) q
    ∙ ap (λ (x : ℕ). (let y : Part = record { a = a'; b = b'; g = x } in y)) r

-- each halfedge a part, the last with f
abbrev pub single : (ℕ → ℕ) → ℕ → ℕ → ℕ → ℕ → ℕ → Part
single nx x f g n i = record { a = iter nx i x; b = iter nx i x; g = name-last f g n i }

pub singles-run : (nx : ℕ → ℕ) (x f g n i k : ℕ) → i + k ≡ n → Run (single nx x f g n) i (singles f (g + i) (steps nx (iter nx i x) k))
unfolding singles steps
singles-run nx x f g n i zero e = tt
singles-run nx x f g n i (suc zero) e = (part_is refl refl (sym (last-f f g n i (omega arith))), tt)
singles-run nx x f g n i (suc (suc k)) e = (
  part_is refl refl (sym (last-new f g n i (omega arith))),
  (
      subst (λ (z : ℕ). Run (single nx x f g n) (suc i) (singles f z (steps nx (iter nx (suc i) x) (suc k)))) (let q : g + suc i ≡ suc (g + i) = omega arith in q)
      (singles-run nx x f g n (suc i) (suc k) (omega arith))),
)

pub singles-length : (nx : ℕ → ℕ) (x f g k : ℕ) → length (singles f g (steps nx x k)) ≡ k
unfolding singles steps
singles-length nx x f g zero = refl
singles-length nx x f g (suc zero) = refl
singles-length nx x f g (suc (suc k)) = ap suc (singles-length nx (nx x) f (suc g) (suc k))

-- each two a part, the first with f
abbrev pub double : (ℕ → ℕ) → ℕ → ℕ → ℕ → ℕ → Part
double nx x f g i = record { a = iter nx (2 * i) x; b = iter nx (suc (2 * i)) x; g = name-first f g i }

pub pairs-run : (nx : ℕ → ℕ) (x f g i k : ℕ) → Run (double nx x f g) i (pairs (name-first f g i) (g + i) (steps nx (iter nx (2 * i) x) (2 * k)))
unfolding pairs steps name-first
pairs-run nx x f g i zero = tt
pairs-run nx x f g i (suc k) =
    subst⁻¹ (λ (z : ℕ). Run (double nx x f g) i (pairs (name-first f g i) (g + i) (steps nx (iter nx (2 * i) x) z))) (let q : 2 * suc k ≡ suc (suc (2 * k)) = omega arith in q) (
      refl,
      subst (λ (z : ℕ). Run (double nx x f g) (suc i) (pairs (g + i) z (steps nx (nx (nx (iter nx (2 * i) x))) (2 * k)))) (let q : g + suc i ≡ suc (g + i) = omega arith in q)
          (subst (λ (z : ℕ). Run (double nx x f g) (suc i) (pairs (g + i) (g + suc i) (steps nx z (2 * k)))) (ap (λ (z : ℕ). iter nx z x) (let q : 2 * suc i ≡ suc (suc (2 * i)) = omega arith in q))
          (pairs-run nx x f g (suc i) k)),
    )

pub pairs-length : (nx : ℕ → ℕ) (x f g k : ℕ) → length (pairs f g (steps nx x (2 * k))) ≡ k
unfolding pairs steps
pairs-length nx x f g zero = refl
pairs-length nx x f g (suc k) =
    ap (λ (z : ℕ). length (pairs f g (steps nx x z))) (let q : 2 * suc k ≡ suc (suc (2 * k)) = omega arith in q)
    ∙ ap suc (pairs-length nx (nx (nx x)) g (suc g) k)

-- ---- the loop of x, of face f
module _ {m : Mesh} (s : Shape m) (q : Consistent m) (f x : ℕ) (f-some : f ≢ NONE) (x_in : m.is_h x) (x-face : m.face x ≡ f) where
  perm : Perm m.is_h s.size m.next m.prev
  perm = perm-next s q.core

  member : (k : ℕ) → m.is_h (iter m.next k x) × (m.face (iter m.next k x) ≡ f)
  member k = reach-ind (λ (y : ℕ). m.is_h y × (m.face y ≡ f)) (λ y (i, e). (q.core.next_in y i, q.core.next_face y i ∙ e)) (x_in, x-face) (iter-reach m.next x k)

  reached : (y : ℕ) → m.is_h y → m.face y ≡ f → Reach m.next x y
  reached y i e = q.core.one_loop x y x_in i (λ z. f-some (sym x-face ∙ z)) (x-face ∙ sym e)

  -- each halfedge a part
  pub singles-parts : (n : ℕ) → Length m.next x n → Parts m f (λ i. i < n) (λ i. iter m.next i x) (λ i. iter m.next i x) (after n) (before n)
  singles-parts n len = record {
    a_in = λ k l. (member k).0;
    of-f = λ k l. (member k).1;
    faced = f-some;
    up_in = after-lt n;
    dn-in = before-lt n;
    up-dn = after-before n;
    dn-up = before-after n;
    run = λ k l. inl refl;
    onward = cycle-on len;
    a-once = cycle-once perm x_in len;
    a-b = λ k l i j e. refl;
    all = λ y i e. let (k, l, z) = cycle-met len (reached y i e) in (k, l, inl z);
  }

  -- each two
  pub pairs-parts : (n : ℕ) → Length m.next x (2 * n) → Parts m f (λ i. i < n) (λ i. iter m.next (2 * i) x) (λ i. iter m.next (suc (2 * i)) x) (after n) (before n)
  pairs-parts n len = record {
    a_in = λ k l. (member (2 * k)).0;
    of-f = λ k l. (member (2 * k)).1;
    faced = f-some;
    up_in = after-lt n;
    dn-in = before-lt n;
    up-dn = after-before n;
    dn-up = before-after n;
    run = λ k l. inr refl;
    onward = λ k l. cycle-on len (suc (2 * k)) (omega arith) ∙ ap (λ (i : ℕ). iter m.next i x) (twice k l);
    a-once = λ k l i j e. (let w = cycle-once perm x_in len (2 * k) (2 * l) (omega arith) (omega arith) e in omega arith);
    a-b = λ k l i j e. absurd (let w = cycle-once perm x_in len (2 * k) (suc (2 * l)) (omega arith) (omega arith) e in omega arith);
    all = λ y i e. let (k, l, z) = cycle-met len (reached y i e) in place y k l z;
  }
    where
      twice : (k : ℕ) → k < n → after (2 * n) (suc (2 * k)) ≡ 2 * after n k
      twice k l = split (suc k) n
          (λ e. after_last (2 * n) (suc (2 * k)) (omega arith) ∙ (let w = after_last n k e in let v : 0 ≡ 2 * after n k = omega arith in v))
          (λ e. after-other (2 * n) (suc (2 * k)) (omega arith) ∙ (let w = after-other n k (omega arith) in let v : suc (suc (2 * k)) ≡ 2 * after n k = omega arith in v))

      place : (y k : ℕ) → k < 2 * n → y ≡ iter m.next k x → (i : ℕ) × (i < n) × ((y ≡ iter m.next (2 * i) x) ⊎ (y ≡ iter m.next (suc (2 * i)) x))
      place y k l e = split (k % 2) 0
          (λ z. (k / 2, omega arith, inl (e ∙ ap (λ (i : ℕ). iter m.next i x) (let w : k ≡ 2 * (k / 2) = omega arith in w))))
          (λ z. (k / 2, omega arith, inr (e ∙ ap (λ (i : ℕ). iter m.next i x) (let w : k ≡ suc (2 * (k / 2)) = omega arith in w))))

-- ---- a loop of four comes back after four
pub four-cycle : {m : Mesh} (s : Shape m) (q : Consistent m) (a : ℕ) → m.is_h a → m.face a ≢ NONE → m.next (m.next (m.next (m.next a))) ≡ a → Length m.next a 4
four-cycle {m} s q a i faced e = record { long = omega arith; closes = e; no-sooner = sooner }
  where
    sooner : (j : ℕ) → 0 < j → j < 4 → iter m.next j a ≢ a
    sooner zero l h z = not-suc-le-zero l
    sooner (suc zero) l h z = next-ne s q.core a i z
    sooner (suc (suc zero)) l h z = q.three.three_long a i faced z
    sooner (suc (suc (suc zero))) l h z = next-ne s q.core a i (sym (ap m.next z) ∙ e)
    sooner (suc (suc (suc (suc j)))) l h z = omega arith
