-- From the two halves of C4, C7, C8 and C9 to the rules at their places. Assumes nothing.
use mathlib.Core.Path.{◌≡◌, refl, sym, ap, ◌∙◌, subst, subst⁻¹}
use mathlib.Core.Logic.{◌⊎◌, inl, inr, ⊎_elim, ◌≢◌}
use mathlib.Core.Bool.{Bool, true, false}
use Rattle.std.specs.Prelude.{Option, None, Some, MatchOption, IsSomeAnd}
use Rattle.std.specs.Bool.{then_some}
use Rattle.laws_check.specs.Tells.{Tells}
use mathlib.Core.List.{List}
use Prim.Native.Nat.{ℕ, ◌*◌, ◌≤◌, ◌<◌}
use native.Mathlib.Omega.{arith}
use native.Mathlib.Decide.{dec_lt}
use Rattle.mesh.specs.Words.{face_at, link_at, next_at, tail_at, turn_at}
use Rattle.check_rounds.specs.Steps.{perm-next}
use Rattle.check_rules.proofs.HalfLaws.{half-partner}
use Rattle.check_rules.specs.Place.{First, Found, Half, Live, Low, LowBy, Lower, Lowest}
use Rattle.check_rules.specs.Rule.{Alone, Bears, Faced, Leaves, LongEnough, Looped, Named, OnLoop, OnTurn, R4, R7, R8, R9, Rooted, Sewn}
use Rattle.scope.specs.Links.{NONE, partner}
use Rattle.laws_mesh.proofs.Cycle.{reach-sym, reach-trans}
use Rattle.laws_mesh.specs.Reach.{Reach}

-- C at a place is A there and B at all that has this place
pub both : {A B C : ℕ → Type 0} {place : ℕ → ℕ} {m n : ℕ} {a b r : Option ℕ} → Found A n a → Low B place m n b → Lower a b r
    → ((k : ℕ) → k < n → A k → ((x : ℕ) → x < m → place x ≡ k → B x) → C k) → ((k : ℕ) → C k → A k) → ((x : ℕ) → x < m → C (place x) → B x)
    → Found C n r
both {A} {B} {C} {place} {m} {n} {a} {b} {r} f l w make to-A to-B = record { finds = go r w }
  where
    A-under : (q : ℕ) (a : Option ℕ) → MatchOption a ((k : ℕ) → k < n → A k) (First A n) → ((x : ℕ) → a ≡ Some x → q ≤ x) → (k : ℕ) → k < n → k < q → A k
    A-under q None f h k i u = f k i
    A-under q (Some x) f h k i u = f.before k (let z = h x refl in omega arith)

    B-under : (q : ℕ) (b : Option ℕ) → MatchOption b ((k : ℕ) → k < m → place k < n → B k) (Lowest B place m n) → ((x : ℕ) → b ≡ Some x → q ≤ x) → (k : ℕ) → k < m → place k < n → place k < q → B k
    B-under q None l h k i d u = l k i d
    B-under q (Some x) l h k i d u = l.before k i (let z = h x refl in omega arith)

    A-at : (q : ℕ) (a : Option ℕ) → MatchOption a ((k : ℕ) → k < n → A k) (First A n) → Some q ≡ a → (q < n) × (C q → ⊥)
    A-at q None f e = cc
    A-at q (Some x) f e =
        let z : q ≡ x = cc in
        (let v = f.within in omega arith, λ c. f.broken (to-A x (subst C z c)))

    B-at : (q : ℕ) (b : Option ℕ) → MatchOption b ((k : ℕ) → k < m → place k < n → B k) (Lowest B place m n) → Some q ≡ b → (q < n) × (C q → ⊥)
    B-at q None l e = cc
    B-at q (Some y) l e =
        let z : q ≡ y = cc in
        let (x, j, h, nb) = l.broken in
        (let v = l.within in omega arith, λ c. nb (to-B x j (subst C (z ∙ sym h) c)))

    go : (r : Option ℕ) → Lower a b r → MatchOption r ((k : ℕ) → k < n → C k) (First C n)
    go None w = λ k i. make k i (A-under n a f.finds (λ x e. absurd (w.at_most_a x e)) k i i) (λ x j e. B-under n b l.finds (λ y h. absurd (w.at_most_b y h)) x j (omega arith) (omega arith))
    go (Some q) w =
        let (i, not) = ⊎_elim (A-at q a f.finds) (B-at q b l.finds) w.either in
        record {
          within = i;
          before = λ k u. make k (omega arith) (A-under q a f.finds w.at_most_a k (omega arith) u) (λ x j e. B-under q b l.finds w.at_most_b x j (omega arith) (omega arith));
          broken = not;
        }

-- C at a place is B at all that has this place
pub low-found : {B C : ℕ → Type 0} {place : ℕ → ℕ} {m n : ℕ} {r : Option ℕ} → Low B place m n r
    → ((k : ℕ) → k < n → ((x : ℕ) → x < m → place x ≡ k → B x) → C k) → ((x : ℕ) → x < m → C (place x) → B x)
    → Found C n r
low-found {B} {C} {place} {m} {n} {r} l make to-B = record { finds = go r l.finds }
  where
    go : (r : Option ℕ) → MatchOption r ((k : ℕ) → k < m → place k < n → B k) (Lowest B place m n) → MatchOption r ((k : ℕ) → k < n → C k) (First C n)
    go None l = λ k i. make k i (λ x j e. l x j (omega arith))
    go (Some q) l =
        let (x, j, y, nb) = l.broken in
        let v = l.within in
        record {
          within = v;
          before = λ k i. make k (omega arith) (λ x j e. l.before x j (omega arith));
          broken = λ c. nb (to-B x j (subst⁻¹ C y c));
        }

live-face : {ed em fl fm : List ℕ} {e nf h : ℕ} → Faced ed em fl fm e nf → Half em e h → face_at ed h ≢ NONE → Live fm nf (face_at ed h)
live-face {ed} {em} {fl} {fm} {e} {nf} {h} g i n = go (g.face_in h i)
  where
    go : (face_at ed h ≡ NONE) ⊎ Live fm nf (face_at ed h) → Live fm nf (face_at ed h)
    go (inl z) = absurd (n z)
    go (inr z) = z

module _ {ed em : List ℕ} {e : ℕ} where
  pub rule-4 : {fl fm : List ℕ} {nf : ℕ} {a b r : Option ℕ} → nf ≤ 1048576 → Faced ed em fl fm e nf
      → Found (λ (k : ℕ). Live fm nf k → Bears ed fl k) nf a → Low (λ (k : ℕ). OnLoop ed em fl e k) (λ (k : ℕ). face_at ed k) (2 * e) nf b → Lower a b r
      → Found (λ (k : ℕ). Live fm nf k → R4 ed em fl e k) nf r
  rule-4 {fl} {fm} {nf} few g f l w = both f l w
      (λ k i A B j. record { bears = A j; holds = λ b h q. subst (λ (x : ℕ). Reach (next_at ed) (link_at fl x) b) q (B b h.0 q h (λ z. let y : k ≡ NONE = sym q ∙ z in omega arith)) })
      (λ k c i. (c i).bears)
      (λ x i c h n. (c (live-face g h n)).holds x h refl)

  pub looped : {fl fm : List ℕ} {nf : ℕ} → Sewn ed em e → Faced ed em fl fm e nf → ((k : ℕ) → k < nf → Live fm nf k → R4 ed em fl e k) → Looped ed em e
  looped s g r = record {
    one_loop = λ a b i j n q.
        let f = live-face g i n in
        reach-trans (reach-sym (perm-next s) (g.start_in _ f) ((r _ f.0 f).holds a i refl)) ((r _ f.0 f).holds b j q);
  }

  pub rule-7 : {fl fm : List ℕ} {nf : ℕ} {a b r : Option ℕ} → nf ≤ 1048576 → Faced ed em fl fm e nf
      → Found (λ (k : ℕ). Live fm nf k → LongEnough ed fl k) nf a → Low (λ (k : ℕ). Alone ed em e k) (λ (k : ℕ). face_at ed k) (2 * e) nf b → Lower a b r
      → Found (λ (k : ℕ). Live fm nf k → R7 ed em fl e k) nf r
  rule-7 {fl} {fm} {nf} few g f l w = both f l w
      (λ k i A B j. record { three = A j; differ = λ a b x y p q z. sym (B a x.0 p x (λ u. let y : k ≡ NONE = sym p ∙ u in omega arith) b y (q ∙ sym p) (sym z)) })
      (λ k c i. (c i).three)
      (λ x i c h n b j p q. (c (live-face g h n)).differ b x j h p refl q)

  pub rule-8 : {ol vm : List ℕ} {nv : ℕ} {a b r : Option ℕ} → Rooted ed em ol vm e nv
      → Found (λ (k : ℕ). Live vm nv k → Leaves ed ol k) nv a → Low (λ (k : ℕ). OnTurn ed em ol e k) (λ (k : ℕ). tail_at ed k) (2 * e) nv b → Lower a b r
      → Found (λ (k : ℕ). Live vm nv k → R8 ed em ol e k) nv r
  rule-8 {ol} {vm} {nv} g f l w = both f l w
      (λ k i A B j. record {
        leaves = A j;
        meets = λ n b h q. subst (λ (x : ℕ). Reach (turn_at ed) (link_at ol x) b) q (B b h.0 q h).1;
        none_if = λ z h i q. (B h i.0 q i).0 (ap (link_at ol) q ∙ z);
      })
      (λ k c i. (c i).leaves)
      (λ x i c h.
      let v = g.head_in (partner x) (half-partner em e x h) in
      let n : link_at ol (tail_at ed x) ≢ NONE = λ z. (c v).none_if z x h refl in
      (n, (c v).meets n x h refl))

  pub rule-9 : {ol vm : List ℕ} {nv : ℕ} {r : Option ℕ} → Rooted ed em ol vm e nv
      → Low (λ (k : ℕ). Named ed em ol e k) (λ (k : ℕ). tail_at ed k) (2 * e) nv r
      → Found (λ (k : ℕ). Live vm nv k → R9 ed em ol e k) nv r
  rule-9 {ol} {vm} {nv} g l = low-found l
      (λ k i B j. record { names = λ h x q z. ap (link_at ol) (sym q) ∙ B h x.0 q x z })
      (λ x i c h z. (c (g.head_in (partner x) (half-partner em e x h))).names x h refl z)

-- what is found by a test that tells, where it is below the limit
pub low-below : {Says Kept : ℕ → Bool → Type 0} {Puts : ℕ → ℕ → Type 0} {Ok : ℕ → Type 0} {place : ℕ → ℕ} {n limit : ℕ} {a r : Option ℕ} → LowBy Says Puts n a
    → ((k : ℕ) (b : Bool) → Says k b → Tells b (Ok k)) → ((k p : ℕ) → Puts k p → p ≡ place k)
    → MatchOption a (r ≡ None) (λ x. (b : Bool) × Kept x b × (r ≡ then_some b x)) → ((x : ℕ) (b : Bool) → Kept x b → Tells b (x < limit)) → Low Ok place n limit r
low-below {Says} {Kept} {Puts} {Ok} {place} {n} {limit} {a} {r} l tells at kept less = go a l kept
  where
    fine : (o : Option ℕ) (k : ℕ) → ((p : ℕ) → IsSomeAnd o (λ z. z ≤ p) → p ≡ place k → ⊥) → Says k true ⊎ (Says k false × (p : ℕ) × Puts k p × IsSomeAnd o (λ z. z ≤ p)) → Ok k
    fine o k away (inl s) = (tells k true s).so refl
    fine o k away (inr (s, p, q, u)) = absurd (away p u (at k p q))

    cut : (x : ℕ) → LowBy Says Puts n (Some x) → (b : Bool) → Tells b (x < limit) → Low Ok place n limit (then_some b x)
    cut x l true c =
        let (k, i, s, q) = l.some x refl in
        record { finds = record { within = c.so refl; before = λ j i h. fine (Some x) j (λ p u z. omega arith) (l.each j i); broken = (k, i, sym (at k x q), (tells k false s).not_so refl) } }
    cut x l false c = record { finds = λ j i h. fine (Some x) j (λ p u z. c.not_so refl (omega arith)) (l.each j i) }

    go : (a : Option ℕ) → LowBy Says Puts n a → MatchOption a (r ≡ None) (λ x. (b : Bool) × Kept x b × (r ≡ then_some b x)) → Low Ok place n limit r
    go None l e = subst⁻¹ (λ (o : Option ℕ). Low Ok place n limit o) e (record { finds = λ k i h. fine None k (λ p u z. u) (l.each k i) })
    go (Some x) l (b, q, e) = subst⁻¹ (λ (o : Option ℕ). Low Ok place n limit o) e (cut x l b (less x b q))

-- a halfedge that is not in order has its place
pub face-below : {ed em fl fm : List ℕ} {e nf : ℕ} {Ok : Type 0} → Faced ed em fl fm e nf → (k : ℕ) → ((Half em e k → face_at ed k ≢ NONE → ⊥) → Ok) → (Ok → ⊥) → face_at ed k < nf
face-below {ed} {em} {fl} {fm} {e} {nf} {Ok} g k ok not = go (dec_lt (face_at ed k) nf)
  where
    go : Dec (face_at ed k < nf) → face_at ed k < nf
    go (yes l) = l
    go (no x) = absurd (not (ok (λ h n. x (live-face g h n).0)))

pub tail_below : {ed em ol vm : List ℕ} {e nv : ℕ} {Ok : Type 0} → Rooted ed em ol vm e nv → (k : ℕ) → ((Half em e k → ⊥) → Ok) → (Ok → ⊥) → tail_at ed k < nv
tail_below {ed} {em} {ol} {vm} {e} {nv} {Ok} g k ok not = go (dec_lt (tail_at ed k) nv)
  where
    go : Dec (tail_at ed k < nv) → tail_at ed k < nv
    go (yes l) = l
    go (no x) = absurd (not (ok (λ h. x (g.head_in (partner k) (half-partner em e k h)).0)))
