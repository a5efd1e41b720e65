-- Every rim loop has exactly one lowest halfedge, so there are as many rim loops as the counter counts. Assumes nothing.
use mathlib.Core.Path.{◌≡◌, refl, sym, ap, ◌∙◌, subst, subst⁻¹}
use mathlib.Core.Bool.{Bool, true, false}
use mathlib.Core.List.{List, [], map}
use Rattle.std.specs.Prelude.{None}
use Prim.Native.Nat.{ℕ, ◌*◌, ◌≤◌, ◌<◌}
use native.Mathlib.Omega.{arith}
use lib.Dec.{T, eqb}
use lib.ListN.{get_or, length, length-map}
use Rattle.scope.specs.Lists.{has, distinct, only, range}
use Rattle.scope.specs.Links.{Links, Marks, NONE, next, prev, rim, loop}
use Rattle.scope.specs.Check.{fault}
use Rattle.laws_mesh.specs.Reach.{Reach, here}
use Rattle.laws_mesh.specs.Of.{Sized, Good}
use Rattle.laws_mesh.proofs.Cycle.{Perm, reach-trans, reach-sym}
use Rattle.laws_mesh.proofs.Count.{count-lists, length-of}
use Rattle.laws_mesh.proofs.Facts.{perm-next, loop-in, loop-face}
use Rattle.laws_mesh.proofs.Loops.{good-shape, good-size}
use Rattle.laws_mesh.proofs.LoopParts.{cycle-once}
use Rattle.laws_mesh.proofs.Shapes.{Unmarked, to-mesh}
use Rattle.laws_check.specs.Tells.{Tells}
use Rattle.laws_check.proofs.Tells.{never, t-and}
use Rattle.laws_check.proofs.Rounds.{same, round-cycle, t-distinct-run, t-has-round}
use Rattle.laws_check.proofs.Theorems.{none-consistent}
use Rattle.count_fields.specs.Count.{lowest_rim, rim_loops}
use Rattle.count_laws.specs.RimLoops.{Rim, RimLoops, RimLoopCount, RimLoop}
use Rattle.count_laws.proofs.Chosen.{chosen, at_map}
use Rattle.count_laws.proofs.Lowest.{t-none-below, lowest_of, Lowest, lowest-of}

-- ---- answers
true-T : (b : Bool) → b ≡ true → T b
true-T b e = subst⁻¹ T e tt

T_true : (b : Bool) → T b → b ≡ true
T_true true t = refl
T_true false t = absurd t

t-self : (b : Bool) → Tells b (b ≡ true)
t-self b = record { so = λ e. e; not_so = λ e q. never (sym q ∙ e) }

so-true : {b : Bool} {P : Type 0} → Tells b P → P → b ≡ true
so-true {b} {P} t p = go b t
  where
    go : (b : Bool) → Tells b P → b ≡ true
    go true t = refl
    go false t = absurd (t.not_so refl p)

module _ (m : Links) (g : Good m) where
  -- ---- what a loop holds
  perm : Perm (λ h. h < 2 * m.ne) (2 * m.ne) (next m) (prev m)
  perm = subst (λ (k : ℕ). Perm (λ h. h < 2 * m.ne) k (next m) (prev m)) (good-size m g) (perm-next (good-shape m g) g.consistent.core)

  t_loop : (h x : ℕ) → h < 2 * m.ne → Tells (has x (loop m h)) (Reach (next m) h x)
  unfolding loop
  t_loop h x i = t-has-round perm i x

  has-own : (h : ℕ) → h < 2 * m.ne → has h (loop m h) ≡ true
  has-own h i = so-true (t_loop h h i) here

  -- the loops of two of one loop hold the same
  has_same : (h x y : ℕ) → h < 2 * m.ne → x < 2 * m.ne → has x (loop m h) ≡ true → has y (loop m h) ≡ true → has y (loop m x) ≡ true
  has_same h x y i j p q = so-true (t_loop x y j) (reach-trans (reach-sym perm i ((t_loop h x i).so p)) ((t_loop h y i).so q))

  has-back : (h x y : ℕ) → h < 2 * m.ne → x < 2 * m.ne → has x (loop m h) ≡ true → has y (loop m x) ≡ true → has y (loop m h) ≡ true
  has-back h x y i j p q = so-true (t_loop h y i) (reach-trans ((t_loop h x i).so p) ((t_loop x y j).so q))

  rim-on : (h x : ℕ) → Rim m h → has x (loop m h) ≡ true → Rim m x
  rim-on h x r p =
      let s = (t_loop h x r.in_range).so p in
      record {
        in_range = loop-in (good-shape m g) g.consistent.core r.in_range s;
        no_face = ap (λ (f : ℕ). eqb f NONE) (loop-face (good-shape m g) g.consistent.core r.in_range s) ∙ r.no_face;
      }

  loop-once : (h : ℕ) → h < 2 * m.ne → distinct (loop m h) ≡ true
  unfolding loop
  loop-once h i =
      let (k, l, c) = length-of perm i in
      subst⁻¹ (λ (r : List ℕ). distinct r ≡ true) (round-cycle perm i l c)
      (so-true (t-distinct-run same (next m) k h) (λ a b u w e. let q = cycle-once perm i c a b (omega arith) w e in omega arith))

  -- ---- the lowest halfedge of a rim loop
  t-lowest : (h : ℕ) → Tells (lowest_rim m.edges m.ne h) ((rim m h ≡ true) × ((x : ℕ) → has x (loop m h) ≡ true → h ≤ x))
  unfolding lowest_rim loop
  t-lowest h = t-and (t-self (rim m h)) (t-none-below h (loop m h))

  no_lower : (h x : ℕ) → lowest_rim m.edges m.ne h ≡ true → has x (loop m h) ≡ true → h ≤ x
  no_lower h x e p = ((t-lowest h).so e).1 x p

  lowest-rim : (h : ℕ) → h < 2 * m.ne → lowest_rim m.edges m.ne h ≡ true → Rim m h
  lowest-rim h i e = record { in_range = i; no_face = ((t-lowest h).so e).0 }

  low : (h : ℕ) → Rim m h → Lowest (2 * m.ne) (loop m h) (lowest_of (2 * m.ne) (loop m h))
  low h r = lowest-of (2 * m.ne) (loop m h) h r.in_range (has-own h r.in_range)

  low-passes : (h : ℕ) → Rim m h → lowest_rim m.edges m.ne (lowest_of (2 * m.ne) (loop m h)) ≡ true
  low-passes h r =
      let x = lowest_of (2 * m.ne) (loop m h) in
      let q = low h r in
      so-true (t-lowest x) ((rim-on h x r q.there).no_face, λ y p. q.least y (has-back h x y r.in_range q.below-n q.there p))

  one-lowest : (h x y : ℕ) → Rim m h → has x (loop m h) ≡ true → has y (loop m h) ≡ true → lowest_rim m.edges m.ne x ≡ true → lowest_rim m.edges m.ne y ≡ true → x ≡ y
  one-lowest h x y r p q a b =
      let i = r.in_range in
      let j = (rim-on h x r p).in_range in
      let k = (rim-on h y r q).in_range in
      let u = no_lower x y a (has_same h x y i j p q) in
      let w = no_lower y x b (has_same h y x i k q p) in
      omega arith

  -- a rim loop holds rim halfedges only, each once, and exactly one that the counter counts
  pub rim-loop : (h : ℕ) → Rim m h → RimLoop m h
  rim-loop h r = record {
    all_rim = λ x. rim-on h x r;
    once = loop-once h r.in_range;
    lowest = (lowest_of (2 * m.ne) (loop m h), (low h r).there, low-passes h r);
    no_other = λ x y. one-lowest h x y r;
  }

  -- ---- the loops of the halfedges that the counter counts are the rim loops
  pub rim-loops-listed : RimLoops m (map (loop m) (only (lowest_rim m.edges m.ne) (range 0 (2 * m.ne))))
  rim-loops-listed =
      let hs = only (lowest_rim m.edges m.ne) (range 0 (2 * m.ne)) in
      let c = chosen (lowest_rim m.edges m.ne) (2 * m.ne) 0 in
      let long : length (map (loop m) hs) ≡ length hs = length-map hs (loop m) in
      let at : (i : ℕ) → i < length hs → get_or (map (loop m) hs) i [] ≡ loop m (get_or hs i 0) = λ i l. at_map (loop m) hs i 0 [] l in
      let lies : (i : ℕ) → i < length hs → Rim m (get_or hs i 0) = λ i l. let q = c.to i l in lowest-rim (get_or hs i 0) (omega arith) (c.passes i l) in
      record {
        of_rim = λ i l. (get_or hs i 0, lies i (omega arith), at i (omega arith));
        every = λ h r.
            let q = low h r in
            let x = lowest_of (2 * m.ne) (loop m h) in
            let b = q.below-n in
            let (i, l, e) = c.all x (omega arith) (omega arith) (low-passes h r) in
            (i, omega arith, subst⁻¹ (λ (k : List ℕ). has h k ≡ true) (at i l ∙ ap (loop m) e) (has_same h x h r.in_range b q.there (has-own h r.in_range)));
        apart = λ i j h u l p q.
            let a = get_or hs i 0 in
            let b = get_or hs j 0 in
            let ra = lies i (omega arith) in
            let rb = lies j (omega arith) in
            let pa = subst (λ (k : List ℕ). has h k ≡ true) (at i (omega arith)) p in
            let pb = subst (λ (k : List ℕ). has h k ≡ true) (at j (omega arith)) q in
            let ih = (rim-on a h ra pa).in_range in
            let e = one-lowest h a b (rim-on a h ra pa) (has_same a h a ra.in_range ih pa (has-own a ra.in_range)) (has_same b h b rb.in_range ih pb (has-own b rb.in_range)) (c.passes i (omega arith)) (c.passes j (omega arith)) in
            let s = c.rising i j u (omega arith) in
            omega arith;
      }

  -- ---- and every list of the rim loops is as long as the counter's number
  module _ (ls : List (List ℕ)) (w : RimLoops m ls) where
    abbrev lowest-at : ℕ → ℕ
    lowest-at i = lowest_of (2 * m.ne) (get_or ls i [])

    low-at : (i : ℕ) → i < length ls → Lowest (2 * m.ne) (get_or ls i []) (lowest-at i)
    low-at i l = let (h, r, e) = w.of_rim i l in subst⁻¹ (λ (k : List ℕ). Lowest (2 * m.ne) k (lowest_of (2 * m.ne) k)) e (low h r)

    passes_at : (i : ℕ) → i < length ls → lowest_rim m.edges m.ne (lowest-at i) ≡ true
    passes_at i l = let (h, r, e) = w.of_rim i l in subst⁻¹ (λ (k : List ℕ). lowest_rim m.edges m.ne (lowest_of (2 * m.ne) k) ≡ true) e (low-passes h r)

    met : (x : ℕ) → x < 2 * m.ne → lowest_rim m.edges m.ne x ≡ true → (i : ℕ) × (i < length ls) × (lowest-at i ≡ x)
    met x j e =
        let (i, l, p) = w.every x (lowest-rim x j e) in
        let (h, r, q) = w.of_rim i l in
        let a = subst (λ (k : List ℕ). has (lowest-at i) k ≡ true) q (low-at i l).there in
        let b = subst (λ (k : List ℕ). has x k ≡ true) q p in
        (i, l, one-lowest h (lowest-at i) x r a b (passes_at i l) e)

    pub rim-loops-long : length ls ≡ rim_loops m
    unfolding rim_loops
    rim-loops-long = sym (count-lists (length ls) (lowest_rim m.edges m.ne) (2 * m.ne) lowest-at (record {
      in_range = λ i l. (low-at i l).below-n;
      passes = λ i l. true-T _ (passes_at i l);
      differ = λ i j u l e. w.apart i j (lowest-at i) u l (low-at i (omega arith)).there (subst⁻¹ (λ (x : ℕ). has x (get_or ls j []) ≡ true) e (low-at j l).there);
      all = λ x i t. met x i (T_true _ t);
    }))

  -- the counter's number of rim loops is their number
  pub rim-loops-counted : RimLoopCount m (rim_loops m)
  rim-loops-counted = record { listed = (_, rim-loops-listed); long = rim-loops-long }

-- the same of a mesh in which the check finds no fault and nothing is marked, as the counter has it
pub sound-rim-loops : (m : Links) (k : Marks) → Sized m → Unmarked m k → fault m k ≡ None → RimLoopCount m (rim_loops m)
sound-rim-loops m k s u e =
    rim-loops-counted m (record { sized = s; consistent = to-mesh m k u (none-consistent m k s.few_e s.few_f e) })
