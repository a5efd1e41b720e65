-- Insert edge as a call: what is known where it is not refused, and that it keeps a mesh consistent. Assumes nothing.
use Rattle.std.proofs.lemmas.Option.{none-some, same_Some}
use mathlib.Core.Path.{◌≡◌, refl, sym, ap, ◌∙◌, subst, subst⁻¹}
use mathlib.Core.Logic.{◌⊎◌, inl, inr, ◌≢◌, ⊎_elim}
use mathlib.Core.Bool.{Bool, true, false, not, ◌&&◌, ◌||◌}
use Rattle.std.specs.Prelude.{None, Some}
use Prim.Native.Nat.{ℕ, ◌+◌, ◌*◌, ◌≤◌, ◌<◌}
use native.Mathlib.Omega.{arith}
use lib.Dec.{eqb, ltb}
use lib.ListN.{length}
use Rattle.scope.specs.declared.records.Counts.{Counts}
use Rattle.scope.specs.declared.answers.Refusal.{Refusal}
use Rattle.scope.specs.declared.answers.Refusal.TheVariants.{BadHandle, CannotInsertEdge, HalfedgesNotInTheSameLoop, NotDeletedFace, WouldBreak}
use Rattle.scope.specs.Lists.{if, has, put, round}
use Rattle.scope.specs.Links.{Links, Marks, NONE, face, next, tail, rim, loop, is_h, is_f}
use Rattle.scope.specs.Edits.{insert_edge, insert_new}
use Rattle.scope.specs.Answers.{said_of, refuse_if}
use Rattle.scope.specs.Tally.{counts_of}
use Rattle.scope.specs.EditCalls.{insert_edge_edit}
use Rattle.laws_mesh.specs.Reach.{Reach}
use Rattle.laws_mesh.specs.Mesh.{Shape, Consistent}
use Rattle.laws_mesh.specs.Of.{mesh_of, Sized, Marked}
use Rattle.laws_mesh.proofs.Cycle.{split, reach-eq, reach-one}
use Rattle.laws_mesh.proofs.Facts.{perm-next, tail-in, loop-face}
use Rattle.laws_mesh.proofs.Puts.{put-long}
use Rattle.laws_mesh.proofs.Shapes.{shape_of, shape-wide, size_of}
use Rattle.laws_mesh.proofs.Carriers.{OneMore, Unmarked, unmarked-more, unmarked-again}
use Rattle.laws_mesh.proofs.InsertLaws.{face-outs, hole-outs_long, face-starts-new, face-starts-again, hole-starts-new, hole-starts-again}
use Rattle.laws_check.specs.Tells.{Tells}
use Rattle.laws_check.proofs.Tells.{is-so-not, t-and, t-or, t_not, t-eq, t-lt}
use Rattle.laws_check.proofs.Rounds.{t-has-round}
use Rattle.laws_check.proofs.Tests.{t-is_h, t-is_f}
use Rattle.laws_edit.specs.Kept.{Kept, Keeps}
use Rattle.laws_edit.specs.Breaks.{Breaks, Guarded}
use Rattle.laws_edit.proofs.Allowed.{let_by, let-last, let-past, given-last, refused-by, passed-by, neither, Few, after-guards, Numbered, Allowed, allowed, after-kept-as, counts_are}
use Rattle.laws_edit.proofs.Inserts.{Insertable, by_mode, insert-nv, insert-ne, insert-nf, insert-edges_long, insert-keeps, insert-breaks}

-- ---- tests
-- where the first holds the second does not
not-both : {a b : Bool} {P Q : Type 0} → Tells a P → Tells b Q → a && b ≡ false → P → Q → ⊥
not-both t u e p q = (t-and t u).not_so e (p, q)

-- n is on the loop of p
pub t-on_loop : (m : Links) (k : Marks) (p n : ℕ) → Sized m → Consistent (mesh_of m k) → (mesh_of m k).is_h p → Tells (has n (loop m p)) (Reach (next m) p n)
unfolding loop
t-on_loop m k p n z c i =
    subst (λ (s : ℕ). Tells (has n (round p (next m) s p)) (Reach (next m) p n)) (size_of m k z.few_e z.few_f) (t-has-round (perm-next (shape_of m k z.few_e z.few_f) c.core) i n)

-- a given face, which is then in range and deleted, or none
pub record Free (m : Links) (k : Marks) (g : ℕ) : Type 0 where
  pub in_range : g ≢ NONE → g < m.nf
  pub deleted : g ≢ NONE → ¬ (mesh_of m k).is_f g

-- what the refusals before 14 leave
pub record Admitted (m : Links) (k : Marks) (p n g : ℕ) : Type 0 where
  pub able : Insertable m k p n
  pub free : Free m k g

module _ (m : Links) (k : Marks) (p n g : ℕ) (z : Sized m) (l : Marked m k) (c : Consistent (mesh_of m k)) where
  admitted : (not (is_h m k p && is_h m k n) || (not (eqb g NONE) && not (ltb g m.nf))) ≡ false → (eqb p n || eqb (next m p) n) ≡ false → (not (eqb g NONE) && is_f m k g) ≡ false
      → not (has n (loop m p)) ≡ false → Admitted m k p n g
  admitted bad same living away =
      let (handles, range) = neither (not (is_h m k p && is_h m k n)) _ bad in
      let (pi, ni) = is-so-not (t-and (t-is_h m k p) (t-is_h m k n)) handles in
      let (apart, follows) = neither (eqb p n) _ same in
      record {
        able = record {
          sized = z;
          long = l;
          consistent = c;
          p-in = pi;
          n-in = ni;
          apart = (t-eq p n).not_so apart;
          no_step = (t-eq (next m p) n).not_so follows;
          one_loop = is-so-not (t-on_loop m k p n z c pi) away;
        };
        free = record {
          in_range = λ q. in_range range q;
          deleted = not-both (t_not (t-eq g NONE)) (t-is_f m k g) living;
        };
      }
    where
      in_range : (not (eqb g NONE) && not (ltb g m.nf)) ≡ false → g ≢ NONE → g < m.nf
      in_range e q = go (ltb g m.nf) (t-lt g m.nf) (not-both (t_not (t-eq g NONE)) (t_not (t-lt g m.nf)) e q)
        where
          go : (b : Bool) → Tells b (g < m.nf) → ((g < m.nf → ⊥) → ⊥) → g < m.nf
          go true t n = t.so refl
          go false t n = absurd (n (t.not_so refl))

-- ---- afterwards
if-given : {A : Type 0} (g : ℕ) (x y : A) → g ≢ NONE → if (not (eqb g NONE)) x y ≡ x
if-given g x y n = go (eqb g NONE) (t-eq g NONE)
  where
    go : (b : Bool) → Tells b (g ≡ NONE) → if (not b) x y ≡ x
    go true t = absurd (n (t.so refl))
    go false t = refl

if-not-given : {A : Type 0} (g : ℕ) (x y : A) → g ≡ NONE → if (not (eqb g NONE)) x y ≡ y
if-not-given g x y e = go (eqb g NONE) (t-eq g NONE)
  where
    go : (b : Bool) → Tells b (g ≡ NONE) → if (not b) x y ≡ y
    go true t = refl
    go false t = absurd (t.not_so refl e)

module _ {m : Links} {k : Marks} {p n : ℕ} (a : Insertable m k p n) where
  tail-low : tail m n < m.nv
  tail-low = (tail-in (shape_of m k a.sized.few_e a.sized.few_f) a.consistent.core n a.n-in).0

  face-low : face m p ≢ NONE → face m p < m.nf
  face-low ne = go (a.consistent.core.face_in p a.p-in)
    where
      go : (face m p ≡ NONE) ⊎ (mesh_of m k).is_f (face m p) → face m p < m.nf
      go (inl e) = absurd (ne e)
      go (inr i) = i.0

  outs_long : (g : ℕ) → length (insert_edge g p n m).outs ≡ m.nv
  outs_long g = by_mode a g (λ l. length l.outs ≡ m.nv) (λ e. hole-outs_long g p n m a.sized.outs_long tail-low) (λ e. ap length (face-outs g p n m) ∙ a.sized.outs_long)

  -- ---- with a new face
  new-nv : (insert_new p n m).nv ≡ m.nv
  unfolding insert_new
  new-nv = let q = insert-nv a m.nf in omega arith

  new-ne : (insert_new p n m).ne ≡ m.ne + 1
  unfolding insert_new
  new-ne = let q = insert-ne a m.nf in omega arith

  new-nf : (insert_new p n m).nf ≡ m.nf + 1
  unfolding insert_new
  new-nf = let q = insert-nf a m.nf in omega arith

  one_more : OneMore (Unmarked m.nf k.fs) (Unmarked (insert_new p n m).nf k.fs) m.nf
  one_more = unmarked-more m.nf (insert_new p n m).nf k.fs (sym new-nf) a.long.fs_long

  new-sized : m.ne + 1 ≤ 1048576 → m.nf + 1 ≤ 1048576 → Sized (insert_new p n m)
  unfolding insert_new
  new-sized room_e room_f = record {
    outs_long = outs_long m.nf ∙ sym new-nv;
    edges_long = insert-edges_long a m.nf _ _ _ (sym new-ne) (sym new-nv) one_more ∙ ap (λ (x : ℕ). 8 * x) (sym new-ne);
    faces_long = by_mode a m.nf (λ l. length l.faces ≡ m.nf + 1) (λ e. hole-starts-new p n m a.sized.faces_long) (λ e. face-starts-new p n m a.sized.faces_long (face-low e)) ∙ sym new-nf;
    few_v = (let q = a.sized.few_v in let r = new-nv in omega arith);
    few_e = (let r = new-ne in omega arith);
    few_f = (let r = new-nf in omega arith);
  }

  new-shape : Shape (mesh_of (insert_new p n m) k)
  new-shape = shape-wide (insert_new p n m) k (let q = a.sized.few_e in let r = new-ne in omega arith) (let q = a.sized.few_f in let r = new-nf in omega arith)

  new-keeps : (face m p ≢ NONE → next m (next m p) ≢ n) → Consistent (mesh_of (insert_new p n m) k)
  unfolding insert_new
  new-keeps long = insert-keeps a m.nf _ _ _ (sym new-ne) (sym new-nv) one_more new-shape long

  new-breaks : face m p ≢ NONE → next m (next m p) ≡ n → Breaks (mesh_of (insert_new p n m) k)
  unfolding insert_new
  new-breaks ne two = inr (m.nf, one_more.new, insert-breaks a m.nf _ _ _ (sym new-ne) (sym new-nv) one_more ne two)

  -- ---- with a deleted face, used again
  module _ (g : ℕ) (low : g < m.nf) (dead : ¬ (mesh_of m k).is_f g) where
    marks-again : Marks
    marks-again = record { vs = k.vs; es = k.es; fs = put k.fs g 0 }

    once_more : OneMore (Unmarked m.nf k.fs) (Unmarked (insert_edge g p n m).nf (put k.fs g 0)) g
    once_more = unmarked-again m.nf (insert_edge g p n m).nf g k.fs (sym (insert-nf a g)) low (λ e. dead (low, e))

    again-sized : m.ne + 1 ≤ 1048576 → Sized (insert_edge g p n m)
    again-sized room_e =
        let v = insert-nv a g in
        let e = insert-ne a g in
        let f = insert-nf a g in
        record {
          outs_long = outs_long g ∙ sym v;
          edges_long = insert-edges_long a g _ _ _ (sym e) (sym v) once_more ∙ ap (λ (x : ℕ). 8 * x) (sym e);
          faces_long = by_mode a g (λ l. length l.faces ≡ m.nf) (λ q. hole-starts-again g p n m a.sized.faces_long low) (λ q. face-starts-again g p n m a.sized.faces_long (face-low q) low) ∙ sym f;
          few_v = (let q = a.sized.few_v in omega arith);
          few_e = omega arith;
          few_f = (let q = a.sized.few_f in omega arith);
        }

    again-keeps : (face m p ≢ NONE → next m (next m p) ≢ n) → Consistent (mesh_of (insert_edge g p n m) marks-again)
    unfolding marks-again
    again-keeps long = insert-keeps a g _ _ _ (sym (insert-ne a g)) (sym (insert-nv a g)) once_more
        (shape-wide (insert_edge g p n m) marks-again (let q = a.sized.few_e in let r = insert-ne a g in omega arith) (let q = a.sized.few_f in let r = insert-nf a g in omega arith)) long

    again-breaks : face m p ≢ NONE → next m (next m p) ≡ n → Breaks (mesh_of (insert_edge g p n m) marks-again)
    unfolding marks-again
    again-breaks ne two = inr (g, once_more.new, insert-breaks a g _ _ _ (sym (insert-ne a g)) (sym (insert-nv a g)) once_more ne two)

-- ---- the answers
-- none of 7 to 14
spared : (p n g : ℕ) (m : Links) (k : Marks) → Sized m → Marked m k → Consistent (mesh_of m k) → (insert_edge_edit p n g).denied m k ≡ None → Admitted m k p n g × (face m p ≢ NONE → next m (next m p) ≢ n)
unfolding insert_edge_edit
spared p n g m k z l c e =
    let (bad, e1) = let_by (not (is_h m k p && is_h m k n) || (not (eqb g NONE) && not (ltb g m.nf))) _ _ e in
    let (same, e2) = let_by (eqb p n || eqb (next m p) n) _ _ e1 in
    let (other, e3) = let_by (not (eqb (face m p) (face m n))) _ _ e2 in
    let (living, e4) = let_by (not (eqb g NONE) && is_f m k g) _ _ e3 in
    let (away, e5) = let_by (not (has n (loop m p))) _ _ e4 in (
      admitted m k p n g z l c bad same living away,
      not-both (t_not (t-eq (face m p) NONE)) (t-eq (next m (next m p)) n) (let-last (not (rim m p) && eqb (next m (next m p)) n) _ e5),
    )

-- 14
single : (p n g : ℕ) (m : Links) (k : Marks) → Sized m → Marked m k → Consistent (mesh_of m k) → (insert_edge_edit p n g).denied m k ≡ Some WouldBreak
    → Admitted m k p n g × (face m p ≢ NONE) × (next m (next m p) ≡ n)
unfolding insert_edge_edit
single p n g m k z l c e =
    let (bad, e1) = let-past (not (is_h m k p && is_h m k n) || (not (eqb g NONE) && not (ltb g m.nf))) _ _ WouldBreak (λ q. omega arith) e in
    let (same, e2) = let-past (eqb p n || eqb (next m p) n) _ _ WouldBreak (λ q. omega arith) e1 in
    let (other, e3) = let-past (not (eqb (face m p) (face m n))) _ _ WouldBreak (λ q. omega arith) e2 in
    let (living, e4) = let-past (not (eqb g NONE) && is_f m k g) _ _ WouldBreak (λ q. omega arith) e3 in
    let (away, e5) = let-past (not (has n (loop m p))) _ _ WouldBreak (λ q. omega arith) e4 in
    let (faced, two) = (t-and (t_not (t-eq (face m p) NONE)) (t-eq (next m (next m p)) n)).so (given-last (not (rim m p) && eqb (next m (next m p)) n) _ _ e5) in
    (admitted m k p n g z l c bad same living away, faced, two)

pub insert_edge-guarded : (p n g : ℕ) → Guarded (insert_edge_edit p n g)
unfolding insert_edge_edit marks-again
insert_edge-guarded p n g m k z l c = after-guards (insert_edge_edit p n g) m k (λ e. broken (single p n g m k z l c e)) (λ e. sound (spared p n g m k z l c e))
  where
    -- with a face that is given, or a new one
    either : (D : Links → Marks → Type 0) → (g ≡ NONE → D (insert_new p n m) k) → (g ≢ NONE → D (insert_edge g p n m) (record { vs = k.vs; es = k.es; fs = put k.fs g 0 }))
        → D ((insert_edge_edit p n g).links m) ((insert_edge_edit p n g).marks k)
    either D f h = split g NONE
        (λ q. subst⁻¹ (λ (x : Links). D x ((insert_edge_edit p n g).marks k)) (if-not-given g (insert_edge g p n m) (insert_new p n m) q) (subst⁻¹ (D (insert_new p n m)) (if-not-given g _ k q) (f q)))
        (λ q. subst⁻¹ (λ (x : Links). D x ((insert_edge_edit p n g).marks k)) (if-given g (insert_edge g p n m) (insert_new p n m) q) (subst⁻¹ (D (insert_edge g p n m)) (if-given g _ k q) (h q)))

    broken : Admitted m k p n g × (face m p ≢ NONE) × (next m (next m p) ≡ n) → Breaks (mesh_of ((insert_edge_edit p n g).links m) ((insert_edge_edit p n g).marks k))
    broken (j, faced, two) = either (λ x y. Breaks (mesh_of x y)) (λ q. new-breaks j.able faced two) (λ q. again-breaks j.able g (j.free.in_range q) (j.free.deleted q) faced two)

    sound : Admitted m k p n g × (face m p ≢ NONE → next m (next m p) ≢ n) → Numbered ((insert_edge_edit p n g).links m) × Consistent (mesh_of ((insert_edge_edit p n g).links m) ((insert_edge_edit p n g).marks k))
    sound (j, long) = either (λ x y. Numbered x × Consistent (mesh_of x y))
        (λ q. ((let r = new-ne j.able in let t = z.few_e in omega arith, let r = new-nf j.able in let t = z.few_f in omega arith), new-keeps j.able long))
        (λ q. (
          (let r = insert-ne j.able g in let t = z.few_e in omega arith, let r = insert-nf j.able g in let t = z.few_f in omega arith),
          again-keeps j.able g (j.free.in_range q) (j.free.deleted q) long,
        ))

pub insert_edge-keeps : (p n g : ℕ) → Keeps (insert_edge_edit p n g)
unfolding insert_edge_edit counts_of marks-again
insert_edge-keeps p n g m k own l e =
    let a = allowed (insert_edge_edit p n g) m k own l e in
    let (j, long) = spared p n g m k a.sized a.long a.consistent a.undenied in
    split g NONE (λ q. fresh a j long q) (λ q. again a j long q)
  where
    wanted : ℕ → Links → Counts
    wanted f l = record { v = l.nv; e = l.ne + 1; f = l.nf + f }

    wants-new : g ≡ NONE → (insert_edge_edit p n g).wanted m ≡ wanted 1 m
    wants-new q = ap (λ (w : Links → Counts). w m) (if-not-given g (wanted 0) (wanted 1) q)

    wants-again : g ≢ NONE → (insert_edge_edit p n g).wanted m ≡ wanted 0 m
    wants-again q = ap (λ (w : Links → Counts). w m) (if-given g (wanted 0) (wanted 1) q)

    fresh : Allowed (insert_edge_edit p n g) m k → Admitted m k p n g → (face m p ≢ NONE → next m (next m p) ≢ n) → g ≡ NONE → Kept (insert_edge_edit p n g) m k
    fresh a j long q =
        let r : Few (wanted 1 m) = subst Few (wants-new q) a.room in
        let z = new-sized j.able r.few_e r.few_f in
        let lo = a.long in
        let v = new-nv j.able in
        let e = new-ne j.able in
        let f = new-nf j.able in
        after-kept-as (insert_edge_edit p n g) m k (insert_new p n m) k (if-not-given g (insert_edge g p n m) (insert_new p n m) q) (if-not-given g _ k q) z
        (let q = lo.vs_long in omega arith) (let q = lo.es_long in omega arith) (let q = lo.fs_long in omega arith)
        (new-keeps j.able long)
        (counts_are v e f ∙ sym (wants-new q))

    again : Allowed (insert_edge_edit p n g) m k → Admitted m k p n g → (face m p ≢ NONE → next m (next m p) ≢ n) → g ≢ NONE → Kept (insert_edge_edit p n g) m k
    again a j long q =
        let r : Few (wanted 0 m) = subst Few (wants-again q) a.room in
        let low = j.free.in_range q in
        let z = again-sized j.able g low (j.free.deleted q) r.few_e in
        let lo = a.long in
        let v = insert-nv j.able g in
        let e = insert-ne j.able g in
        let f = insert-nf j.able g in
        after-kept-as (insert_edge_edit p n g) m k (insert_edge g p n m) (marks-again j.able g low (j.free.deleted q)) (if-given g (insert_edge g p n m) (insert_new p n m) q) (if-given g _ k q) z
        (let q = lo.vs_long in omega arith) (let q = lo.es_long in omega arith) (let q = put-long k.fs g 0 lo.fs_long low in omega arith)
        (again-keeps j.able g low (j.free.deleted q) long)
        (counts_are v e (f ∙ omega arith) ∙ sym (wants-again q))

-- ---- 9: the halfedges are in different loops. Where the given face is there, 10 comes before the loop is walked
-- what holds is not denied, and what does not hold is not told
told-so : {b : Bool} {P : Type 0} → Tells b P → P → b ≡ true
told-so {b} {P} t x = go b t
  where
    go : (b : Bool) → Tells b P → b ≡ true
    go true t = refl
    go false t = absurd (t.not_so refl x)

told-not : {b : Bool} {P : Type 0} → Tells b P → (P → ⊥) → b ≡ false
told-not {b} {P} t x = go b t
  where
    go : (b : Bool) → Tells b P → b ≡ false
    go true t = absurd (x (t.so refl))
    go false t = refl

pub nine-apart : (p n g : ℕ) (m : Links) (k : Marks) → Sized m → Consistent (mesh_of m k) → (insert_edge_edit p n g).denied m k ≡ Some HalfedgesNotInTheSameLoop → ¬ Reach (next m) p n
unfolding insert_edge_edit
nine-apart p n g m k z c e r =
    let (bad, e1) = let-past (not (is_h m k p && is_h m k n) || (not (eqb g NONE) && not (ltb g m.nf))) _ _ HalfedgesNotInTheSameLoop (λ q. omega arith) e in
    let (same, e2) = let-past (eqb p n || eqb (next m p) n) _ _ HalfedgesNotInTheSameLoop (λ q. omega arith) e1 in
    let (handles, range) = neither (not (is_h m k p && is_h m k n)) _ bad in
    let (pi, ni) = is-so-not (t-and (t-is_h m k p) (t-is_h m k n)) handles in
    let one = loop-face (shape_of m k z.few_e z.few_f) c.core pi r in
    let e3 = passed-by (not (eqb (face m p) (face m n))) HalfedgesNotInTheSameLoop _ (told-not (t_not (t-eq (face m p) (face m n))) (λ q. q (sym one))) in
    let (living, e4) = let-past (not (eqb g NONE) && is_f m k g) _ _ HalfedgesNotInTheSameLoop (λ q. omega arith) (sym e3 ∙ e2) in
    let e5 = passed-by (not (has n (loop m p))) HalfedgesNotInTheSameLoop _ (told-not (t_not (t-on_loop m k p n z c pi)) (λ q. q r)) in
    never14 (not (rim m p) && eqb (next m (next m p)) n) (sym e5 ∙ e4)
  where
    never14 : (b : Bool) → refuse_if b WouldBreak ≡ Some HalfedgesNotInTheSameLoop → ⊥
    never14 true e = let q = ap (λ (r : Refusal). (said_of r).number) (same_Some _ _ e) in omega arith
    never14 false e = absurd (none-some _ e)

pub apart-nine : (p n g : ℕ) (m : Links) (k : Marks) → Sized m → Consistent (mesh_of m k) → (mesh_of m k).is_h p → (mesh_of m k).is_h n → Free m k g → ¬ Reach (next m) p n
    → (insert_edge_edit p n g).denied m k ≡ Some HalfedgesNotInTheSameLoop
unfolding insert_edge_edit
apart-nine p n g m k z c pi ni free far =
    passed-by (not (is_h m k p && is_h m k n) || (not (eqb g NONE) && not (ltb g m.nf))) BadHandle _
    (told-not (t-or (t_not (t-and (t-is_h m k p) (t-is_h m k n))) (t-and (t_not (t-eq g NONE)) (t_not (t-lt g m.nf)))) (λ q. ⊎_elim (λ x. x (pi, ni)) (λ (x, y). y (free.in_range x)) q))
    ∙ passed-by (eqb p n || eqb (next m p) n) CannotInsertEdge _
    (told-not (t-or (t-eq p n) (t-eq (next m p) n)) (λ q. far (⊎_elim (λ x. reach-eq x) (λ x. reach-one x) q)))
    ∙ split (face m p) (face m n)
    (λ e. passed-by (not (eqb (face m p) (face m n))) HalfedgesNotInTheSameLoop _ (told-not (t_not (t-eq (face m p) (face m n))) (λ q. q e))
    ∙ passed-by (not (eqb g NONE) && is_f m k g) NotDeletedFace _ (told-not (t-and (t_not (t-eq g NONE)) (t-is_f m k g)) (λ (x, y). free.deleted x y))
    ∙ refused-by (not (has n (loop m p))) HalfedgesNotInTheSameLoop _ (told-so (t_not (t-on_loop m k p n z c pi)) far))
    (λ e. refused-by (not (eqb (face m p) (face m n))) HalfedgesNotInTheSameLoop _ (told-so (t_not (t-eq (face m p) (face m n))) e))
