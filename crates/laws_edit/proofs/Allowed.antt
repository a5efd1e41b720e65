-- What is known where an edit is not refused, and the marks afterwards. Assumes nothing.
use Rattle.std.proofs.lemmas.Option.{none-some, same_Some}
use mathlib.Core.Path.{◌≡◌, refl, sym, ap, ◌∙◌, subst⁻¹}
use mathlib.Core.Logic.{inl, inr, ◌≢◌}
use mathlib.Core.Bool.{Bool, true, false, not, ◌||◌}
use mathlib.Core.List.{List, [], ◌∷◌, ◌++◌}
use Rattle.std.specs.Prelude.{Option, None, Some}
use Prim.Native.Nat.{ℕ, zero, suc, ◌-◌, ◌*◌, ◌/◌, ◌≤◌}
use native.Mathlib.Omega.{arith}
use lib.ListN.{length, get_or, replicate, length-append, length-replicate}
use Rattle.scope.specs.declared.records.Counts.{Counts}
use Rattle.scope.specs.declared.answers.Refusal.{Refusal}
use Rattle.scope.specs.declared.answers.Refusal.TheVariants.{WouldBreak}
use Rattle.scope.specs.Lists.{if, ◌or_else◌}
use Rattle.scope.specs.Links.{Links, Marks, NONE}
use Rattle.scope.specs.Check.{fault, marked}
use Rattle.scope.specs.Tally.{counts_of}
use Rattle.scope.specs.Slices.{Sizes, fits}
use Rattle.scope.specs.Answers.{said_of, refuse_if, refuse}
use Rattle.scope.specs.EditCalls.{Edit, unmarked_new, edit_refusal}
use Rattle.laws_mesh.specs.Mesh.{Mesh, Shape, Consistent}
use Rattle.laws_mesh.specs.Of.{mesh_of, Sized, Marked}
use Rattle.laws_mesh.proofs.Rules.{consistent-rules}
use Rattle.laws_mesh.proofs.Shapes.{recarry, shape-wide}
use Rattle.laws_check.proofs.Tells.{never, is-so-not, t-and, t-le}
use Rattle.laws_check.proofs.Theorems.{none-consistent}
use Rattle.laws_edit.specs.Kept.{Laid, marks_after, Kept}
use Rattle.laws_edit.specs.Breaks.{Breaks, Guards}

-- ---- refusals in a row: where there is none, none of them is given
pub let_by : (b : Bool) (r : Refusal) (rest : Option Refusal) → refuse_if b r or_else rest ≡ None → (b ≡ false) × (rest ≡ None)
let_by true r rest e = absurd (none-some _ (sym e))
let_by false r rest e = (refl, e)

pub let-last : (b : Bool) (r : Refusal) → refuse_if b r ≡ None → b ≡ false
let-last true r e = absurd (none-some _ (sym e))
let-last false r e = refl

pub let-none : {A : Type 0} (o : Option A) (r : A → Refusal) (rest : Option Refusal) → refuse o r or_else rest ≡ None → (o ≡ None) × (rest ≡ None)
let-none None r rest e = (refl, e)
let-none (Some x) r rest e = absurd (none-some _ (sym e))

pub let-first : (o rest : Option Refusal) → o or_else rest ≡ None → (o ≡ None) × (rest ≡ None)
let-first None rest e = (refl, e)
let-first (Some x) rest e = absurd (none-some _ (sym e))

pub neither : (a b : Bool) → a || b ≡ false → (a ≡ false) × (b ≡ false)
neither true b e = never e
neither false b e = (refl, e)

-- where a refusal is given: not one with another number, and the last only by its test
pub let-past : (b : Bool) (r : Refusal) (rest : Option Refusal) (x : Refusal) → (said_of r).number ≢ (said_of x).number → refuse_if b r or_else rest ≡ Some x → (b ≡ false) × (rest ≡ Some x)
let-past true r rest x n e = absurd (n (ap (λ (r : Refusal). (said_of r).number) (same_Some _ _ e)))
let-past false r rest x n e = (refl, e)

pub given-last : (b : Bool) (r x : Refusal) → refuse_if b r ≡ Some x → b ≡ true
given-last true r x e = refl
given-last false r x e = absurd (none-some _ e)

pub refused-by : (b : Bool) (r : Refusal) (rest : Option Refusal) → b ≡ true → refuse_if b r or_else rest ≡ Some r
refused-by true r rest e = refl
refused-by false r rest e = never (sym e)

pub passed-by : (b : Bool) (r : Refusal) (rest : Option Refusal) → b ≡ false → refuse_if b r or_else rest ≡ rest
passed-by true r rest e = never e
passed-by false r rest e = refl

-- ---- what no refusal says

-- no count is over 1,048,576
pub record Few (c : Counts) : Type 0 where
  pub few_v : c.v ≤ 1048576
  pub few_e : c.e ≤ 1048576
  pub few_f : c.f ≤ 1048576

-- and the slices are long enough
pub record Room (c : Counts) (s : Sizes) : Type 0 where
  pub few : Few c
  pub for-outs : c.v ≤ s.outs
  pub for-edges : 8 * c.e ≤ s.edges
  pub for-faces : c.f ≤ s.faces
  pub for-vmarks : c.v ≤ s.vmarks
  pub for-emarks : c.e ≤ s.emarks
  pub for-fmarks : c.f ≤ s.fmarks

pub fits-room : (c : Counts) (s : Sizes) → not (fits c s) ≡ false → Room c s
unfolding fits
fits-room c s e =
    let ((((((((a, b), d), f), g), h), v), w), x) = is-so-not (t-and (t-and (t-and (t-and (t-and (t-and (t-and (t-and (t-le c.v s.outs) (t-le (8 * c.e) s.edges)) (t-le c.f s.faces))
    (t-le c.v s.vmarks)) (t-le c.e s.emarks)) (t-le c.f s.fmarks)) (t-le c.v 1048576)) (t-le c.e 1048576)) (t-le c.f 1048576)) e in
    record { few = record { few_v = v; few_e = w; few_f = x }; for-outs = a; for-edges = b; for-faces = d; for-vmarks = f; for-emarks = g; for-fmarks = h }

pub record Allowed (E : Edit) (m : Links) (k : Marks) : Type 0 where
  pub sized : Sized m
  pub long : Marked m k
  pub consistent : Consistent (mesh_of m k)
  pub unmarked : E.whole ≡ true → marked k ≡ None
  pub undenied : E.denied m k ≡ None
  pub room : Few (E.wanted m)

if-true : {A : Type 0} (b : Bool) (x y : A) → b ≡ true → if b x y ≡ x
if-true b x y e = subst⁻¹ (λ (b : Bool). if b x y ≡ x) e refl

-- the first refusal and the last, for the slices that there are
pub rooms : (E : Edit) (m : Links) (k : Marks) (own : Sizes) → edit_refusal E m k own ≡ None → Room (counts_of m) own × Room (E.wanted m) own
unfolding edit_refusal
rooms E m k own e =
    let (short, e1) = let_by (not (fits (counts_of m) own)) _ _ e in
    let (sound, e2) = let-none (fault m k) _ _ e1 in
    let (clean, e3) = let-none (if E.whole (marked k) None) _ _ e2 in
    let (fine, e4) = let-first (E.denied m k) _ e3 in
    (fits-room (counts_of m) own short, fits-room (E.wanted m) own (let-last (not (fits (E.wanted m) own)) _ e4))

pub allowed : (E : Edit) (m : Links) (k : Marks) (own : Sizes) → Laid m k → edit_refusal E m k own ≡ None → Allowed E m k
unfolding edit_refusal counts_of
allowed E m k own l e =
    let (here, there) = rooms E m k own e in
    let few = here.few in
    let (short, e1) = let_by (not (fits (counts_of m) own)) _ _ e in
    let (sound, e2) = let-none (fault m k) _ _ e1 in
    let (clean, e3) = let-none (if E.whole (marked k) None) _ _ e2 in
    record {
      sized = record { outs_long = l.outs_long; edges_long = l.edges_long; faces_long = l.faces_long; few_v = few.few_v; few_e = few.few_e; few_f = few.few_f };
      long = record { vs_long = l.vs_long; es_long = l.es_long; fs_long = l.fs_long };
      consistent = none-consistent m k few.few_e few.few_f sound;
      unmarked = λ w. sym (if-true E.whole _ _ w) ∙ clean;
      undenied = (let-first (E.denied m k) _ e3).0;
      room = there.few;
    }

-- ---- marks: what is new is unmarked, and the rest as it was

get_or-zeros : (l : List ℕ) (n i : ℕ) → get_or (l ++ replicate n 0) i 0 ≡ get_or l i 0
get_or-zeros [] zero i = refl
get_or-zeros [] (suc n) zero = refl
get_or-zeros [] (suc n) (suc i) = get_or-zeros [] n i
get_or-zeros (x ∷ l) n zero = refl
get_or-zeros (x ∷ l) n (suc i) = get_or-zeros l n i

length-zeros : (l : List ℕ) (n : ℕ) → length l ≤ n → length (l ++ replicate (n - length l) 0) ≡ n
length-zeros l n h = let a = length-append l (replicate (n - length l) 0) in let b = length-replicate {A = ℕ} (n - length l) 0 in omega arith

-- the marks of a mesh that has grown
pub after-marked : (m : Links) (k : Marks) → length k.vs ≤ m.nv → length k.es ≤ m.ne → length k.fs ≤ m.nf → Marked m (unmarked_new m k)
unfolding unmarked_new
after-marked m k v e f = record { vs_long = length-zeros k.vs m.nv v; es_long = length-zeros k.es m.ne e; fs_long = length-zeros k.fs m.nf f }

pub after-consistent : (m : Links) (k : Marks) → Consistent (mesh_of m k) → Consistent (mesh_of m (unmarked_new m k))
unfolding unmarked_new
after-consistent m k = recarry m (record {
  to_H = λ x (i, q). (i, get_or-zeros k.es (m.ne - length k.es) (x / 2) ∙ q);
  from-H = λ x (i, q). (i, sym (get_or-zeros k.es (m.ne - length k.es) (x / 2)) ∙ q);
  to-V = λ x (i, q). (i, get_or-zeros k.vs (m.nv - length k.vs) x ∙ q);
  from-V = λ x (i, q). (i, sym (get_or-zeros k.vs (m.nv - length k.vs) x) ∙ q);
  to-F = λ x (i, q). (i, get_or-zeros k.fs (m.nf - length k.fs) x ∙ q);
  from-F = λ x (i, q). (i, sym (get_or-zeros k.fs (m.nf - length k.fs) x) ∙ q);
})

-- both, put together
pub after_kept : (E : Edit) (m : Links) (k : Marks) → Sized (E.links m) → length (E.marks k).vs ≤ (E.links m).nv → length (E.marks k).es ≤ (E.links m).ne → length (E.marks k).fs ≤ (E.links m).nf
    → Consistent (mesh_of (E.links m) (E.marks k)) → counts_of (E.links m) ≡ E.wanted m → Kept E m k
after_kept E m k z v e f c n =
    let l = after-marked (E.links m) (E.marks k) v e f in
    record {
      laid = record { outs_long = z.outs_long; edges_long = z.edges_long; faces_long = z.faces_long; vs_long = l.vs_long; es_long = l.es_long; fs_long = l.fs_long };
      consistent = after-consistent (E.links m) (E.marks k) c;
      counted = n;
    }

abbrev counts : ℕ → ℕ → ℕ → Counts
counts v e f = record { v = v; e = e; f = f }

pub counts_are : {a b : Counts} → a.v ≡ b.v → a.e ≡ b.e → a.f ≡ b.f → a ≡ b
counts_are {a} {b} p q r = ap (λ (x : ℕ). counts x a.e a.f) p ∙ ap (λ (x : ℕ). counts b.v x a.f) q ∙ ap (λ (x : ℕ). counts b.v b.e x) r

-- the same, links and marks known by equations
pub after-kept-as : (E : Edit) (m : Links) (k : Marks) (m' : Links) (k' : Marks) → E.links m ≡ m' → E.marks k ≡ k'
    → Sized m' → length k'.vs ≤ m'.nv → length k'.es ≤ m'.ne → length k'.fs ≤ m'.nf → Consistent (mesh_of m' k') → counts_of m' ≡ E.wanted m → Kept E m k
after-kept-as E m k m' k' em ek z v e f c n = after_kept E m k
    (subst⁻¹ Sized em z)
    (subst⁻¹ (λ (l : Links). length (E.marks k).vs ≤ l.nv) em (subst⁻¹ (λ (q : Marks). length q.vs ≤ m'.nv) ek v))
    (subst⁻¹ (λ (l : Links). length (E.marks k).es ≤ l.ne) em (subst⁻¹ (λ (q : Marks). length q.es ≤ m'.ne) ek e))
    (subst⁻¹ (λ (l : Links). length (E.marks k).fs ≤ l.nf) em (subst⁻¹ (λ (q : Marks). length q.fs ≤ m'.nf) ek f))
    (subst⁻¹ (λ (l : Links). Consistent (mesh_of l (E.marks k))) em (subst⁻¹ (λ (q : Marks). Consistent (mesh_of m' q)) ek c))
    (ap counts_of em ∙ n)

-- what is broken is so with the marks afterwards too
pub after-breaks : (m : Links) (k : Marks) → Breaks (mesh_of m k) → Breaks (mesh_of m (unmarked_new m k))
unfolding unmarked_new
after-breaks m k (inl (h, (i, q), n)) = inl (h, (i, get_or-zeros k.es (m.ne - length k.es) (h / 2) ∙ q), λ c. n (record { no_spike = c.no_spike }))
after-breaks m k (inr (f, (i, q), n)) = inr (
  f,
  (i, get_or-zeros k.fs (m.nf - length k.fs) f ∙ q),
  λ c. n (record {
    three = c.three;
    differ = λ a b (ai, aq) (bi, bq). c.differ a b (ai, get_or-zeros k.es (m.ne - length k.es) (a / 2) ∙ aq) (bi, get_or-zeros k.es (m.ne - length k.es) (b / 2) ∙ bq);
  }),
)

-- a consistent mesh breaks neither rule
unbroken : {M : Mesh} → Shape M → Consistent M → Breaks M → ⊥
unbroken s c (inl (h, i, n)) = n ((consistent-rules s c).c6 h i)
unbroken s c (inr (f, i, n)) = n ((consistent-rules s c).c7 f i)

-- an edit's numbers of halfedges and faces stay below "none"
abbrev pub Numbered : Links → Type 0
Numbered m = (2 * m.ne ≤ NONE) × (m.nf ≤ NONE)

pub after-guards : (E : Edit) (m : Links) (k : Marks) → (E.denied m k ≡ Some WouldBreak → Breaks (mesh_of (E.links m) (E.marks k)))
    → (E.denied m k ≡ None → Numbered (E.links m) × Consistent (mesh_of (E.links m) (E.marks k))) → Guards E m k
after-guards E m k f g = record {
  would_break = λ e. after-breaks (E.links m) (E.marks k) (f e);
  else_sound = λ e. after-consistent (E.links m) (E.marks k) (g e).1;
  else_unbroken = λ e. (let ((x, y), c) = g e in unbroken (shape-wide (E.links m) (marks_after E m k) x y) (after-consistent (E.links m) (E.marks k) c));
}
