-- What scope's `fault` answers: none exactly if the mesh is consistent, else the lowest broken rule at its first place. Assumes nothing.
use Rattle.std.proofs.lemmas.Option.{none-some, same_Some}
use mathlib.Core.Path.{◌≡◌, refl, sym, ap, ◌∙◌, subst}
use mathlib.Core.List.{[], ◌∷◌}
use Rattle.std.specs.Prelude.{Option, None, Some}
use Prim.Native.Nat.{ℕ, suc, ◌≤◌, ◌<◌}
use native.Mathlib.Nat.{not-suc-le-zero}
use native.Mathlib.Omega.{arith}
use lib.ListN.{get_or}
use Rattle.scope.specs.declared.answers.Place.{Place}
use Rattle.scope.specs.declared.answers.Fault.{Fault}
use Rattle.scope.specs.Links.{Links, Marks}
use Rattle.scope.specs.Check.{fault}
use Rattle.laws_mesh.specs.Mesh.{Consistent}
use Rattle.laws_mesh.specs.Rules.{Rules}
use Rattle.laws_mesh.specs.Of.{mesh_of}
use Rattle.laws_mesh.proofs.Cycle.{split}
use Rattle.laws_mesh.proofs.Rules.{rules-consistent, consistent-rules}
use Rattle.laws_mesh.proofs.Shapes.{shape_of}
use Rattle.laws_check.specs.Judged.{Stage, broken_at, passed, Judged}
use Rattle.laws_check.specs.Names.{Rule, rule-1-vertex, rule-1-halfedge, rule-1-face, rule-2, rule-3, rule-4, rule-5, rule-6, rule-7, rule-8, rule-9, order, fault_at, Holds, Names}
use Rattle.laws_check.proofs.Tests.{fault-judged, judged-fault}

-- ---- none
passes : {rule : ℕ} {place : ℕ → Place} {size : ℕ} {Ok : ℕ → Type 0} {Rest : Option Fault → Type 0} → Stage rule place size Ok Rest None → ((i : ℕ) → i < size → Ok i) × Rest None
passes (broken_at i l f x e) = absurd (none-some _ e)
passes (passed f r) = (f, r)

pub judged-none : (m : Links) (k : Marks) → Judged m k None → Rules (mesh_of m k)
judged-none m k j1v =
    let (o1v, j1h) = passes j1v in
    let (o1h, j1f) = passes j1h in
    let (o1f, j2) = passes j1f in
    let (o2, j3) = passes j2 in
    let (o3, j4) = passes j3 in
    let (o4, j5) = passes j4 in
    let (o5, j6) = passes j5 in
    let (o6, j7) = passes j6 in
    let (o7, j8) = passes j7 in
    let (o8, j9) = passes j8 in
    let (o9, _) = passes j9 in
    record {
      c1v = λ v i. o1v v i.0 i;
      c1h = λ h i. o1h h i.0 i;
      c1f = λ f i. o1f f i.0 i;
      c2 = λ h i. o2 h i.0 i;
      c3 = λ h i. o3 h i.0 i;
      c4 = λ f i. o4 f i.0 i;
      c5 = λ h i. o5 h i.0 i;
      c6 = λ h i. o6 h i.0 i;
      c7 = λ f i. o7 f i.0 i;
      c8 = λ v i. o8 v i.0 i;
      c9 = λ v i. o9 v i.0 i;
    }

pub rules-judged : (m : Links) (k : Marks) → Rules (mesh_of m k) → Judged m k None
rules-judged m k r =
    passed (λ v _. r.c1v v) (passed (λ h _. r.c1h h) (passed (λ f _. r.c1f f) (passed (λ h _. r.c2 h) (passed (λ h _. r.c3 h) (passed (λ f _. r.c4 f) (passed (λ h _. r.c5 h)
    (passed (λ h _. r.c6 h) (passed (λ f _. r.c7 f) (passed (λ v _. r.c8 v) (passed (λ v _. r.c9 v) refl))))))))))

-- the answer is none exactly if the mesh is consistent
pub none-consistent : (m : Links) (k : Marks) → m.ne ≤ 1048576 → m.nf ≤ 1048576 → fault m k ≡ None → Consistent (mesh_of m k)
none-consistent m k e f q = rules-consistent (shape_of m k e f) (judged-none m k (subst (Judged m k) q (fault-judged m k)))

pub consistent-none : (m : Links) (k : Marks) → m.ne ≤ 1048576 → m.nf ≤ 1048576 → Consistent (mesh_of m k) → fault m k ≡ None
consistent-none m k e f c = sym (judged-fault m k (rules-judged m k (consistent-rules (shape_of m k e f) c)))

-- ---- a fault

-- the rule that is n-th in the order
abbrev nth : ℕ → Rule
nth n = get_or (rule-1-vertex ∷ rule-1-halfedge ∷ rule-1-face ∷ rule-2 ∷ rule-3 ∷ rule-4 ∷ rule-5 ∷ rule-6 ∷ rule-7 ∷ rule-8 ∷ rule-9 ∷ []) n rule-9

nth-order : (q : Rule) → nth (order q) ≡ q
nth-order rule-1-vertex = refl
nth-order rule-1-halfedge = refl
nth-order rule-1-face = refl
nth-order rule-2 = refl
nth-order rule-3 = refl
nth-order rule-4 = refl
nth-order rule-5 = refl
nth-order rule-6 = refl
nth-order rule-7 = refl
nth-order rule-8 = refl
nth-order rule-9 = refl

module _ (m : Links) (k : Marks) where
  -- the rules below n hold everywhere
  abbrev Below : ℕ → Type 0
  Below n = (q : Rule) → order q < n → (j : ℕ) → Holds m k q j

  below_next : (r : Rule) → Below (order r) → ((j : ℕ) → Holds m k r j) → Below (suc (order r))
  below_next r b h q l j = split (order q) (order r) (λ e. subst (λ (q : Rule). Holds m k q j) (sym (nth-order r) ∙ ap nth (sym e) ∙ nth-order q) (h j)) (λ n. b q (omega arith) j)

  -- one stage: the fault is of it, or of what comes after
  at_stage : (r : Rule) {rule : ℕ} {place : ℕ → Place} {size : ℕ} {Rest : Option Fault → Type 0} {x : Fault} → ((i : ℕ) → fault_at r i ≡ record { rule = rule; place = place i })
      → ((j : ℕ) → (j < size → Holds m k r j) → Holds m k r j) → Below (order r)
      → Stage rule place size (Holds m k r) Rest (Some x) → (Below (suc (order r)) → Rest (Some x) → Names m k x) → Names m k x
  at_stage r is in_range b (broken_at i l f y e) next = record { r = r; i = i; says = same_Some _ _ e ∙ sym (is i); broken = y; first_place = f; lowest = b }
  at_stage r is in_range b (passed f t) next = next (below_next r b (λ j. in_range j (f j))) t

  names : {x : Fault} → Judged m k (Some x) → Names m k x
  names j =
      at_stage rule-1-vertex (λ i. refl) (λ j h a. h a.0 a) (λ q l. absurd (not-suc-le-zero l)) j (λ b j.
      at_stage rule-1-halfedge (λ i. refl) (λ j h a. h a.0 a) b j (λ b j.
      at_stage rule-1-face (λ i. refl) (λ j h a. h a.0 a) b j (λ b j.
      at_stage rule-2 (λ i. refl) (λ j h a. h a.0 a) b j (λ b j.
      at_stage rule-3 (λ i. refl) (λ j h a. h a.0 a) b j (λ b j.
      at_stage rule-4 (λ i. refl) (λ j h a. h a.0 a) b j (λ b j.
      at_stage rule-5 (λ i. refl) (λ j h a. h a.0 a) b j (λ b j.
      at_stage rule-6 (λ i. refl) (λ j h a. h a.0 a) b j (λ b j.
      at_stage rule-7 (λ i. refl) (λ j h a. h a.0 a) b j (λ b j.
      at_stage rule-8 (λ i. refl) (λ j h a. h a.0 a) b j (λ b j.
      at_stage rule-9 (λ i. refl) (λ j h a. h a.0 a) b j (λ b e. absurd (none-some _ (sym e)))))))))))))

  -- a fault names the lowest broken rule at its first place
  pub fault-names : (x : Fault) → fault m k ≡ Some x → Names m k x
  fault-names x e = names (subst (Judged m k) e (fault-judged m k))
