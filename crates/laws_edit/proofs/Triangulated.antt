-- Triangulate keeps a mesh consistent. Assumes nothing.
use Rattle.std.proofs.lemmas.Option.{none-some}
use mathlib.Core.Path.{◌≡◌, refl, sym, ap, subst}
use mathlib.Core.Bool.{true}
use mathlib.Core.List.{List}
use Rattle.std.specs.Prelude.{Option, None, Some}
use Prim.Native.Nat.{ℕ, ◌*◌, zero, suc, ◌≤◌, ◌<◌}
use native.Mathlib.Decide.{dec_lt}
use native.Mathlib.Omega.{arith}
use lib.Dec.{eqb}
use lib.ListN.{length, get_or}
use Rattle.scope.specs.declared.answers.Place.{Place}
use Rattle.scope.specs.declared.answers.Place.TheVariants.{AtVertex, AtEdge, AtFace}
use Rattle.scope.specs.Lists.{sum, ◌or_else◌}
use Rattle.scope.specs.Links.{Links, Marks, start, loop}
use Rattle.scope.specs.Check.{spot, set_mark, marked}
use Rattle.scope.specs.Edits.{triangulate}
use Rattle.scope.specs.Tally.{Tally, tally_of, counts_of, counted, triangulated}
use Rattle.scope.specs.EditCalls.{triangulate_all}
use Rattle.laws_mesh.specs.Of.{Good}
use Rattle.laws_mesh.proofs.Puts.{get_d_past}
use Rattle.laws_mesh.proofs.Shapes.{Unmarked, to-mesh, from-mesh}
use Rattle.laws_mesh.proofs.Loops.{face-three}
use Rattle.laws_triangulate.proofs.Triangulate.{triangulates}
use Rattle.laws_check.proofs.Tells.{told, t-eq}
use Rattle.laws_check.proofs.Tests.{Sought, nowhere, first-sought}
use Rattle.laws_edit.specs.Kept.{Keeps}
use Rattle.laws_edit.proofs.Allowed.{allowed, after_kept}

-- ---- nothing is marked
no-spot : (o : Option ℕ) (p : ℕ → Place) (rest : Option Place) → spot p o or_else rest ≡ None → (o ≡ None) × (rest ≡ None)
no-spot None p rest e = (refl, e)
no-spot (Some i) p rest e = absurd (none-some _ (sym e))

last-spot : (o : Option ℕ) (p : ℕ → Place) → spot p o ≡ None → o ≡ None
last-spot None p e = refl
last-spot (Some i) p e = absurd (none-some _ (sym e))

zeros : (l : List ℕ) → set_mark l ≡ None → (i : ℕ) → get_or l i 0 ≡ 0
unfolding set_mark
zeros l e i = all (subst (Sought (λ i. Unit {0} → get_or l i 0 ≡ 0) (length l)) e (first-sought (length l) {there = λ i. true} {ok = λ i. eqb (get_or l i 0) 0} (λ i. told tt) (λ i _. t-eq (get_or l i 0) 0)))
  where
    all : Sought (λ i. Unit {0} → get_or l i 0 ≡ 0) (length l) None → get_or l i 0 ≡ 0
    all (nowhere f) = here (dec_lt i (length l))
      where
        here : Dec (i < length l) → get_or l i 0 ≡ 0
        here (yes h) = f i h tt
        here (no h) = get_d_past l i (omega arith)

-- whatever the counts
pub none-marked : (m : Links) (k : Marks) → marked k ≡ None → Unmarked m k
unfolding marked
none-marked m k e =
    let (f, e1) = no-spot (set_mark k.fs) AtFace _ e in
    let (g, e2) = no-spot (set_mark k.es) AtEdge _ e1 in
    record { no-v = λ v _. zeros k.vs (last-spot (set_mark k.vs) AtVertex e2) v; no-e = λ i _. zeros k.es g i; no-f = λ i _. zeros k.fs f i }

-- ---- counts
same-counts : (m : Links) → tally_of (triangulate m) ≡ triangulated (tally_of m) → counts_of (triangulate m) ≡ counted (triangulated (tally_of m))
unfolding counts_of counted tally_of
same-counts m t = ap counted t

-- they do not fall
sum-three : (l : ℕ → ℕ) (n : ℕ) → ((i : ℕ) → i < n → 3 ≤ l i) → 3 * n ≤ sum n l
unfolding sum
sum-three l zero h = omega arith
sum-three l (suc n) h = let a = sum-three l n (λ i u. h i (omega arith)) in let b = h n (omega arith) in omega arith

grows : (m : Links) → Good m → tally_of (triangulate m) ≡ triangulated (tally_of m) → (m.nv ≤ (triangulate m).nv) × (m.ne ≤ (triangulate m).ne) × (m.nf ≤ (triangulate m).nf)
unfolding tally_of triangulated
grows m g t =
    let three = sum-three (λ f. length (loop m (start m f))) m.nf (face-three m g) in
    let v = ap (λ (t : Tally). t.v) t in
    let e = ap (λ (t : Tally). t.e) t in
    let f = ap (λ (t : Tally). t.f) t in
    (omega arith, omega arith, omega arith)

pub triangulate-keeps : Keeps triangulate_all
unfolding triangulate_all counted
triangulate-keeps m k own l e =
    let a = allowed triangulate_all m k own l e in
    let clean = a.unmarked refl in
    let lo = a.long in
    let g : Good m = record { sized = a.sized; consistent = to-mesh m k (none-marked m k clean) a.consistent } in
    let (g', _, t) = triangulates m g (record { v_within = a.room.few_v; e_within = a.room.few_e; f_within = a.room.few_f }) in
    let (nv, ne, nf) = grows m g t in
    after_kept triangulate_all m k g'.sized (let q = lo.vs_long in omega arith) (let q = lo.es_long in omega arith) (let q = lo.fs_long in omega arith)
    (from-mesh (triangulate m) k (none-marked (triangulate m) k clean) g'.consistent)
    (same-counts m t)
