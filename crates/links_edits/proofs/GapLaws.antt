-- The cut across a face in slices that hold a good mesh, by what the caller knows of the face: they then hold the mesh after scope's cut. Assumes nothing.
use Prim.Native.Nat.{ℕ, ◌+◌, ◌*◌, ◌≤◌, ◌<◌}
use mathlib.Core.Path.{◌≡◌, sym, ap, ◌∙◌, subst⁻¹}
use mathlib.Core.List.{List, [], ◌∷◌}
use native.Mathlib.Omega.{arith}
use lib.ListN.{length}
use Rattle.scope.specs.Lists.{put, lay, round, has, if}
use Rattle.scope.specs.Links.{Links, partner, face, head, next, prev, start, tail, loop}
use Rattle.scope.specs.Edits.{joined, paint, across_face, cut_off}
use Rattle.laws_mesh.specs.Mesh.{Core}
use Rattle.laws_mesh.specs.Of.{mesh, Good}
use Rattle.laws_mesh.proofs.Stores.{stores}
use Rattle.laws_mesh.proofs.Count.{Length}
use Rattle.laws_mesh.proofs.Loops.{steps, loop-steps}
use Rattle.laws_mesh.proofs.Paint.{paint-next, paint-starts}
use Rattle.laws_mesh.proofs.InsertLaws.{Across, face-ne}
use Rattle.mesh.specs.Words.{head_at, tail_at, set_face}
use Rattle.mesh.proofs.SliceLaws.{set-lay, get_or-lay, length-lay}
use Rattle.mesh.proofs.PartnerLaws.{partner-lt}
use Rattle.mesh.proofs.RoundLaws.{round_same}
use Rattle.links_edits.specs.declared.cut.Gap.{Gap}
use Rattle.links_edits.specs.Cut.{gap_of, closed, divided, cut_three, GapOk}
use Rattle.links_edits.proofs.StoreLaws.{sets-stores, stores-lay}
use Rattle.links_edits.proofs.CutLaws.{Touched, gap_run, gap_below, part-here}
use Rattle.links_edits.proofs.AcrossLaws.{three-near}

-- ---- the new edge
-- x is a gap of t
pub record Gapped (t : Links) (x : Gap) : Type 0 where
  pub p-in : x.p < 2 * t.ne
  pub n-in : x.n < 2 * t.ne
  pub a-is : x.a ≡ next t x.p
  pub b-is : x.b ≡ prev t x.n
  pub f-is : x.f ≡ face t x.p

module _ (t : Links) (c : Core (mesh t)) (x : Gap) (q : Gapped t x) (few : t.ne ≤ 1048576) (edges : List ℕ) (long : 8 * (t.ne + 1) ≤ length edges) where
  abbrev es : List ℕ
  es = lay 0 t.edges edges

  es_long : length es ≡ length edges
  es_long = length-lay 0 t.edges edges

  a_in : x.a < 2 * t.ne
  a_in = subst⁻¹ (λ (y : ℕ). y < 2 * t.ne) q.a-is (c.next_in x.p q.p-in)

  b-in : x.b < 2 * t.ne
  b-in = subst⁻¹ (λ (y : ℕ). y < 2 * t.ne) q.b-is (c.prev_in x.n q.n-in)

  pub gap-ok : GapOk (lay 0 t.edges edges) t.ne x
  gap-ok =
      let w = es_long in
      let i = q.p-in in
      let j = q.n-in in
      let k = a_in in
      let l = b-in in
      let o = partner-lt x.n t.ne j in
      record {
        few = few;
        room = omega arith;
        across = omega arith;
        around = record { has_p = omega arith; has_n = omega arith; has_a = omega arith; has_b = omega arith };
      }

  touches : Touched (2 * t.ne) x
  touches = record { first = q.p-in; last = q.n-in; then = a_in; before = b-in }

  x-is : x ≡ gap_of t.edges x.p x.n
  x-is = λ i. record { p = x.p; n = x.n; a = q.a-is i; b = q.b-is i; f = q.f-is i }

  u-is : tail_at (lay 0 t.edges edges) x.n ≡ tail t x.n
  u-is = get_or-lay 0 t.edges edges (4 * partner x.n + 1) (let o = partner-lt x.n t.ne q.n-in in omega arith)

  v-is : head_at (lay 0 t.edges edges) x.p ≡ head t x.p
  v-is = get_or-lay 0 t.edges edges (4 * x.p + 1) (let i = q.p-in in omega arith)

  pub divided-laid : divided (lay 0 t.edges edges) t.ne x ≡ lay 0 (joined x.p x.n t).edges edges
  unfolding divided closed joined
  divided-laid =
      let h = 2 * t.ne in
      let k = 2 * t.ne + 1 in
      let u = tail_at (lay 0 t.edges edges) x.n in
      let v = head_at (lay 0 t.edges edges) x.p in
      let below = gap_below x u v t.ne touches in
      sets-stores (2 * t.ne + 2) (lay 0 t.edges edges) (gap_run x u v h k) (let w = es_long in omega arith) below
      ∙ stores-lay (2 * t.ne + 2) t.edges edges (gap_run x u v h k) (omega arith) below
      ∙ ap (λ (u : ℕ). lay 0 (stores t.edges (gap_run x u v h k)) edges) u-is
      ∙ ap (λ (v : ℕ). lay 0 (stores t.edges (gap_run x (tail t x.n) v h k)) edges) v-is
      ∙ ap (λ (y : Gap). lay 0 (stores t.edges (gap_run y (tail t x.n) (head t x.p) h k)) edges) x-is

  -- a face word more
  pub face-laid : (l : List ℕ) (h g : ℕ) → h < 2 * t.ne + 2 → set_face (lay 0 l edges) h g ≡ lay 0 (put l (4 * h) g) edges
  face-laid l h g i = set-lay l edges (4 * h) g (omega arith)

  pub three-laid : (g : ℕ) → cut_three (lay 0 t.edges edges) t.ne x g
      ≡ lay 0 (put (put (put (joined x.p x.n t).edges (4 * (2 * t.ne + 1)) g) (4 * x.a) g) (4 * x.b) g) edges
  unfolding cut_three
  three-laid g =
      let k = 2 * t.ne + 1 in
      let l = (joined x.p x.n t).edges in
      let i = a_in in
      let j = b-in in
      ap (λ (l : List ℕ). set_face (set_face (set_face l k g) x.a g) x.b g) divided-laid
      ∙ ap (λ (l : List ℕ). set_face (set_face l x.a g) x.b g) (face-laid l k g (omega arith))
      ∙ ap (λ (l : List ℕ). set_face l x.b g) (face-laid (put l (4 * k) g) x.a g (omega arith))
      ∙ face-laid (put (put l (4 * k) g) (4 * x.a) g) x.b g (omega arith)

-- ---- scope's cut, where the part that is cut off is known
module _ (t : Links) (p n : ℕ) where
  -- the new half's loop is walked as after the cut
  pub part-steps : Good (cut_off p n t) → (s : ℕ) → 2 * t.ne + 1 < 2 * (cut_off p n t).ne → Length (next (cut_off p n t)) (2 * t.ne + 1) s
      → loop (joined p n t) (2 * t.ne + 1) ≡ steps (next (cut_off p n t)) (2 * t.ne + 1) s
  unfolding cut_off across_face loop joined
  part-steps g s i l =
      let k = 2 * t.ne + 1 in
      let m = joined p n t in
      round_same k (next m) (next (cut_off p n t)) (2 * (t.ne + 1)) k (λ y. sym (paint-next t.nf (loop m k) m _))
      ∙ ap (λ (e : ℕ). round k (next (cut_off p n t)) (2 * e) k) (let e = face-ne t.nf p n t in let w : t.ne + 1 ≡ (cut_off p n t).ne = omega arith in w)
      ∙ loop-steps (cut_off p n t) g k s i l

  pub cut-edges : (part : List ℕ) → loop (joined p n t) (2 * t.ne + 1) ≡ part → (cut_off p n t).edges ≡ (paint t.nf part (joined p n t)).edges
  unfolding cut_off across_face
  cut-edges part e = ap (λ (l : List ℕ). (paint t.nf l (joined p n t)).edges) e

  pub cut-faces : (part : List ℕ) → loop (joined p n t) (2 * t.ne + 1) ≡ part
      → (cut_off p n t).faces ≡ put (put t.faces t.nf (2 * t.ne + 1)) (face t p) (if (has (start t (face t p)) part) (2 * t.ne) (start t (face t p)))
  unfolding cut_off across_face joined
  cut-faces part e =
      let k = 2 * t.ne + 1 in
      let m = joined p n t in
      let s = start t (face t p) in
      ap (λ (l : List ℕ). put (put (paint t.nf l m).faces t.nf k) (face t p) (if (has s l) (2 * t.ne) s)) e
      ∙ ap (λ (l : List ℕ). put (put l t.nf k) (face t p) (if (has s part) (2 * t.ne) s)) (paint-starts t.nf part m)

-- ---- a part of three: the new half and two halfedges
pub three-part : (t : Links) → Good t → (p n : ℕ) → Across t p n 1 → loop (joined p n t) (2 * t.ne + 1) ≡ (2 * t.ne + 1) ∷ next t p ∷ prev t n ∷ []
three-part t g p n a = part-here t p n (next t p ∷ prev t n ∷ []) (three-near t g p n a (let i = a.p-in in omega arith))

-- in slices that hold t
pub cut-off-laid : (t : Links) (g : Good t) (x : Gap) (q : Gapped t x) → Across t x.p x.n 1 → t.ne + 1 ≤ 1048576
    → (edges : List ℕ) → 8 * (t.ne + 1) ≤ length edges → cut_three (lay 0 t.edges edges) t.ne x t.nf ≡ lay 0 (cut_off x.p x.n t).edges edges
unfolding paint
cut-off-laid t g x q a room_e edges long =
    let l = (joined x.p x.n t).edges in
    let k = 2 * t.ne + 1 in
    let f = t.nf in
    three-laid t g.consistent.core x q (omega arith) edges long f
    ∙ ap (λ (y : ℕ). lay 0 (put (put (put l (4 * k) f) (4 * y) f) (4 * x.b) f) edges) q.a-is
    ∙ ap (λ (y : ℕ). lay 0 (put (put (put l (4 * k) f) (4 * next t x.p) f) (4 * y) f) edges) q.b-is
    ∙ ap (λ (l : List ℕ). lay 0 l edges) (sym (cut-edges t x.p x.n _ (three-part t g x.p x.n a)))
