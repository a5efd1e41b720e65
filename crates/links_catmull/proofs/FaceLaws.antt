-- One face of a Catmull-Clark pass in slices that hold a good mesh: its steps have what they ask, and leave the mesh after that face. Assumes nothing.
use Prim.Native.Nat.{ℕ, zero, suc, ◌+◌, ◌-◌, ◌*◌, ◌/◌, ◌%◌, ◌≤◌, ◌<◌}
use mathlib.Core.Path.{◌≡◌, refl, sym, ap, ◌∙◌, subst⁻¹}
use mathlib.Core.Bool.{Bool}
use mathlib.Core.List.{List, [], ◌∷◌}
use native.Mathlib.Omega.{arith}
use lib.Dec.{ltb}
use lib.ListN.{length}
use Rattle.scope.specs.Lists.{lay, if}
use Rattle.scope.specs.Links.{Links, head, next, start, loop}
use Rattle.scope.specs.Edits.{Part, petal, petals}
use Rattle.scope.specs.Passes.{pairs, from_old, catmull_face}
use Rattle.laws_mesh.specs.Of.{mesh, Good}
use Rattle.laws_mesh.proofs.Stores as stores
use Rattle.laws_mesh.proofs.Count.{Length}
use Rattle.laws_mesh.proofs.Ring.{after-lt}
use Rattle.laws_mesh.proofs.Loops.{steps, length-steps}
use Rattle.laws_mesh.proofs.FromOld.{first-old, first-old-is, from_old_lem}
use Rattle.laws_mesh.proofs.FanOn.{Given, Run, Done, a_lt, b_lt, a-b, b-b, G-lt, none_yet, done_on}
use Rattle.laws_catmull.proofs.Face.{given, qs, qs-long, qs-run}
use Rattle.mesh.specs.Words.{next_at, Has}
use Rattle.mesh.specs.Rounds.{Walk}
use Rattle.mesh.proofs.SliceLaws.{get_or-lay, length-lay}
use Rattle.mesh.proofs.PartnerLaws.{partner-lt}
use Rattle.mesh.proofs.RoundLaws.{Agree, agree-lay, agree-next, walk-next, loop_is}
use Rattle.links_edits.specs.Held.{held, laid}
use Rattle.links_edits.proofs.StoreLaws.{held-is, links-is, put-lay}
use Rattle.links_edits.proofs.PetalLaws.{Touched, petal-laid, petal-laid-ok}
use Rattle.links_catmull.specs.Steps.{PartOk, FanOk, FanReady, parts, FaceOk}
use Rattle.links_catmull.proofs.StepLaws.{walked, petals-same, face-by}

-- ---- two ways to go on that agree
steps-same : (P : ℕ → Type 0) (f g : ℕ → ℕ) → ((y : ℕ) → P y → f y ≡ g y) → ((y : ℕ) → P y → P (g y)) → (x k : ℕ) → P x → steps f x k ≡ steps g x k
unfolding steps
steps-same P f g e c x zero p = refl
steps-same P f g e c x (suc k) p = ap (λ (y : ℕ). x ∷ steps f y k) (e x p) ∙ ap (λ (l : List ℕ). x ∷ l) (steps-same P f g e c (g x) k (c x p))

-- ---- the parts of a face
-- the edges and faces of u, in slices
abbrev bare : Links → List ℕ → List ℕ → Links
bare u edges faces = held 0 0 0 [] (lay 0 u.edges edges) (lay 0 u.faces faces)

bare-petal : (u : Links) (edges faces : List ℕ) (c o s : ℕ) (q : Part) (n nf : ℕ) → Touched n nf o s q → 4 * n ≤ length edges → nf ≤ length faces
    → petal c o s q (bare u edges faces) ≡ bare (petal c o s q u) edges faces
unfolding petal lay
bare-petal u edges faces c o s q n nf t a b = petal-laid (held 0 0 0 [] u.edges u.faces) [] edges faces c o s q n nf t a b

module _ {t : Links} {f c n : ℕ} {part : ℕ → Part} (g : Given (mesh t).is_h (mesh t).is_v (mesh t).is_f t f c n part) (nx : ℕ → ℕ)
    (nx-is : (y : ℕ) → y < 2 * t.ne → nx y ≡ next t y)
    (edges faces : List ℕ) (room_e : 8 * (t.ne + n) ≤ length edges) (room_f : t.nf + (n - 1) ≤ length faces) where
  abbrev out : ℕ → ℕ
  out i = 2 * (t.ne + i) + 1

  abbrev home : ℕ → ℕ
  home i = 2 * (t.ne + (suc i % n))

  touched : (i : ℕ) → i < n → Touched (2 * (t.ne + n)) (t.nf + (n - 1)) (2 * (t.ne + i) + 1) (2 * (t.ne + (suc i % n))) (part i)
  touched i l =
      let a = a_lt g i l in
      let p = partner-lt (part i).a t.ne a in
      let b = b_lt g i l in
      let r = after-lt n i l in
      record { first = omega arith; tail = omega arith; last = omega arith; out = omega arith; home = omega arith; face = G-lt g i l }

  -- part i finds in u, after the parts before it, what t had
  part-ok : (u : Links) (i : ℕ) → i < n → Done g u i → PartOk nx (2 * (t.ne + i) + 1) (2 * (t.ne + (suc i % n))) (part i) (bare u edges faces)
  part-ok u i l d =
      let a = a_lt g i l in
      let b = b_lt g i l in
      record {
        ranges = petal-laid-ok u [] edges faces c (out i) (home i) (part i) (2 * (t.ne + n)) (t.nf + (n - 1)) (touched i l) (omega arith) room_f;
        on_a = get_or-lay 0 u.edges edges (4 * (part i).a + 2) (omega arith)
            ∙ d.word-free stores.next (part i).a a (λ j h e. let w = g.parts.a-once i j l (omega arith) e in omega arith) (λ j h. a-b g i j l (omega arith) (omega arith))
            ∙ sym (nx-is (part i).a a);
        on_b = get_or-lay 0 u.edges edges (4 * (part i).b + 2) (omega arith)
            ∙ d.word-free stores.next (part i).b b (λ j h e. a-b g j i (omega arith) l (omega arith) (sym e)) (λ j h. b-b g i j l (omega arith) (omega arith))
            ∙ sym (nx-is (part i).b b);
      }

  fan_ok : (qs : List Part) (i : ℕ) (u : Links) → i + length qs ≡ n → Run part i qs → Done g u i
      → FanOk nx c t.ne n i qs (bare u edges faces) × (petals c t.ne n i qs (bare u edges faces) ≡ bare (petals c t.ne n i qs u) edges faces)
  unfolding petals
  fan_ok [] i u h r d = (tt, refl)
  fan_ok (q ∷ qs) i u h (r, rs) d =
      let l : i < n = omega arith in
      let v = petal c (out i) (home i) q u in
      let e : petal c (out i) (home i) q (bare u edges faces) ≡ bare v edges faces =
      bare-petal u edges faces c (out i) (home i) q (2 * (t.ne + n)) (t.nf + (n - 1)) (subst⁻¹ (Touched (2 * (t.ne + n)) (t.nf + (n - 1)) (out i) (home i)) r (touched i l)) (omega arith) room_f in
      let rest = fan_ok qs (suc i) v (omega arith) rs (subst⁻¹ (λ (q : Part). Done g (petal c (out i) (home i) q u) (suc i)) r (done_on g u i l d)) in (
        (
          subst⁻¹ (λ (q : Part). PartOk nx (out i) (home i) q (bare u edges faces)) r (part-ok u i l d),
          subst⁻¹ (FanOk nx c t.ne n (suc i) qs) e rest.0,
        ),
        ap (petals c t.ne n (suc i) qs) e ∙ rest.1,
      )

-- ---- the whole face
either_is : (b : Bool) {x y x' y' : ℕ} → x ≡ x' → y ≡ y' → if b x y ≡ if b x' y'
either_is b p q = rw (p, q)

from_first : (old f : ℕ) (m : Links) → from_old old f m ≡ loop m (first-old old f m)
unfolding from_old first-old
from_first old f m = refl

module _ (t : Links) (old f n : ℕ) (gd : Good t) (f_in : f < t.nf) (len : Length (next t) (start t f) (2 * n))
    (room-v : t.nv + 1 ≤ 1048576) (room_e : t.ne + n ≤ 1048576) (room_f : t.nf + (n - 1) ≤ 1048576)
    (outs edges faces : List ℕ) (long-v : t.nv + 1 ≤ length outs) (long_e : 8 * (t.ne + n) ≤ length edges) (long_f : t.nf + (n - 1) ≤ length faces) where
  abbrev l : Links
  l = laid t outs edges faces

  abbrev nx : ℕ → ℕ
  nx = next_at (lay 0 t.edges edges)

  some : 1 ≤ n
  some = let a = len.long in omega arith

  f-low : f < length faces
  f-low = omega arith

  s-in : start t f < 2 * t.ne
  s-in = gd.consistent.core.start_in f f_in

  agree : Agree t.ne (lay 0 t.edges edges) t.edges
  agree = agree-lay t.ne t.edges edges (omega arith)

  nx-is : (y : ℕ) → y < 2 * t.ne → next_at (lay 0 t.edges edges) y ≡ next t y
  nx-is y i = agree-next agree y i

  start_is : start l f ≡ start t f
  start_is = get_or-lay 0 t.faces faces f f-low

  first-is : first-old old f l ≡ first-old old f t
  unfolding first-old
  first-is =
      let s = start t f in
      let i = s-in in
      ap (λ (s : ℕ). if (ltb (head l s) old) s (next l s)) start_is
      ∙ ap (λ (v : ℕ). if (ltb v old) s (next l s)) (agree.same (4 * s + 1) (omega arith))
      ∙ either_is (ltb (head t s) old) refl (nx-is s i)

  first-in : first-old old f t < 2 * t.ne
  first-in = (first-old-is t gd old f (2 * n) f_in len).0

  next_in : (y : ℕ) → y < 2 * t.ne → next t y < 2 * t.ne
  next_in = gd.consistent.core.next_in

  walk : Walk next_at (lay 0 t.edges edges) t.ne (first-old old f t)
  walk = walk-next (let q = length-lay 0 t.edges edges in omega arith) (λ y i. subst⁻¹ (λ (z : ℕ). z < 2 * t.ne) (nx-is y i) (next_in y i)) (first-old old f t) first-in

  from_is : from_old old f l ≡ from_old old f t
  unfolding loop
  from_is = from_first old f l ∙ ap (loop l) first-is ∙ loop_is t agree walk ∙ sym (from_first old f t)

  list-t : from_old old f t ≡ steps (next t) (first-old old f t) (2 * n)
  list-t = from_old_lem t gd old f (2 * n) f_in len

  parts-t : parts old f t ≡ n
  parts-t = ap (λ (hs : List ℕ). length hs / 2) list-t ∙ ap (λ (k : ℕ). k / 2) (length-steps (next t) (first-old old f t) (2 * n)) ∙ (let q : 2 * n / 2 ≡ n = omega arith in q)

  parts_is : parts old f l ≡ n
  parts_is = ap (λ (hs : List ℕ). length hs / 2) from_is ∙ parts-t

  -- the walk in the slices meets the list
  walk_is : steps nx (first-old old f t) (2 * n) ≡ steps (next t) (first-old old f t) (2 * n)
  walk_is = steps-same (λ (y : ℕ). y < 2 * t.ne) nx (next t) nx-is next_in (first-old old f t) (2 * n) first-in

  even-t : from_old old f t ≡ steps (next t) (first-old old f t) (2 * parts old f t)
  even-t = list-t ∙ ap (λ (k : ℕ). steps (next t) (first-old old f t) (2 * k)) (sym parts-t)

  even : from_old old f l ≡ steps nx (first-old old f l) (2 * parts old f l)
  even = from_is ∙ list-t ∙ sym walk_is
      ∙ ap (λ (a : ℕ). steps nx a (2 * n)) (sym first-is) ∙ ap (λ (k : ℕ). steps nx (first-old old f l) (2 * k)) (sym parts_is)

  both : FanOk nx t.nv t.ne n 0 (pairs f t.nf (steps (next t) (first-old old f t) (2 * n))) (bare t edges faces)
      × (petals t.nv t.ne n 0 (pairs f t.nf (steps (next t) (first-old old f t) (2 * n))) (bare t edges faces)
      ≡ bare (petals t.nv t.ne n 0 (pairs f t.nf (steps (next t) (first-old old f t) (2 * n))) t) edges faces)
  unfolding qs
  both =
      let g = given t old f n gd f_in len room-v room_e room_f in
      let c = qs-long t old f n gd f_in len room-v room_e room_f in
      fan_ok g nx nx-is edges faces long_e long_f (qs t old f n gd f_in len room-v room_e room_f) 0 t (omega arith) (qs-run t old f n gd f_in len room-v room_e room_f) (none_yet g)

  ready : FanReady (lay 0 t.edges edges) (lay 0 t.faces faces) t.nv t.ne t.nf f (first-old old f l) (parts old f l)
  ready = rw (first-is, parts_is) (record {
    few_e = room_e;
    few_f = omega arith;
    parts_ok = subst⁻¹ (λ (hs : List ℕ). FanOk nx t.nv t.ne n 0 (pairs f t.nf hs) (bare t edges faces)) walk_is both.0;
  })

  pub face-laid-ok : FaceOk old f (laid t outs edges faces)
  face-laid-ok = record {
    f_in = (let q = length-lay 0 t.faces faces in let i = f-low in omega arith);
    start_in = subst⁻¹ (Has (lay 0 t.edges edges)) start_is (let q = length-lay 0 t.edges edges in let i = s-in in omega arith);
    vertex = (let q = length-lay 0 t.outs outs in omega arith);
    some = (let q = parts_is in let a = some in omega arith);
    walk = subst⁻¹ (Walk next_at (lay 0 t.edges edges) t.ne) first-is walk;
    even = even;
    fan_ok = ready;
  }

  -- the parts in the slices are those of the mesh, in the slices
  made : petals t.nv t.ne (parts old f l) 0 (walked old f l) (bare t edges faces) ≡ bare (petals t.nv t.ne (parts old f t) 0 (walked old f t) (held 0 0 0 [] t.edges t.faces)) edges faces
  made =
      let hs = steps (next t) (first-old old f t) (2 * n) in
      let ps = pairs f t.nf hs in
      let (x, y) = petals-same t.nv t.ne n 0 ps t (held 0 0 0 [] t.edges t.faces) refl refl in
      ap (λ (a : ℕ). petals t.nv t.ne (parts old f l) 0 (pairs f t.nf (steps nx a (2 * parts old f l))) (bare t edges faces)) first-is
      ∙ ap (λ (k : ℕ). petals t.nv t.ne k 0 (pairs f t.nf (steps nx (first-old old f t) (2 * k))) (bare t edges faces)) parts_is
      ∙ ap (λ (hs : List ℕ). petals t.nv t.ne n 0 (pairs f t.nf hs) (bare t edges faces)) walk_is
      ∙ both.1
      ∙ held-is refl (ap (λ (z : List ℕ). lay 0 z edges) x) (ap (λ (z : List ℕ). lay 0 z faces) y)
      ∙ ap (λ (k : ℕ). bare (petals t.nv t.ne k 0 (pairs f t.nf (steps (next t) (first-old old f t) (2 * k))) (held 0 0 0 [] t.edges t.faces)) edges faces) (sym parts-t)

  pub face-laid : catmull_face old f (laid t outs edges faces) ≡ laid (catmull_face old f t) outs edges faces
  face-laid =
      let r = face-by old f l even in
      let q = face-by old f t even-t in
      let k : parts old f l ≡ parts old f t = parts_is ∙ sym parts-t in
      links-is (catmull_face old f l) (laid (catmull_face old f t) outs edges faces)
      (r.nv_is ∙ sym q.nv_is)
      (r.ne_is ∙ ap (λ (n : ℕ). t.ne + n) k ∙ sym q.ne_is)
      (r.nf_is ∙ ap (λ (n : ℕ). t.nf + (n - 1)) k ∙ sym q.nf_is)
      (r.outs-is ∙ put-lay t.outs outs t.nv (2 * t.ne + 1) (omega arith) ∙ ap (λ (z : List ℕ). lay 0 z outs) (sym q.outs-is))
      (r.edges-is ∙ ap (λ (m : Links). m.edges) made ∙ ap (λ (z : List ℕ). lay 0 z edges) (sym q.edges-is))
      (r.faces-is ∙ ap (λ (m : Links). m.faces) made ∙ ap (λ (z : List ℕ). lay 0 z faces) (sym q.faces-is))
