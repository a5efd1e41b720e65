-- A new edge across a face in slices is scope's on links that hold them, and in slices that hold a mesh it leaves the mesh after it. Assumes nothing.
use Prim.Native.Nat.{ℕ, ◌+◌, ◌*◌, ◌≤◌, ◌<◌}
use mathlib.Core.Path.{◌≡◌, refl, sym, ap, subst, ◌∙◌}
use mathlib.Core.Bool.{Bool, true, false, ◌||◌}
use mathlib.Core.List.{List, [], ◌∷◌}
use native.Mathlib.Omega.{arith}
use lib.Dec.{eqb}
use lib.ListN.{length, get_or, set, drop, length-set}
use borrow.Author.Tests.{eqb-false}
use Rattle.std.specs.List.{list_any}
use Rattle.std.proofs.lemmas.Bool.{eqb-true}
use Rattle.std.proofs.lemmas.List.{at_drop_more}
use Rattle.scope.specs.Lists.{put, lay, if, has}
use Rattle.scope.specs.Links as links
use Rattle.scope.specs.Links.{Links, partner, loop}
use Rattle.scope.specs.Edits.{joined, paint, across_face, cut_off}
use Rattle.laws_mesh.proofs.Stores.{face, head, next, prev, Store, store, stores, Below}
use Rattle.laws_mesh.proofs.Paint.{paint-outs, paint-starts, paint-nv, paint-ne, paint-nf}
use Rattle.mesh.specs.Words.{face_at, head_at, next_at, prev_at, tail_at, link_at, set_face, Has}
use Rattle.mesh.proofs.SliceLaws.{set-put, get_or-lay, length-lay}
use Rattle.mesh.proofs.RoundLaws.{has_here, has-past}
use Rattle.mesh.proofs.PartnerLaws.{partner-lt}
use Rattle.links_edits.specs.declared.cut.Gap.{Gap}
use Rattle.links_edits.specs.Held.{held, laid}
use Rattle.links_edits.specs.Cut.{gap_of, closed, divided, painted, AllHave, GapOk, AllLow, CutOk}
use Rattle.links_edits.proofs.StoreLaws.{sets, sets-stores, stores-lay, put-lay, held-is, links-is}
use Rattle.links_edits.proofs.RingLaws.{Ring, ring-loop, ring_laid}

-- ---- a face for several halfedges, one after another
pub painted-on : (es : List ℕ) (g : ℕ) (hs : List ℕ) (i : ℕ) → i < length hs → painted es g (drop i hs) ≡ painted (set_face es (get_or hs i 0) g) g (drop (i + 1) hs)
unfolding painted
painted-on es g hs i l = at_drop_more (painted es g) hs i 0 l

have-set : (es : List ℕ) (i x : ℕ) (hs : List ℕ) → AllHave es hs → AllHave (set es i x) hs
have-set es i x [] a = tt
have-set es i x (h ∷ hs) (j, a) = (let n = length-set es i x in omega arith, have-set es i x hs a)

pub have-on : (es : List ℕ) (g : ℕ) (hs : List ℕ) (i : ℕ) → i < length hs → AllHave es (drop i hs) → Has es (get_or hs i 0) × AllHave (set_face es (get_or hs i 0) g) (drop (i + 1) hs)
have-on es g hs i l a = let b : AllHave es (get_or hs i 0 ∷ drop (i + 1) hs) = subst (AllHave es) (at_drop_more (λ x. x) hs i 0 l) a in
    (b.0, have-set es (4 * get_or hs i 0) g (drop (i + 1) hs) b.1)

pub have-all : (es : List ℕ) (n : ℕ) (hs : List ℕ) → 4 * n ≤ length es → AllLow n hs → AllHave es hs
have-all es n [] l a = tt
have-all es n (h ∷ hs) l (i, a) = (omega arith, have-all es n hs l a)

-- the list's test, as std has it
pub has-any : (s : ℕ) (l : List ℕ) → list_any (λ y. eqb y s) l ≡ has s l
unfolding has
has-any s [] = refl
has-any s (y ∷ l) = go (eqb y s) refl (has-any s l)
  where
    go : (b : Bool) → eqb y s ≡ b → list_any (λ y. eqb y s) l ≡ has s l → (b || list_any (λ y. eqb y s) l) ≡ has s (y ∷ l)
    go true e r = sym (has_here s y l (eqb-true y s e))
    go false e r = r ∙ sym (has-past s y l (eqb-false y s e))

-- ---- the stores, the last first; u and v are the ends of the new edge, h and k its halves
abbrev pub gap_run : Gap → ℕ → ℕ → ℕ → ℕ → List Store
gap_run x u v h k =
    store prev x.n h ∷ store next x.p h ∷ store next x.b k ∷ store prev x.a k
    ∷ store prev k x.b ∷ store next k x.a ∷ store head k v ∷ store face k x.f
    ∷ store prev h x.p ∷ store next h x.n ∷ store head h u ∷ store face h x.f ∷ []

-- and face g for each of hs
abbrev pub paint_run : ℕ → List ℕ → List Store → List Store
paint_run g [] r = r
paint_run g (h ∷ hs) r = paint_run g hs (store face h g ∷ r)

painted-run : (g : ℕ) (hs es : List ℕ) (r : List Store) → painted (sets es r) g hs ≡ sets es (paint_run g hs r)
unfolding painted
painted-run g [] es r = refl
painted-run g (h ∷ hs) es r = painted-run g hs es (store face h g ∷ r)

paint-run : (g : ℕ) (hs : List ℕ) (m : Links) (es : List ℕ) (r : List Store) → m.edges ≡ stores es r → (paint g hs m).edges ≡ stores es (paint_run g hs r)
unfolding paint
paint-run g [] m es r e = e
paint-run g (h ∷ hs) m es r e = paint-run g hs _ es (store face h g ∷ r) (ap (λ (l : List ℕ). put l (4 * h) g) e)

-- what they touch is among n halfedges
pub record Touched (l : ℕ) (x : Gap) : Type 0 where
  pub first : x.p < l
  pub last : x.n < l
  pub then : x.a < l
  pub before : x.b < l

pub gap_below : (x : Gap) (u v ne : ℕ) → Touched (2 * ne) x → Below (2 * ne + 2) (gap_run x u v (2 * ne) (2 * ne + 1))
gap_below x u v ne t =
    let up : (y : ℕ) → y < 2 * ne → y < 2 * ne + 2 = λ y i. omega arith in
    let h : 2 * ne < 2 * ne + 2 = omega arith in
    let k : 2 * ne + 1 < 2 * ne + 2 = omega arith in
    (up _ t.last, (up _ t.first, (up _ t.before, (up _ t.then, (k, (k, (k, (k, (h, (h, (h, (h, tt))))))))))))

paint-below : (l g : ℕ) (hs : List ℕ) (r : List Store) → AllLow l hs → Below l r → Below l (paint_run g hs r)
paint-below l g [] r w b = b
paint-below l g (h ∷ hs) r (i, w) b = paint-below l g hs (store face h g ∷ r) w (i, b)

-- ---- scope's cut by what was read, old being where the face started
abbrev join_by : Gap → ℕ → ℕ → Links → Links
join_by x u v m = held (m.nv + 0) (m.ne + 1) (m.nf + 0) m.outs (stores m.edges (gap_run x u v (2 * m.ne) (2 * m.ne + 1))) m.faces

join_by_lem : (p n : ℕ) (m : Links) → joined p n m ≡ join_by (gap_of m.edges p n) (tail_at m.edges n) (head_at m.edges p) m
unfolding joined
join_by_lem p n m = refl

abbrev cut_by : Gap → ℕ → ℕ → List ℕ → ℕ → Links → Links
cut_by x u v part old m =
    held (m.nv + 0 + 0) (m.ne + 1 + 0) (m.nf + 0 + 1) m.outs
    (stores m.edges (paint_run m.nf part (gap_run x u v (2 * m.ne) (2 * m.ne + 1))))
    (put (put m.faces m.nf (2 * m.ne + 1)) x.f (if (has old part) (2 * m.ne) old))

cut_by_lem : (p n : ℕ) (m : Links) (part : List ℕ) → loop (joined p n m) (2 * m.ne + 1) ≡ part → cut_off p n m ≡ cut_by (gap_of m.edges p n) (tail_at m.edges n) (head_at m.edges p) part (link_at m.faces (face_at m.edges p)) m
unfolding cut_off across_face joined
cut_by_lem p n m part e =
    let x = gap_of m.edges p n in
    let u = tail_at m.edges n in
    let v = head_at m.edges p in
    let l = join_by x u v m in
    let s = link_at m.faces (face_at m.edges p) in
    let after : List ℕ → Links = λ (part : List ℕ). held ((paint m.nf part l).nv + 0) ((paint m.nf part l).ne + 0) ((paint m.nf part l).nf + 1) (paint m.nf part l).outs (paint m.nf part l).edges
    (put (put (paint m.nf part l).faces m.nf (2 * m.ne + 1)) x.f (if (has s part) (2 * m.ne) s)) in
    ap after e
    ∙ links-is (after part) (cut_by x u v part s m)
    (ap (λ (k : ℕ). k + 0) (paint-nv m.nf part l))
    (ap (λ (k : ℕ). k + 0) (paint-ne m.nf part l))
    (ap (λ (k : ℕ). k + 1) (paint-nf m.nf part l))
    (paint-outs m.nf part l)
    (paint-run m.nf part l m.edges (gap_run x u v (2 * m.ne) (2 * m.ne + 1)) refl)
    (ap (λ (t : List ℕ). put (put t m.nf (2 * m.ne + 1)) x.f (if (has s part) (2 * m.ne) s)) (paint-starts m.nf part l))

-- ---- in slices
module _ {es faces : List ℕ} {ne g p n : ℕ} {part : List ℕ} (k : CutOk es faces ne g p n part) where
  pub gap-in : GapOk es ne (gap_of es p n)
  gap-in =
      let r = k.room in
      let i = k.first in
      let j = k.last in
      let a = k.then in
      let b = k.before in
      let o = partner-lt n ne k.last in
      record {
        few = k.few;
        room = omega arith;
        across = omega arith;
        around = record { has_p = omega arith; has_n = omega arith; has_a = omega arith; has_b = omega arith };
      }

  is : cut_off p n (held 0 ne g [] es faces) ≡ cut_by (gap_of es p n) (tail_at es n) (head_at es p) ((2 * ne + 1) ∷ part) (link_at faces (face_at es p)) (held 0 ne g [] es faces)
  is = cut_by_lem p n (held 0 ne g [] es faces) ((2 * ne + 1) ∷ part) k.part_is

  pub cut-in-edges : sets es (paint_run g ((2 * ne + 1) ∷ part) (gap_run (gap_of es p n) (tail_at es n) (head_at es p) (2 * ne) (2 * ne + 1))) ≡ (cut_off p n (held 0 ne g [] es faces)).edges
  cut-in-edges =
      sets-stores (2 * ne + 2) es (paint_run g ((2 * ne + 1) ∷ part) (gap_run (gap_of es p n) (tail_at es n) (head_at es p) (2 * ne) (2 * ne + 1))) (let a = k.room in omega arith)
      (paint-below (2 * ne + 2) g ((2 * ne + 1) ∷ part) _ (omega arith, k.part_low) (gap_below (gap_of es p n) (tail_at es n) (head_at es p) ne (record { first = k.first; last = k.last; then = k.then; before = k.before })))
      ∙ sym (ap (λ (m : Links). m.edges) is)

  pub cut-in-faces : set (set faces g (2 * ne + 1)) (face_at es p) (if (has (link_at faces (face_at es p)) ((2 * ne + 1) ∷ part)) (2 * ne) (link_at faces (face_at es p))) ≡ (cut_off p n (held 0 ne g [] es faces)).faces
  cut-in-faces =
      let s : ℕ = if (has (link_at faces (face_at es p)) ((2 * ne + 1) ∷ part)) (2 * ne) (link_at faces (face_at es p)) in
      set-put (set faces g (2 * ne + 1)) (face_at es p) s (let q = length-set faces g (2 * ne + 1) in let a = k.old_face in omega arith)
      ∙ ap (λ (t : List ℕ). put t (face_at es p) s) (set-put faces g (2 * ne + 1) k.new_face)
      ∙ sym (ap (λ (m : Links). m.faces) is)

-- as the code does it
pub cut-edges : {es faces : List ℕ} {ne g p n : ℕ} {part : List ℕ} → CutOk es faces ne g p n part
    → painted (set_face (divided es ne (gap_of es p n)) (2 * ne + 1) g) g part ≡ (cut_off p n (held 0 ne g [] es faces)).edges
unfolding divided closed painted
cut-edges {es} {faces} {ne} {g} {p} {n} {part} k = painted-run g ((2 * ne + 1) ∷ part) es _ ∙ cut-in-edges k

-- ---- in slices that hold m
-- what a cut touches is there, and the new half goes around the part
pub record Near (m : Links) (p n : ℕ) (part : List ℕ) : Type 0 where
  pub first : p < 2 * m.ne
  pub last : n < 2 * m.ne
  pub then : next_at m.edges p < 2 * m.ne
  pub before : prev_at m.edges n < 2 * m.ne
  pub old_face : face_at m.edges p < m.nf
  pub short : length part < 2 * (m.ne + 1)
  pub part_low : AllLow (2 * m.ne) part
  pub around : Ring (links.next (joined p n m)) (2 * m.ne + 1) (2 * m.ne + 1) part

low_up : (a b : ℕ) (l : List ℕ) → a ≤ b → AllLow a l → AllLow b l
low_up a b [] le w = tt
low_up a b (x ∷ l) le (i, w) = (omega arith, low_up a b l le w)

joined-ne : (p n : ℕ) (m : Links) → (joined p n m).ne ≡ m.ne + 1
unfolding joined
joined-ne p n m = refl

-- the new half's loop
pub part-here : (m : Links) (p n : ℕ) (part : List ℕ) → Near m p n part → loop (joined p n m) (2 * m.ne + 1) ≡ (2 * m.ne + 1) ∷ part
part-here m p n part d = ring-loop (joined p n m) (2 * m.ne + 1) part (let q = joined-ne p n m in let s = d.short in omega arith) d.around

module _ (m : Links) (outs edges faces : List ℕ) (p n : ℕ) (part : List ℕ) (d : Near m p n part) (few : m.ne ≤ 1048576) (edges_room : 8 * m.ne + 8 ≤ length edges) (faces-room : m.nf < length faces) where
  load : (i : ℕ) → i < 8 * m.ne → get_or (lay 0 m.edges edges) i 0 ≡ get_or m.edges i 0
  load i l = get_or-lay 0 m.edges edges i (omega arith)

  gap-laid : gap_of (lay 0 m.edges edges) p n ≡ gap_of m.edges p n
  gap-laid =
      let i = d.first in
      let j = d.last in
      rw (load (4 * p) (omega arith), load (4 * p + 2) (omega arith), load (4 * n + 3) (omega arith))

  tail-laid : tail_at (lay 0 m.edges edges) n ≡ tail_at m.edges n
  tail-laid = load (4 * partner n + 1) (let o = partner-lt n m.ne d.last in omega arith)

  head-laid : head_at (lay 0 m.edges edges) p ≡ head_at m.edges p
  head-laid = load (4 * p + 1) (let i = d.first in omega arith)

  touches : Touched (2 * m.ne) (gap_of m.edges p n)
  touches = record { first = d.first; last = d.last; then = d.then; before = d.before }

  joined-laid : joined p n (laid m outs edges faces) ≡ laid (joined p n m) outs edges faces
  joined-laid =
      let x = gap_of m.edges p n in
      let u = tail_at m.edges n in
      let v = head_at m.edges p in
      let l : Links = laid m outs edges faces in
      join_by_lem p n l
      ∙ ap (λ (x : Gap). join_by x (tail_at l.edges n) (head_at l.edges p) l) gap-laid
      ∙ ap (λ (u : ℕ). join_by x u (head_at l.edges p) l) tail-laid
      ∙ ap (λ (v : ℕ). join_by x u v l) head-laid
      ∙ held-is refl (stores-lay (2 * m.ne + 2) m.edges edges (gap_run x u v (2 * m.ne) (2 * m.ne + 1)) (omega arith) (gap_below x u v m.ne touches)) refl
      ∙ ap (λ (t : Links). laid t outs edges faces) (sym (join_by_lem p n m))

  part-laid : loop (joined p n (laid m outs edges faces)) (2 * m.ne + 1) ≡ (2 * m.ne + 1) ∷ part
  part-laid =
      let q = joined-ne p n m in
      ap (λ (l : Links). loop l (2 * m.ne + 1)) joined-laid
      ∙ ring_laid (joined p n m) (2 * m.ne + 1) part (let s = d.short in omega arith) d.around outs edges faces (omega arith) (omega arith) (low_up (2 * m.ne) (2 * (joined p n m).ne) part (omega arith) d.part_low)

  -- the count of vertices, and what they name, do not matter
  part-bare : loop (joined p n (held 0 m.ne m.nf [] (lay 0 m.edges edges) (lay 0 m.faces faces))) (2 * m.ne + 1) ≡ (2 * m.ne + 1) ∷ part
  unfolding loop joined
  part-bare = part-laid

  pub cut-laid-ok : CutOk (lay 0 m.edges edges) (lay 0 m.faces faces) m.ne m.nf p n part
  cut-laid-ok =
      let q = length-lay 0 m.edges edges in
      let r = length-lay 0 m.faces faces in
      let i = d.first in
      let j = d.last in
      record {
        few = few;
        room = omega arith;
        first = i;
        last = j;
        then = rw (load (4 * p + 2) (omega arith)) d.then;
        before = rw (load (4 * n + 3) (omega arith)) d.before;
        old_face = rw (load (4 * p) (omega arith)) (let a = d.old_face in omega arith);
        new_face = omega arith;
        part_low = low_up (2 * m.ne) (2 * m.ne + 2) part (omega arith) d.part_low;
        part_is = part-bare;
      }

  pub cut-laid : cut_off p n (laid m outs edges faces) ≡ laid (cut_off p n m) outs edges faces
  cut-laid =
      let l : Links = laid m outs edges faces in
      let x = gap_of m.edges p n in
      let u = tail_at m.edges n in
      let v = head_at m.edges p in
      let hs = (2 * m.ne + 1) ∷ part in
      let s = link_at m.faces (face_at m.edges p) in
      let f-low : x.f < length faces = (let a = d.old_face in omega arith) in
      let to : ℕ = if (has s hs) (2 * m.ne) s in
      cut_by_lem p n l hs part-laid
      ∙ ap (λ (x : Gap). cut_by x (tail_at l.edges n) (head_at l.edges p) hs (link_at (lay 0 m.faces faces) x.f) l) gap-laid
      ∙ ap (λ (u : ℕ). cut_by x u (head_at l.edges p) hs (link_at (lay 0 m.faces faces) x.f) l) tail-laid
      ∙ ap (λ (v : ℕ). cut_by x u v hs (link_at (lay 0 m.faces faces) x.f) l) head-laid
      ∙ ap (λ (s : ℕ). cut_by x u v hs s l) (get_or-lay 0 m.faces faces x.f f-low)
      ∙ held-is refl
      (stores-lay (2 * m.ne + 2) m.edges edges (paint_run m.nf hs (gap_run x u v (2 * m.ne) (2 * m.ne + 1))) (omega arith)
      (paint-below (2 * m.ne + 2) m.nf hs _ (omega arith, low_up (2 * m.ne) (2 * m.ne + 2) part (omega arith) d.part_low) (gap_below x u v m.ne touches)))
      (ap (λ (t : List ℕ). put t x.f to) (put-lay m.faces faces m.nf (2 * m.ne + 1) (omega arith)) ∙ put-lay (put m.faces m.nf (2 * m.ne + 1)) faces x.f to f-low)
      ∙ ap (λ (t : Links). laid t outs edges faces) (sym (cut_by_lem p n m hs (part-here m p n part d)))
