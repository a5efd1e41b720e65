-- One corner more of a face, in slices that hold a good mesh: they hold it after each cut, and no cut is left where three halfedges are. Assumes nothing.
use Prim.Native.Nat.{ℕ, suc, ◌+◌, ◌-◌, ◌*◌, ◌≤◌, ◌<◌}
use mathlib.Core.Path.{◌≡◌, refl, sym, ap, ◌∙◌, subst, subst⁻¹}
use mathlib.Core.Logic.{◌≢◌}
use mathlib.Core.List.{List, [], ◌∷◌}
use native.Mathlib.Omega.{arith}
use lib.ListN.{length, get_or, set, take}
use lib.Seq.{get_or-take}
use Rattle.scope.specs.declared.records.Counts.{Counts}
use Rattle.scope.specs.Lists.{put, lay, each, if, has}
use Rattle.scope.specs.Links.{Links, next, prev, start}
use Rattle.scope.specs.Edits.{cut_off, cut_corner, triangulate_face}
use Rattle.scope.specs.Tally.{counts_of}
use Rattle.laws_mesh.specs.Mesh.{Core}
use Rattle.laws_mesh.specs.Of.{mesh, Good}
use Rattle.laws_mesh.proofs.Cycle.{split, Part}
use Rattle.laws_mesh.proofs.Count.{Length}
use Rattle.laws_mesh.proofs.Loops.{face-three}
use Rattle.laws_mesh.proofs.Sides.{bears-length}
use Rattle.laws_mesh.proofs.Paint.{has_here, has_there, if-has}
use Rattle.laws_mesh.proofs.InsertEdge.{InsertEdge}
use Rattle.laws_mesh.proofs.InsertLaws.{Across, cut-off-is}
use Rattle.laws_triangulate.proofs.Corner.{p-face, across}
use Rattle.laws_triangulate.proofs.Triangulate.{Cutted, cutted-none, cuts}
use Rattle.mesh.specs.Words.{next_at, prev_at, link_at, Has}
use Rattle.mesh.proofs.SliceLaws.{set-lay, get_or-lay, length-lay, get_or-put-same, get_or-put-other}
use Rattle.mesh.proofs.PartnerLaws.{partner-odd}
use Rattle.links_edits.specs.declared.cut.Gap.{Gap}
use Rattle.links_edits.specs.Held.{given}
use Rattle.links_edits.specs.Cut.{cut_three}
use Rattle.links_edits.proofs.StoreLaws.{put-put, put-swap}
use Rattle.links_edits.proofs.GapLaws.{Gapped, gap-ok, cut-faces, three-part, cut-off-laid}
use Rattle.links_triangulate.specs.Trim.{CornerOk, sides, FaceReady}

-- ---- one corner of a good mesh
module _ (t : Links) (g : Good t) (f : ℕ) (f_in : f < t.nf) (k : ℕ) (long : Length (next t) (start t f) (suc k)) (lo : 3 ≤ k) (e-lt : t.ne < 1048576) (f_lt : t.nf < 1048576) where
  c : Core (mesh t)
  c = g.consistent.core

  abbrev s : ℕ
  s = start t f

  s-in : start t f < 2 * t.ne
  s-in = c.start_in f f_in

  -- where it is cut off
  abbrev gap : Gap
  gap = record { p = prev t (start t f); n = next t (next t (start t f)); a = start t f; b = next t (start t f); f = f }

  pub corner-gap : Gapped t (record { p = prev t (start t f); n = next t (next t (start t f)); a = start t f; b = next t (start t f); f = f })
  corner-gap = record {
    p-in = c.prev_in s s-in;
    n-in = c.next_in _ (c.next_in s s-in);
    a-is = sym (c.next_prev s s-in);
    b-is = sym (c.prev_next _ (c.next_in s s-in));
    f-is = sym (p-face t g f f_in k long lo e-lt f_lt);
  }

  a : Across t (prev t (start t f)) (next t (next t (start t f))) 1
  a = across t g f f_in k long lo e-lt f_lt

  pub corner-edges : (edges : List ℕ) → 8 * (t.ne + 1) ≤ length edges
      → cut_three (lay 0 t.edges edges) t.ne (record { p = prev t (start t f); n = next t (next t (start t f)); a = start t f; b = next t (start t f); f = f }) t.nf
      ≡ lay 0 (cut_corner f t).edges edges
  unfolding cut_corner
  corner-edges edges l = cut-off-laid t g gap corner-gap a (omega arith) edges l

  -- the face starts at the new edge, the triangle where the face did
  starts : (cut_corner f t).faces ≡ put (put t.faces f (2 * t.ne)) t.nf (start t f)
  unfolding cut_corner
  starts =
      let h = 2 * t.ne in
      let o = 2 * t.ne + 1 in
      let p = prev t s in
      let n = next t (next t s) in
      let fs = t.faces in
      let part = o ∷ next t p ∷ prev t n ∷ [] in
      ap (λ (l : List ℕ). put l t.nf s) (
      cut-faces t p n part (three-part t g p n a)
      ∙ ap (λ (y : ℕ). put (put fs t.nf o) y (if (has (start t y) part) h (start t y))) (p-face t g f f_in k long lo e-lt f_lt)
      ∙ ap (λ (y : ℕ). put (put fs t.nf o) f y) (if-has (has s part) h s (has_there s o _ (has_here s (next t p) _ (sym (c.next_prev s s-in)))))
      ∙ put-swap fs t.nf f o h (omega arith)
      )
      ∙ put-put (put fs f h) t.nf o s

  pub corner-faces : (faces : List ℕ) → t.nf + 1 ≤ length faces → set (set (lay 0 t.faces faces) f (2 * t.ne)) t.nf (start t f) ≡ lay 0 (cut_corner f t).faces faces
  corner-faces faces l =
      ap (λ (r : List ℕ). set r t.nf s) (set-lay t.faces faces f (2 * t.ne) (omega arith))
      ∙ set-lay (put t.faces f (2 * t.ne)) faces t.nf s (omega arith)
      ∙ ap (λ (r : List ℕ). lay 0 r faces) (sym starts)

  d : InsertEdge (mesh t) (mesh (cut_off (prev t (start t f)) (next t (next t (start t f))) t)) (prev t (start t f)) (prev t (next t (next t (start t f)))) (2 * t.ne + 1) t.nf
      (Part (next t) (next t (prev t (start t f))) 1)
  d = cut-off-is t g (prev t s) (next t (next t s)) 1 a (omega arith) (omega arith)

  -- what the next corner is made of
  pub corner-start : start (cut_corner f t) f ≡ 2 * t.ne
  corner-start = ap (λ (l : List ℕ). get_or l f 0) starts ∙ other ∙ same
    where
      other : get_or (put (put t.faces f (2 * t.ne)) t.nf (start t f)) f 0 ≡ get_or (put t.faces f (2 * t.ne)) f 0
      other = get_or-put-other (put t.faces f (2 * t.ne)) t.nf f (start t f) (omega arith)

      same : get_or (put t.faces f (2 * t.ne)) f 0 ≡ 2 * t.ne
      same = get_or-put-same t.faces f (2 * t.ne) 0

  pub corner-prev : prev (cut_corner f t) (2 * t.ne) ≡ prev t (start t f)
  unfolding cut_corner
  corner-prev = subst (λ (h : ℕ). prev (cut_off (prev t s) (next t (next t s)) t) h ≡ prev t s) (partner-odd t.ne) d.prev-k

  pub corner-next : next (cut_corner f t) (2 * t.ne) ≡ next t (next t (start t f))
  unfolding cut_corner
  corner-next =
      subst (λ (h : ℕ). next (cut_off (prev t s) (next t (next t s)) t) h ≡ next t (prev t (next t (next t s)))) (partner-odd t.ne) d.next-k
      ∙ c.next_prev _ (c.next_in _ (c.next_in s s-in))

-- ---- the corners of a face, one after another
abbrev cut_to : ℕ → ℕ → Links → Links
cut_to j f m = each j (λ i. cut_corner f) m

-- after some of the corners of face f of m: the slices and counts are those of the mesh then, and p, a, x, n are the next corner
pub record Trimming (f : ℕ) (m : Links) (edges₀ faces₀ : List ℕ) (p a x n e g : ℕ) (edges faces : List ℕ) : Type 0 where
  pub j : ℕ
  pub few : j + 3 ≤ sides f m
  pub edges-is : edges ≡ lay 0 (each j (λ i. cut_corner f) m).edges edges₀
  pub faces-is : faces ≡ lay 0 (each j (λ i. cut_corner f) m).faces faces₀
  pub e-is : e ≡ (each j (λ i. cut_corner f) m).ne
  pub g-is : g ≡ (each j (λ i. cut_corner f) m).nf
  pub p-is : p ≡ prev (each j (λ i. cut_corner f) m) (start (each j (λ i. cut_corner f) m) f)
  pub a-is : a ≡ start (each j (λ i. cut_corner f) m) f
  pub x-is : x ≡ next (each j (λ i. cut_corner f) m) (start (each j (λ i. cut_corner f) m) f)
  pub n-is : n ≡ next (each j (λ i. cut_corner f) m) (next (each j (λ i. cut_corner f) m) (start (each j (λ i. cut_corner f) m) f))

module _ {f : ℕ} {c : Counts} {outs edges₀ faces₀ : List ℕ} (r : FaceReady f c outs edges₀ faces₀) where
  abbrev m : Links
  m = given c outs edges₀ faces₀

  abbrev L : ℕ
  L = sides f m

  three : 3 ≤ sides f (given c outs edges₀ faces₀)
  three = face-three m r.good f r.f_in

  cutted : (j : ℕ) → j + 3 ≤ sides f (given c outs edges₀ faces₀) → Cutted (given c outs edges₀ faces₀) (each j (λ i. cut_corner f) (given c outs edges₀ faces₀)) f (sides f (given c outs edges₀ faces₀)) j
  cutted j l = cuts m f L j r.f_in (cutted-none m f L r.good (bears-length m r.good f r.f_in)) l r.few_e r.few_f

  -- ---- the first corner, as the code reads it
  pub face_in : f < length faces₀
  face_in = let a = r.long_f in let b = three in let i = r.f_in in omega arith

  room : 8 * c.e ≤ length edges₀
  room = let a = r.long_e in let b = three in omega arith

  pub few-c : (c.e ≤ 1048576) × (c.f ≤ 1048576)
  few-c = let a = r.few_e in let b = r.few_f in let d = three in (omega arith, omega arith)

  core : Core (mesh (given c outs edges₀ faces₀))
  core = r.good.consistent.core

  read : (i : ℕ) → i < 8 * c.e → get_or edges₀ i 0 ≡ get_or (take (8 * c.e) edges₀) i 0
  read i l = sym (get_or-take (8 * c.e) edges₀ i 0 l)

  there : (y : ℕ) → y < 2 * c.e → Has edges₀ y
  there y i = let a = room in omega arith

  module _ {a : ℕ} (a-is : a ≡ link_at faces₀ f) where
    first : a ≡ start (given c outs edges₀ faces₀) f
    first = a-is ∙ sym (get_or-take c.f faces₀ f 0 r.f_in)

    first-in : a < 2 * c.e
    first-in = subst⁻¹ (λ (y : ℕ). y < 2 * c.e) first (core.start_in f r.f_in)

    module _ {x : ℕ} (x-is : x ≡ next_at edges₀ a) where
      then : x ≡ next (given c outs edges₀ faces₀) a
      then = x-is ∙ read (4 * a + 2) (let i = first-in in omega arith)

      then-in : x < 2 * c.e
      then-in = subst⁻¹ (λ (y : ℕ). y < 2 * c.e) then (core.next_in a first-in)

      pub then-has : Has edges₀ x
      then-has = there x then-in

      pub trim_start : {p n : ℕ} → p ≡ prev_at edges₀ a → n ≡ next_at edges₀ x → Trimming f (given c outs edges₀ faces₀) edges₀ faces₀ p a x n c.e c.f edges₀ faces₀
      unfolding each
      trim_start p-is n-is = record {
        j = 0;
        few = three;
        edges-is = r.edges_hold;
        faces-is = r.faces_hold;
        e-is = refl;
        g-is = refl;
        p-is = p-is ∙ read (4 * a + 3) (let i = first-in in omega arith) ∙ ap (prev m) first;
        a-is = first;
        x-is = then ∙ ap (next m) first;
        n-is = n-is ∙ read (4 * x + 2) (let i = then-in in omega arith) ∙ ap (next m) (then ∙ ap (next m) first);
      }

  -- ---- one corner more
  module _ {p a x n e g : ℕ} {edges faces : List ℕ} (s : Trimming f (given c outs edges₀ faces₀) edges₀ faces₀ p a x n e g edges faces) where
    abbrev t : Links
    t = each s.j (λ i. cut_corner f) (given c outs edges₀ faces₀)

    z : Cutted (given c outs edges₀ faces₀) (each s.j (λ i. cut_corner f) (given c outs edges₀ faces₀)) f (sides f (given c outs edges₀ faces₀)) s.j
    z = cutted s.j s.few

    f_in : f < t.nf
    f_in = let a = z.nf_is in let b = r.f_in in omega arith

    k : Core (mesh t)
    k = z.good.consistent.core

    at_in : start t f < 2 * t.ne
    at_in = k.start_in f f_in

    lens : (i : ℕ) → i + s.j ≡ sides f (given c outs edges₀ faces₀) → Length (next t) (start t f) i
    lens i q = z.mine i (start t f) q at_in (k.start_bears f f_in)

    -- the test
    pub trim-more : n ≢ p → s.j + 4 ≤ sides f (given c outs edges₀ faces₀)
    trim-more ne = split (s.j + 3) L
        (λ q. absurd (ne (
        s.n-is
        ∙ sym (k.prev_next _ (k.next_in _ (k.next_in _ at_in)))
        ∙ ap (prev t) (lens 3 (omega arith)).closes
        ∙ sym s.p-is)))
        (λ q. (let w = s.few in omega arith))

    pub trim-last : n ≡ p → s.j + 3 ≡ sides f (given c outs edges₀ faces₀)
    trim-last e = split (s.j + 3) L (λ q. q) (λ q. absurd (
        let w = s.few in
        (lens (L - s.j) (omega arith)).no-sooner 3 (omega arith) (omega arith)
        (ap (next t) (sym s.n-is ∙ e ∙ s.p-is) ∙ k.next_prev (start t f) at_in)))

    -- how many there are
    pub trim-counts : (c.e ≤ e) × (e + 3 ≤ c.e + sides f (given c outs edges₀ faces₀)) × (g + 3 ≤ c.f + sides f (given c outs edges₀ faces₀))
    trim-counts =
        let a = z.ne_is in
        let b = z.nf_is in
        let u = s.e-is in
        let v = s.g-is in
        let w = s.few in
        (omega arith, omega arith, omega arith)

    pub trim-small : (e ≤ 1048576) × (g ≤ 1048576)
    trim-small = let w = trim-counts in let a = r.few_e in let b = r.few_f in (omega arith, omega arith)

    pub trim-done : n ≡ p → (edges ≡ lay 0 (triangulate_face f (given c outs edges₀ faces₀)).edges edges₀) × (faces ≡ lay 0 (triangulate_face f (given c outs edges₀ faces₀)).faces faces₀)
        × (record { v = c.v; e = e; f = g } ≡ counts_of (triangulate_face f (given c outs edges₀ faces₀)))
    unfolding triangulate_face counts_of
    trim-done q =
        let w : s.j ≡ sides f (given c outs edges₀ faces₀) - 3 = (let w = trim-last q in omega arith) in (
          s.edges-is ∙ ap (λ (i : ℕ). lay 0 (cut_to i f m).edges edges₀) w,
          s.faces-is ∙ ap (λ (i : ℕ). lay 0 (cut_to i f m).faces faces₀) w,
          counts-is (sym z.nv_is ∙ ap (λ (i : ℕ). (cut_to i f m).nv) w) (s.e-is ∙ ap (λ (i : ℕ). (cut_to i f m).ne) w) (s.g-is ∙ ap (λ (i : ℕ). (cut_to i f m).nf) w),
        )
      where
        counts-is : {v e g v' e' g' : ℕ} → v ≡ v' → e ≡ e' → g ≡ g' → ◌≡◌ {A = Counts} (record { v = v; e = e; f = g }) (record { v = v'; e = e'; f = g' })
        counts-is a b c = λ i. record { v = a i; e = b i; f = c i }

    module _ (ne : n ≢ p) where
      long : Length (next t) (start t f) (suc (sides f (given c outs edges₀ faces₀) - suc s.j))
      long = lens _ (let w = trim-more ne in omega arith)

      lo : 3 ≤ sides f (given c outs edges₀ faces₀) - suc s.j
      lo = let w = trim-more ne in omega arith

      e-lt : t.ne < 1048576
      e-lt = let w = trim-more ne in let a = z.ne_is in let b = r.few_e in omega arith

      f_lt : t.nf < 1048576
      f_lt = let w = trim-more ne in let a = z.nf_is in let b = r.few_f in omega arith

      e-room : 8 * (t.ne + 1) ≤ length edges₀
      e-room = let w = trim-more ne in let a = z.ne_is in let b = r.long_e in omega arith

      f-room : t.nf + 1 ≤ length faces₀
      f-room = let w = trim-more ne in let a = z.nf_is in let b = r.long_f in omega arith

      pub corner-ok : CornerOk edges faces f e g (record { p = p; a = a; x = x; n = n })
      corner-ok =
          rw (s.edges-is, s.faces-is, s.e-is, s.g-is, s.p-is, s.a-is, s.x-is, s.n-is) (
          let w = length-lay 0 t.faces faces₀ in
          let i = f_in in
          let j = f-room in
          record {
            gap = gap-ok t k _ (corner-gap t z.good f f_in _ long lo e-lt f_lt) (let a = e-lt in omega arith) edges₀ e-room;
            f_in = omega arith;
            g_in = omega arith;
          })

      cut-is : cut_three edges e (record { p = p; n = n; a = a; b = x; f = f }) g ≡ lay 0 (cut_corner f t).edges edges₀
      cut-is = rw (s.edges-is, s.e-is, s.g-is, s.p-is, s.a-is, s.x-is, s.n-is) (corner-edges t z.good f f_in _ long lo e-lt f_lt edges₀ e-room)

      set_is : set (set faces f (2 * e)) g a ≡ lay 0 (cut_corner f t).faces faces₀
      set_is = rw (s.faces-is, s.e-is, s.g-is, s.a-is) (corner-faces t z.good f f_in _ long lo e-lt f_lt faces₀ f-room)

      n-in : n < 2 * t.ne
      n-in = subst⁻¹ (λ (y : ℕ). y < 2 * t.ne) s.n-is (k.next_in _ (k.next_in _ at_in))

      -- after the cut, as the code leaves it
      module _ {edges' : List ℕ} (d : edges' ≡ cut_three edges e (record { p = p; n = n; a = a; b = x; f = f }) g) where
        pub corner-has : Has edges' n
        corner-has =
            let w = ap length (d ∙ cut-is) in
            let v = length-lay 0 (cut_corner f t).edges edges₀ in
            let i = n-in in
            let j = e-room in
            omega arith

        pub corner-on : {faces' : List ℕ} {n' : ℕ} → faces' ≡ set (set faces f (2 * e)) g a → n' ≡ next_at edges' n
            → Trimming f (given c outs edges₀ faces₀) edges₀ faces₀ p (2 * e) n n' (e + 1) (g + 1) edges' faces'
        unfolding each
        corner-on {faces'} {n'} d' n-is =
            let t' = cut_corner f t in
            let y = cutted (suc s.j) (let w = trim-more ne in omega arith) in
            let at : start t' f ≡ 2 * t.ne = corner-start t z.good f f_in _ long lo e-lt f_lt in
            let x-is : n ≡ next t' (start t' f) = s.n-is ∙ sym (corner-next t z.good f f_in _ long lo e-lt f_lt) ∙ ap (next t') (sym at) in
            record {
              j = suc s.j;
              few = (let w = trim-more ne in omega arith);
              edges-is = d ∙ cut-is;
              faces-is = d' ∙ set_is;
              e-is = (let a = y.ne_is in let b = z.ne_is in let w = s.e-is in omega arith);
              g-is = (let a = y.nf_is in let b = z.nf_is in let w = s.g-is in omega arith);
              p-is = s.p-is ∙ sym (corner-prev t z.good f f_in _ long lo e-lt f_lt) ∙ ap (prev t') (sym at);
              a-is = ap (λ (e : ℕ). 2 * e) s.e-is ∙ sym at;
              x-is = x-is;
              n-is =
                  n-is
                  ∙ ap (λ (l : List ℕ). next_at l n) (d ∙ cut-is)
                  ∙ get_or-lay 0 t'.edges edges₀ (4 * n + 2) (let i = n-in in let j = e-room in omega arith)
                  ∙ ap (next t') x-is;
            }
