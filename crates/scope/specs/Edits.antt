-- The edits as the source has them, each a run of single changes (document 01, sections 1, 3 and 4). Assumes nothing.
use Rattle.std.specs.Prelude.{ℕ, suc, ◌+◌, ◌-◌, ◌*◌, ◌%◌, List, [], ◌∷◌, eqb, length}
use Rattle.scope.specs.Lists.{each, if, has}
use Rattle.scope.specs.Links.{Links, partner, face, head, next, prev, out, start, tail, rim, loop, ◌▸◌, face_is, head_is, next_is, prev_is, out_is, start_is, link, half, more}

-- ---- split edge. h : a → b becomes a → v → b. The new edge is a → v; h keeps v → b. v and a name what they should, the rim halfedge if one leaves
unfoldable pub split_edge : ℕ → ℕ → Links → Links
split_edge h v m =
    let o = partner h in
    let n = 2 * m.ne in
    let k = n + 1 in
    let a = tail m h in
    m
    ▸ half n (face m h) v h (prev m h)
    ▸ half k (face m o) a (next m o) o
    ▸ next_is (prev m h) n ▸ prev_is (next m o) k
    ▸ head_is o v ▸ prev_is h n ▸ next_is o k
    ▸ out_is v (if (rim m o) k h)
    ▸ out_is a (if (eqb (out m a) h) n (out m a))
    ▸ more 0 1 0

-- ---- insert edge. A new edge from p's head to n's tail, linked in; its first half comes after p, its second after n's prev
unfoldable pub joined : ℕ → ℕ → Links → Links
joined p n m =
    let h = 2 * m.ne in
    let k = h + 1 in
    m
    ▸ half h (face m p) (tail m n) n p
    ▸ half k (face m p) (head m p) (next m p) (prev m n)
    ▸ prev_is (next m p) k ▸ next_is (prev m n) k ▸ next_is p h ▸ prev_is n h
    ▸ more 0 1 0

-- face g is given to all of hs
unfoldable pub paint : ℕ → List ℕ → Links → Links
paint g [] m = m
paint g (h ∷ hs) m = paint g hs (face_is h g m)

-- across a face: the part from next p to prev n gets face g, the other keeps the face
unfoldable pub across_face : ℕ → ℕ → ℕ → Links → Links
across_face g p n m =
    let h = 2 * m.ne in
    let k = h + 1 in
    let f = face m p in
    let l = joined p n m in
    let part = loop l k in
    l ▸ paint g part ▸ start_is g k ▸ start_is f (if (has (start m f) part) h (start m f))

-- across a hole: the part from n to p gets face g, the other stays on the rim, and n's tail names the half that leaves it there
unfoldable pub across_hole : ℕ → ℕ → ℕ → Links → Links
across_hole g p n m =
    let h = 2 * m.ne in
    let k = h + 1 in
    let l = joined p n m in
    l ▸ paint g (loop l h) ▸ start_is g h ▸ out_is (tail m n) k

unfoldable pub insert_edge : ℕ → ℕ → ℕ → Links → Links
insert_edge g p n m =
    let hole = across_hole g p n m in
    let across = across_face g p n m in
    if (rim m p) hole across

-- with a new face
unfoldable pub insert_new : ℕ → ℕ → Links → Links
insert_new p n m = m ▸ insert_edge m.nf p n ▸ more 0 0 1

-- across a face, with a new face
unfoldable pub cut_off : ℕ → ℕ → Links → Links
cut_off p n m = m ▸ across_face m.nf p n ▸ more 0 0 1

-- ---- triangulate. §3: the fan starts at the tail of the face's halfedge; the last triangle keeps the face's index
unfoldable pub cut_corner : ℕ → Links → Links
cut_corner f m =
    let a = start m f in
    m ▸ cut_off (prev m a) (next m (next m a)) ▸ start_is m.nf a

unfoldable pub triangulate_face : ℕ → Links → Links
triangulate_face f m = each (length (loop m (start m f)) - 3) (λ i. cut_corner f) m

unfoldable pub triangulate : Links → Links
triangulate m = each m.nf triangulate_face m

-- ---- a face around a centre c: its loop is cut into parts, each from a to b, and each part gets a face g of its own, c → a .. b → c
pub record Part : Type 0 where
  pub a : ℕ
  pub b : ℕ
  pub g : ℕ

-- the part's loop: o leaves the centre, s comes back
unfoldable pub petal : ℕ → ℕ → ℕ → Part → Links → Links
petal c o s q m =
    m
    ▸ half o q.g (tail m q.a) q.a s
    ▸ half s q.g c o q.b
    ▸ face_is q.a q.g ▸ prev_is q.a o
    ▸ face_is q.b q.g ▸ next_is q.b s
    ▸ start_is q.g q.a

-- n new edges from e on; edge e + i leads from the centre to part i
unfoldable pub petals : ℕ → ℕ → ℕ → ℕ → List Part → Links → Links
petals c e n i [] m = m
petals c e n i (q ∷ qs) m = petals c e n (suc i) qs (petal c (2 * (e + i) + 1) (2 * (e + (suc i % n))) q m)

unfoldable pub fan : ℕ → List Part → Links → Links
fan c qs m = m ▸ petals c m.ne (length qs) 0 qs ▸ more 0 (length qs) (length qs - 1)

-- ---- split face: each halfedge is a part; the last of hs keeps f, the others get new faces from g on. v is the centre
unfoldable pub singles : ℕ → ℕ → List ℕ → List Part
singles f g [] = []
singles f g (h ∷ []) = record { a = h; b = h; g = f } ∷ []
singles f g (h ∷ k ∷ hs) = record { a = h; b = h; g = g } ∷ singles f (suc g) (k ∷ hs)

unfoldable pub split_face : ℕ → ℕ → Links → Links
split_face f v m =
    let hs = loop m (next m (start m f)) in
    m ▸ fan v (singles f m.nf hs) ▸ out_is v (2 * (m.ne + length hs) - 1)

-- ---- the swaps. Both give the ends of the edge another halfedge where they named one of the edge's, and the faces where they named one that leaves them
abbrev unnamed : ℕ → Links → Links
unnamed e m =
    let h = 2 * e in
    let o = 2 * e + 1 in
    m
    ▸ out_is (tail m h) (if (eqb (out m (tail m h)) h) (next m o) (out m (tail m h)))
    ▸ out_is (head m h) (if (eqb (out m (head m h)) o) (next m h) (out m (head m h)))

unfoldable pub swap_ccw : ℕ → Links → Links
swap_ccw e m =
    let h = 2 * e in
    let o = 2 * e + 1 in
    let hn = next m h in
    let on = next m o in
    let f = face m h in
    let g = face m o in
    unnamed e m
    ▸ head_is h (head m hn) ▸ head_is o (head m on)
    ▸ link o (next m on) ▸ link (prev m o) hn ▸ link hn o
    ▸ link h (next m hn) ▸ link (prev m h) on ▸ link on h
    ▸ face_is hn g ▸ face_is on f
    ▸ start_is f (if (eqb (start m f) hn) h (start m f))
    ▸ start_is g (if (eqb (start m g) on) o (start m g))

unfoldable pub swap_cw : ℕ → Links → Links
swap_cw e m =
    let h = 2 * e in
    let o = 2 * e + 1 in
    let hp = prev m h in
    let op = prev m o in
    let f = face m h in
    let g = face m o in
    unnamed e m
    ▸ head_is h (tail m op) ▸ head_is o (tail m hp)
    ▸ link h op ▸ link op (next m h) ▸ link (prev m hp) h
    ▸ link o hp ▸ link hp (next m o) ▸ link (prev m op) o
    ▸ face_is op f ▸ face_is hp g
    ▸ start_is f (if (eqb (start m f) hp) h (start m f))
    ▸ start_is g (if (eqb (start m g) op) o (start m g))
