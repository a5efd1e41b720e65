-- The mesh (document 01, section 2): its links, its marks, loops and turns, the rim; and the single changes that edits are made of. Assumes nothing.
use Rattle.std.specs.Prelude.{ℕ, ◌+◌, ◌-◌, ◌*◌, ◌/◌, ◌%◌, Bool, ◌&&◌, ◌||◌, List, [], eqb, ltb, get_or}
use Rattle.scope.specs.Lists.{put, round, if}

-- §2: counts; a leaving halfedge for each vertex; face, head, next, prev for each halfedge, eight words an edge; a halfedge for each face
pub record Links : Type 0 where
  pub nv : ℕ
  pub ne : ℕ
  pub nf : ℕ
  pub outs : List ℕ
  pub edges : List ℕ
  pub faces : List ℕ

-- §2: each vertex, edge and face has a mark byte: 0 in use, any other value deleted
pub record Marks : Type 0 where
  pub vs : List ℕ
  pub es : List ℕ
  pub fs : List ℕ

-- §2: "none"
abbrev pub NONE : ℕ
NONE = 4294967295

-- §2: halfedges 2e and 2e + 1 are partners
unfoldable pub partner : ℕ → ℕ
partner h = h / 2 * 2 + (1 - h % 2)

-- §2: a halfedge has face (or none), head, next, prev
abbrev pub face : Links → ℕ → ℕ
face m h = get_or m.edges (4 * h) 0

abbrev pub head : Links → ℕ → ℕ
head m h = get_or m.edges (4 * h + 1) 0

abbrev pub next : Links → ℕ → ℕ
next m h = get_or m.edges (4 * h + 2) 0

abbrev pub prev : Links → ℕ → ℕ
prev m h = get_or m.edges (4 * h + 3) 0

-- §2: a vertex names one halfedge that leaves it, or none; a face names one of its halfedges
abbrev pub out : Links → ℕ → ℕ
out m v = get_or m.outs v 0

abbrev pub start : Links → ℕ → ℕ
start m f = get_or m.faces f 0

-- §2: its tail is its partner's head
abbrev pub tail : Links → ℕ → ℕ
tail m h = head m (partner h)

-- §2: from a leaving halfedge to the next around its vertex
abbrev pub turn : Links → ℕ → ℕ
turn m h = partner (prev m h)

-- §2: a halfedge without face is a rim halfedge; a vertex is on the rim when its named halfedge is one, or when it is isolated
abbrev pub rim : Links → ℕ → Bool
rim m h = eqb (face m h) NONE

abbrev pub isolated : Links → ℕ → Bool
isolated m v = eqb (out m v) NONE

abbrev pub rim_vertex : Links → ℕ → Bool
rim_vertex m v = isolated m v || rim m (out m v)

-- §3: an edge with a rim halfedge
abbrev pub rim_edge : Links → ℕ → Bool
rim_edge m e = rim m (2 * e) || rim m (2 * e + 1)

-- §2: around a face, from its halfedge by next; §9: a walk is bounded by the halfedges
unfoldable pub loop : Links → ℕ → List ℕ
loop m h = round h (next m) (2 * m.ne) h

-- §2: around a vertex, from its halfedge h to partner (prev h)
unfoldable pub around : Links → ℕ → List ℕ
around m v =
    let hs = round (out m v) (turn m) (2 * m.ne) (out m v) in
    if (isolated m v) [] hs

-- ---- what is there: in range and not marked
unfoldable pub is_v : Links → Marks → ℕ → Bool
is_v m k v = ltb v m.nv && eqb (get_or k.vs v 0) 0

unfoldable pub is_e : Links → Marks → ℕ → Bool
is_e m k e = ltb e m.ne && eqb (get_or k.es e 0) 0

unfoldable pub is_h : Links → Marks → ℕ → Bool
is_h m k h = ltb h (2 * m.ne) && eqb (get_or k.es (h / 2) 0) 0

unfoldable pub is_f : Links → Marks → ℕ → Bool
is_f m k f = ltb f m.nf && eqb (get_or k.fs f 0) 0

-- ---- single changes, in the order in which they are written: m ▸ this ▸ that
infixl 20 ◌▸◌
abbrev pub ◌▸◌ : {A : Type 0} → A → (A → A) → A
m ▸ change = change m

abbrev words : Links → List ℕ → Links
words m l = record { nv = m.nv; ne = m.ne; nf = m.nf; outs = m.outs; edges = l; faces = m.faces }

abbrev pub face_is : ℕ → ℕ → Links → Links
face_is h x m = words m (put m.edges (4 * h) x)

abbrev pub head_is : ℕ → ℕ → Links → Links
head_is h x m = words m (put m.edges (4 * h + 1) x)

abbrev pub next_is : ℕ → ℕ → Links → Links
next_is h x m = words m (put m.edges (4 * h + 2) x)

abbrev pub prev_is : ℕ → ℕ → Links → Links
prev_is h x m = words m (put m.edges (4 * h + 3) x)

abbrev pub out_is : ℕ → ℕ → Links → Links
out_is v h m = record { nv = m.nv; ne = m.ne; nf = m.nf; outs = put m.outs v h; edges = m.edges; faces = m.faces }

abbrev pub start_is : ℕ → ℕ → Links → Links
start_is f h m = record { nv = m.nv; ne = m.ne; nf = m.nf; outs = m.outs; edges = m.edges; faces = put m.faces f h }

-- a, then b
abbrev pub link : ℕ → ℕ → Links → Links
link a b m = m ▸ next_is a b ▸ prev_is b a

-- all four words of h
abbrev pub half : ℕ → ℕ → ℕ → ℕ → ℕ → Links → Links
half h f v n p m = m ▸ face_is h f ▸ head_is h v ▸ next_is h n ▸ prev_is h p

-- that many more
abbrev pub more : ℕ → ℕ → ℕ → Links → Links
more v e f m = record { nv = m.nv + v; ne = m.ne + e; nf = m.nf + f; outs = m.outs; edges = m.edges; faces = m.faces }
