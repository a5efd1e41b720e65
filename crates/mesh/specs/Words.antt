-- The words of a mesh as its slices hold them (document 01, section 2): each is by computation scope's word on links whose lists these are. Assumes nothing.
use Rattle.std.specs.Prelude.{ℕ, ◌+◌, ◌*◌, ◌<◌, List, [], ◌∷◌, length, get_or, set, Float}
use Rattle.std.specs.Float.{nan}
use Rattle.scope.specs.declared.records.Point.{Point}
use Rattle.scope.specs.declared.records.Halfedge.{Halfedge}
use Rattle.scope.specs.declared.records.Edge.{Edge}
use Rattle.scope.specs.Lists.{put}
use Rattle.scope.specs.Links.{partner}

-- ---- §2: halfedge h has face, head, next, prev at 4h .. 4h + 3 of the edges es
abbrev pub face_at : List ℕ → ℕ → ℕ
face_at es h = get_or es (4 * h) 0

abbrev pub head_at : List ℕ → ℕ → ℕ
head_at es h = get_or es (4 * h + 1) 0

abbrev pub next_at : List ℕ → ℕ → ℕ
next_at es h = get_or es (4 * h + 2) 0

abbrev pub prev_at : List ℕ → ℕ → ℕ
prev_at es h = get_or es (4 * h + 3) 0

-- §2: its tail is its partner's head
abbrev pub tail_at : List ℕ → ℕ → ℕ
tail_at es h = head_at es (partner h)

-- §2: from a leaving halfedge to the next around its vertex
abbrev pub turn_at : List ℕ → ℕ → ℕ
turn_at es h = partner (prev_at es h)

-- §2: a vertex names one halfedge that leaves it, or none; a face names one of its halfedges
abbrev pub link_at : List ℕ → ℕ → ℕ
link_at l i = get_or l i 0

-- es has the four words of h
abbrev pub Has : List ℕ → ℕ → Type 0
Has es h = 4 * h + 3 < length es

-- ---- single stores
abbrev pub set_face : List ℕ → ℕ → ℕ → List ℕ
set_face es h x = set es (4 * h) x

abbrev pub set_head : List ℕ → ℕ → ℕ → List ℕ
set_head es h x = set es (4 * h + 1) x

abbrev pub set_next : List ℕ → ℕ → ℕ → List ℕ
set_next es h x = set es (4 * h + 2) x

abbrev pub set_prev : List ℕ → ℕ → ℕ → List ℕ
set_prev es h x = set es (4 * h + 3) x

-- a, then b
abbrev pub linked : List ℕ → ℕ → ℕ → List ℕ
linked es a b = set_prev (set_next es a b) b a

-- ---- a halfedge, an edge, a point, as records
abbrev pub half_at : List ℕ → ℕ → Halfedge
half_at es h = record { face = face_at es h; head = head_at es h; next = next_at es h; prev = prev_at es h }

-- es with x as its halfedge h
abbrev pub put_half : List ℕ → ℕ → Halfedge → List ℕ
put_half es h x = set_prev (set_next (set_head (set_face es h x.face) h x.head) h x.next) h x.prev

-- the same stores in a list that grows: the edges of scope's `half` and `link`
abbrev pub laid_half : List ℕ → ℕ → Halfedge → List ℕ
laid_half l h x = put (put (put (put l (4 * h) x.face) (4 * h + 1) x.head) (4 * h + 2) x.next) (4 * h + 3) x.prev

abbrev pub laid_link : List ℕ → ℕ → ℕ → List ℕ
laid_link l a b = put (put l (4 * a + 2) b) (4 * b + 3) a

-- what `get_or` answers past an edge's two halves
abbrev pub no_half : Halfedge
no_half = record { face = 0; head = 0; next = 0; prev = 0 }

-- §2: halfedges 2e and 2e + 1 side by side
abbrev pub edge_at : List ℕ → ℕ → Edge
edge_at es e = record { halves = half_at es (2 * e) ∷ half_at es (2 * e + 1) ∷ [] }

abbrev pub put_edge : List ℕ → ℕ → Edge → List ℕ
put_edge es e x = put_half (put_half es (2 * e) (get_or x.halves 0 no_half)) (2 * e + 1) (get_or x.halves 1 no_half)

abbrev pub laid_edge : List ℕ → ℕ → Edge → List ℕ
laid_edge l e x = laid_half (laid_half l (2 * e) (get_or x.halves 0 no_half)) (2 * e + 1) (get_or x.halves 1 no_half)

-- ps has the three numbers of point v
abbrev pub HasPoint : List Float → ℕ → Type 0
HasPoint ps v = 3 * v + 2 < length ps

abbrev pub point_at : List Float → ℕ → Point
point_at ps v = record { x = get_or ps (3 * v) nan; y = get_or ps (3 * v + 1) nan; z = get_or ps (3 * v + 2) nan }

abbrev pub put_point : List Float → ℕ → Point → List Float
put_point ps v p = set (set (set ps (3 * v) p.x) (3 * v + 1) p.y) (3 * v + 2) p.z
