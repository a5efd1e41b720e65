-- Consistency (document 01, section 2): the lowest broken rule of C1 to C9 and, under it, the first place; and what is marked deleted. Assumes nothing.
use Rattle.std.specs.Prelude.{ℕ, ◌*◌, Bool, true, not, ◌&&◌, ◌||◌, List, map, eqb, leb, get_or, length, Option, None, Some}
use Rattle.scope.specs.declared.answers.Place.{Place}
use Rattle.scope.specs.declared.answers.Place.TheVariants.{AtVertex, AtHalfedge, AtEdge, AtFace}
use Rattle.scope.specs.declared.answers.Fault.{Fault}
use Rattle.scope.specs.Lists.{if, has, distinct, first, all, ◌or_else◌}
use Rattle.scope.specs.Links.{Links, Marks, partner, face, head, next, prev, out, start, tail, rim, isolated, loop, around, is_v, is_h, is_f}

abbrev pub broken : ℕ → (ℕ → Place) → Option ℕ → Option Fault
broken r p None = None
broken r p (Some i) = Some (record { rule = r; place = p i })

module _ (m : Links) (k : Marks) where
  -- every halfedge that is there and passes the first test passes the second
  unfoldable pub every : (ℕ → Bool) → (ℕ → Bool) → Bool
  every these ok = all (2 * m.ne) (λ h. if (is_h m k h && these h) (ok h) true)

  -- C1: each link is in range and reaches an undeleted element
  unfoldable pub c1_vertex : ℕ → Bool
  c1_vertex v = isolated m v || is_h m k (out m v)

  unfoldable pub c1_halfedge : ℕ → Bool
  c1_halfedge h = (rim m h || is_f m k (face m h)) && is_v m k (head m h) && is_h m k (next m h) && is_h m k (prev m h)

  unfoldable pub c1_face : ℕ → Bool
  c1_face f = is_h m k (start m f)

  -- C2: next and prev undo each other
  unfoldable pub c2 : ℕ → Bool
  c2 h = eqb (next m (prev m h)) h && eqb (prev m (next m h)) h

  -- C3: next starts at this head and has the same face
  unfoldable pub c3 : ℕ → Bool
  c3 h = eqb (tail m (next m h)) (head m h) && eqb (face m (next m h)) (face m h)

  -- C4: a face's halfedge bears that face, and one loop holds all that bear it
  unfoldable pub c4 : ℕ → Bool
  c4 f = eqb (face m (start m f)) f && every (λ h. eqb (face m h) f) (λ h. has h (loop m (start m f)))

  -- C5: every edge has at least one face
  unfoldable pub c5 : ℕ → Bool
  c5 h = not (rim m h && rim m (partner h))

  -- C6: no halfedge is followed by its partner
  unfoldable pub c6 : ℕ → Bool
  c6 h = not (eqb (next m h) (partner h))

  -- C7: a face has three or more halfedges, with heads all different
  unfoldable pub c7 : ℕ → Bool
  c7 f = leb 3 (length (loop m (start m f))) && distinct (map (head m) (loop m (start m f)))

  -- C8: a vertex's halfedge leaves it and the turn around it meets all that leave; none is named exactly if none leaves
  unfoldable pub c8 : ℕ → Bool
  c8 v = (isolated m v || eqb (tail m (out m v)) v) && every (λ h. eqb (tail m h) v) (λ h. has h (around m v))

  -- C9: at most one rim halfedge leaves a vertex, and the vertex then names it
  unfoldable pub c9 : ℕ → Bool
  c9 v = every (λ h. eqb (tail m h) v && rim m h) (λ h. eqb (out m v) h)

  -- the lowest broken rule and, under it, the first place: vertices, then halfedges, then faces, lowest index first
  unfoldable pub fault : Option Fault
  fault =
      broken 1 AtVertex (first m.nv (is_v m k) c1_vertex)
      or_else broken 1 AtHalfedge (first (2 * m.ne) (is_h m k) c1_halfedge)
      or_else broken 1 AtFace (first m.nf (is_f m k) c1_face)
      or_else broken 2 AtHalfedge (first (2 * m.ne) (is_h m k) c2)
      or_else broken 3 AtHalfedge (first (2 * m.ne) (is_h m k) c3)
      or_else broken 4 AtFace (first m.nf (is_f m k) c4)
      or_else broken 5 AtHalfedge (first (2 * m.ne) (is_h m k) c5)
      or_else broken 6 AtHalfedge (first (2 * m.ne) (is_h m k) c6)
      or_else broken 7 AtFace (first m.nf (is_f m k) c7)
      or_else broken 8 AtVertex (first m.nv (is_v m k) c8)
      or_else broken 9 AtVertex (first m.nv (is_v m k) c9)

-- §4, answer 4: what is marked deleted: faces, then edges, then vertices, lowest index
abbrev pub spot : (ℕ → Place) → Option ℕ → Option Place
spot p None = None
spot p (Some i) = Some (p i)

-- the first byte that is not 0
unfoldable pub set_mark : List ℕ → Option ℕ
set_mark l = first (length l) (λ i. true) (λ i. eqb (get_or l i 0) 0)

unfoldable pub marked : Marks → Option Place
marked k = spot AtFace (set_mark k.fs) or_else spot AtEdge (set_mark k.es) or_else spot AtVertex (set_mark k.vs)
