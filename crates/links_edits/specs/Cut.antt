-- The cut across a face in the slices: one line for each store, and what it asks. Assumes nothing.
use Rattle.std.specs.Prelude.{ℕ, ◌+◌, ◌*◌, ◌≤◌, ◌<◌, ◌≡◌, List, [], ◌∷◌, length}
use Rattle.scope.specs.declared.records.Edge.{Edge}
use Rattle.scope.specs.Links.{partner, loop}
use Rattle.scope.specs.Edits.{joined}
use Rattle.mesh.specs.Words.{face_at, head_at, next_at, prev_at, tail_at, set_face, set_next, set_prev, put_edge, Has}
use Rattle.links_edits.specs.declared.cut.Gap.{Gap}
use Rattle.links_edits.specs.Held.{held}

-- the gap from p to n
abbrev pub gap_of : List ℕ → ℕ → ℕ → Gap
gap_of es p n = record { p = p; n = n; a = next_at es p; b = prev_at es n; f = face_at es p }

-- the new edge, from p's head to n's tail, and back
abbrev pub gap_edge : List ℕ → Gap → Edge
gap_edge es x = record {
  halves =
      record { face = x.f; head = tail_at es x.n; next = x.n; prev = x.p }
      ∷ record { face = x.f; head = head_at es x.p; next = x.a; prev = x.b } ∷ [];
}

-- its halves h and k linked in
unfoldable pub closed : List ℕ → Gap → ℕ → ℕ → List ℕ
closed es x h k =
    let a : List ℕ = set_prev es x.a k in
    let b : List ℕ = set_next a x.b k in
    let c : List ℕ = set_next b x.p h in
    set_prev c x.n h

unfoldable pub divided : List ℕ → ℕ → Gap → List ℕ
divided es ne x = closed (put_edge es ne (gap_edge es x)) x (2 * ne) (2 * ne + 1)

-- face g given to all of hs
unfoldable pub painted : List ℕ → ℕ → List ℕ → List ℕ
painted es g [] = es
painted es g (h ∷ hs) = painted (set_face es h g) g hs

-- and the new half, a and b given face g
unfoldable pub cut_three : List ℕ → ℕ → Gap → ℕ → List ℕ
cut_three es ne x g =
    let a : List ℕ = set_face (divided es ne x) (2 * ne + 1) g in
    let b : List ℕ = set_face a x.a g in
    set_face b x.b g

pub record CloseOk (es : List ℕ) (x : Gap) : Type 0 where
  pub has_p : Has es x.p
  pub has_n : Has es x.n
  pub has_a : Has es x.a
  pub has_b : Has es x.b

-- what stands around is there, and there is room for edge ne
pub record GapOk (es : List ℕ) (ne : ℕ) (x : Gap) : Type 0 where
  pub few : ne ≤ 1048576
  pub room : Has es (2 * ne + 1)
  pub across : Has es (partner x.n)
  pub around : CloseOk es x

-- all of hs are there
abbrev pub AllHave : List ℕ → List ℕ → Type 0
AllHave es [] = Unit {0}
AllHave es (h ∷ hs) = Has es h × AllHave es hs

-- all are below n
abbrev pub AllLow : ℕ → List ℕ → Type 0
AllLow n [] = Unit {0}
AllLow n (x ∷ l) = (x < n) × AllLow n l

-- p and n and what stands around them are among ne edges, there is room for one more and for one more face; and what is cut off is the part, behind the new half
pub record CutOk (es faces : List ℕ) (ne g p n : ℕ) (part : List ℕ) : Type 0 where
  pub few : ne ≤ 1048576
  pub room : 8 * ne + 8 ≤ length es
  pub first : p < 2 * ne
  pub last : n < 2 * ne
  pub then : next_at es p < 2 * ne
  pub before : prev_at es n < 2 * ne
  pub old_face : face_at es p < length faces
  pub new_face : g < length faces
  pub part_low : AllLow (2 * ne + 2) part
  pub part_is : loop (joined p n (held 0 ne g [] es faces)) (2 * ne + 1) ≡ (2 * ne + 1) ∷ part
