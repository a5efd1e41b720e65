-- Document 01's table (section 3), said of whole calls: the counts and the flag of a call of one pass that is done. V, E and F of the mesh given
-- are v, e and f; s is the sum of its face lengths, b the number of its edges with a rim halfedge. Assumes nothing.
use Rattle.std.specs.Prelude.{◌+◌, ◌-◌, ◌*◌, ◌≡◌, Bool, not, Ok}
use Rattle.scope.specs.declared.records.Counts.{Counts}
use Rattle.scope.specs.Lists.{if}
use Rattle.scope.specs.Edits.{triangulate}
use Rattle.scope.specs.Tally.{tally_of}
use Rattle.scope.specs.Slices.{Given, Buffers}
use Rattle.scope.specs.Call.{Scheme, call}
use Rattle.scope.specs.Schemes.{two_rims, settled, catmull, loop_scheme, sqrt3}
use Rattle.laws_call.specs.Demand.{links_in}

-- whenever one pass is done, its counts and flag are these
abbrev Table : Scheme → (Bool → Given → Counts × Bool) → Type 0
Table S row = (flag : Bool) (g : Given) (b : Buffers) (c : Counts) (next : Bool) → (call S 1 flag g b).answer ≡ Ok (c, next) → (c, next) ≡ row flag g

abbrev pub CatmullTable : Type 0
CatmullTable = Table catmull (λ update g.
    let t = tally_of (links_in g) in
    (record { v = t.v + t.e + t.f; e = 2 * t.e + t.s; f = t.s }, update))

-- after triangulating: edges E + S - 3F, faces S - 2F
abbrev pub LoopTable : Type 0
LoopTable = Table loop_scheme (λ update g.
    let t = tally_of (links_in g) in
    let e = t.e + t.s - 3 * t.f in
    let f = t.s - 2 * t.f in
    (record { v = t.v + e; e = 2 * e + 3 * f; f = 4 * f }, update))

-- with the flag true b more vertices and edges; the flag is made false if any face has more than one rim edge, and turns
abbrev pub Sqrt3Table : Type 0
Sqrt3Table = Table sqrt3 (λ asked g.
    let t = tally_of (links_in g) in
    let e = t.e + t.s - 3 * t.f in
    let f = t.s - 2 * t.f in
    let flag = settled (two_rims (triangulate (links_in g))) asked in
    let b = if flag t.b 0 in
    (record { v = t.v + f + b; e = e + 3 * f + b; f = 3 * f }, not flag))
