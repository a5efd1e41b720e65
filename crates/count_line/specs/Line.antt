-- The counter's line (document 01, section 5), as bytes. Assumes nothing.
use Rattle.std.specs.Prelude.{ℕ, List, ◌++◌}
use Prim.Native.String.{String}
use Rattle.text.specs.Ascii.{ascii}
use Rattle.text.specs.Text.{decimal, signed}
use Rattle.count_fields.specs.declared.count.Tally.{Tally}

abbrev pub field : String → ℕ → List ℕ
field name n = ascii name ++ decimal n

-- §5: fields: V, E, F ..
abbrev pub sizes_of : Tally → List ℕ
sizes_of t = field "vertices " t.v ++ field " edges " t.e ++ field " faces " t.f

-- .. S, b, and shells, with a minus sign below zero
unfoldable pub line_of : Tally → List ℕ
line_of t =
    sizes_of t ++ field " corners " t.corners ++ field " rim " t.rim
    ++ ascii " shells " ++ signed t.shells.minus t.shells.size ++ ascii "\n"

-- §5: a refusal prints `refused` and the number
unfoldable pub refusal_line : ℕ → List ℕ
refusal_line n = field "refused " n ++ ascii "\n"
