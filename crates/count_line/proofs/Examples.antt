-- The counter's line written out, by computation. Assumes nothing.
use mathlib.Core.Path.{◌≡◌, refl}
use mathlib.Core.Bool.{true, false}
use Rattle.text.specs.Ascii.{ascii}
use Rattle.text.specs.Text.{digits_of, decimal, signed}
use Rattle.count_fields.specs.declared.count.Tally.{Tally}
use Rattle.count_line.specs.Line.{line_of, refusal_line}

-- document 01, section 5: a cube
cube : Tally
cube = record { v = 8; e = 12; f = 6; corners = 24; rim = 0; shells = record { minus = false; size = 1 } }

cube-line : line_of cube ≡ ascii "vertices 8 edges 12 faces 6 corners 24 rim 0 shells 1\n"
unfolding line_of cube decimal digits_of signed
cube-line = refl

-- two tori glued: a minus sign
double : Tally
double = record { v = 15; e = 51; f = 34; corners = 102; rim = 0; shells = record { minus = true; size = 1 } }

double-line : line_of double ≡ ascii "vertices 15 edges 51 faces 34 corners 102 rim 0 shells -1\n"
unfolding line_of double decimal digits_of signed
double-line = refl

refused-line : refusal_line 15 ≡ ascii "refused 15\n"
unfolding refusal_line decimal digits_of
refused-line = refl
