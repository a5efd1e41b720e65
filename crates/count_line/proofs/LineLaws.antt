-- The pieces of the line, one after the other, are the line. Assumes nothing.
use Prim.Native.Nat.{ℕ}
use mathlib.Core.Path.{◌≡◌}
use mathlib.Core.List.{List, [], ◌++◌, append_assoc, append-nil}
use Rattle.text.specs.Ascii.{ascii}
use Rattle.text.specs.Text.{signed}
use Rattle.count_fields.specs.declared.count.Tally.{Tally}
use Rattle.count_line.specs.Line.{field, line_of, refusal_line}

regroup : (a b c d e f g h : List ℕ) → a ++ (b ++ (c ++ (d ++ (e ++ (f ++ (g ++ (h ++ []))))))) ≡ (a ++ b ++ c) ++ d ++ e ++ f ++ g ++ h
regroup a b c d e f g h = simp (append_assoc, append-nil)

pub line-is : (t : Tally)
    → field "vertices " t.v ++ (field " edges " t.e ++ (field " faces " t.f ++ (field " corners " t.corners ++ (field " rim " t.rim ++ (ascii " shells " ++ (signed t.shells.minus t.shells.size ++ (ascii "\n" ++ [])))))))
    ≡ line_of t
unfolding line_of
line-is t =
    regroup (field "vertices " t.v) (field " edges " t.e) (field " faces " t.f) (field " corners " t.corners) (field " rim " t.rim) (ascii " shells ")
    (signed t.shells.minus t.shells.size) (ascii "\n")

pub refusal-is : (n : ℕ) → field "refused " n ++ (ascii "\n" ++ []) ≡ refusal_line n
unfolding refusal_line
refusal-is n = simp append-nil
