-- A text of several pieces, and the room that it may take. Assumes nothing.
use Rattle.std.specs.Prelude.{ℕ, ◌+◌, List, [], ◌∷◌, ◌++◌, length}
use Rattle.text.specs.declared.Piece.{Piece}
use Rattle.text.specs.declared.Piece.TheVariants.{Word, Field, Signed}
use Rattle.text.specs.Text.{decimal, signed}

abbrev pub piece_text : Piece → List ℕ
piece_text (Word w) = w.now
piece_text (Field name n) = name.now ++ decimal n
piece_text (Signed minus n) = signed minus n

abbrev pub text_of : List Piece → List ℕ
text_of [] = []
text_of (p ∷ ps) = piece_text p ++ text_of ps

-- a number has at most 20 digits
abbrev pub piece_width : Piece → ℕ
piece_width (Word w) = length w.now
piece_width (Field name n) = length name.now + 20
piece_width (Signed minus n) = 21

abbrev pub width_of : List Piece → ℕ
width_of [] = 0
width_of (p ∷ ps) = piece_width p + width_of ps
