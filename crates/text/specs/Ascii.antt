-- A text as bytes. Assumes nothing.
use Rattle.std.specs.Prelude.{ℕ, List, [] as []ᴸ, ◌∷◌ as ◌∷ᴸ◌}
use Prim.Native.Char.{code}
use Prim.Native.String.{String, [], ◌∷◌}

-- one byte for each character: these are ASCII
abbrev pub ascii : String → List ℕ
ascii [] = []ᴸ
ascii (c ∷ s) = code c ∷ᴸ ascii s
