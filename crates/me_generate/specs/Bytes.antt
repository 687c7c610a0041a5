-- Bytes of a file that is made.
use Rattle.std.specs.Prelude.{ℕ, ◌-◌, min, List, [], ◌∷◌, ◌++◌, length, take, replicate}
use Rattle.me_bytes.specs.Bytes.{be_bytes, le_bytes}

unfoldable pub zeros : ℕ → List ℕ
zeros n = replicate n 0

-- a text, cut or filled up with zeros to a width
unfoldable pub padded : ℕ → List ℕ → List ℕ
padded width text = take (min width (length text)) text ++ zeros (width - min width (length text))

-- numbers of four bytes each, the highest first
abbrev pub numbers : List ℕ → List ℕ
numbers [] = []
numbers (n ∷ ns) = be_bytes 4 n ++ numbers ns

-- the header of a chunk: its identifier, and the size of its body
abbrev pub chunk : List ℕ → ℕ → List ℕ
chunk id size = id ++ le_bytes 4 size

-- the header of an atom: its size, with the header counted, and its type
abbrev pub atom : ℕ → List ℕ → List ℕ
atom size kind = be_bytes 4 size ++ kind
