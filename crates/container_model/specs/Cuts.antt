-- The spans of an edited list where the chunks that are copied have spans of their own, as rows of tables that are relocated.
use Rattle.std.specs.Prelude.{ℕ, ◌+◌, List, [], ◌∷◌, ◌++◌, length}
use Rattle.container_model.specs.Chunk.{Chunk, spell, spell_all}
use Rattle.container_model.specs.Splice.{Cut}
use Rattle.container_model.specs.Units.{Piece, copied, replaced, Fill, cut_of}

-- the spans in each copied chunk, by its place, and the slots of the units
abbrev pub cuts_with : (ℕ → Chunk → List Cut) → Fill → ℕ → List Piece → List Cut
cuts_with t fill at [] = []
cuts_with t fill at (copied c ∷ ps) = t at c ++ cuts_with t fill (at + length (spell c)) ps
cuts_with t fill at (replaced lead slot now last ∷ ps) = cut_of fill at lead slot now last ∷ cuts_with t fill (at + length (spell_all lead ++ slot)) ps

-- pieces whose copied chunks are changed
abbrev pub changed_piece : (Chunk → Chunk) → Piece → Piece
changed_piece g (copied c) = copied (g c)
changed_piece g (replaced lead slot now last) = replaced lead slot now last
