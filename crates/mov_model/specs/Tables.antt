-- Which tables stand where in a track, and an atom of moov with its chunk places changed (QuickTime File Format, sample table atoms and data reference atoms).
use Rattle.std.specs.List.{flat_map}
use Rattle.std.specs.Prelude.{List, [], ℕ, ◌∷◌}
use Rattle.container_model.specs.Chunk.{Chunk}
use Rattle.container_model.specs.Deep.{Leaf, leaves, mend}
use Rattle.mov_model.specs.Atoms.{Place, dinf, format, moov, stbl}
use Rattle.sample_tables.specs.Tables.{moved_body}

-- tables stand in stbl
abbrev pub moved_leaf : (ℕ → ℕ) → Place → Chunk → List ℕ
moved_leaf f stbl c = moved_body f c
moved_leaf f p c = c.body

-- an atom of moov with all its chunk places changed
abbrev pub relocated : (ℕ → ℕ) → Chunk → Chunk
relocated f c = mend format (moved_leaf f) 5 moov c

-- ---- what the tables say

-- an atom in stbl
abbrev pub in_stbl : Place → Chunk → List Chunk
in_stbl stbl c = c ∷ []
in_stbl p c = []

-- the tables of a track
abbrev pub tables : Chunk → List Chunk
tables t = flat_map (λ (l : Leaf Place). in_stbl l.place l.chunk) (leaves format 5 moov t)

-- an atom in dinf
abbrev pub in_dinf : Place → Chunk → List Chunk
in_dinf dinf c = c ∷ []
in_dinf p c = []

-- where its data is said to be
abbrev pub references : Chunk → List Chunk
references t = flat_map (λ (l : Leaf Place). in_dinf l.place l.chunk) (leaves format 5 moov t)
