-- The names of a stream in its list (AVI RIFF File Reference, strl).
use Rattle.std.specs.Prelude.{◌≡◌, ◌≤◌, ℕ, ◌+◌, List, [], ◌∷◌, ◌++◌, length, codes, if◌then◌else◌}
use Rattle.std.specs.List.{AllByRecursion}
use Rattle.me_disk.specs.Disk.{Disk}
use Rattle.me_disk.specs.Holds.{Holds}
use Rattle.part_tree.specs.declared.names.Span.{Span}
use Rattle.container_model.specs.Chunk.{Chunk, Run, spell, ends}
use Rattle.carrier_model.specs.Info.{made}
use Rattle.carrier_model.specs.Names.{is_name, is_head}
use Rattle.riff_form.specs.Walk.{row}

-- the bodies of the names among chunks that stand from a place on, in order
abbrev pub names_from : ℕ → List Chunk → List Span
names_from at [] = []
names_from at (c ∷ cs) =
    if is_name c then record { at = at + 8; len = length c.body } ∷ names_from (at + length (spell c)) cs else names_from (at + length (spell c)) cs

-- behind the last head among these, or at the place that was found before them
abbrev pub behind_heads : ℕ → ℕ → List Chunk → ℕ
behind_heads found at [] = found
behind_heads found at (c ∷ cs) = behind_heads (if is_head c then at + length (spell c) else found) (at + length (spell c)) cs

-- the chunks of a list behind its type word
abbrev pub chunks_of : List ℕ → Span → Run
chunks_of b strl = row b strl.at (strl.at + strl.len)

-- a list whose chunks end with it
abbrev pub IsWhole : Disk → Span → Type 0
IsWhole d strl = (b : List ℕ) → Holds d b → (chunks_of b strl).stop ≡ ends

-- each range ends at a place or before
abbrev pub EndBy : ℕ → List Span → Type 0
EndBy end ss = AllByRecursion (λ s. s.at + s.len ≤ end) ss

-- the bodies of a stream's names
abbrev pub names_of : List ℕ → Span → List Span
names_of b strl = names_from strl.at (chunks_of b strl).chunks

-- where a new name stands: behind the last `strh`, `strf` or `strd`, or first
abbrev pub new_place : List ℕ → Span → ℕ
new_place b strl = behind_heads strl.at strl.at (chunks_of b strl).chunks

-- a name as a chunk: the text and one 0
abbrev pub name_chunk : List ℕ → Chunk
name_chunk text = made (codes "strn") (text ++ 0 ∷ [])
