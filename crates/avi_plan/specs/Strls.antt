-- The chunks of a stream's list that is to have another name, as cells by place (AVI RIFF File Reference, strl and strn; slots are
-- this project's own).
use Rattle.std.specs.Prelude.{◌≡◌, ◌≤◌, ℕ, ◌+◌, ◌==◌, List, [], ◌∷◌, ◌++◌, length, map, Bool, ◌||◌, Option, Some, None, codes, if◌then◌else◌}
use Rattle.std.specs.List.{list_any}
use Rattle.container_model.specs.Chunk.{riff, Chunk, spell, spell_all}
use Rattle.container_model.specs.Items.{listed}
use Rattle.container_model.specs.Units.{Cell, edited}
use Rattle.container_model.specs.Windows.{window}
use Rattle.carrier_model.specs.Info.{made}
use Rattle.carrier_model.specs.Names.{is_name}
use Rattle.riff_form.specs.Walk.{chunk_in}
use Rattle.riff_form.specs.declared.ChunkAt.{ChunkAt}
use Rattle.unit_plan.specs.Shapes.{Shape, parts_in, shape_of}
use Rattle.avi_names.specs.Names.{behind_heads}
use Rattle.avi_model.specs.Named.{cell_of}
use Rattle.avi_plan.specs.declared.strl.Spelled.{Spelled}

-- a name by its body, as chunks: one, or none
abbrev pub name_chunks : Option (List ℕ) → List Chunk
name_chunks body = map (made (codes "strn")) (listed body)

-- in a stream's list each chunk is one part
abbrev pub one : Chunk → ℕ
one c = 1

-- these chunks are spelled
pub record IsSpelled (new : List Chunk) (s : Spelled) : Type 0 where
  pub bytes : s.bytes ≡ spell_all new
  pub chunks : s.chunks ≡ parts_in one new

-- where a new name stands: nowhere, if none is set or the list has one, and else behind the last head
abbrev pub place_of : List Chunk → ℕ → List Chunk → Option ℕ
place_of [] at cs = None
place_of (n ∷ ns) at cs = if list_any is_name cs then None else Some (behind_heads at at cs)

-- the bytes of a chunk stand where it is told
pub record StandsThere (b : List ℕ) (k : ChunkAt) : Type 0 where
  pub inside : k.next ≤ length b
  pub spelled : window b k.at k.next ≡ spell (chunk_in b riff k)

-- ---- cells from a place on

-- the new name, where it stands here
abbrev pub put_here : List Chunk → Option ℕ → ℕ → List Cell
put_here new None at = []
put_here new (Some p) at = if p == at then edited [] new ∷ [] else []

-- a chunk, behind a name or not: the first name becomes the new one, and further ones are taken away
abbrev pub name_cell : List Chunk → Bool → Chunk → Cell
name_cell new met c = if is_name c then edited (c ∷ []) (if met then [] else new) else cell_of c

-- the chunks from a place on
abbrev pub cells_from : List Chunk → Option ℕ → Bool → ℕ → List Chunk → List Cell
cells_from new place met at [] = put_here new place at
cells_from new place met at (c ∷ cs) = put_here new place at ++ name_cell new met c ∷ cells_from new place (met || is_name c) (at + length (spell c)) cs

-- what a planner holds of cells
abbrev pub shapes : List Cell → List Shape
shapes xs = map (shape_of one) xs
