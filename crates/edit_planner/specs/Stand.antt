-- Chunks in the bytes of a file, and the parts of a map as cells.
use Rattle.std.specs.Prelude.{◌≡◌, ℕ, ◌+◌, ◌%◌, ◌==◌, List, [], ◌∷◌, length, ◌&&◌, not}
use Rattle.part_tree.specs.Letters.{four}
use Rattle.part_tree.specs.declared.part.Part.{Part}
use Rattle.part_tree.specs.declared.part.Role.{Role}
use Rattle.part_tree.specs.declared.part.Role.TheVariants.{Opaque, Padding, Bext, Info, Whole, Sizes, Tables, UserData, Essence, Rest}
use Rattle.wave_file.specs.Map.{at_front, part_as, role_of}
use Rattle.container_model.specs.Chunk.{Chunk, header_bytes, pad_len, spell}
use Rattle.container_model.specs.Units.{Cell, lacks_pad}
use Rattle.container_model.specs.Walk.{along}
use Rattle.container_model.specs.Written.{slice}
use Rattle.carrier_model.specs.Info.{is_padding}
use Rattle.wave_model.specs.Wave.{cell_by}
use Rattle.unit_plan.specs.declared.place.Place.{Place}
use Rattle.unit_plan.specs.declared.place.What.{What}
use Rattle.unit_plan.specs.declared.place.What.TheVariants.{Stays, Pads, Changes}
use Rattle.edit_planner.specs.declared.cells.CellAt.{CellAt}
use Rattle.edit_planner.specs.declared.cells.Content.{Content}
use Rattle.edit_planner.specs.declared.cells.Content.TheVariants.{Kept, Body, Listed, Gap, Edited}
use Rattle.edit_planner.specs.Cells.{list_in, told}

-- a chunk of RIFF that stands at a place of a file
pub record StandsAt (b : List ℕ) (at : ℕ) (c : Chunk) : Type 0 where
  pub header : length (header_bytes c.form c.id (length c.body)) ≡ 8
  pub padded : pad_len c.form (length c.body) ≡ length c.body % 2
  pub body : c.body ≡ slice b (at + 8) (length c.body)

-- chunks that stand one after the other
abbrev pub StandFrom : List ℕ → ℕ → List Chunk → Type 0
StandFrom b at [] = Unit {0}
StandFrom b at (c ∷ cs) = StandsAt b at c × StandFrom b (at + length (spell c)) cs

-- ---- chunks by their roles

-- what is held of a chunk of a role
abbrev pub held_by : Role → Chunk → Content
held_by Info c = Listed (list_in c)
held_by Bext c = Body c.body
held_by Padding c = Gap
held_by Opaque c = Kept (four c.id) Opaque
held_by Whole c = Kept (four c.id) Whole
held_by Sizes c = Kept (four c.id) Sizes
held_by Tables c = Kept (four c.id) Tables
held_by UserData c = Kept (four c.id) UserData
held_by Essence c = Kept (four c.id) Essence
held_by Rest c = Kept (four c.id) Rest

-- a chunk of a role as a cell at a place
abbrev pub held_at : Role → ℕ → Chunk → CellAt
held_at role at c =
    record { at = at; next = at + length (spell c); lacks_pad = lacks_pad c; content = held_by role c }

-- chunks that stand from a place on, where each has a role by where it stands
abbrev pub held_from : (ℕ → Chunk → Role) → ℕ → List Chunk → List CellAt
held_from role at [] = []
held_from role at (c ∷ cs) = held_at (role at c) at c ∷ held_from role (at + length (spell c)) cs

-- the parts that they are
abbrev pub parts_from : (ℕ → Chunk → Role) → ℕ → List Chunk → List Part
parts_from role at cs = along (λ p c. part_as (role p c) p c ∷ []) at cs

-- ---- the chunks of a WAVE or RF64 file

-- what a chunk is to an edit, where it stands
abbrev pub wave_role : ℕ → Chunk → Role
wave_role at c = at_front at (role_of c)

-- the cell of a chunk at a place: a JUNK that stands first, at 12, is no padding
abbrev pub cell_at : ℕ → Chunk → Cell
cell_at at c = cell_by c (is_padding c && not (at == 12))

-- the cells of chunks that stand from a place on
abbrev pub told_chunks : ℕ → List Chunk → List CellAt
told_chunks at [] = []
told_chunks at (c ∷ cs) = told at (cell_at at c) ∷ told_chunks (at + length (spell c)) cs

-- ---- a cell as a place

-- how many parts a cell counts for
abbrev pub count_of : Content → ℕ
count_of (Kept id role) = 1
count_of (Body body) = 1
count_of (Listed list) = length list.items + 1
count_of Gap = 1
count_of (Edited now parts) = parts

-- what is to stand in it
abbrev pub what_of : Content → What
what_of (Kept id role) = Stays
what_of (Body body) = Stays
what_of (Listed list) = Stays
what_of Gap = Pads
what_of (Edited now parts) = Changes now

-- the place of a cell
abbrev pub placed : CellAt → Place
placed x = record {
  at = x.at;
  next = x.next;
  lacks_pad = x.lacks_pad;
  parts = count_of x.content;
  what = what_of x.content;
}
