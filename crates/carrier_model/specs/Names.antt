-- The names of a stream among the chunks of its list (AVI RIFF File Reference, strl; that an edit leaves one is this project's own).
use Rattle.std.specs.Prelude.{ℕ, zero, suc, List, [], ◌∷◌, Bool, ◌||◌, codes, if◌then◌else◌}
use Rattle.std.specs.List.{flat_map, list_any}
use Rattle.std.specs.Str.{bytes_eq}
use Rattle.container_model.specs.Chunk.{Chunk}
use Rattle.container_model.specs.Units.{Cell, edited, live}
use Rattle.carrier_model.specs.Cells.{Change, become, settle_cells}

-- a name
abbrev pub is_name : Chunk → Bool
is_name c = bytes_eq c.id (codes "strn")

-- the identifier of a chunk behind which a new name stands
abbrev pub is_head_id : List ℕ → Bool
is_head_id id = bytes_eq id (codes "strh") || (bytes_eq id (codes "strf") || bytes_eq id (codes "strd"))

-- a chunk behind which a new name stands
abbrev pub is_head : Chunk → Bool
is_head c = is_head_id c.id

-- whether such a chunk is among some cells
abbrev pub some_head : List Cell → Bool
some_head xs = list_any is_head (flat_map live xs)

-- A new name stands behind the last head, or first where there is none.
abbrev pub put_name : Cell → List Cell → List Cell
put_name y [] = y ∷ []
put_name y (x ∷ xs) = if some_head (x ∷ xs) then x ∷ put_name y xs else y ∷ (x ∷ xs)

-- The first name becomes what is set, and the others are taken away.
abbrev pub nth_name : List Chunk → ℕ → Chunk → Change
nth_name new zero c = become new
nth_name new (suc n) c = become []

-- new names, if there are any
abbrev pub put_names : List Chunk → List Cell → List Cell
put_names [] xs = xs
put_names (c ∷ cs) xs = put_name (edited [] (c ∷ cs)) xs

-- the cells of a list with these names in place of its own
abbrev pub name_cells : List Chunk → List Cell → List Cell
name_cells new xs = if list_any is_name (flat_map live xs) then settle_cells is_name (nth_name new) 0 xs else put_names new xs
