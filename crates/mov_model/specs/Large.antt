-- What is too large: the first of these sizes that passes its limit (this project's own).
use Rattle.std.specs.Prelude.{List, None, Option, [], codes, if◌then◌else◌, length, map, ℕ, ◌++◌, ◌^◌, ◌∷◌}
use Rattle.std.specs.List.{flat_map, list_any}
use Rattle.part_tree.specs.declared.field.EditItem.{EditItem}
use Rattle.part_tree.specs.Large.{Size, limited, first_above}
use Rattle.field_model.specs.Update.{effective}
use Rattle.mov_model.specs.Edited.{changes, fields}
use Rattle.part_tree.specs.declared.field.Value.{Value}
use Rattle.container_model.specs.Chunk.{Chunk, spell}
use Rattle.container_model.specs.Items.{Item, edit_carrier, listed, put_all}
use Rattle.container_model.specs.Rows.{be32, be64}
use Rattle.container_model.specs.Splice.{shift}
use Rattle.container_model.specs.Atoms.{is}
use Rattle.mov_model.specs.Carried.{Changes, fresh}
use Rattle.mov_model.specs.Keys.{edit_meta, is_meta, new_meta}
use Rattle.mov_model.specs.Movie.{Movie, movie_of, spell_movie}
use Rattle.mov_model.specs.New.{edit_cuts, new_movie}
use Rattle.mov_model.specs.Parts.{first_of, parts, tracks}
use Rattle.mov_model.specs.Reading.{count_parts}
use Rattle.mov_model.specs.Tables.{tables}
use Rattle.sample_tables.specs.Tables.{rows}
use Rattle.qt_text.specs.User.{udta, user_items}

-- the body of a carrier
abbrev pub body_size : Chunk → Size
body_size c = limited (2 ^ 24) (length c.body)

-- the body of the user data, edited or new
abbrev pub user_sizes : Movie → List (Item Value) → List Size
user_sizes m e =
    map (λ c. body_size (edit_carrier udta user_items e c)) (first_of (λ c. udta.is c) (parts m))
    ++ (if list_any (λ c. udta.is c) (parts m) then [] else map body_size (listed (fresh udta (put_all user_items e []))))

-- the body of the opened `meta`, edited or new
abbrev pub key_sizes : Movie → List (Item (List ℕ)) → List Size
key_sizes m e = map (λ c. body_size (edit_meta e c)) (first_of is_meta (parts m)) ++ (if list_any is_meta (parts m) then [] else map body_size (listed (new_meta e)))

-- the new places in a table
abbrev pub row_sizes : (ℕ → ℕ) → Chunk → List Size
row_sizes f c =
    if is c (codes "stco") then map (λ p. limited 4294967295 (f p)) (rows be32 c)
    else (if is c (codes "co64") then map (λ p. limited 18446744073709551615 (f p)) (rows be64 c) else [])

-- the new places in all tables, by place
abbrev pub table_sizes : Movie → Changes → List Size
table_sizes m e = flat_map (λ (t : Chunk). flat_map (row_sizes (shift (edit_cuts m e))) (tables t)) (tracks m)

-- in this order: the user data, the key table, the number of atoms, moov, the places of chunks, the file
abbrev pub all_sizes : Movie → Changes → List Size
all_sizes m e =
    user_sizes m e.users
    ++ (key_sizes m e.keys
    ++ (limited 65536 (count_parts (new_movie m e))
    ∷ (limited (2 ^ 26) (length (spell (new_movie m e).movie)) ∷ (table_sizes m e ++ limited 9223372036854775807 (length (spell_movie (new_movie m e))) ∷ []))))

-- without an item nothing is
abbrev pub large_by : Movie → Changes → List EditItem → Option Size
large_by m e [] = None
large_by m e (i ∷ is) = first_above (all_sizes m e)

-- the first limit that is passed, where an item has an effect
abbrev pub too_large : List ℕ → List EditItem → Option Size
too_large o e = large_by (movie_of o) (changes o e) (effective (fields o) e)
