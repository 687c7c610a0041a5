-- What is too large: the first size or number of the new file that passes its limit.
use Rattle.std.specs.Prelude.{ℕ, ◌+◌, ◌-◌, ◌==◌, nat_lt, nat_le, List, [], ◌∷◌, ◌++◌, length, map, Bool, Option, Some, None, if◌then◌else◌}
use Rattle.std.specs.List.{flat_map}
use Rattle.part_tree.specs.declared.field.EditItem.{EditItem}
use Rattle.container_model.specs.Splice.{shift}
use Rattle.container_model.specs.Stood.{Stood}
use Rattle.part_tree.specs.Large.{Size, limited, is_above}
use Rattle.container_model.specs.Tests.{first}
use Rattle.avi_model.specs.Avi.{Avi, avi_of, inner}
use Rattle.container_model.specs.Tables.{Table}
use Rattle.opendml_index.specs.Index.{move, is_super, entries, entry_offset, entry_length, entry_second, has_second, index_base, first_counted}
use Rattle.avi_model.specs.Index.{renumbered, base, indexes, olds}
use Rattle.avi_index.specs.Rows.{row_offset, row_length, Base, from_start, from_movi, old_rows}
use Rattle.avi_model.specs.Support.{infos, parts, part_limit, list_limit}
use Rattle.avi_model.specs.Edited.{changes, fields}
use Rattle.field_model.specs.Update.{effective}
use Rattle.avi_model.specs.NewFile.{Items, laid, edit_cuts, edited_file}

-- a test, and what is told where it fails
abbrev pub Check : Type 0
Check = Bool × Size

-- a size up to a limit
abbrev pub at_most : ℕ → ℕ → Check
at_most limit n = (is_above (limited limit n), limited limit n)

-- the greatest number of 32 bits
abbrev pub limit32 : ℕ
limit32 = 4294967295

-- ---- entries

-- a place that is told as an offset from a base: not below the base, and of 32 bits
abbrev pub offset_checks : ℕ → ℕ → List Check
offset_checks base place = (nat_lt place base, limited 0 place) ∷ ((nat_lt limit32 (place - base), limited limit32 place) ∷ [])

-- a second place is behind the base
abbrev pub second_checks : ℕ → ℕ → List Check
second_checks base place = (nat_le place base, limited 0 place) ∷ ((nat_lt limit32 (place - base), limited limit32 place) ∷ [])

-- an entry of a standard index, if it is counted
abbrev pub entry_checks : (ℕ → ℕ) → ℕ → ℕ → List ℕ → List Check
entry_checks f old new r =
    if entry_length r == 0 then []
    else offset_checks new (f (old + entry_offset r)) ++ (if has_second r then second_checks new (f (old + entry_second r)) else [])

-- a standard index moves with its first counted entry
abbrev pub standard_checks : (ℕ → ℕ) → List ℕ → Option ℕ → List Check
standard_checks f body None = []
standard_checks f body (Some x) =
    let old = index_base body in
    flat_map (entry_checks f old ((old + f (old + x)) - (old + x))) (entries body)

-- the entries of an index chunk; a super entry has room for every place
abbrev pub index_checks : (ℕ → ℕ) → Table → List Check
index_checks f t = if is_super t.body then [] else standard_checks f t.body (first_counted (entries t.body))

-- an entry of idx1 that counts from the start
abbrev pub row_checks : (ℕ → ℕ) → Base → List ℕ → List Check
row_checks f from_movi r = []
row_checks f from_start r = if row_length r == 0 then [] else at_most limit32 (f (row_offset r)) ∷ []

-- the entries of idx1
abbrev pub old_checks : (ℕ → ℕ) → Base → Table → List Check
old_checks f base t = flat_map (row_checks f base) (old_rows t.body)

-- the checks of a table, and where it stands
pub record Placed : Type 0 where
  pub at : ℕ
  pub checks : List Check

-- a table put among others by place
abbrev pub put_placed : Placed → List Placed → List Placed
put_placed t [] = t ∷ []
put_placed t (u ∷ us) = if nat_lt t.at u.at then t ∷ (u ∷ us) else u ∷ put_placed t us

-- the tables by place
abbrev pub by_place : List Placed → List Placed
by_place [] = []
by_place (t ∷ ts) = put_placed t (by_place ts)

-- the checks of all tables
abbrev pub tables_placed : (ℕ → ℕ) → List ℕ → List Placed
tables_placed f o =
    map (λ t. record { at = t.at; checks = index_checks f t }) (indexes o)
    ++ map (λ t. record { at = t.at; checks = old_checks f (base o) t }) (olds o)

-- ---- the new file

-- the new file, with the numbers of its tables moved
abbrev pub new_avi : List ℕ → Items → Avi
new_avi o e = laid (avi_of (renumbered (move (shift (edit_cuts (avi_of o) e))) o)) e

-- the checks in their order, of the new parts, of which there are so many, and the new file, where places move: lists of fields, parts,
-- the form, the entries by table, the file
abbrev pub checks_of : Avi → ℕ → (ℕ → ℕ) → List ℕ → List ℕ → List Check
checks_of n count f o new =
    map (λ (x : Stood). at_most list_limit (length x.chunk.body)) (infos n)
    ++ (at_most part_limit count
    ∷ (at_most limit32 (length (inner n.children n.left))
    ∷ (flat_map (λ t. t.checks) (by_place (tables_placed f o)) ++ at_most 9223372036854775807 (length new) ∷ [])))

-- the checks of an edit
abbrev pub all_checks : List ℕ → Items → List Check
all_checks o e = checks_of (new_avi o e) (parts (new_avi o e)) (shift (edit_cuts (avi_of o) e)) o (edited_file o e)

-- without an item that has an effect nothing is
abbrev pub too_large_by : List EditItem → List ℕ → Items → Option Size
too_large_by [] o e = None
too_large_by (i ∷ is) o e = first (all_checks o e)

-- the first limit that an edit passes
abbrev pub too_large : List ℕ → List EditItem → Option Size
too_large o e = too_large_by (effective (fields o) e) o (changes o e)
