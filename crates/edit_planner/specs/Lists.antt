-- Lists of INFO items in a row of cells: where each changed field is at home, and what becomes of each list.
use Rattle.std.specs.Prelude.{◌≡◌, ◌≤◌, ℕ, ◌+◌, ◌-◌, ◌^◌, ◌<◌, ◌==◌, List, [], ◌∷◌, ◌++◌, length, map, Bool, true, false, ◌||◌, if◌then◌else◌, Option, Some, None, Result}
use Rattle.std.specs.declared.result.Result.TheVariants.{Ok, Err}
use Rattle.std.specs.List.{AllByRecursion}
use Rattle.part_tree.specs.Letters.{four}
use Rattle.part_tree.specs.Names.{info_ids}
use Rattle.container_model.specs.Chunk.{Chunk}
use Rattle.container_model.specs.Units.{Cell}
use Rattle.container_model.specs.Deep.{Token}
use Rattle.container_model.specs.Items.{Item, has_mark, put_all}
use Rattle.carrier_model.specs.Cells.{Test, behind, insert_cell}
use Rattle.carrier_model.specs.Info.{info, info_items, list_of, one_of}
use Rattle.part_tree.specs.Large.{Size, limited, first_above}
use Rattle.carrier_model.specs.Lists.{edit_list_cells, some_hold, first_holder, sets_some}
use Rattle.wave_model.specs.Fields.{is_info}
use Rattle.edit_planner.specs.Cells.{edited_as, list_in, told_row_by}
use Rattle.info_list.specs.Info.{chunks_of, tokens_of}
use Rattle.info_list.specs.declared.InfoList.{InfoList}
use Rattle.edit_planner.specs.declared.cells.CellAt.{CellAt}
use Rattle.edit_planner.specs.declared.cells.Content.{Content}
use Rattle.edit_planner.specs.declared.cells.Content.TheVariants.{Kept, Body, Listed, Gap, Edited}
use Rattle.edit_planner.specs.declared.lists.Homed.{Homed}
use Rattle.edit_planner.specs.declared.lists.ListsFault.{ListsFault}
use Rattle.edit_planner.specs.declared.lists.ListsFault.TheVariants.{TooLarge, Memory}
use Rattle.edit_planner.specs.Row.{edited_at, is_list}

-- ---- where a field is at home

-- the marks of a list's items
abbrev pub marks_in : Content → List (List Token)
marks_in (Listed list) = tokens_of list ∷ []
marks_in Gap = []
marks_in (Kept id role) = []
marks_in (Body body) = []
marks_in (Edited now parts) = []

-- those of each list in a row
abbrev pub all_marks : List CellAt → List (List Token)
all_marks [] = []
all_marks (x ∷ xs) = marks_in x.content ++ all_marks xs

-- the number of the first list that has an item of a name, where they are counted from a number on; 0 where none has
abbrev pub home_from : ℕ → List (List Token) → List ℕ → ℕ
home_from n tss name = if some_hold name tss then n + first_holder name tss else 0

-- the items of an edit, each with the number of the list where its field is at home
abbrev pub homed_as : (List ℕ → ℕ) → Item (List ℕ) → Homed
homed_as h i = record { id = four i.name; value = i.value; home = h i.name }

-- all items of an edit so
abbrev pub homed_of : (List ℕ → ℕ) → List (Item (List ℕ)) → List Homed
homed_of h e = map (homed_as h) e

-- they are of INFO fields
abbrev pub AreInfo : List Homed → Type 0
AreInfo is = AllByRecursion (λ i. one_of info_ids i.id.0 ≡ true) is

-- ---- what becomes of a list

-- whether a list is edited: where a field has an item in it, or is at home there
abbrev pub concerned : ℕ → List Token → List Homed → Bool
concerned n ts [] = false
concerned n ts (i ∷ is) = (has_mark i.id.0 ts || (i.home == n)) || concerned n ts is

-- a field is set in the list where it is at home, and taken away from every other one
abbrev pub part_as : ℕ → Homed → Item (List ℕ)
part_as n i = record { name = i.id.0; value = if i.home == n then i.value else None }

-- what all fields become in the list of a number
abbrev pub part_in : ℕ → List Homed → List (Item (List ℕ))
part_in n is = map (part_as n) is

-- the chunk of a list with changes
abbrev pub changed_list : List (Item (List ℕ)) → InfoList → Chunk
changed_list e list = list_of (put_all info_items e (chunks_of list)) list.rest

-- what becomes of a cell that holds the list of a number; one that holds no list stays
abbrev pub list_edited_by : List Homed → ℕ → CellAt → Content → CellAt
list_edited_by is n x (Listed list) =
    if concerned n (tokens_of list) is then edited_at x (changed_list (part_in n is) list ∷ []) else x
list_edited_by is n x Gap = x
list_edited_by is n x (Kept id role) = x
list_edited_by is n x (Body body) = x
list_edited_by is n x (Edited now parts) = x

-- the same by what the cell itself holds
abbrev pub list_edited : List Homed → ℕ → CellAt → CellAt
list_edited is n x = list_edited_by is n x x.content

-- ---- how long the lists become

-- the length of a list that is edited
abbrev pub size_in : List Homed → ℕ → Content → List Size
size_in is n (Listed list) =
    if concerned n (tokens_of list) is then limited (2 ^ 24) (length (changed_list (part_in n is) list).body) ∷ []
    else []
size_in is n Gap = []
size_in is n (Kept id role) = []
size_in is n (Body body) = []
size_in is n (Edited now parts) = []

-- those of all lists, which are counted from a number on
abbrev pub sizes_in : List Homed → ℕ → List CellAt → List Size
sizes_in is n [] = []
sizes_in is n (x ∷ xs) = size_in is n x.content ++ sizes_in is (if is_list x.content then n + 1 else n) xs

-- the first size that passes its limit is that of the refusal, and none does where there is none
abbrev pub TellsLarge : {T : Type 0} → List Size → Result T ListsFault → Type 0
TellsLarge ss (Ok x) = first_above ss ≡ None
TellsLarge ss (Err (TooLarge size)) = first_above ss ≡ Some (limited (2 ^ 24) size)
TellsLarge ss (Err Memory) = Unit {0}

-- a size that is too large is told where 64 bits tell it, and only else is it want of memory
abbrev pub IsLarge : ℕ → ListsFault → Type 0
IsLarge size (TooLarge told) = (told ≡ size) × (size < 2 ^ 64 - 1)
IsLarge size Memory = 2 ^ 64 - 1 ≤ size

-- ---- a new list

-- the chunk of a list in which only an edit has put items
abbrev pub fresh_list : List (Item (List ℕ)) → Chunk
fresh_list e = list_of (put_all info_items e []) []

-- a new list where an edit sets a value, and none where it sets none
abbrev pub IsNewList : List (Item (List ℕ)) → Option Content → Type 0
IsNewList e None = sets_some e ≡ false
IsNewList e (Some content) = (sets_some e ≡ true) × (content ≡ edited_as (fresh_list e ∷ []))

-- the length of a new list, where there is one
abbrev pub new_sizes : List (Item (List ℕ)) → List Size
new_sizes e = if sets_some e then limited (2 ^ 24) (length (fresh_list e).body) ∷ [] else []

-- ---- a row of cells

-- A list of INFO items is held by its items, and no other chunk as a list.
pub record HoldsLists (held : ℕ → Chunk → Content) : Type 0 where
  pub lists : (at : ℕ) (c : Chunk) → is_info c ≡ true → held at c ≡ Listed (list_in c)
  pub others : (at : ℕ) (c : Chunk) → is_list (held at c) ≡ is_info c

-- The row after an edit of lists: with all of it, or but for a new list, which stands behind the first chunk that meets a test.
abbrev pub Edits : (ℕ → Chunk → Content) → Test → ℕ → List (Item (List ℕ)) → List Cell → List CellAt → Option Content → Type 0
Edits held t from e xs row None = row ≡ told_row_by held from (edit_list_cells info info_items t e xs)
Edits held t from e xs row (Some content) =
    (row ≡ told_row_by held from xs) × (content ≡ edited_as (fresh_list e ∷ []))
    × (edit_list_cells info info_items t e xs ≡ insert_cell behind t (fresh_list e) xs)

-- ---- the lists of the model

-- the lengths of bodies, with the limit of a list's
abbrev pub lengths : List (List ℕ) → List Size
lengths bs = map (λ b. limited (2 ^ 24) (length b)) bs

-- each list has at most 16 MiB
abbrev pub SmallLists : List Chunk → Type 0
SmallLists cs = AllByRecursion (λ c. is_info c ≡ true → length c.body ≤ 2 ^ 24) cs
