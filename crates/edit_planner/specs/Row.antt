-- Changes of a row of cells: some cells edited where they stand, and a new one put among them.
use Rattle.std.specs.Prelude.{ℕ, zero, suc, ◌+◌, ◌==◌, List, [], ◌∷◌, Bool, true, false, ◌&&◌, ◌||◌, codes, if◌then◌else◌, Option, Some, None}
use Rattle.std.specs.Str.{bytes_eq}
use Rattle.part_tree.specs.declared.part.Role.{Role}
use Rattle.part_tree.specs.declared.part.Role.TheVariants.{Whole}
use Rattle.part_tree.specs.declared.field.Value.{Value}
use Rattle.field_model.specs.Body.{edited_bext}
use Rattle.field_model.specs.Update.{RawItem}
use Rattle.container_model.specs.Chunk.{Chunk}
use Rattle.carrier_model.specs.Info.{made}
use Rattle.edit_planner.specs.declared.cells.CellAt.{CellAt}
use Rattle.edit_planner.specs.declared.cells.Content.{Content}
use Rattle.edit_planner.specs.declared.cells.Content.TheVariants.{Kept, Body, Listed, Gap, Edited}
use Rattle.edit_planner.specs.Cells.{edited_as}

-- ---- what a cell holds

-- padding
abbrev pub is_gap : Content → Bool
is_gap Gap = true
is_gap (Kept id role) = false
is_gap (Body body) = false
is_gap (Listed list) = false
is_gap (Edited now parts) = false

-- `bext`
abbrev pub is_body : Content → Bool
is_body (Body body) = true
is_body Gap = false
is_body (Kept id role) = false
is_body (Listed list) = false
is_body (Edited now parts) = false

-- a list of INFO items
abbrev pub is_list : Content → Bool
is_list (Listed list) = true
is_list Gap = false
is_list (Kept id role) = false
is_list (Body body) = false
is_list (Edited now parts) = false

-- a role of a chunk that is a field as a whole
abbrev pub is_field : Role → Bool
is_field Whole = true
is_field _ = false

-- a chunk that is the field of an identifier as a whole
abbrev pub is_whole : List ℕ → Content → Bool
is_whole w (Kept id role) = is_field role && bytes_eq w id.0
is_whole w Gap = false
is_whole w (Body body) = false
is_whole w (Listed list) = false
is_whole w (Edited now parts) = false

-- `fmt `
abbrev pub is_format : Content → Bool
is_format (Kept id role) = bytes_eq id.0 (codes "fmt ")
is_format Gap = false
is_format (Body body) = false
is_format (Listed list) = false
is_format (Edited now parts) = false

-- padding alone
abbrev pub all_gaps : List CellAt → Bool
all_gaps [] = true
all_gaps (x ∷ xs) = is_gap x.content && all_gaps xs

-- ---- cells that change where they stand

-- the cells that meet a test are counted, and each of them changes by its number
abbrev pub changed_row : (Content → Bool) → (ℕ → CellAt → CellAt) → ℕ → List CellAt → List CellAt
changed_row q g n [] = []
changed_row q g n (x ∷ xs) = if q x.content then g n x ∷ changed_row q g (n + 1) xs else x ∷ changed_row q g n xs

-- how many meet it
abbrev pub count_row : (Content → Bool) → List CellAt → ℕ
count_row q [] = 0
count_row q (x ∷ xs) = if q x.content then count_row q xs + 1 else count_row q xs

-- these chunks are to stand in a cell
abbrev pub edited_at : CellAt → List Chunk → CellAt
edited_at x now = record { at = x.at; next = x.next; lacks_pad = false; content = edited_as now }

-- ---- a new cell

-- a cell where nothing stood
abbrev pub new_at : Content → ℕ → CellAt
new_at content at = record { at = at; next = at; lacks_pad = false; content = content }

-- whether a new cell goes before this one: it is `fmt `, where it is to stand before that, or only padding stands from
-- here on
abbrev pub stops : Bool → CellAt → List CellAt → Bool
stops before_format x xs = (before_format && is_format x.content) || (is_gap x.content && all_gaps xs)

-- A new cell goes before `fmt `, where it is to, and else behind all but padding.
abbrev pub put_new : Bool → (ℕ → CellAt) → ℕ → List CellAt → List CellAt
put_new before_format new from [] = new from ∷ []
put_new before_format new from (x ∷ xs) =
    if stops before_format x xs then new from ∷ (x ∷ xs) else x ∷ put_new before_format new x.next xs

-- its number in the row
abbrev pub place_for : Bool → List CellAt → ℕ
place_for before_format [] = 0
place_for before_format (x ∷ xs) = if stops before_format x xs then 0 else place_for before_format xs + 1

-- the same as a loop counts it: by the number of the cell and of the one behind the last that is no padding
abbrev pub place_from : Bool → ℕ → ℕ → List CellAt → ℕ
place_from before_format k last [] = last
place_from before_format k last (x ∷ xs) =
    if before_format && is_format x.content then k
    else place_from before_format (k + 1) (if is_gap x.content then last else k + 1) xs

-- where the k-th cell begins, in a row from a place on
abbrev pub starts_at : ℕ → ℕ → List CellAt → ℕ
starts_at from zero xs = from
starts_at from (suc k) [] = from
starts_at from (suc k) (x ∷ xs) = starts_at x.next k xs

-- a new cell directly behind that of a number
abbrev pub put_after : (ℕ → CellAt) → ℕ → List CellAt → List CellAt
put_after new k [] = []
put_after new zero (x ∷ xs) = x ∷ new x.next ∷ xs
put_after new (suc k) (x ∷ xs) = x ∷ put_after new k xs

-- a row of which the chunk in the cell of a number lacks its pad, or doesn't
abbrev pub with_pad : Bool → ℕ → List CellAt → List CellAt
with_pad lacks k [] = []
with_pad lacks zero (x ∷ xs) = record x { lacks_pad = lacks } ∷ xs
with_pad lacks (suc k) (x ∷ xs) = x ∷ with_pad lacks k xs

-- ---- chunks that are fields as a whole

-- the chunk of a value, if there is one
abbrev pub new_whole : List ℕ → Option Value → List Chunk
new_whole w None = []
new_whole w (Some v) = made w v.raw ∷ []

-- the first one is replaced, and the others are taken away
abbrev pub first_new : List Chunk → ℕ → List Chunk
first_new new n = if n == 0 then new else []

-- ---- `bext`

-- the body that a cell holds
abbrev pub body_of : Content → List ℕ
body_of (Body body) = body
body_of Gap = []
body_of (Kept id role) = []
body_of (Listed list) = []
body_of (Edited now parts) = []

-- the chunk with an edit
abbrev pub body_edited : List RawItem → CellAt → CellAt
body_edited e x = edited_at x (made (codes "bext") (edited_bext e (body_of x.content)) ∷ [])
