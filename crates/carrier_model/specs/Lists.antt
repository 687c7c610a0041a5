-- Several carriers of items in one list of chunks, each opened once for the whole edit.
use Rattle.std.specs.Prelude.{◌≡◌, ℕ, suc, ◌==◌, List, [], ◌∷◌, ◌++◌, map, Bool, true, false, ◌||◌, Some, None, if◌then◌else◌}
use Rattle.std.specs.List.{flat_map}
use Rattle.container_model.specs.Chunk.{Form, Chunk}
use Rattle.container_model.specs.Units.{Cell, live}
use Rattle.container_model.specs.Deep.{Token}
use Rattle.container_model.specs.Items.{Items, Item, values, item_token, has_mark, put_all, put_marks, Carrier, edit_carrier}
use Rattle.carrier_model.specs.Cells.{Change, leave, become, counted, Test, Side, behind, Act, nothing, change, add, acted, acted_cells}

-- ---- values

-- the values of a name in a chunk that is a carrier
abbrev pub values_held : {V : Type 0} → Carrier → Items V → List ℕ → Chunk → List V
values_held k it name c = if k.is c then values it name (k.opening c).chunks else []

-- the values of a name in all carriers
abbrev pub list_values : {V : Type 0} → Carrier → Items V → List ℕ → List Chunk → List V
list_values k it name cs = flat_map (values_held k it name) cs

-- ---- where a name is at home

-- the items of a carrier, as they stand
abbrev pub items_of : {V : Type 0} → Carrier → Items V → Chunk → List Token
items_of k it c = map (item_token it) (k.opening c).chunks

-- the items of each carrier
abbrev pub all_items : {V : Type 0} → Carrier → Items V → List Chunk → List (List Token)
all_items k it [] = []
all_items k it (c ∷ cs) = if k.is c then items_of k it c ∷ all_items k it cs else all_items k it cs

-- whether some carrier has an item of a name
abbrev pub some_hold : List ℕ → List (List Token) → Bool
some_hold name [] = false
some_hold name (ts ∷ tss) = has_mark name ts || some_hold name tss

-- the number of the first one that has
abbrev pub first_holder : List ℕ → List (List Token) → ℕ
first_holder name [] = 0
first_holder name (ts ∷ tss) = if has_mark name ts then 0 else suc (first_holder name tss)

-- The number of the first carrier that has an item of a name, or of the first carrier where none has.
abbrev pub home : List (List Token) → List ℕ → ℕ
home tss name = if some_hold name tss then first_holder name tss else 0

-- An item is set in the carrier where its name is at home, and taken away from every other one.
abbrev pub part_of : {V : Type 0} → (List ℕ → ℕ) → ℕ → List (Item V) → List (Item V)
part_of h n [] = []
part_of h n (i ∷ e) = record { name = i.name; value = if h i.name == n then i.value else None } ∷ part_of h n e

-- A carrier is edited where an item's name is in it or at home there.
abbrev pub concerns : {V : Type 0} → (List ℕ → ℕ) → ℕ → List Token → List (Item V) → Bool
concerns h n ts [] = false
concerns h n ts (i ∷ e) = (has_mark i.name ts || (h i.name == n)) || concerns h n ts e

-- ---- the edit of the chunks

-- the n-th carrier is edited where the edit concerns it
abbrev pub edit_nth : {V : Type 0} → Carrier → Items V → (List ℕ → ℕ) → List (Item V) → ℕ → Chunk → Change
edit_nth k it h e n c = if concerns h n (items_of k it c) e then become (edit_carrier k it (part_of h n e) c ∷ []) else leave

-- whether some chunk is a carrier
abbrev pub has_carrier : Carrier → List Chunk → Bool
has_carrier k [] = false
has_carrier k (c ∷ cs) = k.is c || has_carrier k cs

-- whether an edit sets a value
abbrev pub sets_some : {V : Type 0} → List (Item V) → Bool
sets_some [] = false
sets_some (i ∷ e) = elim i.value [ None ↦ sets_some e | Some v ↦ true ]

-- The carriers that are there are edited; where there is none, a new one holds what is set.
abbrev pub new_carrier : {V : Type 0} → Carrier → Items V → Test → List (Item V) → Bool → Act
new_carrier k it t e false = nothing
new_carrier k it t e true = add behind t (k.fresh (put_all it e []))

-- the edit, by whether there is a carrier
abbrev pub lists_act_by : {V : Type 0} → Carrier → Items V → Test → List (Item V) → List Chunk → Bool → Act
lists_act_by k it t e cs false = new_carrier k it t e (sets_some e)
lists_act_by k it t e cs true = change k.is (edit_nth k it (home (all_items k it cs)) e)

-- the edit of some chunks
abbrev pub lists_act : {V : Type 0} → Carrier → Items V → Test → List (Item V) → List Chunk → Act
lists_act k it t e cs = lists_act_by k it t e cs (has_carrier k cs)

-- the chunks after it
abbrev pub edit_lists : {V : Type 0} → Carrier → Items V → Test → List (Item V) → List Chunk → List Chunk
edit_lists k it t e cs = acted (lists_act k it t e cs) cs

-- the cells after it
abbrev pub edit_list_cells : {V : Type 0} → Carrier → Items V → Test → List (Item V) → List Cell → List Cell
edit_list_cells k it t e xs = acted_cells (lists_act k it t e (flat_map live xs)) xs

-- ---- nodes: a carrier with its items and its rest, the bare mark of a chunk that is a field, or another chunk

-- A carrier is told by its items and its rest, a field by its identifier, and any other chunk by all its bytes.
pub data Node : Type 0 where
  list : List Token → List ℕ → Node
  sign : List ℕ → Node
  other : Form → List ℕ → List ℕ → Node

-- the nodes of a chunk, where those of chunks that are no carriers are told
abbrev pub nodes_in : {V : Type 0} → Carrier → Items V → (Chunk → List Node) → Chunk → List Node
nodes_in k it more c = if k.is c then list (items_of k it c) (k.opening c).left ∷ [] else more c

-- ---- where nodes stand after an edit

-- the items of each carrier among nodes
abbrev pub node_items : List Node → List (List Token)
node_items [] = []
node_items (list ts rest ∷ k) = ts ∷ node_items k
node_items (sign id ∷ k) = node_items k
node_items (other form id body ∷ k) = node_items k

-- whether some node is a carrier
abbrev pub has_list : List Node → Bool
has_list [] = false
has_list (list ts rest ∷ k) = true
has_list (sign id ∷ k) = has_list k
has_list (other form id body ∷ k) = has_list k

-- the items of each carrier after an edit, by its number
abbrev pub place_nth : {V : Type 0} → (List ℕ → ℕ) → List (Item V) → ℕ → List Node → List Node
place_nth h e n [] = []
place_nth h e n (list ts rest ∷ k) = list (put_marks (part_of h n e) ts) rest ∷ place_nth h e (suc n) k
place_nth h e n (sign id ∷ k) = sign id ∷ place_nth h e n k
place_nth h e n (other form id body ∷ k) = other form id body ∷ place_nth h e n k

-- whether a chunk that is told by its bytes meets a test
abbrev pub node_meets : Test → Node → Bool
node_meets t (list ts rest) = false
node_meets t (sign id) = false
node_meets t (other form id body) = t id body

-- a node put among others
abbrev pub insert_node : Side → Test → Node → List Node → List Node
insert_node s t x [] = x ∷ []
insert_node s t x (y ∷ k) = if node_meets t y then Rattle.carrier_model.specs.Cells.beside s x y ++ k else y ∷ insert_node s t x k

-- a new carrier stands where an item is set
abbrev pub place_new : {V : Type 0} → Test → List (Item V) → List Node → Bool → List Node
place_new t e k false = k
place_new t e k true = insert_node behind t (list (put_marks e []) []) k

-- the nodes after an edit, by whether there is a carrier
abbrev pub place_by : {V : Type 0} → Test → List (Item V) → List Node → Bool → List Node
place_by t e k false = place_new t e k (sets_some e)
place_by t e k true = place_nth (home (node_items k)) e 0 k

-- the nodes after an edit of carriers
abbrev pub place_lists : {V : Type 0} → Test → List (Item V) → List Node → List Node
place_lists t e k = place_by t e k (has_list k)

-- ---- what is asked of the chunks

-- each carrier that is edited is ready for its part of the edit
abbrev pub ReadyFrom : {V : Type 0} → Carrier → Items V → (List (Item V) → Chunk → Type 0) → (List ℕ → ℕ) → List (Item V) → ℕ → List Chunk → Type 0
ReadyFrom k it Ready h e n [] = Unit {0}
ReadyFrom k it Ready h e n (c ∷ cs) = (k.is c ≡ true → concerns h n (items_of k it c) e ≡ true → Ready (part_of h n e) c) × ReadyFrom k it Ready h e (counted k.is n c) cs

-- and a new one is small
abbrev pub ActReady : {V : Type 0} → Carrier → Items V → (List (Item V) → Chunk → Type 0) → (List Chunk → Type 0) → List (Item V) → List Chunk → Type 0
ActReady k it Ready Small e cs =
    (has_carrier k cs ≡ true → ReadyFrom k it Ready (home (all_items k it cs)) e 0 cs) × (has_carrier k cs ≡ false → sets_some e ≡ true → Small (put_all it e []))
