-- The items of user data as a planner holds them, and an edit of them.
use Rattle.std.specs.Prelude.{◌≡◌, ◌≤◌, ◌<◌, ◌^◌, ◌++◌, ℕ, List, [], length, map, not, Bool, Result}
use Rattle.std.specs.declared.result.Result.TheVariants.{Ok, Err}
use Rattle.part_tree.specs.declared.field.Value.{Value}
use Rattle.container_model.specs.Chunk.{Chunk, Run, chunks, spell_all}
use Rattle.container_model.specs.Items.{Item, is_nil, put_all}
use Rattle.container_model.specs.Sizes.{atom_front, user}
use Rattle.qt_atoms.specs.Walk.{form_of}
use Rattle.qt_text.specs.User.{IsUserValue, texts, user_items}
use Rattle.mov_plan.specs.declared.user.UserBody.{UserBody}
use Rattle.mov_plan.specs.declared.user.UserChange.{UserChange}
use Rattle.mov_plan.specs.declared.user.UserFault.{UserFault}
use Rattle.mov_plan.specs.declared.user.UserFault.TheVariants.{TooLarge, Memory}
use Rattle.mov_plan.specs.declared.user.UserItem.{UserItem}

-- the atom that an item is
abbrev pub chunk_of : UserItem → Chunk
chunk_of i = record { form = form_of i.form; id = i.kind.0; body = i.body; pad = [] }

-- what is read of a body
abbrev pub opened : List ℕ → Run
opened body = chunks atom_front user body

-- whether a body is texts
abbrev pub has_texts : List ℕ → Bool
has_texts body = not (is_nil (texts body))

-- the item of an edit that a change is
abbrev pub change_of : UserChange → Item Value
change_of c = record { name = c.kind.0; value = c.value }

-- the edit that some changes are, in order
abbrev pub changes_of : List UserChange → List (Item Value)
changes_of changes = map change_of changes

-- a type of user items, and a text of which the language and the length fit two bytes
abbrev pub CanSet : UserChange → Type 0
CanSet c = IsUserValue c.kind.0 c.value

-- the atoms of a body after an edit
abbrev pub edited_items : List (Item Value) → List ℕ → List Chunk
edited_items e body = put_all user_items e (opened body).chunks

-- the whole body after it
abbrev pub edited_body : List (Item Value) → List ℕ → List ℕ
edited_body e body = spell_all (edited_items e body) ++ (opened body).left

-- The edited body with the number of its atoms, or how large it is where that is more than 16 MiB.
abbrev pub IsEdited : List (Item Value) → List ℕ → Result UserBody UserFault → Type 0
IsEdited e body (Ok u) = (u.bytes ≡ edited_body e body) × (u.items ≡ length (edited_items e body)) × (length u.bytes ≤ 2 ^ 24)
IsEdited e body (Err (TooLarge size)) = (size ≡ length (edited_body e body)) × (2 ^ 24 < size)
IsEdited e body (Err Memory) = Unit {0}
