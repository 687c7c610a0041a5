-- What an edit does to the carriers among the atoms of moov, step by step: the first one is edited, or a new one stands behind the last atom that is no padding (this project's own).
use Rattle.std.specs.List.{list_any}
use Rattle.std.specs.Prelude.{Bool, List, None, Option, Some, [], false, suc, true, zero, ℕ, ◌∷◌}
use Rattle.part_tree.specs.declared.field.Value.{Value}
use Rattle.container_model.specs.Chunk.{Chunk}
use Rattle.container_model.specs.Items.{Carrier, Item, edit_carrier, put_all}
use Rattle.carrier_model.specs.Cells.{Act, Change, add, become, behind, change, leave, never, nothing}
use Rattle.carrier_model.specs.Steps.{Step}
use Rattle.mov_model.specs.Keys.{edit_meta, is_meta, new_meta}
use Rattle.qt_text.specs.User.{udta, user_items}

-- The items of an edit that have an effect: those of the user data, and those of the key table.
pub record Changes : Type 0 where
  pub users : List (Item Value)
  pub keys : List (Item (List ℕ))

-- the first of some chunks becomes another, and the others stay
abbrev pub first_becomes : (Chunk → Chunk) → ℕ → Chunk → Change
first_becomes g zero c = become (g c ∷ [])
first_becomes g (suc n) c = leave

-- a new chunk behind the last one that is no padding, if there is a new one
abbrev pub add_last : Option Chunk → Act
add_last None = nothing
add_last (Some c) = add behind never c

-- by whether a carrier is there
abbrev pub carry_by : (Chunk → Bool) → (Chunk → Chunk) → Option Chunk → Bool → Act
carry_by is g new true = change is (first_becomes g)
carry_by is g new false = add_last new

-- The first carrier is edited; where there is none, a new one is put last.
abbrev pub carry : (Chunk → Bool) → (Chunk → Chunk) → Option Chunk → Step
carry is g new cs = carry_by is g new (list_any is cs)

-- a new carrier with items, if there are some
abbrev pub fresh : Carrier → List Chunk → Option Chunk
fresh k [] = None
fresh k (c ∷ cs) = Some (k.fresh (c ∷ cs))

-- the edit of the user data; without an item it does nothing
abbrev pub user_step : List (Item Value) → Step
user_step [] = λ cs. nothing
user_step (i ∷ e) = carry (λ c. udta.is c) (edit_carrier udta user_items (i ∷ e)) (fresh udta (put_all user_items (i ∷ e) []))

-- and that of the key table
abbrev pub key_step : List (Item (List ℕ)) → Step
key_step [] = λ cs. nothing
key_step (i ∷ e) = carry is_meta (edit_meta (i ∷ e)) (new_meta (i ∷ e))

-- first the user data, then the key table
abbrev pub steps : Changes → List Step
steps e = user_step e.users ∷ (key_step e.keys ∷ [])
