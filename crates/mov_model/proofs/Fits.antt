-- What is asked of the items of an edit, what fits, and what is to be shown of them.
use Rattle.std.proofs.Common.{List, [], false, length, ℕ, ◌^◌, ◌≡◌, ◌≤◌}
use Rattle.std.specs.Prelude.{IfSome}
use Rattle.std.specs.List.{AllByRecursion, list_any}
use Rattle.part_tree.specs.declared.field.Value.{Value}
use Rattle.container_model.specs.Chunk.{Chunk, spell}
use Rattle.container_model.specs.Items.{Item, edit_carrier, put_all, updated, values}
use Rattle.container_model.specs.Splice.{shift}
use Rattle.mov_model.specs.Carried.{Changes, fresh}
use Rattle.mov_model.specs.Keys.{edit_meta, first_table, is_meta, new_meta}
use Rattle.mov_model.specs.Kept.{kept, placed}
use Rattle.mov_model.specs.Movie.{Movie, movie_of}
use Rattle.mov_model.specs.New.{edit_cuts, new_movie}
use Rattle.mov_model.specs.Parts.{first_items, first_of, parts, tracks}
use Rattle.mov_model.specs.Pieces.{pieces}
use Rattle.mov_model.specs.Reading.{count_parts}
use Rattle.mov_model.specs.Support.{Supported}
use Rattle.mov_model.specs.Tables.{tables}
use Rattle.mov_model.proofs.Cells.{is_user}
use Rattle.qt_keys.specs.Set.{IsKeyValue, key_values}
use Rattle.sample_tables.specs.Tables.{FitsRows}
use Rattle.qt_text.specs.User.{IsUserValue, udta, user_items}

-- the values of a type of user items
abbrev pub user_values : List ℕ → List ℕ → List Value
user_values b name = values user_items name (first_items (parts (movie_of b)))

-- the values of a key
abbrev pub values_of_key : List ℕ → List ℕ → List (List ℕ)
values_of_key b name = key_values name (first_table (parts (movie_of b)))

-- the new file is the old one edited by items
pub record EditedBy (o : List ℕ) (e : Changes) (n : List ℕ) : Type 0 where
  pub supported : Supported n
  pub users_back : (name : List ℕ) → user_values n name ≡ updated e.users name (user_values o name)
  pub keys_back : (name : List ℕ) → values_of_key n name ≡ updated e.keys name (values_of_key o name)
  pub kept_in_order : kept n ≡ placed (kept o) e
  pub same_pieces : pieces n ≡ pieces o

-- types of user items, with texts and languages that fit
abbrev pub UserItems : List (Item Value) → Type 0
UserItems e = AllByRecursion (λ i. IsUserValue i.name i.value) e

-- values of keys, with a type and a locale
abbrev pub KeyItems : List (Item (List ℕ)) → Type 0
KeyItems e = AllByRecursion (λ i. IsKeyValue i.value) e

-- what can be set
pub record CanSet (e : Changes) : Type 0 where
  pub users : UserItems e.users
  pub keys : KeyItems e.keys

-- a body of at most 16 MiB
abbrev pub SmallBody : Chunk → Type 0
SmallBody c = length c.body ≤ 2 ^ 24

-- The carriers are small, edited or new.
pub record SmallCarriers (m : Movie) (e : Changes) : Type 0 where
  pub user_small : AllByRecursion (λ c. SmallBody (edit_carrier udta user_items e.users c)) (first_of is_user (parts m))
  pub fresh_small : list_any is_user (parts m) ≡ false → IfSome (fresh udta (put_all user_items e.users [])) SmallBody
  pub keys_small : AllByRecursion (λ c. SmallBody (edit_meta e.keys c)) (first_of is_meta (parts m))
  pub new_keys_small : list_any is_meta (parts m) ≡ false → IfSome (new_meta e.keys) SmallBody

-- Nothing is too large.
pub record Fits (m : Movie) (e : Changes) : Type 0 where
  pub user_small : AllByRecursion (λ c. SmallBody (edit_carrier udta user_items e.users c)) (first_of is_user (parts m))
  pub fresh_small : list_any is_user (parts m) ≡ false → IfSome (fresh udta (put_all user_items e.users [])) SmallBody
  pub keys_small : AllByRecursion (λ c. SmallBody (edit_meta e.keys c)) (first_of is_meta (parts m))
  pub new_keys_small : list_any is_meta (parts m) ≡ false → IfSome (new_meta e.keys) SmallBody
  pub movie_small : length (spell (new_movie m e).movie) ≤ 2 ^ 26
  pub rows : AllByRecursion (λ t. AllByRecursion (FitsRows (shift (edit_cuts m e))) (tables t)) (tracks m)
  pub few_parts : count_parts (new_movie m e) ≤ 65536

pub small_carriers : (m : Movie) (e : Changes) → Fits m e → SmallCarriers m e
small_carriers m e f = record { user_small = f.user_small; fresh_small = f.fresh_small; keys_small = f.keys_small; new_keys_small = f.new_keys_small }
