-- What an edit keeps of a movie, in order, and where it puts the items of the user data and the keys (this project's own).
use Rattle.std.specs.Prelude.{Bool, List, [], false, if◌then◌else◌, map, not, true, ℕ, ◌&&◌, ◌||◌, ◌∷◌}
use Rattle.part_tree.specs.declared.field.Value.{Value}
use Rattle.container_model.specs.Chunk.{Chunk, Form, short}
use Rattle.container_model.specs.Deep.{Token, leaf, tokens}
use Rattle.container_model.specs.Items.{Item, item_token, put_marks}
use Rattle.sample_tables.specs.Tables.{look_table}
use Rattle.container_model.specs.Units.{solids}
use Rattle.mov_model.specs.Atoms.{Place, format, is_padding, moov, stbl}
use Rattle.container_model.specs.Atoms.{atoms_in}
use Rattle.carrier_model.specs.Lists.{sets_some}
use Rattle.mov_model.specs.Carried.{Changes}
use Rattle.mov_model.specs.Keys.{bare, is_meta, new_table, table_in, with_keys}
use Rattle.qt_keys.specs.declared.table.KeyTable.{KeyTable}
use Rattle.mov_model.specs.Movie.{Movie, movie_of}
use Rattle.mov_model.specs.Parts.{parts}
use Rattle.qt_text.specs.User.{udta, user_items}

-- an atom of moov, the user data with its items and its rest, or the key table without the values of fields
pub data Node : Type 0 where
  other : List Token → Node
  user : Form → List Token → List ℕ → Node
  keyed : Form → KeyTable → Node

-- what is looked at in a leaf: tables stand in stbl
abbrev pub look : Place → Chunk → List ℕ
look stbl c = look_table c
look p c = c.body

-- an atom of moov with all that is in it
abbrev pub plain_node : Chunk → Node
plain_node c = other (tokens format look 5 moov c)

-- the user data: marks of its items, its other children, and its rest
abbrev pub user_node : Chunk → Node
user_node c = user c.form (map (item_token user_items) (udta.opening c).chunks) (udta.opening c).left

-- an opened `meta`: its children and entries, its items by their indexes
abbrev pub key_node : Chunk → Node
key_node c = keyed c.form (bare (table_in c))

-- an atom that is opened as user data, as a key table, or as neither
abbrev pub node_by : Bool → Bool → Chunk → Node
node_by true keys c = user_node c
node_by false true c = key_node c
node_by false false c = plain_node c

-- the atoms of moov, where user data and a key table came before or didn't
abbrev pub nodes_from : Bool → Bool → List Chunk → List Node
nodes_from users keys [] = []
nodes_from users keys (c ∷ cs) = node_by (not users && udta.is c) (not keys && is_meta c) c ∷ nodes_from (users || udta.is c) (keys || is_meta c) cs

-- the atoms of moov, of which the first user data and the first key table are opened
abbrev pub nodes : List Chunk → List Node
nodes cs = nodes_from false false cs

-- an atom of the file
abbrev pub leaf_of : Chunk → Token
leaf_of c = leaf c.form c.id c.body

-- What is kept, padding apart: the atoms before moov, its header form, its atoms and its rest, the atoms behind it, and the tail.
pub record Kept : Type 0 where
  pub before : List Token
  pub form : Form
  pub inside : List Node
  pub rest : List ℕ
  pub behind : List Token
  pub tail : List ℕ

-- what is kept of a movie
abbrev pub kept_in : Movie → Kept
kept_in m = record {
  before = map leaf_of (solids is_padding m.before);
  form = m.movie.form;
  inside = nodes (parts m);
  rest = (atoms_in m.movie).left;
  behind = map leaf_of (solids is_padding m.behind);
  tail = m.left;
}

-- the items' marks in the user data; where there is none, in a new one behind all
abbrev pub new_user : List Token → List Node
new_user [] = []
new_user (t ∷ ts) = user short (t ∷ ts) [] ∷ []

-- the items of an edit are put among the items of the user data
abbrev pub placed_users : List (Item Value) → List Node → List Node
placed_users e [] = new_user (put_marks e [])
placed_users e (other ts ∷ ns) = other ts ∷ placed_users e ns
placed_users e (keyed form t ∷ ns) = keyed form t ∷ placed_users e ns
placed_users e (user form ts rest ∷ ns) = user form (put_marks e ts) rest ∷ ns

-- A key that is set has its item where it was, or last; an entry that wasn't there stands last. Where there is no key table a new
-- one holds what is set.
abbrev pub placed_keys : List (Item (List ℕ)) → List Node → List Node
placed_keys e [] = if sets_some e then keyed short (bare (with_keys e new_table)) ∷ [] else []
placed_keys e (other ts ∷ ns) = other ts ∷ placed_keys e ns
placed_keys e (user form ts rest ∷ ns) = user form ts rest ∷ placed_keys e ns
placed_keys e (keyed form t ∷ ns) = keyed form (bare (with_keys e t)) ∷ ns

-- what is kept, after an edit
abbrev pub placed : Kept → Changes → Kept
placed k e = record k { inside = placed_keys e.keys (placed_users e.users k.inside) }

-- what is kept of a file
abbrev pub kept : List ℕ → Kept
kept b = kept_in (movie_of b)
