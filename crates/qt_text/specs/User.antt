-- User items: texts with their languages (QuickTime File Format, user data).
use Rattle.std.specs.Prelude.{Bool, List, None, Option, Some, [], codes, drop, false, if◌then◌else◌, length, nat_lt, suc, take, true, zero, ℕ, ◌++◌, ◌+◌, ◌<◌, ◌^◌, ◌∷◌, ◌≡◌}
use Rattle.std.specs.Int.{from_be_bytes, to_be_bytes, w16}
use Rattle.part_tree.specs.Names.{is_user_type}
use Rattle.part_tree.specs.declared.field.Value.{Value}
use Rattle.container_model.specs.Chunk.{chunks, spell_all}
use Rattle.container_model.specs.Items.{Carrier, Items}
use Rattle.container_model.specs.Sizes.{atom_front, user}
use Rattle.container_model.specs.Atoms.{atom, is}

-- the length of the text at the front
abbrev pub text_size : List ℕ → ℕ
text_size b = from_be_bytes w16 (take 2 b)

-- and its language
abbrev pub text_language : List ℕ → ℕ
text_language b = from_be_bytes w16 (take 2 (drop 2 b))

-- a text before others
abbrev pub with_text : Value → Option (List Value) → Option (List Value)
with_text t None = None
with_text t (Some ts) = Some (t ∷ ts)

-- the text at the front, then the others; none where it passes the end
abbrev pub text_then : (List ℕ → Option (List Value)) → List ℕ → Bool → Option (List Value)
text_then again b true = None
text_then again b false = with_text (record { lang = text_language b; raw = take (text_size b) (drop 4 b) }) (again (drop (text_size b) (drop 4 b)))

-- texts that fill the bytes, at most so many
abbrev pub texts_in : ℕ → List ℕ → Option (List Value)
texts_in k [] = Some []
texts_in zero (x ∷ b) = None
texts_in (suc k) (x ∷ b) = text_then (texts_in k) (x ∷ b) (nat_lt (length (x ∷ b)) (4 + text_size (x ∷ b)))

-- the texts, or none
abbrev pub found : Option (List Value) → List Value
found None = []
found (Some ts) = ts

-- the texts that fill a body
abbrev pub texts : List ℕ → List Value
texts b = found (texts_in (length b) b)

-- a text as it is written: its length, its language and its bytes
abbrev pub text_bytes : Value → List ℕ
text_bytes t = to_be_bytes w16 (length t.raw) ++ (to_be_bytes w16 t.lang ++ t.raw)

-- a text whose length and language fit their two bytes
abbrev pub TextFits : Value → Type 0
TextFits t = (t.lang < 2 ^ 16) × (length t.raw < 2 ^ 16)

-- what can be set: a type of user items, and a text with a language, both of which fit their two bytes
abbrev pub IsUserValue : List ℕ → Option Value → Type 0
IsUserValue name None = Unit {0}
IsUserValue name (Some t) = (is_user_type name ≡ true) × (t.lang < 2 ^ 16) × (length t.raw < 2 ^ 16)

-- A user item's body is one or more texts; another child holds nothing.
abbrev pub user_items : Items Value
user_items = record {
  name_of = λ c. c.id;
  holds = λ c. if is_user_type c.id then texts c.body else [];
  make = λ name t. atom name (text_bytes t);
}

-- User data keeps its header form, and its items and rest are read in it.
abbrev pub udta : Carrier
udta = record {
  is = λ c. is c (codes "udta");
  opening = λ c. chunks atom_front user c.body;
  closing = λ c items rest. record c { body = spell_all items ++ rest };
  fresh = λ items. atom (codes "udta") (spell_all items);
}
