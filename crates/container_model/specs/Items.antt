-- Items in a carrier: the values that they hold under a name, and what an edit makes of them.
use Rattle.std.specs.Prelude.{◌≡◌, List, [], ◌∷◌, ◌++◌, ℕ, map, Bool, true, false, ◌||◌, not, Option, Some, None, if◌then◌else◌}
use Rattle.std.specs.Str.{bytes_eq}
use Rattle.std.specs.List.{flat_map, AllByRecursion}
use Rattle.container_model.specs.Chunk.{Chunk, Run, ends}
use Rattle.container_model.specs.Deep.{Token, leaf, mark}

-- How a carrier's items tell their names and values, and how a new one is made. What is no item of a field holds nothing.
pub record Items (V : Type 0) : Type 0 where
  pub name_of : Chunk → List ℕ
  pub holds : Chunk → List V
  pub make : List ℕ → V → Chunk

-- a value that is set, or none where the field is removed
pub record Item (V : Type 0) : Type 0 where
  pub name : List ℕ
  pub value : Option V

-- no elements
abbrev pub is_nil : {V : Type 0} → List V → Bool
is_nil [] = true
is_nil (x ∷ xs) = false

-- the values of a name in an item, and in all
abbrev pub values_in : {V : Type 0} → Items V → List ℕ → Chunk → List V
values_in it name c = if bytes_eq name (it.name_of c) then it.holds c else []

-- the values of a name in all items, in order
abbrev pub values : {V : Type 0} → Items V → List ℕ → List Chunk → List V
values it name cs = flat_map (values_in it name) cs

-- whether an item holds a value of a name
abbrev pub hits : {V : Type 0} → Items V → List ℕ → Chunk → Bool
hits it name c = not (is_nil (values_in it name c))

-- whether one of some items does
abbrev pub has : {V : Type 0} → Items V → List ℕ → List Chunk → Bool
has it name [] = false
has it name (c ∷ cs) = hits it name c || has it name cs

-- the first item of a name is replaced, and the others are taken away
abbrev pub settled : {V : Type 0} → Items V → List ℕ → List Chunk → List Chunk → List Chunk
settled it name new [] = []
settled it name new (c ∷ cs) = if hits it name c then new ++ settled it name [] cs else c ∷ settled it name new cs

-- the items after one value is set, or all of a name are taken away; a new item stands last
abbrev pub put_value : {V : Type 0} → Items V → List ℕ → Option V → List Chunk → List Chunk
put_value it name None cs = settled it name [] cs
put_value it name (Some v) cs = if has it name cs then settled it name (it.make name v ∷ []) cs else cs ++ it.make name v ∷ []

-- the items after an edit
abbrev pub put_all : {V : Type 0} → Items V → List (Item V) → List Chunk → List Chunk
put_all it [] cs = cs
put_all it (i ∷ e) cs = put_all it e (put_value it i.name i.value cs)

-- ---- the values after an edit

-- a value, if there is one, as a list
abbrev pub listed : {V : Type 0} → Option V → List V
listed None = []
listed (Some v) = v ∷ []

-- the values of a name after an edit
abbrev pub updated : {V : Type 0} → List (Item V) → List ℕ → List V → List V
updated [] name vs = vs
updated (i ∷ e) name vs = updated e name (if bytes_eq name i.name then listed i.value else vs)

-- ---- where the items stand after an edit

-- a field is told by its name alone, any other item by all its bytes
abbrev pub item_token : {V : Type 0} → Items V → Chunk → Token
item_token it c = if is_nil (it.holds c) then leaf c.form c.id c.body else mark (it.name_of c)

-- whether a token tells a field of a name
abbrev pub is_mark : List ℕ → Token → Bool
is_mark name (mark m) = bytes_eq name m
is_mark name (Token.opened form id body) = false
is_mark name (Token.closed rest) = false
is_mark name (leaf form id body) = false

-- whether one of some tokens does
abbrev pub has_mark : List ℕ → List Token → Bool
has_mark name [] = false
has_mark name (t ∷ ts) = is_mark name t || has_mark name ts

-- the first field of a name is replaced, and the others are taken away
abbrev pub settled_marks : List ℕ → List Token → List Token → List Token
settled_marks name new [] = []
settled_marks name new (t ∷ ts) = if is_mark name t then new ++ settled_marks name [] ts else t ∷ settled_marks name new ts

-- the tokens after one value is set or taken away
abbrev pub put_mark : {V : Type 0} → List ℕ → Option V → List Token → List Token
put_mark name None ts = settled_marks name [] ts
put_mark name (Some v) ts = if has_mark name ts then settled_marks name (mark name ∷ []) ts else ts ++ mark name ∷ []

-- the tokens after an edit
abbrev pub put_marks : {V : Type 0} → List (Item V) → List Token → List Token
put_marks [] ts = ts
put_marks (i ∷ e) ts = put_marks e (put_mark i.name i.value ts)

-- ---- what is asked of an edit and of a carrier

-- what is made for an item holds its value under its name
abbrev pub IsMade : {V : Type 0} → Items V → List ℕ → Option V → Type 0
IsMade it name None = Unit {0}
IsMade it name (Some v) = (it.name_of (it.make name v) ≡ name) × (it.holds (it.make name v) ≡ v ∷ [])

-- the same of each item of an edit
abbrev pub AreMade : {V : Type 0} → Items V → List (Item V) → Type 0
AreMade it e = AllByRecursion (λ i. IsMade it i.name i.value) e

-- A carrier is read into items and a rest, and made of them; what is made is read as these again, where they are good.
pub record Carrier : Type 0 where
  pub is : Chunk → Bool
  pub opening : Chunk → Run
  pub closing : Chunk → List Chunk → List ℕ → Chunk
  pub fresh : List Chunk → Chunk

-- a carrier after an edit: opened, edited, closed with the rest that it had
abbrev pub edit_carrier : {V : Type 0} → Carrier → Items V → List (Item V) → Chunk → Chunk
edit_carrier k it e c = k.closing c (put_all it e (k.opening c).chunks) (k.opening c).left

-- items that hold the same values under each name, in the same order
abbrev pub SameItems : {V : Type 0} → Items V → List Chunk → List Chunk → Type 0
SameItems it xs ys = ((name : List ℕ) → values it name xs ≡ values it name ys) × (map (item_token it) xs ≡ map (item_token it) ys)

-- a chunk that is opened as these items, and a rest
pub record OpensAs {V : Type 0} (k : Carrier) (it : Items V) (c : Chunk) (items : List Chunk) (rest : List ℕ) : Type 0 where
  pub whole : (k.opening c).stop ≡ ends
  pub items_same : SameItems it (k.opening c).chunks items
  pub rest_same : (k.opening c).left ≡ rest

-- The one law of a carrier: edited, it is opened as its items with the edit and its rest; a fresh one as its items.
pub record Rereads {V : Type 0} (k : Carrier) (it : Items V) (Sets : List (Item V) → Type 0) (Ready : List (Item V) → Chunk → Type 0) (Small : List Chunk → Type 0) : Type 0 where
  pub sets_made : (e : List (Item V)) → Sets e → AreMade it e
  pub edited_again : (e : List (Item V)) (c : Chunk) → Sets e → Ready e c → OpensAs k it (edit_carrier k it e c) (put_all it e (k.opening c).chunks) (k.opening c).left
  pub fresh_again : (e : List (Item V)) → Sets e → Small (put_all it e []) → OpensAs k it (k.fresh (put_all it e [])) (put_all it e []) []
