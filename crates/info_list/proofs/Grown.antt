-- The fields of a map, as it grows by the items of a list.
use Rattle.std.proofs.Common.{◌≡◌, ◌∙◌, ℕ, ◌+◌, ◌<◌, ◌≤◌, Bool, true, false, List, [], ◌∷◌, ◌++◌, length, map, drop, get_or, refl, sym, ap, subst, append_assoc}
use Rattle.std.specs.Prelude.{if◌then◌else◌, Result, OnOk}
use Rattle.std.specs.declared.result.Result.TheVariants.{Ok, Err}
use Rattle.std.specs.Str.{bytes_eq}
use Rattle.std.specs.List.{flat_map}
use Rattle.std.proofs.lemmas.List.{append-nil, map-append, at_drop_more, at_drop_all}
use Rattle.part_tree.specs.declared.field.FieldName.{FieldName}
use Rattle.part_tree.specs.declared.field.FieldName.TheVariants.{Info}
use Rattle.part_tree.specs.declared.field.Value.{Value}
use Rattle.part_tree.specs.declared.fields.Entry.{Entry}
use Rattle.part_tree.specs.Fields.{values, Adds}
use Rattle.part_tree.specs.Names.{same_name, info_ids}
use Rattle.part_tree.proofs.Places.{bytes_refl, bytes_same, same_is_equal}
use Rattle.container_model.specs.Chunk.{Chunk}
use Rattle.container_model.specs.Items.{values_in}
use Rattle.container_model.specs.Items as items
use Rattle.carrier_model.specs.Info.{info_items, one_of}
use Rattle.field_model.specs.Fields.{FieldMap, plain}
use Rattle.info_list.specs.declared.InfoItem.{InfoItem}
use Rattle.info_list.specs.Info.{item_of}
use Rattle.info_list.specs.Fields.{Grows, infos_alone, item_value, items_held}

-- ---- what grows

pub grown_on : (a b c : List Entry) (f g h : FieldMap) → Grows a b f → Grows b c g → ((n : FieldName) → f n ++ g n ≡ h n) → Grows a c h
grown_on a b c f g h x y e n = y n ∙ ap (λ (vs : List Value). vs ++ g n) (x n) ∙ append_assoc (values a n) (f n) (g n) ∙ ap (λ (vs : List Value). values a n ++ vs) (e n)

pub grown_as : (a b : List Entry) (f g : FieldMap) → Grows a b f → ((n : FieldName) → f n ≡ g n) → Grows a b g
grown_as a b f g x e n = x n ∙ ap (λ (vs : List Value). values a n ++ vs) (e n)

pub not_grown : (a : List Entry) (f : FieldMap) → ((n : FieldName) → f n ≡ []) → Grows a a f
not_grown a f e n = sym (append-nil (values a n)) ∙ ap (λ (vs : List Value). values a n ++ vs) (sym (e n))

-- the values that are there and those that are left are the whole
abbrev pub FieldsLeft : List Entry → List Entry → FieldMap → FieldMap → Type 0
FieldsLeft now old rest whole = (n : FieldName) → values now n ++ rest n ≡ values old n ++ whole n

pub fields_next : (old now new : List Entry) (rest later one whole : FieldMap) → Grows now new one → ((n : FieldName) → rest n ≡ one n ++ later n) → FieldsLeft now old rest whole → FieldsLeft new old later whole
fields_next old now new rest later one whole grown split left n =
    ap (λ (vs : List Value). vs ++ later n) (grown n) ∙ append_assoc (values now n) (one n) (later n) ∙ ap (λ (vs : List Value). values now n ++ vs) (sym (split n)) ∙ left n

pub fields_end : (old now : List Entry) (rest whole : FieldMap) → ((n : FieldName) → rest n ≡ []) → FieldsLeft now old rest whole → Grows old now whole
fields_end old now rest whole none left n = sym (append-nil (values now n)) ∙ ap (λ (vs : List Value). values now n ++ vs) (sym (none n)) ∙ left n

-- fields of INFO that are the same for each identifier
pub alone_same : (f g : List ℕ → List (List ℕ)) → ((id : List ℕ) → f id ≡ g id) → (n : FieldName) → infos_alone f n ≡ infos_alone g n
alone_same f g e (Info id) = ap (map plain) (e id.0)
alone_same f g e other = refl

pub alone_none : (f : List ℕ → List (List ℕ)) → ((id : List ℕ) → f id ≡ []) → (n : FieldName) → infos_alone f n ≡ []
alone_none f e (Info id) = ap (map plain) (e id.0)
alone_none f e other = refl

alone_both : (f g h : List ℕ → List (List ℕ)) → ((id : List ℕ) → f id ++ g id ≡ h id) → (n : FieldName) → infos_alone f n ++ infos_alone g n ≡ infos_alone h n
alone_both f g h e (Info id) = sym (map-append plain (f id.0) (g id.0)) ∙ ap (map plain) (e id.0)
alone_both f g h e other = refl

-- ---- one value more, and one item

abbrev pub one : FieldName → Value → FieldMap
one name v n = if same_name name n then v ∷ [] else []

pub added : (old new : List Entry) (name : FieldName) (v : Value) → Adds old new name v → Grows old new (one name v)
added old new name v a n = go (same_name name n) refl
  where
    go : (t : Bool) → same_name name n ≡ t → values new n ≡ values old n ++ (if t then v ∷ [] else [])
    go true e = let P : FieldName → Type 0 = λ m. values new m ≡ values old m ++ v ∷ [] in subst P (same_is_equal name n e) a.last
    go false e = a.others n e ∙ sym (append-nil (values old n))

eq_turned : (x y : List ℕ) → bytes_eq x y ≡ bytes_eq y x
eq_turned x y = go (bytes_eq x y) (bytes_eq y x) refl refl
  where
    go : (t u : Bool) → bytes_eq x y ≡ t → bytes_eq y x ≡ u → t ≡ u
    go true true p q = refl
    go false false p q = refl
    go true false p q = let same : bytes_eq y x ≡ true = ap (bytes_eq y) (bytes_same x y p) ∙ bytes_refl y in absurd cc
    go false true p q = let same : bytes_eq x y ≡ true = ap (bytes_eq x) (bytes_same y x q) ∙ bytes_refl x in absurd cc

pub item_added : (old new : List Entry) (i : InfoItem) (v : Value) → one_of info_ids i.id.0 ≡ true → v ≡ plain i.raw → Adds old new (Info i.id) v → Grows old new (items_held (i ∷ []))
item_added old new i v there is a = grown_as old new (one (Info i.id) v) (items_held (i ∷ [])) (added old new (Info i.id) v a) same
  where
    same : (n : FieldName) → one (Info i.id) v n ≡ items_held (i ∷ []) n
    same (Info id) =
        ap (λ (t : Bool). if t then v ∷ [] else []) (eq_turned i.id.0 id.0)
        ∙ ap (λ (x : Value). if bytes_eq id.0 i.id.0 then x ∷ [] else []) is
        ∙ go (bytes_eq id.0 i.id.0) (one_of info_ids i.id.0) there
      where
        go : (t u : Bool) → u ≡ true → (if t then plain i.raw ∷ [] else []) ≡ map plain ((if t then (if u then i.raw ∷ [] else []) else []) ++ [])
        go true true e = refl
        go false true e = refl
        go t false e = absurd cc
    same other = refl

pub item_passed : (old : List Entry) (i : InfoItem) → one_of info_ids i.id.0 ≡ false → Grows old old (items_held (i ∷ []))
item_passed old i other = not_grown old (items_held (i ∷ [])) (alone_none (λ (id : List ℕ). flat_map (item_value id) (i ∷ [])) (λ id. go (bytes_eq id i.id.0) (one_of info_ids i.id.0) other))
  where
    go : (t u : Bool) → u ≡ false → (if t then (if u then i.raw ∷ [] else []) else []) ++ [] ≡ []
    go true false e = refl
    go false false e = refl
    go t true e = absurd cc

-- ---- items

items_more : (i : InfoItem) (is : List InfoItem) (n : FieldName) → items_held (i ∷ []) n ++ items_held is n ≡ items_held (i ∷ is) n
items_more i is n =
    alone_both (λ (id : List ℕ). flat_map (item_value id) (i ∷ [])) (λ (id : List ℕ). flat_map (item_value id) is) (λ (id : List ℕ). flat_map (item_value id) (i ∷ is))
    (λ id. ap (λ (x : List (List ℕ)). x ++ flat_map (item_value id) is) (append-nil (item_value id i))) n

-- those of the items that are left
abbrev pub ItemsLeft : List Entry → List Entry → List InfoItem → List InfoItem → Type 0
ItemsLeft now old rest whole = FieldsLeft now old (items_held rest) (items_held whole)

pub item_next : (old now new : List Entry) (is whole : List InfoItem) (k : ℕ) (i : InfoItem) → k < length is → i ≡ get_or is k i → Grows now new (items_held (i ∷ [])) → ItemsLeft now old (drop k is) whole
    → ItemsLeft new old (drop (k + 1) is) whole
item_next old now new is whole k i lt here grown left =
    let later = drop (k + 1) is in
    fields_next old now new (items_held (drop k is)) (items_held later) (items_held (i ∷ [])) (items_held whole) grown
    (λ n. at_drop_more (λ (xs : List InfoItem). items_held xs n) is k i lt ∙ ap (λ (x : InfoItem). items_held (x ∷ later) n) (sym here) ∙ sym (items_more i later n)) left

no_items : (n : FieldName) → items_held [] n ≡ []
no_items n = alone_none (λ (id : List ℕ). flat_map (item_value id) []) (λ id. refl) n

pub items_end : (old now : List Entry) (is whole : List InfoItem) (k : ℕ) → length is ≤ k → ItemsLeft now old (drop k is) whole → Grows old now (items_held whole)
items_end old now is whole k le left = fields_end old now (items_held (drop k is)) (items_held whole) (λ n. at_drop_all (λ (xs : List InfoItem). items_held xs n) is k le ∙ no_items n) left

-- the values of a name in the items of chunks
pub held_values : (id : List ℕ) (cs : List Chunk) → flat_map (item_value id) (map item_of cs) ≡ items.values info_items id cs
held_values id [] = refl
held_values id (c ∷ cs) = ap (λ (x : List (List ℕ)). values_in info_items id c ++ x) (held_values id cs)

-- what holds at Ok follows from what holds at Ok
pub ok_grows : {T E : Type 0} {P Q : Type 0} (r : Result T E) → (P → Q) → OnOk r P → OnOk r Q
ok_grows (Ok x) f h = f h
ok_grows (Err e) f h = tt
