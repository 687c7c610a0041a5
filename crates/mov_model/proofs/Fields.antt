-- The fields after an edit are the fields updated.
use Rattle.std.proofs.Common.{◌≡◌, ℕ, Bool, true, false, cond, List, [], ◌∷◌, ◌++◌, Option, Some, None, inl, inr, map, refl, sym, ap, ◌∙◌}
use Rattle.std.specs.Prelude.{◌||◌, ◌⊎◌, option_map}
use Rattle.std.specs.Str.{bytes_eq}
use Rattle.std.specs.List.{AllByRecursion, list_any}
use Rattle.part_tree.specs.Keys.{is_key_name}
use Rattle.part_tree.specs.Names.{IsFieldName, is_user_type, same_name}
use Rattle.part_tree.specs.declared.names.FourCc.{FourCc}
use Rattle.part_tree.specs.declared.field.EditItem.{EditItem}
use Rattle.part_tree.specs.declared.field.FieldName.{FieldName}
use Rattle.part_tree.specs.declared.field.FieldName.TheVariants.{Bext, Info, Whole, User, Key, Stream}
use Rattle.part_tree.specs.declared.field.Value.{Value}
use Rattle.field_model.specs.Fields.{plain}
use Rattle.field_model.specs.Kind.{NamesFields}
use Rattle.field_model.specs.Update.{RawItem, is_bext, raw_items, update, updated_values}
use Rattle.field_model.proofs.Changed.{raws_named}
use Rattle.field_model.proofs.Same.{same_either}
use Rattle.container_model.specs.Items.{updated}
use Rattle.container_model.proofs.Items.{same_true}
use Rattle.mov_model.specs.Edited.{changed_by, changes, fields, key_item, user_item}
use Rattle.mov_model.proofs.Fits.{user_values, values_of_key}
use Rattle.mov_model.proofs.Rules.{AreMov, IsMovItem, IsPlain}

-- two names of which one has a property and the other hasn't
apart_by : (p : List ℕ → Bool) (a b : List ℕ) → p a ≡ false → p b ≡ true → bytes_eq a b ≡ false
apart_by p a b n y = go (bytes_eq a b) refl
  where
    go : (t : Bool) → bytes_eq a b ≡ t → t ≡ false
    go true i = let yes : p a ≡ true = ap p (same_true a b i) ∙ y in absurd cc
    go false i = refl

-- ---- the values of a type of user items

users_same : (rs : List RawItem) (id : FourCc) (vs : List Value) → is_user_type id.0 ≡ true → AreMov rs → updated (changed_by rs).users id.0 vs ≡ updated_values rs (User id) vs
users_same [] id vs n u = refl
users_same (r ∷ rs) id vs n u = go r.name r.value u.0 (λ ws. users_same rs id ws n u.1)
  where
    go : (name : FieldName) (value : Option Value) → IsMovItem name value → ((ws : List Value) → updated (changed_by rs).users id.0 ws ≡ updated_values rs (User id) ws)
        → updated (user_item name value ++ (changed_by rs).users) id.0 vs ≡ updated_values rs (User id) (cond (same_name name (User id)) (Rattle.field_model.specs.Update.listed value) vs)
    go (Key k) value u again = again vs
    go (User j) value u again = typed (is_user_type j.0) refl
      where
        set : (v : Option Value) → updated (record { name = j.0; value = v } ∷ (changed_by rs).users) id.0 vs ≡ updated_values rs (User id) (cond (bytes_eq j.0 id.0) (Rattle.field_model.specs.Update.listed v) vs)
        set None = again (cond (bytes_eq id.0 j.0) [] vs) ∙ ap (λ (t : Bool). updated_values rs (User id) (cond t [] vs)) (same_either id.0 j.0)
        set (Some v) = again (cond (bytes_eq id.0 j.0) (v ∷ []) vs) ∙ ap (λ (t : Bool). updated_values rs (User id) (cond t (v ∷ []) vs)) (same_either id.0 j.0)

        typed : (t : Bool) → is_user_type j.0 ≡ t → updated (cond t (record { name = j.0; value = value } ∷ []) [] ++ (changed_by rs).users) id.0 vs ≡ updated_values rs (User id) (cond (bytes_eq j.0 id.0) (Rattle.field_model.specs.Update.listed value) vs)
        typed true e = set value
        typed false e = again vs ∙ ap (λ (t : Bool). updated_values rs (User id) (cond t (Rattle.field_model.specs.Update.listed value) vs)) (sym (apart_by is_user_type j.0 id.0 e n))
    go name value u again = absurd u

-- those of a key
keys_same : (rs : List RawItem) (key : List ℕ) (vs : List (List ℕ)) → is_key_name key ≡ true → AreMov rs → map plain (updated (changed_by rs).keys key vs) ≡ updated_values rs (Key key) (map plain vs)
keys_same [] key vs n u = refl
keys_same (r ∷ rs) key vs n u = go r.name r.value u.0 (λ ws. keys_same rs key ws n u.1)
  where
    go : (name : FieldName) (value : Option Value) → IsMovItem name value → ((ws : List (List ℕ)) → map plain (updated (changed_by rs).keys key ws) ≡ updated_values rs (Key key) (map plain ws))
        → map plain (updated (key_item name value ++ (changed_by rs).keys) key vs) ≡ updated_values rs (Key key) (cond (same_name name (Key key)) (Rattle.field_model.specs.Update.listed value) (map plain vs))
    go (User id) value u again = again vs
    go (Key j) value u again = typed (is_key_name j) refl
      where
        pick : (t : Bool) (xs : List (List ℕ)) → map plain (cond t xs vs) ≡ cond t (map plain xs) (map plain vs)
        pick true xs = refl
        pick false xs = refl

        set : (v : Option Value) → IsPlain v → map plain (updated (record { name = j; value = option_map (λ (w : Value). w.raw) v } ∷ (changed_by rs).keys) key vs) ≡ updated_values rs (Key key) (cond (bytes_eq j key) (Rattle.field_model.specs.Update.listed v) (map plain vs))
        set None p = again (cond (bytes_eq key j) [] vs) ∙ ap (updated_values rs (Key key)) (pick (bytes_eq key j) []) ∙ ap (λ (t : Bool). updated_values rs (Key key) (cond t [] (map plain vs))) (same_either key j)
        set (Some v) p =
            again (cond (bytes_eq key j) (v.raw ∷ []) vs) ∙ ap (updated_values rs (Key key)) (pick (bytes_eq key j) (v.raw ∷ []))
            ∙ ap (λ (w : Value). updated_values rs (Key key) (cond (bytes_eq key j) (w ∷ []) (map plain vs))) (sym p) ∙ ap (λ (t : Bool). updated_values rs (Key key) (cond t (v ∷ []) (map plain vs))) (same_either key j)

        typed : (t : Bool) → is_key_name j ≡ t
            → map plain (updated (cond t (record { name = j; value = option_map (λ (w : Value). w.raw) value } ∷ []) [] ++ (changed_by rs).keys) key vs) ≡ updated_values rs (Key key) (cond (bytes_eq j key) (Rattle.field_model.specs.Update.listed value) (map plain vs))
        typed true e = set value u
        typed false e = again vs ∙ ap (λ (t : Bool). updated_values rs (Key key) (cond t (Rattle.field_model.specs.Update.listed value) (map plain vs))) (sym (apart_by is_key_name j key e n))
    go name value u again = absurd u

-- ---- other names

-- a name that no item of a movie has
abbrev Unnamed : FieldName → Type 0
Unnamed name = (r : RawItem) → IsMovItem r.name r.value → same_name r.name name ≡ false

none_named : (name : FieldName) → Unnamed name → (rs : List RawItem) (vs : List Value) → AreMov rs → updated_values rs name vs ≡ vs
none_named name n [] vs u = refl
none_named name n (r ∷ rs) vs u = ap (λ (t : Bool). updated_values rs name (cond t (Rattle.field_model.specs.Update.listed r.value) vs)) (n r u.0) ∙ none_named name n rs vs u.1

info_unnamed : (id : FourCc) → Unnamed (Info id)
info_unnamed id r u = go r.name r.value u
  where
    go : (name : FieldName) (value : Option Value) → IsMovItem name value → same_name name (Info id) ≡ false
    go (User j) value u = refl
    go (Key k) value u = refl
    go name value u = absurd u

whole_unnamed : (id : FourCc) → Unnamed (Whole id)
whole_unnamed id r u = go r.name r.value u
  where
    go : (name : FieldName) (value : Option Value) → IsMovItem name value → same_name name (Whole id) ≡ false
    go (User j) value u = refl
    go (Key k) value u = refl
    go name value u = absurd u

stream_unnamed : (n : ℕ) → Unnamed (Stream n)
stream_unnamed n r u = go r.name r.value u
  where
    go : (name : FieldName) (value : Option Value) → IsMovItem name value → same_name name (Stream n) ≡ false
    go (User j) value u = refl
    go (Key k) value u = refl
    go name value u = absurd u

no_bext : (rs : List RawItem) → AreMov rs → list_any (λ (i : RawItem). is_bext i.name) rs ≡ false
no_bext [] u = refl
no_bext (r ∷ rs) u = go r.name r.value u.0 (no_bext rs u.1)
  where
    go : (name : FieldName) (value : Option Value) → IsMovItem name value → list_any (λ (i : RawItem). is_bext i.name) rs ≡ false → (is_bext name || list_any (λ (i : RawItem). is_bext i.name) rs) ≡ false
    go (User id) value u again = again
    go (Key k) value u again = again
    go name value u again = absurd u

-- ---- edits whose items name fields

abbrev AreFields : List RawItem → Type 0
AreFields rs = AllByRecursion (λ (r : RawItem). IsFieldName r.name) rs

-- a type that is none of user items has no item
users_other : (rs : List RawItem) (id : List ℕ) (vs : List Value) → is_user_type id ≡ false → updated (changed_by rs).users id vs ≡ vs
users_other [] id vs n = refl
users_other (r ∷ rs) id vs n = go r.name r.value (users_other rs id vs n)
  where
    go : (name : FieldName) (value : Option Value) → updated (changed_by rs).users id vs ≡ vs → updated (user_item name value ++ (changed_by rs).users) id vs ≡ vs
    go (User j) value again = typed (is_user_type j.0) refl
      where
        typed : (t : Bool) → is_user_type j.0 ≡ t → updated (cond t (record { name = j.0; value = value } ∷ []) [] ++ (changed_by rs).users) id vs ≡ vs
        typed true e = ap (λ (t : Bool). updated (changed_by rs).users id (cond t (Rattle.container_model.specs.Items.listed value) vs)) (apart_by is_user_type id j.0 n e) ∙ again
        typed false e = again
    go (Bext field) value again = again
    go (Info j) value again = again
    go (Whole j) value again = again
    go (Key k) value again = again
    go (Stream k) value again = again

user_other : (rs : List RawItem) (id : FourCc) (vs : List Value) → is_user_type id.0 ≡ false → AreFields rs → updated_values rs (User id) vs ≡ vs
user_other [] id vs n h = refl
user_other (r ∷ rs) id vs n h = ap (λ (t : Bool). updated_values rs (User id) (cond t (Rattle.field_model.specs.Update.listed r.value) vs)) (go r.name h.0) ∙ user_other rs id vs n h.1
  where
    go : (name : FieldName) → IsFieldName name → same_name name (User id) ≡ false
    go (User j) f = same_either j.0 id.0 ∙ apart_by is_user_type id.0 j.0 n f
    go (Bext field) f = refl
    go (Info j) f = refl
    go (Whole j) f = refl
    go (Key k) f = refl
    go (Stream k) f = refl

key_other : (rs : List RawItem) (key : List ℕ) (vs : List Value) → is_key_name key ≡ false → AreFields rs → updated_values rs (Key key) vs ≡ vs
key_other [] key vs n h = refl
key_other (r ∷ rs) key vs n h = ap (λ (t : Bool). updated_values rs (Key key) (cond t (Rattle.field_model.specs.Update.listed r.value) vs)) (go r.name h.0) ∙ key_other rs key vs n h.1
  where
    go : (name : FieldName) → IsFieldName name → same_name name (Key key) ≡ false
    go (Key k) f = same_either k key ∙ apart_by is_key_name key k n f
    go (Bext field) f = refl
    go (Info j) f = refl
    go (Whole j) f = refl
    go (User j) f = refl
    go (Stream k) f = refl

-- The fields of the new file are the old ones updated.
pub read_back : (o n : List ℕ) (e : List EditItem) → AreMov (raw_items (fields o) e)
    → ((id : List ℕ) → user_values n id ≡ updated (changes o e).users id (user_values o id)) → ((key : List ℕ) → values_of_key n key ≡ updated (changes o e).keys key (values_of_key o key))
    → (name : FieldName) → IsFieldName name ⊎ NamesFields e → fields n name ≡ update (fields o) e name
read_back o n e u users keys (User id) h = go (is_user_type id.0) refl h
  where
    go : (t : Bool) → is_user_type id.0 ≡ t → IsFieldName (User id) ⊎ NamesFields e → fields n (User id) ≡ update (fields o) e (User id)
    go true i h = users id.0 ∙ users_same (raw_items (fields o) e) id (fields o (User id)) i u
    go false i (inl f) = users id.0 ∙ users_same (raw_items (fields o) e) id (fields o (User id)) f u
    go false i (inr names) = users id.0 ∙ users_other (raw_items (fields o) e) id.0 (user_values o id.0) i ∙ sym (user_other (raw_items (fields o) e) id (user_values o id.0) i (raws_named IsFieldName (fields o) e names))
read_back o n e u users keys (Key key) h = go (is_key_name key) refl h
  where
    rs : List RawItem
    rs = raw_items (fields o) e

    go : (t : Bool) → is_key_name key ≡ t → IsFieldName (Key key) ⊎ NamesFields e → cond t (map plain (values_of_key n key)) [] ≡ updated_values (raw_items (fields o) e) (Key key) (cond t (map plain (values_of_key o key)) [])
    go true i h = ap (map plain) (keys key) ∙ keys_same (raw_items (fields o) e) key (values_of_key o key) i u
    go false i (inl f) = absurd cc
    go false i (inr names) = sym (key_other (raw_items (fields o) e) key [] i (raws_named IsFieldName (fields o) e names))
read_back o n e u users keys (Info id) h = sym (none_named (Info id) (info_unnamed id) (raw_items (fields o) e) [] u)
read_back o n e u users keys (Whole id) h = sym (none_named (Whole id) (whole_unnamed id) (raw_items (fields o) e) [] u)
read_back o n e u users keys (Stream k) h = sym (none_named (Stream k) (stream_unnamed k) (raw_items (fields o) e) [] u)
read_back o n e u users keys (Bext field) h = sym (Rattle.std.proofs.lemmas.Bool.cond-false (list_any (λ (i : RawItem). is_bext i.name) (raw_items (fields o) e)) _ _ (no_bext (raw_items (fields o) e) u))
