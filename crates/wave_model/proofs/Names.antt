-- Names that are no fields have no values, before and after an edit that names fields alone.
use Rattle.std.proofs.Common.{◌≡◌, ℕ, ◌^◌, Bool, true, false, cond, List, [], ◌∷◌, ◌++◌, map, None, refl, sym, ap, ◌∙◌}
use Rattle.std.specs.Prelude.{◌&&◌, ◌==◌, nat_lt}
use Rattle.std.specs.Str.{bytes_eq}
use Rattle.std.specs.List.{list_any, AllByRecursion}
use Rattle.part_tree.specs.declared.field.EditItem.{EditItem}
use Rattle.part_tree.specs.declared.field.FieldName.{FieldName}
use Rattle.part_tree.specs.declared.field.FieldName.TheVariants.{Bext, Info, Whole, User, Key, Stream}
use Rattle.part_tree.specs.declared.field.RuleSet.TheVariants.{Base}
use Rattle.std.proofs.lemmas.Bool.{eqb-true}
use Rattle.part_tree.specs.Keys.{is_key_name}
use Rattle.part_tree.specs.Names.{is_field_name, is_user_type, same_name, info_ids, whole_ids, IsFieldName}
use Rattle.field_model.specs.Broken.{broken}
use Rattle.field_model.specs.Fields.{FieldMap, plain}
use Rattle.field_model.specs.Update.{RawItem, raw_items, updated_values, updated, update}
use Rattle.field_model.specs.Update as update
use Rattle.field_model.proofs.Changed.{raws_named}
use Rattle.container_model.specs.Chunk.{Chunk}
use Rattle.container_model.specs.Items.{values}
use Rattle.container_model.proofs.Codec.{IsBytes}
use Rattle.container_model.proofs.Items.{same_true}
use Rattle.carrier_model.specs.Info.{own_size, one_of, list_run, info, info_items}
use Rattle.carrier_model.specs.Lists.{list_values}
use Rattle.wave_model.specs.Wave.{kind_of, wave_of}
use Rattle.wave_model.specs.Fields.{has_id, is_whole, is_info, bodies, fields_of, fields}
use Rattle.wave_model.specs.New.{new_file}
use Rattle.wave_model.specs.Edited.{Supported}
use Rattle.wave_model.specs.Large.{too_large}
use Rattle.wave_model.proofs.Law.{edited_law}

-- ---- no values

no_items : (name : List ℕ) → one_of info_ids name ≡ false → (cs : List Chunk) → values info_items name cs ≡ []
no_items name n [] = refl
no_items name n (c ∷ cs) = go (bytes_eq name c.id) refl (no_items name n cs)
  where
    go : (t : Bool) → bytes_eq name c.id ≡ t → values info_items name cs ≡ [] → cond t (cond (one_of info_ids c.id) (c.body ∷ []) []) [] ++ values info_items name cs ≡ []
    go true e h = let other : one_of info_ids c.id ≡ false = sym (ap (one_of info_ids) (same_true name c.id e)) ∙ n in rw other h
    go false e h = h

no_info : (name : List ℕ) → one_of info_ids name ≡ false → (cs : List Chunk) → list_values info info_items name cs ≡ []
no_info name n [] = refl
no_info name n (c ∷ cs) = go (is_info c) (no_info name n cs)
  where
    go : (t : Bool) → list_values info info_items name cs ≡ [] → cond t (values info_items name (list_run c).chunks) [] ++ list_values info info_items name cs ≡ []
    go true h = rw (no_items name n (list_run c).chunks) h
    go false h = h

no_whole : (w : List ℕ) → one_of whole_ids w ≡ false → (cs : List Chunk) → bodies (is_whole w) cs ≡ []
no_whole w n [] = refl
no_whole w n (c ∷ cs) = rw (none (own_size c.form)) (no_whole w n cs)
  where
    none : (o : Bool) → (o && (one_of whole_ids w && has_id w c)) ≡ false
    none true = ap (λ (t : Bool). t && has_id w c) n
    none false = refl

pub no_values : (cs : List Chunk) (name : FieldName) → is_field_name name ≡ false → fields_of cs name ≡ []
no_values cs (Bext field) n = absurd cc
no_values cs (Info id) n = ap (map plain) (no_info id.0 n cs)
no_values cs (Whole id) n = ap (map plain) (no_whole id.0 n cs)
no_values cs name n = refl

-- ---- an edit of fields

abbrev OfFields : List RawItem → Type 0
OfFields e = AllByRecursion (λ i. is_field_name i.name ≡ true) e

differ : (a b : FieldName) → is_field_name a ≡ true → is_field_name b ≡ false → same_name a b ≡ false
differ (Bext x) (Bext y) e n = absurd cc
differ (Bext x) name e n = refl
differ (Info a) (Info b) e n = go (bytes_eq a.0 b.0) refl
  where
    go : (t : Bool) → bytes_eq a.0 b.0 ≡ t → t ≡ false
    go true s = let yes : list_any (bytes_eq b.0) info_ids ≡ true = sym (ap (λ (x : List ℕ). list_any (bytes_eq x) info_ids) (same_true a.0 b.0 s)) ∙ e in absurd cc
    go false s = refl
differ (Info a) name e n = refl
differ (Whole a) (Whole b) e n = go (bytes_eq a.0 b.0) refl
  where
    go : (t : Bool) → bytes_eq a.0 b.0 ≡ t → t ≡ false
    go true s = let yes : list_any (bytes_eq b.0) whole_ids ≡ true = sym (ap (λ (x : List ℕ). list_any (bytes_eq x) whole_ids) (same_true a.0 b.0 s)) ∙ e in absurd cc
    go false s = refl
differ (Whole a) name e n = refl
differ (User a) (User b) e n = go (bytes_eq a.0 b.0) refl
  where
    go : (t : Bool) → bytes_eq a.0 b.0 ≡ t → t ≡ false
    go true s = let yes : is_user_type b.0 ≡ true = sym (ap is_user_type (same_true a.0 b.0 s)) ∙ e in absurd cc
    go false s = refl
differ (User a) name e n = refl
differ (Key a) (Key b) e n = go (bytes_eq a b) refl
  where
    go : (t : Bool) → bytes_eq a b ≡ t → t ≡ false
    go true s = let yes : is_key_name b ≡ true = sym (ap is_key_name (same_true a b s)) ∙ e in absurd cc
    go false s = refl
differ (Key a) name e n = refl
differ (Stream a) (Stream b) e n = go (a == b) refl
  where
    go : (t : Bool) → (a == b) ≡ t → t ≡ false
    go true s = let yes : nat_lt b (2 ^ 32) ≡ true = sym (ap (λ (x : ℕ). nat_lt x (2 ^ 32)) (eqb-true a b s)) ∙ e in absurd cc
    go false s = refl
differ (Stream a) name e n = refl

still_none : (e : List RawItem) → OfFields e → (name : FieldName) → is_field_name name ≡ false → (vs : List Rattle.part_tree.specs.declared.field.Value.Value) → updated_values e name vs ≡ vs
still_none [] h name n vs = refl
still_none (i ∷ e) h name n vs = ap (λ (t : Bool). updated_values e name (cond t (update.listed i.value) vs)) (differ i.name name h.0 n) ∙ still_none e h.1 name n vs

pub no_update : (f : FieldMap) (e : List RawItem) → OfFields e → (name : FieldName) → is_field_name name ≡ false → f name ≡ [] → updated e f name ≡ []
no_update f e h (Bext field) n z = absurd cc
no_update f e h (Info id) n z = still_none e h (Info id) n (f (Info id)) ∙ z
no_update f e h (Whole id) n z = still_none e h (Whole id) n (f (Whole id)) ∙ z
no_update f e h (User id) n z = still_none e h (User id) n (f (User id)) ∙ z
no_update f e h (Key name) n z = still_none e h (Key name) n (f (Key name)) ∙ z
no_update f e h (Stream m) n z = still_none e h (Stream m) n (f (Stream m)) ∙ z

-- The fields of the new file are the old ones updated, as a whole map.
pub whole_map : (o : List ℕ) (e : List EditItem) → IsBytes o → Supported o → broken (kind_of o) 0 (fields o) e Base ≡ None → too_large o e ≡ None → AllByRecursion (λ i. IsFieldName i.name) e → (name : FieldName) → fields (new_file o e) name ≡ update (fields o) e name
whole_map o e bytes sup b l h name = go (is_field_name name) refl
  where
    go : (t : Bool) → is_field_name name ≡ t → fields (new_file o e) name ≡ update (fields o) e name
    go true k = (edited_law o e bytes sup b l).reads_back name k
    go false n =
        no_values (wave_of (new_file o e)).children name n
        ∙ sym (no_update (fields o) (raw_items (fields o) e) (raws_named IsFieldName (fields o) e h) name n (no_values (wave_of o).children name n))
