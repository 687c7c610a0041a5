-- An edit of an AVI file that keeps the rules of Base names INFO fields and streams that are there; and the fields read back, where the
-- lists of fields and the names of the streams do.
use Rattle.std.proofs.Common.{◌≡◌, ℕ, ◌<◌, ◌≤◌, Bool, true, false, cond, eqb, List, [], ◌∷◌, ◌++◌, length, map, Option, Some, None, refl, sym, ap, ◌∙◌, arith, inl, inr}
use Rattle.std.specs.Prelude.{not, nat_lt, ◌⊎◌, ◌||◌, option_map}
use Rattle.std.specs.List.{AllByRecursion, filter_map, cons_option, flat_map, list_any}
use Rattle.std.specs.Str.{bytes_eq}
use Rattle.std.proofs.lemmas.Bool.{ltb-true, ltb-false, le-ltb, eqb-true}
use Rattle.std.proofs.lemmas.List.{length-append}
use Rattle.part_tree.specs.Names.{IsFieldName, info_ids, same_name}
use Rattle.part_tree.specs.declared.names.FourCc.{FourCc}
use Rattle.part_tree.specs.declared.field.Change.{Change}
use Rattle.part_tree.specs.declared.field.Change.TheVariants.{Set, Remove}
use Rattle.part_tree.specs.declared.field.EditItem.{EditItem}
use Rattle.part_tree.specs.declared.field.FieldName.{FieldName}
use Rattle.part_tree.specs.declared.field.FieldName.TheVariants.{Bext, Info, Whole, User, Key, Stream}
use Rattle.part_tree.specs.declared.field.RuleSet.TheVariants.{Base}
use Rattle.part_tree.specs.declared.field.Value.{Value}
use Rattle.part_tree.specs.declared.names.Kind.TheVariants.{Avi}
use Rattle.field_model.specs.Broken.{broken, set_fails}
use Rattle.field_model.specs.Fields.{FieldMap, plain}
use Rattle.field_model.specs.KindFacts.{has_field}
use Rattle.field_model.specs.Rules.{too_long}
use Rattle.field_model.specs.Update.{RawItem, effective, raw_change, raw_item, raw_items, update, updated_values}
use Rattle.field_model.proofs.Changed.{raws_named}
use Rattle.field_model.proofs.Kept.{Kept, base_kept}
use Rattle.field_model.proofs.Same.{same_either}
use Rattle.container_model.specs.Items.{updated}
use Rattle.container_model.proofs.Items.{same_true}
use Rattle.carrier_model.specs.Info.{one_of, SetsInfo}
use Rattle.avi_model.specs.After.{all_changes, all_fields, name_item}
use Rattle.avi_model.specs.Avi.{avi_of, strls}
use Rattle.avi_model.specs.Edited.{info_edit, info_item, info_values}
use Rattle.avi_model.specs.Heads.{nth_names}
use Rattle.avi_model.specs.Named.{Name, Names, names_after}
use Rattle.avi_model.proofs.Edited.{unheld_lists, unnamed}

-- ---- the items of an edit

-- an INFO field, or a stream that is there
abbrev pub IsAviName : ℕ → FieldName → Type 0
IsAviName streams (Info id) = Unit {0}
IsAviName streams (Stream n) = n < streams
IsAviName streams name = ⊥

abbrev pub HasNoLanguage : Option Value → Type 0
HasNoLanguage None = Unit {0}
HasNoLanguage (Some v) = v ≡ plain v.raw

abbrev pub AreAvi : ℕ → List RawItem → Type 0
AreAvi streams rs = AllByRecursion (λ (r : RawItem). IsAviName streams r.name × HasNoLanguage r.value) rs

-- a name of at most 65,535 bytes and a 0
abbrev pub ShortName : Option (List ℕ) → Type 0
ShortName None = Unit {0}
ShortName (Some v) = length v ≤ 65536

abbrev pub ShortNames : Names → Type 0
ShortNames e = AllByRecursion (λ (i : Name). ShortName i.value) e

-- the changes of names that some items make
abbrev pub name_edit : List RawItem → Names
name_edit rs = flat_map (λ (i : RawItem). name_item i.name i.value) rs

pub record Gives (streams : ℕ) (rs : List RawItem) : Type 0 where
  pub names : AreAvi streams rs
  pub sets : SetsInfo (info_edit rs)
  pub short : ShortNames (name_edit rs)

one_gives : (streams : ℕ) (name : FieldName) (change : Change) (rs : List RawItem) → not (has_field Avi streams name) ≡ false → set_fails too_long name change ≡ false → Gives streams rs → Gives streams (cons_option (raw_change name change) rs)
one_gives streams (Bext field) change rs h k g = absurd cc
one_gives streams (Whole id) change rs h k g = absurd cc
one_gives streams (User id) change rs h k g = absurd cc
one_gives streams (Key name) change rs h k g = absurd cc
one_gives streams (Stream n) change rs h k g = set change k
  where
    there : n < streams
    there = ltb-true n streams (yes (nat_lt n streams) h)
      where
        yes : (b : Bool) → not b ≡ false → b ≡ true
        yes true e = refl
        yes false e = absurd cc

    set : (change : Change) → set_fails too_long (Stream n) change ≡ false → Gives streams (cons_option (raw_change (Stream n) change) rs)
    set Remove k = record { names = ((there, tt), g.names); sets = g.sets; short = (tt, g.short) }
    set (Set text) k = record { names = ((there, refl), g.names); sets = g.sets; short = (omega (arith, ltb-false 65535 (length text) (first (nat_lt 65535 (length text)) k), length-append text (0 ∷ [])), g.short) }
      where
        first : (x : Bool) → (x || false || false) ≡ false → x ≡ false
        first true e = absurd cc
        first false e = refl
one_gives streams (Info id) change rs h k g = set change
  where
    sets : (v : Option (List ℕ)) (t : Bool) → one_of info_ids id.0 ≡ t → SetsInfo (cond t (record { name = id.0; value = v } ∷ []) [] ++ info_edit rs)
    sets v true n = (n, g.sets)
    sets v false n = g.sets

    set : (change : Change) → Gives streams (cons_option (raw_change (Info id) change) rs)
    set Remove = record { names = ((tt, tt), g.names); sets = sets None (one_of info_ids id.0) refl; short = g.short }
    set (Set text) = record { names = ((tt, refl), g.names); sets = sets (Some (text ++ 0 ∷ [])) (one_of info_ids id.0) refl; short = g.short }

all_give : (streams : ℕ) (es : List EditItem) → AllByRecursion (Kept Avi streams) es → Gives streams (filter_map raw_item es)
all_give streams [] k = record { names = tt; sets = tt; short = tt }
all_give streams (i ∷ es) k = one_gives streams i.name i.change (filter_map raw_item es) k.0.field k.0.short (all_give streams es k.1)

-- the items that have an effect name INFO fields, and streams that are there
pub items_give : (streams : ℕ) (f : FieldMap) (e : List EditItem) → broken Avi streams f e Base ≡ None → Gives streams (raw_items f e)
items_give streams f e none = all_give streams (effective f e) (base_kept Avi streams f e none)

-- ---- the values after an edit

choose : (t : Bool) (xs vs : List (List ℕ)) → map plain (cond t xs vs) ≡ cond t (map plain xs) (map plain vs)
choose true xs vs = refl
choose false xs vs = refl

-- the names of a stream
names_same : (streams : ℕ) (rs : List RawItem) (n : ℕ) (vs : List (List ℕ)) → AreAvi streams rs → map plain (names_after (name_edit rs) n vs) ≡ updated_values rs (Stream n) (map plain vs)
names_same streams [] n vs u = refl
names_same streams (r ∷ rs) n vs u = go r.name r.value u.0.0 u.0.1 (λ ws. names_same streams rs n ws u.1)
  where
    go : (name : FieldName) (value : Option Value) → IsAviName streams name → HasNoLanguage value → ((ws : List (List ℕ)) → map plain (names_after (name_edit rs) n ws) ≡ updated_values rs (Stream n) (map plain ws))
        → map plain (names_after (name_item name value ++ name_edit rs) n vs) ≡ updated_values rs (Stream n) (cond (same_name name (Stream n)) (Rattle.field_model.specs.Update.listed value) (map plain vs))
    go (Info id) value a b again = again vs
    go (Stream m) None a b again = again (cond (eqb m n) [] vs) ∙ ap (updated_values rs (Stream n)) (choose (eqb m n) [] vs)
    go (Stream m) (Some v) a b again =
        again (cond (eqb m n) (v.raw ∷ []) vs) ∙ ap (updated_values rs (Stream n)) (choose (eqb m n) (v.raw ∷ []) vs)
        ∙ ap (λ (x : Value). updated_values rs (Stream n) (cond (eqb m n) (x ∷ []) (map plain vs))) (sym b)
    go name value a b again = absurd a

-- the values of an INFO field
infos_same : (streams : ℕ) (rs : List RawItem) (id : FourCc) (vs : List (List ℕ)) → one_of info_ids id.0 ≡ true → AreAvi streams rs
    → map plain (updated (info_edit rs) id.0 vs) ≡ updated_values rs (Info id) (map plain vs)
infos_same streams [] id vs n u = refl
infos_same streams (r ∷ rs) id vs n u = go r.name r.value u.0.0 u.0.1 (λ ws. infos_same streams rs id ws n u.1)
  where
    go : (name : FieldName) (value : Option Value) → IsAviName streams name → HasNoLanguage value → ((ws : List (List ℕ)) → map plain (updated (info_edit rs) id.0 ws) ≡ updated_values rs (Info id) (map plain ws))
        → map plain (updated (info_item name value ++ info_edit rs) id.0 vs) ≡ updated_values rs (Info id) (cond (same_name name (Info id)) (Rattle.field_model.specs.Update.listed value) (map plain vs))
    go (Stream m) value u l again = again vs
    go (Info j) value u l again = typed (one_of info_ids j.0) refl
      where
        apart : one_of info_ids j.0 ≡ false → (t : Bool) → bytes_eq j.0 id.0 ≡ t → t ≡ false
        apart e true i = let yes : one_of info_ids j.0 ≡ true = ap (one_of info_ids) (same_true j.0 id.0 i) ∙ n in absurd cc
        apart e false i = refl

        set : (v : Option Value) → HasNoLanguage v
            → map plain (updated (record { name = j.0; value = option_map (λ (v : Value). v.raw) v } ∷ info_edit rs) id.0 vs) ≡ updated_values rs (Info id) (cond (bytes_eq j.0 id.0) (Rattle.field_model.specs.Update.listed v) (map plain vs))
        set None l = again (cond (bytes_eq id.0 j.0) [] vs) ∙ ap (updated_values rs (Info id)) (choose (bytes_eq id.0 j.0) [] vs) ∙ ap (λ (t : Bool). updated_values rs (Info id) (cond t [] (map plain vs))) (same_either id.0 j.0)
        set (Some v) l =
            again (cond (bytes_eq id.0 j.0) (v.raw ∷ []) vs) ∙ ap (updated_values rs (Info id)) (choose (bytes_eq id.0 j.0) (v.raw ∷ []) vs) ∙ ap (λ (t : Bool). updated_values rs (Info id) (cond t (plain v.raw ∷ []) (map plain vs))) (same_either id.0 j.0)
            ∙ ap (λ (x : Value). updated_values rs (Info id) (cond (bytes_eq j.0 id.0) (x ∷ []) (map plain vs))) (sym l)

        typed : (t : Bool) → one_of info_ids j.0 ≡ t
            → map plain (updated (cond t (record { name = j.0; value = option_map (λ (v : Value). v.raw) value } ∷ []) [] ++ info_edit rs) id.0 vs) ≡ updated_values rs (Info id) (cond (bytes_eq j.0 id.0) (Rattle.field_model.specs.Update.listed value) (map plain vs))
        typed true e = set value l
        typed false e = again vs ∙ ap (λ (t : Bool). updated_values rs (Info id) (cond t (Rattle.field_model.specs.Update.listed value) (map plain vs))) (sym (apart e (bytes_eq j.0 id.0) refl))
    go name value u l again = absurd u

-- no other name has values
other_name : (streams : ℕ) (name : FieldName) → ((other : FieldName) → IsAviName streams other → same_name other name ≡ false) → (rs : List RawItem) → AreAvi streams rs → updated_values rs name [] ≡ []
other_name streams name n [] u = refl
other_name streams name n (r ∷ rs) u = ap (λ (t : Bool). updated_values rs name (cond t (Rattle.field_model.specs.Update.listed r.value) [])) (n r.name u.0.0) ∙ other_name streams name n rs u.1

no_bext : (streams : ℕ) (rs : List RawItem) → AreAvi streams rs → list_any (λ (i : RawItem). Rattle.field_model.specs.Update.is_bext i.name) rs ≡ false
no_bext streams [] u = refl
no_bext streams (r ∷ rs) u = go r.name u.0.0 (no_bext streams rs u.1)
  where
    go : (name : FieldName) → IsAviName streams name → list_any (λ (i : RawItem). Rattle.field_model.specs.Update.is_bext i.name) rs ≡ false → (Rattle.field_model.specs.Update.is_bext name || list_any (λ (i : RawItem). Rattle.field_model.specs.Update.is_bext i.name) rs) ≡ false
    go (Info id) u again = again
    go (Stream n) u again = again
    go name u again = absurd u

no_whole : (streams : ℕ) (id : FourCc) (other : FieldName) → IsAviName streams other → same_name other (Whole id) ≡ false
no_whole streams id (Info j) u = refl
no_whole streams id (Stream j) u = refl
no_whole streams id other u = absurd u

no_user : (streams : ℕ) (id : FourCc) (other : FieldName) → IsAviName streams other → same_name other (User id) ≡ false
no_user streams id (Info j) u = refl
no_user streams id (Stream j) u = refl
no_user streams id other u = absurd u

no_key : (streams : ℕ) (k : List ℕ) (other : FieldName) → IsAviName streams other → same_name other (Key k) ≡ false
no_key streams k (Info j) u = refl
no_key streams k (Stream j) u = refl
no_key streams k other u = absurd u

-- The fields of the new file are the old ones updated, where the lists of fields and the names of each stream are.
pub read_back : (o n : List ℕ) (e : List EditItem) (streams : ℕ) → AreAvi streams (raw_items (all_fields o) e)
    → ((id : List ℕ) → info_values n id ≡ updated (all_changes o e).infos id (info_values o id))
    → ((k : ℕ) → nth_names k (strls (avi_of n)) ≡ names_after (all_changes o e).names k (nth_names k (strls (avi_of o))))
    → (name : FieldName) → IsFieldName name ⊎ Rattle.field_model.specs.Kind.NamesFields e → all_fields n name ≡ update (all_fields o) e name
read_back o n e streams rules v w (Info id) h = go (one_of info_ids id.0) refl h
  where
    rs : List RawItem
    rs = raw_items (all_fields o) e

    known : one_of info_ids id.0 ≡ true → all_fields n (Info id) ≡ update (all_fields o) e (Info id)
    known i = ap (map plain) (v id.0) ∙ infos_same streams (raw_items (all_fields o) e) id (info_values o id.0) i rules

    go : (t : Bool) → one_of info_ids id.0 ≡ t → IsFieldName (Info id) ⊎ Rattle.field_model.specs.Kind.NamesFields e → all_fields n (Info id) ≡ update (all_fields o) e (Info id)
    go true i h = known i
    go false i (inl k) = known k
    go false i (inr names) =
        ap (map plain) (unheld_lists id.0 i (avi_of n).children)
        ∙ sym (ap (λ (x : List (List ℕ)). updated_values (raw_items (all_fields o) e) (Info id) (map plain x)) (unheld_lists id.0 i (avi_of o).children) ∙ unnamed id i (raw_items (all_fields o) e) (raws_named IsFieldName (all_fields o) e names))
read_back o n e streams rules v w (Stream k) h = ap (map plain) (w k) ∙ names_same streams (raw_items (all_fields o) e) k (nth_names k (strls (avi_of o))) rules
read_back o n e streams rules v w (Whole id) h = sym (other_name streams (Whole id) (no_whole streams id) (raw_items (all_fields o) e) rules)
read_back o n e streams rules v w (User id) h = sym (other_name streams (User id) (no_user streams id) (raw_items (all_fields o) e) rules)
read_back o n e streams rules v w (Key k) h = sym (other_name streams (Key k) (no_key streams k) (raw_items (all_fields o) e) rules)
read_back o n e streams rules v w (Bext field) h =
    sym (Rattle.std.proofs.lemmas.Bool.cond-false (list_any (λ (i : RawItem). Rattle.field_model.specs.Update.is_bext i.name) (raw_items (all_fields o) e)) _ _ (no_bext streams (raw_items (all_fields o) e) rules))
