-- What holds of each name of an edit holds of each name of its items in raw bytes.
use Rattle.std.proofs.Common.{ℕ, Bool, true, false, cond, List, [], ◌∷◌, Option, Some, None}
use Rattle.std.specs.Prelude.{option_map}
use Rattle.std.specs.List.{filter_map, cons_option, AllByRecursion}
use Rattle.part_tree.specs.declared.field.Change.{Change}
use Rattle.part_tree.specs.declared.field.Change.TheVariants.{Set, Remove}
use Rattle.part_tree.specs.declared.field.EditItem.{EditItem}
use Rattle.part_tree.specs.declared.field.FieldName.{FieldName}
use Rattle.part_tree.specs.declared.field.FieldName.TheVariants.{Bext, Info, Whole, User, Key, Stream}
use Rattle.field_model.specs.Fields.{FieldMap}
use Rattle.field_model.specs.Raw.{raw_of}
use Rattle.field_model.specs.Update.{RawItem, effective, has_effect, raw_change, raw_item, raw_items, written}

module _ (P : FieldName → Type 0) where
  -- items of which each has a name of the kind
  abbrev Named : List RawItem → Type 0
  Named rs = AllByRecursion (λ (r : RawItem). P r.name) rs

  change_named : (name : FieldName) (change : Change) → P name → (rs : List RawItem) → Named rs → Named (cons_option (raw_change name change) rs)
  change_named name (Set text) n rs h = go (raw_of name text)
    where
      go : (o : Option (List ℕ)) → Named (cons_option (option_map (written name) o) rs)
      go None = h
      go (Some raw) = (n, h)
  change_named (Bext field) Remove n rs h = (n, h)
  change_named (Info id) Remove n rs h = (n, h)
  change_named (Whole id) Remove n rs h = (n, h)
  change_named (User id) Remove n rs h = (n, h)
  change_named (Key key) Remove n rs h = (n, h)
  change_named (Stream k) Remove n rs h = (n, h)

  pub raws_named : (f : FieldMap) (e : List EditItem) → AllByRecursion (λ (i : EditItem). P i.name) e → Named (raw_items f e)
  raws_named f [] h = tt
  raws_named f (i ∷ e) h = go (has_effect f i) (raws_named f e h.1)
    where
      go : (t : Bool) → Named (raw_items f e) → Named (filter_map raw_item (cond t (i ∷ effective f e) (effective f e)))
      go true g = change_named i.name i.change h.0 (raw_items f e) g
      go false g = g
