-- The items of an edit that breaks no basic rule are such as their fields can have.
use Rattle.std.proofs.Common.{◌≡◌, ℕ, ◌-◌, ◌^◌, ◌≤◌, Bool, true, false, cond, ltb, eqb, List, [], ◌∷◌, ◌++◌, length, replicate, Option, Some, None, refl, sym, ap, ◌∙◌, arith}
use Rattle.std.specs.Prelude.{◌||◌, ◌&&◌, nat_lt, not, codes, option_map, unwrap_or}
use Rattle.std.specs.Str.{bytes_eq}
use Rattle.std.specs.List.{filter_map, cons_option, AllByRecursion}
use Rattle.std.proofs.lemmas.Bool.{ltb-false, and_parts, eqb-true}
use Rattle.std.proofs.lemmas.List.{length-append, length-replicate}
use Rattle.part_tree.specs.declared.field.BextField.{BextField}
use Rattle.part_tree.specs.declared.field.BextField.TheVariants.{Description, Originator, OriginatorReference, OriginationDate, OriginationTime, TimeReference, Version, Umid, LoudnessValue, LoudnessRange, MaxTruePeakLevel, MaxMomentaryLoudness, MaxShortTermLoudness, Reserved, CodingHistory}
use Rattle.part_tree.specs.declared.field.Change.{Change}
use Rattle.part_tree.specs.declared.field.Change.TheVariants.{Set, Remove}
use Rattle.part_tree.specs.declared.field.EditItem.{EditItem}
use Rattle.part_tree.specs.declared.field.FieldName.{FieldName}
use Rattle.part_tree.specs.declared.field.FieldName.TheVariants.{Bext, Info, Whole, User, Key, Stream}
use Rattle.part_tree.specs.declared.field.RuleSet.TheVariants.{Base}
use Rattle.part_tree.specs.declared.names.Kind.{Kind}
use Rattle.part_tree.specs.Names.{bext_row}
use Rattle.field_model.specs.Bext.{blank}
use Rattle.field_model.specs.Broken.{set_fails, broken}
use Rattle.field_model.specs.KindFacts.{facts, has_field, is_movie}
use Rattle.field_model.specs.Fields.{FieldMap}
use Rattle.field_model.specs.Numbers.{is_hex, hex_bytes}
use Rattle.field_model.specs.Raw.{raw_of, raw_whole}
use Rattle.field_model.specs.Rules.{too_long}
use Rattle.field_model.specs.Update.{RawItem, effective, written, raw_change, raw_item, raw_items}
use Rattle.field_model.proofs.Fits.{raw_fills, blank_fills}
use Rattle.field_model.proofs.Kept.{Kept, base_kept}
use Rattle.wave_model.proofs.Values.{ItemFine, ItemsFine}

-- a kind whose files have neither user data nor streams
abbrev pub HasNeither : Kind → Type 0
HasNeither kind = (is_movie kind ≡ false) × ((facts kind).has_streams ≡ false)

module _ (kind : Kind) (f : FieldMap) (e : List EditItem) where
  -- ---- the bytes of an item

  or_parts : (a b : Bool) → (a || b) ≡ false → (a ≡ false) × (b ≡ false)
  or_parts true b h = absurd cc
  or_parts false b h = (refl, h)

  some_is : (a b : List ℕ) → Some a ≡ Some b → a ≡ b
  some_is a b h = ap (λ (o : Option (List ℕ)). unwrap_or o []) h

  hex_short : (text : List ℕ) → length (hex_bytes text) ≤ length text
  hex_short [] = omega arith
  hex_short (a ∷ []) = omega arith
  hex_short (a ∷ b ∷ text) = omega (arith, hex_short text)

  history : (field : BextField) (text raw : List ℕ) → raw_of (Bext field) text ≡ Some raw → too_long (Bext field) text ≡ false → bext_row field ≡ 14 → length raw ≤ 2 ^ 20
  history Description text raw h l r = absurd (omega arith)
  history Originator text raw h l r = absurd (omega arith)
  history OriginatorReference text raw h l r = absurd (omega arith)
  history OriginationDate text raw h l r = absurd (omega arith)
  history OriginationTime text raw h l r = absurd (omega arith)
  history TimeReference text raw h l r = absurd (omega arith)
  history Version text raw h l r = absurd (omega arith)
  history Umid text raw h l r = absurd (omega arith)
  history LoudnessValue text raw h l r = absurd (omega arith)
  history LoudnessRange text raw h l r = absurd (omega arith)
  history MaxTruePeakLevel text raw h l r = absurd (omega arith)
  history MaxMomentaryLoudness text raw h l r = absurd (omega arith)
  history MaxShortTermLoudness text raw h l r = absurd (omega arith)
  history Reserved text raw h l r = absurd (omega arith)
  history CodingHistory text raw h l r =
      let zeros : List ℕ = replicate (0 - length text) 0 in
      let same : text ++ zeros ≡ raw = some_is (text ++ zeros) raw h in
      let short : length text ≤ 1048576 = ltb-false 1048576 (length text) (or_parts (ltb 1048576 (length text)) false l).0 in
      omega (arith, short, ap length same, length-append text zeros, length-replicate {A = ℕ} (0 - length text) 0)

  blank_short : (field : BextField) → bext_row field ≡ 14 → length (blank field) ≤ 2 ^ 20
  blank_short Description r = absurd (omega arith)
  blank_short Originator r = absurd (omega arith)
  blank_short OriginatorReference r = absurd (omega arith)
  blank_short OriginationDate r = absurd (omega arith)
  blank_short OriginationTime r = absurd (omega arith)
  blank_short TimeReference r = absurd (omega arith)
  blank_short Version r = absurd (omega arith)
  blank_short Umid r = absurd (omega arith)
  blank_short LoudnessValue r = absurd (omega arith)
  blank_short LoudnessRange r = absurd (omega arith)
  blank_short MaxTruePeakLevel r = absurd (omega arith)
  blank_short MaxMomentaryLoudness r = absurd (omega arith)
  blank_short MaxShortTermLoudness r = absurd (omega arith)
  blank_short Reserved r = absurd (omega arith)
  blank_short CodingHistory r = omega arith

  whole_short : (id text raw : List ℕ) → raw_whole id text ≡ Some raw → (t : Bool) → bytes_eq id (codes "MD5 ") ≡ t → (not t && ltb 16777216 (length text)) ≡ false → length raw ≤ 2 ^ 24
  whole_short id text raw h true i l =
      let g : cond (is_hex 32 text) (Some (hex_bytes text)) None ≡ Some raw = sym (ap (λ (t : Bool). cond t (cond (is_hex 32 text) (Some (hex_bytes text)) None) (Some text)) i) ∙ h in
      by (is_hex 32 text) refl g
    where
      by : (t : Bool) → is_hex 32 text ≡ t → cond t (Some (hex_bytes text)) None ≡ Some raw → length raw ≤ 2 ^ 24
      by true x g = omega (arith, ap length (some_is (hex_bytes text) raw g), hex_short text, eqb-true (length text) 32 (and_parts (eqb (length text) 32) _ x).0)
      by false x g = absurd cc
  whole_short id text raw h false i l =
      let g : Some text ≡ Some raw = sym (ap (λ (t : Bool). cond t (cond (is_hex 32 text) (Some (hex_bytes text)) None) (Some text)) i) ∙ h in
      omega (arith, ap length (some_is text raw g), ltb-false 16777216 (length text) l)

  abbrev OptionFine : Option RawItem → Type 0
  OptionFine None = Unit {0}
  OptionFine (Some i) = ItemFine i.name i.value

  set_fine : HasNeither kind → (name : FieldName) (text : List ℕ) → not (has_field kind 0 name) ≡ false → too_long name text ≡ false → (o : Option (List ℕ)) → raw_of name text ≡ o → OptionFine (option_map (written name) o)
  set_fine m name text k l None h = tt
  set_fine m (Bext field) text k l (Some raw) h = (refl, raw_fills field text raw h, history field text raw h l)
  set_fine m (Info id) text k l (Some raw) h = refl
  set_fine m (Whole id) text k l (Some raw) h = (refl, whole_short id.0 text raw h (bytes_eq id.0 (codes "MD5 ")) refl l)
  set_fine m (User id) text k l (Some raw) h = let no : not (is_movie kind) ≡ true = ap not m.0 in absurd cc
  set_fine m (Key name) text k l (Some raw) h = let no : not (is_movie kind) ≡ true = ap not m.0 in absurd cc
  set_fine m (Stream n) text k l (Some raw) h = let no : not ((facts kind).has_streams && nat_lt n 0) ≡ true = ap (λ (t : Bool). not (t && nat_lt n 0)) m.1 in absurd cc

  change_fine : HasNeither kind → (name : FieldName) (change : Change) → not (has_field kind 0 name) ≡ false → set_fails too_long name change ≡ false → OptionFine (raw_change name change)
  change_fine m name (Set text) k l = set_fine m name text k l (raw_of name text) refl
  change_fine m (Bext field) Remove k l = (refl, blank_fills field, blank_short field)
  change_fine m (Info id) Remove k l = tt
  change_fine m (Whole id) Remove k l = tt
  change_fine m (User id) Remove k l = let no : not (is_movie kind) ≡ true = ap not m.0 in absurd cc
  change_fine m (Key name) Remove k l = let no : not (is_movie kind) ≡ true = ap not m.0 in absurd cc
  change_fine m (Stream n) Remove k l = let no : not ((facts kind).has_streams && nat_lt n 0) ≡ true = ap (λ (t : Bool). not (t && nat_lt n 0)) m.1 in absurd cc

  all_fine : HasNeither kind → (xs : List EditItem) → AllByRecursion (Kept kind 0) xs → ItemsFine (filter_map raw_item xs)
  all_fine m [] h = tt
  all_fine m (x ∷ xs) h = join (raw_item x) (change_fine m x.name x.change h.0.field h.0.short) (all_fine m xs h.1)
    where
      join : (o : Option RawItem) → OptionFine o → ItemsFine (filter_map raw_item xs) → ItemsFine (cons_option o (filter_map raw_item xs))
      join None h g = g
      join (Some i) h g = (h, g)

  -- The raw items of an edit that breaks no basic rule are fine.
  pub items_fine : HasNeither kind → broken kind 0 f e Base ≡ None → ItemsFine (raw_items f e)
  items_fine m h = all_fine m (effective f e) (base_kept kind 0 f e h)
