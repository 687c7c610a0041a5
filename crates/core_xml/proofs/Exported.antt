-- The fields of which a table shows a text: each has a name, and setting that text has no effect.
use Rattle.std.proofs.Common.{◌≡◌, ℕ, List, [], ◌∷◌, length, Bool, true, false, ◌||◌, ◌==◌, not, Option, Some, None, refl, sym, ap, ◌∙◌, cond}
use Rattle.std.specs.Prelude.{is_some}
use Rattle.std.proofs.lemmas.Bool.{cond-true, false≢true}
use Rattle.part_tree.specs.declared.field.BextField.TheVariants as bext
use Rattle.part_tree.specs.declared.field.Change.TheVariants.{Set}
use Rattle.part_tree.specs.declared.field.FieldName.{FieldName}
use Rattle.part_tree.specs.declared.field.FieldName.TheVariants.{Bext, Info, Whole, User, Key, Stream}
use Rattle.part_tree.specs.declared.field.Value.{Value}
use Rattle.part_tree.specs.Names.{is_field_name, same_name}
use Rattle.part_tree.proofs.Places.{bytes_refl}
use Rattle.field_model.specs.Fields.{FieldMap}
use Rattle.field_model.specs.Texts.{name_text, text_of}
use Rattle.field_model.specs.Update.{has_effect, only_shown, same_text, shown_spelled}
use Rattle.field_model.specs.Raw.{raw_of}
use Rattle.core_edit.specs.Exported.{label, or_nothing, some_bytes, table_text}

pub some_text : (o : Option (List ℕ)) → is_some o ≡ true → o ≡ Some (or_nothing o)
some_text None h = absurd cc
some_text (Some t) h = refl

reserved_none : (f : FieldMap) (vs : List Value) → is_some (some_bytes (only_shown f (Bext bext.Reserved) vs)) ≡ false
reserved_none f [] = refl
reserved_none f (v ∷ []) = refl
reserved_none f (v ∷ w ∷ vs) = refl

with_text : (name : FieldName) (t : List ℕ) → is_field_name name ≡ true → text_of name ≡ Some t → name_text name ≡ Some t
with_text name t is has = cond-true (is_field_name name) (text_of name) None is ∙ has

-- it has a text
pub named : (f : FieldMap) (name : FieldName) → is_field_name name ≡ true → is_some (table_text f name) ≡ true → name_text name ≡ Some (label name)
named f name is shows = some_text (name_text name) (go name is shows)
  where
    go : (n : FieldName) → is_field_name n ≡ true → is_some (table_text f n) ≡ true → is_some (name_text n) ≡ true
    go (Bext bext.Reserved) is shows = absurd (false≢true (sym (reserved_none f (f (Bext bext.Reserved))) ∙ shows))
    go (Bext bext.Description) is shows = refl
    go (Bext bext.Originator) is shows = refl
    go (Bext bext.OriginatorReference) is shows = refl
    go (Bext bext.OriginationDate) is shows = refl
    go (Bext bext.OriginationTime) is shows = refl
    go (Bext bext.TimeReference) is shows = refl
    go (Bext bext.Version) is shows = refl
    go (Bext bext.Umid) is shows = refl
    go (Bext bext.LoudnessValue) is shows = refl
    go (Bext bext.LoudnessRange) is shows = refl
    go (Bext bext.MaxTruePeakLevel) is shows = refl
    go (Bext bext.MaxMomentaryLoudness) is shows = refl
    go (Bext bext.MaxShortTermLoudness) is shows = refl
    go (Bext bext.CodingHistory) is shows = refl
    go (Info id) is shows = ap is_some (with_text (Info id) _ is refl)
    go (Whole id) is shows = ap is_some (with_text (Whole id) _ is refl)
    go (User id) is shows = ap is_some (with_text (User id) _ is refl)
    go (Key k) is shows = ap is_some (with_text (Key k) _ is refl)
    go (Stream n) is shows = ap is_some (with_text (Stream n) _ is refl)

abbrev is_empty_text : Option (List ℕ) → Bool
is_empty_text None = true
is_empty_text (Some x) = length x == 0

-- the text is that of its only value, and isn't empty
pub shown_text : (f : FieldMap) (name : FieldName) (t : List ℕ) → table_text f name ≡ Some t → (only_shown f name (f name) ≡ Some t) × ((length t == 0) ≡ false)
shown_text f name t h = go (same_name name (Bext bext.Version)) (only_shown f name (f name)) refl h
  where
    inner : (s : List ℕ) (u : Bool) → (length s == 0) ≡ u → cond u None (Some s) ≡ Some t → (Some s ≡ Some t) × ((length t == 0) ≡ false)
    inner s true e h = absurd cc
    inner s false e h = (h, ap is_empty_text (sym h) ∙ e)

    go : (u : Bool) (o : Option (List ℕ)) → only_shown f name (f name) ≡ o → cond u None (some_bytes o) ≡ Some t → (only_shown f name (f name) ≡ Some t) × ((length t == 0) ≡ false)
    go true o e h = absurd cc
    go false None e h = absurd cc
    go false (Some s) e h = let p = inner s (length s == 0) refl h in (e ∙ p.0, p.1)

-- setting it has no effect
pub idle : (f : FieldMap) (name : FieldName) (t : List ℕ) → only_shown f name (f name) ≡ Some t → has_effect f (record { name = name; change = Set t }) ≡ false
idle f name t shows =
    ap (λ (o : Option (List ℕ)). not (same_text o (Some t) || same_text o (shown_spelled f name (raw_of name t)))) shows
    ∙ ap (λ (u : Bool). not (u || same_text (Some t) (shown_spelled f name (raw_of name t)))) (bytes_refl t)
