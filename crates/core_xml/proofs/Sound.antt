-- The items of the file's block are sound, at each line.
use Rattle.std.proofs.Common.{◌≡◌, ℕ, suc, ◌+◌, ◌<◌, List, [], ◌∷◌, ◌++◌, length, Bool, true, false, ◌||◌, ◌==◌, Option, Some, None, Result, Ok, Err, refl, sym, ap, ◌∙◌, inl, inr, subst, arith, drop, take}
use Rattle.std.specs.Prelude.{◌⊎◌, is_none, is_some, if◌then◌else◌, codes}
use Rattle.std.specs.List.{position_or_len}
use Rattle.std.specs.Str.{bytes_eq, is_utf8}
use Rattle.std.proofs.lemmas.Bool.{false≢true, or_from, or_parts}
use Rattle.part_tree.specs.declared.field.Change.{Change}
use Rattle.part_tree.specs.declared.field.EditItem.{EditItem}
use Rattle.part_tree.specs.declared.field.FieldName.{FieldName}
use Rattle.part_tree.specs.Names.{same_name}
use Rattle.part_tree.proofs.Places.{bytes_refl, same_is_equal}
use Rattle.field_model.specs.Texts.{field_name, name_text}
use Rattle.core_edit.specs.Edits.{AreSound, is_empty_set, names_one}
use Rattle.core_table.specs.Sets.{has}
use Rattle.core_table.specs.declared.fault.TableFault.{TableFault}
use Rattle.core_table.specs.declared.fault.TableFault.TheVariants.{Line}
use Rattle.core_table.proofs.Names.{named_text, one_text}
use Rattle.core_xml.specs.Lines.{between, block_end, declaration, field_line, file_line, is_quote, removed, set_in, set_line, set_to, table_begin, table_end, text_in}
use Rattle.core_xml.specs.Lines as lines
use Rattle.core_xml.specs.Markup.{text_of}
use Rattle.core_xml.specs.Table as spec
use Rattle.core_xml.specs.Table.{IsLike, LeadsTo, after_begin, after_field, after_fixed, after_form, after_line, begin_other, begin_own, item, kept, moved, start}
use Rattle.core_xml.specs.declared.line.FieldLine.{FieldLine}
use Rattle.core_xml.specs.declared.place.Place.{Place}
use Rattle.core_xml.specs.declared.place.Place.TheVariants as at
use Rattle.core_xml.specs.declared.reading.Reading.{Reading}
use Rattle.core_table.proofs.Fresh.{has-append}

-- each of the items has a name that is among these
abbrev Among : List (List ℕ) → List EditItem → Type 0
Among seen items = (name : FieldName) (text : List ℕ) → names_one name items ≡ true → field_name text ≡ Some name → has seen text ≡ true

-- a reading before line n
pub record IsFine (n : ℕ) (r : Reading) : Type 0 where
  pub sound : AreSound r.items
  pub among : r.own ≡ true → Among r.seen r.items
  pub none : r.found ≡ None → (r.own ≡ false) × (r.items ≡ [])
  pub few : r.block < n

pub fine_start : IsFine 1 start
fine_start = record { sound = tt; among = λ h. absurd (false≢true h); none = λ h. (refl, refl); few = omega arith }

like_fine : (n : ℕ) (a b : Reading) → IsLike a b → IsFine n a → IsFine n b
like_fine n a b like fine = subst (IsFine n) (sym like.fields) (record {
  sound = fine.sound;
  among = λ own name text there named. sym (like.names text) ∙ fine.among own name text there named;
  none = fine.none;
  few = fine.few;
})

later : (n : ℕ) (r : Reading) (place : Place) → IsFine n r → IsFine (suc n) (moved r place)
later n r place fine = record { sound = fine.sound; among = fine.among; none = fine.none; few = omega (arith, fine.few) }

-- what comes of a step, where it is no fault
abbrev FineOk : ℕ → Result Reading TableFault → Type 0
FineOk n (Ok r) = IsFine n r
FineOk n (Err f) = Unit {0}

fixed_fine : (n : ℕ) (r : Reading) (t : Bool) (next : Place) → IsFine n r → FineOk (suc n) (if t then Ok (moved r next) else Err (Line n))
fixed_fine n r true next fine = later n r next fine
fixed_fine n r false next fine = tt

own_fine : (n : ℕ) (r : Reading) (found : Option ℕ) → r.found ≡ found → IsFine n r → FineOk (suc n) (begin_own r found)
own_fine n r (Some first) is fine = tt
own_fine n r None is fine =
    let empty : r.items ≡ [] = (fine.none is).1 in
    record {
      sound = fine.sound;
      among = λ own name text there named. absurd (false≢true (sym (ap (names_one name) empty) ∙ there));
      none = λ h. absurd cc;
      few = omega (arith, fine.few);
    }

other_fine : (n : ℕ) (r : Reading) → IsFine n r → IsFine (suc n) (begin_other r)
other_fine n r fine = record { sound = fine.sound; among = λ h. absurd (false≢true h); none = λ h. (refl, (fine.none h).1); few = omega (arith, fine.few) }

begin_fine : (n : ℕ) (r : Reading) (file : List ℕ) (name : Option (List ℕ)) → IsFine n r → FineOk (suc n) (after_begin r file n name)
begin_fine n r file None fine = tt
begin_fine n r file (Some name) fine = go (bytes_eq name file)
  where
    go : (t : Bool) → FineOk (suc n) (if t then begin_own r r.found else Ok (begin_other r))
    go true = own_fine n r r.found refl fine
    go false = other_fine n r fine

-- ---- an item more

names_more : (name : FieldName) (items : List EditItem) (i : EditItem) → names_one name (items ++ i ∷ []) ≡ (names_one name items || same_name i.name name)
names_more name [] i = go (same_name i.name name)
  where
    go : (t : Bool) → (t || false) ≡ t
    go true = refl
    go false = refl
names_more name (j ∷ items) i = go (same_name j.name name) (names_more name items i)
  where
    go : (t : Bool) → names_one name (items ++ i ∷ []) ≡ (names_one name items || same_name i.name name) → (t || names_one name (items ++ i ∷ [])) ≡ ((t || names_one name items) || same_name i.name name)
    go true e = refl
    go false e = e

sound_more : (items : List EditItem) (i : EditItem) → AreSound items → is_some (name_text i.name) ≡ true → is_empty_set i.change ≡ false → names_one i.name items ≡ false → AreSound (items ++ i ∷ [])
sound_more [] i sound named full new = (named, full, refl, tt)
sound_more (j ∷ items) i sound named full new =
    let parts = or_parts (same_name j.name i.name) (names_one i.name items) new in
    (sound.0, sound.1, names_more j.name items i ∙ or_from (names_one j.name items) (same_name i.name j.name) sound.2 (turned parts.0), sound_more items i sound.3 named full parts.1)
  where
    turned : same_name j.name i.name ≡ false → same_name i.name j.name ≡ false
    turned differ = go (same_name i.name j.name) refl
      where
        go : (t : Bool) → same_name i.name j.name ≡ t → t ≡ false
        go false e = refl
        go true e = let equal = same_is_equal i.name j.name e in absurd (false≢true (sym differ ∙ ap (λ (x : FieldName). same_name x i.name) (sym equal) ∙ Rattle.part_tree.proofs.Places.same_refl i.name))

-- the reading that has taken a field
abbrev with_item : Reading → FieldLine → Bool → Option FieldName → Reading
with_item r said own name = record r { seen = r.seen ++ said.name ∷ []; items = kept own r.items (item name said.change) }

either : (s t : Bool) → (s || t) ≡ true → (s ≡ true) ⊎ (t ≡ true)
either true t h = inl refl
either false t h = inr h

or_right : (s t : Bool) → t ≡ true → (s || t) ≡ true
or_right true t h = refl
or_right false t h = h

or_left : (s t : Bool) → s ≡ true → (s || t) ≡ true
or_left true t h = refl
or_left false t h = absurd (false≢true h)

own_item : (n : ℕ) (r : Reading) (said : FieldLine) (name : FieldName) → r.own ≡ true → field_name said.name ≡ Some name → is_empty_set said.change ≡ false → has r.seen said.name ≡ false → IsFine n r
    → IsFine (suc n) (with_item r said true (Some name))
own_item n r said name own is full new fine = record {
  sound = sound_more r.items one fine.sound (ap is_some (named_text said.name name is)) full (other (names_one name r.items) refl);
  among = λ h g text there named. has-append r.seen said.name text ∙ among g text named (either (names_one g r.items) (same_name name g) (sym (names_more g r.items one) ∙ there));
  none = λ h. absurd (false≢true (sym (fine.none h).0 ∙ own));
  few = omega (arith, fine.few);
}
  where
    one : EditItem
    one = record { name = name; change = said.change }

    other : (t : Bool) → names_one name r.items ≡ t → t ≡ false
    other false e = refl
    other true e = absurd (false≢true (sym new ∙ fine.among own name said.name e is))

    among : (g : FieldName) (text : List ℕ) → field_name text ≡ Some g → (names_one g r.items ≡ true) ⊎ (same_name name g ≡ true) → (bytes_eq text said.name || has r.seen text) ≡ true
    among g text named (inl there) = or_right (bytes_eq text said.name) (has r.seen text) (fine.among own g text there named)
    among g text named (inr same) =
        let equal : name ≡ g = same_is_equal name g same in
        let one_name : text ≡ said.name = one_text text said.name g named (is ∙ ap Some equal) in
        or_left (bytes_eq text said.name) (has r.seen text) (ap (λ (t : List ℕ). bytes_eq t said.name) one_name ∙ bytes_refl said.name)

item_fine : (n : ℕ) (r : Reading) (said : FieldLine) (own : Bool) (name : FieldName) → r.own ≡ own → field_name said.name ≡ Some name → is_empty_set said.change ≡ false → has r.seen said.name ≡ false → IsFine n r
    → IsFine (suc n) (with_item r said own (Some name))
item_fine n r said true name is_own is full new fine = own_item n r said name is_own is full new fine
item_fine n r said false name is_own is full new fine =
    record { sound = fine.sound; among = λ h. absurd (false≢true (sym is_own ∙ h)); none = fine.none; few = omega (arith, fine.few) }

take_fine : (n : ℕ) (r : Reading) (said : FieldLine) → is_empty_set said.change ≡ false → IsFine n r → FineOk (suc n) (spec.take r n said)
take_fine n r said full fine = go (field_name said.name) (has r.seen said.name) refl refl
  where
    go : (o : Option FieldName) (t : Bool) → field_name said.name ≡ o → has r.seen said.name ≡ t → FineOk (suc n) (if is_none o || t then Err (Line n) else Ok (with_item r said r.own o))
    go None t e new = tt
    go (Some name) true e new = tt
    go (Some name) false e new = item_fine n r said r.own name refl e full new fine

-- ---- no line sets an empty text

abbrev FullSome : Option FieldLine → Type 0
FullSome None = Unit {0}
FullSome (Some said) = is_empty_set said.change ≡ false

set_full : (name text : Option (List ℕ)) → FullSome (set_to name text)
set_full None text = tt
set_full (Some name) None = tt
set_full (Some name) (Some text) = go (length text == 0) refl
  where
    go : (t : Bool) → (length text == 0) ≡ t → FullSome (if t then None else Some (record { name = name; change = Rattle.part_tree.specs.declared.field.Change.TheVariants.Set text }))
    go true e = tt
    go false e = e

removed_full : (name : Option (List ℕ)) → FullSome (removed name)
removed_full None = tt
removed_full (Some name) = refl

in_full : (inner name : Option (List ℕ)) → FullSome (set_in inner name)
in_full (Some inner) name = set_full (text_of (take (position_or_len is_quote inner) inner)) (text_in (lines.behind (codes "\">") (drop (position_or_len is_quote inner) inner)))
in_full None (Some name) = removed_full (text_of name)
in_full None None = tt

-- ---- a line more

field_fine : (n : ℕ) (r : Reading) (said : Option FieldLine) → FullSome said → IsFine n r → FineOk (suc n) (after_field r n said)
field_fine n r None full fine = tt
field_fine n r (Some said) full fine = take_fine n r said full fine

form_fine : (n : ℕ) (r : Reading) (file line : List ℕ) (place : Place) → IsFine n r → FineOk (suc n) (after_form r file n line place)
form_fine n r file line at.Declaration fine = fixed_fine n r (bytes_eq line declaration) at.Table fine
form_fine n r file line at.Table fine = fixed_fine n r (bytes_eq line table_begin) at.Blocks fine
form_fine n r file line at.Blocks fine = go (bytes_eq line table_end)
  where
    go : (t : Bool) → FineOk (suc n) (if t then Ok (moved r at.End) else after_begin r file n (file_line line))
    go true = later n r at.End fine
    go false = begin_fine n r file (file_line line) fine
form_fine n r file line at.Fields fine = go (bytes_eq line block_end)
  where
    go : (t : Bool) → FineOk (suc n) (if t then Ok (moved r at.Blocks) else after_field r n (field_line line))
    go true = later n r at.Blocks fine
    go false = field_fine n r (field_line line) (in_full (between (codes "<Field name=\"") (codes "</Field>\n") line) (between (codes "<Remove name=\"") (codes "\"/>\n") line)) fine
form_fine n r file line at.End fine = tt

line_fine : (n : ℕ) (r : Reading) (file line : List ℕ) → IsFine n r → FineOk (suc n) (after_line r file n line)
line_fine n r file line fine = go (is_utf8 line)
  where
    go : (t : Bool) → FineOk (suc n) (if t then after_form r file n line r.place else Err (Line n))
    go true = form_fine n r file line r.place fine
    go false = tt

led_fine : (n : ℕ) (expected : Result Reading TableFault) (got : Reading) → FineOk n expected → LeadsTo expected (Ok got) → IsFine n got
led_fine n (Ok r) got fine leads = like_fine n r got leads fine
led_fine n (Err f) got fine leads = absurd leads

-- a line further
pub fine_after : (n : ℕ) (r new : Reading) (file line : List ℕ) → IsFine n r → LeadsTo (after_line r file n line) (Ok new) → IsFine (n + 1) new
fine_after n r new file line fine leads = subst (λ (m : ℕ). IsFine m new) (omega arith) (led_fine (suc n) (after_line r file n line) new (line_fine n r file line fine) leads)
