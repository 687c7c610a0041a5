-- What is written for a file and its fields is read as an edit without an effect on them.
use Rattle.std.proofs.Common.{◌≡◌, ℕ, suc, ◌≤◌, List, [], ◌∷◌, ◌++◌, length, map, filter, Bool, true, false, ◌||◌, ◌==◌, Option, Some, None, Result, Ok, Err, refl, sym, ap, ◌∙◌, cond, arith, append-nil, append_assoc}
use Rattle.std.specs.Prelude.{codes, if◌then◌else◌, is_none, is_some, nat_lt}
use Rattle.std.specs.List.{AllByRecursion}
use Rattle.std.specs.Str.{chars, is_utf8}
use Rattle.std.proofs.lemmas.Bool.{le-ltb}
use lib.Utf8.{encode}
use Rattle.bstr.specs.Text.{lines_of}
use Rattle.part_tree.specs.declared.field.Change.TheVariants.{Set}
use Rattle.part_tree.specs.declared.field.EditItem.{EditItem}
use Rattle.part_tree.specs.declared.field.FieldName.{FieldName}
use Rattle.part_tree.specs.declared.fields.Entry.{Entry}
use Rattle.part_tree.specs.Fields.{Ascends, IsMap, names, values}
use Rattle.part_tree.specs.Names.{field_place}
use Rattle.part_tree.proofs.Places.{bytes_refl}
use Rattle.field_model.specs.Fields.{FieldMap}
use Rattle.field_model.specs.Texts.{field_name}
use Rattle.field_model.specs.Update.{effective}
use Rattle.core_edit.specs.Exported.{label, shown_in, table_text}
use Rattle.core_table.specs.Answers.{and_then}
use Rattle.core_table.specs.Sets.{has}
use Rattle.core_table.specs.declared.fault.TableFault.{TableFault}
use Rattle.core_table.specs.declared.fault.TableFault.TheVariants.{Line, Long}
use Rattle.core_table.specs.declared.fault.TheConstants.{MOST_BYTES}
use Rattle.core_table.proofs.Names.{text_named}
use Rattle.core_xml.specs.Lines.{block_end, declaration, table_begin, table_end}
use Rattle.core_xml.specs.Table.{after_begin, after_field, after_form, after_line, begin_other, begin_own, item, moved, read_lines, start, table}
use Rattle.core_xml.specs.Written as spec
use Rattle.core_xml.specs.Written.{AreBytes}
use Rattle.core_xml.specs.declared.line.FieldLine.{FieldLine}
use Rattle.core_xml.specs.declared.place.Place.TheVariants as at
use Rattle.core_xml.specs.declared.reading.Reading.{Reading}
use Rattle.core_xml.proofs.Exported.{idle, named, shown_text, some_text}
use Rattle.core_xml.proofs.Forms.{field_is_line, field_read, field_utf8, file_is_line, file_read, file_utf8}
use Rattle.core_table.proofs.Fresh.{Before, more_before, new_name}
use Rattle.core_xml.proofs.Labels.{label_bytes}
use Rattle.core_xml.proofs.Split.{IsLine, joined, joined-append, split}

-- ---- the lines

line_of : FieldMap → FieldName → List ℕ
line_of f name = spec.field_line (label name) (shown_in f name)

-- the lines of the fields of which a table shows a text
abbrev field_lines : FieldMap → List FieldName → List (List ℕ)
field_lines f ns = map (line_of f) (filter (λ name. is_some (table_text f name)) ns)

abbrev tail : List (List ℕ)
tail = block_end ∷ table_end ∷ []

abbrev all_lines : FieldMap → List ℕ → List FieldName → List (List ℕ)
all_lines f file ns = declaration ∷ table_begin ∷ spec.file_line file ∷ field_lines f ns ++ tail

names_joined : (f : FieldMap) (ns : List FieldName) → joined (map (line_of f) ns) ≡ spec.lines_of_names f ns
unfolding line_of
names_joined f [] = refl
names_joined f (n ∷ ns) = ap (λ (t : List ℕ). spec.field_line (label n) (shown_in f n) ++ t) (names_joined f ns)

regroup : (a b c d e g : List ℕ) → ((((a ++ b) ++ c) ++ d) ++ e) ++ g ≡ a ++ (b ++ (c ++ (d ++ (e ++ g))))
regroup a b c d e g = simp append_assoc

tail_joined : joined tail ≡ block_end ++ table_end
tail_joined = ap (λ (t : List ℕ). block_end ++ t) (append-nil table_end)

block_joined : (file : List ℕ) (fields : List Entry) → joined (all_lines (values fields) file (names fields)) ≡ spec.block file fields
block_joined file fields =
    let f = values fields in
    let shown = filter (λ name. is_some (table_text f name)) (names fields) in
    let inner : joined (map (line_of f) shown ++ tail) ≡ spec.lines f (names fields) ++ (block_end ++ table_end) =
    joined-append (map (line_of f) shown) tail ∙ ap (λ (t : List ℕ). t ++ joined tail) (names_joined f shown) ∙ ap (λ (t : List ℕ). spec.lines_of_names f shown ++ t) tail_joined in
    ap (λ (t : List ℕ). declaration ++ (table_begin ++ (spec.file_line file ++ t))) inner
    ∙ sym (regroup declaration table_begin (spec.file_line file) (spec.lines f (names fields)) block_end table_end)

fields_are_lines : (f : FieldMap) (es : List Entry) (low : ℕ) → Ascends low es → ((name : FieldName) → AreBytes (shown_in f name)) → AllByRecursion IsLine (field_lines f (names es) ++ tail)
unfolding line_of
fields_are_lines f [] low asc small =
    (record { front = codes "</File>"; free = refl; is = refl }, (record { front = codes "</Core>"; free = refl; is = refl }, tt))
fields_are_lines f (e ∷ es) low asc small = go (is_some (table_text f e.name)) (fields_are_lines f es (suc (field_place e.name)) asc.3 small)
  where
    kept_names : List FieldName
    kept_names = filter (λ name. is_some (table_text f name)) (names es)

    go : (t : Bool) → AllByRecursion IsLine (map (line_of f) kept_names ++ tail) → AllByRecursion IsLine (map (line_of f) (cond t (e.name ∷ kept_names) kept_names) ++ tail)
    go false rest = rest
    go true rest = (field_is_line (label e.name) (shown_in f e.name) (label_bytes e.name asc.1) (small e.name), rest)

-- ---- the fields

-- in the file's block, behind these names and items
abbrev inside : List (List ℕ) → List EditItem → Reading
inside seen items = record { place = at.Fields; block = 1; own = true; seen = seen; found = Some 1; items = items }

utf8_step : (r : Reading) (file : List ℕ) (n : ℕ) (line : List ℕ) → is_utf8 line ≡ true → after_line r file n line ≡ after_form r file n line r.place
utf8_step r file n line h = ap (λ (t : Bool). if t then after_form r file n line r.place else Err (Line n)) h

abbrev one_item : FieldName → List ℕ → EditItem
one_item name text = record { name = name; change = Set text }

field_step : (file seen_name text : List ℕ) (seen : List (List ℕ)) (done : List EditItem) (n : ℕ) (name : FieldName) → AreBytes seen_name → AreBytes text → (length text == 0) ≡ false → field_name seen_name ≡ Some name → has seen seen_name ≡ false
    → after_line (inside seen done) file n (spec.field_line seen_name text) ≡ Ok (inside (seen ++ seen_name ∷ []) (done ++ one_item name text ∷ []))
field_step file seen_name text seen done n name small bytes full is new =
    let line = spec.field_line seen_name text in
    let r = inside seen done in
    let said : FieldLine = record { name = seen_name; change = Set text } in
    utf8_step r file n line (field_utf8 seen_name text small bytes)
    ∙ ap (after_field r n) (field_read seen_name text small bytes full)
    ∙ ap (λ (o : Option FieldName). if is_none o || has seen seen_name then Err (Line n) else Ok (inside (seen ++ seen_name ∷ []) (done ++ item o (Set text)))) is
    ∙ ap (λ (t : Bool). if t then Err (Line n) else Ok (inside (seen ++ seen_name ∷ []) (done ++ one_item name text ∷ []))) new

end_utf8 : is_utf8 block_end ≡ true
unfolding is_utf8 chars encode
end_utf8 = refl

table_end_utf8 : is_utf8 table_end ≡ true
unfolding is_utf8 chars encode
table_end_utf8 = refl

declaration_utf8 : is_utf8 declaration ≡ true
unfolding is_utf8 chars encode
declaration_utf8 = refl

table_begin_utf8 : is_utf8 table_begin ≡ true
unfolding is_utf8 chars encode
table_begin_utf8 = refl

step : (r next : Reading) (file : List ℕ) (n : ℕ) (line : List ℕ) (rest : List (List ℕ)) → after_line r file n line ≡ Ok next → read_lines r file n (line ∷ rest) ≡ read_lines next file (suc n) rest
step r next file n line rest is = ap (λ (t : Result Reading TableFault). and_then t (λ s. read_lines s file (suc n) rest)) is

tail_step : (file : List ℕ) (n : ℕ) (seen : List (List ℕ)) (done : List EditItem) → read_lines (inside seen done) file n tail ≡ Ok done
tail_step file n seen done =
    step (inside seen done) (moved (inside seen done) at.Blocks) file n block_end (table_end ∷ []) (utf8_step (inside seen done) file n block_end end_utf8)
    ∙ step (moved (inside seen done) at.Blocks) (moved (inside seen done) at.End) file (suc n) table_end [] (utf8_step (moved (inside seen done) at.Blocks) file (suc n) table_end table_end_utf8)

-- the items of the lines of fields: they are there, and none has an effect
fields_idle : (f : FieldMap) (file : List ℕ) (es : List Entry) (low n : ℕ) (seen : List (List ℕ)) (done : List EditItem) → Ascends low es → Before low seen → ((name : FieldName) → AreBytes (shown_in f name))
    → (items : List EditItem) × (read_lines (inside seen done) file n (field_lines f (names es) ++ tail) ≡ Ok (done ++ items)) × (effective f items ≡ [])
unfolding line_of
fields_idle f file [] low n seen done asc before small = ([], tail_step file n seen done ∙ ap (λ (xs : List EditItem). Ok xs) (sym (append-nil done)), refl)
fields_idle f file (e ∷ es) low n seen done asc before small =
    go (is_some (table_text f e.name)) refl (λ m s d behind. fields_idle f file es (suc (field_place e.name)) m s d asc.3 behind small)
  where
    kept_names : List FieldName
    kept_names = filter (λ name. is_some (table_text f name)) (names es)

    go : (t : Bool) → is_some (table_text f e.name) ≡ t
        → ((m : ℕ) (s : List (List ℕ)) (d : List EditItem) → Before (suc (field_place e.name)) s
        → (items : List EditItem) × (read_lines (inside s d) file m (map (line_of f) kept_names ++ tail) ≡ Ok (d ++ items)) × (effective f items ≡ []))
        → (items : List EditItem) × (read_lines (inside seen done) file n (map (line_of f) (cond t (e.name ∷ kept_names) kept_names) ++ tail) ≡ Ok (done ++ items)) × (effective f items ≡ [])
    go false shows more = more n seen done (λ t there g is. omega (arith, before t there g is, asc.0))
    go true shows more =
        let text = shown_in f e.name in
        let told = shown_text f e.name text (some_text (table_text f e.name) shows) in
        let is = text_named e.name (label e.name) (named f e.name asc.1 shows) in
        let one = one_item e.name text in
        let seen2 = seen ++ label e.name ∷ [] in
        let rest = more (suc n) seen2 (done ++ one ∷ []) (more_before low seen e.name (label e.name) asc.0 is before) in
        let here = field_step file (label e.name) text seen done n e.name (label_bytes e.name asc.1) (small e.name) told.1 is (new_name low seen e.name (label e.name) asc.0 is before) in (
          one ∷ rest.0,
          step (inside seen done) (inside seen2 (done ++ one ∷ [])) file n (spec.field_line (label e.name) text) (map (line_of f) kept_names ++ tail) here
              ∙ rest.1 ∙ ap (λ (xs : List EditItem). Ok xs) (append_assoc done (one ∷ []) rest.0),
          ap (λ (u : Bool). cond u (one ∷ effective f rest.0) (effective f rest.0)) (idle f e.name text told.0) ∙ rest.2,
        )

-- ---- the table

head_step : (file : List ℕ) (rest : List (List ℕ)) → AreBytes file → read_lines start file 1 (declaration ∷ table_begin ∷ spec.file_line file ∷ rest) ≡ read_lines (inside [] []) file 4 rest
head_step file rest small =
    let blocks = moved start at.Blocks in
    step start (moved start at.Table) file 1 declaration (table_begin ∷ spec.file_line file ∷ rest) (utf8_step start file 1 declaration declaration_utf8)
    ∙ step (moved start at.Table) blocks file 2 table_begin (spec.file_line file ∷ rest) (utf8_step (moved start at.Table) file 2 table_begin table_begin_utf8)
    ∙ step blocks (inside [] []) file 3 (spec.file_line file) rest
    (
    utf8_step blocks file 3 (spec.file_line file) (file_utf8 file small)
    ∙ ap (after_begin blocks file 3) (file_read file small)
    ∙ ap (λ (t : Bool). if t then begin_own blocks None else Ok (begin_other blocks)) (bytes_refl file)
    )

-- What is written is read as an edit without an effect.
pub written_idle : (file : List ℕ) (fields : List Entry) → IsMap fields → AreBytes file → ((name : FieldName) → AreBytes (shown_in (values fields) name))
    → length (spec.block file fields) ≤ MOST_BYTES → (items : List EditItem) × (table (spec.block file fields) file ≡ Ok items) × (effective (values fields) items ≡ [])
written_idle file fields ordered bytes small short =
    let f = values fields in
    let text = spec.block file fields in
    let rest = field_lines f (names fields) ++ tail in
    let within : nat_lt MOST_BYTES (length text) ≡ false = le-ltb MOST_BYTES (length text) short in
    let are : AllByRecursion IsLine (all_lines f file (names fields)) = (
      record { front = codes "<?xml version=\"1.0\" encoding=\"UTF-8\"?>"; free = refl; is = refl },
      (record { front = codes "<Core>"; free = refl; is = refl }, (file_is_line file bytes, fields_are_lines f fields 0 ordered small)),
    ) in
    let all : lines_of text ≡ all_lines f file (names fields) = ap lines_of (sym (block_joined file fields)) ∙ split (all_lines f file (names fields)) are in
    let items = fields_idle f file fields 0 4 [] [] ordered (λ t there g named. absurd cc) small in (
      items.0,
      ap (λ (u : Bool). if u then Err Long else read_lines start file 1 (lines_of text)) within ∙ ap (read_lines start file 1) all ∙ head_step file rest bytes ∙ items.1,
      items.2,
    )
