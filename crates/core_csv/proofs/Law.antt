-- What is written for a file and its fields is read as an edit without an effect on them.
use Rattle.std.proofs.Common.{◌≡◌, ℕ, suc, ◌+◌, ◌-◌, ◌≤◌, List, [], ◌∷◌, ◌++◌, length, drop, map, filter, Bool, true, false, ◌||◌, ◌&&◌, ◌==◌, not, Option, Some, None, Result, Ok, Err, refl, sym, ap, ◌∙◌, cond, arith, append-nil, ne_eqb, eq-eqb}
use Rattle.std.specs.Prelude.{codes, if◌then◌else◌, is_none, is_some, nat_lt}
use Rattle.std.specs.List.{list_all}
use Rattle.std.specs.Str.{is_utf8}
use Rattle.std.proofs.lemmas.Bool.{cond-true, false≢true, le-ltb}
use Rattle.std.proofs.lemmas.Str.{is_utf8-from_IsUtf8}
use Rattle.csv.specs.Machine.{next_record}
use Rattle.csv.specs.Reading.{default_config, records, records_from, records_next, strip_bom}
use Rattle.csv.specs.Writing.{default_writer, row_text}
use Rattle.csv.specs.declared.parser.State.TheVariants as st
use Rattle.csv.proofs.RoundTrip.{read-write}
use Rattle.part_tree.specs.declared.field.BextField.TheVariants as bext
use Rattle.part_tree.specs.declared.field.Change.{Change}
use Rattle.part_tree.specs.declared.field.Change.TheVariants.{Set, Remove}
use Rattle.part_tree.specs.declared.field.EditItem.{EditItem}
use Rattle.part_tree.specs.declared.field.FieldName.{FieldName}
use Rattle.part_tree.specs.declared.field.FieldName.TheVariants.{Bext, Info, Whole, User, Key, Stream}
use Rattle.part_tree.specs.declared.field.Value.{Value}
use Rattle.part_tree.specs.declared.fields.Entry.{Entry}
use Rattle.part_tree.specs.Fields.{Ascends, IsMap, names, values}
use Rattle.part_tree.specs.Names.{IsFieldName, field_place, is_field_name, same_name}
use Rattle.part_tree.proofs.Places.{bytes_refl, bytes_same}
use Rattle.field_model.specs.Fields.{FieldMap}
use Rattle.field_model.specs.Texts.{field_name, name_text, text_of}
use Rattle.field_model.specs.Update.{effective, has_effect, only_shown, same_text, shown_spelled}
use Rattle.field_model.specs.Raw.{raw_of}
use Rattle.escapes.specs.Escapes.{escaped, unescaped}
use Rattle.escapes.proofs.OneLine.{utf8_by}
use Rattle.escapes.proofs.Undone.{undone_from}
use Rattle.core_edit.specs.Exported.{label, or_nothing, shown_in, some_bytes, table_text}
use Rattle.core_table.specs.Answers.{and_then, map_ok, unless}
use Rattle.core_table.specs.Sets.{has}
use Rattle.core_table.specs.declared.fault.TableFault.{TableFault}
use Rattle.core_table.specs.declared.fault.TableFault.TheVariants.{BadEscape, Long, NotUtf8, RowLength, TwiceColumn, UnknownColumn}
use Rattle.core_table.specs.declared.fault.TheConstants.{MOST_BYTES}
use Rattle.core_table.proofs.Names.{text_named}
use Rattle.core_csv.specs.Row.{AreBytes, labels, row, texts}
use Rattle.core_csv.specs.Table.{cell_change, column_fault, header_fault, is_name, is_removal, is_row_of, item, or_later, read, read_rows, row_fault, row_items, set_to, table, take_row}
use Rattle.core_csv.specs.declared.found.Found.{Found}
use Rattle.core_table.proofs.Fresh.{Before, more_before, new_name}
use Rattle.core_csv.proofs.Readings.{records_step}

-- ---- a name of which a table shows a text

some_text : (o : Option (List ℕ)) → is_some o ≡ true → o ≡ Some (or_nothing o)
some_text None h = absurd cc
some_text (Some t) h = refl

reserved_none : (f : FieldMap) (vs : List Value) → is_some (some_bytes (only_shown f (Bext bext.Reserved) vs)) ≡ false
reserved_none f [] = refl
reserved_none f (v ∷ []) = refl
reserved_none f (v ∷ w ∷ vs) = refl

with_text : (name : FieldName) (t : List ℕ) → is_field_name name ≡ true → text_of name ≡ Some t → name_text name ≡ Some t
with_text name t is has = cond-true (is_field_name name) (text_of name) None is ∙ has

-- it has a text, which names it
named : (f : FieldMap) (name : FieldName) → is_field_name name ≡ true → is_some (table_text f name) ≡ true → name_text name ≡ Some (label name)
named f name is shows = some_text (name_text name) (go name is shows)
  where
    go : (n : FieldName) → is_field_name n ≡ true → is_some (table_text f n) ≡ true → is_some (name_text n) ≡ true
    go (Bext bext.Reserved) is shows = absurd (false≢true (sym (reserved_none f (f (Bext bext.Reserved))) ∙ shows))
    go (Bext bext.Description) is shows = refl
    go (Bext bext.Originator) is shows = refl
    go (Bext bext.OriginatorReference) is shows = refl
    go (Bext bext.OriginationDate) is shows = refl
    go (Bext bext.OriginationTime) is shows = refl
    go (Bext bext.TimeReference) is shows = refl
    go (Bext bext.Version) is shows = refl
    go (Bext bext.Umid) is shows = refl
    go (Bext bext.LoudnessValue) is shows = refl
    go (Bext bext.LoudnessRange) is shows = refl
    go (Bext bext.MaxTruePeakLevel) is shows = refl
    go (Bext bext.MaxMomentaryLoudness) is shows = refl
    go (Bext bext.MaxShortTermLoudness) is shows = refl
    go (Bext bext.CodingHistory) is shows = refl
    go (Info id) is shows = ap is_some (with_text (Info id) _ is refl)
    go (Whole id) is shows = ap is_some (with_text (Whole id) _ is refl)
    go (User id) is shows = ap is_some (with_text (User id) _ is refl)
    go (Key k) is shows = ap is_some (with_text (Key k) _ is refl)
    go (Stream n) is shows = ap is_some (with_text (Stream n) _ is refl)

label_named : (f : FieldMap) (name : FieldName) → IsFieldName name → is_some (table_text f name) ≡ true → field_name (label name) ≡ Some name
label_named f name is shows = text_named name (label name) (named f name is shows)

-- ---- the header

clean_column : (n : ℕ) (earlier : List (List ℕ)) (name : FieldName) → field_name (label name) ≡ Some name → has earlier (label name) ≡ false → column_fault n earlier (label name) ≡ None
clean_column n earlier name is new =
    ap (λ (o : Option FieldName). cond (is_none o) (Some (UnknownColumn n)) (cond (has earlier (label name)) (Some (TwiceColumn n)) None)) is
    ∙ ap (λ (u : Bool). cond u (Some (TwiceColumn n)) None) new

header_clean : (f : FieldMap) (es : List Entry) (low n : ℕ) (earlier : List (List ℕ)) → Ascends low es → Before low earlier → header_fault n earlier (labels f (names es)) ≡ None
header_clean f [] low n earlier asc before = refl
header_clean f (e ∷ es) low n earlier asc before =
    go (is_some (table_text f e.name)) refl
    (λ ea before'. header_clean f es (suc (field_place e.name)) n ea asc.3 before')
    (λ ea before'. header_clean f es (suc (field_place e.name)) (suc n) ea asc.3 before')
  where
    go : (u : Bool) → is_some (table_text f e.name) ≡ u
        → ((ea : List (List ℕ)) → Before (suc (field_place e.name)) ea → header_fault n ea (labels f (names es)) ≡ None)
        → ((ea : List (List ℕ)) → Before (suc (field_place e.name)) ea → header_fault (suc n) ea (labels f (names es)) ≡ None)
        → header_fault n earlier (map label (cond u (e.name ∷ filter (λ name. is_some (table_text f name)) (names es)) (filter (λ name. is_some (table_text f name)) (names es)))) ≡ None
    go false shows same more = same earlier (λ t there g named. omega (arith, before t there g named, asc.0))
    go true shows same more =
        let is = label_named f e.name asc.1 shows in
        let rest = more (earlier ++ label e.name ∷ []) (more_before low earlier e.name (label e.name) asc.0 is before) in
        ap (λ (c : Option TableFault). or_later c (header_fault (suc n) (earlier ++ label e.name ∷ []) (labels f (names es)))) (clean_column n earlier e.name is (new_name low earlier e.name (label e.name) asc.0 is before)) ∙ rest

-- ---- the cells

undone : (raw : List ℕ) → AreBytes raw → unescaped (escaped raw) ≡ Some raw
undone raw small = undone_from 0 raw small tt

none_or : (cell : List ℕ) → (length cell == 0) ≡ true → cell ≡ []
none_or [] h = refl
none_or (x ∷ cell) h = absurd (false≢true (sym (ne_eqb (suc (length cell)) 0 (λ e. absurd (omega (arith, e)))) ∙ h))

abbrev is_empty_text : Option (List ℕ) → Bool
is_empty_text None = true
is_empty_text (Some x) = length x == 0

-- the cell of a text that isn't empty sets it
cell_sets : (n c : ℕ) (t : List ℕ) → AreBytes t → (length t == 0) ≡ false → cell_change n c (escaped t) ≡ Ok (Some (Set t))
cell_sets n c t small some = go (length (escaped t) == 0) (is_removal (escaped t)) refl refl
  where
    go : (u v : Bool) → (length (escaped t) == 0) ≡ u → is_removal (escaped t) ≡ v → cond u (Ok None) (cond v (Ok (Some Remove)) (set_to n c (unescaped (escaped t)))) ≡ Ok (Some (Set t))
    go true v e e2 = absurd (false≢true (sym some ∙ ap is_empty_text (sym (undone t small) ∙ ap unescaped (none_or (escaped t) e))))
    go false true e e2 = absurd (no_removal (sym (undone t small) ∙ ap unescaped (bytes_same (escaped t) (codes "\\d") e2)))
      where
        no_removal : Some t ≡ unescaped (codes "\\d") → ⊥
        no_removal h = cc h
    go false false e e2 = ap (set_to n c) (undone t small)

-- ---- no item has an effect

shown_text : (f : FieldMap) (name : FieldName) (t : List ℕ) → table_text f name ≡ Some t → (only_shown f name (f name) ≡ Some t) × ((length t == 0) ≡ false)
shown_text f name t h = go (same_name name (Bext bext.Version)) (only_shown f name (f name)) refl h
  where
    inner : (s : List ℕ) (u : Bool) → (length s == 0) ≡ u → cond u None (Some s) ≡ Some t → (Some s ≡ Some t) × ((length t == 0) ≡ false)
    inner s true e h = absurd cc
    inner s false e h = (h, ap is_empty_text (sym h) ∙ e)

    go : (u : Bool) (o : Option (List ℕ)) → only_shown f name (f name) ≡ o → cond u None (some_bytes o) ≡ Some t → (only_shown f name (f name) ≡ Some t) × ((length t == 0) ≡ false)
    go true o e h = absurd cc
    go false None e h = absurd cc
    go false (Some s) e h = let p = inner s (length s == 0) refl h in (e ∙ p.0, p.1)

idle : (f : FieldMap) (name : FieldName) (t : List ℕ) → only_shown f name (f name) ≡ Some t → has_effect f (record { name = name; change = Set t }) ≡ false
idle f name t shows =
    ap (λ (o : Option (List ℕ)). not (same_text o (Some t) || same_text o (shown_spelled f name (raw_of name t)))) shows
    ∙ ap (λ (u : Bool). not (u || same_text (Some t) (shown_spelled f name (raw_of name t)))) (bytes_refl t)

-- the items of the cells: they are there, and none has an effect
abbrev Idle : FieldMap → ℕ → ℕ → List FieldName → Type 0
Idle f n c ns = (items : List EditItem) × (row_items n c (labels f ns) (texts f ns) ≡ Ok items) × (effective f items ≡ [])

items_idle : (f : FieldMap) (n c : ℕ) (es : List Entry) (low : ℕ) → Ascends low es → ((name : FieldName) → AreBytes (shown_in f name)) → Idle f n c (names es)
items_idle f n c [] low asc small = ([], refl, refl)
items_idle f n c (e ∷ es) low asc small =
    go (is_some (table_text f e.name)) refl (items_idle f n c es (suc (field_place e.name)) asc.3 small) (items_idle f n (suc c) es (suc (field_place e.name)) asc.3 small)
  where
    kept : List FieldName
    kept = filter (λ name. is_some (table_text f name)) (names es)

    go : (u : Bool) → is_some (table_text f e.name) ≡ u → Idle f n c (names es) → Idle f n (suc c) (names es)
        → (items : List EditItem) × (row_items n c (map label (cond u (e.name ∷ kept) kept)) (map (λ name. escaped (shown_in f name)) (cond u (e.name ∷ kept) kept)) ≡ Ok items) × (effective f items ≡ [])
    go false shows same rest = same
    go true shows same rest =
        let t = shown_in f e.name in
        let text : table_text f e.name ≡ Some t = some_text (table_text f e.name) shows in
        let told = shown_text f e.name t text in
        let sets = cell_sets n c t (small e.name) told.1 in
        let one : EditItem = record { name = e.name; change = Set t } in
        let more : Option Change → Result (List EditItem) TableFault = λ change. map_ok (λ items. item (field_name (label e.name)) change ++ items) (row_items n (suc c) (labels f (names es)) (texts f (names es))) in (
          one ∷ rest.0,
          ap (λ (r : Result (Option Change) TableFault). and_then r more) sets
              ∙ ap (λ (o : Option FieldName). map_ok (λ items. item o (Some (Set t)) ++ items) (row_items n (suc c) (labels f (names es)) (texts f (names es)))) (label_named f e.name asc.1 shows)
              ∙ ap (map_ok (λ items. one ∷ items)) rest.1,
          ap (λ (u : Bool). cond u (one ∷ effective f rest.0) (effective f rest.0)) (idle f e.name t told.0) ∙ rest.2,
        )

-- ---- the row

escaped_utf8 : (raw : List ℕ) → AreBytes raw → is_utf8 (escaped raw) ≡ true
escaped_utf8 raw h = is_utf8-from_IsUtf8 (escaped raw) (utf8_by (length raw) raw (omega arith) h)

texts_utf8 : (f : FieldMap) (ns : List FieldName) → ((name : FieldName) → AreBytes (shown_in f name)) → list_all is_utf8 (map (λ name. escaped (shown_in f name)) ns) ≡ true
texts_utf8 f [] small = refl
texts_utf8 f (name ∷ ns) small = ap (λ (u : Bool). u && list_all is_utf8 (map (λ m. escaped (shown_in f m)) ns)) (escaped_utf8 (shown_in f name) (small name)) ∙ texts_utf8 f ns small

row_length : (f : FieldMap) (ns : List FieldName) → length (texts f ns) ≡ length (labels f ns)
row_length f ns = same (filter (λ name. is_some (table_text f name)) ns)
  where
    same : (ms : List FieldName) → length (map (λ name. escaped (shown_in f name)) ms) ≡ length (map label ms)
    same [] = refl
    same (m ∷ ms) = ap suc (same ms)

-- the row by itself has no fault
row_clean : (f : FieldMap) (ns : List FieldName) (file : List ℕ) → AreBytes file → ((name : FieldName) → AreBytes (shown_in f name))
    → row_fault (length (labels f ns) + 1) 1 (escaped file ∷ texts f ns) ≡ None
row_clean f ns file bytes small =
    let long : (suc (length (texts f ns)) == (length (labels f ns) + 1)) ≡ true = eq-eqb (suc (length (texts f ns))) (length (labels f ns) + 1) (omega (arith, row_length f ns)) in
    let utf8 : (is_utf8 (escaped file) && list_all is_utf8 (texts f ns)) ≡ true =
    ap (λ (u : Bool). u && list_all is_utf8 (texts f ns)) (escaped_utf8 file bytes) ∙ texts_utf8 f (filter (λ name. is_some (table_text f name)) ns) small in
    ap (λ (u : Bool). if not u then Some (RowLength 1) else (if not (is_utf8 (escaped file) && list_all is_utf8 (texts f ns)) then Some (NotUtf8 1) else (if is_none (unescaped (escaped file)) then Some (BadEscape 1 1) else None))) long
    ∙ ap (λ (u : Bool). if not u then Some (NotUtf8 1) else (if is_none (unescaped (escaped file)) then Some (BadEscape 1 1) else None)) utf8
    ∙ ap (λ (o : Option (List ℕ)). if is_none o then Some (BadEscape 1 1) else None) (undone file bytes)

-- the table of one row is the edit of that row
one_row : (file : List ℕ) (names cells : List (List ℕ)) (items : List EditItem) → AreBytes file → row_fault (length names + 1) 1 (escaped file ∷ cells) ≡ None
    → row_items 1 2 names cells ≡ Ok items → read_rows file names 1 None ((escaped file ∷ cells) ∷ []) ≡ Ok items
one_row file names cells items bytes clean is =
    let own : is_row_of file (escaped file ∷ cells) ≡ true = ap (is_name file) (undone file bytes) ∙ bytes_refl file in
    let more : Option Found → Result (List EditItem) TableFault = λ next. read_rows file names 2 next [] in
    ap (λ (fault : Option TableFault). and_then (unless fault (if is_row_of file (escaped file ∷ cells) then take_row names 1 (escaped file ∷ cells) None else Ok None)) more) clean
    ∙ ap (λ (u : Bool). and_then (if u then take_row names 1 (escaped file ∷ cells) None else Ok None) more) own
    ∙ ap (λ (r : Result (List EditItem) TableFault). and_then (map_ok (λ found. Some (record { row = 1; edit = found })) r) more) is

-- ---- the records

two_or_more : (a b : ℕ) (xs : List ℕ) → 2 ≤ length (a ∷ b ∷ xs)
two_or_more a b xs = omega arith

-- the text of a header and a row has these two records
two_records : (size : ℕ) (names cells : List (List ℕ)) (name : List ℕ) → 2 ≤ size
    → records_from default_config (size + 1) st.StartRecord (row_text default_writer (codes "FileName" ∷ names) ++ row_text default_writer (name ∷ cells)) ≡ (codes "FileName" ∷ names) ∷ (name ∷ cells) ∷ []
unfolding next_record
two_records size names cells name long =
    let three : size + 1 ≡ suc (suc (suc (size - 2))) = omega (arith, long) in
    let text = row_text default_writer (codes "FileName" ∷ names) ++ row_text default_writer (name ∷ cells) in
    let second : row_text default_writer (name ∷ cells) ++ [] ≡ row_text default_writer (name ∷ cells) = append-nil _ in
    ap (λ (m : ℕ). records_from default_config m st.StartRecord text) three
    ∙ records_step (suc (suc (size - 2))) st.StartRecord text
    ∙ ap (records_next (records_from default_config (suc (suc (size - 2))))) (read-write (codes "FileName" ∷ names) (row_text default_writer (name ∷ cells)))
    ∙ ap (λ (r : List (List (List ℕ))). (codes "FileName" ∷ names) ∷ r)
    (
    records_step (suc (size - 2)) st.StartRecord (row_text default_writer (name ∷ cells))
    ∙ ap (λ (t : List ℕ). records_next (records_from default_config (suc (size - 2))) (next_record default_config st.StartRecord [] [] t)) (sym second)
    ∙ ap (records_next (records_from default_config (suc (size - 2)))) (read-write (name ∷ cells) [])
    ∙ ap (λ (r : List (List (List ℕ))). (name ∷ cells) ∷ r) (records_step (size - 2) st.StartRecord [])
    )

-- no byte order mark stands before them
unmarked : (names : List (List ℕ)) (rest : List ℕ) → strip_bom (row_text default_writer (codes "FileName" ∷ names) ++ rest) ≡ row_text default_writer (codes "FileName" ∷ names) ++ rest
unfolding strip_bom
unmarked names rest = refl

-- What is written is read as an edit without an effect.
pub written_idle : (file : List ℕ) (fields : List Entry) → IsMap fields → AreBytes file → ((name : FieldName) → AreBytes (shown_in (values fields) name))
    → length (row file fields) ≤ MOST_BYTES → (items : List EditItem) × (table (row file fields) file ≡ Ok items) × (effective (values fields) items ≡ [])
written_idle file fields ordered bytes small short =
    let f = values fields in
    let ns = names fields in
    let text = row file fields in
    let items = items_idle f 1 2 fields 0 ordered small in
    let within : nat_lt MOST_BYTES (length text) ≡ false = le-ltb MOST_BYTES (length text) short in
    let stripped : strip_bom text ≡ text = unmarked (labels f ns) (row_text default_writer (escaped file ∷ texts f ns)) in
    let both : records default_config (strip_bom text) ≡ (codes "FileName" ∷ labels f ns) ∷ (escaped file ∷ texts f ns) ∷ [] =
    ap (records default_config) stripped ∙ two_records (length text) (labels f ns) (texts f ns) (escaped file) (two_or_more 70 105 (drop 2 text)) in
    let clean : header_fault 2 [] (labels f ns) ≡ None = header_clean f fields 0 2 [] ordered (λ t there g named. absurd cc) in
    let rows = one_row file (labels f ns) (texts f ns) items.0 bytes (row_clean f ns file bytes small) items.1 in (
      items.0,
      ap (λ (u : Bool). if u then Err Long else read file (records default_config (strip_bom text))) within
          ∙ ap (read file) both
          ∙ ap (λ (fault : Option TableFault). unless fault (read_rows file (labels f ns) 1 None ((escaped file ∷ texts f ns) ∷ []))) clean
          ∙ rows,
      items.2,
    )
