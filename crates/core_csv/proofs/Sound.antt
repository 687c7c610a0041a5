-- The items of a row under a header without a fault are sound.
use Rattle.std.proofs.Common.{◌≡◌, ℕ, suc, List, [], ◌∷◌, ◌++◌, length, Bool, true, false, ◌||◌, ◌==◌, Option, Some, None, Result, Ok, Err, refl, sym, ap, ◌∙◌, cond, ne_eqb, arith, subst}
use Rattle.std.specs.Prelude.{is_some, is_none}
use Rattle.std.specs.Str.{bytes_eq}
use Rattle.std.proofs.lemmas.Bool.{false≢true, or_from}
use Rattle.part_tree.specs.declared.field.Change.{Change}
use Rattle.part_tree.specs.declared.field.Change.TheVariants.{Remove}
use Rattle.part_tree.specs.declared.field.EditItem.{EditItem}
use Rattle.part_tree.specs.declared.field.FieldName.{FieldName}
use Rattle.part_tree.specs.Names.{same_name}
use Rattle.part_tree.proofs.Places.{bytes_refl, same_is_equal}
use Rattle.field_model.specs.Texts.{field_name}
use Rattle.escapes.specs.Escapes.{first_byte, more_letters, put_before, unescaped, unescaped_from}
use Rattle.core_edit.specs.Edits.{AreSound, is_empty_set, names_one}
use Rattle.core_table.specs.Answers.{and_then, map_ok}
use Rattle.core_table.specs.Sets.{has}
use Rattle.core_table.specs.declared.fault.TableFault.{TableFault}
use Rattle.core_table.specs.declared.fault.TableFault.TheVariants.{UnknownColumn, TwiceColumn}
use Rattle.core_table.proofs.Names.{named_text, one_text}
use Rattle.core_csv.specs.Table.{cell_change, column_fault, header_fault, is_removal, item, or_later, row_items, set_to}
use Rattle.core_table.proofs.Fresh.{has-append}

abbrev ok_or : {T : Type 0} → T → Result T TableFault → T
ok_or d (Ok x) = x
ok_or d (Err e) = d

ok_same : {T : Type 0} {x y : T} → ◌≡◌ {A = Result T TableFault} (Ok x) (Ok y) → x ≡ y
ok_same {T} {x} {y} e = ap (ok_or x) e

-- ---- what a row's items come from

-- the items of a row with a first cell: those of that cell and the others
both : (n c : ℕ) (name cell : List ℕ) (names cells : List (List ℕ)) (items : List EditItem) → Ok items ≡ row_items n c (name ∷ names) (cell ∷ cells)
    → (change : Option Change) × (more : List EditItem) × (Ok change ≡ cell_change n c cell) × (Ok more ≡ row_items n (suc c) names cells) × (items ≡ item (field_name name) change ++ more)
both n c name cell names cells items h = go (cell_change n c cell) (row_items n (suc c) names cells) refl refl h
  where
    go : (r : Result (Option Change) TableFault) (s : Result (List EditItem) TableFault) → r ≡ cell_change n c cell → s ≡ row_items n (suc c) names cells
        → Ok items ≡ and_then r (λ change. map_ok (λ more. item (field_name name) change ++ more) s)
        → (change : Option Change) × (more : List EditItem) × (Ok change ≡ cell_change n c cell) × (Ok more ≡ row_items n (suc c) names cells) × (items ≡ item (field_name name) change ++ more)
    go (Err e) s is so h = absurd cc
    go (Ok change) (Err e) is so h = absurd cc
    go (Ok change) (Ok more) is so h = (change, more, is, so, ok_same h)

-- ---- the header

clean : (m : ℕ) (earlier : List (List ℕ)) (name : List ℕ) (names : List (List ℕ)) → header_fault m earlier (name ∷ names) ≡ None
    → (column_fault m earlier name ≡ None) × (header_fault (suc m) (earlier ++ name ∷ []) names ≡ None)
clean m earlier name names h = go (column_fault m earlier name) refl h
  where
    go : (f : Option TableFault) → column_fault m earlier name ≡ f → or_later f (header_fault (suc m) (earlier ++ name ∷ []) names) ≡ None
        → (column_fault m earlier name ≡ None) × (header_fault (suc m) (earlier ++ name ∷ []) names ≡ None)
    go None e h = (e, h)
    go (Some f) e h = absurd cc

-- the name of a column without a fault is a new one
is_new : (m : ℕ) (earlier : List (List ℕ)) (name : List ℕ) → column_fault m earlier name ≡ None → has earlier name ≡ false
is_new m earlier name h = go (is_none (field_name name)) (has earlier name) refl h
  where
    go : (s t : Bool) → has earlier name ≡ t → cond s (Some (UnknownColumn m)) (cond t (Some (TwiceColumn m)) None) ≡ None → has earlier name ≡ false
    go true t e h = absurd cc
    go false true e h = absurd cc
    go false false e h = e

-- ---- the fields are different ones

other_field : (a b : List ℕ) (f g : FieldName) → field_name a ≡ Some f → field_name b ≡ Some g → bytes_eq a b ≡ false → same_name f g ≡ false
other_field a b f g named_a named_b differ = go (same_name f g) refl
  where
    go : (t : Bool) → same_name f g ≡ t → t ≡ false
    go false e = refl
    go true e =
        let same : a ≡ b = one_text a b g (named_a ∙ ap Some (same_is_equal f g e)) named_b in
        absurd (false≢true (sym differ ∙ ap (bytes_eq a) (sym same) ∙ bytes_refl a))

-- a name that isn't among names that have this one is another
differs : (earlier : List (List ℕ)) (name other : List ℕ) → has earlier other ≡ true → has earlier name ≡ false → bytes_eq name other ≡ false
differs earlier name other there not_there = go (bytes_eq name other) refl
  where
    go : (t : Bool) → bytes_eq name other ≡ t → t ≡ false
    go false e = refl
    go true e = absurd (false≢true (sym not_there ∙ ap (has earlier) (Rattle.part_tree.proofs.Places.bytes_same name other e) ∙ there))

later_has : (earlier : List (List ℕ)) (name other : List ℕ) → has earlier other ≡ true → has (earlier ++ name ∷ []) other ≡ true
later_has earlier name other there = has-append earlier name other ∙ go (bytes_eq other name) there
  where
    go : (t : Bool) → has earlier other ≡ true → (t || has earlier other) ≡ true
    go true h = refl
    go false h = h

-- no item of later columns is of this field
no_later : (n m c : ℕ) (names cells earlier : List (List ℕ)) (other : List ℕ) (g : FieldName) (items : List EditItem) → header_fault m earlier names ≡ None → has earlier other ≡ true
    → field_name other ≡ Some g → Ok items ≡ row_items n c names cells → names_one g items ≡ false
no_later n m c [] cells earlier other g items sound there named h = ap (names_one g) (ok_same h)
no_later n m c (name ∷ names) [] earlier other g items sound there named h = ap (names_one g) (ok_same h)
no_later n m c (name ∷ names) (cell ∷ cells) earlier other g items sound there named h =
    let parts = both n c name cell names cells items h in
    let (change, more, is, so, all) = parts in
    let ok = clean m earlier name names sound in
    let rest = no_later n (suc m) (suc c) names cells (earlier ++ name ∷ []) other g more ok.1 (later_has earlier name other there) named so in
    ap (names_one g) all ∙ go (field_name name) change refl more rest (differs earlier name other there (is_new m earlier name ok.0))
  where
    go : (o : Option FieldName) (ch : Option Change) → field_name name ≡ o → (more : List EditItem) → names_one g more ≡ false → bytes_eq name other ≡ false → names_one g (item o ch ++ more) ≡ false
    go (Some f) (Some x) e more rest differ = or_from (same_name f g) (names_one g more) (other_field name other f g e named differ) rest
    go (Some f) None e more rest differ = rest
    go None ch e more rest differ = rest

-- ---- no text is empty

some_bytes : (o : Option ℕ) (r : Option (List ℕ)) (text : List ℕ) → put_before o r ≡ Some text → (length text == 0) ≡ false
some_bytes None r text h = absurd cc
some_bytes (Some b) None text h = absurd cc
some_bytes (Some b) (Some bs) text h = ap (λ (t : List ℕ). length t == 0) (sym (some_same h)) ∙ ne_eqb (suc (length bs)) 0 (λ e. absurd (omega (arith, e)))
  where
    some_or : List ℕ → Option (List ℕ) → List ℕ
    some_or d None = d
    some_or d (Some t) = t

    some_same : {x y : List ℕ} → Some x ≡ Some y → x ≡ y
    some_same {x} {y} e = ap (some_or x) e

not_empty : (n c : ℕ) (cell : List ℕ) (change : Change) → Ok (Some change) ≡ cell_change n c cell → is_empty_set change ≡ false
not_empty n c [] change h = absurd cc
not_empty n c (x ∷ cell) change h = go (length (x ∷ cell) == 0) (is_removal (x ∷ cell)) (unescaped (x ∷ cell)) refl h
  where
    set_of : Change → Option (Option Change)
    set_of ch = Some (Some ch)

    inner : Change → Result (Option Change) TableFault → Change
    inner d (Ok (Some ch)) = ch
    inner d _ = d

    go : (s t : Bool) (o : Option (List ℕ)) → unescaped (x ∷ cell) ≡ o → Ok (Some change) ≡ cond s (Ok None) (cond t (Ok (Some Remove)) (set_to n c o)) → is_empty_set change ≡ false
    go true t o e h = absurd cc
    go false true o e h = ap is_empty_set (ap (inner change) h)
    go false false None e h = absurd cc
    go false false (Some text) e h = ap is_empty_set (ap (inner change) h) ∙ some_bytes (first_byte (x ∷ cell)) (unescaped_from (more_letters (x ∷ cell)) cell) text e

-- the items are sound
pub sound_items : (n m c : ℕ) (names cells earlier : List (List ℕ)) (items : List EditItem) → header_fault m earlier names ≡ None → Ok items ≡ row_items n c names cells → AreSound items
sound_items n m c [] cells earlier items sound h = subst AreSound (sym (ok_same h)) tt
sound_items n m c (name ∷ names) [] earlier items sound h = subst AreSound (sym (ok_same h)) tt
sound_items n m c (name ∷ names) (cell ∷ cells) earlier items sound h =
    let parts = both n c name cell names cells items h in
    let (change, more, is, so, all) = parts in
    let ok = clean m earlier name names sound in
    let rest = sound_items n (suc m) (suc c) names cells (earlier ++ name ∷ []) more ok.1 so in
    let there : has (earlier ++ name ∷ []) name ≡ true = has-append earlier name name ∙ ap (λ (t : Bool). t || has earlier name) (bytes_refl name) in
    subst AreSound (sym all) (go (field_name name) change refl is more rest (λ g named. no_later n (suc m) (suc c) names cells (earlier ++ name ∷ []) name g more ok.1 there named so))
  where
    go : (o : Option FieldName) (ch : Option Change) → field_name name ≡ o → Ok ch ≡ cell_change n c cell → (more : List EditItem) → AreSound more
        → ((g : FieldName) → field_name name ≡ Some g → names_one g more ≡ false) → AreSound (item o ch ++ more)
    go (Some f) (Some x) e is more rest others = (ap (λ (t : Option (List ℕ)). is_some t) (named_text name f e), not_empty n c cell x is, others f e, rest)
    go (Some f) None e is more rest others = rest
    go None ch e is more rest others = rest
