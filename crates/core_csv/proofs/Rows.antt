-- The rows of a table, one by one.
use Rattle.std.proofs.Common.{◌≡◌, ℕ, zero, suc, ◌+◌, ◌-◌, ◌<◌, ◌≤◌, List, [], ◌∷◌, length, drop, Bool, true, false, Option, Some, None, Result, Ok, Err, sym, ap, ◌∙◌, arith, add-one, subst, inl, inr}
use Rattle.std.specs.Prelude.{◌⊎◌, if◌then◌else◌}
use Rattle.std.proofs.lemmas.Bool.{false≢true}
use Rattle.csv.specs.Machine.{Read, next_record}
use Rattle.csv.specs.Reading.{NextIs, default_config, records_from, records_next}
use Rattle.csv.specs.declared.parser.State.{State}
use Rattle.part_tree.specs.declared.field.EditItem.{EditItem}
use Rattle.core_table.specs.Answers.{Answers, and_then, unless}
use Rattle.core_table.specs.declared.fault.TableFault.{TableFault}
use Rattle.core_table.specs.declared.fault.TableFault.TheVariants.{Memory, NoHeader}
use Rattle.core_csv.specs.Table.{after_row, edit_of, header_fault, is_header, read, read_rows}
use Rattle.core_csv.specs.declared.found.Found.{Found}
use Rattle.core_csv.proofs.Columns.{stopped, went_on}
use Rattle.core_csv.proofs.Items.{change_is, change_stops}
use Rattle.core_csv.proofs.Readings.{Few, few_cells, next_rows, no_rows, records_none, records_step}

module _ (file : List ℕ) (names : List (List ℕ)) (n : ℕ) (found : Option Found) (whole : Result (List EditItem) TableFault) where
  left_step : (most k : ℕ) (s : State) (text : List ℕ) → k < most
      → records_from default_config (most - k) s text ≡ records_next (records_from default_config (most - (k + 1))) (next_record default_config s [] [] text)
  left_step most k s text more =
      let one : most - k ≡ suc (most - (k + 1)) = omega (arith, more) in
      ap (λ (m : ℕ). records_from default_config m s text) one ∙ records_step (most - (k + 1)) s text

  -- a row more
  pub row_read : (most k : ℕ) (s s2 : State) (text text2 : List ℕ) (row : List (List ℕ)) → k < most → NextIs (next_record default_config s [] [] text) true row s2 text2
      → read_rows file names n found (records_from default_config (most - k) s text) ≡ whole
      → and_then (after_row file names n found row) (λ f. read_rows file names (suc n) f (records_from default_config (most - (k + 1)) s2 text2)) ≡ whole
  row_read most k s s2 text text2 row more next so_far =
      sym (ap (read_rows file names n found) (left_step most k s text more ∙ next_rows (records_from default_config (most - (k + 1))) (next_record default_config s [] [] text) row s2 text2 next)) ∙ so_far

  -- a row with a fault
  pub row_stopped : (most k : ℕ) (s s2 : State) (text text2 : List ℕ) (row : List (List ℕ)) (e : TableFault) → k < most → NextIs (next_record default_config s [] [] text) true row s2 text2
      → read_rows file names n found (records_from default_config (most - k) s text) ≡ whole → Answers (after_row file names n found row) (Err e) → Answers whole (Err e)
  row_stopped most k s s2 text text2 row e more next so_far h =
      let rest : Option Found → Result (List EditItem) TableFault = λ f. read_rows file names (suc n) f (records_from default_config (most - (k + 1)) s2 text2) in
      change_stops (after_row file names n found row) whole e
      (λ is. ap (λ (r : Result (Option Found) TableFault). and_then r rest) is ∙ row_read most k s s2 text text2 row more next so_far) h

  -- a row without one
  pub row_went_on : (most k : ℕ) (s s2 : State) (text text2 : List ℕ) (row : List (List ℕ)) (after : Option Found) → k < most → NextIs (next_record default_config s [] [] text) true row s2 text2
      → read_rows file names n found (records_from default_config (most - k) s text) ≡ whole → Answers (after_row file names n found row) (Ok after)
      → read_rows file names (n + 1) after (records_from default_config (most - (k + 1)) s2 text2) ≡ whole
  row_went_on most k s s2 text text2 row after more next so_far h =
      let rest : Option Found → Result (List EditItem) TableFault = λ f. read_rows file names (suc n) f (records_from default_config (most - (k + 1)) s2 text2) in
      ap (λ (m : ℕ). read_rows file names m after (records_from default_config (most - (k + 1)) s2 text2)) (add-one n)
      ∙ ap (λ (r : Result (Option Found) TableFault). and_then r rest) (change_is (after_row file names n found row) after h) ∙ row_read most k s s2 text text2 row more next so_far

  -- no row more
  pub rows_ended : (most k : ℕ) (s s2 : State) (text text2 : List ℕ) (row : List (List ℕ)) → k < most → NextIs (next_record default_config s [] [] text) false row s2 text2
      → read_rows file names n found (records_from default_config (most - k) s text) ≡ whole → edit_of found ≡ whole
  rows_ended most k s s2 text text2 row more next so_far =
      sym (ap (read_rows file names n found) (left_step most k s text more ∙ no_rows (records_from default_config (most - (k + 1))) (next_record default_config s [] [] text) row s2 text2 next)) ∙ so_far

  -- as many rows as there can be
  pub rows_full : (most k : ℕ) (s : State) (text : List ℕ) → most ≤ k → read_rows file names n found (records_from default_config (most - k) s text) ≡ whole → edit_of found ≡ whole
  rows_full most k s text past so_far =
      let none : most - k ≡ zero = omega (arith, past) in
      sym (ap (read_rows file names n found) (ap (λ (m : ℕ). records_from default_config m s text) none ∙ records_none s text)) ∙ so_far

-- ---- the header

-- the records of a text whose first is this
pub first_read : (size : ℕ) (s s2 : State) (text text2 : List ℕ) (row : List (List ℕ)) → NextIs (next_record default_config s [] [] text) true row s2 text2
    → records_from default_config (size + 1) s text ≡ row ∷ records_from default_config size s2 text2
first_read size s s2 text text2 row next =
    ap (λ (m : ℕ). records_from default_config m s text) (add-one size) ∙ records_step size s text
    ∙ next_rows (records_from default_config size) (next_record default_config s [] [] text) row s2 text2 next

pub none_read : (size : ℕ) (s s2 : State) (text text2 : List ℕ) (row : List (List ℕ)) → NextIs (next_record default_config s [] [] text) false row s2 text2
    → records_from default_config (size + 1) s text ≡ []
none_read size s s2 text text2 row next =
    ap (λ (m : ℕ). records_from default_config m s text) (add-one size) ∙ records_step size s text
    ∙ no_rows (records_from default_config size) (next_record default_config s [] [] text) row s2 text2 next

-- it has a cell, and at most one more than the text has bytes
pub first_few : (s s2 : State) (text text2 : List ℕ) (row : List (List ℕ)) → NextIs (next_record default_config s [] [] text) true row s2 text2
    → (0 < length row) × (length row ≤ length text + 1)
first_few s s2 text text2 row next = go (next_record default_config s [] [] text) (few_cells default_config s [] [] text) next
  where
    go : (o : Option Read) → Few 0 (length text) o → NextIs o true row s2 text2 → (0 < length row) × (length row ≤ length text + 1)
    go None few h = absurd (false≢true (sym h))
    go (Some p) few h = let same : length row ≡ length p.0 = ap length h.1 in (omega (arith, few.0, same), omega (arith, few.1, same))

-- what the records of a table with a header come to
pub with_header : (file : List ℕ) (header : List (List ℕ)) (rows records : List (List (List ℕ))) → records ≡ header ∷ rows → is_header header ≡ true
    → unless (header_fault 2 [] (drop 1 header)) (read_rows file (drop 1 header) 1 None rows) ≡ read file records
with_header file header rows records is good =
    sym (ap (read file) is ∙ ap (λ (t : Bool). if t then unless (header_fault 2 [] (drop 1 header)) (read_rows file (drop 1 header) 1 None rows) else Err NoHeader) good)

pub without_header : (file : List ℕ) (header : List (List ℕ)) (rows records : List (List (List ℕ))) → records ≡ header ∷ rows → is_header header ≡ false
    → Err NoHeader ≡ read file records
without_header file header rows records is bad =
    sym (ap (read file) is ∙ ap (λ (t : Bool). if t then unless (header_fault 2 [] (drop 1 header)) (read_rows file (drop 1 header) 1 None rows) else Err NoHeader) bad)

-- a table without a record
pub no_header : (file : List ℕ) (records : List (List (List ℕ))) → records ≡ [] → Err NoHeader ≡ read file records
no_header file records none = sym (ap (read file) none)

-- a header with a fault
pub header_stopped : (file : List ℕ) (header : List (List ℕ)) (rows records : List (List (List ℕ))) (e : TableFault) → records ≡ header ∷ rows → is_header header ≡ true
    → Answers (unless (header_fault 2 [] (drop 1 header)) (Ok (tt {0}))) (Err e) → Answers (read file records) (Err e)
header_stopped file header rows records e is good h = go (stopped (header_fault 2 [] (drop 1 header)) e (tt {0}) h)
  where
    go : (header_fault 2 [] (drop 1 header) ≡ Some e) ⊎ (e ≡ Memory) → Answers (read file records) (Err e)
    go (inr memory) = inr (ap (λ (f : TableFault). Err f) memory)
    go (inl fault) = inl (sym (ap (λ (f : Option TableFault). unless f (read_rows file (drop 1 header) 1 None rows)) fault) ∙ with_header file header rows records is good)

-- a header without one leaves it to the rows
pub rows_of_table : (file : List ℕ) (header : List (List ℕ)) (rows records : List (List (List ℕ))) (result : Result (List EditItem) TableFault) → records ≡ header ∷ rows → is_header header ≡ true
    → Answers (unless (header_fault 2 [] (drop 1 header)) (Ok (tt {0}))) (Ok (tt {0})) → Answers (read_rows file (drop 1 header) 1 None rows) result → Answers (read file records) result
rows_of_table file header rows records result is good h rest =
    let clean = went_on (header_fault 2 [] (drop 1 header)) (tt {0}) (tt {0}) h in
    let same : read_rows file (drop 1 header) 1 None rows ≡ read file records =
    sym (ap (λ (f : Option TableFault). unless f (read_rows file (drop 1 header) 1 None rows)) clean) ∙ with_header file header rows records is good in
    subst (λ (r : Result (List EditItem) TableFault). Answers r result) same rest
