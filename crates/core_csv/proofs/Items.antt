-- The items of a row, cell by cell.
use Rattle.std.proofs.Common.{◌≡◌, ℕ, suc, ◌+◌, ◌<◌, ◌≤◌, List, [], ◌∷◌, ◌++◌, length, get_or, drop, Option, Result, Ok, Err, refl, sym, ap, ◌∙◌, append_assoc, append-nil, inl, inr}
use Rattle.std.proofs.lemmas.List.{at_drop_more, at_drop_all}
use Rattle.part_tree.specs.declared.field.Change.{Change}
use Rattle.part_tree.specs.declared.field.EditItem.{EditItem}
use Rattle.field_model.specs.Texts.{field_name}
use Rattle.core_table.specs.Answers.{Answers, and_then, map_ok}
use Rattle.core_table.specs.declared.fault.TableFault.{TableFault}
use Rattle.core_table.specs.declared.fault.TableFault.TheVariants.{Memory}
use Rattle.core_csv.specs.Table.{cell_change, item, row_items}

-- items before those that are left
abbrev pub before : List EditItem → Result (List EditItem) TableFault → Result (List EditItem) TableFault
before done more = map_ok (λ items. done ++ items) more

pub row_step : (n c : ℕ) (names cells : List (List ℕ)) (k : ℕ) → k < length names → length cells ≡ length names
    → row_items n c (drop k names) (drop k cells)
    ≡ and_then (cell_change n c (get_or cells k [])) (λ change. map_ok (λ items. item (field_name (get_or names k [])) change ++ items) (row_items n (suc c) (drop (k + 1) names) (drop (k + 1) cells)))
row_step n c names cells k inside same =
    at_drop_more (λ (ns : List (List ℕ)). row_items n c ns (drop k cells)) names k [] inside
    ∙ at_drop_more (λ (cs : List (List ℕ)). row_items n c (get_or names k [] ∷ drop (k + 1) names) cs) cells k [] (rw same inside)

put_one : (done one : List EditItem) (r : Result (List EditItem) TableFault) → before done (map_ok (λ items. one ++ items) r) ≡ before (done ++ one) r
put_one done one (Ok items) = ap Ok (sym (append_assoc done one items))
put_one done one (Err e) = refl

-- a cell further
pub items_step : (n c : ℕ) (names cells : List (List ℕ)) (k : ℕ) (done new : List EditItem) (change : Option Change) (whole : Result (List EditItem) TableFault)
    → k < length names → length cells ≡ length names → Ok change ≡ cell_change n c (get_or cells k []) → new ≡ done ++ item (field_name (get_or names k [])) change
    → before done (row_items n c (drop k names) (drop k cells)) ≡ whole → before new (row_items n (suc c) (drop (k + 1) names) (drop (k + 1) cells)) ≡ whole
items_step n c names cells k done new change whole inside same is put so_far =
    let more = row_items n (suc c) (drop (k + 1) names) (drop (k + 1) cells) in
    let one = item (field_name (get_or names k [])) change in
    ap (λ (x : List EditItem). before x more) put ∙ sym (put_one done one more)
    ∙ ap (λ (r : Result (Option Change) TableFault). before done (and_then r (λ ch. map_ok (λ items. item (field_name (get_or names k [])) ch ++ items) more))) is
    ∙ ap (before done) (sym (row_step n c names cells k inside same)) ∙ so_far

-- a cell with a fault
pub items_stop : (n c : ℕ) (names cells : List (List ℕ)) (k : ℕ) (done : List EditItem) (e : TableFault) (whole : Result (List EditItem) TableFault)
    → k < length names → length cells ≡ length names → Err e ≡ cell_change n c (get_or cells k [])
    → before done (row_items n c (drop k names) (drop k cells)) ≡ whole → Err e ≡ whole
items_stop n c names cells k done e whole inside same is so_far =
    let more = row_items n (suc c) (drop (k + 1) names) (drop (k + 1) cells) in
    ap (λ (r : Result (Option Change) TableFault). before done (and_then r (λ ch. map_ok (λ items. item (field_name (get_or names k [])) ch ++ items) more))) is
    ∙ ap (before done) (sym (row_step n c names cells k inside same)) ∙ so_far

pub change_is : {T : Type 0} (answer : Result T TableFault) (x : T) → Answers answer (Ok x) → Ok x ≡ answer
change_is answer x (inl is) = is
change_is answer x (inr memory) = absurd cc

abbrev fault_or : {S : Type 0} → TableFault → Result S TableFault → TableFault
fault_or d (Ok x) = d
fault_or d (Err f) = f

pub change_stops : {S T : Type 0} (answer : Result S TableFault) (whole : Result T TableFault) (e : TableFault)
    → (Err e ≡ answer → Err e ≡ whole) → Answers answer (Err e) → Answers whole (Err e)
change_stops answer whole e more (inl is) = inl (more is)
change_stops answer whole e more (inr memory) = inr (ap (λ (f : TableFault). Err f) (ap (fault_or Memory) memory))

-- no cell is left
pub items_end : (n c : ℕ) (names cells : List (List ℕ)) (k : ℕ) (done : List EditItem) (whole : Result (List EditItem) TableFault)
    → length names ≤ k → before done (row_items n c (drop k names) (drop k cells)) ≡ whole → Ok done ≡ whole
items_end n c names cells k done whole past so_far =
    ap Ok (sym (append-nil done)) ∙ sym (ap (before done) (at_drop_all (λ (ns : List (List ℕ)). row_items n c ns (drop k cells)) names k past)) ∙ so_far
