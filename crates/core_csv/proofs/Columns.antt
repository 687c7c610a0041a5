-- The columns of a header, one by one.
use Rattle.std.proofs.Common.{◌≡◌, ℕ, suc, ◌+◌, ◌<◌, List, [], ◌∷◌, ◌++◌, length, get_or, drop, Bool, ◌||◌, Option, Some, None, Result, Ok, Err, refl, sym, ap, ◌∙◌, inl, inr, cond}
use Rattle.std.specs.Prelude.{◌⊎◌, is_none}
use Rattle.std.specs.Str.{bytes_eq}
use Rattle.std.proofs.lemmas.List.{at_drop_more}
use Rattle.field_model.specs.Texts.{field_name}
use Rattle.core_table.specs.Answers.{Answers, unless}
use Rattle.core_table.specs.Sets.{has}
use Rattle.core_table.specs.declared.fault.TableFault.{TableFault}
use Rattle.core_table.specs.declared.fault.TableFault.TheVariants.{Memory}
use Rattle.core_table.proofs.Fresh.{has-append}
use Rattle.core_csv.specs.Table.{column_fault, header_fault, or_later}

-- what a test that may stop has found
abbrev fault_of : {T : Type 0} → Result T TableFault → Option TableFault
fault_of (Ok x) = None
fault_of (Err e) = Some e

pub stopped : {T : Type 0} (f : Option TableFault) (e : TableFault) (x : T) → Answers (unless f (Ok x)) (Err e) → (f ≡ Some e) ⊎ (e ≡ Memory)
stopped None e x (inl h) = absurd cc
stopped (Some g) e x (inl h) = inl (sym (ap fault_of h))
stopped None e x (inr h) = inr cc
stopped (Some g) e x (inr h) = inr cc

pub went_on : {T : Type 0} (f : Option TableFault) (x y : T) → Answers (unless f (Ok x)) (Ok y) → f ≡ None
went_on None x y h = refl
went_on (Some g) x y (inl h) = absurd cc
went_on (Some g) x y (inr h) = absurd cc

-- two lists of the same names have the same fault
pub same_fault : (n : ℕ) (a b : List (List ℕ)) (name : List ℕ) → has a name ≡ has b name → column_fault n a name ≡ column_fault n b name
same_fault n a b name e = ap (λ (t : Bool). cond (is_none (field_name name)) (Some (Rattle.core_table.specs.declared.fault.TableFault.TheVariants.UnknownColumn n)) (cond t (Some (Rattle.core_table.specs.declared.fault.TableFault.TheVariants.TwiceColumn n)) None)) e

-- a column further
pub header_step : (cells earlier : List (List ℕ)) (n k : ℕ) → k < length cells
    → header_fault n earlier (drop k cells) ≡ or_later (column_fault n earlier (get_or cells k [])) (header_fault (suc n) (earlier ++ get_or cells k [] ∷ []) (drop (k + 1) cells))
header_step cells earlier n k inside = at_drop_more (header_fault n earlier) cells k [] inside

-- what is answered where a column has a fault, or where there is none left
pub fault_answer : (f : Option TableFault) (e : TableFault) → (f ≡ Some e) ⊎ (e ≡ Memory) → Answers (unless f (Ok (tt {0}))) (Err e)
fault_answer f e (inl is) = inl (sym (ap (λ (g : Option TableFault). unless g (Ok (tt {0}))) is))
fault_answer f e (inr memory) = inr (ap Err memory)

-- a column with a fault stops the header
pub header_stops : (cells earlier seen : List (List ℕ)) (n k : ℕ) (e : TableFault) (whole : Option TableFault) → k < length cells
    → ((other : List ℕ) → has seen other ≡ has earlier other) → header_fault n earlier (drop k cells) ≡ whole
    → Answers (unless (column_fault n seen (get_or cells k [])) (Ok (tt {0}))) (Err e) → Answers (unless whole (Ok (tt {0}))) (Err e)
header_stops cells earlier seen n k e whole inside same so_far h = go (stopped (column_fault n seen (get_or cells k [])) e (tt {0}) h)
  where
    go : (column_fault n seen (get_or cells k []) ≡ Some e) ⊎ (e ≡ Memory) → Answers (unless whole (Ok (tt {0}))) (Err e)
    go (inr memory) = inr (ap Err memory)
    go (inl is) =
        let name = get_or cells k [] in
        let here : column_fault n earlier name ≡ Some e = sym (same_fault n seen earlier name (same name)) ∙ is in
        let rest = header_fault (suc n) (earlier ++ name ∷ []) (drop (k + 1) cells) in
        let all : whole ≡ Some e = sym so_far ∙ header_step cells earlier n k inside ∙ ap (λ (f : Option TableFault). or_later f rest) here in
        inl (sym (ap (λ (f : Option TableFault). unless f (Ok (tt {0}))) all))

-- a column without a fault leaves it to the others
pub header_goes_on : (cells earlier seen new : List (List ℕ)) (n k : ℕ) (whole : Option TableFault) → k < length cells
    → ((other : List ℕ) → has seen other ≡ has earlier other) → header_fault n earlier (drop k cells) ≡ whole
    → Answers (unless (column_fault n seen (get_or cells k [])) (Ok (tt {0}))) (Ok (tt {0}))
    → ((other : List ℕ) → has new other ≡ (bytes_eq other (get_or cells k []) || has seen other))
    → (x : List (List ℕ)) × ((other : List ℕ) → has new other ≡ has x other) × (header_fault (suc n) x (drop (k + 1) cells) ≡ whole)
header_goes_on cells earlier seen new n k whole inside same so_far h put =
    let name = get_or cells k [] in
    let none : column_fault n earlier name ≡ None = sym (same_fault n seen earlier name (same name)) ∙ went_on (column_fault n seen name) (tt {0}) (tt {0}) h in
    let rest = header_fault (suc n) (earlier ++ name ∷ []) (drop (k + 1) cells) in (
      earlier ++ name ∷ [],
      λ other. put other ∙ ap (λ (t : Bool). bytes_eq other name || t) (same other) ∙ sym (has-append earlier name other),
      sym (ap (λ (f : Option TableFault). or_later f rest) none) ∙ sym (header_step cells earlier n k inside) ∙ so_far,
    )
