-- The edit that a table gives, by what its source had left.
use Rattle.std.proofs.Common.{◌≡◌, ℕ, ◌<◌, List, [], length, Bool, true, false, ltb, Option, Some, None, Result, Ok, Err, refl, sym, ap, ◌∙◌, subst, cond, inl, inr, ⊎_elim}
use Rattle.std.specs.Prelude.{◌⊎◌, nat_lt}
use Rattle.std.proofs.lemmas.Bool.{cond-true, lt-ltb}
use Rattle.core_table.specs.Answers.{Answers}
use Rattle.core_table.specs.declared.fault.TheConstants.{MOST_BYTES}
use Rattle.core_table.specs.declared.fault.TableFault.{TableFault}
use Rattle.core_table.specs.declared.fault.TableFault.TheVariants as table
use Rattle.part_tree.specs.declared.field.EditItem.{EditItem}
use Rattle.table_source.specs.Read.{IsTableOf}
use Rattle.table_source.specs.declared.read.ReadStop.{ReadStop}
use Rattle.table_source.specs.declared.read.ReadStop.TheVariants as source
use Rattle.metaedit_top.specs.declared.format.TableFormat.{TableFormat}
use Rattle.metaedit_top.specs.declared.format.TableFormat.TheVariants.{Csv, Xml}
use Rattle.metaedit_top.specs.declared.words.Request.{Request}
use Rattle.metaedit_top.specs.Tables.{GivesEdit, RefusesTable, form_of, stop_of_source, stop_of_table, table_of, takes_table}

-- a table that is too long is refused in each form
long_table : (f : TableFormat) (bytes file : List ℕ) → MOST_BYTES < length bytes → table_of f bytes file ≡ Err table.Long
long_table Csv bytes file long = cond-true (nat_lt MOST_BYTES (length bytes)) (Err table.Long) _ (lt-ltb MOST_BYTES (length bytes) long)
long_table Xml bytes file long = cond-true (nat_lt MOST_BYTES (length bytes)) (Err table.Long) _ (lt-ltb MOST_BYTES (length bytes) long)

some_is : {x y : List ℕ} → Some x ≡ Some y → x ≡ y
some_is e = cc

-- what was read gives what all that was left gives
same_table : (f : TableFormat) (left after : Option (List ℕ)) (bytes file : List ℕ) → IsTableOf left after bytes → (all : List ℕ) → left ≡ Some all
    → table_of f all file ≡ table_of f bytes file
unfolding long_table
same_table f left after bytes file is all told =
    ⊎_elim (λ whole. ap (λ (b : List ℕ). table_of f b file) (sym whole.0))
    (λ long. long_table f all file long.1 ∙ sym (long_table f bytes file long.0)) (is all told)

module _ (q : Request) (left after : Option (List ℕ)) (bytes : List ℕ) (is : IsTableOf left after bytes) where
  pub gives : (given : Result (List EditItem) TableFault) → table_of (form_of q.format) bytes q.file ≡ given → GivesEdit q left given
  unfolding same_table
  gives given h = λ all told. same_table (form_of q.format) left after bytes q.file is all told ∙ h

  -- a table that gives an edit was read to its end
  pub ended : (e : List EditItem) → table_of (form_of q.format) bytes q.file ≡ Ok e → (all : List ℕ) → left ≡ Some all → after ≡ Some []
  unfolding long_table
  ended e h all told =
      ⊎_elim (λ whole. whole.1) (λ long. absurd (no_edit (sym h ∙ long_table (form_of q.format) bytes q.file long.0))) (is all told)
    where
      no_edit : ◌≡◌ {A = Result (List EditItem) TableFault} (Ok e) (Err table.Long) → ⊥
      no_edit x = absurd cc

-- an answer that isn't want of memory is that of the definition
pub answered : (answer : Result (List EditItem) TableFault) (e : List EditItem) → Answers answer (Ok e) → answer ≡ Ok e
answered answer e (inl h) = sym h
answered answer e (inr h) = absurd cc

faulted : (answer : Result (List EditItem) TableFault) (fault : TableFault) → (fault ≡ table.Memory → ⊥) → Answers answer (Err fault) → answer ≡ Err fault
faulted answer fault other (inl h) = sym h
faulted answer fault other (inr h) = absurd (other (the_fault h))
  where
    the_fault : ◌≡◌ {A = Result (List EditItem) TableFault} (Err fault) (Err table.Memory) → fault ≡ table.Memory
    the_fault x = cc

module _ (q : Request) (takes : takes_table q.command ≡ true) (left after : Option (List ℕ)) where
  -- a source that isn't read to its end
  pub unread : (stop : ReadStop) → RefusesTable q left (stop_of_source stop)
  unread source.Read = takes
  unread source.Memory = tt

  -- a table that is refused
  pub refused : (bytes : List ℕ) → IsTableOf left after bytes → (fault : TableFault) → Answers (table_of (form_of q.format) bytes q.file) (Err fault)
      → RefusesTable q left (stop_of_table fault)
  unfolding faulted
  refused bytes is fault h = go fault refl
    where
      given : (f : TableFault) → fault ≡ f → (f ≡ table.Memory → ⊥) → (takes_table q.command ≡ true) × GivesEdit q left (Err f)
      given f same other =
          (takes, gives q left after bytes is (Err f) (faulted (table_of (form_of q.format) bytes q.file) f other (subst (λ (x : TableFault). Answers (table_of (form_of q.format) bytes q.file) (Err x)) same h)))

      go : (f : TableFault) → fault ≡ f → RefusesTable q left (stop_of_table f)
      go table.Long same = given table.Long same (λ x. absurd cc)
      go table.NoHeader same = given table.NoHeader same (λ x. absurd cc)
      go (table.UnknownColumn n) same = given (table.UnknownColumn n) same (λ x. absurd cc)
      go (table.TwiceColumn n) same = given (table.TwiceColumn n) same (λ x. absurd cc)
      go (table.RowLength row) same = given (table.RowLength row) same (λ x. absurd cc)
      go (table.NotUtf8 row) same = given (table.NotUtf8 row) same (λ x. absurd cc)
      go (table.BadEscape row col) same = given (table.BadEscape row col) same (λ x. absurd cc)
      go table.NoRow same = given table.NoRow same (λ x. absurd cc)
      go (table.TwoRows first second) same = given (table.TwoRows first second) same (λ x. absurd cc)
      go (table.Line n) same = given (table.Line n) same (λ x. absurd cc)
      go table.Memory same = tt
