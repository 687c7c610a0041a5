-- Pages of tables: so many whole rows.
use Rattle.std.specs.Prelude.{◌≡◌, ℕ, ◌+◌, ◌*◌, ◌/◌, ◌<◌, ◌^◌, List, ◌++◌, length, take, drop, Bool, true, false, Some, Result}
use Rattle.std.specs.declared.result.Result.TheVariants.{Ok, Err}
use Rattle.part_tree.specs.declared.table.TableForm.{TableForm}
use Rattle.part_tree.specs.declared.table.TableForm.TheVariants.{Chunks32, Chunks64}
use Rattle.part_tree.specs.Moves.{Move}
use Rattle.part_tree.specs.Tables.{width, misfit, relocated, RowsNamed}
use Rattle.relocator.specs.declared.page.Overflow.{Overflow}

-- how many rows a page has
abbrev pub count : TableForm → List ℕ → ℕ
count form page = length page / width form

-- a page of whole rows, of which the first has this number in its table, and the last no more than 2^64 - 2
pub record IsPage (form : TableForm) (page : List ℕ) (first : ℕ) : Type 0 where
  pub whole : length page ≡ width form * count form page
  pub numbered : first + count form page < 2 ^ 64

-- The first row that can't name one of its new places. The rows before it are moved, and the others are as before.
pub record Stops (moves : List Move) (form : TableForm) (first : ℕ) (old new : List ℕ) (o : Overflow) : Type 0 where
  -- its number in the page
  pub row : ℕ
  pub inside : row < count form old
  pub entry : o.entry ≡ first + row
  pub named : RowsNamed moves form row old
  pub place : misfit moves form (take (width form) (drop (width form * row) old)) ≡ Some o.place
  pub page : new ≡ relocated moves form row old ++ drop (width form * row) old

-- All rows are moved, or those before the first that can't name one of its new places.
abbrev pub Relocates : List Move → TableForm → ℕ → List ℕ → List ℕ → Result Unit Overflow → Type 0
Relocates moves form first old new (Ok x) = RowsNamed moves form (count form old) old × (new ≡ relocated moves form (count form old) old)
Relocates moves form first old new (Err o) = Stops moves form first old new o

-- the form of a table of chunk places
abbrev pub chunks : Bool → TableForm
chunks true = Chunks64
chunks false = Chunks32
