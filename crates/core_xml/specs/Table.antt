-- A Core table in XML: the edit that it gives a file, or why it is refused (this project's own).
use Rattle.std.specs.Prelude.{◌≡◌, ◌⊎◌, ℕ, suc, ◌+◌, List, [], ◌∷◌, ◌++◌, length, Bool, true, false, ◌||◌, nat_lt, Option, Some, None, is_none, Result, Ok, Err, if◌then◌else◌}
use Rattle.std.specs.Str.{bytes_eq, is_utf8}
use Rattle.bstr.specs.Text.{lines_of}
use Rattle.part_tree.specs.declared.field.Change.{Change}
use Rattle.part_tree.specs.declared.field.EditItem.{EditItem}
use Rattle.part_tree.specs.declared.field.FieldName.{FieldName}
use Rattle.field_model.specs.Texts.{field_name}
use Rattle.core_table.specs.Answers.{and_then}
use Rattle.core_table.specs.Sets.{has}
use Rattle.core_table.specs.declared.fault.TheConstants.{MOST_BYTES}
use Rattle.core_table.specs.declared.fault.TableFault.{TableFault}
use Rattle.core_table.specs.declared.fault.TableFault.TheVariants.{Line, Long, Memory, NoRow, TwoRows}
use Rattle.core_xml.specs.Lines.{block_end, declaration, field_line, file_line, table_begin, table_end}
use Rattle.core_xml.specs.declared.line.FieldLine.{FieldLine}
use Rattle.core_xml.specs.declared.place.Place.{Place}
use Rattle.core_xml.specs.declared.place.Place.TheVariants as at
use Rattle.core_xml.specs.declared.reading.Reading.{Reading}

-- ---- what a line comes to

-- the start of a table
abbrev pub start : Reading
start = record { place = at.Declaration; block = 0; own = false; seen = []; found = None; items = [] }

abbrev pub moved : Reading → Place → Reading
moved r place = record r { place = place }

-- line n, where only this one may stand
abbrev pub after_fixed : Reading → ℕ → List ℕ → List ℕ → Place → Result Reading TableFault
after_fixed r n this line next = if bytes_eq line this then Ok (moved r next) else Err (Line n)

-- the first line of the file's block, where an earlier one may be the file's too
abbrev pub begin_own : Reading → Option ℕ → Result Reading TableFault
begin_own r (Some first) = Err (TwoRows first (r.block + 1))
begin_own r None =
    Ok (record { place = at.Fields; block = r.block + 1; own = true; seen = []; found = Some (r.block + 1); items = r.items })

-- the first line of another file's block
abbrev pub begin_other : Reading → Reading
begin_other r = record { place = at.Fields; block = r.block + 1; own = false; seen = []; found = r.found; items = r.items }

-- line n, where a block may begin, by the file that it names
abbrev pub after_begin : Reading → List ℕ → ℕ → Option (List ℕ) → Result Reading TableFault
after_begin r file n None = Err (Line n)
after_begin r file n (Some name) = if bytes_eq name file then begin_own r r.found else Ok (begin_other r)

-- the item of a field and a change
abbrev pub item : Option FieldName → Change → List EditItem
item (Some name) change = record { name = name; change = change } ∷ []
item None change = []

-- items behind others, if the block is the file's own
abbrev pub kept : Bool → List EditItem → List EditItem → List EditItem
kept own items more = if own then items ++ more else items

-- line n takes a name that no earlier line of its block has; its change counts in the file's block
abbrev pub take : Reading → ℕ → FieldLine → Result Reading TableFault
take r n said =
    if is_none (field_name said.name) || has r.seen said.name then Err (Line n)
    else Ok (record r { seen = r.seen ++ said.name ∷ []; items = kept r.own r.items (item (field_name said.name) said.change) })

-- line n, where a block may say something of a field
abbrev pub after_field : Reading → ℕ → Option FieldLine → Result Reading TableFault
after_field r n None = Err (Line n)
after_field r n (Some said) = take r n said

-- line n by the place where it stands
abbrev pub after_form : Reading → List ℕ → ℕ → List ℕ → Place → Result Reading TableFault
after_form r file n line at.Declaration = after_fixed r n declaration line at.Table
after_form r file n line at.Table = after_fixed r n table_begin line at.Blocks
after_form r file n line at.Blocks = if bytes_eq line table_end then Ok (moved r at.End) else after_begin r file n (file_line line)
after_form r file n line at.Fields = if bytes_eq line block_end then Ok (moved r at.Blocks) else after_field r n (field_line line)
after_form r file n line at.End = Err (Line n)

abbrev pub is_text : List ℕ → Bool
is_text line = is_utf8 line

-- line n: the first that isn't of the form, or isn't UTF-8, is a fault
abbrev pub after_line : Reading → List ℕ → ℕ → List ℕ → Result Reading TableFault
after_line r file n line = if is_text line then after_form r file n line r.place else Err (Line n)

-- ---- the table

-- the items of the file's block, if there was one
abbrev pub items_of : Option ℕ → List EditItem → Result (List EditItem) TableFault
items_of None items = Err NoRow
items_of (Some block) items = Ok items

-- what comes of a table behind whose last line line n would stand
abbrev pub ended : Reading → ℕ → Place → Result (List EditItem) TableFault
ended r n at.End = items_of r.found r.items
ended r n _ = Err (Line n)

abbrev pub at_end : Reading → ℕ → Result (List EditItem) TableFault
at_end r n = ended r n r.place

-- the lines from n on, in order
abbrev pub read_lines : Reading → List ℕ → ℕ → List (List ℕ) → Result (List EditItem) TableFault
read_lines r file n [] = at_end r n
read_lines r file n (line ∷ lines) = and_then (after_line r file n line) (λ next. read_lines next file (suc n) lines)

-- The edit that a table gives a file, or the first fault in reading order. Each line has its line feed.
abbrev pub table : List ℕ → List ℕ → Result (List EditItem) TableFault
table bytes file = if nat_lt MOST_BYTES (length bytes) then Err Long else read_lines start file 1 (lines_of bytes)

-- ---- a result that leads to the same

-- two readings that differ at most in the order of the names that a block has used
pub record IsLike (a b : Reading) : Type 0 where
  pub fields : b ≡ record a { seen = b.seen }
  pub names : (name : List ℕ) → has a.seen name ≡ has b.seen name

-- a reading like this one, or this fault; or want of memory
abbrev pub LeadsTo : Result Reading TableFault → Result Reading TableFault → Type 0
LeadsTo (Ok expected) (Ok got) = IsLike expected got
LeadsTo (Ok expected) (Err fault) = fault ≡ Memory
LeadsTo (Err expected) (Ok got) = ⊥
LeadsTo (Err expected) (Err fault) = (fault ≡ expected) ⊎ (fault ≡ Memory)
