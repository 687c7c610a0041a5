-- The table by which a run edits, and the table that it prints (this project's own).
use Rattle.std.specs.Prelude.{◌≡◌, ℕ, List, [], ◌∷◌, Bool, true, false, Option, Some, None, Result, Ok, Err, codes}
use Rattle.core_csv.specs.Row.{row}
use Rattle.core_csv.specs.Table.{table as csv_table}
use Rattle.core_table.specs.declared.fault.TableFault.{TableFault}
use Rattle.core_table.specs.declared.fault.TableFault.TheVariants as table
use Rattle.core_xml.specs.Table.{table as xml_table}
use Rattle.core_xml.specs.Written.{block}
use Rattle.part_tree.specs.declared.field.Change.TheVariants.{Set}
use Rattle.part_tree.specs.declared.field.EditItem.{EditItem}
use Rattle.part_tree.specs.declared.field.FieldName.{FieldName}
use Rattle.part_tree.specs.declared.field.FieldName.TheVariants.{Info, User}
use Rattle.part_tree.specs.declared.fields.Entry.{Entry}
use Rattle.part_tree.specs.declared.names.Kind.{Kind}
use Rattle.part_tree.specs.declared.names.Kind.TheVariants.{Mov}
use Rattle.part_tree.specs.Letters.{four}
use Rattle.table_source.specs.declared.read.ReadStop.{ReadStop}
use Rattle.table_source.specs.declared.read.ReadStop.TheVariants as source
use Rattle.metaedit_top.specs.declared.format.TableFormat.{TableFormat}
use Rattle.metaedit_top.specs.declared.format.TableFormat.TheVariants.{Csv, Xml}
use Rattle.metaedit_top.specs.declared.outcome.UsageFault.{UsageFault}
use Rattle.metaedit_top.specs.declared.table.TableStop.{TableStop}
use Rattle.metaedit_top.specs.declared.table.TableStop.TheVariants.{Read, Fault, Memory}
use Rattle.metaedit_top.specs.declared.words.Command.{Command}
use Rattle.metaedit_top.specs.declared.words.Command.TheVariants as command
use Rattle.metaedit_top.specs.declared.words.Request.{Request}
use Rattle.metaedit_top.specs.Words.{request}

-- the form of a table: CSV where none is named
abbrev pub form_of : Option TableFormat → TableFormat
form_of None = Csv
form_of (Some format) = format

-- the table of a file and its fields
abbrev pub exported : TableFormat → List ℕ → List Entry → List ℕ
exported Csv file fields = row file fields
exported Xml file fields = block file fields

-- the edit that a table gives a file, or the first fault of the table
abbrev pub table_of : TableFormat → List ℕ → List ℕ → Result (List EditItem) TableFault
table_of Csv bytes file = csv_table bytes file
table_of Xml bytes file = xml_table bytes file

-- ---- the edit of a run

-- the title that a made file gets
abbrev pub made_name : Kind → FieldName
made_name Mov = User (four (169 ∷ codes "nam"))
made_name _ = Info (four (codes "INAM"))

-- the edit of a made file
abbrev pub made_edit : Kind → List EditItem
made_edit kind = record { name = made_name kind; change = Set (codes "Made") } ∷ []

-- whether a command edits by a table
abbrev pub takes_table : Command → Bool
takes_table command.Apply = true
takes_table _ = false

-- a request with another edit
abbrev pub with_edit : List EditItem → Request → Request
with_edit e q = record {
  command = q.command;
  file = q.file;
  rules = q.rules;
  format = q.format;
  edit = e;
  kind = q.kind;
  n = q.n;
}

-- what the table that a request is applied with gives, by the bytes that the source had left, where it tells them
abbrev pub GivesEdit : Request → Option (List ℕ) → Result (List EditItem) TableFault → Type 0
GivesEdit q left given = (all : List ℕ) → left ≡ Some all → table_of (form_of q.format) all q.file ≡ given

-- this is the edit of a run: that of the table, that of a made file, or that of the words
abbrev pub EditsBy : Command → Request → Option (List ℕ) → List EditItem → Type 0
EditsBy command.Apply q left e = GivesEdit q left (Ok e)
EditsBy command.Make q left e = e ≡ made_edit q.kind
EditsBy _ q left e = e ≡ q.edit

-- the request with the edit of its run
pub record RunsAs (asked : Request) (left : Option (List ℕ)) (q : Request) : Type 0 where
  pub same : q ≡ with_edit q.edit asked
  pub edit : EditsBy asked.command asked left q.edit

-- what the words ask for, with the edit of the run
pub record Asks (words : List (List ℕ)) (left : Option (List ℕ)) (q : Request) : Type 0 where
  pub asked : Request
  pub is : request words ≡ Ok asked
  pub runs : RunsAs asked left q

-- ---- a table that gives no edit

-- a source that isn't read to its end
abbrev pub stop_of_source : ReadStop → TableStop
stop_of_source source.Read = Read
stop_of_source source.Memory = Memory

-- a table that is refused
abbrev pub stop_of_table : TableFault → TableStop
stop_of_table table.Memory = Memory
stop_of_table fault = Fault fault

-- why it gives none
abbrev pub RefusesTable : Request → Option (List ℕ) → TableStop → Type 0
RefusesTable q left Read = takes_table q.command ≡ true
RefusesTable q left (Fault fault) = (takes_table q.command ≡ true) × GivesEdit q left (Err fault)
RefusesTable q left Memory = Unit {0}

-- the words ask for an edit by a table, of which this is the first fault
pub record HasTableFault (words : List (List ℕ)) (left : Option (List ℕ)) (fault : TableFault) : Type 0 where
  pub asked : Request
  pub is : request words ≡ Ok asked
  pub takes : takes_table asked.command ≡ true
  pub gives : GivesEdit asked left (Err fault)

-- whether a request is an edit by a table
abbrev pub asks_table : Result Request UsageFault → Bool
asks_table (Ok q) = takes_table q.command
asks_table (Err fault) = false

-- whether the words ask for an edit by a table
abbrev pub reads_table : List (List ℕ) → Bool
reads_table words = asks_table (request words)
