-- What a run tells: its summary, and its report (this project's own).
use Rattle.std.specs.Prelude.{◌≡◌, ℕ, Bool, true, false, List, [], ◌++◌, length, decimal, codes, Option, Some, None, ⊤}
use Rattle.part_tree.specs.declared.field.Broken.{Broken}
use Rattle.part_tree.specs.declared.field.EditItem.{EditItem}
use Rattle.part_tree.specs.declared.field.FieldName.{FieldName}
use Rattle.part_tree.specs.declared.field.RuleSet.{RuleSet}
use Rattle.part_tree.specs.declared.fields.Entry.{Entry}
use Rattle.part_tree.specs.Fields.{IsMap, values}
use Rattle.part_tree.specs.declared.names.Kind.{Kind}
use Rattle.field_model.specs.Broken.{findings}
use Rattle.field_model.specs.KindFacts.{facts}
use Rattle.me_report.specs.declared.line.Summary.{Summary}
use Rattle.me_report.specs.Checksums.{checksum_text, finding_count}
use Rattle.me_report.specs.Done.{done_line}
use Rattle.me_report.specs.Findings.{findings_text}
use Rattle.me_report.specs.Report.{show_report}
use Rattle.recovery.specs.declared.whole.Recovered.{Recovered}
use Rattle.recovery.specs.declared.whole.Recovered.TheVariants.{Nothing, Redone}
use Rattle.edit_planner.specs.declared.plans.FileMap.{FileMap}
use Rattle.edit_planner.specs.Kinds.{model_in}
use Rattle.edit_planner.specs.Plan.{fields_in, kind_in, streams_in}
use Rattle.metaedit_top.specs.declared.words.Command.{Command}
use Rattle.metaedit_top.specs.declared.words.Command.TheVariants as command
use Rattle.metaedit_top.specs.declared.words.Request.{Request}
use Rattle.metaedit_top.specs.Asked.{changes, digest, fields_of, fits, payload}
use Rattle.metaedit_top.specs.Tables.{exported, form_of}

-- ---- the summary

-- the summary of a run that edits nothing and reads no file
abbrev pub no_edit : Summary
no_edit = record { changed = false; in_place = false; payload = 0; findings = 0 }

-- the summary of a run that only reads a file whose sound has so many bytes, and that finds so much
abbrev pub look_summary : ℕ → ℕ → Summary
look_summary n k = record { changed = false; in_place = false; payload = n; findings = k }

-- what the fields of a file break as they stand
abbrev pub findings_in : RuleSet → List ℕ → List Broken
findings_in rules o = findings ((model_in o).kind o) ((model_in o).streams o) (fields_of o) [] rules

-- and those that a map tells
abbrev pub findings_of : FileMap → RuleSet → List Broken
findings_of m rules = findings (kind_in m) (streams_in m) (fields_in m) [] rules

-- the summary of an edit of a file
abbrev pub edit_summary : List ℕ → List EditItem → Summary
edit_summary o e = record { changed = changes o e; in_place = fits o e; payload = payload o; findings = 0 }

-- the summary of a command on a file
abbrev pub summary_by : Command → Request → List ℕ → Summary
summary_by command.Set q o = edit_summary o q.edit
summary_by command.Recover q o = no_edit
summary_by command.Show q o = look_summary (payload o) 0
summary_by command.Validate q o = look_summary (payload o) (length (findings_in q.rules o))
summary_by command.Md5 q o = look_summary (payload o) (finding_count (fields_of o) (digest o))
summary_by command.Export q o = look_summary (payload o) 0
summary_by command.Apply q o = edit_summary o q.edit
summary_by command.Make q o = edit_summary o q.edit

-- the summary of a run
abbrev pub summary : Request → List ℕ → Summary
summary q o = summary_by q.command q o

-- nothing is edited
pub record IsUnedited (s : Summary) : Type 0 where
  pub unchanged : s.changed ≡ false
  pub not_in_place : s.in_place ≡ false

-- What the command alone fixes of a summary, whatever the file.
abbrev pub Fixes : Command → Summary → Type 0
Fixes command.Set s = s.findings ≡ 0
Fixes command.Recover s = s ≡ no_edit
Fixes command.Show s = IsUnedited s × (s.findings ≡ 0)
Fixes command.Validate s = IsUnedited s
Fixes command.Md5 s = IsUnedited s
Fixes command.Export s = IsUnedited s × (s.findings ≡ 0)
Fixes command.Apply s = s.findings ≡ 0
Fixes command.Make s = s.findings ≡ 0

-- ---- the report

-- the fields of a file as entries, in field order
pub record Lists (es : List Entry) (o : List ℕ) : Type 0 where
  pub ordered : IsMap es
  pub same : (name : FieldName) → values es name ≡ fields_of o name

-- What is shown of a file: its kind, the length of its sound or pictures, the counted entries of its indexes, its
-- tracks, whose samples the essence holds, and its fields.
pub record Shows (o : List ℕ) (text : List ℕ) : Type 0 where
  pub fields : List Entry
  pub lists : Lists fields o
  pub is : text ≡ show_report o (record {
    kind = (model_in o).kind o;
    payload = payload o;
    fields = fields;
    entries = (model_in o).entries o;
    tracks = (model_in o).tracks o;
    mdats = (model_in o).essence o;
  })

-- The table of a file's fields, under this name of the file.
pub record Exports (q : Request) (o : List ℕ) (text : List ℕ) : Type 0 where
  pub fields : List Entry
  pub lists : Lists fields o
  pub is : text ≡ exported (form_of q.format) q.file fields

-- the line of a file that was made: its kind, its number and its length
abbrev pub made_line : Kind → ℕ → ℕ → List ℕ
made_line kind n len =
    codes "made " ++ ((facts kind).word ++ (codes " " ++ (decimal n
    ++ (codes " bytes " ++ (decimal len ++ codes "\n")))))

-- what is told before an edit is: of a file that was made, that it was
abbrev pub front_by : Command → Request → List ℕ → List ℕ
front_by command.Make q o = made_line q.kind q.n (length o)
front_by _ q o = []

abbrev pub front_of : Request → List ℕ → List ℕ
front_of q o = front_by q.command q o

-- whether a journal was redone
abbrev pub was_redone : Recovered → Bool
was_redone Nothing = false
was_redone (Redone len) = true

-- the line of a recovery, by whether a journal stood beside the file
abbrev pub recovered_line : Bool → List ℕ
recovered_line true = codes "recovered redone\n"
recovered_line false = codes "recovered nothing\n"

-- the text is the report of a command on a file, beside which a journal stood or not
abbrev pub ReportsBy : Command → Request → List ℕ → Bool → List ℕ → Type 0
ReportsBy command.Set q o stood text = text ≡ done_line (summary q o)
ReportsBy command.Recover q o stood text = text ≡ recovered_line stood
ReportsBy command.Show q o stood text = Shows o text
ReportsBy command.Validate q o stood text = text ≡ findings_text (findings_in q.rules o)
ReportsBy command.Md5 q o stood text = text ≡ checksum_text (fields_of o) (digest o)
ReportsBy command.Export q o stood text = Exports q o text
ReportsBy command.Apply q o stood text = text ≡ done_line (summary q o)
ReportsBy command.Make q o stood text = text ≡ front_of q o ++ done_line (summary q o)

-- the text is the report of a run
abbrev pub Reports : Request → List ℕ → Bool → List ℕ → Type 0
Reports q o stood text = ReportsBy q.command q o stood text
