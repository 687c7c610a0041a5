-- What a request asks of a file, and what it makes of it (this project's own).
use Rattle.std.specs.Prelude.{◌≡◌, ℕ, Bool, true, false, not, ◌&&◌, if◌then◌else◌, List, [], ◌∷◌, length, take, drop, Option, Some, None, ⊤}
use Rattle.md5.specs.Md5.{md5}
use Rattle.part_tree.specs.declared.field.Broken.{Broken}
use Rattle.part_tree.specs.declared.field.EditItem.{EditItem}
use Rattle.part_tree.specs.declared.field.RuleSet.{RuleSet}
use Rattle.part_tree.specs.declared.names.Span.{Span}
use Rattle.part_tree.specs.declared.why.Why.{Why}
use Rattle.part_tree.specs.Large.{Size}
use Rattle.field_model.specs.Broken.{broken}
use Rattle.field_model.specs.Fields.{FieldMap}
use Rattle.field_model.specs.Kind.{Edited}
use Rattle.field_model.specs.Update.{effective}
use Rattle.edit_journal.specs.Journal.{bytes_in_place}
use Rattle.edit_planner.specs.Kinds.{model_in}
use Rattle.edit_planner.specs.Plan.{total_len}
use Rattle.metaedit_top.specs.declared.words.Command.{Command}
use Rattle.metaedit_top.specs.declared.words.Command.TheVariants as command
use Rattle.metaedit_top.specs.declared.words.Request.{Request}

-- ---- the file, as one of its kind

-- the first reason for which it is refused
abbrev pub why_in : List ℕ → Option Why
why_in o = (model_in o).why o

-- its fields
abbrev pub fields_of : List ℕ → FieldMap
fields_of o = (model_in o).fields o

-- the length of its sound or pictures in bytes
abbrev pub payload : List ℕ → ℕ
payload o = total_len ((model_in o).essence o)

-- the checksum of a range
abbrev pub digest_of : List ℕ → Option Span → Option (List ℕ)
digest_of o None = None
digest_of o (Some s) = Some (md5 (take s.len (drop s.at o)))

-- the checksum of its sound, where its kind has one
abbrev pub digest : List ℕ → Option (List ℕ)
digest o = digest_of o ((model_in o).hashed o)

-- ---- an edit of it

-- the first rule that an edit breaks
abbrev pub broken_by : RuleSet → List EditItem → List ℕ → Option Broken
broken_by rules e o = broken ((model_in o).kind o) ((model_in o).streams o) (fields_of o) e rules

-- the first size of the new file that passes its limit
abbrev pub too_large : List ℕ → List EditItem → Option Size
too_large o e = (model_in o).too_large o e

-- the new file
abbrev pub new_file : List ℕ → List EditItem → List ℕ
new_file o e = (model_in o).new_file o e

-- whether the edit has room in place
abbrev pub has_room : List ℕ → List EditItem → Bool
has_room o e = (model_in o).has_room o e

-- no items
abbrev pub is_idle : List EditItem → Bool
is_idle [] = true
is_idle (i ∷ e) = false

-- whether an item has an effect
abbrev pub changes : List ℕ → List EditItem → Bool
changes o e = not (is_idle (effective (fields_of o) e))

-- whether the edit is made in place
abbrev pub fits : List ℕ → List EditItem → Bool
fits o e = changes o e && has_room o e

-- how many bytes an edit with an effect writes: in place a journal of its patches, and these; else the new file
abbrev pub change_bytes : List ℕ → List EditItem → ℕ
change_bytes o e = if has_room o e then bytes_in_place ((model_in o).patches o e) else length (new_file o e)

-- how many bytes an edit writes
abbrev pub edit_bytes : List ℕ → List EditItem → ℕ
edit_bytes o e = if changes o e then change_bytes o e else 0

-- The file is supported, the edit breaks none of the rules, and nothing of the new file is too large.
pub record AcceptsEdit (rules : RuleSet) (e : List EditItem) (o : List ℕ) : Type 0 where
  pub supported : why_in o ≡ None
  pub unbroken : broken_by rules e o ≡ None
  pub small : too_large o e ≡ None

-- ---- a request

-- whether a command reads the file
abbrev pub reads_file : Command → Bool
reads_file command.Recover = false
reads_file command.Set = true
reads_file command.Show = true
reads_file command.Validate = true
reads_file command.Md5 = true
reads_file command.Export = true
reads_file command.Apply = true
reads_file command.Make = true

-- whether it edits the file
abbrev pub edits_file : Command → Bool
edits_file command.Set = true
edits_file command.Recover = false
edits_file command.Show = false
edits_file command.Validate = false
edits_file command.Md5 = false
edits_file command.Export = false
edits_file command.Apply = true
edits_file command.Make = true

-- nothing stands against a command on a file
abbrev pub AcceptsBy : Command → RuleSet → List EditItem → List ℕ → Type 0
AcceptsBy command.Set rules e o = AcceptsEdit rules e o
AcceptsBy command.Recover rules e o = ⊤
AcceptsBy command.Show rules e o = why_in o ≡ None
AcceptsBy command.Validate rules e o = why_in o ≡ None
AcceptsBy command.Md5 rules e o = why_in o ≡ None
AcceptsBy command.Export rules e o = why_in o ≡ None
AcceptsBy command.Apply rules e o = AcceptsEdit rules e o
AcceptsBy command.Make rules e o = AcceptsEdit rules e o

-- nothing stands against a request on a file
abbrev pub Accepts : Request → List ℕ → Type 0
Accepts q o = AcceptsBy q.command q.rules q.edit o

-- the file that a request makes of one
abbrev pub new_of : Request → List ℕ → List ℕ
new_of q o = if edits_file q.command then new_file o q.edit else o

-- an edit keeps what it must keep, and changes what it names
abbrev pub IsEdited : Request → List ℕ → Type 0
IsEdited q o = edits_file q.command ≡ true → Edited (model_in o) o q.edit (new_file o q.edit)

-- how many bytes a request writes
abbrev pub run_bytes : Request → List ℕ → ℕ
run_bytes q o = if edits_file q.command then edit_bytes o q.edit else 0
