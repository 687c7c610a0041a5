-- What the words of the command line ask for, or the first thing that is wrong with them (this project's own).
use Rattle.std.specs.Prelude.{ℕ, suc, ◌+◌, Bool, true, false, not, ◌&&◌, ◌==◌, if◌then◌else◌, List, [], ◌∷◌, ◌++◌, length, take, drop, position, Option, Some, None, Result, Ok, Err, codes, bytes_eq, ◌≡◌}
use Rattle.std.specs.List.{list_any}
use Rattle.part_tree.specs.declared.field.Change.{Change}
use Rattle.part_tree.specs.declared.field.Change.TheVariants.{Set, Remove}
use Rattle.part_tree.specs.declared.field.EditItem.{EditItem}
use Rattle.part_tree.specs.declared.field.RuleSet.{RuleSet}
use Rattle.part_tree.specs.declared.field.RuleSet.TheVariants.{Base, Ebu, Fadgi}
use Rattle.part_tree.specs.declared.field.RuleSet.TheVariants as set
use Rattle.part_tree.specs.declared.names.Kind.TheVariants.{Wave}
use Rattle.field_model.specs.Texts.{field_name}
use Rattle.core_edit.specs.Edits.{names_one}
use Rattle.metaedit_top.specs.declared.format.TableFormat.{TableFormat}
use Rattle.metaedit_top.specs.declared.making.Making.{Making}
use Rattle.metaedit_top.specs.declared.outcome.UsageFault.{UsageFault}
use Rattle.metaedit_top.specs.declared.outcome.UsageFault.TheVariants as fault
use Rattle.metaedit_top.specs.declared.words.Command.{Command}
use Rattle.metaedit_top.specs.declared.words.Command.TheVariants as command
use Rattle.metaedit_top.specs.declared.words.Request.{Request}
use Rattle.metaedit_top.specs.declared.words.Collected.{Collected}
use Rattle.metaedit_top.specs.declared.words.Options.{Options as ReadOptions}
use Rattle.metaedit_top.specs.declared.words.Parts.{Parts as ReadParts}
use Rattle.metaedit_top.specs.declared.words.RequestFault.{RequestFault}
use Rattle.metaedit_top.specs.declared.words.RequestFault.TheVariants.{Usage, Memory}
use Rattle.metaedit_top.specs.Formats.{Formatted, begins_with_form, with_format}
use Rattle.metaedit_top.specs.Making.{making_of}

-- a word of the command line, as bytes
abbrev pub Text : Type 0
Text = List ℕ

-- ---- the parts of the words behind the command

-- the command that a word names
abbrev pub command_of : Text → Option Command
command_of word =
    if bytes_eq word (codes "set") then Some command.Set
    else (if bytes_eq word (codes "recover") then Some command.Recover
    else (if bytes_eq word (codes "show") then Some command.Show
    else (if bytes_eq word (codes "validate") then Some command.Validate
    else (if bytes_eq word (codes "md5") then Some command.Md5
    else (if bytes_eq word (codes "export") then Some command.Export
    else (if bytes_eq word (codes "apply") then Some command.Apply
    else (if bytes_eq word (codes "make") then Some command.Make
    else None)))))))

-- a word that begins with `-`
abbrev pub is_dashed : Text → Bool
is_dashed [] = false
is_dashed (first ∷ rest) = first == 45

-- the name of a file: not empty, and no option
abbrev pub is_file : Text → Bool
is_file word = not (length word == 0) && not (is_dashed word)

-- the rules that a word names
abbrev pub rules_of : Text → Option RuleSet
rules_of word =
    if bytes_eq word (codes "base") then Some Base
    else (if bytes_eq word (codes "ebu") then Some Ebu
    else (if bytes_eq word (codes "info") then Some set.Info
    else (if bytes_eq word (codes "fadgi") then Some Fadgi
    else None)))

-- the rules that are tested where no option says which
abbrev pub usual_rules : Command → RuleSet
usual_rules command.Set = Base
usual_rules command.Recover = Base
usual_rules command.Show = Base
usual_rules command.Validate = Fadgi
usual_rules command.Md5 = Base
usual_rules command.Export = Base
usual_rules command.Apply = Base
usual_rules command.Make = Base

-- whether a command takes the option `--rules`
abbrev pub takes_rules : Command → Bool
takes_rules command.Set = true
takes_rules command.Recover = false
takes_rules command.Show = false
takes_rules command.Validate = true
takes_rules command.Md5 = false
takes_rules command.Export = false
takes_rules command.Apply = true
takes_rules command.Make = false

-- whether a command takes the option `--as`, which it then must have
abbrev pub takes_format : Command → Bool
takes_format command.Export = true
takes_format command.Apply = true
takes_format _ = false

-- whether a command makes a file
abbrev pub makes_file : Command → Bool
makes_file command.Make = true
makes_file _ = false

-- the rules, the form of a table, and the words behind the options
pub record Options : Type 0 where
  pub rules : RuleSet
  pub format : Option TableFormat
  pub rest : List Text

-- these rules, where they are named, before these words
abbrev pub chosen : Option RuleSet → List Text → Option Options
chosen None rest = None
chosen (Some rules) rest = Some (record { rules = rules; format = None; rest = rest })

-- the value of an option that is a word of its own
abbrev pub next_word : List Text → Option Options
next_word [] = None
next_word (value ∷ rest) = chosen (rules_of value) rest

-- whether a word is an option with its value, `--rules=R`
abbrev pub is_joined : Text → Bool
is_joined word = bytes_eq (take 8 word) (codes "--rules=")

-- `--rules R` or `--rules=R` directly behind the file, or none
abbrev pub with_rules : RuleSet → List Text → Option Options
with_rules usual [] = Some (record { rules = usual; format = None; rest = [] })
with_rules usual (word ∷ rest) =
    if bytes_eq word (codes "--rules") then next_word rest
    else (if is_joined word then chosen (rules_of (drop 8 word)) rest
    else Some (record { rules = usual; format = None; rest = word ∷ rest }))

-- the rules alone, where the command takes them
abbrev pub rules_alone : Command → List Text → Option Options
rules_alone command words =
    if takes_rules command then with_rules (usual_rules command) words
    else Some (record { rules = usual_rules command; format = None; rest = words })

-- these options with the form of a table, which stands behind them
abbrev pub format_behind : Option Options → Option Options
format_behind None = None
format_behind (Some o) = elim (with_format o.rest) [
  | None ↦ None
  | Some f ↦ Some (record { rules = o.rules; format = Some f.format; rest = f.rest })
]

-- the form of a table, behind which these options stand
abbrev pub format_before : Command → Option Formatted → Option Options
format_before command None = None
format_before command (Some f) = elim (rules_alone command f.rest) [
  | None ↦ None
  | Some o ↦ Some (record { rules = o.rules; format = Some f.format; rest = o.rest })
]

-- the options of a command: each at most once, in any order
abbrev pub options : Command → List Text → Option Options
options command words =
    if takes_format command
    then (if begins_with_form words
    then format_before command (with_format words)
    else format_behind (rules_alone command words))
    else rules_alone command words

-- `set` has one item or more, `make` a kind and a number, and every other command has none; none begins with `-`
abbrev pub fits : Command → List Text → Bool
fits command.Set items = not (length items == 0) && not (list_any is_dashed items)
fits command.Recover items = length items == 0
fits command.Show items = length items == 0
fits command.Validate items = length items == 0
fits command.Md5 items = length items == 0
fits command.Export items = length items == 0
fits command.Apply items = length items == 0
fits command.Make items = (length items == 2) && not (list_any is_dashed items)

-- the file, the options, and the words behind them
pub record Parts : Type 0 where
  pub file : Text
  pub rules : RuleSet
  pub format : Option TableFormat
  pub items : List Text

-- the parts, where these are words that the command may have
abbrev pub fitting : Command → Text → Option Options → Option Parts
fitting command file None = None
fitting command file (Some o) =
    if fits command o.rest
    then Some (record { file = file; rules = o.rules; format = o.format; items = o.rest })
    else None

-- the parts of the words behind a command, where they have its form
abbrev pub parts : Command → List Text → Option Parts
parts command [] = None
parts command (file ∷ words) = if is_file file then fitting command file (options command words) else None

-- ---- the items

-- a text that is set, and a removal where it is empty
abbrev pub change_to : Text → Change
change_to [] = Remove
change_to (first ∷ rest) = Set (first ∷ rest)

-- an item of an edit, or what is wrong with its word, by the word's number
abbrev pub item_by : ℕ → Text → Option ℕ → Result EditItem UsageFault
item_by n word None = Err (fault.Item n)
item_by n word (Some k) =
    if k == 0 then Err (fault.Item n)
    else elim (field_name (take k word)) [
      | None ↦ Err (fault.Field n)
      | Some name ↦ Ok (record { name = name; change = change_to (drop (k + 1) word) })
    ]

-- A name and a value, split at the first `=`. A word without `=`, or with nothing before it, is no item.
abbrev pub item : ℕ → Text → Result EditItem UsageFault
item n word = item_by n word (position (λ b. b == 61) word)

-- the items up to the first word that is none, and what is wrong with that word
pub record Items : Type 0 where
  pub items : List EditItem
  pub stop : Option UsageFault

-- an item before others
abbrev pub before_items : Result EditItem UsageFault → Items → Items
before_items (Err fault) more = record { items = []; stop = Some fault }
before_items (Ok item) more = record { items = item ∷ more.items; stop = more.stop }

-- the items of some words, which are counted from n
abbrev pub items_from : ℕ → List Text → Items
items_from n [] = record { items = []; stop = None }
items_from n (word ∷ words) = before_items (item n word) (items_from (n + 1) words)

-- the number of the first item that names the field of an earlier one, counted from n
abbrev pub twice_from : ℕ → List EditItem → List EditItem → Option ℕ
twice_from n seen [] = None
twice_from n seen (i ∷ items) = if names_one i.name seen then Some n else twice_from (suc n) (seen ++ i ∷ []) items

-- the edit, or the first fault of its words
abbrev pub edit_by : Option ℕ → Items → Result (List EditItem) UsageFault
edit_by (Some n) read = Err (fault.Twice n)
edit_by None read = elim read.stop [ None ↦ Ok read.items | Some fault ↦ Err fault ]

-- the edit that some items read so far give
abbrev pub edit_in : Items → Result (List EditItem) UsageFault
edit_in read = edit_by (twice_from 1 [] read.items) read

-- the edit that the words of the items give
abbrev pub edit_of : List Text → Result (List EditItem) UsageFault
edit_of words = edit_in (items_from 1 words)

-- ---- the request

-- the request of a command with these parts
abbrev pub asked : Command → Parts → Result (List EditItem) UsageFault → Result Request UsageFault
asked command p (Err fault) = Err fault
asked command p (Ok edit) =
    Ok (record {
      command = command;
      file = p.file;
      rules = p.rules;
      format = p.format;
      edit = edit;
      kind = Wave;
      n = 0;
    })

-- the request to make a file of a kind and a number
abbrev pub asked_to_make : Command → Parts → Option Making → Result Request UsageFault
asked_to_make command p None = Err fault.Value
asked_to_make command p (Some m) =
    Ok (record {
      command = command;
      file = p.file;
      rules = p.rules;
      format = p.format;
      edit = [];
      kind = m.kind;
      n = m.n;
    })

-- the request of a command by its parts
abbrev pub request_of : Command → Parts → Result Request UsageFault
request_of command p =
    if makes_file command
    then asked_to_make command p (making_of p.items)
    else asked command p (edit_of p.items)

-- the request, where the words have the form of a command
abbrev pub request_by : Command → Option Parts → Result Request UsageFault
request_by command None = Err fault.Words
request_by command (Some p) = request_of command p

-- the request, where the first word is a command
abbrev pub request_in : Option Command → List Text → Result Request UsageFault
request_in None words = Err fault.UnknownCommand
request_in (Some command) words = request_by command (parts command words)

-- what the words ask for, or the first thing that is wrong with them
abbrev pub request : List Text → Result Request UsageFault
request [] = Err fault.NoCommand
request (first ∷ words) = request_in (command_of first) words

-- what a reading of an item answers
abbrev pub ReadsItem : ℕ → Text → Result EditItem RequestFault → Type 0
ReadsItem n word (Ok i) = item n word ≡ Ok i
ReadsItem n word (Err (Usage fault)) = item n word ≡ Err fault
ReadsItem n word (Err Memory) = Unit {0}

-- what is read is this
abbrev pub ReadsAs : Result Request UsageFault → Result Request RequestFault → Type 0
ReadsAs asked (Ok q) = asked ≡ Ok q
ReadsAs asked (Err (Usage fault)) = asked ≡ Err fault
ReadsAs asked (Err Memory) = Unit {0}

-- what a reading of the words answers
abbrev pub ReadsRequest : List Text → Result Request RequestFault → Type 0
ReadsRequest words result = ReadsAs (request words) result

-- what a reading of the items answers
abbrev pub ReadsEdit : List Text → Result (List EditItem) RequestFault → Type 0
ReadsEdit words (Ok edit) = edit_of words ≡ Ok edit
ReadsEdit words (Err (Usage fault)) = edit_of words ≡ Err fault
ReadsEdit words (Err Memory) = Unit {0}

-- the options that were read
abbrev pub options_in : ReadOptions → Options
options_in o = record { rules = o.rules; format = o.format; rest = o.rest.now }

-- the parts that were read
abbrev pub parts_in : ReadParts → Parts
parts_in p = record { file = p.file.now; rules = p.rules; format = p.format; items = p.items.now }

-- the items that were collected
abbrev pub items_in : Collected → Items
items_in c = record { items = c.items.items; stop = c.stop }
