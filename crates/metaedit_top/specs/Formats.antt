-- The form of a Core table, as the words of the command line name it (this project's own).
use Rattle.std.specs.Prelude.{ℕ, List, [], ◌∷◌, take, drop, Bool, false, ◌||◌, Option, Some, None, codes, bytes_eq, if◌then◌else◌}
use Rattle.metaedit_top.specs.declared.format.TableFormat.{TableFormat}
use Rattle.metaedit_top.specs.declared.format.TableFormat.TheVariants.{Csv, Xml}
use Rattle.metaedit_top.specs.declared.format.Formatted.{Formatted as ReadForm}

-- the form that a word names
abbrev pub format_of : List ℕ → Option TableFormat
format_of word =
    if bytes_eq word (codes "csv") then Some Csv else (if bytes_eq word (codes "xml") then Some Xml else None)

-- a form, and the words behind it
pub record Formatted : Type 0 where
  pub format : TableFormat
  pub rest : List (List ℕ)

-- this form, where one is named, before these words
abbrev pub named_form : Option TableFormat → List (List ℕ) → Option Formatted
named_form None rest = None
named_form (Some format) rest = Some (record { format = format; rest = rest })

-- the value of an option that is a word of its own
abbrev pub next_form : List (List ℕ) → Option Formatted
next_form [] = None
next_form (value ∷ rest) = named_form (format_of value) rest

-- whether a word is the option
abbrev pub is_form : List ℕ → Bool
is_form word = bytes_eq word (codes "--as")

-- whether a word is the option with its value, `--as=F`
abbrev pub is_joined_form : List ℕ → Bool
is_joined_form word = bytes_eq (take 5 word) (codes "--as=")

-- whether the first word is the option, alone or with its value
abbrev pub begins_with_form : List (List ℕ) → Bool
begins_with_form [] = false
begins_with_form (word ∷ rest) = is_form word || is_joined_form word

-- `--as F` or `--as=F` at the front
abbrev pub with_format : List (List ℕ) → Option Formatted
with_format [] = None
with_format (word ∷ rest) =
    if is_form word
    then next_form rest
    else (if is_joined_form word then named_form (format_of (drop 5 word)) rest else None)

-- what was read
abbrev pub format_in : ReadForm → Formatted
format_in f = record { format = f.format; rest = f.rest.now }
