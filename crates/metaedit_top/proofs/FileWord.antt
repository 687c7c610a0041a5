-- The file that is asked for is the one that the words name.
use Rattle.std.proofs.Common.{◌≡◌, ℕ, List, [], ◌∷◌, Bool, true, false, Option, Some, None, Result, Ok, Err, refl, ap, cond}
use Rattle.part_tree.specs.declared.field.EditItem.{EditItem}
use Rattle.metaedit_top.specs.declared.making.Making.{Making}
use Rattle.metaedit_top.specs.declared.outcome.UsageFault.{UsageFault}
use Rattle.metaedit_top.specs.declared.outcome.UsageFault.TheVariants as fault
use Rattle.metaedit_top.specs.declared.words.Command.{Command}
use Rattle.metaedit_top.specs.declared.words.Request.{Request}
use Rattle.metaedit_top.specs.Started.{file_in}
use Rattle.metaedit_top.specs.Making.{making_of}
use Rattle.metaedit_top.specs.Words.{Options, Parts, Text, asked, asked_to_make, command_of, edit_of, fits, fitting, is_file, makes_file, options, request, request_by, request_in}

-- the file of a request, where there is one
abbrev file_or : List ℕ → Result Request UsageFault → List ℕ
file_or none (Ok q) = q.file
file_or none (Err f) = none

module _ (q : Request) (command : Command) (file : Text) where
  of_edit : (p : Parts) (e : Result (List EditItem) UsageFault) → asked command p e ≡ Ok q → p.file ≡ q.file
  of_edit p (Ok edit) h = ap (file_or file) h
  of_edit p (Err f) h = absurd cc

  of_making : (p : Parts) (m : Option Making) → asked_to_make command p m ≡ Ok q → p.file ≡ q.file
  of_making p (Some m) h = ap (file_or file) h
  of_making p None h = absurd cc

  of_parts : (p : Parts) (t : Bool) → cond t (asked_to_make command p (making_of p.items)) (asked command p (edit_of p.items)) ≡ Ok q → p.file ≡ q.file
  of_parts p true h = of_making p (making_of p.items) h
  of_parts p false h = of_edit p (edit_of p.items) h

  of_fitting : (o : Options) (t : Bool) → request_by command (cond t (Some (record { file = file; rules = o.rules; format = o.format; items = o.rest })) None) ≡ Ok q → file ≡ q.file
  of_fitting o true h = of_parts (record { file = file; rules = o.rules; format = o.format; items = o.rest }) (makes_file command) h
  of_fitting o false h = absurd cc

  of_options : (o : Option Options) → request_by command (fitting command file o) ≡ Ok q → file ≡ q.file
  of_options (Some o) h = of_fitting o (fits command o.rest) h
  of_options None h = absurd cc

  of_file : (o : Option Options) (t : Bool) → request_by command (cond t (fitting command file o) None) ≡ Ok q → file ≡ q.file
  of_file o true h = of_options o h
  of_file o false h = absurd cc

of_words : (q : Request) (first : Text) (words : List Text) (c : Option Command) → request_in c words ≡ Ok q → file_in (first ∷ words) ≡ q.file
of_words q first words None h = absurd cc
of_words q first [] (Some command) h = absurd cc
of_words q first (file ∷ rest) (Some command) h = of_file q command file (options command rest) (is_file file) h

pub asked_file : (words : List Text) (q : Request) → request words ≡ Ok q → file_in words ≡ q.file
asked_file [] q h = absurd cc
asked_file (first ∷ words) q h = of_words q first words (command_of first) h
