-- A file that is asked for can be made.
use Rattle.std.proofs.Common.{◌≡◌, ℕ, ◌<◌, ◌≤◌, List, [], ◌∷◌, Bool, true, false, ltb, leb, Option, Some, None, Result, Ok, Err, refl, sym, ap, ◌∙◌, subst, cond}
use Rattle.std.specs.Prelude.{◌&&◌, nat_lt, nat_le}
use Rattle.std.proofs.lemmas.Bool.{ltb-true, leb-true, and_parts}
use Rattle.part_tree.specs.declared.field.EditItem.{EditItem}
use Rattle.part_tree.specs.declared.names.Kind.{Kind}
use Rattle.me_generate.specs.Stated.{IsMade, limit_of}
use Rattle.metaedit_top.specs.declared.making.Making.{Making}
use Rattle.metaedit_top.specs.declared.outcome.UsageFault.{UsageFault}
use Rattle.metaedit_top.specs.declared.words.Command.{Command}
use Rattle.metaedit_top.specs.declared.words.Request.{Request}
use Rattle.metaedit_top.specs.Making.{file_of, kind_of, making_by, making_of}
use Rattle.metaedit_top.specs.Words.{Options, Parts, Text, asked, asked_to_make, command_of, edit_of, fits, fitting, is_file, makes_file, options, request, request_by, request_in}
use Rattle.field_model.specs.Numbers.{count_of}

-- the kind and the number that two words give have a file
some_making : {m k : Making} → Some m ≡ Some k → m ≡ k
some_making e = cc

in_range : (kind : Kind) (n : ℕ) (m : Making) → file_of kind n ≡ Some m → IsMade m.kind m.n
in_range kind n m h = go (nat_lt 0 n && nat_le n (limit_of kind)) refl h
  where
    go : (t : Bool) → nat_lt 0 n && nat_le n (limit_of kind) ≡ t → cond t (Some (record { kind = kind; n = n })) None ≡ Some m → IsMade m.kind m.n
    go true e is =
        let parts = and_parts (nat_lt 0 n) (nat_le n (limit_of kind)) e in
        subst (λ (x : Making). IsMade x.kind x.n) (some_making is) (ltb-true 0 n parts.0, leb-true n (limit_of kind) parts.1)
    go false e is = absurd cc

by_named : (kind : Option Kind) (n : Option ℕ) (m : Making) → making_by kind n ≡ Some m → IsMade m.kind m.n
by_named (Some kind) (Some n) m h = in_range kind n m h
by_named (Some kind) None m h = absurd cc
by_named None n m h = absurd cc

by_words : (words : List Text) (m : Making) → making_of words ≡ Some m → IsMade m.kind m.n
by_words [] m h = absurd cc
by_words (a ∷ []) m h = absurd cc
by_words (kind ∷ number ∷ []) m h = by_named (kind_of kind) (count_of number) m h
by_words (a ∷ b ∷ c ∷ more) m h = absurd cc

same_request : {a b : Request} → ◌≡◌ {A = Result Request UsageFault} (Ok a) (Ok b) → a ≡ b
same_request e = cc

not_true : false ≡ true → ⊥
not_true e = absurd cc

module _ (q : Request) (makes : makes_file q.command ≡ true) (command : Command) (file : Text) where
  of_making : (p : Parts) (m : Option Making) → making_of p.items ≡ m → asked_to_make command p m ≡ Ok q → IsMade q.kind q.n
  of_making p (Some m) is h = subst (λ (r : Request). IsMade r.kind r.n) (same_request h) (by_words p.items m is)
  of_making p None is h = absurd cc

  of_edit : (p : Parts) (e : Result (List EditItem) UsageFault) → makes_file command ≡ false → asked command p e ≡ Ok q → IsMade q.kind q.n
  of_edit p (Ok edit) not h = absurd (not_true (sym not ∙ (ap (λ (r : Request). makes_file r.command) (same_request h) ∙ makes)))
  of_edit p (Err f) not h = absurd cc

  of_parts : (p : Parts) (t : Bool) → makes_file command ≡ t → cond t (asked_to_make command p (making_of p.items)) (asked command p (edit_of p.items)) ≡ Ok q → IsMade q.kind q.n
  of_parts p true is h = of_making p (making_of p.items) refl h
  of_parts p false is h = of_edit p (edit_of p.items) is h

  of_fitting : (o : Options) (t : Bool) → request_by command (cond t (Some (record { file = file; rules = o.rules; format = o.format; items = o.rest })) None) ≡ Ok q → IsMade q.kind q.n
  of_fitting o true h = of_parts (record { file = file; rules = o.rules; format = o.format; items = o.rest }) (makes_file command) refl h
  of_fitting o false h = absurd cc

  of_options : (o : Option Options) → request_by command (fitting command file o) ≡ Ok q → IsMade q.kind q.n
  of_options (Some o) h = of_fitting o (fits command o.rest) h
  of_options None h = absurd cc

  of_file : (o : Option Options) (t : Bool) → request_by command (cond t (fitting command file o) None) ≡ Ok q → IsMade q.kind q.n
  of_file o true h = of_options o h
  of_file o false h = absurd cc

of_words : (q : Request) (words : List Text) (c : Option Command) → makes_file q.command ≡ true → request_in c words ≡ Ok q → IsMade q.kind q.n
of_words q words None makes h = absurd cc
of_words q [] (Some command) makes h = absurd cc
of_words q (file ∷ rest) (Some command) makes h = of_file q makes command file (options command rest) (is_file file) h

-- a request to make a file names one that can be made
pub made_number : (words : List Text) (q : Request) → request words ≡ Ok q → makes_file q.command ≡ true → IsMade q.kind q.n
made_number [] q h makes = absurd cc
made_number (first ∷ words) q h makes = of_words q words (command_of first) makes h
