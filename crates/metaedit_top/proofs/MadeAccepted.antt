-- A WAVE file that words ask for is accepted with its edit.
use Rattle.std.proofs.Common.{◌≡◌, ℕ, List, [], ◌∷◌, Bool, true, false, Option, Some, None, Result, Ok, Err, refl, sym, ap, ◌∙◌, subst, cond}
use Rattle.part_tree.specs.declared.field.EditItem.{EditItem}
use Rattle.part_tree.specs.declared.field.RuleSet.{RuleSet}
use Rattle.part_tree.specs.declared.field.RuleSet.TheVariants.{Base}
use Rattle.part_tree.specs.declared.names.Kind.{Kind}
use Rattle.part_tree.specs.declared.names.Kind.TheVariants as kind
use Rattle.field_model.specs.Broken.{broken}
use Rattle.field_model.specs.Kind.{KindModel}
use Rattle.edit_planner.specs.Kinds.{is_sound}
use Rattle.edit_planner.proofs.OfKind.{of_kind}
use Rattle.me_generate.specs.Stated.{IsMade, stated}
use Rattle.me_generate.specs.Titled.{set_title}
use Rattle.me_generate.proofs.Titles.{small, unbroken}
use Rattle.me_generate.proofs.Waves.{no_refusal, wave_first}
use Rattle.metaedit_top.specs.declared.making.Making.{Making}
use Rattle.metaedit_top.specs.declared.outcome.UsageFault.{UsageFault}
use Rattle.metaedit_top.specs.declared.words.Command.{Command}
use Rattle.metaedit_top.specs.declared.words.Command.TheVariants as command
use Rattle.metaedit_top.specs.declared.words.Request.{Request}
use Rattle.metaedit_top.specs.Asked.{Accepts, AcceptsBy, AcceptsEdit}
use Rattle.metaedit_top.specs.Begun.{made_of}
use Rattle.metaedit_top.specs.Making.{making_of}
use Rattle.metaedit_top.specs.Tables.{Asks, EditsBy, made_edit}
use Rattle.metaedit_top.specs.Words.{Parts, Text, asked, asked_to_make, command_of, edit_of, fits, is_file, makes_file, parts, request, request_by, request_in}
use Rattle.metaedit_top.proofs.MadeWords.{made_number}

-- ---- what the words of `make` ask for

only_make : (c : Command) → makes_file c ≡ true → c ≡ command.Make
only_make command.Make is = refl
only_make command.Set is = absurd cc
only_make command.Apply is = absurd cc
only_make command.Recover is = absurd cc
only_make command.Show is = absurd cc
only_make command.Validate is = absurd cc
only_make command.Md5 is = absurd cc
only_make command.Export is = absurd cc

same_request : {a b : Request} → ◌≡◌ {A = Result Request UsageFault} (Ok a) (Ok b) → a ≡ b
same_request e = cc

-- the command of a request is the one that was named
named : (q : Request) (c : Command) (p : Option Parts) → request_by c p ≡ Ok q → q.command ≡ c
named q c None h = absurd cc
named q c (Some p) h = go (makes_file c) (making_of p.items) (edit_of p.items) h
  where
    go : (t : Bool) (m : Option Making) (e : Result (List EditItem) UsageFault) → cond t (asked_to_make c p m) (asked c p e) ≡ Ok q → q.command ≡ c
    go true None e h = absurd cc
    go true (Some m) e h = sym (ap (λ (r : Request). r.command) (same_request h))
    go false m (Err f) h = absurd cc
    go false m (Ok e) h = sym (ap (λ (r : Request). r.command) (same_request h))

-- and its rules are the basic ones
usual : (q : Request) (words : List Text) → request_by command.Make (parts command.Make words) ≡ Ok q → q.rules ≡ Base
usual q [] h = absurd cc
usual q (file ∷ words) h = go (is_file file) (fits command.Make words) h
  where
    by_making : (m : Option Making) → asked_to_make command.Make (record { file = file; rules = Base; format = None; items = words }) m ≡ Ok q → q.rules ≡ Base
    by_making None h = absurd cc
    by_making (Some m) h = sym (ap (λ (r : Request). r.rules) (same_request h))

    go : (t u : Bool) → request_by command.Make (cond {A = Option Parts} t (cond {A = Option Parts} u (Some (record { file = file; rules = Base; format = None; items = words })) None) None) ≡ Ok q → q.rules ≡ Base
    go false u h = absurd cc
    go true false h = absurd cc
    go true true h = by_making (making_of words) h

made_rules : (words : List Text) (q : Request) → request words ≡ Ok q → q.command ≡ command.Make → q.rules ≡ Base
made_rules [] q h is = absurd cc
made_rules (first ∷ words) q h is = go (command_of first) h
  where
    go : (c : Option Command) → request_in c words ≡ Ok q → q.rules ≡ Base
    go None h = absurd cc
    go (Some c) h =
        let make : c ≡ command.Make = sym (named q c (parts c words) h) ∙ is in
        usual q words (subst (λ (x : Command). request_by x (parts x words) ≡ Ok q) make h)

-- ---- the file

wave_accepted : (n : ℕ) → IsMade kind.Wave n → AcceptsEdit Base set_title (stated kind.Wave n)
wave_accepted n is =
    let o = stated kind.Wave n in
    record {
      supported =
          of_kind (λ (m : KindModel). m.why o ≡ None) o (Some kind.Wave) (wave_first n) (no_refusal n is);
      unbroken = of_kind (λ (m : KindModel). broken (m.kind o) (m.streams o) (m.fields o) set_title Base ≡ None) o (Some kind.Wave) (wave_first n) (unbroken n is);
      small = of_kind (λ (m : KindModel). m.too_large o set_title ≡ None) o (Some kind.Wave) (wave_first n) (small n is);
    }

accepted : (q : Request) → q.command ≡ command.Make → q.rules ≡ Base → q.kind ≡ kind.Wave → q.edit ≡ made_edit kind.Wave → IsMade q.kind q.n → Accepts q (made_of q)
accepted q make rules wave edit made =
    subst (λ (c : Command). AcceptsBy c q.rules q.edit (stated q.kind q.n)) (sym make)
    (subst (λ (r : RuleSet). AcceptsEdit r q.edit (stated q.kind q.n)) (sym rules)
    (subst (λ (e : List EditItem). AcceptsEdit Base e (stated q.kind q.n)) (sym edit)
    (subst (λ (k : Kind). AcceptsEdit Base (made_edit kind.Wave) (stated k q.n)) (sym wave) (wave_accepted q.n (subst (λ (k : Kind). IsMade k q.n) wave made)))))

pub wave_made : (words : List Text) (left : Option (List ℕ)) (q : Request) → Asks words left q → makes_file q.command ≡ true → q.kind ≡ kind.Wave → Accepts q (made_of q)
wave_made words left q is makes wave =
    let a = is.asked in
    let same = is.runs.same in
    let command_is : q.command ≡ a.command = ap (λ (r : Request). r.command) same in
    let kind_is : q.kind ≡ a.kind = ap (λ (r : Request). r.kind) same in
    let number_is : q.n ≡ a.n = ap (λ (r : Request). r.n) same in
    let makes_a : makes_file a.command ≡ true = sym (ap makes_file command_is) ∙ makes in
    let make : a.command ≡ command.Make = only_make a.command makes_a in
    let edit : q.edit ≡ made_edit a.kind = subst (λ (c : Command). EditsBy c a left q.edit) make is.runs.edit in
    let number : IsMade a.kind a.n = made_number words a is.is makes_a in
    accepted q (command_is ∙ make) (ap (λ (r : Request). r.rules) same ∙ made_rules words a is.is make) wave (edit ∙ ap made_edit (sym kind_is ∙ wave))
    (subst (λ (k : Kind). IsMade k q.n) (sym kind_is) (subst (λ (n : ℕ). IsMade a.kind n) (sym number_is) number))
