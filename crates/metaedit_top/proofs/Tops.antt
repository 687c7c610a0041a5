-- What a whole run answers and leaves.
use Rattle.std.proofs.Common.{◌≡◌, ℕ, List, [], Bool, take, true, false, Option, Some, None, Result, Ok, Err, refl, sym, ap, ◌∙◌, subst, cond, inl, inr, ⊎_elim}
use Rattle.std.specs.Prelude.{◌⊎◌, IsTrue, IsSome, is_some}
use Rattle.std.specs.Io.KnownBytes.{Appends}
use Rattle.core_table.specs.declared.fault.TableFault.{TableFault}
use Rattle.me_bytes.specs.Bytes.{IsBytes}
use Rattle.me_disk.specs.Causes.{Rose}
use Rattle.me_disk.specs.Disk.{Image, Disk, bytes_of, read_as}
use Rattle.edit_journal.specs.Settled.{Settles, SettlesAs}
use Rattle.me_report.specs.declared.line.Summary.{Summary}
use Rattle.part_tree.specs.declared.field.Broken.{Broken}
use Rattle.part_tree.specs.declared.field.EditItem.{EditItem}
use Rattle.part_tree.specs.declared.names.Kind.{Kind}
use Rattle.me_generate.specs.Stated.{IsMade}
use Rattle.part_tree.specs.declared.why.Why.{Why}
use Rattle.recovery.proofs.Alike.{settles_once}
use Rattle.metaedit_top.specs.declared.outcome.Finished.{Finished}
use Rattle.metaedit_top.specs.declared.outcome.Outcome.{Outcome}
use Rattle.metaedit_top.specs.declared.outcome.Outcome.TheVariants as outcome
use Rattle.metaedit_top.specs.declared.outcome.Stop.{Stop}
use Rattle.metaedit_top.specs.declared.outcome.Stop.TheVariants as stop
use Rattle.metaedit_top.specs.declared.outcome.UsageFault.{UsageFault}
use Rattle.metaedit_top.specs.declared.table.TableStop.{TableStop}
use Rattle.metaedit_top.specs.declared.table.TableStop.TheVariants as table
use Rattle.metaedit_top.specs.declared.words.Command.{Command}
use Rattle.metaedit_top.specs.declared.words.Command.TheVariants as command
use Rattle.metaedit_top.specs.declared.words.Request.{Request}
use Rattle.metaedit_top.specs.Answered.{AcceptsWords, AsksToMake, Because, Ends, EndsUnprinted, FixesBy, MayStandOf, TakesTable, TellsTable}
use Rattle.metaedit_top.specs.Asked.{AcceptsBy, AcceptsEdit, Accepts, broken_by, edits_file, reads_file, too_large, why_in}
use Rattle.metaedit_top.specs.Begun.{Begins, BeginsBy, IsClear, LeavesBy, MakeStops, MayStandBy, OnBegun, StandsBy, StopsBy, StopsIn, bytes_before, made_of}
use Rattle.metaedit_top.specs.Run.{AreBytes, HasRun, HasTold, Stops, has_journal}
use Rattle.metaedit_top.specs.Tables.{Asks, EditsBy, GivesEdit, HasTableFault, RefusesTable, RunsAs, asks_table, form_of, made_edit, reads_table, table_of, takes_table, with_edit}
use Rattle.metaedit_top.specs.Told.{Fixes, summary}
use Rattle.metaedit_top.specs.Words.{makes_file, request}
use Rattle.metaedit_top.proofs.MadeWords.{made_number}

-- the request that the words ask for is one
same_request : (words : List (List ℕ)) (r q : Request) → request words ≡ Ok r → request words ≡ Ok q → r ≡ q
same_request words r q mine is = ap (λ (x : Result Request _). request_in x) (sym mine ∙ is)
  where
    request_in : {E : Type 0} → Result Request E → Request
    request_in (Ok x) = x
    request_in (Err e) = r

-- ---- the request with the edit of its run

pub asked_for : (words : List (List ℕ)) (left : Option (List ℕ)) (asked q : Request) → request words ≡ Ok asked → RunsAs asked left q → Asks words left q
asked_for words left asked q is runs = record { asked = asked; is = is; runs = runs }

-- its command is that of the words
same_command : (asked : Request) (left : Option (List ℕ)) (q : Request) → RunsAs asked left q → q.command ≡ asked.command
same_command asked left q runs = ap (λ (x : Request). x.command) runs.same

-- and it names the kind and the number of the words
same_kind : (asked : Request) (left : Option (List ℕ)) (q : Request) → RunsAs asked left q → (q.kind ≡ asked.kind) × (q.n ≡ asked.n)
same_kind asked left q runs = (ap (λ (x : Request). x.kind) runs.same, ap (λ (x : Request). x.n) runs.same)

no_none : {A : Type 0} {x : A} → None ≡ Some x → ⊥
no_none e = absurd cc

not_true : false ≡ true → ⊥
not_true x = absurd cc

same_edit_of : {d e : List EditItem} → ◌≡◌ {A = Result (List EditItem) TableFault} (Ok d) (Ok e) → d ≡ e
same_edit_of x = cc

-- the edit of a run is one, where the source tells the table
one_edit : (asked : Request) (left : Option (List ℕ)) (d e : List EditItem) → TellsTable asked left → EditsBy asked.command asked left d → EditsBy asked.command asked left e → d ≡ e
one_edit asked left d e tells x y = go asked.command left refl tells x y
  where
    by_table : (l : Option (List ℕ)) → IsSome l → GivesEdit asked l (Ok d) → GivesEdit asked l (Ok e) → d ≡ e
    by_table None some x y = absurd (not_true some)
    by_table (Some all) some x y = same_edit_of (sym (x all refl) ∙ y all refl)

    go : (c : Command) (l : Option (List ℕ)) → asked.command ≡ c → (takes_table asked.command ≡ true → IsSome l) → EditsBy c asked l d → EditsBy c asked l e → d ≡ e
    go command.Apply l is told x y = by_table l (told (ap takes_table is)) x y
    go command.Make l is told x y = x ∙ sym y
    go command.Set l is told x y = x ∙ sym y
    go command.Recover l is told x y = x ∙ sym y
    go command.Show l is told x y = x ∙ sym y
    go command.Validate l is told x y = x ∙ sym y
    go command.Md5 l is told x y = x ∙ sym y
    go command.Export l is told x y = x ∙ sym y

-- what is asked for is one request
same_asked : (words : List (List ℕ)) (left : Option (List ℕ)) (r q : Request) → Asks words left r → Asks words left q → TellsTable q left → r ≡ q
unfolding same_request same_command one_edit
same_asked words left r q mine is tells =
    let same : is.asked ≡ mine.asked = same_request words is.asked mine.asked is.is mine.is in
    let runs : RunsAs is.asked left r = subst (λ (x : Request). RunsAs x left r) (sym same) mine.runs in
    let told : TellsTable is.asked left = λ takes. tells (ap takes_table (same_command is.asked left q is.runs) ∙ takes) in
    let edit : r.edit ≡ q.edit = one_edit is.asked left r.edit q.edit told runs.edit is.runs.edit in
    runs.same ∙ ap (λ (e : List EditItem). with_edit e is.asked) edit ∙ sym is.runs.same

-- ---- a table that gives no edit

-- whether the words ask for one is told by their request
pub reads_it : (words : List (List ℕ)) (asked : Request) (t : Bool) → request words ≡ Ok asked → takes_table asked.command ≡ t → reads_table words ≡ t
reads_it words asked t is takes = ap asks_table is ∙ takes

pub takes_it : (words : List (List ℕ)) (asked : Request) (t : Bool) → request words ≡ Ok asked → reads_table words ≡ t → takes_table asked.command ≡ t
takes_it words asked t is reads = sym (ap asks_table is) ∙ reads

err_is : {a b : TableFault} → ◌≡◌ {A = Result (List EditItem) TableFault} (Err a) (Err b) → a ≡ b
err_is x = cc

module _ (words : List (List ℕ)) (left after : Option (List ℕ)) where
  -- words that are refused ask for no table
  pub no_words : (fault : UsageFault) → request words ≡ Err fault → TakesTable words left after (outcome.Usage fault)
  no_words fault is = record {
    faulty = λ f same. absurd cc;
    told = λ all f told has. absurd (both (sym is ∙ has.is));
    whole = λ all told reads past. absurd (not_true past);
  }
    where
      both : {q : Request} → ◌≡◌ {A = Result Request UsageFault} (Err fault) (Ok q) → ⊥
      both x = absurd cc

  pub no_memory_for_table : TakesTable words left after outcome.Memory
  no_memory_for_table = record {
    faulty = λ f same. absurd cc;
    told = λ all f told has. inr (inr refl);
    whole = λ all told reads past. absurd (not_true past);
  }

  pub not_read : TakesTable words left after outcome.TableReadFault
  not_read = record {
    faulty = λ f same. absurd cc;
    told = λ all f told has. inr (inl refl);
    whole = λ all told reads past. absurd (not_true past);
  }

  module _ (asked : Request) (is : request words ≡ Ok asked) where
    -- a table has one first fault
    one_fault : (fault other : TableFault) (all : List ℕ) → left ≡ Some all → RefusesTable asked left (table.Fault fault) → HasTableFault words left other → fault ≡ other
    unfolding same_request
    one_fault fault other all told refuses has =
        let same = same_request words asked has.asked is has.is in
        err_is (sym (refuses.1 all told) ∙ ap (λ (x : Request). table_of (form_of x.format) all x.file) same ∙ has.gives all told)

    pub table_refused : (fault : TableFault) → RefusesTable asked left (table.Fault fault) → TakesTable words left after (outcome.TableFault fault)
    unfolding one_fault
    table_refused fault refuses = record {
      faulty = λ f same. subst (HasTableFault words left) (fault_is fault f same) (record { asked = asked; is = is; takes = refuses.0; gives = refuses.1 });
      told = λ all f told has. inl (ap outcome.TableFault (one_fault fault f all told refuses has));
      whole = λ all told reads past. absurd (not_true past);
    }
      where
        fault_is : (a b : TableFault) → outcome.TableFault a ≡ outcome.TableFault b → a ≡ b
        fault_is a b e = cc

    -- a table that gives an edit has no fault
    no_fault : (q : Request) (other : TableFault) (all : List ℕ) → left ≡ Some all → RunsAs asked left q → HasTableFault words left other → ⊥
    unfolding same_request
    no_fault q other all told runs has = go asked.command refl runs.edit (ap (λ (x : Request). takes_table x.command) same ∙ has.takes)
      where
        same : asked ≡ has.asked
        same = same_request words asked has.asked is has.is

        both : {e : List EditItem} → ◌≡◌ {A = Result (List EditItem) TableFault} (Ok e) (Err other) → ⊥
        both x = absurd cc

        go : (c : Command) → asked.command ≡ c → EditsBy c asked left q.edit → takes_table asked.command ≡ true → ⊥
        go command.Apply of edit takes =
            both (sym (edit all told) ∙ ap (λ (x : Request). table_of (form_of x.format) all x.file) same ∙ has.gives all told)
        go command.Make of edit takes = not_true (sym (ap takes_table of) ∙ takes)
        go command.Set of edit takes = not_true (sym (ap takes_table of) ∙ takes)
        go command.Recover of edit takes = not_true (sym (ap takes_table of) ∙ takes)
        go command.Show of edit takes = not_true (sym (ap takes_table of) ∙ takes)
        go command.Validate of edit takes = not_true (sym (ap takes_table of) ∙ takes)
        go command.Md5 of edit takes = not_true (sym (ap takes_table of) ∙ takes)
        go command.Export of edit takes = not_true (sym (ap takes_table of) ∙ takes)

    -- where nothing stands against what is asked for, a table that is told isn't refused
    there_is : (l : Option (List ℕ)) → IsSome l → (all : List ℕ) × (l ≡ Some all)
    there_is None some = absurd (not_true some)
    there_is (Some all) some = (all, refl)

    pub never_refused : (fault : TableFault) → RefusesTable asked left (table.Fault fault) → (d : Disk) → AcceptsWords words left d → ⊥
    unfolding no_fault same_request same_command there_is
    never_refused fault refuses d accepts =
        let q = accepts.1.0 in
        let asks = accepts.1.1 in
        let same : asks.asked ≡ asked = same_request words asks.asked asked asks.is is in
        let runs : RunsAs asked left q = subst (λ (x : Request). RunsAs x left q) same asks.runs in
        let told = there_is left (accepts.1.2 (ap takes_table (same_command asked left q runs) ∙ refuses.0)) in
        no_fault q fault told.0 told.1 runs (record { asked = asked; is = is; takes = refuses.0; gives = refuses.1 })

    -- what came to the device had read its table
    pub table_taken : (q : Request) → RunsAs asked left q
        → ((all : List ℕ) → left ≡ Some all → takes_table asked.command ≡ true → after ≡ Some [])
        → (result : Outcome) → ((fault : TableFault) → result ≡ outcome.TableFault fault → ⊥) → TakesTable words left after result
    unfolding no_fault
    table_taken q runs ended result other = record {
      faulty = λ f same. absurd (other f same);
      told = λ all f told has. absurd (no_fault q f all told runs has);
      whole = λ all told reads past. ended all told (sym (ap asks_table is) ∙ reads);
    }

-- ---- a file that is made

-- the request makes one where the words ask for it
pub makes_it : (words : List (List ℕ)) (left : Option (List ℕ)) (q : Request) → Asks words left q → AsksToMake words → makes_file q.command ≡ true
unfolding same_request same_command
makes_it words left q is make =
    ap makes_file (same_command is.asked left q is.runs) ∙ ap (λ (x : Request). makes_file x.command) (same_request words is.asked make.0 is.is make.1) ∙ make.2

-- ---- a crash at any moment

pub may_by : (words : List (List ℕ)) (left : Option (List ℕ)) (q : Request) (a : Disk) (i : Image) → Asks words left q → MayStandBy q a i → MayStandOf words left a i
may_by words left q a i is may = λ tells f settles bytes. ⊎_elim (λ old. inl old) (λ new. inr (q, is, new)) (may tells f settles bytes)

-- ---- what is done and told

pub fixed_by : (words : List (List ℕ)) (left : Option (List ℕ)) (r : Request) (s t : Summary) → Asks words left r → Fixes r.command s → s ≡ t → FixesBy words t
unfolding same_request same_command
fixed_by words left r s t mine fixes same = λ q is.
    subst (λ (c : Command). Fixes c t) (same_command mine.asked left r mine.runs ∙ ap (λ (x : Request). x.command) (same_request words mine.asked q mine.is is))
    (subst (Fixes r.command) same fixes)

module _ (words : List (List ℕ)) (left : Option (List ℕ)) (q : Request) (a b : Disk) (f : Finished) (is : Asks words left q)
    (ends : OnBegun q a (λ o. IsBytes o → HasRun q o (bytes_before q a o) a b × HasTold q o (has_journal a) f)) where
  pub done_by : (before after : Option (List ℕ)) (s : Summary) → f.summary ≡ s → Appends before after f.text → Ends words left a b before after s
  done_by before after s same wrote = record {
    asked = q;
    is = is;
    done = λ tells. let x = ends tells in (
      x.0,
      x.1,
      λ bytes. let y = x.2 bytes in (y.0, (sym same ∙ y.1.summary_is, (f.text, y.1.report_is, wrote))),
    );
  }

  pub faulted_by : (before after : Option (List ℕ)) (edited : Bool) (k : ℕ) → f.summary.changed ≡ edited → Appends before after (take k f.text)
      → EndsUnprinted words left a b before after edited
  faulted_by before after edited k same wrote = record {
    asked = q;
    is = is;
    done = λ tells. let x = ends tells in (
      x.0,
      x.1,
      λ bytes. let y = x.2 bytes in (y.0, (sym same ∙ ap (λ (s : Summary). s.changed) y.1.summary_is, (f.text, y.1.report_is, (k, wrote)))),
    );
  }

-- ---- causes

pub because : (words : List (List ℕ)) (left : Option (List ℕ)) (q : Request) (a b : Disk) (s : Stop) → Asks words left q → StopsBy q a b s → LeavesBy q a b s → Because words left a b s
because words left q a b s is stops leaves = record { asked = q; is = is; stops = stops; leaves = leaves }

-- ---- nothing stands against what was done

-- the only stop that has no cause in what stands there
abbrev pub IsMemory : Stop → Type 0
IsMemory stop.Memory = Unit {0}
IsMemory _ = ⊥

-- a request that edits is accepted as an edit
edit_by : (c : Command) (q : Request) (o : List ℕ) → AcceptsBy c q.rules q.edit o → edits_file c ≡ true → AcceptsEdit q.rules q.edit o
edit_by command.Set q o h is = h
edit_by command.Apply q o h is = h
edit_by command.Make q o h is = h
edit_by command.Recover q o h is = absurd (not_true is)
edit_by command.Show q o h is = absurd (not_true is)
edit_by command.Validate q o h is = absurd (not_true is)
edit_by command.Md5 q o h is = absurd (not_true is)
edit_by command.Export q o h is = absurd (not_true is)

-- one that reads a file finds it supported
read_by : (c : Command) (q : Request) (o : List ℕ) → AcceptsBy c q.rules q.edit o → reads_file c ≡ true → why_in o ≡ None
read_by command.Set q o h is = h.supported
read_by command.Apply q o h is = h.supported
read_by command.Make q o h is = h.supported
read_by command.Recover q o h is = absurd (not_true is)
read_by command.Show q o h is = h
read_by command.Validate q o h is = h
read_by command.Md5 q o h is = h
read_by command.Export q o h is = h

makes_edits : (c : Command) → makes_file c ≡ true → edits_file c ≡ true
makes_edits command.Make is = refl
makes_edits command.Set is = refl
makes_edits command.Apply is = refl
makes_edits command.Recover is = absurd (not_true is)
makes_edits command.Show is = absurd (not_true is)
makes_edits command.Validate is = absurd (not_true is)
makes_edits command.Md5 is = absurd (not_true is)
makes_edits command.Export is = absurd (not_true is)

module _ (q : Request) (a b : Disk) (o : List ℕ) (tells : IsTrue a.tells) (bytes : IsBytes o) (accepts : Accepts q o) where
  -- ---- a run on the file that is there

  module _ (settles : Settles (Some o) (read_as a.slots)) where
    same_file : (p : List ℕ) → Settles (Some p) (read_as a.slots) → p ≡ o
    same_file p h = bytes_in (settles_once a.slots.main a.slots.journal (Some p) (Some o) h settles)
      where
        bytes_in : {x y : List ℕ} → Some x ≡ Some y → x ≡ y
        bytes_in e = ap bytes_of e

    there : (m j : Option (List ℕ)) → m ≡ None → SettlesAs m j (Some o) → ⊥
    there None None e x = absurd cc
    there None (Some j) e x = x
    there (Some m) j e x = absurd cc

    never_there : (s : Stop) → Stops q a b s → (Rose a.faults b.faults → ⊥) → IsMemory s
    unfolding read_by edit_by same_file there
    never_there stop.Depot h quiet = quiet h
    never_there stop.NoFile h quiet = there a.slots.main a.slots.journal (h tells) settles
    never_there stop.FileThere h quiet = absurd h
    never_there (stop.Damaged at) h quiet = (h tells).nothing (Some o) settles
    never_there (stop.NotSupported w) h quiet =
        let x = h.1 tells in no_none (sym (read_by q.command q o accepts h.0) ∙ ap why_in (sym (same_file x.0 x.1)) ∙ x.2)
    never_there (stop.RuleBroken w) h quiet =
        let x = h.1 tells in
        no_none (sym (edit_by q.command q o accepts h.0).unbroken ∙ ap (λ (p : List ℕ). broken_by q.rules q.edit p) (sym (same_file x.0 x.1)) ∙ x.2.broken)
    never_there (stop.TooLarge size limit) h quiet =
        let x = h.1 tells in
        let large = (x.2 (subst IsBytes (sym (same_file x.0 x.1)) bytes)).large in
        no_none (sym (edit_by q.command q o accepts h.0).small ∙ ap (λ (p : List ℕ). too_large p q.edit) (sym (same_file x.0 x.1)) ∙ large)
    never_there stop.Memory h quiet = tt

  -- ---- a file that is made

  module _ (makes : makes_file q.command ≡ true) (none : Settles None (read_as a.slots)) (is : o ≡ made_of q) where
    edit_made : AcceptsEdit q.rules q.edit (made_of q)
    unfolding edit_by makes_edits
    edit_made = subst (AcceptsEdit q.rules q.edit) is (edit_by q.command q o accepts (makes_edits q.command makes))

    no_main : (m j : Option (List ℕ)) → SettlesAs m j None → IsSome m → ⊥
    no_main None j x some = not_true some
    no_main (Some m) None x some = absurd cc
    no_main (Some m) (Some j) x some = x

    no_journal : (m j : Option (List ℕ)) → SettlesAs m j None → IsSome j → ⊥
    no_journal m None x some = not_true some
    no_journal None (Some j) x some = x
    no_journal (Some m) (Some j) x some = x

    never_made : (s : Stop) → MakeStops q a b s → (Rose a.faults b.faults → ⊥) → IsMemory s
    unfolding edit_made no_main no_journal
    never_made stop.Depot h quiet = quiet h
    never_made stop.NoFile h quiet = absurd h
    never_made stop.FileThere h quiet = no_main a.slots.main a.slots.journal none (h tells)
    never_made (stop.Damaged at) h quiet = no_journal a.slots.main a.slots.journal none (h tells).journal
    never_made (stop.NotSupported w) h quiet =
        no_none (sym edit_made.supported ∙ (h tells).1)
    never_made (stop.RuleBroken w) h quiet = no_none (sym edit_made.unbroken ∙ (h tells).1.broken)
    never_made (stop.TooLarge size limit) h quiet = no_none (sym edit_made.small ∙ (h tells).1.large)
    never_made stop.Memory h quiet = tt

  never_so : (t : Bool) → makes_file q.command ≡ t → BeginsBy t q (read_as a.slots) o → (s : Stop) → StopsIn t q a b s → (Rose a.faults b.faults → ⊥) → IsMemory s
  unfolding never_there never_made
  never_so true makes begins s h quiet = never_made makes begins.0 begins.1 s h.0 quiet
  never_so false makes begins s h quiet = never_there begins s h quiet

pub never : (words : List (List ℕ)) (left : Option (List ℕ)) (r : Request) (a b : Disk) → Asks words left r → AcceptsWords words left a → (s : Stop) → StopsBy r a b s → (Rose a.faults b.faults → ⊥) → IsMemory s
unfolding same_asked never_so
never words left r a b mine all s h quiet =
    let q = all.1.0 in
    let same : r ≡ q = same_asked words left r q mine all.1.1 all.1.2 in
    never_so q a b all.1.3.0 all.0 all.1.3.2 all.1.3.3 (makes_file q.command) refl all.1.3.1 s (subst (λ (x : Request). StopsBy x a b s) same h) quiet

-- ---- the same answer tells the same

pub same_done : (a b : Summary) → outcome.Done a ≡ outcome.Done b → a ≡ b
same_done a b e = cc

pub same_fault : (a b : Bool) → outcome.OutFault a ≡ outcome.OutFault b → a ≡ b
same_fault a b e = cc

pub same_why : (a b : Why) → outcome.NotSupported a ≡ outcome.NotSupported b → a ≡ b
same_why a b e = cc

pub same_broken : (a b : Broken) → outcome.RuleBroken a ≡ outcome.RuleBroken b → a ≡ b
same_broken a b e = cc

pub same_large : (a b m n : ℕ) → outcome.TooLarge a m ≡ outcome.TooLarge b n → (a ≡ b) × (m ≡ n)
same_large a b m n e = (cc, cc)

pub same_place : (a b : ℕ) → outcome.JournalDamaged a ≡ outcome.JournalDamaged b → a ≡ b
same_place a b e = cc

-- the count that is told is that of the device
pub told_count : (a b n : ℕ) → outcome.DepotFault a ≡ outcome.DepotFault b → a ≡ n → b ≡ n
told_count a b n e is = sym (same_count e) ∙ is
  where
    same_count : outcome.DepotFault a ≡ outcome.DepotFault b → a ≡ b
    same_count x = cc

-- a file that is to be made has a number that can be made
pub carried_number : (words : List (List ℕ)) (left : Option (List ℕ)) (asked q : Request) → request words ≡ Ok asked → RunsAs asked left q → makes_file q.command ≡ true → IsMade q.kind q.n
unfolding same_command same_kind
carried_number words left asked q is runs makes =
    let same = same_kind asked left q runs in
    let made = made_number words asked is (ap makes_file (sym (same_command asked left q runs)) ∙ makes) in
    subst (λ (k : Kind). IsMade k q.n) (sym same.0) (subst (λ (n : ℕ). IsMade asked.kind n) (sym same.1) made)
