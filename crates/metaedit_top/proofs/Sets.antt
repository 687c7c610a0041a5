-- The edit that is asked for, from what is ready for it and what carrying it out leaves.
use Rattle.std.proofs.Common.{◌≡◌, ℕ, ◌+◌, ◌≤◌, ◌++◌, List, Bool, true, false, Option, Some, None, Result, Ok, Err, refl, sym, ap, ◌∙◌, subst, arith, cond, inl}
use Rattle.std.specs.Prelude.{IsTrue, IfErr}
use Rattle.me_bytes.specs.Bytes.{IsBytes}
use Rattle.me_disk.specs.Causes.{Rose}
use Rattle.me_disk.specs.declared.depot.DepotFault.{DepotFault}
use Rattle.me_disk.specs.Disk.{Disk, Image, IsLawful, Leaves, Only, bytes_of, plain}
use Rattle.me_disk.specs.Holds.{Holds}
use Rattle.me_disk.specs.Steps.{ReadsOnly}
use Rattle.me_disk.proofs.Runs.{rose_sooner, ReadsOnly-trans, Leaves-trans, Leaves-reads, Leaves-weaker}
use Rattle.edit_journal.specs.Settled.{Stands}
use Rattle.part_tree.specs.Plans.{applied}
use Rattle.file_swap.specs.Midway.{SettlesEither}
use Rattle.file_swap.specs.Steps.{bytes_by, bytes_written}
use Rattle.file_swap.specs.Swap.{IsSure, Runs, Swapping, fresh}
use Rattle.file_swap.proofs.Installs.{begins_sure}
use Rattle.part_tree.specs.declared.field.EditItem.{EditItem}
use Rattle.part_tree.specs.declared.field.RuleSet.{RuleSet}
use Rattle.me_report.specs.declared.line.Summary.{Summary}
use Rattle.me_report.specs.Done.{done_line}
use Rattle.metaedit_top.specs.declared.outcome.Finished.{Finished}
use Rattle.metaedit_top.specs.declared.outcome.Prepared.{Prepared}
use Rattle.metaedit_top.specs.declared.outcome.Stop.{Stop}
use Rattle.metaedit_top.specs.declared.outcome.Stop.TheVariants as stop
use Rattle.metaedit_top.specs.declared.words.Command.{Command}
use Rattle.metaedit_top.specs.declared.words.Command.TheVariants as command
use Rattle.metaedit_top.specs.declared.words.Request.{Request}
use Rattle.metaedit_top.specs.Asked.{Accepts, AcceptsBy, AcceptsEdit, edits_file, reads_file, run_bytes, why_in}
use Rattle.metaedit_top.specs.Changed.{CarriedBy, IsFresh, IsPrepared, OnSwap, PrepareStops, Prepares, in_front}
use Rattle.metaedit_top.specs.Run.{HasTold, MayLeave, OneImage}
use Rattle.metaedit_top.specs.Stage.{ActLeaves, ActStops, Acts, HasActed, IsSettled}
use Rattle.metaedit_top.specs.Told.{Fixes, ReportsBy, edit_summary, front_by, front_of, summary, summary_by}
use Rattle.metaedit_top.proofs.Acted.{one_plain, one_read, only_plain, stands_on, stops_here}
use Rattle.metaedit_top.proofs.Prepared.{either_made, plan_bytes, run_idle, run_made}

-- a swap that has made no call has written nothing
pub none_written : (s : Swapping) → IsFresh s → bytes_by s.plan s.made ≡ 0
none_written s is = ap (λ (k : ℕ). bytes_by s.plan k) (ap (λ (x : Swapping). x.made) is.unmade)

-- ---- what holds of each command that edits

not_edits : {A : Type 0} → false ≡ true → A
not_edits e = absurd cc

accepts_by : (c : Command) (rules : RuleSet) (e : List EditItem) (o : List ℕ) → edits_file c ≡ true → AcceptsEdit rules e o → AcceptsBy c rules e o
accepts_by command.Set rules e o is h = h
accepts_by command.Apply rules e o is h = h
accepts_by command.Make rules e o is h = h
accepts_by command.Recover rules e o is h = not_edits is
accepts_by command.Show rules e o is h = not_edits is
accepts_by command.Validate rules e o is h = not_edits is
accepts_by command.Md5 rules e o is h = not_edits is
accepts_by command.Export rules e o is h = not_edits is

reads_by : (c : Command) → edits_file c ≡ true → reads_file c ≡ true
reads_by command.Set is = refl
reads_by command.Apply is = refl
reads_by command.Make is = refl
reads_by command.Recover is = not_edits is
reads_by command.Show is = refl
reads_by command.Validate is = refl
reads_by command.Md5 is = refl
reads_by command.Export is = refl

told_by : (c : Command) (q : Request) (o : List ℕ) → edits_file c ≡ true → summary_by c q o ≡ edit_summary o q.edit
told_by command.Set q o is = refl
told_by command.Apply q o is = refl
told_by command.Make q o is = refl
told_by command.Recover q o is = not_edits is
told_by command.Show q o is = not_edits is
told_by command.Validate q o is = not_edits is
told_by command.Md5 q o is = not_edits is
told_by command.Export q o is = not_edits is

fixes_by : (c : Command) (s : Summary) → edits_file c ≡ true → s.findings ≡ 0 → Fixes c s
fixes_by command.Set s is h = h
fixes_by command.Apply s is h = h
fixes_by command.Make s is h = h
fixes_by command.Recover s is h = not_edits is
fixes_by command.Show s is h = not_edits is
fixes_by command.Validate s is h = not_edits is
fixes_by command.Md5 s is h = not_edits is
fixes_by command.Export s is h = not_edits is

-- an edit reads the file
pub edit_reads : (q : Request) → edits_file q.command ≡ true → reads_file q.command ≡ true
unfolding reads_by
edit_reads q is = reads_by q.command is

-- the line behind what is told before an edit is the report
reports_by : (c : Command) (q : Request) (o : List ℕ) (stood : Bool) (text : List ℕ) → edits_file c ≡ true → q.command ≡ c
    → text ≡ front_by c q o ++ done_line (summary q o) → ReportsBy c q o stood text
reports_by command.Set q o stood text is same h = h
reports_by command.Apply q o stood text is same h = h
reports_by command.Make q o stood text is same h =
    h ∙ ap (λ (x : Command). front_by x q o ++ done_line (summary q o)) (sym same)
reports_by command.Recover q o stood text is same h = not_edits is
reports_by command.Show q o stood text is same h = not_edits is
reports_by command.Validate q o stood text is same h = not_edits is
reports_by command.Md5 q o stood text is same h = not_edits is
reports_by command.Export q o stood text is same h = not_edits is

-- ---- what is done, where an edit is asked for; its line is told behind a text

module _ (q : Request) (edits_it : edits_file q.command ≡ true) where
  reads_it : reads_file q.command ≡ true
  unfolding reads_by
  reads_it = reads_by q.command edits_it

  pub by_edit : (o : List ℕ) → AcceptsEdit q.rules q.edit o → Accepts q o
  unfolding accepts_by
  by_edit o h = accepts_by q.command q.rules q.edit o edits_it h

  pub summary_of : (o : List ℕ) (s : Summary) → s ≡ edit_summary o q.edit → s ≡ summary q o
  unfolding told_by
  summary_of o s is = is ∙ sym (told_by q.command q o edits_it)

  -- what is ready, told behind a text
  module _ (front : List ℕ) (stood : Bool) (a b : Disk) (told_first : (o : List ℕ) → Holds a o → front ≡ front_of q o) where
    told : (o : List ℕ) (f : Finished) → Holds a o → f.summary ≡ edit_summary o q.edit → f.text ≡ front ++ done_line f.summary → HasTold q o stood f
    unfolding summary_of reports_by
    told o f held is text =
        let same = summary_of o f.summary is in
        record {
          summary_is = same;
          report_is = reports_by q.command q o stood f.text edits_it refl
              (text ∙ ap (λ (x : List ℕ). x ++ done_line f.summary) (told_first o held) ∙ ap (λ (s : Summary). front_of q o ++ done_line s) same);
        }

    fixes : (f : Finished) → f.summary.findings ≡ 0 → Fixes q.command f.summary
    unfolding fixes_by
    fixes f h = fixes_by q.command f.summary edits_it h

    -- ---- an edit that isn't prepared

    stops_so : (s : Stop) → PrepareStops q.rules q.edit a b s → ActStops q a b s
    unfolding reads_it
    stops_so stop.Depot h = h
    stops_so stop.NoFile h = absurd h
    stops_so stop.FileThere h = absurd h
    stops_so (stop.Damaged at) h = absurd h
    stops_so (stop.NotSupported w) h = (reads_it, h)
    stops_so (stop.RuleBroken w) h = (edits_it, h)
    stops_so (stop.TooLarge size limit) h = (edits_it, h)
    stops_so stop.Memory h = tt

    pub not_prepared : (s t : Stop) → t ≡ s → Prepares q.rules q.edit a b (Err s) → Acts q stood a b (Err t)
    unfolding stops_so
    not_prepared s t is h = subst (λ (x : Stop). Acts q stood a b (Err x)) (sym is) (stops_here q stood a b h.reads s (stops_so s h.stops))

    -- ---- one that is carried out

    module _ (c : Disk) (lawful_b : IsLawful b) (lawful_c : IsLawful c) (settled : IsSettled a) (p : Prepared) (h : Prepares q.rules q.edit a b (Ok p)) where
      same : (o : List ℕ) → Holds a o → bytes_of b.slots.main ≡ o
      same o held = ap bytes_of h.reads.main ∙ held.bytes

      -- what is told
      abbrev ends : Finished
      ends = (in_front front p).finished

      line_of : ends.text ≡ front ++ done_line ends.summary
      line_of = ap (λ (x : List ℕ). front ++ x) h.told.text

      idle : p.swap ≡ None → ReadsOnly b c → Acts q stood a c (Ok ends)
      unfolding told fixes by_edit line_of
      idle none reads =
          let all = ReadsOnly-trans a b c h.reads reads in
          let stands = stands_on (bytes_of a.slots.main) a c all settled.stands in
          record {
            acts = λ o held bytes.
                let ready = h.ready o held bytes in
                record {
                  run = run_idle q edits_it by_edit o p ready bytes none 0 a c (subst (λ (file : List ℕ). Stands file c) held.bytes stands)
                      (all.work ∙ settled.no_work held.tells) (let w = all.written in omega (arith, w));
                  told = told o ends held ready.summary_is line_of;
                };
            fixes = fixes ends h.told.no_findings;
            stops = tt;
            leaves = tt;
            crash = λ one. Leaves-reads (MayLeave q a) a c all;
            again = λ one. one_read a c one all;
            tells = all.tells;
            later = all.faults;
          }

      module _ (s : Swapping) (is : p.swap ≡ Some s) (fresh : IsFresh s) where
        -- the file that is read stands there
        still : Stands (bytes_of b.slots.main) b
        still = subst (λ (m : Option (List ℕ)). Stands (bytes_of m) b) (sym h.reads.main) (stands_on (bytes_of a.slots.main) a b h.reads settled.stands)

        -- and where there was one image, a crash before the first call leaves it alone
        sure : OneImage a → IsSure s (bytes_of b.slots.main) b
        unfolding still
        sure one =
            subst (λ (x : Swapping). IsSure x (bytes_of b.slots.main) b) (sym fresh.unmade)
            (begins_sure b s.plan (bytes_of b.slots.main) (only_plain (bytes_of b.slots.main) b lawful_b still (one_read a b one h.reads)))

        may : (r : Result Unit DepotFault) → Runs s (bytes_of b.slots.main) b c r → OneImage a → Leaves (MayLeave q a) a c
        unfolding same by_edit sure
        may r runs one =
            Leaves-trans (MayLeave q a) a b c (Leaves-reads (MayLeave q a) a b h.reads)
            (Leaves-weaker (SettlesEither (bytes_of b.slots.main) (applied s.plan (bytes_of b.slots.main))) (MayLeave q a) b c
            (λ i either o held bytes.
            either_made q edits_it by_edit o p (h.ready o held bytes) bytes s is i
            (subst (λ (f : List ℕ). SettlesEither f (applied s.plan f) i) (same o held) either)) (runs.crash (sure one)))

        made : (x : Unit {0}) → Runs s (bytes_of b.slots.main) b c (Ok x) → Acts q stood a c (Ok ends)
        unfolding same by_edit told fixes may none_written line_of sure
        made x runs = record {
          acts = λ o held bytes.
              let ready = h.ready o held bytes in
              record {
                run = run_made q edits_it by_edit o p ready bytes s is 0 a c (subst (λ (f : List ℕ). Stands (applied s.plan f) c) (same o held) runs.stands)
                    (runs.work (subst IsTrue (sym (runs.tells ∙ h.reads.tells)) held.tells))
                    (let exact = runs.written.exact in let none = none_written s fresh in let before = h.reads.written in omega (arith, exact, none, before));
                told = told o ends held ready.summary_is line_of;
              };
          fixes = fixes ends h.told.no_findings;
          stops = tt;
          leaves = tt;
          crash = may (Ok x) runs;
          again = λ one. one_plain (applied s.plan (bytes_of b.slots.main)) c lawful_c runs.stands (runs.only (sure one));
          tells = runs.tells ∙ h.reads.tells;
          later = let first = h.reads.faults in let second = runs.cause.later in omega (arith, first, second);
        }

        failed : (x : DepotFault) → Runs s (bytes_of b.slots.main) b c (Err x) → Acts q stood a c (Err stop.Depot)
        unfolding may by_edit none_written
        failed x runs = record {
          acts = λ o held bytes. tt;
          fixes = tt;
          stops = rose_sooner a.faults b.faults c.faults h.reads.faults runs.cause.failed;
          leaves = λ o held bytes.
              let all = plan_bytes q edits_it by_edit o p (h.ready o held bytes) bytes s is in
              let most = runs.written.most in
              let none = none_written s fresh in
              let before = h.reads.written in
              omega (arith, most, all, none, before);
          crash = may (Err x) runs;
          again = λ one. tt;
          tells = runs.tells ∙ h.reads.tells;
          later = let first = h.reads.faults in let second = runs.cause.later in omega (arith, first, second);
        }

        run_so : (r : Result Finished Stop) → CarriedBy (Some s) ends (bytes_of b.slots.main) b c r → Acts q stood a c r
        unfolding made failed
        run_so (Ok f) x = subst (λ (g : Finished). Acts q stood a c (Ok g)) (sym x.0) (made x.1.0 x.1.1)
        run_so (Err e) x = subst (λ (t : Stop). Acts q stood a c (Err t)) (sym x.0) (failed x.1.0 x.1.1)

      carried_by : (x : Option Swapping) → p.swap ≡ x → OnSwap x IsFresh → (r : Result Finished Stop) → CarriedBy x ends (bytes_of b.slots.main) b c r → Acts q stood a c r
      unfolding idle run_so
      carried_by None is fresh r x = subst (λ (y : Result Finished Stop). Acts q stood a c y) (sym x.0) (idle is x.1)
      carried_by (Some s) is fresh r x = run_so s is fresh r x

      pub carried : (r : Result Finished Stop) → CarriedBy p.swap ends (bytes_of b.slots.main) b c r → Acts q stood a c r
      unfolding carried_by
      carried r x = carried_by p.swap refl h.fresh r x

-- what is ready may be carried out
pub settled_on : (a b : Disk) → IsSettled a → ReadsOnly a b → Stands (bytes_of b.slots.main) b
settled_on a b settled reads = subst (λ (m : Option (List ℕ)). Stands (bytes_of m) b) (sym reads.main) (stands_on (bytes_of a.slots.main) a b reads settled.stands)
