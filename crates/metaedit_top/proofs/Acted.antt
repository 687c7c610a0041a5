-- A file that is settled, and what only reads it.
use Rattle.std.proofs.Common.{◌≡◌, ℕ, List, Bool, true, false, Option, Some, Ok, Err, Result, refl, sym, ap, ◌∙◌, subst, arith, cond}
use Rattle.std.specs.Prelude.{IsTrue}
use Rattle.me_bytes.specs.Bytes.{IsBytes}
use Rattle.me_disk.specs.Causes.{Rose}
use Rattle.me_disk.specs.Disk.{Image, Disk, IsLawful, Only, bytes_of, plain, read_as}
use Rattle.me_disk.specs.Holds.{Holds}
use Rattle.me_disk.specs.Steps.{ReadsOnly}
use Rattle.me_disk.proofs.Runs.{Leaves-reads, ReadsOnly-refl, same_image}
use Rattle.edit_journal.specs.Settled.{Stands}
use Rattle.part_tree.specs.declared.why.ReadFault.{ReadFault}
use Rattle.part_tree.specs.declared.why.ReadFault.TheVariants as read
use Rattle.field_model.specs.KindReads.{Refuses}
use Rattle.edit_planner.specs.declared.plans.FileMap.{FileMap}
use Rattle.edit_planner.specs.Kinds.{model_in}
use Rattle.part_tree.specs.declared.why.Why.{Why}
use Rattle.metaedit_top.specs.declared.outcome.Finished.{Finished}
use Rattle.metaedit_top.specs.declared.outcome.Stop.{Stop}
use Rattle.metaedit_top.specs.declared.outcome.Stop.TheVariants as stop
use Rattle.metaedit_top.specs.declared.words.Command.{Command}
use Rattle.metaedit_top.specs.declared.words.Command.TheVariants as command
use Rattle.metaedit_top.specs.declared.words.Request.{Request}
use Rattle.metaedit_top.specs.Asked.{Accepts, AcceptsBy, edit_bytes, edits_file, new_file, new_of, reads_file, run_bytes, why_in}
use Rattle.metaedit_top.specs.Run.{HasTold, MayLeave, OneImage}
use Rattle.metaedit_top.specs.Stage.{ActLeaves, ActStops, Acts, IsSettled, stop_of_read, stop_of_report}
use Rattle.metaedit_top.specs.Told.{Fixes, ReportsBy, no_edit, recovered_line, summary_by}
use Rattle.me_report.specs.declared.show.ReportFault.{ReportFault}
use Rattle.me_report.specs.declared.show.ReportFault.TheVariants as report

-- a depot that tells what it holds reads as the file that stands there
reads_plain : (file : List ℕ) (d : Disk) → Stands file d → IsTrue d.tells → read_as d.slots ≡ plain (Some file)
reads_plain file d stands tells = same_image (read_as d.slots) (plain (Some file)) (stands.main tells) (stands.journal tells)

-- where it has one image, a crash leaves that file alone
pub only_plain : (file : List ℕ) (d : Disk) → IsLawful d → Stands file d → OneImage d → Only (plain (Some file)) d
unfolding reads_plain
only_plain file d lawful stands one i image = one i image ∙ reads_plain file d stands (lawful.told i image)

-- and where a crash leaves that file alone, it has one image
pub one_plain : (file : List ℕ) (d : Disk) → IsLawful d → Stands file d → Only (plain (Some file)) d → OneImage d
unfolding reads_plain
one_plain file d lawful stands only i image = only i image ∙ sym (reads_plain file d stands (lawful.told i image))

-- a depot that is only read has one image as before
pub one_read : (a b : Disk) → OneImage a → ReadsOnly a b → OneImage b
one_read a b one reads i image =
    one i (reads.crash.images i image) ∙ same_image (read_as a.slots) (read_as b.slots) (sym reads.main) (sym reads.journal)

-- and its file stands there as before
pub stands_on : (file : List ℕ) (a b : Disk) → ReadsOnly a b → Stands file a → Stands file b
stands_on file a b reads stands = record {
  main = λ tells. reads.main ∙ stands.main (subst IsTrue reads.tells tells);
  journal = λ tells. reads.journal ∙ stands.journal (subst IsTrue reads.tells tells);
  state = reads.work_state ∙ stands.state;
}

pub not_true : false ≡ true → ⊥
not_true e = absurd cc

module _ (q : Request) (stood : Bool) (a b : Disk) (reads : ReadsOnly a b) where
  leaves_it : (s : Stop) → ActStops q a b s → ActLeaves q a b s
  leaves_it stop.Depot h = λ o held bytes. let w = reads.written in omega (arith, w)
  leaves_it stop.NoFile h = reads
  leaves_it stop.FileThere h = reads
  leaves_it (stop.Damaged at) h = reads
  leaves_it (stop.NotSupported w) h = reads
  leaves_it (stop.RuleBroken w) h = reads
  leaves_it (stop.TooLarge size limit) h = reads
  leaves_it stop.Memory h = reads

  -- a stop after calls that only read
  pub stops_here : (s : Stop) → ActStops q a b s → Acts q stood a b (Err s)
  unfolding leaves_it
  stops_here s h = record {
    acts = λ o held bytes. tt;
    fixes = tt;
    stops = h;
    leaves = leaves_it s h;
    crash = λ one. Leaves-reads (MayLeave q a) a b reads;
    again = λ one. tt;
    tells = reads.tells;
    later = reads.faults;
  }

  pub no_memory : (s : Stop) → s ≡ stop.Memory → Acts q stood a b (Err s)
  unfolding stops_here
  no_memory s is = subst (λ (t : Stop). Acts q stood a b (Err t)) (sym is) (stops_here stop.Memory tt)

  pub no_depot : (s : Stop) → s ≡ stop.Depot → Rose a.faults b.faults → Acts q stood a b (Err s)
  unfolding stops_here
  no_depot s is rose = subst (λ (t : Stop). Acts q stood a b (Err t)) (sym is) (stops_here stop.Depot rose)

  read_stops : (fault : ReadFault) → reads_file q.command ≡ true → ((o : List ℕ) → Holds a o → Refuses (model_in o) o fault)
      → (◌≡◌ {A = Result FileMap ReadFault} (Err fault) (Err read.Depot) → Rose a.faults b.faults) → ActStops q a b (stop_of_read fault)
  read_stops (read.Why w) reads_it file cause = (reads_it, file)
  read_stops read.Depot reads_it file cause = cause refl
  read_stops read.Memory reads_it file cause = tt

  -- a file that isn't read
  pub not_read : (fault : ReadFault) (s : Stop) → s ≡ stop_of_read fault → reads_file q.command ≡ true → ((o : List ℕ) → Holds a o → Refuses (model_in o) o fault)
      → (◌≡◌ {A = Result FileMap ReadFault} (Err fault) (Err read.Depot) → Rose a.faults b.faults) → Acts q stood a b (Err s)
  unfolding stops_here read_stops
  not_read fault s is reads_it file cause = subst (λ (t : Stop). Acts q stood a b (Err t)) (sym is) (stops_here (stop_of_read fault) (read_stops fault reads_it file cause))

  report_stops : {T : Type 0} (fault : ReportFault) → (◌≡◌ {A = Result T ReportFault} (Err fault) (Err report.Depot) → Rose a.faults b.faults) → ActStops q a b (stop_of_report fault)
  report_stops report.Depot cause = cause refl
  report_stops report.Memory cause = tt

  -- a file that isn't shown
  pub not_shown : {T : Type 0} (fault : ReportFault) (s : Stop) → s ≡ stop_of_report fault → (◌≡◌ {A = Result T ReportFault} (Err fault) (Err report.Depot) → Rose a.faults b.faults)
      → Acts q stood a b (Err s)
  unfolding stops_here report_stops
  not_shown fault s is cause = subst (λ (t : Stop). Acts q stood a b (Err t)) (sym is) (stops_here (stop_of_report fault) (report_stops fault cause))

  -- ---- a command that only reads

  same_file : edits_file q.command ≡ false → (o : List ℕ) → new_of q o ≡ o
  same_file edits_not o = ap (λ (t : Bool). cond t (new_file o q.edit) o) edits_not

  none_written : edits_file q.command ≡ false → (o : List ℕ) → run_bytes q o ≡ 0
  none_written edits_not o = ap (λ (t : Bool). cond t (edit_bytes o q.edit) 0) edits_not

  pub looks : (f : Finished) → edits_file q.command ≡ false → IsSettled a → Fixes q.command f.summary
      → ((o : List ℕ) → Holds a o → IsBytes o → Accepts q o × HasTold q o stood f) → Acts q stood a b (Ok f)
  unfolding same_file none_written
  looks f edits_not settled fixes told = record {
    acts = λ o held bytes. record {
      run = record {
        accepts = (told o held bytes).0;
        stands = subst (λ (file : List ℕ). Stands file b) (held.bytes ∙ sym (same_file edits_not o)) (stands_on (bytes_of a.slots.main) a b reads settled.stands);
        no_work = reads.work ∙ settled.no_work held.tells;
        edited = λ edits. absurd (not_true (sym edits_not ∙ edits));
        written = let w = reads.written in let none = none_written edits_not o in omega (arith, w, none);
      };
      told = (told o held bytes).1;
    };
    fixes = fixes;
    stops = tt;
    leaves = tt;
    crash = λ one. Leaves-reads (MayLeave q a) a b reads;
    again = λ one. one_read a b one reads;
    tells = reads.tells;
    later = reads.faults;
  }

-- a recovery that was all that was asked for
pub recovery_acts : (q : Request) (redone : Bool) (d : Disk) (f : Finished) → q.command ≡ command.Recover → IsSettled d → f.summary ≡ no_edit
    → f.text ≡ recovered_line redone → Acts q redone d d (Ok f)
recovery_acts q redone d f is settled summary text =
    looks q redone d d (ReadsOnly-refl d) f (ap edits_file is) settled (subst (λ (c : Command). Fixes c f.summary) (sym is) summary)
    (λ o held bytes. (
      subst (λ (c : Command). AcceptsBy c q.rules q.edit o) (sym is) tt,
      record {
        summary_is = summary ∙ sym (ap (λ (c : Command). summary_by c q o) is);
        report_is = subst (λ (c : Command). ReportsBy c q o redone f.text) (sym is) text;
      },
    ))
