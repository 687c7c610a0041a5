-- The table of a file's fields.
use Rattle.std.proofs.Common.{◌≡◌, ℕ, List, Bool, Ok, sym, ap, ◌∙◌, subst}
use Rattle.me_disk.specs.Disk.{Disk}
use Rattle.me_disk.specs.Steps.{ReadsOnly}
use Rattle.me_report.specs.declared.line.Summary.{Summary}
use Rattle.edit_planner.specs.declared.plans.FileMap.{FileMap}
use Rattle.edit_planner.specs.Facts.{IsRead}
use Rattle.edit_planner.specs.Plan.{told_in}
use Rattle.metaedit_top.specs.declared.outcome.Finished.{Finished}
use Rattle.metaedit_top.specs.declared.words.Command.{Command}
use Rattle.metaedit_top.specs.declared.words.Command.TheVariants as command
use Rattle.metaedit_top.specs.declared.words.Request.{Request}
use Rattle.metaedit_top.specs.Asked.{AcceptsBy, edits_file}
use Rattle.metaedit_top.specs.Stage.{Acts, IsSettled}
use Rattle.metaedit_top.specs.Tables.{exported, form_of}
use Rattle.metaedit_top.specs.Told.{Fixes, ReportsBy, look_summary, summary_by}
use Rattle.metaedit_top.proofs.Acted.{looks}

pub export_acts : (q : Request) (stood : Bool) (a b : Disk) (m : FileMap) → IsRead a m → ReadsOnly a b → IsSettled a → (f : Finished)
    → q.command ≡ command.Export → f.summary ≡ look_summary (told_in m).payload 0 → f.text ≡ exported (form_of q.format) q.file (told_in m).fields
    → Acts q stood a b (Ok f)
export_acts q stood a b m of reads settled f is summary text =
    looks q stood a b reads f (ap edits_file is) settled
    (subst (λ (c : Command). Fixes c f.summary) (sym is)
    (record { unchanged = ap (λ (s : Summary). s.changed) summary; not_in_place = ap (λ (s : Summary). s.in_place) summary }, ap (λ (s : Summary). s.findings) summary))
    (λ o held bytes.
    let tells = of.tells o held in (
      subst (λ (c : Command). AcceptsBy c q.rules q.edit o) (sym is) tells.supported,
      record {
        summary_is = summary ∙ ap (λ (n : ℕ). look_summary n 0) tells.payload ∙ sym (ap (λ (c : Command). summary_by c q o) is);
        report_is = subst (λ (c : Command). ReportsBy c q o stood f.text) (sym is)
            (record { fields = (told_in m).fields; lists = record { ordered = of.ordered; same = tells.fields }; is = text });
      },
    ))
