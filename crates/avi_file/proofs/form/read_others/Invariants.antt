use Rattle.std.proofs.Common.{◌-◌, ◌≡◌, ◌≤◌, ◌++◌, ℕ, List, map, false}
use Rattle.me_disk.specs.Steps.{ReadsOnly}
use Rattle.me_disk.specs.Holds.{Holds}
use Rattle.me_disk.specs.Windows.{IsWindow}
use Rattle.container_model.specs.Stood.{stood}
use Rattle.avi_model.specs.Avi.{body_span}
use Rattle.avi_file.specs.Forms.{forms_from, others_told}
use Rattle.avi_file.specs.Walk.{KeepsPlaces, run_told}
use Rattle.avi_file.proofs.Left.{IsLeft}
use Rattle.avi_file.proofs.form.read_others.Given as goal

-- the forms that were read and those that are left are the whole
abbrev pub invariant-forms : goal.invariant-forms
invariant-forms g l = record {
  inside : l.at ≤ l.len;
  least : l.fn.start ≤ l.at;
  window : IsWindow (g.D.Depot.disk l.depot) l.window;
  reads : ReadsOnly (g.D.Depot.disk l.fn.depot) (g.D.Depot.disk l.depot);
  placed : KeepsPlaces l.fn.start l.at l.at l.fn.reading.parts.items l.reading.parts.items;
  spans : (b : List ℕ) → Holds (g.D.Depot.disk l.fn.depot) b
      → l.forms.items ++ map body_span (stood l.at (forms_from false b l.at).chunks) ≡ l.fn.forms.items ++ map body_span (stood l.fn.start (forms_from false b l.fn.start).chunks);
  left : (b : List ℕ) → Holds (g.D.Depot.disk l.fn.depot) b
      → IsLeft (run_told others_told l.fn.start (forms_from false b l.fn.start)) (run_told others_told l.at (forms_from false b l.at)) l.fn.reading l.reading;
}

abbrev pub decreases-forms : goal.decreases-forms
decreases-forms g l = l.len - l.at
