use Rattle.std.proofs.Common.{◌≡◌, drop, length}
use Rattle.field_model.specs.Dates.{has_form}
use Rattle.core_edit.proofs.date.has_form.Given as goal

-- the letters from here on decide
abbrev pub invariant-loop-i : goal.invariant-loop-i
invariant-loop-i l = record {
  same : has_form (drop l.i l.form) (drop l.i l.text) ≡ has_form l.form l.text;
  long : length l.form ≡ length l.text;
}
