use Rattle.std.proofs.Common.{rules, ap, sym, ◌∙◌, ◌≡◌, ◌≤◌, ◌++◌, ℕ, List}
use Rattle.std.specs.Prelude.{Option}
use Rattle.container_model.specs.Windows.{window}
use Rattle.mov_plan.specs.declared.unit.OpenUnit.{OpenUnit}
use Rattle.mov_plan.specs.Rows.{unit_at}
use Rattle.mov_plan.specs.Places.{open_in, open_changed}
use Rattle.unit_plan.proofs.Slots.{slot_more}
use Rattle.mov_plan.proofs.unit.change_unit.Goals as goal

pub returns-in_ok-extend_from_slice-in-Some-clause-unit : goal.returns-in_ok-extend_from_slice-in-Some-clause-unit
returns-in_ok-extend_from_slice-in-Some-clause-unit c = λ b next after inside.
    let unit = c.in-Some.field-0 in
    let at = c.args.at in
    let before : unit.start ≤ at = rw c.in-Some.is at c.requires.order in
    let made : c.extend_from_slice.new.self.items ≡ unit.spelled.items ++ c.args.now.now = search rules in
    ap (λ (x : List ℕ). unit_at unit.start x c.extend_from_slice.new.self.items) (slot_more b unit.start at next before after)
    ∙ ap (unit_at unit.start (window b unit.start at ++ window b at next)) made
    ∙ ap (λ (o : Option OpenUnit). open_changed at (open_in b at o) (window b at next) c.args.now.now) (sym c.in-Some.is)
