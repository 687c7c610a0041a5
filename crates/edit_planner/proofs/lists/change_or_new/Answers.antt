use Rattle.std.proofs.Common.{◌∙◌, ◌≡◌, sym, ap, arith, subst, length, List, ℕ}
use Rattle.std.specs.Prelude.{Option}
use Rattle.bext_fields.specs.Change.{raw_items_of}
use Rattle.carrier_model.specs.Lists.{home}
use Rattle.wave_model.specs.Carry.{info_part}
use Rattle.edit_planner.specs.declared.cells.CellAt.{CellAt}
use Rattle.edit_planner.specs.declared.cells.Content.{Content}
use Rattle.edit_planner.specs.declared.lists.Homed.{Homed}
use Rattle.edit_planner.specs.Lists.{all_marks, homed_of, new_sizes, part_in, sizes_in}
use Rattle.avi_file.proofs.Placed.{ok_always}
use Rattle.edit_planner.proofs.Sizes.{large_changed, model_sizes, sizes_changed, sizes_new, tells_all, tells_as}
use Rattle.edit_planner.proofs.InfoLists.{edits_by, lists_changed, lists_follow, lists_long, are_info}
use Rattle.edit_planner.proofs.lists.change_or_new.Goals as goal

pub change_lists-requires-clause-info : goal.change_lists-requires-clause-info
change_lists-requires-clause-info c = are_info (home (all_marks c.deref.result.now)) (raw_items_of c.args.changes.now) c.deref-2.result.now (c.deref-2.ensures.value ∙ c.in-Ok.ensures)

pub new_list-requires : goal.new_list-requires
new_list-requires c = record { info = are_info (home (all_marks c.deref.result.now)) (raw_items_of c.args.changes.now) c.deref-3.result.now (c.deref-3.ensures.value ∙ c.in-Ok.ensures) }

pub returns-in-Err-change_lists-clause-large : goal.returns-in-Err-change_lists-clause-large
returns-in-Err-change_lists-clause-large c = λ held t from xs k u small e.
    let f = info_part (raw_items_of c.args.changes.now) in
    let same = c.deref-2.ensures.value ∙ c.in-Ok.ensures ∙ ap (λ (ys : List CellAt). homed_of (home (all_marks ys)) f) c.deref.ensures.value in
    large_changed ℕ (Option Content) held k t f from xs c.args.cells.now.items c.deref-2.result.now c.in-Err-change_lists.fault same u small e
    (tells_as ℕ ℕ (sizes_in c.deref-2.result.now 0 c.args.cells.now.items) c.in-Err-change_lists.fault c.in-Err-change_lists.ensures.large)

pub returns-then-count-gt0-clause-edits : goal.returns-then-count-gt0-clause-edits
returns-then-count-gt0-clause-edits c = λ held t from xs k u e.
    let f = info_part (raw_items_of c.args.changes.now) in
    let same = c.deref-2.ensures.value ∙ c.in-Ok.ensures ∙ ap (λ (ys : List CellAt). homed_of (home (all_marks ys)) f) c.deref.ensures.value in
    c.in-Ok-change_lists.ensures.cells ∙ lists_changed held k t f from xs c.args.cells.now.items c.deref-2.result.now same u e (omega (arith, c.in-Ok-change_lists.ensures.count))

pub returns-then-count-gt0-clause-large : goal.returns-then-count-gt0-clause-large
returns-then-count-gt0-clause-large c = λ held t from xs k u small e.
    let f = info_part (raw_items_of c.args.changes.now) in
    let same = c.deref-2.ensures.value ∙ c.in-Ok.ensures ∙ ap (λ (ys : List CellAt). homed_of (home (all_marks ys)) f) c.deref.ensures.value in
    sym (sizes_changed held k t f from xs c.args.cells.now.items c.deref-2.result.now same u small e (omega (arith, c.in-Ok-change_lists.ensures.count))) ∙ c.in-Ok-change_lists.ensures.large

pub returns-then-count-gt0-clause-follow : goal.returns-then-count-gt0-clause-follow
returns-then-count-gt0-clause-follow c = λ from end h. lists_follow c.deref-2.result.now from c.args.cells.now.items c.change_lists.new.cells.items end c.in-Ok-change_lists.ensures.cells h

pub returns-then-count-gt0-clause-count : goal.returns-then-count-gt0-clause-count
returns-then-count-gt0-clause-count c = ap length c.in-Ok-change_lists.ensures.cells ∙ lists_long c.deref-2.result.now 0 c.args.cells.now.items

pub returns-clause-edits : goal.returns-clause-edits
returns-clause-edits c =
    let f = info_part (raw_items_of c.args.changes.now) in
    let same = c.deref-2.ensures.value ∙ c.in-Ok.ensures ∙ ap (λ (ys : List CellAt). homed_of (home (all_marks ys)) f) c.deref.ensures.value in
    let three : c.deref-3.result.now ≡ c.deref-2.result.now = c.deref-3.ensures.value ∙ sym c.deref-2.ensures.value in
    edits_by c.new_list.result f c.args.cells.now.items c.change_lists.new.cells.items c.deref-2.result.now c.deref-3.result.now three same (omega (arith, c.in-Ok-change_lists.ensures.count, c.if-count-gt0.false)) c.in-Ok-change_lists.ensures.cells
    c.new_list.ensures.content

pub returns-clause-large : goal.returns-clause-large
returns-clause-large c = λ held t from xs k u small e.
    let f = info_part (raw_items_of c.args.changes.now) in
    let same = c.deref-2.ensures.value ∙ c.in-Ok.ensures ∙ ap (λ (ys : List CellAt). homed_of (home (all_marks ys)) f) c.deref.ensures.value in
    let three : c.deref-3.result.now ≡ c.deref-2.result.now = c.deref-3.ensures.value ∙ sym c.deref-2.ensures.value in
    tells_all (new_sizes (part_in 0 c.deref-3.result.now)) (model_sizes t f xs) c.new_list.result
    (sizes_new held k t f from xs c.args.cells.now.items c.deref-2.result.now c.deref-3.result.now three same u e (omega (arith, c.in-Ok-change_lists.ensures.count, c.if-count-gt0.false)))
    c.new_list.ensures.large

pub returns-clause-follow : goal.returns-clause-follow
returns-clause-follow c = ok_always c.new_list.result (λ from end h. lists_follow c.deref-2.result.now from c.args.cells.now.items c.change_lists.new.cells.items end c.in-Ok-change_lists.ensures.cells h)

pub returns-clause-count : goal.returns-clause-count
returns-clause-count c = ok_always c.new_list.result (ap length c.in-Ok-change_lists.ensures.cells ∙ lists_long c.deref-2.result.now 0 c.args.cells.now.items)
