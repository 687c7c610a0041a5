use Rattle.std.proofs.Common.{◌≡◌, ◌∙◌, sym, ap, arith, ℕ, take}
use Rattle.std.specs.List.{flat_map}
use Rattle.std.specs.Prelude.{Option, None}
use Rattle.part_tree.specs.declared.field.Value.{Value}
use Rattle.container_model.specs.Units.{live}
use Rattle.carrier_model.specs.Cells.{acted_cells}
use Rattle.bext_fields.specs.Change.{raw_items_of}
use Rattle.wave_model.specs.Fields.{is_whole as is_field}
use Rattle.wave_model.specs.Carry.{some_chunk, whole_by, whole_part}
use Rattle.wave_file.proofs.Roles.{ok_map}
use Rattle.edit_planner.specs.Cells.{told_row}
use Rattle.edit_planner.proofs.WholeChunks.{last_named, none_named}
use Rattle.edit_planner.proofs.wholes.edit_whole.Goals as goal

pub returns-then-is_of-clause-told : goal.returns-then-is_of-clause-told
returns-then-is_of-clause-told c =
    let w = c.args.word.0 in
    let part = last_named w c.args.changes.now c.changes.k c.index-changes-k.result (omega arith) (omega arith) c.index-changes-k.is (sym c.is_of.ensures ∙ c.if-is_of.true) c.changes.invariant.left in
    ok_map c.put_whole.result
    (λ put. λ xs u e.
    put xs u (c.changes.invariant.same ∙ e) ∙ ap (λ (o : Option (Option Value)). told_row c.args.from (acted_cells (whole_by w o (some_chunk (is_field w) (flat_map live xs))) xs)) (sym part))
    c.put_whole.ensures.told

pub returns-then-is_of-clause-follow : goal.returns-then-is_of-clause-follow
returns-then-is_of-clause-follow c = ok_map c.put_whole.result (λ put. λ end h. put end (rw c.changes.invariant.same h)) c.put_whole.ensures.follow

pub changes-preserved : goal.changes-preserved
changes-preserved c = record {
  same = c.changes.invariant.same;
  inside = omega arith;
  left = none_named c.args.word.0 c.args.changes.now c.changes.k c.index-changes-k.result (omega arith) (omega arith) c.index-changes-k.is (sym c.is_of.ensures ∙ c.if-is_of.false) c.changes.invariant.left;
}

pub returns-clause-told : goal.returns-clause-told
returns-clause-told c = λ xs u e.
    let w = c.args.word.0 in
    let none : c.changes.k ≡ 0 = omega arith in
    let part : whole_part w (raw_items_of c.args.changes.now) ≡ None = sym c.changes.invariant.left ∙ ap (λ (n : ℕ). whole_part w (raw_items_of (take n c.args.changes.now))) none in
    c.changes.invariant.same ∙ e ∙ ap (λ (o : Option (Option Value)). told_row c.args.from (acted_cells (whole_by w o (some_chunk (is_field w) (flat_map live xs))) xs)) (sym part)

pub returns-clause-follow : goal.returns-clause-follow
returns-clause-follow c = λ end h. rw c.changes.invariant.same h
