use Rattle.std.proofs.Common.{refl, ◌≡◌, true, sym, rules, Some, Err}
use Rattle.carrier_model.specs.Lists.{sets_some}
use Rattle.mov_model.specs.Keys.{edit_meta, new_meta}
use Rattle.mov_plan.specs.Carriers.{IsMade}
use Rattle.mov_plan.specs.Keyed.{changes_of}
use Rattle.mov_plan.proofs.NewAtoms.{blank, blank_read, fresh_err, fresh_ok, new_is}
use Rattle.mov_plan.proofs.key_carry.new_meta.Goals as goal

pub returns-in-Err-edited_table-clause-made : goal.returns-in-Err-edited_table-clause-made
returns-in-Err-edited_table-clause-made c =
    let e = changes_of c.args.changes.now in
    let new = c.in-Ok.ensures in
    let t = c.in-Ok.table in
    let some : sets_some e ≡ true = search rules in
    fresh_err (new_meta e) (edit_meta e blank) c.in-Err-edited_table.fault (new_is e t new.table new.read some) (c.in-Err-edited_table.ensures.made blank refl refl refl (blank_read t new.table new.read))

pub returns-clause-made : goal.returns-clause-made
returns-clause-made c =
    let e = changes_of c.args.changes.now in
    let new = c.in-Ok.ensures in
    let t = c.in-Ok.table in
    let some : sets_some e ≡ true = search rules in
    fresh_ok (new_meta e) (edit_meta e blank) c.in-Ok-edited_table.now (new_is e t new.table new.read some) (c.in-Ok-edited_table.ensures.made blank refl refl refl (blank_read t new.table new.read))
