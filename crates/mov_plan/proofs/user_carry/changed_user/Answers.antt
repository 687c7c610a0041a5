use Rattle.std.proofs.Common.{◌≡◌, ◌+◌}
use Rattle.std.specs.Prelude.{codes}
use Rattle.std.specs.declared.result.Result.TheVariants.{Ok}
use Rattle.container_model.specs.Chunk.{spell}
use Rattle.container_model.specs.Items.{edit_carrier}
use Rattle.qt_text.specs.User.{udta, user_items}
use Rattle.mov_plan.specs.Carriers.{IsMade}
use Rattle.mov_plan.specs.Users.{changes_of}
use Rattle.mov_plan.specs.declared.carry.NewAtom.{NewAtom}
use Rattle.mov_plan.proofs.NewAtoms.{can_set, if_both, made_by, only_memory, plain, user_now}
use Rattle.mov_plan.proofs.user_carry.changed_user.Goals as goal

pub returns-in-Ok-clause-made : goal.returns-in-Ok-clause-made
returns-in-Ok-clause-made c = λ d is bytes whole.
    let e = changes_of c.args.changes.now in
    let u = c.in-Ok.user in
    let edited = c.in-Ok.ensures in
    let atom = c.user_atom in
    made_by (edit_carrier udta user_items e d) atom.result
    (if_both (λ (now : NewAtom). now.bytes ≡ spell (plain c.args.form (codes "udta") u.bytes)) (λ (now : NewAtom). now.parts ≡ u.items + 1) (λ (now : NewAtom). IsMade (edit_carrier udta user_items e d) (Ok now)) atom.result
    (user_now e c.args.form c.args.body.now u d is (can_set c.args.changes.now c.requires.can) bytes whole edited.0 edited.1 edited.2)
    atom.ensures.bytes atom.ensures.parts)
    atom.ensures.fault

pub returns-in-Ok-clause-cause : goal.returns-in-Ok-clause-cause
returns-in-Ok-clause-cause c = only_memory c.user_atom.result c.user_atom.ensures.fault
