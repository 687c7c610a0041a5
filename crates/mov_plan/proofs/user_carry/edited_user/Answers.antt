use Rattle.std.proofs.Common.{◌∙◌}
use Rattle.qt_atoms.specs.Walk.{atom_in}
use Rattle.mov_plan.proofs.NewAtoms.{as_plain, not_depot}
use Rattle.mov_plan.proofs.user_carry.edited_user.Goals as goal

pub returns-in-Ok-clause-made : goal.returns-in-Ok-clause-made
returns-in-Ok-clause-made g c = λ b holds is bytes whole small.
    let k = c.args.atom.now in
    c.changed_user.ensures.made (atom_in b k) (as_plain b k c.as_slice.result.now is (c.as_slice.ensures ∙ c.in-Ok.ensures.bytes b holds)) bytes whole

pub returns-in-Ok-clause-cause : goal.returns-in-Ok-clause-cause
returns-in-Ok-clause-cause g c = λ e. absurd (not_depot c.changed_user.result c.changed_user.ensures.cause e)
