use Rattle.edit_planner.proofs.Formed.{form_mapped, form_sound}
use Rattle.edit_planner.proofs.plans.form_of.Goals as goal

pub returns-clause-form : goal.returns-clause-form
returns-clause-form c = λ b h. form_mapped b c.args.wave.now c.is_some.result c.is_some.ensures h

pub returns-clause-sound : goal.returns-clause-sound
returns-clause-sound c = λ h. form_sound c.args.wave.now c.is_some.result h
