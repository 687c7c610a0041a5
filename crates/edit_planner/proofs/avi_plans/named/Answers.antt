use Rattle.std.proofs.Common.{◌∙◌}
use Rattle.avi_model.specs.Avi.{avi_of}
use Rattle.edit_planner.proofs.AviReady.{head_body}
use Rattle.edit_planner.proofs.avi_plans.named.Goals as goal

pub name_spans-requires-clause-tells : goal.name_spans-requires-clause-tells
name_spans-requires-clause-tells g c = λ b holds.
    let t = c.requires.tells b holds in
    record { form = t.form; hdrl_is = head_body 0 12 (avi_of b).children c.args.form.now.head t.head; streams_are = c.deref.ensures.value ∙ (c.requires.mapped b holds).streams }
