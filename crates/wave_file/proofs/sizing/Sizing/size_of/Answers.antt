use Rattle.std.proofs.Common.{◌∙◌, ap}
use Rattle.wave_file.specs.Sized.{times}
use Rattle.wave_file.proofs.Steps.{tells_field, tells_size, tells_none}
use Rattle.wave_file.proofs.sizing.Sizing.size_of.Goals as goal

pub returns-in_default : goal.returns-in_default
returns-in_default c = tells_field c.args.self.now c.args.id c.args.field c.from.result c.in_default.is c.from.ensures

pub returns-in-Err : goal.returns-in-Err
returns-in-Err c = (tells_none c.args.self.now c.in-Some.ds c.args.id c.args.field c.times_of-nth.result c.in-Some.is (c.times_of-nth.ensures ∙ ap (times c.args.id.0) c.deref.ensures.value) c.in-Err.ensures.0, c.in-Err.ensures.1)

pub returns-in-Ok : goal.returns-in-Ok
returns-in-Ok c = tells_size c.args.self.now c.in-Some.ds c.args.id c.args.field c.times_of-nth.result c.in-Some.is (c.times_of-nth.ensures ∙ ap (times c.args.id.0) c.deref.ensures.value) c.in-Ok.len c.in-Ok.ensures
