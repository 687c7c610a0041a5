use Rattle.wave_file.specs.Sized.{sizes_in}
use Rattle.wave_file.proofs.Steps.{pass_state}
use Rattle.wave_file.proofs.sizing.Sizing.pass.Goals as goal

pub returns-in-Ok-clause-state : goal.returns-in-Ok-clause-state
returns-in-Ok-clause-state c = pass_state c.args.self.now.wides.items c.push.new.self.items c.args.id c.args.wide (sizes_in c.args.self.now.ds64) c.if-not-wide.false c.in-Ok.ensures.items
