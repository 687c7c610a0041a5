use Rattle.std.proofs.Common.{arith}
use Rattle.riff_form.proofs.Steps.{pass_step, cut_step}
use Rattle.riff_form.proofs.Walker.pass.Goals as goal

pub returns-then-size-room-clause-cut : goal.returns-then-size-room-clause-cut
returns-then-size-room-clause-cut c = λ b inside s next form id e. cut_step b c.args.self.now.at c.args.self.now.end c.args.size s next form id inside (omega arith) (omega arith) e

pub returns-clause-chunk : goal.returns-clause-chunk
returns-clause-chunk c = λ b inside s next form riff e. pass_step b c.args.self.now.at c.args.self.now.end c.args.size _ s next form _ inside (omega arith) (omega arith) riff e
