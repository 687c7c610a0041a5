use Rattle.std.proofs.Common.{arith}
use Rattle.riff_form.proofs.Steps.{front_read}
use Rattle.riff_form.proofs.Walker.head.Goals as goal

pub returns-clause-front : goal.returns-clause-front
returns-clause-front g c = λ b holds s.
    front_read b c.args.self.now.at c.args.self.now.end s c.read_at.new.into _ _ (c.requires.inside b holds) (omega arith)
    (c.in_ok-read_at.ensures.bytes b holds) c.head_of.ensures.id c.head_of.ensures.field
