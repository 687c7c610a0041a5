use Rattle.std.proofs.Common.{arith, rules, ap, ◌∙◌, ◌≡◌}
use Rattle.std.specs.declared.option.Option.TheVariants.{Some}
use Rattle.container_model.specs.Windows.{window}
use Rattle.riff_form.specs.Walk.{FrontIs}
use Rattle.riff_form.proofs.Steps.{few_stepped, front_few, stepped, stuck}
use Rattle.riff_form.proofs.Walker.step_in.Goals as goal

pub returns-in_default-clause-row : goal.returns-in_default-clause-row
returns-in_default-clause-row c = few_stepped c.args.bytes.now c.args.self.now.at c.args.self.now.end (λ s. front_few c.args.bytes.now c.args.self.now.at c.args.self.now.end s (omega arith) (search rules))

pub returns-in-Err-clause-stuck : goal.returns-in-Err-clause-stuck
returns-in-Err-clause-stuck c =
    let front : FrontIs (window c.args.bytes.now c.args.self.now.at c.args.self.now.end) (Some c.in-Some.head) = rw (← c.requires.inside) at c.in-Some.ensures.front in
    stuck c.args.bytes.now c.args.self.now.at c.args.self.now.end c.in-Some.head _ _ front c.from.ensures (c.in-Err.ensures.cut c.args.bytes.now (omega arith)) (c.in-Err.ensures.place ∙ c.in-Some.ensures.place)

pub returns-in-Ok-clause-row : goal.returns-in-Ok-clause-row
returns-in-Ok-clause-row c =
    let front : FrontIs (window c.args.bytes.now c.args.self.now.at c.args.self.now.end) (Some c.in-Some.head) = rw (← c.requires.inside) at c.in-Some.ensures.front in
    let len : c.in-Ok.chunk.body.len ≡ c.in-Some.head.field = ap (λ s. s.len) c.in-Ok.ensures.numbers.2 ∙ c.from.ensures in
    stepped c.args.bytes.now c.args.self.now.at c.args.self.now.end c.in-Some.head c.in-Ok.chunk (omega arith) front c.in-Ok.ensures.numbers.0
    len (search rules) (omega (arith, len, c.in-Some.ensures.place, c.from.ensures, c.in-Ok.ensures.numbers.3))
    (c.in-Ok.ensures.chunk c.args.bytes.now (omega arith))
