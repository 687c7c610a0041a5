use Rattle.std.proofs.Common.{arith, rules, ap, ◌∙◌, ◌≡◌}
use Rattle.riff_form.proofs.Steps.{few_stepped, stepped, stuck}
use Rattle.riff_form.proofs.Walker.step.Goals as goal

pub returns-in-Ok-None-clause-row : goal.returns-in-Ok-None-clause-row
returns-in-Ok-None-clause-row g c = λ b holds. few_stepped b c.args.self.now.at c.args.self.now.end (rw c.in-Ok-None.field-0-is at (c.in-Ok-None.ensures.front b holds))

pub returns-in-Err-pass-clause-stuck : goal.returns-in-Err-pass-clause-stuck
returns-in-Err-pass-clause-stuck g c = λ b holds.
    let place : c.in-Ok-Some.head.at ≡ c.args.self.now.at = rw c.in-Ok-Some.field-0-is at c.in-Ok-Some.ensures.place in
    stuck b c.args.self.now.at c.args.self.now.end c.in-Ok-Some.head _ _ (rw c.in-Ok-Some.field-0-is at (c.in-Ok-Some.ensures.front b holds)) c.from.ensures
    (rw (c.head.ensures.stays.0, c.head.ensures.stays.1) at (c.in-Err-pass.ensures.cut b (rw (← c.head.ensures.stays.1) at (c.requires.inside b holds)))) (c.in-Err-pass.ensures.place ∙ place)

pub returns-in-Ok-clause-row : goal.returns-in-Ok-clause-row
returns-in-Ok-clause-row g c = λ b holds.
    let place : c.in-Ok-Some.head.at ≡ c.args.self.now.at = rw c.in-Ok-Some.field-0-is at c.in-Ok-Some.ensures.place in
    let len : c.in-Ok.chunk.body.len ≡ c.in-Ok-Some.head.field = ap (λ s. s.len) c.in-Ok.ensures.numbers.2 ∙ c.from.ensures in
    stepped b c.args.self.now.at c.args.self.now.end c.in-Ok-Some.head c.in-Ok.chunk (c.requires.inside b holds) (rw c.in-Ok-Some.field-0-is at (c.in-Ok-Some.ensures.front b holds)) c.in-Ok.ensures.numbers.0
    len (search rules) (omega (arith, len, place, c.from.ensures, c.in-Ok.ensures.numbers.3, c.head.ensures.stays.0, c.head.ensures.stays.1))
    (rw (c.head.ensures.stays.0, c.head.ensures.stays.1) at (c.in-Ok.ensures.chunk b (rw (← c.head.ensures.stays.1) at (c.requires.inside b holds))))
