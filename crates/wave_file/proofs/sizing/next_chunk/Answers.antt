use Rattle.std.proofs.Common.{rules, refl, ap, ◌∙◌, ◌≡◌}
use Rattle.riff_form.specs.Walk.{InOrder}
use Rattle.wave_file.specs.Sized.{state_of}
use Rattle.wave_file.proofs.Steps.{none_left, stuck_row, stuck_cut, found_at}
use Rattle.wave_file.proofs.sizing.next_chunk.Goals as goal

pub returns-in-Ok-None-clause-steps : goal.returns-in-Ok-None-clause-steps
returns-in-Ok-None-clause-steps g c = λ b holds. (none_left b c.args.walker.now.at c.args.walker.now.end (state_of c.args.sizing.now) (rw c.in-Ok-None.field-0-is at (c.in-Ok-None.ensures.front b holds)), refl)

pub returns-in-Err-size_of-clause-steps : goal.returns-in-Err-size_of-clause-steps
returns-in-Err-size_of-clause-steps g c = λ b holds.
    stuck_row b c.args.walker.now.at c.args.walker.now.end c.args.sizing.now c.in-Ok-Some.head c.in-Err-size_of.fault (rw c.in-Ok-Some.field-0-is at (c.in-Ok-Some.ensures.front b holds)) c.in-Err-size_of.ensures

pub returns-in-Err-pass-clause-steps : goal.returns-in-Err-pass-clause-steps
returns-in-Err-pass-clause-steps g c = λ b holds.
    let place : c.in-Ok-Some.head.at ≡ c.args.walker.now.at = rw c.in-Ok-Some.field-0-is at c.in-Ok-Some.ensures.place in
    stuck_cut b c.args.walker.now.at c.args.walker.now.end c.args.sizing.now c.in-Ok-Some.head c.in-Ok.size _ (rw c.in-Ok-Some.field-0-is at (c.in-Ok-Some.ensures.front b holds)) c.in-Ok.ensures
    (rw (c.head.ensures.stays.0, c.head.ensures.stays.1) at (c.in-Err-pass.ensures.cut b (rw (← c.head.ensures.stays.1) at (c.requires.inside b holds)))) (c.in-Err-pass.ensures.place ∙ place)

pub returns-in-Ok-pass-2-clause-steps : goal.returns-in-Ok-pass-2-clause-steps
returns-in-Ok-pass-2-clause-steps g c = λ b holds.
    let place : c.in-Ok-Some.head.at ≡ c.args.walker.now.at = rw c.in-Ok-Some.field-0-is at c.in-Ok-Some.ensures.place in
    let len : c.in-Ok-pass.chunk.body.len ≡ c.in-Ok.size.len = ap (λ s. s.len) c.in-Ok-pass.ensures.numbers.2 in
    let order : InOrder c.args.walker.now.at c.args.walker.now.end c.in-Ok-pass.chunk = search rules in
    found_at b c.args.walker.now.at c.args.walker.now.end c.args.sizing.now c.pass-2.new.self c.in-Ok-Some.head c.in-Ok.size c.in-Ok-pass.chunk (c.requires.inside b holds)
    (rw c.in-Ok-Some.field-0-is at (c.in-Ok-Some.ensures.front b holds)) c.in-Ok.ensures c.in-Ok-pass-2.ensures.state c.in-Ok-pass.ensures.numbers.0 len order
    (rw (c.head.ensures.stays.0, c.head.ensures.stays.1) at (c.in-Ok-pass.ensures.chunk b (rw (← c.head.ensures.stays.1) at (c.requires.inside b holds))))
