use Rattle.std.proofs.Common.{◌+◌, ◌-◌, take, drop, arith}
use Rattle.avi_plan.specs.Made.{made_of}
use Rattle.avi_plan.proofs.Made.{kept_tail, three_more}
use Rattle.avi_plan.proofs.segments.Rewritten.push_cut.Goals as goal

pub returns-clause-bytes : goal.returns-clause-bytes
returns-clause-bytes c = λ ms b.
    three_more (made_of ms b c.args.self.now) (made_of ms b c.copy_to.new.self) (made_of ms b c.push_bytes.new.self) (made_of ms b c.copy_to-2.new.self)
    (take (c.args.cut.now.span.at - c.args.self.now.at) (drop c.args.self.now.at b)) c.args.cut.now.bytes
    (take c.args.cut.now.keep (drop (c.args.cut.now.span.at + c.args.cut.now.span.len - c.args.cut.now.keep) b)) c.as_slice.result.now
    (c.in_ok-copy_to.ensures.bytes ms b) (c.in_ok-push_bytes.ensures.bytes ms b) c.as_slice.ensures
    (kept_tail (made_of ms b c.push_bytes.new.self) (made_of ms b c.copy_to-2.new.self) b c.in-Some.end (c.args.cut.now.span.at + c.args.cut.now.span.len) c.args.cut.now.keep (omega (arith, c.in-Some.ensures)) (omega (arith, c.requires)) (c.in_ok-copy_to-2.ensures.bytes ms b))

pub returns-clause-sound : goal.returns-clause-sound
returns-clause-sound c = λ b inside m.
    let first = c.in_ok-copy_to.ensures.sound b (omega (arith, inside, c.in_ok-copy_to-2.ensures.at, c.in-Some.ensures)) m in
    let second = c.in_ok-push_bytes.ensures.sound b first in
    c.in_ok-copy_to-2.ensures.sound b (omega (arith, inside, c.in_ok-copy_to-2.ensures.at)) (record { total = second.total; based = second.based; inside = second.inside })

pub returns-clause-named : goal.returns-clause-named
returns-clause-named c = λ ms b h. c.in_ok-copy_to-2.ensures.named ms b (c.in_ok-push_bytes.ensures.named ms b (c.in_ok-copy_to.ensures.named ms b h))
