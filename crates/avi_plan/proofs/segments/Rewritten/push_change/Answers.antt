use Rattle.std.proofs.Common.{◌∙◌, ◌++◌, ◌-◌, ℕ, length, take, drop, ap, arith}
use Rattle.avi_plan.specs.Changes.{change_at, change_cut}
use Rattle.avi_plan.specs.Made.{made_of}
use Rattle.avi_plan.proofs.Made.{sound_inside, two_more}
use Rattle.avi_plan.proofs.segments.Rewritten.push_change.Goals as goal

pub returns-clause-bytes : goal.returns-clause-bytes
returns-clause-bytes c = λ ms b.
    two_more (made_of ms b c.args.self.now) (made_of ms b c.copy_to.new.self) (made_of ms b c.push_new.new.self) (take (change_at c.args.change.now - c.args.self.now.at) (drop c.args.self.now.at b)) (change_cut ms b c.args.change.now).bytes
    (c.in_ok-copy_to.ensures.bytes ms b ∙ ap (λ (n : ℕ). made_of ms b c.args.self.now ++ take (n - c.args.self.now.at) (drop c.args.self.now.at b)) c.at.ensures)
    (c.in_ok-push_new.ensures.bytes ms b)

pub returns-clause-sound : goal.returns-clause-sound
returns-clause-sound c = λ b s m.
    let inside = sound_inside (length b) c.args.change.now s in
    let made = c.in_ok-copy_to.ensures.sound b (omega (arith, inside, c.at.ensures)) m in
    c.in_ok-push_new.ensures.sound b s (record { total = made.total; based = made.based; inside = made.inside })

pub returns-clause-named : goal.returns-clause-named
returns-clause-named c = λ ms b s m. c.in_ok-push_new.ensures.named ms b s (c.in_ok-copy_to.ensures.named ms b m)
