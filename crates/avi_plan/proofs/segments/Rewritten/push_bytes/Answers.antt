use Rattle.std.proofs.Common.{◌∙◌, ◌++◌, List, ℕ, ap}
use Rattle.avi_plan.specs.Made.{made_of}
use Rattle.avi_plan.proofs.segments.Rewritten.push_bytes.Goals as goal

pub returns-clause-bytes : goal.returns-clause-bytes
returns-clause-bytes c = λ ms b. c.in_ok-push.ensures.bytes ms b ∙ ap (λ (x : List ℕ). made_of ms b c.args.self.now ++ x) c.in_ok-copy.ensures

pub returns-clause-sound : goal.returns-clause-sound
returns-clause-sound c = λ b h. c.in_ok-push.ensures.sound b tt tt h

pub returns-clause-named : goal.returns-clause-named
returns-clause-named c = λ ms b h. c.in_ok-push.ensures.named ms b tt h
