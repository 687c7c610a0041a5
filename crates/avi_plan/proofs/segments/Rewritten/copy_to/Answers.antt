use Rattle.std.proofs.Common.{◌∙◌, ◌++◌, ℕ, take, drop, ap}
use Rattle.avi_plan.specs.Made.{made_of}
use Rattle.avi_plan.proofs.segments.Rewritten.copy_to.Goals as goal

pub returns-clause-bytes : goal.returns-clause-bytes
returns-clause-bytes c = λ ms b. c.in_ok-push.ensures.bytes ms b ∙ ap (λ (n : ℕ). made_of ms b c.args.self.now ++ take n (drop c.args.self.now.at b)) c.in-Some.ensures.1

pub returns-clause-named : goal.returns-clause-named
returns-clause-named c = λ ms b h. c.in_ok-push.ensures.named ms b tt h
