use Rattle.std.proofs.Common.{rules, ◌≡◌, ◌∙◌, ◌-◌, ◌++◌, ℕ, ap, take, drop}
use Rattle.mov_plan.specs.Made.{made_of}
use Rattle.mov_plan.proofs.tables.Rewritten.copy_to.Goals as goal

pub returns-clause-bytes : goal.returns-clause-bytes
returns-clause-bytes c = λ ms b.
    let len : c.in-Some.len ≡ c.args.end - c.args.self.now.at = search rules in
    c.in_ok-push.ensures.bytes ms b ∙ ap (λ (n : ℕ). made_of ms b c.args.self.now ++ take n (drop c.args.self.now.at b)) len

pub returns-clause-named : goal.returns-clause-named
returns-clause-named c = λ ms b h. c.in_ok-push.ensures.named ms b tt h
