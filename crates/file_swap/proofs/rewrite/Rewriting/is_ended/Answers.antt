use Rattle.file_swap.proofs.Copies.{ended_iff}
use Rattle.file_swap.proofs.rewrite.Rewriting.is_ended.Goals as goal

pub returns-in_default : goal.returns-in_default
returns-in_default c = (λ t. absurd cc, λ none. absurd (ended_iff c.args.self.now.parts c.args.self.now.stage c.in_default.not-Ended c.requires.stage none))
