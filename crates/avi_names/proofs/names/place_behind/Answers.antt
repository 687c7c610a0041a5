use Rattle.std.proofs.Common.{◌∙◌, Bool, cond, sym, ap}
use Rattle.avi_names.proofs.names.place_behind.Goals as goal

pub returns-then-head : goal.returns-then-head
returns-then-head c b = ap (λ (t : Bool). cond t c.args.chunk.now.next c.args.found) (sym c.if-head.true ∙ c.is_head-head.ensures b)

pub returns-else-head : goal.returns-else-head
returns-else-head c b = ap (λ (t : Bool). cond t c.args.chunk.now.next c.args.found) (sym c.if-head.false ∙ c.is_head-head.ensures b)
