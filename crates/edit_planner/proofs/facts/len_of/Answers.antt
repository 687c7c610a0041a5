use Rattle.std.proofs.Common.{arith}
use Rattle.std.proofs.lemmas.List.{at_drop_all}
use Rattle.edit_planner.specs.Plan.{total_len}
use Rattle.edit_planner.proofs.facts.len_of.Goals as goal

pub returns : goal.returns
returns c =
    let none = at_drop_all total_len c.args.spans.now c.spans.span-index (omega arith) in
    omega (arith, none, c.spans.invariant.few, c.spans.invariant.left)
