use Rattle.std.proofs.Common.{◌≡◌, ◌∙◌, ◌-◌, suc, ap, arith}
use Rattle.edit_planner.specs.Row.{starts_at}
use Rattle.edit_planner.proofs.Row.{start_at}
use Rattle.edit_planner.proofs.cells.start_of.Goals as goal

pub returns : goal.returns
returns c =
    let e : suc (c.args.k - 1) ≡ c.args.k = omega arith in
    start_at c.args.from (c.args.k - 1) c.args.cells.now c.index-cells-k.result (omega arith) ∙ ap (λ n. starts_at c.args.from n c.args.cells.now) e
