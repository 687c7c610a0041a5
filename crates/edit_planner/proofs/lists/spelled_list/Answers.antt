use Rattle.std.proofs.Common.{arith, ◌≤◌, ◌^◌, length}
use Rattle.edit_planner.specs.declared.cells.Content.{Content}
use Rattle.edit_planner.proofs.InfoLists.{large_told, small_told, small_is, spelled_as}
use Rattle.edit_planner.proofs.lists.spelled_list.Goals as goal

pub returns-then-size-gt-MOST_BYTES-clause-large : goal.returns-then-size-gt-MOST_BYTES-clause-large
returns-then-size-gt-MOST_BYTES-clause-large c = λ d e. large_told Content c.args.list.now d c.body_len-size.result c.too_large.result e c.body_len-size.ensures c.if-size-gt-MOST_BYTES.true c.too_large.ensures

pub returns-in-Ok-clause-content : goal.returns-in-Ok-clause-content
returns-in-Ok-clause-content c = λ d e.
    let small : length d.body ≤ 2 ^ 24 = small_told c.args.list.now d c.body_len-size.result e c.body_len-size.ensures c.if-size-gt-MOST_BYTES.false in
    spelled_as c.args.list.now d c.in-Ok.now c.in-Some.parts c.requires.readable e small c.in-Ok.ensures (omega (arith, c.in-Some.ensures, c.count.ensures))

pub returns-in-Ok-clause-large : goal.returns-in-Ok-clause-large
returns-in-Ok-clause-large c = λ d e. small_is (length d.body) (small_told c.args.list.now d c.body_len-size.result e c.body_len-size.ensures c.if-size-gt-MOST_BYTES.false)
