use Rattle.std.proofs.Common.{◌∙◌, ◌+◌, ℕ, List, ap, arith}
use Rattle.container_model.specs.Written.{slice}
use Rattle.opendml_index.proofs.Places.{room, kind_there, head_found, table_is}
use Rattle.opendml_index.proofs.check.entries_at.Goals as goal
use Rattle.opendml_index.proofs.check.entries_at.Goals.{then-len-lt32-via-then-len-lt32, then-len-lt32-via-else-len-lt32+then-at-len}

pub returns-then-len-lt32-clause-table : goal.returns-then-len-lt32-clause-table
returns-then-len-lt32-clause-table g c b held =
    let long = room b c.args.at (c.requires.told b held) in
    let all = c.requires.whole b held in
    elim c.then-len-lt32.branch [
      | then-len-lt32-via-then-len-lt32 w ↦ omega (arith, long, all)
      | then-len-lt32-via-else-len-lt32+then-at-len w ↦ omega (arith, long, all)
    ]

pub returns-in_default-clause-table : goal.returns-in_default-clause-table
returns-in_default-clause-table g c b held =
    kind_there b c.args.at c.read_at.new.into (c.requires.told b held) (c.in_ok-read_at.ensures.bytes held.tells ∙ ap (λ (x : List ℕ). slice x (c.args.at + 8) 24) held.bytes) c.in_default.ensures

pub returns-clause-table : goal.returns-clause-table
returns-clause-table g c b held =
    let first = c.in_ok-read_at.ensures.bytes held.tells ∙ ap (λ (x : List ℕ). slice x (c.args.at + 8) 24) held.bytes in
    let is = c.requires.told b held in
    table_is b c.args.at c.args.len c.head_of.result c.entries_of.result is (c.requires.whole b held) (head_found b c.args.at c.read_at.new.into c.in-Some.kind c.head_of.result is first c.in-Some.ensures c.head_of.ensures) c.entries_of.ensures
