use Rattle.std.proofs.Common.{true, ◌∙◌, ◌+◌, ◌++◌, ℕ, ap, sym}
use Rattle.carrier_model.specs.Gaps.{between}
use Rattle.mov_plan.specs.Tables.{table_in}
use Rattle.mov_plan.proofs.Ranged.{one_range, table_long}
use Rattle.mov_plan.proofs.moves.Ranges.jump_table.Goals as goal

pub returns-clause-held : goal.returns-clause-held
returns-clause-held c = λ ms b rest end lies.
    let t = c.args.table.now in
    let old = c.args.self.now in
    let new = c.jump.new.self in
    ap (λ (p : ℕ). new.held.items ++ between p new.to rest end) (c.in_ok-jump.ensures.at ∙ ap (λ (n : ℕ). t.at + n) c.len.ensures.len)
    ∙ one_range (table_in true ms b t) old.at old.to new.to c.new_len.result end old.held.items new.held.items rest c.in_ok-jump.ensures.held c.in_ok-jump.ensures.to (c.new_len.ensures.len ∙ sym (table_long ms b t lies))
