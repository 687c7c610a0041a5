use Rattle.std.proofs.Common.{◌∙◌, ap, arith, ℕ, List}
use Rattle.container_model.specs.Chunk.{spell}
use Rattle.carrier_model.specs.Info.{made}
use Rattle.edit_planner.specs.declared.cells.Content.TheVariants.{Edited}
use Rattle.wave_file.proofs.Roles.{ok_map}
use Rattle.edit_planner.proofs.WholeChunks.{wholes_changed, wholes_none, wholes_new, wholes_follow, new_follows}
use Rattle.edit_planner.proofs.wholes.put_whole.Goals as goal

pub returns-then-count-gt0-clause-told : goal.returns-then-count-gt0-clause-told
returns-then-count-gt0-clause-told c = λ xs u e.
    c.in_ok-count.ensures.cells ∙ wholes_changed c.args.word.0 c.args.value.now c.requires.whole c.args.from xs c.args.cells.now.items u e (omega (arith, c.in_ok-count.ensures.count))

pub returns-then-count-gt0-clause-follow : goal.returns-then-count-gt0-clause-follow
returns-then-count-gt0-clause-follow c = λ end h. wholes_follow c.args.word.0 c.args.value.now c.args.from c.args.cells.now.items _ end c.in_ok-count.ensures.cells h

pub returns-in_default-clause-told : goal.returns-in_default-clause-told
returns-in_default-clause-told c = λ xs u e.
    c.in_ok-count.ensures.cells ∙ wholes_none c.args.word.0 c.args.value.now c.args.from xs c.args.cells.now.items c.in_default.is c.requires.whole u e

pub returns-in_default-clause-follow : goal.returns-in_default-clause-follow
returns-in_default-clause-follow c = λ end h. wholes_follow c.args.word.0 c.args.value.now c.args.from c.args.cells.now.items _ end c.in_ok-count.ensures.cells h

pub returns-clause-told : goal.returns-clause-told
returns-clause-told c =
    ok_map c.put_cell.result
    (λ put. λ xs u e.
    put
    ∙ wholes_new c.args.word.0 c.args.value.now c.in-Some.value c.args.from xs c.args.cells.now.items c.change_wholes.new.cells.items c.in_ok-now.now c.in-Some.is c.requires.whole u e (omega (arith, c.in_ok-count.ensures.count, c.if-count-gt0.false))
    c.in_ok-count.ensures.cells (c.in_ok-now.ensures ∙ ap (λ (x : List ℕ). spell (made c.args.word.0 x)) c.as_slice.ensures))
    c.put_cell.ensures

pub returns-clause-follow : goal.returns-clause-follow
returns-clause-follow c =
    ok_map c.put_cell.result
    (λ put. λ end h.
    new_follows (Edited c.in_ok-now.now 1) c.args.from c.change_wholes.new.cells.items c.put_cell.new.cells.items end put
    (wholes_follow c.args.word.0 c.args.value.now c.args.from c.args.cells.now.items c.change_wholes.new.cells.items end c.in_ok-count.ensures.cells h))
    c.put_cell.ensures
