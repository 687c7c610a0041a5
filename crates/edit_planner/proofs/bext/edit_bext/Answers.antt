use Rattle.std.proofs.Common.{◌∙◌, sym, arith, true}
use Rattle.bext_fields.specs.Change.{raw_items_of}
use Rattle.edit_planner.specs.declared.cells.Content.TheVariants.{Edited}
use Rattle.wave_file.proofs.Roles.{ok_map}
use Rattle.edit_planner.proofs.BextChunk.{bodies_changed, body_new, bodies_follow, bodies_readable, put_readable_on, put_follows_on}
use Rattle.edit_planner.proofs.bext.edit_bext.Goals as goal

pub returns-then-count-gt0-clause-told : goal.returns-then-count-gt0-clause-told
returns-then-count-gt0-clause-told c = λ xs u e.
    c.in_ok-count.ensures.cells
    ∙ bodies_changed (raw_items_of c.args.changes.now) c.args.from xs c.args.cells.now.items (sym c.edits.ensures ∙ c.if-not-edits.false) u e (omega (arith, c.in_ok-count.ensures.count))

pub returns-then-count-gt0-clause-follow : goal.returns-then-count-gt0-clause-follow
returns-then-count-gt0-clause-follow c = λ end h. bodies_follow (raw_items_of c.args.changes.now) c.args.from c.args.cells.now.items _ end c.in_ok-count.ensures.cells h

pub returns-then-count-gt0-clause-readable : goal.returns-then-count-gt0-clause-readable
returns-then-count-gt0-clause-readable c = bodies_readable (raw_items_of c.args.changes.now) c.args.cells.now.items _ c.in_ok-count.ensures.cells c.requires.readable

pub returns-clause-told : goal.returns-clause-told
returns-clause-told c =
    ok_map c.put_cell.result
    (λ put. λ xs u e.
    put
    ∙ body_new (raw_items_of c.args.changes.now) c.args.from xs c.args.cells.now.items c.change_bodies.new.cells.items c.in_ok-now.now (sym c.edits.ensures ∙ c.if-not-edits.false) u e
    (omega (arith, c.in_ok-count.ensures.count, c.if-count-gt0.false)) c.in_ok-count.ensures.cells c.in_ok-now.ensures)
    c.put_cell.ensures

pub returns-clause-follow : goal.returns-clause-follow
returns-clause-follow c =
    ok_map c.put_cell.result
    (λ put. λ end h.
    put_follows_on true (Edited c.in_ok-now.now 1) c.args.from c.change_bodies.new.cells.items c.put_cell.new.cells.items end put
    (bodies_follow (raw_items_of c.args.changes.now) c.args.from c.args.cells.now.items c.change_bodies.new.cells.items end c.in_ok-count.ensures.cells h))
    c.put_cell.ensures

pub returns-clause-readable : goal.returns-clause-readable
returns-clause-readable c =
    ok_map c.put_cell.result
    (λ put.
    put_readable_on true (Edited c.in_ok-now.now 1) tt c.args.from c.change_bodies.new.cells.items c.put_cell.new.cells.items put
    (bodies_readable (raw_items_of c.args.changes.now) c.args.cells.now.items c.change_bodies.new.cells.items c.in_ok-count.ensures.cells c.requires.readable))
    c.put_cell.ensures
