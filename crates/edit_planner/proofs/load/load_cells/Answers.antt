use Rattle.std.proofs.Common.{◌≤◌, ◌<◌, arith, get_or, length, refl, sym, subst, rules, ℕ, List}
use Rattle.me_disk.specs.Holds.{Holds, Inside}
use Rattle.edit_planner.specs.declared.cells.CellAt.{CellAt}
use Rattle.edit_planner.specs.Cells.{AreReadable, Follow}
use Rattle.me_disk.proofs.Holds.{holds_on}
use Rattle.edit_planner.proofs.Loads.{inside_on, no_part, next_chunk, one_loaded, all_loaded, follow_more, ascend_next, ascend_end, readable_push}
use Rattle.edit_planner.proofs.load.load_cells.Goals as goal

pub load_cell-requires-clause-inside : goal.load_cell-requires-clause-inside
load_cell-requires-clause-inside g c = λ b holds.
    let parts = c.args.parts.now in
    let k = c.parts.part-index in
    let part = get_or parts k no_part in
    let lt : k < length parts = omega arith in
    let next = ascend_next c.parts.at parts k c.args.form_end part no_part lt refl c.parts.invariant.ascend in
    let last = ascend_end part.next _ c.args.form_end next.3 in
    let inside : Inside c.args.form_end (g.D.Depot.disk c.parts.depot) = inside_on (g.D.Depot.disk c.args.depot.now) (g.D.Depot.disk c.parts.depot) c.args.form_end c.parts.invariant.reads c.requires.inside in
    omega (arith, next.2, last, inside b holds)

pub load_cell-requires-clause-small : goal.load_cell-requires-clause-small
load_cell-requires-clause-small g c =
    let parts = c.args.parts.now in
    let k = c.parts.part-index in
    let part = get_or parts k no_part in
    let lt : k < length parts = omega arith in
    let next = ascend_next c.parts.at parts k c.args.form_end part no_part lt refl c.parts.invariant.ascend in
    let last = ascend_end part.next _ c.args.form_end next.3 in
    omega (arith, next.2, last, c.requires.small)

pub returns-clause-cells : goal.returns-clause-cells
returns-clause-cells g c = λ b holds role cs e s. all_loaded role b c.args.from cs c.parts.at c.parts.part-index c.args.parts.now c.parts.cells.items (c.parts.invariant.cells b holds role cs e s) (omega arith)

pub parts-preserved : goal.parts-preserved
parts-preserved g c =
    let parts = c.args.parts.now in
    let k = c.parts.part-index in
    let part = get_or parts k no_part in
    let lt : k < length parts = omega arith in
    let before = c.parts.invariant in
    let next = ascend_next c.parts.at parts k c.args.form_end part no_part lt refl before.ascend in
    let cell = c.in-Ok.ensures in
    let forth : c.parts.at ≤ c.in-Ok.cell.next = omega (arith, next.0, next.1, next.2, cell.place.1) in
    record {
      ascend = next.3;
      follow = subst (λ (n : ℕ). Follow c.args.from c.push.new.self.items n) cell.place.1 (subst (λ (xs : List CellAt). Follow c.args.from xs c.in-Ok.cell.next) (sym c.in-Ok-push.ensures.items) (follow_more c.args.from c.parts.cells.items c.parts.at c.in-Ok.cell before.follow cell.place.0 forth));
      begins = omega (arith, before.begins, forth, cell.place.1);
      readable = subst AreReadable (sym c.in-Ok-push.ensures.items) (readable_push c.parts.cells.items c.in-Ok.cell before.readable cell.readable);
      cells = λ b holds role cs e s.
          let left = before.cells b holds role cs e s in
          let here = next_chunk role b c.args.from cs c.parts.at k parts c.parts.cells.items part no_part left lt refl in
          let now : Holds (g.D.Depot.disk c.parts.depot) b = holds_on (g.D.Depot.disk c.args.depot.now) (g.D.Depot.disk c.parts.depot) b before.reads holds in
          one_loaded role b c.args.from cs c.parts.at k part.next parts c.parts.cells.items c.push.new.self.items part no_part c.in-Ok.cell left lt refl here refl (cell.cell b now (role c.parts.at here.chunk) here.chunk here.is_part here.stands) c.in-Ok-push.ensures.items;
      reads = search rules;
    }
