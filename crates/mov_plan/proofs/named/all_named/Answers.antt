use Rattle.std.proofs.Common.{rules, sym, subst, ◌≡◌, true}
use Rattle.std.specs.List.{AllByRecursion}
use Rattle.me_disk.proofs.Holds.{holds_on}
use Rattle.me_disk.proofs.Runs.{ReadsOnly-trans}
use Rattle.mov_plan.specs.Made.{IsNamed}
use Rattle.mov_plan.proofs.Made.{left_table}
use Rattle.mov_plan.proofs.named.all_named.Goals as goal

pub tables-preserved : goal.tables-preserved
tables-preserved g c =
    let inv = c.tables.invariant in
    let ts = c.args.tables.now in
    let i = c.tables.table-index in
    let yes : c.in_ok-table_named.field-0 ≡ true = search rules in
    record {
      reads = ReadsOnly-trans _ _ _ inv.reads c.table_named.ensures.reads;
      left = λ b holds h.
          let held = holds_on _ _ b inv.reads holds in
          inv.left b holds (subst (AllByRecursion (IsNamed c.args.widened c.args.moves.now b)) (sym (left_table ts i c.tables-test.true)) (c.in_ok-table_named.ensures.named b held yes, h));
    }
