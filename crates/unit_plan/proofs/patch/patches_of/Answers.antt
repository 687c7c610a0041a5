use Rattle.std.proofs.Common.{arith, rules, ◌≡◌, ◌+◌, ◌≤◌, length}
use Rattle.unit_plan.proofs.Ruled.{patch_more, sum_more, too_many_bytes}
use Rattle.unit_plan.proofs.patch.patches_of.Goals as goal

pub returns-then-total-gt-MOST_BYTES-clause-none : goal.returns-then-total-gt-MOST_BYTES-clause-none
returns-then-total-gt-MOST_BYTES-clause-none c =
    too_many_bytes c.args.cuts.now c.cuts.cut-index c.cut-item.result c.cuts.patches.items c.as_slice-bytes.result.now c.cuts.total c.cuts-test.true c.cut-item.is c.cuts.invariant.left c.cuts.invariant.sum c.as_slice-bytes.ensures c.if-total-gt-MOST_BYTES.true

pub cuts-preserved : goal.cuts-preserved
cuts-preserved c =
    let bytes = c.as_slice-bytes.result.now in
    let some : 1 ≤ length bytes = search rules in
    let count : c.len.result ≡ length c.cuts.patches.items = search rules in
    let n : length c.push.new.self.items ≡ length c.cuts.patches.items + 1 = search rules in
    record {
      left = patch_more c.args.cuts.now c.cuts.cut-index c.cut-item.result c.cuts.patches.items c.push.new.self.items bytes c.in_ok-copy.copy c.cuts-test.true c.cut-item.is c.cuts.invariant.left some c.as_slice-bytes.ensures c.in_ok-copy.ensures c.in-Ok.ensures.items;
      sum = sum_more c.cuts.patches.items c.push.new.self.items c.cut-item.result.span.at c.cuts.total bytes c.in_ok-copy.copy c.cuts.invariant.sum c.in_ok-copy.ensures c.in-Ok.ensures.items;
      small = omega (arith, c.if-total-gt-MOST_BYTES.false);
      few = omega (arith, n, count, c.cuts.invariant.few, c.if-len-eq-MOST_PATCHES.false);
    }
