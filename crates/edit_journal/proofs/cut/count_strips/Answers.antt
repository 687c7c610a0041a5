use Rattle.std.proofs.Common.{◌≡◌, ◌∙◌, ℕ, List, ◌+◌, arith, ap, length}
use Rattle.edit_journal.specs.Strips.{cut}
use Rattle.edit_journal.proofs.Spelled.{strips_count, bytes_more, bytes_below}
use Rattle.edit_journal.proofs.cut.count_strips.Goals as goal

pub count_cuts-more-requires : goal.count_cuts-more-requires
count_cuts-more-requires c =
    let i = c.loop-patch.patch-index in
    let same : length c.as_slice.result.now ≡ length c.patch-item.result.bytes = ap (λ (l : List ℕ). length l) c.as_slice.ensures in
    omega (arith, same, bytes_below c.args.patches.now (i + 1), bytes_more c.args.patches.now i c.patch-item.result c.loop-patch-test.true c.patch-item.is)

pub overflow_add-tally : goal.overflow_add-tally
overflow_add-tally c =
    let i = c.loop-patch.patch-index in
    let so = c.loop-patch.invariant in
    let same : length c.as_slice.result.now ≡ length c.patch-item.result.bytes = ap (λ (l : List ℕ). length l) c.as_slice.ensures in
    omega (arith, same, c.count_cuts-more.ensures.small, so.few, bytes_below c.args.patches.now (i + 1), bytes_more c.args.patches.now i c.patch-item.result c.loop-patch-test.true c.patch-item.is)

pub overflow_add-tally-in-loop-patch : goal.overflow_add-tally-in-loop-patch
overflow_add-tally-in-loop-patch c =
    let i = c.loop-patch.patch-index in
    let so = c.loop-patch.invariant in
    let same : length c.as_slice.result.now ≡ length c.patch-item.result.bytes = ap (λ (l : List ℕ). length l) c.as_slice.ensures in
    omega (arith, same, c.count_cuts-more.ensures.small, so.small, bytes_below c.args.patches.now (i + 1), bytes_more c.args.patches.now i c.patch-item.result c.loop-patch-test.true c.patch-item.is)

pub loop-patch-preserved : goal.loop-patch-preserved
loop-patch-preserved c =
    let i = c.loop-patch.patch-index in
    let so = c.loop-patch.invariant in
    let ps = c.args.patches.now in
    let e = c.count_cuts-more.ensures in
    let same : length c.as_slice.result.now ≡ length c.patch-item.result.bytes = ap (λ (l : List ℕ). length l) c.as_slice.ensures in
    let cuts : c.count_cuts-more.result.strips ≡ length (cut c.patch-item.result.bytes) = e.strips ∙ ap (λ (l : List ℕ). length (cut l)) c.as_slice.ensures in
    let more = bytes_more ps i c.patch-item.result c.loop-patch-test.true c.patch-item.is in
    let count = strips_count ps i c.patch-item.result c.loop-patch-test.true c.patch-item.is in
    record {
      strips = omega (arith, so.strips, cuts, count);
      few = omega (arith, so.few, e.small, same, more);
      small = omega (arith, so.small, e.small, same, more);
    }
