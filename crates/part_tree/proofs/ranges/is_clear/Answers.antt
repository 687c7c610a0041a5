use Rattle.std.proofs.Common.{◌∙◌, Bool, true, sym, ap}
use Rattle.std.specs.Prelude.{◌&&◌}
use Rattle.part_tree.specs.Ranges.{passes_by, last_by}
use Rattle.part_tree.proofs.Spans.{clear_cut}
use Rattle.part_tree.proofs.ranges.is_clear.Goals as goal

pub returns : goal.returns
returns c =
    ap (λ (x : Bool). x && c.passes_next-next.result) c.passes_last-last.ensures
    ∙ ap (λ (x : Bool). last_by (λ s. passes_by s c.args.place c.args.len) true c.args.chunks.now c.begun-count.result && x) c.passes_next-next.ensures
    ∙ sym (clear_cut 0 c.args.chunks.now c.args.place c.args.len c.begun-count.result c.requires.in_order c.begun-count.ensures.bound c.begun-count.ensures.cut)
