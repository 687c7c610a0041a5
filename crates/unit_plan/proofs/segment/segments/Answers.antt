use Rattle.std.proofs.Common.{arith, ap, sym, ◌∙◌, ◌≡◌, ◌+◌, ◌-◌, ◌∷◌, ◌++◌, ◌≤◌, ℕ, List, [], length, map, take, drop}
use Rattle.std.proofs.lemmas.List.{take_all, drop_all, length-drop}
use Rattle.std.specs.List.{flat_map}
use Rattle.part_tree.specs.Plans.{total_len, segment_bytes}
use Rattle.container_model.specs.Splice.{splice, splice_from}
use Rattle.unit_plan.specs.declared.cut.CutAt.{CutAt}
use Rattle.unit_plan.specs.Cuts.{SpansAscend, cut_in}
use Rattle.unit_plan.specs.Sized.{spliced_len}
use Rattle.unit_plan.proofs.Spans.{next_item}
use Rattle.unit_plan.proofs.Spliced.{one_cut, one_len, left_ascend, span_small}
use Rattle.unit_plan.proofs.segment.segments.Goals as goal

pub push_cut-requires-clause-small : goal.push_cut-requires-clause-small
push_cut-requires-clause-small c =
    let within = span_small c.cuts.at c.args.len c.args.cuts.now c.cuts.cut-index c.cut-item.result c.cuts-test.true c.cut-item.is c.cuts.invariant.ascend in
    omega (arith, within, c.ranges.len.fits)

pub overflow_add-at : goal.overflow_add-at
overflow_add-at c =
    let within = span_small c.cuts.at c.args.len c.args.cuts.now c.cuts.cut-index c.cut-item.result c.cuts-test.true c.cut-item.is c.cuts.invariant.ascend in
    omega (arith, within, c.ranges.len.fits)

pub cuts-preserved : goal.cuts-preserved
cuts-preserved c =
    let cuts = c.args.cuts.now in
    let i = c.cuts.cut-index in
    let at = c.cuts.at in
    let k = c.cut-item.result in
    let more : drop i cuts ≡ k ∷ drop (i + 1) cuts = next_item cuts i k c.cuts-test.true c.cut-item.is in
    let left : SpansAscend at (k ∷ drop (i + 1) cuts) c.args.len = left_ascend at c.args.len cuts i k c.cuts-test.true c.cut-item.is c.cuts.invariant.ascend in
    let within = span_small at c.args.len cuts i k c.cuts-test.true c.cut-item.is c.cuts.invariant.ascend in
    record {
      ascend = left.2;
      bytes = λ ms b is.
          one_cut b at k (flat_map (segment_bytes ms b) c.cuts.segments.items) (flat_map (segment_bytes ms b) c.push_cut.new.segments.items) (map (cut_in b) (drop (i + 1) cuts)) left.0 (c.in_ok-push_cut.ensures.bytes ms b)
          ∙ ap (λ (ks : List CutAt). flat_map (segment_bytes ms b) c.cuts.segments.items ++ splice_from at (drop at b) (map (cut_in b) ks)) (sym more)
          ∙ c.cuts.invariant.bytes ms b is;
      total =
          one_len c.args.len at k (drop (i + 1) cuts) (total_len c.cuts.segments.items) (total_len c.push_cut.new.segments.items) left c.in_ok-push_cut.ensures.total
          ∙ ap (λ (ks : List CutAt). total_len c.cuts.segments.items + spliced_len (c.args.len - at) ks) (sym more)
          ∙ c.cuts.invariant.total;
      inside = λ b long. c.in_ok-push_cut.ensures.inside b (omega (arith, within, long)) (c.cuts.invariant.inside b long);
      plain = c.in_ok-push_cut.ensures.plain c.cuts.invariant.plain;
    }

-- the last bytes are copied
last_copied : (b made next all : List ℕ) (cuts : List CutAt) (i at len : ℕ) → length b ≡ len → length cuts ≤ i → made ++ splice_from at (drop at b) (map (cut_in b) (drop i cuts)) ≡ all → next ≡ made ++ take (len - at) (drop at b) → next ≡ all
last_copied b made next all cuts i at len is end h x =
    let whole : take (len - at) (drop at b) ≡ drop at b = take_all (len - at) (drop at b) (omega (arith, is, length-drop at b)) in
    let none : drop i cuts ≡ [] = drop_all i cuts end in
    x ∙ ap (λ (l : List ℕ). made ++ l) whole ∙ ap (λ (ks : List CutAt). made ++ splice_from at (drop at b) (map (cut_in b) ks)) (sym none) ∙ h

pub returns-clause-bytes : goal.returns-clause-bytes
returns-clause-bytes c = λ ms b is.
    ap (flat_map (segment_bytes ms b)) c.new.ensures
    ∙ last_copied b (flat_map (segment_bytes ms b) c.cuts.segments.items) _ (splice b (map (cut_in b) c.args.cuts.now)) c.args.cuts.now c.cuts.cut-index c.cuts.at c.args.len is c.cuts-test.false (c.cuts.invariant.bytes ms b is) (c.in_ok-push_copy.ensures.bytes ms b)
