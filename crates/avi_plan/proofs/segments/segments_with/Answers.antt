use Rattle.std.proofs.Common.{◌∙◌, ◌++◌, ◌∷◌, ◌+◌, ℕ, List, [], length, drop, sym, ap, subst, arith}
use Rattle.std.specs.List.{AllByRecursion, flat_map}
use Rattle.part_tree.specs.Plans.{segment_bytes}
use Rattle.container_model.specs.Splice.{Cut, splice, splice_from}
use Rattle.unit_plan.specs.Cuts.{cut_in}
use Rattle.avi_plan.specs.Changes.{IsSound, merged}
use Rattle.avi_plan.specs.Made.{made_of}
use Rattle.avi_plan.proofs.Made.{all_sound_wide, last_left, long_sound, merged_more, one_more, span_at, zeros, zeros_long}
use Rattle.avi_plan.proofs.segments.segments_with.Goals as goal

pub push_cut-requires : goal.push_cut-requires
push_cut-requires c = (span_at 0 c.args.len c.args.cuts.now c.cuts.cut-index c.cut-item.result c.cuts-test.true c.cut-item.is c.requires.ascend).0

pub cuts-preserved : goal.cuts-preserved
cuts-preserved c =
    let ks = c.args.cuts.now in
    let cs = c.args.changes.now in
    let i = c.cuts.cut-index in
    let k = c.cut-item.result in
    let within = (span_at 0 c.args.len ks i k c.cuts-test.true c.cut-item.is c.requires.ascend).1 in
    record {
      inside = c.in_ok-next.ensures.inside;
      bytes = λ ms b.
          one_more b c.push_changes.new.self.at c.push_cut.new.self.at (cut_in b k) (made_of ms b c.push_changes.new.self) (made_of ms b c.push_cut.new.self) (merged ms b (drop (i + 1) ks) (drop c.in_ok-next.next cs)) c.in_ok-push_cut.ensures.order c.in_ok-push_cut.ensures.at (c.in_ok-push_cut.ensures.bytes ms b)
          ∙ c.in_ok-next.ensures.bytes ms b (cut_in b k ∷ merged ms b (drop (i + 1) ks) (drop c.in_ok-next.next cs))
          ∙ ap (λ (xs : List Cut). made_of ms b c.cuts.made ++ splice_from c.cuts.made.at (drop c.cuts.made.at b) xs) (sym (merged_more ms b ks cs i k c.cuts.next c.in_ok-next.next c.cuts-test.true c.cut-item.is c.in_ok-next.ensures.next))
          ∙ c.cuts.invariant.bytes ms b;
      sound = λ b is s. c.in_ok-push_cut.ensures.sound b (omega (arith, within, is, c.in_ok-push_cut.ensures.at)) (c.in_ok-next.ensures.sound b s (c.cuts.invariant.sound b is s));
      named = λ ms b s. c.in_ok-push_cut.ensures.named ms b (c.in_ok-next.ensures.named ms b s (c.cuts.invariant.named ms b s));
    }

pub push_changes-requires-2-clause-wide : goal.push_changes-requires-2-clause-wide
push_changes-requires-2-clause-wide c = all_sound_wide c.args.len c.args.changes.now c.requires.sound

pub returns-clause-bytes : goal.returns-clause-bytes
returns-clause-bytes c = λ ms b is.
    ap (flat_map (segment_bytes ms b)) c.new.ensures
    ∙ last_left ms b c.args.cuts.now c.args.changes.now c.cuts.cut-index c.cuts.next c.in_ok-last.last c.args.len c.push_changes-2.new.self.at c.cuts.made.at (made_of ms b c.cuts.made) (made_of ms b c.push_changes-2.new.self) (made_of ms b c.copy_to.new.self) (splice b (merged ms b c.args.cuts.now c.args.changes.now)) c.cuts-test.false c.cuts.invariant.inside c.in_ok-last.ensures.next c.if-last-changes.false is
    (c.in_ok-copy_to.ensures.bytes ms b) (c.in_ok-last.ensures.bytes ms b []) (c.cuts.invariant.bytes ms b)

pub returns-clause-total : goal.returns-clause-total
returns-clause-total c =
    let x = zeros c.args.len in
    let s : AllByRecursion (IsSound (length (zeros c.args.len))) c.args.changes.now = long_sound c.args.len c.args.changes.now c.requires.sound in
    let e = zeros_long c.args.len in
    let m = c.in_ok-copy_to.ensures.sound x (omega (arith, e)) (c.in_ok-last.ensures.sound x s (c.cuts.invariant.sound x e s)) in
    omega (arith, ap Rattle.part_tree.specs.Plans.total_len c.new.ensures, m.total, c.if-made-new_len.false)

pub returns-clause-based : goal.returns-clause-based
returns-clause-based c =
    let x = zeros c.args.len in
    let s : AllByRecursion (IsSound (length (zeros c.args.len))) c.args.changes.now = long_sound c.args.len c.args.changes.now c.requires.sound in
    let e = zeros_long c.args.len in
    let m = c.in_ok-copy_to.ensures.sound x (omega (arith, e)) (c.in_ok-last.ensures.sound x s (c.cuts.invariant.sound x e s)) in
    subst Rattle.part_tree.specs.Plans.AllBased (sym c.new.ensures) m.based

pub returns-clause-inside : goal.returns-clause-inside
returns-clause-inside c = λ b e.
    let s : AllByRecursion (IsSound (length b)) c.args.changes.now = subst (λ (n : ℕ). AllByRecursion (IsSound n) c.args.changes.now) (sym e) c.requires.sound in
    let m = c.in_ok-copy_to.ensures.sound b (omega (arith, e)) (c.in_ok-last.ensures.sound b s (c.cuts.invariant.sound b e s)) in
    subst (Rattle.part_tree.specs.Plans.AllInside b) (sym c.new.ensures) m.inside

pub returns-clause-named : goal.returns-clause-named
returns-clause-named c = λ ms b s.
    subst (Rattle.part_tree.specs.Plans.AllNamed ms b) (sym c.new.ensures) (c.in_ok-copy_to.ensures.named ms b (c.in_ok-last.ensures.named ms b s (c.cuts.invariant.named ms b s)))
