use Rattle.std.proofs.Common.{◌∙◌, ◌++◌, ◌+◌, ℕ, map, drop, sym, ap, subst}
use Rattle.part_tree.specs.Moves.{Ascend}
use Rattle.carrier_model.specs.Gaps.{between, moves_of}
use Rattle.unit_plan.specs.Cuts.{SpansAscend, cut_in}
use Rattle.unit_plan.proofs.Spliced.{left_ascend}
use Rattle.avi_plan.proofs.Ranges.{between_last, between_more, ranges_ascend}
use Rattle.avi_plan.proofs.moves.moves_between.Goals as goal

pub cuts-preserved : goal.cuts-preserved
cuts-preserved c =
    let cuts = c.args.cuts.now in
    let i = c.cuts.cut-index in
    let k = c.cut-item.result in
    let old = c.cuts.ranges in
    let new = c.pass.new.self in
    record {
      sound = c.in_ok-pass.ensures.sound c.cuts.invariant.sound;
      ascend = subst (λ (n : ℕ). SpansAscend n (drop (i + 1) cuts) c.args.len) (sym c.in_ok-pass.ensures.at) (left_ascend old.at c.args.len cuts i k c.cuts-test.true c.cut-item.is c.cuts.invariant.ascend).2;
      held = λ b is.
          ap (λ (n : ℕ). new.held.items ++ between n new.to (map (cut_in b) (drop (i + 1) cuts)) c.args.len) c.in_ok-pass.ensures.at
          ∙ between_more b c.args.len old.at old.to new.to cuts i k old.held.items new.held.items (moves_of (map (cut_in b) cuts) c.args.len) c.cuts-test.true c.cut-item.is is c.cuts.invariant.ascend
          c.in_ok-pass.ensures.held c.in_ok-pass.ensures.to (c.cuts.invariant.held b is);
    }

pub new-requires-2 : goal.new-requires-2
new-requires-2 c = subst (Ascend 0) (sym c.deref.ensures.value) (ranges_ascend 0 c.jump.new.self.at c.jump.new.self.held.items (c.in_ok-jump.ensures.sound c.cuts.invariant.sound))

pub returns : goal.returns
returns c = λ b is.
    c.in_ok-moves.ensures ∙ c.deref.ensures.value
    ∙ between_last b c.args.len c.cuts.ranges.at c.cuts.ranges.to c.args.cuts.now c.cuts.cut-index c.cuts.ranges.held.items c.jump.new.self.held.items (moves_of (map (cut_in b) c.args.cuts.now) c.args.len) c.cuts-test.false c.in_ok-jump.ensures.held (c.cuts.invariant.held b is)
