use Rattle.std.proofs.Common.{rules, arith, ap, sym, subst, ◌≡◌, ◌∙◌, ◌+◌, ◌-◌, ◌++◌, [], ℕ, List, length, map, drop}
use Rattle.std.proofs.lemmas.List.{drop_all}
use Rattle.part_tree.specs.Moves.{Ascend}
use Rattle.std.specs.List.{AllByRecursion}
use Rattle.carrier_model.specs.Gaps.{between, moves_of}
use Rattle.unit_plan.specs.declared.cut.CutAt.{CutAt}
use Rattle.unit_plan.specs.Cuts.{cut_in}
use Rattle.mov_plan.specs.Moved.{IsKeptIn}
use Rattle.mov_plan.proofs.Made.{kept_at}
use Rattle.mov_plan.proofs.Moved.{between_more, if_ok, ranges_ascend}
use Rattle.mov_plan.proofs.moves.moves_between.Goals as goal

pub cuts-preserved : goal.cuts-preserved
cuts-preserved c =
    let ks = c.args.cuts.now in
    let i = c.cuts.cut-index in
    let k = c.cut-item.result in
    let old = c.cuts.ranges in
    let new = c.jump.new.self in
    let long : c.in-Some.now ≡ length k.bytes + k.keep = search rules in
    let to : new.to ≡ old.to + (k.span.at - old.at) + (length k.bytes + k.keep) = omega (arith, c.in_ok-jump.ensures.to, long) in
    record {
      sound = c.in_ok-jump.ensures.sound c.cuts.invariant.sound;
      held = λ b is kept.
          ap (λ (p : ℕ). new.held.items ++ between p new.to (map (cut_in b) (drop (i + 1) ks)) c.args.len) c.in_ok-jump.ensures.at
          ∙ between_more b c.args.len old.at old.to new.to ks i k old.held.items new.held.items (moves_of (map (cut_in b) ks) c.args.len) c.cuts-test.true c.cut-item.is is
          (kept_at (IsKeptIn c.args.len) ks i k c.cuts-test.true c.cut-item.is kept) c.in_ok-jump.ensures.held to (c.cuts.invariant.held b is kept);
    }

pub new-requires-2 : goal.new-requires-2
new-requires-2 c =
    subst (Ascend 0) (sym c.deref.ensures.value) (ranges_ascend 0 c.jump-2.new.self.at c.jump-2.new.self.held.items (c.in_ok-jump-2.ensures.sound c.cuts.invariant.sound))

pub returns : goal.returns
returns c =
    let old = c.cuts.ranges in
    let ks = c.args.cuts.now in
    let none : drop c.cuts.cut-index ks ≡ [] = drop_all c.cuts.cut-index ks c.cuts-test.false in
    if_ok (λ m. m ≡ c.deref.result.now) (λ m. (b : List ℕ) → length b ≡ c.args.len → AllByRecursion (IsKeptIn c.args.len) ks → m ≡ moves_of (map (cut_in b) ks) c.args.len) c.new-2.result
    (λ m e b is kept.
    e ∙ c.deref.ensures.value ∙ c.in_ok-jump-2.ensures.held
    ∙ ap (λ (js : List CutAt). old.held.items ++ between old.at old.to (map (cut_in b) js) c.args.len) (sym none)
    ∙ c.cuts.invariant.held b is kept)
    c.new-2.ensures
