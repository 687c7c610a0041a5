use Rattle.std.proofs.Common.{true, arith, ap, sym, subst, ◌≡◌, ◌∙◌, ◌+◌, ◌∷◌, ◌++◌, [], ℕ, List, length, map, drop, append-nil}
use Rattle.std.proofs.lemmas.List.{drop_all}
use Rattle.std.specs.List.{AllByRecursion}
use Rattle.part_tree.specs.Moves.{Ascend, Move}
use Rattle.carrier_model.specs.Gaps.{between, moves_of}
use Rattle.container_model.specs.Splice.{Cut}
use Rattle.unit_plan.specs.Cuts.{cut_in}
use Rattle.unit_plan.specs.declared.cut.CutAt.{CutAt}
use Rattle.mov_plan.specs.Moved.{IsKeptIn}
use Rattle.mov_plan.specs.Tables.{LiesIn, merged, table_in, tables_up_to}
use Rattle.mov_plan.specs.declared.tables.TableAt.{TableAt}
use Rattle.mov_plan.proofs.Made.{all_up_to, kept_at, merged_more}
use Rattle.mov_plan.proofs.Moved.{if_ok, ranges_ascend}
use Rattle.mov_plan.proofs.spread.moves_widened.Goals as goal

pub cuts-preserved : goal.cuts-preserved
cuts-preserved c =
    let ks = c.args.cuts.now in
    let ts = c.args.tables.now in
    let i = c.cuts.cut-index in
    let k = c.cut-item.result in
    let old = c.cuts.ranges in
    let len = c.args.len in
    let inv = c.cuts.invariant in
    record {
      inside = c.in_ok-next.ensures.inside;
      sound = c.in_ok-jump_cut.ensures.sound (c.in_ok-next.ensures.sound inv.sound);
      held = λ ms b whole kept lies.
          let rest = merged true ms b (drop (i + 1) ks) (drop c.in_ok-next.next ts) in
          c.in_ok-jump_cut.ensures.held b rest len whole (kept_at (IsKeptIn len) ks i k c.cuts-test.true c.cut-item.is kept)
          ∙ c.in_ok-next.ensures.held ms b (cut_in b k ∷ rest) len lies
          ∙ ap (λ (xs : List Cut). old.held.items ++ between old.at old.to xs len) (sym (merged_more true ms b ks ts i k c.cuts.next c.in_ok-next.next c.cuts-test.true c.cut-item.is c.in_ok-next.ensures.next))
          ∙ inv.held ms b whole kept lies;
    }

pub new-requires-2 : goal.new-requires-2
new-requires-2 c =
    subst (Ascend 0) (sym c.deref.ensures.value)
    (ranges_ascend 0 c.jump.new.self.at c.jump.new.self.held.items (c.in_ok-jump.ensures.sound (c.in_ok-last.ensures.sound c.cuts.invariant.sound)))

pub returns : goal.returns
returns c =
    let ks = c.args.cuts.now in
    let ts = c.args.tables.now in
    let old = c.cuts.ranges in
    let mid = c.jump_tables-2.new.self in
    let len = c.args.len in
    let none : drop c.cuts.cut-index ks ≡ [] = drop_all c.cuts.cut-index ks c.cuts-test.false in
    let all : tables_up_to len (drop c.cuts.next ts) ≡ drop c.cuts.next ts = all_up_to len ts c.cuts.next c.cuts.invariant.inside (omega (arith, c.in_ok-last.ensures.next, c.if-last-tables.false)) in
    if_ok (λ m. m ≡ c.deref.result.now) (λ m. (ms : List Move) (b : List ℕ) → length b ≡ len → AllByRecursion (IsKeptIn len) ks → AllByRecursion (LiesIn b) ts → m ≡ moves_of (merged true ms b ks ts) len) c.new-2.result
    (λ m e ms b whole kept lies.
    e ∙ c.deref.ensures.value ∙ c.in_ok-jump.ensures.held
    ∙ c.in_ok-last.ensures.held ms b [] len lies
    ∙ ap (λ (xs : List Cut). old.held.items ++ between old.at old.to xs len) (append-nil (map (table_in true ms b) (tables_up_to len (drop c.cuts.next ts))))
    ∙ ap (λ (us : List TableAt). old.held.items ++ between old.at old.to (map (table_in true ms b) us) len) all
    ∙ ap (λ (js : List CutAt). old.held.items ++ between old.at old.to (merged true ms b js (drop c.cuts.next ts)) len) (sym none)
    ∙ c.cuts.invariant.held ms b whole kept lies)
    c.new-2.ensures
