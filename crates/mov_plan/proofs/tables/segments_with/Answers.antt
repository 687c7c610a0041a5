use Rattle.std.proofs.Common.{arith, ap, sym, subst, ◌≡◌, ◌∙◌, ◌+◌, ◌-◌, ◌∷◌, ◌++◌, [], ℕ, List, length, map, take, drop, replicate, append-nil}
use Rattle.std.proofs.lemmas.List.{drop_all, take_all, length-drop, length-replicate}
use Rattle.std.specs.List.{flat_map}
use Rattle.part_tree.specs.Plans.{AllBased, AllNamed, segment_bytes, total_len}
use Rattle.container_model.specs.Splice.{Cut, splice_from}
use Rattle.unit_plan.specs.declared.cut.CutAt.{CutAt}
use Rattle.unit_plan.specs.Cuts.{cut_in}
use Rattle.mov_plan.specs.Made.{IsMade, made_of}
use Rattle.mov_plan.specs.Tables.{merged, table_in, tables_up_to}
use Rattle.mov_plan.specs.declared.tables.TableAt.{TableAt}
use Rattle.mov_plan.proofs.Made.{all_up_to, merged_more, one_more}
use Rattle.mov_plan.proofs.tables.segments_with.Goals as goal

pub cuts-preserved : goal.cuts-preserved
cuts-preserved c =
    let ks = c.args.cuts.now in
    let ts = c.args.tables.now in
    let w = c.args.widened in
    let i = c.cuts.cut-index in
    let k = c.cut-item.result in
    let old = c.cuts.made in
    let mid = c.push_tables.new.self in
    let new = c.push_cut.new.self in
    let tables = c.in_ok-next.ensures in
    let cut = c.in_ok-push_cut.ensures in
    let inv = c.cuts.invariant in
    record {
      inside = c.in_ok-next.ensures.inside;
      bytes = λ ms b.
          let rest = merged w ms b (drop (i + 1) ks) (drop c.in_ok-next.next ts) in
          one_more b mid.at new.at (cut_in b k) (made_of ms b mid) (made_of ms b new) rest c.in_ok-push_cut.ensures.order c.in_ok-push_cut.ensures.at (c.in_ok-push_cut.ensures.bytes ms b)
          ∙ c.in_ok-next.ensures.bytes ms b (cut_in b k ∷ rest)
          ∙ ap (λ (xs : List Cut). made_of ms b old ++ splice_from old.at (drop old.at b) xs) (sym (merged_more w ms b ks ts i k c.cuts.next c.in_ok-next.next c.cuts-test.true c.cut-item.is c.in_ok-next.ensures.next))
          ∙ inv.bytes ms b;
      sound = λ b inside.
          c.in_ok-push_cut.ensures.sound b inside (c.in_ok-next.ensures.sound b (omega (arith, inside, c.in_ok-push_cut.ensures.order, c.in_ok-push_cut.ensures.at))
          (inv.sound b (omega (arith, inside, c.in_ok-push_cut.ensures.order, c.in_ok-push_cut.ensures.at, c.in_ok-next.ensures.order))));
      named = λ ms b all. c.in_ok-push_cut.ensures.named ms b (c.in_ok-next.ensures.named ms b all (inv.named ms b all));
    }

pub returns-clause-bytes : goal.returns-clause-bytes
returns-clause-bytes c = λ ms b is.
    let ks = c.args.cuts.now in
    let ts = c.args.tables.now in
    let w = c.args.widened in
    let old = c.cuts.made in
    let mid = c.push_tables-2.new.self in
    let len = c.args.len in
    let inv = c.cuts.invariant in
    let none : drop c.cuts.cut-index ks ≡ [] = drop_all c.cuts.cut-index ks c.cuts-test.false in
    let whole : take (len - mid.at) (drop mid.at b) ≡ drop mid.at b = take_all (len - mid.at) (drop mid.at b) (omega (arith, is, length-drop mid.at b)) in
    let all : tables_up_to len (drop c.cuts.next ts) ≡ drop c.cuts.next ts = all_up_to len ts c.cuts.next inv.inside (omega (arith, c.in_ok-last.ensures.next, c.if-last-tables.false)) in
    ap (flat_map (segment_bytes ms b)) c.new.ensures
    ∙ c.in_ok-copy_to.ensures.bytes ms b
    ∙ ap (λ (x : List ℕ). made_of ms b mid ++ x) whole
    ∙ c.in_ok-last.ensures.bytes ms b []
    ∙ ap (λ (xs : List Cut). made_of ms b old ++ splice_from old.at (drop old.at b) xs) (append-nil (map (table_in w ms b) (tables_up_to len (drop c.cuts.next ts))))
    ∙ ap (λ (us : List TableAt). made_of ms b old ++ splice_from old.at (drop old.at b) (map (table_in w ms b) us)) all
    ∙ ap (λ (js : List CutAt). made_of ms b old ++ splice_from old.at (drop old.at b) (merged w ms b js (drop c.cuts.next ts))) (sym none)
    ∙ inv.bytes ms b

pub returns-clause-total : goal.returns-clause-total
returns-clause-total c =
    let b = replicate c.args.len 0 in
    let long : length b ≡ c.args.len = length-replicate c.args.len 0 in
    let first = c.cuts.invariant.sound b (omega (arith, long, c.in_ok-last.ensures.order, c.in_ok-copy_to.ensures.order)) in
    let second = c.in_ok-last.ensures.sound b (omega (arith, long, c.in_ok-copy_to.ensures.order)) first in
    let made : IsMade b c.copy_to.new.self = c.in_ok-copy_to.ensures.sound b (omega (arith, long)) second in
    ap total_len c.new.ensures ∙ made.total ∙ c.if-made-new_len.false

pub returns-clause-based : goal.returns-clause-based
returns-clause-based c =
    let b = replicate c.args.len 0 in
    let long : length b ≡ c.args.len = length-replicate c.args.len 0 in
    let first = c.cuts.invariant.sound b (omega (arith, long, c.in_ok-last.ensures.order, c.in_ok-copy_to.ensures.order)) in
    let second = c.in_ok-last.ensures.sound b (omega (arith, long, c.in_ok-copy_to.ensures.order)) first in
    let made : IsMade b c.copy_to.new.self = c.in_ok-copy_to.ensures.sound b (omega (arith, long)) second in
    subst AllBased (sym c.new.ensures) made.based

pub returns-clause-named : goal.returns-clause-named
returns-clause-named c = λ ms b all. subst (AllNamed ms b) (sym c.new.ensures) (c.in_ok-copy_to.ensures.named ms b (c.in_ok-last.ensures.named ms b all (c.cuts.invariant.named ms b all)))
