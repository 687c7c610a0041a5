use Rattle.std.proofs.Common.{◌≡◌, ◌+◌, ◌<◌, ◌++◌, ◌∷◌, [], ℕ, List, Option, None, length, take, sym, ap, ◌∙◌, subst, arith}
use Rattle.file_swap.specs.Swap.{Swapping}
use Rattle.metaedit_top.specs.declared.batch_end.FileEnd.{FileEnd}
use Rattle.metaedit_top.specs.declared.batch_text.FileTexts.{FileTexts}
use Rattle.metaedit_top.specs.Batch.{BegunTexts}
use Rattle.metaedit_top.proofs.Rounded.{fresh_all}
use Rattle.metaedit_top.proofs.Starts.{StartsFront, front_all, front_told, length_more, on_err, stays_all, stays_more, texts_told}
use Rattle.metaedit_top.proofs.batch.start_files.Goals as goal

pub returns-in_err-end-clause-stays : goal.returns-in_err-end-clause-stays
returns-in_err-end-clause-stays g c =
    let low : c.loop-i.i < length c.args.depots.now = let n = c.requires in let t = c.loop-i-test.true in omega (arith, n, t) in
    on_err c.from_residual-in_err-end.result _ (stays_more g.D.Depot.disk c.args.edit.now c.args.files.now c.loop-i.i c.args.depots.now c.loop-i.depots c.loop-i.ends.items c.loop-i.swaps.items c.loop-i.invariant.front
    c.start_at.new.depots c.start_at.ensures.others low c.start_at.ensures.stays)

pub returns-in_err-push-clause-stays : goal.returns-in_err-push-clause-stays
returns-in_err-push-clause-stays g c =
    let low : c.loop-i.i < length c.args.depots.now = let n = c.requires in let t = c.loop-i-test.true in omega (arith, n, t) in
    on_err c.from_residual-in_err-push.result _ (stays_more g.D.Depot.disk c.args.edit.now c.args.files.now c.loop-i.i c.args.depots.now c.loop-i.depots c.loop-i.ends.items c.loop-i.swaps.items c.loop-i.invariant.front
    c.start_at.new.depots c.start_at.ensures.others low c.start_at.ensures.stays)

pub returns-in_err-push-2-clause-stays : goal.returns-in_err-push-2-clause-stays
returns-in_err-push-2-clause-stays g c =
    let low : c.loop-i.i < length c.args.depots.now = let n = c.requires in let t = c.loop-i-test.true in omega (arith, n, t) in
    on_err c.from_residual-in_err-push-2.result _ (stays_more g.D.Depot.disk c.args.edit.now c.args.files.now c.loop-i.i c.args.depots.now c.loop-i.depots c.loop-i.ends.items c.loop-i.swaps.items c.loop-i.invariant.front
    c.start_at.new.depots c.start_at.ensures.others low c.start_at.ensures.stays)

pub returns-in_err-push-3-clause-stays : goal.returns-in_err-push-3-clause-stays
returns-in_err-push-3-clause-stays g c =
    let low : c.loop-i.i < length c.args.depots.now = let n = c.requires in let t = c.loop-i-test.true in omega (arith, n, t) in
    on_err c.from_residual-in_err-push-3.result _ (stays_more g.D.Depot.disk c.args.edit.now c.args.files.now c.loop-i.i c.args.depots.now c.loop-i.depots c.loop-i.ends.items c.loop-i.swaps.items c.loop-i.invariant.front
    c.start_at.new.depots c.start_at.ensures.others low c.start_at.ensures.stays)

pub returns-in_err-push-4-clause-stays : goal.returns-in_err-push-4-clause-stays
returns-in_err-push-4-clause-stays g c =
    let low : c.loop-i.i < length c.args.depots.now = let n = c.requires in let t = c.loop-i-test.true in omega (arith, n, t) in
    on_err c.from_residual-in_err-push-4.result _ (stays_more g.D.Depot.disk c.args.edit.now c.args.files.now c.loop-i.i c.args.depots.now c.loop-i.depots c.loop-i.ends.items c.loop-i.swaps.items c.loop-i.invariant.front
    c.start_at.new.depots c.start_at.ensures.others low c.start_at.ensures.stays)

pub loop-i-preserved : goal.loop-i-preserved
loop-i-preserved g c =
    let e = c.args.edit.now in
    let files = c.args.files.now in
    let k = c.loop-i.i in
    let before = c.args.depots.now in
    let next = c.start_at.new.depots in
    let w = c.index-files-i.result in
    let s = c.in_ok-end.field-0 in
    let h = c.in_ok-end.ensures in
    let low : k < length before = let n = c.requires in let t = c.loop-i-test.true in omega (arith, n, t) in
    let ends_are : c.push.new.items.items ≡ c.loop-i.ends.items ++ s.end ∷ [] = c.in_ok-push.ensures in
    let left_is : c.push-in-loop-i.new.items.items ≡ c.loop-i.left.items ++ None ∷ [] = c.in_ok-push-2.ensures in
    let texts_are : c.push-in-loop-i-2.new.items.items ≡ c.loop-i.texts.items ++ s.texts ∷ [] = c.in_ok-push-3.ensures in
    let swaps_are : c.push-in-loop-i-3.new.items.items ≡ c.loop-i.swaps.items ++ s.swap ∷ [] = c.in_ok-push-4.ensures in
    record {
      front = subst (λ (es : List FileEnd). StartsFront g.D.Depot.disk e files (k + 1) before next es c.push-in-loop-i-3.new.items.items) (sym ends_are)
          (subst (λ (ss : List (Option Swapping)). StartsFront g.D.Depot.disk e files (k + 1) before next (c.loop-i.ends.items ++ s.end ∷ []) ss) (sym swaps_are)
          (front_told g.D.Depot.disk c.args.edit.now c.args.files.now c.loop-i.i c.args.depots.now c.loop-i.depots c.loop-i.ends.items c.loop-i.swaps.items c.loop-i.invariant.front next h.others low w c.index-files-i.is c.loop-i-test.true s.end s.swap h.begun));
      texts = subst (λ (es : List FileEnd). BegunTexts (take (k + 1) files) es c.push-in-loop-i-2.new.items.items) (sym ends_are)
          (subst (λ (ts : List FileTexts). BegunTexts (take (k + 1) files) (c.loop-i.ends.items ++ s.end ∷ []) ts) (sym texts_are)
          (texts_told files k c.loop-i.ends.items c.loop-i.texts.items w c.index-files-i.is s.end s.texts c.loop-i-test.true c.loop-i.invariant.texts h.name h.line));
      left = ap (λ (xs : List (Option FileEnd)). length xs) left_is ∙ length_more c.loop-i.left.items None ∙ ap (λ (n : ℕ). n + 1) c.loop-i.invariant.left;
    }

pub new-requires : goal.new-requires
new-requires g c =
    let all : c.loop-i.i ≡ length c.args.files.now = let t = c.loop-i-test.false in let most = c.loop-i.auto.i-end in omega arith in
    fresh_all g.D.Depot.disk c.args.edit.now c.args.files.now c.args.depots.now c.loop-i.depots c.loop-i.ends.items c.loop-i.swaps.items
    (front_all g.D.Depot.disk c.args.edit.now c.args.files.now c.args.depots.now c.loop-i.depots c.loop-i.ends.items c.loop-i.swaps.items c.loop-i.i all c.loop-i.invariant.front) c.requires

pub returns-in_err-batch-clause-stays : goal.returns-in_err-batch-clause-stays
returns-in_err-batch-clause-stays g c =
    on_err c.from_residual-in_err-batch.result _ (stays_all g.D.Depot.disk c.args.edit.now c.args.files.now c.loop-i.i c.args.depots.now c.loop-i.depots c.loop-i.ends.items c.loop-i.swaps.items c.loop-i.invariant.front)
