use Rattle.std.proofs.Common.{◌≡◌, ◌∙◌, ℕ, List, take, drop, Some, sym, ap}
use Rattle.std.proofs.lemmas.List.{take-take}
use Rattle.part_tree.specs.declared.table.IndexHead.{IndexHead}
use Rattle.container_model.specs.Written.{slice}
use Rattle.container_model.proofs.Written.{length-slice}
use Rattle.avi_plan.proofs.Heads.{head_is, none_fails}
use Rattle.avi_plan.proofs.head.read_head.Goals as goal

pub returns-in-Err-clause-head : goal.returns-in-Err-clause-head
returns-in-Err-clause-head g c b held sound =
    let body = slice b c.args.body.at c.args.body.len in
    let front : c.read_at.new.into ≡ take 24 body =
    c.in_ok-read_at.ensures.bytes held.tells ∙ ap (λ (x : List ℕ). take 24 (drop c.args.body.at x)) held.bytes ∙ sym (take-take 24 c.args.body.len (drop c.args.body.at b) c.if-body-lt24.false)
    in
    none_fails body sound c.in-Err.field-0 (c.in-Err.ensures.head body front (sym (length-slice b c.args.body.at c.args.body.len (c.requires.inside b held))))

pub returns-in-Ok-clause-head : goal.returns-in-Ok-clause-head
returns-in-Ok-clause-head g c b held sound =
    let body = slice b c.args.body.at c.args.body.len in
    let front : c.read_at.new.into ≡ take 24 body =
    c.in_ok-read_at.ensures.bytes held.tells ∙ ap (λ (x : List ℕ). take 24 (drop c.args.body.at x)) held.bytes ∙ sym (take-take 24 c.args.body.len (drop c.args.body.at b) c.if-body-lt24.false)
    in
    ap (λ (h : IndexHead). Some h) (head_is body c.in-Ok.head (c.in-Ok.ensures.head body front (sym (length-slice b c.args.body.at c.args.body.len (c.requires.inside b held)))).1)
