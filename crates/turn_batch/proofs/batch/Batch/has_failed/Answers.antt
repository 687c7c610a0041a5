use Rattle.std.proofs.Common.{List, ap, ◌∙◌, get_or, length, ◌<◌, rules}
use Rattle.turn_batch.specs.declared.member.Member.{Member}
use Rattle.turn_batch.specs.Members.{failed_in}
use Rattle.turn_batch.proofs.Lows.{any_other, low_at}
use Rattle.turn_batch.proofs.batch.Batch.has_failed.Goals as goal

pub returns : goal.returns
returns c = λ m.
    let ms = c.self.inside.members.items in
    let i = c.args.i in
    let low : i < length ms = search rules in
    ap (λ (x : Member). x.failed) (c.index.ensures ∙ any_other ms i c.index.result.now m low)
    ∙ (low_at ms i m c.self.invariant low).told
    ∙ ap (λ (xs : List Member). failed_in (get_or xs i m).swap) c.self.view_is
