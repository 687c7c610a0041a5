use Rattle.std.proofs.Common.{◌++◌, ◌∙◌, ap, List, ℕ}
use Rattle.escapes.specs.Escapes.{escaped_from}
use Rattle.escapes.proofs.Undone.{rest_is, slice_is}
use Rattle.escapes.proofs.write.escape.Goals as goal

pub loop-at-preserved : goal.loop-at-preserved
loop-at-preserved c =
    let raw = c.args.raw.now in
    ap (λ (xs : List ℕ). c.put_first.new.text.items ++ escaped_from c.in_ok-ahead.ahead xs) (rest_is raw c.loop-at.at) ∙ c.in_ok-ahead.ensures
    ∙ ap (λ (xs : List ℕ). c.loop-at.text.items ++ escaped_from c.loop-at.ahead xs) (slice_is raw c.loop-at.at) ∙ c.loop-at.invariant
