use Rattle.std.proofs.Common.{◌-◌, ◌∙◌, ap, drop, length, take, sym, List, ℕ, Option}
use Rattle.escapes.specs.Escapes.{joined, left, unescaped_from}
use Rattle.escapes.proofs.Undone.{rest_is, slice_is}
use Rattle.escapes.proofs.read.unescape.Goals as goal

pub loop-at-preserved : goal.loop-at-preserved
loop-at-preserved c =
    let text = c.args.text.now in
    let raw = c.read_letter.new.raw.items in
    ap (λ (xs : List ℕ). joined raw (unescaped_from c.in-Some.next xs)) (rest_is text c.loop-at.at)
    ∙ ap (λ (o : Option ℕ). joined raw (left o (drop 1 (take (length text - c.loop-at.at) (drop c.loop-at.at text))))) (sym c.in-Some.is) ∙ c.in_ok-next.ensures
    ∙ ap (λ (xs : List ℕ). joined c.loop-at.raw.items (unescaped_from c.loop-at.more xs)) (slice_is text c.loop-at.at) ∙ c.loop-at.invariant
