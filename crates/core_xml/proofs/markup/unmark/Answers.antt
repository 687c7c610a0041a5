use Rattle.std.proofs.Common.{◌-◌, ◌∙◌, ap, drop, length, take, sym, List, ℕ, Option}
use Rattle.escapes.proofs.Undone.{rest_is, slice_is}
use Rattle.core_xml.specs.Markup.{joined, left, unmarked_from}
use Rattle.core_xml.proofs.markup.unmark.Goals as goal

pub loop-at-preserved : goal.loop-at-preserved
loop-at-preserved c =
    let marked = c.args.marked.now in
    let text = c.read_letter.new.text.items in
    ap (λ (xs : List ℕ). joined text (unmarked_from c.in-Some.next xs)) (rest_is marked c.loop-at.at)
    ∙ ap (λ (o : Option ℕ). joined text (left o (drop 1 (take (length marked - c.loop-at.at) (drop c.loop-at.at marked))))) (sym c.in-Some.is) ∙ c.in_ok-next.ensures
    ∙ ap (λ (xs : List ℕ). joined c.loop-at.text.items (unmarked_from c.loop-at.more xs)) (slice_is marked c.loop-at.at) ∙ c.loop-at.invariant
