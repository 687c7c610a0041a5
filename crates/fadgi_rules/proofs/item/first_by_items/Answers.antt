use Rattle.std.proofs.Common.{◌∙◌, ◌≡◌, ap, arith, ℕ, drop}
use Rattle.part_tree.specs.Fields.{values}
use Rattle.fadgi_rules.specs.Items.{items_broken}
use Rattle.fadgi_rules.proofs.Items.{items_are_broken}
use Rattle.fadgi_rules.proofs.item.first_by_items.Goals as goal

pub returns : goal.returns
returns c =
    let f = values c.args.fields.now in
    let none : c.loop-i.i ≡ 0 = omega (arith, c.loop-i-test.false) in
    c.loop-i.invariant ∙ ap (λ (k : ℕ). items_broken c.args.kind c.args.streams f (drop k c.args.items.now)) none ∙ items_are_broken c.args.kind c.args.streams f c.args.items.now
