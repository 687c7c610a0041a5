use Rattle.std.proofs.Common.{◌≡◌, drop}
use Rattle.part_tree.specs.Fields.{values}
use Rattle.fadgi_rules.specs.Items.{items_broken}
use Rattle.fadgi_rules.proofs.item.first_by_items.Given as goal

-- the first of the items from here on
abbrev pub invariant-loop-i : goal.invariant-loop-i
invariant-loop-i l = l.first ≡ items_broken l.kind l.streams (values l.fields) (drop l.i l.items)
