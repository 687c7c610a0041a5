use Rattle.std.proofs.Common.{◌≡◌, drop}
use Rattle.part_tree.specs.Fields.{values}
use Rattle.fadgi_rules.specs.Changed.{change_in}
use Rattle.fadgi_rules.proofs.changed.change_in.Given as goal

-- the items from here on decide
abbrev pub invariant-loop-item : goal.invariant-loop-item
invariant-loop-item l = change_in (values l.fields) (drop l.item-index l.items) l.name ≡ change_in (values l.fields) l.items l.name
