use Rattle.std.proofs.Common.{drop}
use Rattle.info_list.proofs.Grown.{ItemsLeft}
use Rattle.info_list.proofs.fields.add_items.Given as goal

-- the values so far, and the items that are left
abbrev pub invariant-items : goal.invariant-items
invariant-items l = ItemsLeft l.fields l.fn.fields (drop l.item-index l.items) l.items
