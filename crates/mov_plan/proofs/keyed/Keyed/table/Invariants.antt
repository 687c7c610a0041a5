use Rattle.std.proofs.Common.{◌≡◌, map, take}
use Rattle.mov_plan.specs.Keyed.{child_with}
use Rattle.mov_plan.proofs.keyed.Keyed.table.Given as goal

abbrev pub invariant-children : goal.invariant-children
invariant-children l = l.children.items ≡ map (child_with l.self.entries.items l.self.items.items) (take l.child-index l.child-items)
