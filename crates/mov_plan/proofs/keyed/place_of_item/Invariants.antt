use Rattle.std.proofs.Common.{◌≡◌, ◌+◌, drop}
use Rattle.mov_plan.proofs.KeyLists.{item_place}
use Rattle.mov_plan.proofs.keyed.place_of_item.Given as goal

-- none was met so far
abbrev pub invariant-items : goal.invariant-items
invariant-items l = l.k + item_place (l.entry + 1) (drop l.k l.items) ≡ item_place (l.entry + 1) l.items
