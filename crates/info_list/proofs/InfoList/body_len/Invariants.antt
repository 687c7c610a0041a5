use Rattle.std.proofs.Common.{◌≡◌, ◌+◌, ◌-◌, ◌^◌, length, min}
use Rattle.info_list.proofs.Items.{bytes_from}
use Rattle.info_list.proofs.InfoList.body_len.Given as goal

-- the length so far and that of the items that are left are the whole
abbrev pub invariant-loop-item : goal.invariant-loop-item
invariant-loop-item l = min (l.len + length (bytes_from l.item-index l.self.items)) (2 ^ 64 - 1) ≡ min (4 + length (bytes_from 0 l.self.items)) (2 ^ 64 - 1)
