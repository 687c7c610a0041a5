use Rattle.std.proofs.Common.{◌≡◌, ◌++◌, codes}
use Rattle.info_list.proofs.Items.{bytes_from}
use Rattle.info_list.proofs.list_body.Given as goal

-- what is spelled so far and the items that are left are the whole
abbrev pub invariant-loop-item : goal.invariant-loop-item
invariant-loop-item l = l.body.items ++ bytes_from l.item-index l.list.items ≡ codes "INFO" ++ bytes_from 0 l.list.items
