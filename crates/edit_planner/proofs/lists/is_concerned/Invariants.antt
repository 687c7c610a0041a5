use Rattle.std.proofs.Common.{◌≡◌, drop}
use Rattle.info_list.specs.Info.{tokens_of}
use Rattle.edit_planner.specs.Lists.{concerned}
use Rattle.edit_planner.proofs.lists.is_concerned.Given as goal

abbrev pub invariant-changes : goal.invariant-changes
invariant-changes l = concerned l.n (tokens_of l.list) (drop l.change-index l.homed) ≡ concerned l.n (tokens_of l.list) l.homed
