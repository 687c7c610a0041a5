use Rattle.std.proofs.Common.{◌≡◌, drop}
use Rattle.carrier_model.specs.Lists.{sets_some}
use Rattle.mov_plan.specs.Keyed.{changes_of}
use Rattle.mov_plan.proofs.key_carry.sets_value.Given as goal

-- none was met so far
abbrev pub invariant-changes : goal.invariant-changes
invariant-changes l = sets_some (changes_of (drop l.change-index l.changes)) ≡ sets_some (changes_of l.changes)
