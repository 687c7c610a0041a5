use Rattle.std.proofs.Common.{sym, ◌∙◌}
use Rattle.part_tree.proofs.Kept.{keeps_copied}
use Rattle.part_tree.proofs.key.KeyName.new.Goals as goal

pub invariant_of-result : goal.invariant_of-result
invariant_of-result c = keeps_copied c.copy_from_slice.new.self c.args.name.now c.copy_from_slice.ensures.after (sym c.is_key.ensures ∙ c.if-not-is_key.false)
