use Rattle.std.proofs.Common.{◌≡◌, ◌++◌, take}
use Rattle.edit_journal.specs.Strips.{strips}
use Rattle.edit_journal.specs.Journal.{spelled_strips}
use Rattle.edit_journal.specs.Journal.Version.{Second}
use Rattle.edit_journal.proofs.spell.put_patches.Given as goal

abbrev pub invariant-loop-patch : goal.invariant-loop-patch
invariant-loop-patch l = l.out.items ≡ l.fn.out.items ++ spelled_strips Second (strips (take l.patch-index l.patches))
