use Rattle.std.proofs.Common.{arith, ap, List, ℕ, length}
use Rattle.edit_journal.proofs.Spelled.{patch_put}
use Rattle.edit_journal.proofs.spell.put_patch.Goals as goal

pub returns : goal.returns
returns c =
    patch_put c.args.out.now.items c.loop-from.out.items c.args.patch.now.at c.loop-from.from c.args.patch.now.bytes c.loop-from.invariant.put
    (omega (arith, c.loop-from-test.false, ap (λ (l : List ℕ). length l) c.as_slice-bytes.ensures))
