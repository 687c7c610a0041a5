use Rattle.std.proofs.Common.{◌≡◌, ℕ, List, rules, subst, sym}
use Rattle.edit_journal.specs.Journal.{Journal}
use Rattle.crash_rows.specs.declared.bytes.TheConstants.{OLD_JOURNAL}
use Rattle.crash_rows.specs.Worked.{patches}
use Rattle.crash_rows.proofs.Works.{old_journal_is}
use Rattle.crash_rows.proofs.bytes.old_journal_bytes.Goals as goal

pub returns : goal.returns
returns c =
    let items : c.in_ok-to_vec.field-0.items ≡ OLD_JOURNAL = search rules in
    subst (λ (b : List ℕ). Journal b 48 72 patches) (sym items) old_journal_is
