use Rattle.std.proofs.Common.{◌≡◌, ◌∙◌, rules}
use Rattle.crash_rows.specs.declared.bytes.TheConstants.{JOURNAL}
use Rattle.crash_rows.proofs.Works.{journal_is}
use Rattle.crash_rows.proofs.bytes.journal_bytes.Goals as goal

pub returns : goal.returns
returns c =
    let items : c.in_ok-to_vec.field-0.items ≡ JOURNAL = search rules in
    items ∙ journal_is
