use Rattle.std.proofs.Common.{◌∙◌, ◌*◌, ℕ, List, sym, subst, arith}
use Rattle.container_model.proofs.Written.{slice_slice}
use Rattle.avi_index.specs.Entries.{IsEntry}
use Rattle.avi_index.proofs.entry.read_entry.Goals as goal

pub returns-clause-entry : goal.returns-clause-entry
returns-clause-entry g c b held =
    subst (λ (r : List ℕ). IsEntry r c.entry_in.result)
    (c.in_ok-read_at.ensures.bytes b held ∙ sym (slice_slice b c.args.table.at c.args.table.len (16 * c.args.k) 16 (omega arith)))
    c.entry_in.ensures
