use Rattle.std.proofs.Common.{◌∙◌, ◌∷◌, [], true, arith, refl}
use Rattle.avi_file.specs.Indexes.{kept_limit}
use Rattle.avi_file.proofs.Held.{limit_is, kept_full, kept_more}
use Rattle.avi_file.proofs.index.put_named.Goals as goal

pub returns-then-len-gt-MOST_CHUNKS-clause-kept : goal.returns-then-len-gt-MOST_CHUNKS-clause-kept
returns-then-len-gt-MOST_CHUNKS-clause-kept c all same =
    let limit = limit_is in
    kept_full kept_limit all c.args.named.now.items _ (omega arith) same

pub returns-in-Ok-clause-kept : goal.returns-in-Ok-clause-kept
returns-in-Ok-clause-kept c all same =
    let limit = limit_is in
    c.in-Ok.ensures.items ∙ kept_more kept_limit all c.args.named.now.items (record { body = c.args.body; standard = true } ∷ []) (omega arith) refl same
