use Rattle.std.proofs.Common.{◌+◌, ◌∙◌, sym, ap, arith, take, drop}
use Rattle.std.specs.Int.{w16, from_le_bytes}
use Rattle.wave_file.proofs.Sound.{slice_in}
use Rattle.wave_file.proofs.chunk.read_align.Goals as goal

pub returns-clause-align : goal.returns-clause-align
returns-clause-align g c = λ b holds.
    c.from_le_bytes.ensures
    ∙ ap (from_le_bytes w16) (c.in_ok-read_at.ensures.bytes holds.tells ∙ ap (λ x. take 2 (drop (c.args.body.at + 12) x)) holds.bytes ∙ sym (slice_in b c.args.body.at c.args.body.len 12 2 (omega arith)))
