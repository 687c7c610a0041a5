use Rattle.std.proofs.Common.{◌∙◌, sym}
use Rattle.wave_file.specs.Reads.{carries, is_ranges, seen_of}
use Rattle.wave_file.proofs.Firsts.{one_above}
use Rattle.wave_file.proofs.Sound.{some_above}
use Rattle.wave_file.proofs.Took.{early_same}
use Rattle.wave_file.proofs.chunk.early_why.Goals as goal

pub returns : goal.returns
returns c =
    c.first_of.ensures
    ∙ early_same (seen_of c.args.reading.now) c.args.id c.args.len c.is_carrier-carrier.result c.is_bext-bext.result c.args.reading.now.has_bext c.is-format.result c.is_some.result (carries c.args.role) (is_ranges c.args.role)
    c.is_carrier-carrier.ensures c.is_bext-bext.ensures (sym (one_above c.args.reading.now.has_bext)) c.is-format.ensures.flipped (c.is_some.ensures ∙ some_above c.args.reading.now.align)
