use Rattle.std.proofs.Common.{arith, ap, length}
use Rattle.wave_file.proofs.Grown.{bext_keeps_keys, has_bext}
use Rattle.wave_file.proofs.fields.read_bext.Goals as goal

pub returns-clause-ranges : goal.returns-clause-ranges
returns-clause-ranges g c =
    has_bext c.args.fields.now c.add_bext.new.fields c.as_slice.result.now (omega (arith, c.in-Ok.ensures.len, ap length c.as_slice.ensures, c.requires.long)) c.in-Ok-add_bext.ensures

pub returns-clause-keys : goal.returns-clause-keys
returns-clause-keys g c = bext_keeps_keys c.args.fields.now c.add_bext.new.fields c.as_slice.result.now c.in-Ok-add_bext.ensures
