use Rattle.std.proofs.Common.{arith, ◌≡◌, ◌+◌, length}
use Rattle.container_model.specs.Written.{slice}
use Rattle.qt_atoms.proofs.Steps.{wide_read}
use Rattle.qt_atoms.proofs.walker.wide_in.Goals as goal

pub returns : goal.returns
returns c =
    let is : c.copy_from_slice.new.self ≡ slice c.args.bytes.now (c.args.at + 8) 8 = grind arith in
    wide_read c.args.bytes.now c.args.at (length c.args.bytes.now) c.copy_from_slice.new.self c.from_be_bytes.result (omega arith) (omega arith) is c.from_be_bytes.ensures
