use Rattle.std.proofs.Common.{arith}
use Rattle.me_disk.proofs.Holds.{holds_on}
use Rattle.opendml_index.proofs.Rows.{row_is}
use Rattle.opendml_index.proofs.check.read_entry.Goals as goal

pub returns-clause-entry : goal.returns-clause-entry
returns-clause-entry g c b held =
    let here = holds_on (g.D.Depot.disk c.args.depot.now) (g.D.Depot.disk c.read_at.new.depot) b c.read_at.ensures.reads held in
    row_is b c.args.at c.args.two_fields c.read_at.new.into c.in_ok-second.second c.standard_in.result (omega (arith, c.requires.inside b held)) (c.in_ok-read_at.ensures.bytes b held) (c.in_ok-second.ensures.second b here) c.standard_in.ensures
