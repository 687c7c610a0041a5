use Rattle.std.proofs.Common.{rules}
use Rattle.crash_rows.specs.Worked.{file}
use Rattle.crash_rows.proofs.bytes.file_bytes.Goals as goal

pub returns : goal.returns
unfolding file
returns c = search rules
