use Rattle.std.proofs.Common.{refl}
use Rattle.crash_rows.specs.Worked.{file, patches, in_place, titled_file}
use Rattle.crash_rows.proofs.bytes.titled.Goals as goal

pub returns : goal.returns
unfolding file patches in_place titled_file
returns c = refl
