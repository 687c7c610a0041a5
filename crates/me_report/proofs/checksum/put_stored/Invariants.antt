use Rattle.std.proofs.Common.{◌≡◌, ◌++◌, drop}
use Rattle.std.specs.List.{flat_map}
use Rattle.me_report.specs.Checksums.{stored_line}
use Rattle.me_report.proofs.checksum.put_stored.Given as goal

-- the lines so far, and those that are left
abbrev pub invariant-values : goal.invariant-values
invariant-values l = l.out.items ++ flat_map stored_line (drop l.value-index l.stored) ≡ l.fn.out.items ++ flat_map stored_line l.stored
