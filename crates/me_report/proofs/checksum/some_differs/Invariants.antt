use Rattle.std.proofs.Common.{◌≡◌, drop}
use Rattle.me_report.specs.Checksums.{differs}
use Rattle.me_report.proofs.checksum.some_differs.Given as goal

-- the values from here on decide
abbrev pub invariant-values : goal.invariant-values
invariant-values l = differs l.digest (drop l.value-index l.stored) ≡ differs l.digest l.stored
