use Rattle.std.proofs.Common.{◌≡◌, ◌++◌, drop}
use Rattle.std.specs.List.{flat_map}
use Rattle.me_report.specs.Findings.{finding_line}
use Rattle.me_report.proofs.rules.validate_text.Given as goal

-- the lines so far, and those that are left
abbrev pub invariant-findings : goal.invariant-findings
invariant-findings l = l.out.items ++ flat_map finding_line (drop l.finding-index l.broken) ≡ flat_map finding_line l.broken
