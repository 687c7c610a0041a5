use Rattle.std.proofs.Common.{rules}
use Rattle.core_csv.proofs.Readings.{marked_len, unmarked_len}
use Rattle.core_csv.proofs.records.text_len.Goals as goal

pub returns-then-is_marked-clause-len : goal.returns-then-is_marked-clause-len
returns-then-is_marked-clause-len c = marked_len c.args.bytes.now (search rules)

pub returns-else-is_marked-clause-len : goal.returns-else-is_marked-clause-len
returns-else-is_marked-clause-len c = unmarked_len c.args.bytes.now (search rules)
