use Rattle.qt_keys.proofs.Back.{one_table, table_back}
use Rattle.qt_keys.proofs.keys_are_spelled_back.Goals as goal

pub returns-clause-spelled : goal.returns-clause-spelled
returns-clause-spelled c = table_back

pub returns-clause-once : goal.returns-clause-once
returns-clause-once c = one_table
