use Rattle.std.proofs.Common.{◌≡◌, ◌++◌, map}
use Rattle.std.specs.List.{flat_map}
use Rattle.qt_keys.specs.Table.{key_names}
use Rattle.qt_keys.proofs.Pieces.{from}
use Rattle.qt_keys.proofs.lawful.names_of.Given as goal

-- the names so far and those that are left are all of them
abbrev pub invariant-loop-entry : goal.invariant-loop-entry
invariant-loop-entry l = map (λ n. n.now) l.names.items ++ from key_names l.entry-index l.entries ≡ flat_map key_names l.entries
