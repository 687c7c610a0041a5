use Rattle.std.proofs.Common.{◌≡◌, drop, ◌++◌, [], map}
use Rattle.std.specs.Prelude.{filter}
use Rattle.part_tree.specs.Fields.{values}
use Rattle.field_model.specs.Update.{update}
use Rattle.fadgi_rules.specs.Items.{found}
use Rattle.fadgi_rules.specs.Looked.{names_of}
use Rattle.fadgi_rules.specs.Rows.{number, fails}
use Rattle.fadgi_rules.proofs.row.push_row.Given as goal

-- what was found, and then what the names from here on give
abbrev pub invariant-loop-k : goal.invariant-loop-k
invariant-loop-k l =
    l.found.items ++ map (found (number l.rule)) (filter (fails l.rule (update (values l.fields) [])) (drop l.k (names_of l.names))) ≡ l.fn.found.items ++ map (found (number l.rule)) (filter (fails l.rule (update (values l.fields) [])) (names_of l.names))
