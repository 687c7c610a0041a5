use Rattle.std.proofs.Common.{◌≡◌, drop}
use Rattle.std.specs.Prelude.{filter}
use Rattle.part_tree.specs.Fields.{values}
use Rattle.field_model.specs.Update.{update}
use Rattle.fadgi_rules.specs.Looked.{names_of}
use Rattle.fadgi_rules.specs.Rows.{fails, first_in}
use Rattle.fadgi_rules.proofs.row.first_failing.Given as goal

-- the names from here on decide
abbrev pub invariant-loop-k : goal.invariant-loop-k
invariant-loop-k l =
    first_in (filter (fails l.rule (update (values l.fields) l.items)) (drop l.k (names_of l.names))) ≡ first_in (filter (fails l.rule (update (values l.fields) l.items)) (names_of l.names))
