use Rattle.std.proofs.Common.{List, map, arith}
use Rattle.std.proofs.lemmas.List.{at_drop_all}
use Rattle.part_tree.specs.declared.names.Span.{Span}
use Rattle.avi_model.specs.Kind.{behind_word}
use Rattle.edit_planner.specs.Plan.{total_len}
use Rattle.edit_planner.proofs.facts.len_of_movis.Goals as goal

pub returns : goal.returns
returns c =
    let none = at_drop_all (λ (ss : List Span). total_len (map behind_word ss)) c.args.movis.now c.movis.movi-index (omega arith) in
    omega (arith, none, c.movis.invariant.few, c.movis.invariant.left)
