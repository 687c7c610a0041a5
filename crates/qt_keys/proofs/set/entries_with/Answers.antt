use Rattle.std.proofs.Common.{◌++◌, ◌∙◌, ◌∷◌, List, ℕ, [], ap, sym}
use Rattle.std.specs.Prelude.{codes}
use Rattle.qt_keys.specs.Set.{new_entry}
use Rattle.qt_keys.specs.declared.table.KeyEntry.{KeyEntry}
use Rattle.qt_keys.proofs.Keyed.{entry_added, entry_there}
use Rattle.qt_keys.proofs.set.entries_with.Goals as goal
use Rattle.qt_keys.proofs.set.entries_with.Goals.{then-not-has_key+in_ok-name+in-Ok, else-not-has_key}

pub returns : goal.returns
returns c = elim c.if-not-has_key.branch [
  | then-not-has_key+in_ok-name+in-Ok w ↦ (
      let es = c.args.entries.now in
      ap (λ v. v.items) w.more-is ∙ w.in-Ok.ensures.items ∙ ap (λ (xs : List KeyEntry). xs ++ record { space = record { 0 = codes "mdta" }; name = w.in_ok-name.name } ∷ []) c.in_ok-more.ensures
      ∙ ap (λ (n : List ℕ). es ++ new_entry n ∷ []) w.in_ok-name.ensures
      ∙ sym (entry_added c.args.name.now es (sym c.has_key.ensures ∙ w.if-not-has_key.true))
      )
  | else-not-has_key w ↦ ap (λ v. v.items) w.more-is ∙ c.in_ok-more.ensures ∙ sym (entry_there c.args.name.now c.args.entries.now (sym c.has_key.ensures ∙ w.if-not-has_key.false))
]
