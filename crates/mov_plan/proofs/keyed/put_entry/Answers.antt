use Rattle.std.proofs.Common.{◌∙◌, ◌++◌, ◌∷◌, [], List, ℕ, ap, arith, sym}
use Rattle.qt_keys.specs.Set.{new_entry}
use Rattle.mov_plan.proofs.KeyLists.{entry_added, entry_there}
use Rattle.mov_plan.proofs.keyed.put_entry.Goals as goal
use Rattle.mov_plan.proofs.keyed.put_entry.Goals.{in-Err, in-Ok}

pub returns-then-place-len : goal.returns-then-place-len
returns-then-place-len c = sym (entry_there c.args.name.now c.args.entries.now.items (omega (arith, c.requires, c.if-place-len.true, c.len.ensures)))

pub returns : goal.returns
returns c =
    let es = c.args.entries.now.items in
    elim c.match-push.branch [
      | in-Ok w ↦
          rw w.result-is
          (w.in-Ok.ensures.items ∙ ap (λ (n : List ℕ). es ++ new_entry n ∷ []) c.in_ok-name.ensures ∙ sym (entry_added c.args.name.now es (omega (arith, c.requires, c.if-place-len.false, c.len.ensures))))
      | in-Err w ↦ rw w.result-is tt
    ]
