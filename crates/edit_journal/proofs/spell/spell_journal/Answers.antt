use Rattle.std.proofs.Common.{◌≡◌, ◌∙◌, ◌++◌, List, ℕ, ap, sym, subst, length}
use Rattle.edit_journal.specs.Strips.{strips}
use Rattle.edit_journal.specs.Journal.{Journal, head, spelled, spelled_strips}
use Rattle.edit_journal.specs.Journal.Version.{Second}
use Rattle.edit_journal.proofs.Laws.{journal_spelled, ends_low}
use Rattle.edit_journal.proofs.spell.spell_journal.Goals as goal
use Rattle.edit_journal.proofs.spell.spell_journal.Goals.{After-of}

pub put_patches-requires-clause-low : goal.put_patches-requires-clause-low
put_patches-requires-clause-low c = ends_low c.args.new_len 0 c.args.patches.now c.requires.rules.new_fits c.requires.rules.order

put : (c : After-of) → c.of.result ≡ spelled c.args.old_len c.args.new_len c.args.patches.now
unfolding spelled
put c =
    let ps = c.args.patches.now in
    let none = c.in_ok-out.ensures.items in
    let front : c.put_head.new.out.items ≡ head Second c.args.old_len c.args.new_len (length (strips ps)) =
    c.in_ok-put_head.ensures ∙ (λ i. none i ++ head Second c.args.old_len c.args.new_len (c.count_strips-tally.ensures.strips i)) in
    c.of.ensures ∙ c.in_ok-put_patches.ensures ∙ ap (λ (l : List ℕ). l ++ spelled_strips Second (strips ps)) front

pub returns-clause-spelled : goal.returns-clause-spelled
returns-clause-spelled c = put c

pub returns-clause-journal : goal.returns-clause-journal
returns-clause-journal c =
    subst (λ (b : List ℕ). Journal b c.args.old_len c.args.new_len c.args.patches.now) (sym (put c)) (journal_spelled c.args.old_len c.args.new_len c.args.patches.now c.requires)
