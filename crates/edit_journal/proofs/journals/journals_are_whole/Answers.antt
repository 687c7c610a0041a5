use Rattle.edit_journal.proofs.Laws.{journal_short, rules_in}
use Rattle.edit_journal.proofs.Walk.{whole_damage, redoes_whole, damage_unsettles}
use Rattle.edit_journal.proofs.journals.journals_are_whole.Goals as goal

pub returns : goal.returns
returns c = record {
  short = journal_short;
  whole = whole_damage;
  whole_over = redoes_whole;
  damaged = damage_unsettles;
  rules = λ b old new ps j. rules_in j;
}
