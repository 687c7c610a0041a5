use Rattle.edit_journal.proofs.Laws.{one_version, one_list, one_list_of_runs, one_old, one_new, lays_same, journal_bytes, one_file}
use Rattle.edit_journal.proofs.journals.journals_are_unique.Goals as goal

pub returns : goal.returns
returns c = record {
  version = one_version;
  strips = λ v. one_list v v;
  runs = one_list_of_runs;
  lengths = λ b old new old' new' ps qs j k. (one_old b old new old' new' ps qs j k, one_new b old new old' new' ps qs j k);
  lays = lays_same;
  bytes = journal_bytes;
  file = one_file;
}
