use Rattle.std.proofs.Common.{◌≡◌, ℕ, List, Bool, true, false, take, subst, refl, sym, inr, Err}
use Rattle.std.specs.Io.KnownBytes.{Appends}
use Rattle.part_tree.specs.declared.field.Broken.{Broken}
use Rattle.part_tree.specs.declared.why.Why.{Why}
use Rattle.metaedit_top.specs.declared.outcome.Stop.{Stop}
use Rattle.metaedit_top.specs.declared.outcome.Stop.TheVariants as stop
use Rattle.metaedit_top.specs.declared.outcome.Outcome.TheVariants as outcome
use Rattle.metaedit_top.specs.Answered.{Because}
use Rattle.metaedit_top.specs.Begun.{StopsBy}
use Rattle.metaedit_top.specs.Tables.{RefusesTable}
use Rattle.metaedit_top.specs.Words.{ReadsAs, request}
use Rattle.metaedit_top.specs.declared.table.TableStop.{TableStop}
use Rattle.metaedit_top.specs.declared.words.RequestFault.{RequestFault}
use Rattle.metaedit_top.proofs.Tops.{asked_for, because, carried_number, done_by, faulted_by, fixed_by, makes_it, may_by, never, never_refused, no_memory_for_table, no_words, not_read, same_broken, same_done, same_fault, same_large, same_place, same_why, table_refused, table_taken, takes_it, told_count}
use Rattle.metaedit_top.proofs.top.metaedit.Goals as goal

pub carry-requires : goal.carry-requires
carry-requires g c =
    let words = c.args.words.now in
    let left = g.S.Source.left c.args.table.now in
    record {
      number = carried_number words left c.in-Ok.asked c.in-Ok-with_edit.request c.in-Ok.ensures c.in-Ok-with_edit.ensures.runs;
    }

pub returns-in-Ok-write_all-clause-done : goal.returns-in-Ok-write_all-clause-done
returns-in-Ok-write_all-clause-done g c = λ s is.
    let words = c.args.words.now in
    let left = g.S.Source.left c.args.table.now in
    let after = g.S.Source.left c.with_edit.new.table in
    let a = g.D.Depot.disk c.args.depot.now in
    let b = g.D.Depot.disk c.carry.new.depot in
    let q = c.in-Ok-with_edit.request in
    let asks = asked_for words left c.in-Ok.asked q c.in-Ok.ensures c.in-Ok-with_edit.ensures.runs in
    let before = g.K.Sink.contents c.args.out.now in
    let wrote = g.K.Sink.contents c.write_all.new.self in
    done_by words left q a b c.in-Ok-carry.finished asks c.in-Ok-carry.ensures.ends before wrote s (same_done c.in-Ok-carry.finished.summary s is)
    (subst (λ (text : List ℕ). Appends before wrote text) c.as_slice.ensures c.in-Ok-write_all.ensures.ok)

pub returns-in-Ok-write_all-clause-fixes : goal.returns-in-Ok-write_all-clause-fixes
returns-in-Ok-write_all-clause-fixes g c = λ s is.
    let words = c.args.words.now in
    let left = g.S.Source.left c.args.table.now in
    let after = g.S.Source.left c.with_edit.new.table in
    let a = g.D.Depot.disk c.args.depot.now in
    let b = g.D.Depot.disk c.carry.new.depot in
    let q = c.in-Ok-with_edit.request in
    let asks = asked_for words left c.in-Ok.asked q c.in-Ok.ensures c.in-Ok-with_edit.ensures.runs in
    fixed_by words left q c.in-Ok-carry.finished.summary s asks c.in-Ok-carry.ensures.fixes (same_done c.in-Ok-carry.finished.summary s is)

pub returns-in-Ok-carry-clause-out_fault : goal.returns-in-Ok-carry-clause-out_fault
returns-in-Ok-carry-clause-out_fault g c = λ edited is.
    let words = c.args.words.now in
    let left = g.S.Source.left c.args.table.now in
    let after = g.S.Source.left c.with_edit.new.table in
    let a = g.D.Depot.disk c.args.depot.now in
    let b = g.D.Depot.disk c.carry.new.depot in
    let q = c.in-Ok-with_edit.request in
    let asks = asked_for words left c.in-Ok.asked q c.in-Ok.ensures c.in-Ok-with_edit.ensures.runs in
    let before = g.K.Sink.contents c.args.out.now in
    let behind = g.K.Sink.contents c.write_all.new.self in
    let wrote = c.in-Err.ensures.err in (
      c.in-Err.ensures.cause.failed,
      faulted_by words left q a b c.in-Ok-carry.finished asks c.in-Ok-carry.ensures.ends before behind edited wrote.0 (same_fault c.in-Ok-carry.finished.summary.changed edited is)
          (subst (λ (text : List ℕ). Appends before behind (take wrote.0 text)) c.as_slice.ensures wrote.1),
    )

pub returns-in-Ok-write_all-clause-any_moment : goal.returns-in-Ok-write_all-clause-any_moment
returns-in-Ok-write_all-clause-any_moment g c = λ one i h.
    let words = c.args.words.now in
    let left = g.S.Source.left c.args.table.now in
    let after = g.S.Source.left c.with_edit.new.table in
    let a = g.D.Depot.disk c.args.depot.now in
    let b = g.D.Depot.disk c.carry.new.depot in
    let q = c.in-Ok-with_edit.request in
    let asks = asked_for words left c.in-Ok.asked q c.in-Ok.ensures c.in-Ok-with_edit.ensures.runs in
    may_by words left q a i asks (c.in-Ok-carry.ensures.crash one i h)

pub returns-in-Ok-write_all-clause-there : goal.returns-in-Ok-write_all-clause-there
returns-in-Ok-write_all-clause-there g c = λ make.
    let words = c.args.words.now in
    let left = g.S.Source.left c.args.table.now in
    let after = g.S.Source.left c.with_edit.new.table in
    let a = g.D.Depot.disk c.args.depot.now in
    let b = g.D.Depot.disk c.carry.new.depot in
    let q = c.in-Ok-with_edit.request in
    let asks = asked_for words left c.in-Ok.asked q c.in-Ok.ensures c.in-Ok-with_edit.ensures.runs in
    c.in-Ok-carry.ensures.there (makes_it words left q asks make)

pub returns-in-Ok-write_all-clause-table : goal.returns-in-Ok-write_all-clause-table
returns-in-Ok-write_all-clause-table g c =
    let words = c.args.words.now in
    let left = g.S.Source.left c.args.table.now in
    let after = g.S.Source.left c.with_edit.new.table in
    let a = g.D.Depot.disk c.args.depot.now in
    let b = g.D.Depot.disk c.carry.new.depot in
    let q = c.in-Ok-with_edit.request in
    let asks = asked_for words left c.in-Ok.asked q c.in-Ok.ensures c.in-Ok-with_edit.ensures.runs in
    table_taken words left after c.in-Ok.asked c.in-Ok.ensures q c.in-Ok-with_edit.ensures.runs c.in-Ok-with_edit.ensures.whole (outcome.Done c.in-Ok-carry.finished.summary) (λ f same. absurd cc)

pub returns-in-Ok-write_all-clause-unread : goal.returns-in-Ok-write_all-clause-unread
returns-in-Ok-write_all-clause-unread g c = λ reads.
    let words = c.args.words.now in
    let left = g.S.Source.left c.args.table.now in
    let after = g.S.Source.left c.with_edit.new.table in
    let a = g.D.Depot.disk c.args.depot.now in
    let b = g.D.Depot.disk c.carry.new.depot in
    let q = c.in-Ok-with_edit.request in
    let asks = asked_for words left c.in-Ok.asked q c.in-Ok.ensures c.in-Ok-with_edit.ensures.runs in
    c.in-Ok-with_edit.ensures.unread (takes_it words c.in-Ok.asked false c.in-Ok.ensures reads)

pub returns-in-Ok-carry-clause-any_moment : goal.returns-in-Ok-carry-clause-any_moment
returns-in-Ok-carry-clause-any_moment g c = λ one i h.
    let words = c.args.words.now in
    let left = g.S.Source.left c.args.table.now in
    let after = g.S.Source.left c.with_edit.new.table in
    let a = g.D.Depot.disk c.args.depot.now in
    let b = g.D.Depot.disk c.carry.new.depot in
    let q = c.in-Ok-with_edit.request in
    let asks = asked_for words left c.in-Ok.asked q c.in-Ok.ensures c.in-Ok-with_edit.ensures.runs in
    may_by words left q a i asks (c.in-Ok-carry.ensures.crash one i h)

pub returns-in-Ok-carry-clause-there : goal.returns-in-Ok-carry-clause-there
returns-in-Ok-carry-clause-there g c = λ make.
    let words = c.args.words.now in
    let left = g.S.Source.left c.args.table.now in
    let after = g.S.Source.left c.with_edit.new.table in
    let a = g.D.Depot.disk c.args.depot.now in
    let b = g.D.Depot.disk c.carry.new.depot in
    let q = c.in-Ok-with_edit.request in
    let asks = asked_for words left c.in-Ok.asked q c.in-Ok.ensures c.in-Ok-with_edit.ensures.runs in
    c.in-Ok-carry.ensures.there (makes_it words left q asks make)

pub returns-in-Ok-carry-clause-table : goal.returns-in-Ok-carry-clause-table
returns-in-Ok-carry-clause-table g c =
    let words = c.args.words.now in
    let left = g.S.Source.left c.args.table.now in
    let after = g.S.Source.left c.with_edit.new.table in
    let a = g.D.Depot.disk c.args.depot.now in
    let b = g.D.Depot.disk c.carry.new.depot in
    let q = c.in-Ok-with_edit.request in
    let asks = asked_for words left c.in-Ok.asked q c.in-Ok.ensures c.in-Ok-with_edit.ensures.runs in
    table_taken words left after c.in-Ok.asked c.in-Ok.ensures q c.in-Ok-with_edit.ensures.runs c.in-Ok-with_edit.ensures.whole (outcome.OutFault c.in-Ok-carry.finished.summary.changed) (λ f same. absurd cc)

pub returns-in-Ok-carry-clause-unread : goal.returns-in-Ok-carry-clause-unread
returns-in-Ok-carry-clause-unread g c = λ reads.
    let words = c.args.words.now in
    let left = g.S.Source.left c.args.table.now in
    let after = g.S.Source.left c.with_edit.new.table in
    let a = g.D.Depot.disk c.args.depot.now in
    let b = g.D.Depot.disk c.carry.new.depot in
    let q = c.in-Ok-with_edit.request in
    let asks = asked_for words left c.in-Ok.asked q c.in-Ok.ensures c.in-Ok-with_edit.ensures.runs in
    c.in-Ok-with_edit.ensures.unread (takes_it words c.in-Ok.asked false c.in-Ok.ensures reads)

pub returns-in-Err-Depot-clause-any_moment : goal.returns-in-Err-Depot-clause-any_moment
returns-in-Err-Depot-clause-any_moment g c = λ one i h.
    let words = c.args.words.now in
    let left = g.S.Source.left c.args.table.now in
    let after = g.S.Source.left c.with_edit.new.table in
    let a = g.D.Depot.disk c.args.depot.now in
    let b = g.D.Depot.disk c.carry.new.depot in
    let q = c.in-Ok-with_edit.request in
    let asks = asked_for words left c.in-Ok.asked q c.in-Ok.ensures c.in-Ok-with_edit.ensures.runs in
    may_by words left q a i asks (c.in-Err-Depot.ensures.crash one i h)

pub returns-in-Err-Depot-clause-there : goal.returns-in-Err-Depot-clause-there
returns-in-Err-Depot-clause-there g c = λ make.
    let words = c.args.words.now in
    let left = g.S.Source.left c.args.table.now in
    let after = g.S.Source.left c.with_edit.new.table in
    let a = g.D.Depot.disk c.args.depot.now in
    let b = g.D.Depot.disk c.carry.new.depot in
    let q = c.in-Ok-with_edit.request in
    let asks = asked_for words left c.in-Ok.asked q c.in-Ok.ensures c.in-Ok-with_edit.ensures.runs in
    c.in-Err-Depot.ensures.there (makes_it words left q asks make)

pub returns-in-Err-Depot-clause-table : goal.returns-in-Err-Depot-clause-table
returns-in-Err-Depot-clause-table g c =
    let words = c.args.words.now in
    let left = g.S.Source.left c.args.table.now in
    let after = g.S.Source.left c.with_edit.new.table in
    let a = g.D.Depot.disk c.args.depot.now in
    let b = g.D.Depot.disk c.carry.new.depot in
    let q = c.in-Ok-with_edit.request in
    let asks = asked_for words left c.in-Ok.asked q c.in-Ok.ensures c.in-Ok-with_edit.ensures.runs in
    table_taken words left after c.in-Ok.asked c.in-Ok.ensures q c.in-Ok-with_edit.ensures.runs c.in-Ok-with_edit.ensures.whole ((outcome.DepotFault c.faults.result)) (λ f same. absurd cc)

pub returns-in-Err-Depot-clause-unread : goal.returns-in-Err-Depot-clause-unread
returns-in-Err-Depot-clause-unread g c = λ reads.
    let words = c.args.words.now in
    let left = g.S.Source.left c.args.table.now in
    let after = g.S.Source.left c.with_edit.new.table in
    let a = g.D.Depot.disk c.args.depot.now in
    let b = g.D.Depot.disk c.carry.new.depot in
    let q = c.in-Ok-with_edit.request in
    let asks = asked_for words left c.in-Ok.asked q c.in-Ok.ensures c.in-Ok-with_edit.ensures.runs in
    c.in-Ok-with_edit.ensures.unread (takes_it words c.in-Ok.asked false c.in-Ok.ensures reads)

pub returns-in-Err-NoFile-clause-any_moment : goal.returns-in-Err-NoFile-clause-any_moment
returns-in-Err-NoFile-clause-any_moment g c = λ one i h.
    let words = c.args.words.now in
    let left = g.S.Source.left c.args.table.now in
    let after = g.S.Source.left c.with_edit.new.table in
    let a = g.D.Depot.disk c.args.depot.now in
    let b = g.D.Depot.disk c.carry.new.depot in
    let q = c.in-Ok-with_edit.request in
    let asks = asked_for words left c.in-Ok.asked q c.in-Ok.ensures c.in-Ok-with_edit.ensures.runs in
    may_by words left q a i asks (c.in-Err-NoFile.ensures.crash one i h)

pub returns-in-Err-NoFile-clause-there : goal.returns-in-Err-NoFile-clause-there
returns-in-Err-NoFile-clause-there g c = λ make.
    let words = c.args.words.now in
    let left = g.S.Source.left c.args.table.now in
    let after = g.S.Source.left c.with_edit.new.table in
    let a = g.D.Depot.disk c.args.depot.now in
    let b = g.D.Depot.disk c.carry.new.depot in
    let q = c.in-Ok-with_edit.request in
    let asks = asked_for words left c.in-Ok.asked q c.in-Ok.ensures c.in-Ok-with_edit.ensures.runs in
    c.in-Err-NoFile.ensures.there (makes_it words left q asks make)

pub returns-in-Err-NoFile-clause-table : goal.returns-in-Err-NoFile-clause-table
returns-in-Err-NoFile-clause-table g c =
    let words = c.args.words.now in
    let left = g.S.Source.left c.args.table.now in
    let after = g.S.Source.left c.with_edit.new.table in
    let a = g.D.Depot.disk c.args.depot.now in
    let b = g.D.Depot.disk c.carry.new.depot in
    let q = c.in-Ok-with_edit.request in
    let asks = asked_for words left c.in-Ok.asked q c.in-Ok.ensures c.in-Ok-with_edit.ensures.runs in
    table_taken words left after c.in-Ok.asked c.in-Ok.ensures q c.in-Ok-with_edit.ensures.runs c.in-Ok-with_edit.ensures.whole (outcome.NoFile) (λ f same. absurd cc)

pub returns-in-Err-NoFile-clause-unread : goal.returns-in-Err-NoFile-clause-unread
returns-in-Err-NoFile-clause-unread g c = λ reads.
    let words = c.args.words.now in
    let left = g.S.Source.left c.args.table.now in
    let after = g.S.Source.left c.with_edit.new.table in
    let a = g.D.Depot.disk c.args.depot.now in
    let b = g.D.Depot.disk c.carry.new.depot in
    let q = c.in-Ok-with_edit.request in
    let asks = asked_for words left c.in-Ok.asked q c.in-Ok.ensures c.in-Ok-with_edit.ensures.runs in
    c.in-Ok-with_edit.ensures.unread (takes_it words c.in-Ok.asked false c.in-Ok.ensures reads)

pub returns-in-Err-FileThere-clause-any_moment : goal.returns-in-Err-FileThere-clause-any_moment
returns-in-Err-FileThere-clause-any_moment g c = λ one i h.
    let words = c.args.words.now in
    let left = g.S.Source.left c.args.table.now in
    let after = g.S.Source.left c.with_edit.new.table in
    let a = g.D.Depot.disk c.args.depot.now in
    let b = g.D.Depot.disk c.carry.new.depot in
    let q = c.in-Ok-with_edit.request in
    let asks = asked_for words left c.in-Ok.asked q c.in-Ok.ensures c.in-Ok-with_edit.ensures.runs in
    may_by words left q a i asks (c.in-Err-FileThere.ensures.crash one i h)

pub returns-in-Err-FileThere-clause-there : goal.returns-in-Err-FileThere-clause-there
returns-in-Err-FileThere-clause-there g c = λ make.
    let words = c.args.words.now in
    let left = g.S.Source.left c.args.table.now in
    let after = g.S.Source.left c.with_edit.new.table in
    let a = g.D.Depot.disk c.args.depot.now in
    let b = g.D.Depot.disk c.carry.new.depot in
    let q = c.in-Ok-with_edit.request in
    let asks = asked_for words left c.in-Ok.asked q c.in-Ok.ensures c.in-Ok-with_edit.ensures.runs in
    c.in-Err-FileThere.ensures.there (makes_it words left q asks make)

pub returns-in-Err-FileThere-clause-table : goal.returns-in-Err-FileThere-clause-table
returns-in-Err-FileThere-clause-table g c =
    let words = c.args.words.now in
    let left = g.S.Source.left c.args.table.now in
    let after = g.S.Source.left c.with_edit.new.table in
    let a = g.D.Depot.disk c.args.depot.now in
    let b = g.D.Depot.disk c.carry.new.depot in
    let q = c.in-Ok-with_edit.request in
    let asks = asked_for words left c.in-Ok.asked q c.in-Ok.ensures c.in-Ok-with_edit.ensures.runs in
    table_taken words left after c.in-Ok.asked c.in-Ok.ensures q c.in-Ok-with_edit.ensures.runs c.in-Ok-with_edit.ensures.whole (outcome.FileThere) (λ f same. absurd cc)

pub returns-in-Err-FileThere-clause-unread : goal.returns-in-Err-FileThere-clause-unread
returns-in-Err-FileThere-clause-unread g c = λ reads.
    let words = c.args.words.now in
    let left = g.S.Source.left c.args.table.now in
    let after = g.S.Source.left c.with_edit.new.table in
    let a = g.D.Depot.disk c.args.depot.now in
    let b = g.D.Depot.disk c.carry.new.depot in
    let q = c.in-Ok-with_edit.request in
    let asks = asked_for words left c.in-Ok.asked q c.in-Ok.ensures c.in-Ok-with_edit.ensures.runs in
    c.in-Ok-with_edit.ensures.unread (takes_it words c.in-Ok.asked false c.in-Ok.ensures reads)

pub returns-in-Err-Damaged-clause-any_moment : goal.returns-in-Err-Damaged-clause-any_moment
returns-in-Err-Damaged-clause-any_moment g c = λ one i h.
    let words = c.args.words.now in
    let left = g.S.Source.left c.args.table.now in
    let after = g.S.Source.left c.with_edit.new.table in
    let a = g.D.Depot.disk c.args.depot.now in
    let b = g.D.Depot.disk c.carry.new.depot in
    let q = c.in-Ok-with_edit.request in
    let asks = asked_for words left c.in-Ok.asked q c.in-Ok.ensures c.in-Ok-with_edit.ensures.runs in
    may_by words left q a i asks (c.in-Err-Damaged.ensures.crash one i h)

pub returns-in-Err-Damaged-clause-there : goal.returns-in-Err-Damaged-clause-there
returns-in-Err-Damaged-clause-there g c = λ make.
    let words = c.args.words.now in
    let left = g.S.Source.left c.args.table.now in
    let after = g.S.Source.left c.with_edit.new.table in
    let a = g.D.Depot.disk c.args.depot.now in
    let b = g.D.Depot.disk c.carry.new.depot in
    let q = c.in-Ok-with_edit.request in
    let asks = asked_for words left c.in-Ok.asked q c.in-Ok.ensures c.in-Ok-with_edit.ensures.runs in
    c.in-Err-Damaged.ensures.there (makes_it words left q asks make)

pub returns-in-Err-Damaged-clause-table : goal.returns-in-Err-Damaged-clause-table
returns-in-Err-Damaged-clause-table g c =
    let words = c.args.words.now in
    let left = g.S.Source.left c.args.table.now in
    let after = g.S.Source.left c.with_edit.new.table in
    let a = g.D.Depot.disk c.args.depot.now in
    let b = g.D.Depot.disk c.carry.new.depot in
    let q = c.in-Ok-with_edit.request in
    let asks = asked_for words left c.in-Ok.asked q c.in-Ok.ensures c.in-Ok-with_edit.ensures.runs in
    table_taken words left after c.in-Ok.asked c.in-Ok.ensures q c.in-Ok-with_edit.ensures.runs c.in-Ok-with_edit.ensures.whole ((outcome.JournalDamaged c.in-Err-Damaged.at)) (λ f same. absurd cc)

pub returns-in-Err-Damaged-clause-unread : goal.returns-in-Err-Damaged-clause-unread
returns-in-Err-Damaged-clause-unread g c = λ reads.
    let words = c.args.words.now in
    let left = g.S.Source.left c.args.table.now in
    let after = g.S.Source.left c.with_edit.new.table in
    let a = g.D.Depot.disk c.args.depot.now in
    let b = g.D.Depot.disk c.carry.new.depot in
    let q = c.in-Ok-with_edit.request in
    let asks = asked_for words left c.in-Ok.asked q c.in-Ok.ensures c.in-Ok-with_edit.ensures.runs in
    c.in-Ok-with_edit.ensures.unread (takes_it words c.in-Ok.asked false c.in-Ok.ensures reads)

pub returns-in-Err-NotSupported-clause-any_moment : goal.returns-in-Err-NotSupported-clause-any_moment
returns-in-Err-NotSupported-clause-any_moment g c = λ one i h.
    let words = c.args.words.now in
    let left = g.S.Source.left c.args.table.now in
    let after = g.S.Source.left c.with_edit.new.table in
    let a = g.D.Depot.disk c.args.depot.now in
    let b = g.D.Depot.disk c.carry.new.depot in
    let q = c.in-Ok-with_edit.request in
    let asks = asked_for words left c.in-Ok.asked q c.in-Ok.ensures c.in-Ok-with_edit.ensures.runs in
    may_by words left q a i asks (c.in-Err-NotSupported.ensures.crash one i h)

pub returns-in-Err-NotSupported-clause-there : goal.returns-in-Err-NotSupported-clause-there
returns-in-Err-NotSupported-clause-there g c = λ make.
    let words = c.args.words.now in
    let left = g.S.Source.left c.args.table.now in
    let after = g.S.Source.left c.with_edit.new.table in
    let a = g.D.Depot.disk c.args.depot.now in
    let b = g.D.Depot.disk c.carry.new.depot in
    let q = c.in-Ok-with_edit.request in
    let asks = asked_for words left c.in-Ok.asked q c.in-Ok.ensures c.in-Ok-with_edit.ensures.runs in
    c.in-Err-NotSupported.ensures.there (makes_it words left q asks make)

pub returns-in-Err-NotSupported-clause-table : goal.returns-in-Err-NotSupported-clause-table
returns-in-Err-NotSupported-clause-table g c =
    let words = c.args.words.now in
    let left = g.S.Source.left c.args.table.now in
    let after = g.S.Source.left c.with_edit.new.table in
    let a = g.D.Depot.disk c.args.depot.now in
    let b = g.D.Depot.disk c.carry.new.depot in
    let q = c.in-Ok-with_edit.request in
    let asks = asked_for words left c.in-Ok.asked q c.in-Ok.ensures c.in-Ok-with_edit.ensures.runs in
    table_taken words left after c.in-Ok.asked c.in-Ok.ensures q c.in-Ok-with_edit.ensures.runs c.in-Ok-with_edit.ensures.whole ((outcome.NotSupported c.in-Err-NotSupported.why)) (λ f same. absurd cc)

pub returns-in-Err-NotSupported-clause-unread : goal.returns-in-Err-NotSupported-clause-unread
returns-in-Err-NotSupported-clause-unread g c = λ reads.
    let words = c.args.words.now in
    let left = g.S.Source.left c.args.table.now in
    let after = g.S.Source.left c.with_edit.new.table in
    let a = g.D.Depot.disk c.args.depot.now in
    let b = g.D.Depot.disk c.carry.new.depot in
    let q = c.in-Ok-with_edit.request in
    let asks = asked_for words left c.in-Ok.asked q c.in-Ok.ensures c.in-Ok-with_edit.ensures.runs in
    c.in-Ok-with_edit.ensures.unread (takes_it words c.in-Ok.asked false c.in-Ok.ensures reads)

pub returns-in-Err-RuleBroken-clause-any_moment : goal.returns-in-Err-RuleBroken-clause-any_moment
returns-in-Err-RuleBroken-clause-any_moment g c = λ one i h.
    let words = c.args.words.now in
    let left = g.S.Source.left c.args.table.now in
    let after = g.S.Source.left c.with_edit.new.table in
    let a = g.D.Depot.disk c.args.depot.now in
    let b = g.D.Depot.disk c.carry.new.depot in
    let q = c.in-Ok-with_edit.request in
    let asks = asked_for words left c.in-Ok.asked q c.in-Ok.ensures c.in-Ok-with_edit.ensures.runs in
    may_by words left q a i asks (c.in-Err-RuleBroken.ensures.crash one i h)

pub returns-in-Err-RuleBroken-clause-there : goal.returns-in-Err-RuleBroken-clause-there
returns-in-Err-RuleBroken-clause-there g c = λ make.
    let words = c.args.words.now in
    let left = g.S.Source.left c.args.table.now in
    let after = g.S.Source.left c.with_edit.new.table in
    let a = g.D.Depot.disk c.args.depot.now in
    let b = g.D.Depot.disk c.carry.new.depot in
    let q = c.in-Ok-with_edit.request in
    let asks = asked_for words left c.in-Ok.asked q c.in-Ok.ensures c.in-Ok-with_edit.ensures.runs in
    c.in-Err-RuleBroken.ensures.there (makes_it words left q asks make)

pub returns-in-Err-RuleBroken-clause-table : goal.returns-in-Err-RuleBroken-clause-table
returns-in-Err-RuleBroken-clause-table g c =
    let words = c.args.words.now in
    let left = g.S.Source.left c.args.table.now in
    let after = g.S.Source.left c.with_edit.new.table in
    let a = g.D.Depot.disk c.args.depot.now in
    let b = g.D.Depot.disk c.carry.new.depot in
    let q = c.in-Ok-with_edit.request in
    let asks = asked_for words left c.in-Ok.asked q c.in-Ok.ensures c.in-Ok-with_edit.ensures.runs in
    table_taken words left after c.in-Ok.asked c.in-Ok.ensures q c.in-Ok-with_edit.ensures.runs c.in-Ok-with_edit.ensures.whole ((outcome.RuleBroken c.in-Err-RuleBroken.broken)) (λ f same. absurd cc)

pub returns-in-Err-RuleBroken-clause-unread : goal.returns-in-Err-RuleBroken-clause-unread
returns-in-Err-RuleBroken-clause-unread g c = λ reads.
    let words = c.args.words.now in
    let left = g.S.Source.left c.args.table.now in
    let after = g.S.Source.left c.with_edit.new.table in
    let a = g.D.Depot.disk c.args.depot.now in
    let b = g.D.Depot.disk c.carry.new.depot in
    let q = c.in-Ok-with_edit.request in
    let asks = asked_for words left c.in-Ok.asked q c.in-Ok.ensures c.in-Ok-with_edit.ensures.runs in
    c.in-Ok-with_edit.ensures.unread (takes_it words c.in-Ok.asked false c.in-Ok.ensures reads)

pub returns-in-Err-TooLarge-clause-any_moment : goal.returns-in-Err-TooLarge-clause-any_moment
returns-in-Err-TooLarge-clause-any_moment g c = λ one i h.
    let words = c.args.words.now in
    let left = g.S.Source.left c.args.table.now in
    let after = g.S.Source.left c.with_edit.new.table in
    let a = g.D.Depot.disk c.args.depot.now in
    let b = g.D.Depot.disk c.carry.new.depot in
    let q = c.in-Ok-with_edit.request in
    let asks = asked_for words left c.in-Ok.asked q c.in-Ok.ensures c.in-Ok-with_edit.ensures.runs in
    may_by words left q a i asks (c.in-Err-TooLarge.ensures.crash one i h)

pub returns-in-Err-TooLarge-clause-there : goal.returns-in-Err-TooLarge-clause-there
returns-in-Err-TooLarge-clause-there g c = λ make.
    let words = c.args.words.now in
    let left = g.S.Source.left c.args.table.now in
    let after = g.S.Source.left c.with_edit.new.table in
    let a = g.D.Depot.disk c.args.depot.now in
    let b = g.D.Depot.disk c.carry.new.depot in
    let q = c.in-Ok-with_edit.request in
    let asks = asked_for words left c.in-Ok.asked q c.in-Ok.ensures c.in-Ok-with_edit.ensures.runs in
    c.in-Err-TooLarge.ensures.there (makes_it words left q asks make)

pub returns-in-Err-TooLarge-clause-table : goal.returns-in-Err-TooLarge-clause-table
returns-in-Err-TooLarge-clause-table g c =
    let words = c.args.words.now in
    let left = g.S.Source.left c.args.table.now in
    let after = g.S.Source.left c.with_edit.new.table in
    let a = g.D.Depot.disk c.args.depot.now in
    let b = g.D.Depot.disk c.carry.new.depot in
    let q = c.in-Ok-with_edit.request in
    let asks = asked_for words left c.in-Ok.asked q c.in-Ok.ensures c.in-Ok-with_edit.ensures.runs in
    table_taken words left after c.in-Ok.asked c.in-Ok.ensures q c.in-Ok-with_edit.ensures.runs c.in-Ok-with_edit.ensures.whole ((outcome.TooLarge c.in-Err-TooLarge.size c.in-Err-TooLarge.limit)) (λ f same. absurd cc)

pub returns-in-Err-TooLarge-clause-unread : goal.returns-in-Err-TooLarge-clause-unread
returns-in-Err-TooLarge-clause-unread g c = λ reads.
    let words = c.args.words.now in
    let left = g.S.Source.left c.args.table.now in
    let after = g.S.Source.left c.with_edit.new.table in
    let a = g.D.Depot.disk c.args.depot.now in
    let b = g.D.Depot.disk c.carry.new.depot in
    let q = c.in-Ok-with_edit.request in
    let asks = asked_for words left c.in-Ok.asked q c.in-Ok.ensures c.in-Ok-with_edit.ensures.runs in
    c.in-Ok-with_edit.ensures.unread (takes_it words c.in-Ok.asked false c.in-Ok.ensures reads)

pub returns-clause-any_moment : goal.returns-clause-any_moment
returns-clause-any_moment g c = λ one i h.
    let words = c.args.words.now in
    let left = g.S.Source.left c.args.table.now in
    let after = g.S.Source.left c.with_edit.new.table in
    let a = g.D.Depot.disk c.args.depot.now in
    let b = g.D.Depot.disk c.carry.new.depot in
    let q = c.in-Ok-with_edit.request in
    let asks = asked_for words left c.in-Ok.asked q c.in-Ok.ensures c.in-Ok-with_edit.ensures.runs in
    may_by words left q a i asks (c.in-Err-Memory-carry.ensures.crash one i h)

pub returns-clause-there : goal.returns-clause-there
returns-clause-there g c = λ make.
    let words = c.args.words.now in
    let left = g.S.Source.left c.args.table.now in
    let after = g.S.Source.left c.with_edit.new.table in
    let a = g.D.Depot.disk c.args.depot.now in
    let b = g.D.Depot.disk c.carry.new.depot in
    let q = c.in-Ok-with_edit.request in
    let asks = asked_for words left c.in-Ok.asked q c.in-Ok.ensures c.in-Ok-with_edit.ensures.runs in
    c.in-Err-Memory-carry.ensures.there (makes_it words left q asks make)

pub returns-clause-table : goal.returns-clause-table
returns-clause-table g c =
    let words = c.args.words.now in
    let left = g.S.Source.left c.args.table.now in
    let after = g.S.Source.left c.with_edit.new.table in
    let a = g.D.Depot.disk c.args.depot.now in
    let b = g.D.Depot.disk c.carry.new.depot in
    let q = c.in-Ok-with_edit.request in
    let asks = asked_for words left c.in-Ok.asked q c.in-Ok.ensures c.in-Ok-with_edit.ensures.runs in
    table_taken words left after c.in-Ok.asked c.in-Ok.ensures q c.in-Ok-with_edit.ensures.runs c.in-Ok-with_edit.ensures.whole (outcome.Memory) (λ f same. absurd cc)

pub returns-clause-unread : goal.returns-clause-unread
returns-clause-unread g c = λ reads.
    let words = c.args.words.now in
    let left = g.S.Source.left c.args.table.now in
    let after = g.S.Source.left c.with_edit.new.table in
    let a = g.D.Depot.disk c.args.depot.now in
    let b = g.D.Depot.disk c.carry.new.depot in
    let q = c.in-Ok-with_edit.request in
    let asks = asked_for words left c.in-Ok.asked q c.in-Ok.ensures c.in-Ok-with_edit.ensures.runs in
    c.in-Ok-with_edit.ensures.unread (takes_it words c.in-Ok.asked false c.in-Ok.ensures reads)

pub returns-in-Err-Depot-clause-complete : goal.returns-in-Err-Depot-clause-complete
returns-in-Err-Depot-clause-complete g c = λ all quiet read whole.
    let words = c.args.words.now in
    let left = g.S.Source.left c.args.table.now in
    let after = g.S.Source.left c.with_edit.new.table in
    let a = g.D.Depot.disk c.args.depot.now in
    let b = g.D.Depot.disk c.carry.new.depot in
    let q = c.in-Ok-with_edit.request in
    let asks = asked_for words left c.in-Ok.asked q c.in-Ok.ensures c.in-Ok-with_edit.ensures.runs in
    never words left q a b asks all stop.Depot
    (subst (λ (s : Stop). StopsBy q a b s) c.in-Err-Depot.field-0-is c.in-Err-Depot.ensures.stops) quiet

pub returns-in-Err-Depot-clause-depot_fault : goal.returns-in-Err-Depot-clause-depot_fault
returns-in-Err-Depot-clause-depot_fault g c = λ n is.
    let words = c.args.words.now in
    let left = g.S.Source.left c.args.table.now in
    let after = g.S.Source.left c.with_edit.new.table in
    let a = g.D.Depot.disk c.args.depot.now in
    let b = g.D.Depot.disk c.carry.new.depot in
    let q = c.in-Ok-with_edit.request in
    let asks = asked_for words left c.in-Ok.asked q c.in-Ok.ensures c.in-Ok-with_edit.ensures.runs in
    (told_count c.faults.result n (g.D.Depot.disk c.carry.new.depot).faults is c.faults.ensures, subst (λ (s : Stop). Because words left a b s) c.in-Err-Depot.field-0-is (because words left q a b c.in-Err-Depot.field-0 asks c.in-Err-Depot.ensures.stops c.in-Err-Depot.ensures.leaves))

pub returns-in-Err-NoFile-clause-complete : goal.returns-in-Err-NoFile-clause-complete
returns-in-Err-NoFile-clause-complete g c = λ all quiet read whole.
    let words = c.args.words.now in
    let left = g.S.Source.left c.args.table.now in
    let after = g.S.Source.left c.with_edit.new.table in
    let a = g.D.Depot.disk c.args.depot.now in
    let b = g.D.Depot.disk c.carry.new.depot in
    let q = c.in-Ok-with_edit.request in
    let asks = asked_for words left c.in-Ok.asked q c.in-Ok.ensures c.in-Ok-with_edit.ensures.runs in
    never words left q a b asks all stop.NoFile
    (subst (λ (s : Stop). StopsBy q a b s) c.in-Err-NoFile.field-0-is c.in-Err-NoFile.ensures.stops) quiet

pub returns-in-Err-NoFile-clause-no_file : goal.returns-in-Err-NoFile-clause-no_file
returns-in-Err-NoFile-clause-no_file g c = λ is.
    let words = c.args.words.now in
    let left = g.S.Source.left c.args.table.now in
    let after = g.S.Source.left c.with_edit.new.table in
    let a = g.D.Depot.disk c.args.depot.now in
    let b = g.D.Depot.disk c.carry.new.depot in
    let q = c.in-Ok-with_edit.request in
    let asks = asked_for words left c.in-Ok.asked q c.in-Ok.ensures c.in-Ok-with_edit.ensures.runs in
    subst (λ (s : Stop). Because words left a b s) c.in-Err-NoFile.field-0-is (because words left q a b c.in-Err-NoFile.field-0 asks c.in-Err-NoFile.ensures.stops c.in-Err-NoFile.ensures.leaves)

pub returns-in-Err-FileThere-clause-complete : goal.returns-in-Err-FileThere-clause-complete
returns-in-Err-FileThere-clause-complete g c = λ all quiet read whole.
    let words = c.args.words.now in
    let left = g.S.Source.left c.args.table.now in
    let after = g.S.Source.left c.with_edit.new.table in
    let a = g.D.Depot.disk c.args.depot.now in
    let b = g.D.Depot.disk c.carry.new.depot in
    let q = c.in-Ok-with_edit.request in
    let asks = asked_for words left c.in-Ok.asked q c.in-Ok.ensures c.in-Ok-with_edit.ensures.runs in
    never words left q a b asks all stop.FileThere
    (subst (λ (s : Stop). StopsBy q a b s) c.in-Err-FileThere.field-0-is c.in-Err-FileThere.ensures.stops) quiet

pub returns-in-Err-FileThere-clause-file_there : goal.returns-in-Err-FileThere-clause-file_there
returns-in-Err-FileThere-clause-file_there g c = λ is.
    let words = c.args.words.now in
    let left = g.S.Source.left c.args.table.now in
    let after = g.S.Source.left c.with_edit.new.table in
    let a = g.D.Depot.disk c.args.depot.now in
    let b = g.D.Depot.disk c.carry.new.depot in
    let q = c.in-Ok-with_edit.request in
    let asks = asked_for words left c.in-Ok.asked q c.in-Ok.ensures c.in-Ok-with_edit.ensures.runs in
    subst (λ (s : Stop). Because words left a b s) c.in-Err-FileThere.field-0-is (because words left q a b c.in-Err-FileThere.field-0 asks c.in-Err-FileThere.ensures.stops c.in-Err-FileThere.ensures.leaves)

pub returns-in-Err-Damaged-clause-complete : goal.returns-in-Err-Damaged-clause-complete
returns-in-Err-Damaged-clause-complete g c = λ all quiet read whole.
    let words = c.args.words.now in
    let left = g.S.Source.left c.args.table.now in
    let after = g.S.Source.left c.with_edit.new.table in
    let a = g.D.Depot.disk c.args.depot.now in
    let b = g.D.Depot.disk c.carry.new.depot in
    let q = c.in-Ok-with_edit.request in
    let asks = asked_for words left c.in-Ok.asked q c.in-Ok.ensures c.in-Ok-with_edit.ensures.runs in
    never words left q a b asks all (stop.Damaged c.in-Err-Damaged.at)
    (subst (λ (s : Stop). StopsBy q a b s) c.in-Err-Damaged.field-0-is c.in-Err-Damaged.ensures.stops) quiet

pub returns-in-Err-Damaged-clause-journal : goal.returns-in-Err-Damaged-clause-journal
returns-in-Err-Damaged-clause-journal g c = λ at is.
    let words = c.args.words.now in
    let left = g.S.Source.left c.args.table.now in
    let after = g.S.Source.left c.with_edit.new.table in
    let a = g.D.Depot.disk c.args.depot.now in
    let b = g.D.Depot.disk c.carry.new.depot in
    let q = c.in-Ok-with_edit.request in
    let asks = asked_for words left c.in-Ok.asked q c.in-Ok.ensures c.in-Ok-with_edit.ensures.runs in
    subst (λ (n : ℕ). Because words left a b (stop.Damaged n)) (same_place c.in-Err-Damaged.at at is)
    (subst (λ (s : Stop). Because words left a b s) c.in-Err-Damaged.field-0-is (because words left q a b c.in-Err-Damaged.field-0 asks c.in-Err-Damaged.ensures.stops c.in-Err-Damaged.ensures.leaves))

pub returns-in-Err-NotSupported-clause-complete : goal.returns-in-Err-NotSupported-clause-complete
returns-in-Err-NotSupported-clause-complete g c = λ all quiet read whole.
    let words = c.args.words.now in
    let left = g.S.Source.left c.args.table.now in
    let after = g.S.Source.left c.with_edit.new.table in
    let a = g.D.Depot.disk c.args.depot.now in
    let b = g.D.Depot.disk c.carry.new.depot in
    let q = c.in-Ok-with_edit.request in
    let asks = asked_for words left c.in-Ok.asked q c.in-Ok.ensures c.in-Ok-with_edit.ensures.runs in
    never words left q a b asks all (stop.NotSupported c.in-Err-NotSupported.why)
    (subst (λ (s : Stop). StopsBy q a b s) c.in-Err-NotSupported.field-0-is c.in-Err-NotSupported.ensures.stops) quiet

pub returns-in-Err-NotSupported-clause-not_supported : goal.returns-in-Err-NotSupported-clause-not_supported
returns-in-Err-NotSupported-clause-not_supported g c = λ why is.
    let words = c.args.words.now in
    let left = g.S.Source.left c.args.table.now in
    let after = g.S.Source.left c.with_edit.new.table in
    let a = g.D.Depot.disk c.args.depot.now in
    let b = g.D.Depot.disk c.carry.new.depot in
    let q = c.in-Ok-with_edit.request in
    let asks = asked_for words left c.in-Ok.asked q c.in-Ok.ensures c.in-Ok-with_edit.ensures.runs in
    subst (λ (w : Why). Because words left a b (stop.NotSupported w)) (same_why c.in-Err-NotSupported.why why is)
    (subst (λ (s : Stop). Because words left a b s) c.in-Err-NotSupported.field-0-is (because words left q a b c.in-Err-NotSupported.field-0 asks c.in-Err-NotSupported.ensures.stops c.in-Err-NotSupported.ensures.leaves))

pub returns-in-Err-RuleBroken-clause-complete : goal.returns-in-Err-RuleBroken-clause-complete
returns-in-Err-RuleBroken-clause-complete g c = λ all quiet read whole.
    let words = c.args.words.now in
    let left = g.S.Source.left c.args.table.now in
    let after = g.S.Source.left c.with_edit.new.table in
    let a = g.D.Depot.disk c.args.depot.now in
    let b = g.D.Depot.disk c.carry.new.depot in
    let q = c.in-Ok-with_edit.request in
    let asks = asked_for words left c.in-Ok.asked q c.in-Ok.ensures c.in-Ok-with_edit.ensures.runs in
    never words left q a b asks all (stop.RuleBroken c.in-Err-RuleBroken.broken)
    (subst (λ (s : Stop). StopsBy q a b s) c.in-Err-RuleBroken.field-0-is c.in-Err-RuleBroken.ensures.stops) quiet

pub returns-in-Err-RuleBroken-clause-rule_broken : goal.returns-in-Err-RuleBroken-clause-rule_broken
returns-in-Err-RuleBroken-clause-rule_broken g c = λ broken is.
    let words = c.args.words.now in
    let left = g.S.Source.left c.args.table.now in
    let after = g.S.Source.left c.with_edit.new.table in
    let a = g.D.Depot.disk c.args.depot.now in
    let b = g.D.Depot.disk c.carry.new.depot in
    let q = c.in-Ok-with_edit.request in
    let asks = asked_for words left c.in-Ok.asked q c.in-Ok.ensures c.in-Ok-with_edit.ensures.runs in
    subst (λ (w : Broken). Because words left a b (stop.RuleBroken w)) (same_broken c.in-Err-RuleBroken.broken broken is)
    (subst (λ (s : Stop). Because words left a b s) c.in-Err-RuleBroken.field-0-is (because words left q a b c.in-Err-RuleBroken.field-0 asks c.in-Err-RuleBroken.ensures.stops c.in-Err-RuleBroken.ensures.leaves))

pub returns-in-Err-TooLarge-clause-complete : goal.returns-in-Err-TooLarge-clause-complete
returns-in-Err-TooLarge-clause-complete g c = λ all quiet read whole.
    let words = c.args.words.now in
    let left = g.S.Source.left c.args.table.now in
    let after = g.S.Source.left c.with_edit.new.table in
    let a = g.D.Depot.disk c.args.depot.now in
    let b = g.D.Depot.disk c.carry.new.depot in
    let q = c.in-Ok-with_edit.request in
    let asks = asked_for words left c.in-Ok.asked q c.in-Ok.ensures c.in-Ok-with_edit.ensures.runs in
    never words left q a b asks all (stop.TooLarge c.in-Err-TooLarge.size c.in-Err-TooLarge.limit)
    (subst (λ (s : Stop). StopsBy q a b s) c.in-Err-TooLarge.field-0-is c.in-Err-TooLarge.ensures.stops) quiet

pub returns-in-Err-TooLarge-clause-too_large : goal.returns-in-Err-TooLarge-clause-too_large
returns-in-Err-TooLarge-clause-too_large g c = λ size limit is.
    let words = c.args.words.now in
    let left = g.S.Source.left c.args.table.now in
    let after = g.S.Source.left c.with_edit.new.table in
    let a = g.D.Depot.disk c.args.depot.now in
    let b = g.D.Depot.disk c.carry.new.depot in
    let q = c.in-Ok-with_edit.request in
    let asks = asked_for words left c.in-Ok.asked q c.in-Ok.ensures c.in-Ok-with_edit.ensures.runs in
    let same = same_large c.in-Err-TooLarge.size size c.in-Err-TooLarge.limit limit is in
    subst (λ (n : ℕ). Because words left a b (stop.TooLarge n limit)) same.0
    (subst (λ (n : ℕ). Because words left a b (stop.TooLarge c.in-Err-TooLarge.size n)) same.1
    (subst (λ (s : Stop). Because words left a b s) c.in-Err-TooLarge.field-0-is (because words left q a b c.in-Err-TooLarge.field-0 asks c.in-Err-TooLarge.ensures.stops c.in-Err-TooLarge.ensures.leaves)))

pub returns-clause-memory : goal.returns-clause-memory
returns-clause-memory g c = λ is.
    let words = c.args.words.now in
    let left = g.S.Source.left c.args.table.now in
    let after = g.S.Source.left c.with_edit.new.table in
    let a = g.D.Depot.disk c.args.depot.now in
    let b = g.D.Depot.disk c.carry.new.depot in
    let q = c.in-Ok-with_edit.request in
    let asks = asked_for words left c.in-Ok.asked q c.in-Ok.ensures c.in-Ok-with_edit.ensures.runs in
    inr (subst (λ (s : Stop). Because words left a b s) c.in-Err-Memory-carry.field-0-is (because words left q a b c.in-Err-Memory-carry.field-0 asks c.in-Err-Memory-carry.ensures.stops c.in-Err-Memory-carry.ensures.leaves))

pub returns-in-Err-Usage-clause-table : goal.returns-in-Err-Usage-clause-table
returns-in-Err-Usage-clause-table g c =
    let left = g.S.Source.left c.args.table.now in
    rw c.in-Err-Usage.field-0-is
    (no_words c.args.words.now left left c.in-Err-Usage.fault
    (subst (λ (f : RequestFault). ReadsAs (request c.args.words.now) (Err f)) c.in-Err-Usage.field-0-is c.in-Err-Usage.ensures))

pub returns-in-Err-Read-clause-table : goal.returns-in-Err-Read-clause-table
returns-in-Err-Read-clause-table g c = not_read c.args.words.now (g.S.Source.left c.args.table.now) (g.S.Source.left c.with_edit.new.table)

pub returns-in-Err-Fault-clause-table : goal.returns-in-Err-Fault-clause-table
returns-in-Err-Fault-clause-table g c =
    let left = g.S.Source.left c.args.table.now in
    rw c.in-Err-Fault.field-0-is
    (table_refused c.args.words.now left (g.S.Source.left c.with_edit.new.table) c.in-Ok.asked c.in-Ok.ensures c.in-Err-Fault.fault
    (subst (λ (s : TableStop). RefusesTable c.in-Ok.asked left s) c.in-Err-Fault.field-0-is c.in-Err-Fault.ensures.refuses))

pub returns-in-Err-Fault-clause-complete : goal.returns-in-Err-Fault-clause-complete
returns-in-Err-Fault-clause-complete g c = λ all quiet read whole.
    let left = g.S.Source.left c.args.table.now in
    never_refused c.args.words.now left (g.S.Source.left c.with_edit.new.table) c.in-Ok.asked c.in-Ok.ensures c.in-Err-Fault.fault
    (subst (λ (s : TableStop). RefusesTable c.in-Ok.asked left s) c.in-Err-Fault.field-0-is c.in-Err-Fault.ensures.refuses)
    (g.D.Depot.disk c.args.depot.now) all
