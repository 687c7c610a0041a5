use Rattle.std.proofs.Common.{◌∙◌, ◌≡◌, subst, Some, ℕ, List, Option}
use Rattle.std.specs.Prelude.{IsSome, IsTrue}
use Rattle.me_disk.specs.Disk.{bytes_of}
use Rattle.me_disk.specs.Steps.{ReadsOnly}
use Rattle.me_disk.proofs.Runs.{ReadsOnly-trans}
use Rattle.edit_journal.specs.Damage.{damage_over}
use Rattle.edit_journal.specs.Reads.{OnDamaged}
use Rattle.edit_journal.specs.declared.fault.JournalFault.{JournalFault}
use Rattle.edit_journal.specs.declared.fault.JournalFault.TheVariants.{Damaged}
use Rattle.recovery.proofs.Dones.{broken_found}
use Rattle.recovery.proofs.whole.find_journal.Goals as goal

pub returns-in-Err-Damaged-clause-damaged : goal.returns-in-Err-Damaged-clause-damaged
returns-in-Err-Damaged-clause-damaged g c = λ tells.
    let d0 = g.D.Depot.disk c.args.depot.now in
    let d1 = g.D.Depot.disk c.has.new.self in
    let d2 = g.D.Depot.disk c.has-2.new.self in
    let told = c.has.ensures.reads.tells ∙ tells in
    let reads : ReadsOnly d0 d2 = ReadsOnly-trans d0 d1 d2 c.has.ensures.reads c.has-2.ensures.reads in
    let place : OnDamaged (Damaged c.in-Err-Damaged.at) (λ (at : ℕ). IsTrue d2.tells → damage_over d2.slots.main (bytes_of d2.slots.journal) ≡ Some at) =
    subst (λ (e : JournalFault). OnDamaged e (λ (at : ℕ). IsTrue d2.tells → damage_over d2.slots.main (bytes_of d2.slots.journal) ≡ Some at)) c.in-Err-Damaged.field-0-is c.in-Err-Damaged.ensures.damaged in
    broken_found d0 d2 c.in-Err-Damaged.at reads ((c.in-Ok-true.ensures.answer tells).0 c.in-Ok-true.field-0-test)
    (subst (λ (j : Option (List ℕ)). IsSome j) c.has.ensures.reads.journal ((c.in-Ok-true-has.ensures.answer told).0 c.in-Ok-true-has.field-0-test)) (place (reads.tells ∙ tells))
