-- One file of a batch, settled and made ready.
use Rattle.std.proofs.Common.{◌≡◌, ℕ, ◌+◌, ◌≤◌, List, [], Bool, true, Option, Some, None, Result, Ok, Err, refl, sym, ap, ◌∙◌, subst, arith}
use Rattle.std.specs.Prelude.{IsTrue, IfOk, IfErr}
use Rattle.me_bytes.specs.Bytes.{IsBytes}
use Rattle.me_disk.specs.Causes.{Rose}
use Rattle.me_disk.specs.Disk.{Disk, Image, IsLawful, Leaves, bytes_of, read_as}
use Rattle.me_disk.specs.Holds.{Holds}
use Rattle.me_disk.specs.Steps.{ReadsOnly}
use Rattle.me_disk.proofs.Runs.{Leaves-reads, Leaves-refl, Leaves-trans, ReadsOnly-refl}
use Rattle.edit_journal.specs.Settled.{IsDamaged, Settles, Stands}
use Rattle.part_tree.specs.declared.field.EditItem.{EditItem}
use Rattle.part_tree.specs.Plans.{Belongs}
use Rattle.file_swap.specs.Swap.{Swapping}
use Rattle.recovery.specs.Recovered.{Recovers, RecoverWrites, OnRecoverDamage, IsBroken, IsRefusal, bytes_to_redo}
use Rattle.recovery.specs.Redo.{SettlesAlike}
use Rattle.recovery.specs.declared.whole.RecoverFault.{RecoverFault}
use Rattle.recovery.specs.declared.whole.RecoverFault.TheVariants as fault
use Rattle.recovery.specs.declared.whole.Recovered.{Recovered}
use Rattle.metaedit_top.specs.declared.outcome.Prepared.{Prepared}
use Rattle.metaedit_top.specs.declared.outcome.Stop.{Stop}
use Rattle.metaedit_top.specs.declared.outcome.Stop.TheVariants as stop
use Rattle.metaedit_top.specs.declared.words.Command.TheVariants as command
use Rattle.metaedit_top.specs.declared.words.Request.{Request}
use Rattle.metaedit_top.specs.Words.{Text}
use Rattle.metaedit_top.specs.Batch.{IsReadied, Readies, StaysOld, file_request}
use Rattle.metaedit_top.specs.Changed.{IsPrepared, OnSwap, Prepares}
use Rattle.metaedit_top.specs.Run.{HasSettled, OneImage}
use Rattle.metaedit_top.specs.Stage.{counted, stop_of_recovery}
use Rattle.metaedit_top.proofs.Acted.{one_read, stands_on}
use Rattle.metaedit_top.proofs.Ran.{not_settled, one_recovered, ran_refused, ran_stopped, recovered}
use Rattle.metaedit_top.proofs.Sets.{not_prepared}

-- nothing was done
pub stays_here : (d : Disk) → StaysOld d d
stays_here d = record {
  crash = λ one. Leaves-refl (SettlesAlike (read_as d.slots)) d;
  damaged = λ tells damaged. ReadsOnly-refl d;
  tells = refl;
  later = omega arith;
  written = λ tells. omega arith;
}

-- a file that isn't settled
pub not_readied : (q : Request) (a b : Disk) (f : RecoverFault) (s : Stop) → s ≡ stop_of_recovery f
    → (◌≡◌ {A = Result Recovered RecoverFault} (Err f) (Err fault.NoFile) → IsTrue a.tells → a.slots.main ≡ None)
    → OnRecoverDamage f (λ (at : ℕ). IsTrue a.tells → IsBroken a.slots at)
    → (◌≡◌ {A = Result Recovered RecoverFault} (Err f) (Err fault.Depot) → Rose a.faults b.faults)
    → (IsRefusal f → ReadsOnly a b)
    → (IsTrue a.tells → RecoverWrites (bytes_to_redo (read_as a.slots)) a b (Err f))
    → (IsTrue a.tells → IsDamaged (read_as a.slots) → ReadsOnly a b)
    → (OneImage a → (i : Image) → b.since a.clock i → SettlesAlike (read_as a.slots) i)
    → (OneImage a → Leaves (SettlesAlike (read_as a.slots)) a b) → b.tells ≡ a.tells → a.faults ≤ b.faults
    → Readies q a b (Err s)
not_readied q a b f s is none damage cause refusal writes damaged since crash same later =
    let run = ran_refused q a b f s is none damage cause refusal writes damaged since same later in
    record {
      stays = record {
        crash = crash;
        damaged = damaged;
        tells = same;
        later = later;
        written = λ tells. (writes tells).most;
      };
      since = since;
      ready = tt;
      stops = run.stops;
      leaves = run.leaves;
      again_done = λ one. tt;
      again = run.again;
    }

module _ (e : List EditItem) (file : Text) (a b c : Disk) (lawful : IsLawful b) (rec : Recovers a b) (same : b.tells ≡ a.tells) (sooner : a.faults ≤ b.faults)
    (crash : OneImage a → Leaves (SettlesAlike (read_as a.slots)) a b) (since : OneImage a → (i : Image) → b.since a.clock i → SettlesAlike (read_as a.slots) i) (wrote : IsTrue a.tells → b.written ≡ a.written + bytes_to_redo (read_as a.slots)) (reads : ReadsOnly b c) where
  tells_on : IsTrue a.tells → IsTrue b.tells
  tells_on tells = subst IsTrue (sym same) tells

  holds : IsTrue a.tells → Holds b (bytes_of b.slots.main)
  holds tells = record { tells = tells_on tells; bytes = refl }

  leaves : OneImage a → Leaves (SettlesAlike (read_as a.slots)) a c
  leaves one = Leaves-trans (SettlesAlike (read_as a.slots)) a b c (crash one) (Leaves-reads (SettlesAlike (read_as a.slots)) b c reads)

  -- the depot has one image again
  again_one : OneImage a → OneImage c
  again_one one = one_read b c (one_recovered a b lawful rec one) reads

  settled : HasSettled a c
  unfolding leaves
  settled = record {
    stands = subst (λ (o : List ℕ). Stands o c) (ap bytes_of (sym reads.main)) (stands_on (bytes_of b.slots.main) b c reads (recovered a b rec));
    settles = λ tells. subst (λ (m : Option (List ℕ)). Settles (Some (bytes_of m)) (read_as a.slots)) (sym reads.main) (rec.settles tells);
    no_work = λ tells. reads.work ∙ rec.work tells;
    written = λ tells. reads.written ∙ wrote tells;
    crash = leaves;
  }

  stays : StaysOld a c
  unfolding leaves
  stays = record {
    crash = leaves;
    damaged = λ tells damaged. absurd (not_settled a b tells damaged rec);
    tells = reads.tells ∙ same;
    later = let more = reads.faults in omega (arith, sooner, more);
    written = λ tells. let w = wrote tells in let r = reads.written in omega (arith, w, r);
  }

  since_so : OneImage a → (i : Image) → c.since a.clock i → SettlesAlike (read_as a.slots) i
  since_so one i h = since one i (reads.crash.since a.clock i (crash one).clock h)

  ready_so : (p : Prepared) → Prepares (file_request e file).rules (file_request e file).edit b c (Ok p) → IsReadied (file_request e file) a c p
  unfolding settled holds
  ready_so p h = record {
    settled = settled;
    ready = λ tells bytes.
        subst (λ (m : Option (List ℕ)). IsPrepared (file_request e file).rules (file_request e file).edit (bytes_of m) p) (sym reads.main)
        (h.ready (bytes_of b.slots.main) (holds tells) (subst (λ (m : Option (List ℕ)). IsBytes (bytes_of m)) reads.main bytes));
    fresh = h.fresh;
    belongs = λ tells. subst (λ (m : Option (List ℕ)). OnSwap p.swap (λ (s : Swapping). Belongs s.plan (bytes_of m))) (sym reads.main) (h.belongs (bytes_of b.slots.main) (holds tells));
    told = h.told;
  }

  -- the edit is made ready
  pub readied : (p : Prepared) → Prepares (file_request e file).rules (file_request e file).edit b c (Ok p) → Readies (file_request e file) a c (Ok p)
  unfolding stays since_so ready_so again_one
  readied p h = record { stays = stays; since = since_so; ready = ready_so p h; stops = tt; leaves = tt; again_done = again_one; again = λ one. tt }

  -- or it isn't, and this stop is told
  pub unready : (s t : Stop) → t ≡ counted a.faults c.faults s → Prepares (file_request e file).rules (file_request e file).edit b c (Err s) → Readies (file_request e file) a c (Err t)
  unfolding stays since_so
  unready s t told h =
      let run = ran_stopped (file_request e file) a b c rec same sooner crash wrote true s t told lawful since (not_prepared (file_request e file) refl [] true b c (λ o held. refl) s s refl h) in
      record { stays = stays; since = since_so; ready = tt; stops = run.stops; leaves = run.leaves; again_done = λ one. tt; again = run.again }
