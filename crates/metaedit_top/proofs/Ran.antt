-- A run from its start over a recovery: at first, when the file is settled, and at the end.
use Rattle.std.proofs.Common.{◌≡◌, ℕ, ◌+◌, ◌≤◌, List, Bool, true, false, cond, Option, Some, None, Result, Ok, Err, refl, sym, ap, ◌∙◌, subst, arith, inl, ⊎_elim}
use Rattle.std.specs.Prelude.{IsTrue, IsSome, is_some, nat_lt, ◌⊎◌}
use Rattle.std.proofs.lemmas.Bool.{ltb-false, ltb-true}
use Rattle.me_bytes.specs.Bytes.{IsBytes}
use Rattle.me_disk.specs.Causes.{Rose}
use Rattle.me_disk.specs.Disk.{Image, Disk, IsLawful, Leaves, read_as, bytes_of}
use Rattle.me_disk.specs.Holds.{Holds}
use Rattle.me_disk.specs.Steps.{ReadsOnly}
use Rattle.me_disk.proofs.Runs.{rose_sooner, Leaves-trans, Leaves-reads}
use Rattle.edit_journal.specs.Settled.{Settles, IsDamaged, Stands}
use Rattle.recovery.specs.Recovered.{Recovers, RecoverWrites, OnRecoverDamage, OnRedone, IsBroken, IsRedone, IsRefusal, bytes_to_redo}
use Rattle.recovery.specs.Redo.{SettlesAlike}
use Rattle.recovery.specs.declared.whole.RecoverFault.{RecoverFault}
use Rattle.recovery.specs.declared.whole.RecoverFault.TheVariants as fault
use Rattle.recovery.specs.declared.whole.Recovered.{Recovered}
use Rattle.recovery.specs.declared.whole.Recovered.TheVariants.{Nothing, Redone}
use Rattle.recovery.proofs.Alike.{settles_once}
use Rattle.metaedit_top.specs.declared.outcome.Finished.{Finished}
use Rattle.metaedit_top.specs.declared.outcome.Stop.{Stop}
use Rattle.metaedit_top.specs.declared.outcome.Stop.TheVariants as stop
use Rattle.metaedit_top.specs.declared.words.Request.{Request}
use Rattle.metaedit_top.specs.Run.{AreBytes, HasRun, HasTold, HasSettled, IsOneStop, LeavesAt, MayLeave, MayStand, OneImage, OnFile, Runs, StandsNew, Stops}
use Rattle.metaedit_top.specs.Stage.{ActLeaves, ActStops, Acts, HasActed, OnHeld, IsSettled, counted, stop_of_recovery}
use Rattle.metaedit_top.specs.Told.{was_redone}
use Rattle.metaedit_top.proofs.Acted.{one_plain, one_read, stands_on}

-- a journal stood there where one was redone
pub stood : (a : Disk) (r : Recovered) → IsTrue a.tells → (◌≡◌ {A = Result Recovered RecoverFault} (Ok r) (Ok Nothing) → IsTrue a.tells → IsSome a.slots.main × (a.slots.journal ≡ None))
    → OnRedone r (λ (len : ℕ). IsTrue a.tells → IsRedone a.slots len) → was_redone r ≡ is_some a.slots.journal
stood a Nothing tells none redone = sym (ap is_some (none refl tells).1)
stood a (Redone len) tells none redone = there a.slots.journal (redone tells).journal
  where
    there : (j : Option (List ℕ)) → IsSome j → true ≡ is_some j
    there None h = absurd cc
    there (Some j) h = refl

-- a state that stands for no file isn't settled
pub not_settled : (a b : Disk) → IsTrue a.tells → IsDamaged (read_as a.slots) → Recovers a b → ⊥
not_settled a b tells damaged rec = damaged (Some (bytes_of b.slots.main)) (rec.settles tells)

-- images of a recovery alone
pub alike_may : (q : Request) (a : Disk) (i : Image) → SettlesAlike (read_as a.slots) i → MayStand q a i
alike_may q a i alike = λ tells f settles bytes. inl (alike f settles)

some_is : (m : Option (List ℕ)) → IsSome m → m ≡ Some (bytes_of m)
some_is None h = absurd cc
some_is (Some o) h = refl

-- a recovered file stands there
pub recovered : (a b : Disk) → Recovers a b → Stands (bytes_of b.slots.main) b
unfolding some_is
recovered a b rec = record {
  main = λ tells. some_is b.slots.main (rec.file tells);
  journal = rec.journal;
  state = rec.state;
}

-- and where there was one image, there is one again
pub one_recovered : (a b : Disk) → IsLawful b → Recovers a b → OneImage a → OneImage b
one_recovered a b lawful rec one = one_plain (bytes_of b.slots.main) b lawful (recovered a b rec) (rec.alone one).only

pub settled : (a b : Disk) → b.tells ≡ a.tells → Recovers a b → IsSettled b
settled a b same rec = record { stands = recovered a b rec; no_work = λ tells. rec.work (subst IsTrue same tells) }

module _ (q : Request) (a b c : Disk) (rec : Recovers a b) (same : b.tells ≡ a.tells) (sooner : a.faults ≤ b.faults)
    (crash : OneImage a → Leaves (SettlesAlike (read_as a.slots)) a b) (wrote : IsTrue a.tells → b.written ≡ a.written + bytes_to_redo (read_as a.slots)) where
  tells_on : IsTrue a.tells → IsTrue b.tells
  tells_on tells = subst IsTrue (sym same) tells

  holds : IsTrue a.tells → Holds b (bytes_of b.slots.main)
  holds tells = record { tells = tells_on tells; bytes = refl }

  ends_so : (redone : Bool) (f : Finished) → (IsTrue a.tells → redone ≡ is_some a.slots.journal) → OnHeld b (λ o. IsBytes o → HasActed q o redone b c f)
      → OnFile a (λ o. IsBytes o → HasRun q o (bytes_to_redo (read_as a.slots)) a c × HasTold q o (is_some a.slots.journal) f)
  unfolding holds
  ends_so redone f was acts = λ tells. (
    bytes_of b.slots.main,
    rec.settles tells,
    λ bytes.
        let o = bytes_of b.slots.main in
        let x = acts o (holds tells) bytes in (
          record {
            accepts = x.run.accepts;
            stands = x.run.stands;
            no_work = x.run.no_work;
            edited = x.run.edited;
            written = let w = x.run.written in let v = wrote tells in omega (arith, w, v);
          },
          subst (λ (t : Bool). HasTold q o t f) (was tells) x.told,
        ),
  )

  on_file : (P : List ℕ → Type 0) → OnHeld b P → OnFile a P
  on_file P held = λ tells. (bytes_of b.slots.main, rec.settles tells, held (bytes_of b.slots.main) (holds tells))

  -- a count that isn't lower than before is higher, or the same
  memory_stops : (t : Bool) → nat_lt a.faults c.faults ≡ t → a.faults ≤ c.faults → Stops q a c (cond t stop.Depot stop.Memory)
  memory_stops true e later = let more = ltb-true a.faults c.faults e in omega (arith, more)
  memory_stops false e later = let least = ltb-false a.faults c.faults e in omega (arith, least, later)

  stops : (s : Stop) → a.faults ≤ c.faults → ActStops q b c s → Stops q a c (counted a.faults c.faults s)
  unfolding on_file memory_stops
  stops stop.Depot later h = rose_sooner a.faults b.faults c.faults sooner h
  stops stop.NoFile later h = absurd h
  stops stop.FileThere later h = absurd h
  stops (stop.Damaged at) later h = absurd h
  stops (stop.NotSupported w) later h = (h.0, on_file _ h.1)
  stops (stop.RuleBroken w) later h = (h.0, on_file _ h.1)
  stops (stop.TooLarge size limit) later h = (h.0, on_file _ h.1)
  stops stop.Memory later h = memory_stops (nat_lt a.faults c.faults) refl later

  has_settled : ReadsOnly b c → HasSettled a c
  has_settled reads = record {
    stands = subst (λ (o : List ℕ). Stands o c) (ap bytes_of (sym reads.main)) (stands_on (bytes_of b.slots.main) b c reads (recovered a b rec));
    settles = λ tells. subst (λ (m : Option (List ℕ)). Settles (Some (bytes_of m)) (read_as a.slots)) (sym reads.main) (rec.settles tells);
    no_work = λ tells. reads.work ∙ rec.work tells;
    written = λ tells. reads.written ∙ wrote tells;
    crash = λ one. Leaves-trans (SettlesAlike (read_as a.slots)) a b c (crash one) (Leaves-reads (SettlesAlike (read_as a.slots)) b c reads);
  }

  once : (o : List ℕ) → IsTrue a.tells → Settles (Some o) (read_as a.slots) → Holds b o
  once o tells settles = record {
    tells = tells_on tells;
    bytes = some_bytes (settles_once a.slots.main a.slots.journal (Some (bytes_of b.slots.main)) (Some o) (rec.settles tells) settles);
  }
    where
      some_bytes : {x y : List ℕ} → Some x ≡ Some y → x ≡ y
      some_bytes e = ap bytes_of e

  memory_leaves : (t : Bool) → HasSettled a c → LeavesAt q a c (cond t stop.Depot stop.Memory)
  memory_leaves true h = λ o tells settles bytes. let w = h.written tells in omega (arith, w)
  memory_leaves false h = h

  leaves : (s : Stop) → ActStops q b c s → ActLeaves q b c s → LeavesAt q a c (counted a.faults c.faults s)
  unfolding has_settled once memory_leaves
  leaves stop.Depot why h = λ o tells settles bytes. let most = h o (once o tells settles) bytes in let w = wrote tells in omega (arith, most, w)
  leaves stop.NoFile why h = absurd why
  leaves stop.FileThere why h = absurd why
  leaves (stop.Damaged at) why h = absurd why
  leaves (stop.NotSupported w) why h = has_settled h
  leaves (stop.RuleBroken w) why h = has_settled h
  leaves (stop.TooLarge size limit) why h = has_settled h
  leaves stop.Memory why h = memory_leaves (nat_lt a.faults c.faults) (has_settled h)

  memory_one : (t : Bool) → OneImage c → IsOneStop (cond t stop.Depot stop.Memory) c
  memory_one true one = tt
  memory_one false one = one

  one_stop : OneImage b → (s : Stop) → ActLeaves q b c s → IsOneStop (counted a.faults c.faults s) c
  unfolding memory_one
  one_stop one stop.Depot h = tt
  one_stop one stop.NoFile h = one_read b c one h
  one_stop one stop.FileThere h = one_read b c one h
  one_stop one (stop.Damaged at) h = one_read b c one h
  one_stop one (stop.NotSupported w) h = one_read b c one h
  one_stop one (stop.RuleBroken w) h = one_read b c one h
  one_stop one (stop.TooLarge size limit) h = one_read b c one h
  one_stop one stop.Memory h = memory_one (nat_lt a.faults c.faults) (one_read b c one h)

  may_file : (i : Image) → MayLeave q b i → IsTrue a.tells → (f : Option (List ℕ)) → Settles f (read_as a.slots) → AreBytes f → Settles f i ⊎ StandsNew q f i
  unfolding once
  may_file i may tells None settles bytes = absurd (none_some (settles_once a.slots.main a.slots.journal (Some (bytes_of b.slots.main)) None (rec.settles tells) settles))
    where
      none_some : {x : List ℕ} → Some x ≡ None → ⊥
      none_some e = absurd cc
  may_file i may tells (Some o) settles bytes = may o (once o tells settles) bytes

  pub may_stand : IsLawful b → (OneImage a → (i : Image) → b.since a.clock i → SettlesAlike (read_as a.slots) i) → (OneImage b → Leaves (MayLeave q b) b c)
      → OneImage a → (i : Image) → c.since a.clock i → MayStand q a i
  unfolding may_file
  may_stand lawful since act one i h =
      ⊎_elim (λ before. alike_may q a i (since one i before)) (λ may. may_file i may)
      ((act (one_recovered a b lawful rec one)).each a.clock i (crash one).clock h)

  -- ---- by the answer

  later : b.faults ≤ c.faults → a.faults ≤ c.faults
  later more = omega (arith, sooner, more)

  pub ran_done : (redone : Bool) (f : Finished) → (IsTrue a.tells → redone ≡ is_some a.slots.journal) → IsLawful b
      → (OneImage a → (i : Image) → b.since a.clock i → SettlesAlike (read_as a.slots) i) → Acts q redone b c (Ok f) → Runs q a c (Ok f)
  unfolding ends_so may_stand later
  ran_done redone f was lawful since acts = record {
    ends = ends_so redone f was acts.acts;
    fixes = acts.fixes;
    stops = tt;
    leaves = tt;
    crash = may_stand lawful since acts.crash;
    damaged = λ tells damaged. absurd (not_settled a b tells damaged rec);
    again_done = λ one. acts.again (one_recovered a b lawful rec one);
    again = λ one. tt;
    tells = acts.tells ∙ same;
    later = later acts.later;
  }

  -- the stop that is told of an act that stopped
  pub ran_stopped : (redone : Bool) (s t : Stop) → t ≡ counted a.faults c.faults s → IsLawful b
      → (OneImage a → (i : Image) → b.since a.clock i → SettlesAlike (read_as a.slots) i) → Acts q redone b c (Err s) → Runs q a c (Err t)
  unfolding stops leaves one_stop may_stand later
  ran_stopped redone s t told lawful since acts = subst (λ (u : Stop). Runs q a c (Err u)) (sym told) (record {
    ends = tt;
    fixes = tt;
    stops = stops s (later acts.later) acts.stops;
    leaves = leaves s acts.stops acts.leaves;
    crash = may_stand lawful since acts.crash;
    damaged = λ tells damaged. absurd (not_settled a b tells damaged rec);
    again_done = λ one. tt;
    again = λ one. one_stop (one_recovered a b lawful rec one) s acts.leaves;
    tells = acts.tells ∙ same;
    later = later acts.later;
  })

pub wrote_exact : (a b : Disk) (r : Recovered) → (IsTrue a.tells → RecoverWrites (bytes_to_redo (read_as a.slots)) a b (Ok r)) → IsTrue a.tells → b.written ≡ a.written + bytes_to_redo (read_as a.slots)
wrote_exact a b r writes tells = (writes tells).exact no_fault
  where
    no_fault : ◌≡◌ {A = Result Recovered RecoverFault} (Ok r) (Err fault.Depot) → ⊥
    no_fault e = absurd cc

-- ---- a file that isn't settled

module _ (q : Request) (a b : Disk) where
  refused_stops : (f : RecoverFault) → (◌≡◌ {A = Result Recovered RecoverFault} (Err f) (Err fault.NoFile) → IsTrue a.tells → a.slots.main ≡ None)
      → OnRecoverDamage f (λ (at : ℕ). IsTrue a.tells → IsBroken a.slots at) → (◌≡◌ {A = Result Recovered RecoverFault} (Err f) (Err fault.Depot) → Rose a.faults b.faults)
      → Stops q a b (stop_of_recovery f)
  refused_stops fault.NoFile none damaged cause = none refl
  refused_stops (fault.Damaged at) none damaged cause = damaged
  refused_stops fault.Depot none damaged cause = cause refl

  refused_leaves : (f : RecoverFault) → (IsRefusal f → ReadsOnly a b) → (IsTrue a.tells → RecoverWrites (bytes_to_redo (read_as a.slots)) a b (Err f)) → LeavesAt q a b (stop_of_recovery f)
  refused_leaves fault.NoFile refusal writes = refusal tt
  refused_leaves (fault.Damaged at) refusal writes = refusal tt
  refused_leaves fault.Depot refusal writes = λ o tells settles bytes. let most = (writes tells).most in omega (arith, most)

  refused_one : (f : RecoverFault) → OneImage a → (IsRefusal f → ReadsOnly a b) → IsOneStop (stop_of_recovery f) b
  refused_one fault.NoFile one refusal = one_read a b one (refusal tt)
  refused_one (fault.Damaged at) one refusal = one_read a b one (refusal tt)
  refused_one fault.Depot one refusal = tt

  pub ran_refused : (f : RecoverFault) (s : Stop) → s ≡ stop_of_recovery f
      → (◌≡◌ {A = Result Recovered RecoverFault} (Err f) (Err fault.NoFile) → IsTrue a.tells → a.slots.main ≡ None)
      → OnRecoverDamage f (λ (at : ℕ). IsTrue a.tells → IsBroken a.slots at)
      → (◌≡◌ {A = Result Recovered RecoverFault} (Err f) (Err fault.Depot) → Rose a.faults b.faults)
      → (IsRefusal f → ReadsOnly a b) → (IsTrue a.tells → RecoverWrites (bytes_to_redo (read_as a.slots)) a b (Err f))
      → (IsTrue a.tells → IsDamaged (read_as a.slots) → ReadsOnly a b)
      → (OneImage a → (i : Image) → b.since a.clock i → SettlesAlike (read_as a.slots) i)
      → b.tells ≡ a.tells → a.faults ≤ b.faults → Runs q a b (Err s)
  unfolding refused_stops refused_leaves refused_one
  ran_refused f s is none damage cause refusal writes damaged since same later = subst (λ (t : Stop). Runs q a b (Err t)) (sym is) (record {
    ends = tt;
    fixes = tt;
    stops = refused_stops f none damage cause;
    leaves = refused_leaves f refusal writes;
    crash = λ one i h. alike_may q a i (since one i h);
    damaged = damaged;
    again_done = λ one. tt;
    again = λ one. refused_one f one refusal;
    tells = same;
    later = later;
  })
