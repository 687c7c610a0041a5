-- One file of a batch: settled and made ready, and what the turns of its swap leave.
use Rattle.std.proofs.Common.{◌≡◌, ℕ, ◌+◌, ◌≤◌, ◌<◌, min, List, [], Bool, true, false, Option, Some, None, Result, Ok, Err, refl, sym, ap, ◌∙◌, subst, arith, inl, inr, ⊎_elim}
use Rattle.std.specs.Prelude.{IsTrue, IsSome, IfOk, IfErr, IfSome, ◌⊎◌, if◌then◌else◌, is_some}
use Rattle.me_bytes.specs.Bytes.{IsBytes}
use Rattle.me_disk.specs.Causes.{Rose}
use Rattle.me_disk.specs.Disk.{Disk, Image, IsLawful, Leaves, Only, bytes_of, plain, read_as}
use Rattle.me_disk.specs.Holds.{Holds}
use Rattle.me_disk.specs.Steps.{ReadsOnly}
use Rattle.me_disk.proofs.Runs.{Leaves-reads, Leaves-trans, rose_sooner}
use Rattle.edit_journal.specs.Settled.{IsDamaged, Settles, Stands}
use Rattle.part_tree.specs.declared.field.EditItem.{EditItem}
use Rattle.part_tree.specs.declared.plan.Plan.{Plan}
use Rattle.part_tree.specs.declared.plan.Plan.TheVariants.{InPlace}
use Rattle.part_tree.specs.Plans.{Belongs, CanRun, applied}
use Rattle.file_swap.specs.Midway.{Midway, Phase, SettlesEither}
use Rattle.file_swap.specs.Steps.{bytes_by, bytes_written, calls}
use Rattle.file_swap.specs.Swap.{IsSure, Swapping, Underway, fresh}
use Rattle.file_swap.proofs.Ends.{run_only, run_stands, run_work}
use Rattle.file_swap.proofs.Installs.{all_written, begins_sure}
use Rattle.recovery.specs.Recovered.{Recovers, RecoverWrites, OnRecoverDamage, IsBroken, IsRefusal, bytes_to_redo}
use Rattle.recovery.specs.Redo.{SettlesAlike}
use Rattle.recovery.specs.declared.whole.RecoverFault.{RecoverFault}
use Rattle.recovery.specs.declared.whole.RecoverFault.TheVariants as fault
use Rattle.recovery.specs.declared.whole.Recovered.{Recovered}
use Rattle.recovery.proofs.Alike.{settles_once}
use Rattle.turn_batch.specs.declared.member.Member.{Member}
use Rattle.turn_batch.specs.Members.{failed_in, is_open, open_swap}
use Rattle.turn_batch.specs.Schedules.{Goes, RanOpen, Stopped}
use Rattle.me_report.specs.declared.line.Summary.{Summary}
use Rattle.field_model.specs.KindReads.{IsPlanOf}
use Rattle.edit_planner.specs.Kinds.{model_in}
use Rattle.metaedit_top.specs.declared.batch_end.FileEnd.{FileEnd}
use Rattle.metaedit_top.specs.declared.batch_end.FileEnd.TheVariants as end
use Rattle.metaedit_top.specs.declared.outcome.Prepared.{Prepared}
use Rattle.metaedit_top.specs.declared.outcome.Stop.{Stop}
use Rattle.metaedit_top.specs.declared.outcome.Stop.TheVariants as stop
use Rattle.metaedit_top.specs.declared.words.Command.TheVariants as command
use Rattle.metaedit_top.specs.declared.words.Request.{Request}
use Rattle.metaedit_top.specs.Asked.{changes, run_bytes}
use Rattle.metaedit_top.specs.Batch.{Begun, EndsAs, EndsFile, EndsWithin, FindsNothing, FinishesFile, GoesOn, IsMidway, IsOneEnd, IsReadied, KeepsFile, NeedsCalls, Readies, StaysOld, end_behind, end_in, swap_in, file_request}
use Rattle.metaedit_top.specs.BatchText.{end_of}
use Rattle.metaedit_top.specs.Changed.{IsFresh, IsPrepared, MakesEdit, OnSwap, PrepareStops, Prepares}
use Rattle.metaedit_top.specs.Answered.{AcceptsWords, Because, DoneWith, MayStandOf}
use Rattle.metaedit_top.specs.Begun.{StandsBy}
use Rattle.metaedit_top.specs.Tables.{Asks}
use Rattle.metaedit_top.specs.Run.{AreBytes, HasRun, HasSettled, IsEither, IsOneStop, LeavesAt, OnFile, OneImage, StandsNew, Stops}
use Rattle.metaedit_top.specs.Stage.{stop_of_recovery}
use Rattle.metaedit_top.specs.Told.{summary}
use Rattle.metaedit_top.specs.Words.{Text, request}
use Rattle.metaedit_top.proofs.Acted.{one_plain, only_plain}
use Rattle.metaedit_top.proofs.Prepared.{either_made, has_plan, plan_bytes, run_idle, run_made}
use Rattle.metaedit_top.proofs.Sets.{by_edit, none_written, summary_of}
use Rattle.metaedit_top.proofs.Tops.{never}

-- the words ask for the edit, and read no table
set_asks : (words : List Text) (e : List EditItem) (file : Text) → request words ≡ Ok (file_request e file) → Asks words None (file_request e file)
set_asks words e file is = record { asked = file_request e file; is = is; runs = record { same = refl; edit = refl } }

because_so : (words : List Text) (e : List EditItem) (file : Text) → request words ≡ Ok (file_request e file) → (a b : Disk) (s : Stop) → Stops (file_request e file) a b s → LeavesAt (file_request e file) a b s
    → Because words None a b s
because_so words e file is a b s stops leaves = record { asked = file_request e file; is = set_asks words e file is; stops = stops; leaves = leaves }

-- an image that stands alike stands for what stood there
alike_by : (words : List Text) (a : Disk) (i : Image) → SettlesAlike (read_as a.slots) i → MayStandOf words None a i
alike_by words a i alike = λ tells f settles bytes. inl (alike f settles)

-- ---- by the swap that was made ready

module _ (words : List Text) (e : List EditItem) (file : Text) (is : request words ≡ Ok (file_request e file)) (a b : Disk) (p : Prepared) (readied : IsReadied (file_request e file) a b p)
    (stays : StaysOld a b) (since : OneImage a → (i : Image) → b.since a.clock i → SettlesAlike (read_as a.slots) i) (again : OneImage a → OneImage b) (lawful_b : IsLawful b) where
  tells_on : IsTrue a.tells → IsTrue b.tells
  tells_on tells = subst IsTrue (sym stays.tells) tells

  on_file : (P : List ℕ → Type 0) → (IsTrue a.tells → P (bytes_of b.slots.main)) → OnFile a P
  on_file P holds = λ tells. (bytes_of b.slots.main, readied.settled.settles tells, holds tells)

  keeps_old : KeepsFile words a b
  keeps_old = record {
    any_moment = λ one i h. alike_by words a i (since one i h);
    damaged = stays.damaged;
    tells = stays.tells;
  }

  -- no item has an effect
  pub ends_idle : (rounds : Option ℕ) → p.swap ≡ None → p.finished.summary.findings ≡ 0 → EndsFile words rounds a b (end.Done p.finished.summary)
  unfolding keeps_old on_file
  ends_idle rounds none findings = record {
    ends = record {
      asked = (file_request e file);
      is = set_asks words e file is;
      done = on_file (λ o. IsBytes o → HasRun (file_request e file) o (bytes_to_redo (read_as a.slots)) a b × (p.finished.summary ≡ summary (file_request e file) o))
          (λ tells bytes.
          let o = bytes_of b.slots.main in
          let ready = readied.ready tells bytes in (
            run_idle (file_request e file) refl (by_edit (file_request e file) refl) o p ready bytes none (bytes_to_redo (read_as a.slots)) a b readied.settled.stands (readied.settled.no_work tells) (readied.settled.written tells),
            summary_of (file_request e file) refl o p.finished.summary ready.summary_is,
          ));
    };
    finds = findings;
    again = again;
    keeps = keeps_old;
    within = within rounds;
    complete = λ all quiet. tt;
  }
    where
      -- nothing is changed then, so nothing is asked of the calls
      never_changed : (r : ℕ) → p.finished.summary.changed ≡ true → NeedsCalls words a (λ pl n o. n ≤ r)
      never_changed r changed = record {
        asked = (file_request e file);
        is = is;
        plan = InPlace 0 0 [];
        needs = on_file (λ o. IsBytes o → IsPlanOf (model_in o) o (file_request e file).edit (InPlace 0 0 []) × (calls (InPlace 0 0 []) ≤ r))
            (λ tells bytes.
            let o = bytes_of b.slots.main in
            let ready = readied.ready tells bytes in
            let still : changes o (file_request e file).edit ≡ false = subst (λ (x : Option Swapping). MakesEdit x (file_request e file).edit o) none ready.makes in
            let same : p.finished.summary.changed ≡ changes o (file_request e file).edit = ap (λ (x : Summary). x.changed) ready.summary_is in
            absurd (cc));
      }

      within : (r : Option ℕ) → EndsWithin words r a (end.Done p.finished.summary)
      within None = tt
      within (Some r) = never_changed r

  -- ---- an item has an effect

  module _ (s : Swapping) (some : p.swap ≡ Some s) (fresh_s : IsFresh s) (n : ℕ) (m : Member) (c : Disk) (lawful : IsLawful c) (ran : RanOpen n s m (bytes_of b.slots.main) b c) where
    -- what a crash leaves
    may_by : (i : Image) → SettlesEither (bytes_of b.slots.main) (applied s.plan (bytes_of b.slots.main)) i → MayStandOf words None a i
    may_by i either = λ tells f settles bytes. go tells f (settles_once a.slots.main a.slots.journal f (Some (bytes_of b.slots.main)) settles (readied.settled.settles tells)) bytes
      where
        o : List ℕ
        o = bytes_of b.slots.main

        go : IsTrue a.tells → (f : Option (List ℕ)) → f ≡ Some (bytes_of b.slots.main) → AreBytes f → Settles f i ⊎ ((r : Request) × Asks words None r × StandsBy r f i)
        go tells None same_as bytes = absurd cc
        go tells (Some x) same_as bytes =
            let same : bytes_of b.slots.main ≡ x = sym (ap bytes_of same_as) in
            let small : IsBytes (bytes_of b.slots.main) = subst IsBytes (sym same) bytes in
            let made : IsEither (file_request e file) (bytes_of b.slots.main) i = either_made (file_request e file) refl (by_edit (file_request e file) refl) (bytes_of b.slots.main) p (readied.ready tells small) small s some i either in
            let there : IsEither (file_request e file) x i = subst (λ (y : List ℕ). IsEither (file_request e file) y i) same made in
            ⊎_elim (λ old. inl old) (λ new. inr (file_request e file, set_asks words e file is, new)) there

    -- before the first call each image is one before it
    sure : OneImage a → IsSure s (bytes_of b.slots.main) b
    sure one = subst (λ (t : Swapping). IsSure t (bytes_of b.slots.main) b) (sym fresh_s.unmade) (begins_sure b s.plan (bytes_of b.slots.main) (only_plain (bytes_of b.slots.main) b lawful_b readied.settled.stands (again one)))

    keeps_run : KeepsFile words a c
    unfolding may_by sure
    keeps_run = record {
      any_moment = λ one i h. ⊎_elim (λ before. alike_by words a i (since one i before)) (λ either. may_by i either) ((ran.crash (sure one)).each a.clock i (stays.crash one).clock h);
      damaged = λ tells damaged. absurd (damaged (Some (bytes_of b.slots.main)) (readied.settled.settles tells));
      tells = ran.tells ∙ stays.tells;
    }

    none_so_far : bytes_by s.plan s.made ≡ 0
    none_so_far = none_written s fresh_s

    -- a call failed
    pub ends_failed : (rounds : Option ℕ) → Stopped s ran.next m b c → EndsFile words rounds a c (end.DepotFault c.faults)
    unfolding keeps_run on_file none_so_far
    ends_failed rounds stopped =
        let rose : Rose a.faults c.faults = rose_sooner a.faults b.faults c.faults stays.later stopped.rose in
        record {
          ends = (
            refl,
            record {
              asked = (file_request e file);
              is = set_asks words e file is;
              stops = rose;
              leaves = λ o tells settles bytes.
                  let same : bytes_of b.slots.main ≡ o = ap bytes_of (settles_once a.slots.main a.slots.journal (Some (bytes_of b.slots.main)) (Some o) (readied.settled.settles tells) settles) in
                  let small : IsBytes (bytes_of b.slots.main) = subst IsBytes (sym same) bytes in
                  let all : bytes_written s.plan ≡ run_bytes (file_request e file) (bytes_of b.slots.main) = plan_bytes (file_request e file) refl (by_edit (file_request e file) refl) (bytes_of b.slots.main) p (readied.ready tells small) small s some in
                  let there : run_bytes (file_request e file) (bytes_of b.slots.main) ≡ run_bytes (file_request e file) o = ap (run_bytes (file_request e file)) same in
                  let most = stopped.written in
                  let none = none_so_far in
                  let before = readied.settled.written tells in
                  omega (arith, most, none, before, all, there);
            },
          );
          finds = tt;
          again = λ one. tt;
          keeps = keeps_run;
          within = within rounds;
          complete = λ all quiet. absurd (quiet rose);
        }
      where
        within : (r : Option ℕ) → EndsWithin words r a (end.DepotFault c.faults)
        within None = tt
        within (Some r) = tt

    -- all calls were made
    module _ (goes : Goes n s ran.next m (bytes_of b.slots.main) b c) where
      plan_is : ran.next.plan ≡ s.plan
      plan_is = ran.plan

      mid : Midway s.plan (bytes_of b.slots.main) ran.next.made c
      unfolding plan_is
      mid = subst (λ (pl : Plan). Midway pl (bytes_of b.slots.main) ran.next.made c) plan_is goes.underway.midway

      belongs_on : IsTrue c.tells → Belongs s.plan (bytes_of b.slots.main)
      unfolding plan_is
      belongs_on tells = subst (λ (pl : Plan). Belongs pl (bytes_of b.slots.main)) plan_is (goes.underway.belongs tells)

      -- each image is one after the calls made so far
      phase_on : OneImage a → (i : Image) → c.images i → Phase s.plan (bytes_of b.slots.main) ran.next.made i
      unfolding plan_is sure
      phase_on one i h = subst (λ (pl : Plan). Phase pl (bytes_of b.slots.main) ran.next.made i) plan_is (goes.sure (sure one) i h)

      made_few : ran.next.made ≡ min n (calls s.plan)
      made_few = let none : s.made ≡ 0 = ap (λ (x : Swapping). x.made) fresh_s.unmade in let counts = goes.made in omega arith

      needs_by : (P : Plan → ℕ → List ℕ → Type 0) → P s.plan (calls s.plan) (bytes_of b.slots.main) → NeedsCalls words a P
      unfolding on_file
      needs_by P holds = record {
        asked = (file_request e file);
        is = is;
        plan = s.plan;
        needs = on_file (λ o. IsBytes o → IsPlanOf (model_in o) o (file_request e file).edit s.plan × P s.plan (calls s.plan) o)
            (λ tells bytes. (has_plan (file_request e file) refl (by_edit (file_request e file) refl) (bytes_of b.slots.main) p (readied.ready tells bytes) bytes s some, holds));
      }

      pub ends_done : (rounds : Option ℕ) → IfSome rounds (λ r. n ≤ r) → ran.next.made ≡ calls s.plan → p.finished.summary.findings ≡ 0 → EndsFile words rounds a c (end.Done p.finished.summary)
      unfolding keeps_run on_file none_so_far mid belongs_on phase_on made_few needs_by tells_on
      ends_done rounds few all findings =
          let o = bytes_of b.slots.main in
          let at_end : Midway s.plan o (calls s.plan) c = subst (λ (k : ℕ). Midway s.plan o k c) all mid in
          let stands : Stands (applied s.plan o) c = run_stands s.plan o c fresh_s.can belongs_on at_end in
          record {
            ends = record {
              asked = (file_request e file);
              is = set_asks words e file is;
              done = on_file (λ o. IsBytes o → HasRun (file_request e file) o (bytes_to_redo (read_as a.slots)) a c × (p.finished.summary ≡ summary (file_request e file) o))
                  (λ tells bytes.
                  let ready = readied.ready tells bytes in (
                    run_made (file_request e file) refl (by_edit (file_request e file) refl) o p ready bytes s some (bytes_to_redo (read_as a.slots)) a c stands
                        (run_work s.plan o c fresh_s.can belongs_on at_end (subst IsTrue (sym ran.tells) (tells_on tells)))
                        (let w = goes.written in let none = none_so_far in let before = readied.settled.written tells in
                        let full : bytes_by s.plan ran.next.made ≡ bytes_written s.plan = ap (bytes_by s.plan) all ∙ all_written s.plan fresh_s.can in
                        omega (arith, w, none, before, full)),
                    summary_of (file_request e file) refl o p.finished.summary ready.summary_is,
                  ));
            };
            finds = findings;
            again = λ one. one_plain (applied s.plan o) c lawful stands (run_only s.plan o c lawful belongs_on (λ i h. subst (λ (k : ℕ). Phase s.plan o k i) all (phase_on one i h)));
            keeps = keeps_run;
            within = within rounds few;
            complete = λ all quiet. tt;
          }
        where
          within : (r : Option ℕ) → IfSome r (λ k. n ≤ k) → EndsWithin words r a (end.Done p.finished.summary)
          within None few = tt
          within (Some r) few = λ changed. needs_by (λ pl k o. k ≤ r) (let counts = made_few in omega (arith, few, all, counts))

      -- calls are left
      pub goes_on : ran.next.made < calls s.plan → GoesOn words n a c
      unfolding keeps_run mid phase_on made_few needs_by
      goes_on left =
          let counts = made_few in
          let so : ran.next.made ≡ n = omega arith in
          record {
            midway =
                needs_by (λ pl k o. IsMidway pl o n a c × (n < k)) (
                  record {
                    made = subst (λ (k : ℕ). Midway s.plan (bytes_of b.slots.main) k c) so mid;
                    images = λ one i h. subst (λ (k : ℕ). Phase s.plan (bytes_of b.slots.main) k i) so (phase_on one i h);
                  },
                  omega arith,
                );
            keeps = keeps_run;
          }

-- ---- an edit that isn't ready

module _ (words : List Text) (e : List EditItem) (file : Text) (is : request words ≡ Ok (file_request e file)) (a b : Disk) (rounds : Option ℕ)
    (stays : StaysOld a b) (since : OneImage a → (i : Image) → b.since a.clock i → SettlesAlike (read_as a.slots) i) where
  keeps_it : KeepsFile words a b
  keeps_it = record {
    any_moment = λ one i h. alike_by words a i (since one i h);
    damaged = stays.damaged;
    tells = stays.tells;
  }

  is_memory : (s : Stop) → Stops (file_request e file) a b s → AcceptsWords words None a → (Rose a.faults b.faults → ⊥) → FinishesFile (end_of s b.faults)
  is_memory stop.Memory h all quiet = tt
  is_memory stop.Depot h all quiet = absurd (never words None (file_request e file) a b (set_asks words e file is) all stop.Depot h quiet)
  is_memory stop.NoFile h all quiet = absurd (never words None (file_request e file) a b (set_asks words e file is) all stop.NoFile h quiet)
  is_memory stop.FileThere h all quiet = tt
  is_memory (stop.Damaged at) h all quiet = absurd (never words None (file_request e file) a b (set_asks words e file is) all (stop.Damaged at) h quiet)
  is_memory (stop.NotSupported w) h all quiet = absurd (never words None (file_request e file) a b (set_asks words e file is) all (stop.NotSupported w) h quiet)
  is_memory (stop.RuleBroken w) h all quiet = absurd (never words None (file_request e file) a b (set_asks words e file is) all (stop.RuleBroken w) h quiet)
  is_memory (stop.TooLarge size limit) h all quiet = absurd (never words None (file_request e file) a b (set_asks words e file is) all (stop.TooLarge size limit) h quiet)

  ends_as : (s : Stop) → Stops (file_request e file) a b s → LeavesAt (file_request e file) a b s → EndsAs words a b (end_of s b.faults)
  ends_as stop.Depot h leaves = (refl, because_so words e file is a b stop.Depot h leaves)
  ends_as stop.NoFile h leaves = because_so words e file is a b stop.NoFile h leaves
  ends_as stop.FileThere h leaves = absurd h
  ends_as (stop.Damaged at) h leaves = because_so words e file is a b (stop.Damaged at) h leaves
  ends_as (stop.NotSupported w) h leaves = because_so words e file is a b (stop.NotSupported w) h leaves
  ends_as (stop.RuleBroken w) h leaves = because_so words e file is a b (stop.RuleBroken w) h leaves
  ends_as (stop.TooLarge size limit) h leaves = because_so words e file is a b (stop.TooLarge size limit) h leaves
  ends_as stop.Memory h leaves = because_so words e file is a b stop.Memory h leaves

  one_end : (s : Stop) → IsOneStop s b → IsOneEnd (end_of s b.faults) b
  one_end stop.Depot one = tt
  one_end stop.NoFile one = one
  one_end stop.FileThere one = one
  one_end (stop.Damaged at) one = one
  one_end (stop.NotSupported w) one = one
  one_end (stop.RuleBroken w) one = one
  one_end (stop.TooLarge size limit) one = one
  one_end stop.Memory one = one

  finds_none : (s : Stop) → FindsNothing (end_of s b.faults)
  finds_none stop.Depot = tt
  finds_none stop.NoFile = tt
  finds_none stop.FileThere = tt
  finds_none (stop.Damaged at) = tt
  finds_none (stop.NotSupported w) = tt
  finds_none (stop.RuleBroken w) = tt
  finds_none (stop.TooLarge size limit) = tt
  finds_none stop.Memory = tt

  in_time : (r : Option ℕ) (s : Stop) → EndsWithin words r a (end_of s b.faults)
  in_time None s = tt
  in_time (Some r) stop.Depot = tt
  in_time (Some r) stop.NoFile = tt
  in_time (Some r) stop.FileThere = tt
  in_time (Some r) (stop.Damaged at) = tt
  in_time (Some r) (stop.NotSupported w) = tt
  in_time (Some r) (stop.RuleBroken w) = tt
  in_time (Some r) (stop.TooLarge size limit) = tt
  in_time (Some r) stop.Memory = tt

  pub ends_stopped : (s : Stop) → Stops (file_request e file) a b s → LeavesAt (file_request e file) a b s → (OneImage a → IsOneStop s b) → EndsFile words rounds a b (end_of s b.faults)
  unfolding keeps_it is_memory ends_as one_end finds_none in_time
  ends_stopped s h leaves again = record {
    ends = ends_as s h leaves;
    finds = finds_none s;
    again = λ one. one_end s (again one);
    keeps = keeps_it;
    within = in_time rounds s;
    complete = is_memory s h;
  }
