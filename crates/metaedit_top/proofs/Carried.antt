-- What a request comes to, from what a run on a file that is there comes to, or a file that is made.
use Rattle.std.proofs.Common.{◌≡◌, ℕ, ◌≤◌, List, length, Bool, true, false, Option, Some, Result, Ok, Err, refl, sym, ap, ◌∙◌, subst, arith, cond, inl, inr, ⊎_elim}
use Rattle.std.specs.Prelude.{◌⊎◌, IsTrue, IfOk, IfErr, nat_lt}
use Rattle.std.proofs.lemmas.Bool.{ltb-true, ltb-false}
use Rattle.me_bytes.specs.Bytes.{IsBytes}
use Rattle.me_disk.specs.Disk.{Disk, Image, read_as}
use Rattle.recovery.specs.Recovered.{bytes_to_redo}
use Rattle.edit_journal.specs.Settled.{Settles}
use Rattle.metaedit_top.specs.declared.outcome.Finished.{Finished}
use Rattle.metaedit_top.specs.declared.outcome.Stop.{Stop}
use Rattle.metaedit_top.specs.declared.outcome.Stop.TheVariants as stop
use Rattle.metaedit_top.specs.declared.words.Request.{Request}
use Rattle.metaedit_top.specs.Asked.{run_bytes}
use Rattle.metaedit_top.specs.Begun.{BeginsBy, Carries, HasMade, IsCounted, IsUnmade, LeavesIn, MakeLeaves, MakeStops, MakesFile, OnBegun, StandsIn, StopsIn, bytes_before, made_of}
use Rattle.metaedit_top.specs.Run.{HasRun, HasTold, IsOneStop, Runs, has_journal}
use Rattle.metaedit_top.specs.Stage.{counted}
use Rattle.metaedit_top.specs.Words.{makes_file}

not_true : false ≡ true → ⊥
not_true e = absurd cc

-- ---- a run on the file that is there

module _ (q : Request) (there : makes_file q.command ≡ false) (a b : Disk) where
  ends_there : (f : Finished) → Runs q a b (Ok f)
      → OnBegun q a (λ o. IsBytes o → HasRun q o (bytes_before q a o) a b × HasTold q o (has_journal a) f)
  ends_there f runs = λ tells.
      let x = runs.ends tells in (
        x.0,
        subst (λ (t : Bool). BeginsBy t q (read_as a.slots) x.0) (sym there) x.1,
        λ bytes.
            let y = x.2 bytes in
            let before : bytes_to_redo (read_as a.slots) ≡ bytes_before q a x.0 =
            sym (ap (λ (t : Bool). cond t (length x.0) (bytes_to_redo (read_as a.slots))) there) in (
              subst (λ (n : ℕ). HasRun q x.0 n a b) before y.0,
              y.1,
            ),
      )

  pub runs_carries : (r : Result Finished Stop) → Runs q a b r → Carries q a b r
  unfolding ends_there
  runs_carries (Ok f) runs = record {
    ends = ends_there f runs;
    fixes = runs.fixes;
    stops = tt;
    leaves = tt;
    crash = λ one i h tells f settles bytes.
        ⊎_elim (λ old. inl old) (λ new. inr (subst (λ (t : Bool). StandsIn t q f i) (sym there) new)) (runs.crash one i h tells f settles bytes);
    damaged = runs.damaged;
    there = λ makes. absurd (not_true (sym there ∙ makes));
    again_done = runs.again_done;
    again = λ one. tt;
    tells = runs.tells;
    later = runs.later;
  }
  runs_carries (Err s) runs = record {
    ends = tt;
    fixes = tt;
    stops = subst (λ (t : Bool). StopsIn t q a b s) (sym there) runs.stops;
    leaves = subst (λ (t : Bool). LeavesIn t q a b s) (sym there) runs.leaves;
    crash = λ one i h tells f settles bytes.
        ⊎_elim (λ old. inl old) (λ new. inr (subst (λ (t : Bool). StandsIn t q f i) (sym there) new)) (runs.crash one i h tells f settles bytes);
    damaged = runs.damaged;
    there = λ makes. absurd (not_true (sym there ∙ makes));
    again_done = λ one. tt;
    again = runs.again;
    tells = runs.tells;
    later = runs.later;
  }

-- ---- a file that is made

module _ (q : Request) (makes : makes_file q.command ≡ true) (a b : Disk) where
  -- a want of memory is told as a fault of the device, where it counted one
  memory_stops : (t : Bool) → nat_lt a.faults b.faults ≡ t → a.faults ≤ b.faults
      → MakeStops q a b (cond t stop.Depot stop.Memory) × IsCounted a b (cond t stop.Depot stop.Memory)
  memory_stops true e later = let more = ltb-true a.faults b.faults e in (omega (arith, more), tt)
  memory_stops false e later = let least = ltb-false a.faults b.faults e in (tt, omega (arith, least, later))

  counted_stops : (s : Stop) → a.faults ≤ b.faults → MakeStops q a b s → MakeStops q a b (counted a.faults b.faults s) × IsCounted a b (counted a.faults b.faults s)
  unfolding memory_stops
  counted_stops stop.Depot later h = (h, tt)
  counted_stops stop.NoFile later h = (h, tt)
  counted_stops stop.FileThere later h = (h, tt)
  counted_stops (stop.Damaged at) later h = (h, tt)
  counted_stops (stop.NotSupported w) later h = (h, tt)
  counted_stops (stop.RuleBroken w) later h = (h, tt)
  counted_stops (stop.TooLarge size limit) later h = (h, tt)
  counted_stops stop.Memory later h = memory_stops (nat_lt a.faults b.faults) refl later

  memory_leaves : (t : Bool) → MakeLeaves q a b stop.Memory → MakeLeaves q a b (cond t stop.Depot stop.Memory)
  memory_leaves true (inl unmade) = λ tells. let w = unmade.written in omega (arith, w)
  memory_leaves true (inr made) = λ tells. let w = made.written in omega (arith, w)
  memory_leaves false h = h

  counted_leaves : (s : Stop) → MakeLeaves q a b s → MakeLeaves q a b (counted a.faults b.faults s)
  unfolding memory_leaves
  counted_leaves stop.Depot h = h
  counted_leaves stop.NoFile h = h
  counted_leaves stop.FileThere h = h
  counted_leaves (stop.Damaged at) h = h
  counted_leaves (stop.NotSupported w) h = h
  counted_leaves (stop.RuleBroken w) h = h
  counted_leaves (stop.TooLarge size limit) h = h
  counted_leaves stop.Memory h = memory_leaves (nat_lt a.faults b.faults) h

  memory_one : (t : Bool) → IsOneStop stop.Memory b → IsOneStop (cond t stop.Depot stop.Memory) b
  memory_one true h = tt
  memory_one false h = h

  counted_one : (s : Stop) → IsOneStop s b → IsOneStop (counted a.faults b.faults s) b
  unfolding memory_one
  counted_one stop.Depot h = h
  counted_one stop.NoFile h = h
  counted_one stop.FileThere h = h
  counted_one (stop.Damaged at) h = h
  counted_one (stop.NotSupported w) h = h
  counted_one (stop.RuleBroken w) h = h
  counted_one (stop.TooLarge size limit) h = h
  counted_one stop.Memory h = memory_one (nat_lt a.faults b.faults) h

  pub made_carries : (f : Finished) → MakesFile q a b (Ok f) → Carries q a b (Ok f)
  made_carries f made = record {
    ends = made.ends;
    fixes = made.fixes;
    stops = tt;
    leaves = tt;
    crash = made.crash;
    damaged = made.damaged;
    there = λ is. made.there;
    again_done = made.again_done;
    again = λ one. tt;
    tells = made.tells;
    later = made.later;
  }

  pub stopped_carries : (s t : Stop) → t ≡ counted a.faults b.faults s → MakesFile q a b (Err s) → Carries q a b (Err t)
  unfolding counted_stops counted_leaves counted_one
  stopped_carries s t told made = subst (λ (u : Stop). Carries q a b (Err u)) (sym told) (record {
    ends = tt;
    fixes = tt;
    stops = subst (λ (x : Bool). StopsIn x q a b (counted a.faults b.faults s)) (sym makes) (counted_stops s made.later made.stops);
    leaves = subst (λ (x : Bool). LeavesIn x q a b (counted a.faults b.faults s)) (sym makes) (counted_leaves s made.leaves);
    crash = made.crash;
    damaged = made.damaged;
    there = λ is. made.there;
    again_done = λ one. tt;
    again = λ one. counted_one s (made.again one);
    tells = made.tells;
    later = made.later;
  })
