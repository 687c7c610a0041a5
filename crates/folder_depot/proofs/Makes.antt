-- From what a call does to the folder to what it does to the depot.
use Rattle.std.proofs.Common.{◌≡◌, ◌⊎◌, inl, inr, ⊎_elim, ℕ, ◌+◌, ◌≤◌, refl, sym, subst, arith}
use Rattle.std.specs.Prelude.{Option, Some, None, Result, Ok, Err, OnOk, OnErr, IsErr, IsTrue, true, is_some}
use Rattle.std.proofs.lemmas.Bool.{false≢true}
use Rattle.me_disk.specs.declared.depot.DepotFault.{DepotFault}
use Rattle.me_disk.specs.declared.depot.WorkState.{WorkState}
use Rattle.me_disk.specs.Causes.{Rose, CountsFaults}
use Rattle.me_disk.specs.Disk.{Image, Slots}
use Rattle.me_disk.specs.Calls.{Call, effect, Crash, MainStays, JournalStays, WorkStays, state_at_ok, state_at_fault, piece}
use Rattle.me_disk.specs.Steps.{Does}
use Rattle.me_disk.proofs.Does.{Crash-any, Crash-kept}
use Rattle.me_folder.specs.Tree.{Tree, slots_in, CutLeaves}
use Rattle.me_folder.specs.Told.{disk_of, slots_of}
use Rattle.folder_depot.specs.Moves.{On, GoesOn, Reached, Moves, Makes, Shrinks}
use Rattle.folder_depot.proofs.Kept.{on_ok, on_erred, IsLoud, loud_quiet, main_same, journal_same, work_same, quiet_kept, sure_empty}
use Rattle.folder_depot.proofs.Trees.{goes_nowhere, goes_quiet, on_weaker, on_then}

-- the counts and the work state after a call that answers this
pub record Counted (c : Call) (f f' w w' : ℕ) (s s' : WorkState) (r : Result Unit DepotFault) : Type 0 where
  pub state : OnOk r (s' ≡ state_at_ok c s)
  pub state_fault : OnErr r (s' ≡ state_at_fault c s)
  pub least : w ≤ w'
  pub most : w' ≤ w + piece c
  pub exact : OnOk r (w' ≡ w + piece c)
  pub later : f ≤ f'
  pub failed : OnErr r (Rose f f')

-- a fault was counted, and no byte
pub counted_fault : (c : Call) (f f' w w' : ℕ) (s s' : WorkState) (e : DepotFault) → s' ≡ state_at_fault c s → w' ≡ w → f ≤ f' → Rose f f' → Counted c f f' w w' s s' (Err e)
counted_fault c f f' w w' s s' e is none later rose = record { state = tt; state_fault = is; least = omega (arith, none); most = omega (arith, none); exact = tt; later = later; failed = rose }

-- its bytes were counted
pub counted_ok : (c : Call) (f f' w w' : ℕ) (s s' : WorkState) (x : Unit {0}) → s' ≡ state_at_ok c s → w' ≡ w + piece c → f ≤ f' → Counted c f f' w w' s s' (Ok x)
counted_ok c f f' w w' s s' x is exact later = record { state = is; state_fault = tt; least = omega (arith, exact); most = omega (arith, exact); exact = exact; later = later; failed = tt }

told_if_ok : (P : Type 0) (r : Result Unit DepotFault) → OnOk r P → OnOk r (IsTrue true → P)
told_if_ok P (Ok x) h = λ tells. h
told_if_ok P (Err e) h = tt

moves_does : (c : Call) (old new : Tree) (r : Result Unit DepotFault) (f f' w w' : ℕ) (s s' : WorkState) → Moves c r old new → Counted c f f' w w' s s' r
    → Does c (disk_of (Some old) f w s) (disk_of (Some new) f' w' s') r
moves_does c old new r f f' w w' s s' m counted = record {
  tells = refl;
  main = told_if_ok _ r m.main;
  journal = told_if_ok _ r m.journal;
  work = told_if_ok _ r m.work;
  main_stays = m.main_stays;
  journal_stays = m.journal_stays;
  work_stays = m.work_stays;
  state = counted.state;
  state_fault = counted.state_fault;
  crash = record { clock = m.goes.clock; images = m.images; since = m.goes.since; since_stay = m.goes.stay };
  quiet = m.quiet f f' w w' s s';
  sure = m.sure f' w' s';
  written = record { least = counted.least; most = counted.most; exact = counted.exact };
  cause = record { later = counted.later; failed = counted.failed };
}

-- a folder that tells nothing
none_does : (c : Call) (r : Result Unit DepotFault) (f f' w w' : ℕ) (s s' : WorkState) → Counted c f f' w w' s s' r → Does c (disk_of None f w s) (disk_of None f' w' s') r
none_does c r f f' w w' s s' counted = record {
  tells = refl;
  main = on_ok r (λ tells. absurd (false≢true tells));
  journal = on_ok r (λ tells. absurd (false≢true tells));
  work = on_ok r (λ tells. absurd (false≢true tells));
  main_stays = main_same c _;
  journal_stays = journal_same c _;
  work_stays = work_same c _;
  state = counted.state;
  state_fault = counted.state_fault;
  crash = record { clock = omega arith; images = λ i h. absurd h; since = λ t i le h. absurd h; since_stay = λ t i le h. absurd h };
  quiet = quiet_kept c _ _ (record { clock = omega arith; images = λ i h. absurd h; images_stay = λ i h. absurd h; since = λ t i le h. absurd h; since_stay = λ t i le h. absurd h });
  sure = on_ok r (sure_empty c _ (λ i h. absurd h));
  written = record { least = counted.least; most = counted.most; exact = counted.exact };
  cause = record { later = counted.later; failed = counted.failed };
}

-- the depot's call, by what the folder was made to be and what was counted
pub makes_does : (c : Call) (old new : Option Tree) (r : Result Unit DepotFault) (f f' w w' : ℕ) (s s' : WorkState) → Makes c old new r → Counted c f f' w w' s s' r
    → Does c (disk_of old f w s) (disk_of new f' w' s') r
makes_does c None new r f f' w w' s s' m counted = subst (λ (n : Option Tree). Does c (disk_of None f w s) (disk_of n f' w' s') r) (sym m) (none_does c r f f' w w' s s' counted)
makes_does c (Some t) new r f f' w w' s s' m counted =
    subst (λ (n : Option Tree). Does c (disk_of (Some t) f w s) (disk_of n f' w' s') r) (sym m.1) (moves_does c t m.0 r f f' w w' s s' m.2 counted)

-- ---- a part of a call

-- so far a power cut leaves what one before might have left, or what the whole call makes of it
pub record Partly (c : Call) (old new : Tree) : Type 0 where
  pub main_stays : MainStays c (slots_in old.names) (slots_in new.names)
  pub journal_stays : JournalStays c (slots_in old.names) (slots_in new.names)
  pub work_stays : WorkStays c (slots_in old.names) (slots_in new.names)
  pub within : (i : Image) → CutLeaves new.names i → CutLeaves old.names i ⊎ Reached c old i
  pub goes : GoesOn (Reached c old) old new

pub partly_refl : (c : Call) (t : Tree) → Partly c t t
partly_refl c t = record { main_stays = main_same c _; journal_stays = journal_same c _; work_stays = work_same c _; within = λ i h. inl h; goes = goes_nowhere (Reached c t) t }

pub partly_shrinks : (c : Call) (a b d : Tree) → Partly c a b → Shrinks b d → Partly c a d
partly_shrinks c a b d p q = record {
  main_stays = subst (MainStays c (slots_in a.names)) (sym q.slots) p.main_stays;
  journal_stays = subst (JournalStays c (slots_in a.names)) (sym q.slots) p.journal_stays;
  work_stays = subst (WorkStays c (slots_in a.names)) (sym q.slots) p.work_stays;
  within = λ i h. p.within i (q.fewer i h);
  goes = goes_quiet (Reached c a) a b d p.goes q.goes;
}

-- it ended in a fault
pub partly_fails : (c : Call) (e : DepotFault) → IsLoud c → (a b : Tree) → Partly c a b → Moves c (Err e) a b
partly_fails c e loud a b p = record {
  main = tt;
  journal = tt;
  work = tt;
  main_stays = p.main_stays;
  journal_stays = p.journal_stays;
  work_stays = p.work_stays;
  images = λ i h. ⊎_elim (λ old. (i, old, Crash-kept c _ e i)) (λ made. (made.0, made.1, Crash-any c _ (Err e) i made.0 made.2)) (p.within i h);
  goes = p.goes;
  quiet = λ f f' w w' s s'. loud_quiet c loud _ _;
  sure = λ f w s. tt;
}

-- ---- after the names were settled

pub shrunk_fails : (c : Call) (e : DepotFault) → IsLoud c → (x y : Option Tree) → On Shrinks x y → Makes c x y (Err e)
shrunk_fails c e loud x y p = on_weaker Shrinks (Moves c (Err e)) x y (λ a b is is' q. partly_fails c e loud a b (partly_shrinks c a a b (partly_refl c a) q)) p

from_slots : (c : Call) (r : Result Unit DepotFault) → IsLoud c → (a b d : Tree) → Shrinks a b → Moves c r b d → Moves c r a d
from_slots c r loud a b d p m = record {
  main = subst (λ (s : Slots). OnOk r ((slots_in d.names).main ≡ (effect c s).main)) p.slots m.main;
  journal = subst (λ (s : Slots). OnOk r ((slots_in d.names).journal ≡ (effect c s).journal)) p.slots m.journal;
  work = subst (λ (s : Slots). OnOk r ((slots_in d.names).work ≡ (effect c s).work)) p.slots m.work;
  main_stays = subst (λ (s : Slots). MainStays c s (slots_in d.names)) p.slots m.main_stays;
  journal_stays = subst (λ (s : Slots). JournalStays c s (slots_in d.names)) p.slots m.journal_stays;
  work_stays = subst (λ (s : Slots). WorkStays c s (slots_in d.names)) p.slots m.work_stays;
  images = λ i h. let from = m.images i h in (from.0, p.fewer from.0 from.1, subst (λ (s : Slots). Crash c s r from.0 i) p.slots from.2);
  goes = record {
    clock = omega (arith, p.goes.clock, m.goes.clock);
    since = λ n i le h. ⊎_elim
        (λ early. ⊎_elim (λ old. inl old) (λ none. absurd none) (p.goes.since n i le early))
        (λ made. inr (made.0, p.fewer made.0 made.1, subst (λ (s : Slots). Crash c s (Ok tt) made.0 i) p.slots made.2))
        (m.goes.since n i (omega (arith, p.goes.clock, le)) h);
    stay = λ n i le h. m.goes.stay n i (omega (arith, p.goes.clock, le)) (p.goes.stay n i le h);
  };
  quiet = λ f f' w w' s s'. loud_quiet c loud _ _;
  sure = m.sure;
}

pub shrunk_makes : (c : Call) (r : Result Unit DepotFault) → IsLoud c → (x y z : Option Tree) → On Shrinks x y → Makes c y z r → Makes c x z r
shrunk_makes c r loud x y z p m = on_then Shrinks (Moves c r) (Moves c r) (λ a b d. from_slots c r loud a b d) x y z p m

-- ---- where it was settled

-- what was told before of the slots is told still
pub shrunk_told : (P : Slots → Type 0) (x y : Option Tree) → On Shrinks x y → (IsTrue (is_some x) → P (slots_of x)) → IsTrue (is_some y) → P (slots_of y)
shrunk_told P None y p told there = absurd (false≢true (subst (λ (o : Option Tree). IsTrue (is_some o)) p there))
shrunk_told P (Some t) y p told there =
    let held : P (slots_of (Some p.0)) = subst P (sym p.2.slots) (told refl) in subst (λ (o : Option Tree). P (slots_of o)) (sym p.1) held

-- ---- the depot's answers

pub fails_does : (c : Call) (r : Result Unit DepotFault) → IsErr r → (x y : Option Tree) (f f' w w' : ℕ) (s s' : WorkState) → ((e : DepotFault) → Makes c x y (Err e))
    → s' ≡ state_at_fault c s → w' ≡ w → f ≤ f' → Rose f f' → Does c (disk_of x f w s) (disk_of y f' w' s') r
fails_does c r failed x y f f' w w' s s' makes is none later rose = on_erred (λ o. Does c (disk_of x f w s) (disk_of y f' w' s') o) r failed
    (λ e. makes_does c x y (Err e) f f' w w' s s' (makes e) (counted_fault c f f' w w' s s' e is none later rose))

pub ok_does : (c : Call) (u : Unit {0}) (x y : Option Tree) (f f' w w' : ℕ) (s s' : WorkState) → Makes c x y (Ok u)
    → s' ≡ state_at_ok c s → w' ≡ w + piece c → f ≤ f' → Does c (disk_of x f w s) (disk_of y f' w' s') (Ok u)
ok_does c u x y f f' w w' s s' makes is exact later = makes_does c x y (Ok u) f f' w w' s s' makes (counted_ok c f f' w w' s s' u is exact later)

pub fault_does : (c : Call) (e : DepotFault) (x y : Option Tree) (f f' w w' : ℕ) (s s' : WorkState) → Makes c x y (Err e)
    → s' ≡ state_at_fault c s → w' ≡ w → f ≤ f' → Rose f f' → Does c (disk_of x f w s) (disk_of y f' w' s') (Err e)
fault_does c e x y f f' w w' s s' makes is none later rose = makes_does c x y (Err e) f f' w w' s s' makes (counted_fault c f f' w w' s s' e is none later rose)

-- the names couldn't be settled
pub unsettled_does : (c : Call) → IsLoud c → (r : Result Unit DepotFault) → IsErr r → (x y : Option Tree) (f f' w w' : ℕ) (s s' : WorkState) → On Shrinks x y
    → s' ≡ state_at_fault c s → w' ≡ w → CountsFaults f f' r → Does c (disk_of x f w s) (disk_of y f' w' s') r
unsettled_does c loud (Ok u) failed x y f f' w w' s s' p is none cause = absurd (false≢true failed)
unsettled_does c loud (Err e) failed x y f f' w w' s s' p is none cause = fault_does c e x y f f' w w' s s' (shrunk_fails c e loud x y p) is none cause.later cause.failed
