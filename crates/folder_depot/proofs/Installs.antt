-- `Work` gets another name.
use Rattle.std.proofs.Common.{◌≡◌, ◌⊎◌, inl, inr, ⊎_elim, ℕ, ◌≤◌, refl, sym, ◌∙◌, ap, subst, arith}
use Rattle.std.specs.Prelude.{Option, Some, Ok, Err, IsTrue}
use Rattle.me_disk.specs.declared.depot.DepotFault.{DepotFault}
use Rattle.me_disk.specs.declared.depot.Slot.{Slot}
use Rattle.me_disk.specs.declared.depot.Slot.TheVariants.{Main, Journal, Work}
use Rattle.me_disk.specs.declared.depot.WorkState.{WorkState}
use Rattle.me_disk.specs.declared.depot.WorkState.TheVariants.{Closed}
use Rattle.me_disk.specs.Steps.{Does}
use Rattle.me_disk.specs.Calls.{state_at_fault}
use Rattle.me_disk.specs.Disk.{Image}
use Rattle.me_disk.specs.Calls.Call.{InstallMain, InstallJournal}
use Rattle.me_folder.specs.Tree.{Tree, held_by, CutLeaves}
use Rattle.me_folder.specs.Ops.{Rename, SyncNames, after, IsMove, Did, Failed}
use Rattle.me_folder.specs.Told.{disk_of, is_safe, file_at}
use Rattle.me_folder.proofs.Cuts.{NameLeaves-held}
use Rattle.folder_depot.specs.Moves.{On, Reached, Moves, Makes, MovesWork, Shrinks, install_call}
use Rattle.folder_depot.proofs.Kept.{IsLoud}
use Rattle.folder_depot.proofs.Trees.{goes_after, goes_nowhere, goes_quiet, on_did, on_then, on_failed, on_weaker, work_leaves, shrinks_names, shrunk_unnamed}
use Rattle.folder_depot.proofs.Makes.{Partly, partly_refl, partly_shrinks, partly_fails, ok_does}
use Rattle.folder_depot.proofs.Syncs.{safe_leaves}

main_within : (t : Tree) → IsTrue (is_safe t.names.work.now) → (i : Image) → CutLeaves (after (Rename Work Main) t).names i → CutLeaves t.names i ⊎ Reached InstallMain t i
main_within t safe i h = ⊎_elim
    (λ now. inr (
      record { main = held_by t.names.main; journal = i.journal },
      record { main = NameLeaves-held t.names.main; journal = h.journal },
      record { main = safe_leaves t.names.work.now i.main safe now; journal = refl },
    ))
    (λ old. inl (record { main = old; journal = h.journal }))
    h.main

journal_within : (t : Tree) → IsTrue (is_safe t.names.work.now) → (i : Image) → CutLeaves (after (Rename Work Journal) t).names i → CutLeaves t.names i ⊎ Reached InstallJournal t i
journal_within t safe i h = ⊎_elim
    (λ now. inr (
      record { main = i.main; journal = held_by t.names.journal },
      record { main = h.main; journal = NameLeaves-held t.names.journal },
      record { main = refl; journal = safe_leaves t.names.work.now i.journal safe now },
    ))
    (λ old. inl (record { main = h.main; journal = old }))
    h.journal

-- after the rename, and before the names are safe
renamed : (to : Slot) → IsMove Work to → (t : Tree) → IsTrue (is_safe t.names.work.now) → Partly (install_call to) t (after (Rename Work to) t)
renamed Main move t safe = record {
  main_stays = tt;
  journal_stays = refl;
  work_stays = tt;
  within = main_within t safe;
  goes = goes_after (Reached InstallMain t) (Rename Work Main) t t (goes_nowhere (Reached InstallMain t) t) (main_within t safe);
}
renamed Journal move t safe = record {
  main_stays = refl;
  journal_stays = tt;
  work_stays = tt;
  within = journal_within t safe;
  goes = goes_after (Reached InstallJournal t) (Rename Work Journal) t t (goes_nowhere (Reached InstallJournal t) t) (journal_within t safe);
}
renamed Work move t safe = absurd move

-- and then they are
installed : (to : Slot) → IsMove Work to → (u : Unit {0}) (t : Tree) → IsTrue (is_safe t.names.work.now) → Moves (install_call to) (Ok u) t (after SyncNames (after (Rename Work to) t))
installed Main move u t safe =
    let p = partly_shrinks InstallMain t _ _ (renamed Main move t safe) (shrinks_names (after (Rename Work Main) t)) in
    record {
      main = refl;
      journal = refl;
      work = refl;
      main_stays = tt;
      journal_stays = refl;
      work_stays = tt;
      images = λ i h. (
        record { main = held_by t.names.main; journal = i.journal },
        record { main = NameLeaves-held t.names.main; journal = ⊎_elim (λ now. inl now) (λ none. absurd none) h.journal },
        record { main = ⊎_elim (λ now. safe_leaves t.names.work.now i.main safe now) (λ none. absurd none) h.main; journal = refl },
      );
      goes = p.goes;
      quiet = λ f f' w w' s s'. tt;
      sure = λ f w s. tt;
    }
installed Journal move u t safe =
    let p = partly_shrinks InstallJournal t _ _ (renamed Journal move t safe) (shrinks_names (after (Rename Work Journal) t)) in
    record {
      main = refl;
      journal = refl;
      work = refl;
      main_stays = refl;
      journal_stays = tt;
      work_stays = tt;
      images = λ i h. (
        record { main = i.main; journal = held_by t.names.journal },
        record { main = ⊎_elim (λ now. inl now) (λ none. absurd none) h.main; journal = NameLeaves-held t.names.journal },
        record { main = refl; journal = ⊎_elim (λ now. safe_leaves t.names.work.now i.journal safe now) (λ none. absurd none) h.journal },
      );
      goes = p.goes;
      quiet = λ f f' w w' s s'. tt;
      sure = λ f w s. tt;
    }
installed Work move u t safe = absurd move

-- `Work` is taken away after a part of it
partly_work : (to : Slot) → IsMove Work to → (a b d : Tree) → Partly (install_call to) a b → MovesWork b d → Partly (install_call to) a d
partly_work Main move a b d p q = record {
  main_stays = tt;
  journal_stays = ap held_by q.journal ∙ p.journal_stays;
  work_stays = tt;
  within = λ i h. p.within i (work_leaves b d q i h);
  goes = goes_quiet (Reached InstallMain a) a b d p.goes q.goes;
}
partly_work Journal move a b d p q = record {
  main_stays = ap held_by q.main ∙ p.main_stays;
  journal_stays = tt;
  work_stays = tt;
  within = λ i h. p.within i (work_leaves b d q i h);
  goes = goes_quiet (Reached InstallJournal a) a b d p.goes q.goes;
}
partly_work Work move a b d p q = absurd move

pub install_loud : (to : Slot) → IsMove Work to → IsLoud (install_call to)
install_loud Main move = tt
install_loud Journal move = tt
install_loud Work move = absurd move

-- the file under `Work`, where it is told
safe_in : (x : Option Tree) (t : Tree) → x ≡ Some t → IsTrue (is_safe (file_at Work x)) → IsTrue (is_safe t.names.work.now)
safe_in x t is safe = subst (λ (o : Option Tree). IsTrue (is_safe (file_at Work o))) is safe

module _ (to : Slot) (move : IsMove Work to) (x y : Option Tree) (safe : IsTrue (is_safe (file_at Work x))) where
  abbrev Renamed : Tree → Tree → Type 0
  Renamed a b = IsTrue (is_safe a.names.work.now) × (b ≡ after (Rename Work to) a)

  pub install_makes : (u : Unit {0}) (z : Option Tree) → Did (Rename Work to) x y → Did SyncNames y z → Makes (install_call to) x z (Ok u)
  install_makes u z moved synced = on_then Renamed (λ b d. d ≡ after SyncNames b) (Moves (install_call to) (Ok u))
      (λ a b d p q. subst (Moves (install_call to) (Ok u) a) (sym (q ∙ ap (after SyncNames) p.1)) (installed to move u a p.0)) x y z
      (on_did Renamed (Rename Work to) x y (λ t is needs. (safe_in x t is safe, refl)) moved)
      (on_did (λ b d. d ≡ after SyncNames b) SyncNames y z (λ t is needs. refl) synced)

  partly_moved : Did (Rename Work to) x y → On (Partly (install_call to)) x y
  partly_moved moved = on_did (Partly (install_call to)) (Rename Work to) x y (λ t is needs. renamed to move t (safe_in x t is safe)) moved

  partly_unmoved : Failed (Rename Work to) x y → On (Partly (install_call to)) x y
  partly_unmoved failed = on_failed (Partly (install_call to)) (Rename Work to) x y (partly_refl (install_call to)) (λ k t is needs. renamed to move t (safe_in x t is safe)) failed

  gives_up : (e : DepotFault) (z : Option Tree) → On (Partly (install_call to)) x y → On MovesWork y z → Makes (install_call to) x z (Err e)
  gives_up e z p gone = on_weaker (Partly (install_call to)) (Moves (install_call to) (Err e)) x z (λ a b is is' q. partly_fails (install_call to) e (install_loud to move) a b q)
      (on_then (Partly (install_call to)) MovesWork (Partly (install_call to)) (partly_work to move) x y z p gone)

  pub unmoved_fails : (e : DepotFault) (z : Option Tree) → Failed (Rename Work to) x y → On MovesWork y z → Makes (install_call to) x z (Err e)
  unmoved_fails e z failed gone = gives_up e z (partly_unmoved failed) gone

  pub unsynced_fails : (e : DepotFault) (v z : Option Tree) → Did (Rename Work to) x y → Failed SyncNames y v → On MovesWork v z → Makes (install_call to) x z (Err e)
  unsynced_fails e v z moved failed gone =
      let so_far : On (Partly (install_call to)) x v
      = on_then (Partly (install_call to)) Shrinks (Partly (install_call to)) (partly_shrinks (install_call to)) x y v (partly_moved moved) (shrunk_unnamed y v failed) in
      on_weaker (Partly (install_call to)) (Moves (install_call to) (Err e)) x z (λ a b is is' q. partly_fails (install_call to) e (install_loud to move) a b q)
      (on_then (Partly (install_call to)) MovesWork (Partly (install_call to)) (partly_work to move) x v z so_far gone)

-- ---- the depot's answers

pub install_closes : (to : Slot) → IsMove Work to → (s : WorkState) → state_at_fault (install_call to) s ≡ Closed
install_closes Main move s = refl
install_closes Journal move s = refl
install_closes Work move s = absurd move

pub install_ok_does : (to : Slot) → IsMove Work to → (x y : Option Tree) (f f' w w' : ℕ) (s : WorkState) (u : Unit {0}) → Makes (install_call to) x y (Ok u) → w' ≡ w → f ≤ f'
    → Does (install_call to) (disk_of x f w s) (disk_of y f' w' Closed) (Ok u)
install_ok_does Main move x y f f' w w' s u makes none later = ok_does InstallMain u x y f f' w w' s Closed makes refl (omega (arith, none)) later
install_ok_does Journal move x y f f' w w' s u makes none later = ok_does InstallJournal u x y f f' w w' s Closed makes refl (omega (arith, none)) later
install_ok_does Work move x y f f' w w' s u makes none later = absurd move
