-- The journal is taken away.
use Rattle.std.proofs.Common.{◌≡◌, ◌⊎◌, inl, inr, ⊎_elim, ℕ, List, refl, sym, subst}
use Rattle.std.specs.Prelude.{Option, Some, None, option_map, is_some, IsTrue, Result, Ok, Err, IsErr}
use Rattle.me_disk.specs.declared.depot.DepotFault.{DepotFault}
use Rattle.me_disk.specs.declared.depot.Slot.TheVariants.{Journal}
use Rattle.me_disk.specs.Disk.{Image}
use Rattle.me_disk.specs.Calls.Call.{DropJournal}
use Rattle.me_folder.specs.Files.{File, content}
use Rattle.me_folder.specs.Tree.{Tree, held_by, FileLeaves, CutLeaves}
use Rattle.me_folder.specs.Ops.{Remove, SyncNames, after, Did, Meets}
use Rattle.me_folder.specs.Told.{slots_of}
use Rattle.me_folder.proofs.Cuts.{NameLeaves-held}
use Rattle.folder_depot.specs.Moves.{On, Reached, Moves, Makes, Shrinks}
use Rattle.folder_depot.specs.Cleared.{Cleared}
use Rattle.folder_depot.proofs.Kept.{on_erred}
use Rattle.folder_depot.proofs.Trees.{goes_after, goes_nowhere, on_same, on_did, on_then, on_weaker, shrinks_names, shrunk_unnamed}
use Rattle.folder_depot.proofs.Makes.{Partly, partly_refl, partly_shrinks, partly_fails}

some_not_none : (l : List ℕ) → Some l ≡ None → ⊥
some_not_none l e = cc

-- a power cut leaves nothing where there is no file
leaves_none : (f : Option File) (m : Option (List ℕ)) → option_map content f ≡ None → FileLeaves f m → m ≡ None
leaves_none None None e h = refl
leaves_none None (Some l) e h = absurd h
leaves_none (Some f) m e h = absurd (some_not_none (content f) e)

removed_within : (t : Tree) (i : Image) → CutLeaves (after (Remove Journal) t).names i → CutLeaves t.names i ⊎ Reached DropJournal t i
removed_within t i h = ⊎_elim
    (λ now. inr (
      record { main = i.main; journal = held_by t.names.journal },
      record { main = h.main; journal = NameLeaves-held t.names.journal },
      record { main = refl; journal = leaves_none None i.journal refl now },
    ))
    (λ old. inl (record { main = h.main; journal = old }))
    h.journal

removed : (t : Tree) → Partly DropJournal t (after (Remove Journal) t)
removed t = record {
  main_stays = refl;
  journal_stays = tt;
  work_stays = refl;
  within = removed_within t;
  goes = goes_after (Reached DropJournal t) (Remove Journal) t t (goes_nowhere (Reached DropJournal t) t) (removed_within t);
}

partly_cleared : (x y : Option Tree) → Cleared Journal x y → On (Partly DropJournal) x y
partly_cleared x y cleared = ⊎_elim (λ same. on_same (Partly DropJournal) (partly_refl DropJournal) x y same) (λ did. on_did (Partly DropJournal) (Remove Journal) x y (λ t is needs. removed t) did) cleared

fails : (e : DepotFault) (x y : Option Tree) → On (Partly DropJournal) x y → Makes DropJournal x y (Err e)
fails e x y p = on_weaker (Partly DropJournal) (Moves DropJournal (Err e)) x y (λ a b is is' q. partly_fails DropJournal e tt a b q) p

pub uncleared_fails : (r : Result Unit DepotFault) → IsErr r → (x y : Option Tree) → Cleared Journal x y → Makes DropJournal x y r
uncleared_fails r failed x y cleared = on_erred (λ o. Makes DropJournal x y o) r failed (λ e. fails e x y (partly_cleared x y cleared))

-- no journal stands, and then the names are made safe
dropped_moves : (u : Unit {0}) (a b : Tree) → Partly DropJournal a b → held_by b.names.journal ≡ None → Moves DropJournal (Ok u) a (after SyncNames b)
dropped_moves u a b p none =
    let whole = partly_shrinks DropJournal a b (after SyncNames b) p (shrinks_names b) in
    record {
      main = p.main_stays;
      journal = none;
      work = p.work_stays;
      main_stays = p.main_stays;
      journal_stays = tt;
      work_stays = p.work_stays;
      images = λ i h.
          let gone : i.journal ≡ None = ⊎_elim (λ now. leaves_none b.names.journal.now i.journal none now) (λ old. absurd old) h.journal in
          ⊎_elim (λ old. (i, old, record { main = refl; journal = gone })) (λ made. made) (whole.within i h);
      goes = whole.goes;
      quiet = λ f f' w w' s s'. tt;
      sure = λ f w s. tt;
    }

drop_makes : (u : Unit {0}) (x y z : Option Tree) → Cleared Journal x y → (IsTrue (is_some y) → (slots_of y).journal ≡ None) → Did SyncNames y z → Makes DropJournal x z (Ok u)
drop_makes u x y z cleared gone did = on_then (Partly DropJournal) (λ b d. (held_by b.names.journal ≡ None) × (d ≡ after SyncNames b)) (Moves DropJournal (Ok u))
    (λ a b d p q. subst (Moves DropJournal (Ok u) a) (sym q.1) (dropped_moves u a b p q.0)) x y z
    (partly_cleared x y cleared)
    (on_did (λ b d. (held_by b.names.journal ≡ None) × (d ≡ after SyncNames b)) SyncNames y z
    (λ t is needs. (subst (λ (o : Option Tree). IsTrue (is_some o) → (slots_of o).journal ≡ None) is gone refl, refl)) did)

pub drops : (r : Result Unit DepotFault) (x y z : Option Tree) → Cleared Journal x y → (IsTrue (is_some y) → (slots_of y).journal ≡ None) → Meets SyncNames y z r → Makes DropJournal x z r
drops (Ok u) x y z cleared gone did = drop_makes u x y z cleared gone did
drops (Err e) x y z cleared gone failed = fails e x z
    (on_then (Partly DropJournal) Shrinks (Partly DropJournal) (partly_shrinks DropJournal) x y z (partly_cleared x y cleared) (shrunk_unnamed y z failed))
