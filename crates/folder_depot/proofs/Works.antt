-- Calls on `Work` alone.
use Rattle.std.proofs.Common.{◌≡◌, ⊎_elim, ℕ, List, [], refl, sym, ◌∙◌, ap, subst}
use Rattle.std.specs.Prelude.{Option, Some, None, option_map, is_some, IsSome, IsTrue, Result, Ok, Err, OnOk, IsErr, ◌++◌}
use Rattle.std.proofs.lemmas.Bool.{false≢true}
use Rattle.me_disk.specs.declared.depot.Slot.TheVariants.{Work}
use Rattle.me_disk.specs.declared.depot.DepotFault.{DepotFault}
use Rattle.me_disk.specs.Disk.{Slots, bytes_of}
use Rattle.me_disk.specs.Calls.{Call, effect}
use Rattle.me_disk.specs.Calls.Call.{BeginWork, AppendWork, SyncWork, DropWork}
use Rattle.me_folder.specs.Tree.{Name, Names, Tree, held_by, slots_in}
use Rattle.me_folder.specs.Files.{File, content, appended}
use Rattle.me_folder.specs.Ops.{Create, Append, SyncFile, after, part, Did, Failed, Meets}
use Rattle.me_folder.specs.Told.{slots_of}
use Rattle.me_folder.proofs.Bytes.{changed-end}
use Rattle.me_folder.proofs.Cuts.{safe_content}
use Rattle.folder_depot.specs.Moves.{On, Reached, Moves, Makes, MovesWork}
use Rattle.folder_depot.specs.Cleared.{Cleared}
use Rattle.folder_depot.proofs.Kept.{on_ok, on_erred, IsOnWork, work_crash, work_kept, work_sure, quiet_kept}
use Rattle.folder_depot.proofs.Trees.{goes_weaker, on_did, on_then, on_weaker, on_failed, work_refl, work_trans, work_leaves, work_left, work_after, work_cleared}

-- the folder with another `Work`
abbrev other_work : Tree → Name → List Names → Tree
other_work t w past = record { names = record { main = t.names.main; journal = t.names.journal; work = w }; past = past }

quiet_at : (c : Call) → IsOnWork c → (r : Result Unit DepotFault) (a : Tree) (w : Name) (past : List Names) → MovesWork a (other_work a w past)
    → OnOk r (held_by w ≡ (effect c (slots_in a.names)).work) → Moves c r a (other_work a w past)
quiet_at c on r a w past moves work =
    let kept = work_kept c (slots_in a.names) (held_by w) on in
    record {
      main = on_ok r kept.main;
      journal = on_ok r kept.journal;
      work = work;
      main_stays = kept.main_stays;
      journal_stays = kept.journal_stays;
      work_stays = kept.work_stays;
      images = λ i h. (i, work_leaves a (other_work a w past) moves i h, work_crash c _ r i on);
      goes = goes_weaker (λ i. ⊥) (Reached c a) a (other_work a w past) (λ i none. absurd none) moves.goes;
      quiet = λ f f' n n' s s'. quiet_kept c _ _ (record {
        clock = moves.goes.clock;
        images = λ i h. work_leaves a (other_work a w past) moves i h;
        images_stay = λ i h. work_left a (other_work a w past) moves i h;
        since = λ k i le h. ⊎_elim (λ old. old) (λ none. absurd none) (moves.goes.since k i le h);
        since_stay = moves.goes.stay;
      });
      sure = λ f n s. on_ok r (work_sure c _ on);
    }

quiet_moves : (c : Call) → IsOnWork c → (r : Result Unit DepotFault) (a b : Tree) → MovesWork a b → OnOk r ((slots_in b.names).work ≡ (effect c (slots_in a.names)).work) → Moves c r a b
quiet_moves c on r a b moves work =
    let is : b ≡ other_work a b.names.work b.past = λ k. record { names = record { main = moves.main k; journal = moves.journal k; work = b.names.work }; past = b.past } in
    subst (Moves c r a) (sym is) (quiet_at c on r a b.names.work b.past (subst (MovesWork a) is moves) work)

pub quiet_fails : (c : Call) → IsOnWork c → (e : DepotFault) (x y : Option Tree) → On MovesWork x y → Makes c x y (Err e)
quiet_fails c on e x y p = on_weaker MovesWork (Moves c (Err e)) x y (λ a b is is' q. quiet_moves c on (Err e) a b q tt) p

-- what it leaves of `Work` doesn't hang on what stood there
quiet_fixed : (c : Call) → IsOnWork c → (m : Option (List ℕ)) → ((s : Slots) → (effect c s).work ≡ m) → (u : Unit {0}) (x y : Option Tree) → On MovesWork x y
    → (IsTrue (is_some y) → (slots_of y).work ≡ m) → Makes c x y (Ok u)
quiet_fixed c on m fixed u x y p work = on_weaker MovesWork (Moves c (Ok u)) x y
    (λ a b is is' q.
    let there : (slots_in b.names).work ≡ m = subst (λ (o : Option Tree). IsTrue (is_some o) → (slots_of o).work ≡ m) is' work refl in
    quiet_moves c on (Ok u) a b q (there ∙ sym (fixed (slots_in a.names)))) p

pub gone_makes : (u : Unit {0}) (x y : Option Tree) → Cleared Work x y → (IsTrue (is_some y) → (slots_of y).work ≡ None) → Makes DropWork x y (Ok u)
gone_makes u x y cleared gone = quiet_fixed DropWork tt None (λ s. refl) u x y (work_cleared x y cleared) gone

created_empty : (x y : Option Tree) → Did (Create Work) x y → IsTrue (is_some y) → (slots_of y).work ≡ Some []
created_empty None y did there = absurd (false≢true (subst (λ (o : Option Tree). IsTrue (is_some o)) did there))
created_empty (Some t) y did there = ap (λ (o : Option Tree). (slots_of o).work) did.1

pub created_moves : (x y z : Option Tree) → Cleared Work x y → Did (Create Work) y z → On MovesWork x z
created_moves x y z cleared did = on_then MovesWork MovesWork MovesWork work_trans x y z (work_cleared x y cleared) (on_did MovesWork (Create Work) y z (λ t is needs. work_after (Create Work) t refl refl) did)

pub uncreated_moves : (x y z : Option Tree) → Cleared Work x y → Failed (Create Work) y z → On MovesWork x z
uncreated_moves x y z cleared failed = on_then MovesWork MovesWork MovesWork work_trans x y z (work_cleared x y cleared)
    (on_failed MovesWork (Create Work) y z work_refl (λ k t is needs. work_after (Create Work) t refl refl) failed)

pub begun_makes : (u : Unit {0}) (x y z : Option Tree) → Cleared Work x y → Did (Create Work) y z → Makes BeginWork x z (Ok u)
begun_makes u x y z cleared did = quiet_fixed BeginWork tt (Some []) (λ s. refl) u x z (created_moves x y z cleared did) (created_empty y z did)

append_held : (bytes : List ℕ) (f : Option File) → IsSome f → option_map content (option_map (appended bytes) f) ≡ Some (bytes_of (option_map content f) ++ bytes)
append_held bytes None there = absurd (false≢true there)
append_held bytes (Some f) there = ap Some (changed-end bytes (content f))

pub append_makes : (bytes : List ℕ) (u : Unit {0}) (x y : Option Tree) → Did (Append Work bytes) x y → Makes (AppendWork bytes) x y (Ok u)
append_makes bytes u x y did = on_did (Moves (AppendWork bytes) (Ok u)) (Append Work bytes) x y
    (λ t is needs. quiet_moves (AppendWork bytes) tt (Ok u) t (after (Append Work bytes) t) (work_after (Append Work bytes) t refl refl) (append_held bytes t.names.work.now needs)) did

pub append_fails : (bytes : List ℕ) (e : DepotFault) (x y z : Option Tree) → Failed (Append Work bytes) x y → On MovesWork y z → Makes (AppendWork bytes) x z (Err e)
append_fails bytes e x y z failed gone = quiet_fails (AppendWork bytes) tt e x z
    (on_then MovesWork MovesWork MovesWork work_trans x y z
    (on_failed MovesWork (Append Work bytes) x y work_refl (λ k t is needs. work_after (part k (Append Work bytes)) t refl refl) failed) gone)

pub sync_makes : (u : Unit {0}) (x y : Option Tree) → Did (SyncFile Work) x y → Makes SyncWork x y (Ok u)
sync_makes u x y did = on_did (Moves SyncWork (Ok u)) (SyncFile Work) x y
    (λ t is needs. quiet_moves SyncWork tt (Ok u) t (after (SyncFile Work) t) (work_after (SyncFile Work) t refl refl) (safe_content t.names.work.now)) did

pub sync_fails : (e : DepotFault) (x y z : Option Tree) → Failed (SyncFile Work) x y → On MovesWork y z → Makes SyncWork x z (Err e)
sync_fails e x y z failed gone = quiet_fails SyncWork tt e x z
    (on_then MovesWork MovesWork MovesWork work_trans x y z
    (on_failed MovesWork (SyncFile Work) x y work_refl (λ k t is needs. work_after (part k (SyncFile Work)) t refl refl) failed) gone)

pub gave_up : (c : Call) → IsOnWork c → (e : DepotFault) (x y z : Option Tree) → On MovesWork x y → On MovesWork y z → Makes c x z (Err e)
gave_up c on e x y z p q = quiet_fails c on e x z (on_then MovesWork MovesWork MovesWork work_trans x y z p q)

pub dropped : (r : Result Unit DepotFault) (x y : Option Tree) → Cleared Work x y → OnOk r (IsTrue (is_some y) → (slots_of y).work ≡ None) → Makes DropWork x y r
dropped (Ok u) x y cleared gone = gone_makes u x y cleared gone
dropped (Err e) x y cleared gone = quiet_fails DropWork tt e x y (work_cleared x y cleared)

pub begun : (r : Result Unit DepotFault) (x y z : Option Tree) → Cleared Work x y → Meets (Create Work) y z r → Makes BeginWork x z r
begun (Ok u) x y z cleared did = begun_makes u x y z cleared did
begun (Err e) x y z cleared failed = quiet_fails BeginWork tt e x z (uncreated_moves x y z cleared failed)

pub begun_moves : (r : Result Unit DepotFault) (x y z : Option Tree) → Cleared Work x y → Meets (Create Work) y z r → On MovesWork x z
begun_moves (Ok u) x y z cleared did = created_moves x y z cleared did
begun_moves (Err e) x y z cleared failed = uncreated_moves x y z cleared failed

pub quiet_erred : (c : Call) → IsOnWork c → (r : Result Unit DepotFault) → IsErr r → (x y : Option Tree) → On MovesWork x y → Makes c x y r
quiet_erred c on r failed x y p = on_erred (λ o. Makes c x y o) r failed (λ e. quiet_fails c on e x y p)
