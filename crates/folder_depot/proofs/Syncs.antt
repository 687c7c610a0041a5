-- What a power cut leaves of safe files under safe names.
use Rattle.std.proofs.Common.{◌≡◌, ◌⊎◌, ⊎_elim, ℕ, List, [], ◌∷◌, refl, sym, ◌∙◌, ap, subst, arith}
use Rattle.std.specs.Prelude.{Bool, true, false, not, ◌&&◌, Option, Some, None, option_map, IsTrue, Result, Ok, Err, OnOk}
use Rattle.std.proofs.lemmas.Bool.{false≢true}
use Rattle.me_disk.specs.declared.depot.DepotFault.{DepotFault}
use Rattle.me_disk.specs.declared.depot.Slot.{Slot}
use Rattle.me_disk.specs.declared.depot.Slot.TheVariants.{Main, Journal, Work}
use Rattle.me_disk.specs.declared.depot.WorkState.{WorkState}
use Rattle.me_disk.specs.Causes.{CountsFaults}
use Rattle.me_disk.specs.Steps.{Does}
use Rattle.me_disk.specs.Disk.{Image, Slots, read_as}
use Rattle.me_disk.specs.Calls.Call.{SyncMain}
use Rattle.me_folder.specs.Files.{File, Change, content, changed_all, synced, made_safe, MayBecome}
use Rattle.me_folder.specs.Tree.{Name, Names, Tree, held_by, slots_in, FileLeaves, OneLeaves, NameLeaves, CutLeaves}
use Rattle.me_folder.specs.Ops.{SyncFile, SyncNames, Doubt, after, Did, Meets}
use Rattle.me_folder.specs.Told.{disk_of, is_none_of, is_safe, is_trusted, is_settled, are_settled, trusts, file_at}
use Rattle.folder_depot.specs.Moves.{On, Reached, Moves, Makes, Shrinks}
use Rattle.folder_depot.specs.Cleared.{Synced}
use Rattle.folder_depot.proofs.Trees.{on_weaker, on_did, goes_weaker, shrinks_file}
use Rattle.folder_depot.proofs.Makes.{Counted, counted_ok, counted_fault, makes_does, ok_does, shrunk_fails}

-- ---- tests that hold of both

both_left : (a b : Bool) → IsTrue (a && b) → IsTrue a
both_left true b h = refl
both_left false b h = h

both_right : (a b : Bool) → IsTrue (a && b) → IsTrue b
both_right true b h = h
both_right false b h = absurd (false≢true h)

-- ---- a file and a name

may_safe : (cs : List Change) (b l : List ℕ) → IsTrue (is_none_of cs) → MayBecome cs b l → l ≡ changed_all cs b
may_safe [] b l safe h = h
may_safe (c ∷ cs) b l safe h = absurd (false≢true safe)

-- a power cut leaves a safe file as it is
pub safe_leaves : (f : Option File) (m : Option (List ℕ)) → IsTrue (is_safe f) → FileLeaves f m → m ≡ option_map content f
safe_leaves None None safe h = refl
safe_leaves None (Some l) safe h = absurd h
safe_leaves (Some f) None safe h = absurd h
safe_leaves (Some f) (Some l) safe h = ap Some (may_safe f.changes f.safe l (both_left (is_none_of f.changes) (not f.doubted) safe) h)

no_older : (fs : List (Option File)) (m : Option (List ℕ)) → IsTrue (is_none_of fs) → OneLeaves fs m → ⊥
no_older [] m none h = h
no_older (f ∷ fs) m none h = false≢true none

-- under a safe name
name_leaves : (n : Name) (m : Option (List ℕ)) → IsTrue (is_none_of n.older) → IsTrue (is_safe n.now) → NameLeaves n m → m ≡ held_by n
name_leaves n m none safe h = ⊎_elim (λ now. safe_leaves n.now m safe now) (λ old. absurd (no_older n.older m none old)) h

-- ---- all three

calm_leaves : (s : Names) → IsTrue (are_settled s) → IsTrue (is_safe s.main.now) → (i : Image) → CutLeaves s i → i ≡ read_as (slots_in s)
calm_leaves s settled main i h =
    let rest = both_right (is_none_of s.main.older) (is_none_of s.journal.older && is_safe s.journal.now) settled in
    let p : i.main ≡ held_by s.main = name_leaves s.main i.main (both_left (is_none_of s.main.older) (is_none_of s.journal.older && is_safe s.journal.now) settled) main h.main in
    let q : i.journal ≡ held_by s.journal
    = name_leaves s.journal i.journal (both_left (is_none_of s.journal.older) (is_safe s.journal.now) rest) (both_right (is_none_of s.journal.older) (is_safe s.journal.now) rest) h.journal in
    λ k. record { main = p k; journal = q k }

sync_moves : (x : Unit {0}) (a b : Tree) → Shrinks a b → IsTrue (are_settled b.names) → IsTrue (is_safe b.names.main.now) → Moves SyncMain (Ok x) a b
sync_moves x a b p settled main = record {
  main = ap (λ (s : Slots). s.main) p.slots;
  journal = ap (λ (s : Slots). s.journal) p.slots;
  work = ap (λ (s : Slots). s.work) p.slots;
  main_stays = ap (λ (s : Slots). s.main) p.slots;
  journal_stays = ap (λ (s : Slots). s.journal) p.slots;
  work_stays = ap (λ (s : Slots). s.work) p.slots;
  images = λ i h. (i, p.fewer i h, refl);
  goes = goes_weaker (λ i. ⊥) (Reached SyncMain a) a b (λ i none. absurd none) p.goes;
  quiet = λ f f' w w' s s'. tt;
  sure = λ f w s. calm_leaves b.names settled main;
}

pub synced_makes : (x : Unit {0}) (a b : Option Tree) → On Shrinks a b → IsTrue (is_settled b) → IsTrue (is_safe (file_at Main b)) → Makes SyncMain a b (Ok x)
synced_makes x a b p settled main = on_weaker Shrinks (Moves SyncMain (Ok x)) a b
    (λ s t is is' q. sync_moves x s t q (subst (λ (o : Option Tree). IsTrue (is_settled o)) is' settled) (subst (λ (o : Option Tree). IsTrue (is_safe (file_at Main o))) is' main)) p

pub settled_makes : (r : Result Unit DepotFault) (a b : Option Tree) → On Shrinks a b → OnOk r (IsTrue (is_settled b)) → OnOk r (IsTrue (is_safe (file_at Main b))) → Makes SyncMain a b r
settled_makes (Ok x) a b p settled main = synced_makes x a b p settled main
settled_makes (Err e) a b p settled main = shrunk_fails SyncMain e tt a b p

-- ---- `Work` stays

file_kept : (n : Slot) → (n ≡ Work → ⊥) → (t : Tree) → file_at Work (Some (after (SyncFile n) t)) ≡ file_at Work (Some t)
file_kept Main h t = refl
file_kept Journal h t = refl
file_kept Work h t = absurd (h refl)

doubt_kept : (n : Slot) → (n ≡ Work → ⊥) → (t : Tree) → file_at Work (Some (after (Doubt n) t)) ≡ file_at Work (Some t)
doubt_kept Main h t = refl
doubt_kept Journal h t = refl
doubt_kept Work h t = absurd (h refl)

pub synced_kept : (n : Slot) → (n ≡ Work → ⊥) → (x y : Option Tree) → Synced n x y → file_at Work y ≡ file_at Work x
synced_kept n other x y synced = ⊎_elim (λ same. ap (file_at Work) same) (λ did. ⊎_elim (λ safe. kept_by x safe) (λ lost. lost_by x lost) did) synced
  where
    kept_by : (x : Option Tree) → Did (SyncFile n) x y → file_at Work y ≡ file_at Work x
    kept_by None did = ap (file_at Work) did
    kept_by (Some t) did = ap (file_at Work) did.1 ∙ file_kept n other t

    lost_by : (x : Option Tree) → Did (Doubt n) x y → file_at Work y ≡ file_at Work x
    lost_by None did = ap (file_at Work) did
    lost_by (Some t) did = ap (file_at Work) did.1 ∙ doubt_kept n other t

pub main_not_work : Main ≡ Work → ⊥
main_not_work e = cc

pub journal_not_work : Journal ≡ Work → ⊥
journal_not_work e = cc

names_kept : (x y : Option Tree) → Did SyncNames x y → file_at Work y ≡ file_at Work x
names_kept None y did = ap (file_at Work) did
names_kept (Some t) y did = ap (file_at Work) did.1

pub named_kept : (r : Result Unit DepotFault) (x y : Option Tree) → Meets SyncNames x y r → file_at Work y ≡ file_at Work x
named_kept (Ok u) x y did = names_kept x y did
named_kept (Err e) x y failed = ⊎_elim (λ none. ap (file_at Work) none.1) (λ done. names_kept x y done.1) failed

-- ---- the depot's answers

main_safe_at : (r : Result Unit DepotFault) (b : Bool) (P : Type 0) → b ≡ false → OnOk r (IsTrue b ⊎ P) → OnOk r P
main_safe_at (Ok x) b P off h = ⊎_elim (λ on. absurd (false≢true (sym off ∙ on))) (λ p. p) h
main_safe_at (Err e) b P off h = tt

if_ok : (r : Result Unit DepotFault) (P Q : Type 0) → (P → Q) → OnOk r P → OnOk r Q
if_ok (Ok x) P Q f h = f h
if_ok (Err e) P Q f h = tt

counted_settle : (r : Result Unit DepotFault) (f f' w w' : ℕ) (s s' : WorkState) → s' ≡ s → w' ≡ w → CountsFaults f f' r → Counted SyncMain f f' w w' s s' r
counted_settle (Ok u) f f' w w' s s' state none cause = counted_ok SyncMain f f' w w' s s' u state (omega (arith, none)) cause.later
counted_settle (Err e) f f' w w' s s' state none cause = counted_fault SyncMain f f' w w' s s' e state none cause.later cause.failed

-- `Main` is made safe with all the names
pub settle_does : (r : Result Unit DepotFault) (a b : Option Tree) (f f' w w' : ℕ) (s s' : WorkState) (was now : Bool) → was ≡ false → On Shrinks a b → (IsTrue now → IsTrue (is_settled b)) → OnOk r (IsTrue now)
    → OnOk r (IsTrue was ⊎ IsTrue (is_safe (file_at Main b))) → s' ≡ s → w' ≡ w → CountsFaults f f' r → Does SyncMain (disk_of a f w s) (disk_of b f' w' s') r
settle_does r a b f f' w w' s s' was now off p settled is main state none cause =
    makes_does SyncMain a b r f f' w w' s s'
    (settled_makes r a b p (if_ok r (IsTrue now) (IsTrue (is_settled b)) settled is) (main_safe_at r was (IsTrue (is_safe (file_at Main b))) off main))
    (counted_settle r f f' w w' s s' state none cause)

-- or alone, under settled names
settled_still : (x y : Option Tree) → Did (SyncFile Main) x y → is_settled y ≡ is_settled x
settled_still None y did = ap is_settled did
settled_still (Some t) y did = ap is_settled did.1

safe_file : (f : Option File) → IsTrue (is_trusted f) → IsTrue (is_safe (option_map made_safe f))
safe_file None trusted = refl
safe_file (Some f) trusted = go f.doubted refl trusted
  where
    go : (b : Bool) → b ≡ f.doubted → IsTrue (not b) → IsTrue (is_safe (Some (synced b f)))
    go true is trusted = absurd (false≢true trusted)
    go false is trusted = refl

safe_now : (x y : Option Tree) → IsTrue (is_trusted (file_at Main x)) → Did (SyncFile Main) x y → IsTrue (is_safe (file_at Main y))
safe_now None y trusted did = subst (λ (o : Option Tree). IsTrue (is_safe (file_at Main o))) (sym did) refl
safe_now (Some t) y trusted did = subst (λ (o : Option Tree). IsTrue (is_safe (file_at Main o))) (sym did.1) (safe_file t.names.main.now trusted)

pub file_does : (u : Unit {0}) (x y : Option Tree) (f w : ℕ) (s : WorkState) → IsTrue (is_settled x) → IsTrue (trusts x) → Did (SyncFile Main) x y → Does SyncMain (disk_of x f w s) (disk_of y f w s) (Ok u)
file_does u x y f w s settled trusted did =
    ok_does SyncMain u x y f f w w s s
    (synced_makes u x y (on_did Shrinks (SyncFile Main) x y (λ t is needs. shrinks_file Main t) did) (settled_still x y did ∙ settled)
    (safe_now x y (both_left (is_trusted (file_at Main x)) (is_trusted (file_at Journal x)) trusted) did))
    refl (omega arith) (omega arith)
