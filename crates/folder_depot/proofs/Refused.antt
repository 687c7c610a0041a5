-- An install that leaves its last step out is no install, neither is one of a file that is not safe, and a sync after one that
-- failed is no sync.
use Rattle.std.proofs.Common.{◌≡◌, ℕ, List, [], ◌∷◌, get_or, inl, inr, refl, sym, ap, arith, ◌+◌, ◌≤◌, lit≤}
use Rattle.std.specs.Prelude.{false, true, Option, Some, None, Ok}
use Rattle.me_disk.specs.declared.depot.Slot.TheVariants.{Main, Work}
use Rattle.me_disk.specs.declared.depot.WorkState.{WorkState}
use Rattle.me_disk.specs.Disk.{Image, bytes_of}
use Rattle.me_disk.specs.Calls.{TornBytes}
use Rattle.me_disk.specs.Calls.Call.{InstallMain, SyncMain}
use Rattle.me_disk.specs.Steps.{Does}
use Rattle.me_folder.specs.Files.{File, Wrote}
use Rattle.me_folder.specs.Tree.{Name, Tree}
use Rattle.me_folder.specs.Ops.{after}
use Rattle.me_folder.specs.Ops.Op.{Rename, SyncFile, SyncNames}
use Rattle.me_folder.specs.Told.{disk_of}

-- a name that stands for this file, and did before
abbrev name_for : Option File → Name
name_for f = record { now = f; older = [] }

abbrev one : File
one = record { safe = 1 ∷ []; changes = []; doubted = false }

abbrev two : File
two = record { safe = 2 ∷ []; changes = []; doubted = false }

-- the file 1, and beside it the new file 2
abbrev ready : Tree
ready = record { names = record { main = name_for (Some one); journal = name_for None; work = name_for (Some two) }; past = [] }

abbrev old_image : Image
old_image = record { main = Some (1 ∷ []); journal = None }

abbrev first_byte : Option (List ℕ) → ℕ
first_byte m = get_or (bytes_of m) 0 0

differ : (a b : ℕ) → a ≡ b → a + 1 ≤ b → ⊥
differ a b same less = absurd (omega arith)

-- the rename alone
pub rename_alone : (f w f' w' : ℕ) (s s' : WorkState) → Does InstallMain (disk_of (Some ready) f w s) (disk_of (Some (after (Rename Work Main) ready)) f' w' s') (Ok tt) → ⊥
rename_alone f w f' w' s s' does =
    let from = does.crash.images old_image (record { main = inr (inl refl); journal = inl tt }) in
    differ 1 2 (ap first_byte from.2.main) (lit≤ tt)

-- a new file that is not safe: it holds nothing that is, and 2 was written
abbrev torn : File
torn = record { safe = []; changes = Wrote 0 (2 ∷ []) ∷ []; doubted = false }

abbrev unsafe_work : Tree
unsafe_work = record { names = record { main = name_for (Some one); journal = name_for None; work = name_for (Some torn) }; past = [] }

any_bytes : (l : List ℕ) → TornBytes 0 1 [] l
any_bytes l = record { no_shorter = omega arith; before = λ p low here. absurd (omega arith); after = λ p low here. absurd (omega arith) }

-- it may leave 3, whatever names are made safe
pub unsafe_install : (f w f' w' : ℕ) (s s' : WorkState)
    → Does InstallMain (disk_of (Some unsafe_work) f w s) (disk_of (Some (after SyncNames (after (Rename Work Main) unsafe_work))) f' w' s') (Ok tt) → ⊥
unsafe_install f w f' w' s s' does =
    let from = does.crash.images (record { main = Some (3 ∷ []); journal = None }) (record { main = inl ([], refl, any_bytes (3 ∷ [])); journal = inl tt }) in
    differ 2 3 (sym (ap first_byte from.2.main)) (lit≤ tt)

-- a file whose sync failed, and was then synced again
abbrev doubtful : Tree
doubtful = record { names = record { main = name_for (Some (record { safe = 1 ∷ []; changes = Wrote 0 (2 ∷ []) ∷ []; doubted = true })); journal = name_for None; work = name_for None }; past = [] }

one_left : TornBytes 0 1 (1 ∷ []) (1 ∷ [])
one_left = record { no_shorter = omega arith; before = λ p low here. refl; after = λ p low here. refl }

-- it may still leave what it held before the write
pub sync_again : (f w f' w' : ℕ) (s s' : WorkState) → Does SyncMain (disk_of (Some doubtful) f w s) (disk_of (Some (after (SyncFile Main) doubtful)) f' w' s') (Ok tt) → ⊥
sync_again f w f' w' s s' does = differ 1 2 (ap first_byte (ap (λ (i : Image). i.main) (does.sure old_image (record { main = inl (1 ∷ [], refl, one_left); journal = inl tt })))) (lit≤ tt)
