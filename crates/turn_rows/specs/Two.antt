-- Two worked edits in place, each of a file of its own.
use Rattle.std.specs.Prelude.{◌≡◌, ℕ, ◌<◌, List, [], ◌∷◌, length, map, get_or, Some}
use Rattle.me_disk.specs.Disk.{Disk, Leaves}
use Rattle.part_tree.specs.Plans.{applied}
use Rattle.edit_journal.specs.Settled.{Stands, StandsAlone}
use Rattle.file_swap.specs.Midway.{SettlesEither}
use Rattle.file_swap.specs.Swap.{fresh}
use Rattle.turn_batch.specs.declared.member.Member.{Member}
use Rattle.turn_batch.specs.Members.{fresh_member}
use Rattle.crash_rows.specs.Worked.{file, in_place}

-- two members that have made no turn
abbrev pub both_fresh : List Member
both_fresh = map fresh_member (Some (fresh in_place) ∷ Some (fresh in_place) ∷ [])

-- the file that each member edits
abbrev pub the_file : ℕ → List ℕ
the_file i = file

-- two depots, and in each the file stands
pub record HoldTheFile {D : Type 0} (disk : D → Disk) (ds : List D) : Type 0 where
  pub two : length ds ≡ 2
  pub each : (i : ℕ) (d : D) → i < length ds → Stands file (disk (get_or ds i d))

-- in each of these the file stands alone
abbrev pub AllAlone : {D : Type 0} → (D → Disk) → List D → Type 0
AllAlone disk ds = (i : ℕ) (d : _) → i < length ds → StandsAlone file (disk (get_or ds i d))

-- each image that a crash of one of these at some moment might have left stands for the old file or for the new one
abbrev pub AllSettle : {D : Type 0} → (D → Disk) → List D → List D → Type 0
AllSettle disk ds ds' = (i : ℕ) (d : _) → i < length ds → Leaves (SettlesEither file (applied in_place file)) (disk (get_or ds i d)) (disk (get_or ds' i d))
