-- Two edits of which no turn was made are ready, and what a crash leaves of their files.
use Rattle.std.proofs.Common.{◌≡◌, ℕ, zero, suc, ◌<◌, List, [], ◌∷◌, length, get_or, Some, refl, sym, ap, subst, arith}
use Rattle.me_disk.specs.Disk.{Disk, Leaves}
use Rattle.part_tree.specs.Plans.{applied}
use Rattle.edit_journal.specs.Settled.{Stands, StandsAlone}
use Rattle.file_swap.specs.Midway.{SettlesEither}
use Rattle.file_swap.specs.Swap.{fresh}
use Rattle.turn_batch.specs.declared.member.Member.{Member}
use Rattle.turn_batch.specs.Members.{open_swap, IsReady, AllLow}
use Rattle.turn_batch.specs.Schedules.{Ready, Ran, RanBy, turns_of}
use Rattle.turn_batch.proofs.Lows.{fresh_low}
use Rattle.turn_batch.proofs.Runs.{no_member}
use Rattle.crash_rows.specs.Worked.{file, in_place}
use Rattle.crash_rows.proofs.Works.{in_place_begins, surely}
use Rattle.turn_rows.specs.Two.{both_fresh, the_file, AllAlone, AllSettle, HoldTheFile}

pub both_low : (ms : List Member) → ms ≡ both_fresh → AllLow ms
both_low ms is = subst AllLow (sym is) (fresh_low (Some (fresh in_place) ∷ Some (fresh in_place) ∷ []) (refl, (refl, tt)))

one_ready : (i : ℕ) (m : Member) (d : Disk) → i < 2 → Stands file d → IsReady file (get_or both_fresh i m) d
one_ready zero m d low stands = in_place_begins (fresh in_place) d refl stands
one_ready (suc zero) m d low stands = in_place_begins (fresh in_place) d refl stands
one_ready (suc (suc i)) m d low stands = absurd (omega arith)

pub both_ready : {D : Type 0} (disk : D → Disk) (ms : List Member) (ds : List D) → ms ≡ both_fresh → HoldTheFile disk ds → Ready disk the_file ms ds
both_ready {D} disk ms ds is hold =
    subst (λ (xs : List Member). Ready disk the_file xs ds) (sym is) (λ i m d low. one_ready i m (disk (get_or ds i d)) low (hold.each i d (let two = hold.two in omega arith)))

pub two_members : (ms : List Member) → ms ≡ both_fresh → length ms ≡ 2
two_members ms is = ap (λ (xs : List Member). length xs) is

-- ---- a crash

one_settles : {D : Type 0} (disk : D → Disk) (n i : ℕ) (m m' : Member) (d d' : D) → i < 2 → StandsAlone file (disk d) → RanBy disk (open_swap (get_or both_fresh i m)) n (get_or both_fresh i m) m' file d d'
    → Leaves (SettlesEither file (applied in_place file)) (disk d) (disk d')
one_settles disk n zero m m' d d' low alone ran = ran.1.crash (surely in_place (fresh in_place) file (disk d) refl alone.only)
one_settles disk n (suc zero) m m' d d' low alone ran = ran.1.crash (surely in_place (fresh in_place) file (disk d) refl alone.only)
one_settles disk n (suc (suc i)) m m' d d' low alone ran = absurd (omega arith)

pub all_settle : {D : Type 0} (disk : D → Disk) (schedule : List ℕ) (ms ms' : List Member) (ds ds' : List D) → ms ≡ both_fresh → HoldTheFile disk ds → AllAlone disk ds → Ran disk the_file schedule ms ms' ds ds' → AllSettle disk ds ds'
all_settle disk schedule ms ms' ds ds' is hold alone ran i d low =
    let two = hold.two in
    let size = two_members ms is in
    let m = no_member in
    one_settles disk (turns_of i schedule) i m (get_or ms' i m) (get_or ds i d) (get_or ds' i d) (omega arith) (alone i d low)
    (subst (λ (xs : List Member). RanBy disk (open_swap (get_or xs i m)) (turns_of i schedule) (get_or xs i m) (get_or ms' i m) file (get_or ds i d) (get_or ds' i d)) is (ran.each i m d (omega arith)))
