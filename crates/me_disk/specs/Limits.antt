-- Which calls of a depot in memory fail: those that are listed, come after a stop, or have no room.
use Rattle.std.specs.Prelude.{ℕ, ◌+◌, ◌-◌, ◌^◌, min, Bool, true, false, ◌||◌, ◌==◌, nat_lt, nat_le, ◌&&◌, List, [], find, Option, Some, None, option_map, is_some, if◌then◌else◌}
use Rattle.me_disk.specs.declared.limits.FailAt.{FailAt}
use Rattle.me_disk.specs.declared.limits.Room.{Room}
use Rattle.me_disk.specs.declared.limits.Fate.{Fate}
use Rattle.me_disk.specs.declared.limits.Fate.TheVariants.{Done, DoneFault, Undone}
use Rattle.me_disk.specs.Causes.{one_more}

-- which calls are to fail, how much room there is, and what was counted; a count stays at its last value
pub record Limits : Type 0 where
  pub failing : List FailAt
  -- each call after this one fails
  pub stop : Option ℕ
  pub room : Room
  -- the calls that were made
  pub calls : ℕ
  -- those of them that don't only read
  pub changes : ℕ
  -- the bytes of all their pieces, whether they were done or not
  pub asked : ℕ
  pub faults : ℕ

-- before the first call
abbrev pub fresh_limits : Room → List FailAt → Limits
fresh_limits room failing = record { failing = failing; stop = None; room = room; calls = 0; changes = 0; asked = 0; faults = 0 }

-- the first entry for this call, by whether the call is done
abbrev pub listed : List FailAt → ℕ → Option Bool
listed failing call = option_map (λ f. f.done) (find (λ f. f.call == call) failing)

-- this call comes after the stop
abbrev pub is_past : Option ℕ → ℕ → Bool
is_past None call = false
is_past (Some last) call = nat_lt last call

-- the bytes of all pieces with this one
abbrev pub asked_with : Option ℕ → ℕ → ℕ
asked_with None asked = asked
asked_with (Some piece) asked = min (asked + piece) (2 ^ 64 - 1)

-- so many calls were made already, or the next one's piece doesn't fit
abbrev pub lacks_room : Option ℕ → Limits → Bool
lacks_room piece l = nat_le l.room.calls l.changes || (is_some piece && nat_lt l.room.bytes (asked_with piece l.asked))

-- what becomes of a call that isn't refused
abbrev pub fate_listed : Option Bool → Fate
fate_listed None = Done
fate_listed (Some true) = DoneFault
fate_listed (Some false) = Undone

-- What becomes of the next call, whose piece has so many bytes, where it has one.
abbrev pub fate : Option ℕ → Limits → Fate
fate piece l = if is_past l.stop (one_more l.calls) || lacks_room piece l then Undone else fate_listed (listed l.failing (one_more l.calls))

-- the faults that were counted after a call with this fate
abbrev pub faults_after : Fate → ℕ → ℕ
faults_after Done faults = faults
faults_after _ faults = one_more faults

-- that call was counted
abbrev pub counted : Option ℕ → Limits → Limits
counted piece l = record l { calls = one_more l.calls; changes = one_more l.changes; asked = asked_with piece l.asked; faults = faults_after (fate piece l) l.faults }

-- the next call fails, if it only reads
abbrev pub read_fails : Limits → Bool
read_fails l = is_past l.stop (one_more l.calls) || is_some (listed l.failing (one_more l.calls))

-- that call was counted
abbrev pub counted_read : Limits → Limits
counted_read l = record l { calls = one_more l.calls; faults = if read_fails l then one_more l.faults else l.faults }

-- the calls that there is room for yet
abbrev pub calls_left : Limits → ℕ
calls_left l = l.room.calls - l.changes

-- and the bytes
abbrev pub bytes_left : Limits → ℕ
bytes_left l = l.room.bytes - l.asked

-- no call is to fail, and the room is what was left
abbrev pub reopened_limits : Limits → Limits
reopened_limits l = fresh_limits (record { calls = calls_left l; bytes = bytes_left l }) []
