-- Sources and sinks in memory, as their callers see them, and the calls of theirs that fail.
use Rattle.std.specs.Prelude.{◌≡◌, ◌↔◌, ◌⊎◌, ℕ, ◌+◌, ◌<◌, List, ◌++◌, length, Contains, Result, MatchResult, IsErr}
use Rattle.me_disk.specs.Causes.{one_more}
use Rattle.me_disk.specs.declared.stream.SourceFault.{SourceFault}
use Rattle.me_disk.specs.declared.stream.SinkFault.{SinkFault}

-- the calls, counted from 1, that are to fail, and the counts of calls and faults
pub record Schedule : Type 0 where
  pub failing : List ℕ
  pub calls : ℕ
  pub faults : ℕ

-- before the first call
abbrev pub fresh_schedule : List ℕ → Schedule
fresh_schedule failing = record { failing = failing; calls = 0; faults = 0 }

-- the next call is one of those that are to fail
abbrev pub IsListed : Schedule → Type 0
IsListed s = Contains s.failing (one_more s.calls)

-- a call was counted, and its fault where it failed
pub record Counted {T F : Type 0} (old new : Schedule) (result : Result T F) : Type 0 where
  pub failing : new.failing ≡ old.failing
  pub calls : new.calls ≡ one_more old.calls
  pub faults : MatchResult result (λ _. new.faults ≡ old.faults) (λ _. new.faults ≡ one_more old.faults)

-- the bytes that a source has left
pub record SourceBytes : Type 0 where
  pub left : List ℕ
  pub schedule : Schedule

-- the bytes that a sink has taken, and how many it can take in all
pub record SinkBytes : Type 0 where
  pub written : List ℕ
  pub room : ℕ
  pub schedule : Schedule

-- a read fails exactly where it is listed
pub record SourceCall (old new : SourceBytes) (result : Result ℕ SourceFault) : Type 0 where
  pub fails : IsErr result ↔ IsListed old.schedule
  pub counted : Counted old.schedule new.schedule result

-- A write fails exactly where it is listed or its piece is longer than the room that is left, and then nothing is written.
pub record SinkCall (piece : List ℕ) (old new : SinkBytes) (result : Result Unit SinkFault) : Type 0 where
  pub fails : IsErr result ↔ (IsListed old.schedule ⊎ (old.room < length old.written + length piece))
  pub counted : Counted old.schedule new.schedule result
  pub written : MatchResult result (λ _. new.written ≡ old.written ++ piece) (λ _. new.written ≡ old.written)
  pub room : new.room ≡ old.room
