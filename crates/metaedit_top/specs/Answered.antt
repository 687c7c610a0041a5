-- What a run answers to words.
use Rattle.std.specs.Prelude.{◌≡◌, ◌⊎◌, ℕ, Bool, true, false, IsTrue, IsSome, List, [], take, Option, Some, Ok, ⊤}
use Rattle.std.specs.Io.KnownBytes.{Appends}
use Rattle.core_table.specs.declared.fault.TableFault.{TableFault}
use Rattle.me_bytes.specs.Bytes.{IsBytes}
use Rattle.me_disk.specs.Disk.{Disk, Image, read_as}
use Rattle.edit_journal.specs.Settled.{Settles}
use Rattle.me_report.specs.declared.line.Summary.{Summary}
use Rattle.metaedit_top.specs.declared.outcome.Outcome.{Outcome}
use Rattle.metaedit_top.specs.declared.outcome.Outcome.TheVariants as outcome
use Rattle.metaedit_top.specs.declared.outcome.Stop.{Stop}
use Rattle.metaedit_top.specs.declared.words.Request.{Request}
use Rattle.metaedit_top.specs.Asked.{Accepts}
use Rattle.metaedit_top.specs.Begun.{Begins, LeavesBy, OnBegun, StandsBy, StopsBy, bytes_before}
use Rattle.metaedit_top.specs.Run.{AreBytes, HasRun, OneImage, has_journal}
use Rattle.metaedit_top.specs.Tables.{Asks, HasTableFault, reads_table, takes_table}
use Rattle.metaedit_top.specs.Told.{Fixes, Reports, summary}
use Rattle.metaedit_top.specs.Words.{makes_file, request}

-- The words, and the table that was left to be read, ask for something that stops so, and this is left.
pub record Because (words : List (List ℕ)) (left : Option (List ℕ)) (old new : Disk) (s : Stop) : Type 0 where
  pub asked : Request
  pub is : Asks words left asked
  pub stops : StopsBy asked old new s
  pub leaves : LeavesBy asked old new s

-- What is asked for was done, beginning with a file, of which and of the request this holds.
pub record DoneWith (words : List (List ℕ)) (left : Option (List ℕ)) (old new : Disk) (P : Request → List ℕ → Type 0)
    : Type 0 where
  pub asked : Request
  pub is : Asks words left asked
  pub done : OnBegun asked old (λ o. IsBytes o → HasRun asked o (bytes_before asked old o) old new × P asked o)

-- the report of a run is printed behind what was
abbrev pub Prints : Request → List ℕ → Bool → Option (List ℕ) → Option (List ℕ) → Type 0
Prints q o stood before after = (text : List ℕ) × Reports q o stood text × Appends before after text

-- the first bytes of the report are printed behind what was
abbrev pub PrintsSome : Request → List ℕ → Bool → Option (List ℕ) → Option (List ℕ) → Type 0
PrintsSome q o stood before after =
    (text : List ℕ) × Reports q o stood text × ((k : ℕ) × Appends before after (take k text))

-- The run came to its end: this is its summary, and the report is printed.
abbrev pub Ends : List (List ℕ) → Option (List ℕ) → Disk → Disk → Option (List ℕ) → Option (List ℕ) → Summary → Type 0
Ends words left old new before after s =
    DoneWith words left old new (λ q o. (s ≡ summary q o) × Prints q o (has_journal old) before after)

-- The run came to its end, but for its output: the file was edited, or not, and some of the report is printed.
abbrev pub EndsUnprinted : List (List ℕ) → Option (List ℕ) → Disk → Disk → Option (List ℕ) → Option (List ℕ) → Bool
    → Type 0
EndsUnprinted words left old new before after edited =
    DoneWith words left old new (λ q o. (edited ≡ (summary q o).changed)
    × PrintsSome q o (has_journal old) before after)

-- what the words alone fix of a summary
abbrev pub FixesBy : List (List ℕ) → Summary → Type 0
FixesBy words s = (q : Request) → request words ≡ Ok q → Fixes q.command s

-- what a crash may leave of a run
abbrev pub MayStandOf : List (List ℕ) → Option (List ℕ) → Disk → Image → Type 0
MayStandOf words left d i =
    IsTrue d.tells → (f : Option (List ℕ)) → Settles f (read_as d.slots) → AreBytes f
    → Settles f i ⊎ ((q : Request) × Asks words left q × StandsBy q f i)

-- the words ask for a file to be made
abbrev pub AsksToMake : List (List ℕ) → Type 0
AsksToMake words = (q : Request) × (request words ≡ Ok q) × (makes_file q.command ≡ true)

-- where an edit is asked for by a table, the source tells what is left of it
abbrev pub TellsTable : Request → Option (List ℕ) → Type 0
TellsTable q left = takes_table q.command ≡ true → IsSome left

-- nothing stands against what is asked for
abbrev pub AcceptsWords : List (List ℕ) → Option (List ℕ) → Disk → Type 0
AcceptsWords words left d =
    IsTrue d.tells × ((q : Request) × Asks words left q × TellsTable q left
    × ((o : List ℕ) × Begins q (read_as d.slots) o × IsBytes o × Accepts q o))

-- the run came to its end, or there was no memory
abbrev pub Finishes : Outcome → Type 0
Finishes (outcome.Done s) = ⊤
Finishes outcome.Memory = ⊤
Finishes (outcome.Usage fault) = ⊥
Finishes outcome.TableReadFault = ⊥
Finishes (outcome.TableFault fault) = ⊥
Finishes (outcome.DepotFault n) = ⊥
Finishes outcome.NoFile = ⊥
Finishes outcome.FileThere = ⊥
Finishes (outcome.JournalDamaged at) = ⊥
Finishes (outcome.NotSupported why) = ⊥
Finishes (outcome.RuleBroken broken) = ⊥
Finishes (outcome.TooLarge size limit) = ⊥
Finishes (outcome.OutFault edited) = ⊥

-- the run wrote to its output
abbrev pub printed : Outcome → Bool
printed (outcome.Done s) = true
printed (outcome.OutFault edited) = true
printed _ = false

-- the run came to the device
abbrev pub is_past_table : Outcome → Bool
is_past_table (outcome.Usage fault) = false
is_past_table outcome.TableReadFault = false
is_past_table (outcome.TableFault fault) = false
is_past_table outcome.Memory = false
is_past_table _ = true

-- the run was refused for its words or its table
abbrev pub is_before_device : Outcome → Bool
is_before_device (outcome.Usage fault) = true
is_before_device outcome.TableReadFault = true
is_before_device (outcome.TableFault fault) = true
is_before_device _ = false

-- the answer to a table that has this fault: it is told, unless the table couldn't be read or there was no memory
abbrev pub TellsFault : TableFault → Outcome → Type 0
TellsFault fault result =
    (result ≡ outcome.TableFault fault) ⊎ ((result ≡ outcome.TableReadFault) ⊎ (result ≡ outcome.Memory))

-- What a run makes of the table that its source had left, by what it has left then.
pub record TakesTable (words : List (List ℕ)) (left after : Option (List ℕ)) (result : Outcome) : Type 0 where
  pub faulty : (fault : TableFault) → result ≡ outcome.TableFault fault → HasTableFault words left fault
  pub told : (all : List ℕ) (fault : TableFault) → left ≡ Some all → HasTableFault words left fault
      → TellsFault fault result
  -- a run that comes to the device has read the table to its end
  pub whole : (all : List ℕ) → left ≡ Some all → reads_table words ≡ true → is_past_table result ≡ true
      → after ≡ Some []

-- after a device fault the depot has to be opened anew; else what it reads as is again its one image
abbrev pub IsOneAgain : Outcome → Disk → Type 0
IsOneAgain (outcome.DepotFault n) new = ⊤
IsOneAgain _ new = OneImage new
