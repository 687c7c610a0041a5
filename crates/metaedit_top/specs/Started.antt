-- The file that the words name, and the status where the program can't begin (this project's own).
use Rattle.std.specs.Prelude.{ℕ, List, [], ◌∷◌}
use Rattle.std.specs.declared.io.ErrorKind.{ErrorKind}
use Rattle.std.specs.declared.io.ErrorKind.TheVariants as kind
use Rattle.metaedit_top.specs.declared.outcome.Outcome.TheVariants as outcome
use Rattle.metaedit_top.specs.declared.started.StartFault.{StartFault}
use Rattle.metaedit_top.specs.declared.started.StartFault.TheVariants.{Memory, NoWords}
use Rattle.metaedit_top.specs.Text.{status}

-- the word behind the command, which names the file; empty where there is none
abbrev pub file_in : List (List ℕ) → List ℕ
file_in [] = []
file_in (command ∷ []) = []
file_in (command ∷ file ∷ rest) = file

-- why the program can't begin, by the kind of the system's error
abbrev pub fault_of : ErrorKind → StartFault
fault_of kind.OutOfMemory = Memory
fault_of _ = NoWords

-- the status where the program can't begin
abbrev pub start_status : StartFault → ℕ
start_status Memory = status outcome.Memory
start_status NoWords = 14
