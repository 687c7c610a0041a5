-- What a reader of tables answers.
use Rattle.std.specs.Prelude.{◌≡◌, ◌⊎◌, Option, Some, None, Result, Ok, Err}
use Rattle.core_table.specs.declared.fault.TableFault.{TableFault}
use Rattle.core_table.specs.declared.fault.TableFault.TheVariants.{Memory}

-- this, or want of memory
abbrev pub Answers : {T : Type 0} → Result T TableFault → Result T TableFault → Type 0
Answers answer result = (result ≡ answer) ⊎ (result ≡ Err Memory)

-- the fault, if there is one, or else what comes of the rest
abbrev pub unless : {T : Type 0} → Option TableFault → Result T TableFault → Result T TableFault
unless (Some fault) rest = Err fault
unless None rest = rest

-- the fault, if there is one, or else what comes of the value
abbrev pub and_then : {S T : Type 0} → Result S TableFault → (S → Result T TableFault) → Result T TableFault
and_then (Ok value) more = more value
and_then (Err fault) more = Err fault

-- the fault, if there is one, or else another value
abbrev pub map_ok : {S T : Type 0} → (S → T) → Result S TableFault → Result T TableFault
map_ok change (Ok value) = Ok (change value)
map_ok change (Err fault) = Err fault
