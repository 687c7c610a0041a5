-- What the words ask for, and how long the file is that is made.
use Rattle.std.specs.Prelude.{ℕ, ◌*◌, ◌/◌, List, Option, Some, None, codes, bytes_eq, if◌then◌else◌}
use Rattle.bench_tables.specs.declared.anew.Rows.{Rows}
use Rattle.bench_tables.specs.declared.anew.Rows.TheVariants.{Chunks, Index, Copy}

-- the rows that a word names
abbrev pub rows_named : List ℕ → Option Rows
rows_named word = if bytes_eq word (codes "chunks") then Some Chunks else (if bytes_eq word (codes "index") then Some Index else (if bytes_eq word (codes "copy") then Some Copy else None))

-- the bytes of the whole rows of so many bytes
abbrev pub new_len : Rows → ℕ → ℕ
new_len Chunks len = len / 4 * 4
new_len Index len = len / 16 * 16
new_len Copy len = len
