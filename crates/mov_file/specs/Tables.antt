-- What the heads of tables say of them.
use Rattle.std.specs.Prelude.{◌≡◌, ℕ, ◌+◌, ◌*◌, List, Bool, true, false, length, take, drop, nat_lt}
use Rattle.std.specs.Int.{w32, from_be_bytes}
use Rattle.container_model.specs.Chunk.{Chunk}
use Rattle.sample_tables.specs.Tables.{is_external, is_short_reference, size_rows}
use Rattle.sample_tables.specs.Counts.{size_count}
use Rattle.mov_file.specs.declared.tables.References.{References}
use Rattle.mov_file.specs.declared.tables.References.TheVariants.{Short, External, Local}

-- a table is too short for its rows of this length
abbrev pub rows_short : ℕ → List ℕ → Bool
rows_short len body = nat_lt (length body) (8 + len * from_be_bytes w32 (take 4 (drop 4 body)))

-- a table of sizes is too short for them
abbrev pub sizes_short : List ℕ → Bool
sizes_short body = nat_lt (length body) (12 + size_rows (from_be_bytes w32 (take 4 (drop 4 body))) (size_count body))

-- what the references of a track say
abbrev pub AreReferences : Chunk → References → Type 0
AreReferences c Short = is_short_reference c ≡ true
AreReferences c External = (is_short_reference c ≡ false) × (is_external c ≡ true)
AreReferences c Local = (is_short_reference c ≡ false) × (is_external c ≡ false)
