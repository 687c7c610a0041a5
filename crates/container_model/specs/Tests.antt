-- Tests in the order of reading: the first one that holds, and whether chunks were read to their end.
use Rattle.std.specs.Prelude.{List, [], ◌∷◌, Bool, true, false, Option, Some, None, if◌then◌else◌}
use Rattle.container_model.specs.Chunk.{Stop, ends, bad_header, passes, out_of_turns}

-- what the first test that holds tells
abbrev pub first : {W : Type 0} → List (Bool × W) → Option W
first [] = None
first (t ∷ ts) = if t.0 then Some t.1 else first ts

-- the first of two refusals or faults
abbrev pub or_else : {W : Type 0} → Option W → Option W → Option W
or_else None b = b
or_else (Some w) b = Some w

-- whether chunks were read to the end
abbrev pub ended : Stop → Bool
ended ends = true
ended bad_header = false
ended passes = false
ended out_of_turns = false
