-- An edit of several carriers in one list of chunks, as steps one after the other.
use Rattle.std.specs.Prelude.{List, [], ◌∷◌}
use Rattle.std.specs.List.{flat_map}
use Rattle.container_model.specs.Chunk.{Chunk}
use Rattle.container_model.specs.Units.{Cell, live}
use Rattle.carrier_model.specs.Cells.{Act, acted, acted_cells}

-- a part of an edit, by the chunks that are there
abbrev pub Step : Type 0
Step = List Chunk → Act

-- the cells after all steps
abbrev pub carried : List Step → List Cell → List Cell
carried [] xs = xs
carried (s ∷ ss) xs = carried ss (acted_cells (s (flat_map live xs)) xs)

-- the chunks after all steps
abbrev pub stepped : List Step → List Chunk → List Chunk
stepped [] cs = cs
stepped (s ∷ ss) cs = stepped ss (acted (s cs) cs)
