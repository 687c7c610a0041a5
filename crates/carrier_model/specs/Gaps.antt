-- What stands between the spans that an edit replaces, and where it goes (this project's own).
use Rattle.std.specs.Prelude.{ℕ, ◌+◌, ◌-◌, List, [], ◌∷◌, length}
use Rattle.part_tree.specs.Moves.{Move}
use Rattle.container_model.specs.Splice.{Cut, end_of}

-- the ranges from a place on, which go to another place on
abbrev pub between : ℕ → ℕ → List Cut → ℕ → List Move
between at to [] end = (record { at = at; len = end - at }, to) ∷ []
between at to (c ∷ cs) end = (record { at = at; len = c.at - at }, to) ∷ between (end_of c) (to + (c.at - at) + length c.bytes) cs end

-- the ranges of a file between the spans
abbrev pub moves_of : List Cut → ℕ → List Move
moves_of cs end = between 0 0 cs end
