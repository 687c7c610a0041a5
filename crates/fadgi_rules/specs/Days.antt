-- Dates that are written with `-`.
use Rattle.std.specs.Prelude.{ℕ, List, get_or, Bool, ◌&&◌, ◌==◌}

-- whether `-` stands at the places of a date's separators
abbrev pub has_dashes : List ℕ → Bool
has_dashes text = (get_or text 4 0 == 45) && (get_or text 7 0 == 45)
