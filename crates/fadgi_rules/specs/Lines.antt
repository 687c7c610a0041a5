-- The items of a line, one after the other.
use Rattle.std.specs.Prelude.{ℕ, List, [], ◌∷◌, get_or, set, Bool, true, false, not, ◌&&◌}
use Rattle.field_model.specs.History.{is_item, first_letter}

-- whether it is an item whose letter isn't among those seen
abbrev pub is_fresh : List Bool → List ℕ → Bool
is_fresh seen item = is_item item && not (get_or seen (first_letter item) false)

-- the same for each item, where it is seen from then on
abbrev pub are_fresh : List Bool → List (List ℕ) → Bool
are_fresh seen [] = true
are_fresh seen (item ∷ items) = is_fresh seen item && are_fresh (set seen (first_letter item) true) items
