-- Places that follow each other in a file, and their shapes (this project's own).
use Rattle.std.specs.Prelude.{◌≡◌, ℕ, ◌-◌, ◌≤◌, List, [], ◌∷◌, Bool}
use Rattle.container_model.specs.Windows.{window}
use Rattle.unit_plan.specs.declared.place.Place.{Place}
use Rattle.unit_plan.specs.declared.place.What.{What}
use Rattle.unit_plan.specs.declared.place.What.TheVariants.{Stays, Pads, Changes}
use Rattle.unit_plan.specs.Shapes.{Shape, stays, pads, changes}

-- the shape of what is to stand at a place, where what stood there are these bytes
abbrev pub shape_by : List ℕ → ℕ → Bool → ℕ → What → Shape
shape_by old len lacks parts Stays = stays len lacks parts
shape_by old len lacks parts Pads = pads old lacks parts
shape_by old len lacks parts (Changes now) = changes old now parts

-- the shape of a place of a file
abbrev pub shape_in : List ℕ → Place → Shape
shape_in b p = shape_by (window b p.at p.next) (p.next - p.at) p.lacks_pad p.parts p.what

-- the places follow each other from a place up to an end
abbrev pub Follow : ℕ → List Place → ℕ → Type 0
Follow at [] end = at ≡ end
Follow at (p ∷ ps) end = (p.at ≡ at) × (p.at ≤ p.next) × (p.next ≤ end) × Follow p.next ps end
