-- A row of places by their bytes alone: what a planner holds of a row of cells (this project's own).
use Rattle.std.specs.Prelude.{ℕ, ◌+◌, List, [], ◌∷◌, length, Bool}
use Rattle.container_model.specs.Chunk.{Chunk, spell, spell_all}
use Rattle.container_model.specs.Units.{Cell, kept, gap, edited, lacks_pad}

-- A chunk that stays, by its length, whether it lacks its pad, and how many parts it counts for; padding, by its bytes; or
-- a place that is edited: the old bytes, the new ones, and the parts of these.
pub data Shape : Type 0 where
  stays : ℕ → Bool → ℕ → Shape
  pads : List ℕ → Bool → ℕ → Shape
  changes : List ℕ → List ℕ → ℕ → Shape

-- how many parts some chunks count for, where a chunk's are told
abbrev pub parts_in : (Chunk → ℕ) → List Chunk → ℕ
parts_in g [] = 0
parts_in g (c ∷ cs) = g c + parts_in g cs

-- the shape of a cell
abbrev pub shape_of : (Chunk → ℕ) → Cell → Shape
shape_of g (kept c) = stays (length (spell c)) (lacks_pad c) (g c)
shape_of g (gap c) = pads (spell c) (lacks_pad c) (g c)
shape_of g (edited old now) = changes (spell_all old) (spell_all now) (parts_in g now)
