-- The files that are made from a number (this project's own).
use Rattle.std.specs.Prelude.{ℕ, ◌+◌, ◌*◌, ◌<◌, ◌≤◌, List, [], ◌++◌}
use Rattle.part_tree.specs.declared.names.Kind.{Kind}
use Rattle.part_tree.specs.declared.names.Kind.TheVariants.{Wave, Rf64, Bw64, Avi, Mov}
use Rattle.me_generate.specs.Avi.{avi_head, avi_middle}
use Rattle.me_generate.specs.Movie.{movie_head, movie_middle}
use Rattle.me_generate.specs.Rows.{rows}
use Rattle.me_generate.specs.Wave.{wave_head}
use Rattle.me_generate.specs.declared.rows.Row.TheVariants.{Second, Picture, Entry, Place, Sample}
use Rattle.me_generate.specs.declared.shape.Shape.{Shape}

-- the greatest number from which a file of a kind is made, 0 where none is
abbrev pub limit_of : Kind → ℕ
limit_of Wave = 14000
limit_of Avi = 1000000
limit_of Mov = 1000000
limit_of Rf64 = 0
limit_of Bw64 = 0

-- a file of that kind is made from n
abbrev pub IsMade : Kind → ℕ → Type 0
IsMade kind n = (0 < n) × (n ≤ limit_of kind)

-- n seconds of sound
abbrev pub wave_shape : ℕ → Shape
wave_shape n = record { head = wave_head n; first = Second; middle = []; last = Second; lasts = 0 }

-- n pictures, and their index
abbrev pub avi_shape : ℕ → Shape
avi_shape n = record { head = avi_head n; first = Picture; middle = avi_middle n; last = Entry; lasts = n }

-- the places of n samples, and the samples
abbrev pub movie_shape : ℕ → Shape
movie_shape n = record { head = movie_head n; first = Place (180 + 4 * n); middle = movie_middle n; last = Sample; lasts = n }

abbrev pub shape_of : Kind → ℕ → Shape
shape_of Wave n = wave_shape n
shape_of Avi n = avi_shape n
shape_of _ n = movie_shape n

-- a file of this shape
abbrev pub whole : Shape → ℕ → List ℕ
whole s n = s.head ++ rows s.first n ++ s.middle ++ rows s.last s.lasts

-- The file that is made from n.
unfoldable pub stated : Kind → ℕ → List ℕ
stated kind n = whole (shape_of kind n) n
