-- Whether a file is a movie, by its first twelve bytes.
use Rattle.std.specs.Prelude.{ℕ, List, Bool, true, false, Option, Some}
use Rattle.part_tree.specs.Kinds.{kind}
use Rattle.part_tree.specs.declared.names.Kind.{Kind}
use Rattle.part_tree.specs.declared.names.Kind.TheVariants.{Mov}

-- the kind is that of movies
abbrev pub is_mov : Option Kind → Bool
is_mov (Some Mov) = true
is_mov k = false

-- the first bytes are those of a movie
abbrev pub begins_movie : List ℕ → Bool
begins_movie b = is_mov (kind b)
