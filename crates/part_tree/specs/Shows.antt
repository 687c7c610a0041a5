-- What a report tells of a file of any kind.
use Rattle.std.specs.Prelude.{ℕ, List}
use Rattle.std.specs.declared.option.Option.{Option}
use Rattle.part_tree.specs.declared.fields.Entry.{Entry}
use Rattle.part_tree.specs.declared.names.Kind.{Kind}
use Rattle.part_tree.specs.declared.names.Span.{Span}
use Rattle.part_tree.specs.declared.shows.Track.{Track}

-- Its kind, the length of its sound or pictures in bytes, its fields, the counted entries of its indexes in AVI alone, and
-- in a movie its tracks and the bodies that hold its samples.
pub record Told : Type 0 where
  pub kind : Kind
  pub payload : ℕ
  pub fields : List Entry
  pub entries : Option ℕ
  pub tracks : List Track
  pub mdats : List Span
