-- The names of the streams as they are read, of one stream after the other (AVI RIFF File Reference, strn).
use Rattle.std.specs.Prelude.{◌≡◌, ℕ, suc, ◌==◌, List, [], ◌∷◌, ◌++◌, map, if◌then◌else◌}
use Rattle.std.specs.List.{AllByRecursion}
use Rattle.part_tree.specs.declared.field.FieldName.{FieldName}
use Rattle.part_tree.specs.declared.field.FieldName.TheVariants.{Stream}
use Rattle.part_tree.specs.declared.names.Span.{Span}
use Rattle.container_model.specs.Chunk.{ends}
use Rattle.field_model.specs.Fields.{FieldMap, plain}
use Rattle.avi_model.specs.Map.{bytes_in}
use Rattle.avi_names.specs.Names.{chunks_of, names_of}

-- the names in a stream's list
abbrev pub names_at : List ℕ → Span → List (List ℕ)
names_at b strl = map (bytes_in b) (names_of b strl)

-- only the stream of a number has these names
abbrev pub stream_held : ℕ → List (List ℕ) → FieldMap
stream_held n vs (Stream m) = if n == m then map plain vs else []
stream_held n vs _ = []

-- the names of streams, numbered from a number on
abbrev pub streams_held : List ℕ → ℕ → List Span → FieldMap
streams_held b n [] name = []
streams_held b n (s ∷ ss) name = stream_held n (names_at b s) name ++ streams_held b (suc n) ss name

-- the chunks of each stream's list end with it
abbrev pub StreamsEnd : List ℕ → List Span → Type 0
StreamsEnd b ss = AllByRecursion (λ s. (chunks_of b s).stop ≡ ends) ss
