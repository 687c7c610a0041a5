-- What is shown of a file (this project's own).
use Rattle.std.specs.Prelude.{ℕ, suc, List, [], ◌∷◌, ◌++◌, Option, Some, None, codes, decimal}
use Rattle.std.specs.List.{flat_map}
use Rattle.part_tree.specs.declared.field.FieldName.{FieldName}
use Rattle.part_tree.specs.declared.field.Value.{Value}
use Rattle.part_tree.specs.declared.fields.Entry.{Entry}
use Rattle.part_tree.specs.declared.names.Kind.{Kind}
use Rattle.part_tree.specs.declared.names.Span.{Span}
use Rattle.part_tree.specs.declared.shows.Track.{Track}
use Rattle.part_tree.specs.Fields.{names, values}
use Rattle.part_tree.specs.Shows.{Told}
use Rattle.field_model.specs.Fields.{FieldMap}
use Rattle.field_model.specs.KindFacts.{facts}
use Rattle.field_model.specs.Shown.{shown}
use Rattle.field_model.specs.Texts.{name_text}
use Rattle.escapes.specs.Escapes.{escaped}
use Rattle.track_samples.specs.Tables.{chunk_count, sample_count}
use Rattle.me_report.specs.Lines.{count_line, or_nothing}

-- the line of a kind
abbrev pub kind_line : Kind → List ℕ
kind_line kind = codes "kind " ++ ((facts kind).word ++ codes "\n")

-- the line of the counted entries of indexes, where they are counted
abbrev pub index_line : Option ℕ → List ℕ
index_line None = []
index_line (Some n) = count_line (codes "index ") n

-- The line of a track by its number: how many chunks it has, and how many samples that lie in the `mdat` of their
-- chunk.
abbrev pub counted_line : ℕ → ℕ → ℕ → List ℕ
counted_line n chunks samples =
    codes "track " ++ (decimal n ++ (codes " chunks " ++ (decimal chunks
    ++ (codes " samples " ++ (decimal samples ++ codes "\n")))))

-- the lines of the tracks of a file whose samples these bodies hold; tracks are counted on from a number
abbrev pub track_lines : List ℕ → List Span → ℕ → List Track → List ℕ
track_lines b bodies n [] = []
track_lines b bodies n (t ∷ ts) =
    counted_line n (chunk_count b t) (sample_count b bodies t) ++ track_lines b bodies (suc n) ts

-- the line of a text that a field shows, with escapes
abbrev pub text_line : FieldName → List ℕ → List ℕ
text_line name text = or_nothing (name_text name) ++ (codes "=" ++ (escaped text ++ codes "\n"))

-- none where no text is shown
abbrev pub line_of : FieldName → Option (List ℕ) → List ℕ
line_of name None = []
line_of name (Some text) = text_line name text

-- the line of a value
abbrev pub value_line : FieldMap → FieldName → Value → List ℕ
value_line f name v = line_of name (shown f name v)

-- the lines of a field, in file order
abbrev pub field_lines : FieldMap → FieldName → List ℕ
field_lines f name = flat_map (value_line f name) (f name)

-- the lines of all fields, in field order
abbrev pub all_lines : List Entry → List ℕ
all_lines es = flat_map (field_lines (values es)) (names es)

-- the kind, the length of the sound or pictures, and the counted entries of indexes
abbrev pub head_lines : Told → List ℕ
head_lines t = kind_line t.kind ++ (count_line (codes "essence ") t.payload ++ index_line t.entries)

-- These, the tracks, and the fields of the file with these bytes.
abbrev pub show_report : List ℕ → Told → List ℕ
show_report b t = head_lines t ++ (track_lines b t.mdats 1 t.tracks ++ all_lines t.fields)

-- the same of a file without tracks: its map alone tells it
abbrev pub plain_report : Told → List ℕ
plain_report t = head_lines t ++ all_lines t.fields
