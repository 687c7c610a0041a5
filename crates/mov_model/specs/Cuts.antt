-- The new file as the old one with spans replaced: the header of moov, the rows of its tables and the slots of units; and the places of the old file that tables hold.
use Rattle.std.specs.Prelude.{◌≡◌, ℕ, zero, suc, ◌+◌, ◌*◌, List, [], ◌∷◌, length, map, codes, if◌then◌else◌}
use Rattle.std.specs.List.{AllByRecursion, flat_map}
use Rattle.part_tree.specs.declared.field.EditItem.{EditItem}
use Rattle.part_tree.specs.declared.names.Span.{Span}
use Rattle.container_model.specs.Chunk.{Chunk, header_bytes, spell_all}
use Rattle.container_model.specs.Cuts.{cuts_with}
use Rattle.mov_model.specs.Carried.{Changes}
use Rattle.container_model.specs.Rows.{Width, be32, be64, spelled}
use Rattle.container_model.specs.Splice.{Cut, shift}
use Rattle.container_model.specs.Walk.{Step, chunk_at, end_at, body_at, walk}
use Rattle.mov_model.specs.Atoms.{Place, moov, stbl, format}
use Rattle.container_model.specs.Atoms.{is}
use Rattle.mov_model.specs.Tables.{tables}
use Rattle.sample_tables.specs.Tables.{count, places, rows}
use Rattle.mov_model.specs.Movie.{Movie, movie_of}
use Rattle.mov_model.specs.New.{edit_cuts, fill, whole_pieces, ends_file, kids_at, new_movie}
use Rattle.mov_model.specs.Parts.{tracks}
use Rattle.mov_model.specs.Edited.{changes}
use Rattle.mov_model.specs.Reading.{moov_steps}

-- ---- where tables hold places of the file

-- a table of chunk places: where its rows begin, how each is spelled, and how many there are
pub record RowTable : Type 0 where
  pub at : ℕ
  pub width : Width
  pub rows : ℕ

-- a table of this width whose header stands at a place
abbrev pub table_of : Width → ℕ → Chunk → RowTable
table_of w at c = record { at = body_at at c + 8; width = w; rows = count c }

-- a table of chunk places has rows of four or of eight bytes
abbrev pub tables_at : ℕ → Chunk → List RowTable
tables_at at c = if is c (codes "stco") then table_of be32 at c ∷ [] else (if is c (codes "co64") then table_of be64 at c ∷ [] else [])

-- tables stand in stbl
abbrev pub step_tables : Step Place → List RowTable
step_tables (chunk_at stbl at c) = tables_at at c
step_tables (chunk_at p at c) = []
step_tables (end_at p at stop) = []

-- the tables of all tracks, in file order
abbrev pub row_tables : List ℕ → List RowTable
row_tables b = flat_map step_tables (moov_steps (movie_of b))

-- so many rows that follow each other
abbrev pub row_spans : ℕ → ℕ → ℕ → List Span
row_spans at bytes zero = []
row_spans at bytes (suc k) = record { at = at; len = bytes } ∷ row_spans (at + bytes) bytes k

-- the bytes that hold the places of chunks
abbrev pub offset_places : List ℕ → List Span
offset_places b = flat_map (λ (t : RowTable). row_spans t.at t.width.bytes t.rows) (row_tables b)

-- ---- the spans that an edit replaces

-- the rows of a table, each with its new place
abbrev pub table_cut : (ℕ → ℕ) → Chunk → RowTable → Cut
table_cut f c t = record { at = t.at; len = t.width.bytes * t.rows; bytes = spelled t.width (map f (rows t.width c)) }

-- tables stand in stbl
abbrev pub step_cuts : (ℕ → ℕ) → Step Place → List Cut
step_cuts f (chunk_at stbl at c) = map (table_cut f c) (tables_at at c)
step_cuts f (chunk_at p at c) = []
step_cuts f (end_at p at stop) = []

-- the tables in an atom of moov
abbrev pub kid_cuts : (ℕ → ℕ) → ℕ → Chunk → List Cut
kid_cuts f at c = flat_map (step_cuts f) (walk format 5 moov at c)

-- the header of moov, with its new size
abbrev pub header_cut : Movie → ℕ → Cut
header_cut m n = record {
  at = length (spell_all m.before);
  len = length (header_bytes m.movie.form m.movie.id (length m.movie.body));
  bytes = header_bytes m.movie.form m.movie.id n;
}

-- by place: the header of moov, then the tables of the atoms that are copied and the slots of the units
abbrev pub all_cuts : Movie → Changes → List Cut
all_cuts m e = header_cut m (length (new_movie m e).movie.body) ∷ cuts_with (kid_cuts (shift (edit_cuts m e))) (fill (ends_file m e)) (kids_at m e) (whole_pieces m e)

-- no table holds a place that moves
abbrev pub TablesStay : List ℕ → List EditItem → Type 0
TablesStay o e = AllByRecursion (λ t. AllByRecursion (λ p. shift (edit_cuts (movie_of o) (changes o e)) p ≡ p) (places (tables t))) (tracks (movie_of o))

-- by place: the header of moov, and the slots of the units
abbrev pub unit_cuts : Movie → Changes → List Cut
unit_cuts m e = header_cut m (length (new_movie m e).movie.body) ∷ edit_cuts m e
