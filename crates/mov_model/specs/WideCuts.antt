-- The new file of a movie with wide tables as one splice of the old one: the headers of the atoms that grow, the rows of the tables, each in eight bytes, and the slots of units (this project's own).
use Rattle.std.specs.List.{flat_map}
use Rattle.std.specs.Prelude.{List, None, Option, Some, [], codes, if◌then◌else◌, length, map, sum_by, take, ℕ, ◌*◌, ◌+◌, ◌-◌, ◌∷◌, ◌≡◌}
use Rattle.part_tree.specs.Moves.{place}
use Rattle.carrier_model.specs.Gaps.{moves_of}
use Rattle.container_model.specs.Atoms.{is}
use Rattle.container_model.specs.Chunk.{Chunk, header_bytes}
use Rattle.container_model.specs.Cuts.{cuts_with}
use Rattle.container_model.specs.Rows.{be32, be64, spelled}
use Rattle.container_model.specs.Splice.{Ascend, Cut, Outside, shift, splice}
use Rattle.container_model.specs.Walk.{Step, body_at, chunk_at, end_at, walk}
use Rattle.mov_model.specs.Atoms.{Place, format, moov, opens, stbl}
use Rattle.mov_model.specs.Carried.{Changes}
use Rattle.mov_model.specs.Cuts.{RowTable, header_cut, step_tables, table_cut, tables_at}
use Rattle.mov_model.specs.Movie.{Movie, all_atoms, movie_of}
use Rattle.mov_model.specs.New.{edit_cuts, ends_file, fill, kids_at, new_movie, whole_pieces}
use Rattle.mov_model.specs.Support.{IsHeld}
use Rattle.mov_model.specs.Widen.{past_moov, widened}
use Rattle.sample_tables.specs.Tables.{count, rows}

-- ---- by how much atoms grow

-- each row gets eight bytes
abbrev pub row_growth : RowTable → ℕ
row_growth t = (8 - t.width.bytes) * t.rows

-- the rows of the tables that are met
abbrev pub rows_growth : List (Step Place) → ℕ
rows_growth ss = sum_by row_growth (flat_map step_tables ss)

-- those of the tables in an atom
abbrev pub grown_in : Place → Chunk → ℕ
grown_in p c = rows_growth (walk format 5 p 0 c)

-- ---- the spans that are replaced

-- the header of an atom, with a type and the length of a body
abbrev pub head_cut : ℕ → Chunk → List ℕ → ℕ → Cut
head_cut at c id n = record { at = at; len = length (header_bytes c.form c.id (length c.body)); bytes = header_bytes c.form id n }

-- the rows of a `stco`, each with its new place in eight bytes
abbrev pub wide_rows : (ℕ → ℕ) → ℕ → Chunk → Cut
wide_rows f at c = record { at = body_at at c + 8; len = 4 * count c; bytes = spelled be64 (map f (rows be32 c)) }

-- a `stco` becomes `co64`, and the rows of a `co64` get their new places
abbrev pub wide_table_cuts : (ℕ → ℕ) → ℕ → Chunk → List Cut
wide_table_cuts f at c =
    if is c (codes "stco") then head_cut at c (codes "co64") (length c.body + 4 * count c) ∷ (wide_rows f at c ∷ []) else map (table_cut f c) (tables_at at c)

-- an atom that is opened gets its new size; tables stand in stbl
abbrev pub wide_cuts_at : (ℕ → ℕ) → Place → ℕ → Chunk → Option Place → List Cut
wide_cuts_at f p at c (Some q) = head_cut at c c.id (length c.body + grown_in p c) ∷ []
wide_cuts_at f stbl at c None = wide_table_cuts f at c
wide_cuts_at f p at c None = []

-- by what is met
abbrev pub wide_step_cuts : (ℕ → ℕ) → Step Place → List Cut
wide_step_cuts f (chunk_at p at c) = wide_cuts_at f p at c (opens p c.id (take 4 c.body))
wide_step_cuts f (end_at p at stop) = []

-- in an atom of moov
abbrev pub wide_kid_cuts : (ℕ → ℕ) → ℕ → Chunk → List Cut
wide_kid_cuts f at c = flat_map (wide_step_cuts f) (walk format 5 moov at c)

-- where a place goes: moov grows by its tables, and then the slots shift it
abbrev pub wide_place : Movie → Changes → ℕ → ℕ
wide_place m e p = shift (edit_cuts (widened m) e) (past_moov m p)

-- by place: the header of moov, then the headers and rows in the atoms that are copied and the slots of the units
abbrev pub wide_cuts : Movie → Changes → List Cut
wide_cuts m e = header_cut m (length (new_movie (widened m) e).movie.body) ∷ cuts_with (wide_kid_cuts (wide_place m e)) (fill (ends_file m e)) (kids_at m e) (whole_pieces m e)

-- It is the old file with the spans of one list replaced; these ascend, are disjoint and lie in it. What an mdat holds stands in none
-- of them, and the ranges between them put it where its place goes.
pub record IsWideSplice (o : List ℕ) (e : Changes) (n : List ℕ) : Type 0 where
  pub spliced : n ≡ splice o (wide_cuts (movie_of o) e)
  pub ascend : Ascend 0 (wide_cuts (movie_of o) e) (length o)
  pub outside : (p : ℕ) → IsHeld (all_atoms (movie_of o)) p → Outside (wide_cuts (movie_of o) e) p
  pub put : (p : ℕ) → IsHeld (all_atoms (movie_of o)) p → place (moves_of (wide_cuts (movie_of o) e) (length o)) p ≡ Some (wide_place (movie_of o) e p)
