-- The indexes of an AVI file: which tables stand where, and the file with their numbers changed (AVI RIFF File Reference; OpenDML
-- 1.02; that numbers move with the essence is this project's own).
use Rattle.std.specs.Prelude.{ℕ, List, [], ◌∷◌, ◌++◌, length, map, Bool, true, false}
use Rattle.std.specs.List.{flat_map}
use Rattle.part_tree.specs.declared.names.Span.{Span}
use Rattle.part_tree.specs.Ranges.{begins_one, clear_of}
use Rattle.container_model.specs.Written.{Write, written}
use Rattle.container_model.specs.Tables.{Table, table_of, named}
use Rattle.avi_index.specs.Rows.{Base, from_movi, base_of, old_rows, old_body}
use Rattle.opendml_index.specs.Index.{How, is_super, super_places, index_body}
use Rattle.avi_model.specs.Avi.{avi_of, stream_indexes, old_indexes, first_movi}

-- ---- index chunks

-- the chunks that a super index names
abbrev pub named_in : List ℕ → List ℕ → Bool → List Table
named_in b body true = map (named b) (super_places body)
named_in b body false = []

-- the chunks that a stream's index names
abbrev pub named_by : List ℕ → Table → List Table
named_by b t = named_in b t.body (is_super t.body)

-- the index chunks of the streams
abbrev pub streams : List ℕ → List Table
streams b = map table_of (stream_indexes (avi_of b))

-- the index chunks: those of the streams, and those that are named
abbrev pub indexes : List ℕ → List Table
indexes b = streams b ++ flat_map (named_by b) (streams b)

-- ---- idx1

-- idx1, if there is one
abbrev pub olds : List ℕ → List Table
olds b = map table_of (old_indexes (avi_of b))

-- the base of idx1, and of none
abbrev pub base_in : ℕ → List Table → Base
base_in movi [] = from_movi
base_in movi (t ∷ ts) = base_of movi (old_rows t.body)

-- the base of the offsets
abbrev pub base : List ℕ → Base
base b = base_in (first_movi (avi_of b)).at (olds b)

-- ---- the numbers of all tables changed

-- an index chunk written with its numbers changed
abbrev pub write_index : How → Table → Write
write_index h t = record { at = t.at; bytes = index_body h t.body }

-- idx1 written with its places changed
abbrev pub write_old : How → Base → Table → Write
write_old h base t = record { at = t.at; bytes = old_body h.place base t.body }

-- all tables written with their numbers changed
abbrev pub writes : How → List ℕ → List Write
writes h b = map (write_index h) (indexes b) ++ map (write_old h (base b)) (olds b)

-- the file with the numbers of all tables changed
abbrev pub renumbered : How → List ℕ → List ℕ
renumbered h b = written (writes h b) 0 b

-- ---- where index chunks stand

-- where the body of a table stands
abbrev pub table_span : Table → Span
table_span t = record { at = t.at; len = length t.body }

-- the bodies of tables
abbrev pub spans : List Table → List Span
spans ts = map table_span ts

-- an index chunk begins at a place
abbrev pub is_head : List Table → ℕ → Bool
is_head ts p = begins_one (spans ts) p

-- no byte of a range is in an index chunk
abbrev pub misses : List Table → ℕ → ℕ → Bool
misses ts p n = clear_of (spans ts) p n
