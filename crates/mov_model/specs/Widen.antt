-- A movie whose chunk places pass 32 bits: each `stco` of a track becomes `co64`, with the same places in eight bytes each (QuickTime File Format, chunk offset atoms; when it is done is this project's own).
use Rattle.std.specs.Int.{from_be_bytes, w32}
use Rattle.std.specs.Prelude.{List, None, Option, Some, [], codes, drop, if◌then◌else◌, length, map, nat_lt, replicate, suc, take, zero, ℕ, ◌*◌, ◌++◌, ◌+◌, ◌-◌, ◌∷◌}
use Rattle.std.specs.Str.{bytes_eq}
use Rattle.container_model.specs.Atoms.{atoms_in, is}
use Rattle.container_model.specs.Chunk.{Chunk, Form, spell, spell_all}
use Rattle.container_model.specs.Deep.{Token, closed, kids, leaf, mark, opened, with_kids}
use Rattle.container_model.specs.Rows.{be32, be64, spelled}
use Rattle.mov_model.specs.Atoms.{Place, format, moov, opens, stbl}
use Rattle.mov_model.specs.Kept.{Kept, Node, keyed, other, user}
use Rattle.mov_model.specs.Movie.{Movie, movie_of, spell_movie}
use Rattle.mov_model.specs.Tables.{relocated}
use Rattle.sample_tables.specs.Tables.{count, rows}

-- ---- a track with wide tables

-- the body of a `co64` with the places of a `stco`
abbrev pub wide_body : Chunk → List ℕ
wide_body c = take 8 c.body ++ (spelled be64 (rows be32 c) ++ drop (8 + 4 * count c) c.body)

-- `stco` becomes `co64`
abbrev pub wide_table : Chunk → Chunk
wide_table c = if is c (codes "stco") then record c { id = codes "co64"; body = wide_body c } else c

-- tables stand in stbl
abbrev pub wide_leaf : Place → Chunk → Chunk
wide_leaf stbl c = wide_table c
wide_leaf p c = c

-- an atom that is opened has the widened atoms in it
abbrev pub wide_at : (Place → Chunk → Chunk) → Place → Chunk → Option Place → Chunk
wide_at deeper p c None = wide_leaf p c
wide_at deeper p c (Some q) = with_kids format q c (map (deeper q) (kids format q c).chunks)

-- an atom with each `stco` made a `co64`, so many levels deep
unfoldable pub wide_in : ℕ → Place → Chunk → Chunk
wide_in zero p c = wide_leaf p c
wide_in (suc d) p c = wide_at (wide_in d) p c (opens p c.id (take 4 c.body))

-- an atom of moov
abbrev pub wide_atom : Chunk → Chunk
wide_atom c = wide_in 5 moov c

-- ---- the movie

-- moov with wide tables, where places go elsewhere
abbrev pub wide_moov : (ℕ → ℕ) → Movie → Chunk
wide_moov f m = record m.movie { body = spell_all (map (relocated f) (map wide_atom (atoms_in m.movie).chunks)) ++ (atoms_in m.movie).left }

-- where moov ends
abbrev pub moov_end : Movie → ℕ
moov_end m = length (spell_all m.before) + length (spell m.movie)

-- by how much moov grows
abbrev pub growth : Movie → ℕ
growth m = length (spell (wide_moov (λ p. p) m)) - length (spell m.movie)

-- what stands behind moov moves by that
abbrev pub past_moov : Movie → ℕ → ℕ
past_moov m p = if nat_lt p (moov_end m) then p else p + growth m

-- the movie with wide tables, which find what they found
abbrev pub widened : Movie → Movie
widened m = record m { movie = wide_moov (past_moov m) m }

-- the same of a file
unfoldable pub widened_file : List ℕ → List ℕ
widened_file o = spell_movie (widened (movie_of o))

-- ---- what is kept of it

-- a table that is kept with zeros for its places, in eight bytes each
abbrev pub wide_zeros : List ℕ → List ℕ
wide_zeros b = take 8 b ++ (replicate (8 * from_be_bytes w32 (take 4 (drop 4 b))) 0 ++ drop (8 + 4 * from_be_bytes w32 (take 4 (drop 4 b))) b)

-- a place that is opened stands before those that are open
abbrev pub entered : Option Place → List Place → List Place
entered None ps = ps
entered (Some q) ps = q ∷ ps

-- the places that are open, the innermost first, where an atom of a type is opened
abbrev pub enter : List Place → List ℕ → List Place
enter [] id = []
enter (p ∷ ps) id = entered (opens p id []) (p ∷ ps)

-- and where the innermost one ends
abbrev pub leave : List Place → List Place
leave [] = []
leave (p ∷ ps) = ps

-- a leaf in stbl that is a `stco`
abbrev pub wide_token : Place → Form → List ℕ → List ℕ → Token
wide_token stbl form id body = if bytes_eq id (codes "stco") then leaf form (codes "co64") (wide_zeros body) else leaf form id body
wide_token p form id body = leaf form id body

-- by what is open
abbrev pub wide_token_in : List Place → Form → List ℕ → List ℕ → Token
wide_token_in [] form id body = leaf form id body
wide_token_in (p ∷ ps) form id body = wide_token p form id body

-- the tokens of an atom with each `stco` in stbl made a `co64`
abbrev pub wide_tokens : List Place → List Token → List Token
wide_tokens ps [] = []
wide_tokens ps (opened form id word ∷ ts) = opened form id word ∷ wide_tokens (enter ps id) ts
wide_tokens ps (closed rest ∷ ts) = closed rest ∷ wide_tokens (leave ps) ts
wide_tokens ps (leaf form id body ∷ ts) = wide_token_in ps form id body ∷ wide_tokens ps ts
wide_tokens ps (mark name ∷ ts) = mark name ∷ wide_tokens ps ts

-- an atom of moov that is kept, with wide tables
abbrev pub wide_node : Node → Node
wide_node (other ts) = other (wide_tokens (moov ∷ []) ts)
wide_node (user form ts rest) = user form ts rest
wide_node (keyed form t) = keyed form t

-- what is kept of a movie, with wide tables
abbrev pub wide_kept : Kept → Kept
wide_kept k = record k { inside = map wide_node k.inside }
