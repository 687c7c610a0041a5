-- The tables of an AVI file as a map tells them, and their order.
use Rattle.std.specs.Prelude.{ℕ, suc, ◌+◌, nat_le, List, [], ◌∷◌, map, Bool, if◌then◌else◌}
use Rattle.part_tree.specs.declared.names.Span.{Span}
use Rattle.avi_file.specs.declared.index.IndexChunk.{IndexChunk}
use Rattle.avi_file.specs.declared.map.OldIndex.{OldIndex}
use Rattle.avi_plan.specs.declared.table.TableAt.{TableAt}
use Rattle.avi_plan.specs.declared.table.TableKind.TheVariants.{Old, Standard, Super}

-- index chunks of one kind with these bodies
abbrev pub chunks_of : Bool → List Span → List IndexChunk
chunks_of standard bodies = map (λ (s : Span). record { body = s; standard = standard }) bodies

-- an index chunk, and `idx1`, as tables
abbrev pub told_chunk : IndexChunk → TableAt
told_chunk x = record { body = x.body; kind = if x.standard then Standard else Super }

abbrev pub old_at : OldIndex → TableAt
old_at o = record { body = o.body; kind = Old o.base }

-- how many tables begin before a place, up to the first one that doesn't
abbrev pub number_behind : ℕ → List TableAt → ℕ
number_behind end [] = 0
number_behind end (u ∷ us) = if nat_le end u.body.at then 0 else suc (number_behind end us)

-- a table put among others, before the first one that begins at or behind its end
abbrev pub put_table : TableAt → List TableAt → List TableAt
put_table t [] = t ∷ []
put_table t (u ∷ us) = if nat_le (t.body.at + t.body.len) u.body.at then t ∷ (u ∷ us) else u ∷ put_table t us
