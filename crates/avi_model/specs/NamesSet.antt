-- What an edit of the names of streams makes of the first form of an AVI file (this project's own, over AVI RIFF File Reference,
-- strl).
use Rattle.std.specs.Prelude.{◌≡◌, ◌<◌, ℕ, ◌+◌, [], ◌++◌, length, map, filter, not, if◌then◌else◌}
use Rattle.container_model.specs.Chunk.{ends, spell_all, chunks}
use Rattle.container_model.specs.Sizes.{plain, riff_front}
use Rattle.container_model.specs.Splice.{splice_from, Ascend, shift}
use Rattle.container_model.specs.Stood.{Stood, only}
use Rattle.avi_model.specs.Avi.{Avi, top, hdrls, strls, stream_indexes, old_indexes, is_movi}
use Rattle.avi_model.specs.Heads.{head_of, head_with, nth_names}
use Rattle.avi_model.specs.Named.{Names, is_named, names_after, is_hdrl, named, name_cuts}

-- where a chunk stands when other names are set
abbrev pub stands_then : Avi → Names → Stood → Stood
stands_then a e x = record x { at = shift (name_cuts a e) x.at }

-- The chunks of the form are read again, with their rest. Each stream has the name that was set, or its old ones; what else hdrl
-- holds stands where it stood, and every other chunk of the form is the same. The new chunks are the old ones with spans replaced,
-- which ascend and lie among them; tables and essence stand where these put them.
pub record NamesSet (a : Avi) (e : Names) : Type 0 where
  pub again : chunks riff_front plain (spell_all (named a e).children ++ a.left) ≡ record { chunks = (named a e).children; stop = ends; left = a.left }
  pub names : (n : ℕ) → n < length (strls a) → nth_names n (strls (named a e)) ≡ (if is_named e n then names_after e n [] else nth_names n (strls a))
  pub heads : map (λ (x : Stood). head_of x.chunk) (hdrls (named a e)) ≡ map (λ (x : Stood). head_with e (head_of x.chunk)) (hdrls a)
  pub others : filter (λ c. not (is_hdrl c)) (named a e).children ≡ filter (λ c. not (is_hdrl c)) a.children
  pub spliced : spell_all (named a e).children ≡ splice_from 12 (spell_all a.children) (name_cuts a e)
  pub ascend : Ascend 12 (name_cuts a e) (12 + length (spell_all a.children))
  pub indexes : stream_indexes (named a e) ≡ map (stands_then a e) (stream_indexes a)
  pub olds : old_indexes (named a e) ≡ map (stands_then a e) (old_indexes a)
  pub movis : only is_movi (top (named a e)) ≡ map (stands_then a e) (only is_movi (top a))
