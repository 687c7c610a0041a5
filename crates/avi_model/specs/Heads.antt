-- What an edit of names keeps of the lists of streams, in order, and where the names stand in it.
use Rattle.std.specs.Prelude.{ℕ, zero, suc, filter, List, [], ◌∷◌, ◌++◌, map, Bool, false, codes, if◌then◌else◌}
use Rattle.std.specs.List.{flat_map, list_any}
use Rattle.container_model.specs.Chunk.{Chunk}
use Rattle.container_model.specs.Deep.{Token, leaf, mark}
use Rattle.container_model.specs.Items.{has_mark, settled_marks}
use Rattle.container_model.specs.Stood.{Stood}
use Rattle.carrier_model.specs.Lists.{Node, list, sign, other}
use Rattle.carrier_model.specs.Info.{is_padding, list_run}
use Rattle.carrier_model.specs.Names.{is_name, is_head_id}
use Rattle.avi_model.specs.Named.{Names, is_named, names_after, is_strl}

-- A name in a stream's list is a bare mark, padding is nothing, and every other chunk has its whole body.
abbrev pub name_token : Chunk → List Token
name_token c = if is_padding c then [] else (if is_name c then mark c.id else leaf c.form c.id c.body) ∷ []

-- the chunks of a stream's list
abbrev pub strl_tokens : Chunk → List Token
strl_tokens c = flat_map name_token (list_run c).chunks

-- a chunk of hdrl: a stream's list with its chunks and its rest, or another chunk
abbrev pub kid_node : Chunk → Node
kid_node c = if is_strl c then list (strl_tokens c) (list_run c).left else other c.form c.id c.body

-- the chunks of hdrl and its rest
pub record Head : Type 0 where
  pub nodes : List Node
  pub left : List ℕ

-- hdrl, opened
abbrev pub head_of : Chunk → Head
head_of c = record { nodes = map kid_node (list_run c).chunks; left = (list_run c).left }

-- ---- with the names where they stand

-- a chunk behind which a new name stands
abbrev pub is_head_token : Token → Bool
is_head_token (leaf form id body) = is_head_id id
is_head_token t = false

-- a new name stands behind the last one, or first
abbrev pub put_name_marks : List Token → List Token → List Token
put_name_marks new [] = new
put_name_marks new (t ∷ ts) = if list_any is_head_token (t ∷ ts) then t ∷ put_name_marks new ts else new ++ (t ∷ ts)

-- the names of a stream
abbrev pub name_marks : List (List ℕ) → List Token
name_marks vs = map (λ (v : List ℕ). mark (codes "strn")) vs

-- the chunks of a stream's list with these names
abbrev pub place_name : List Token → List Token → List Token
place_name new ts = if has_mark (codes "strn") ts then settled_marks (codes "strn") new ts else put_name_marks new ts

-- the streams' lists by their numbers
abbrev pub place_names : Names → ℕ → List Node → List Node
place_names e n [] = []
place_names e n (list ts rest ∷ k) =
    list (if is_named e n then place_name (name_marks (names_after e n [])) ts else ts) rest ∷ place_names e (suc n) k
place_names e n (sign id ∷ k) = sign id ∷ place_names e n k
place_names e n (other form id body ∷ k) = other form id body ∷ place_names e n k

-- hdrl with other names
abbrev pub head_with : Names → Head → Head
head_with e h = record h { nodes = place_names e 0 h.nodes }

-- ---- the names of streams

-- the bodies of the names in a stream's list
abbrev pub names_in : Stood → List (List ℕ)
names_in x = map (λ (c : Chunk). c.body) (filter is_name (list_run x.chunk).chunks)

-- those of the stream of a number, from 0
abbrev pub nth_names : ℕ → List Stood → List (List ℕ)
nth_names n [] = []
nth_names zero (x ∷ xs) = names_in x
nth_names (suc n) (x ∷ xs) = nth_names n xs
