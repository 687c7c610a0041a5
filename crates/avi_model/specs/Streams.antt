-- How many chunks the lists of streams have after an edit of their names, whatever sizes are told of them.
use Rattle.std.specs.Prelude.{ℕ, ◌+◌, List, [], ◌∷◌, length, Bool, ◌&&◌, if◌then◌else◌}
use Rattle.container_model.specs.Chunk.{Chunk}
use Rattle.container_model.specs.Items.{is_nil}
use Rattle.container_model.specs.Units.{lay}
use Rattle.carrier_model.specs.Cells.{counted}
use Rattle.carrier_model.specs.Info.{list_run}
use Rattle.avi_model.specs.Avi.{Avi}
use Rattle.avi_model.specs.Named.{Names, ends_file, ends_list, is_hdrl, is_named, is_strl, new_names, strl_fill, strl_pieces}

-- the chunks of a stream's list with another name
abbrev pub strl_laid : Bool → List Chunk → Chunk → List Chunk
strl_laid ends new c = lay (strl_fill ends c) (strl_pieces new c)

-- a stream's list by its number
abbrev pub strl_parts : Names → Bool → ℕ → Chunk → ℕ
strl_parts e ends n c = length (if is_named e n then strl_laid ends (new_names e n) c else (list_run c).chunks)

-- the streams' lists among the chunks of hdrl
abbrev pub kids_parts : Names → Bool → ℕ → List Chunk → ℕ
kids_parts e ends n [] = 0
kids_parts e ends n (c ∷ cs) =
    (if is_strl c then strl_parts e (ends && is_nil cs) n c else 0) + kids_parts e ends (counted is_strl n c) cs

-- those of the first hdrl
abbrev pub hdrl_parts : Names → Bool → List Chunk → ℕ
hdrl_parts e ends [] = 0
hdrl_parts e ends (c ∷ cs) =
    if is_hdrl c then kids_parts e ((ends && is_nil cs) && ends_list c) 0 (list_run c).chunks else hdrl_parts e ends cs

-- those of a file
abbrev pub stream_parts : Avi → Names → ℕ
stream_parts a e = hdrl_parts e (ends_file a) a.children
