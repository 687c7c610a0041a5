-- The streams' lists of an AVI file after an edit of their names, and the spans that make them (AVI RIFF File Reference, strl;
-- slots, padding and pads are this project's own).
use Rattle.std.specs.Prelude.{ℕ, ◌+◌, ◌%◌, ◌==◌, List, [], ◌∷◌, ◌++◌, length, take, map, Bool, true, false, ◌&&◌, Option, codes, if◌then◌else◌}
use Rattle.std.specs.Int.{w32, to_le_bytes}
use Rattle.std.specs.List.{flat_map, list_any}
use Rattle.container_model.specs.Chunk.{riff, Chunk, spell, spell_all}
use Rattle.container_model.specs.Items.{is_nil, listed}
use Rattle.container_model.specs.Splice.{Cut}
use Rattle.container_model.specs.Units.{Cell, kept, gap, shut, units, Piece, Fill, lay, cuts, padded}
use Rattle.carrier_model.specs.Cells.{counted}
use Rattle.carrier_model.specs.Info.{is_padding, is_type, list_run, made, riff_fill}
use Rattle.carrier_model.specs.Names.{name_cells}
use Rattle.carrier_model.specs.RiffForm.{RiffForm, pad_cut}
use Rattle.carrier_model.specs.RiffForm as form
use Rattle.avi_model.specs.Avi.{Avi, behind}

-- ---- an edit of names

-- what becomes of a stream's name: these bytes, or none
pub record Name : Type 0 where
  pub stream : ℕ
  pub value : Option (List ℕ)

-- an edit of names
abbrev pub Names : Type 0
Names = List Name

-- whether an edit names a stream
abbrev pub is_named : Names → ℕ → Bool
is_named e n = list_any (λ (i : Name). i.stream == n) e

-- the names of a stream after the items, one after the other
abbrev pub names_after : Names → ℕ → List (List ℕ) → List (List ℕ)
names_after [] n vs = vs
names_after (i ∷ e) n vs = names_after e n (if i.stream == n then listed i.value else vs)

-- the name that a stream has then, as chunks
abbrev pub new_names : Names → ℕ → List Chunk
new_names e n = map (made (codes "strn")) (names_after e n [])

-- ---- cells

-- padding is told from the other chunks
abbrev pub cell_by : Chunk → Bool → Cell
cell_by c true = gap c
cell_by c false = kept c

-- a chunk as padding or as kept
abbrev pub cell_of : Chunk → Cell
cell_of c = cell_by c (is_padding c)

-- the first form, with the further forms and the tail behind it
abbrev pub riff_of : Avi → RiffForm
riff_of a = record { form = riff; id = codes "RIFF"; front = codes "AVI "; children = a.children; left = a.left; pad = a.pad; tail = behind a }

-- nothing stands behind the chunks of the first form
abbrev pub ends_file : Avi → Bool
ends_file a = form.ends_file (riff_of a)

-- ---- a list with other chunks

-- A chunk with another body keeps its pad where the size stays even or odd; else it has the pad that its size wants.
abbrev pub respelled : Chunk → List ℕ → Chunk
respelled c body = if length body % 2 == length c.body % 2 then record c { body = body } else padded (record c { body = body })

-- a list with other chunks before its rest
abbrev pub list_with : Chunk → List Chunk → Chunk
list_with c cs = respelled c (take 4 c.body ++ (spell_all cs ++ (list_run c).left))

-- nothing stands in a list behind its chunks, and no pad behind it
abbrev pub ends_list : Chunk → Bool
ends_list c = is_nil (list_run c).left && is_nil c.pad

-- the list of a stream, and hdrl
abbrev pub is_strl : Chunk → Bool
is_strl c = is_type (codes "strl") c

abbrev pub is_hdrl : Chunk → Bool
is_hdrl c = is_type (codes "hdrl") c

-- ---- the list of a stream with another name: the last slot may end the file

-- its chunks, copied or replaced
abbrev pub strl_pieces : List Chunk → Chunk → List Piece
strl_pieces new c = units shut (name_cells new (map cell_of (list_run c).chunks))

-- the padding of its units
abbrev pub strl_fill : Bool → Chunk → Fill
strl_fill ends c = riff_fill (ends && ends_list c)

-- the list
abbrev pub strl_named : Bool → List Chunk → Chunk → Chunk
strl_named ends new c = list_with c (lay (strl_fill ends c) (strl_pieces new c))

-- ---- hdrl with other names

-- a stream's list by its number, from 0, where the edit names the stream
abbrev pub kid_named : Names → Bool → ℕ → Chunk → Chunk
kid_named e ends n c = if is_strl c && is_named e n then strl_named ends (new_names e n) c else c

-- the chunks of hdrl
abbrev pub kids_named : Names → Bool → ℕ → List Chunk → List Chunk
kids_named e ends n [] = []
kids_named e ends n (c ∷ cs) = kid_named e (ends && is_nil cs) n c ∷ kids_named e ends (counted is_strl n c) cs

-- hdrl
abbrev pub hdrl_named : Names → Bool → Chunk → Chunk
hdrl_named e ends c = list_with c (kids_named e (ends && ends_list c) 0 (list_run c).chunks)

-- the chunks of the first form: the first hdrl holds the streams
abbrev pub children_named : Names → Bool → List Chunk → List Chunk
children_named e ends [] = []
children_named e ends (c ∷ cs) = if is_hdrl c then hdrl_named e (ends && is_nil cs) c ∷ cs else c ∷ children_named e ends cs

-- a file with other names; its form's pad is left
abbrev pub named : Avi → Names → Avi
named a e = record a { children = children_named e (ends_file a) a.children }

-- ---- where lists stand that are edited

-- a list: where its header stands, whether its last slot may end the file, and the number of its stream
pub record Site : Type 0 where
  pub at : ℕ
  pub ends : Bool
  pub stream : ℕ
  pub chunk : Chunk

-- the lists of streams that an edit names, from a place on
abbrev pub sites_from : Names → Bool → ℕ → ℕ → List Chunk → List Site
sites_from e ends n at [] = []
sites_from e ends n at (c ∷ cs) =
    (if is_strl c && is_named e n then record { at = at; ends = ends && is_nil cs; stream = n; chunk = c } ∷ [] else [])
    ++ sites_from e ends (counted is_strl n c) (at + length (spell c)) cs

-- those in hdrl
abbrev pub sites_in : Names → Site → List Site
sites_in e s = sites_from e (s.ends && ends_list s.chunk) 0 (s.at + 12) (list_run s.chunk).chunks

-- the first hdrl from a place on
abbrev pub hdrl_from : Bool → ℕ → List Chunk → List Site
hdrl_from ends at [] = []
hdrl_from ends at (c ∷ cs) = if is_hdrl c then record { at = at; ends = ends && is_nil cs; stream = 0; chunk = c } ∷ [] else hdrl_from ends (at + length (spell c)) cs

-- the first hdrl
abbrev pub hdrl_site : Avi → List Site
hdrl_site a = hdrl_from (ends_file a) 12 a.children

-- ---- the same as spans of the old file

-- the size of a list
abbrev pub list_size : Site → Chunk → Cut
list_size s new = record { at = s.at + 4; len = 4; bytes = to_le_bytes w32 (length new.body) }

-- the pad of a list, where it goes or comes
abbrev pub list_pad : Site → Chunk → List Cut
list_pad s new = pad_cut (s.at + 8 + length s.chunk.body) s.chunk.pad new.pad

-- the size of a stream's list, the slots in it, and its pad
abbrev pub strl_cuts : Names → Site → List Cut
strl_cuts e s =
    let new = strl_named s.ends (new_names e s.stream) s.chunk in
    list_size s new ∷ (cuts (strl_fill s.ends s.chunk) (s.at + 12) (strl_pieces (new_names e s.stream) s.chunk) ++ list_pad s new)

-- the size of hdrl, the spans in it, and its pad
abbrev pub hdrl_cuts : Names → Site → List Cut
hdrl_cuts e s =
    let new = hdrl_named e s.ends s.chunk in
    list_size s new ∷ (flat_map (strl_cuts e) (sites_in e s) ++ list_pad s new)

-- the spans that an edit of names replaces
abbrev pub name_cuts : Avi → Names → List Cut
name_cuts a e = flat_map (hdrl_cuts e) (hdrl_site a)
