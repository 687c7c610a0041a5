-- A WAVE file: its form, the chunk ds64 where it has one, the chunks behind it, and what is behind the form.
-- (Microsoft and IBM, Multimedia Programming Interface and Data Specifications 1.0; EBU Tech 3306 for RF64; ITU-R BS.2088 for BW64.)
use Rattle.std.specs.Prelude.{ℕ, List, [], ◌∷◌, ◌++◌, take, drop, map, Bool, true, false, ◌&&◌, ◌==◌, codes, if◌then◌else◌}
use Rattle.std.specs.Str.{bytes_eq}
use Rattle.part_tree.specs.declared.names.Kind.{Kind}
use Rattle.part_tree.specs.declared.names.Kind.TheVariants.{Rf64, Bw64, Wave as WaveKind}
use Rattle.container_model.specs.Chunk.{Form, riff, wide, Chunk, spell, spell_all, pad_len, Run, chunks}
use Rattle.container_model.specs.Sizes.{Sizes, plain, riff_front}
use Rattle.container_model.specs.Ds64.{le32, le64, table_of}
use Rattle.container_model.specs.Units.{Cell, kept, gap}
use Rattle.carrier_model.specs.Info.{one_of, is_padding}

-- the forms of which a chunk ds64 holds the sizes of 64 bits
abbrev pub big_forms : List (List ℕ)
big_forms = codes "RF64" ∷ codes "BW64" ∷ []

-- whether a form is one of these
abbrev pub is_big : List ℕ → Bool
is_big id = one_of big_forms id

-- ---- the form

-- Such a form's size stands in ds64 where its own field is FFFFFFFF.
abbrev pub is_wide : List ℕ → Bool
is_wide b = is_big (take 4 b) && (le32 (drop 4 b) == 4294967295)

-- how a form's header gives its size
abbrev pub form_kind : Bool → Form
form_kind true = wide
form_kind false = riff

-- ds64 stands first in the form, at 12, and riffSize first in its body
abbrev pub form_size : List ℕ → ℕ
form_size b = if is_wide b then le64 (drop 20 b) else le32 (drop 4 b)

-- the form behind its header
abbrev pub form_body : List ℕ → List ℕ
form_body b = take (form_size b) (drop 8 b)

-- what is behind it
abbrev pub behind_form : List ℕ → List ℕ
behind_form b = drop (form_size b) (drop 8 b)

-- the kind of a file of such a form
abbrev pub kind_of : List ℕ → Kind
kind_of b = if is_big (take 4 b) then (if bytes_eq (codes "BW64") (take 4 b) then Bw64 else Rf64) else WaveKind

-- where the sizes of a file's chunks stand
abbrev pub sizes_of : List ℕ → Sizes
sizes_of b = if is_big (take 4 b) then table_of (drop 20 b) else plain

-- ---- the chunks of the form

-- the chunks that are read in the form
abbrev pub form_run : List ℕ → Run
form_run b = chunks riff_front (sizes_of b) (drop 4 (form_body b))

-- the first chunk, where it is ds64, and the others
abbrev pub firsts : Bool → List Chunk → List Chunk
firsts true (c ∷ cs) = c ∷ []
firsts _ _ = []

-- the chunks behind it
abbrev pub others : Bool → List Chunk → List Chunk
others true (c ∷ cs) = cs
others _ cs = cs

-- A file: its form, the form's rest and pad, and the tail behind the form.
pub record Wave : Type 0 where
  pub form : Form
  pub id : List ℕ
  pub ds64 : List Chunk
  pub children : List Chunk
  pub left : List ℕ
  pub pad : List ℕ
  pub tail : List ℕ

-- what a file is read as
abbrev pub wave_of : List ℕ → Wave
wave_of b =
    record {
      form = form_kind (is_wide b);
      id = take 4 b;
      ds64 = firsts (is_big (take 4 b)) (form_run b).chunks;
      children = others (is_big (take 4 b)) (form_run b).chunks;
      left = (form_run b).left;
      pad = take (pad_len riff (form_size b)) (behind_form b);
      tail = drop (pad_len riff (form_size b)) (behind_form b);
    }

-- the body of the form
abbrev pub inner : Wave → List ℕ
inner w = codes "WAVE" ++ (spell_all w.ds64 ++ (spell_all w.children ++ w.left))

-- the form as a chunk
abbrev pub form_of : Wave → Chunk
form_of w = record { form = w.form; id = w.id; body = inner w; pad = w.pad }

-- a file as bytes
abbrev pub spell_wave : Wave → List ℕ
spell_wave w = spell (form_of w) ++ w.tail

-- ---- what is padding

-- A JUNK directly behind the form's type is no padding.
abbrev pub cell_by : Chunk → Bool → Cell
cell_by c true = gap c
cell_by c false = kept c

-- a chunk, as something that is kept or as padding
abbrev pub cell_of : Chunk → Cell
cell_of c = cell_by c (is_padding c)

-- all chunks, by whether ds64 stands before them
abbrev pub cells_behind : List Chunk → List Chunk → List Cell
cells_behind [] [] = []
cells_behind [] (c ∷ cs) = kept c ∷ map cell_of cs
cells_behind (d ∷ ds) cs = map cell_of cs

-- the cells of a form
abbrev pub cells_of : Wave → List Cell
cells_of w = cells_behind w.ds64 w.children
