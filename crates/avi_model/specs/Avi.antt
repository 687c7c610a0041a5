-- An AVI file: its forms, the chunks of the first one, and where its tables and its essence stand (RIFF; AVI RIFF File
-- Reference; OpenDML AVI File Format Extensions 1.02).
use Rattle.std.specs.Prelude.{ℕ, ◌+◌, nat_le, List, [], ◌∷◌, ◌++◌, length, take, drop, Bool, true, false, ◌&&◌, codes}
use Rattle.std.specs.Str.{bytes_eq}
use Rattle.std.specs.List.{flat_map}
use Rattle.std.specs.Int.{w32, from_le_bytes}
use Rattle.part_tree.specs.declared.names.Span.{Span}
use Rattle.container_model.specs.Chunk.{riff, Chunk, spell, spell_all, Run, Header, too_short, full_header, chunks}
use Rattle.container_model.specs.Sizes.{plain, riff_front}
use Rattle.container_model.specs.Stood.{Stood, stood, only, first_of}
use Rattle.carrier_model.specs.Info.{is_type, list_run}

-- the forms: the first is `AVI `, each further one `AVIX`
abbrev pub form_type : Bool → List ℕ
form_type true = codes "AVI "
form_type false = codes "AVIX"

-- a header where the form is there
abbrev pub avi_by : List ℕ → Bool → Header Bool
avi_by b true = full_header riff (take 4 b) (from_le_bytes w32 (take 4 (drop 4 b))) (drop 8 b) false
avi_by b false = too_short

-- the header of a form: RIFF, a size and its type
abbrev pub avi_front : Bool → List ℕ → Header Bool
avi_front s b = avi_by b (nat_le 12 (length b) && (bytes_eq (take 4 b) (codes "RIFF") && bytes_eq (take 4 (drop 8 b)) (form_type s)))

-- the forms that stand at the start of the file
abbrev pub forms : List ℕ → Run
forms b = chunks avi_front true b

-- what is read of a file: the chunks of the first form and the bytes behind them, its pad, the further forms, and the tail
pub record Avi : Type 0 where
  pub children : List Chunk
  pub left : List ℕ
  pub pad : List ℕ
  pub others : List Chunk
  pub tail : List ℕ

-- the body of the first form
abbrev pub inner : List Chunk → List ℕ → List ℕ
inner cs left = codes "AVI " ++ (spell_all cs ++ left)

-- the first form
abbrev pub form_of : Avi → Chunk
form_of a = record { form = riff; id = codes "RIFF"; body = inner a.children a.left; pad = a.pad }

-- what stands behind the first form and its pad
abbrev pub behind : Avi → List ℕ
behind a = spell_all a.others ++ a.tail

-- the bytes of a file
abbrev pub spell_avi : Avi → List ℕ
spell_avi a = spell (form_of a) ++ behind a

-- the body of the first chunk, if there is one
abbrev pub first_body : List Chunk → List ℕ
first_body [] = []
first_body (c ∷ cs) = c.body

-- its pad
abbrev pub first_pad : List Chunk → List ℕ
first_pad [] = []
first_pad (c ∷ cs) = c.pad

-- the chunks behind it
abbrev pub but_first : List Chunk → List Chunk
but_first [] = []
but_first (c ∷ cs) = cs

-- the chunks of the first form
abbrev pub form_run : List ℕ → Run
form_run b = chunks riff_front plain (drop 4 (first_body (forms b).chunks))

-- the parts of a file
abbrev pub avi_of : List ℕ → Avi
avi_of b = record {
  children = (form_run b).chunks;
  left = (form_run b).left;
  pad = first_pad (forms b).chunks;
  others = but_first (forms b).chunks;
  tail = (forms b).left;
}

-- ---- where things stand

-- a chunk of an identifier
abbrev pub has_id : List ℕ → Chunk → Bool
has_id id c = bytes_eq c.id id

-- the chunks of a list or a form that stands somewhere
abbrev pub kids : Stood → List Stood
kids x = stood (x.at + 12) (list_run x.chunk).chunks

-- the chunks of the first form, where they stand
abbrev pub top : Avi → List Stood
top a = stood 12 a.children

-- the further forms
abbrev pub others_at : Avi → List Stood
others_at a = stood (length (spell (form_of a))) a.others

-- the first `LIST hdrl`, and the streams' lists in it
abbrev pub hdrls : Avi → List Stood
hdrls a = first_of (only (is_type (codes "hdrl")) (top a))

-- the streams' lists in it
abbrev pub strls : Avi → List Stood
strls a = only (is_type (codes "strl")) (flat_map kids (hdrls a))

-- the index chunks of the streams
abbrev pub stream_indexes : Avi → List Stood
stream_indexes a = only (has_id (codes "indx")) (flat_map kids (strls a))

-- the first `idx1`
abbrev pub old_indexes : Avi → List Stood
old_indexes a = first_of (only (has_id (codes "idx1")) (top a))

-- where the body of a chunk stands
abbrev pub body_span : Stood → Span
body_span x = record { at = x.at + 8; len = length x.chunk.body }

-- the bodies of the movi lists, each from its word on
abbrev pub is_movi : Chunk → Bool
is_movi c = is_type (codes "movi") c

-- the movi lists of all forms
abbrev pub essence : Avi → List Stood
essence a = only is_movi (top a) ++ flat_map (λ x. only is_movi (kids x)) (others_at a)

-- the first of some bodies, and nothing where there is none
abbrev pub first_span : List Stood → Span
first_span [] = record { at = 0; len = 0 }
first_span (x ∷ xs) = body_span x

-- the body of the first movi
abbrev pub first_movi : Avi → Span
first_movi a = first_span (essence a)
