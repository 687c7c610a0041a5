-- Why a WAVE file is refused: the first test that holds, chunk after chunk (this project's own order).
use Rattle.std.specs.Prelude.{ℕ, ◌+◌, ◌*◌, ◌^◌, nat_lt, List, [], ◌∷◌, length, take, drop, Bool, true, false, ◌&&◌, ◌||◌, not, codes, Option, None}
use Rattle.std.specs.Str.{bytes_eq}
use Rattle.part_tree.specs.declared.why.Why.{Why}
use Rattle.part_tree.specs.declared.why.Why.TheVariants.{UnknownKind, Truncated, NoFmt, ShortFmt, TwoFmt, BlockZero, NoData, TwoData, NoDs64, ShortDs64, RowMissing, ShortBext, TwoBext, CarrierBig, TooManyParts}
use Rattle.part_tree.specs.Letters.{four}
use Rattle.container_model.specs.Chunk.{Chunk, spell, spell_all, Stop, ends, bad_header, passes, out_of_turns}
use Rattle.container_model.specs.Tests.{first, or_else, ended}
use Rattle.carrier_model.specs.Info.{list_run}
use Rattle.container_model.specs.Ds64.{le32}
use Rattle.wave_model.specs.Wave.{is_big, form_size, form_run, wave_of}
use Rattle.wave_model.specs.Fields.{has_id, is_bext, is_info, body_in}
use Rattle.wave_model.specs.Edited.{is_carrier, is_kind, block_size, parts_of}

-- ---- the form

-- the kind, by the first bytes
abbrev pub kind_tests : List ℕ → List (Bool × Why)
kind_tests b = (not (is_kind (take 4 b) && bytes_eq (take 4 (drop 8 b)) (codes "WAVE")), UnknownKind) ∷ []

-- ds64 at 12, where the form has one
abbrev pub ds64_tests : List ℕ → List (Bool × Why)
ds64_tests b =
    let len = le32 (drop 16 b) in
    (nat_lt (length b) 20 || not (bytes_eq (take 4 (drop 12 b)) (codes "ds64")), NoDs64)
    ∷ ((nat_lt (2 ^ 24) len, CarrierBig (four (codes "ds64")) len)
    ∷ ((nat_lt len 28 || (nat_lt (length b) (20 + len) || nat_lt len (28 + 12 * le32 (drop 44 b))), ShortDs64 len) ∷ []))

-- the refusal of ds64
abbrev pub ds64_why : Bool → List ℕ → Option Why
ds64_why true b = first (ds64_tests b)
ds64_why false b = None

-- the form lies in the file
abbrev pub form_tests : List ℕ → List (Bool × Why)
form_tests b = (nat_lt (form_size b) 4 || nat_lt (length b) (8 + form_size b), Truncated 0) ∷ []

-- ---- its chunks

-- how many parts and chunks of each kind came before
pub record Seen : Type 0 where
  pub parts : ℕ
  pub formats : ℕ
  pub sounds : ℕ
  pub bexts : ℕ

-- `fmt `
abbrev pub is_fmt : Chunk → Bool
is_fmt c = has_id (codes "fmt ") c

-- `data`
abbrev pub is_data : Chunk → Bool
is_data c = has_id (codes "data") c

-- the counts with a further chunk
abbrev pub see : Seen → Chunk → Seen
see s c = record {
  parts = s.parts + length (parts_of c);
  formats = s.formats + length (body_in is_fmt c);
  sounds = s.sounds + length (body_in is_data c);
  bexts = s.bexts + length (body_in is_bext c);
}

-- the tests of the chunk at a place
abbrev pub chunk_tests : ℕ → Seen → Chunk → List (Bool × Why)
chunk_tests at s c =
    (nat_lt 65536 (s.parts + 1), TooManyParts)
    ∷ ((is_carrier c && nat_lt (2 ^ 24) (length c.body), CarrierBig (four c.id) (length c.body))
    ∷ ((is_bext c && nat_lt 0 s.bexts, TwoBext)
    ∷ ((is_bext c && nat_lt (length c.body) 602, ShortBext (length c.body))
    ∷ ((is_fmt c && nat_lt 0 s.formats, TwoFmt)
    ∷ ((is_fmt c && nat_lt (length c.body) 16, ShortFmt (length c.body))
    ∷ ((is_fmt c && nat_lt (block_size c.body) 1, BlockZero)
    ∷ ((is_data c && nat_lt 0 s.sounds, TwoData)
    ∷ ((is_info c && not (ended (list_run c).stop), Truncated (at + 12 + length (spell_all (list_run c).chunks)))
    ∷ ((nat_lt 65536 (s.parts + length (parts_of c)), TooManyParts) ∷ [])))))))))

-- the first refusal among chunks from a place on, and at last of what ends them
abbrev pub children_why : ℕ → Seen → List Chunk → (ℕ → Seen → Option Why) → Option Why
children_why at s [] last = last at s
children_why at s (c ∷ cs) last = or_else (first (chunk_tests at s c)) (children_why (at + length (spell c)) (see s c) cs last)

-- whether a size has no row
abbrev pub is_bad : Stop → Bool
is_bad ends = false
is_bad bad_header = true
is_bad passes = false
is_bad out_of_turns = false

-- behind the last chunk that is read: one without a row in ds64, or one that passes the form's end
abbrev pub last_tests : Stop → List ℕ → ℕ → Seen → List (Bool × Why)
last_tests stop left at s =
    (is_bad stop, RowMissing (four (take 4 left)))
    ∷ ((not (ended stop), Truncated at) ∷ ((nat_lt s.formats 1, NoFmt) ∷ ((nat_lt s.sounds 1, NoData) ∷ [])))

-- the refusal of what ends the chunks
abbrev pub last_why : Stop → List ℕ → ℕ → Seen → Option Why
last_why stop left at s = first (last_tests stop left at s)

-- the counts before the first chunk behind ds64
abbrev pub nothing_seen : ℕ → Seen
nothing_seen n = record { parts = n; formats = 0; sounds = 0; bexts = 0 }

-- the refusal of the chunks of the form
abbrev pub chunks_why : List ℕ → Option Why
chunks_why b =
    let w = wave_of b in
    children_why (12 + length (spell_all w.ds64)) (nothing_seen (length w.ds64)) w.children (last_why (form_run b).stop w.left)

-- kind, ds64, form, chunks
unfoldable pub why : List ℕ → Option Why
why b = or_else (first (kind_tests b)) (or_else (ds64_why (is_big (take 4 b)) b) (or_else (first (form_tests b)) (chunks_why b)))
