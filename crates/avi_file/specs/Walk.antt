-- What is read of a file in turn: steps of the reading with the parts that they are, and what is answered of them.
use Rattle.std.specs.Prelude.{◌≡◌, ◌≤◌, ℕ, ◌+◌, ◌-◌, List, [], ◌∷◌, ◌++◌, length, map, Bool, true, false, ◌&&◌, ◌||◌, not, Some, None, Result, if◌then◌else◌, codes}
use Rattle.std.specs.declared.result.Result.TheVariants.{Ok, Err}
use Rattle.std.specs.Str.{bytes_eq}
use Rattle.std.specs.List.{flat_map, list_any}
use Rattle.part_tree.specs.Parts.{rest_parts}
use Rattle.part_tree.specs.declared.names.Span.{Span}
use Rattle.part_tree.specs.declared.part.Part.{Part}
use Rattle.part_tree.specs.declared.part.Role.{Role}
use Rattle.part_tree.specs.declared.part.Role.TheVariants.{Opaque, Essence}
use Rattle.part_tree.specs.declared.part.Role.TheVariants as role
use Rattle.part_tree.specs.declared.why.ReadFault.{ReadFault}
use Rattle.part_tree.specs.declared.why.ReadFault.TheVariants.{Why, Depot, Memory}
use Rattle.container_model.specs.Chunk.{Chunk, Run, Stop, spell, spell_all}
use Rattle.container_model.specs.Stood.{Stood, stood, bare, only}
use Rattle.container_model.specs.Tests.{first}
use Rattle.carrier_model.specs.Info.{is_padding, is_type, list_run}
use Rattle.carrier_model.specs.Names.{is_name}
use Rattle.riff_form.specs.declared.ChunkAt.{ChunkAt}
use Rattle.avi_model.specs.Avi.{has_id, is_movi}
use Rattle.avi_model.specs.Map.{role_where, item_role, stream_role, further_role, top_role, part, plain_parts, stream_parts, top_parts}
use Rattle.avi_model.specs.Reading.{Step, part_at, end_at, name_steps, stream_steps_by, top_steps_by, parts_met}
use Rattle.avi_model.specs.Why.{steps_tests}
use Rattle.avi_file.specs.declared.kind.Inside.{Inside}
use Rattle.avi_file.specs.declared.kind.Inside.TheVariants.{Items, Stream, Further}
use Rattle.avi_file.specs.declared.kind.TopKind.{TopKind}
use Rattle.avi_file.specs.declared.kind.TopKind.TheVariants.{Padding, Info, Hdrl, Movi, Idx1, Other}
use Rattle.avi_file.specs.declared.list.Reading.{Reading}

-- what a chunk is to an edit, by where it stands
abbrev pub role_of : Inside → Chunk → Role
role_of Items c = item_role c
role_of Stream c = stream_role c
role_of Further c = further_role c

-- whether a chunk is a field, by where it stands: in a stream's list a name is one
abbrev pub carries : Inside → Chunk → Bool
carries Items c = false
carries Stream c = is_name c
carries Further c = false

-- ---- what stands somewhere

-- steps of the reading, the parts that they are, and the streams' lists among them, told by their bodies behind the type
pub record Told : Type 0 where
  pub steps : List Step
  pub parts : List Part
  pub streams : List Span

-- the one behind the other
abbrev pub both : Told → Told → Told
both a b = record { steps = a.steps ++ b.steps; parts = a.parts ++ b.parts; streams = a.streams ++ b.streams }

-- a chunk by itself, of which it is said whether it is a field or a list of fields
abbrev pub chunk_told : Bool → Role → ℕ → Chunk → Told
chunk_told carrier role at c = record { steps = part_at carrier (record { at = at; chunk = bare c }) ∷ []; parts = part role at c ∷ []; streams = [] }

-- the end of chunks at a place, and the bytes that are left
abbrev pub end_told : ℕ → Stop → List ℕ → Told
end_told at stop left = record { steps = end_at at stop ∷ []; parts = rest_parts at left; streams = [] }

-- chunks from a place on, as they are told, with their end and what is left
abbrev pub run_told : (ℕ → List Chunk → Told) → ℕ → Run → Told
run_told told at r = both (told at r.chunks) (end_told (at + length (spell_all r.chunks)) r.stop r.left)

-- a chunk that is not opened, by where it stands
abbrev pub part_in : Inside → Stood → List Step
part_in inside x = part_at (carries inside x.chunk) x ∷ []

-- chunks of which none is opened
abbrev pub plain_told : Inside → ℕ → List Chunk → Told
plain_told inside at cs = record { steps = flat_map (part_in inside) (stood at cs); parts = plain_parts (role_of inside) at cs; streams = [] }

-- ---- what is answered

-- all steps were read
pub record ReadAll (t : Told) (old new : Reading) : Type 0 where
  pub tests : first (steps_tests old.met t.steps) ≡ None
  pub met : new.met ≡ old.met + parts_met t.steps
  pub parts : new.parts.items ≡ old.parts.items ++ t.parts
  pub streams : new.streams.items ≡ old.streams.items ++ t.streams

-- what is answered of steps: their parts, or the first test that holds
abbrev pub Reads : Told → Reading → Reading → Result Unit ReadFault → Type 0
Reads t old new (Ok _) = ReadAll t old new
Reads t old new (Err (Why w)) = first (steps_tests old.met t.steps) ≡ Some w
Reads t old new (Err Depot) = Unit {0}
Reads t old new (Err Memory) = Unit {0}

-- a chunk stands at these places
pub record StandsAt (c : Chunk) (k : ChunkAt) : Type 0 where
  pub id : k.id.0 ≡ c.id
  pub len : k.body.len ≡ length c.body
  pub next : k.at + length (spell c) ≡ k.next

-- ---- where parts stand, whatever the file

-- a list of fields
abbrev pub is_items : Role → Bool
is_items role.Info = true
is_items _ = false

-- essence
abbrev pub is_essence : Role → Bool
is_essence Essence = true
is_essence _ = false

-- the bodies of the parts that meet a test
abbrev pub chosen : (Part → Bool) → List Part → List Span
chosen test [] = []
chosen test (p ∷ ps) = if test p then p.body ∷ chosen test ps else chosen test ps

-- the bodies of the parts that are essence
abbrev pub essence_of : List Part → List Span
essence_of ps = chosen (λ p. is_essence p.role) ps

-- ranges ascend from a place on, and end at or before another
abbrev pub Ascend : ℕ → List Span → ℕ → Type 0
Ascend low [] end = low ≤ end
Ascend low (s ∷ ss) end = (low ≤ s.at) × Ascend (s.at + s.len) ss end

-- a part's header is before its body, and its body inside it and before an end
abbrev pub Fits : ℕ → Part → Type 0
Fits end p = (8 ≤ p.body.at) × (p.body.at + p.body.len ≤ p.next) × (p.next ≤ end)

abbrev pub AllFit : ℕ → List Part → Type 0
AllFit end [] = Unit {0}
AllFit end (p ∷ ps) = Fits end p × AllFit end ps

-- the essence ascends up to a place, and all parts end at or before another
pub record ArePlaced (at end : ℕ) (ps : List Part) : Type 0 where
  pub essence : Ascend 0 (essence_of ps) at
  pub fit : AllFit end ps

-- where parts were placed up to a place, they are up to another, and the new ones end at or before a last one
abbrev pub KeepsPlaces : ℕ → ℕ → ℕ → List Part → List Part → Type 0
KeepsPlaces from to last old new = (end : ℕ) → last ≤ end → ArePlaced from end old → ArePlaced to end new

-- ---- hdrl

-- the body of a list behind its type
abbrev pub behind_type : Stood → Span
behind_type x = record { at = x.at + 12; len = length x.chunk.body - 4 }

-- the streams' lists among chunks
abbrev pub streams_in : List Stood → List Span
streams_in xs = map behind_type (only (is_type (codes "strl")) xs)

-- the chunks of hdrl, where each strl is opened
abbrev pub stream_told : ℕ → List Chunk → Told
stream_told at cs = record { steps = flat_map (stream_steps_by name_steps) (stood at cs); parts = stream_parts at cs; streams = streams_in (stood at cs) }

-- nothing was read
abbrev pub none_told : Told
none_told = record { steps = []; parts = []; streams = [] }

-- a stream's list, without its chunks
abbrev pub list_told : Span → Told
list_told s = record { steps = []; parts = []; streams = s ∷ [] }

-- what stands in a chunk of hdrl
abbrev pub strl_told : Bool → ℕ → Chunk → Told
strl_told true at c = both (list_told (behind_type (record { at = at; chunk = bare c }))) (run_told (plain_told Stream) (at + 12) (list_run c))
strl_told false at c = none_told

-- a chunk of hdrl
abbrev pub opened_strl : ℕ → Chunk → Told
opened_strl at c = both (chunk_told false Opaque at c) (strl_told (is_type (codes "strl") c) at c)

-- ---- the first form

-- what stands in a chunk of the first form: in the first hdrl, and in a list of fields
abbrev pub inside_told : Bool → Bool → ℕ → Chunk → Told
inside_told true info at c = run_told stream_told (at + 12) (list_run c)
inside_told false true at c = run_told (plain_told Items) (at + 12) (list_run c)
inside_told false false at c = none_told

-- the streams' lists of the first form, behind a first hdrl or not
abbrev pub top_streams : Bool → ℕ → List Chunk → List Span
top_streams seen at [] = []
top_streams seen at (c ∷ cs) =
    (inside_told (not seen && is_type (codes "hdrl") c) (is_type (codes "INFO") c) at c).streams
    ++ top_streams (seen || is_type (codes "hdrl") c) (at + length (spell c)) cs

-- the chunks of the first form, behind a first hdrl or not, and behind a first `idx1` or not
abbrev pub top_told : Bool → Bool → ℕ → List Chunk → Told
top_told seen indexed at cs = record { steps = top_steps_by name_steps seen (stood at cs); parts = top_parts seen indexed at cs; streams = top_streams seen at cs }

-- a chunk of the first form
abbrev pub opened_top : Bool → Bool → ℕ → Chunk → Told
opened_top seen indexed at c =
    both (chunk_told (is_type (codes "INFO") c) (top_role indexed c) at c) (inside_told (not seen && is_type (codes "hdrl") c) (is_type (codes "INFO") c) at c)

-- what a chunk of the first form is
abbrev pub is_padding_kind : TopKind → Bool
is_padding_kind Padding = true
is_padding_kind _ = false

abbrev pub is_info_kind : TopKind → Bool
is_info_kind Info = true
is_info_kind _ = false

abbrev pub is_hdrl_kind : TopKind → Bool
is_hdrl_kind Hdrl = true
is_hdrl_kind _ = false

abbrev pub is_movi_kind : TopKind → Bool
is_movi_kind Movi = true
is_movi_kind _ = false

abbrev pub is_idx1_kind : TopKind → Bool
is_idx1_kind Idx1 = true
is_idx1_kind _ = false

-- the kind of a list by its type
abbrev pub list_kind : List ℕ → TopKind
list_kind word = if bytes_eq word (codes "INFO") then Info else (if bytes_eq word (codes "hdrl") then Hdrl else (if bytes_eq word (codes "movi") then Movi else Other))

pub record IsKind (c : Chunk) (kind : TopKind) : Type 0 where
  pub padding : is_padding c ≡ is_padding_kind kind
  pub info : is_type (codes "INFO") c ≡ is_info_kind kind
  pub hdrl : is_type (codes "hdrl") c ≡ is_hdrl_kind kind
  pub movi : is_movi c ≡ is_movi_kind kind
  pub idx1 : has_id (codes "idx1") c ≡ is_idx1_kind kind

-- the role of a kind, behind a first `idx1` or not
abbrev pub role_of_kind : TopKind → Bool → Role
role_of_kind Padding indexed = role.Padding
role_of_kind Info indexed = role.Info
role_of_kind Hdrl indexed = Opaque
role_of_kind Movi indexed = Essence
role_of_kind Idx1 indexed = role_where (not indexed) role.Tables
role_of_kind Other indexed = Opaque

-- a hdrl is among chunks
abbrev pub has_hdrl : List Chunk → Bool
has_hdrl cs = list_any (is_type (codes "hdrl")) cs
