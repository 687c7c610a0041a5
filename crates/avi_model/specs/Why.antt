-- Why an AVI file is refused: the first test that holds, in the order of reading.
use Rattle.std.specs.Prelude.{ℕ, ◌+◌, ◌-◌, ◌==◌, nat_le, nat_lt, List, [], ◌∷◌, ◌++◌, length, map, Bool, ◌&&◌, not, Option, if◌then◌else◌}
use Rattle.std.specs.List.{flat_map}
use Rattle.part_tree.specs.Letters.{four}
use Rattle.part_tree.specs.declared.names.Span.{Span}
use Rattle.part_tree.specs.Ranges.{in_one}
use Rattle.part_tree.specs.declared.index.IndexFault.{IndexFault}
use Rattle.part_tree.specs.declared.index.IndexFault.TheVariants.{NoBase, Astray, Overlap, Depot}
use Rattle.part_tree.specs.declared.why.Why.{Why}
use Rattle.part_tree.specs.declared.why.Why.TheVariants.{CarrierBig, IndexAstray, IndexBase, IndexKind, IndexOverlap, IndexPlace, IndexShort, NoHdrl, NoMovi, NotBuilt, TooManyParts, Truncated, UnknownKind}
use Rattle.container_model.specs.Tables.{Table, named, size_at}
use Rattle.container_model.specs.Tests.{first, ended}
use Rattle.avi_index.specs.Rows.{Base, old_rows}
use Rattle.avi_index.specs.Found.{is_based}
use Rattle.avi_index.specs.Checks.{old_tests as rows_tested}
use Rattle.opendml_index.specs.Index.{is_super, entries, super_places, index_base}
use Rattle.opendml_index.specs.Kinds.{is_index_kind, is_standard_kind}
use Rattle.opendml_index.specs.Heads.{head_tests}
use Rattle.opendml_index.specs.Checks.{entries_tests}
use Rattle.opendml_index.specs.declared.head.HeadFault.{HeadFault}
use Rattle.opendml_index.specs.declared.head.HeadFault.TheVariants.{Short, Wrong}
use Rattle.avi_model.specs.Avi.{Avi, avi_of, first_movi, hdrls}
use Rattle.avi_model.specs.Index.{streams, indexes, spans, base, olds}
use Rattle.avi_model.specs.Support.{begins, movis, part_limit, list_limit, movi_spans, by_place}
use Rattle.avi_model.specs.Reading.{Step, form_at, part_at, end_at, reading, named_reading, parts_met}

-- a test, and why a file is refused where it holds
abbrev pub Test : Type 0
Test = Bool × Why

-- ---- chunks

-- the tests of a step, where so many chunks were met before it
abbrev pub step_tests : ℕ → Step → List Test
step_tests met (form_at x) = (nat_lt (length x.chunk.body) 4, Truncated x.at) ∷ []
step_tests met (part_at info x) = (nat_le part_limit met, TooManyParts) ∷ (info && nat_lt list_limit (length x.chunk.body), CarrierBig (four x.chunk.id) (length x.chunk.body)) ∷ []
step_tests met (end_at at stop) = (not (ended stop), Truncated at) ∷ []

-- the tests of the steps, in order
abbrev pub steps_tests : ℕ → List Step → List Test
steps_tests met [] = []
steps_tests met (s ∷ ss) = step_tests met s ++ steps_tests (met + parts_met (s ∷ [])) ss

-- the first form has hdrl and movi
abbrev pub list_tests : Avi → List Test
list_tests a = (length (hdrls a) == 0, NoHdrl) ∷ (length (movis a) == 0, NoMovi) ∷ []

-- ---- index chunks; each is told by the place of its header

-- why a file is refused for a fault of the index chunk at a place
abbrev pub head_why : ℕ → HeadFault → Why
head_why at Short = IndexShort at
head_why at Wrong = IndexKind at

-- the tests of an index chunk, each with the refusal for it
abbrev pub head_refusals : ℕ → List (Bool × HeadFault) → List Test
head_refusals at ts = map (λ t. (t.0, head_why at t.1)) ts

-- the header, the kind and the entries of an index chunk
abbrev pub sound_tests : (List ℕ → Bool) → ℕ → List ℕ → List Test
sound_tests of_kind at body = head_refusals at (head_tests of_kind body)

-- a place that a super entry names
abbrev pub place_tests : List ℕ → ℕ → List Test
place_tests b p = (not (in_one (movi_spans (avi_of b)) p (8 + size_at b p)), IndexPlace p) ∷ sound_tests is_standard_kind p (named b p).body

-- the place of the header
abbrev pub head_of : Table → ℕ
head_of t = t.at - 8

-- a stream's index, and the chunks that it names
abbrev pub stream_tests : List ℕ → Table → List Test
stream_tests b t = sound_tests is_index_kind (head_of t) t.body ++ (if is_super t.body then flat_map (place_tests b) (super_places t.body) else [])

-- by place: an index chunk begins before the one before it ends
abbrev pub overlap_tests : ℕ → List Table → List Test
overlap_tests from [] = []
overlap_tests from (t ∷ ts) = (nat_lt t.at (from + 8), IndexOverlap (head_of t)) ∷ overlap_tests (t.at + length t.body) ts

-- ---- entries, from 0

-- why a file is refused for a fault of an entry of the index at a place
abbrev pub entry_why : ℕ → IndexFault → Why
entry_why at NoBase = IndexBase
entry_why at (Astray k) = IndexAstray at k
entry_why at (Overlap k) = IndexOverlap at
entry_why at Depot = NotBuilt

-- the tests of entries, each with the refusal for it
abbrev pub refusals : ℕ → List (Bool × IndexFault) → List Test
refusals at ts = map (λ t. (t.0, entry_why at t.1)) ts

-- a standard index
abbrev pub standard_tests : List ℕ → Table → List Test
standard_tests b t = if is_super t.body then [] else refusals (head_of t) (entries_tests (movi_spans (avi_of b)) (spans (indexes b)) (index_base t.body) 0 (entries t.body))

-- the base of idx1
abbrev pub base_tests : List ℕ → Table → List Test
base_tests b t = (not (is_based b (spans (indexes b)) (first_movi (avi_of b)) (old_rows t.body)), IndexBase) ∷ []

-- only entries that count from the start of the file are tested
abbrev pub old_tests : Base → Span → List Table → Table → List Test
old_tests base movi ts t = refusals (head_of t) (rows_tested base movi (spans ts) 0 (old_rows t.body))

-- ---- a file

-- all tests, in the order of reading, where these steps are met
abbrev pub tests_of : List Step → List ℕ → List Test
tests_of steps b =
    (not (begins b), UnknownKind)
    ∷ (steps_tests 0 steps
    ++ (list_tests (avi_of b)
    ++ (flat_map (stream_tests b) (streams b)
    ++ ((nat_lt part_limit (length (indexes b)), TooManyParts)
    ∷ (overlap_tests 0 (by_place (indexes b))
    ++ (flat_map (standard_tests b) (by_place (indexes b))
    ++ (flat_map (base_tests b) (olds b)
    ++ flat_map (old_tests (base b) (first_movi (avi_of b)) (indexes b)) (olds b))))))))

-- the tests where the lists of fields alone are carriers
abbrev pub tests : List ℕ → List Test
tests b = tests_of (reading b) b

-- why a file is refused, if it is
abbrev pub why : List ℕ → Option Why
why b = first (tests b)

-- why a file is refused where the names of streams are carriers too
abbrev pub why_named : List ℕ → Option Why
why_named b = first (tests_of (named_reading b) b)
