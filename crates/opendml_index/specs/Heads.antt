-- The head of an index chunk (OpenDML 1.02, AVISUPERINDEX and AVISTDINDEX).
use Rattle.std.specs.Prelude.{◌≡◌, ℕ, ◌*◌, List, [], ◌∷◌, Bool, true, false, not, Option, Some, None, Result}
use Rattle.std.specs.declared.result.Result.TheVariants.{Ok, Err}
use Rattle.std.specs.Str.{bytes_eq}
use Rattle.container_model.specs.Written.{slice}
use Rattle.container_model.specs.Tests.{first}
use Rattle.opendml_index.specs.Index.{is_super, width, index_base, used}
use Rattle.opendml_index.specs.Kinds.{kind, is_index_kind, is_standard_kind, is_super_kind, has_header, has_entries}
use Rattle.part_tree.specs.declared.table.IndexHead.{IndexHead}
use Rattle.opendml_index.specs.declared.head.HeadFault.{HeadFault}
use Rattle.opendml_index.specs.declared.head.HeadFault.TheVariants.{Short, Wrong}
use Rattle.opendml_index.specs.declared.head.IndexKind.{IndexKind}
use Rattle.opendml_index.specs.declared.head.IndexKind.TheVariants.{Super, Standard, TwoFields}

-- the longs, the subtype and the type of a standard index with one field, and with two
abbrev pub one_field_kind : List ℕ
one_field_kind = 2 ∷ 0 ∷ 0 ∷ 1 ∷ []

abbrev pub two_field_kind : List ℕ
two_field_kind = 3 ∷ 0 ∷ 1 ∷ 1 ∷ []

-- how many longs an entry has
abbrev pub longs : IndexKind → ℕ
longs Super = 4
longs Standard = 2
longs TwoFields = 3

-- whether an entry has two fields
abbrev pub two_fields : IndexKind → Bool
two_fields Super = false
two_fields Standard = false
two_fields TwoFields = true

-- whether the index is a standard one
abbrev pub standard : IndexKind → Bool
standard Super = false
standard Standard = true
standard TwoFields = true

-- a kind, by the first four bytes
abbrev pub OfKind : List ℕ → IndexKind → Type 0
OfKind body Super = is_super_kind body ≡ true
OfKind body Standard = bytes_eq (kind body) one_field_kind ≡ true
OfKind body TwoFields = bytes_eq (kind body) two_field_kind ≡ true

-- the kind, if it is known
abbrev pub ReadsKind : List ℕ → Option IndexKind → Type 0
ReadsKind body None = is_index_kind body ≡ false
ReadsKind body (Some k) = OfKind body k

-- any index, or a standard one
abbrev pub kind_wanted : Bool → List ℕ → Bool
kind_wanted true body = is_standard_kind body
kind_wanted false body = is_index_kind body

-- the kind, if it is known and wanted
abbrev pub ReadsKindOf : Bool → List ℕ → Option IndexKind → Type 0
ReadsKindOf only body None = kind_wanted only body ≡ false
ReadsKindOf only body (Some k) = OfKind body k × (kind_wanted only body ≡ true)

-- the numbers of a head of a kind
pub record IsFront (body : List ℕ) (k : IndexKind) (h : IndexHead) : Type 0 where
  pub longs_are : h.longs ≡ longs k
  pub two : h.two_fields ≡ two_fields k
  pub is_standard : h.standard ≡ standard k
  pub used_are : h.used ≡ used body
  pub id : h.id.0 ≡ slice body 8 4
  pub base : h.base ≡ index_base body

-- what the head of an index chunk tells of its body
pub record IsHead (body : List ℕ) (h : IndexHead) : Type 0 where
  pub longs_are : 4 * h.longs ≡ width body
  pub two : h.two_fields ≡ bytes_eq (kind body) two_field_kind
  pub is_standard : h.standard ≡ not (is_super body)
  pub used_are : h.used ≡ used body
  pub id : h.id.0 ≡ slice body 8 4
  pub base : h.base ≡ index_base body

-- the tests of an index chunk: its header is there, it is of a kind, and its entries are there
abbrev pub head_tests : (List ℕ → Bool) → List ℕ → List (Bool × HeadFault)
head_tests of_kind body = (not (has_header body), Short) ∷ ((not (of_kind body), Wrong) ∷ ((not (has_entries body), Short) ∷ []))

-- the head of an index that is of a kind, or the first test that holds
abbrev pub ReadsHeadOf : (List ℕ → Bool) → List ℕ → Result IndexHead HeadFault → Type 0
ReadsHeadOf of_kind body (Ok h) = (first (head_tests of_kind body) ≡ None) × IsHead body h
ReadsHeadOf of_kind body (Err fault) = first (head_tests of_kind body) ≡ Some fault

-- the same of any index
abbrev pub ReadsHead : List ℕ → Result IndexHead HeadFault → Type 0
ReadsHead body r = ReadsHeadOf is_index_kind body r
