-- The kinds of index chunks, and when one is whole (OpenDML 1.02).
use Rattle.std.specs.Prelude.{◌≡◌, ℕ, ◌+◌, ◌*◌, nat_le, nat_lt, List, [], ◌∷◌, length, Bool, true, ◌&&◌, ◌||◌, not}
use Rattle.std.specs.Str.{bytes_eq}
use Rattle.container_model.specs.Written.{slice}
use Rattle.opendml_index.specs.Index.{width, used, entry_offset, entry_length, entry_second, has_second}

-- the longs of an entry, the subtype and the type
abbrev pub kind : List ℕ → List ℕ
kind body = slice body 0 4

-- a super index
abbrev pub is_super_kind : List ℕ → Bool
is_super_kind body = bytes_eq (kind body) (4 ∷ 0 ∷ 0 ∷ 0 ∷ []) || bytes_eq (kind body) (4 ∷ 0 ∷ 1 ∷ 0 ∷ [])

-- a standard index with one or with two fields
abbrev pub is_standard_kind : List ℕ → Bool
is_standard_kind body = bytes_eq (kind body) (2 ∷ 0 ∷ 0 ∷ 1 ∷ []) || bytes_eq (kind body) (3 ∷ 0 ∷ 1 ∷ 1 ∷ [])

-- an index chunk that is known
abbrev pub is_index_kind : List ℕ → Bool
is_index_kind body = is_super_kind body || is_standard_kind body

-- the 24 bytes before the entries are there
abbrev pub has_header : List ℕ → Bool
has_header body = nat_le 24 (length body)

-- the entries in use are there
abbrev pub has_entries : List ℕ → Bool
has_entries body = nat_le (24 + width body * used body) (length body)

-- the body of an index chunk: its header is there, it is of a kind, and its entries are there
pub record SoundIndex (of_kind : List ℕ → Bool) (body : List ℕ) : Type 0 where
  pub header_is_there : has_header body ≡ true
  pub kind_is : of_kind body ≡ true
  pub entries_are_there : has_entries body ≡ true

-- a second place is at or behind the entry's and before its end
abbrev pub second_lies : List ℕ → Bool
second_lies r = not (has_second r) || (nat_le (entry_offset r) (entry_second r) && nat_lt (entry_second r) (entry_offset r + entry_length r))
