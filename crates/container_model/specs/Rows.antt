-- Tables of numbers, one after the other: read, and with each number changed.
use Rattle.std.specs.Prelude.{ℕ, zero, suc, List, [], ◌∷◌, ◌++◌, length, take, drop, Bool, true, false, nat_lt}
use Rattle.std.specs.Int.{w16, w32, w64, to_be_bytes, from_be_bytes, to_le_bytes, from_le_bytes}

-- how a number is spelled: in how many bytes, and in which order these stand
pub record Width : Type 0 where
  pub bytes : ℕ
  pub get : List ℕ → ℕ
  pub put : ℕ → List ℕ

-- the last byte of the number first, in RIFF
abbrev pub le16 : Width
le16 = record { bytes = 2; get = from_le_bytes w16; put = to_le_bytes w16 }

-- four bytes, the last one first
abbrev pub le32 : Width
le32 = record { bytes = 4; get = from_le_bytes w32; put = to_le_bytes w32 }

-- eight bytes, the last one first
abbrev pub le64 : Width
le64 = record { bytes = 8; get = from_le_bytes w64; put = to_le_bytes w64 }

-- its first byte first, in QuickTime
abbrev pub be32 : Width
be32 = record { bytes = 4; get = from_be_bytes w32; put = to_be_bytes w32 }

-- eight bytes, the first one first
abbrev pub be64 : Width
be64 = record { bytes = 8; get = from_be_bytes w64; put = to_be_bytes w64 }

-- the first k numbers of the bytes
abbrev pub numbers : Width → ℕ → List ℕ → List ℕ
numbers w zero b = []
numbers w (suc k) b = w.get (take w.bytes b) ∷ numbers w k (drop w.bytes b)

-- the bytes with each of the first k numbers changed; where too few bytes are left for a number they stay
abbrev pub changed_by : Width → (ℕ → ℕ) → List ℕ → List ℕ → Bool → List ℕ
changed_by w f b more true = b
changed_by w f b more false = w.put (f (w.get (take w.bytes b))) ++ more

-- the bytes with each of the first k numbers changed
abbrev pub changed : Width → (ℕ → ℕ) → ℕ → List ℕ → List ℕ
changed w f zero b = b
changed w f (suc k) b = changed_by w f b (changed w f k (drop w.bytes b)) (nat_lt (length b) w.bytes)

-- the numbers one after the other
abbrev pub spelled : Width → List ℕ → List ℕ
spelled w [] = []
spelled w (n ∷ ns) = w.put n ++ spelled w ns

-- ---- a number in a longer row

-- the number at a place of a row, and the row with another number there
abbrev pub field : Width → ℕ → List ℕ → ℕ
field w at row = w.get (take w.bytes (drop at row))

-- the row with another number at a place
abbrev pub with_field : Width → ℕ → ℕ → List ℕ → List ℕ
with_field w at n row = take at row ++ (w.put n ++ drop w.bytes (drop at row))
