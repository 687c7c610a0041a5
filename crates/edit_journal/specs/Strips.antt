-- Strips: bytes for a place, as they stand or as a run of one byte; and how patches are cut into them (this project's own).
use Rattle.std.specs.Prelude.{◌≡◌, ◌<◌, ◌^◌, ⊤, ℕ, Bool, ◌+◌, ◌-◌, ◌==◌, ◌&&◌, nat_lt, nat_le, if◌then◌else◌, List, [], ◌∷◌, ◌++◌, length, map, replicate, get_or, Option, Some, None}
use Rattle.std.specs.List.{flat_map}
use Rattle.part_tree.specs.declared.plan.Patch.{Patch}
use Rattle.part_tree.specs.Patches.{end_of, InOrder}

-- bytes as they stand, or one byte and how often it stands
pub data Piece : Type 0 where
  Plain : List ℕ → Piece
  Run : ℕ → ℕ → Piece

-- its bytes, with a run written out
abbrev pub written_out : Piece → List ℕ
written_out (Plain b) = b
written_out (Run x n) = replicate n x

-- these bytes as a piece; of a run the first tells all
abbrev pub piece_of : Bool → List ℕ → Piece
piece_of run b = if run then Run (get_or b 0 0) (length b) else Plain b

-- a piece for a place
pub record Strip : Type 0 where
  pub at : ℕ
  pub piece : Piece

-- the patch that lays the same
abbrev pub patch_of : Strip → Patch
patch_of s = record { at = s.at; bytes = written_out s.piece }

-- the patches that lay the same as these strips
abbrev pub laid_by : List Strip → List Patch
laid_by ss = map patch_of ss

-- each patch ends at a place that a file can have
abbrev pub AllEndLow : List Patch → Type 0
AllEndLow [] = ⊤
AllEndLow (p ∷ ps) = (end_of p < 2 ^ 63) × AllEndLow ps

-- the strip that lays the same as this patch, its bytes as they stand
abbrev pub whole : Patch → Strip
whole p = record { at = p.at; piece = Plain p.bytes }

-- ---- what patches lay

-- the byte that patches lay at a place, or none
abbrev pub byte_at : ℕ → List Patch → Option ℕ
byte_at q [] = None
byte_at q (p ∷ ps) = if nat_le p.at q && nat_lt q (end_of p) then Some (get_or p.bytes (q - p.at) 0) else byte_at q ps

-- Patches that ascend, disjoint and none of them empty, and lay the same bytes at the same places as others.
pub record LaysAs (new : ℕ) (ps qs : List Patch) : Type 0 where
  pub order : InOrder new 0 ps
  pub same : (q : ℕ) → byte_at q ps ≡ byte_at q qs

-- ---- how patches are cut

-- a byte, and how often it stands
pub record Stretch : Type 0 where
  pub byte : ℕ
  pub times : ℕ

-- one byte more in front
abbrev pub longer : ℕ → List Stretch → List Stretch
longer x [] = record { byte = x; times = 1 } ∷ []
longer x (r ∷ rs) = if x == r.byte then record { byte = x; times = r.times + 1 } ∷ rs else record { byte = x; times = 1 } ∷ r ∷ rs

-- bytes as their maximal runs
abbrev pub maximal_runs : List ℕ → List Stretch
maximal_runs [] = []
maximal_runs (x ∷ xs) = longer x (maximal_runs xs)

-- the least length of a run that is told as one
abbrev pub least_run : ℕ
least_run = 64

-- bytes in front of pieces: they join the plain ones there
abbrev pub joined : List ℕ → List Piece → List Piece
joined b [] = Plain b ∷ []
joined b (Plain c ∷ ps) = Plain (b ++ c) ∷ ps
joined b (Run x n ∷ ps) = Plain b ∷ Run x n ∷ ps

-- maximal runs as pieces: the long ones as runs, what is left between as it stands
abbrev pub pieces : List Stretch → List Piece
pieces [] = []
pieces (r ∷ rs) = if nat_lt r.times least_run then joined (replicate r.times r.byte) (pieces rs) else Run r.byte r.times ∷ pieces rs

-- bytes cut at each of their maximal runs of at least 64 bytes
unfoldable pub cut : List ℕ → List Piece
cut b = pieces (maximal_runs b)

-- pieces one behind another, the first at this place
abbrev pub placed : ℕ → List Piece → List Strip
placed at [] = []
placed at (p ∷ ps) = record { at = at; piece = p } ∷ placed (at + length (written_out p)) ps

-- The strips of patches: each patch is cut at its long runs.
abbrev pub strips : List Patch → List Strip
strips ps = flat_map (λ p. placed p.at (cut p.bytes)) ps
