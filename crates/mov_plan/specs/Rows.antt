-- What an edit of the atoms of `moov` comes to: the slots that are replaced and their patches, whether each unit fits, how many
-- atoms there are then, and how long `moov` is (this project's own).
use Rattle.std.specs.Prelude.{ℕ, ◌+◌, List, [], ◌∷◌, ◌++◌, length, take, Bool, true, false, ◌&&◌, if◌then◌else◌}
use Rattle.part_tree.specs.declared.plan.Patch.{Patch}
use Rattle.container_model.specs.Chunk.{spell_all}
use Rattle.container_model.specs.Splice.{Cut}
use Rattle.container_model.specs.Units.{Piece, cuts, lay}
use Rattle.carrier_model.specs.Room.{patch, unit_patches}
use Rattle.mov_model.specs.New.{ends_open, fill, grown, hanging}
use Rattle.mov_model.specs.Room.{unit_fits, units_fit}
use Rattle.mov_plan.specs.Shapes.{Shape, stays, pads, changes, count_all}

-- The slots with what replaces them, the patches of the same slots, whether each unit fits, how many atoms there are, and how many
-- bytes stand in `moov`.
pub record Outcome : Type 0 where
  pub cuts : List Cut
  pub patches : List Patch
  pub fits : Bool
  pub parts : ℕ
  pub inner : ℕ

-- atoms and bytes alone
abbrev pub counts : ℕ → ℕ → Outcome
counts n len = record { cuts = []; patches = []; fits = true; parts = n; inner = len }

-- of one place and what is behind it
abbrev pub both : Outcome → Outcome → Outcome
both a b = record { cuts = a.cuts ++ b.cuts; patches = a.patches ++ b.patches; fits = a.fits && b.fits; parts = a.parts + b.parts; inner = a.inner + b.inner }

-- What stands behind the atoms of `moov`: whether a slot that ends them goes on behind `moov`, through the padding with these bytes
-- and so many atoms, and whether nothing follows that.
pub record Beyond : Type 0 where
  pub goes_on : Bool
  pub slot : List ℕ
  pub gaps : ℕ
  pub last : Bool

-- a unit that has begun: where its slot is, the slot's bytes, and its spelling; or none
pub data Open : Type 0 where
  none : Open
  unit_at : ℕ → List ℕ → List ℕ → Open

-- a unit with its padding, by whether its slot ends the file, and whether its padding stands behind `moov`
abbrev pub closed : Bool → Bool → Open → Outcome
closed ends hangs none = counts 0 0
closed ends hangs (unit_at at slot now) =
    let pad = fill ends true slot (length now) in
    record {
      cuts = record { at = at; len = length slot; bytes = now ++ spell_all pad } ∷ [];
      patches = patch at (now ++ take 8 (spell_all pad));
      fits = unit_fits ends (length slot) (length now);
      parts = length pad;
      inner = if hangs then length now else length now + length (spell_all pad);
    }

-- a slot that ends the atoms of `moov`: it goes on behind `moov`, or the padding there stays
abbrev pub ended : Beyond → Open → Bool → Outcome
ended x none t = counts x.gaps 0
ended x (unit_at at slot now) true = closed x.last true (unit_at at (slot ++ x.slot) now)
ended x (unit_at at slot now) false = both (closed false false (unit_at at slot now)) (counts x.gaps 0)

-- atoms from a place on
unfoldable pub row : Beyond → ℕ → Open → List Shape → Outcome
row x at o [] = ended x o x.goes_on
row x at o (stays n k ∷ xs) = both (closed false false o) (both (counts k n) (row x (at + n) none xs))
row x at none (pads old k ∷ xs) = both (counts k (length old)) (row x (at + length old) none xs)
row x at (unit_at start slot now) (pads old k ∷ xs) = row x (at + length old) (unit_at start (slot ++ old) now) xs
row x at none (changes old new k ∷ xs) = both (counts k 0) (row x (at + length old) (unit_at at old new) xs)
row x at (unit_at start slot now) (changes old new k ∷ xs) = both (counts k 0) (row x (at + length old) (unit_at start (slot ++ old) (now ++ new)) xs)

-- ---- the same of pieces

-- whether the last slot goes on behind `moov`
abbrev pub opens : Beyond → List Piece → Bool
opens x ps = x.goes_on && ends_open ps

-- and then ends the file
abbrev pub ends_with : Beyond → List Piece → Bool
ends_with x ps = opens x ps && x.last

-- the pieces with the whole slot
abbrev pub whole : Beyond → List Piece → List Piece
whole x ps = if opens x ps then grown x.slot ps else ps

-- the padding that stands behind `moov`
abbrev pub behind : Beyond → List Piece → ℕ
behind x ps = if opens x ps then length (hanging (fill (ends_with x ps)) (whole x ps)) else x.gaps

-- what pieces come to that begin at a place, behind others, by whether user data was met
abbrev pub pieces_outcome : Beyond → Bool → ℕ → List Piece → Outcome
pieces_outcome x seen at ps = record {
  cuts = cuts (fill (ends_with x ps)) at (whole x ps);
  patches = unit_patches (fill (ends_with x ps)) at (whole x ps);
  fits = units_fit (ends_with x ps) (whole x ps);
  parts = count_all seen (lay (fill (opens x ps)) ps) + behind x ps;
  inner = length (spell_all (lay (fill (opens x ps)) ps));
}
