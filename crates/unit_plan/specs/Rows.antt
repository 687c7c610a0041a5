-- What an edit of a row of places comes to: the spans and patches of its units, whether these fit their slots, and the parts
-- that are there then (this project's own).
use Rattle.std.specs.Prelude.{◌≡◌, ℕ, ◌+◌, List, [], ◌∷◌, ◌++◌, length, take, Bool, true, false, ◌&&◌, not, codes}
use Rattle.part_tree.specs.declared.plan.Patch.{Patch}
use Rattle.container_model.specs.Chunk.{Chunk, spell_all}
use Rattle.container_model.specs.Splice.{Cut}
use Rattle.container_model.specs.Units.{Cell, Piece, shut, units, padded, lay, cuts}
use Rattle.carrier_model.specs.Info.{made, riff_fill}
use Rattle.carrier_model.specs.Room.{fits_slot, units_fit, patch, unit_patches}
use Rattle.unit_plan.specs.Shapes.{Shape, stays, pads, changes, parts_in}

-- The spans that are replaced, the patches of the same spans, whether each unit fits its slot, and how many parts there are.
pub record Outcome : Type 0 where
  pub cuts : List Cut
  pub patches : List Patch
  pub fits : Bool
  pub parts : ℕ

-- parts alone
abbrev pub counts : ℕ → Outcome
counts n = record { cuts = []; patches = []; fits = true; parts = n }

-- of one place and what is behind it
abbrev pub both : Outcome → Outcome → Outcome
both a b = record { cuts = a.cuts ++ b.cuts; patches = a.patches ++ b.patches; fits = a.fits && b.fits; parts = a.parts + b.parts }

-- a unit that has begun: where its slot is, the slot's bytes, and its spelling with a pad that it brings; or none
pub data Open : Type 0 where
  none : Open
  unit_at : ℕ → List ℕ → List ℕ → Open

-- a unit, with its padding, by whether its slot ends the row and the row the file
abbrev pub closed : Bool → Bool → Open → Outcome
closed ends last none = counts 0
closed ends last (unit_at at slot now) =
    let fill = riff_fill ends last slot (length now) in
    record {
      cuts = record { at = at; len = length slot; bytes = now ++ spell_all fill } ∷ [];
      patches = patch at (now ++ take 8 (spell_all fill));
      fits = fits_slot (ends && last) (length slot) (length now);
      parts = length fill;
    }

-- no place
abbrev pub no_more : List Shape → Bool
no_more [] = true
no_more (x ∷ xs) = false

-- a chunk ends at a place, and a unit behind it may bring its pad
abbrev pub open_next : Bool → ℕ → Open
open_next true at = unit_at at [] (0 ∷ [])
open_next false at = none

-- a row from a place on
unfoldable pub row : Bool → ℕ → Open → List Shape → Outcome
row ends at o [] = closed ends true o
row ends at o (stays n lacks k ∷ xs) = both (closed ends false o) (both (counts k) (row ends (at + n) (open_next (lacks && not (no_more xs)) (at + n)) xs))
row ends at none (pads old lacks k ∷ xs) = both (counts k) (row ends (at + length old) (open_next (lacks && not (no_more xs)) (at + length old)) xs)
row ends at (unit_at start slot now) (pads old lacks k ∷ xs) = row ends (at + length old) (unit_at start (slot ++ old) now) xs
row ends at none (changes old new k ∷ xs) = both (counts k) (row ends (at + length old) (unit_at at old new) xs)
row ends at (unit_at start slot now) (changes old new k ∷ xs) = both (counts k) (row ends (at + length old) (unit_at start (slot ++ old) (now ++ new)) xs)

-- A count of parts that pads don't change, and that takes a padding for one.
pub record IsPartCount (g : Chunk → ℕ) : Type 0 where
  pub pads : (c : Chunk) → g (padded c) ≡ g c
  pub padding : (body : List ℕ) → g (made (codes "JUNK") body) ≡ 1

-- the same of pieces, where the parts of a chunk are told
abbrev pub pieces_outcome : (Chunk → ℕ) → Bool → ℕ → List Piece → Outcome
pieces_outcome g ends at ps =
    record { cuts = cuts (riff_fill ends) at ps; patches = unit_patches (riff_fill ends) at ps; fits = units_fit ends ps; parts = parts_in g (lay (riff_fill ends) ps) }

-- and of cells
abbrev pub cells_outcome : (Chunk → ℕ) → Bool → ℕ → List Cell → Outcome
cells_outcome g ends at xs = pieces_outcome g ends at (units shut xs)
