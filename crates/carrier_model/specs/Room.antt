-- Which units of an edit fit their slots in RIFF, and the patches that make them there (this project's own).
use Rattle.std.specs.Prelude.{ℕ, ◌+◌, ◌-◌, ◌%◌, ◌^◌, List, [], ◌∷◌, ◌++◌, length, take, Bool, true, ◌&&◌, ◌||◌, ◌==◌, nat_le, nat_lt}
use Rattle.part_tree.specs.declared.plan.Patch.{Patch}
use Rattle.container_model.specs.Chunk.{Chunk, spell, spell_all}
use Rattle.container_model.specs.Units.{Piece, copied, replaced, Fill, unit_bytes}

-- ---- units that fit

-- free bytes of a slot that one padding fills, with its header
abbrev pub leaves_padding : ℕ → Bool
leaves_padding free = (free % 2 == 0) && (nat_le 8 free && nat_lt free (2 ^ 32))

-- A unit fits where it is as long as its slot, or leaves room for a padding, or its slot ends the file.
abbrev pub fits_slot : Bool → ℕ → ℕ → Bool
fits_slot ends len s = (s == len) || (leaves_padding (len - s) || ends)

-- every unit fits; only the last slot can end the file
abbrev pub units_fit : Bool → List Piece → Bool
units_fit ends [] = true
units_fit ends (copied c ∷ ps) = units_fit ends ps
units_fit ends (replaced lead slot now last ∷ ps) = fits_slot (ends && last) (length slot) (length (unit_bytes lead now)) && units_fit ends ps

-- ---- patches

-- these bytes at a place; no bytes are no patch
abbrev pub patch : ℕ → List ℕ → List Patch
patch at [] = []
patch at (x ∷ b) = record { at = at; bytes = x ∷ b } ∷ []

-- a unit's spelling, and the header of its padding; the padding's body stays
abbrev pub unit_patch : Fill → List Chunk → List ℕ → List Chunk → Bool → List ℕ
unit_patch fill lead slot now last = unit_bytes lead now ++ take 8 (spell_all (fill last slot (length (unit_bytes lead now))))

-- the patches of all units, where the first piece stands at a place
abbrev pub unit_patches : Fill → ℕ → List Piece → List Patch
unit_patches fill at [] = []
unit_patches fill at (copied c ∷ ps) = unit_patches fill (at + length (spell c)) ps
unit_patches fill at (replaced lead slot now last ∷ ps) =
    patch (at + length (spell_all lead)) (unit_patch fill lead slot now last) ++ unit_patches fill (at + length (spell_all lead ++ slot)) ps
