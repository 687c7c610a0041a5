-- The atoms of `moov` after an edit by their bytes alone: what a planner holds of them (this project's own).
use Rattle.std.specs.Prelude.{◌≡◌, ℕ, suc, ◌+◌, List, [], ◌∷◌, length, Bool, true, false, ◌&&◌, ◌||◌, not}
use Rattle.std.specs.List.{list_any}
use Rattle.container_model.specs.Chunk.{Chunk, spell, spell_all}
use Rattle.container_model.specs.Units.{Cell, kept, gap, edited, lacks_pad}
use Rattle.container_model.specs.Walk.{nested}
use Rattle.mov_model.specs.Atoms.{format, moov}
use Rattle.qt_text.specs.User.{udta}

-- An atom that stays, by its length; padding, by its bytes; or a place that is edited, by the old bytes and the new ones. Each with
-- how many atoms are counted there.
pub data Shape : Type 0 where
  stays : ℕ → ℕ → Shape
  pads : List ℕ → ℕ → Shape
  changes : List ℕ → List ℕ → ℕ → Shape

-- ---- how many atoms are counted

-- an atom of moov with those in it: the items of the user data that is opened, or the atoms of a track
abbrev pub atoms_by : Chunk → Bool → ℕ
atoms_by c true = suc (length (udta.opening c).chunks)
atoms_by c false = length (nested format 5 moov c)

-- the same of an atom behind others, by whether user data was met
abbrev pub atoms_of : Bool → Chunk → ℕ
atoms_of seen c = atoms_by c (not seen && udta.is c)

-- and of atoms that follow each other
abbrev pub count_all : Bool → List Chunk → ℕ
count_all seen [] = 0
count_all seen (c ∷ cs) = atoms_of seen c + count_all (seen || udta.is c) cs

-- whether user data was met then
abbrev pub seen_after : Bool → List Chunk → Bool
seen_after seen cs = seen || list_any (λ c. udta.is c) cs

-- ---- the shapes of cells

-- cells behind others, by whether user data was met
abbrev pub shapes : Bool → List Cell → List Shape
shapes seen [] = []
shapes seen (kept c ∷ xs) = stays (length (spell c)) (atoms_of seen c) ∷ shapes (seen || udta.is c) xs
shapes seen (gap c ∷ xs) = pads (spell c) (atoms_of seen c) ∷ shapes seen xs
shapes seen (edited old now ∷ xs) = changes (spell_all old) (spell_all now) (count_all seen now) ∷ shapes (seen_after seen now) xs

-- cells without pads that are missing, of which no padding is user data
abbrev pub ArePlain : List Cell → Type 0
ArePlain [] = Unit {0}
ArePlain (kept c ∷ xs) = (lacks_pad c ≡ false) × ArePlain xs
ArePlain (gap c ∷ xs) = (lacks_pad c ≡ false) × (udta.is c ≡ false) × ArePlain xs
ArePlain (edited old now ∷ xs) = ArePlain xs
