-- What an edit makes of the carriers among the atoms of `moov`, by places (this project's own).
use Rattle.std.specs.Prelude.{◌≡◌, ℕ, zero, suc, ◌-◌, ◌&&◌, ◌||◌, Bool, true, false, List, [], ◌∷◌, length, map, Option, Some, None, if◌then◌else◌}
use Rattle.std.specs.List.{flat_map, list_any}
use Rattle.part_tree.specs.declared.field.Value.{Value}
use Rattle.container_model.specs.Atoms.{atoms_in}
use Rattle.container_model.specs.Chunk.{Chunk, spell, spell_all}
use Rattle.container_model.specs.Items.{Item, edit_carrier, put_all}
use Rattle.container_model.specs.Units.{Cell, edited, gap, kept, live}
use Rattle.container_model.specs.Windows.{window}
use Rattle.mov_model.specs.Atoms.{cell_of}
use Rattle.mov_model.specs.Carried.{fresh}
use Rattle.mov_model.specs.Keys.{edit_meta, is_meta, new_meta}
use Rattle.mov_model.specs.Movie.{Movie}
use Rattle.qt_text.specs.User.{udta, user_items}
use Rattle.unit_plan.specs.declared.place.What.{What}
use Rattle.unit_plan.specs.declared.place.What.TheVariants as whats
use Rattle.mov_plan.specs.Shapes.{atoms_of, count_all, seen_after}
use Rattle.mov_plan.specs.declared.carry.Carry.{Carry}
use Rattle.mov_plan.specs.declared.carry.Carry.TheVariants.{Becomes, Comes, Stays}
use Rattle.mov_plan.specs.declared.carry.NewAtom.{NewAtom}
use Rattle.mov_plan.specs.declared.place.Place.{Place}

-- ---- places

-- whether padding stands there
abbrev pub is_pad : What → Bool
is_pad whats.Pads = true
is_pad w = false

-- a place where an atom becomes another
abbrev pub with_bytes : NewAtom → Place → Place
with_bytes now p = record { at = p.at; next = p.next; parts = now.parts; what = whats.Changes now.bytes }

-- the place with a number does
abbrev pub become_at : ℕ → NewAtom → List Place → List Place
become_at k now [] = []
become_at zero now (p ∷ ps) = with_bytes now p ∷ ps
become_at (suc k) now (p ∷ ps) = p ∷ become_at k now ps

-- a place where nothing stood
abbrev pub new_place : ℕ → NewAtom → Place
new_place at now = record { at = at; next = at; parts = now.parts; what = whats.Changes now.bytes }

-- whether there is padding alone
abbrev pub only_pads : List Place → Bool
only_pads [] = true
only_pads (p ∷ ps) = is_pad p.what && only_pads ps

-- a new atom behind the last one that is no padding, in places that begin at a byte
abbrev pub added : NewAtom → ℕ → List Place → List Place
added now from [] = new_place from now ∷ []
added now from (p ∷ ps) = if only_pads (p ∷ ps) then new_place from now ∷ (p ∷ ps) else p ∷ added now p.next ps

-- how many places there are up to the last one that is no padding
abbrev pub last_by : List Place → ℕ
last_by [] = 0
last_by (p ∷ ps) = if only_pads (p ∷ ps) then 0 else suc (last_by ps)

-- and where they end
abbrev pub last_end : ℕ → List Place → ℕ
last_end from [] = from
last_end from (p ∷ ps) = if only_pads (p ∷ ps) then from else last_end p.next ps

-- what becomes of places that begin at a byte
abbrev pub carried_by : ℕ → Carry → List Place → List Place
carried_by from Stays ps = ps
carried_by from (Becomes k now) ps = become_at k now ps
carried_by from (Comes now) ps = added now from ps

-- ---- the atoms of the definitions

-- The places tell what stands there before an edit, and is to stand there, and how many atoms are counted for it.
abbrev pub Tell : List ℕ → Bool → List Place → List Cell → Type 0
Tell b seen [] [] = Unit {0}
Tell b seen [] (x ∷ xs) = ⊥
Tell b seen (p ∷ ps) [] = ⊥
Tell b seen (p ∷ ps) (kept c ∷ xs) =
    (p.what ≡ whats.Stays) × (window b p.at p.next ≡ spell c) × (p.next - p.at ≡ length (spell c)) × (p.parts ≡ atoms_of seen c)
    × Tell b (seen || udta.is c) ps xs
Tell b seen (p ∷ ps) (gap c ∷ xs) =
    (p.what ≡ whats.Pads) × (window b p.at p.next ≡ spell c) × (p.parts ≡ atoms_of seen c) × (udta.is c ≡ false) × Tell b seen ps xs
Tell b seen (p ∷ ps) (edited old now ∷ xs) =
    (p.what ≡ whats.Changes (spell_all now)) × (window b p.at p.next ≡ spell_all old) × (p.parts ≡ count_all seen now)
    × Tell b (seen_after seen now) ps xs

-- the cell with a number is the first atom that meets a test
abbrev pub IsFirst : (Chunk → Bool) → ℕ → Chunk → List Cell → Type 0
IsFirst is k c [] = ⊥
IsFirst is zero c (kept d ∷ xs) = (d ≡ c) × (is c ≡ true)
IsFirst is zero c (gap d ∷ xs) = ⊥
IsFirst is zero c (edited old now ∷ xs) = ⊥
IsFirst is (suc k) c (kept d ∷ xs) = (is d ≡ false) × IsFirst is k c xs
IsFirst is (suc k) c (gap d ∷ xs) = IsFirst is k c xs
IsFirst is (suc k) c (edited old now ∷ xs) = (list_any is now ≡ false) × IsFirst is k c xs

-- no atom does
abbrev pub IsNone : (Chunk → Bool) → List Cell → Type 0
IsNone is xs = list_any is (flat_map live xs) ≡ false

-- the bytes of an atom, with how many are counted for it behind atoms of which none is the first user data
abbrev pub IsNew : NewAtom → Chunk → Type 0
IsNew now c = (now.bytes ≡ spell c) × (now.parts ≡ atoms_of false c)

-- what a step of an edit makes of a carrier among cells
abbrev pub IsStep : (Chunk → Bool) → (Chunk → Chunk) → Option Chunk → Carry → List Cell → Type 0
IsStep is g new Stays xs = IsNone is xs × (new ≡ None)
IsStep is g new (Becomes k now) xs = (c : Chunk) × (IsFirst is k c xs × IsNew now (g c))
IsStep is g new (Comes now) xs = (c : Chunk) × (IsNone is xs × (new ≡ Some c) × IsNew now c)

-- of the user data
abbrev pub IsUserStep : List (Item Value) → Carry → List Cell → Type 0
IsUserStep [] k xs = k ≡ Stays
IsUserStep (i ∷ e) k xs = IsStep (λ c. udta.is c) (edit_carrier udta user_items (i ∷ e)) (fresh udta (put_all user_items (i ∷ e) [])) k xs

-- and of the key table
abbrev pub IsKeyStep : List (Item (List ℕ)) → Carry → List Cell → Type 0
IsKeyStep [] k xs = k ≡ Stays
IsKeyStep (i ∷ e) k xs = IsStep is_meta (edit_meta (i ∷ e)) (new_meta (i ∷ e)) k xs

-- the atoms of moov before an edit
abbrev pub cells_of : Movie → List Cell
cells_of m = map cell_of (atoms_in m.movie).chunks
