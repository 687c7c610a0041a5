-- When an edit of fields and names has room in place, and what is then written (this project's own).
use Rattle.std.specs.Prelude.{ℕ, ◌+◌, ◌^◌, ◌==◌, nat_le, nat_lt, List, [], ◌∷◌, ◌++◌, length, Bool, ◌&&◌, if◌then◌else◌}
use Rattle.std.specs.Int.{w32, to_le_bytes}
use Rattle.std.specs.List.{flat_map, list_all}
use Rattle.part_tree.specs.declared.field.EditItem.{EditItem}
use Rattle.part_tree.specs.declared.plan.Patch.{Patch}
use Rattle.part_tree.specs.Patches.{all_bytes}
use Rattle.container_model.specs.Chunk.{riff, Chunk}
use Rattle.container_model.specs.Units.{shut, units}
use Rattle.carrier_model.specs.RiffForm.{size_patch, fill_of}
use Rattle.carrier_model.specs.Room.{units_fit, patch, unit_patches}
use Rattle.avi_model.specs.Avi.{Avi, avi_of, inner}
use Rattle.avi_model.specs.After.{Changes, all_changes, children_after, is_idle}
use Rattle.avi_model.specs.Named.{Names, Site, new_names, riff_of, ends_file, ends_list, strl_pieces, strl_fill, strl_named, hdrl_named, hdrl_site, sites_in, named}
use Rattle.avi_model.specs.NewFile.{new_cells}

-- ---- units that fit

-- the units of a stream's list
abbrev pub strl_fits : Names → Site → Bool
strl_fits e s = units_fit (s.ends && ends_list s.chunk) (strl_pieces (new_names e s.stream) s.chunk)

-- those of the lists of streams that an edit names
abbrev pub names_fit : Avi → Names → Bool
names_fit a e = list_all (strl_fits e) (flat_map (sites_in e) (hdrl_site a))

-- those of the first form, with its names set
abbrev pub lists_fit : Avi → Changes → Bool
lists_fit a e = units_fit (ends_file a) (units shut (new_cells (named a e.names) e.infos))

-- ---- patches

-- the size of a list at a place, where it changes
abbrev pub list_patch : ℕ → Chunk → Chunk → List Patch
list_patch at old new =
    if length old.body == length new.body then [] else patch (at + 4) (to_le_bytes w32 (length new.body))

-- a stream's list: its size, then each unit
abbrev pub strl_patches : Names → Site → List Patch
strl_patches e s =
    list_patch s.at s.chunk (strl_named s.ends (new_names e s.stream) s.chunk)
    ++ unit_patches (strl_fill s.ends s.chunk) (s.at + 12) (strl_pieces (new_names e s.stream) s.chunk)

-- hdrl: its size, then the lists of streams
abbrev pub hdrl_patches : Names → Site → List Patch
hdrl_patches e s = list_patch s.at s.chunk (hdrl_named e s.ends s.chunk) ++ flat_map (strl_patches e) (sites_in e s)

-- a patch put before the first of some others that stands behind it
abbrev pub put_patch : Patch → List Patch → List Patch
put_patch p [] = p ∷ []
put_patch p (q ∷ qs) = if nat_lt q.at p.at then q ∷ put_patch p qs else p ∷ (q ∷ qs)

-- patches put among others
abbrev pub put_patches : List Patch → List Patch → List Patch
put_patches [] qs = qs
put_patches (p ∷ ps) qs = put_patch p (put_patches ps qs)

-- By place: the form's size, and the patches of hdrl among those of the first form's units. A unit's patch stands where its bytes
-- stand in the new file.
abbrev pub patches_of : Avi → Changes → List Patch
patches_of a e =
    let n = named a e.names in
    size_patch riff (length (inner a.children a.left)) (length (inner (children_after a e) a.left))
    ++ put_patches (flat_map (hdrl_patches e.names) (hdrl_site a))
    (unit_patches (fill_of (riff_of n)) 12 (units shut (new_cells n e.infos)))

-- none where nothing changes
abbrev pub patches_by : Avi → Changes → List Patch
patches_by a e = if is_idle e then [] else patches_of a e

-- the patches of an edit of fields
abbrev pub patches_after : List ℕ → List EditItem → List Patch
patches_after o e = patches_by (avi_of o) (all_changes o e)

-- every unit fits its slot, and the patches have at most 16 MiB
abbrev pub room_by : Avi → Changes → Bool
room_by a e = (names_fit a e.names && lists_fit a e) && nat_le (all_bytes (patches_of a e)) (2 ^ 24)

-- the edit has room in place
abbrev pub room_after : List ℕ → List EditItem → Bool
room_after o e = room_by (avi_of o) (all_changes o e)
