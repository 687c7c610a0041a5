-- Parts with what stands in them.
use Rattle.std.specs.Prelude.{◌≡◌, ℕ, ◌+◌, ◌%◌, min, nat_le, List, [], ◌∷◌, Bool, true, false, ◌&&◌, if◌then◌else◌}
use Rattle.std.specs.List.{flat_map}
use Rattle.part_tree.specs.declared.part.Part.{Part}
use Rattle.part_tree.specs.declared.part.Role.{Role}
use Rattle.part_tree.specs.declared.part.Role.TheVariants.{Info}
use Rattle.container_model.specs.Chunk.{Run, ends}
use Rattle.riff_form.specs.Walk.{row}
use Rattle.wave_model.specs.Map.{list_parts}

-- a list of fields
abbrev pub is_list : Role → Bool
is_list Info = true
is_list _ = false

-- a list of fields that has its type is opened
abbrev pub opens : Part → Bool
opens p = is_list p.role && nat_le 4 p.body.len

-- the chunks in it, behind its type
abbrev pub chunks_in : List ℕ → Part → Run
chunks_in b p = row b (p.body.at + 4) (p.body.at + p.body.len)

-- a part, with the items of a list and its rest behind it
abbrev pub opened_part : List ℕ → Part → List Part
opened_part b p = p ∷ (if opens p then list_parts (p.body.at + 4) (chunks_in b p) else [])

-- the same of each part
abbrev pub opened_parts : List ℕ → List Part → List Part
opened_parts b ps = flat_map (opened_part b) ps

-- the items of a list end with it
abbrev pub PartEnds : List ℕ → Part → Type 0
PartEnds b p = opens p ≡ true → (chunks_in b p).stop ≡ ends

-- where the last of some parts ends, and a place where there is none
abbrev pub end_after : ℕ → List Part → ℕ
end_after at [] = at
end_after at (p ∷ ps) = end_after p.next ps

-- where the tail begins: behind the form and its pad, as far as that is there
abbrev pub tail_at : ℕ → ℕ → ℕ
tail_at form_end len = min len (form_end + form_end % 2)
