-- The patches of an edit are no more than the new chunks, where a chunk is copied.
use Rattle.std.proofs.Common.{◌≡◌, ℕ, suc, ◌+◌, ◌≤◌, Bool, true, false, cond, List, [], ◌∷◌, ◌++◌, length, map, take, refl, arith}
use Rattle.std.specs.Prelude.{◌&&◌, not}
use Rattle.std.proofs.lemmas.List.{length-append}
use Rattle.container_model.specs.Chunk.{Chunk, spell, spell_all}
use Rattle.container_model.specs.Units.{Cell, kept, gap, edited, padded, lacks_pad, is_empty, Piece, copied, replaced, Slot, shut, begun, closed, units, kept_next, Fill, lead_pad, lay}
use Rattle.carrier_model.specs.RiffForm.{RiffForm, body_of, fill_of, new_children, new_size, children_at, size_patch, form_patches}
use Rattle.carrier_model.specs.Room.{patch, unit_patches}
use Rattle.carrier_model.proofs.Patches.{one_patch}
use Rattle.carrier_model.proofs.RiffForm.{size_few}

-- ---- patches and copied chunks

-- the copied chunks
abbrev pub copies : List Piece → ℕ
copies [] = 0
copies (copied c ∷ ps) = suc (copies ps)
copies (replaced lead slot now last ∷ ps) = copies ps

-- a unit with a patch has a chunk
unit_few : (at : ℕ) (lead now more : List Chunk) → length (patch at ((lead_pad lead ++ spell_all now) ++ take 8 (spell_all more))) ≤ length (map padded lead ++ (now ++ more))
unit_few at [] [] [] = omega arith
unit_few at (c ∷ lead) now more = omega (arith, one_patch at ((lead_pad (c ∷ lead) ++ spell_all now) ++ take 8 (spell_all more)))
unit_few at [] (c ∷ now) more = omega (arith, one_patch at ((lead_pad [] ++ spell_all (c ∷ now)) ++ take 8 (spell_all more)))
unit_few at [] [] (c ∷ more) = omega (arith, one_patch at ((lead_pad [] ++ spell_all []) ++ take 8 (spell_all (c ∷ more))))

pub pieces_few : (fill : Fill) (at : ℕ) (ps : List Piece) → length (unit_patches fill at ps) + copies ps ≤ length (lay fill ps)
pieces_few fill at [] = omega arith
pieces_few fill at (copied c ∷ ps) = omega (arith, pieces_few fill (at + length (spell c)) ps)
pieces_few fill at (replaced lead slot now last ∷ ps) =
    let u = lead_pad lead ++ spell_all now in
    let f = fill last slot (length u) in
    let here = at + length (spell_all lead) in
    let next = at + length (spell_all lead ++ slot) in
    omega (arith, pieces_few fill next ps, unit_few here lead now f, length-append (patch here (u ++ take 8 (spell_all f))) (unit_patches fill next ps), length-append (map padded lead ++ (now ++ f)) (lay fill ps))

-- ---- the cells that are copied

-- kept chunks that no unit brings
abbrev pub copied_cells : List Cell → ℕ
copied_cells [] = 0
copied_cells (kept c ∷ xs) = cond (lacks_pad c && not (is_empty xs)) 0 1 + copied_cells xs
copied_cells (gap c ∷ xs) = copied_cells xs
copied_cells (edited old now ∷ xs) = copied_cells xs

closed_copies : (last : Bool) (s : Slot) (ps : List Piece) → copies (closed last s ++ ps) ≡ copies ps
closed_copies last shut ps = refl
closed_copies last (begun lead slot now) ps = refl

kept_copies : (t : Bool) (c : Chunk) (xs : List Cell) → ((s : Slot) → copied_cells xs ≤ copies (units s xs)) → cond t 0 1 + copied_cells xs ≤ copies (kept_next t c (λ s. units s xs))
kept_copies true c xs again = omega (arith, again (begun (c ∷ []) [] []))
kept_copies false c xs again = omega (arith, again shut)

gap_copies : (t : Bool) (c : Chunk) (xs : List Cell) → ((s : Slot) → copied_cells xs ≤ copies (units s xs)) → copied_cells xs ≤ copies (kept_next t c (λ s. units s xs))
gap_copies true c xs again = again (begun (c ∷ []) [] [])
gap_copies false c xs again = omega (arith, again shut)

pub units_copies : (s : Slot) (xs : List Cell) → copied_cells xs ≤ copies (units s xs)
unfolding units
units_copies s [] = omega arith
units_copies s (kept c ∷ xs) =
    let t = lacks_pad c && not (is_empty xs) in
    omega (arith, closed_copies false s (kept_next t c (λ u. units u xs)), kept_copies t c xs (λ u. units_copies u xs))
units_copies shut (gap c ∷ xs) = gap_copies (lacks_pad c && not (is_empty xs)) c xs (λ u. units_copies u xs)
units_copies (begun lead slot now) (gap c ∷ xs) = units_copies (begun lead (slot ++ spell c) now) xs
units_copies shut (edited old new ∷ xs) = units_copies (begun [] (spell_all old) new) xs
units_copies (begun lead slot now) (edited old new ∷ xs) = units_copies (begun lead (slot ++ spell_all old) (now ++ new)) xs

-- The patches of a form's edit that copies a chunk are no more than its new chunks.
pub form_few : (r : RiffForm) (xs : List Cell) → 1 ≤ copied_cells xs → length (form_patches r xs) ≤ length (new_children r xs)
form_few r xs some =
    let ps = units shut xs in
    let size = size_patch r.form (length (body_of r)) (new_size r xs) in
    omega (arith, some, units_copies shut xs, pieces_few (fill_of r) (children_at r) ps, size_few r.form (length (body_of r)) (new_size r xs), length-append size (unit_patches (fill_of r) (children_at r) ps))
