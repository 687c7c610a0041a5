-- What stands where something was edited meets no test of another part of the edit.
use Rattle.std.proofs.Common.{◌≡◌, ◌∙◌, ℕ, zero, suc, Bool, true, false, List, [], ◌∷◌, map, refl, ap}
use Rattle.std.specs.Prelude.{◌&&◌, Option, Some, None, codes, if◌then◌else◌}
use Rattle.std.specs.Str.{bytes_eq}
use Rattle.std.specs.List.{flat_map, AllByRecursion}
use Rattle.part_tree.specs.declared.field.Value.{Value}
use Rattle.part_tree.specs.Names.{whole_ids}
use Rattle.field_model.specs.Update.{RawItem}
use Rattle.container_model.specs.Chunk.{Chunk}
use Rattle.container_model.specs.Units.{Cell, kept, gap, edited, live}
use Rattle.container_model.specs.Items.{Item}
use Rattle.container_model.proofs.Items.{same_true}
use Rattle.field_model.specs.Bext.{new_body}
use Rattle.field_model.specs.Body.{edited_bext}
use Rattle.carrier_model.specs.Cells.{leave, become, never, acted_cells}
use Rattle.carrier_model.specs.Lists.{items_of, all_items, home, concerns, has_carrier, sets_some, new_carrier, lists_act, lists_act_by}
use Rattle.carrier_model.specs.Info.{one_of, made, info, info_items}
use Rattle.carrier_model.proofs.Cells.{Makes, made_by}
use Rattle.wave_model.specs.Fields.{is_bext, is_info, is_whole}
use Rattle.wave_model.specs.Carry.{steps, info_part, bext_act, bext_by, edits_bext, first_becomes, whole_by, whole_act, whole_part, some_chunk}
use Rattle.carrier_model.specs.Steps.{Step, carried}
use Rattle.carrier_model.proofs.Steps.{NowCells, now_carried}
use Rattle.edit_planner.specs.declared.cells.CellAt.{CellAt}
use Rattle.edit_planner.specs.Cells.{NoWholes, Unedited, Unmet, told_row}

unmet_now : (p : Chunk → Bool) (xs : List Cell) → Unmet p xs → NowCells (λ c. p c ≡ false) xs
unmet_now p [] u = tt
unmet_now p (kept c ∷ xs) u = unmet_now p xs u
unmet_now p (gap c ∷ xs) u = unmet_now p xs u
unmet_now p (edited old now ∷ xs) u = (u.0, unmet_now p xs u.1)

now_unmet : (p : Chunk → Bool) (xs : List Cell) → NowCells (λ c. p c ≡ false) xs → Unmet p xs
now_unmet p [] u = tt
now_unmet p (kept c ∷ xs) u = now_unmet p xs u
now_unmet p (gap c ∷ xs) u = now_unmet p xs u
now_unmet p (edited old now ∷ xs) u = (u.0, now_unmet p xs u.1)

pub unmet_acted : (p : Chunk → Bool) (s : Step) → ((cs : List Chunk) → Makes (λ c. p c ≡ false) (s cs)) → (xs : List Cell) → Unmet p xs → Unmet p (acted_cells (s (flat_map live xs)) xs)
unmet_acted p s m xs u = now_unmet p (acted_cells (s (flat_map live xs)) xs) (now_carried (λ c. p c ≡ false) (s ∷ []) (m, tt) xs (unmet_now p xs u))

and_no : (a : Bool) → (a && false) ≡ false
and_no true = refl
and_no false = refl

other_made : (w v raw : List ℕ) → bytes_eq w v ≡ false → is_whole w (made v raw) ≡ false
other_made w v raw h = ap (λ (t : Bool). one_of whole_ids w && t) h ∙ and_no (one_of whole_ids w)

-- the chunks of another identifier
pub other_whole : (w v : List ℕ) (e : List RawItem) → bytes_eq w v ≡ false → (cs : List Chunk) → Makes (λ c. is_whole w c ≡ false) (whole_act v e cs)
other_whole w v e h cs = go (whole_part v e) (some_chunk (is_whole v) cs)
  where
    first : (x : Option Value) (new : List Chunk) → AllByRecursion (λ c. is_whole w c ≡ false) new → (n : ℕ) (c : Chunk) → AllByRecursion (λ c. is_whole w c ≡ false) (made_by (first_becomes new n c))
    first x new h zero c = h
    first x new h (suc n) c = tt

    go : (x : Option (Option Value)) (t : Bool) → Makes (λ c. is_whole w c ≡ false) (whole_by v x t)
    go None t = tt
    go (Some None) t = λ n c. first None [] tt n c
    go (Some (Some x)) true = λ n c. first None (made v x.raw ∷ []) (other_made w v x.raw h, tt) n c
    go (Some (Some x)) false = other_made w v x.raw h

-- ---- the four whole chunks

abbrev pub Edits : List ℕ → List RawItem → ℕ → List CellAt → List CellAt → Type 0
Edits w e from ys zs = (xs : List Cell) → Unmet (is_whole w) xs → ys ≡ told_row from xs → zs ≡ told_row from (acted_cells (whole_act w e (flat_map live xs)) xs)

pub wholes_done : (e : List RawItem) (from : ℕ) (xs : List Cell) (y0 y1 y2 y3 y4 : List CellAt) → Edits (codes "axml") e from y0 y1 → Edits (codes "iXML") e from y1 y2 → Edits (codes "_PMX") e from y2 y3 → Edits (codes "MD5 ") e from y3 y4
    → NoWholes xs → y0 ≡ told_row from xs → y4 ≡ told_row from (carried (map (λ w. whole_act w e) whole_ids) xs)
wholes_done e from xs y0 y1 y2 y3 y4 a b c d none is =
    let step : (w : List ℕ) → Step = λ w. whole_act w e in
    let x1 : List Cell = acted_cells (whole_act (codes "axml") e (flat_map live xs)) xs in
    let x2 : List Cell = acted_cells (whole_act (codes "iXML") e (flat_map live x1)) x1 in
    let x3 : List Cell = acted_cells (whole_act (codes "_PMX") e (flat_map live x2)) x2 in
    let i1 : Unmet (is_whole (codes "iXML")) x1 = unmet_acted (is_whole (codes "iXML")) (step (codes "axml")) (other_whole (codes "iXML") (codes "axml") e refl) xs (none (codes "iXML")) in
    let p1 : Unmet (is_whole (codes "_PMX")) x1 = unmet_acted (is_whole (codes "_PMX")) (step (codes "axml")) (other_whole (codes "_PMX") (codes "axml") e refl) xs (none (codes "_PMX")) in
    let p2 : Unmet (is_whole (codes "_PMX")) x2 = unmet_acted (is_whole (codes "_PMX")) (step (codes "iXML")) (other_whole (codes "_PMX") (codes "iXML") e refl) x1 p1 in
    let m1 : Unmet (is_whole (codes "MD5 ")) x1 = unmet_acted (is_whole (codes "MD5 ")) (step (codes "axml")) (other_whole (codes "MD5 ") (codes "axml") e refl) xs (none (codes "MD5 ")) in
    let m2 : Unmet (is_whole (codes "MD5 ")) x2 = unmet_acted (is_whole (codes "MD5 ")) (step (codes "iXML")) (other_whole (codes "MD5 ") (codes "iXML") e refl) x1 m1 in
    let m3 : Unmet (is_whole (codes "MD5 ")) x3 = unmet_acted (is_whole (codes "MD5 ")) (step (codes "_PMX")) (other_whole (codes "MD5 ") (codes "_PMX") e refl) x2 m2 in
    d x3 m3 (c x2 p2 (b x1 i1 (a xs (none (codes "axml")) is)))

-- ---- all parts of an edit

no_whole_made : (w v raw : List ℕ) → one_of whole_ids v ≡ false → is_whole w (made v raw) ≡ false
no_whole_made w v raw h = go (bytes_eq w v) refl
  where
    go : (t : Bool) → bytes_eq w v ≡ t → (one_of whole_ids w && t) ≡ false
    go true e = ap (λ (x : List ℕ). one_of whole_ids x && true) (same_true w v e) ∙ ap (λ (t : Bool). t && true) h
    go false e = and_no (one_of whole_ids w)

pub bext_makes : (p : Chunk → Bool) (e : List RawItem) → ((raw : List ℕ) → p (made (codes "bext") raw) ≡ false) → (cs : List Chunk) → Makes (λ c. p c ≡ false) (bext_act e cs)
bext_makes p e h cs = go (edits_bext e) (some_chunk is_bext cs)
  where
    go : (t u : Bool) → Makes (λ c. p c ≡ false) (bext_by e t u)
    go false u = tt
    go true true = λ n c. (h (edited_bext e c.body), tt)
    go true false = h (edited_bext e new_body)

pub lists_make : (p : Chunk → Bool) (e : List (Item (List ℕ))) → ((raw : List ℕ) → p (made (codes "LIST") raw) ≡ false) → (cs : List Chunk) → Makes (λ c. p c ≡ false) (lists_act info info_items never e cs)
lists_make p e h cs = go (has_carrier info cs)
  where
    fresh : (b : Bool) → Makes (λ c. p c ≡ false) (new_carrier info info_items never e b)
    fresh true = h _
    fresh false = tt

    one : (t : Bool) (raw : List ℕ) → AllByRecursion (λ c. p c ≡ false) (made_by (if t then become (made (codes "LIST") raw ∷ []) else leave))
    one true raw = (h raw, tt)
    one false raw = tt

    go : (b : Bool) → Makes (λ c. p c ≡ false) (lists_act_by info info_items never e cs b)
    go false = fresh (sets_some e)
    go true = λ n c. one (concerns (home (all_items info info_items cs)) n (items_of info info_items c) e) _

unedited_unmet : (p : Chunk → Bool) (xs : List Cell) → Unedited xs → Unmet p xs
unedited_unmet p [] u = tt
unedited_unmet p (kept c ∷ xs) u = unedited_unmet p xs u
unedited_unmet p (gap c ∷ xs) u = unedited_unmet p xs u
unedited_unmet p (edited old now ∷ xs) u = absurd u

pub lists_met : (e : List RawItem) (xs : List Cell) → Unedited xs → Unmet is_info (acted_cells (bext_act e (flat_map live xs)) xs)
lists_met e xs u = unmet_acted is_info (bext_act e) (bext_makes is_info e (λ raw. refl)) xs (unedited_unmet is_info xs u)

pub wholes_met : (e : List RawItem) (xs : List Cell) → Unedited xs → (x1 : List Cell) → x1 ≡ acted_cells (bext_act e (flat_map live xs)) xs → NoWholes (acted_cells (lists_act info info_items never (info_part e) (flat_map live x1)) x1)
wholes_met e xs u x1 is w =
    let first : Unmet (is_whole w) x1 = rw is (unmet_acted (is_whole w) (bext_act e) (bext_makes (is_whole w) e (λ raw. no_whole_made w (codes "bext") raw refl)) xs (unedited_unmet (is_whole w) xs u)) in
    unmet_acted (is_whole w) (lists_act info info_items never (info_part e)) (lists_make (is_whole w) (info_part e) (λ raw. no_whole_made w (codes "LIST") raw refl)) x1 first

pub all_done : (e : List RawItem) (from : ℕ) (xs : List Cell) (y0 y1 y2 y3 : List CellAt) → Unedited xs → y0 ≡ told_row from xs
    → ((xs : List Cell) → Unedited xs → y0 ≡ told_row from xs → y1 ≡ told_row from (acted_cells (bext_act e (flat_map live xs)) xs))
    → ((xs : List Cell) → Unmet is_info xs → y1 ≡ told_row from xs → y2 ≡ told_row from (acted_cells (lists_act info info_items never (info_part e) (flat_map live xs)) xs))
    → ((xs : List Cell) → NoWholes xs → y2 ≡ told_row from xs → y3 ≡ told_row from (carried (map (λ w. whole_act w e) whole_ids) xs))
    → y3 ≡ told_row from (carried (steps e) xs)
all_done e from xs y0 y1 y2 y3 u is a b c =
    let x1 : List Cell = acted_cells (bext_act e (flat_map live xs)) xs in
    let x2 : List Cell = acted_cells (lists_act info info_items never (info_part e) (flat_map live x1)) x1 in
    c x2 (wholes_met e xs u x1 refl) (b x1 (lists_met e xs u) (a xs u is))
