-- The places of an edit of the lists of fields in an AVI file.
use Rattle.std.proofs.Common.{◌≡◌, ◌∙◌, ◌≤◌, ◌<◌, ℕ, zero, suc, ◌+◌, ◌-◌, ◌^◌, Bool, true, false, List, [], ◌∷◌, ◌++◌, length, map, refl, sym, ap, arith, subst, append_assoc}
use Rattle.std.specs.Prelude.{Option, Some, None, codes, if◌then◌else◌}
use Rattle.std.specs.declared.result.Result.TheVariants.{Ok, Err}
use Rattle.std.specs.List.{flat_map, AllByRecursion}
use Rattle.std.proofs.lemmas.List.{append-nil, length-append}
use Rattle.me_bytes.specs.Bytes.{IsBytes}
use Rattle.part_tree.specs.declared.field.FieldName.{FieldName}
use Rattle.part_tree.specs.declared.field.FieldName.TheVariants.{Bext, Info, Whole, User, Key, Stream}
use Rattle.part_tree.specs.declared.field.Value.{Value}
use Rattle.part_tree.specs.Names.{info_ids}
use Rattle.part_tree.specs.Large.{first_above, limited}
use Rattle.field_model.specs.Update.{RawItem}
use Rattle.container_model.specs.Chunk.{Chunk, spell, spell_all}
use Rattle.container_model.specs.Stood.{Stood, bare, only, stood}
use Rattle.container_model.specs.Units.{Cell, kept, gap, edited, was, live, lacks_pad}
use Rattle.container_model.specs.Items.{Item, Items as of_items}
use Rattle.container_model.specs.Windows.{window}
use Rattle.carrier_model.specs.Cells.{Act, nothing, change, add, acted_cells, meets, behind, insert_cell}
use Rattle.carrier_model.specs.Info.{info, info_items, is_padding, one_of}
use Rattle.carrier_model.specs.Lists.{all_items, edit_list_cells, edit_lists as edited_lists, edit_nth, has_carrier, home as home_of, lists_act, lists_act_by, new_carrier, sets_some}
use Rattle.carrier_model.proofs.Cells.{Gaps, gaps_acted, was_acted}
use Rattle.carrier_model.proofs.Info.{padding_no_list}
use Rattle.unit_plan.specs.Places.{Follow as PlacesFollow, shape_in}
use Rattle.unit_plan.specs.Shapes.{Shape, stays, shape_of}
use Rattle.unit_plan.specs.declared.place.Place.{Place}
use Rattle.avi_model.specs.Avi.{avi_of, inner}
use Rattle.avi_model.specs.Edited.{info_edit}
use Rattle.avi_model.specs.Edited as avi
use Rattle.avi_model.specs.Named.{cell_by, cell_of, is_hdrl}
use Rattle.avi_model.specs.NewFile.{Items, home}
use Rattle.avi_model.specs.Support.{Supported, infos, list_limit}
use Rattle.avi_model.proofs.Forms.{file_read}
use Rattle.avi_model.proofs.JoinedSpliced.{avi_parts, head_bytes}
use Rattle.wave_model.specs.Carry.{info_item, info_part}
use Rattle.wave_model.specs.Fields.{bodies, is_info}
use Rattle.edit_planner.specs.declared.cells.CellAt.{CellAt}
use Rattle.edit_planner.specs.declared.cells.Content.{Content}
use Rattle.edit_planner.specs.declared.head.Head.{Head}
use Rattle.edit_planner.specs.declared.lists.ListsFault.{ListsFault}
use Rattle.edit_planner.specs.Avi.{EditsLists, avi_cells, avi_held, cells_after, lists_after}
use Rattle.edit_planner.specs.AviPlaces.{avi_sizes}
use Rattle.avi_plan.specs.Row.{told_row}
use Rattle.edit_planner.specs.Cells.{part_count, told_by, told_row_by}
use Rattle.edit_planner.specs.Lists.{Edits, SmallLists, TellsLarge, fresh_list, lengths}
use Rattle.edit_planner.specs.Row.{new_at, put_after, with_pad}
use Rattle.edit_planner.specs.Stand.{count_of, placed, what_of}
use Rattle.edit_planner.specs.Tops.{IsRiff, head_from}
use Rattle.edit_planner.proofs.AviRow.{HeadAt, KeptRiff, avi_holds, avi_stays, avi_unmet, avi_was, fresh_cell, head_cells, head_inserted, head_settled, kept_riff, pad_put, row_inserted}
use Rattle.edit_planner.proofs.AviTops.{types_differ}
use Rattle.edit_planner.proofs.Shaped.{gaps_here, one_shape, shapes, spell_both}

-- ---- the items of an edit

one_same : (name : FieldName) (value : Option Value) → info_item name value ≡ avi.info_item name value
one_same (Bext field) value = refl
one_same (Info id) value = refl
one_same (Whole id) value = refl
one_same (User id) value = refl
one_same (Key id) value = refl
one_same (Stream n) value = refl

pub infos_same : (rs : List RawItem) → info_part rs ≡ info_edit rs
infos_same [] = refl
infos_same (r ∷ rs) = ap (λ (xs : List (Item (List ℕ))). xs ++ info_part rs) (one_same r.name r.value) ∙ ap (λ (xs : List (Item (List ℕ))). avi.info_item r.name r.value ++ xs) (infos_same rs)

-- ---- the row

pub row_kept : (cs : List Chunk) (k : ℕ) (l : Bool) (e : Items) (old row new : List CellAt)
    → ((h : Head) → old ≡ told_row_by avi_held 12 (avi_cells cs) → Edits avi_held home 12 e (avi_cells cs) row None) → new ≡ with_pad l k row → EditsLists cs k l e old new
row_kept cs k l e old row new edits pad = λ h found num riff same. pad ∙ ap (with_pad l k) (edits h same)

pub row_put : (cs : List Chunk) (k : ℕ) (l : Bool) (e : Items) (old row mid new : List CellAt) (content : Content)
    → ((h : Head) → old ≡ told_row_by avi_held 12 (avi_cells cs) → Edits avi_held home 12 e (avi_cells cs) row (Some content)) → mid ≡ with_pad l k row → new ≡ put_after (new_at content) k mid → EditsLists cs k l e old new
row_put cs k l e old row mid new content edits pad put = λ h found num riff same.
    let xs = avi_cells cs in
    let d : Chunk = fresh_list e in
    let w = edits h same in
    let head : HeadAt k xs = head_cells 0 12 k cs h found (omega (arith, num)) in
    put ∙ ap (put_after (new_at content) k) (pad ∙ ap (with_pad l k) w.0)
    ∙ ap (λ (y : Content). put_after (new_at y) k (with_pad l k (told_row_by avi_held 12 xs))) w.1
    ∙ pad_put l (fresh_cell d) k (told_row_by avi_held 12 xs)
    ∙ ap (with_pad l k) (sym (row_inserted d k 12 xs head (kept_riff cs riff) (avi_unmet (meets home) cs)) ∙ ap (told_row_by avi_held 12) (sym w.2))

-- ---- where `hdrl` is then

pub head_after : (e : Items) (k : ℕ) (xs : List Cell) → HeadAt k xs → KeptRiff xs → Rattle.edit_planner.specs.Cells.Unmet (meets home) xs → HeadAt k (edit_list_cells info info_items home e xs)
head_after e k xs h r u = go (has_carrier info (flat_map live xs))
  where
    new : (t : Bool) → HeadAt k (acted_cells (new_carrier info info_items home e t) xs)
    new true = head_inserted (info.fresh (Rattle.container_model.specs.Items.put_all info_items e [])) k xs h r u
    new false = h

    go : (t : Bool) → HeadAt k (acted_cells (lists_act_by info info_items home e (flat_map live xs) t) xs)
    go true = head_settled (edit_nth info info_items (home_of (all_items info info_items (flat_map live xs))) e) 0 k xs h
    go false = new (sets_some e)

-- ---- shapes

front : (cell : Cell) (xs : List Cell) (b x y : List ℕ) → b ≡ x ++ (spell_all (flat_map was (cell ∷ xs)) ++ y) → b ≡ x ++ (spell_all (was cell) ++ (spell_all (flat_map was xs) ++ y))
front cell xs b x y e =
    e ∙ ap (λ (z : List ℕ). x ++ (z ++ y)) (spell_both (was cell) (flat_map was xs)) ∙ ap (λ (z : List ℕ). x ++ z) (append_assoc (spell_all (was cell)) (spell_all (flat_map was xs)) y)

split : (cell : Cell) (xs : List Cell) (b x y : List ℕ) → b ≡ x ++ (spell_all (flat_map was (cell ∷ xs)) ++ y) → b ≡ (x ++ spell_all (was cell)) ++ (spell_all (flat_map was xs) ++ y)
split cell xs b x y e = front cell xs b x y e ∙ sym (append_assoc x (spell_all (was cell)) (spell_all (flat_map was xs) ++ y))

pub pad_row : (l : Bool) (k : ℕ) (b x y : List ℕ) (at : ℕ) (xs : List Cell) → b ≡ x ++ (spell_all (flat_map was xs) ++ y) → length x ≡ at → Gaps (λ c. is_info c ≡ false) xs → HeadAt k xs
    → map (shape_in b) (map placed (with_pad l k (told_row_by avi_held at xs))) ≡ told_row l xs
pad_row l k b x y at [] e len g h = absurd h
pad_row l zero b x y at (kept c ∷ xs) e len g h =
    let q = at + length (spell_all (c ∷ [])) in
    let rest = map (shape_in b) (map placed (told_row_by avi_held q xs)) in
    let n : (at + length (spell c)) - at ≡ length (spell c) = omega arith in
    let later = shapes avi_held avi_stays b (x ++ spell_all (c ∷ [])) y q xs (split (kept c) xs b x y e) (omega (arith, len, length-append x (spell_all (c ∷ [])))) g in
    ap (λ (w : Rattle.unit_plan.specs.declared.place.What.What). Rattle.unit_plan.specs.Places.shape_by (window b at (at + length (spell c))) ((at + length (spell c)) - at) l (count_of (avi_held at c)) w ∷ rest) (avi_stays.what at c)
    ∙ ap (λ (m : ℕ). stays m l (count_of (avi_held at c)) ∷ rest) n
    ∙ ap (λ (m : ℕ). stays (length (spell c)) l m ∷ rest) (avi_stays.parts at c)
    ∙ ap (λ (zs : List Shape). stays (length (spell c)) l (part_count c) ∷ zs) later
    ∙ sym (ap (λ (t : Bool). if t then stays (length (spell c)) l (part_count c) ∷ map (shape_of part_count) xs else shape_of part_count (kept c) ∷ told_row l xs) h)
pad_row l (suc k) b x y at (kept c ∷ xs) e len g h =
    let q = at + length (spell_all (c ∷ [])) in
    ap (λ (z : Shape). z ∷ map (shape_in b) (map placed (with_pad l k (told_row_by avi_held q xs)))) (one_shape avi_held avi_stays b x (spell_all (flat_map was xs) ++ y) at (kept c) (front (kept c) xs b x y e) len tt)
    ∙ ap (λ (zs : List Shape). shape_of part_count (kept c) ∷ zs) (pad_row l k b (x ++ spell_all (c ∷ [])) y q xs (split (kept c) xs b x y e) (omega (arith, len, length-append x (spell_all (c ∷ [])))) g h.1)
    ∙ sym (ap (λ (t : Bool). if t then stays (length (spell c)) l (part_count c) ∷ map (shape_of part_count) xs else shape_of part_count (kept c) ∷ told_row l xs) h.0)
pad_row l zero b x y at (gap c ∷ xs) e len g h = absurd h
pad_row l (suc k) b x y at (gap c ∷ xs) e len g h =
    let q = at + length (spell_all (c ∷ [])) in
    ap (λ (z : Shape). z ∷ map (shape_in b) (map placed (with_pad l k (told_row_by avi_held q xs)))) (one_shape avi_held avi_stays b x (spell_all (flat_map was xs) ++ y) at (gap c) (front (gap c) xs b x y e) len (g.0, tt))
    ∙ ap (λ (zs : List Shape). shape_of part_count (gap c) ∷ zs) (pad_row l k b (x ++ spell_all (c ∷ [])) y q xs (split (gap c) xs b x y e) (omega (arith, len, length-append x (spell_all (c ∷ [])))) g.1 h)
pad_row l zero b x y at (edited old now ∷ xs) e len g h = absurd h
pad_row l (suc k) b x y at (edited old now ∷ xs) e len g h =
    let q = at + length (spell_all old) in
    ap (λ (z : Shape). z ∷ map (shape_in b) (map placed (with_pad l k (told_row_by avi_held q xs)))) (one_shape avi_held avi_stays b x (spell_all (flat_map was xs) ++ y) at (edited old now) (front (edited old now) xs b x y e) len tt)
    ∙ ap (λ (zs : List Shape). shape_of part_count (edited old now) ∷ zs) (pad_row l k b (x ++ spell_all old) y q xs (split (edited old now) xs b x y e) (omega (arith, len, length-append x (spell_all old))) g h)

-- ---- of a file

gaps_none : (cs : List Chunk) → Gaps (λ c. is_info c ≡ false) (avi_cells cs)
gaps_none [] = tt
gaps_none (c ∷ cs) = go (is_padding c) refl (gaps_none cs)
  where
    go : (t : Bool) → is_padding c ≡ t → Gaps (λ c. is_info c ≡ false) (avi_cells cs) → Gaps (λ c. is_info c ≡ false) (cell_by c t ∷ avi_cells cs)
    go true e g = (padding_no_list (codes "INFO") c e, g)
    go false e g = g

-- the places are those of the cells
pub places_told : (b : List ℕ) (l : Bool) (e : Items) (h : Head) (cells : List CellAt) (places : List Place) → IsBytes b → Supported b → AllByRecursion IsRiff (avi_of b).children → head_from 0 12 (avi_of b).children ≡ Some h
    → cells ≡ with_pad l h.number (told_row_by avi_held 12 (cells_after e (avi_of b).children)) → places ≡ map placed cells → map (shape_in b) places ≡ told_row l (cells_after e (avi_of b).children)
places_told b l e h cells places bytes sup riff found row is =
    let a = avi_of b in
    let cs = a.children in
    let xs = avi_cells cs in
    let act = lists_act info info_items home e (flat_map live xs) in
    let n = length (inner cs a.left) in
    let rest = a.left ++ (a.pad ++ Rattle.avi_model.specs.Avi.behind a) in
    let chunks : flat_map was (cells_after e cs) ≡ cs = was_acted act xs ∙ avi_was cs in
    let whole : b ≡ head_bytes n ++ (spell_all (flat_map was (cells_after e cs)) ++ rest) = (file_read b bytes sup).spelled ∙ avi_parts a ∙ ap (λ (ds : List Chunk). head_bytes n ++ (spell_all ds ++ rest)) (sym chunks) in
    let head : HeadAt h.number (cells_after e cs) = head_after e h.number xs (head_cells 0 12 h.number cs h found (omega arith)) (kept_riff cs riff) (avi_unmet (meets home) cs) in
    ap (map (shape_in b)) (is ∙ ap (map placed) row)
    ∙ pad_row l h.number b (head_bytes n) rest 12 (cells_after e cs) whole (omega arith) (gaps_acted (λ c. is_info c ≡ false) act xs (gaps_none cs)) head

-- ---- small lists

small_all : (at : ℕ) (cs : List Chunk) → AllByRecursion (λ x. length x.chunk.body ≤ list_limit) (only (Rattle.carrier_model.specs.Info.is_type (codes "INFO")) (stood at cs)) → SmallLists (flat_map live (avi_cells cs))
small_all at [] h = tt
small_all at (c ∷ cs) h = go (is_info c) (is_padding c) refl h (small_all (at + length (spell c)) cs)
  where
    go : (i p : Bool) → is_info c ≡ i
        → AllByRecursion (λ x. length x.chunk.body ≤ list_limit) (if i then record { at = at; chunk = bare c } ∷ only (Rattle.carrier_model.specs.Info.is_type (codes "INFO")) (stood (at + length (spell c)) cs) else only (Rattle.carrier_model.specs.Info.is_type (codes "INFO")) (stood (at + length (spell c)) cs))
        → (AllByRecursion (λ x. length x.chunk.body ≤ list_limit) (only (Rattle.carrier_model.specs.Info.is_type (codes "INFO")) (stood (at + length (spell c)) cs)) → SmallLists (flat_map live (avi_cells cs)))
        → SmallLists (flat_map live (cell_by c p ∷ avi_cells cs))
    go true true e h again = again h.1
    go true false e h again = ((λ i. h.0), again h.1)
    go false true e h again = again h
    go false false e h again = ((λ i. absurd (no_info e i)), again h)
      where
        no_info : is_info c ≡ false → is_info c ≡ true → ⊥
        no_info e i = let none : true ≡ false = sym i ∙ e in absurd cc

pub lists_small : (b : List ℕ) → Supported b → SmallLists (flat_map live (avi_cells (avi_of b).children))
lists_small b sup = small_all 12 (avi_of b).children sup.lists_small
