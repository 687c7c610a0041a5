-- The places of an edit, and the cells of the model.
use Rattle.std.proofs.Common.{◌≡◌, ◌∙◌, ◌≤◌, ◌<◌, ℕ, suc, ◌+◌, ◌-◌, ◌%◌, Bool, true, false, List, [], ◌∷◌, ◌++◌, length, map, take, drop, refl, sym, ap, arith, subst, append_assoc, inl, inr}
use Rattle.std.specs.Prelude.{◌⊎◌, ◌&&◌, not, ◌==◌, if◌then◌else◌, codes, None}
use Rattle.std.specs.List.{flat_map, AllByRecursion}
use Rattle.std.proofs.lemmas.List.{append-nil, length-append, length-map, take_at, drop_at}
use Rattle.me_bytes.specs.Bytes.{IsBytes}
use Rattle.part_tree.specs.Letters.{four}
use Rattle.part_tree.specs.declared.part.Part.{Part}
use Rattle.part_tree.specs.declared.part.Role.{Role}
use Rattle.part_tree.specs.declared.part.Role.TheVariants.{Opaque, Padding, Bext, Info, Whole, Sizes, Tables, UserData, Essence, Rest}
use Rattle.container_model.specs.Chunk.{Chunk, header_bytes, pad_len, spell, spell_all}
use Rattle.container_model.specs.Units.{Cell, kept, gap, edited, was, lacks_pad}
use Rattle.container_model.specs.Windows.{window}
use Rattle.container_model.specs.Written.{slice}
use Rattle.container_model.specs.Walk.{along}
use Rattle.carrier_model.specs.Info.{is_padding, list_run}
use Rattle.part_tree.specs.Large.{first_above}
use Rattle.carrier_model.proofs.Cells.{Gaps}
use Rattle.carrier_model.proofs.Info.{padding_no_list}
use Rattle.info_list.specs.Info.{item_of}
use Rattle.wave_model.specs.Wave.{Wave, wave_of, inner, spell_wave, sizes_of, firsts, cells_of, cells_behind, cell_of, cell_by, is_big}
use Rattle.wave_model.specs.Fields.{is_bext, is_info}
use Rattle.wave_model.specs.Edited.{Supported}
use Rattle.wave_model.specs.New.{children_at}
use Rattle.carrier_model.specs.Steps.{Step, carried}
use Rattle.wave_model.proofs.Again.{spelled}
use Rattle.carrier_model.proofs.RiffForm.{field_of, field_len}
use Rattle.wave_model.proofs.Cells.{was_cells, gaps_cells}
use Rattle.wave_model.proofs.Edited.{kind_len}
use Rattle.wave_model.proofs.Form.{spelled_is, old_form, old_fine}
use Rattle.wave_model.proofs.Map.{head_len, body_there}
use Rattle.wave_model.proofs.Read.{most, OfRiff, IsRead}
use Rattle.carrier_model.proofs.Steps.{was_carried, gaps_carried}
use Rattle.wave_file.specs.Map.{Ascend, all_parts, at_front, part_as, part_at, role_of, sizes_at}
use Rattle.unit_plan.specs.Shapes.{Shape, stays, pads, changes, parts_in, shape_of}
use Rattle.unit_plan.specs.Places.{Follow, shape_in}
use Rattle.unit_plan.specs.declared.place.Place.{Place}
use Rattle.edit_planner.specs.declared.cells.CellAt.{CellAt}
use Rattle.edit_planner.specs.declared.cells.Content.{Content}
use Rattle.edit_planner.specs.declared.cells.Content.TheVariants.{Kept, Body, Listed}
use Rattle.field_model.specs.Update.{RawItem}
use Rattle.wave_model.specs.Carry.{steps}
use Rattle.edit_planner.specs.declared.wave.PlaceRow.{PlaceRow}
use Rattle.edit_planner.specs.Places.{IsRowOf, begins_at, list_sizes, first_child, is_sizes}
use Rattle.edit_planner.specs.Cells as cells
use Rattle.edit_planner.specs.Cells.{Unedited, content_of, list_in, part_count, told, told_by, told_row, told_row_by}
use Rattle.edit_planner.specs.Stand.{StandFrom, cell_at, held_from, parts_from, told_chunks, placed, count_of, what_of, wave_role}
use Rattle.edit_planner.proofs.Stands.{wave_cells}

-- ---- chunks stand where they are told

bytes_at : (x s y : List ℕ) (at : ℕ) → length x ≡ at → window (x ++ (s ++ y)) at (at + length s) ≡ s
bytes_at x s y at e =
    let n : (at + length s) - at ≡ length s = omega arith in
    ap (λ (m : ℕ). take m (drop at (x ++ (s ++ y)))) n ∙ ap (take (length s)) (drop_at x (s ++ y) at e) ∙ take_at s y (length s) refl

pads_even : (c : Chunk) → OfRiff c.form → pad_len c.form (length c.body) ≡ length c.body % 2
pads_even c (inl e) = rw e refl
pads_even c (inr e) = rw e refl

stand_by : (n : ℕ) (b x : List ℕ) (at : ℕ) (cs : List Chunk) (y : List ℕ) → b ≡ x ++ (spell_all cs ++ y) → length x ≡ at → AllByRecursion (IsRead n) cs → StandFrom b at cs
stand_by n b x at [] y e l h = tt
stand_by n b x at (c ∷ cs) y e l h =
    let here : b ≡ x ++ (spell c ++ (spell_all cs ++ y)) = e ∙ ap (λ (z : List ℕ). x ++ z) (append_assoc (spell c) (spell_all cs) y) in
    let later : b ≡ (x ++ spell c) ++ (spell_all cs ++ y) = here ∙ sym (append_assoc x (spell c) (spell_all cs ++ y)) in (
      record {
        header = head_len n c h.0;
        padded = pads_even c h.0.form_is;
        body = sym (ap (λ (z : List ℕ). take (length c.body) (drop (at + 8) z)) here ∙ body_there at x c (spell_all cs ++ y) l (head_len n c h.0));
      },
      stand_by n b (x ++ spell c) (at + length (spell c)) cs y later (omega (arith, l, length-append x (spell c))) h.1,
    )

-- what stands before the children, and what behind them
pub record Split (b : List ℕ) : Type 0 where
  pub front : List ℕ
  pub rest : List ℕ
  pub whole : b ≡ front ++ (spell_all (wave_of b).children ++ rest)
  pub len : length front ≡ children_at (wave_of b)
  pub fine : AllByRecursion (IsRead (most (sizes_of b))) (wave_of b).children
  pub behind : 12 ≤ children_at (wave_of b)
  pub later : (d : Chunk) (ds : List Chunk) → (wave_of b).ds64 ≡ d ∷ ds → 12 < children_at (wave_of b)

all_right : (P : Chunk → Type 0) (a c : List Chunk) → AllByRecursion P (a ++ c) → AllByRecursion P c
all_right P [] c h = h
all_right P (x ∷ a) c h = all_right P a c h.1

pub split_of : (b : List ℕ) → IsBytes b → Supported b → Split b
split_of b bytes sup =
    let v = wave_of b in
    record {
      front = front;
      rest = v.left ++ (v.pad ++ v.tail);
      whole = spelled_is b bytes sup ∙ spelled v (old_form b bytes sup) ∙ regroup_form v.id (field_of v.form (length (inner v))) (codes "WAVE") (spell_all v.ds64) (spell_all v.children) v.left (v.pad ++ v.tail);
      len = omega (arith, twelve, length-append kind (spell_all v.ds64));
      fine = all_right (IsRead (most (sizes_of b))) v.ds64 v.children (old_fine b bytes sup);
      behind = omega arith;
      later = λ d ds e.
          let h : AllByRecursion (IsRead (most (sizes_of b))) ((d ∷ ds) ++ v.children) = subst (λ (xs : List Chunk). AllByRecursion (IsRead (most (sizes_of b))) (xs ++ v.children)) e (old_fine b bytes sup) in
          let head = header_bytes d.form d.id (length d.body) in
          omega (arith, head_len (most (sizes_of b)) d h.0, ap (λ (xs : List Chunk). length (spell_all xs)) e, length-append (spell d) (spell_all ds), length-append head (d.body ++ d.pad));
    }
  where
    kind : List ℕ
    kind = (wave_of b).id ++ (field_of (wave_of b).form (length (inner (wave_of b))) ++ codes "WAVE")

    front : List ℕ
    front = kind ++ spell_all (wave_of b).ds64

    regroup_form : (i g w d c l r : List ℕ) → i ++ (g ++ ((w ++ (d ++ (c ++ l))) ++ r)) ≡ ((i ++ (g ++ w)) ++ d) ++ (c ++ (l ++ r))
    regroup_form i g w d c l r = simp append_assoc

    twelve : length kind ≡ 12
    twelve =
        let v = wave_of b in
        let k = length (inner v) in
        omega (arith, kind_len (take 4 b) sup.form_id, field_len v.form k, length-append v.id (field_of v.form k ++ codes "WAVE"), length-append (field_of v.form k) (codes "WAVE"))

pub children_stand : (b : List ℕ) → Split b → StandFrom b (children_at (wave_of b)) (wave_of b).children
children_stand b s = stand_by (most (sizes_of b)) b s.front (children_at (wave_of b)) (wave_of b).children s.rest s.whole s.len s.fine

-- ---- the cells of a form

was_by : (c : Chunk) (t : Bool) → was (cell_by c t) ≡ c ∷ []
was_by c true = refl
was_by c false = refl

and_true : (a : Bool) → (a && true) ≡ a
and_true true = refl
and_true false = refl

and_no : (a : Bool) → (a && false) ≡ false
and_no true = refl
and_no false = refl

later_told : (b : List ℕ) (at : ℕ) (cs : List Chunk) → 12 < at → StandFrom b at cs → told_row at (map cell_of cs) ≡ told_chunks at cs
later_told b at [] lt s = refl
later_told b at (c ∷ cs) lt s =
    let no : (at == 12) ≡ false = Rattle.std.proofs.lemmas.Bool.ne_eqb at 12 (λ e. omega arith) in
    let this : cell_at at c ≡ cell_of c = ap (λ (t : Bool). cell_by c (is_padding c && not t)) no ∙ ap (cell_by c) (and_true (is_padding c)) in
    let len : at + length (spell_all (was (cell_of c))) ≡ at + length (spell c) = ap (λ (ds : List Chunk). at + length (spell_all ds)) (was_by c (is_padding c)) ∙ ap (λ (x : List ℕ). at + length x) (append-nil (spell c)) in
    ap (λ (x : Cell). told at x ∷ told_row (at + length (spell_all (was (cell_of c)))) (map cell_of cs)) (sym this)
    ∙ ap (λ (m : ℕ). told at (cell_at at c) ∷ told_row m (map cell_of cs)) len
    ∙ ap (λ (xs : List CellAt). told at (cell_at at c) ∷ xs) (later_told b (at + length (spell c)) cs (omega arith) s.1)

first_told : (b : List ℕ) (cs : List Chunk) → StandFrom b 12 cs → told_row 12 (cells_behind [] cs) ≡ told_chunks 12 cs
first_told b [] s = refl
first_told b (c ∷ cs) s =
    let this : cell_at 12 c ≡ kept c = ap (cell_by c) (and_no (is_padding c)) in
    let head = header_bytes c.form c.id (length c.body) in
    let more : 12 < 12 + length (spell c) = omega (arith, s.0.header, length-append head (c.body ++ c.pad)) in
    ap (λ (x : Cell). told 12 x ∷ told_row (12 + length (spell_all (c ∷ []))) (map cell_of cs)) (sym this)
    ∙ ap (λ (x : List ℕ). told 12 (cell_at 12 c) ∷ told_row (12 + length x) (map cell_of cs)) (append-nil (spell c))
    ∙ ap (λ (xs : List CellAt). told 12 (cell_at 12 c) ∷ xs) (later_told b (12 + length (spell c)) cs more s.1)

behind_told : (b : List ℕ) (ds cs : List Chunk) (at : ℕ) → at ≡ 12 + length (spell_all ds) → ((d : Chunk) (es : List Chunk) → ds ≡ d ∷ es → 12 < at) → StandFrom b at cs → told_row at (cells_behind ds cs) ≡ told_chunks at cs
behind_told b [] cs at e lt s =
    let here : at ≡ 12 = e in
    ap (λ (n : ℕ). told_row n (cells_behind [] cs)) here ∙ first_told b cs (subst (λ (n : ℕ). StandFrom b n cs) here s) ∙ ap (λ (n : ℕ). told_chunks n cs) (sym here)
behind_told b (d ∷ ds) cs at e lt s = later_told b at cs (lt d ds refl) s

pub cells_told : (b : List ℕ) (s : Split b) → told_row (children_at (wave_of b)) (cells_of (wave_of b)) ≡ told_chunks (children_at (wave_of b)) (wave_of b).children
cells_told b s = behind_told b (wave_of b).ds64 (wave_of b).children (children_at (wave_of b)) (omega arith) s.later (children_stand b s)

map_unedited : (cs : List Chunk) → Unedited (map cell_of cs)
map_unedited [] = tt
map_unedited (c ∷ cs) = go (is_padding c) (map_unedited cs)
  where
    go : (t : Bool) → Unedited (map cell_of cs) → Unedited (cell_by c t ∷ map cell_of cs)
    go true u = u
    go false u = u

pub cells_unedited : (ds cs : List Chunk) → Unedited (cells_behind ds cs)
cells_unedited [] [] = tt
cells_unedited [] (c ∷ cs) = map_unedited cs
cells_unedited (d ∷ ds) cs = map_unedited cs

-- ---- shapes

kept_parts : (at : ℕ) (c : Chunk) → count_of (content_of at c) ≡ part_count c
kept_parts at c = go (is_info c) (is_bext c)
  where
    go : (l e : Bool) → count_of (if l then Listed (list_in c) else (if e then Body c.body else Kept (four c.id) (at_front at (role_of c)))) ≡ length (if l then c ∷ (list_run c).chunks else c ∷ [])
    go true e = omega (arith, length-map (list_run c).chunks item_of)
    go false true = refl
    go false false = refl

kept_what : (at : ℕ) (c : Chunk) → what_of (content_of at c) ≡ Rattle.unit_plan.specs.declared.place.What.TheVariants.Stays
kept_what at c = go (is_info c) (is_bext c)
  where
    go : (l e : Bool) → what_of (if l then Listed (list_in c) else (if e then Body c.body else Kept (four c.id) (at_front at (role_of c)))) ≡ Rattle.unit_plan.specs.declared.place.What.TheVariants.Stays
    go true e = refl
    go false true = refl
    go false false = refl

-- a chunk that is kept stays, and counts for its parts
pub record Stays (held : ℕ → Chunk → Content) : Type 0 where
  pub parts : (at : ℕ) (c : Chunk) → count_of (held at c) ≡ part_count c
  pub what : (at : ℕ) (c : Chunk) → what_of (held at c) ≡ Rattle.unit_plan.specs.declared.place.What.TheVariants.Stays

wave_stays : Stays content_of
wave_stays = record { parts = kept_parts; what = kept_what }

pub one_shape : (held : ℕ → Chunk → Content) → Stays held → (b x y : List ℕ) (at : ℕ) (cell : Cell) → b ≡ x ++ (spell_all (was cell) ++ y) → length x ≡ at → Gaps (λ c. is_info c ≡ false) (cell ∷ []) → shape_in b (placed (told_by held at cell)) ≡ shape_of part_count cell
one_shape held k b x y at (kept c) e l g =
    let n : (at + length (spell c)) - at ≡ length (spell c) = omega arith in
    ap (Rattle.unit_plan.specs.Places.shape_by (window b at (at + length (spell c))) ((at + length (spell c)) - at) (lacks_pad c) (count_of (held at c))) (k.what at c)
    ∙ ap (λ (m : ℕ). stays m (lacks_pad c) (count_of (held at c))) n ∙ ap (stays (length (spell c)) (lacks_pad c)) (k.parts at c)
one_shape held k b x y at (gap c) e l g =
    let whole : b ≡ x ++ (spell c ++ y) = e ∙ ap (λ (z : List ℕ). x ++ (z ++ y)) (append-nil (spell c)) in
    ap (λ (o : List ℕ). pads o (lacks_pad c) 1) (ap (λ (z : List ℕ). window z at (at + length (spell c))) whole ∙ bytes_at x (spell c) y at l)
    ∙ ap (λ (t : Bool). pads (spell c) (lacks_pad c) (length (if t then c ∷ (list_run c).chunks else c ∷ []))) (sym g.0)
one_shape held k b x y at (edited old now) e l g =
    ap (λ (o : List ℕ). changes o (spell_all now) (parts_in part_count now)) (ap (λ (z : List ℕ). window z at (at + length (spell_all old))) e ∙ bytes_at x (spell_all old) y at l)

pub spell_both : (a c : List Chunk) → spell_all (a ++ c) ≡ spell_all a ++ spell_all c
spell_both [] c = refl
spell_both (x ∷ a) c = ap (λ (z : List ℕ). spell x ++ z) (spell_both a c) ∙ sym (append_assoc (spell x) (spell_all a) (spell_all c))

pub gaps_here : (cell : Cell) (xs : List Cell) → Gaps (λ c. is_info c ≡ false) (cell ∷ xs) → Gaps (λ c. is_info c ≡ false) (cell ∷ []) × Gaps (λ c. is_info c ≡ false) xs
gaps_here (kept c) xs g = (tt, g)
gaps_here (gap c) xs g = ((g.0, tt), g.1)
gaps_here (edited old now) xs g = (tt, g)

pub shapes : (held : ℕ → Chunk → Content) → Stays held → (b x y : List ℕ) (at : ℕ) (xs : List Cell) → b ≡ x ++ (spell_all (flat_map was xs) ++ y) → length x ≡ at → Gaps (λ c. is_info c ≡ false) xs → map (shape_in b) (map placed (told_row_by held at xs)) ≡ map (shape_of part_count) xs
shapes held k b x y at [] e l g = refl
shapes held k b x y at (cell ∷ xs) e l g =
    let s = spell_all (was cell) in
    let r = spell_all (flat_map was xs) in
    let here : b ≡ x ++ (s ++ (r ++ y)) = e ∙ ap (λ (z : List ℕ). x ++ (z ++ y)) (spell_both (was cell) (flat_map was xs)) ∙ ap (λ (z : List ℕ). x ++ z) (append_assoc s r y) in
    let parts = gaps_here cell xs g in
    ap (λ (z : Shape). z ∷ map (shape_in b) (map placed (told_row_by held (at + length s) xs))) (one_shape held k b x (r ++ y) at cell here l parts.0)
    ∙ ap (λ (zs : List Shape). shape_of part_count cell ∷ zs) (shapes held k b (x ++ s) y (at + length s) xs (here ∙ sym (append_assoc x s (r ++ y))) (omega (arith, l, length-append x s)) parts.1)

-- the shapes of all places
pub places_told : (b : List ℕ) (s : Split b) (ss : List Step) (cells : List CellAt) (places : List Place) → places ≡ map placed cells → cells ≡ told_row (children_at (wave_of b)) (carried ss (cells_of (wave_of b)))
    → map (shape_in b) places ≡ map (shape_of part_count) (carried ss (cells_of (wave_of b)))
places_told b s ss cells places p e =
    let w = wave_of b in
    let xs = cells_of w in
    let chunks : flat_map was (carried ss xs) ≡ w.children = was_carried ss xs ∙ was_cells w.ds64 w.children in
    let gaps = gaps_carried (λ c. is_info c ≡ false) ss xs (gaps_cells (λ c. is_info c ≡ false) (λ c h. padding_no_list (codes "INFO") c h) w.ds64 w.children) in
    ap (map (shape_in b)) (p ∙ ap (map placed) e)
    ∙ shapes content_of wave_stays b s.front s.rest (children_at w) (carried ss xs) (s.whole ∙ ap (λ (cs : List Chunk). s.front ++ (spell_all cs ++ s.rest)) (sym chunks)) s.len gaps

-- ---- where the children begin

no_sizes : (at : ℕ) (r : Role) → is_sizes r ≡ false → is_sizes (at_front at r) ≡ false
no_sizes at Padding e = go (at == 12)
  where
    go : (t : Bool) → is_sizes (if t then Opaque else Padding) ≡ false
    go true = refl
    go false = refl
no_sizes at Opaque e = refl
no_sizes at Bext e = refl
no_sizes at Info e = refl
no_sizes at Whole e = refl
no_sizes at Sizes e = absurd cc
no_sizes at Tables e = refl
no_sizes at UserData e = refl
no_sizes at Essence e = refl
no_sizes at Rest e = refl

role_no_sizes : (c : Chunk) → is_sizes (role_of c) ≡ false
role_no_sizes c = go (is_info c) (Rattle.wave_file.specs.Map.is_field c) (is_bext c) (Rattle.wave_model.specs.Why.is_data c) (is_padding c)
  where
    go : (l w e d p : Bool) → is_sizes (if l then Info else (if w then Whole else (if e then Bext else (if d then Essence else (if p then Padding else Opaque))))) ≡ false
    go true w e d p = refl
    go false true e d p = refl
    go false false true d p = refl
    go false false false true p = refl
    go false false false false true = refl
    go false false false false false = refl

pub record Starts (ds cs : List Chunk) (ps : List Part) : Type 0 where
  pub rest : drop (first_child ps) ps ≡ along part_at (12 + length (spell_all ds)) cs
  pub begin : begins_at ps ≡ 12 + length (spell_all ds)

starts_none : (cs : List Chunk) → Starts [] cs (along part_at 12 cs)
starts_none [] = record { rest = refl; begin = refl }
starts_none (c ∷ cs) = let no = no_sizes 12 (role_of c) (role_no_sizes c) in record { rest = rw no refl; begin = rw no refl }

starts_one : (d : Chunk) (cs : List Chunk) → Starts (d ∷ []) cs (along sizes_at 12 (d ∷ []) ++ along part_at (12 + length (spell_all (d ∷ []))) cs)
starts_one d cs = record { rest = refl; begin = ap (λ (x : List ℕ). 12 + length x) (sym (append-nil (spell d))) }

firsts_short : (t : Bool) (cs : List Chunk) → (firsts t cs ≡ []) ⊎ ((d : Chunk) × (firsts t cs ≡ d ∷ []))
firsts_short true [] = inl refl
firsts_short true (c ∷ cs) = inr (c, refl)
firsts_short false cs = inl refl

starts_by : (ds cs : List Chunk) → (ds ≡ []) ⊎ ((d : Chunk) × (ds ≡ d ∷ [])) → Starts ds cs (along sizes_at 12 ds ++ along part_at (12 + length (spell_all ds)) cs)
starts_by ds cs (inl e) = subst (λ (xs : List Chunk). Starts xs cs (along sizes_at 12 xs ++ along part_at (12 + length (spell_all xs)) cs)) (sym e) (starts_none cs)
starts_by ds cs (inr e) = subst (λ (xs : List Chunk). Starts xs cs (along sizes_at 12 xs ++ along part_at (12 + length (spell_all xs)) cs)) (sym e.1) (starts_one e.0 cs)

-- where the chunks behind ds64 begin
pub children_place : (w : Wave) → children_at w ≡ 12 + length (spell_all w.ds64)
children_place w = omega arith

pub starts_told : (b : List ℕ) (ps : List Part) → ps ≡ all_parts (wave_of b) → Starts (wave_of b).ds64 (wave_of b).children ps
starts_told b ps e =
    let w = wave_of b in
    let all = e ∙ ap (λ (n : ℕ). along sizes_at 12 w.ds64 ++ along part_at n w.children) (children_place w) in
    subst (Starts w.ds64 w.children) (sym all) (starts_by w.ds64 w.children (firsts_short (is_big (take 4 b)) (Rattle.wave_model.specs.Wave.form_run b).chunks))

-- whatever the file
pub ascend_from : (ps : List Part) (end : ℕ) → Ascend 12 ps end → Ascend (begins_at ps) (drop (first_child ps) ps) end × (12 ≤ begins_at ps)
ascend_from [] end h = (h, omega arith)
ascend_from (p ∷ ps) end h = go (is_sizes p.role)
  where
    go : (t : Bool) → Ascend (if t then p.next else 12) (drop (if t then 1 else 0) (p ∷ ps)) end × (12 ≤ (if t then p.next else 12))
    go true = (h.3, omega (arith, h.0, h.1, h.2))
    go false = (h, omega arith)

pub first_inside : (ps : List Part) → first_child ps ≤ length ps
first_inside [] = omega arith
first_inside (p ∷ ps) = go (is_sizes p.role)
  where
    go : (t : Bool) → (if t then 1 else 0) ≤ suc (length ps)
    go true = omega arith
    go false = omega arith

-- places follow each other as their cells do
pub places_follow : (at : ℕ) (xs : List CellAt) (end : ℕ) → cells.Follow at xs end → Follow at (map placed xs) end
places_follow at [] end h = h
places_follow at (x ∷ xs) end h = (h.0, h.1, h.2, places_follow x.next xs end h.3)

pub row_told : (b : List ℕ) (e : List RawItem) (r : PlaceRow) (before cells : List CellAt) (parts ps : List Part) (n : ℕ) → IsBytes b → Supported b → parts ≡ all_parts (wave_of b) → n ≡ begins_at parts → ps ≡ drop (first_child parts) parts
    → r.from ≡ n → ((role : ℕ → Chunk → Role) (cs : List Chunk) → ps ≡ parts_from role n cs → StandFrom b n cs → before ≡ held_from role n cs)
    → ((xs : List Cell) → Unedited xs → before ≡ told_row n xs → cells ≡ told_row n (carried (steps e) xs)) → r.places.items ≡ map placed cells → first_above (list_sizes b e) ≡ None → IsRowOf b e r
row_told b e r before cells parts ps n bytes sup all begin slice from load edit places lists =
    let w = wave_of b in
    let s = split_of b bytes sup in
    let st = starts_told b parts all in
    let here : n ≡ children_at w = begin ∙ st.begin ∙ sym (children_place w) in
    let rest : ps ≡ along part_at n w.children = slice ∙ st.rest ∙ ap (λ (m : ℕ). along part_at m w.children) (sym (children_place w) ∙ sym here) in
    let loaded : before ≡ told_chunks n w.children = load wave_role w.children rest (subst (λ (m : ℕ). StandFrom b m w.children) (sym here) (children_stand b s)) ∙ wave_cells n w.children in
    let row : before ≡ told_row n (cells_of w) = loaded ∙ ap (λ (m : ℕ). told_chunks m w.children) here ∙ sym (cells_told b s) ∙ ap (λ (m : ℕ). told_row m (cells_of w)) (sym here) in
    let done : cells ≡ told_row (children_at w) (carried (steps e) (cells_of w)) = edit (cells_of w) (cells_unedited w.ds64 w.children) row ∙ ap (λ (m : ℕ). told_row m (carried (steps e) (cells_of w))) here in
    record { begins = from ∙ here; shapes = places_told b s (steps e) cells r.places.items places done; lists = lists }

pub tail_of : (k : ℕ) (ps : List Part) → take (length ps - k) (drop k ps) ≡ drop k ps
tail_of k ps = Rattle.std.proofs.lemmas.List.take_all (length ps - k) (drop k ps) (omega (arith, Rattle.std.proofs.lemmas.List.length-drop k ps))

-- the cells that are read
pub before_told : (b : List ℕ) (before : List CellAt) (parts ps : List Part) (n : ℕ) → IsBytes b → Supported b → parts ≡ all_parts (wave_of b) → n ≡ begins_at parts → ps ≡ drop (first_child parts) parts
    → ((role : ℕ → Chunk → Role) (cs : List Chunk) → ps ≡ parts_from role n cs → StandFrom b n cs → before ≡ held_from role n cs) → before ≡ told_row n (cells_of (wave_of b))
before_told b before parts ps n bytes sup all begin slice load =
    let w = wave_of b in
    let s = split_of b bytes sup in
    let st = starts_told b parts all in
    let here : n ≡ children_at w = begin ∙ st.begin ∙ sym (children_place w) in
    let rest : ps ≡ along part_at n w.children = slice ∙ st.rest ∙ ap (λ (m : ℕ). along part_at m w.children) (sym (children_place w) ∙ sym here) in
    let loaded : before ≡ told_chunks n w.children = load wave_role w.children rest (subst (λ (m : ℕ). StandFrom b m w.children) (sym here) (children_stand b s)) ∙ wave_cells n w.children in
    loaded ∙ ap (λ (m : ℕ). told_chunks m w.children) here ∙ sym (cells_told b s) ∙ ap (λ (m : ℕ). told_row m (cells_of w)) (sym here)
