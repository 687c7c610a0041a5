-- The cells of the first form of an AVI file, and what an edit of lists makes of them.
use Rattle.std.proofs.Common.{◌≡◌, ◌∙◌, ◌≤◌, ◌<◌, ℕ, zero, suc, ◌+◌, ◌-◌, ◌%◌, ◌^◌, Bool, true, false, List, [], ◌∷◌, ◌++◌, length, take, drop, map, get_or, set, refl, sym, ap, arith, subst, append_assoc}
use Rattle.std.specs.Prelude.{Option, Some, None, ◌&&◌, ◌||◌, codes, if◌then◌else◌}
use Rattle.std.specs.Str.{bytes_eq}
use Rattle.std.specs.List.{flat_map, AllByRecursion}
use Rattle.std.proofs.lemmas.Bool.{and_parts}
use Rattle.std.proofs.lemmas.List.{append-nil, length-append, length-map}
use Rattle.part_tree.specs.Letters.{four}
use Rattle.part_tree.specs.declared.part.Role.TheVariants.{Opaque, Padding, Info}
use Rattle.container_model.specs.Chunk.{Chunk, Form, spell, spell_all}
use Rattle.container_model.specs.Units.{Cell, kept, gap, edited, was, live, lacks_pad}
use Rattle.container_model.proofs.Items.{same_true}
use Rattle.carrier_model.specs.Cells.{Change, leave, become, change_at, counted, count_all, settle_cells, Side, behind, before, meets, some_meets, beside, only_gaps, new_cell, insert_cell}
use Rattle.carrier_model.specs.Info.{own_size, is_padding, is_type, info, info_items, list_run}
use Rattle.carrier_model.specs.Lists.{edit_nth, edit_list_cells, has_carrier, home as home_of, all_items, lists_act_by, new_carrier, sets_some}
use Rattle.carrier_model.proofs.Info.{padding_no_list}
use Rattle.container_model.specs.Items.{Item, put_all}
use Rattle.info_list.specs.Info.{item_of}
use Rattle.unit_plan.specs.Shapes.{parts_in}
use Rattle.avi_model.specs.Named.{cell_of, cell_by, is_hdrl}
use Rattle.avi_model.specs.NewFile.{Items, home}
use Rattle.wave_model.specs.Fields.{is_info}
use Rattle.edit_planner.specs.declared.cells.CellAt.{CellAt}
use Rattle.edit_planner.specs.declared.cells.Content.{Content}
use Rattle.edit_planner.specs.declared.cells.Content.TheVariants.{Kept, Body, Listed, Gap, Edited}
use Rattle.edit_planner.specs.Avi.{avi_cells, avi_held}
use Rattle.edit_planner.specs.Cells.{Follow, Unmet, list_in, part_count, told_by, told_row_by}
use Rattle.edit_planner.specs.Lists.{HoldsLists}
use Rattle.edit_planner.specs.Row.{is_list, new_at, put_after, with_pad}
use Rattle.edit_planner.specs.Stand.{count_of, what_of, held_at, held_by, held_from}
use Rattle.edit_planner.specs.Tops.{IsRiff, avi_role, head_from}
use Rattle.edit_planner.specs.declared.head.Head.{Head}
use Rattle.edit_planner.proofs.Shaped.{Stays}
use Rattle.edit_planner.proofs.AviTops.{types_differ}

-- ---- how chunks are held

list_held : (i : Bool) (c : Chunk) → is_list (if i then Listed (list_in c) else Kept (four c.id) Opaque) ≡ i
list_held true c = refl
list_held false c = refl

pub avi_holds : HoldsLists avi_held
avi_holds = record { lists = λ at c p. rw p refl; others = λ at c. list_held (is_info c) c }

pub avi_stays : Stays avi_held
avi_stays = record { parts = λ at c. parts (is_info c) c; what = λ at c. what (is_info c) c }
  where
    parts : (i : Bool) (c : Chunk) → count_of (if i then Listed (list_in c) else Kept (four c.id) Opaque) ≡ length (if i then c ∷ (list_run c).chunks else c ∷ [])
    parts true c = omega (arith, length-map (list_run c).chunks item_of)
    parts false c = refl

    what : (i : Bool) (c : Chunk) → what_of (if i then Listed (list_in c) else Kept (four c.id) Opaque) ≡ Rattle.unit_plan.specs.declared.place.What.TheVariants.Stays
    what true c = refl
    what false c = refl

-- the cells that are read are those of the model
pub avi_loaded : (at : ℕ) (cs : List Chunk) → held_from avi_role at cs ≡ told_row_by avi_held at (avi_cells cs)
avi_loaded at [] = refl
avi_loaded at (c ∷ cs) = go (is_padding c) (is_info c) refl (avi_loaded (at + length (spell c)) cs)
  where
    next : (p : Bool) → at + length (spell_all (was (cell_by c p))) ≡ at + length (spell c)
    next true = ap (λ (x : List ℕ). at + length x) (append-nil (spell c))
    next false = ap (λ (x : List ℕ). at + length x) (append-nil (spell c))

    one : (p i : Bool) → is_info c ≡ i → held_at (if p then Padding else (if i then Info else Opaque)) at c ≡ told_by avi_held at (cell_by c p)
    one true i e = refl
    one false true e = rw e refl
    one false false e = rw e refl

    go : (p i : Bool) → is_info c ≡ i → held_from avi_role (at + length (spell c)) cs ≡ told_row_by avi_held (at + length (spell c)) (avi_cells cs)
        → held_at (if p then Padding else (if i then Info else Opaque)) at c ∷ held_from avi_role (at + length (spell c)) cs
        ≡ told_by avi_held at (cell_by c p) ∷ told_row_by avi_held (at + length (spell_all (was (cell_by c p)))) (avi_cells cs)
    go p i f rest =
        ap (λ (x : CellAt). x ∷ held_from avi_role (at + length (spell c)) cs) (one p i f)
        ∙ ap (λ (xs : List CellAt). told_by avi_held at (cell_by c p) ∷ xs) (rest ∙ ap (λ (n : ℕ). told_row_by avi_held n (avi_cells cs)) (sym (next p)))

-- nothing is edited yet
pub avi_unmet : (p : Chunk → Bool) (cs : List Chunk) → Unmet p (avi_cells cs)
avi_unmet p [] = tt
avi_unmet p (c ∷ cs) = go (is_padding c) (avi_unmet p cs)
  where
    go : (t : Bool) → Unmet p (avi_cells cs) → Unmet p (cell_by c t ∷ avi_cells cs)
    go true u = u
    go false u = u

pub avi_was : (cs : List Chunk) → flat_map was (avi_cells cs) ≡ cs
avi_was [] = refl
avi_was (c ∷ cs) = go (is_padding c) (avi_was cs)
  where
    go : (t : Bool) → flat_map was (avi_cells cs) ≡ cs → flat_map was (cell_by c t ∷ avi_cells cs) ≡ c ∷ cs
    go true e = ap (λ (xs : List Chunk). c ∷ xs) e
    go false e = ap (λ (xs : List Chunk). c ∷ xs) e

-- ---- where `hdrl` is among cells

-- the k-th cell is the first kept `hdrl`
abbrev pub HeadAt : ℕ → List Cell → Type 0
HeadAt k [] = ⊥
HeadAt zero (kept c ∷ xs) = is_hdrl c ≡ true
HeadAt (suc k) (kept c ∷ xs) = (is_hdrl c ≡ false) × HeadAt k xs
HeadAt zero (gap c ∷ xs) = ⊥
HeadAt (suc k) (gap c ∷ xs) = HeadAt k xs
HeadAt zero (edited old now ∷ xs) = ⊥
HeadAt (suc k) (edited old now ∷ xs) = HeadAt k xs

-- padding is no `hdrl`
padding_no_hdrl : (c : Chunk) → is_padding c ≡ true → is_hdrl c ≡ false
padding_no_hdrl c h = padding_no_list (codes "hdrl") c h

-- it has a number from the first one on
later_number : (m p : ℕ) (ds : List Chunk) (h : Head) → head_from m p ds ≡ Some h → h.number < m → ⊥
later_number m p [] h e lt = absurd cc
later_number m p (d ∷ ds) h e lt = by (is_hdrl d) e (λ g. later_number (suc m) (p + length (spell d)) ds h g (omega (arith, lt)))
  where
    by : (t : Bool) → (if t then Some (record { number = m; body = record { at = p + 8; len = length d.body } }) else head_from (suc m) (p + length (spell d)) ds) ≡ Some h
        → (head_from (suc m) (p + length (spell d)) ds ≡ Some h → ⊥) → ⊥
    by true e again = let num : m ≡ h.number = ap (λ (o : Option Head). elim o [ None ↦ m | Some g ↦ g.number ]) e in absurd (omega (arith, num, lt))
    by false e again = again e

pub head_cells : (n at k : ℕ) (cs : List Chunk) (h : Head) → head_from n at cs ≡ Some h → h.number ≡ n + k → HeadAt k (avi_cells cs)
head_cells n at k [] h e same = absurd cc
head_cells n at k (c ∷ cs) h e same = go (is_hdrl c) (is_padding c) refl refl k same e (λ m g num. head_cells (suc n) (at + length (spell c)) m cs h g num)
  where
    go : (t p : Bool) → is_hdrl c ≡ t → is_padding c ≡ p → (k : ℕ) → h.number ≡ n + k
        → (if t then Some (record { number = n; body = record { at = at + 8; len = length c.body } }) else head_from (suc n) (at + length (spell c)) cs) ≡ Some h
        → ((m : ℕ) → head_from (suc n) (at + length (spell c)) cs ≡ Some h → h.number ≡ suc n + m → HeadAt m (avi_cells cs)) → HeadAt k (cell_by c p ∷ avi_cells cs)
    go true true i j k same e again = let none = padding_no_hdrl c j in absurd cc
    go true false i j zero same e again = i
    go true false i j (suc k) same e again = let num : n ≡ h.number = ap (λ (o : Option Head). elim o [ None ↦ n | Some g ↦ g.number ]) e in absurd (omega (arith, num, same))
    go false p i j zero same e again = absurd (later_number (suc n) (at + length (spell c)) cs h e (omega (arith, same)))
    go false true i j (suc k) same e again = again k e (omega (arith, same))
    go false false i j (suc k) same e again = (i, again k e (omega (arith, same)))

-- where lists change, it stays where it is
pub head_settled : (f : ℕ → Chunk → Change) (n k : ℕ) (xs : List Cell) → HeadAt k xs → HeadAt k (settle_cells is_info f n xs)
head_settled f n k [] h = h
head_settled f n zero (kept c ∷ xs) h =
    let no : is_info c ≡ false = types_differ c h in
    subst (λ (t : Bool). HeadAt zero (Rattle.carrier_model.specs.Cells.changed_cell (if t then f n c else leave) c ∷ settle_cells is_info f (if t then suc n else n) xs)) (sym no) h
head_settled f n (suc k) (kept c ∷ xs) h = go (is_info c) (λ m. head_settled f m k xs h.1)
  where
    changed : (d : Change) (ys : List Cell) → HeadAt k ys → HeadAt (suc k) (Rattle.carrier_model.specs.Cells.changed_cell d c ∷ ys)
    changed leave ys g = (h.0, g)
    changed (become now) ys g = g

    go : (t : Bool) → ((m : ℕ) → HeadAt k (settle_cells is_info f m xs)) → HeadAt (suc k) (Rattle.carrier_model.specs.Cells.changed_cell (if t then f n c else leave) c ∷ settle_cells is_info f (if t then suc n else n) xs)
    go true again = changed (f n c) (settle_cells is_info f (suc n) xs) (again (suc n))
    go false again = changed leave (settle_cells is_info f n xs) (again n)
head_settled f n zero (gap c ∷ xs) h = h
head_settled f n (suc k) (gap c ∷ xs) h = head_settled f n k xs h
head_settled f n zero (edited old now ∷ xs) h = h
head_settled f n (suc k) (edited old now ∷ xs) h = head_settled f (count_all is_info n now) k xs h

-- ---- a list behind it

-- the kept chunks are of RIFF
abbrev pub KeptRiff : List Cell → Type 0
KeptRiff [] = Unit {0}
KeptRiff (kept c ∷ xs) = IsRiff c × KeptRiff xs
KeptRiff (gap c ∷ xs) = KeptRiff xs
KeptRiff (edited old now ∷ xs) = KeptRiff xs

pub kept_riff : (cs : List Chunk) → AllByRecursion IsRiff cs → KeptRiff (avi_cells cs)
kept_riff [] h = tt
kept_riff (c ∷ cs) h = go (is_padding c) (kept_riff cs h.1)
  where
    go : (t : Bool) → KeptRiff (avi_cells cs) → KeptRiff (cell_by c t ∷ avi_cells cs)
    go true g = g
    go false g = (h.0, g)

home_is : (c : Chunk) → IsRiff c → meets home c ≡ is_hdrl c
home_is c h = ap (λ (f : Form). own_size f && (bytes_eq c.id (codes "LIST") && bytes_eq (take 4 c.body) (codes "hdrl"))) (sym h.form_is)

not_only : (k : ℕ) (xs : List Cell) → HeadAt k xs → only_gaps xs ≡ false
not_only k [] h = absurd h
not_only k (kept c ∷ xs) h = refl
not_only zero (gap c ∷ xs) h = absurd h
not_only (suc k) (gap c ∷ xs) h = not_only k xs h
not_only k (edited old now ∷ xs) h = refl

-- what stands where something was edited meets no test
no_meets : (now : List Chunk) → AllByRecursion (λ c. meets home c ≡ false) now → some_meets home now ≡ false
no_meets [] h = refl
no_meets (c ∷ cs) h = rw h.0 (no_meets cs h.1)

pub head_inserted : (d : Chunk) (k : ℕ) (xs : List Cell) → HeadAt k xs → KeptRiff xs → Unmet (meets home) xs → HeadAt k (insert_cell behind home d xs)
head_inserted d k [] h r u = absurd h
head_inserted d zero (kept c ∷ xs) h r u = subst (λ (t : Bool). HeadAt zero (if t then beside behind (new_cell d) (kept c) ++ xs else kept c ∷ insert_cell behind home d xs)) (sym (home_is c r.0 ∙ h)) h
head_inserted d (suc k) (kept c ∷ xs) h r u =
    subst (λ (t : Bool). HeadAt (suc k) (if t then beside behind (new_cell d) (kept c) ++ xs else kept c ∷ insert_cell behind home d xs)) (sym (home_is c r.0 ∙ h.0)) (h.0, head_inserted d k xs h.1 r.1 u)
head_inserted d zero (gap c ∷ xs) h r u = absurd h
head_inserted d (suc k) (gap c ∷ xs) h r u = subst (λ (t : Bool). HeadAt (suc k) (if t then new_cell d ∷ (gap c ∷ xs) else gap c ∷ insert_cell behind home d xs)) (sym (not_only k xs h)) (head_inserted d k xs h r u)
head_inserted d zero (edited old now ∷ xs) h r u = absurd h
head_inserted d (suc k) (edited old now ∷ xs) h r u =
    subst (λ (t : Bool). HeadAt (suc k) (if t then edited old (Rattle.carrier_model.specs.Cells.insert behind home d now) ∷ xs else edited old now ∷ insert_cell behind home d xs)) (sym (no_meets now u.0)) (head_inserted d k xs h r u.1)

abbrev pub fresh_cell : Chunk → ℕ → CellAt
fresh_cell d at = new_at (Edited (spell_all (d ∷ [])) (parts_in part_count (d ∷ []))) at

-- a row with a cell put behind `hdrl`
pub row_inserted : (d : Chunk) (k at : ℕ) (xs : List Cell) → HeadAt k xs → KeptRiff xs → Unmet (meets home) xs → told_row_by avi_held at (insert_cell behind home d xs) ≡ put_after (fresh_cell d) k (told_row_by avi_held at xs)
row_inserted d k at [] h r u = absurd h
row_inserted d zero at (kept c ∷ xs) h r u =
    let q = at + length (spell_all (c ∷ [])) in
    let zero_len : q + 0 ≡ q = omega arith in
    ap (λ (t : Bool). told_row_by avi_held at (if t then beside behind (new_cell d) (kept c) ++ xs else kept c ∷ insert_cell behind home d xs)) (home_is c r.0 ∙ h)
    ∙ ap (λ (n : ℕ). told_by avi_held at (kept c) ∷ (record { at = q; next = n; lacks_pad = false; content = Edited (spell_all (d ∷ [])) (parts_in part_count (d ∷ [])) } ∷ told_row_by avi_held n xs)) zero_len
    ∙ ap (λ (x : List ℕ). told_by avi_held at (kept c) ∷ (fresh_cell d (at + length x) ∷ told_row_by avi_held q xs)) (append-nil (spell c))
row_inserted d (suc k) at (kept c ∷ xs) h r u =
    ap (λ (t : Bool). told_row_by avi_held at (if t then beside behind (new_cell d) (kept c) ++ xs else kept c ∷ insert_cell behind home d xs)) (home_is c r.0 ∙ h.0)
    ∙ ap (λ (ys : List CellAt). told_by avi_held at (kept c) ∷ ys) (row_inserted d k (at + length (spell_all (c ∷ []))) xs h.1 r.1 u)
row_inserted d zero at (gap c ∷ xs) h r u = absurd h
row_inserted d (suc k) at (gap c ∷ xs) h r u =
    ap (λ (t : Bool). told_row_by avi_held at (if t then new_cell d ∷ (gap c ∷ xs) else gap c ∷ insert_cell behind home d xs)) (not_only k xs h)
    ∙ ap (λ (ys : List CellAt). told_by avi_held at (gap c) ∷ ys) (row_inserted d k (at + length (spell_all (c ∷ []))) xs h r u)
row_inserted d zero at (edited old now ∷ xs) h r u = absurd h
row_inserted d (suc k) at (edited old now ∷ xs) h r u =
    ap (λ (t : Bool). told_row_by avi_held at (if t then edited old (Rattle.carrier_model.specs.Cells.insert behind home d now) ∷ xs else edited old now ∷ insert_cell behind home d xs)) (no_meets now u.0)
    ∙ ap (λ (ys : List CellAt). told_by avi_held at (edited old now) ∷ ys) (row_inserted d k (at + length (spell_all old)) xs h r u.1)

-- it is the same whether the pad is told before or behind
pub pad_put : (l : Bool) (new : ℕ → CellAt) (k : ℕ) (xs : List CellAt) → put_after new k (with_pad l k xs) ≡ with_pad l k (put_after new k xs)
pad_put l new k [] = refl
pad_put l new zero (x ∷ xs) = refl
pad_put l new (suc k) (x ∷ xs) = ap (λ (ys : List CellAt). x ∷ ys) (pad_put l new k xs)

-- ---- rows by loops

pub put_after_is : (new : ℕ → CellAt) (k : ℕ) (xs : List CellAt) (d : CellAt) → k < length xs → take (k + 1) xs ++ new ((get_or xs k d).next) ∷ drop (k + 1) xs ≡ put_after new k xs
put_after_is new k [] d lt = absurd (omega arith)
put_after_is new zero (x ∷ xs) d lt = refl
put_after_is new (suc k) (x ∷ xs) d lt =
    let e : suc k + 1 ≡ suc (k + 1) = omega arith in
    ap (λ (m : ℕ). take m (x ∷ xs) ++ new ((get_or xs k d).next) ∷ drop m (x ∷ xs)) e ∙ ap (λ (ys : List CellAt). x ∷ ys) (put_after_is new k xs d (omega arith))

pub with_pad_is : (l : Bool) (k : ℕ) (xs : List CellAt) (d : CellAt) → k < length xs → set xs k (record (get_or xs k d) { lacks_pad = l }) ≡ with_pad l k xs
with_pad_is l k [] d lt = absurd (omega arith)
with_pad_is l zero (x ∷ xs) d lt = refl
with_pad_is l (suc k) (x ∷ xs) d lt = ap (λ (ys : List CellAt). x ∷ ys) (with_pad_is l k xs d (omega arith))

-- ---- whatever the file

pub pad_long : (l : Bool) (k : ℕ) (xs : List CellAt) → length (with_pad l k xs) ≡ length xs
pad_long l k [] = refl
pad_long l zero (x ∷ xs) = refl
pad_long l (suc k) (x ∷ xs) = ap suc (pad_long l k xs)

pub pad_follows : (l : Bool) (k at : ℕ) (xs : List CellAt) (end : ℕ) → Follow at xs end → Follow at (with_pad l k xs) end
pad_follows l k at [] end h = h
pad_follows l zero at (x ∷ xs) end h = h
pad_follows l (suc k) at (x ∷ xs) end h = (h.0, h.1, h.2, pad_follows l k x.next xs end h.3)

pub put_after_follows : (content : Content) (k at : ℕ) (xs : List CellAt) (end : ℕ) → Follow at xs end → Follow at (put_after (new_at content) k xs) end
put_after_follows content k at [] end h = h
put_after_follows content zero at (x ∷ xs) end h = (h.0, h.1, h.2, (refl, omega arith, h.2, h.3))
put_after_follows content (suc k) at (x ∷ xs) end h = (h.0, h.1, h.2, put_after_follows content k x.next xs end h.3)
