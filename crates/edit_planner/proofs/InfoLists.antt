-- The lists of INFO items in a row of cells.
use Rattle.std.proofs.Common.{◌≡◌, ◌∙◌, ◌<◌, ◌≤◌, ℕ, suc, ◌+◌, ◌-◌, ◌^◌, drop, min, Bool, true, false, List, [], ◌∷◌, ◌++◌, length, map, refl, sym, ap, arith, subst}
use Rattle.std.specs.Prelude.{Option, Result, Some, None, IfOk, if◌then◌else◌, nat_lt, codes, ◌||◌, ◌==◌, option_map}
use Rattle.std.specs.declared.result.Result.TheVariants.{Ok, Err}
use Rattle.std.specs.List.{flat_map, list_any, AllByRecursion}
use Rattle.std.proofs.lemmas.List.{append-nil, length-map}
use Rattle.std.proofs.lemmas.Bool.{lt-ltb, le-ltb}
use Rattle.part_tree.specs.Letters.{four}
use Rattle.part_tree.specs.declared.names.FourCc.{FourCc}
use Rattle.part_tree.specs.declared.field.FieldName.{FieldName}
use Rattle.part_tree.specs.declared.field.FieldName.TheVariants.{Bext, Info, Whole, User, Key, Stream}
use Rattle.part_tree.specs.declared.field.Value.{Value}
use Rattle.field_model.specs.Update.{RawItem}
use Rattle.wave_model.specs.Carry.{info_item, info_part, raw}
use Rattle.part_tree.specs.Names.{info_ids}
use Rattle.container_model.specs.Chunk.{Chunk, spell, spell_all, Run}
use Rattle.container_model.specs.Units.{Cell, kept, live}
use Rattle.container_model.specs.Deep.{Token}
use Rattle.container_model.specs.Items.{Item, item_token, has_mark, put_all, edit_carrier}
use Rattle.container_model.proofs.Items.{MakesGood, all_after}
use Rattle.container_model.proofs.Plain.{IsPlain, ArePlain, plain_chunks}
use Rattle.carrier_model.specs.Cells.{leave, become, changed_cell, never, Test, acted_cells}
use Rattle.carrier_model.specs.Info.{info, info_items, list_of, list_run, made, remade, one_of, SetsInfo}
use Rattle.part_tree.specs.Large.{limited, first_above}
use Rattle.carrier_model.specs.Lists.{home, items_of, all_items, concerns, part_of, edit_nth, has_carrier, sets_some, new_carrier, lists_act, lists_act_by}
use Rattle.carrier_model.proofs.Info.{list_again, small_items, made_plain, info_len}
use Rattle.info_list.specs.Info.{chunk_of, chunks_of, item_of, list_chunk, made_of, tokens_of}
use Rattle.info_list.specs.declared.InfoItem.{InfoItem}
use Rattle.info_list.specs.declared.InfoList.{InfoList}
use Rattle.info_list.proofs.Changed.{made_remade, read_remade, all_remade}
use Rattle.wave_model.specs.Fields.{is_info}
use Rattle.unit_plan.specs.Shapes.{parts_in}
use Rattle.edit_planner.specs.declared.cells.CellAt.{CellAt}
use Rattle.edit_planner.specs.declared.cells.Content.{Content}
use Rattle.edit_planner.specs.declared.cells.Content.TheVariants.{Kept, Body, Listed, Gap, Edited}
use Rattle.edit_planner.specs.declared.lists.Homed.{Homed}
use Rattle.edit_planner.specs.declared.lists.ListsFault.{ListsFault}
use Rattle.edit_planner.specs.declared.lists.ListsFault.TheVariants.{TooLarge, Memory}
use Rattle.edit_planner.specs.Cells.{IsReadable, Follow, Unmet, content_of, list_in, part_count, told_by, told_row, told_row_by}
use Rattle.edit_planner.specs.Row.{is_list, changed_row, count_row, edited_at, new_at, put_new}
use Rattle.edit_planner.specs.Lists.{AreInfo, Edits, HoldsLists, IsLarge, IsNewList, TellsLarge, all_marks, fresh_list, changed_list, concerned, homed_of, list_edited, list_edited_by, marks_in, part_in}
use Rattle.edit_planner.proofs.Row.{change_follows}
use Rattle.edit_planner.proofs.WholeChunks.{put_last}
use Rattle.edit_planner.proofs.Told.{Fits, settled, some_told, none_changed, list_told}

-- ---- the chunk of a list

remade_made : (is : List InfoItem) → map remade (map made_of is) ≡ map made_of is
remade_made [] = refl
remade_made (i ∷ is) = ap (λ (cs : List Chunk). made_of i ∷ cs) (remade_made is)

of_items : (items more : List Chunk) (rest : List ℕ) → map remade items ≡ map remade more → list_of items rest ≡ list_of more rest
of_items items more rest same = ap (λ (cs : List Chunk). made (codes "LIST") (codes "INFO" ++ (spell_all cs ++ rest))) same

pub same_chunk : (list : InfoList) → list_chunk list ≡ list_of (chunks_of list) list.rest
same_chunk list = of_items (map chunk_of list.items) (map made_of list.items) list.rest (made_remade list.items ∙ sym (remade_made list.items))

plain_items : (is : List InfoItem) → AllByRecursion (λ i. length i.id.0 ≡ 4) is → ArePlain (map made_of is)
plain_items [] h = tt
plain_items (i ∷ is) h = (made_plain i.id.0 i.raw h.0, plain_items is h.1)

ids_plain : (is : List InfoItem) → ArePlain (map made_of is) → AllByRecursion (λ i. length i.id.0 ≡ 4) is
ids_plain [] h = tt
ids_plain (i ∷ is) h = (h.0.id_len, ids_plain is h.1)

pub list_parts : (list : InfoList) (c : Chunk) → IsReadable (Listed list) → c ≡ list_of (chunks_of list) list.rest → length c.body < 2 ^ 32 → parts_in part_count (c ∷ []) ≡ length list.items + 1
list_parts list c h e small =
    let items = chunks_of list in
    let body : length (list_of items list.rest).body < 2 ^ 32 = subst (λ (d : Chunk). length d.body < 2 ^ 32) e small in
    let again = list_again items list.rest (plain_items list.items h.0) h.1 (small_items items list.rest body) in
    let count : length (list_run (list_of items list.rest)).chunks ≡ length list.items = ap (λ (r : Run). length r.chunks) again ∙ length-map items remade ∙ length-map list.items made_of in
    let whole : part_count c ≡ suc (length (list_run (list_of items list.rest)).chunks) = ap part_count e in
    omega (arith, count, whole)

-- ---- one list

abbrev pub min_of : ℕ → ℕ → ℕ
min_of = min

large_is : (n : ℕ) → 2 ^ 24 < n → first_above (limited (2 ^ 24) n ∷ []) ≡ Some (limited (2 ^ 24) n)
large_is n h = rw (lt-ltb (2 ^ 24) n h) refl

pub small_is : (n : ℕ) → n ≤ 2 ^ 24 → first_above (limited (2 ^ 24) n ∷ []) ≡ None
small_is n h = rw (le-ltb (2 ^ 24) n h) refl

-- the answer of a list that is too long
pub large_told : (T : Type 0) (list : InfoList) (c : Chunk) (size : ℕ) (fault : ListsFault) → c ≡ list_of (chunks_of list) list.rest → size ≡ min (length (list_chunk list).body) (2 ^ 64 - 1) → 2 ^ 24 < size → IsLarge size fault
    → TellsLarge {T = T} (limited (2 ^ 24) (length c.body) ∷ []) (Err fault)
large_told T list c size (TooLarge at) e is above large =
    let same : length (list_chunk list).body ≡ length c.body = ap (λ (d : Chunk). length d.body) (same_chunk list ∙ sym e) in
    let exact : length c.body ≡ at = omega (arith, same, is, large.0, large.1) in
    rw exact (large_is at (omega (arith, large.0)))
large_told T list c size Memory e is above large = tt

pub small_told : (list : InfoList) (c : Chunk) (size : ℕ) → c ≡ list_of (chunks_of list) list.rest → size ≡ min (length (list_chunk list).body) (2 ^ 64 - 1) → size ≤ 2 ^ 24 → length c.body ≤ 2 ^ 24
small_told list c size e is le =
    let same : length (list_chunk list).body ≡ length c.body = ap (λ (d : Chunk). length d.body) (same_chunk list ∙ sym e) in
    omega (arith, same, is)

pub spelled_as : (list : InfoList) (c : Chunk) (bytes : List ℕ) (parts : ℕ) → IsReadable (Listed list) → c ≡ list_of (chunks_of list) list.rest → length c.body ≤ 2 ^ 24 → bytes ≡ spell (list_chunk list) → parts ≡ length list.items + 1
    → Edited bytes parts ≡ Edited (spell_all (c ∷ [])) (parts_in part_count (c ∷ []))
spelled_as list c bytes parts h e small b p =
    let n : parts ≡ parts_in part_count (c ∷ []) = p ∙ sym (list_parts list c h e (omega arith)) in
    let s : bytes ≡ spell_all (c ∷ []) = b ∙ ap spell (same_chunk list ∙ sym e) ∙ sym (append-nil (spell c)) in
    ap (λ (x : List ℕ). Edited x parts) s ∙ ap (Edited (spell_all (c ∷ []))) n

-- ---- a list with changes

sets_info : (is : List Homed) (n : ℕ) → AreInfo is → SetsInfo (part_in n is)
sets_info [] n h = tt
sets_info (i ∷ is) n h = (h.0, sets_info is n h.1)

sets_plain : (e : List (Item (List ℕ))) → SetsInfo e → AllByRecursion (λ i. MakesGood info_items IsPlain i.name i.value) e
sets_plain [] h = tt
sets_plain (i ∷ e) h = (one i.value, sets_plain e h.1)
  where
    one : (v : Option (List ℕ)) → MakesGood info_items IsPlain i.name v
    one None = tt
    one (Some v) = made_plain i.name v (info_len i.name h.0)

pub changed_readable : (is : List Homed) (n : ℕ) (old new : InfoList) (part : List (Item (List ℕ))) → AreInfo is → part ≡ part_in n is → IsReadable (Listed old) → chunks_of new ≡ put_all info_items part (chunks_of old) → new.rest ≡ old.rest → IsReadable (Listed new)
changed_readable is n old new part a p h put rest =
    let plain : ArePlain (put_all info_items part (chunks_of old)) = all_after info_items IsPlain part (chunks_of old) (sets_plain part (subst SetsInfo (sym p) (sets_info is n a))) (plain_items old.items h.0) in
    (ids_plain new.items (subst ArePlain (sym put) plain), omega (arith, ap length rest, h.1))

pub changed_as : (is : List Homed) (n : ℕ) (old new : InfoList) (part : List (Item (List ℕ))) → part ≡ part_in n is → chunks_of new ≡ put_all info_items part (chunks_of old) → new.rest ≡ old.rest
    → changed_list (part_in n is) old ≡ list_of (chunks_of new) new.rest
changed_as is n old new part p put rest =
    ap (λ (r : List ℕ). list_of (put_all info_items (part_in n is) (chunks_of old)) r) (sym rest)
    ∙ ap (λ (e : List (Item (List ℕ))). list_of (put_all info_items e (chunks_of old)) new.rest) (sym p)
    ∙ ap (λ (cs : List Chunk). list_of cs new.rest) (sym put)

-- ---- a cell that is a list

pub list_now : (is : List Homed) (n : ℕ) (x : CellAt) (list : InfoList) (content : Content) → x.content ≡ Listed list → concerned n (tokens_of list) is ≡ true
    → ((c : Chunk) → c ≡ changed_list (part_in n is) list → content ≡ Edited (spell_all (c ∷ [])) (parts_in part_count (c ∷ [])))
    → record { at = x.at; next = x.next; lacks_pad = false; content = content } ≡ (if is_list x.content then list_edited is n x else x)
list_now is n x list content e t h =
    ap (λ (y : Content). record { at = x.at; next = x.next; lacks_pad = false; content = y }) (h (changed_list (part_in n is) list) refl)
    ∙ ap (λ (u : Bool). if u then edited_at x (changed_list (part_in n is) list ∷ []) else x) (sym t)
    ∙ ap (λ (y : Content). if is_list y then list_edited_by is n x y else x) (sym e)

-- ---- the lists of the model

token_again : (cs : List Chunk) → ArePlain cs → map (item_token info_items) (map remade cs) ≡ map (item_token info_items) cs
token_again [] h = refl
token_again (c ∷ cs) h = rw (h.0.form_is, token_again cs h.1) refl

pub marks_again : (c : Chunk) → tokens_of (list_in c) ≡ items_of info info_items c
marks_again c = let cs = (list_run c).chunks in ap (map (item_token info_items)) (read_remade cs) ∙ token_again cs (plain_chunks (drop 4 c.body))

remade_twice : (cs : List Chunk) → map remade (map remade cs) ≡ map remade cs
remade_twice [] = refl
remade_twice (c ∷ cs) = ap (λ (xs : List Chunk). remade c ∷ xs) (remade_twice cs)

pub carrier_again : (e : List (Item (List ℕ))) (c : Chunk) → changed_list e (list_in c) ≡ edit_carrier info info_items e c
carrier_again e c =
    let cs = (list_run c).chunks in
    of_items (put_all info_items e (map made_of (map item_of cs))) (put_all info_items e cs) (list_run c).left
    (ap (λ (xs : List Chunk). map remade (put_all info_items e xs)) (read_remade cs) ∙ all_remade e (map remade cs) ∙ ap (put_all info_items e) (remade_twice cs) ∙ sym (all_remade e cs))

pub same_concern : (h : List ℕ → ℕ) (n : ℕ) (ts : List Token) (e : List (Item (List ℕ))) → concerned n ts (homed_of h e) ≡ concerns h n ts e
same_concern h n ts [] = refl
same_concern h n ts (i ∷ e) = ap (λ (t : Bool). (has_mark i.name ts || (h i.name == n)) || t) (same_concern h n ts e)

pub same_part : (h : List ℕ → ℕ) (n : ℕ) (e : List (Item (List ℕ))) → part_in n (homed_of h e) ≡ part_of h n e
same_part h n [] = refl
same_part h n (i ∷ e) = ap (λ (xs : List (Item (List ℕ))). record { name = i.name; value = if h i.name == n then i.value else None } ∷ xs) (same_part h n e)

pub lists_fits : (held : ℕ → Chunk → Content) → HoldsLists held → (h : List ℕ → ℕ) (e : List (Item (List ℕ))) → Fits held is_info (edit_nth info info_items h e) is_list (λ n x. list_edited (homed_of h e) n x)
lists_fits held k h e = record {
  met = k.others;
  gaps = refl;
  news = λ now parts. refl;
  same = λ at n c p. same at n c p;
}
  where
    same : (at n : ℕ) (c : Chunk) → is_info c ≡ true → list_edited (homed_of h e) n (told_by held at (kept c)) ≡ told_by held at (changed_cell (edit_nth info info_items h e n c) c)
    same at n c p =
        ap (list_edited_by (homed_of h e) n (told_by held at (kept c))) (k.lists at c p)
        ∙ ap (λ (t : Bool). if t then edited_at (told_by held at (kept c)) (changed_list (part_in n (homed_of h e)) (list_in c) ∷ []) else told_by held at (kept c))
        (ap (λ (ts : List Token). concerned n ts (homed_of h e)) (marks_again c) ∙ same_concern h n (items_of info info_items c) e)
        ∙ ap (λ (d : Chunk). if concerns h n (items_of info info_items c) e then edited_at (told_by held at (kept c)) (d ∷ []) else told_by held at (kept c))
        (ap (λ (f : List (Item (List ℕ))). changed_list f (list_in c)) (same_part h n e) ∙ carrier_again (part_of h n e) c)
        ∙ go (concerns h n (items_of info info_items c) e)
      where
        new : Chunk
        new = edit_carrier info info_items (part_of h n e) c

        go : (t : Bool) → (if t then edited_at (told_by held at (kept c)) (new ∷ []) else told_by held at (kept c)) ≡ told_by held at (changed_cell (if t then become (new ∷ []) else leave) c)
        go true = ap (λ (x : List ℕ). record { at = at; next = at + length x; lacks_pad = false; content = Edited (spell_all (new ∷ [])) (parts_in part_count (new ∷ [])) }) (sym (append-nil (spell c)))
        go false = refl

-- where a field is at home
all_past : (a b : List Chunk) → AllByRecursion (λ c. is_info c ≡ false) a → all_items info info_items (a ++ b) ≡ all_items info info_items b
all_past [] b h = refl
all_past (c ∷ a) b h = rw h.0 (all_past a b h.1)

none_marked : (y : Content) → is_list y ≡ false → marks_in y ≡ []
none_marked (Listed list) e = absurd cc
none_marked Gap e = refl
none_marked (Kept id role) e = refl
none_marked (Body body) e = refl
none_marked (Edited now parts) e = refl

pub marks_told : (held : ℕ → Chunk → Content) → HoldsLists held → (at : ℕ) (xs : List Cell) → Unmet is_info xs → all_marks (told_row_by held at xs) ≡ all_items info info_items (flat_map live xs)
marks_told held k at [] u = refl
marks_told held k at (kept c ∷ xs) u = go (is_info c) refl (marks_told held k (at + length (spell_all (c ∷ []))) xs u)
  where
    rest : List CellAt
    rest = told_row_by held (at + length (spell_all (c ∷ []))) xs

    go : (l : Bool) → is_info c ≡ l → all_marks rest ≡ all_items info info_items (flat_map live xs)
        → marks_in (held at c) ++ all_marks rest ≡ (if l then items_of info info_items c ∷ all_items info info_items (flat_map live xs) else all_items info info_items (flat_map live xs))
    go true e h = ap (λ (y : Content). marks_in y ++ all_marks rest) (k.lists at c e) ∙ ap (λ (ts : List Token). ts ∷ all_marks rest) (marks_again c) ∙ ap (λ (tss : List (List Token)). items_of info info_items c ∷ tss) h
    go false e h = ap (λ (tss : List (List Token)). tss ++ all_marks rest) (none_marked (held at c) (k.others at c ∙ e)) ∙ h
marks_told held k at (Rattle.container_model.specs.Units.gap c ∷ xs) u = marks_told held k (at + length (spell_all (c ∷ []))) xs u
marks_told held k at (Rattle.container_model.specs.Units.edited old now ∷ xs) u = marks_told held k (at + length (spell_all old)) xs u.1 ∙ sym (all_past now (flat_map live xs) u.0)

has_any : (cs : List Chunk) → has_carrier info cs ≡ list_any is_info cs
has_any [] = refl
has_any (c ∷ cs) = ap (λ (t : Bool). is_info c || t) (has_any cs)

pub some_lists : (held : ℕ → Chunk → Content) → HoldsLists held → (h : List ℕ → ℕ) (e : List (Item (List ℕ))) (from : ℕ) (xs : List Cell) (ys : List CellAt) → Unmet is_info xs → ys ≡ told_row_by held from xs → has_carrier info (flat_map live xs) ≡ nat_lt 0 (count_row is_list ys)
some_lists held k h e from xs ys u is =
    has_any (flat_map live xs) ∙ some_told held is_info (edit_nth info info_items h e) is_list (λ n x. list_edited (homed_of h e) n x) (lists_fits held k h e) from xs u ∙ ap (λ (zs : List CellAt). nat_lt 0 (count_row is_list zs)) (sym is)

pub lists_changed : (held : ℕ → Chunk → Content) → HoldsLists held → (t : Test) (e : List (Item (List ℕ))) (from : ℕ) (xs : List Cell) (ys : List CellAt) (is : List Homed) → is ≡ homed_of (home (all_marks ys)) e → Unmet is_info xs → ys ≡ told_row_by held from xs → 0 < count_row is_list ys
    → changed_row is_list (λ n x. list_edited is n x) 0 ys ≡ told_row_by held from (acted_cells (lists_act info info_items t e (flat_map live xs)) xs)
lists_changed held k t e from xs ys is same u told some =
    let cs = flat_map live xs in
    let h : List ℕ → ℕ = home (all_items info info_items cs) in
    let homes : is ≡ homed_of h e = same ∙ ap (λ (tss : List (List Token)). homed_of (home tss) e) (ap all_marks told ∙ marks_told held k from xs u) in
    ap (λ (js : List Homed). changed_row is_list (λ n x. list_edited js n x) 0 ys) homes
    ∙ ap (changed_row is_list (λ n x. list_edited (homed_of h e) n x) 0) told
    ∙ sym (settled held is_info (edit_nth info info_items h e) is_list (λ n x. list_edited (homed_of h e) n x) (lists_fits held k h e) 0 from xs u)
    ∙ ap (λ (b : Bool). told_row_by held from (acted_cells (lists_act_by info info_items t e cs b) xs)) (sym (some_lists held k h e from xs ys u told ∙ lt-ltb 0 (count_row is_list ys) some))

-- there is no list
no_marks : (xs : List CellAt) → count_row is_list xs ≡ 0 → all_marks xs ≡ []
no_marks [] e = refl
no_marks (x ∷ xs) e = go x.content e (no_marks xs)
  where
    go : (y : Content) → (if is_list y then count_row is_list xs + 1 else count_row is_list xs) ≡ 0 → (count_row is_list xs ≡ 0 → all_marks xs ≡ []) → marks_in y ++ all_marks xs ≡ []
    go (Listed list) e again = absurd (omega arith)
    go Gap e again = again e
    go (Kept id role) e again = again e
    go (Body body) e again = again e
    go (Edited now parts) e again = again e

part_whole : (e : List (Item (List ℕ))) → part_in 0 (homed_of (home []) e) ≡ e
part_whole [] = refl
part_whole (i ∷ e) = ap (λ (xs : List (Item (List ℕ))). i ∷ xs) (part_whole e)

pub whole_part_is : (e : List (Item (List ℕ))) (ys : List CellAt) (is : List Homed) → is ≡ homed_of (home (all_marks ys)) e → count_row is_list ys ≡ 0 → part_in 0 is ≡ e
whole_part_is e ys is same none = ap (part_in 0) (same ∙ ap (λ (tss : List (List Token)). homed_of (home tss) e) (no_marks ys none)) ∙ part_whole e

pub no_list : (held : ℕ → Chunk → Content) → HoldsLists held → (t : Test) (e : List (Item (List ℕ))) (from : ℕ) (xs : List Cell) (ys zs : List CellAt) (is : List Homed) → is ≡ homed_of (home (all_marks ys)) e → Unmet is_info xs → ys ≡ told_row_by held from xs → count_row is_list ys ≡ 0
    → zs ≡ changed_row is_list (λ n x. list_edited is n x) 0 ys → sets_some (part_in 0 is) ≡ false → zs ≡ told_row_by held from (acted_cells (lists_act info info_items t e (flat_map live xs)) xs)
no_list held k t e from xs ys zs is same u told none c sets =
    c ∙ none_changed is_list (λ n x. list_edited is n x) 0 ys none ∙ told
    ∙ ap (λ (b : Bool). told_row_by held from (acted_cells (new_carrier info info_items t e b) xs)) (sym (ap sets_some (sym (whole_part_is e ys is same none)) ∙ sets))
    ∙ ap (λ (b : Bool). told_row_by held from (acted_cells (lists_act_by info info_items t e (flat_map live xs) b) xs)) (sym (some_lists held k (home []) e from xs ys u told ∙ ap (nat_lt 0) none))

pub new_lists : (held : ℕ → Chunk → Content) → HoldsLists held → (t : Test) (e : List (Item (List ℕ))) (from : ℕ) (xs : List Cell) (ys zs : List CellAt) (is : List Homed) (content : Content) → is ≡ homed_of (home (all_marks ys)) e → Unmet is_info xs
    → ys ≡ told_row_by held from xs → count_row is_list ys ≡ 0 → zs ≡ changed_row is_list (λ n x. list_edited is n x) 0 ys → IsNewList (part_in 0 is) (Some content) → Edits held t from e xs zs (Some content)
new_lists held k t e from xs ys zs is content same u told none c new =
    let part = whole_part_is e ys is same none in (
      c ∙ none_changed is_list (λ n x. list_edited is n x) 0 ys none ∙ told,
      new.1 ∙ ap (λ (f : List (Item (List ℕ))). Edited (spell_all (fresh_list f ∷ [])) (parts_in part_count (fresh_list f ∷ []))) part,
      ap (λ (b : Bool). acted_cells (lists_act_by info info_items t e (flat_map live xs) b) xs) (some_lists held k (home []) e from xs ys u told ∙ ap (nat_lt 0) none)
          ∙ ap (λ (b : Bool). acted_cells (new_carrier info info_items t e b) xs) (ap sets_some (sym part) ∙ new.0),
    )

-- what is answered where there is no list
pub edits_by : (r : Result (Option Content) ListsFault) (e : List (Item (List ℕ))) (ys zs : List CellAt) (is js : List Homed) → js ≡ is → is ≡ homed_of (home (all_marks ys)) e → count_row is_list ys ≡ 0
    → zs ≡ changed_row is_list (λ n x. list_edited is n x) 0 ys → IfOk r (λ content. IsNewList (part_in 0 js) content)
    → IfOk r (λ new. (held : ℕ → Chunk → Content) (t : Test) (from : ℕ) (xs : List Cell) → HoldsLists held → Unmet is_info xs → ys ≡ told_row_by held from xs → Edits held t from e xs zs new)
edits_by (Err fault) e ys zs is js eq same none c new = tt
edits_by (Ok None) e ys zs is js eq same none c new = λ held t from xs k u told.
    no_list held k t e from xs ys zs is same u told none c (subst (λ (hs : List Homed). IsNewList (part_in 0 hs) None) eq new)
edits_by (Ok (Some content)) e ys zs is js eq same none c new = λ held t from xs k u told.
    new_lists held k t e from xs ys zs is content same u told none c (subst (λ (hs : List Homed). IsNewList (part_in 0 hs) (Some content)) eq new)

-- a new list that stands last
pub list_last : (e : List (Item (List ℕ))) (from : ℕ) (xs : List Cell) (zs : List CellAt) (content : Content) → Edits content_of never from e xs zs (Some content)
    → put_new false (new_at content) from zs ≡ told_row from (acted_cells (lists_act info info_items never e (flat_map live xs)) xs)
list_last e from xs zs content h =
    ap (λ (y : Content). put_new false (new_at y) from zs) (h.1)
    ∙ put_last (fresh_list e) from xs zs h.0
    ∙ ap (told_row from) (sym h.2)

pub wave_holds : HoldsLists content_of
wave_holds = record { lists = λ at c p. rw p refl; others = list_told }

-- ---- whatever the file

pub lists_follow : (is : List Homed) (from : ℕ) (ys zs : List CellAt) (end : ℕ) → zs ≡ changed_row is_list (λ n x. list_edited is n x) 0 ys → Follow from ys end → Follow from zs end
lists_follow is from ys zs end e h = subst (λ (xs : List CellAt). Follow from xs end) (sym e) (change_follows is_list (λ n x. list_edited is n x) (λ n x. by n x x.content) 0 from ys end h)
  where
    by : (n : ℕ) (x : CellAt) (y : Content) → ((list_edited_by is n x y).at ≡ x.at) × ((list_edited_by is n x y).next ≡ x.next)
    by n x (Listed list) = go (concerned n (tokens_of list) is)
      where
        go : (t : Bool) → ((if t then edited_at x (changed_list (part_in n is) list ∷ []) else x).at ≡ x.at) × ((if t then edited_at x (changed_list (part_in n is) list ∷ []) else x).next ≡ x.next)
        go true = (refl, refl)
        go false = (refl, refl)
    by n x Gap = (refl, refl)
    by n x (Kept id role) = (refl, refl)
    by n x (Body body) = (refl, refl)
    by n x (Edited now parts) = (refl, refl)

pub lists_long : (is : List Homed) (n : ℕ) (ys : List CellAt) → length (changed_row is_list (λ m x. list_edited is m x) n ys) ≡ length ys
lists_long is n [] = refl
lists_long is n (x ∷ ys) = go (is_list x.content) (λ m. lists_long is m ys)
  where
    go : (t : Bool) → ((m : ℕ) → length (changed_row is_list (λ m x. list_edited is m x) m ys) ≡ length ys)
        → length (if t then list_edited is n x ∷ changed_row is_list (λ m x. list_edited is m x) (n + 1) ys else x ∷ changed_row is_list (λ m x. list_edited is m x) n ys) ≡ suc (length ys)
    go true again = omega (arith, again (n + 1))
    go false again = omega (arith, again n)

-- the changes are of INFO fields
info_homed : (h : List ℕ → ℕ) (e : List (Item (List ℕ))) → SetsInfo e → AreInfo (homed_of h e)
info_homed h [] s = tt
info_homed h (i ∷ e) s = (s.0, info_homed h e s.1)

info_sets : (e : List RawItem) → SetsInfo (info_part e)
info_sets [] = tt
info_sets (i ∷ e) = both (info_item i.name i.value) (one i.name i.value) (info_sets e)
  where
    both : (a : List (Item (List ℕ))) → SetsInfo a → SetsInfo (info_part e) → SetsInfo (a ++ info_part e)
    both [] a h = h
    both (x ∷ xs) a h = (a.0, both xs a.1 h)

    by : (id : FourCc) (value : Option Value) (t : Bool) → one_of info_ids id.0 ≡ t → SetsInfo (if t then record { name = id.0; value = option_map raw value } ∷ [] else [])
    by id value true e = (e, tt)
    by id value false e = tt

    one : (name : FieldName) (value : Option Value) → SetsInfo (info_item name value)
    one (Bext field) value = tt
    one (Info id) value = by id value (one_of info_ids id.0) refl
    one (Whole id) value = tt
    one other value = tt

pub are_info : (h : List ℕ → ℕ) (e : List RawItem) (is : List Homed) → is ≡ homed_of h (info_part e) → AreInfo is
are_info h e is same = subst AreInfo (sym same) (info_homed h (info_part e) (info_sets e))

pub fresh_as : (e : List (Item (List ℕ))) (list : InfoList) → list.items ≡ [] → list.rest ≡ [] → fresh_list e ≡ changed_list e list
fresh_as e list items rest =
    ap (λ (is : List InfoItem). list_of (put_all info_items e (map made_of is)) []) (sym items) ∙ ap (λ (r : List ℕ). list_of (put_all info_items e (map made_of list.items)) r) (sym rest)

pub new_is : (e part : List (Item (List ℕ))) (list : InfoList) (content : Content) (sets : Bool) → part ≡ e → sets ≡ sets_some part → sets ≡ true → list.items ≡ [] → list.rest ≡ []
    → ((c : Chunk) → c ≡ changed_list e list → content ≡ Edited (spell_all (c ∷ [])) (parts_in part_count (c ∷ []))) → IsNewList e (Some content)
new_is e part list content sets p s t items rest h = (ap sets_some (sym p) ∙ sym s ∙ t, h (fresh_list e) (fresh_as e list items rest))
