-- How long the lists of INFO items become.
use Rattle.std.proofs.Common.{◌≡◌, ◌∙◌, ◌<◌, ◌≤◌, ℕ, suc, ◌+◌, ◌^◌, Bool, true, false, List, [], ◌∷◌, ◌++◌, length, refl, sym, ap, arith, inl, inr}
use Rattle.std.specs.Prelude.{Option, Result, Some, None, if◌then◌else◌, nat_lt, ◌||◌, ◌⊎◌}
use Rattle.std.specs.declared.result.Result.TheVariants.{Ok, Err}
use Rattle.std.specs.List.{flat_map, list_any, AllByRecursion}
use Rattle.std.proofs.lemmas.Bool.{le-ltb, lt-ltb}
use Rattle.container_model.specs.Chunk.{Chunk, spell_all}
use Rattle.container_model.specs.Units.{Cell, kept, gap, edited, live}
use Rattle.container_model.specs.Deep.{Token}
use Rattle.container_model.specs.Items.{Item, edit_carrier}
use Rattle.carrier_model.specs.Cells.{Change, leave, become, changed, settle, behind, Test, acted}
use Rattle.carrier_model.specs.Info.{info, info_items}
use Rattle.part_tree.specs.Large.{Size, limited, first_above}
use Rattle.carrier_model.specs.Lists.{home, items_of, all_items, concerns, part_of, edit_nth, has_carrier, sets_some, new_carrier, lists_act, lists_act_by}
use Rattle.wave_model.specs.Fields.{bodies, is_bext, is_info}
use Rattle.wave_model.specs.Carry.{some_chunk}
use Rattle.wave_model.proofs.Acts.{insert_bodies}
use Rattle.edit_planner.specs.declared.cells.CellAt.{CellAt}
use Rattle.edit_planner.specs.declared.cells.Content.{Content}
use Rattle.edit_planner.specs.declared.cells.Content.TheVariants.{Kept, Body, Listed, Gap, Edited}
use Rattle.edit_planner.specs.declared.lists.Homed.{Homed}
use Rattle.edit_planner.specs.declared.lists.ListsFault.{ListsFault}
use Rattle.edit_planner.specs.declared.lists.ListsFault.TheVariants.{TooLarge, Memory}
use Rattle.edit_planner.specs.Cells.{Unmet, list_in, told_by, told_row_by}
use Rattle.edit_planner.specs.Row.{is_list, count_row}
use Rattle.edit_planner.specs.Lists.{HoldsLists, SmallLists, TellsLarge, all_marks, changed_list, concerned, fresh_list, homed_of, lengths, new_sizes, part_in, size_in, sizes_in}
use Rattle.edit_planner.proofs.InfoLists.{marks_again, carrier_again, same_concern, same_part, some_lists, whole_part_is, marks_told}

abbrev skip : Bool → Size → List Size → Option Size
skip above s ss = if above then Some s else first_above ss

-- a size that is small is passed
small_passed : (n : ℕ) (ss : List Size) → n ≤ 2 ^ 24 → first_above (limited (2 ^ 24) n ∷ ss) ≡ first_above ss
small_passed n ss h = rw (le-ltb (2 ^ 24) n h) refl

none_bodies : (cs ds : List Chunk) → AllByRecursion (λ c. is_info c ≡ false) cs → bodies is_info (cs ++ ds) ≡ bodies is_info ds
none_bodies [] ds h = refl
none_bodies (c ∷ cs) ds h = rw h.0 (none_bodies cs ds h.1)

settle_past : (f : ℕ → Chunk → Change) (n : ℕ) (cs ds : List Chunk) → AllByRecursion (λ c. is_info c ≡ false) cs → settle is_info f n (cs ++ ds) ≡ cs ++ settle is_info f n ds
settle_past f n [] ds h = refl
settle_past f n (c ∷ cs) ds h = rw h.0 (ap (λ (xs : List Chunk). c ∷ xs) (settle_past f n cs ds h.1))

small_right : (a c : List Chunk) → SmallLists (a ++ c) → SmallLists c
small_right [] c h = h
small_right (x ∷ a) c h = small_right a c h.1

-- the lists that are there
pub sizes_told : (held : ℕ → Chunk → Content) → HoldsLists held → (h : List ℕ → ℕ) (e : List (Item (List ℕ))) (n at : ℕ) (xs : List Cell) → Unmet is_info xs → SmallLists (flat_map live xs)
    → first_above (lengths (bodies is_info (settle is_info (edit_nth info info_items h e) n (flat_map live xs)))) ≡ first_above (sizes_in (homed_of h e) n (told_row_by held at xs))
sizes_told held k h e n at [] u s = refl
sizes_told held k h e n at (kept c ∷ xs) u s = go (is_info c) refl (λ m. sizes_told held k h e m (at + length (spell_all (c ∷ []))) xs u s.1)
  where
    is : List Homed
    is = homed_of h e

    rest : List CellAt
    rest = told_row_by held (at + length (spell_all (c ∷ []))) xs

    later : ℕ → List Chunk
    later m = settle is_info (edit_nth info info_items h e) m (flat_map live xs)

    new : Chunk
    new = edit_carrier info info_items (part_of h n e) c

    here : changed_list (part_in n is) (list_in c) ≡ new
    here = ap (λ (f : List (Item (List ℕ))). changed_list f (list_in c)) (same_part h n e) ∙ carrier_again (part_of h n e) c

    size_is : is_info c ≡ true → size_in is n (held at c) ≡ (if concerns h n (items_of info info_items c) e then limited (2 ^ 24) (length new.body) ∷ [] else [])
    size_is p =
        ap (size_in is n) (k.lists at c p)
        ∙ ap (λ (t : Bool). if t then limited (2 ^ 24) (length (changed_list (part_in n is) (list_in c)).body) ∷ [] else []) (ap (λ (ts : List Token). concerned n ts is) (marks_again c) ∙ same_concern h n (items_of info info_items c) e)
        ∙ ap (λ (d : Chunk). if concerns h n (items_of info info_items c) e then limited (2 ^ 24) (length d.body) ∷ [] else []) here

    no_size : is_info c ≡ false → size_in is n (held at c) ≡ []
    no_size p = go (is_bext c)
      where
        go : (t : Bool) → size_in is n (held at c) ≡ []
        go t = by (held at c) (k.others at c ∙ p)
          where
            by : (y : Content) → is_list y ≡ false → size_in is n y ≡ []
            by (Listed list) i = absurd cc
            by Gap i = refl
            by (Kept id role) i = refl
            by (Body body) i = refl
            by (Edited now parts) i = refl

    one : (t : Bool) → length c.body ≤ 2 ^ 24 → is_info c ≡ true → ((m : ℕ) → first_above (lengths (bodies is_info (later m))) ≡ first_above (sizes_in is m rest))
        → first_above (lengths (bodies is_info (changed (if t then become (new ∷ []) else leave) c ++ later (suc n)))) ≡ first_above ((if t then limited (2 ^ 24) (length new.body) ∷ [] else []) ++ sizes_in is (n + 1) rest)
    one true small p again =
        let next : n + 1 ≡ suc n = omega arith in
        rw next (skip_on (nat_lt (2 ^ 24) (length new.body)) (again (suc n)))
      where
        skip_on : (t : Bool) → first_above (lengths (bodies is_info (later (suc n)))) ≡ first_above (sizes_in is (suc n) rest)
            → (if t then Some (limited (2 ^ 24) (length new.body)) else first_above (lengths (bodies is_info (later (suc n))))) ≡ (if t then Some (limited (2 ^ 24) (length new.body)) else first_above (sizes_in is (suc n) rest))
        skip_on true i = refl
        skip_on false i = i
    one false small p again =
        let next : n + 1 ≡ suc n = omega arith in
        rw (p, next) (small_passed (length c.body) (lengths (bodies is_info (later (suc n)))) small ∙ again (suc n))

    go : (t : Bool) → is_info c ≡ t → ((m : ℕ) → first_above (lengths (bodies is_info (later m))) ≡ first_above (sizes_in is m rest))
        → first_above (lengths (bodies is_info (changed (if t then edit_nth info info_items h e n c else leave) c ++ settle is_info (edit_nth info info_items h e) (if t then suc n else n) (flat_map live xs))))
        ≡ first_above (sizes_in is n (told_by held at (kept c) ∷ rest))
    go true p again =
        one (concerns h n (items_of info info_items c) e) (s.0 p) p again
        ∙ ap (λ (ss : List Size). first_above (ss ++ sizes_in is (n + 1) rest)) (sym (size_is p))
        ∙ ap (λ (t : Bool). first_above (size_in is n (held at c) ++ sizes_in is (if t then n + 1 else n) rest)) (sym (k.others at c ∙ p))
    go false p again =
        rw p (again n)
        ∙ ap (λ (ss : List Size). first_above (ss ++ sizes_in is n rest)) (sym (no_size p))
        ∙ ap (λ (t : Bool). first_above (size_in is n (held at c) ++ sizes_in is (if t then n + 1 else n) rest)) (sym (k.others at c ∙ p))
sizes_told held k h e n at (gap c ∷ xs) u s = sizes_told held k h e n (at + length (spell_all (c ∷ []))) xs u s
sizes_told held k h e n at (edited old now ∷ xs) u s =
    ap (λ (cs : List Chunk). first_above (lengths (bodies is_info cs))) (settle_past (edit_nth info info_items h e) n now (flat_map live xs) u.0)
    ∙ ap (λ (bs : List (List ℕ)). first_above (lengths bs)) (none_bodies now (settle is_info (edit_nth info info_items h e) n (flat_map live xs)) u.0)
    ∙ sizes_told held k h e n (at + length (spell_all old)) xs u.1 (small_right now (flat_map live xs) s)

-- ---- the answers

abbrev pub model_sizes : Test → List (Item (List ℕ)) → List Cell → List Size
model_sizes t e xs = lengths (bodies is_info (acted (lists_act info info_items t e (flat_map live xs)) (flat_map live xs)))

pub tells_same : (T U : Type 0) (ss ts : List Size) (fault : ListsFault) → first_above ss ≡ first_above ts → TellsLarge {T = T} ss (Err fault) → TellsLarge {T = U} ts (Err fault)
tells_same T U ss ts (TooLarge size) e h = sym e ∙ h
tells_same T U ss ts Memory e h = tt

pub tells_as : (T U : Type 0) (ss : List Size) (fault : ListsFault) → TellsLarge {T = T} ss (Err fault) → TellsLarge {T = U} ss (Err fault)
tells_as T U ss (TooLarge size) h = h
tells_as T U ss Memory h = tt

-- the same whatever the answer is
pub tells_all : {T : Type 0} (ss ts : List Size) (r : Result T ListsFault) → first_above ss ≡ first_above ts → TellsLarge ss r → TellsLarge ts r
tells_all ss ts (Ok x) e h = sym e ∙ h
tells_all ss ts (Err (TooLarge size)) e h = sym e ∙ h
tells_all ss ts (Err Memory) e h = tt

-- there are lists
pub sizes_changed : (held : ℕ → Chunk → Content) → HoldsLists held → (t : Test) (e : List (Item (List ℕ))) (from : ℕ) (xs : List Cell) (ys : List CellAt) (is : List Homed) → is ≡ homed_of (home (all_marks ys)) e → Unmet is_info xs → SmallLists (flat_map live xs) → ys ≡ told_row_by held from xs → 0 < count_row is_list ys
    → first_above (sizes_in is 0 ys) ≡ first_above (model_sizes t e xs)
sizes_changed held k t e from xs ys is same u small told some =
    let cs = flat_map live xs in
    let h : List ℕ → ℕ = home (all_items info info_items cs) in
    let homes : is ≡ homed_of h e = same ∙ ap (λ (tss : List (List Token)). homed_of (home tss) e) (ap all_marks told ∙ marks_told held k from xs u) in
    ap (λ (js : List Homed). first_above (sizes_in js 0 ys)) homes ∙ ap (λ (zs : List CellAt). first_above (sizes_in (homed_of h e) 0 zs)) told
    ∙ sym (sizes_told held k h e 0 from xs u small)
    ∙ ap (λ (s : Bool). first_above (lengths (bodies is_info (acted (lists_act_by info info_items t e cs s) cs)))) (sym (some_lists held k h e from xs ys u told ∙ lt-ltb 0 (count_row is_list ys) some))

no_sizes : (is : List Homed) (n : ℕ) (ys : List CellAt) → count_row is_list ys ≡ 0 → sizes_in is n ys ≡ []
no_sizes is n [] e = refl
no_sizes is n (y ∷ ys) e = go y.content e (λ m. no_sizes is m ys)
  where
    go : (z : Content) → (if is_list z then count_row is_list ys + 1 else count_row is_list ys) ≡ 0 → ((m : ℕ) → count_row is_list ys ≡ 0 → sizes_in is m ys ≡ []) → size_in is n z ++ sizes_in is (if is_list z then n + 1 else n) ys ≡ []
    go (Listed list) e again = absurd (omega arith)
    go Gap e again = again n e
    go (Kept id role) e again = again n e
    go (Body body) e again = again n e
    go (Edited now parts) e again = again n e

-- a list that is too large is one that is there
pub large_changed : (T U : Type 0) (held : ℕ → Chunk → Content) → HoldsLists held → (t : Test) (e : List (Item (List ℕ))) (from : ℕ) (xs : List Cell) (ys : List CellAt) (is : List Homed) (fault : ListsFault) → is ≡ homed_of (home (all_marks ys)) e → Unmet is_info xs → SmallLists (flat_map live xs) → ys ≡ told_row_by held from xs
    → TellsLarge {T = T} (sizes_in is 0 ys) (Err fault) → TellsLarge {T = U} (model_sizes t e xs) (Err fault)
large_changed T U held k t e from xs ys is Memory same u small told h = tt
large_changed T U held k t e from xs ys is (TooLarge size) same u small told h = go (Rattle.std.proofs.lemmas.Bool.cases_lt 0 (count_row is_list ys))
  where
    go : (0 < count_row is_list ys) ⊎ (count_row is_list ys ≤ 0) → first_above (model_sizes t e xs) ≡ Some (limited (2 ^ 24) size)
    go (inl lt) = sym (sizes_changed held k t e from xs ys is same u small told lt) ∙ h
    go (inr le) = let none : None ≡ Some (limited (2 ^ 24) size) = sym (ap first_above (no_sizes is 0 ys (omega arith))) ∙ h in absurd cc

-- there is none
none_there : (cs : List Chunk) → some_chunk is_info cs ≡ false → bodies is_info cs ≡ []
none_there [] e = refl
none_there (c ∷ cs) e = go (is_info c) e (none_there cs)
  where
    go : (t : Bool) → (t || list_any is_info cs) ≡ false → (list_any is_info cs ≡ false → bodies is_info cs ≡ []) → (if t then c.body ∷ [] else []) ++ bodies is_info cs ≡ []
    go true e again = absurd cc
    go false e again = again e

has_any : (cs : List Chunk) → has_carrier info cs ≡ list_any is_info cs
has_any [] = refl
has_any (c ∷ cs) = ap (λ (t : Bool). is_info c || t) (has_any cs)

pub sizes_new : (held : ℕ → Chunk → Content) → HoldsLists held → (t : Test) (e : List (Item (List ℕ))) (from : ℕ) (xs : List Cell) (ys : List CellAt) (is js : List Homed) → js ≡ is → is ≡ homed_of (home (all_marks ys)) e → Unmet is_info xs → ys ≡ told_row_by held from xs → count_row is_list ys ≡ 0
    → first_above (new_sizes (part_in 0 js)) ≡ first_above (model_sizes t e xs)
sizes_new held k t e from xs ys is js eq same u told none =
    let cs = flat_map live xs in
    let no : has_carrier info cs ≡ false = some_lists held k (home []) e from xs ys u told ∙ ap (nat_lt 0) none in
    ap (λ (f : List (Item (List ℕ))). first_above (new_sizes f)) (ap (part_in 0) eq ∙ whole_part_is e ys is same none)
    ∙ go (sets_some e) (sym (has_any cs) ∙ no)
    ∙ ap (λ (s : Bool). first_above (lengths (bodies is_info (acted (lists_act_by info info_items t e cs s) cs)))) (sym no)
  where
    go : (s : Bool) → list_any is_info (flat_map live xs) ≡ false
        → first_above (if s then limited (2 ^ 24) (length (fresh_list e).body) ∷ [] else []) ≡ first_above (lengths (bodies is_info (acted (new_carrier info info_items t e s) (flat_map live xs))))
    go true i = ap (λ (bs : List (List ℕ)). first_above (lengths bs)) (sym (insert_bodies is_info behind t (fresh_list e) refl (flat_map live xs) i))
    go false i = ap (λ (bs : List (List ℕ)). first_above (lengths bs)) (sym (none_there (flat_map live xs) i))
