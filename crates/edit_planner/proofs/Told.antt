-- A row of cells of the model, as a planner holds it: what the tests see, and what a change of the cells makes of it.
use Rattle.std.proofs.Common.{◌≡◌, ◌∙◌, ℕ, suc, ◌+◌, Bool, true, false, List, [], ◌∷◌, ◌++◌, length, refl, sym, ap, arith}
use Rattle.std.specs.Prelude.{◌&&◌, ◌||◌, ◌==◌, nat_lt, if◌then◌else◌, codes}
use Rattle.std.specs.Str.{bytes_eq}
use Rattle.std.specs.List.{flat_map, list_any, AllByRecursion}
use Rattle.std.proofs.lemmas.List.{append-nil}
use Rattle.std.proofs.lemmas.Bool.{and_parts, lt-ltb}
use Rattle.part_tree.specs.Letters.{four}
use Rattle.part_tree.specs.declared.part.Role.{Role}
use Rattle.part_tree.specs.declared.part.Role.TheVariants.{Opaque, Padding, Bext, Info, Whole, Sizes, Tables, UserData, Essence, Rest}
use Rattle.part_tree.specs.Names.{whole_ids}
use Rattle.container_model.proofs.Items.{same_true}
use Rattle.container_model.specs.Chunk.{Chunk, spell, spell_all}
use Rattle.container_model.specs.Units.{Cell, kept, gap, edited, was, live}
use Rattle.carrier_model.specs.Cells.{Change, leave, become, changed_cell, count_all, settle, settle_cells, Test, Side, behind, before, meets, some_meets, beside, only_gaps, new_cell, insert_cell}
use Rattle.carrier_model.specs.Info.{own_size, is_padding, one_of}
use Rattle.wave_model.specs.Fields.{is_bext, is_info, is_whole as is_field}
use Rattle.wave_model.specs.Why.{is_data}
use Rattle.wave_file.specs.Map.{is_field as is_whole_field, role_of, at_front}
use Rattle.wave_file.proofs.Roles.{list_holds, bext_holds}
use Rattle.unit_plan.specs.Shapes.{parts_in}
use Rattle.edit_planner.specs.declared.cells.CellAt.{CellAt}
use Rattle.edit_planner.specs.declared.cells.Content.{Content}
use Rattle.edit_planner.specs.declared.cells.Content.TheVariants.{Kept, Body, Listed, Gap, Edited}
use Rattle.edit_planner.specs.Cells.{content_of, list_in, part_count, told, told_by, told_row, told_row_by, Unmet}
use Rattle.edit_planner.specs.Row.{is_gap, is_body, is_list, is_format, is_whole, is_field as names_whole, all_gaps, changed_row, count_row, new_at, stops, put_new}

-- ---- what the tests see of a chunk

-- what is told of a chunk that is kept, by what it holds
abbrev by_kind : Bool → Bool → Content → Content → Content → Content
by_kind l b x y z = if l then x else (if b then y else z)

list_id : (c : Chunk) → is_info c ≡ true → c.id ≡ codes "LIST"
list_id c h = same_true c.id (codes "LIST") (and_parts _ _ (and_parts (own_size c.form) _ h).1).0

bext_id : (c : Chunk) → is_bext c ≡ true → c.id ≡ codes "bext"
bext_id c h = sym (same_true (codes "bext") c.id (and_parts (own_size c.form) _ h).1)

pub list_told : (at : ℕ) (c : Chunk) → is_list (content_of at c) ≡ is_info c
list_told at c = go (is_info c) (is_bext c)
  where
    go : (l b : Bool) → is_list (by_kind l b (Listed (list_in c)) (Body c.body) (Kept (four c.id) (at_front at (role_of c)))) ≡ l
    go true b = refl
    go false true = refl
    go false false = refl

pub body_told : (at : ℕ) (c : Chunk) → is_body (content_of at c) ≡ is_bext c
body_told at c = go (is_info c) (is_bext c) refl refl
  where
    go : (l b : Bool) → is_info c ≡ l → is_bext c ≡ b → is_body (by_kind l b (Listed (list_in c)) (Body c.body) (Kept (four c.id) (at_front at (role_of c)))) ≡ b
    go true b e f = sym (list_holds c e).ranges_is ∙ f
    go false true e f = refl
    go false false e f = refl

pub gap_told : (at : ℕ) (c : Chunk) → is_gap (content_of at c) ≡ false
gap_told at c = go (is_info c) (is_bext c)
  where
    go : (l b : Bool) → is_gap (by_kind l b (Listed (list_in c)) (Body c.body) (Kept (four c.id) (at_front at (role_of c)))) ≡ false
    go true b = refl
    go false true = refl
    go false false = refl

pub format_told : (at : ℕ) (c : Chunk) → is_format (content_of at c) ≡ bytes_eq c.id (codes "fmt ")
format_told at c = go (is_info c) (is_bext c) refl refl
  where
    go : (l b : Bool) → is_info c ≡ l → is_bext c ≡ b → is_format (by_kind l b (Listed (list_in c)) (Body c.body) (Kept (four c.id) (at_front at (role_of c)))) ≡ bytes_eq c.id (codes "fmt ")
    go true b e f = rw (list_id c e) refl
    go false true e f = rw (bext_id c f) refl
    go false false e f = refl

front_role : (at : ℕ) (r : Role) → names_whole (at_front at r) ≡ names_whole r
front_role at Opaque = refl
front_role at Bext = refl
front_role at Info = refl
front_role at Whole = refl
front_role at Sizes = refl
front_role at Tables = refl
front_role at UserData = refl
front_role at Essence = refl
front_role at Rest = refl
front_role at Padding = go (at == 12)
  where
    go : (t : Bool) → names_whole (if t then Opaque else Padding) ≡ false
    go true = refl
    go false = refl

whole_role : (l w b d p : Bool) → l ≡ false → names_whole (if l then Info else (if w then Whole else (if b then Bext else (if d then Essence else (if p then Padding else Opaque))))) ≡ w
whole_role true w b d p e = absurd cc
whole_role false true b d p e = refl
whole_role false false true d p e = refl
whole_role false false false true p e = refl
whole_role false false false false true e = refl
whole_role false false false false false e = refl

and_no : (a : Bool) → (a && false) ≡ false
and_no true = refl
and_no false = refl

-- a chunk that isn't one of the fields that are whole chunks isn't the field of an identifier
no_field : (w : List ℕ) (c : Chunk) → one_of whole_ids w ≡ true → is_whole_field c ≡ false → is_field w c ≡ false
no_field w c f e = go (bytes_eq w c.id) refl
  where
    go : (t : Bool) → bytes_eq w c.id ≡ t → (own_size c.form && (one_of whole_ids w && t)) ≡ false
    go true i = ap (λ (x : List ℕ). own_size c.form && (one_of whole_ids x && true)) (same_true w c.id i) ∙ and_true (own_size c.form) (one_of whole_ids c.id) e
      where
        and_true : (a b : Bool) → (a && b) ≡ false → (a && (b && true)) ≡ false
        and_true true true e = e
        and_true true false e = refl
        and_true false b e = refl
    go false i = ap (λ (x : Bool). own_size c.form && x) (and_no (one_of whole_ids w)) ∙ and_no (own_size c.form)

pub whole_told : (w : List ℕ) → one_of whole_ids w ≡ true → (at : ℕ) (c : Chunk) → is_whole w (content_of at c) ≡ is_field w c
whole_told w f at c = go (is_info c) (is_bext c) refl refl
  where
    role : is_info c ≡ false → names_whole (at_front at (role_of c)) ≡ is_whole_field c
    role e = front_role at (role_of c) ∙ whole_role (is_info c) (is_whole_field c) (is_bext c) (is_data c) (is_padding c) e

    same : (o a t : Bool) → bytes_eq w c.id ≡ t → one_of whole_ids c.id ≡ a → ((o && a) && t) ≡ (o && (one_of whole_ids w && t))
    same false a t i h = refl
    same true a true i h = and_one a ∙ sym h ∙ sym (ap (one_of whole_ids) (same_true w c.id i)) ∙ sym (and_one (one_of whole_ids w))
      where
        and_one : (x : Bool) → (x && true) ≡ x
        and_one true = refl
        and_one false = refl
    same true a false i h = and_no a ∙ sym (and_no (one_of whole_ids w))

    go : (l b : Bool) → is_info c ≡ l → is_bext c ≡ b → is_whole w (by_kind l b (Listed (list_in c)) (Body c.body) (Kept (four c.id) (at_front at (role_of c)))) ≡ is_field w c
    go true b e i = sym (no_field w c f (list_holds c e).whole_is)
    go false true e i = sym (no_field w c f (bext_holds c i).whole_is)
    go false false e i = ap (λ (x : Bool). x && bytes_eq w c.id) (role e) ∙ same (own_size c.form) (one_of whole_ids c.id) (bytes_eq w c.id) refl refl

-- ---- a change of cells

pub record Fits (held : ℕ → Chunk → Content) (p : Chunk → Bool) (f : ℕ → Chunk → Change) (q : Content → Bool) (g : ℕ → CellAt → CellAt) : Type 0 where
  pub met : (at : ℕ) (c : Chunk) → q (held at c) ≡ p c
  pub gaps : q Gap ≡ false
  pub news : (now : List ℕ) (parts : ℕ) → q (Edited now parts) ≡ false
  pub same : (at n : ℕ) (c : Chunk) → p c ≡ true → g n (told_by held at (kept c)) ≡ told_by held at (changed_cell (f n c) c)

was_changed : (d : Change) (c : Chunk) → was (changed_cell d c) ≡ c ∷ []
was_changed leave c = refl
was_changed (become cs) c = refl

settle_none : (p : Chunk → Bool) (f : ℕ → Chunk → Change) (n : ℕ) (cs : List Chunk) → AllByRecursion (λ c. p c ≡ false) cs → settle p f n cs ≡ cs
settle_none p f n [] h = refl
settle_none p f n (c ∷ cs) h = rw (h.0, settle_none p f n cs h.1) refl

count_none : (p : Chunk → Bool) (n : ℕ) (cs : List Chunk) → AllByRecursion (λ c. p c ≡ false) cs → count_all p n cs ≡ n
count_none p n [] h = refl
count_none p n (c ∷ cs) h = rw (h.0, count_none p n cs h.1) refl

pub settled : (held : ℕ → Chunk → Content) (p : Chunk → Bool) (f : ℕ → Chunk → Change) (q : Content → Bool) (g : ℕ → CellAt → CellAt) → Fits held p f q g → (n at : ℕ) (xs : List Cell) → Unmet p xs
    → told_row_by held at (settle_cells p f n xs) ≡ changed_row q g n (told_row_by held at xs)
settled held p f q g h n at [] u = refl
settled held p f q g h n at (kept c ∷ xs) u = go (p c) refl (λ m to. settled held p f q g h m to xs u)
  where
    go : (t : Bool) → p c ≡ t → ((m to : ℕ) → told_row_by held to (settle_cells p f m xs) ≡ changed_row q g m (told_row_by held to xs))
        → told_by held at (changed_cell (if t then f n c else leave) c) ∷ told_row_by held (at + length (spell_all (was (changed_cell (if t then f n c else leave) c)))) (settle_cells p f (if t then suc n else n) xs)
        ≡ changed_row q g n (told_by held at (kept c) ∷ told_row_by held (at + length (spell_all (c ∷ []))) xs)
    go true e again =
        let one : q (held at c) ≡ true = h.met at c ∙ e in
        let next : n + 1 ≡ suc n = omega arith in
        rw (one, was_changed (f n c) c, again (suc n) (at + length (spell_all (c ∷ []))), next, h.same at n c e) refl
    go false e again =
        let one : q (held at c) ≡ false = h.met at c ∙ e in
        rw (one, again n (at + length (spell_all (c ∷ [])))) refl
settled held p f q g h n at (gap c ∷ xs) u = rw (h.gaps, settled held p f q g h n (at + length (spell_all (c ∷ []))) xs u) refl
settled held p f q g h n at (edited old now ∷ xs) u =
    rw (h.news (spell_all now) (parts_in part_count now), settle_none p f n now u.0, count_none p n now u.0, settled held p f q g h n (at + length (spell_all old)) xs u.1) refl

-- whether some chunk meets the test
any_append : (p : Chunk → Bool) (a b : List Chunk) → AllByRecursion (λ c. p c ≡ false) a → list_any p (a ++ b) ≡ list_any p b
any_append p [] b h = refl
any_append p (c ∷ a) b h = rw h.0 (any_append p a b h.1)

pub some_told : (held : ℕ → Chunk → Content) (p : Chunk → Bool) (f : ℕ → Chunk → Change) (q : Content → Bool) (g : ℕ → CellAt → CellAt) → Fits held p f q g → (at : ℕ) (xs : List Cell) → Unmet p xs
    → list_any p (flat_map live xs) ≡ nat_lt 0 (count_row q (told_row_by held at xs))
some_told held p f q g h at [] u = refl
some_told held p f q g h at (kept c ∷ xs) u = go (p c) refl (some_told held p f q g h (at + length (spell_all (c ∷ []))) xs u)
  where
    go : (t : Bool) → p c ≡ t → list_any p (flat_map live xs) ≡ nat_lt 0 (count_row q (told_row_by held (at + length (spell_all (c ∷ []))) xs))
        → (t || list_any p (flat_map live xs)) ≡ nat_lt 0 (count_row q (told_by held at (kept c) ∷ told_row_by held (at + length (spell_all (c ∷ []))) xs))
    go true e again =
        let one : q (held at c) ≡ true = h.met at c ∙ e in
        rw one (sym (lt-ltb 0 (count_row q (told_row_by held (at + length (spell_all (c ∷ []))) xs) + 1) (omega arith)))
    go false e again =
        let one : q (held at c) ≡ false = h.met at c ∙ e in
        rw one again
some_told held p f q g h at (gap c ∷ xs) u = rw h.gaps (some_told held p f q g h (at + length (spell_all (c ∷ []))) xs u)
some_told held p f q g h at (edited old now ∷ xs) u = rw (h.news (spell_all now) (parts_in part_count now)) (any_append p now (flat_map live xs) u.0 ∙ some_told held p f q g h (at + length (spell_all old)) xs u.1)

pub none_changed : (q : Content → Bool) (g : ℕ → CellAt → CellAt) (n : ℕ) (xs : List CellAt) → count_row q xs ≡ 0 → changed_row q g n xs ≡ xs
none_changed q g n [] e = refl
none_changed q g n (x ∷ xs) e = go (q x.content) e (none_changed q g n xs)
  where
    go : (t : Bool) → (if t then count_row q xs + 1 else count_row q xs) ≡ 0 → (count_row q xs ≡ 0 → changed_row q g n xs ≡ xs) → (if t then g n x ∷ changed_row q g (n + 1) xs else x ∷ changed_row q g n xs) ≡ x ∷ xs
    go true e again = absurd (omega arith)
    go false e again = ap (λ (ys : List CellAt). x ∷ ys) (again e)

-- ---- a new cell

pub record Puts (s : Side) (t : Test) (b : Bool) : Type 0 where
  pub met : (at : ℕ) (c : Chunk) → (b && is_format (content_of at c)) ≡ meets t c
  pub side : (c : Chunk) → meets t c ≡ true → s ≡ before

abbrev pub fresh_at : Chunk → ℕ → CellAt
fresh_at c at = new_at (Edited (spell_all (c ∷ [])) (parts_in part_count (c ∷ []))) at

gaps_told : (at : ℕ) (xs : List Cell) → all_gaps (told_row at xs) ≡ only_gaps xs
gaps_told at [] = refl
gaps_told at (kept c ∷ xs) = rw (gap_told at c) refl
gaps_told at (gap c ∷ xs) = gaps_told (at + length (spell_all (c ∷ []))) xs
gaps_told at (edited old now ∷ xs) = refl

new_told : (at : ℕ) (c : Chunk) → told at (new_cell c) ≡ fresh_at c at
new_told at c = let e : at + 0 ≡ at = omega arith in ap (λ (n : ℕ). record { at = at; next = n; lacks_pad = false; content = Edited (spell_all (c ∷ [])) (parts_in part_count (c ∷ [])) }) e

-- a new cell before a row
before_row : (at : ℕ) (c : Chunk) (xs : List Cell) → told_row at (new_cell c ∷ xs) ≡ fresh_at c at ∷ told_row at xs
before_row at c xs = let e : at + 0 ≡ at = omega arith in ap (λ (x : CellAt). x ∷ told_row (at + 0) xs) (new_told at c) ∙ ap (λ (n : ℕ). fresh_at c at ∷ told_row n xs) e

pub inserted : (s : Side) (t : Test) (b : Bool) (c : Chunk) → Puts s t b → (at : ℕ) (xs : List Cell) → Unmet (meets t) xs
    → told_row at (insert_cell s t c xs) ≡ put_new b (fresh_at c) at (told_row at xs)
inserted s t b c h at [] u = before_row at c []
inserted s t b c h at (kept d ∷ xs) u = go (meets t d) refl (inserted s t b c h (at + length (spell_all (d ∷ []))) xs u)
  where
    rest : List CellAt
    rest = told_row (at + length (spell_all (d ∷ []))) xs

    stop : (m : Bool) → meets t d ≡ m → stops b (told at (kept d)) rest ≡ m
    stop m e = ap (λ (x : Bool). (b && is_format (content_of at d)) || (x && all_gaps rest)) (gap_told at d) ∙ or_no (b && is_format (content_of at d)) ∙ h.met at d ∙ e
      where
        or_no : (x : Bool) → (x || false) ≡ x
        or_no true = refl
        or_no false = refl

    side_by : (s : Side) → s ≡ before → told_row at (beside s (new_cell c) (kept d) ++ xs) ≡ fresh_at c at ∷ (told at (kept d) ∷ rest)
    side_by behind e = absurd cc
    side_by before e = before_row at c (kept d ∷ xs)

    go : (m : Bool) → meets t d ≡ m → told_row (at + length (spell_all (d ∷ []))) (insert_cell s t c xs) ≡ put_new b (fresh_at c) (at + length (spell_all (d ∷ []))) rest
        → told_row at (if m then beside s (new_cell c) (kept d) ++ xs else kept d ∷ insert_cell s t c xs) ≡ put_new b (fresh_at c) at (told at (kept d) ∷ rest)
    go true e again = rw (stop true e) (side_by s (h.side d e))
    go false e again = rw (stop false e) (ap (λ (ys : List CellAt). told at (kept d) ∷ ys) (again ∙ next))
      where
        next : put_new b (fresh_at c) (at + length (spell_all (d ∷ []))) rest ≡ put_new b (fresh_at c) (at + length (spell d)) rest
        next = ap (λ (n : ℕ). put_new b (fresh_at c) (at + n) rest) (ap length (append-nil (spell d)))
inserted s t b c h at (gap d ∷ xs) u = go (only_gaps xs) refl (inserted s t b c h (at + length (spell_all (d ∷ []))) xs u)
  where
    rest : List CellAt
    rest = told_row (at + length (spell_all (d ∷ []))) xs

    stop : (m : Bool) → only_gaps xs ≡ m → stops b (told at (gap d)) rest ≡ m
    stop m e = ap (λ (x : Bool). x || all_gaps rest) (and_no b) ∙ gaps_told (at + length (spell_all (d ∷ []))) xs ∙ e

    go : (m : Bool) → only_gaps xs ≡ m → told_row (at + length (spell_all (d ∷ []))) (insert_cell s t c xs) ≡ put_new b (fresh_at c) (at + length (spell_all (d ∷ []))) rest
        → told_row at (if m then new_cell c ∷ (gap d ∷ xs) else gap d ∷ insert_cell s t c xs) ≡ put_new b (fresh_at c) at (told at (gap d) ∷ rest)
    go true e again = rw (stop true e) (before_row at c (gap d ∷ xs))
    go false e again = rw (stop false e) (ap (λ (ys : List CellAt). told at (gap d) ∷ ys) (again ∙ ap (λ (n : ℕ). put_new b (fresh_at c) (at + n) rest) (ap length (append-nil (spell d)))))
inserted s t b c h at (edited old now ∷ xs) u =
    let rest = told_row (at + length (spell_all old)) xs in
    let stop : stops b (told at (edited old now)) rest ≡ false = ap (λ (x : Bool). x || false) (and_no b) in
    rw (no_meets t now u.0, stop) (ap (λ (ys : List CellAt). told at (edited old now) ∷ ys) (inserted s t b c h (at + length (spell_all old)) xs u.1))
  where
    no_meets : (t : Test) (cs : List Chunk) → AllByRecursion (λ c. meets t c ≡ false) cs → some_meets t cs ≡ false
    no_meets t [] h = refl
    no_meets t (c ∷ cs) h = rw h.0 (no_meets t cs h.1)
