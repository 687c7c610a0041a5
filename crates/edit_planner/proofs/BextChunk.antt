-- The chunk `bext` in a row of cells.
use Rattle.std.proofs.Common.{◌≡◌, ◌∙◌, ◌<◌, ◌≤◌, ℕ, ◌+◌, ◌^◌, drop, set, get_or, Bool, true, false, List, [], ◌∷◌, length, refl, sym, ap, arith, subst}
use Rattle.std.specs.Prelude.{Option, Some, None, if◌then◌else◌, nat_lt, codes, ◌||◌}
use Rattle.std.specs.List.{flat_map}
use Rattle.std.proofs.lemmas.List.{append-nil, at_drop_more, at_drop_all, drop-set-lt}
use Rattle.std.proofs.lemmas.Bool.{lt-ltb}
use Rattle.part_tree.specs.declared.field.FieldName.{FieldName}
use Rattle.part_tree.specs.declared.field.FieldName.TheVariants.{Bext, Info, Whole, User, Key, Stream}
use Rattle.part_tree.specs.declared.field.Value.{Value}
use Rattle.field_model.specs.Bext.{new_body}
use Rattle.field_model.specs.Body.{FitBext, edited_bext}
use Rattle.field_model.specs.Update.{RawItem, is_bext as is_range}
use Rattle.container_model.specs.Chunk.{Chunk, spell, spell_all}
use Rattle.container_model.specs.Units.{Cell, kept, gap, edited, live}
use Rattle.carrier_model.specs.Cells.{Change, become, changed_cell, settle_cells, insert_cell, before, meets, acted_cells}
use Rattle.carrier_model.specs.Info.{made}
use Rattle.bext_fields.specs.declared.change.RawChange.{RawChange}
use Rattle.bext_fields.specs.Change.{raw_items_of}
use Rattle.wave_model.specs.Fields.{is_bext}
use Rattle.wave_model.specs.Carry.{bext_act, bext_by, edits_bext, is_format as is_format_chunk, some_chunk}
use Rattle.wave_model.proofs.Values.{ItemFine, ItemsFine}
use Rattle.wave_model.proofs.Bext as bext
use Rattle.wave_file.proofs.Roles.{bext_holds}
use Rattle.unit_plan.specs.Shapes.{parts_in}
use Rattle.edit_planner.specs.declared.cells.CellAt.{CellAt}
use Rattle.edit_planner.specs.declared.cells.Content.{Content}
use Rattle.edit_planner.specs.declared.cells.Content.TheVariants.{Body, Edited}
use Rattle.edit_planner.specs.Cells.{AreFine, IsFine, AreReadable, IsReadable, Follow, Unedited, Unmet, content_of, part_count, told, told_row}
use Rattle.edit_planner.specs.Row.{is_body, body_edited, body_of, changed_row, count_row, edited_at, new_at, put_new, stops}
use Rattle.edit_planner.proofs.Row.{change_follows, put_follows}
use Rattle.edit_planner.proofs.Told.{Fits, Puts, settled, some_told, none_changed, inserted, body_told, format_told, fresh_at}

-- ---- changes that are fine

pub fine_items : (cs : List RawChange) → AreFine cs → ItemsFine (raw_items_of cs)
fine_items [] h = tt
fine_items (c ∷ cs) h = (one c.name c.value h.0, fine_items cs h.1)
  where
    one : (name : FieldName) (o : Option Value) → IsFine name o → ItemFine name o
    one (Bext field) None h = h
    one (Bext field) (Some v) h = h
    one (Info id) None h = h
    one (Info id) (Some v) h = h
    one (Whole id) None h = h
    one (Whole id) (Some v) h = h
    one other o h = h

pub fine_fits : (cs : List RawChange) → AreFine cs → FitBext (raw_items_of cs)
fine_fits cs h = bext.fit_bext (raw_items_of cs) (fine_items cs h)

pub edited_small : (cs : List RawChange) (body now : List ℕ) → AreFine cs → 602 ≤ length body → length body ≤ 2 ^ 24 → now ≡ edited_bext (raw_items_of cs) body → length now < 2 ^ 32
edited_small cs body now h long small e = let s = bext.edited_body (raw_items_of cs) body (fine_items cs h) (long, small) in omega (arith, ap length e, s.1)

pub new_small : (cs : List RawChange) (now : List ℕ) → AreFine cs → now ≡ edited_bext (raw_items_of cs) new_body → length now < 2 ^ 32
new_small cs now h e = let s = bext.edited_body (raw_items_of cs) new_body (fine_items cs h) bext.new_is_body in omega (arith, ap length e, s.1)

-- ---- cells that can be read

pub readable_next : (xs : List CellAt) (i : ℕ) (x d : CellAt) → i < length xs → x ≡ get_or xs i d → AreReadable (drop i xs) → IsReadable x.content × AreReadable (drop (i + 1) xs)
readable_next xs i x d lt e h =
    let split : drop i xs ≡ get_or xs i d ∷ drop (i + 1) xs = at_drop_more (λ (ys : List CellAt). ys) xs i d lt in
    let g : AreReadable (get_or xs i d ∷ drop (i + 1) xs) = subst AreReadable split h in
    (subst (λ (y : CellAt). IsReadable y.content) (sym e) g.0, g.1)

pub readable_more : (xs : List CellAt) (i : ℕ) (y : CellAt) → AreReadable (drop (i + 1) xs) → AreReadable (drop (i + 1) (set xs i y))
readable_more xs i y h = subst AreReadable (sym (drop-set-lt (i + 1) xs i y (omega arith))) h

pub changed_readable : (q : Content → Bool) (g : ℕ → CellAt → CellAt) → ((n : ℕ) (x : CellAt) → IsReadable x.content → IsReadable (g n x).content) → (n : ℕ) (xs : List CellAt) → AreReadable xs → AreReadable (changed_row q g n xs)
changed_readable q g s n [] h = tt
changed_readable q g s n (x ∷ xs) h = go (q x.content) (λ m. changed_readable q g s m xs h.1)
  where
    go : (t : Bool) → ((m : ℕ) → AreReadable (changed_row q g m xs)) → AreReadable (if t then g n x ∷ changed_row q g (n + 1) xs else x ∷ changed_row q g n xs)
    go true again = (s n x h.0, again (n + 1))
    go false again = (h.0, again n)

pub put_readable : (b : Bool) (content : Content) → IsReadable content → (from : ℕ) (xs : List CellAt) → AreReadable xs → AreReadable (put_new b (new_at content) from xs)
put_readable b content r from [] h = (r, tt)
put_readable b content r from (x ∷ xs) h = go (stops b x xs) (put_readable b content r x.next xs h.1)
  where
    go : (t : Bool) → AreReadable (put_new b (new_at content) x.next xs) → AreReadable (if t then new_at content from ∷ (x ∷ xs) else x ∷ put_new b (new_at content) x.next xs)
    go true again = (r, h)
    go false again = (h.0, again)

-- ---- nothing is edited

pub unedited_unmet : (p : Chunk → Bool) (xs : List Cell) → Unedited xs → Unmet p xs
unedited_unmet p [] u = tt
unedited_unmet p (kept c ∷ xs) u = unedited_unmet p xs u
unedited_unmet p (gap c ∷ xs) u = unedited_unmet p xs u
unedited_unmet p (edited old now ∷ xs) u = absurd u

-- ---- the edit

abbrev change : List RawItem → ℕ → Chunk → Change
change e n c = become (made (codes "bext") (edited_bext e c.body) ∷ [])

bext_fits : (e : List RawItem) → Fits content_of is_bext (change e) is_body (λ n x. body_edited e x)
bext_fits e = record {
  met = body_told;
  gaps = refl;
  news = λ now parts. refl;
  same = λ at n c h. same at c h;
}
  where
    body_is : (at : ℕ) (c : Chunk) → is_bext c ≡ true → body_of (content_of at c) ≡ c.body
    body_is at c h = rw ((bext_holds c h).list_is, h) refl

    same : (at : ℕ) (c : Chunk) → is_bext c ≡ true → body_edited e (told at (kept c)) ≡ told at (changed_cell (change e 0 c) c)
    same at c h =
        ap (λ (x : List ℕ). edited_at (told at (kept c)) (made (codes "bext") (edited_bext e x) ∷ [])) (body_is at c h)
        ∙ ap (λ (x : List ℕ). record { at = at; next = at + length x; lacks_pad = false; content = Edited (spell_all (made (codes "bext") (edited_bext e c.body) ∷ [])) (parts_in part_count (made (codes "bext") (edited_bext e c.body) ∷ [])) }) (sym (append-nil (spell c)))

format_puts : Puts before is_format_chunk true
format_puts = record { met = format_told; side = λ c e. refl }

pub bodies_changed : (e : List RawItem) (from : ℕ) (xs : List Cell) (ys : List CellAt) → edits_bext e ≡ true → Unedited xs → ys ≡ told_row from xs → 0 < count_row is_body ys
    → changed_row is_body (λ n x. body_edited e x) 0 ys ≡ told_row from (acted_cells (bext_act e (flat_map live xs)) xs)
bodies_changed e from xs ys edits u is some =
    let unmet = unedited_unmet is_bext xs u in
    ap (changed_row is_body (λ n x. body_edited e x) 0) is
    ∙ sym (settled content_of is_bext (change e) is_body (λ n x. body_edited e x) (bext_fits e) 0 from xs unmet)
    ∙ go (edits_bext e) (some_chunk is_bext (flat_map live xs)) edits
    (some_told content_of is_bext (change e) is_body (λ n x. body_edited e x) (bext_fits e) from xs unmet ∙ ap (λ (zs : List CellAt). nat_lt 0 (count_row is_body zs)) (sym is) ∙ lt-ltb 0 (count_row is_body ys) some)
  where
    go : (t u : Bool) → t ≡ true → u ≡ true → told_row from (settle_cells is_bext (change e) 0 xs) ≡ told_row from (acted_cells (bext_by e t u) xs)
    go true true i j = refl
    go true false i j = absurd cc
    go false u i j = absurd cc

pub body_new : (e : List RawItem) (from : ℕ) (xs : List Cell) (ys zs : List CellAt) (now : List ℕ) → edits_bext e ≡ true → Unedited xs → ys ≡ told_row from xs → count_row is_body ys ≡ 0
    → zs ≡ changed_row is_body (λ n x. body_edited e x) 0 ys → now ≡ spell (made (codes "bext") (edited_bext e new_body))
    → put_new true (new_at (Edited now 1)) from zs ≡ told_row from (acted_cells (bext_act e (flat_map live xs)) xs)
body_new e from xs ys zs now edits u is none c i =
    ap (λ (b : List ℕ). put_new true (new_at (Edited b 1)) from zs) (i ∙ sym (append-nil (spell (made (codes "bext") (edited_bext e new_body)))))
    ∙ ap (put_new true (fresh_at (made (codes "bext") (edited_bext e new_body))) from) (c ∙ none_changed is_body (λ n x. body_edited e x) 0 ys none ∙ is)
    ∙ sym (inserted before is_format_chunk true (made (codes "bext") (edited_bext e new_body)) format_puts from xs (unedited_unmet (meets is_format_chunk) xs u))
    ∙ go (edits_bext e) (some_chunk is_bext (flat_map live xs)) edits
    (some_told content_of is_bext (change e) is_body (λ n x. body_edited e x) (bext_fits e) from xs (unedited_unmet is_bext xs u) ∙ ap (λ (zs : List CellAt). nat_lt 0 (count_row is_body zs)) (sym is) ∙ ap (nat_lt 0) none)
  where
    go : (t u : Bool) → t ≡ true → u ≡ false → told_row from (insert_cell before is_format_chunk (made (codes "bext") (edited_bext e new_body)) xs) ≡ told_row from (acted_cells (bext_by e t u) xs)
    go true true i j = absurd cc
    go true false i j = refl
    go false u i j = absurd cc

pub no_edit : (e : List RawItem) (from : ℕ) (xs : List Cell) (ys : List CellAt) → edits_bext e ≡ false → ys ≡ told_row from xs → ys ≡ told_row from (acted_cells (bext_act e (flat_map live xs)) xs)
no_edit e from xs ys edits is = is ∙ go (edits_bext e) (some_chunk is_bext (flat_map live xs)) edits
  where
    go : (t u : Bool) → t ≡ false → told_row from xs ≡ told_row from (acted_cells (bext_by e t u) xs)
    go true u i = absurd cc
    go false u i = refl

-- ---- whatever the file

pub bodies_follow : (e : List RawItem) (from : ℕ) (ys zs : List CellAt) (end : ℕ) → zs ≡ changed_row is_body (λ n x. body_edited e x) 0 ys → Follow from ys end → Follow from zs end
bodies_follow e from ys zs end i h = subst (λ (xs : List CellAt). Follow from xs end) (sym i) (change_follows is_body (λ n x. body_edited e x) (λ n x. (refl, refl)) 0 from ys end h)

pub bodies_readable : (e : List RawItem) (ys zs : List CellAt) → zs ≡ changed_row is_body (λ n x. body_edited e x) 0 ys → AreReadable ys → AreReadable zs
bodies_readable e ys zs i h = subst AreReadable (sym i) (changed_readable is_body (λ n x. body_edited e x) (λ n x r. tt) 0 ys h)

-- the test over changes
pub any_next : (cs : List RawChange) (i : ℕ) (x d : RawChange) → i < length cs → x ≡ get_or cs i d
    → edits_bext (raw_items_of (drop i cs)) ≡ (is_range x.name || edits_bext (raw_items_of (drop (i + 1) cs)))
any_next cs i x d lt e = at_drop_more (λ (ys : List RawChange). edits_bext (raw_items_of ys)) cs i d lt ∙ ap (λ (y : RawChange). is_range y.name || edits_bext (raw_items_of (drop (i + 1) cs))) (sym e)

pub any_end : (cs : List RawChange) (i : ℕ) → length cs ≤ i → edits_bext (raw_items_of (drop i cs)) ≡ false
any_end cs i le = at_drop_all (λ (ys : List RawChange). edits_bext (raw_items_of ys)) cs i le

pub put_follows_on : (b : Bool) (content : Content) (from : ℕ) (ys zs : List CellAt) (end : ℕ) → zs ≡ put_new b (new_at content) from ys → Follow from ys end → Follow from zs end
put_follows_on b content from ys zs end i h = subst (λ (xs : List CellAt). Follow from xs end) (sym i) (put_follows b content from ys end h)

pub put_readable_on : (b : Bool) (content : Content) → IsReadable content → (from : ℕ) (ys zs : List CellAt) → zs ≡ put_new b (new_at content) from ys → AreReadable ys → AreReadable zs
put_readable_on b content r from ys zs i h = subst AreReadable (sym i) (put_readable b content r from ys h)

-- ---- a cell

pub body_now : (e : List RawItem) (x : CellAt) (body read : List ℕ) (content : Content) → x.content ≡ Body body → read ≡ body
    → ((now : List Chunk) → now ≡ made (codes "bext") (edited_bext e read) ∷ [] → content ≡ Edited (spell_all now) (parts_in part_count now))
    → record { at = x.at; next = x.next; lacks_pad = false; content = content } ≡ (if is_body x.content then body_edited e x else x)
body_now e x body read content is r h =
    ap (λ (y : Content). record { at = x.at; next = x.next; lacks_pad = false; content = y }) (h (made (codes "bext") (edited_bext e read) ∷ []) refl)
    ∙ ap (λ (b : List ℕ). edited_at x (made (codes "bext") (edited_bext e b) ∷ [])) (r ∙ ap body_of (sym is))
    ∙ ap (λ (t : Bool). if t then body_edited e x else x) (sym (ap is_body is))

-- items that their fields can have are changes that are fine
pub fine_from : (cs : List RawChange) → ItemsFine (raw_items_of cs) → AreFine cs
fine_from [] h = tt
fine_from (c ∷ cs) h = (one c.name c.value h.0, fine_from cs h.1)
  where
    one : (name : FieldName) (o : Option Value) → ItemFine name o → IsFine name o
    one (Bext field) None h = h
    one (Bext field) (Some v) h = h
    one (Info id) None h = h
    one (Info id) (Some v) h = h
    one (Whole id) None h = h
    one (Whole id) (Some v) h = h
    one other o h = h
