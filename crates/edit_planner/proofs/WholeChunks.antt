-- The fields that are whole chunks, in a row of cells.
use Rattle.std.proofs.Common.{◌≡◌, ◌∙◌, ◌<◌, ◌≤◌, ℕ, zero, suc, ◌+◌, ◌-◌, ◌^◌, take, get_or, Bool, true, false, List, [], ◌∷◌, ◌++◌, length, refl, sym, ap, arith, subst}
use Rattle.std.specs.Prelude.{Option, Some, None, if◌then◌else◌, ◌&&◌, nat_lt, codes, IfSome}
use Rattle.std.specs.Str.{bytes_eq}
use Rattle.std.specs.List.{flat_map}
use Rattle.std.proofs.lemmas.List.{append-nil, map-append, take_more}
use Rattle.part_tree.specs.declared.field.FieldName.{FieldName}
use Rattle.part_tree.specs.declared.field.FieldName.TheVariants.{Bext, Info, Whole, User, Key, Stream}
use Rattle.part_tree.specs.declared.field.Value.{Value}
use Rattle.part_tree.specs.Names.{whole_ids}
use Rattle.container_model.specs.Chunk.{Chunk, spell, spell_all}
use Rattle.container_model.specs.Units.{Cell, kept, live}
use Rattle.carrier_model.specs.Cells.{Change, become, changed_cell, settle_cells, behind, never, meets, acted_cells}
use Rattle.carrier_model.specs.Info.{one_of, made}
use Rattle.wave_model.specs.Fields.{is_whole as is_field}
use Rattle.field_model.specs.Update.{RawItem}
use Rattle.bext_fields.specs.declared.change.RawChange.{RawChange}
use Rattle.bext_fields.specs.Change.{raw_item_of, raw_items_of}
use Rattle.wave_model.specs.Carry.{some_chunk, first_becomes, names_whole, or_last, whole_by, whole_part}
use Rattle.unit_plan.specs.Shapes.{parts_in}
use Rattle.edit_planner.specs.declared.cells.CellAt.{CellAt}
use Rattle.edit_planner.specs.declared.cells.Content.{Content}
use Rattle.edit_planner.specs.declared.cells.Content.TheVariants.{Edited}
use Rattle.edit_planner.specs.Cells.{AreFine, IsFine, Follow, content_of, part_count, told, told_row, Unmet}
use Rattle.edit_planner.proofs.Row.{change_follows, put_follows}
use Rattle.edit_planner.specs.Row.{is_whole, changed_row, count_row, edited_at, first_new, new_whole, new_at, put_new}
use Rattle.edit_planner.proofs.Told.{Fits, Puts, settled, some_told, none_changed, inserted, whole_told, fresh_at}

pub change : List ℕ → Option Value → ℕ → CellAt → CellAt
change w v n x = edited_at x (first_new (new_whole w v) n)

whole_fits : (w : List ℕ) (v : Option Value) → one_of whole_ids w ≡ true → Fits content_of (is_field w) (first_becomes (new_whole w v)) (is_whole w) (λ n x. edited_at x (first_new (new_whole w v) n))
whole_fits w v f = record {
  met = whole_told w f;
  gaps = refl;
  news = λ now parts. refl;
  same = λ at n c e. same at n c;
}
  where
    len : (at : ℕ) (c : Chunk) → at + length (spell c) ≡ at + length (spell_all (c ∷ []))
    len at c = ap (λ (x : List ℕ). at + length x) (sym (append-nil (spell c)))

    same : (at n : ℕ) (c : Chunk) → edited_at (told at (kept c)) (first_new (new_whole w v) n) ≡ told at (changed_cell (first_becomes (new_whole w v) n c) c)
    same at zero c = ap (λ (m : ℕ). record { at = at; next = m; lacks_pad = false; content = Edited (spell_all (new_whole w v)) (parts_in part_count (new_whole w v)) }) (len at c)
    same at (suc n) c = rw (Rattle.std.proofs.Math.Dec.eqb-suc-zero n) (ap (λ (m : ℕ). record { at = at; next = m; lacks_pad = false; content = Edited [] 0 }) (len at c))

last_puts : Puts behind never false
last_puts = record { met = λ at c. refl; side = λ c e. absurd cc }

unmet_never : (xs : List Cell) → Unmet (meets never) xs
unmet_never [] = tt
unmet_never (kept c ∷ xs) = unmet_never xs
unmet_never (Rattle.container_model.specs.Units.gap c ∷ xs) = unmet_never xs
unmet_never (Rattle.container_model.specs.Units.edited old now ∷ xs) = (none now, unmet_never xs)
  where
    none : (cs : List Chunk) → Rattle.std.specs.List.AllByRecursion (λ c. meets never c ≡ false) cs
    none [] = tt
    none (c ∷ cs) = (refl, none cs)

-- what is put last
pub put_last : (c : Chunk) (from : ℕ) (xs : List Cell) (ys : List CellAt) → ys ≡ told_row from xs
    → put_new false (new_at (Edited (spell_all (c ∷ [])) (parts_in part_count (c ∷ [])))) from ys ≡ told_row from (Rattle.carrier_model.specs.Cells.insert_cell behind never c xs)
put_last c from xs ys e = ap (put_new false (fresh_at c) from) e ∙ sym (inserted behind never false c last_puts from xs (unmet_never xs))

-- the chunks of an identifier change where they are
pub wholes_changed : (w : List ℕ) (v : Option Value) → one_of whole_ids w ≡ true → (from : ℕ) (xs : List Cell) (ys : List CellAt) → Unmet (is_field w) xs → ys ≡ told_row from xs
    → 0 < count_row (is_whole w) ys → changed_row (is_whole w) (λ n x. edited_at x (first_new (new_whole w v) n)) 0 ys ≡ told_row from (acted_cells (whole_by w (Some v) (some_chunk (is_field w) (flat_map live xs))) xs)
wholes_changed w v f from xs ys u e some =
    ap (changed_row (is_whole w) (λ n x. edited_at x (first_new (new_whole w v) n)) 0) e
    ∙ sym (settled content_of (is_field w) (first_becomes (new_whole w v)) (is_whole w) (λ n x. edited_at x (first_new (new_whole w v) n)) (whole_fits w v f) 0 from xs u)
    ∙ go v (some_chunk (is_field w) (flat_map live xs)) there
  where
    there : some_chunk (is_field w) (flat_map live xs) ≡ true
    there =
        some_told content_of (is_field w) (first_becomes (new_whole w v)) (is_whole w) (λ n x. edited_at x (first_new (new_whole w v) n)) (whole_fits w v f) from xs u
        ∙ ap (λ (zs : List CellAt). nat_lt 0 (count_row (is_whole w) zs)) (sym e) ∙ Rattle.std.proofs.lemmas.Bool.lt-ltb 0 (count_row (is_whole w) ys) some

    go : (v : Option Value) (t : Bool) → t ≡ true → told_row from (settle_cells (is_field w) (first_becomes (new_whole w v)) 0 xs) ≡ told_row from (acted_cells (whole_by w (Some v) t) xs)
    go None t i = refl
    go (Some v) true i = refl
    go (Some v) false i = absurd cc

-- there is none, and none is to be
pub wholes_none : (w : List ℕ) (v : Option Value) (from : ℕ) (xs : List Cell) (ys : List CellAt) → v ≡ None → one_of whole_ids w ≡ true → Unmet (is_field w) xs → ys ≡ told_row from xs
    → changed_row (is_whole w) (λ n x. edited_at x (first_new (new_whole w v) n)) 0 ys ≡ told_row from (acted_cells (whole_by w (Some v) (some_chunk (is_field w) (flat_map live xs))) xs)
wholes_none w v from xs ys i f u e = rw i (
    ap (changed_row (is_whole w) (λ n x. edited_at x (first_new [] n)) 0) e
    ∙ sym (settled content_of (is_field w) (first_becomes []) (is_whole w) (λ n x. edited_at x (first_new [] n)) (whole_fits w None f) 0 from xs u))

-- there is none, and a new one stands last
new_behind : (w : List ℕ) (v : Value) (from : ℕ) (xs : List Cell) (ys zs : List CellAt) (now : List ℕ) → one_of whole_ids w ≡ true → Unmet (is_field w) xs → ys ≡ told_row from xs → count_row (is_whole w) ys ≡ 0
    → zs ≡ changed_row (is_whole w) (λ n x. edited_at x (first_new (new_whole w (Some v)) n)) 0 ys → now ≡ spell (made w v.raw)
    → put_new false (new_at (Edited now 1)) from zs ≡ told_row from (acted_cells (whole_by w (Some (Some v)) (some_chunk (is_field w) (flat_map live xs))) xs)
new_behind w v from xs ys zs now f u e none c i =
    ap (λ (b : List ℕ). put_new false (new_at (Edited b 1)) from zs) (i ∙ sym (append-nil (spell (made w v.raw))))
    ∙ ap (λ (n : ℕ). put_new false (new_at (Edited (spell_all (made w v.raw ∷ [])) n)) from zs) (sym one)
    ∙ put_last (made w v.raw) from xs zs (c ∙ none_changed (is_whole w) (λ n x. edited_at x (first_new (new_whole w (Some v)) n)) 0 ys none ∙ e)
    ∙ go (some_chunk (is_field w) (flat_map live xs)) there
  where
    there : some_chunk (is_field w) (flat_map live xs) ≡ false
    there =
        some_told content_of (is_field w) (first_becomes (new_whole w (Some v))) (is_whole w) (λ n x. edited_at x (first_new (new_whole w (Some v)) n)) (whole_fits w (Some v) f) from xs u
        ∙ ap (λ (zs : List CellAt). nat_lt 0 (count_row (is_whole w) zs)) (sym e) ∙ ap (nat_lt 0) none

    one : parts_in part_count (made w v.raw ∷ []) ≡ 1
    one = ap (λ (t : Bool). length (if t then made w v.raw ∷ (Rattle.carrier_model.specs.Info.list_run (made w v.raw)).chunks else made w v.raw ∷ []) + 0) (no_list w f)
      where
        no_list : (w : List ℕ) → one_of whole_ids w ≡ true → Rattle.wave_model.specs.Fields.is_info (made w v.raw) ≡ false
        no_list w f = go (bytes_eq w (codes "LIST")) refl
          where
            go : (t : Bool) → bytes_eq w (codes "LIST") ≡ t → (t && bytes_eq (take 4 v.raw) (codes "INFO")) ≡ false
            go true i = let here : one_of whole_ids (codes "LIST") ≡ true = sym (ap (one_of whole_ids) (Rattle.container_model.proofs.Items.same_true w (codes "LIST") i)) ∙ f in absurd cc
            go false i = refl

    go : (t : Bool) → t ≡ false → told_row from (Rattle.carrier_model.specs.Cells.insert_cell behind never (made w v.raw) xs) ≡ told_row from (acted_cells (whole_by w (Some (Some v)) t) xs)
    go true i = absurd cc
    go false i = refl

pub wholes_new : (w : List ℕ) (o : Option Value) (v : Value) (from : ℕ) (xs : List Cell) (ys zs : List CellAt) (now : List ℕ) → o ≡ Some v → one_of whole_ids w ≡ true → Unmet (is_field w) xs → ys ≡ told_row from xs → count_row (is_whole w) ys ≡ 0
    → zs ≡ changed_row (is_whole w) (λ n x. edited_at x (first_new (new_whole w o) n)) 0 ys → now ≡ spell (made w v.raw)
    → put_new false (new_at (Edited now 1)) from zs ≡ told_row from (acted_cells (whole_by w (Some o) (some_chunk (is_field w) (flat_map live xs))) xs)
wholes_new w o v from xs ys zs now s f u e none c i =
    rw s (new_behind w v from xs ys zs now f u e none (subst (λ (x : Option Value). zs ≡ changed_row (is_whole w) (λ n y. edited_at y (first_new (new_whole w x) n)) 0 ys) s c) i)

-- ---- whatever the file

pub wholes_follow : (w : List ℕ) (v : Option Value) (from : ℕ) (ys zs : List CellAt) (end : ℕ) → zs ≡ changed_row (is_whole w) (λ n x. edited_at x (first_new (new_whole w v) n)) 0 ys → Follow from ys end → Follow from zs end
wholes_follow w v from ys zs end e h = subst (λ (xs : List CellAt). Follow from xs end) (sym e) (change_follows (is_whole w) (λ n x. edited_at x (first_new (new_whole w v) n)) (λ n x. (refl, refl)) 0 from ys end h)

pub new_follows : (content : Content) (from : ℕ) (ys zs : List CellAt) (end : ℕ) → zs ≡ put_new false (new_at content) from ys → Follow from ys end → Follow from zs end
new_follows content from ys zs end e h = subst (λ (xs : List CellAt). Follow from xs end) (sym e) (put_follows false content from ys end h)

-- ---- the last change of a field

or_none : (x : Option (Option Value)) → or_last None x ≡ x
or_none None = refl
or_none (Some v) = refl

or_last_assoc : (x y z : Option (Option Value)) → or_last x (or_last y z) ≡ or_last (or_last x y) z
or_last_assoc x y None = refl
or_last_assoc x y (Some v) = refl

whole_more : (w : List ℕ) (e f : List RawItem) → whole_part w (e ++ f) ≡ or_last (whole_part w e) (whole_part w f)
whole_more w [] f = sym (or_none (whole_part w f))
whole_more w (i ∷ e) f = ap (or_last (if names_whole w i.name then Some i.value else None)) (whole_more w e f) ∙ or_last_assoc (if names_whole w i.name then Some i.value else None) (whole_part w e) (whole_part w f)

whole_at : (w : List ℕ) (cs : List RawChange) (k : ℕ) (x : RawChange) → 0 < k → k ≤ length cs → x ≡ get_or cs (k - 1) x
    → whole_part w (raw_items_of (take k cs)) ≡ or_last (whole_part w (raw_items_of (take (k - 1) cs))) (if names_whole w x.name then Some x.value else None)
whole_at w cs k x pos le here =
    let next : k ≡ (k - 1) + 1 = omega arith in
    ap (λ (n : ℕ). whole_part w (raw_items_of (take n cs))) next
    ∙ ap (λ (ys : List RawChange). whole_part w (raw_items_of ys)) (take_more cs (k - 1) x (omega arith) ∙ ap (λ (y : RawChange). take (k - 1) cs ++ y ∷ []) (sym here))
    ∙ ap (whole_part w) (map-append raw_item_of (take (k - 1) cs) (x ∷ []))
    ∙ whole_more w (raw_items_of (take (k - 1) cs)) (raw_items_of (x ∷ []))
    ∙ ap (or_last (whole_part w (raw_items_of (take (k - 1) cs)))) (or_itself (if names_whole w x.name then Some x.value else None))
  where
    or_itself : (y : Option (Option Value)) → or_last y None ≡ y
    or_itself y = refl

pub last_named : (w : List ℕ) (cs : List RawChange) (k : ℕ) (x : RawChange) → 0 < k → k ≤ length cs → x ≡ get_or cs (k - 1) x → names_whole w x.name ≡ true
    → whole_part w (raw_items_of (take k cs)) ≡ whole_part w (raw_items_of cs) → whole_part w (raw_items_of cs) ≡ Some x.value
last_named w cs k x pos le here e left = sym left ∙ whole_at w cs k x pos le here ∙ ap (λ (t : Bool). or_last (whole_part w (raw_items_of (take (k - 1) cs))) (if t then Some x.value else None)) e

pub none_named : (w : List ℕ) (cs : List RawChange) (k : ℕ) (x : RawChange) → 0 < k → k ≤ length cs → x ≡ get_or cs (k - 1) x → names_whole w x.name ≡ false
    → whole_part w (raw_items_of (take k cs)) ≡ whole_part w (raw_items_of cs) → whole_part w (raw_items_of (take (k - 1) cs)) ≡ whole_part w (raw_items_of cs)
none_named w cs k x pos le here e left = sym (ap (λ (t : Bool). or_last (whole_part w (raw_items_of (take (k - 1) cs))) (if t then Some x.value else None)) e) ∙ sym (whole_at w cs k x pos le here) ∙ left

pub small_at : (w : List ℕ) (cs : List RawChange) (k : ℕ) (x d : RawChange) → AreFine cs → k < length cs → x ≡ get_or cs k d → names_whole w x.name ≡ true → IfSome x.value (λ v. length v.raw < 2 ^ 32)
small_at w [] k x d h lt e n = absurd (omega arith)
small_at w (c ∷ cs) zero x d h lt e n = rw e (small_as c.name c.value h.0 (ap (λ (y : RawChange). names_whole w y.name) (sym e) ∙ n))
  where
    small_as : (name : FieldName) (o : Option Value) → IsFine name o → names_whole w name ≡ true → IfSome o (λ v. length v.raw < 2 ^ 32)
    small_as name None h n = tt
    small_as (Bext field) (Some v) h n = absurd cc
    small_as (Info id) (Some v) h n = absurd cc
    small_as (Whole id) (Some v) h n = omega (arith, h.1)
    small_as other (Some v) h n = absurd cc
small_at w (c ∷ cs) (suc k) x d h lt e n = small_at w cs k x d h.1 (omega arith) e n
