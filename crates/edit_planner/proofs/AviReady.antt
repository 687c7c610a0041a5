-- An edit of an AVI file of which every item has an effect, and that breaks no basic rule.
use Rattle.std.proofs.Common.{◌≡◌, ◌∙◌, ℕ, suc, ◌<◌, ◌≤◌, ◌+◌, ◌-◌, ◌^◌, Bool, true, false, List, [], ◌∷◌, ◌++◌, length, map, refl, sym, ap, subst, arith}
use Rattle.std.proofs.Math.Path.{fun_ext}
use Rattle.std.specs.Prelude.{IsTrue, Some, None, Option, min, not, ◌&&◌, codes, if◌then◌else◌, nat_lt}
use Rattle.std.specs.declared.result.Result.TheVariants.{Err}
use Rattle.std.specs.List.{flat_map, AllByRecursion, cons_option, filter_map}
use Rattle.std.proofs.lemmas.List.{length-append, length-map}
use Rattle.part_tree.specs.declared.field.Change.{Change}
use Rattle.part_tree.specs.declared.field.Change.TheVariants.{Set, Remove}
use Rattle.part_tree.specs.declared.field.EditItem.{EditItem}
use Rattle.part_tree.specs.declared.field.FieldName.{FieldName}
use Rattle.part_tree.specs.declared.field.FieldName.TheVariants.{Bext, Info, Whole, User, Key, Stream}
use Rattle.part_tree.specs.declared.field.RuleSet.TheVariants.{Base}
use Rattle.part_tree.specs.declared.field.Value.{Value}
use Rattle.part_tree.specs.declared.names.Kind.TheVariants.{Avi}
use Rattle.part_tree.specs.declared.names.Span.{Span}
use Rattle.part_tree.specs.Fields.{values}
use Rattle.part_tree.specs.Large.{Size, first_above, limited}
use Rattle.part_tree.specs.Names.{IsFieldName, info_ids}
use Rattle.field_model.specs.Broken.{broken}
use Rattle.field_model.specs.Fields.{FieldMap}
use Rattle.field_model.specs.Kind.{IsAccepted}
use Rattle.field_model.specs.KindReads.{Declines}
use Rattle.field_model.specs.KindFacts.{has_field}
use Rattle.field_model.specs.Update.{RawItem, effective, raw_change, raw_item, raw_items}
use Rattle.field_model.proofs.Kept.{Kept, base_kept}
use Rattle.bext_fields.specs.Change.{raw_items_of}
use Rattle.bext_fields.specs.declared.change.RawChange.{RawChange}
use Rattle.core_edit.specs.Edits.{AreOfFields}
use Rattle.container_model.specs.Chunk.{Chunk, spell}
use Rattle.container_model.specs.Items.{is_nil}
use Rattle.container_model.specs.Stood.{Stood, bare, first_of, only, stood}
use Rattle.container_model.specs.Units.{live}
use Rattle.carrier_model.specs.Info.{info, info_items, is_padding, is_type, list_run, one_of}
use Rattle.carrier_model.specs.Lists.{lists_act}
use Rattle.carrier_model.specs.RiffForm.{ends_file}
use Rattle.carrier_model.proofs.Cells.{Gaps, gaps_acted, live_acted}
use Rattle.avi_model.specs.After.{all_changes, all_fields, changed_by, is_idle, large_after}
use Rattle.avi_model.specs.Avi.{avi_of, body_span, hdrls, kids, strls}
use Rattle.avi_model.specs.Edited.{info_edit, info_item}
use Rattle.avi_model.specs.Kind.{avi_kind}
use Rattle.avi_model.specs.Named.{cell_by, is_hdrl, riff_of}
use Rattle.avi_model.specs.NewFile.{Items, home}
use Rattle.avi_model.specs.Support.{Supported, count_kids}
use Rattle.avi_model.proofs.AfterFields.{AreAvi, IsAviName, items_give}
use Rattle.avi_model.proofs.JoinedParts.{kids_both}
use Rattle.avi_file.specs.Map.{IsMapOf}
use Rattle.avi_file.specs.declared.map.AviMap.{AviMap}
use Rattle.wave_model.specs.Fields.{body_in, is_info}
use Rattle.wave_model.proofs.Cells.{view_laid}
use Rattle.wave_model.proofs.New.{ignores_info}
use Rattle.edit_planner.specs.declared.head.Head.{Head}
use Rattle.edit_planner.specs.declared.wave.PlaceFault.{PlaceFault}
use Rattle.edit_planner.specs.declared.wave.PlaceFault.TheVariants.{TooLarge, Depot, Memory}
use Rattle.edit_planner.specs.Avi.{avi_cells}
use Rattle.edit_planner.specs.AviPlaces.{PlacesLists, avi_sizes, names_in, no_place}
use Rattle.edit_planner.specs.Plan.{IsReady}
use Rattle.avi_plan.specs.Comes.{IsListed, list_sizes}
use Rattle.edit_planner.specs.Tops.{head_from}
use Rattle.edit_planner.proofs.AviForms.{supported_by}

-- ---- the body of `hdrl`

pub head_body : (n at : ℕ) (cs : List Chunk) (h : Head) → head_from n at cs ≡ Some h → h.body ∷ [] ≡ map body_span (first_of (only (is_type (codes "hdrl")) (stood at cs)))
head_body n at [] h e = absurd cc
head_body n at (c ∷ cs) h e = go (is_hdrl c) e (head_body (suc n) (at + length (spell c)) cs h)
  where
    go : (t : Bool) → (if t then Some (record { number = n; body = record { at = at + 8; len = length c.body } }) else head_from (suc n) (at + length (spell c)) cs) ≡ Some h
        → (head_from (suc n) (at + length (spell c)) cs ≡ Some h → h.body ∷ [] ≡ map body_span (first_of (only (is_type (codes "hdrl")) (stood (at + length (spell c)) cs))))
        → h.body ∷ [] ≡ map body_span (first_of (if t then record { at = at; chunk = bare c } ∷ only (is_type (codes "hdrl")) (stood (at + length (spell c)) cs) else only (is_type (codes "hdrl")) (stood (at + length (spell c)) cs)))
    go true e again =
        let body : record { at = at + 8; len = length c.body } ≡ h.body = ap (λ (o : Option Head). body_or o) e in
        ap (λ (s : Span). s ∷ []) (sym body)
      where
        body_or : Option Head → Span
        body_or None = record { at = at + 8; len = length c.body }
        body_or (Some g) = g.body
    go false e again = again e

-- ---- how many streams there are

stood_long : (at : ℕ) (cs : List Chunk) → length (stood at cs) ≡ length cs
stood_long at [] = refl
stood_long at (c ∷ cs) = ap suc (stood_long (at + length (spell c)) cs)

kids_long : (xs : List Stood) → length (flat_map kids xs) ≡ count_kids xs
kids_long [] = refl
kids_long (x ∷ xs) = omega (arith, length-append (kids x) (flat_map kids xs), stood_long (x.at + 12) (list_run x.chunk).chunks, kids_long xs)

only_fewer : (p : Chunk → Bool) (xs : List Stood) → length (only p xs) ≤ length xs
only_fewer p [] = omega arith
only_fewer p (x ∷ xs) = go (p x.chunk) (only_fewer p xs)
  where
    go : (t : Bool) → length (only p xs) ≤ length xs → length (if t then x ∷ only p xs else only p xs) ≤ suc (length xs)
    go true h = omega (arith, h)
    go false h = omega (arith, h)

streams_few : (b : List ℕ) → Supported b → length (strls (avi_of b)) ≤ 65536
streams_few b s =
    let a = avi_of b in
    omega (
      arith,
      s.few_parts,
      only_fewer (is_type (codes "strl")) (flat_map kids (hdrls a)),
      kids_long (hdrls a),
      kids_both (hdrls a) (strls a ++ Rattle.avi_model.specs.Support.infos a),
    )

-- ---- the edit

same_fields : (b : List ℕ) (m : AviMap) → IsMapOf b m → values m.fields ≡ all_fields b
same_fields b m h = fun_ext h.field_values

-- the changes are the edit in raw bytes
pub items_are : (b : List ℕ) (m : AviMap) (e : List EditItem) (cs xs : List RawChange) → IsMapOf b m → raw_items_of cs ≡ raw_items (values m.fields) e → xs ≡ cs → raw_items_of xs ≡ raw_items (all_fields b) e
items_are b m e cs xs h is same = ap raw_items_of same ∙ is ∙ ap (λ (f : FieldMap). raw_items f e) (same_fields b m h)

pub is_accepted : (b : List ℕ) (m : AviMap) (e : List EditItem) → IsMapOf b m → IsReady Avi (min (length m.streams.items) (2 ^ 32 - 1)) (values m.fields) e → IsAccepted avi_kind b e
is_accepted b m e h ready =
    let sup = supported_by b h.supported in
    let count : length m.streams.items ≡ length (strls (avi_of b)) = ap (λ (ss : List Span). length ss) h.streams ∙ length-map (strls (avi_of b)) Rattle.avi_file.specs.Walk.behind_type in
    let streams : min (length m.streams.items) (2 ^ 32 - 1) ≡ length (strls (avi_of b)) = omega (arith, count, streams_few b sup) in
    sym (ap (λ (n : ℕ). broken Avi n (values m.fields) e Base) streams ∙ ap (λ (f : FieldMap). broken Avi (length (strls (avi_of b))) f e Base) (same_fields b m h)) ∙ ready.keeps_rules

-- some item changes something
and_no : (a : Bool) → (a && false) ≡ false
and_no true = refl
and_no false = refl

busy_by : (streams : ℕ) (rs : List RawItem) → 0 < length rs → AreAvi streams rs → AreOfFields rs → is_idle (changed_by rs) ≡ false
busy_by streams [] some avi names = absurd (omega (arith, some))
busy_by streams (r ∷ rs) some avi names = go r.name r.value avi.0.0 names.0
  where
    known : (t : Bool) → IsTrue t → t ≡ true
    known t h = h

    go : (name : FieldName) (value : Option Value) → IsAviName streams name → IsFieldName name
        → (is_nil (info_item name value ++ info_edit rs) && is_nil (Rattle.avi_model.specs.After.name_item name value ++ names_in rs)) ≡ false
    go (Bext field) value h f = absurd h
    go (Info id) value h f =
        ap (λ (t : Bool). is_nil ((if t then record { name = id.0; value = Rattle.std.specs.Prelude.option_map (λ (v : Value). v.raw) value } ∷ [] else []) ++ info_edit rs) && is_nil (names_in rs)) (known (one_of info_ids id.0) f)
    go (Whole id) value h f = absurd h
    go (User id) value h f = absurd h
    go (Key id) value h f = absurd h
    go (Stream n) value h f = and_no (is_nil (info_edit rs))

-- each item is one in raw bytes
raw_one : (streams : ℕ) (name : FieldName) (change : Change) (rs : List RawItem) → not (has_field Avi streams name) ≡ false → length (cons_option (raw_change name change) rs) ≡ suc (length rs)
raw_one streams (Bext field) change rs h = absurd cc
raw_one streams (Whole id) change rs h = absurd cc
raw_one streams (User id) change rs h = absurd cc
raw_one streams (Key name) change rs h = absurd cc
raw_one streams (Info id) (Set text) rs h = refl
raw_one streams (Info id) Remove rs h = refl
raw_one streams (Stream n) (Set text) rs h = refl
raw_one streams (Stream n) Remove rs h = refl

raw_all : (streams : ℕ) (es : List EditItem) → AllByRecursion (Kept Avi streams) es → length (filter_map raw_item es) ≡ length es
raw_all streams [] k = refl
raw_all streams (i ∷ es) k = raw_one streams i.name i.change (filter_map raw_item es) k.0.field ∙ ap suc (raw_all streams es k.1)

pub is_busy : (b : List ℕ) (m : AviMap) (e : List EditItem) (cs xs : List RawChange) → IsMapOf b m → IsReady Avi (min (length m.streams.items) (2 ^ 32 - 1)) (values m.fields) e → raw_items_of xs ≡ raw_items (all_fields b) e → AreOfFields (raw_items_of cs) → xs ≡ cs
    → is_idle (all_changes b e) ≡ false
is_busy b m e cs xs h ready is names same =
    let streams = length (strls (avi_of b)) in
    let f = all_fields b in
    let ok = is_accepted b m e h ready in
    let all : length (raw_items f e) ≡ length e
    = raw_all streams (effective f e) (base_kept Avi streams f e ok) ∙ ap (λ (es : List EditItem). length es) (ap (λ (g : FieldMap). effective g e) (sym (same_fields b m h)) ∙ ready.changes_all) in
    busy_by streams (raw_items f e) (omega (arith, all, ready.changes_some)) (items_give streams f e ok).names (subst AreOfFields (ap raw_items_of (sym same) ∙ is) names)

-- ---- how long the lists become

gaps_pad : (cs : List Chunk) → Gaps (λ c. is_padding c ≡ true) (avi_cells cs)
gaps_pad [] = tt
gaps_pad (c ∷ cs) = go (is_padding c) refl (gaps_pad cs)
  where
    go : (t : Bool) → is_padding c ≡ t → Gaps (λ c. is_padding c ≡ true) (avi_cells cs) → Gaps (λ c. is_padding c ≡ true) (cell_by c t ∷ avi_cells cs)
    go true e g = (e, g)
    go false e g = g

pub sizes_same : (b : List ℕ) (e : List EditItem) → first_above (avi_sizes b (all_changes b e).infos) ≡ first_above (list_sizes b e)
sizes_same b e =
    let a = avi_of b in
    let f = (all_changes b e).infos in
    let xs = avi_cells a.children in
    let act = lists_act info info_items home f (flat_map live xs) in
    let laid = view_laid (body_in is_info) ignores_info (ends_file (riff_of a)) (Rattle.carrier_model.specs.Cells.acted_cells act xs) (gaps_acted (λ c. is_padding c ≡ true) act xs (gaps_pad a.children)) in
    ap (λ (bs : List (List ℕ)). first_above (map (λ (x : List ℕ). limited (2 ^ 24) (length x)) bs)) (ap (flat_map (body_in is_info)) (sym (live_acted act xs)) ∙ sym laid)

pub listed : (b : List ℕ) (e : List EditItem) → IsAccepted avi_kind b e → is_idle (all_changes b e) ≡ false → first_above (avi_sizes b (all_changes b e).infos) ≡ None → IsListed b e
listed b e ok busy none = record { accepted = ok; effect = busy; lists = sym (sizes_same b e) ∙ none }

-- a list that is too long is the first size that passes its limit
pub declined : (b : List ℕ) (e : List EditItem) (l : Bool) (f : Items) (fault : PlaceFault) → f ≡ (all_changes b e).infos → ((s : Size) → first_above (list_sizes b e) ≡ Some s → large_after b e ≡ Some s) → PlacesLists b l f (Err fault)
    → Declines avi_kind b e (no_place fault)
declined b e l f (TooLarge size) same passes h = passes (limited (2 ^ 24) size) (sym (sizes_same b e) ∙ ap (λ (g : Items). first_above (avi_sizes b g)) (sym same) ∙ h)
declined b e l f Depot same passes h = tt
declined b e l f Memory same passes h = tt
