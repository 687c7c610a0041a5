-- The fields of a chunk are read, and its inside is tested.
use Rattle.std.proofs.Common.{◌≡◌, ◌∙◌, ℕ, suc, ◌+◌, ◌-◌, ◌<◌, ◌≤◌, Bool, true, false, ltb, List, [], ◌∷◌, length, take, drop, refl, sym, ap, arith}
use Rattle.std.specs.Prelude.{Some, None, if◌then◌else◌, ◌&&◌, not, Result}
use Rattle.std.proofs.lemmas.Bool.{lt-ltb, le-ltb}
use Rattle.std.proofs.lemmas.List.{length-map, drop-take, drop-drop}
use Rattle.part_tree.specs.declared.names.FourCc.{FourCc}
use Rattle.part_tree.specs.declared.field.FieldName.TheVariants.{Whole}
use Rattle.part_tree.specs.declared.fields.Entry.{Entry}
use Rattle.part_tree.specs.declared.why.Why.{Why}
use Rattle.part_tree.specs.declared.why.Why.TheVariants.{Truncated, TooManyParts}
use Rattle.part_tree.specs.declared.why.ReadFault.{ReadFault}
use Rattle.part_tree.specs.Fields.{Adds}
use Rattle.container_model.specs.Chunk.{Chunk, Stop, ends, riff, spell_all}
use Rattle.container_model.specs.Written.{slice}
use Rattle.carrier_model.specs.Info.{list_run}
use Rattle.field_model.specs.Fields.{plain}
use Rattle.info_list.specs.declared.InfoList.{InfoList}
use Rattle.info_list.specs.Info.{item_of, IsInfo, CutInfo}
use Rattle.riff_form.specs.declared.ChunkAt.{ChunkAt}
use Rattle.riff_form.specs.Walk.{chunk_in}
use Rattle.wave_model.specs.Wave.{form_kind}
use Rattle.wave_model.specs.Fields.{is_info}
use Rattle.wave_model.specs.Edited.{parts_of}
use Rattle.container_model.specs.Tests.{first, ended}
use Rattle.wave_file.specs.Tests.{late_tests}
use Rattle.info_list.specs.Fields.{Grows, items_held}
use Rattle.wave_file.specs.Reads.{AddsFields, ReadsFields, ranges_below}
use Rattle.wave_file.proofs.Grown.{Holding, none_grown, bext_grown, list_grown, whole_grown}
use Rattle.wave_file.proofs.Roles.{list_holds}

-- what is behind the first bytes of a range
pub slice_drop : (b : List ℕ) (at len m : ℕ) → m ≤ len → drop m (slice b at len) ≡ slice b (at + m) (len - m)
slice_drop b at len m le =
    let split : len ≡ m + (len - m) = omega arith in
    ap (λ (k : ℕ). drop m (take k (drop at b))) split
    ∙ drop-take m (len - m) (drop at b)
    ∙ ap (take (len - m)) (drop-drop m at b)
    ∙ ap (λ (k : ℕ). take (len - m) (drop k b)) (omega arith)

two_false : (a b : Bool) (v w : Why) → a ≡ false → b ≡ false → first ((a, v) ∷ ((b, w) ∷ [])) ≡ None
two_false a b v w e f = rw (e, f) refl

second_true : (a b : Bool) (v w : Why) → a ≡ false → b ≡ true → first ((a, v) ∷ ((b, w) ∷ [])) ≡ Some w
second_true a b v w e f = rw (e, f) refl

not_cut : (a : Bool) (stop : Stop) → (a ≡ true → stop ≡ ends) → (a && not (ended stop)) ≡ false
not_cut true stop h = rw (h refl) refl
not_cut false stop h = refl

late_none : (at parts : ℕ) (c : Chunk) → (is_info c ≡ true → (list_run c).stop ≡ ends) → parts + length (parts_of c) ≤ 65536 → first (late_tests at parts c) ≡ None
late_none at parts c stop few =
    two_false (is_info c && not (ended (list_run c).stop)) (ltb 65536 (parts + length (parts_of c))) (Truncated (at + 12 + length (spell_all (list_run c).chunks))) TooManyParts
    (not_cut (is_info c) (list_run c).stop stop) (le-ltb _ _ few)

-- how many parts a chunk is
one_part : (c : Chunk) → is_info c ≡ false → 1 ≡ length (parts_of c)
one_part c e = sym (ap (λ (t : Bool). length (if t then c ∷ (list_run c).chunks else c ∷ [])) e)

list_parts : (c : Chunk) → is_info c ≡ true → length (parts_of c) ≡ suc (length (list_run c).chunks)
list_parts c e = ap (λ (t : Bool). length (if t then c ∷ (list_run c).chunks else c ∷ [])) e

pub items_added : (c : Chunk) (at parts n : ℕ) (old new : List Entry) (list : InfoList) → is_info c ≡ true → IsInfo (drop 4 c.body) list → n ≡ 1 + length list.items → parts + n ≤ 65536
    → Grows old new (items_held list.items) → AddsFields c at parts n old new
items_added c at parts n old new list is info number few grown =
    let items : length list.items ≡ length (list_run c).chunks = ap length info.items ∙ length-map (list_run c).chunks item_of in
    let count : n ≡ length (parts_of c) = omega (arith, number, items, list_parts c is) in
    record {
      count = count;
      tests = late_none at parts c (λ _. info.stop) (omega (arith, count));
      grown = list_grown c old new list.items (list_holds c is) info.items grown;
    }

pub items_cut : (c : Chunk) (at parts p : ℕ) → is_info c ≡ true → CutInfo (drop 4 c.body) p → first (late_tests at parts c) ≡ Some (Truncated (at + 12 + p))
items_cut c at parts p is info = go (is_info c) (list_run c).stop is info.stop ∙ ap (λ (k : ℕ). Some (Truncated (at + 12 + k))) (sym info.place)
  where
    place : ℕ
    place = at + 12 + length (spell_all (list_run c).chunks)

    go : (t : Bool) (stop : Stop) → t ≡ true → stop ≡ Rattle.container_model.specs.Chunk.passes
        → first ((t && not (ended stop), Truncated (at + 12 + length (spell_all (list_run c).chunks))) ∷ ((ltb 65536 (parts + length (parts_of c)), TooManyParts) ∷ [])) ≡ Some (Truncated (at + 12 + length (spell_all (list_run c).chunks)))
    go true stop e f = rw f refl
    go false stop e f = absurd cc

pub items_many : (c : Chunk) (at parts : ℕ) (list : InfoList) → is_info c ≡ true → IsInfo (drop 4 c.body) list → 65536 < parts + 1 + length list.items → first (late_tests at parts c) ≡ Some TooManyParts
items_many c at parts list is info many =
    let items : length list.items ≡ length (list_run c).chunks = ap length info.items ∙ length-map (list_run c).chunks item_of in
    let big : ltb 65536 (parts + length (parts_of c)) ≡ true = lt-ltb _ _ (omega (arith, items, list_parts c is)) in
    second_true (is_info c && not (ended (list_run c).stop)) (ltb 65536 (parts + length (parts_of c))) (Truncated (at + 12 + length (spell_all (list_run c).chunks))) TooManyParts
    (not_cut (is_info c) (list_run c).stop (λ _. info.stop)) big

one_chunk : (c : Chunk) (at parts : ℕ) (old new : List Entry) → is_info c ≡ false → parts < 65536 → Grows old new (Rattle.wave_model.specs.Fields.fields_of (c ∷ [])) → AddsFields c at parts 1 old new
one_chunk c at parts old new e few grown =
    let count = one_part c e in
    record { count = count; tests = late_none at parts c (λ h. absurd cc) (omega (arith, count)); grown = grown }

pub none_added : (c : Chunk) (at parts : ℕ) (es : List Entry) → Holding c false false false → parts < 65536 → AddsFields c at parts 1 es es
none_added c at parts es h few = one_chunk c at parts es es h.list_is few (none_grown c es h)

pub whole_added : (c : Chunk) (id : FourCc) (at parts : ℕ) (old new : List Entry) → Holding c false true false → c.id ≡ id.0 → parts < 65536 → Adds old new (Whole id) (plain c.body) → AddsFields c at parts 1 old new
whole_added c id at parts old new h e few a = one_chunk c at parts old new h.list_is few (whole_grown c id old new h e a)

pub bext_added : (c : Chunk) (at parts : ℕ) (old new : List Entry) → Holding c false false true → parts < 65536 → Grows old new (ranges_below 15 c.body) → AddsFields c at parts 1 old new
bext_added c at parts old new h few grown = one_chunk c at parts old new h.list_is few (bext_grown c old new h grown)

-- a list's size stands in its header
pub list_own : (b : List ℕ) (k : ChunkAt) (t : Bool) (at parts : ℕ) (old new : List Entry) (r : Result ℕ ReadFault) → is_info (chunk_in b (form_kind t) k) ≡ true
    → (is_info (chunk_in b riff k) ≡ true → ReadsFields (chunk_in b riff k) at parts old new r) → ReadsFields (chunk_in b (form_kind t) k) at parts old new r
list_own b k true at parts old new r e h = absurd cc
list_own b k false at parts old new r e h = h e
