-- An edit of which every item has an effect, and that breaks no basic rule.
use Rattle.std.proofs.Common.{◌≡◌, ◌∙◌, ℕ, ◌<◌, true, false, List, [], ◌∷◌, length, map, refl, sym, ap, subst, arith}
use Rattle.std.proofs.Math.Path.{fun_ext}
use Rattle.std.specs.Prelude.{IsTrue, Some, None}
use Rattle.me_disk.specs.Disk.{Disk, bytes_of}
use Rattle.me_disk.specs.Holds.{Holds}
use Rattle.me_disk.specs.Steps.{ReadsOnly}
use Rattle.part_tree.specs.declared.field.EditItem.{EditItem}
use Rattle.part_tree.specs.declared.names.Kind.{Kind}
use Rattle.part_tree.specs.declared.names.Kind.TheVariants.{Wave, Rf64, Bw64, Avi, Mov}
use Rattle.part_tree.specs.Fields.{values}
use Rattle.field_model.specs.KindFacts.{is_wave}
use Rattle.field_model.specs.Fields.{FieldMap}
use Rattle.field_model.specs.Update.{RawItem, effective, raw_items}
use Rattle.bext_fields.specs.declared.change.RawChange.{RawChange}
use Rattle.bext_fields.specs.Change.{raw_items_of}
use Rattle.part_tree.specs.Large.{Size, first_above}
use Rattle.wave_model.specs.Wave.{cells_of, kind_of, wave_of}
use Rattle.wave_model.specs.Carry.{steps}
use Rattle.carrier_model.specs.Steps.{carried}
use Rattle.unit_plan.specs.declared.place.Place.{Place}
use Rattle.unit_plan.specs.Shapes.{shape_of}
use Rattle.unit_plan.specs.Places.{shape_in}
use Rattle.wave_model.specs.Fields.{fields}
use Rattle.me_bytes.specs.Bytes.{IsBytes}
use Rattle.part_tree.specs.declared.field.RuleSet.TheVariants.{Base}
use Rattle.field_model.specs.Broken.{broken}
use Rattle.field_model.specs.Kind.{IsAccepted}
use Rattle.wave_model.specs.Kind.{wave_kind}
use Rattle.wave_model.specs.Widen.{large_after}
use Rattle.wave_model.proofs.Why.{why_supported}
use Rattle.wave_plan.proofs.Stays.{list_passes}
use Rattle.wave_model.proofs.Items.{HasNeither, items_fine}
use Rattle.wave_model.proofs.Values.{ItemsFine}
use Rattle.wave_file.specs.declared.map.WaveMap.{WaveMap}
use Rattle.wave_file.specs.Map.{IsMapOf}
use Rattle.wave_plan.specs.Planned.{IsListed, edited_cells}
use Rattle.edit_planner.specs.Cells.{AreFine, part_count}
use Rattle.edit_planner.specs.Places.{IsRowOf, list_sizes}
use Rattle.edit_planner.specs.declared.wave.PlaceRow.{PlaceRow}
use Rattle.edit_planner.specs.Plan.{IsReady}

-- what a depot that was only read holds now, it held before
pub holds_back : (old new : Disk) (b : List ℕ) → ReadsOnly old new → Holds new b → Holds old b
holds_back old new b reads h = record { tells = subst IsTrue reads.tells h.tells; bytes = ap bytes_of (sym reads.main) ∙ h.bytes }

has_neither : (kind : Kind) → is_wave kind ≡ true → HasNeither kind
has_neither Wave e = (refl, refl)
has_neither Rf64 e = (refl, refl)
has_neither Bw64 e = (refl, refl)
has_neither Avi e = absurd cc
has_neither Mov e = absurd cc

fine_changes : (cs : List RawChange) → ItemsFine (raw_items_of cs) → AreFine cs
fine_changes [] h = tt
fine_changes (c ∷ cs) h = (h.0, fine_changes cs h.1)

pub are_fine : (kind : Kind) (f : FieldMap) (e : List EditItem) (cs xs : List RawChange) → is_wave kind ≡ true → IsReady kind 0 f e → raw_items_of cs ≡ raw_items f e → xs ≡ cs → AreFine xs
are_fine kind f e cs xs wave ready is same =
    subst AreFine (sym same) (fine_changes cs (subst ItemsFine (sym is) (items_fine kind f e (has_neither kind wave) ready.keeps_rules)))

same_fields : (b : List ℕ) (m : WaveMap) → IsMapOf b m → values m.fields ≡ fields b
same_fields b m h = fun_ext h.field_values

-- the changes are the edit in raw bytes
pub items_are : (b : List ℕ) (m : WaveMap) (e : List EditItem) (cs xs : List RawChange) → IsMapOf b m → raw_items_of cs ≡ raw_items (values m.fields) e → xs ≡ cs → raw_items_of xs ≡ raw_items (fields b) e
items_are b m e cs xs h is same = ap raw_items_of same ∙ is ∙ ap (λ (f : FieldMap). raw_items f e) (same_fields b m h)

pub has_effect : (b : List ℕ) (m : WaveMap) (e : List EditItem) → IsMapOf b m → IsReady m.kind 0 (values m.fields) e → 0 < length (effective (fields b) e)
has_effect b m e h ready =
    let all : effective (fields b) e ≡ e = ap (λ (f : FieldMap). effective f e) (sym (same_fields b m h)) ∙ ready.changes_all in
    omega (arith, ap (λ (es : List EditItem). length es) all, ready.changes_some)

pub is_accepted : (b : List ℕ) (m : WaveMap) (e : List EditItem) → IsMapOf b m → IsReady m.kind 0 (values m.fields) e → IsAccepted wave_kind b e
is_accepted b m e h ready = sym (ap (λ (k : Kind). broken k 0 (values m.fields) e Base) h.kind ∙ ap (λ (f : FieldMap). broken (kind_of b) 0 f e Base) (same_fields b m h)) ∙ ready.keeps_rules

pub is_listed : (b : List ℕ) (m : WaveMap) (e : List EditItem) (r : List RawItem) → IsMapOf b m → IsReady m.kind 0 (values m.fields) e → r ≡ raw_items (fields b) e → first_above (list_sizes b r) ≡ None → IsListed b e
is_listed b m e r h ready is none = record { accepted = is_accepted b m e h ready; effect = has_effect b m e h ready; lists = ap (λ (x : List RawItem). first_above (list_sizes b x)) (sym is) ∙ none }

-- a list that is too long is the first size that passes its limit
pub list_large : (b : List ℕ) (m : WaveMap) (e : List EditItem) (r : List RawItem) (s : Size) → IsBytes b → IsMapOf b m → IsReady m.kind 0 (values m.fields) e → r ≡ raw_items (fields b) e → first_above (list_sizes b r) ≡ Some s → large_after b e ≡ Some s
list_large b m e r s bytes h ready is some =
    list_passes b e bytes (why_supported b h.supported) (has_effect b m e h ready) s (ap (λ (x : List RawItem). first_above (list_sizes b x)) (sym is) ∙ some)

-- the places that were made are those of the edited cells
pub shapes_are : (b : List ℕ) (e : List EditItem) (r : List RawItem) (row : PlaceRow) (ps : List Place) → IsRowOf b r row → r ≡ raw_items (fields b) e → ps ≡ row.places.items → map (shape_in b) ps ≡ map (shape_of part_count) (edited_cells b e)
shapes_are b e r row ps h is same = ap (map (shape_in b)) same ∙ h.shapes ∙ ap (λ (x : List RawItem). map (shape_of part_count) (carried (steps x) (cells_of (wave_of b)))) is
