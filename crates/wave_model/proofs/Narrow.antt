-- Where each form keeps its width, WAVE files are a kind of files.
use Rattle.std.proofs.Common.{◌≡◌, ℕ, ◌≤◌, ◌-◌, ◌^◌, true, List, [], length, None, refl, sym, ap, ◌∙◌, inl, inr}
use Rattle.std.specs.Prelude.{◌⊎◌}
use Rattle.part_tree.specs.declared.field.EditItem.{EditItem}
use Rattle.part_tree.specs.declared.field.FieldName.{FieldName}
use Rattle.part_tree.specs.declared.field.RuleSet.TheVariants.{Base}
use Rattle.part_tree.specs.Names.{IsFieldName}
use Rattle.field_model.specs.Broken.{broken}
use Rattle.field_model.specs.Kind.{NamesFields, Edited, MakeInPlace, SameEdit, IsKind}
use Rattle.field_model.specs.Lawful.{IsLawful}
use Rattle.field_model.specs.Update.{RawItem, effective, raw_items, update}
use Rattle.field_model.proofs.Effective.{all_effective, raw_same}
use Rattle.field_model.proofs.Fills.{ranges_lawful}
use Rattle.container_model.proofs.Codec.{IsBytes}
use Rattle.wave_model.specs.Wave.{kind_of, wave_of, spell_wave}
use Rattle.wave_model.specs.Fields.{is_bext, bodies, fields}
use Rattle.wave_model.specs.New.{new_wave, new_file}
use Rattle.wave_model.specs.Large.{too_large, large_by}
use Rattle.wave_model.specs.Room.{has_room, patches_in, patches}
use Rattle.wave_model.specs.Edited.{Supported}
use Rattle.wave_model.specs.Kind.{narrow_kind}
use Rattle.wave_model.proofs.Why.{why_supported, supported_why}
use Rattle.wave_model.proofs.Law.{edited_law, new_idle, small_file}
use Rattle.wave_model.proofs.Names.{whole_map}
use Rattle.wave_model.proofs.Room.{room_law, order_law}
use Rattle.wave_model.proofs.Few.{few_patches}

-- an edit without effect isn't too large
pub idle_small : (o : List ℕ) (e : List EditItem) → effective (fields o) e ≡ [] → too_large o e ≡ None
idle_small o e none = ap (λ (is : List EditItem). large_by is (wave_of o) (raw_items (fields o) e)) none

pub fields_lawful : (o : List ℕ) → Supported o → IsLawful (fields o)
fields_lawful o sup = ranges_lawful (fields o) (bodies is_bext (wave_of o).children) (λ field. refl) sup.children.one_bext sup.children.long_bext (λ name. refl)

-- the patches of an edit that isn't too large make the new file, where it has room
pub narrow_in_place : (o : List ℕ) (e : List EditItem) → IsBytes o → Supported o → too_large o e ≡ None → has_room (wave_of o) (raw_items (fields o) e) ≡ true → MakeInPlace o (new_file o e) (patches o e)
narrow_in_place o e bytes sup small room = record { makes = sym (room_law o e bytes sup room); sound = order_law o e bytes sup room; few = few_patches o bytes sup e small }

pub narrow_edited : (o : List ℕ) (e : List EditItem) → IsBytes o → Supported o → broken (kind_of o) 0 (fields o) e Base ≡ None → too_large o e ≡ None → Edited narrow_kind o e (new_file o e)
narrow_edited o e bytes sup b small =
    let h = edited_law o e bytes sup b small in
    record {
      supported = supported_why (new_file o e) h.supported;
      reads_back = λ name k. read name k;
      kept_in_order = h.kept_in_order;
      same_pieces = h.same_pieces;
      also = h.same_junk;
      no_effect = h.no_effect;
    }
  where
    read : (name : FieldName) → IsFieldName name ⊎ NamesFields e → fields (new_file o e) name ≡ update (fields o) e name
    read name (inl k) = (edited_law o e bytes sup b small).reads_back name k
    read name (inr k) = whole_map o e bytes sup b small k name

narrow_same : (o : List ℕ) (e all : List EditItem) → e ≡ effective (fields o) all → SameEdit narrow_kind o e all
unfolding new_file
narrow_same o e all is =
    let w = wave_of o in
    let raws : raw_items (fields o) e ≡ raw_items (fields o) all = ap (raw_items (fields o)) is ∙ raw_same (fields o) all in
    let effects : effective (fields o) e ≡ effective (fields o) all = ap (effective (fields o)) is ∙ all_effective (fields o) all in
    record {
      same_file = ap (λ (r : List RawItem). spell_wave (new_wave w r)) raws;
      same_size = ap (λ (es : List EditItem). large_by es w (raw_items (fields o) e)) effects ∙ ap (λ (r : List RawItem). large_by (effective (fields o) all) w r) raws;
      same_room = ap (has_room w) raws;
      same_patches = ap (patches_in w) raws;
    }

pub narrow_law : IsKind narrow_kind
narrow_law = record {
  edited = λ o e bytes fine b small. narrow_edited o e bytes (why_supported o fine) b small;
  idle = λ o e bytes fine none. (new_idle o bytes (why_supported o fine) e none, idle_small o e none);
  in_place = λ o e bytes fine small room. narrow_in_place o e bytes (why_supported o fine) small room;
  no_larger = λ o e bytes fine small. length_of o e small;
  by_effect = narrow_same;
  lawful = λ o bytes fine. fields_lawful o (why_supported o fine);
}
  where
    length_of : (o : List ℕ) (e : List EditItem) → too_large o e ≡ None → (effective (fields o) e ≡ []) ⊎ (length (new_file o e) ≤ 2 ^ 63 - 1)
    length_of o e small = go (small_file o e small)
      where
        go : (effective (fields o) e ≡ []) ⊎ ((length (new_file o e) ≤ 2 ^ 63 - 1) × Rattle.wave_model.specs.Large.FormSmall (wave_of o).form (wave_of o).id (Rattle.wave_model.specs.New.new_size_of o e)) → (effective (fields o) e ≡ []) ⊎ (length (new_file o e) ≤ 2 ^ 63 - 1)
        go (inl none) = inl none
        go (inr l) = inr l.0
