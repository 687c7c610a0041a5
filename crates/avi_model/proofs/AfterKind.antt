-- What is proved of AVI files whose streams have names as a kind of files: an edit without effect, sizes, edits that come to the same,
-- and what fields can be.
use Rattle.std.proofs.Common.{◌≡◌, ℕ, ◌≤◌, ◌^◌, List, [], ◌∷◌, length, None, refl, ap, subst, ◌∙◌, inl, inr}
use Rattle.std.specs.Prelude.{◌⊎◌, ◌-◌}
use Rattle.std.specs.List.{filter_map}
use Rattle.part_tree.specs.declared.field.EditItem.{EditItem}
use Rattle.field_model.specs.Kind.{SameEdit}
use Rattle.field_model.specs.Lawful.{IsLawful}
use Rattle.field_model.specs.Update.{effective, raw_item}
use Rattle.container_model.specs.Tests.{first}
use Rattle.avi_model.specs.After.{Changes, all_changes, all_fields, avi_after, changed_by, changed_file, checks_after, file_after, goes, large_after, large_by, parts_after, renumbered_avi}
use Rattle.avi_model.specs.Avi.{avi_of}
use Rattle.avi_model.specs.Kind.{avi_kind}
use Rattle.avi_model.specs.RoomAfter.{patches_by, room_by}
use Rattle.avi_model.proofs.AsKind.{all_effective}
use Rattle.avi_model.proofs.Fit.{length_fits}

-- ---- an edit without effect

pub none_changed : (o : List ℕ) (e : List EditItem) → effective (all_fields o) e ≡ [] → all_changes o e ≡ record { infos = []; names = [] }
none_changed o e none = ap (λ (items : List EditItem). changed_by (filter_map raw_item items)) none

pub idle_file : (o : List ℕ) (e : List EditItem) → effective (all_fields o) e ≡ [] → file_after o e ≡ o
idle_file o e none = ap (λ (x : Changes). changed_file o x) (none_changed o e none)

pub idle_size : (o : List ℕ) (e : List EditItem) → effective (all_fields o) e ≡ [] → large_after o e ≡ None
idle_size o e none = ap (λ (x : List EditItem). large_by x o (all_changes o e)) none

-- ---- what is checked where something changes

pub checked : (o : List ℕ) (e : List EditItem) → large_after o e ≡ None → (effective (all_fields o) e ≡ []) ⊎ (first (checks_after o (all_changes o e)) ≡ None)
checked o e small = go (effective (all_fields o) e) refl
  where
    go : (x : List EditItem) → effective (all_fields o) e ≡ x → (effective (all_fields o) e ≡ []) ⊎ (first (checks_after o (all_changes o e)) ≡ None)
    go [] d = inl d
    go (i ∷ is) d = inr (subst (λ (x : List EditItem). large_by x o (all_changes o e) ≡ None) d small)

pub no_larger : (o : List ℕ) (e : List EditItem) → large_after o e ≡ None → (effective (all_fields o) e ≡ []) ⊎ (length (file_after o e) ≤ 2 ^ 63 - 1)
no_larger o e small = go (checked o e small)
  where
    go : (effective (all_fields o) e ≡ []) ⊎ (first (checks_after o (all_changes o e)) ≡ None) → (effective (all_fields o) e ≡ []) ⊎ (length (file_after o e) ≤ 2 ^ 63 - 1)
    go (inl none) = inl none
    go (inr all) = (let c = all_changes o e in inr (length_fits (avi_after o c) (parts_after (renumbered_avi o c) c) (goes (avi_of o) c) o (changed_file o c) all))

-- ---- edits that come to the same

pub same_edit : (o : List ℕ) (e all : List EditItem) → e ≡ effective (all_fields o) all → SameEdit avi_kind o e all
same_edit o e all is =
    let f = all_fields o in
    let same : effective f e ≡ effective f all = ap (effective f) is ∙ all_effective f all in
    let changed : all_changes o e ≡ all_changes o all = ap (λ (x : List EditItem). changed_by (filter_map raw_item x)) same in
    record {
      same_file = ap (λ (x : Changes). changed_file o x) changed;
      same_size = ap (λ (x : List EditItem). large_by x o (all_changes o e)) same ∙ ap (λ (x : Changes). large_by (effective f all) o x) changed;
      same_room = ap (λ (x : Changes). room_by (avi_of o) x) changed;
      same_patches = ap (λ (x : Changes). patches_by (avi_of o) x) changed;
    }

-- ---- what fields can be

pub lawful : (o : List ℕ) → IsLawful (all_fields o)
lawful o = record { bext = inr (λ field. refl); keys = λ name. tt }
