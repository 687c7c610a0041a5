-- AVI files have the laws of a kind of files.
use Rattle.std.proofs.Common.{◌≡◌, ℕ, ◌≤◌, ◌^◌, Bool, true, false, cond, List, [], ◌∷◌, length, None, refl, sym, ap, subst, ◌∙◌, arith, inl, inr}
use Rattle.std.specs.Prelude.{◌⊎◌, ◌-◌}
use Rattle.std.specs.List.{filter_map}
use Rattle.me_bytes.specs.Bytes.{IsBytes}
use Rattle.part_tree.specs.declared.field.EditItem.{EditItem}
use Rattle.part_tree.specs.declared.field.RuleSet.TheVariants.{Base}
use Rattle.part_tree.specs.declared.names.Kind.TheVariants.{Avi}
use Rattle.field_model.specs.Broken.{broken}
use Rattle.field_model.specs.Fields.{FieldMap}
use Rattle.field_model.specs.Kind.{Edited, MakeInPlace, SameEdit, IsKind}
use Rattle.field_model.specs.Update.{has_effect, effective, raw_item}
use Rattle.container_model.specs.Splice.{shift}
use Rattle.container_model.specs.Tests.{first}
use Rattle.carrier_model.specs.Info.{SetsInfo}
use Rattle.carrier_model.specs.RiffForm.{form_room}
use Rattle.opendml_index.specs.Index.{move}
use Rattle.avi_model.specs.Avi.{avi_of, inner}
use Rattle.avi_model.specs.Edited.{fields, changes, info_edit, new_file}
use Rattle.avi_model.specs.Index.{renumbered}
use Rattle.avi_model.specs.Kind.{listed_kind}
use Rattle.avi_model.specs.Large.{too_large, too_large_by, all_checks, new_avi}
use Rattle.avi_model.specs.NewFile.{Items, edit_cuts, new_cells, laid, edited_file}
use Rattle.avi_model.specs.Named.{riff_of}
use Rattle.avi_model.specs.Room.{has_room, patches_by, patches, Room}
use Rattle.avi_model.specs.Support.{Supported, parts}
use Rattle.avi_model.proofs.Edited.{EditedBy, nothing_done, items_law, read_back}
use Rattle.avi_model.proofs.Exact.{exact}
use Rattle.avi_model.proofs.Few.{few_patches}
use Rattle.avi_model.proofs.Fit.{fits_of, file_fits}
use Rattle.avi_model.proofs.InPlace.{edit_stays, patches_make}
use Rattle.avi_model.proofs.OneSplice.{one_splice}
use Rattle.avi_model.specs.Splices.{IsOneSplice}
use Rattle.avi_model.proofs.Rules.{items_give}
use Rattle.avi_model.proofs.Sound.{ended}

-- ---- an edit without effect

no_changes : (o : List ℕ) (e : List EditItem) → effective (fields o) e ≡ [] → changes o e ≡ []
no_changes o e none = ap (λ (items : List EditItem). info_edit (filter_map raw_item items)) none

idle_file : (o : List ℕ) (e : List EditItem) → effective (fields o) e ≡ [] → new_file o e ≡ o
idle_file o e none = ap (λ (x : Items). edited_file o x) (no_changes o e none)

idle_size : (o : List ℕ) (e : List EditItem) → effective (fields o) e ≡ [] → too_large o e ≡ None
idle_size o e none = ap (λ (x : List EditItem). too_large_by x o (changes o e)) none

-- ---- what is checked where something changes

checked : (o : List ℕ) (e : List EditItem) → too_large o e ≡ None → (effective (fields o) e ≡ []) ⊎ (first (all_checks o (changes o e)) ≡ None)
checked o e small = go (effective (fields o) e) refl
  where
    go : (x : List EditItem) → effective (fields o) e ≡ x → (effective (fields o) e ≡ []) ⊎ (first (all_checks o (changes o e)) ≡ None)
    go [] d = inl d
    go (i ∷ is) d = inr (subst (λ (x : List EditItem). too_large_by x o (changes o e) ≡ None) d small)

-- ---- the patches

few_of : (o : List ℕ) (e : List EditItem) → IsBytes o → Supported o → Room o e → (x : Items) → changes o e ≡ x → first (all_checks o x) ≡ None → length (patches_by (avi_of o) x) ≤ 65536
few_of o e bytes s room [] d small = omega arith
few_of o e bytes s room (i ∷ t) d small =
    let fit = fits_of o i t small in
    let a = avi_of o in
    let still : renumbered (move (shift (edit_cuts a (i ∷ t)))) o ≡ o = subst (λ (x : Items). renumbered (move (shift (edit_cuts a x))) o ≡ o) d (edit_stays o bytes s e room) in
    let same : parts (new_avi o (i ∷ t)) ≡ parts (laid a (i ∷ t)) = ap (λ (b : List ℕ). parts (laid (avi_of b) (i ∷ t))) still in
    omega (arith, few_patches a (i ∷ t) (ended o bytes s).readable.pads s.some_hdrl s.some_movi, fit.few_parts, same)

in_place : (o : List ℕ) (e : List EditItem) → IsBytes o → Supported o → too_large o e ≡ None → has_room o e ≡ true → MakeInPlace o (new_file o e) (patches o e)
in_place o e bytes s small room =
    let done = patches_make o bytes s e room in
    record { makes = done.0; sound = done.1; few = few (checked o e small) }
  where
    few : (effective (fields o) e ≡ []) ⊎ (first (all_checks o (changes o e)) ≡ None) → length (patches o e) ≤ 65536
    few (inl none) = let no = ap (λ (x : Items). length (patches_by (avi_of o) x)) (no_changes o e none) in omega (arith, no)
    few (inr all) = few_of o e bytes s room (changes o e) refl all

-- ---- the law of the edited file

edited : (o : List ℕ) (e : List EditItem) → IsBytes o → Supported o → broken Avi 0 (fields o) e Base ≡ None → too_large o e ≡ None → Edited listed_kind o e (new_file o e)
edited o e bytes s rules small =
    let by = done (changes o e) (items_give (fields o) e rules).1 (checks (checked o e small)) in
    record {
      supported = (exact (new_file o e)).1 by.supported;
      reads_back = λ name h. read_back o (new_file o e) e rules by.values name h;
      kept_in_order = by.kept_in_order;
      same_pieces = by.same_pieces;
      also = tt;
      no_effect = λ none. idle_file o e none;
    }
  where
    checks : (effective (fields o) e ≡ []) ⊎ (first (all_checks o (changes o e)) ≡ None) → (changes o e ≡ []) ⊎ (first (all_checks o (changes o e)) ≡ None)
    checks (inl none) = inl (no_changes o e none)
    checks (inr all) = inr all

    done : (x : Items) → SetsInfo x → (x ≡ []) ⊎ (first (all_checks o x) ≡ None) → EditedBy o x (edited_file o x)
    done x sets (inl none) = subst (λ (y : Items). EditedBy o y (edited_file o y)) (sym none) (nothing_done o s)
    done x sets (inr all) = items_law o x bytes s sets all

pub all_effective : (f : FieldMap) (e : List EditItem) → effective f (effective f e) ≡ effective f e
all_effective f [] = refl
all_effective f (i ∷ e) = go (has_effect f i) refl (all_effective f e)
  where
    go : (t : Bool) → has_effect f i ≡ t → effective f (effective f e) ≡ effective f e → effective f (cond t (i ∷ effective f e) (effective f e)) ≡ cond t (i ∷ effective f e) (effective f e)
    go false h again = again
    go true h again = ap (λ (t : Bool). cond t (i ∷ effective f (effective f e)) (effective f (effective f e))) h ∙ ap (λ (x : List EditItem). i ∷ x) again

-- ---- edits that come to the same

same_edit : (o : List ℕ) (e all : List EditItem) → e ≡ effective (fields o) all → SameEdit listed_kind o e all
same_edit o e all is =
    let f = fields o in
    let same : effective f e ≡ effective f all = ap (effective f) is ∙ all_effective f all in
    let changed : changes o e ≡ changes o all = ap (λ (x : List EditItem). info_edit (filter_map raw_item x)) same in
    record {
      same_file = ap (λ (x : Items). edited_file o x) changed;
      same_size = ap (λ (x : List EditItem). too_large_by x o (changes o e)) same ∙ ap (λ (x : Items). too_large_by (effective f all) o x) changed;
      same_room = ap (λ (x : Items). form_room (riff_of (avi_of o)) (new_cells (avi_of o) x)) changed;
      same_patches = ap (λ (x : Items). patches_by (avi_of o) x) changed;
    }

-- ---- the laws

no_larger : (o : List ℕ) (e : List EditItem) → too_large o e ≡ None → (effective (fields o) e ≡ []) ⊎ (length (new_file o e) ≤ 2 ^ 63 - 1)
no_larger o e small = go (checked o e small)
  where
    go : (effective (fields o) e ≡ []) ⊎ (first (all_checks o (changes o e)) ≡ None) → (effective (fields o) e ≡ []) ⊎ (length (new_file o e) ≤ 2 ^ 63 - 1)
    go (inl none) = inl none
    go (inr all) = inr (file_fits o (changes o e) all).0

pub form_no_larger : (o : List ℕ) (e : List EditItem) → too_large o e ≡ None → (effective (fields o) e ≡ []) ⊎ (length (inner (new_avi o (changes o e)).children (new_avi o (changes o e)).left) ≤ 2 ^ 32 - 1)
form_no_larger o e small = go (checked o e small)
  where
    go : (effective (fields o) e ≡ []) ⊎ (first (all_checks o (changes o e)) ≡ None) → (effective (fields o) e ≡ []) ⊎ (length (inner (new_avi o (changes o e)).children (new_avi o (changes o e)).left) ≤ 2 ^ 32 - 1)
    go (inl none) = inl none
    go (inr all) = inr (file_fits o (changes o e) all).1

pub is_kind : IsKind listed_kind
is_kind = record {
  edited = λ o e bytes w rules small. edited o e bytes ((exact o).0 w) rules small;
  idle = λ o e bytes w none. (idle_file o e none, idle_size o e none);
  in_place = λ o e bytes w small room. in_place o e bytes ((exact o).0 w) small room;
  no_larger = λ o e bytes w small. no_larger o e small;
  by_effect = λ o e all is. same_edit o e all is;
  lawful = λ o bytes w. record { bext = inr (λ field. refl); keys = λ name. tt };
}

-- ---- one splice

pub spliced_as_one : (o : List ℕ) (e : List EditItem) → IsBytes o → Supported o → too_large o e ≡ None → (changes o e ≡ []) ⊎ IsOneSplice o (changes o e) (new_file o e)
spliced_as_one o e bytes s small = go (checked o e small)
  where
    go : (effective (fields o) e ≡ []) ⊎ (first (all_checks o (changes o e)) ≡ None) → (changes o e ≡ []) ⊎ IsOneSplice o (changes o e) (new_file o e)
    go (inl none) = inl (no_changes o e none)
    go (inr all) = one_splice o (changes o e) bytes s all
