-- The first list of fields that is too large is told before all else.
use Rattle.std.proofs.Common.{◌≡◌, ◌∙◌, Bool, true, false, cond, List, [], ◌∷◌, ◌++◌, Option, Some, None, refl, ap}
use Rattle.me_bytes.specs.Bytes.{IsBytes}
use Rattle.part_tree.specs.Large.{Size, first_above}
use Rattle.part_tree.specs.declared.field.EditItem.{EditItem}
use Rattle.field_model.specs.Update.{effective}
use Rattle.container_model.specs.Tests.{first}
use Rattle.avi_model.specs.After.{all_changes, all_fields, checks_after, is_idle, large_after, large_by}
use Rattle.avi_model.specs.Avi.{avi_of}
use Rattle.avi_model.specs.Large.{Check}
use Rattle.avi_model.specs.Named.{cell_of, ends_file, hdrl_named, named}
use Rattle.avi_model.specs.Support.{SupportedNames}
use Rattle.avi_model.proofs.AfterKind.{none_changed}
use Rattle.avi_model.proofs.NamedAlike.{not_info}
use Rattle.avi_model.proofs.NamesSet.{supported_children}
use Rattle.avi_plan.specs.Comes.{list_checks, list_sizes}
use Rattle.avi_plan.proofs.Parted.{lists_told}
use Rattle.avi_plan.proofs.Swapped.{edit_swap, first_swap}

first_front : (xs ys : List Check) (s : Size) → first xs ≡ Some s → first (xs ++ ys) ≡ Some s
first_front [] ys s e = let no : None ≡ Some s = e in absurd cc
first_front (x ∷ xs) ys s e = go x.0 e (λ i. first_front xs ys s i)
  where
    go : (t : Bool) → cond t (Some x.1) (first xs) ≡ Some s → (first xs ≡ Some s → first (xs ++ ys) ≡ Some s) → cond t (Some x.1) (first (xs ++ ys)) ≡ Some s
    go true e again = e
    go false e again = again e

pub list_passes : (b : List Rattle.std.proofs.Common.ℕ) (e : List EditItem) → IsBytes b → SupportedNames b → is_idle (all_changes b e) ≡ false → (s : Size) → first_above (list_sizes b e) ≡ Some s → large_after b e ≡ Some s
list_passes b e bytes sup effect s above =
    let a = avi_of b in
    let c = all_changes b e in
    let f = first_swap c.names (ends_file a) 12 12 a.children (supported_children b bytes sup.file) sup.file.some_hdrl in
    let k = hdrl_named c.names f.ends f.hdrl in
    let swap = edit_swap f.hdrl k (not_info f.hdrl f.typed) (not_info k f.typed_new) f.met f.met_new c.infos f.front (Rattle.std.proofs.Common.map cell_of a.children) (Rattle.std.proofs.Common.map cell_of (named a c.names).children) f.swap in
    large_is (effective (all_fields b) e) refl
    ∙ first_front (list_checks b c) _ s
    (lists_told b bytes sup.file c f.hdrl k f.front (not_info f.hdrl f.typed) (not_info k f.typed_new) swap ∙ above)
  where
    large_is : (x : List EditItem) → effective (all_fields b) e ≡ x → large_by x b (all_changes b e) ≡ first (checks_after b (all_changes b e))
    large_is [] d = let yes : is_idle (all_changes b e) ≡ true = ap is_idle (none_changed b e d) in absurd cc
    large_is (i ∷ is) d = refl
