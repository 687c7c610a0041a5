-- An edit of a movie, by the map of the file.
use Rattle.std.proofs.Common.{◌≡◌, ◌∙◌, ℕ, ◌+◌, ◌<◌, ◌≤◌, ◌^◌, Bool, true, false, cond, List, [], ◌∷◌, ◌++◌, length, map, Some, None, refl, sym, ap, subst, arith, append_assoc, append-nil}
use Rattle.std.proofs.Math.Path.{fun_ext}
use Rattle.std.specs.List.{AllByRecursion}
use Rattle.me_bytes.specs.Bytes.{IsBytes}
use Rattle.part_tree.specs.Fields.{values}
use Rattle.part_tree.specs.Large.{Size, first_above, is_above, limited}
use Rattle.part_tree.specs.declared.field.EditItem.{EditItem}
use Rattle.part_tree.specs.declared.field.RuleSet.TheVariants.{Base}
use Rattle.part_tree.specs.declared.names.Kind.TheVariants.{Mov}
use Rattle.part_tree.specs.declared.field.Value.{Value}
use Rattle.part_tree.specs.declared.plan.PlanFault.{PlanFault}
use Rattle.part_tree.specs.declared.plan.PlanFault.TheVariants.{TooLarge, Depot, Memory}
use Rattle.std.specs.declared.result.Result.TheVariants.{Err}
use Rattle.field_model.specs.Broken.{broken}
use Rattle.field_model.specs.Fields.{FieldMap}
use Rattle.field_model.specs.KindReads.{Declines}
use Rattle.field_model.specs.Update.{effective, raw_items}
use Rattle.bext_fields.specs.Change.{raw_items_of}
use Rattle.bext_fields.specs.declared.change.RawChange.{RawChange}
use Rattle.container_model.specs.Atoms.{atoms_in}
use Rattle.container_model.specs.Chunk.{Chunk, spell, spell_all}
use Rattle.container_model.specs.Items.{Item}
use Rattle.mov_file.specs.Map.{IsMapOf}
use Rattle.mov_file.specs.declared.map.MovMap.{MovMap}
use Rattle.mov_model.specs.After.{large_after, large_after_by, sizes_by, widens}
use Rattle.mov_model.specs.Carried.{Changes}
use Rattle.mov_model.specs.Edited.{changed_by, changes, fields}
use Rattle.mov_model.specs.Kind.{mov_kind}
use Rattle.mov_model.specs.Large.{key_sizes, table_sizes, user_sizes}
use Rattle.mov_model.specs.Movie.{Movie, movie_of, spell_movie}
use Rattle.mov_model.specs.New.{new_movie}
use Rattle.mov_model.specs.Reading.{count_parts, inside_at}
use Rattle.mov_model.specs.Support.{Supported}
use Rattle.mov_model.specs.Widen.{growth}
use Rattle.mov_model.proofs.Fits.{CanSet}
use Rattle.mov_model.proofs.Rules.{items_give}
use Rattle.mov_model.proofs.WideSizes.{wide_sizes_pass}
use Rattle.mov_model.proofs.Why.{none_supported}
use Rattle.mov_plan.specs.Carry.{IsKeyStep, IsUserStep, Tell, carried_by, cells_of}
use Rattle.mov_plan.specs.Edits.{edited_cells}
use Rattle.mov_plan.specs.Keyed as keyed
use Rattle.mov_plan.specs.Places.{shape_in}
use Rattle.mov_plan.specs.Planned.{IsCarried}
use Rattle.mov_plan.specs.Shapes.{shapes}
use Rattle.mov_plan.specs.Users as users
use Rattle.mov_plan.specs.declared.carry.Carry.{Carry}
use Rattle.mov_plan.specs.declared.keys.KeyChange.{KeyChange}
use Rattle.mov_plan.specs.declared.place.Place.{Place}
use Rattle.mov_plan.specs.declared.user.UserChange.{UserChange}
use Rattle.mov_plan.proofs.Carrying.{carry_tells, told}
use Rattle.qt_keys.specs.Set.{IsKeyValue}
use Rattle.qt_text.specs.User.{IsUserValue}
use Rattle.edit_planner.specs.Movie.{CarriesEdit}
use Rattle.edit_planner.specs.Plan.{IsReady}

same_fields : (b : List ℕ) (m : MovMap) → IsMapOf b m → values m.fields ≡ fields b
same_fields b m h = fun_ext h.field_values

-- the changes are the edit of the two carriers
pub changes_are : (b : List ℕ) (m : MovMap) (e : List EditItem) (cs xs : List RawChange) → IsMapOf b m → raw_items_of cs ≡ raw_items (values m.fields) e → xs ≡ cs → changed_by (raw_items_of xs) ≡ changes b e
changes_are b m e cs xs h is same = ap changed_by (ap raw_items_of same ∙ is ∙ ap (λ (f : FieldMap). raw_items f e) (same_fields b m h))

can_set : (f : FieldMap) (e : List EditItem) (cs xs : List RawChange) → IsReady Mov 0 f e → raw_items_of cs ≡ raw_items f e → xs ≡ cs → CanSet (changed_by (raw_items_of xs))
can_set f e cs xs ready is same = subst (λ (rs : List Rattle.field_model.specs.Update.RawItem). CanSet (changed_by rs)) (sym (ap raw_items_of same ∙ is)) (items_give f e ready.keeps_rules).1

pub users_fit : (f : FieldMap) (e : List EditItem) (cs xs : List RawChange) → IsReady Mov 0 f e → raw_items_of cs ≡ raw_items f e → xs ≡ cs → AllByRecursion (λ i. IsUserValue i.name i.value) (changed_by (raw_items_of xs)).users
users_fit f e cs xs ready is same = (can_set f e cs xs ready is same).users

pub keys_fit : (f : FieldMap) (e : List EditItem) (cs xs : List RawChange) → IsReady Mov 0 f e → raw_items_of cs ≡ raw_items f e → xs ≡ cs → AllByRecursion (λ i. IsKeyValue i.value) (changed_by (raw_items_of xs)).keys
keys_fit f e cs xs ready is same = (can_set f e cs xs ready is same).keys

has_effect : (b : List ℕ) (m : MovMap) (e : List EditItem) → IsMapOf b m → IsReady Mov 0 (values m.fields) e → 0 < length (effective (fields b) e)
has_effect b m e h ready =
    let all : effective (fields b) e ≡ e = ap (λ (f : FieldMap). effective f e) (sym (same_fields b m h)) ∙ ready.changes_all in
    omega (arith, ap (λ (es : List EditItem). length es) all, ready.changes_some)

pub is_carried : (b : List ℕ) (m : MovMap) (e : List EditItem) → IsMapOf b m → IsReady Mov 0 (values m.fields) e
    → first_above (user_sizes (movie_of b) (changes b e).users ++ key_sizes (movie_of b) (changes b e).keys) ≡ None → IsCarried b e
is_carried b m e h ready none = record {
  accepted = sym (ap (λ (f : FieldMap). broken Mov 0 f e Base) (same_fields b m h)) ∙ ready.keeps_rules;
  effect = has_effect b m e h ready;
  carriers = none;
}

-- ---- a carrier that is too large

above_some : (a b : List Size) (x : Size) → first_above a ≡ Some x → first_above (a ++ b) ≡ Some x
above_some [] b x e = absurd cc
above_some (s ∷ a) b x e = go (is_above s) e (above_some a b x)
  where
    go : (t : Bool) → cond t (Some s) (first_above a) ≡ Some x → (first_above a ≡ Some x → first_above (a ++ b) ≡ Some x) → cond t (Some s) (first_above (a ++ b)) ≡ Some x
    go true e again = e
    go false e again = again e

both_some : (us ks rest : List Size) (x : Size) → first_above (us ++ ks) ≡ Some x → first_above (us ++ (ks ++ rest)) ≡ Some x
both_some us ks rest x e = ap first_above (sym (append_assoc us ks rest)) ∙ above_some (us ++ ks) rest x e

module _ (b : List ℕ) (bytes : IsBytes b) (sup : Supported b) (low : length b < 2 ^ 63) (c : Changes) (s : Size) (some : first_above (user_sizes (movie_of b) c.users ++ key_sizes (movie_of b) c.keys) ≡ Some s) where
  abbrev m : Movie
  m = movie_of b

  sizes_pass : (t : Bool) → first_above (sizes_by b c t) ≡ Some s
  sizes_pass false =
      let rest = limited 65536 (count_parts (new_movie m c)) ∷ (limited (2 ^ 26) (length (spell (new_movie m c).movie)) ∷ (limited 9223372036854775807 (length (spell_movie (new_movie m c))) ∷ table_sizes m c)) in
      ap first_above (append-nil (user_sizes m c.users ++ (key_sizes m c.keys ++ rest))) ∙ both_some (user_sizes m c.users) (key_sizes m c.keys) rest s some
  sizes_pass true =
      let rest = limited 65536 (count_parts (new_movie m c)) ∷ (limited (2 ^ 26) (length (spell (new_movie m c).movie) + growth m) ∷ (limited 9223372036854775807 (length (spell_movie (new_movie m c)) + growth m) ∷ [])) in
      wide_sizes_pass b bytes sup.readable sup.small low c ∙ both_some (user_sizes m c.users) (key_sizes m c.keys) rest s some

with_effect : (b : List ℕ) (c : Changes) (t : Bool) (is : List EditItem) → 0 < length is → large_after_by b c t is ≡ first_above (sizes_by b c t)
with_effect b c t [] h = absurd (omega (arith, h))
with_effect b c t (i ∷ is) h = refl

pub declined : (b : List ℕ) (m : MovMap) (e : List EditItem) (fault : PlanFault) → IsBytes b → length b < 2 ^ 63 → IsMapOf b m → IsReady Mov 0 (values m.fields) e → CarriesEdit b (changes b e) (Err fault) → Declines mov_kind b e fault
declined b m e (TooLarge size limit) bytes low h ready large =
    with_effect b (changes b e) (widens b e) (effective (fields b) e) (has_effect b m e h ready)
    ∙ sizes_pass b bytes (none_supported b h.supported) low (changes b e) (limited limit size) large (widens b e)
declined b m e Depot bytes low h ready large = tt
declined b m e Memory bytes low h ready large = tt

-- ---- what can be set

pub set_all : (xs ys : List UserChange) (is : List (Item Value)) → users.changes_of xs ≡ is → ys ≡ xs → AllByRecursion (λ i. IsUserValue i.name i.value) is → AllByRecursion users.CanSet ys
set_all xs ys is e same h = subst (AllByRecursion users.CanSet) (sym same) (go xs (subst (AllByRecursion (λ i. IsUserValue i.name i.value)) (sym e) h))
  where
    go : (xs : List UserChange) → AllByRecursion (λ i. IsUserValue i.name i.value) (users.changes_of xs) → AllByRecursion users.CanSet xs
    go [] h = tt
    go (x ∷ xs) h = (h.0, go xs h.1)

pub put_all : (xs ys : List KeyChange) (is : List (Item (List ℕ))) → keyed.changes_of xs ≡ is → ys ≡ xs → AllByRecursion (λ i. IsKeyValue i.value) is → AllByRecursion keyed.CanPut ys
put_all xs ys is e same h = subst (AllByRecursion keyed.CanPut) (sym same) (go xs (subst (AllByRecursion (λ i. IsKeyValue i.value)) (sym e) h))
  where
    go : (xs : List KeyChange) → AllByRecursion (λ i. IsKeyValue i.value) (keyed.changes_of xs) → AllByRecursion keyed.CanPut xs
    go [] h = tt
    go (x ∷ xs) h = (h.0, go xs h.1)

-- ---- the places after the edit

pub shapes_are : (b : List ℕ) (e : List EditItem) (from : ℕ) (before ps qs : List Place) (user keys : Carry) → Tell b false before (cells_of (movie_of b))
    → IsUserStep (changes b e).users user (cells_of (movie_of b)) → IsKeyStep (changes b e).keys keys (cells_of (movie_of b))
    → ps ≡ carried_by from keys (carried_by from user before) → qs ≡ ps → map (shape_in b) qs ≡ shapes false (edited_cells (movie_of b) (changes b e))
shapes_are b e from before ps qs user keys tell u k is same =
    ap (map (shape_in b)) (same ∙ is)
    ∙ told b false (carried_by from keys (carried_by from user before)) (edited_cells (movie_of b) (changes b e))
    (carry_tells b from (changes b e) before (cells_of (movie_of b)) user keys tell u k)
