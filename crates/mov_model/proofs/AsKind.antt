-- Movies have the laws of a kind of files.
use Rattle.std.proofs.Common.{◌≡◌, ℕ, ◌≤◌, ◌^◌, Bool, true, false, cond, List, [], ◌∷◌, length, map, None, refl, sym, ap, subst, ◌∙◌, arith, inl, inr}
use Rattle.std.specs.Prelude.{◌⊎◌, ◌-◌}
use Rattle.std.specs.List.{AllByRecursion, filter_map}
use Rattle.part_tree.specs.Keys.{is_key_name}
use Rattle.field_model.specs.Fields.{plain}
use Rattle.field_model.specs.Lawful.{HasKeyHead, IsLawful}
use Rattle.container_model.specs.Chunk.{Chunk}
use Rattle.mov_model.specs.Keys.{is_meta, table_in}
use Rattle.mov_model.specs.Parts.{first_of, parts}
use Rattle.mov_model.proofs.Again.{kids, kids_bytes}
use Rattle.mov_model.proofs.Carry.{first_all}
use Rattle.mov_model.proofs.Clauses.{all_solids}
use Rattle.mov_model.proofs.Fits.{values_of_key}
use Rattle.mov_model.proofs.Keys.{Long, first_table_is, table_among, table_well, values_long}
use Rattle.mov_model.proofs.Parts.{always}
use Rattle.qt_keys.specs.Set.{key_values}
use Rattle.qt_keys.specs.declared.table.KeyTable.{KeyTable}
use Rattle.me_bytes.specs.Bytes.{IsBytes}
use Rattle.part_tree.specs.Large.{first_above}
use Rattle.part_tree.specs.declared.field.EditItem.{EditItem}
use Rattle.part_tree.specs.declared.field.RuleSet.TheVariants.{Base}
use Rattle.part_tree.specs.declared.names.Kind.TheVariants.{Mov}
use Rattle.field_model.specs.Broken.{broken}
use Rattle.field_model.specs.Fields.{FieldMap}
use Rattle.field_model.specs.Kind.{Edited, IsKind, MakeInPlace, SameEdit}
use Rattle.field_model.specs.Update.{effective, has_effect, raw_item}
use Rattle.mov_model.specs.Carried.{Changes}
use Rattle.mov_model.specs.Edited.{changed_by, changes, fields, new_file}
use Rattle.mov_model.specs.Kind.{narrow_kind}
use Rattle.mov_model.specs.Large.{all_sizes, large_by, too_large}
use Rattle.mov_model.specs.Movie.{movie_of}
use Rattle.mov_model.specs.New.{edited_file}
use Rattle.mov_model.specs.Room.{has_room, patches, patches_of, room_of}
use Rattle.mov_model.specs.Support.{Supported}
use Rattle.mov_model.proofs.Edited.{new_nothing, none_done}
use Rattle.mov_model.proofs.Fields.{read_back}
use Rattle.mov_model.proofs.InPlace.{patches_law}
use Rattle.mov_model.proofs.Large.{length_law, whole_law}
use Rattle.mov_model.proofs.Order.{patches_sound, patches_three}
use Rattle.mov_model.proofs.Rules.{items_give}
use Rattle.mov_model.proofs.Why.{none_supported, supported_none}

-- ---- an edit without effect

pub no_changes : (o : List ℕ) (e : List EditItem) → effective (fields o) e ≡ [] → changes o e ≡ none_done
no_changes o e none = ap (λ (items : List EditItem). changed_by (filter_map raw_item items)) none

idle_file : (o : List ℕ) (e : List EditItem) → IsBytes o → Supported o → effective (fields o) e ≡ [] → new_file o e ≡ o
idle_file o e bytes s none = ap (edited_file o) (no_changes o e none) ∙ new_nothing o bytes s.readable

idle_size : (o : List ℕ) (e : List EditItem) → effective (fields o) e ≡ [] → too_large o e ≡ None
idle_size o e none = ap (large_by (movie_of o) (changes o e)) none

-- what is tested where an item has an effect
tested : (o : List ℕ) (e : List EditItem) → too_large o e ≡ None → (effective (fields o) e ≡ []) ⊎ (first_above (all_sizes (movie_of o) (changes o e)) ≡ None)
tested o e small = go (effective (fields o) e) refl
  where
    go : (x : List EditItem) → effective (fields o) e ≡ x → (effective (fields o) e ≡ []) ⊎ (first_above (all_sizes (movie_of o) (changes o e)) ≡ None)
    go [] d = inl d
    go (i ∷ is) d = inr (subst (λ (x : List EditItem). large_by (movie_of o) (changes o e) x ≡ None) d small)

-- ---- the law of the edited file

edited : (o : List ℕ) (e : List EditItem) → IsBytes o → Supported o → broken Mov 0 (fields o) e Base ≡ None → too_large o e ≡ None → Edited narrow_kind o e (new_file o e)
edited o e bytes s rules small =
    let g = items_give (fields o) e rules in
    let by = whole_law o (changes o e) bytes s g.1 (either (tested o e small)) in
    record {
      supported = supported_none (new_file o e) by.supported;
      reads_back = λ name h. read_back o (new_file o e) e g.0 by.users_back by.keys_back name h;
      kept_in_order = by.kept_in_order;
      same_pieces = by.same_pieces;
      also = tt;
      no_effect = λ none. idle_file o e bytes s none;
    }
  where
    either : (effective (fields o) e ≡ []) ⊎ (first_above (all_sizes (movie_of o) (changes o e)) ≡ None) → (changes o e ≡ none_done) ⊎ (first_above (all_sizes (movie_of o) (changes o e)) ≡ None)
    either (inl none) = inl (no_changes o e none)
    either (inr all) = inr all

pub in_place : (o : List ℕ) (e : List EditItem) → IsBytes o → Supported o → has_room o e ≡ true → MakeInPlace o (new_file o e) (patches o e)
in_place o e bytes s room =
    record { makes = sym (patches_law o e bytes s.readable room); sound = patches_sound o e bytes s.readable room; few = omega (arith, patches_three o e bytes s.readable) }

no_larger : (o : List ℕ) (e : List EditItem) → too_large o e ≡ None → (effective (fields o) e ≡ []) ⊎ (length (new_file o e) ≤ 2 ^ 63 - 1)
no_larger o e small = go (tested o e small)
  where
    go : (effective (fields o) e ≡ []) ⊎ (first_above (all_sizes (movie_of o) (changes o e)) ≡ None) → (effective (fields o) e ≡ []) ⊎ (length (new_file o e) ≤ 2 ^ 63 - 1)
    go (inl none) = inl none
    go (inr all) = inr (length_law o (changes o e) all)

-- ---- edits that come to the same

pub all_effective : (f : FieldMap) (e : List EditItem) → effective f (effective f e) ≡ effective f e
all_effective f [] = refl
all_effective f (i ∷ e) = go (has_effect f i) refl (all_effective f e)
  where
    go : (t : Bool) → has_effect f i ≡ t → effective f (effective f e) ≡ effective f e → effective f (cond t (i ∷ effective f e) (effective f e)) ≡ cond t (i ∷ effective f e) (effective f e)
    go false h again = again
    go true h again = ap (λ (t : Bool). cond t (i ∷ effective f (effective f e)) (effective f (effective f e))) h ∙ ap (λ (x : List EditItem). i ∷ x) again

same_edit : (o : List ℕ) (e all : List EditItem) → e ≡ effective (fields o) all → SameEdit narrow_kind o e all
same_edit o e all is =
    let f = fields o in
    let same : effective f e ≡ effective f all = ap (effective f) is ∙ all_effective f all in
    let changed : changes o e ≡ changes o all = ap (λ (x : List EditItem). changed_by (filter_map raw_item x)) same in
    record {
      same_file = ap (edited_file o) changed;
      same_size = ap (large_by (movie_of o) (changes o e)) same ∙ ap (λ (c : Changes). large_by (movie_of o) c (effective f all)) changed;
      same_room = ap (room_of (movie_of o)) changed;
      same_patches = ap (patches_of (movie_of o)) changed;
    }

-- ---- lawful fields

first_long : (cs : List Chunk) (name : List ℕ) → AllByRecursion (λ c. is_meta c ≡ true) cs → AllByRecursion (λ c. IsBytes c.body) cs → AllByRecursion Long (key_values name (table_among cs))
first_long [] name m b = tt
first_long (c ∷ cs) name m b = values_long name (table_in c) (table_well c m.0 b.0)

long_plain : (vs : List (List ℕ)) → AllByRecursion Long vs → AllByRecursion HasKeyHead (map plain vs)
long_plain [] h = tt
long_plain (v ∷ vs) h = (h.0, long_plain vs h.1)

pub lawful : (o : List ℕ) → IsBytes o → Supported o → IsLawful (fields o)
lawful o bytes s = record { bext = inr (λ field. refl); keys = λ name. go name (is_key_name name) }
  where
    long : (name : List ℕ) → AllByRecursion Long (values_of_key o name)
    long name =
        let cs = parts (movie_of o) in
        let all = all_solids (λ c. IsBytes c.body) (λ c b. b) (kids o bytes s.readable) (kids_bytes o bytes s.readable) in
        subst (λ (t : KeyTable). AllByRecursion Long (key_values name t)) (sym (first_table_is cs)) (first_long (first_of is_meta cs) name (always is_meta cs) (first_all is_meta (λ c. IsBytes c.body) (λ c. IsBytes c.body) (λ c m b. b) cs all))

    go : (name : List ℕ) (t : Bool) → AllByRecursion HasKeyHead (cond t (map plain (values_of_key o name)) [])
    go name true = long_plain (values_of_key o name) (long name)
    go name false = tt

-- ---- the laws

pub is_kind : IsKind narrow_kind
is_kind = record {
  edited = λ o e bytes w rules small. edited o e bytes (none_supported o w) rules small;
  idle = λ o e bytes w none. (idle_file o e bytes (none_supported o w) none, idle_size o e none);
  in_place = λ o e bytes w small room. in_place o e bytes (none_supported o w) room;
  no_larger = λ o e bytes w small. no_larger o e small;
  by_effect = λ o e all is. same_edit o e all is;
  lawful = λ o bytes w. lawful o bytes (none_supported o w);
}
