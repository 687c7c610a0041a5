-- Movies in their last form have the laws of a kind of files.
use Rattle.std.proofs.Common.{◌≡◌, ℕ, ◌≤◌, ◌<◌, ◌^◌, Bool, true, false, cond, List, [], ◌∷◌, length, map, None, refl, sym, ap, subst, ◌∙◌, arith, inl, inr}
use Rattle.std.specs.Prelude.{not, ◌&&◌, ◌⊎◌, ◌-◌}
use Rattle.std.specs.List.{AllByRecursion, filter_map, flat_map}
use Rattle.std.proofs.lemmas.Bool.{and_parts}
use Rattle.me_bytes.specs.Bytes.{IsBytes}
use Rattle.part_tree.specs.Large.{limited}
use Rattle.part_tree.specs.declared.field.EditItem.{EditItem}
use Rattle.part_tree.specs.declared.field.RuleSet.TheVariants.{Base}
use Rattle.part_tree.specs.declared.field.Value.{Value}
use Rattle.part_tree.specs.declared.names.Kind.TheVariants.{Mov}
use Rattle.field_model.specs.Broken.{broken}
use Rattle.field_model.specs.Kind.{Edited, IsKind, MakeInPlace, SameEdit}
use Rattle.field_model.specs.Update.{effective, raw_item}
use Rattle.carrier_model.specs.Lists.{sets_some}
use Rattle.container_model.specs.Chunk.{Chunk, short}
use Rattle.container_model.specs.Deep.{Token}
use Rattle.container_model.specs.Items.{Item, put_marks, updated}
use Rattle.container_model.specs.Splice.{shift}
use Rattle.mov_model.specs.After.{base_of, file_after, large_after, large_after_by, last_sizes, room_after, sizes_by, wide_sizes, widens, widens_by}
use Rattle.mov_model.specs.Carried.{Changes, fresh}
use Rattle.mov_model.specs.Edited.{changed_by, changes, fields}
use Rattle.mov_model.specs.Keys.{bare, edit_meta, is_meta, new_meta, new_table, with_keys}
use Rattle.mov_model.specs.Kept.{Kept, Node, kept, keyed, new_user, other, placed, placed_keys, placed_users, user}
use Rattle.mov_model.specs.Kind.{mov_kind}
use Rattle.mov_model.specs.Large.{key_sizes, row_sizes, user_sizes}
use Rattle.mov_model.specs.Movie.{Movie, movie_of}
use Rattle.mov_model.specs.New.{edit_cuts, edited_file}
use Rattle.mov_model.specs.Parts.{parts, tracks}
use Rattle.mov_model.specs.Pieces.{pieces}
use Rattle.mov_model.specs.Room.{has_room, patches, patches_of, room_of}
use Rattle.mov_model.specs.Support.{Supported}
use Rattle.mov_model.specs.Tables.{tables}
use Rattle.mov_model.specs.Widen.{past_moov, wide_kept, wide_node, widened_file}
use Rattle.mov_model.proofs.AsKind.{all_effective, in_place, lawful, no_changes}
use Rattle.mov_model.proofs.Cells.{is_user}
use Rattle.mov_model.proofs.Edited.{edited_law, new_nothing, none_done}
use Rattle.mov_model.proofs.Fields.{read_back}
use Rattle.mov_model.proofs.Fits.{CanSet, EditedBy, Fits, user_values, values_of_key}
use Rattle.mov_model.proofs.Large.{carrier_fits, tracks_fit, within, within_both, within_flat, within_map, Within}
use Rattle.mov_model.proofs.Rules.{items_give}
use Rattle.mov_model.proofs.WideLaw.{are_bytes, readable, same_items_of, same_kept, same_pieces, same_table_of}
use Rattle.mov_model.proofs.Why.{none_supported, supported_none}
use Rattle.qt_text.specs.User.{udta, user_items}
use Rattle.sample_tables.specs.Tables.{places}

-- ---- what is kept of a movie with wide tables, after an edit

wide_new_user : (ts : List Token) → map wide_node (new_user ts) ≡ new_user ts
wide_new_user [] = refl
wide_new_user (t ∷ ts) = refl

wide_users : (e : List (Item Value)) (ns : List Node) → placed_users e (map wide_node ns) ≡ map wide_node (placed_users e ns)
wide_users e [] = sym (wide_new_user (put_marks e []))
wide_users e (other ts ∷ ns) = ap (λ (x : List Node). wide_node (other ts) ∷ x) (wide_users e ns)
wide_users e (keyed form t ∷ ns) = ap (λ (x : List Node). keyed form t ∷ x) (wide_users e ns)
wide_users e (user form ts rest ∷ ns) = refl

wide_keys : (e : List (Item (List ℕ))) (ns : List Node) → placed_keys e (map wide_node ns) ≡ map wide_node (placed_keys e ns)
wide_keys e [] = go (sets_some e)
  where
    go : (t : Bool) → cond t (keyed short (bare (with_keys e new_table)) ∷ []) [] ≡ map wide_node (cond t (keyed short (bare (with_keys e new_table)) ∷ []) [])
    go true = refl
    go false = refl
wide_keys e (other ts ∷ ns) = ap (λ (x : List Node). wide_node (other ts) ∷ x) (wide_keys e ns)
wide_keys e (user form ts rest ∷ ns) = ap (λ (x : List Node). user form ts rest ∷ x) (wide_keys e ns)
wide_keys e (keyed form t ∷ ns) = refl

wide_placed : (k : Kept) (e : Changes) → placed (wide_kept k) e ≡ wide_kept (placed k e)
wide_placed k e = ap (λ (ns : List Node). record k { inside = ns }) (ap (placed_keys e.keys) (wide_users e.users k.inside) ∙ wide_keys e.keys (placed_users e.users k.inside))

-- ---- sizes

last_fit : (m : Movie) (e : Changes) → Within (last_sizes m e) → Fits m e
last_fit m e all =
    let a = within_both (user_sizes m e.users) _ all in
    let b = within_both (key_sizes m e.keys) _ a.1 in
    let u = carrier_fits is_user (edit_carrier_of e) (fresh udta (put_all_of e)) (parts m) a.0 in
    let k = carrier_fits is_meta (edit_meta e.keys) (new_meta e.keys) (parts m) b.0 in
    record {
      user_small = u.0;
      fresh_small = u.1;
      keys_small = k.0;
      new_keys_small = k.1;
      movie_small = b.1.1.0;
      rows = tracks_fit (shift (edit_cuts m e)) (tracks m) (within_flat (λ (t : Chunk). flat_map (row_sizes (shift (edit_cuts m e))) (tables t)) (tracks m) b.1.1.1.1);
      few_parts = b.1.0;
    }
  where
    edit_carrier_of : Changes → Chunk → Chunk
    edit_carrier_of e = Rattle.container_model.specs.Items.edit_carrier udta user_items e.users

    put_all_of : Changes → List Chunk
    put_all_of e = Rattle.container_model.specs.Items.put_all user_items e.users []

file_small : (m : Movie) (e : Changes) → Within (last_sizes m e) → length (Rattle.mov_model.specs.Movie.spell_movie (Rattle.mov_model.specs.New.new_movie m e)) ≤ 9223372036854775807
file_small m e all =
    let a = within_both (user_sizes m e.users) _ all in
    let b = within_both (key_sizes m e.keys) _ a.1 in
    b.1.1.1.0

eight_fit : (f : ℕ → ℕ) (ts : List Chunk) → Within (flat_map (λ (t : Chunk). map (λ p. limited 18446744073709551615 (f p)) (places (tables t))) ts) → AllByRecursion (λ t. AllByRecursion (λ p. f p < 2 ^ 64) (places (tables t))) ts
eight_fit f [] h = tt
eight_fit f (t ∷ ts) h =
    let p = within_both (map (λ p. limited 18446744073709551615 (f p)) (places (tables t))) _ h in
    (below (places (tables t)) (within_map (λ p. limited 18446744073709551615 (f p)) (places (tables t)) p.0), eight_fit f ts p.1)
  where
    below : (ps : List ℕ) → AllByRecursion (λ p. f p ≤ 18446744073709551615) ps → AllByRecursion (λ p. f p < 2 ^ 64) ps
    below [] h = tt
    below (p ∷ ps) h = (omega (arith, h.0), below ps h.1)

-- what is tested where an item has an effect
tested : (o : List ℕ) (e : List EditItem) → large_after o e ≡ None → (effective (fields o) e ≡ []) ⊎ Within (sizes_by o (changes o e) (widens o e))
tested o e small = go (effective (fields o) e) refl
  where
    go : (x : List EditItem) → effective (fields o) e ≡ x → (effective (fields o) e ≡ []) ⊎ Within (sizes_by o (changes o e) (widens o e))
    go [] d = inl d
    go (i ∷ is) d = inr (within (sizes_by o (changes o e) (widens o e)) (subst (λ (x : List EditItem). large_after_by o (changes o e) (widens o e) x ≡ None) d small))

-- ---- the file that is edited

-- what the new file is to the old one, by items
record AfterBy (o : List ℕ) (e : Changes) (wide : Bool) (n : List ℕ) : Type 0 where
  supported : Supported n
  users_back : (name : List ℕ) → user_values n name ≡ updated e.users name (user_values o name)
  keys_back : (name : List ℕ) → values_of_key n name ≡ updated e.keys name (values_of_key o name)
  kept_in_order : kept n ≡ cond wide (wide_kept (placed (kept o) e)) (placed (kept o) e)
  same_found : pieces n ≡ pieces o

narrow_by : (o : List ℕ) (e : Changes) (n : List ℕ) → EditedBy o e n → AfterBy o e false n
narrow_by o e n by = record { supported = by.supported; users_back = by.users_back; keys_back = by.keys_back; kept_in_order = by.kept_in_order; same_found = by.same_pieces }

after_law : (o : List ℕ) (e : Changes) (wide : Bool) → IsBytes o → Supported o → CanSet e → Within (sizes_by o e wide) → AfterBy o e wide (edited_file (base_of o wide) e)
after_law o e false bytes s can all = narrow_by o e (edited_file o e) (edited_law o e bytes s.readable can (last_fit (movie_of o) e (within_both (last_sizes (movie_of o) e) [] all).0))
after_law o e true bytes s can all =
    let w = within_both (last_sizes (movie_of (widened_file o)) e) (wide_sizes (movie_of o)) all in
    let eight = eight_fit (past_moov (movie_of o)) (tracks (movie_of o)) w.1 in
    let base = widened_file o in
    let by = edited_law base e (are_bytes o bytes s.readable s.small) (readable o bytes s.readable s.small eight) can (last_fit (movie_of base) e w.0) in
    record {
      supported = by.supported;
      users_back = λ name. by.users_back name ∙ ap (updated e.users name) (same_items_of o bytes s.readable s.small name);
      keys_back = λ name. by.keys_back name ∙ ap (updated e.keys name) (same_table_of o bytes s.readable s.small name);
      kept_in_order = by.kept_in_order ∙ ap (λ (k : Kept). placed k e) (same_kept o bytes s.readable s.small) ∙ wide_placed (kept o) e;
      same_found = by.same_pieces ∙ same_pieces o bytes s.readable s.small eight;
    }

-- ---- an edit without effect

idle_narrow : (o : List ℕ) (e : List EditItem) → effective (fields o) e ≡ [] → widens o e ≡ false
idle_narrow o e none = ap (widens_by (movie_of o) (changes o e)) none

idle_file : (o : List ℕ) (e : List EditItem) → IsBytes o → Supported o → effective (fields o) e ≡ [] → file_after o e ≡ o
idle_file o e bytes s none = ap (λ (t : Bool). edited_file (base_of o t) (changes o e)) (idle_narrow o e none) ∙ ap (edited_file o) (no_changes o e none) ∙ new_nothing o bytes s.readable

idle_size : (o : List ℕ) (e : List EditItem) → effective (fields o) e ≡ [] → large_after o e ≡ None
idle_size o e none = ap (large_after_by o (changes o e) (widens o e)) none

-- without a change all is as it was
same_by : (o : List ℕ) (e : List EditItem) → IsBytes o → Supported o → effective (fields o) e ≡ [] → AfterBy o (changes o e) (widens o e) (file_after o e)
same_by o e bytes s none =
    let c = no_changes o e none in
    subst (λ (n : List ℕ). AfterBy o (changes o e) (widens o e) n) (sym (idle_file o e bytes s none))
    (subst (λ (t : Bool). AfterBy o (changes o e) t o) (sym (idle_narrow o e none)) (subst (λ (x : Changes). AfterBy o x false o) (sym c) (narrow_by o none_done o (Rattle.mov_model.proofs.Large.edited_nothing o s))))

-- ---- the laws

edited : (o : List ℕ) (e : List EditItem) → IsBytes o → Supported o → broken Mov 0 (fields o) e Base ≡ None → large_after o e ≡ None → Edited mov_kind o e (file_after o e)
edited o e bytes s rules small =
    let g = items_give (fields o) e rules in
    let by = either g.1 (tested o e small) in
    record {
      supported = supported_none (file_after o e) by.supported;
      reads_back = λ name h. read_back o (file_after o e) e g.0 by.users_back by.keys_back name h;
      kept_in_order = by.kept_in_order;
      same_pieces = by.same_found;
      also = tt;
      no_effect = λ none. idle_file o e bytes s none;
    }
  where
    either : CanSet (changes o e) → (effective (fields o) e ≡ []) ⊎ Within (sizes_by o (changes o e) (widens o e)) → AfterBy o (changes o e) (widens o e) (file_after o e)
    either can (inl none) = same_by o e bytes s none
    either can (inr all) = after_law o (changes o e) (widens o e) bytes s can all

placed_in_place : (o : List ℕ) (e : List EditItem) → IsBytes o → Supported o → room_after o e ≡ true → MakeInPlace o (file_after o e) (patches o e)
placed_in_place o e bytes s room =
    let p = and_parts (not (widens o e)) (has_room o e) room in
    let narrow = off (widens o e) p.0 in
    subst (λ (t : Bool). MakeInPlace o (edited_file (base_of o t) (changes o e)) (patches o e)) (sym narrow) (in_place o e bytes s p.1)
  where
    off : (t : Bool) → not t ≡ true → t ≡ false
    off true h = absurd cc
    off false h = refl

no_larger : (o : List ℕ) (e : List EditItem) → large_after o e ≡ None → (effective (fields o) e ≡ []) ⊎ (length (file_after o e) ≤ 2 ^ 63 - 1)
unfolding edited_file
no_larger o e small = go (tested o e small)
  where
    go : (effective (fields o) e ≡ []) ⊎ Within (sizes_by o (changes o e) (widens o e)) → (effective (fields o) e ≡ []) ⊎ (length (file_after o e) ≤ 2 ^ 63 - 1)
    go (inl none) = inl none
    go (inr all) =
        let m = movie_of (base_of o (widens o e)) in
        inr (omega (arith, file_small m (changes o e) (within_both (last_sizes m (changes o e)) _ all).0))

same_edit : (o : List ℕ) (e all : List EditItem) → e ≡ effective (fields o) all → SameEdit mov_kind o e all
same_edit o e all is =
    let f = fields o in
    let same : effective f e ≡ effective f all = ap (effective f) is ∙ all_effective f all in
    let changed : changes o e ≡ changes o all = ap (λ (x : List EditItem). changed_by (filter_map raw_item x)) same in
    let wide : widens o e ≡ widens o all = ap (widens_by (movie_of o) (changes o e)) same ∙ ap (λ (c : Changes). widens_by (movie_of o) c (effective f all)) changed in
    record {
      same_file = ap (λ (t : Bool). edited_file (base_of o t) (changes o e)) wide ∙ ap (edited_file (base_of o (widens o all))) changed;
      same_size = ap (large_after_by o (changes o e) (widens o e)) same ∙ ap (λ (c : Changes). large_after_by o c (widens o e) (effective f all)) changed ∙ ap (λ (t : Bool). large_after_by o (changes o all) t (effective f all)) wide;
      same_room = ap (λ (t : Bool). not t && has_room o e) wide ∙ ap (λ (c : Changes). not (widens o all) && room_of (movie_of o) c) changed;
      same_patches = ap (patches_of (movie_of o)) changed;
    }

pub is_mov_kind : IsKind mov_kind
is_mov_kind = record {
  edited = λ o e bytes w rules small. edited o e bytes (none_supported o w) rules small;
  idle = λ o e bytes w none. (idle_file o e bytes (none_supported o w) none, idle_size o e none);
  in_place = λ o e bytes w small room. placed_in_place o e bytes (none_supported o w) room;
  no_larger = λ o e bytes w small. no_larger o e small;
  by_effect = λ o e all is. same_edit o e all is;
  lawful = λ o bytes w. lawful o bytes (none_supported o w);
}
