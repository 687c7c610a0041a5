-- The lengths of lists after all parts of an edit.
use Rattle.std.proofs.Common.{◌≡◌, ◌∙◌, ◌≤◌, ℕ, ◌^◌, Bool, true, false, List, [], ◌∷◌, length, map, refl, sym, ap, subst}
use Rattle.std.specs.Prelude.{◌&&◌, ◌||◌, if◌then◌else◌, codes}
use Rattle.std.specs.Str.{bytes_eq}
use Rattle.std.specs.List.{flat_map, AllByRecursion}
use Rattle.std.specs.declared.result.Result.TheVariants.{Err}
use Rattle.part_tree.specs.Names.{whole_ids}
use Rattle.field_model.specs.Bext.{new_body}
use Rattle.field_model.specs.Body.{edited_bext}
use Rattle.field_model.specs.Update.{RawItem}
use Rattle.container_model.specs.Chunk.{Chunk}
use Rattle.container_model.specs.Units.{Cell, live}
use Rattle.carrier_model.specs.Cells.{never, acted, acted_cells}
use Rattle.carrier_model.specs.Info.{own_size, is_padding, info, info_items, made}
use Rattle.carrier_model.specs.Lists.{lists_act}
use Rattle.carrier_model.proofs.Cells.{Makes, Unseen, all_acted, live_acted, live_from}
use Rattle.wave_model.specs.Wave.{wave_of, cells_of}
use Rattle.wave_model.specs.Fields.{bodies, body_in, is_bext, is_info, is_marked}
use Rattle.wave_model.specs.Carry.{bext_act, bext_by, edits_bext, info_part, some_chunk, whole_act, steps}
use Rattle.carrier_model.specs.Steps.{Step, carried}
use Rattle.wave_model.specs.Edited.{ChunkFine, Supported}
use Rattle.wave_model.specs.New.{ends_file}
use Rattle.wave_model.proofs.Acts.{Blind, whole_unseen}
use Rattle.wave_model.proofs.Cells.{all_cells, gaps_cells, view_laid}
use Rattle.wave_model.proofs.New.{ignores_info}
use Rattle.carrier_model.proofs.Steps.{gaps_carried, live_carried, steps_unseen}
use Rattle.edit_planner.specs.Lists.{SmallLists, TellsLarge, lengths}
use Rattle.edit_planner.specs.Places.{list_sizes}
use Rattle.edit_planner.specs.declared.lists.ListsFault.{ListsFault}
use Rattle.edit_planner.proofs.Sizes.{tells_as}

and_no : (a : Bool) → (a && false) ≡ false
and_no true = refl
and_no false = refl

-- chunks of another identifier are no lists
blind_list : (w : List ℕ) → bytes_eq w (codes "LIST") ≡ false → Blind w (body_in is_info)
blind_list w h c e =
    let none : is_info c ≡ false = ap (λ (x : List ℕ). own_size c.form && (bytes_eq x (codes "LIST") && bytes_eq (Rattle.std.proofs.Common.take 4 c.body) (codes "INFO"))) e ∙ ap (λ (t : Bool). own_size c.form && (t && bytes_eq (Rattle.std.proofs.Common.take 4 c.body) (codes "INFO"))) h ∙ and_no (own_size c.form) in
    ap (λ (t : Bool). if t then c.body ∷ [] else []) none

wholes_unseen : (e : List RawItem) → AllByRecursion (λ s. (cs : List Chunk) → Unseen (body_in is_info) (s cs)) (map (λ w. whole_act w e) whole_ids)
wholes_unseen e = (
  (λ cs. whole_unseen (body_in is_info) (codes "axml") (blind_list (codes "axml") refl) e cs),
  (
    (λ cs. whole_unseen (body_in is_info) (codes "iXML") (blind_list (codes "iXML") refl) e cs),
    (
      (λ cs. whole_unseen (body_in is_info) (codes "_PMX") (blind_list (codes "_PMX") refl) e cs),
      ((λ cs. whole_unseen (body_in is_info) (codes "MD5 ") (blind_list (codes "MD5 ") refl) e cs), tt),
    ),
  ),
)

-- the lists after the edit of lists are those after all parts
pub lists_last : (e : List RawItem) (xs x1 : List Cell) → x1 ≡ acted_cells (bext_act e (flat_map live xs)) xs
    → bodies is_info (acted (lists_act info info_items never (info_part e) (flat_map live x1)) (flat_map live x1)) ≡ bodies is_info (flat_map live (carried (steps e) xs))
lists_last e xs x1 is =
    let lists : Step = lists_act info info_items never (info_part e) in
    let cs1 = acted (bext_act e (flat_map live xs)) (flat_map live xs) in
    let here : flat_map live x1 ≡ cs1 = ap (flat_map live) is ∙ live_acted (bext_act e (flat_map live xs)) xs in
    ap (λ (cs : List Chunk). bodies is_info (acted (lists cs) cs)) here
    ∙ sym (steps_unseen (body_in is_info) (map (λ w. whole_act w e) whole_ids) (wholes_unseen e) (acted (lists cs1) cs1))
    ∙ sym (ap (bodies is_info) (live_carried (steps e) xs))

pub small_bext : (e : List RawItem) (xs x1 : List Cell) → x1 ≡ acted_cells (bext_act e (flat_map live xs)) xs → SmallLists (flat_map live xs) → SmallLists (flat_map live x1)
small_bext e xs x1 is small =
    subst SmallLists (sym (ap (flat_map live) is ∙ live_acted (bext_act e (flat_map live xs)) xs)) (all_acted P (bext_act e (flat_map live xs)) (makes (flat_map live xs)) (flat_map live xs) small)
  where
    P : Chunk → Type 0
    P c = is_info c ≡ true → length c.body ≤ 2 ^ 24

    one : (raw : List ℕ) → is_info (made (codes "bext") raw) ≡ true → length (made (codes "bext") raw).body ≤ 2 ^ 24
    one raw h = absurd cc

    makes : (cs : List Chunk) → Makes (λ c. is_info c ≡ true → length c.body ≤ 2 ^ 24) (bext_act e cs)
    makes cs = go (edits_bext e) (some_chunk is_bext cs)
      where
        go : (t u : Bool) → Makes (λ c. is_info c ≡ true → length c.body ≤ 2 ^ 24) (bext_by e t u)
        go false u = tt
        go true true = λ n c. (one (edited_bext e c.body), tt)
        go true false = one (edited_bext e new_body)

pub tells_on : (T U : Type 0) (xs ys : List (List ℕ)) (fault : ListsFault) → xs ≡ ys → TellsLarge {T = T} (lengths xs) (Err fault) → TellsLarge {T = U} (lengths ys) (Err fault)
tells_on T U xs ys fault e h = tells_as T U (lengths ys) fault (subst (λ (zs : List (List ℕ)). TellsLarge {T = T} (lengths zs) (Err fault)) e h)

-- ---- the lists of the new file

pub sizes_laid : (b : List ℕ) (e : List RawItem) → lengths (bodies is_info (flat_map live (carried (steps e) (cells_of (wave_of b))))) ≡ list_sizes b e
sizes_laid b e =
    let w = wave_of b in
    let gaps = gaps_carried (λ c. is_padding c ≡ true) (steps e) (cells_of w) (gaps_cells (λ c. is_padding c ≡ true) (λ c h. h) w.ds64 w.children) in
    ap lengths (sym (view_laid (body_in is_info) ignores_info (ends_file w) (carried (steps e) (cells_of w)) gaps))

pub small_cells : (b : List ℕ) → Supported b → SmallLists (flat_map live (cells_of (wave_of b)))
small_cells b sup =
    let w = wave_of b in
    live_from (λ c. is_info c ≡ true → length c.body ≤ 2 ^ 24) (cells_of w) (all_cells (λ c. is_info c ≡ true → length c.body ≤ 2 ^ 24) w.ds64 w.children (each w.children sup.children.each))
  where
    each : (cs : List Chunk) → AllByRecursion ChunkFine cs → AllByRecursion (λ c. is_info c ≡ true → length c.body ≤ 2 ^ 24) cs
    each [] h = tt
    each (c ∷ cs) h = ((λ i. h.0.carrier_small (ap (λ (t : Bool). t || is_marked c) i)), each cs h.1)
