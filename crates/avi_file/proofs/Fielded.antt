-- The fields of a file are those of its lists, and the lists of a supported file are whole.
use Rattle.std.proofs.Common.{◌≡◌, ◌∙◌, ℕ, ◌+◌, Bool, true, false, List, [], ◌∷◌, ◌++◌, length, map, drop, refl, sym, ap, subst}
use Rattle.std.specs.Prelude.{if◌then◌else◌, codes, None}
use Rattle.std.specs.declared.result.Result.TheVariants.{Err}
use Rattle.std.specs.List.{flat_map, AllByRecursion}
use Rattle.std.proofs.lemmas.List.{map-append}
use Rattle.part_tree.specs.declared.names.Span.{Span}
use Rattle.part_tree.specs.declared.part.Part.{Part}
use Rattle.part_tree.specs.declared.field.FieldName.{FieldName}
use Rattle.part_tree.specs.declared.field.FieldName.TheVariants.{Info}
use Rattle.part_tree.specs.declared.field.Value.{Value}
use Rattle.part_tree.specs.declared.fields.Entry.{Entry}
use Rattle.part_tree.specs.declared.why.ReadFault.{ReadFault}
use Rattle.part_tree.specs.declared.why.ReadFault.TheVariants as Fault
use Rattle.part_tree.specs.Fields.{values}
use Rattle.container_model.specs.Chunk.{Chunk, spell}
use Rattle.container_model.specs.Items as items
use Rattle.container_model.specs.Stood.{Stood, bare, stood, only}
use Rattle.carrier_model.specs.Info.{info, info_items, is_type, list_run}
use Rattle.carrier_model.specs.Lists.{values_held}
use Rattle.field_model.specs.Fields.{plain}
use Rattle.info_list.specs.Info.{items_run}
use Rattle.avi_model.specs.Avi.{avi_of, body_span, hdrls, strls}
use Rattle.avi_model.specs.Edited.{fields}
use Rattle.avi_model.specs.Map.{parts_of}
use Rattle.avi_model.specs.Support.{ListEnds as Whole, infos}
use Rattle.avi_model.specs.Why.{why_named}
use Rattle.avi_model.proofs.NamesExact.{names_exact}
use Rattle.avi_model.proofs.Sound.{all_right}
use Rattle.info_list.specs.Fields.{Grows}
use Rattle.avi_file.specs.Fields.{ListEnds, ReadsLists, behind_info, infos_of, lists_held}
use Rattle.avi_file.specs.Map.{ReadsFields}
use Rattle.avi_model.proofs.Homes.{AtHome, AllHome, infos_home, top_home}
use Rattle.avi_file.proofs.Parted.{info_parts}

-- what is behind the type of a list at home
behind_here : (b : List ℕ) (x : Stood) → AtHome b x → behind_info b (body_span x) ≡ drop 4 x.chunk.body
behind_here b x h = ap (drop 4) (sym h.body)

abbrev told : List ℕ → List ℕ → List Span → List Value
told b id ss = flat_map (λ s. map plain (items.values info_items id (items_run (behind_info b s)).chunks)) ss

held_here : (b : List ℕ) (id : List ℕ) (at : ℕ) (cs : List Chunk) → AllHome b (stood at cs) → told b id (map body_span (only (is_type (codes "INFO")) (stood at cs))) ≡ map plain (flat_map (values_held info info_items id) cs)
held_here b id at [] h = refl
held_here b id at (c ∷ cs) h = go (is_type (codes "INFO") c) (held_here b id (at + length (spell c)) cs h.1)
  where
    go : (t : Bool) → told b id (map body_span (only (is_type (codes "INFO")) (stood (at + length (spell c)) cs))) ≡ map plain (flat_map (values_held info info_items id) cs)
        → told b id (map body_span (if t then record { at = at; chunk = bare c } ∷ only (is_type (codes "INFO")) (stood (at + length (spell c)) cs) else only (is_type (codes "INFO")) (stood (at + length (spell c)) cs)))
        ≡ map plain ((if t then items.values info_items id (list_run c).chunks else []) ++ flat_map (values_held info info_items id) cs)
    go true e =
        let x : Stood = record { at = at; chunk = bare c } in
        let own = items.values info_items id (list_run c).chunks in
        let later = told b id (map body_span (only (is_type (codes "INFO")) (stood (at + length (spell c)) cs))) in
        ap (λ (y : List ℕ). map plain (items.values info_items id (items_run y).chunks) ++ later) (behind_here b x h.0)
        ∙ ap (λ (vs : List Value). map plain own ++ vs) e
        ∙ sym (map-append plain own (flat_map (values_held info info_items id) cs))
    go false e = e

none_held : (b : List ℕ) (ss : List Span) → flat_map (λ (s : Span). let none : List Value = [] in none) ss ≡ []
none_held b [] = refl
none_held b (s ∷ ss) = none_held b ss

pub fields_here : (b : List ℕ) (n : FieldName) → lists_held b (map body_span (infos (avi_of b))) n ≡ fields b n
fields_here b (Info id) = held_here b id.0 12 (avi_of b).children (top_home b)
fields_here b other = none_held b (map body_span (infos (avi_of b)))

whole_here : (b : List ℕ) (xs : List Stood) → AllHome b xs → AllByRecursion Whole xs → AllByRecursion (ListEnds b) (map body_span xs)
whole_here b [] h all = tt
whole_here b (x ∷ xs) h all = (ap (λ (y : List ℕ). (items_run y).stop) (behind_here b x h.0) ∙ all.0, whole_here b xs h.1 all.1)

lists_whole : (b : List ℕ) → why_named b ≡ None → AllByRecursion (ListEnds b) (map body_span (infos (avi_of b)))
lists_whole b e =
    let a = avi_of b in
    let s = ((names_exact b).0 e).file in
    whole_here b (infos a) (infos_home b) (all_right Whole (strls a) (infos a) (all_right Whole (hdrls a) (strls a ++ infos a) s.lists_end))

-- the lists that the parts tell
pub same_lists : (b : List ℕ) (ps : List Part) (ss : List Span) → ps ≡ parts_of b → ss ≡ infos_of ps → ss ≡ map body_span (infos (avi_of b))
same_lists b ps ss parts lists = lists ∙ ap infos_of parts ∙ info_parts b

pub fields_fail : (b : List ℕ) (ps : List Part) (ss : List Span) (old new : List Entry) (fault : ReadFault) → ps ≡ parts_of b → ss ≡ infos_of ps → why_named b ≡ None → ReadsLists b ss old new (Err fault) → ReadsFields b (Err fault)
fields_fail b ps ss old new (Fault.Why w) parts lists none h = h (subst (AllByRecursion (ListEnds b)) (sym (same_lists b ps ss parts lists)) (lists_whole b none))
fields_fail b ps ss old new Fault.Depot parts lists none h = tt
fields_fail b ps ss old new Fault.Memory parts lists none h = tt
