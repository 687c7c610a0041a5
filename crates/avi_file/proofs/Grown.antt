-- The fields of a map, one list more.
use Rattle.std.proofs.Common.{◌≡◌, ◌∙◌, ℕ, ◌+◌, ◌-◌, ◌<◌, ◌≤◌, List, [], ◌∷◌, ◌++◌, length, take, drop, refl, sym, ap, arith}
use Rattle.std.specs.declared.result.Result.TheVariants.{Err}
use Rattle.std.specs.List.{flat_map, AllByRecursion}
use Rattle.std.proofs.lemmas.List.{append-nil, length-take, drop_all}
use Rattle.part_tree.specs.declared.names.Span.{Span}
use Rattle.part_tree.specs.declared.field.FieldName.{FieldName}
use Rattle.part_tree.specs.declared.field.FieldName.TheVariants.{Bext, Key}
use Rattle.part_tree.specs.declared.fields.Entry.{Entry}
use Rattle.part_tree.specs.declared.why.ReadFault.{ReadFault}
use Rattle.part_tree.specs.declared.why.ReadFault.TheVariants as Fault
use Rattle.part_tree.specs.Fields.{values}
use Rattle.container_model.specs.Chunk.{Run, ends, passes, stopped}
use Rattle.container_model.specs.Items as items
use Rattle.container_model.specs.Written.{slice}
use Rattle.carrier_model.specs.Info.{info_items}
use Rattle.field_model.specs.Lawful.{IsLawful}
use Rattle.info_list.specs.declared.InfoList.{InfoList}
use Rattle.info_list.specs.Fields.{Grows, infos_alone, item_value, items_held}
use Rattle.info_list.specs.Info.{CutInfo, IsInfo, items_run}
use Rattle.info_list.proofs.Grown.{FieldsLeft, alone_none, alone_same, fields_end, fields_next, grown_as, held_values, not_grown}
use Rattle.avi_file.specs.Fields.{ListEnds, OnlyTexts, ReadsList, ReadsLists, behind_info, list_held, lists_held}

-- ---- no other field grows

pub only_grows : (old new : List Entry) (f : List ℕ → List (List ℕ)) → Grows old new (infos_alone f) → OnlyTexts old → OnlyTexts new
only_grows old new f grown only = record {
  no_bext = λ field. grown (Bext field) ∙ append-nil (values old (Bext field)) ∙ only.no_bext field;
  no_keys = λ key. grown (Key key) ∙ append-nil (values old (Key key)) ∙ only.no_keys key;
}

pub only_lawful : (es : List Entry) → OnlyTexts es → IsLawful (values es)
only_lawful es only = record {
  bext = Rattle.std.proofs.Common.inr only.no_bext;
  keys = λ name. rw (only.no_keys name) tt;
}

pub none_only : OnlyTexts []
none_only = record { no_bext = λ field. refl; no_keys = λ name. refl }

-- ---- one list

-- the bytes behind the type
slice_drop : (b : List ℕ) (at len m : ℕ) → m ≤ len → drop m (slice b at len) ≡ slice b (at + m) (len - m)
slice_drop b at len m le =
    let split : len ≡ m + (len - m) = omega arith in
    ap (λ (k : ℕ). drop m (take k (drop at b))) split
    ∙ Rattle.std.proofs.lemmas.List.drop-take m (len - m) (drop at b)
    ∙ ap (take (len - m)) (Rattle.std.proofs.lemmas.List.drop-drop m at b)
    ∙ ap (λ (k : ℕ). take (len - m) (drop k b)) (omega arith)

pub behind_is : (b : List ℕ) (s : Span) (x : List ℕ) → 4 ≤ s.len → x ≡ slice b (s.at + 4) (s.len - 4) → x ≡ behind_info b s
behind_is b s x long same = same ∙ sym (slice_drop b s.at s.len 4 long)

pub list_read : (b : List ℕ) (s : Span) (x : List ℕ) (list : InfoList) (old new : List Entry) → x ≡ behind_info b s → IsInfo x list → Grows old new (items_held list.items) → Grows old new (list_held b s)
list_read b s x list old new same info grown =
    grown_as old new (items_held list.items) (list_held b s) grown
    (alone_same (λ (id : List ℕ). flat_map (item_value id) list.items) (λ (id : List ℕ). items.values info_items id (items_run (behind_info b s)).chunks)
    (λ id. ap (flat_map (item_value id)) info.items ∙ held_values id (items_run x).chunks ∙ ap (λ (y : List ℕ). items.values info_items id (items_run y).chunks) same))

pub list_cut : (b : List ℕ) (s : Span) (x : List ℕ) (p : ℕ) → x ≡ behind_info b s → CutInfo x p → ListEnds b s → ⊥
list_cut b s x p same cut ends_ =
    let stop : ends ≡ passes = sym ends_ ∙ sym (ap (λ (y : List ℕ). (items_run y).stop) same) ∙ cut.stop in
    absurd cc

nothing_read : items_run [] ≡ stopped ends []
nothing_read = Rattle.riff_form.proofs.Steps.few_stepped [] 0 0 (λ s. refl)

-- a list that is shorter than its type has no fields
pub list_short : (b : List ℕ) (s : Span) (old : List Entry) → s.len < 4 → Grows old old (list_held b s)
list_short b s old short =
    let few : length (slice b s.at s.len) ≤ 4 = omega (arith, length-take s.len (drop s.at b)) in
    let none : behind_info b s ≡ [] = drop_all 4 (slice b s.at s.len) few in
    not_grown old (list_held b s)
    (alone_none (λ (id : List ℕ). items.values info_items id (items_run (behind_info b s)).chunks)
    (λ id. ap (λ (y : List ℕ). items.values info_items id (items_run y).chunks) none ∙ ap (λ (r : Run). items.values info_items id r.chunks) nothing_read))

-- ---- several lists

abbrev pub ListsLeft : List ℕ → List Entry → List Entry → List Span → List Span → Type 0
ListsLeft b now old rest whole = FieldsLeft now old (lists_held b rest) (lists_held b whole)

pub lists_next : (b : List ℕ) (old now new : List Entry) (rest later whole : List Span) (s : Span) → rest ≡ s ∷ later → Grows now new (list_held b s) → ListsLeft b now old rest whole → ListsLeft b new old later whole
lists_next b old now new rest later whole s split grown left =
    fields_next old now new (lists_held b rest) (lists_held b later) (list_held b s) (lists_held b whole) grown (λ n. ap (λ (ss : List Span). lists_held b ss n) split) left

pub lists_end : (b : List ℕ) (old now : List Entry) (rest whole : List Span) → rest ≡ [] → ListsLeft b now old rest whole → Grows old now (lists_held b whole)
lists_end b old now rest whole none left = fields_end old now (lists_held b rest) (lists_held b whole) (λ n. ap (λ (ss : List Span). lists_held b ss n) none) left

pub lists_cut : (b : List ℕ) (ss : List Span) (s : Span) (old new now later : List Entry) (fault : ReadFault) → (AllByRecursion (ListEnds b) ss → ListEnds b s) → ReadsList b s now later (Err fault) → ReadsLists b ss old new (Err fault)
lists_cut b ss s old new now later (Fault.Why w) here h = λ all. h (here all)
lists_cut b ss s old new now later Fault.Depot here h = tt
lists_cut b ss s old new now later Fault.Memory here h = tt
