-- Words of items, read one by one.
use Rattle.std.proofs.Common.{◌≡◌, ℕ, suc, ◌+◌, ◌<◌, ◌≤◌, List, [], ◌∷◌, ◌++◌, length, take, drop, get_or, Bool, true, false, Option, Some, None, Result, Ok, Err, refl, sym, ap, ◌∙◌, subst, cond, append_assoc, append-nil}
use Rattle.std.specs.Prelude.{IsTrue, is_some, ◌&&◌, codes}
use Rattle.std.specs.List.{find, AllByRecursion}
use Rattle.std.proofs.lemmas.Bool.{and_parts}
use Rattle.std.proofs.lemmas.List.{at_drop_more, at_drop_all}
use Rattle.part_tree.specs.declared.field.EditItem.{EditItem}
use Rattle.part_tree.specs.declared.field.FieldName.{FieldName}
use Rattle.part_tree.specs.declared.field.FieldName.TheVariants.{User}
use Rattle.part_tree.specs.Letters.{four}
use Rattle.part_tree.specs.Names.{is_user_type, field_names}
use Rattle.field_model.specs.Texts.{field_name}
use Rattle.field_model.proofs.Names.{named_text}
use Rattle.core_edit.specs.Edits.{IsNamed, is_empty_set, names_one, Wrong, twice, empty, wrong_from, wrong}
use Rattle.metaedit_top.specs.declared.outcome.UsageFault.{UsageFault}
use Rattle.metaedit_top.specs.declared.outcome.UsageFault.TheVariants as fault
use Rattle.metaedit_top.specs.Words.{Text, Items, item, items_from, before_items, twice_from, edit_by, edit_in, edit_of}

-- a name that a text names
pub is_named : (text : List ℕ) (name : FieldName) → field_name text ≡ Some name → IsNamed name
is_named text name h = ap is_some (named_text text name h)

-- ---- items one by one

-- items that were read, before those of the words that are left
abbrev pub joined : List EditItem → Items → Items
joined items more = record { items = items ++ more.items; stop = more.stop }

-- a word more is an item
pub item_more : (n : ℕ) (words whole : List Text) (k : ℕ) (items : List EditItem) (i : EditItem) → k < length words → item n (get_or words k []) ≡ Ok i
    → joined items (items_from n (drop k words)) ≡ items_from 1 whole → joined (items ++ i ∷ []) (items_from (n + 1) (drop (k + 1) words)) ≡ items_from 1 whole
item_more n words whole k items i lt is left =
    let step : items_from n (drop k words) ≡ before_items (Ok i) (items_from (n + 1) (drop (k + 1) words)) = ap (items_from n) (at_drop_more (λ (ws : List Text). ws) words k [] lt) ∙ ap (λ (r : Result EditItem UsageFault). before_items r (items_from (n + 1) (drop (k + 1) words))) is in
    ap (λ (xs : List EditItem). record { items = xs; stop = (items_from (n + 1) (drop (k + 1) words)).stop }) (append_assoc items (i ∷ []) (items_from (n + 1) (drop (k + 1) words)).items)
    ∙ (sym (ap (joined items) step) ∙ left)

-- a word is no item
pub item_stops : (n : ℕ) (words whole : List Text) (k : ℕ) (items : List EditItem) (fault : UsageFault) → k < length words → item n (get_or words k []) ≡ Err fault
    → joined items (items_from n (drop k words)) ≡ items_from 1 whole → record { items = items; stop = Some fault } ≡ items_from 1 whole
item_stops n words whole k items fault lt is left =
    let step : items_from n (drop k words) ≡ before_items (Err fault) (items_from (n + 1) (drop (k + 1) words)) = ap (items_from n) (at_drop_more (λ (ws : List Text). ws) words k [] lt) ∙ ap (λ (r : Result EditItem UsageFault). before_items r (items_from (n + 1) (drop (k + 1) words))) is in
    ap (λ (xs : List EditItem). record { items = xs; stop = Some fault }) (sym (append-nil items)) ∙ (sym (ap (joined items) step) ∙ left)

-- no word is left
pub items_end : (n : ℕ) (words whole : List Text) (k : ℕ) (items : List EditItem) → length words ≤ k
    → joined items (items_from n (drop k words)) ≡ items_from 1 whole → record { items = items; stop = None } ≡ items_from 1 whole
items_end n words whole k items end left =
    ap (λ (xs : List EditItem). record { items = xs; stop = None }) (sym (append-nil items)) ∙ (sym (ap (λ (ws : List Text). joined items (items_from n ws)) (at_drop_all (λ (ws : List Text). ws) words k end)) ∙ left)

-- a fact of all items, and of one more
pub all_more : (P : EditItem → Type 0) (xs : List EditItem) (i : EditItem) → AllByRecursion P xs → P i → AllByRecursion P (xs ++ i ∷ [])
all_more P [] i h p = (p, tt)
all_more P (x ∷ xs) i h p = (h.0, all_more P xs i h.1 p)

-- ---- the edit of items that were read

abbrev as_wrong : Option ℕ → Option Wrong
as_wrong None = None
as_wrong (Some n) = Some (twice n)

abbrev AllSome : List EditItem → Type 0
AllSome items = AllByRecursion (λ (i : EditItem). is_empty_set i.change ≡ false) items

abbrev the_edit : List EditItem → Option UsageFault → Result (List EditItem) UsageFault
the_edit items o = elim o [ None ↦ Ok items | Some fault ↦ Err fault ]

-- of items that set no empty text only a second one of a field is faulty
wrong_is : (n : ℕ) (seen items : List EditItem) → AllSome items → wrong_from n seen items ≡ as_wrong (twice_from n seen items)
wrong_is n seen [] all = refl
wrong_is n seen (i ∷ items) all = go (names_one i.name seen) (is_empty_set i.change) all.0 (wrong_is (suc n) (seen ++ i ∷ []) items all.1)
  where
    go : (s t : Bool) → t ≡ false → wrong_from (suc n) (seen ++ i ∷ []) items ≡ as_wrong (twice_from (suc n) (seen ++ i ∷ []) items)
        → cond s (Some (twice n)) (cond t (Some (empty n)) (wrong_from (suc n) (seen ++ i ∷ []) items)) ≡ as_wrong (cond s (Some n) (twice_from (suc n) (seen ++ i ∷ []) items))
    go true t e more = refl
    go false true e more = absurd cc
    go false false e more = more

twice_told : (o : Option ℕ) (n : ℕ) → as_wrong o ≡ Some (twice n) → o ≡ Some n
twice_told None n h = absurd cc
twice_told (Some m) n h = ap Some (ap (λ (w : Option Wrong). elim w [ None ↦ 0 | Some v ↦ elim v [ twice k ↦ k | empty k ↦ 0 ] ]) h)

none_told : (o : Option ℕ) → as_wrong o ≡ None → o ≡ None
none_told None h = refl
none_told (Some m) h = absurd cc

empty_told : (o : Option ℕ) (n : ℕ) → as_wrong o ≡ Some (empty n) → ⊥
empty_told None n h = absurd cc
empty_told (Some m) n h = absurd cc

pub edit_twice : (words : List Text) (read : Items) (n : ℕ) → read ≡ items_from 1 words → AllSome read.items → wrong read.items ≡ Some (twice n) → edit_of words ≡ Err (fault.Twice n)
edit_twice words read n is all faulty =
    let told : twice_from 1 [] read.items ≡ Some n = twice_told (twice_from 1 [] read.items) n (sym (wrong_is 1 [] read.items all) ∙ faulty) in
    ap edit_in (sym is) ∙ ap (λ (o : Option ℕ). edit_by o read) told

pub no_empty : (read : Items) (n : ℕ) → AllSome read.items → wrong read.items ≡ Some (empty n) → ⊥
no_empty read n all faulty = empty_told (twice_from 1 [] read.items) n (sym (wrong_is 1 [] read.items all) ∙ faulty)

edit_found : (words : List Text) (read : Items) → read ≡ items_from 1 words → AllSome read.items → wrong read.items ≡ None
    → edit_of words ≡ elim read.stop [ None ↦ Ok read.items | Some fault ↦ Err fault ]
edit_found words read is all sound =
    let told : twice_from 1 [] read.items ≡ None = none_told (twice_from 1 [] read.items) (sym (wrong_is 1 [] read.items all) ∙ sound) in
    ap edit_in (sym is) ∙ ap (λ (o : Option ℕ). edit_by o read) told

pub edit_read : (words : List Text) (read : Items) → read ≡ items_from 1 words → AllSome read.items → wrong read.items ≡ None → read.stop ≡ None → edit_of words ≡ Ok read.items
edit_read words read is all sound none =
    edit_found words read is all sound ∙ ap (λ (o : Option UsageFault). the_edit read.items o) none

pub edit_stopped : (words : List Text) (read : Items) (f : UsageFault) → read ≡ items_from 1 words → AllSome read.items → wrong read.items ≡ None → read.stop ≡ Some f → edit_of words ≡ Err f
edit_stopped words read f is all sound stop =
    edit_found words read is all sound ∙ ap (λ (o : Option UsageFault). the_edit read.items o) stop
