-- Items of which none is faulty are sound.
use Rattle.std.proofs.Common.{◌≡◌, ℕ, suc, List, [], ◌∷◌, ◌++◌, Bool, true, false, ◌||◌, refl, sym, ap, ◌∙◌, Some, None, if◌then◌else◌, cond, filter}
use Rattle.std.proofs.lemmas.Bool.{or_parts, or_from, false≢true}
use Rattle.part_tree.specs.declared.field.EditItem.{EditItem}
use Rattle.part_tree.specs.declared.field.FieldName.{FieldName}
use Rattle.part_tree.specs.Names.{same_name}
use Rattle.core_edit.specs.Edits.{AreNamed, AreSound, is_empty_set, names_one, twice, empty, wrong_from}
use Rattle.part_tree.proofs.Places.{same_is_equal, same_refl}

-- where nothing is wrong, the first item is new and not empty, and nothing is wrong behind it
parts : (n : ℕ) (i : EditItem) (seen items : List EditItem) (one two : Bool) → (if one then Some (twice n) else (if two then Some (empty n) else wrong_from (suc n) (seen ++ i ∷ []) items)) ≡ None
    → (one ≡ false) × (two ≡ false) × (wrong_from (suc n) (seen ++ i ∷ []) items ≡ None)
parts n i seen items true two h = absurd cc
parts n i seen items false true h = absurd cc
parts n i seen items false false h = (refl, refl, h)

named_both : (name : FieldName) (a b : List EditItem) → names_one name (a ++ b) ≡ (names_one name a || names_one name b)
named_both name [] b = refl
named_both name (i ∷ a) b = go (same_name i.name name) (named_both name a b)
  where
    go : (t : Bool) → names_one name (a ++ b) ≡ (names_one name a || names_one name b) → (t || names_one name (a ++ b)) ≡ ((t || names_one name a) || names_one name b)
    go true e = refl
    go false e = e

-- names are the same either way round
same_back : (a b : FieldName) → same_name a b ≡ false → same_name b a ≡ false
same_back a b h = go (same_name b a) refl
  where
    go : (t : Bool) → same_name b a ≡ t → t ≡ false
    go true e = let equal = same_is_equal b a e in absurd (false≢true (sym h ∙ ap (λ (x : FieldName). same_name a x) equal ∙ same_refl a))
    go false e = refl

-- no later item names the field of an item that was seen
later : (n : ℕ) (i : EditItem) (seen items : List EditItem) → wrong_from n seen items ≡ None → ((j : EditItem) → names_one j.name seen ≡ false → same_name i.name j.name ≡ false) → names_one i.name items ≡ false
later n i seen [] h among = refl
later n i seen (j ∷ items) h among =
    let p = parts n j seen items (names_one j.name seen) (is_empty_set j.change) h in
    or_from _ _ (same_back i.name j.name (among j p.0))
    (later (suc n) i (seen ++ j ∷ []) items p.2 (λ k none. among k (or_parts _ _ (sym (named_both k.name seen (j ∷ [])) ∙ none)).0))

pub sound_from : (n : ℕ) (seen items : List EditItem) → AreNamed items → wrong_from n seen items ≡ None → AreSound items
sound_from n seen [] named h = tt
sound_from n seen (i ∷ items) named h =
    let p = parts n i seen items (names_one i.name seen) (is_empty_set i.change) h in
    let mine : (j : EditItem) → names_one j.name (seen ++ i ∷ []) ≡ false → same_name i.name j.name ≡ false =
    λ j none. (or_parts _ _ (or_parts (names_one j.name seen) (names_one j.name (i ∷ [])) (sym (named_both j.name seen (i ∷ [])) ∙ none)).1).0 in
    (named.0, p.1, later (suc n) i (seen ++ i ∷ []) items p.2 mine, sound_from (suc n) (seen ++ i ∷ []) items named.1 p.2)

-- ---- some of the items

names_kept : (p : EditItem → Bool) (name : FieldName) (items : List EditItem) → names_one name items ≡ false → names_one name (filter p items) ≡ false
names_kept p name [] h = refl
names_kept p name (i ∷ items) h = let z = or_parts (same_name i.name name) (names_one name items) h in go (p i) z.0 (names_kept p name items z.1)
  where
    go : (t : Bool) → same_name i.name name ≡ false → names_one name (filter p items) ≡ false → names_one name (cond t (i ∷ filter p items) (filter p items)) ≡ false
    go true first rest = or_from _ _ first rest
    go false first rest = rest

-- some of sound items are sound
pub kept_sound : (p : EditItem → Bool) (items : List EditItem) → AreSound items → AreSound (filter p items)
kept_sound p [] h = tt
kept_sound p (i ∷ items) h = go (p i) (names_kept p i.name items h.2) (kept_sound p items h.3)
  where
    go : (t : Bool) → names_one i.name (filter p items) ≡ false → AreSound (filter p items) → AreSound (cond t (i ∷ filter p items) (filter p items))
    go true other rest = (h.0, h.1, other, rest)
    go false other rest = rest
