-- The entries and the items of a key table where a key is set or removed, by the numbers of its entry and of its item.
use Rattle.std.proofs.Common.{◌≡◌, ◌∙◌, ℕ, suc, ◌+◌, ◌<◌, ◌≤◌, Bool, true, false, cond, not, List, [], ◌∷◌, ◌++◌, length, get_or, refl, sym, ap, arith, inl, inr}
use Rattle.std.specs.Prelude.{◌==◌, ◌⊎◌}
use Rattle.std.specs.List.{position_or_len, remove}
use Rattle.std.proofs.Math.ListN.{set}
use Rattle.qt_keys.specs.Set.{index_of, item_of, names, new_entry, with_entry, with_item, without_item}
use Rattle.qt_keys.specs.declared.table.KeyEntry.{KeyEntry}
use Rattle.qt_keys.specs.declared.table.KeyItem.{KeyItem}

-- ---- entries

-- an entry of no key
pub no_entry : KeyEntry
no_entry = record { space = record { 0 = [] }; name = [] }

-- the number of the first entry of a key, or how many entries there are
abbrev pub place_of : List ℕ → List KeyEntry → ℕ
place_of name es = position_or_len (names name) es

pub index_is : (name : List ℕ) (es : List KeyEntry) → index_of name es ≡ place_of name es + 1
index_is name [] = refl
index_is name (e ∷ es) = go (names name e) (index_is name es)
  where
    go : (t : Bool) → index_of name es ≡ place_of name es + 1 → cond t 1 (suc (index_of name es)) ≡ cond (not t) (1 + place_of name es) 0 + 1
    go true again = refl
    go false again = omega (arith, again)

pub entry_there : (name : List ℕ) (es : List KeyEntry) → index_of name es ≤ length es → with_entry name es ≡ es
entry_there name [] le = absurd (omega arith)
entry_there name (e ∷ es) le = go (names name e) le (entry_there name es)
  where
    go : (t : Bool) → cond t 1 (suc (index_of name es)) ≤ suc (length es) → (index_of name es ≤ length es → with_entry name es ≡ es) → cond t (e ∷ es) (e ∷ with_entry name es) ≡ e ∷ es
    go true h again = refl
    go false h again = ap (λ (xs : List KeyEntry). e ∷ xs) (again (omega (arith, h)))

pub entry_added : (name : List ℕ) (es : List KeyEntry) → length es < index_of name es → with_entry name es ≡ es ++ new_entry name ∷ []
entry_added name [] lt = refl
entry_added name (e ∷ es) lt = go (names name e) lt (entry_added name es)
  where
    go : (t : Bool) → suc (length es) < cond t 1 (suc (index_of name es)) → (length es < index_of name es → with_entry name es ≡ es ++ new_entry name ∷ [])
        → cond t (e ∷ es) (e ∷ with_entry name es) ≡ e ∷ (es ++ new_entry name ∷ [])
    go true h again = absurd (omega (arith, h))
    go false h again = ap (λ (xs : List KeyEntry). e ∷ xs) (again (omega (arith, h)))

-- ---- items

-- an item of no entry
pub no_item : KeyItem
no_item = record { index = 0; values = [] }

-- the number of the first item with an index, or how many items there are
abbrev pub item_place : ℕ → List KeyItem → ℕ
item_place index is = position_or_len (λ (i : KeyItem). i.index == index) is

pub item_there : (index : ℕ) (raw : List ℕ) (is : List KeyItem) → item_place index is < length is → with_item index raw is ≡ set is (item_place index is) (item_of index raw)
item_there index raw [] lt = absurd (omega arith)
item_there index raw (i ∷ is) lt = go (i.index == index) lt (item_there index raw is)
  where
    go : (t : Bool) → cond (not t) (1 + item_place index is) 0 < suc (length is) → (item_place index is < length is → with_item index raw is ≡ set is (item_place index is) (item_of index raw))
        → cond t (item_of index raw ∷ is) (i ∷ with_item index raw is) ≡ set (i ∷ is) (cond (not t) (1 + item_place index is) 0) (item_of index raw)
    go true h again = refl
    go false h again =
        let next : 1 + item_place index is ≡ suc (item_place index is) = omega arith in
        ap (λ (xs : List KeyItem). i ∷ xs) (again (omega (arith, h))) ∙ ap (λ (n : ℕ). set (i ∷ is) n (item_of index raw)) (sym next)

pub item_added : (index : ℕ) (raw : List ℕ) (is : List KeyItem) → length is ≤ item_place index is → with_item index raw is ≡ is ++ item_of index raw ∷ []
item_added index raw [] le = refl
item_added index raw (i ∷ is) le = go (i.index == index) le (item_added index raw is)
  where
    go : (t : Bool) → suc (length is) ≤ cond (not t) (1 + item_place index is) 0 → (length is ≤ item_place index is → with_item index raw is ≡ is ++ item_of index raw ∷ [])
        → cond t (item_of index raw ∷ is) (i ∷ with_item index raw is) ≡ i ∷ (is ++ item_of index raw ∷ [])
    go true h again = absurd (omega (arith, h))
    go false h again = ap (λ (xs : List KeyItem). i ∷ xs) (again (omega (arith, h)))

pub item_gone : (index : ℕ) (is : List KeyItem) → item_place index is < length is → without_item index is ≡ remove is (item_place index is)
item_gone index [] lt = absurd (omega arith)
item_gone index (i ∷ is) lt = go (i.index == index) lt (item_gone index is)
  where
    go : (t : Bool) → cond (not t) (1 + item_place index is) 0 < suc (length is) → (item_place index is < length is → without_item index is ≡ remove is (item_place index is))
        → cond t is (i ∷ without_item index is) ≡ remove (i ∷ is) (cond (not t) (1 + item_place index is) 0)
    go true h again = refl
    go false h again =
        let next : 1 + item_place index is ≡ suc (item_place index is) = omega arith in
        ap (λ (xs : List KeyItem). i ∷ xs) (again (omega (arith, h))) ∙ ap (λ (n : ℕ). remove (i ∷ is) n) (sym next)

pub item_absent : (index : ℕ) (is : List KeyItem) → length is ≤ item_place index is → without_item index is ≡ is
item_absent index [] le = refl
item_absent index (i ∷ is) le = go (i.index == index) le (item_absent index is)
  where
    go : (t : Bool) → suc (length is) ≤ cond (not t) (1 + item_place index is) 0 → (length is ≤ item_place index is → without_item index is ≡ is) → cond t is (i ∷ without_item index is) ≡ i ∷ is
    go true h again = absurd (omega (arith, h))
    go false h again = ap (λ (xs : List KeyItem). i ∷ xs) (again (omega (arith, h)))

-- ---- one more that isn't the one

pub none_more : {X : Type 0} (p : X → Bool) (xs : List X) (k : ℕ) (x : X) → ((j : ℕ) (d : X) → j < k → p (get_or xs j d) ≡ false) → k < length xs → x ≡ get_or xs k x → p x ≡ false → (j : ℕ) (d : X) → j < k + 1 → p (get_or xs j d) ≡ false
none_more p xs k x before inside is this j d lt = go (Rattle.std.proofs.lemmas.Bool.cases_lt j k)
  where
    go : (j < k) ⊎ (k ≤ j) → p (get_or xs j d) ≡ false
    go (inl less) = before j d less
    go (inr le) =
        let same : j ≡ k = omega arith in
        let here : get_or xs k d ≡ x = Rattle.std.proofs.lemmas.List.get_or_default xs k d x inside ∙ sym is in
        ap (λ (n : ℕ). p (get_or xs n d)) same ∙ ap p here ∙ this
