-- Changes of the items of user data against those of the atoms that they were read from.
use Rattle.std.proofs.Common.{◌≡◌, ℕ, zero, suc, subst, ◌+◌, ◌<◌, ◌≤◌, List, [], ◌∷◌, ◌++◌, length, map, drop, Bool, true, false, cond, not, ◌||◌, Option, Some, None, refl, sym, ap, ◌∙◌, arith, get_or, inl, inr}
use Rattle.std.specs.Prelude.{◌⊎◌}
use Rattle.std.specs.List.{AllByRecursion, filter, insert, position_or_len}
use Rattle.std.proofs.lemmas.Bool.{cases_lt}
use Rattle.std.proofs.lemmas.List.{at_drop_all, at_drop_more, get_or_default}
use Rattle.part_tree.specs.declared.field.Value.{Value}
use Rattle.container_model.specs.Chunk.{Chunk}
use Rattle.container_model.specs.Items.{has, hits, put_all, put_value, settled}
use Rattle.qt_atoms.specs.declared.header.SizeForm.TheVariants.{Short}
use Rattle.qt_text.specs.User.{user_items}
use Rattle.mov_plan.specs.Users.{changes_of, chunk_of}
use Rattle.mov_plan.specs.declared.user.UserChange.{UserChange}
use Rattle.mov_plan.specs.declared.user.UserItem.{UserItem}

-- an atom without a body
pub no_item : UserItem
no_item = record { form = Short; kind = record { 0 = [] }; body = [] }

-- whether an atom is an item of a type
abbrev pub named : List ℕ → UserItem → Bool
named name i = hits user_items name (chunk_of i)

-- the atoms that are none of a type
abbrev pub others : List ℕ → List UserItem → List UserItem
others name xs = filter (λ i. not (named name i)) xs

-- ---- items that go

pub others_settled : (name : List ℕ) (xs : List UserItem) → map chunk_of (others name xs) ≡ settled user_items name [] (map chunk_of xs)
others_settled name [] = refl
others_settled name (x ∷ xs) = go (named name x) (others_settled name xs)
  where
    go : (t : Bool) → map chunk_of (others name xs) ≡ settled user_items name [] (map chunk_of xs)
        → map chunk_of (cond (not t) (x ∷ others name xs) (others name xs)) ≡ cond t (settled user_items name [] (map chunk_of xs)) (chunk_of x ∷ settled user_items name [] (map chunk_of xs))
    go true ih = ih
    go false ih = ap (λ (cs : List Chunk). chunk_of x ∷ cs) ih

-- where no text is set
pub dropped : (name : List ℕ) (value : Option Value) (items new : List UserItem) → value ≡ None → new ≡ others name items → map chunk_of new ≡ put_value user_items name value (map chunk_of items)
dropped name value items new none left = ap (map chunk_of) left ∙ others_settled name items ∙ ap (λ (v : Option Value). put_value user_items name v (map chunk_of items)) (sym none)

-- what stands before the first one stays
pub first_within : (name : List ℕ) (xs : List UserItem) → position_or_len (named name) xs ≤ length (others name xs)
first_within name [] = omega arith
first_within name (x ∷ xs) = go (named name x) (first_within name xs)
  where
    go : (t : Bool) → position_or_len (named name) xs ≤ length (others name xs)
        → cond (not t) (1 + position_or_len (named name) xs) 0 ≤ length (cond (not t) (x ∷ others name xs) (others name xs))
    go true ih = omega arith
    go false ih = omega (arith, ih)

-- ---- the new item

insert_next : (x : UserItem) (ys : List UserItem) (k : ℕ) (i : UserItem) → insert (x ∷ ys) (1 + k) i ≡ x ∷ insert ys k i
insert_next x ys k i = let e : 1 + k ≡ suc k = omega arith in ap (λ (n : ℕ). insert (x ∷ ys) n i) e

pub put_is : (name : List ℕ) (v : Value) (new : UserItem) (xs : List UserItem) → chunk_of new ≡ user_items.make name v
    → map chunk_of (insert (others name xs) (position_or_len (named name) xs) new) ≡ put_value user_items name (Some v) (map chunk_of xs)
put_is name v new [] is = ap (λ (c : Chunk). c ∷ []) is
put_is name v new (x ∷ xs) is = go (named name x) (others_settled name xs) (put_is name v new xs is)
  where
    later : (t : Bool) → cond t (chunk_of x ∷ settled user_items name (user_items.make name v ∷ []) (map chunk_of xs)) (chunk_of x ∷ map chunk_of xs ++ user_items.make name v ∷ []) ≡ chunk_of x ∷ cond t (settled user_items name (user_items.make name v ∷ []) (map chunk_of xs)) (map chunk_of xs ++ user_items.make name v ∷ [])
    later true = refl
    later false = refl

    go : (t : Bool) → map chunk_of (others name xs) ≡ settled user_items name [] (map chunk_of xs)
        → map chunk_of (insert (others name xs) (position_or_len (named name) xs) new) ≡ put_value user_items name (Some v) (map chunk_of xs)
        → map chunk_of (insert (cond (not t) (x ∷ others name xs) (others name xs)) (cond (not t) (1 + position_or_len (named name) xs) 0) new)
        ≡ cond (t || has user_items name (map chunk_of xs))
        (cond t ((user_items.make name v ∷ []) ++ settled user_items name [] (map chunk_of xs)) (chunk_of x ∷ settled user_items name (user_items.make name v ∷ []) (map chunk_of xs)))
        (chunk_of x ∷ map chunk_of xs ++ user_items.make name v ∷ [])
    go true gone ih = ap (λ (c : Chunk). c ∷ map chunk_of (others name xs)) is ∙ ap (λ (cs : List Chunk). user_items.make name v ∷ cs) gone
    go false gone ih =
        ap (map chunk_of) (insert_next x (others name xs) (position_or_len (named name) xs) new)
        ∙ ap (λ (cs : List Chunk). chunk_of x ∷ cs) ih ∙ sym (later (has user_items name (map chunk_of xs)))

-- where the others are kept, and the new one stands where the first stood
pub put_done : (name : List ℕ) (v : Value) (item : UserItem) (xs ys new : List UserItem) (k : ℕ) → chunk_of item ≡ user_items.make name v → ys ≡ others name xs → k ≡ position_or_len (named name) xs → new ≡ insert ys k item
    → map chunk_of new ≡ put_value user_items name (Some v) (map chunk_of xs)
put_done name v item xs ys new k is left place put =
    ap (map chunk_of) (put ∙ ap (λ (zs : List UserItem). insert zs k item) left ∙ ap (λ (n : ℕ). insert (others name xs) n item) place) ∙ put_is name v item xs is

-- one item more is none of the type
pub none_more : (name : List ℕ) (xs : List UserItem) (k : ℕ) (i : UserItem) → ((j : ℕ) (d : UserItem) → j < k → named name (get_or xs j d) ≡ false)
    → k < length xs → i ≡ get_or xs k i → named name i ≡ false → (j : ℕ) (d : UserItem) → j < k + 1 → named name (get_or xs j d) ≡ false
none_more name xs k i before inside is this j d lt = go (cases_lt j k)
  where
    go : (j < k) ⊎ (k ≤ j) → named name (get_or xs j d) ≡ false
    go (inl less) = before j d less
    go (inr le) =
        let same : j ≡ k = omega arith in
        let here : get_or xs k d ≡ i = get_or_default xs k d i inside ∙ sym is in
        ap (λ (n : ℕ). named name (get_or xs n d)) same ∙ ap (named name) here ∙ this

-- ---- changes one after the other

pub put_more : (xs : List UserChange) (k : ℕ) (c : UserChange) (cs next whole : List Chunk) → k < length xs → c ≡ get_or xs k c
    → next ≡ put_value user_items c.kind.0 c.value cs → put_all user_items (changes_of (drop k xs)) cs ≡ whole → put_all user_items (changes_of (drop (k + 1) xs)) next ≡ whole
put_more xs k c cs next whole inside is step so_far =
    ap (put_all user_items (changes_of (drop (k + 1) xs))) step
    ∙ sym (at_drop_more (λ (ys : List UserChange). put_all user_items (changes_of ys) cs) xs k c inside ∙ ap (λ (d : UserChange). put_all user_items (changes_of (d ∷ drop (k + 1) xs)) cs) (sym is)) ∙ so_far

pub put_end : (xs : List UserChange) (k : ℕ) (cs whole : List Chunk) → length xs ≤ k → put_all user_items (changes_of (drop k xs)) cs ≡ whole → cs ≡ whole
put_end xs k cs whole past so_far = sym (at_drop_all (λ (ys : List UserChange). put_all user_items (changes_of ys) cs) xs k past) ∙ so_far

pub can_at : (P : UserChange → Type 0) (xs : List UserChange) (k : ℕ) (c : UserChange) → k < length xs → c ≡ get_or xs k c → AllByRecursion P xs → P c
can_at P [] k c lt e h = absurd (omega arith)
can_at P (x ∷ xs) zero c lt e h = subst P (sym e) h.0
can_at P (x ∷ xs) (suc k) c lt e h = can_at P xs k c (omega arith) e h.1
