-- Changes of the items of a list against those of the chunks that it was read from.
use Rattle.std.proofs.Common.{◌≡◌, ℕ, suc, ◌+◌, ◌<◌, ◌≤◌, List, [], ◌∷◌, ◌++◌, length, map, drop, Bool, true, false, cond, not, ◌||◌, nat_lt, Option, Some, None, refl, sym, ap, ◌∙◌, arith, get_or, inl, inr, codes}
use Rattle.std.specs.Prelude.{◌⊎◌}
use Rattle.std.proofs.lemmas.Bool.{cases_lt}
use Rattle.std.proofs.lemmas.List.{at_drop_all, at_drop_more, get_or_default}
use Rattle.std.specs.List.{filter, insert, list_any, position_or_len}
use Rattle.part_tree.specs.Letters.{four}
use Rattle.part_tree.specs.declared.names.FourCc.{FourCc}
use Rattle.part_tree.proofs.Words.{any_before}
use Rattle.container_model.specs.Chunk.{Chunk, spell_all}
use Rattle.container_model.specs.Items.{Item, edit_carrier, has, has_mark, hits, item_token, put_all, put_value, settled}
use Rattle.container_model.proofs.Plain.{ArePlain, plain_chunks}
use Rattle.container_model.proofs.Items.{has_token}
use Rattle.carrier_model.specs.Info.{info, info_items, list_of, made, remade}
use Rattle.carrier_model.specs.Lists.{items_of}
use Rattle.info_list.specs.Changes.{changes_of}
use Rattle.info_list.specs.declared.edit.InfoChange.{InfoChange}
use Rattle.info_list.specs.declared.InfoItem.{InfoItem}
use Rattle.info_list.specs.declared.InfoList.{InfoList}
use Rattle.info_list.specs.Info.{IsInfo, chunk_of, chunks_of, item_of, items_run, list_chunk, made_of, tokens_of}

-- an item without a value
abbrev pub no_item : FourCc → InfoItem
no_item id = record { id = id; raw = [] }

-- whether an item is one of a field
abbrev pub named : List ℕ → InfoItem → Bool
named name i = hits info_items name (made_of i)

-- the items that are none of a field
abbrev pub others : List ℕ → List InfoItem → List InfoItem
others name xs = filter (λ i. not (named name i)) xs

-- ---- items that go

pub others_settled : (name : List ℕ) (xs : List InfoItem) → map made_of (others name xs) ≡ settled info_items name [] (map made_of xs)
others_settled name [] = refl
others_settled name (x ∷ xs) = go (named name x) (others_settled name xs)
  where
    go : (t : Bool) → map made_of (others name xs) ≡ settled info_items name [] (map made_of xs)
        → map made_of (cond (not t) (x ∷ others name xs) (others name xs)) ≡ cond t (settled info_items name [] (map made_of xs)) (made_of x ∷ settled info_items name [] (map made_of xs))
    go true ih = ih
    go false ih = ap (λ (cs : List Chunk). made_of x ∷ cs) ih

-- where no value is set
pub dropped : (name : List ℕ) (value : Option (List ℕ)) (items held new : List InfoItem) → value ≡ None → held ≡ items → new ≡ others name held
    → map made_of new ≡ put_value info_items name value (map made_of items)
dropped name value items held new none same left =
    ap (map made_of) (left ∙ ap (others name) same) ∙ others_settled name items ∙ ap (λ (v : Option (List ℕ)). put_value info_items name v (map made_of items)) (sym none)

-- what stands before the first one stays
pub first_within : (name : List ℕ) (xs : List InfoItem) → position_or_len (named name) xs ≤ length (others name xs)
first_within name [] = omega arith
first_within name (x ∷ xs) = go (named name x) (first_within name xs)
  where
    go : (t : Bool) → position_or_len (named name) xs ≤ length (others name xs)
        → cond (not t) (1 + position_or_len (named name) xs) 0 ≤ length (cond (not t) (x ∷ others name xs) (others name xs))
    go true ih = omega arith
    go false ih = omega (arith, ih)

others_few : (name : List ℕ) (xs : List InfoItem) → length (others name xs) ≤ length xs
others_few name [] = omega arith
others_few name (x ∷ xs) = go (named name x) (others_few name xs)
  where
    go : (t : Bool) → length (others name xs) ≤ length xs → length (cond (not t) (x ∷ others name xs) (others name xs)) ≤ length (x ∷ xs)
    go true ih = omega (arith, ih)
    go false ih = omega (arith, ih)

-- as many as before are the same
pub others_same : (name : List ℕ) (xs : List InfoItem) → length xs ≤ length (others name xs) → others name xs ≡ xs
others_same name [] h = refl
others_same name (x ∷ xs) h = go (named name x) h (others_few name xs) (others_same name xs)
  where
    go : (t : Bool) → length (x ∷ xs) ≤ length (cond (not t) (x ∷ others name xs) (others name xs)) → length (others name xs) ≤ length xs
        → (length xs ≤ length (others name xs) → others name xs ≡ xs) → cond (not t) (x ∷ others name xs) (others name xs) ≡ x ∷ xs
    go true h few ih = absurd (omega arith)
    go false h few ih = ap (λ (ys : List InfoItem). x ∷ ys) (ih (omega arith))

-- ---- the new item

insert_next : (x : InfoItem) (ys : List InfoItem) (k : ℕ) (i : InfoItem) → insert (x ∷ ys) (1 + k) i ≡ x ∷ insert ys k i
insert_next x ys k i = let e : 1 + k ≡ suc k = omega arith in ap (λ (n : ℕ). insert (x ∷ ys) n i) e

pub put_is : (name raw : List ℕ) (xs : List InfoItem)
    → map made_of (insert (others name xs) (position_or_len (named name) xs) (record { id = four name; raw = raw })) ≡ put_value info_items name (Some raw) (map made_of xs)
put_is name raw [] = refl
put_is name raw (x ∷ xs) = go (named name x) (others_settled name xs) (put_is name raw xs)
  where
    new : InfoItem
    new = record { id = four name; raw = raw }

    after : Bool → List Chunk → List Chunk
    after t cs = cond t (settled info_items name (made name raw ∷ []) cs) (cs ++ made name raw ∷ [])

    later : (t : Bool) → cond t (made_of x ∷ settled info_items name (made name raw ∷ []) (map made_of xs)) (made_of x ∷ map made_of xs ++ made name raw ∷ []) ≡ made_of x ∷ cond t (settled info_items name (made name raw ∷ []) (map made_of xs)) (map made_of xs ++ made name raw ∷ [])
    later true = refl
    later false = refl

    go : (t : Bool) → map made_of (others name xs) ≡ settled info_items name [] (map made_of xs)
        → map made_of (insert (others name xs) (position_or_len (named name) xs) new) ≡ put_value info_items name (Some raw) (map made_of xs)
        → map made_of (insert (cond (not t) (x ∷ others name xs) (others name xs)) (cond (not t) (1 + position_or_len (named name) xs) 0) new)
        ≡ cond (t || has info_items name (map made_of xs))
        (cond t ((made name raw ∷ []) ++ settled info_items name [] (map made_of xs)) (made_of x ∷ settled info_items name (made name raw ∷ []) (map made_of xs)))
        (made_of x ∷ map made_of xs ++ made name raw ∷ [])
    go true gone ih = ap (λ (cs : List Chunk). made name raw ∷ cs) gone
    go false gone ih =
        ap (map made_of) (insert_next x (others name xs) (position_or_len (named name) xs) new)
        ∙ ap (λ (cs : List Chunk). made_of x ∷ cs) ih ∙ sym (later (has info_items name (map made_of xs)))

-- where the others are kept, and the new one stands where the first stood
pub put_done : (item : InfoItem) (xs ys new : List InfoItem) (k : ℕ) → ys ≡ others item.id.0 xs → k ≡ position_or_len (named item.id.0) xs → new ≡ insert ys k item
    → map made_of new ≡ put_value info_items item.id.0 (Some item.raw) (map made_of xs)
put_done item xs ys new k left place put =
    ap (map made_of) (put ∙ ap (λ (zs : List InfoItem). insert zs k item) left ∙ ap (λ (n : ℕ). insert (others item.id.0 xs) n item) place) ∙ put_is item.id.0 item.raw xs

-- where as many are left as there were, none went
pub none_went : (name : List ℕ) (xs ys : List InfoItem) → ys ≡ others name xs → length xs ≤ length ys → ys ≡ xs
none_went name xs ys left many = left ∙ others_same name xs (omega (arith, many, ap (λ (zs : List InfoItem). length zs) left))

-- ---- whether there is one

-- one item more is none of the field
pub none_more : (name : List ℕ) (xs : List InfoItem) (k : ℕ) (i : InfoItem) → ((j : ℕ) (d : InfoItem) → j < k → named name (get_or xs j d) ≡ false)
    → k < length xs → i ≡ get_or xs k i → named name i ≡ false → (j : ℕ) (d : InfoItem) → j < k + 1 → named name (get_or xs j d) ≡ false
none_more name xs k i before inside is this j d lt = go (cases_lt j k)
  where
    go : (j < k) ⊎ (k ≤ j) → named name (get_or xs j d) ≡ false
    go (inl less) = before j d less
    go (inr le) =
        let same : j ≡ k = omega arith in
        let here : get_or xs k d ≡ i = get_or_default xs k d i inside ∙ sym is in
        ap (λ (n : ℕ). named name (get_or xs n d)) same ∙ ap (named name) here ∙ this

any_has : (name : List ℕ) (xs : List InfoItem) → list_any (named name) xs ≡ has info_items name (map made_of xs)
any_has name [] = refl
any_has name (x ∷ xs) = ap (λ (t : Bool). named name x || t) (any_has name xs)

pub mark_before : (name : List ℕ) (xs : List InfoItem) → has_mark name (map (item_token info_items) (map made_of xs)) ≡ nat_lt (position_or_len (named name) xs) (length xs)
mark_before name xs = has_token info_items name (map made_of xs) ∙ sym (any_has name xs) ∙ any_before (named name) xs

pub mark_here : (name : List ℕ) (items xs : List InfoItem) (k : ℕ) → xs ≡ items → k ≡ position_or_len (named name) xs
    → nat_lt k (length xs) ≡ has_mark name (map (item_token info_items) (map made_of items))
mark_here name items xs k same place =
    ap (λ (n : ℕ). nat_lt n (length xs)) place ∙ ap (λ (ys : List InfoItem). nat_lt (position_or_len (named name) ys) (length ys)) same ∙ sym (mark_before name items)

-- ---- changes one after the other

pub put_more : (xs : List InfoChange) (k : ℕ) (c : InfoChange) (value : Option (List ℕ)) (cs next whole : List Chunk) → k < length xs → c ≡ get_or xs k c → value ≡ c.value
    → next ≡ put_value info_items c.id.0 value cs → put_all info_items (changes_of (drop k xs)) cs ≡ whole → put_all info_items (changes_of (drop (k + 1) xs)) next ≡ whole
put_more xs k c value cs next whole inside is copied step so_far =
    ap (put_all info_items (changes_of (drop (k + 1) xs))) (step ∙ ap (λ (v : Option (List ℕ)). put_value info_items c.id.0 v cs) copied)
    ∙ sym (at_drop_more (λ (ys : List InfoChange). put_all info_items (changes_of ys) cs) xs k c inside ∙ ap (λ (d : InfoChange). put_all info_items (changes_of (d ∷ drop (k + 1) xs)) cs) (sym is)) ∙ so_far

pub put_end : (xs : List InfoChange) (k : ℕ) (cs whole : List Chunk) → length xs ≤ k → put_all info_items (changes_of (drop k xs)) cs ≡ whole → cs ≡ whole
put_end xs k cs whole past so_far = sym (at_drop_all (λ (ys : List InfoChange). put_all info_items (changes_of ys) cs) xs k past) ∙ so_far

-- ---- chunks whose pads are other ones

settled_remade : (name : List ℕ) (new cs : List Chunk) → map remade (settled info_items name new cs) ≡ settled info_items name (map remade new) (map remade cs)
settled_remade name new [] = refl
settled_remade name new (c ∷ cs) = go (hits info_items name c) (settled_remade name [] cs) (settled_remade name new cs)
  where
    append : (xs ys : List Chunk) → map remade (xs ++ ys) ≡ map remade xs ++ map remade ys
    append [] ys = refl
    append (x ∷ xs) ys = ap (λ (zs : List Chunk). remade x ∷ zs) (append xs ys)

    go : (t : Bool) → map remade (settled info_items name [] cs) ≡ settled info_items name [] (map remade cs) → map remade (settled info_items name new cs) ≡ settled info_items name (map remade new) (map remade cs)
        → map remade (cond t (new ++ settled info_items name [] cs) (c ∷ settled info_items name new cs)) ≡ cond t (map remade new ++ settled info_items name [] (map remade cs)) (remade c ∷ settled info_items name (map remade new) (map remade cs))
    go true gone ih = append new (settled info_items name [] cs) ∙ ap (λ (xs : List Chunk). map remade new ++ xs) gone
    go false gone ih = ap (λ (xs : List Chunk). remade c ∷ xs) ih

has_remade : (name : List ℕ) (cs : List Chunk) → has info_items name (map remade cs) ≡ has info_items name cs
has_remade name [] = refl
has_remade name (c ∷ cs) = ap (λ (t : Bool). hits info_items name c || t) (has_remade name cs)

value_remade : (name : List ℕ) (value : Option (List ℕ)) (cs : List Chunk) → map remade (put_value info_items name value cs) ≡ put_value info_items name value (map remade cs)
value_remade name None cs = settled_remade name [] cs
value_remade name (Some v) cs = go (has info_items name cs) ∙ ap (λ (t : Bool). cond t (settled info_items name (made name v ∷ []) (map remade cs)) (map remade cs ++ made name v ∷ [])) (sym (has_remade name cs))
  where
    append : (xs ys : List Chunk) → map remade (xs ++ ys) ≡ map remade xs ++ map remade ys
    append [] ys = refl
    append (x ∷ xs) ys = ap (λ (zs : List Chunk). remade x ∷ zs) (append xs ys)

    go : (t : Bool) → map remade (cond t (settled info_items name (made name v ∷ []) cs) (cs ++ made name v ∷ [])) ≡ cond t (settled info_items name (made name v ∷ []) (map remade cs)) (map remade cs ++ made name v ∷ [])
    go true = settled_remade name (made name v ∷ []) cs
    go false = append cs (made name v ∷ [])

pub all_remade : (e : List (Item (List ℕ))) (cs : List Chunk) → map remade (put_all info_items e cs) ≡ put_all info_items e (map remade cs)
all_remade [] cs = refl
all_remade (i ∷ e) cs = all_remade e (put_value info_items i.name i.value cs) ∙ ap (put_all info_items e) (value_remade i.name i.value cs)

pub made_remade : (xs : List InfoItem) → map remade (map chunk_of xs) ≡ map made_of xs
made_remade [] = refl
made_remade (x ∷ xs) = ap (λ (cs : List Chunk). made_of x ∷ cs) (made_remade xs)

pub read_remade : (cs : List Chunk) → map made_of (map item_of cs) ≡ map remade cs
read_remade [] = refl
read_remade (c ∷ cs) = ap (λ (xs : List Chunk). remade c ∷ xs) (read_remade cs)

-- ---- the whole list

-- a chunk with these items and this rest
of_items : (items more : List Chunk) (rest left : List ℕ) → map remade items ≡ map remade more → rest ≡ left → list_of items rest ≡ list_of more left
of_items items more rest left same e =
    ap (λ (cs : List Chunk). made (codes "LIST") (codes "INFO" ++ (spell_all cs ++ rest))) same
    ∙ ap (λ (r : List ℕ). list_of more r) e

remade_twice : (cs : List Chunk) → map remade (map remade cs) ≡ map remade cs
remade_twice [] = refl
remade_twice (c ∷ cs) = ap (λ (xs : List Chunk). remade c ∷ xs) (remade_twice cs)

pub edited_list : (c : Chunk) (e : List (Item (List ℕ))) (old new : InfoList) → IsInfo (drop 4 c.body) old → chunks_of new ≡ put_all info_items e (chunks_of old)
    → new.rest ≡ old.rest → list_chunk new ≡ edit_carrier info info_items e c
edited_list c e old new read put rest =
    let cs = (items_run (drop 4 c.body)).chunks in
    let was : chunks_of old ≡ map remade cs = ap (map made_of) read.items ∙ read_remade cs in
    let now : map remade (map chunk_of new.items) ≡ map remade (put_all info_items e cs) =
    made_remade new.items ∙ put ∙ ap (put_all info_items e) was ∙ sym (all_remade e cs)
    in
    of_items (map chunk_of new.items) (put_all info_items e cs) new.rest (items_run (drop 4 c.body)).left now (rest ∙ read.rest)

pub fresh_list : (e : List (Item (List ℕ))) (new : InfoList) → chunks_of new ≡ put_all info_items e [] → new.rest ≡ [] → list_chunk new ≡ info.fresh (put_all info_items e [])
fresh_list e new put rest =
    of_items (map chunk_of new.items) (put_all info_items e []) new.rest [] (made_remade new.items ∙ put ∙ sym (all_remade e [])) rest

-- the marks of the items that are read
token_again : (cs : List Chunk) → ArePlain cs → map (item_token info_items) (map remade cs) ≡ map (item_token info_items) cs
token_again [] h = refl
token_again (c ∷ cs) h = rw (h.0.form_is, token_again cs h.1) refl

pub read_tokens : (c : Chunk) (list : InfoList) → IsInfo (drop 4 c.body) list → tokens_of list ≡ items_of info info_items c
read_tokens c list read =
    let cs = (items_run (drop 4 c.body)).chunks in
    ap (λ (is : List InfoItem). map (item_token info_items) (map made_of is)) read.items ∙ ap (map (item_token info_items)) (read_remade cs) ∙ token_again cs (plain_chunks (drop 4 c.body))
