-- One item more.
use Rattle.std.proofs.Common.{◌≡◌, ◌∙◌, ◌+◌, ◌-◌, ℕ, List, [], ◌∷◌, ◌++◌, length, map, drop, ap, sym, refl, arith, append_assoc, length-append, zero, suc, ◌<◌, ◌≤◌, ◌^◌, get_or, codes, subst, min}
use Rattle.std.proofs.lemmas.List.{take_all, length-drop}
use Rattle.container_model.specs.Chunk.{Chunk, Run, and_then, spell, spell_all}
use Rattle.std.specs.List.{AllByRecursion}
use Rattle.std.proofs.lemmas.List.{at_drop_more, at_drop_all, append-nil}
use Rattle.container_model.specs.Windows.{window}
use Rattle.container_model.specs.Chunk.{riff, header_bytes}
use Rattle.container_model.proofs.Plain.{ArePlain}
use Rattle.carrier_model.specs.Info.{remade}
use Rattle.carrier_model.proofs.Info.{list_again}
use Rattle.info_list.specs.declared.InfoItem.{InfoItem}
use Rattle.info_list.specs.declared.InfoList.{InfoList}
use Rattle.info_list.specs.Info.{item_of, chunk_of, item_bytes, inner, list_chunk, IsInfo, IsSpellable}

pub items_more : {X : Type 0} (f : Chunk → X) (rest : Run) (c : Chunk) (next : Run) (items whole : List X) → rest ≡ and_then c next
    → items ++ map f rest.chunks ≡ whole → (items ++ f c ∷ []) ++ map f next.chunks ≡ whole
items_more f rest c next items whole step e =
    append_assoc items (f c ∷ []) (map f next.chunks) ∙ ap (λ (r : Run). items ++ map f r.chunks) (sym step) ∙ e

pub place_more : (rest : Run) (c : Chunk) (next : Run) (at to whole : ℕ) → rest ≡ and_then c next → at + length (spell c) ≡ to
    → at + length (spell_all rest.chunks) ≡ whole → to + length (spell_all next.chunks) ≡ whole
place_more rest c next at to whole step is e =
    let same : length (spell_all rest.chunks) ≡ length (spell c ++ spell_all next.chunks) = ap (λ (r : Run). length (spell_all r.chunks)) step in
    omega (arith, same, length-append (spell c) (spell_all next.chunks), is, e)

pub whole_window : (b : List ℕ) → window b 0 (length b) ≡ b
whole_window b = take_all (length b - 0) b (omega arith)

pub rest_window : (b : List ℕ) (at : ℕ) → window b at (length b) ≡ drop at b
rest_window b at = take_all (length b - at) (drop at b) (omega (arith, length-drop at b))

-- ---- spelling

plain_items : (items : List InfoItem) → AllByRecursion (λ i. length i.id.0 ≡ 4) items → ArePlain (map chunk_of items)
plain_items [] h = tt
plain_items (i ∷ items) h = (record { form_is = refl; id_len = h.0 }, plain_items items h.1)

items_again : (items : List InfoItem) → map item_of (map remade (map chunk_of items)) ≡ items
items_again [] = refl
items_again (i ∷ items) = ap (λ (is : List InfoItem). i ∷ is) (items_again items)

spelled_short : (list : InfoList) → length (list_chunk list).body < 2 ^ 32 → length (spell_all (map remade (map chunk_of list.items))) < 2 ^ 32
spelled_short list h =
    let items = spell_all (map remade (map chunk_of list.items)) in
    omega (arith, h, length-append (codes "INFO") (items ++ list.rest), length-append items list.rest)

-- the items are read back
pub reads_back : (list : InfoList) → IsSpellable list → IsInfo (inner list) list
reads_back list h =
    let again = list_again (map chunk_of list.items) list.rest (plain_items list.items h.ids) h.short (spelled_short list h.small) in
    record {
      stop = ap (λ (r : Run). r.stop) again;
      items = sym (ap (λ (r : Run). map item_of r.chunks) again ∙ items_again list.items);
      rest = sym (ap (λ (r : Run). r.left) again);
    }

-- the items from a number on, spelled
abbrev pub bytes_from : ℕ → List InfoItem → List ℕ
bytes_from k items = spell_all (map remade (map chunk_of (drop k items)))

pub bytes_next : (items : List InfoItem) (k : ℕ) (d : InfoItem) → k < length items → bytes_from k items ≡ item_bytes (get_or items k d) ++ bytes_from (k + 1) items
bytes_next items k d h = at_drop_more (λ (xs : List InfoItem). spell_all (map remade (map chunk_of xs))) items k d h

pub bytes_end : (items : List InfoItem) (k : ℕ) → length items ≤ k → bytes_from k items ≡ []
bytes_end items k h = at_drop_all (λ (xs : List InfoItem). spell_all (map remade (map chunk_of xs))) items k h

-- an item is shorter than all of them
item_short : (items : List InfoItem) (k : ℕ) (d : InfoItem) → k < length items → length (get_or items k d).raw ≤ length (spell_all (map remade (map chunk_of items)))
item_short [] k d h = absurd (omega arith)
item_short (i ∷ items) zero d h =
    let c = remade (chunk_of i) in
    omega (arith, length-append (spell c) (spell_all (map remade (map chunk_of items))), length-append (header_bytes riff c.id (length c.body)) (c.body ++ c.pad), length-append c.body c.pad)
item_short (i ∷ items) (suc k) d h =
    omega (arith, item_short items k d (omega arith), length-append (spell (remade (chunk_of i))) (spell_all (map remade (map chunk_of items))))

pub item_small : (list : InfoList) (k : ℕ) (d : InfoItem) → length (list_chunk list).body < 2 ^ 32 → k < length list.items → length (get_or list.items k d).raw < 2 ^ 32
item_small list k d h inside = omega (arith, item_short list.items k d inside, spelled_short list h)

-- ---- a step of the loop, where an item is read of the same list

pub read_small : (list : InfoList) (xs : List InfoItem) (k : ℕ) (i : InfoItem) → length (list_chunk list).body < 2 ^ 32 → xs ≡ list.items → i ≡ get_or xs k i → k < length xs → length i.raw < 2 ^ 32
read_small list xs k i h same is inside =
    let P : List InfoItem → Type 0 = λ ys. k < length ys in
    let n : length i.raw ≡ length (get_or list.items k i).raw = ap (λ (j : InfoItem). length j.raw) (is ∙ ap (λ (ys : List InfoItem). get_or ys k i) same) in
    omega (arith, n, item_small list k i h (subst P same inside))

pub spelled_next : (items xs : List InfoItem) (k : ℕ) (i : InfoItem) (body new whole : List ℕ) → xs ≡ items → i ≡ get_or xs k i → k < length xs
    → new ≡ body ++ item_bytes i → body ++ bytes_from k items ≡ whole → new ++ bytes_from (k + 1) items ≡ whole
spelled_next items xs k i body new whole same is inside put so_far =
    let P : List InfoItem → Type 0 = λ ys. k < length ys in
    let here : get_or items k i ≡ i = sym (is ∙ ap (λ (ys : List InfoItem). get_or ys k i) same) in
    let next = bytes_next items k i (subst P same inside) in
    ap (λ (b : List ℕ). b ++ bytes_from (k + 1) items) put
    ∙ append_assoc body (item_bytes i) (bytes_from (k + 1) items)
    ∙ ap (λ (j : InfoItem). body ++ (item_bytes j ++ bytes_from (k + 1) items)) (sym here)
    ∙ ap (λ (b : List ℕ). body ++ b) (sym next) ∙ so_far

pub spelled_end : (items xs : List InfoItem) (k : ℕ) (body whole : List ℕ) → xs ≡ items → length xs ≤ k → body ++ bytes_from k items ≡ whole → body ≡ whole
spelled_end items xs k body whole same past so_far =
    let P : List InfoItem → Type 0 = λ ys. length ys ≤ k in
    sym (append-nil body) ∙ ap (λ (b : List ℕ). body ++ b) (sym (bytes_end items k (subst P same past))) ∙ so_far

-- ---- lengths, of which those above a limit are not told apart

pub len_more : (items xs : List InfoItem) (k : ℕ) (i : InfoItem) (len next whole limit : ℕ) → xs ≡ items → i ≡ get_or xs k i → k < length xs
    → next ≡ min (len + length (item_bytes i)) limit → min (len + length (bytes_from k items)) limit ≡ whole → min (next + length (bytes_from (k + 1) items)) limit ≡ whole
len_more items xs k i len next whole limit same is inside step so_far =
    let P : List InfoItem → Type 0 = λ ys. k < length ys in
    let here : get_or items k i ≡ i = sym (is ∙ ap (λ (ys : List InfoItem). get_or ys k i) same) in
    let split : length (bytes_from k items) ≡ length (item_bytes i ++ bytes_from (k + 1) items) =
    ap length (bytes_next items k i (subst P same inside) ∙ ap (λ (j : InfoItem). item_bytes j ++ bytes_from (k + 1) items) here)
    in
    omega (arith, split, length-append (item_bytes i) (bytes_from (k + 1) items), step, so_far)

pub len_end : (list : InfoList) (xs : List InfoItem) (k len result limit : ℕ) → xs ≡ list.items → length xs ≤ k → result ≡ min (len + length list.rest) limit
    → min (len + length (bytes_from k list.items)) limit ≡ min (4 + length (bytes_from 0 list.items)) limit → result ≡ min (length (list_chunk list).body) limit
len_end list xs k len result limit same past step so_far =
    let P : List InfoItem → Type 0 = λ ys. length ys ≤ k in
    let none : length (bytes_from k list.items) ≡ 0 = ap (λ (b : List ℕ). length b) (bytes_end list.items k (subst P same past)) in
    omega (arith, none, step, so_far, length-append (codes "INFO") (bytes_from 0 list.items ++ list.rest), length-append (bytes_from 0 list.items) list.rest)
