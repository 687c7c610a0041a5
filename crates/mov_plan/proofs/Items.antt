-- The atoms of user data, read one after the other and spelled one after the other.
use Rattle.std.proofs.Common.{◌≡◌, ◌∙◌, ℕ, ◌+◌, ◌-◌, ◌≤◌, ◌<◌, ◌^◌, List, [], ◌∷◌, ◌++◌, length, map, drop, get_or, min, refl, sym, ap, arith, append_assoc, append-nil, length-append, length-drop, zero, suc}
use Rattle.std.specs.declared.option.Option.TheVariants.{None}
use Rattle.std.proofs.lemmas.List.{at_drop_all, at_drop_more, take_all}
use Rattle.container_model.specs.Chunk.{Chunk, Run, and_then, chunks, header_bytes, spell, spell_all}
use Rattle.container_model.specs.Sizes.{Level, atom_front, user}
use Rattle.container_model.specs.Windows.{window}
use Rattle.qt_atoms.specs.Walk.{Stepped, Stuck, row}
use Rattle.qt_atoms.specs.declared.walker.HeaderFault.{HeaderFault}
use Rattle.qt_atoms.specs.declared.walker.HeaderFault.TheVariants.{SizeSmall, Truncated}
use Rattle.container_model.specs.Items.{Item, put_all}
use Rattle.part_tree.specs.declared.field.Value.{Value}
use Rattle.qt_text.specs.User.{user_items}
use Rattle.mov_plan.specs.Users.{chunk_of, edited_body, edited_items, opened}
use Rattle.mov_plan.specs.declared.user.UserItem.{UserItem}

-- ---- read

-- all bytes from the start to the end
pub whole_window : (b : List ℕ) (end : ℕ) → end ≡ length b → window b 0 end ≡ b
whole_window b end e = take_all (end - 0) b (omega (arith, e))

pub whole_row : (b : List ℕ) (end : ℕ) → end ≡ length b → row user b 0 end ≡ opened b
whole_row b end e = ap (λ (x : List ℕ). chunks atom_front user x) (whole_window b end e)

map_more : (xs : List UserItem) (i : UserItem) → map chunk_of (xs ++ i ∷ []) ≡ map chunk_of xs ++ chunk_of i ∷ []
map_more [] i = refl
map_more (x ∷ xs) i = ap (λ (cs : List Chunk). chunk_of x ∷ cs) (map_more xs i)

-- one atom more
pub items_more : (xs new : List UserItem) (i : UserItem) (c : Chunk) (here next : Run) (all : List Chunk) → new ≡ xs ++ i ∷ [] → chunk_of i ≡ c → here ≡ and_then c next
    → map chunk_of xs ++ here.chunks ≡ all → map chunk_of new ++ next.chunks ≡ all
items_more xs new i c here next all put is step so_far =
    ap (λ (ys : List UserItem). map chunk_of ys ++ next.chunks) put
    ∙ ap (λ (cs : List Chunk). cs ++ next.chunks) (map_more xs i)
    ∙ append_assoc (map chunk_of xs) (chunk_of i ∷ []) next.chunks
    ∙ ap (λ (d : Chunk). map chunk_of xs ++ d ∷ next.chunks) is
    ∙ ap (λ (r : Run). map chunk_of xs ++ r.chunks) (sym step)
    ∙ so_far

-- where no atom is read, nothing of what is left is one
pub none_read : (s : Level) (b : List ℕ) (at end : ℕ) → Stepped s b at end None → ((row s b at end).chunks ≡ []) × ((row s b at end).left ≡ window b at end)
none_read s b at end h = (ap (λ (r : Run). r.chunks) h, ap (λ (r : Run). r.left) h)

pub stuck_read : (s : Level) (b : List ℕ) (at end : ℕ) (fault : HeaderFault) → Stuck s b at end fault → ((row s b at end).chunks ≡ []) × ((row s b at end).left ≡ window b at end)
stuck_read s b at end (SizeSmall p) h = (ap (λ (r : Run). r.chunks) h.0, ap (λ (r : Run). r.left) h.0)
stuck_read s b at end (Truncated p) h = (ap (λ (r : Run). r.chunks) h.0, ap (λ (r : Run). r.left) h.0)

pub last_window : (b : List ℕ) (at end : ℕ) → end ≡ length b → window b at end ≡ drop at b
last_window b at end e = take_all (end - at) (drop at b) (omega (arith, e, length-drop at b))

-- ---- spelled

pub spelled_next : (xs : List UserItem) (k : ℕ) (i : UserItem) (out new whole : List ℕ) → i ≡ get_or xs k i → k < length xs → new ≡ out ++ spell (chunk_of i)
    → out ++ spell_all (map chunk_of (drop k xs)) ≡ whole → new ++ spell_all (map chunk_of (drop (k + 1) xs)) ≡ whole
spelled_next xs k i out new whole is lt put so_far =
    let next : spell_all (map chunk_of (drop k xs)) ≡ spell (chunk_of (get_or xs k i)) ++ spell_all (map chunk_of (drop (k + 1) xs)) = at_drop_more (λ (ys : List UserItem). spell_all (map chunk_of ys)) xs k i lt in
    ap (λ (b : List ℕ). b ++ spell_all (map chunk_of (drop (k + 1) xs))) put
    ∙ append_assoc out (spell (chunk_of i)) (spell_all (map chunk_of (drop (k + 1) xs)))
    ∙ ap (λ (j : UserItem). out ++ (spell (chunk_of j) ++ spell_all (map chunk_of (drop (k + 1) xs)))) is
    ∙ ap (λ (b : List ℕ). out ++ b) (sym next) ∙ so_far

pub spelled_end : (xs : List UserItem) (k : ℕ) (out whole : List ℕ) → length xs ≤ k → out ++ spell_all (map chunk_of (drop k xs)) ≡ whole → out ≡ whole
spelled_end xs k out whole past so_far =
    sym (append-nil out) ∙ ap (λ (b : List ℕ). out ++ b) (sym (at_drop_all (λ (ys : List UserItem). spell_all (map chunk_of ys)) xs k past)) ∙ so_far

-- each atom is no longer than all
pub item_small : (xs : List UserItem) (k : ℕ) (i : UserItem) (n : ℕ) → i ≡ get_or xs k i → k < length xs → length (spell_all (map chunk_of xs)) ≤ n → length i.body ≤ n
item_small [] k i n is lt h = absurd (omega arith)
item_small (x ∷ xs) zero i n is lt h =
    let same : length i.body ≡ length x.body = ap (λ (j : UserItem). length j.body) is in
    let c = chunk_of x in
    omega (arith, same, h, length-append (spell c) (spell_all (map chunk_of xs)), length-append (header_bytes c.form c.id (length c.body)) (c.body ++ []), length-append c.body [])
item_small (x ∷ xs) (suc k) i n is lt h = item_small xs k i n is (omega arith) (omega (arith, h, length-append (spell (chunk_of x)) (spell_all (map chunk_of xs))))

-- ---- how long they are

pub len_more : (xs : List UserItem) (k : ℕ) (i : UserItem) (len next whole limit : ℕ) → i ≡ get_or xs k i → k < length xs → next ≡ min (len + length (spell (chunk_of i))) limit
    → min (len + length (spell_all (map chunk_of (drop k xs)))) limit ≡ whole → min (next + length (spell_all (map chunk_of (drop (k + 1) xs)))) limit ≡ whole
len_more xs k i len next whole limit is lt step so_far =
    let rest = spell_all (map chunk_of (drop (k + 1) xs)) in
    let split : length (spell_all (map chunk_of (drop k xs))) ≡ length (spell (chunk_of i) ++ rest) =
    ap (λ (b : List ℕ). length b) (at_drop_more (λ (ys : List UserItem). spell_all (map chunk_of ys)) xs k i lt ∙ ap (λ (j : UserItem). spell (chunk_of j) ++ rest) (sym is))
    in
    omega (arith, split, length-append (spell (chunk_of i)) rest, step, so_far)

pub len_end : (xs : List UserItem) (k len rest result limit : ℕ) → length xs ≤ k → result ≡ min (len + rest) limit
    → min (len + length (spell_all (map chunk_of (drop k xs)))) limit ≡ min (length (spell_all (map chunk_of xs))) limit → result ≡ min (length (spell_all (map chunk_of xs)) + rest) limit
len_end xs k len rest result limit past step so_far =
    let none : length (spell_all (map chunk_of (drop k xs))) ≡ 0 = ap (λ (b : List ℕ). length b) (at_drop_all (λ (ys : List UserItem). spell_all (map chunk_of ys)) xs k past) in
    omega (arith, none, step, so_far)

-- ---- the whole body

pub map_long : (xs : List UserItem) → length (map chunk_of xs) ≡ length xs
map_long [] = refl
map_long (x ∷ xs) = ap suc (map_long xs)

-- the atoms after an edit, by those that were read
pub edited_are : (e : List (Item Value)) (body : List ℕ) (items new : List UserItem) → map chunk_of items ≡ (opened body).chunks → map chunk_of new ≡ put_all user_items e (map chunk_of items)
    → map chunk_of new ≡ edited_items e body
edited_are e body items new read put = put ∙ ap (put_all user_items e) read

pub body_is : (e : List (Item Value)) (body rest out spelled : List ℕ) (new : List UserItem) → map chunk_of new ≡ edited_items e body → rest ≡ (opened body).left → spelled ≡ spell_all (map chunk_of new) → out ≡ spelled ++ rest → out ≡ edited_body e body
body_is e body rest out spelled new edited left spell made =
    made ∙ ap (λ (x : List ℕ). x ++ rest) (spell ∙ ap spell_all edited) ∙ ap (λ (x : List ℕ). spell_all (edited_items e body) ++ x) left

pub size_is : (e : List (Item Value)) (body rest : List ℕ) (new : List UserItem) (size n : ℕ) → map chunk_of new ≡ edited_items e body → rest ≡ (opened body).left → n ≡ length rest
    → size ≡ min (length (spell_all (map chunk_of new)) + n) (2 ^ 64 - 1) → (size ≡ 2 ^ 64 - 1 → ⊥) → size ≡ length (edited_body e body)
size_is e body rest new size n edited left long is small =
    let spelled = ap (λ (cs : List Chunk). length (spell_all cs)) edited in
    let behind = ap (λ (x : List ℕ). length x) left in
    let whole : size ≡ length (spell_all (map chunk_of new)) + n = omega (arith, is, small) in
    omega (arith, whole, spelled, behind, long, length-append (spell_all (edited_items e body)) (opened body).left)
