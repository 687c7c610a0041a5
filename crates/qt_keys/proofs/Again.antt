-- A key table that is well is read of its spelling, and one that is read is well.
use Rattle.std.proofs.Common.{◌≡◌, ℕ, ◌+◌, ◌-◌, ◌<◌, ◌≤◌, ◌^◌, Bool, true, false, leb, cond, List, [], ◌∷◌, ◌++◌, length, map, take, drop, refl, sym, ap, subst, ◌∙◌, append_assoc, arith, Option, Some, None, length-append, eq-eqb}
use Rattle.std.specs.Prelude.{codes, count_by, nat_eq, ◌&&◌, ◌==◌}
use Rattle.std.specs.Int.{from_be_bytes, to_be_bytes, w32}
use Rattle.std.specs.List.{AllByRecursion, flat_map, list_all}
use Rattle.std.proofs.lemmas.Bool.{and_parts, eqb-true, le-leb, leb-true}
use Rattle.std.proofs.lemmas.List.{append-nil, drop_at, length-take, take_at, take-append-drop}
use Rattle.std.proofs.lemmas.List.Sums.{sum_by-cons}
use Rattle.std.proofs.lemmas.Nat.{from_be_bytes-to_be_bytes_4}
use Rattle.container_model.specs.Atoms.{atom, is}
use Rattle.container_model.specs.Chunk.{Chunk, spell, spell_all}
use Rattle.qt_keys.specs.Read.{child_by, child_read, entry_read, item_read, item_with, items_read, key_table, keys_read, keys_with, value_read}
use Rattle.qt_keys.specs.Short.{and_others, atom_at, each, size_at, stands_at}
use Rattle.qt_keys.specs.Table.{all_differ, child_bytes, entries_among, entry_atom, handles_keys, has_each_once, index_in, indexes_fit, is_handler, is_items, is_keys, is_lawful, is_within, item_atom, items_among, names_differ, table_bytes, value_atom}
use Rattle.qt_keys.specs.declared.table.KeyChild.{KeyChild}
use Rattle.qt_keys.specs.declared.table.KeyChild.TheVariants.{Other, Keys, Items}
use Rattle.qt_keys.specs.declared.table.KeyEntry.{KeyEntry}
use Rattle.qt_keys.specs.declared.table.KeyItem.{KeyItem}
use Rattle.qt_keys.specs.declared.table.KeyTable.{KeyTable}
use Rattle.qt_keys.proofs.Atoms.{each_more, each_none}
use Rattle.qt_keys.proofs.Pieces.{body_below, count_below, spelled_pieces}
use Rattle.qt_keys.proofs.Whole.{table_is}

-- ---- an atom before other bytes

pub record Stood (c : Chunk) : Type 0 where
  pub is : c ≡ atom c.id c.body
  pub four : length c.id ≡ 4
  pub small : length c.body + 8 < 2 ^ 32

size_again : (id body rest : List ℕ) → length body + 8 < 2 ^ 32 → size_at (spell (atom id body) ++ rest) ≡ length body + 8
size_again id body rest lt = from_be_bytes-to_be_bytes_4 (length body + 8) lt

pub spelled_as : (id body rest : List ℕ) → spell (atom id body) ++ rest ≡ to_be_bytes w32 (length body + 8) ++ (id ++ (body ++ rest))
spelled_as id body rest =
    append_assoc (to_be_bytes w32 (length body + 8) ++ id) (body ++ []) rest
    ∙ ap (λ (x : List ℕ). (to_be_bytes w32 (length body + 8) ++ id) ++ (x ++ rest)) (append-nil body)
    ∙ append_assoc (to_be_bytes w32 (length body + 8)) id (body ++ rest)

front_again : (id body rest : List ℕ) → length id ≡ 4 → length body + 8 < 2 ^ 32
    → (stands_at (spell (atom id body) ++ rest) ≡ true) × (atom_at (spell (atom id body) ++ rest) ≡ atom id body) × (drop (size_at (spell (atom id body) ++ rest)) (spell (atom id body) ++ rest) ≡ rest)
front_again id body rest four lt =
    let b = spell (atom id body) ++ rest in
    let size = size_again id body rest lt in
    let head = to_be_bytes w32 (length body + 8) in
    let len : length b ≡ 8 + (length body + length rest) = omega (arith, ap length (spelled_as id body rest), length-append id (body ++ rest), length-append body rest, four) in
    let low : leb 8 (size_at b) ≡ true = le-leb 8 (size_at b) (omega (arith, size)) in
    let high : leb (size_at b) (length b) ≡ true = le-leb (size_at b) (length b) (omega (arith, size, len)) in
    let behind_four : drop 4 b ≡ id ++ (body ++ rest) = ap (drop 4) (spelled_as id body rest) ∙ drop_at head (id ++ (body ++ rest)) 4 refl in
    let behind_eight : drop 8 b ≡ body ++ rest = sym (Rattle.std.proofs.lemmas.List.drop-drop 4 4 b) ∙ ap (drop 4) behind_four ∙ drop_at id (body ++ rest) 4 four in
    let type : take 4 (drop 4 b) ≡ id = ap (take 4) behind_four ∙ take_at id (body ++ rest) 4 four in
    let inner : take (size_at b - 8) (drop 8 b) ≡ body = ap (λ (x : List ℕ). take (size_at b - 8) x) behind_eight ∙ take_at body rest (size_at b - 8) (omega (arith, size)) in
    let after : drop (size_at b) b ≡ rest = ap (λ (n : ℕ). drop n b) (omega (arith, size)) ∙ sym (Rattle.std.proofs.lemmas.List.drop-drop (length body) 8 b) ∙ ap (drop (length body)) behind_eight ∙ drop_at body rest (length body) refl in
    (ap (λ (t : Bool). t && leb (size_at b) (length b)) low ∙ high, ap (λ (x : List ℕ). atom x (take (size_at b - 8) (drop 8 b))) type ∙ ap (atom id) inner, after)

module _ {A : Type 0} (g : Chunk → Option A) (h : A → Chunk) where
  abbrev pub Again : A → Type 0
  Again x = Stood (h x) × (g (h x) ≡ Some x)

  one_again : (x : A) (rest : List ℕ) → Again x → each g (spell (h x) ++ rest) ≡ and_others (Some x) (each g rest)
  one_again x rest a =
      let c = h x in
      let f = front_again c.id c.body rest a.0.four a.0.small in
      let same : spell c ++ rest ≡ spell (atom c.id c.body) ++ rest = ap (λ (d : Chunk). spell d ++ rest) a.0.is in
      let b = spell (atom c.id c.body) ++ rest in
      ap (each g) same
      ∙ each_more g b (omega (arith, ap length (spelled_as c.id c.body rest), length-append c.id (c.body ++ rest), a.0.four)) f.0
      ∙ ap (λ (d : Chunk). and_others (g d) (each g (drop (size_at b) b))) (f.1 ∙ sym a.0.is)
      ∙ ap (λ (o : Option A). and_others o (each g (drop (size_at b) b))) a.1
      ∙ ap (λ (y : List ℕ). and_others (Some x) (each g y)) f.2

  pub again : (xs : List A) → AllByRecursion Again xs → each g (flat_map (λ x. spell (h x)) xs) ≡ Some xs
  again [] a = each_none g
  again (x ∷ xs) a = one_again x (flat_map (λ y. spell (h y)) xs) a.0 ∙ ap (and_others (Some x)) (again xs a.1)

-- ---- what is well

-- an atom that is neither `keys` nor `ilst`
pub record IsOther (bytes : List ℕ) : Type 0 where
  pub chunk : Chunk
  pub spelled : bytes ≡ spell chunk
  pub is : chunk ≡ atom chunk.id chunk.body
  pub four : length chunk.id ≡ 4
  pub no_keys : Rattle.container_model.specs.Atoms.is chunk (codes "keys") ≡ false
  pub no_items : Rattle.container_model.specs.Atoms.is chunk (codes "ilst") ≡ false

-- some values, each with its type and locale
abbrev pub AreValues : List (List ℕ) → Type 0
AreValues [] = ⊥
AreValues (v ∷ vs) = (8 ≤ length v) × AllByRecursion (λ w. 8 ≤ length w) vs

abbrev pub WellEntry : KeyEntry → Type 0
WellEntry e = length e.space.0 ≡ 4

abbrev pub WellItem : KeyItem → Type 0
WellItem i = AreValues i.values

abbrev pub WellChild : KeyChild → Type 0
WellChild (Other bytes) = IsOther bytes
WellChild (Keys head es) = (head < 2 ^ 32) × AllByRecursion WellEntry es
WellChild (Items is) = AllByRecursion WellItem is

pub record Well (t : KeyTable) : Type 0 where
  pub children : AllByRecursion WellChild t.children
  pub lawful : is_lawful t.children ≡ true

-- ---- what is well is read of its spelling

-- bytes that fit in 16 MiB
abbrev Fits : List ℕ → Type 0
Fits b = length b ≤ 2 ^ 24

fits_parts : (a b : List ℕ) → Fits (a ++ b) → Fits a × Fits b
fits_parts a b f = (omega (arith, length-append a b), omega (arith, length-append a b))

stood : (id body : List ℕ) → length id ≡ 4 → Fits (spell (atom id body)) → Stood (atom id body)
stood id body four f = record { is = refl; four = four; small = omega (arith, body_below id body) }

inside : (id body : List ℕ) → Fits (spell (atom id body)) → Fits body
inside id body f = omega (arith, body_below id body)

entries_again : (es : List KeyEntry) → AllByRecursion WellEntry es → Fits (flat_map (λ e. spell (entry_atom e)) es) → AllByRecursion (Again entry_read entry_atom) es
entries_again [] w f = tt
entries_again (e ∷ es) w f = let p = fits_parts (spell (entry_atom e)) (flat_map (λ e. spell (entry_atom e)) es) f in ((stood e.space.0 e.name w.0 p.0, refl), entries_again es w.1 p.1)

value_again : (v : List ℕ) → 8 ≤ length v → value_read (value_atom v) ≡ Some v
value_again v le = ap (λ (t : Bool). cond t (Some v) None) (le-leb 8 (length v) le)

values_again : (vs : List (List ℕ)) → AllByRecursion (λ w. 8 ≤ length w) vs → Fits (flat_map (λ v. spell (value_atom v)) vs) → AllByRecursion (Again value_read value_atom) vs
values_again [] w f = tt
values_again (v ∷ vs) w f = let p = fits_parts (spell (value_atom v)) (flat_map (λ v. spell (value_atom v)) vs) f in ((stood (codes "data") v refl p.0, value_again v w.0), values_again vs w.1 p.1)

item_again : (i : KeyItem) → WellItem i → i.index < 2 ^ 32 → Fits (spell (item_atom i)) → Again item_read item_atom i
item_again i w lt f = (stood (to_be_bytes w32 i.index) (spell_all (map value_atom i.values)) refl f, go i.values w (inside (to_be_bytes w32 i.index) (spell_all (map value_atom i.values)) f) refl)
  where
    go : (vs : List (List ℕ)) → AreValues vs → Fits (spell_all (map value_atom vs)) → i.values ≡ vs → item_read (item_atom i) ≡ Some i
    go [] w f e = absurd w
    go (v ∷ vs) w f e =
        let pieces = spelled_pieces value_atom (v ∷ vs) in
        let read : each value_read (spell_all (map value_atom (v ∷ vs))) ≡ Some (v ∷ vs) = ap (each value_read) pieces ∙ again value_read value_atom (v ∷ vs) (values_again (v ∷ vs) w (omega (arith, ap length pieces))) in
        let all : each value_read (spell_all (map value_atom i.values)) ≡ Some (v ∷ vs) = ap (λ (us : List (List ℕ)). each value_read (spell_all (map value_atom us))) e ∙ read in
        ap (item_with (item_atom i)) all ∙ ap (λ (n : ℕ). Some (record { index = n; values = v ∷ vs })) (from_be_bytes-to_be_bytes_4 i.index lt) ∙ ap (λ (us : List (List ℕ)). Some (record { index = i.index; values = us })) (sym e)

abbrev pub SmallIndex : KeyItem → Type 0
SmallIndex i = i.index < 2 ^ 32

items_again : (is : List KeyItem) → AllByRecursion WellItem is → AllByRecursion SmallIndex is → Fits (flat_map (λ i. spell (item_atom i)) is) → AllByRecursion (Again item_read item_atom) is
items_again [] w s f = tt
items_again (i ∷ is) w s f = let p = fits_parts (spell (item_atom i)) (flat_map (λ i. spell (item_atom i)) is) f in (item_again i w.0 s.0 p.0, items_again is w.1 s.1 p.1)

-- the items of a child have small indexes
abbrev SmallItems : KeyChild → Type 0
SmallItems (Other bytes) = Unit {0}
SmallItems (Keys head es) = Unit {0}
SmallItems (Items is) = AllByRecursion SmallIndex is

-- a child as an atom
abbrev child_atom : KeyChild → Chunk
child_atom (Other bytes) = atom (take 4 (drop 4 bytes)) (drop 8 bytes)
child_atom (Keys head es) = atom (codes "keys") (to_be_bytes w32 head ++ (to_be_bytes w32 (length es) ++ spell_all (map entry_atom es)))
child_atom (Items is) = atom (codes "ilst") (spell_all (map item_atom is))

other_atom : (bytes : List ℕ) (w : IsOther bytes) → atom (take 4 (drop 4 bytes)) (drop 8 bytes) ≡ w.chunk
other_atom bytes w =
    let c = w.chunk in
    let head = to_be_bytes w32 (length c.body + 8) in
    let b : bytes ≡ head ++ (c.id ++ (c.body ++ [])) = sym (append-nil bytes) ∙ ap (λ (x : List ℕ). x ++ []) (w.spelled ∙ ap spell w.is) ∙ spelled_as c.id c.body [] in
    let four : drop 4 bytes ≡ c.id ++ (c.body ++ []) = ap (drop 4) b ∙ drop_at head (c.id ++ (c.body ++ [])) 4 refl in
    let eight : drop 8 bytes ≡ c.body = sym (Rattle.std.proofs.lemmas.List.drop-drop 4 4 bytes) ∙ ap (drop 4) four ∙ drop_at c.id (c.body ++ []) 4 w.four ∙ append-nil c.body in
    ap (λ (x : List ℕ). atom (take 4 x) (drop 8 bytes)) four ∙ ap (λ (x : List ℕ). atom x (drop 8 bytes)) (take_at c.id (c.body ++ []) 4 w.four) ∙ ap (atom c.id) eight ∙ sym w.is

child_spelled : (c : KeyChild) → WellChild c → child_bytes c ≡ spell (child_atom c)
child_spelled (Other bytes) w = w.spelled ∙ ap spell (sym (other_atom bytes w))
child_spelled (Keys head es) w = refl
child_spelled (Items is) w = refl

keys_again : (head : ℕ) (es : List KeyEntry) → head < 2 ^ 32 → AllByRecursion WellEntry es → Fits (child_bytes (Keys head es)) → child_read (child_atom (Keys head es)) ≡ Some (Keys head es)
keys_again head es lt w f =
    let h = to_be_bytes w32 head in
    let n = to_be_bytes w32 (length es) in
    let rest = spell_all (map entry_atom es) in
    let body = h ++ (n ++ rest) in
    let room : Fits body = inside (codes "keys") body f in
    let pieces = spelled_pieces entry_atom es in
    let small : length rest + 8 ≤ 2 ^ 24 = omega (arith, room, length-append h (n ++ rest), length-append n rest) in
    let read : each entry_read rest ≡ Some es = ap (each entry_read) pieces ∙ again entry_read entry_atom es (entries_again es w (omega (arith, ap length pieces, small))) in
    let count : (length es == from_be_bytes w32 n) ≡ true = eq-eqb (length es) (from_be_bytes w32 n) (sym (from_be_bytes-to_be_bytes_4 (length es) (omega (arith, count_below entry_atom es, small)))) in
    ap (keys_read body) (le-leb 8 (length body) (omega (arith, length-append h (n ++ rest), length-append n rest)))
    ∙ ap (keys_with body) read
    ∙ ap (λ (t : Bool). cond t (Some (Keys (from_be_bytes w32 h) es)) None) count ∙ ap (λ (k : ℕ). Some (Keys k es)) (from_be_bytes-to_be_bytes_4 head lt)

child_again : (c : KeyChild) → WellChild c → SmallItems c → Fits (child_bytes c) → Again child_read child_atom c
child_again (Other bytes) w s f =
    let a = other_atom bytes w in
    let c = w.chunk in
    let fits : Fits (spell (atom c.id c.body)) = subst (λ (x : List ℕ). length x ≤ 2 ^ 24) (w.spelled ∙ ap spell w.is) f in
    let st : Stood c = record { is = w.is; four = w.four; small = omega (arith, body_below c.id c.body, fits) } in
    let read : child_read c ≡ Some (Other bytes) = ap (λ (t : Bool). child_by c t (is c (codes "ilst"))) w.no_keys ∙ ap (child_by c false) w.no_items ∙ ap (λ (x : List ℕ). Some (Other x)) (sym w.spelled) in
    (subst Stood (sym a) st, ap child_read a ∙ read)
child_again (Keys head es) w s f = (stood (codes "keys") _ refl f, keys_again head es w.0 w.1 f)
child_again (Items is) w s f =
    let body = spell_all (map item_atom is) in
    let pieces = spelled_pieces item_atom is in
    let room = inside (codes "ilst") body f in
    let read : each item_read body ≡ Some is = ap (each item_read) pieces ∙ again item_read item_atom is (items_again is w s (omega (arith, ap length pieces, room))) in
    (stood (codes "ilst") body refl f, ap items_read read)

children_again : (cs : List KeyChild) → AllByRecursion WellChild cs → AllByRecursion SmallItems cs → Fits (flat_map child_bytes cs) → AllByRecursion (Again child_read child_atom) cs
children_again [] w s f = tt
children_again (c ∷ cs) w s f = let p = fits_parts (child_bytes c) (flat_map child_bytes cs) f in (child_again c w.0 s.0 p.0, children_again cs w.1 s.1 p.1)

children_spelled : (cs : List KeyChild) → AllByRecursion WellChild cs → flat_map child_bytes cs ≡ flat_map (λ c. spell (child_atom c)) cs
children_spelled [] w = refl
children_spelled (c ∷ cs) w = ap (λ (x : List ℕ). x ++ flat_map child_bytes cs) (child_spelled c w.0) ∙ ap (λ (x : List ℕ). spell (child_atom c) ++ x) (children_spelled cs w.1)

-- ---- the one `keys` and the one `ilst`

no_items : (cs : List KeyChild) → count_by is_items cs ≡ 0 → AllByRecursion SmallItems cs
no_items [] e = tt
no_items (Other bytes ∷ cs) e = (tt, no_items cs (omega (arith, e, sum_by-cons (λ (x : KeyChild). cond (is_items x) 1 0) (Other bytes) cs)))
no_items (Keys head es ∷ cs) e = (tt, no_items cs (omega (arith, e, sum_by-cons (λ (x : KeyChild). cond (is_items x) 1 0) (Keys head es) cs)))
no_items (Items is ∷ cs) e = absurd (omega (arith, e, sum_by-cons (λ (x : KeyChild). cond (is_items x) 1 0) (Items is) cs))

one_items : (cs : List KeyChild) → count_by is_items cs ≡ 1 → AllByRecursion SmallIndex (items_among cs) → AllByRecursion SmallItems cs
one_items [] e s = tt
one_items (Other bytes ∷ cs) e s = (tt, one_items cs (omega (arith, e, sum_by-cons (λ (x : KeyChild). cond (is_items x) 1 0) (Other bytes) cs)) s)
one_items (Keys head es ∷ cs) e s = (tt, one_items cs (omega (arith, e, sum_by-cons (λ (x : KeyChild). cond (is_items x) 1 0) (Keys head es) cs)) s)
one_items (Items is ∷ cs) e s = (s, no_items cs (omega (arith, e, sum_by-cons (λ (x : KeyChild). cond (is_items x) 1 0) (Items is) cs)))

within_small : (n : ℕ) (is : List KeyItem) → n < 2 ^ 32 → list_all (is_within n) is ≡ true → AllByRecursion SmallIndex is
within_small n [] lt e = tt
within_small n (i ∷ is) lt e =
    let p = and_parts (is_within n i) (list_all (is_within n) is) e in
    let q = and_parts (leb 1 i.index) (leb i.index n) p.0 in
    (omega (arith, leb-true i.index n q.1), within_small n is lt p.1)

pub entries_small : (cs : List KeyChild) → AllByRecursion WellChild cs → length (entries_among cs) ≤ length (flat_map child_bytes cs)
entries_small [] w = omega arith
entries_small (Other bytes ∷ cs) w = omega (arith, entries_small cs w.1, length-append bytes (flat_map child_bytes cs))
entries_small (Keys head es ∷ cs) w =
    let rest = spell_all (map entry_atom es) in
    let body = to_be_bytes w32 head ++ (to_be_bytes w32 (length es) ++ rest) in
    omega (arith, count_below entry_atom es, body_below (codes "keys") body, length-append (to_be_bytes w32 head) (to_be_bytes w32 (length es) ++ rest), length-append (to_be_bytes w32 (length es)) rest, length-append (spell (atom (codes "keys") body)) (flat_map child_bytes cs))
entries_small (Items is ∷ cs) w = omega (arith, entries_small cs w.1, length-append (child_bytes (Items is)) (flat_map child_bytes cs))

pub well_again : (t : KeyTable) → Well t → length (table_bytes t) ≤ 2 ^ 24 → key_table (table_bytes t) ≡ Some t
well_again t w f =
    let cs = t.children in
    let p = and_parts (has_each_once cs && list_all handles_keys cs) (names_differ (entries_among cs) && indexes_fit (length (entries_among cs)) (items_among cs)) w.lawful in
    let once = and_parts (has_each_once cs) (list_all handles_keys cs) p.0 in
    let q = and_parts (count_by is_handler cs == 1) ((count_by is_keys cs == 1) && (count_by is_items cs == 1)) once.0 in
    let r = and_parts (count_by is_keys cs == 1) (count_by is_items cs == 1) q.1 in
    let i = and_parts (names_differ (entries_among cs)) (indexes_fit (length (entries_among cs)) (items_among cs)) p.1 in
    let j = and_parts (list_all (is_within (length (entries_among cs))) (items_among cs)) (all_differ nat_eq (map index_in (items_among cs))) i.1 in
    let small = one_items cs (eqb-true _ _ r.1) (within_small (length (entries_among cs)) (items_among cs) (omega (arith, entries_small cs w.children, f)) j.0) in
    let read : each child_read (flat_map child_bytes cs) ≡ Some cs = ap (each child_read) (children_spelled cs w.children) ∙ again child_read child_atom cs (children_again cs w.children small f) in
    table_is (table_bytes t) t (record { small = f; read = read; lawful = w.lawful })
