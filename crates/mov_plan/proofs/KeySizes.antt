-- How many bytes the atoms of a key table have.
use Rattle.std.proofs.Common.{◌≡◌, ◌∙◌, ℕ, ◌+◌, ◌-◌, ◌<◌, ◌≤◌, ◌^◌, List, [], ◌++◌, length, map, get_or, min, sym, ap, arith, length-append}
use Rattle.std.specs.Prelude.{codes}
use Rattle.std.specs.Int.{to_be_bytes, w32}
use Rattle.std.specs.List.{flat_map}
use Rattle.std.proofs.lemmas.List.{at_drop_all, at_drop_more}
use Rattle.container_model.specs.Atoms.{atom}
use Rattle.container_model.specs.Chunk.{Chunk, header_bytes, short, spell, spell_all}
use Rattle.qt_keys.proofs.Pieces.{from, spelled_pieces}
use Rattle.qt_keys.specs.Table.{child_bytes, entry_atom, item_atom, value_atom}
use Rattle.qt_keys.specs.declared.table.KeyChild.TheVariants.{Items, Keys}
use Rattle.qt_keys.specs.declared.table.KeyEntry.{KeyEntry}
use Rattle.qt_keys.specs.declared.table.KeyItem.{KeyItem}

-- the most that 64 bits count
abbrev pub most : ℕ
most = 2 ^ 64 - 1

-- ---- pieces one after the other

module _ {A : Type 0} (f : A → List ℕ) where
  pub len_more : (xs : List A) (k : ℕ) (x : A) (len n next whole : ℕ) → x ≡ get_or xs k x → k < length xs → n ≡ min (length (f x)) most → next ≡ min (len + n) most
      → min (len + length (from f k xs)) most ≡ whole → min (next + length (from f (k + 1) xs)) most ≡ whole
  len_more xs k x len n next whole is lt one step so_far =
      let rest = from f (k + 1) xs in
      let split : length (from f k xs) ≡ length (f x ++ rest) = ap (λ (b : List ℕ). length b) (at_drop_more (λ (ys : List A). flat_map f ys) xs k x lt ∙ ap (λ (y : A). f y ++ rest) (sym is)) in
      omega (arith, split, length-append (f x) rest, one, step, so_far)

  pub len_end : (xs : List A) (k len whole : ℕ) → length xs ≤ k → len ≤ most → min (len + length (from f k xs)) most ≡ whole → len ≡ whole
  len_end xs k len whole past small so_far =
      let none : length (from f k xs) ≡ 0 = ap (λ (b : List ℕ). length b) (at_drop_all (λ (ys : List A). flat_map f ys) xs k past) in
      omega (arith, none, small, so_far)

-- the same of atoms
pub atoms_end : {A : Type 0} (g : A → Chunk) (xs : List A) (k len : ℕ) → length xs ≤ k → len ≤ most
    → min (len + length (from (λ x. spell (g x)) k xs)) most ≡ min (length (flat_map (λ x. spell (g x)) xs)) most → len ≡ min (length (spell_all (map g xs))) most
atoms_end g xs k len past small so_far =
    len_end (λ x. spell (g x)) xs k len _ past small so_far ∙ ap (λ (b : List ℕ). min (length b) most) (sym (spelled_pieces g xs))

-- ---- an atom

-- it has eight bytes more than its body
pub atom_length : (id body : List ℕ) → length (spell (atom id body)) ≡ 4 + (length id + length body)
atom_length id body =
    omega (
      arith,
      length-append (header_bytes short id (length body)) (body ++ []),
      length-append (to_be_bytes w32 (length body + 8)) id,
      length-append body [],
    )

-- an entry, whose namespace has four letters
pub entry_length : (e : KeyEntry) → length e.space.0 ≡ 4 → length (spell (entry_atom e)) ≡ length e.name + 8
entry_length e four = omega (arith, atom_length e.space.0 e.name, four)

pub value_length : (v : List ℕ) → length (spell (value_atom v)) ≡ length v + 8
value_length v = omega (arith, atom_length (codes "data") v)

pub item_length : (i : KeyItem) → length (spell (item_atom i)) ≡ length (spell_all (map value_atom i.values)) + 8
item_length i = omega (arith, atom_length (to_be_bytes w32 i.index) (spell_all (map value_atom i.values)))

pub keys_length : (head : ℕ) (es : List KeyEntry) → length (child_bytes (Keys head es)) ≡ (length (spell_all (map entry_atom es)) + 8) + 8
keys_length head es =
    let rest = spell_all (map entry_atom es) in
    omega (
      arith,
      atom_length (codes "keys") (to_be_bytes w32 head ++ (to_be_bytes w32 (length es) ++ rest)),
      length-append (to_be_bytes w32 head) (to_be_bytes w32 (length es) ++ rest),
      length-append (to_be_bytes w32 (length es)) rest,
    )

pub items_length : (is : List KeyItem) → length (child_bytes (Items is)) ≡ length (spell_all (map item_atom is)) + 8
items_length is = omega (arith, atom_length (codes "ilst") (spell_all (map item_atom is)))
