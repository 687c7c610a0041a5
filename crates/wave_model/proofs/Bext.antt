-- The body of `bext` stays as long as it has to be, and small enough.
use Rattle.std.proofs.Common.{◌≡◌, ℕ, zero, suc, ◌+◌, ◌-◌, ◌^◌, ◌<◌, ◌≤◌, Bool, true, false, cond, leb, eqb, List, [], ◌∷◌, ◌++◌, length, take, drop, replicate, Option, Some, None, refl, sym, ◌∙◌, arith, inl, inr}
use Rattle.std.specs.Prelude.{◌⊎◌}
use Rattle.std.proofs.lemmas.Bool.{cases_lt}
use Rattle.std.proofs.lemmas.List.{length-append, length-take, length-drop, take-append-le}
use Rattle.part_tree.specs.declared.field.FieldName.{FieldName}
use Rattle.part_tree.specs.declared.field.FieldName.TheVariants.{Bext, Info, Whole}
use Rattle.part_tree.specs.declared.field.Value.{Value}
use Rattle.part_tree.specs.Names.{bext_row}
use Rattle.me_bytes.specs.Bytes.{le_bytes}
use Rattle.field_model.specs.Bext.{range_len, lay_range, new_body, version, no_loudness, without_loudness, without_umid, raised}
use Rattle.field_model.specs.Body.{lay_item, lay_items, edited_bext, FillsRange, FitBext}
use Rattle.field_model.specs.Update.{RawItem, needed}
use Rattle.field_model.proofs.Ranges.{length_lay_fixed}
use Rattle.field_model.proofs.Raised.{row_small}
use Rattle.wave_model.proofs.Values.{ItemFine, ItemsFine}

-- ---- bytes in front of others

pub within : (x y z : List ℕ) (a l : ℕ) → a + l ≤ length x → take l (drop a (x ++ y)) ≡ take l (drop a (x ++ z))
within x y z zero l h = take-append-le l x y (omega arith) ∙ sym (take-append-le l x z (omega arith))
within [] y z (suc a) l h = absurd (omega arith)
within (c ∷ x) y z (suc a) l h = within x y z a l (omega arith)

-- ---- a body of at least 602 bytes and at most 16 MiB

abbrev pub IsBody : List ℕ → Type 0
IsBody b = (602 ≤ length b) × (length b ≤ 2 ^ 24)

fixed_body : (j : ℕ) (raw b : List ℕ) → j < 14 → length raw ≡ range_len j 0 → IsBody b → IsBody (lay_range j raw b)
fixed_body j raw b l e h = let n = length_lay_fixed j raw b l h.0 e in (omega (arith, n, h.0), omega (arith, n, h.1))

last_body : (raw b : List ℕ) → length raw ≤ 2 ^ 20 → IsBody b → IsBody (lay_range 14 raw b)
last_body raw b l h =
    let n = length b in
    let size : length (lay_range 14 raw b) ≡ 602 + length raw
    = omega (arith, h.0, length-append (take 602 b) (raw ++ drop (602 + (n - 602)) b), length-append raw (drop (602 + (n - 602)) b), length-take 602 b, length-drop (602 + (n - 602)) b) in
    (omega (arith, size), omega (arith, size))

silent_body : (b : List ℕ) → IsBody b → IsBody (without_loudness b)
silent_body b h =
    fixed_body 8 no_loudness _ (omega arith) refl
    (fixed_body 9 no_loudness _ (omega arith) refl (fixed_body 10 no_loudness _ (omega arith) refl (fixed_body 11 no_loudness _ (omega arith) refl (fixed_body 12 no_loudness b (omega arith) refl h))))

abbrev zeros : List ℕ
zeros = replicate 64 0

umid_body : (u : Bool) (b : List ℕ) → IsBody b → IsBody (cond u (without_umid b) b)
umid_body true b h = fixed_body 7 zeros b (omega arith) refl h
umid_body false b h = h

loud_body : (t : Bool) (b : List ℕ) → IsBody b → IsBody (cond t (without_loudness b) b)
loud_body true b h = silent_body b h
loud_body false b h = h

raised_body : (to : ℕ) (b : List ℕ) → IsBody b → IsBody (raised to b)
raised_body to b h = go (leb to (version b))
  where
    go : (t : Bool) → IsBody (cond t b (lay_range 6 (le_bytes 2 to) (cond (eqb to 2) (without_loudness (cond (eqb (version b) 0) (without_umid b) b)) (cond (eqb (version b) 0) (without_umid b) b))))
    go true = h
    go false = fixed_body 6 (le_bytes 2 to) _ (omega arith) refl (loud_body (eqb to 2) _ (umid_body (eqb (version b) 0) b h))

item_body : (name : FieldName) (value : Option Value) (b : List ℕ) → ItemFine name value → IsBody b → IsBody (lay_item name value b)
item_body (Bext field) None b f h = absurd f
item_body (Bext field) (Some v) b f h = go (bext_row field) (row_small field) f.1 f.2
  where
    go : (j : ℕ) → j ≤ 14 → (j ≡ 14) ⊎ (length v.raw ≡ range_len j 0) → (j ≡ 14 → length v.raw ≤ 2 ^ 20) → IsBody (lay_range j v.raw b)
    go j l g s = by (cases_lt j 14) g
      where
        by : (j < 14) ⊎ (14 ≤ j) → (j ≡ 14) ⊎ (length v.raw ≡ range_len j 0) → IsBody (lay_range j v.raw b)
        by (inl lt) (inl e) = absurd (omega arith)
        by (inl lt) (inr e) = fixed_body j v.raw b lt e h
        by (inr le) g = let last : j ≡ 14 = omega arith in rw last (last_body v.raw b (s last) h)
item_body (Info id) v b f h = h
item_body (Whole id) v b f h = h
item_body name v b f h = h

items_body : (e : List RawItem) (b : List ℕ) → ItemsFine e → IsBody b → IsBody (lay_items e b)
items_body [] b f h = h
items_body (i ∷ e) b f h = items_body e (lay_item i.name i.value b) f.1 (item_body i.name i.value b f.0 h)

pub edited_body : (e : List RawItem) (b : List ℕ) → ItemsFine e → IsBody b → IsBody (edited_bext e b)
edited_body e b f h = items_body e (raised (needed e) b) f (raised_body (needed e) b h)

pub new_is_body : IsBody new_body
new_is_body = (omega arith, omega arith)

-- items that are fine fit the ranges of bext
pub fit_bext : (e : List RawItem) → ItemsFine e → FitBext e
fit_bext [] f = tt
fit_bext (i ∷ e) f = (one i.name i.value f.0, fit_bext e f.1)
  where
    one : (name : FieldName) (value : Option Value) → ItemFine name value → Rattle.field_model.specs.Body.FitsBext name value
    one (Bext field) None h = h
    one (Bext field) (Some v) h = (h.0, h.1)
    one (Info id) v h = tt
    one (Whole id) v h = tt
    one name v h = tt
