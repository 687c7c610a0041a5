-- The entries of index chunks.
use Rattle.std.proofs.Common.{◌≡◌, ℕ, zero, suc, Bool, true, false, cond, eqb, List, [], ◌∷◌, length, drop, Some, refl, sym, ap, ◌∙◌, arith, inl, inr}
use Rattle.std.proofs.lemmas.List.{length-take}
use Rattle.container_model.specs.Written.{rows}
use Rattle.container_model.proofs.Written.{Holds}
use Rattle.opendml_index.specs.Index.{width, used, entries, super_place, used_place, place_by, super_places, entry_length, entry_offset, first_counted}
use Rattle.avi_model.proofs.Numbers.{Whole}
use Rattle.avi_model.proofs.Among.{Among, flat_among}

-- ---- rows

pub row_length_is : (k n : ℕ) (b : List ℕ) → Holds k n b → (r : List ℕ) → Among r (rows k n b) → length r ≡ k
row_length_is k zero b h r i = absurd i
row_length_is k (suc n) b h r (inl e) = ap length (sym e) ∙ omega (arith, length-take k b, h.0)
row_length_is k (suc n) b h r (inr i) = row_length_is k n (drop k b) h.1 r i

pub entry_long : (body : List ℕ) → Whole body → (r : List ℕ) → Among r (entries body) → length r ≡ width body
entry_long body w r i = row_length_is (width body) (used body) (drop 24 body) w.rows_there r i

-- a used entry's place is named
pub place_named : (body r : List ℕ) → Among r (entries body) → eqb (super_place r) 0 ≡ false → Among (super_place r) (super_places body)
place_named body r i e = flat_among used_place (entries body) r (super_place r) i (go (eqb (super_place r) 0) e)
  where
    go : (t : Bool) → t ≡ false → Among (super_place r) (place_by (super_place r) t)
    go true e = absurd cc
    go false e = inl refl

-- the first entry that is counted
pub record FirstCounted (es : List (List ℕ)) (x : ℕ) : Type 0 where
  pub row : List ℕ
  pub row_among : Among row es
  pub is_counted : eqb (entry_length row) 0 ≡ false
  pub offset_is : entry_offset row ≡ x

pub first_is : (es : List (List ℕ)) (x : ℕ) → first_counted es ≡ Some x → FirstCounted es x
first_is [] x e = absurd cc
first_is (r ∷ es) x e = go (eqb (entry_length r) 0) refl e (first_is es x)
  where
    go : (t : Bool) → eqb (entry_length r) 0 ≡ t → cond t (first_counted es) (Some (entry_offset r)) ≡ Some x → (first_counted es ≡ Some x → FirstCounted es x) → FirstCounted (r ∷ es) x
    go true d e again = let z = again e in record { row = z.row; row_among = inr z.row_among; is_counted = z.is_counted; offset_is = z.offset_is }
    go false d e again = record { row = r; row_among = inl refl; is_counted = d; offset_is = cc }
