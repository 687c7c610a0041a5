-- The entries of fields are searched by halving.
use Rattle.std.proofs.Common.{◌≡◌, ℕ, zero, suc, ◌<◌, ◌≤◌, List, [], ◌∷◌, length, get_or, Bool, true, false, refl, sym, ap, ◌∙◌, arith, nat_le, nat_lt}
use Rattle.std.specs.List.{position_or_len}
use Rattle.std.specs.List.Sorted.{IsPartitionPoint, IsPartitionedBy}
use Rattle.std.proofs.lemmas.Bool.{le-leb, lt-ltb, leb-true, ltb-true, ltb-false}
use Rattle.std.proofs.lemmas.List.Sums.{position_or_len_is}
use Rattle.part_tree.specs.declared.fields.Entry.{Entry}
use Rattle.part_tree.specs.Fields.{Ascends}
use Rattle.part_tree.specs.Names.{field_place}
use Rattle.part_tree.proofs.Entries.{stands_at}

-- whether an entry stands before a place
abbrev pub stands_before : ℕ → Entry → Bool
stands_before p e = nat_lt (field_place e.name) p

later : (low : ℕ) (es : List Entry) (j : ℕ) (d : Entry) → Ascends low es → j < length es → low ≤ field_place (get_or es j d).name
later low [] j d h lt = absurd (omega arith)
later low (e ∷ es) zero d h lt = h.0
later low (e ∷ es) (suc j) d h lt = let rest = later (suc (field_place e.name)) es j d h.3 (omega arith) in let first = h.0 in omega arith

pub partitioned : (low : ℕ) (es : List Entry) (p : ℕ) → Ascends low es → IsPartitionedBy (stands_before p) es
partitioned low [] p h i j d le lt here = absurd (omega arith)
partitioned low (e ∷ es) p h zero zero d le lt here = here
partitioned low (e ∷ es) p h zero (suc j) d le lt here =
    let more = later (suc (field_place e.name)) es j d h.3 (omega arith) in
    let near = ltb-true (field_place (get_or es j d).name) p here in
    lt-ltb (field_place e.name) p (omega arith)
partitioned low (e ∷ es) p h (suc i) zero d le lt here = absurd (omega arith)
partitioned low (e ∷ es) p h (suc i) (suc j) d le lt here = partitioned (suc (field_place e.name)) es p h.3 i j d (omega arith) (omega arith) here

behind : (p : ℕ) (e : Entry) → stands_before p e ≡ false → stands_at p e ≡ true
behind p e h = le-leb p (field_place e.name) (ltb-false (field_place e.name) p h)

before : (p : ℕ) (e : Entry) → stands_before p e ≡ true → stands_at p e ≡ false
before p e h = go (stands_at p e) refl
  where
    go : (t : Bool) → stands_at p e ≡ t → t ≡ false
    go true up = absurd (omega (arith, leb-true p (field_place e.name) up, ltb-true (field_place e.name) p h))
    go false up = refl

-- so many stand before a place
pub front_is : (es : List Entry) (p k : ℕ) (d : Entry) → k ≤ length es
    → IsPartitionPoint (λ e. stands_before p e ≡ true) (λ e. stands_before p e ≡ false) es k → k ≡ position_or_len (stands_at p) es
front_is es p k d le cut =
    sym (position_or_len_is (stands_at p) es k d le (λ j less. before p (get_or es j d) (cut.0 j d (omega arith) less)) (λ inside. behind p (get_or es k d) (cut.1 k d (omega arith) inside)))
