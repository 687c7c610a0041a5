-- The tables of a file by place are those in the order in which the model tests their entries.
use Rattle.std.proofs.Common.{◌≡◌, ◌∙◌, ◌⊎◌, ℕ, ◌+◌, ◌≤◌, ◌<◌, Bool, true, false, cond, leb, ltb, List, [], ◌∷◌, ◌++◌, length, map, refl, sym, ap, arith, inl, inr}
use Rattle.std.specs.List.{AllByRecursion, flat_map}
use Rattle.std.proofs.lemmas.Bool.{cond-true, cond-false, le-leb, le-ltb, leb-false, leb-true, lt-leb, lt-ltb, ltb-false, ltb-true}
use Rattle.me_bytes.specs.Bytes.{IsBytes}
use Rattle.container_model.specs.Stood.{Stood, first_of, only}
use Rattle.container_model.specs.Tables.{Table}
use Rattle.container_model.specs.Tables as stood
use Rattle.avi_index.specs.Rows.{Base}
use Rattle.avi_model.specs.Avi.{avi_of, has_id, old_indexes, top}
use Rattle.avi_model.specs.Index.{base, indexes}
use Rattle.avi_model.specs.Large.{Check, Placed, index_checks, old_checks, put_placed, tables_placed}
use Rattle.avi_model.specs.Large as large
use Rattle.avi_model.specs.Support.{Supported, put_by_place}
use Rattle.avi_model.specs.Support as sorted
use Rattle.avi_model.proofs.Among.{Among, all_among}
use Rattle.avi_model.proofs.Sorted.{from_sorted}
use Rattle.avi_model.proofs.Sound.{index_apart, index_sound}
use Rattle.avi_plan.specs.Refusals.{table_checks}
use Rattle.avi_plan.specs.Tables.{Tabled, index, old, put_tabled, put_tableds, tables_in}

-- idx1 stands behind an index chunk, or before it
abbrev Beside : Table → Table → Type 0
Beside o t = (t.at < o.at) ⊎ (o.at + length o.body ≤ t.at)

module _ (f : ℕ → ℕ) (b : Base) where
  abbrev index_placed : Table → Placed
  index_placed t = record { at = t.at; checks = index_checks f t }

  abbrev old_placed : Table → Placed
  old_placed t = record { at = t.at; checks = old_checks f b t }

  abbrev placed : Tabled → Placed
  placed (old t) = old_placed t
  placed (index t) = index_placed t

  -- index chunks alone
  put_same : (t : Table) (us : List Table) → put_placed (index_placed t) (map placed (map index us)) ≡ map placed (map index (put_by_place t us))
  put_same t [] = refl
  put_same t (u ∷ us) = go (ltb t.at u.at) (put_same t us)
    where
      go : (v : Bool) → put_placed (index_placed t) (map placed (map index us)) ≡ map placed (map index (put_by_place t us))
          → cond v (index_placed t ∷ (index_placed u ∷ map placed (map index us))) (index_placed u ∷ put_placed (index_placed t) (map placed (map index us))) ≡ map placed (map index (cond v (t ∷ (u ∷ us)) (u ∷ put_by_place t us)))
      go true again = refl
      go false again = ap (λ (x : List Placed). index_placed u ∷ x) again

  module _ (o t u : Table) (us : List Table) where
    abbrev E : ℕ
    E = o.at + length o.body

    abbrev rest : List Tabled
    rest = map index us

    abbrev more : List Tabled
    more = put_tabled (old o) (map index us)

    abbrev here : Bool → List Tabled
    here v = cond v (old o ∷ (index u ∷ map index us)) (index u ∷ put_tabled (old o) (map index us))

    abbrev those : Bool → List Table
    those v = cond v (t ∷ (u ∷ us)) (u ∷ put_by_place t us)

    by : (A : Bool) → leb (o.at + length o.body) u.at ≡ A → (T : Bool) → ltb t.at u.at ≡ T → Beside o t → Beside o u
        → put_placed (index_placed t) (map placed (put_tabled (old o) (map index us))) ≡ map placed (put_tabled (old o) (map index (put_by_place t us)))
        → put_placed (index_placed t) (map placed (here A)) ≡ map placed (put_tabled (old o) (map index (those T)))
    by true a true c (inl lt) g again =
        cond-true (ltb t.at o.at) (index_placed t ∷ (old_placed o ∷ (index_placed u ∷ map placed rest))) (old_placed o ∷ put_placed (index_placed t) (index_placed u ∷ map placed rest)) (lt-ltb t.at o.at lt)
        ∙ sym (
        ap (map placed) (cond-false (leb E t.at) (old o ∷ (index t ∷ (index u ∷ rest))) (index t ∷ put_tabled (old o) (index u ∷ rest)) (lt-leb E t.at (omega (arith, lt))))
        ∙ ap (λ (x : List Tabled). index_placed t ∷ map placed x) (cond-true (leb E u.at) (old o ∷ (index u ∷ rest)) (index u ∷ more) a)
        )
    by true a true c (inr le) g again =
        cond-false (ltb t.at o.at) (index_placed t ∷ (old_placed o ∷ (index_placed u ∷ map placed rest))) (old_placed o ∷ put_placed (index_placed t) (index_placed u ∷ map placed rest)) (le-ltb t.at o.at (omega (arith, le)))
        ∙ ap (λ (x : List Placed). old_placed o ∷ x) (cond-true (ltb t.at u.at) (index_placed t ∷ (index_placed u ∷ map placed rest)) (index_placed u ∷ put_placed (index_placed t) (map placed rest)) c)
        ∙ sym (ap (map placed) (cond-true (leb E t.at) (old o ∷ (index t ∷ (index u ∷ rest))) (index t ∷ put_tabled (old o) (index u ∷ rest)) (le-leb E t.at le)))
    by true a false c h2 g again =
        cond-false (ltb t.at o.at) (index_placed t ∷ (old_placed o ∷ (index_placed u ∷ map placed rest))) (old_placed o ∷ put_placed (index_placed t) (index_placed u ∷ map placed rest))
        (le-ltb t.at o.at (omega (arith, leb-true E u.at a, ltb-false t.at u.at c)))
        ∙ ap (λ (x : List Placed). old_placed o ∷ x) (cond-false (ltb t.at u.at) (index_placed t ∷ (index_placed u ∷ map placed rest)) (index_placed u ∷ put_placed (index_placed t) (map placed rest)) c)
        ∙ ap (λ (x : List Placed). old_placed o ∷ (index_placed u ∷ x)) (put_same t us)
        ∙ sym (ap (map placed) (cond-true (leb E u.at) (old o ∷ (index u ∷ map index (put_by_place t us))) (index u ∷ put_tabled (old o) (map index (put_by_place t us))) a))
    by false a true c h2 (inr le) again = absurd (omega (arith, le, leb-false E u.at a))
    by false a true c h2 (inl lt) again =
        cond-true (ltb t.at u.at) (index_placed t ∷ (index_placed u ∷ map placed more)) (index_placed u ∷ put_placed (index_placed t) (map placed more)) c
        ∙ sym (
        ap (map placed) (cond-false (leb E t.at) (old o ∷ (index t ∷ (index u ∷ rest))) (index t ∷ put_tabled (old o) (index u ∷ rest)) (lt-leb E t.at (omega (arith, lt, ltb-true t.at u.at c))))
        ∙ ap (λ (x : List Tabled). index_placed t ∷ map placed x) (cond-false (leb E u.at) (old o ∷ (index u ∷ rest)) (index u ∷ more) a)
        )
    by false a false c h2 g again =
        cond-false (ltb t.at u.at) (index_placed t ∷ (index_placed u ∷ map placed more)) (index_placed u ∷ put_placed (index_placed t) (map placed more)) c
        ∙ ap (λ (x : List Placed). index_placed u ∷ x) again
        ∙ sym (ap (map placed) (cond-false (leb E u.at) (old o ∷ (index u ∷ map index (put_by_place t us))) (index u ∷ put_tabled (old o) (map index (put_by_place t us))) a))

  commute : (o t : Table) (us : List Table) → Beside o t → AllByRecursion (Beside o) us
      → put_placed (index_placed t) (map placed (put_tabled (old o) (map index us))) ≡ map placed (put_tabled (old o) (map index (put_by_place t us)))
  commute o t [] h all = go h
    where
      it : Placed
      it = index_placed t

      go : Beside o t → cond (ltb t.at o.at) (index_placed t ∷ (old_placed o ∷ [])) (old_placed o ∷ (index_placed t ∷ [])) ≡ map placed (cond (leb (o.at + length o.body) t.at) (old o ∷ (index t ∷ [])) (index t ∷ (old o ∷ [])))
      go (inl lt) =
          cond-true (ltb t.at o.at) (index_placed t ∷ (old_placed o ∷ [])) (old_placed o ∷ (index_placed t ∷ [])) (lt-ltb t.at o.at lt)
          ∙ sym (ap (map placed) (cond-false (leb (o.at + length o.body) t.at) (old o ∷ (index t ∷ [])) (index t ∷ (old o ∷ [])) (lt-leb (o.at + length o.body) t.at (omega (arith, lt)))))
      go (inr le) =
          cond-false (ltb t.at o.at) (index_placed t ∷ (old_placed o ∷ [])) (old_placed o ∷ (index_placed t ∷ [])) (le-ltb t.at o.at (omega (arith, le)))
          ∙ sym (ap (map placed) (cond-true (leb (o.at + length o.body) t.at) (old o ∷ (index t ∷ [])) (index t ∷ (old o ∷ [])) (le-leb (o.at + length o.body) t.at le)))
  commute o t (u ∷ us) h all = by o t u us (leb (o.at + length o.body) u.at) refl (ltb t.at u.at) refl h all.0 (commute o t us h all.1)

  index_order : (ts : List Table) → large.by_place (map index_placed ts ++ []) ≡ map placed (map index (sorted.by_place ts))
  index_order [] = refl
  index_order (t ∷ ts) = ap (put_placed (index_placed t)) (index_order ts) ∙ put_same t (sorted.by_place ts)

  old_order : (o : Table) (ts : List Table) → ((t : Table) → Among t ts → Beside o t) → large.by_place (map index_placed ts ++ old_placed o ∷ []) ≡ map placed (put_tabled (old o) (map index (sorted.by_place ts)))
  old_order o [] h = refl
  old_order o (t ∷ ts) h =
      ap (put_placed (index_placed t)) (old_order o ts (λ u i. h u (inr i)))
      ∙ commute o t (sorted.by_place ts) (h t (inl refl)) (all_among (Beside o) (sorted.by_place ts) (λ u i. h u (inr (from_sorted u ts i))))

  checks_of : (xs : List Tabled) → flat_map (λ (p : Placed). p.checks) (map placed xs) ≡ flat_map (table_checks f b) xs
  checks_of [] = refl
  checks_of (old t ∷ xs) = ap (λ (x : List Check). old_checks f b t ++ x) (checks_of xs)
  checks_of (index t ∷ xs) = ap (λ (x : List Check). index_checks f t ++ x) (checks_of xs)

few : (xs : List Stood) → length (first_of xs) ≤ 1
few [] = omega arith
few (x ∷ xs) = omega arith

-- In a supported file they are.
pub checks_in_order : (f : ℕ → ℕ) (o : List ℕ) → IsBytes o → Supported o → flat_map (λ (p : Placed). p.checks) (large.by_place (tables_placed f o)) ≡ flat_map (table_checks f (base o)) (tables_in o)
checks_in_order f o bytes s = go (old_indexes (avi_of o)) (λ x i. i) (few (only (has_id (Rattle.std.specs.Prelude.codes "idx1")) (top (avi_of o)))) ∙ checks_of f (base o) (tables_in o)
  where
    go : (xs : List Stood) → ((x : Stood) → Among x xs → Among x (old_indexes (avi_of o))) → length xs ≤ 1
        → flat_map (λ (p : Placed). p.checks) (large.by_place (map (index_placed f (base o)) (indexes o) ++ map (old_placed f (base o)) (map stood.table_of xs)))
        ≡ flat_map (λ (p : Placed). p.checks) (map (placed f (base o)) (put_tableds (map old (map stood.table_of xs)) (map index (sorted.by_place (indexes o)))))
    go [] w l = ap (flat_map (λ (p : Placed). p.checks)) (index_order f (base o) (indexes o))
    go (x ∷ []) w l = ap (flat_map (λ (p : Placed). p.checks)) (old_order f (base o) (stood.table_of x) (indexes o) (λ t j. side t (index_apart o bytes s x (w x (inl refl)) t.at (length t.body) (index_sound o bytes s t j).lies)))
      where
        side : (t : Table) → (t.at + length t.body ≤ x.at) ⊎ (x.at + 8 + length x.chunk.body ≤ t.at) → Beside (stood.table_of x) t
        side t (inl h) = inl (omega (arith, h))
        side t (inr h) = inr (omega (arith, h))
    go (x ∷ (y ∷ xs)) w l = absurd (omega (arith, l))
