-- Where two tellings of places agree on the essence of a file, its tables become the same, and the same is tested of them.
use Rattle.std.proofs.Common.{◌≡◌, ◌∙◌, ◌⊎◌, ℕ, zero, suc, ◌+◌, ◌-◌, ◌≤◌, ◌<◌, Bool, true, false, cond, eqb, List, [], ◌∷◌, ◌++◌, length, map, take, drop, Option, Some, None, refl, ap, subst, arith, inl, inr}
use Rattle.std.specs.List.{flat_map}
use Rattle.std.proofs.lemmas.Bool.{and_parts, eqb-false}
use Rattle.me_bytes.specs.Bytes.{IsBytes}
use Rattle.part_tree.specs.Ranges.{in_one}
use Rattle.container_model.specs.Splice.{Cut}
use Rattle.container_model.specs.Stood.{Stood}
use Rattle.container_model.specs.Tables.{Table, named, put32, put64, size_at}
use Rattle.container_model.specs.Tables as stood
use Rattle.container_model.specs.Written.{map_rows, rows}
use Rattle.avi_index.specs.Rows.{Base, count16, from_movi, from_start, old_body, old_by, old_row, old_rows, row_length, row_offset}
use Rattle.opendml_index.specs.Index.{How, entries, entry_by, entry_length, entry_offset, entry_row, entry_second, first_counted, has_second, index_base, index_body, index_by, is_super, move, second_by, standard_by, standard_with, super_body, super_by, super_place, super_row, used, width}
use Rattle.opendml_index.specs.Kinds.{second_lies}
use Rattle.opendml_index.proofs.Known.{standard_kind}
use Rattle.avi_model.specs.Avi.{Avi, avi_of, essence, first_movi, old_indexes}
use Rattle.avi_model.specs.Index.{base, indexes, named_by, olds, streams, write_index, write_old}
use Rattle.avi_model.specs.Large.{Check, Placed, entry_checks, index_checks, offset_checks, old_checks, row_checks, second_checks, standard_checks, tables_placed}
use Rattle.avi_model.specs.NewFile.{cut_of_write, put_cuts, table_cuts}
use Rattle.avi_model.specs.Support.{SoundEntries, SoundEntry, SoundRow, SoundRows, Supported, by_place, movi_spans}
use Rattle.avi_model.proofs.Among.{Among, all_among, among_all, among_append, map_among}
use Rattle.avi_model.proofs.Counted.{first_holder, second_of}
use Rattle.avi_model.proofs.Entries.{first_is, place_named}
use Rattle.avi_model.proofs.Sorted.{from_sorted}
use Rattle.avi_model.proofs.Sound.{holder_of, named_from, named_place, named_sound}

-- what is tested of a table, where it stands
abbrev told_at : ℕ → List Check → Placed
told_at at cs = record { at = at; checks = cs }

abbrev index_told : (ℕ → ℕ) → Table → Placed
index_told f t = record { at = t.at; checks = index_checks f t }

abbrev old_told : (ℕ → ℕ) → Base → Table → Placed
old_told f b t = record { at = t.at; checks = old_checks f b t }

-- ---- rows

rows_agree : (k : ℕ) (g h : List ℕ → List ℕ) (n : ℕ) (b : List ℕ) → ((r : List ℕ) → Among r (rows k n b) → g r ≡ h r) → map_rows k g n b ≡ map_rows k h n b
rows_agree k g h zero b same = refl
rows_agree k g h (suc n) b same =
    ap (λ (x : List ℕ). x ++ map_rows k g n (drop k b)) (same (take k b) (inl refl))
    ∙ ap (λ (x : List ℕ). h (take k b) ++ x) (rows_agree k g h n (drop k b) (λ r i. same r (inr i)))

pub flat_agree : {X Y : Type 0} (g h : X → List Y) (xs : List X) → ((x : X) → Among x xs → g x ≡ h x) → flat_map g xs ≡ flat_map h xs
flat_agree g h [] same = refl
flat_agree {Y = Y} g h (x ∷ xs) same = ap (λ (y : List Y). y ++ flat_map g xs) (same x (inl refl)) ∙ ap (λ (y : List Y). h x ++ y) (flat_agree g h xs (λ z i. same z (inr i)))

pub map_agree : {X Y : Type 0} (g h : X → Y) (xs : List X) → ((x : X) → Among x xs → g x ≡ h x) → map g xs ≡ map h xs
map_agree g h [] same = refl
map_agree {Y = Y} g h (x ∷ xs) same = ap (λ (y : Y). y ∷ map g xs) (same x (inl refl)) ∙ ap (λ (y : List Y). h x ∷ y) (map_agree g h xs (λ z i. same z (inr i)))

module _ (o : List ℕ) (bytes : IsBytes o) (s : Supported o) (f g : ℕ → ℕ)
    (agree : (m : Stood) → Among m (essence (avi_of o)) → (q : ℕ) → m.at + 8 ≤ q → q < m.at + 8 + length m.chunk.body → f q ≡ g q) where
  abbrev a : Avi
  a = avi_of o

  range_agrees : (p n : ℕ) → in_one (movi_spans (avi_of o)) p n ≡ true → (q : ℕ) → p ≤ q → q < p + n → f q ≡ g q
  range_agrees p n h q low high = let m = holder_of a p n h in agree m.movi m.movi_among q (omega (arith, m.low, low)) (omega (arith, m.high, high))

  -- ---- index chunks

  -- a place in the bytes of a counted entry
  entry_agrees : (old : ℕ) (r : List ℕ) → SoundEntry o old r → (y : ℕ) → entry_offset r ≤ y → y < entry_offset r + entry_length r → f (old + y) ≡ g (old + y)
  entry_agrees old r q y low high =
      let l = and_parts (in_one (movi_spans a) (old + entry_offset r) (entry_length r)) (second_lies r) q.lies in
      range_agrees (old + entry_offset r) (entry_length r) l.0 (old + y) (omega (arith, low)) (omega (arith, high))

  some_bytes : (r : List ℕ) → eqb (entry_length r) 0 ≡ false → 0 < entry_length r
  some_bytes r c = omega (arith, eqb-false (entry_length r) 0 c)

  offset_agrees : (old : ℕ) (r : List ℕ) → eqb (entry_length r) 0 ≡ false → SoundEntry o old r → f (old + entry_offset r) ≡ g (old + entry_offset r)
  offset_agrees old r c q = entry_agrees old r q (entry_offset r) (omega arith) (omega (arith, some_bytes r c))

  second_agrees : (old : ℕ) (r : List ℕ) → SoundEntry o old r → has_second r ≡ true → f (old + entry_second r) ≡ g (old + entry_second r)
  second_agrees old r q h =
      let l = and_parts (in_one (movi_spans a) (old + entry_offset r) (entry_length r)) (second_lies r) q.lies in
      let k = second_of r l.1 h in
      entry_agrees old r q (entry_second r) k.0 k.1

  module _ (t : Table) (i : Among t (indexes o)) where
    counted : is_super t.body ≡ false → (r : List ℕ) → Among r (entries t.body) → eqb (entry_length r) 0 ≡ false → SoundEntry o (index_base t.body) r
    counted e r k c = among_all (λ r. eqb (entry_length r) 0 ≡ false → SoundEntry o (index_base t.body) r) (entries t.body) (among_all (λ t. is_super t.body ≡ false → SoundEntries o t) (indexes o) s.entries_sound t i e) r k c

    first_agrees : is_super t.body ≡ false → (x : ℕ) → first_counted (entries t.body) ≡ Some x → f (index_base t.body + x) ≡ g (index_base t.body + x)
    first_agrees e x d =
        let k = first_is (entries t.body) x d in
        let old = index_base t.body in
        subst (λ (y : ℕ). f (old + y) ≡ g (old + y)) k.offset_is (offset_agrees old k.row k.is_counted (counted e k.row k.row_among k.is_counted))

    -- ---- its body

    super_agrees : Among t (streams o) → is_super t.body ≡ true → super_body (move f) t.body ≡ super_body (move g) t.body
    super_agrees j e = ap (λ (x : List ℕ). take 24 t.body ++ x) (rows_agree (width t.body) (super_row (move f)) (super_row (move g)) (used t.body) (drop 24 t.body) (λ r k. go r k (eqb (super_place r) 0) refl))
      where
        go : (r : List ℕ) → Among r (entries t.body) → (u : Bool) → eqb (super_place r) 0 ≡ u → super_by (move f) r u ≡ super_by (move g) r u
        go r k true c = refl
        go r k false c =
            let p = super_place r in
            let q = named_sound o bytes s t j e p (place_named t.body r k c) in
            ap (λ (y : ℕ). put64 0 y r) (range_agrees p (8 + size_at o p) q.lies p (omega arith) (omega arith))

    entry_row_agrees : is_super t.body ≡ false → (nb : ℕ) (r : List ℕ) → Among r (entries t.body) → entry_row (λ y. f (index_base t.body + y) - nb) r ≡ entry_row (λ y. g (index_base t.body + y) - nb) r
    entry_row_agrees e nb r k = go (eqb (entry_length r) 0) refl
      where
        old : ℕ
        old = index_base t.body

        second : (u : Bool) → has_second r ≡ u → SoundEntry o (index_base t.body) r → second_by (λ y. f (index_base t.body + y) - nb) r u ≡ second_by (λ y. g (index_base t.body + y) - nb) r u
        second false h q = refl
        second true h q = ap (λ (y : ℕ). put32 8 (y - nb) r) (second_agrees (index_base t.body) r q h)

        go : (u : Bool) → eqb (entry_length r) 0 ≡ u → entry_by (λ y. f (index_base t.body + y) - nb) r u ≡ entry_by (λ y. g (index_base t.body + y) - nb) r u
        go true c = refl
        go false c =
            let q = counted e r k c in
            ap (λ (y : ℕ). put32 0 (y - nb) (second_by (λ y. f (index_base t.body + y) - nb) r (has_second r))) (offset_agrees (index_base t.body) r c q)
            ∙ ap (put32 0 (g (index_base t.body + entry_offset r) - nb)) (second (has_second r) refl q)

    standard_agrees : is_super t.body ≡ false → (x : Option ℕ) → first_counted (entries t.body) ≡ x → standard_by (move f) t.body x ≡ standard_by (move g) t.body x
    standard_agrees e None d = refl
    standard_agrees e (Some x) d =
        let old = index_base t.body in
        let nb = (old + g (old + x)) - (old + x) in
        ap (λ (y : ℕ). standard_with ((old + y) - (old + x)) (λ z. f (old + z) - ((old + y) - (old + x))) t.body) (first_agrees e x d)
        ∙ ap (λ (z : List ℕ). put64 12 nb (take 24 t.body) ++ z) (rows_agree (width t.body) (entry_row (λ y. f (old + y) - nb)) (entry_row (λ y. g (old + y) - nb)) (used t.body) (drop 24 t.body) (λ r k. entry_row_agrees e nb r k))

    named_standard : Among t (flat_map (named_by o) (streams o)) → is_super t.body ≡ false
    named_standard j = let k = named_from o bytes s t j in subst (λ (u : Table). is_super u.body ≡ false) k.is_named (standard_kind (named o k.place).body (named_place o bytes s t k).sound.kind_is).0

    pub body_agrees : index_body (move f) t.body ≡ index_body (move g) t.body
    body_agrees = go (is_super t.body) refl (among_append (streams o) (flat_map (named_by o) (streams o)) t i)
      where
        go : (u : Bool) → is_super t.body ≡ u → Among t (streams o) ⊎ Among t (flat_map (named_by o) (streams o)) → index_by (move f) t.body u ≡ index_by (move g) t.body u
        go true e (inl j) = super_agrees j e
        go true e (inr j) = let no : is_super t.body ≡ false = named_standard j in absurd cc
        go false e j = standard_agrees e (first_counted (entries t.body)) refl

    -- ---- what is tested of its entries

    entry_checks_agree : is_super t.body ≡ false → (nb : ℕ) (r : List ℕ) → Among r (entries t.body) → entry_checks f (index_base t.body) nb r ≡ entry_checks g (index_base t.body) nb r
    entry_checks_agree e nb r k = go (eqb (entry_length r) 0) refl
      where
        old : ℕ
        old = index_base t.body

        second : (u : Bool) → has_second r ≡ u → SoundEntry o (index_base t.body) r
            → cond {A = List Check} u (second_checks nb (f (index_base t.body + entry_second r))) [] ≡ cond u (second_checks nb (g (index_base t.body + entry_second r))) []
        second false h q = refl
        second true h q = ap (second_checks nb) (second_agrees (index_base t.body) r q h)

        go : (u : Bool) → eqb (entry_length r) 0 ≡ u
            → cond {A = List Check} u [] (offset_checks nb (f (index_base t.body + entry_offset r)) ++ cond (has_second r) (second_checks nb (f (index_base t.body + entry_second r))) [])
            ≡ cond u [] (offset_checks nb (g (index_base t.body + entry_offset r)) ++ cond (has_second r) (second_checks nb (g (index_base t.body + entry_second r))) [])
        go true c = refl
        go false c =
            let q = counted e r k c in
            ap (λ (y : ℕ). offset_checks nb y ++ cond (has_second r) (second_checks nb (f (index_base t.body + entry_second r))) []) (offset_agrees (index_base t.body) r c q)
            ∙ ap (λ (y : List Check). offset_checks nb (g (index_base t.body + entry_offset r)) ++ y) (second (has_second r) refl q)

    standard_checks_agree : is_super t.body ≡ false → (x : Option ℕ) → first_counted (entries t.body) ≡ x → standard_checks f t.body x ≡ standard_checks g t.body x
    standard_checks_agree e None d = refl
    standard_checks_agree e (Some x) d =
        let old = index_base t.body in
        let nb = (old + g (old + x)) - (old + x) in
        ap (λ (y : ℕ). flat_map (entry_checks f old ((old + y) - (old + x))) (entries t.body)) (first_agrees e x d)
        ∙ flat_agree (entry_checks f old nb) (entry_checks g old nb) (entries t.body) (λ r k. entry_checks_agree e nb r k)

    pub checks_agree : index_checks f t ≡ index_checks g t
    checks_agree = go (is_super t.body) refl
      where
        go : (u : Bool) → is_super t.body ≡ u → cond {A = List Check} u [] (standard_checks f t.body (first_counted (entries t.body))) ≡ cond u [] (standard_checks g t.body (first_counted (entries t.body)))
        go true e = refl
        go false e = standard_checks_agree e (first_counted (entries t.body)) refl

  -- ---- idx1

  module _ (x : Stood) (i : Among x (old_indexes (avi_of o))) where
    row_agrees : base o ≡ from_start → (r : List ℕ) → Among r (old_rows x.chunk.body) → eqb (row_length r) 0 ≡ false → f (row_offset r) ≡ g (row_offset r)
    row_agrees e r j c =
        let sound : SoundRows (base o) (first_movi a) (indexes o) (stood.table_of x) = among_all (SoundRows (base o) (first_movi a) (indexes o)) (olds o) s.rows_sound (stood.table_of x) (map_among stood.table_of (old_indexes a) x i) in
        let rows = subst (λ (b : Base). SoundRows b (first_movi a) (indexes o) (stood.table_of x)) e sound in
        let q = among_all (λ r. eqb (row_length r) 0 ≡ false → SoundRow (first_movi a) (indexes o) r) (old_rows x.chunk.body) rows r j c in
        let m = first_holder o bytes s (row_offset r) (8 + row_length r) q.lies in
        agree m.movi m.movi_among (row_offset r) m.low (omega (arith, m.high))

    pub old_body_agrees : old_body f (base o) x.chunk.body ≡ old_body g (base o) x.chunk.body
    old_body_agrees = rows_agree 16 (old_row f (base o)) (old_row g (base o)) (count16 x.chunk.body) x.chunk.body (λ r j. go r j (base o) refl (eqb (row_length r) 0) refl)
      where
        go : (r : List ℕ) → Among r (old_rows x.chunk.body) → (b : Base) → base o ≡ b → (u : Bool) → eqb (row_length r) 0 ≡ u → old_by f r b u ≡ old_by g r b u
        go r j from_movi e u c = refl
        go r j from_start e true c = refl
        go r j from_start e false c = ap (λ (y : ℕ). put32 8 y r) (row_agrees e r j c)

    pub old_checks_agree : old_checks f (base o) (stood.table_of x) ≡ old_checks g (base o) (stood.table_of x)
    old_checks_agree = flat_agree (row_checks f (base o)) (row_checks g (base o)) (old_rows x.chunk.body) (λ r j. go r j (base o) refl)
      where
        go : (r : List ℕ) → Among r (old_rows x.chunk.body) → (b : Base) → base o ≡ b → row_checks f b r ≡ row_checks g b r
        go r j from_movi e = refl
        go r j from_start e = by (eqb (row_length r) 0) refl
          where
            by : (u : Bool) → eqb (row_length r) 0 ≡ u → cond {A = List Check} u [] (Rattle.avi_model.specs.Large.at_most 4294967295 (f (row_offset r)) ∷ []) ≡ cond u [] (Rattle.avi_model.specs.Large.at_most 4294967295 (g (row_offset r)) ∷ [])
            by true c = refl
            by false c = ap (λ (y : ℕ). Rattle.avi_model.specs.Large.at_most 4294967295 y ∷ []) (row_agrees e r j c)

  -- ---- all tables

  pub cuts_agree : table_cuts (move f) o ≡ table_cuts (move g) o
  cuts_agree =
      let olds_are = (λ (h : How). map (λ (t : Table). cut_of_write (write_old h (base o) t)) (olds o)) in
      ap (λ (cs : List Cut). put_cuts cs (map (λ (t : Table). cut_of_write (write_index (move f) t)) (by_place (indexes o)))) old_cuts
      ∙ ap (put_cuts (map (λ (t : Table). cut_of_write (write_old (move g) (base o) t)) (olds o)))
      (map_agree (λ (t : Table). cut_of_write (write_index (move f) t)) (λ (t : Table). cut_of_write (write_index (move g) t)) (by_place (indexes o))
      (λ t i. ap (λ (x : List ℕ). record { at = t.at; len = length x; bytes = x }) (body_agrees t (from_sorted t (indexes o) i))))
    where
      old_cuts : map (λ (t : Table). cut_of_write (write_old (move f) (base o) t)) (olds o) ≡ map (λ (t : Table). cut_of_write (write_old (move g) (base o) t)) (olds o)
      old_cuts =
          map_agree (λ (t : Table). cut_of_write (write_old (move f) (base o) t)) (λ (t : Table). cut_of_write (write_old (move g) (base o) t)) (olds o)
          (λ t i.
          let k = Rattle.avi_model.proofs.Among.among_map stood.table_of (old_indexes (avi_of o)) t i in
          subst (λ (u : Table). cut_of_write (write_old (move f) (base o) u) ≡ cut_of_write (write_old (move g) (base o) u)) k.same
          (ap (λ (x : List ℕ). record { at = (stood.table_of k.from).at; len = length x; bytes = x }) (old_body_agrees k.from k.from_among)))

  pub placed_agree : tables_placed f o ≡ tables_placed g o
  placed_agree =
      ap (λ (ps : List Placed). ps ++ map (old_told f (base o)) (olds o)) (map_agree (index_told f) (index_told g) (indexes o) (λ t i. ap (λ (cs : List Check). told_at t.at cs) (checks_agree t i)))
      ∙ ap (λ (ps : List Placed). map (index_told g) (indexes o) ++ ps)
      (map_agree (old_told f (base o)) (old_told g (base o)) (olds o)
      (λ t i.
      let k = Rattle.avi_model.proofs.Among.among_map stood.table_of (old_indexes (avi_of o)) t i in
      subst (λ (u : Table). old_told f (base o) u ≡ old_told g (base o) u) k.same (ap (λ (cs : List Check). told_at (stood.table_of k.from).at cs) (old_checks_agree k.from k.from_among))))
