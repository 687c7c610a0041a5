-- The pieces law: a table whose numbers are moved finds what it found. It speaks of two files, of how places move, and of the
-- ranges that are copied; how the second file came about is nothing to it.
use Rattle.std.proofs.Common.{◌≡◌, ℕ, zero, suc, ◌+◌, ◌-◌, ◌*◌, ◌%◌, ◌/◌, ◌^◌, ◌<◌, ◌≤◌, Bool, true, false, eqb, ltb, leb, cond, List, [], ◌∷◌, length, map, drop, Option, Some, None, refl, sym, ap, ◌∙◌, arith, inl, inr}
use Rattle.std.specs.Prelude.{◌⊎◌, ◌&&◌, ◌||◌, not}
use Rattle.std.specs.Int.{w32, from_le_bytes}
use Rattle.std.specs.List.{AllByRecursion}
use Rattle.std.proofs.Math.Nat.{div-mul-le_self}
use Rattle.std.proofs.lemmas.List.{length-drop}
use Rattle.std.proofs.lemmas.Bool.{eqb-false, ne_eqb, lt-ltb, ltb-true, le-leb, lt-leb, leb-true, and_parts, cases_lt}
use Rattle.container_model.specs.Written.{slice, rows}
use Rattle.container_model.proofs.Written.{Holds, rows_map, length-map_rows}
use Rattle.container_model.proofs.Stay.{Orders, Rigid, Stays, rigid_part, stays_part, lt_moves, eq_moves, end_moves}
use Rattle.part_tree.specs.declared.names.Span.{Span}
use Rattle.avi_model.specs.Avi.{avi_of, first_movi}
use Rattle.container_model.specs.Tables.{le32_at, put32, put64, Table, ordinal}
use Rattle.opendml_index.specs.Index.{How, move, is_super, entries, super_place, used_place, place_by, super_by, super_row, entry_offset, entry_length, entry_second, has_second, index_base, second_by, entry_by, entry_row, first_counted, standard_by, index_by, index_body}
use Rattle.avi_index.specs.Rows.{row_id, row_flags, row_offset, row_length, Base, from_start, from_movi, decides, base_at, base_of, old_by, old_row, count16, old_rows, old_body}
use Rattle.part_tree.specs.Ranges.{within}
use Rattle.avi_model.specs.Index.{is_head, misses, indexes, olds, base_in, base}
use Rattle.avi_model.specs.Pieces.{Found, found_by, counted_by, old_found, super, super_found_by, super_found, Standard, uncounted, standard, second_found, entry_found_by, entry_found, Finds, supers, finds_by, finds, Pieces, pieces}
use Rattle.avi_model.proofs.Numbers.{slice_put32, slice_put64, le32_put, le64_put, length-put32, Whole, super_entries, standard_entries, standard_base, index_length, index_is, old_slices, old_keeps}

pub holds_sixteen : (n : ℕ) (b : List ℕ) → n * 16 ≤ length b → Holds 16 n b
holds_sixteen zero b h = tt
holds_sixteen (suc n) b h = (omega arith, holds_sixteen n (drop 16 b) (omega (arith, length-drop 16 b)))

-- the entries of idx1 with their numbers changed
pub old_rows_map : (h : How) (b : Base) (body : List ℕ) → old_rows (old_body h.place b body) ≡ map (old_row h.place b) (old_rows body)
old_rows_map h b body =
    let n = count16 body in
    let same : count16 (old_body h.place b body) ≡ n = ap (λ (k : ℕ). k / 16) (length-map_rows 16 (old_row h.place b) n body (old_keeps h b)) in
    ap (λ (k : ℕ). rows 16 k (old_body h.place b body)) same ∙ rows_map 16 (old_row h.place b) n body (old_keeps h b) (holds_sixteen n body (div-mul-le_self (length body) 16))

leb_more : (a b k : ℕ) → leb (a + k) (b + k) ≡ leb a b
leb_more a b k = go (cases_lt b a)
  where
    go : (b < a) ⊎ (a ≤ b) → leb (a + k) (b + k) ≡ leb a b
    go (inl h) = lt-leb (a + k) (b + k) (omega arith) ∙ sym (lt-leb a b h)
    go (inr h) = le-leb (a + k) (b + k) (omega arith) ∙ sym (le-leb a b h)

map_same : {X Y Z : Type 0} (P : X → Type 0) (g : Y → Z) (m : X → Y) (k : X → Z) → ((x : X) → P x → g (m x) ≡ k x) → (xs : List X) → AllByRecursion P xs → map g (map m xs) ≡ map k xs
map_same P g m k h [] a = refl
map_same P g m k h (x ∷ xs) a = rw (h x a.0, map_same P g m k h xs a.1) refl

module _ (o n : List ℕ) (f : ℕ → ℕ) (Ok : ℕ → Type 0) (order : Orders f Ok) where
  abbrev pub moved_index : Table → Table
  moved_index t = record { at = f t.at; body = index_body (move f) t.body }

  -- the chunk of an index is copied
  pub record Rests (t : Table) : Type 0 where
    pub head : ℕ
    pub at_is : t.at ≡ head + 8
    pub rigid : Rigid f Ok head (8 + length t.body)
    pub whole : Whole t.body

  pub body_ok : (t : Table) (r : Rests t) → Ok t.at × (f t.at ≡ f r.head + 8)
  body_ok t r = let long = r.whole.header_there in let one = r.rigid 8 (omega arith) in rw r.at_is one

  -- ---- which index chunk

  pub ordinal_moves : (ts : List Table) (q : ℕ) → AllByRecursion Rests ts → Ok q → ordinal (map moved_index ts) (f q) ≡ ordinal ts q
  ordinal_moves [] q h k = refl
  ordinal_moves (t ∷ ts) q h k = rw (lt_moves f Ok order t.at q (body_ok t h.0).0 k, ordinal_moves ts q h.1 k) refl

  pub head_moves : (ts : List Table) (p : ℕ) → AllByRecursion Rests ts → Ok (p + 8) → f (p + 8) ≡ f p + 8 → is_head (map moved_index ts) (f p) ≡ is_head ts p
  head_moves [] p h k e = refl
  head_moves (t ∷ ts) p h k e =
      let one : eqb (f t.at) (f p + 8) ≡ eqb t.at (p + 8) = ap (eqb (f t.at)) (sym e) ∙ eq_moves f Ok order t.at (p + 8) (body_ok t h.0).0 k in
      rw (one, head_moves ts p h.1 k e) refl

  pub misses_moves : (ts : List Table) (q len : ℕ) → AllByRecursion Rests ts → 0 < len → Rigid f Ok q len → misses (map moved_index ts) (f q) len ≡ misses ts q len
  misses_moves [] q len h l r = refl
  misses_moves (t ∷ ts) q len h l r =
      let z : q + 0 ≡ q = omega arith in
      let start : Ok q = rw z at (r 0 l).0 in
      let x = h.0 in
      let long = x.whole.header_there in
      let b = body_ok t x in
      let same : length (index_body (move f) t.body) ≡ length t.body = index_length (move f) t.body x.whole in
      let own : Rigid f Ok t.at (length t.body) = rw x.at_is (rigid_part f Ok x.head (8 + length t.body) 8 (length t.body) (omega arith) (omega arith) x.rigid) in
      let zero_head : x.head + 0 ≡ x.head = omega arith in
      let head_ok : Ok x.head = rw zero_head at (x.rigid 0 (omega arith)).0 in
      let one : leb (f t.at + length (index_body (move f) t.body)) (f q) ≡ leb (t.at + length t.body) q = rw same (end_moves f Ok order t.at (length t.body) q (omega arith) own start) in
      let two : leb ((f q + len) + 8) (f t.at) ≡ leb ((q + len) + 8) t.at = ap (leb ((f q + len) + 8)) b.1 ∙ leb_more (f q + len) (f x.head) 8 ∙ end_moves f Ok order q len x.head l r head_ok ∙ sym (leb_more (q + len) x.head 8) ∙ ap (leb ((q + len) + 8)) (sym x.at_is) in
      rw (one, two, misses_moves ts q len h.1 l r) refl

  -- ---- super entries

  abbrev pub SuperFits : List ℕ → Type 0
  SuperFits r = eqb (super_place r) 0 ≡ false → (8 ≤ length r) × (0 < f (super_place r)) × (f (super_place r) < 2 ^ 64) × Ok (super_place r + 8) × (f (super_place r + 8) ≡ f (super_place r) + 8)

  super_number : (r : List ℕ) → 8 ≤ length r → f (super_place r) < 2 ^ 64 → super_place (put64 0 (f (super_place r)) r) ≡ f (super_place r)
  super_number r l lt = le64_put 0 (f (super_place r)) r l lt

  pub used_moves : (r : List ℕ) → SuperFits r → used_place (super_row (move f) r) ≡ map f (used_place r)
  used_moves r h = go (eqb (super_place r) 0) refl
    where
      go : (t : Bool) → eqb (super_place r) 0 ≡ t → used_place (super_by (move f) r t) ≡ map f (place_by (super_place r) t)
      go true e = rw e refl
      go false e =
          let x = h e in
          let no : eqb (f (super_place r)) 0 ≡ false = ne_eqb (f (super_place r)) 0 (λ e. omega (arith, x.1)) in
          rw (super_number r x.0 x.2, no) refl

  super_moves : (ts : List Table) → AllByRecursion Rests ts → (r : List ℕ) → SuperFits r → super_found (map moved_index ts) (super_row (move f) r) ≡ super_found ts r
  super_moves ts rests r h = go (eqb (super_place r) 0) refl
    where
      go : (t : Bool) → eqb (super_place r) 0 ≡ t → super_found (map moved_index ts) (super_by (move f) r t) ≡ super_found_by ts r t
      go true e = rw e refl
      go false e =
          let x = h e in
          let no : eqb (f (super_place r)) 0 ≡ false = ne_eqb (f (super_place r)) 0 (λ e. omega (arith, x.1)) in
          let a = slice_put64 0 (f (super_place r)) r 8 4 (inl (omega arith)) in
          let b = slice_put64 0 (f (super_place r)) r 12 4 (inl (omega arith)) in
          let c : ordinal (map moved_index ts) (f (super_place r) + 8) ≡ ordinal ts (super_place r + 8) = ap (ordinal (map moved_index ts)) (sym x.4) ∙ ordinal_moves ts (super_place r + 8) rests x.3 in
          let r2 = put64 0 (f (super_place r)) r in
          let num = super_number r x.0 x.2 in
          ap (super_found_by (map moved_index ts) r2) (ap (λ (y : ℕ). eqb y 0) num ∙ no)
          ∙ ap (λ (y : ℕ). super (le32_at 8 r2) (le32_at 12 r2) (ordinal (map moved_index ts) (y + 8))) num
          ∙ ap (super (le32_at 8 r2) (le32_at 12 r2)) c
          ∙ ap (λ (y : List ℕ). super (from_le_bytes w32 y) (le32_at 12 r2) (ordinal ts (super_place r + 8))) a
          ∙ ap (λ (y : List ℕ). super (le32_at 8 r) (from_le_bytes w32 y) (ordinal ts (super_place r + 8))) b

  -- ---- standard entries

  pub record SecondFits (old nb : ℕ) (r : List ℕ) : Type 0 where
    pub long : 12 ≤ length r
    pub from : entry_offset r ≤ entry_second r
    pub to : entry_second r < entry_offset r + entry_length r
    pub low : nb < f (old + entry_second r)
    pub small : f (old + entry_second r) - nb < 2 ^ 32

  pub record CountedFits (old nb : ℕ) (r : List ℕ) : Type 0 where
    pub long : 8 ≤ length r
    pub low : nb ≤ f (old + entry_offset r)
    pub small : f (old + entry_offset r) - nb < 2 ^ 32
    pub stays : Stays o n f Ok (old + entry_offset r) (entry_length r)
    pub second : has_second r ≡ true → SecondFits old nb r

  abbrev pub EntryFits : ℕ → ℕ → List ℕ → Type 0
  EntryFits old nb r = eqb (entry_length r) 0 ≡ false → CountedFits old nb r

  abbrev value : ℕ → ℕ → ℕ → ℕ
  value old nb y = f (old + y) - nb

  -- a counted entry's row
  abbrev row_with : ℕ → ℕ → List ℕ → Bool → List ℕ
  row_with old nb r u = put32 0 (value old nb (entry_offset r)) (second_by (value old nb) r u)

  row_slice : (old nb : ℕ) (r : List ℕ) (u : Bool) → slice (row_with old nb r u) 4 4 ≡ slice r 4 4
  row_slice old nb r true = slice_put32 0 (value old nb (entry_offset r)) (put32 8 (value old nb (entry_second r)) r) 4 4 (inl (omega arith)) ∙ slice_put32 8 (value old nb (entry_second r)) r 4 4 (inr (omega arith))
  row_slice old nb r false = slice_put32 0 (value old nb (entry_offset r)) r 4 4 (inl (omega arith))

  row_len : (old nb : ℕ) (r : List ℕ) (u : Bool) → (length (second_by (value old nb) r u) ≡ length r) × (length (row_with old nb r u) ≡ length r)
  row_len old nb r true = (length-put32 8 (value old nb (entry_second r)) r, length-put32 0 (value old nb (entry_offset r)) (put32 8 (value old nb (entry_second r)) r) ∙ length-put32 8 (value old nb (entry_second r)) r)
  row_len old nb r false = (refl, length-put32 0 (value old nb (entry_offset r)) r)

  row_offset_is : (old nb : ℕ) (r : List ℕ) (u : Bool) → CountedFits old nb r → entry_offset (row_with old nb r u) ≡ value old nb (entry_offset r)
  row_offset_is old nb r u h = le32_put 0 (value old nb (entry_offset r)) (second_by (value old nb) r u) (omega (arith, (row_len old nb r u).0, h.long)) h.small

  second_moves : (old nb : ℕ) (r : List ℕ) → CountedFits old nb r → (u : Bool) → has_second r ≡ u
      → second_found n nb (row_with old nb r u) (has_second (row_with old nb r u)) ≡ second_found o old r u
  second_moves old nb r h false e =
      let s : slice (row_with old nb r false) 8 4 ≡ slice r 8 4 = slice_put32 0 (value old nb (entry_offset r)) r 8 4 (inl (omega arith)) in
      let no : has_second (row_with old nb r false) ≡ false = rw ((row_len old nb r false).1, s) e in
      ap (second_found n nb (row_with old nb r false)) no
  second_moves old nb r h true e =
      let x = h.second e in
      let s2 = put32 8 (value old nb (entry_second r)) r in
      let sec : entry_second (row_with old nb r true) ≡ value old nb (entry_second r)
      = ap (from_le_bytes w32) (slice_put32 0 (value old nb (entry_offset r)) s2 8 4 (inl (omega arith))) ∙ le32_put 8 (value old nb (entry_second r)) r x.long x.small in
      let some : eqb (value old nb (entry_second r)) 0 ≡ false = ne_eqb (value old nb (entry_second r)) 0 (λ e. omega (arith, x.low)) in
      let yes : has_second (row_with old nb r true) ≡ true = rw ((row_len old nb r true).1, sec, some, lt-ltb 8 (length r) (omega (arith, x.long))) refl in
      let i = entry_second r - entry_offset r in
      let k = (entry_offset r + entry_length r) - entry_second r in
      let place : (old + entry_offset r) + i ≡ old + entry_second r = omega (arith, x.from) in
      let part = stays_part o n f Ok (old + entry_offset r) (entry_length r) i k (omega (arith, x.from, x.to)) (omega (arith, x.from, x.to)) h.stays in
      let rigid = h.stays.rigid i (omega (arith, x.from, x.to)) in
      let moved : f (old + entry_second r) ≡ f (old + entry_offset r) + i = ap f (sym place) ∙ rigid.1 in
      let length_is : entry_length (row_with old nb r true) ≡ entry_length r = ap (λ (y : List ℕ). from_le_bytes w32 y % 2 ^ 31) (row_slice old nb r true) in
      let len : (entry_offset (row_with old nb r true) + entry_length (row_with old nb r true)) - entry_second (row_with old nb r true) ≡ k = omega (arith, sec, row_offset_is old nb r true h, length_is, h.low, x.low, moved, x.from, x.to) in
      let at : nb + entry_second (row_with old nb r true) ≡ f ((old + entry_offset r) + i) = omega (arith, sec, x.low, ap f place) in
      ap (second_found n nb (row_with old nb r true)) yes
      ∙ ap (λ (y : List ℕ). Some y) (ap (λ (q : ℕ). slice n q ((entry_offset (row_with old nb r true) + entry_length (row_with old nb r true)) - entry_second (row_with old nb r true))) at ∙ ap (slice n (f ((old + entry_offset r) + i))) len ∙ part.same ∙ ap (λ (q : ℕ). slice o q k) place)

  entry_moves : (old nb : ℕ) (r : List ℕ) → EntryFits old nb r → entry_found n nb (entry_row (value old nb) r) ≡ entry_found o old r
  entry_moves old nb r h = go (eqb (entry_length r) 0) refl
    where
      go : (t : Bool) → eqb (entry_length r) 0 ≡ t → entry_found n nb (entry_by (value old nb) r t) ≡ entry_found_by o old r t
      go true e = rw e refl
      go false e =
          let x = h e in
          let u = has_second r in
          let size : le32_at 4 (row_with old nb r u) ≡ le32_at 4 r = ap (from_le_bytes w32) (row_slice old nb r u) in
          let length_is : entry_length (row_with old nb r u) ≡ entry_length r = ap (λ (y : ℕ). y % 2 ^ 31) size in
          let some : eqb (entry_length (row_with old nb r u)) 0 ≡ false = ap (λ (y : ℕ). eqb y 0) length_is ∙ e in
          let at : nb + entry_offset (row_with old nb r u) ≡ f (old + entry_offset r) = omega (arith, row_offset_is old nb r u x, x.low) in
          let found : slice n (nb + entry_offset (row_with old nb r u)) (entry_length (row_with old nb r u)) ≡ slice o (old + entry_offset r) (entry_length r)
          = ap (λ (q : ℕ). slice n q (entry_length (row_with old nb r u))) at ∙ ap (slice n (f (old + entry_offset r))) length_is ∙ x.stays.same in
          ap (entry_found_by n nb (row_with old nb r u)) some
          ∙ ap (λ (y : ℕ). standard y (slice n (nb + entry_offset (row_with old nb r u)) (entry_length (row_with old nb r u))) (second_found n nb (row_with old nb r u) (has_second (row_with old nb r u)))) size
          ∙ ap (λ (y : List ℕ). standard (le32_at 4 r) y (second_found n nb (row_with old nb r u) (has_second (row_with old nb r u)))) found
          ∙ ap (standard (le32_at 4 r) (slice o (old + entry_offset r) (entry_length r))) (second_moves old nb r x u refl)

  uncounted_all : (p q : ℕ) (es : List (List ℕ)) → first_counted es ≡ None → map (entry_found n p) es ≡ map (entry_found o q) es
  uncounted_all p q [] e = refl
  uncounted_all p q (r ∷ es) e = go (eqb (entry_length r) 0) refl e (uncounted_all p q es)
    where
      go : (t : Bool) → eqb (entry_length r) 0 ≡ t → cond t (first_counted es) (Some (entry_offset r)) ≡ None → (first_counted es ≡ None → map (entry_found n p) es ≡ map (entry_found o q) es)
          → entry_found_by n p r t ∷ map (entry_found n p) es ≡ entry_found_by o q r t ∷ map (entry_found o q) es
      go true i e again = ap (λ (k : List Standard). uncounted ∷ k) (again e)
      go false i e again = absurd cc

  -- ---- an index

  abbrev new_base : List ℕ → ℕ → ℕ
  new_base body x = (index_base body + f (index_base body + x)) - (index_base body + x)

  abbrev pub StandardFits : List ℕ → Option ℕ → Type 0
  StandardFits body None = Unit {0}
  StandardFits body (Some x) = ((index_base body + f (index_base body + x)) - (index_base body + x) < 2 ^ 64) × AllByRecursion (EntryFits (index_base body) ((index_base body + f (index_base body + x)) - (index_base body + x))) (entries body)

  abbrev pub IndexFits_by : List ℕ → Bool → Type 0
  IndexFits_by body true = AllByRecursion SuperFits (entries body)
  IndexFits_by body false = StandardFits body (first_counted (entries body))

  abbrev pub IndexFits : Table → Type 0
  IndexFits t = IndexFits_by t.body (is_super t.body)

  pub index_moves : (ts : List Table) → AllByRecursion Rests ts → (t : Table) → Rests t → IndexFits t → finds n (map moved_index ts) (moved_index t) ≡ finds o ts t
  index_moves ts rests t r fits = ap (finds_by n (map moved_index ts) (moved_index t)) (index_is (move f) t.body r.whole) ∙ go (is_super t.body) fits
    where
      place : ordinal (map moved_index ts) (f t.at) ≡ ordinal ts t.at
      place = ordinal_moves ts t.at rests (body_ok t r).0

      some : (x : Option ℕ) → first_counted (entries t.body) ≡ x → StandardFits t.body x
          → map (entry_found n (index_base (standard_by (move f) t.body x))) (entries (standard_by (move f) t.body x)) ≡ map (entry_found o (index_base t.body)) (entries t.body)
      some None e h = uncounted_all (index_base t.body) (index_base t.body) (entries t.body) e
      some (Some x) e h =
          let nb = (index_base t.body + f (index_base t.body + x)) - (index_base t.body + x) in
          let v : ℕ → ℕ = value (index_base t.body) nb in
          rw (standard_base nb v t.body r.whole h.0, standard_entries nb v t.body r.whole)
          (map_same (EntryFits (index_base t.body) nb) (entry_found n nb) (entry_row v) (entry_found o (index_base t.body)) (entry_moves (index_base t.body) nb) (entries t.body) h.1)

      go : (b : Bool) → IndexFits_by t.body b → finds_by n (map moved_index ts) (record { at = f t.at; body = index_by (move f) t.body b }) b ≡ finds_by o ts t b
      go true h =
          rw (place, super_entries (move f) t.body r.whole)
          (ap (supers (ordinal ts t.at)) (map_same SuperFits (super_found (map moved_index ts)) (super_row (move f)) (super_found ts) (super_moves ts rests) (entries t.body) h))
      go false h = rw (place, some (first_counted (entries t.body)) refl h) refl

  -- ---- idx1

  abbrev pub RowFits : Base → List ℕ → Type 0
  RowFits from_start r = eqb (row_length r) 0 ≡ false → (12 ≤ length r) × (f (row_offset r) < 2 ^ 32) × Rigid f Ok (row_offset r) (8 + row_length r)
  RowFits from_movi r = Unit {0}

  -- bytes of an entry that is no index chunk are copied
  abbrev pub BytesStay : List Table → ℕ → ℕ → Type 0
  BytesStay ts p len = is_head ts p ≡ false → slice n (f (p + 8)) len ≡ slice o (p + 8) len

  abbrev pub RowStays : Base → List Table → List ℕ → Type 0
  RowStays from_start ts r = eqb (row_length r) 0 ≡ false → BytesStay ts (row_offset r) (row_length r)
  RowStays from_movi ts r = Unit {0}

  -- bytes in the first movi that are in no index chunk are copied
  abbrev pub ClearStays : List Table → Span → Type 0
  ClearStays ts movi = (q len : ℕ) → movi.at ≤ q → q + len ≤ movi.at + movi.len → misses ts q len ≡ true → slice n (f q) len ≡ slice o q len

  -- what an entry finds whose bytes are copied
  found_moves : (ts : List Table) → AllByRecursion Rests ts → (r q : List ℕ) (p : ℕ) → row_id q ≡ row_id r → row_flags q ≡ row_flags r → row_length q ≡ row_length r → 0 < row_length r
      → Rigid f Ok p (8 + row_length r) → BytesStay ts p (row_length r) → found_by n (map moved_index ts) q (f p) (is_head (map moved_index ts) (f p)) ≡ found_by o ts r p (is_head ts p)
  found_moves ts rests r q p a b c l s same =
      let eight = s 8 (omega arith) in
      ap (found_by n (map moved_index ts) q (f p)) (head_moves ts p rests eight.0 eight.1) ∙ go (is_head ts p) refl eight same
    where
      go : (t : Bool) → is_head ts p ≡ t → Ok (p + 8) × (f (p + 8) ≡ f p + 8) → BytesStay ts p (row_length r) → found_by n (map moved_index ts) q (f p) t ≡ found_by o ts r p t
      go true head eight same =
          let place : ordinal (map moved_index ts) (f p + 8) ≡ ordinal ts (p + 8) = ap (ordinal (map moved_index ts)) (sym eight.1) ∙ ordinal_moves ts (p + 8) rests eight.0 in
          rw (a, b, place) refl
      go false head eight same =
          let here : slice n (f p + 8) (row_length q) ≡ slice o (p + 8) (row_length r) = ap (λ (k : ℕ). slice n k (row_length q)) (sym eight.1) ∙ ap (slice n (f (p + 8))) c ∙ same head in
          rw (a, b, here) refl

  nothing_counted : (ts us : List Table) (r q : List ℕ) (p k : ℕ) (c d : Bool) → c ≡ false → d ≡ false → counted_by n us q k c ≡ counted_by o ts r p d
  nothing_counted ts us r q p k c d e g = rw (e, g) refl

  length_some : (x : ℕ) → eqb x 0 ≡ false → 0 < x
  length_some x e = omega (arith, eqb-false x 0 e)

  start_moves : (ts : List Table) → AllByRecursion Rests ts → (movi movi2 : Span) (r : List ℕ) → RowFits from_start r → RowStays from_start ts r
      → old_found n from_start movi2 (map moved_index ts) (old_row f from_start r) ≡ old_found o from_start movi ts r
  start_moves ts rests movi movi2 r h same = go (eqb (row_length r) 0) refl
    where
      go : (t : Bool) → eqb (row_length r) 0 ≡ t → old_found n from_start movi2 (map moved_index ts) (old_by f r from_start t) ≡ counted_by o ts r (row_offset r) (not t)
      go true e = ap (λ (t : Bool). counted_by n (map moved_index ts) r (row_offset r) (not t)) e
      go false e =
          let x = h e in
          let q = put32 8 (f (row_offset r)) r in
          let num : row_offset q ≡ f (row_offset r) = le32_put 8 (f (row_offset r)) r x.0 x.1 in
          let len : row_length q ≡ row_length r = ap (from_le_bytes w32) (slice_put32 8 (f (row_offset r)) r 12 4 (inl (omega arith))) in
          let flags : row_flags q ≡ row_flags r = ap (from_le_bytes w32) (slice_put32 8 (f (row_offset r)) r 4 4 (inr (omega arith))) in
          let id : row_id q ≡ row_id r = slice_put32 8 (f (row_offset r)) r 0 4 (inr (omega arith)) in
          ap (λ (k : ℕ). counted_by n (map moved_index ts) q (row_offset q) (not (eqb k 0))) len
          ∙ ap (λ (t : Bool). counted_by n (map moved_index ts) q (row_offset q) (not t)) e
          ∙ ap (λ (k : ℕ). found_by n (map moved_index ts) q k (is_head (map moved_index ts) k)) num
          ∙ found_moves ts rests r q (row_offset r) id flags len (length_some (row_length r) e) x.2 (same e)

  pub within_moves : (at to len off m : ℕ) → within (record { at = to; len = len }) (to + off) m ≡ within (record { at = at; len = len }) (at + off) m
  within_moves at to len off m =
      let one : leb to (to + off) ≡ leb at (at + off) = le-leb to (to + off) (omega arith) ∙ sym (le-leb at (at + off) (omega arith)) in
      let a : (to + off) + m ≡ (off + m) + to = omega arith in
      let b : to + len ≡ len + to = omega arith in
      let c : (at + off) + m ≡ (off + m) + at = omega arith in
      let d : at + len ≡ len + at = omega arith in
      let two : leb ((to + off) + m) (to + len) ≡ leb ((at + off) + m) (at + len) = rw (a, b, c, d) (leb_more (off + m) len to ∙ sym (leb_more (off + m) len at)) in
      rw (one, two) refl

  movi_moves : (ts : List Table) → AllByRecursion Rests ts → (movi : Span) → Rigid f Ok movi.at movi.len → ClearStays ts movi → (r : List ℕ)
      → old_found n from_movi (record { at = f movi.at; len = movi.len }) (map moved_index ts) r ≡ old_found o from_movi movi ts r
  movi_moves ts rests movi s clear r = go (eqb (row_length r) 0) (within movi (movi.at + row_offset r) (8 + row_length r)) refl refl
    where
      us : List Table
      us = map moved_index ts

      go : (z w : Bool) → eqb (row_length r) 0 ≡ z → within movi (movi.at + row_offset r) (8 + row_length r) ≡ w
          → counted_by n us r (f movi.at + row_offset r) (not (eqb (row_length r) 0) && (within (record { at = f movi.at; len = movi.len }) (f movi.at + row_offset r) (8 + row_length r) && (is_head us (f movi.at + row_offset r) || misses us ((f movi.at + row_offset r) + 8) (row_length r))))
          ≡ counted_by o ts r (movi.at + row_offset r) (not (eqb (row_length r) 0) && (within movi (movi.at + row_offset r) (8 + row_length r) && (is_head ts (movi.at + row_offset r) || misses ts ((movi.at + row_offset r) + 8) (row_length r))))
      go true w e i = rw e refl
      go false false e i = rw (e, within_moves movi.at (f movi.at) movi.len (row_offset r) (8 + row_length r), i) refl
      go false true e i =
          let some = length_some (row_length r) e in
          let inside = and_parts (leb movi.at (movi.at + row_offset r)) (leb ((movi.at + row_offset r) + (8 + row_length r)) (movi.at + movi.len)) i in
          let fits = leb-true ((movi.at + row_offset r) + (8 + row_length r)) (movi.at + movi.len) inside.1 in
          let part = rigid_part f Ok movi.at movi.len (row_offset r) (8 + row_length r) (omega (arith, fits)) (omega (arith, fits)) s in
          let here : f (movi.at + row_offset r) ≡ f movi.at + row_offset r = (s (row_offset r) (omega (arith, fits))).1 in
          let eight = part 8 (omega arith) in
          let head : is_head us (f movi.at + row_offset r) ≡ is_head ts (movi.at + row_offset r) = ap (is_head us) (sym here) ∙ head_moves ts (movi.at + row_offset r) rests eight.0 eight.1 in
          let at8 : (f movi.at + row_offset r) + 8 ≡ f ((movi.at + row_offset r) + 8) = omega (arith, here, eight.1) in
          let rest = rigid_part f Ok (movi.at + row_offset r) (8 + row_length r) 8 (row_length r) (omega arith) (omega arith) part in
          let miss : misses us ((f movi.at + row_offset r) + 8) (row_length r) ≡ misses ts ((movi.at + row_offset r) + 8) (row_length r) = ap (λ (q : ℕ). misses us q (row_length r)) at8 ∙ misses_moves ts ((movi.at + row_offset r) + 8) (row_length r) rests some rest in
          let found : BytesStay ts (movi.at + row_offset r) (row_length r) → found_by n us r (f movi.at + row_offset r) (is_head us (f movi.at + row_offset r)) ≡ found_by o ts r (movi.at + row_offset r) (is_head ts (movi.at + row_offset r))
          = λ x. ap (λ (q : ℕ). found_by n us r q (is_head us q)) (sym here) ∙ found_moves ts rests r r (movi.at + row_offset r) refl refl refl some part x in
          rw (e, within_moves movi.at (f movi.at) movi.len (row_offset r) (8 + row_length r), i, miss)
          (last (is_head us (f movi.at + row_offset r)) (is_head ts (movi.at + row_offset r)) (misses ts ((movi.at + row_offset r) + 8) (row_length r)) refl refl head found
          (λ m. clear ((movi.at + row_offset r) + 8) (row_length r) (omega arith) (omega (arith, fits)) m))
        where
          last : (a b m : Bool) → is_head ts (movi.at + row_offset r) ≡ b → misses ts ((movi.at + row_offset r) + 8) (row_length r) ≡ m → a ≡ b
              → (BytesStay ts (movi.at + row_offset r) (row_length r) → found_by n us r (f movi.at + row_offset r) (is_head us (f movi.at + row_offset r)) ≡ found_by o ts r (movi.at + row_offset r) (is_head ts (movi.at + row_offset r)))
              → (misses ts ((movi.at + row_offset r) + 8) (row_length r) ≡ true → slice n (f ((movi.at + row_offset r) + 8)) (row_length r) ≡ slice o ((movi.at + row_offset r) + 8) (row_length r))
              → counted_by n us r (f movi.at + row_offset r) (a || m) ≡ counted_by o ts r (movi.at + row_offset r) (b || m)
          last true true m b k e h c = h (λ no. absurd cc)
          last true false m b k e h c = absurd cc
          last false true m b k e h c = absurd cc
          last false false true b k e h c = h (λ no. c k)
          last false false false b k e h c = refl

  -- ---- the base

  abbrev pub moved_old : Base → Table → Table
  moved_old b t = record { at = f (t.at - 8) + 8; body = old_body f b t.body }

  pub decides_moves : (b : Base) (r : List ℕ) → decides (old_row f b r) ≡ decides r
  decides_moves b r =
      ap (λ (x : List ℕ). not (eqb (from_le_bytes w32 x) 0) && eqb (row_flags (old_row f b r) % 2) 0) (old_slices (move f) b r 12 4 (inl (omega arith)))
      ∙ ap (λ (x : List ℕ). not (eqb (row_length r) 0) && eqb (from_le_bytes w32 x % 2) 0) (old_slices (move f) b r 4 4 (inr (omega arith)))

  pub not_true : (t : Bool) → not t ≡ true → t ≡ false
  not_true true e = absurd cc
  not_true false e = refl

  pub start_at : (t : Bool) → base_at t ≡ from_start → t ≡ false
  start_at true e = absurd cc
  start_at false e = refl

  pub movi_at : (t : Bool) → base_at t ≡ from_movi → t ≡ true
  movi_at true e = refl
  movi_at false e = absurd cc

  pub offset_moves : (movi : ℕ) → Ok movi → (r : List ℕ) → RowFits from_start r → eqb (row_length r) 0 ≡ false → ltb (row_offset (old_row f from_start r)) (f movi) ≡ ltb (row_offset r) movi
  offset_moves movi ok r h e =
      let x = h e in
      let z : row_offset r + 0 ≡ row_offset r = omega arith in
      let here : Ok (row_offset r) = rw z at (x.2 0 (omega arith)).0 in
      let num : row_offset (put32 8 (f (row_offset r)) r) ≡ f (row_offset r) = le32_put 8 (f (row_offset r)) r x.0 x.1 in
      ap (λ (t : Bool). ltb (row_offset (old_by f r from_start t)) (f movi)) e ∙ ap (λ (k : ℕ). ltb k (f movi)) num ∙ lt_moves f Ok order (row_offset r) movi here ok

  start_base : (movi : ℕ) → Ok movi → (rs : List (List ℕ)) → AllByRecursion (RowFits from_start) rs → base_of movi rs ≡ from_start → base_of (f movi) (map (old_row f from_start) rs) ≡ from_start
  start_base movi ok [] h e = e
  start_base movi ok (r ∷ rs) h e = rw (decides_moves from_start r) (go (decides r) refl e (start_base movi ok rs h.1))
    where
      go : (d : Bool) → decides r ≡ d → cond d (base_at (ltb (row_offset r) movi)) (base_of movi rs) ≡ from_start → (base_of movi rs ≡ from_start → base_of (f movi) (map (old_row f from_start) rs) ≡ from_start)
          → cond d (base_at (ltb (row_offset (old_row f from_start r)) (f movi))) (base_of (f movi) (map (old_row f from_start) rs)) ≡ from_start
      go true d e again =
          let p = and_parts (not (eqb (row_length r) 0)) (eqb (row_flags r % 2) 0) d in
          ap base_at (offset_moves movi ok r h.0 (not_true (eqb (row_length r) 0) p.0)) ∙ e
      go false d e again = again e

  movi_base : (movi : ℕ) → movi ≤ f movi → (rs : List (List ℕ)) → base_of movi rs ≡ from_movi → base_of (f movi) (map (old_row f from_movi) rs) ≡ from_movi
  movi_base movi low [] e = e
  movi_base movi low (r ∷ rs) e = go (decides r) e (movi_base movi low rs)
    where
      go : (d : Bool) → cond d (base_at (ltb (row_offset r) movi)) (base_of movi rs) ≡ from_movi → (base_of movi rs ≡ from_movi → base_of (f movi) (map (old_row f from_movi) rs) ≡ from_movi)
          → cond d (base_at (ltb (row_offset r) (f movi))) (base_of (f movi) (map (old_row f from_movi) rs)) ≡ from_movi
      go true e again = let less = ltb-true (row_offset r) movi (movi_at (ltb (row_offset r) movi) e) in rw (lt-ltb (row_offset r) (f movi) (omega (arith, low))) refl
      go false e again = again e

  rows_base : (b : Base) (movi : ℕ) → Ok movi → movi ≤ f movi → (rs : List (List ℕ)) → AllByRecursion (RowFits b) rs → base_of movi rs ≡ b → base_of (f movi) (map (old_row f b) rs) ≡ b
  rows_base from_start movi ok low rs h e = start_base movi ok rs h e
  rows_base from_movi movi ok low rs h e = movi_base movi low rs e

  -- ---- all tables

  -- What the pieces law rests on: the tables of n are those of o, moved and with their numbers moved; their chunks and the
  -- essence are copied; and no number passes its width.
  pub record TablesMove : Type 0 where
    pub indexes_move : indexes n ≡ map moved_index (indexes o)
    pub olds_move : olds n ≡ map (moved_old (base o)) (olds o)
    pub movi_moves : first_movi (avi_of n) ≡ record { at = f (first_movi (avi_of o)).at; len = (first_movi (avi_of o)).len }
    pub movi_ok : Ok (first_movi (avi_of o)).at
    pub movi_grows : (first_movi (avi_of o)).at ≤ f (first_movi (avi_of o)).at
    pub movi_rigid : Rigid f Ok (first_movi (avi_of o)).at (first_movi (avi_of o)).len
    pub clear_stays : ClearStays (indexes o) (first_movi (avi_of o))
    pub indexes_rest : AllByRecursion Rests (indexes o)
    pub indexes_fit : AllByRecursion IndexFits (indexes o)
    pub rows_fit : AllByRecursion (λ t. AllByRecursion (RowFits (base o)) (old_rows t.body)) (olds o)
    pub rows_stay : AllByRecursion (λ t. AllByRecursion (RowStays (base o) (indexes o)) (old_rows t.body)) (olds o)

  base_moves : (b : Base) (movi : ℕ) → Ok movi → movi ≤ f movi → (ts : List Table) → AllByRecursion (λ t. AllByRecursion (RowFits b) (old_rows t.body)) ts → base_in movi ts ≡ b → base_in (f movi) (map (moved_old b) ts) ≡ b
  base_moves b movi ok low [] h e = e
  base_moves b movi ok low (t ∷ ts) h e = ap (base_of (f movi)) (old_rows_map (move f) b t.body) ∙ rows_base b movi ok low (old_rows t.body) h.0 e

  rows_move : (ts : List Table) → AllByRecursion Rests ts → (b : Base) (movi : Span) → Rigid f Ok movi.at movi.len → ClearStays ts movi → (r : List ℕ) → RowFits b r × RowStays b ts r
      → old_found n b (record { at = f movi.at; len = movi.len }) (map moved_index ts) (old_row f b r) ≡ old_found o b movi ts r
  rows_move ts rests from_start movi s c r h = start_moves ts rests movi (record { at = f movi.at; len = movi.len }) r h.0 h.1
  rows_move ts rests from_movi movi s c r h = movi_moves ts rests movi s c r

  both_of : {X : Type 0} (P Q : X → Type 0) (xs : List X) → AllByRecursion P xs → AllByRecursion Q xs → AllByRecursion (λ x. P x × Q x) xs
  both_of P Q [] h g = tt
  both_of P Q (x ∷ xs) h g = ((h.0, g.0), both_of P Q xs h.1 g.1)

  olds_found : (ts : List Table) → AllByRecursion Rests ts → (b : Base) (movi : Span) → Rigid f Ok movi.at movi.len → ClearStays ts movi → (us : List Table) → AllByRecursion (λ t. AllByRecursion (RowFits b) (old_rows t.body)) us → AllByRecursion (λ t. AllByRecursion (RowStays b ts) (old_rows t.body)) us
      → map (λ t. map (old_found n b (record { at = f movi.at; len = movi.len }) (map moved_index ts)) (old_rows t.body)) (map (moved_old b) us) ≡ map (λ t. map (old_found o b movi ts) (old_rows t.body)) us
  olds_found ts rests b movi s c [] h g = refl
  olds_found ts rests b movi s c (t ∷ us) h g =
      rw (old_rows_map (move f) b t.body, map_same (λ r. RowFits b r × RowStays b ts r) (old_found n b (record { at = f movi.at; len = movi.len }) (map moved_index ts)) (old_row f b) (old_found o b movi ts) (rows_move ts rests b movi s c) (old_rows t.body) (both_of (RowFits b) (RowStays b ts) (old_rows t.body) h.0 g.0), olds_found ts rests b movi s c us h.1 g.1) refl

  abbrev pieces_with : Base → Span → List Table → List Table → Pieces
  pieces_with b movi ts us = record { based = b; olds = map (λ t. map (old_found n b movi ts) (old_rows t.body)) us; indexes = map (finds n ts) ts }

  finds_all : (ts us : List Table) → AllByRecursion Rests ts → AllByRecursion Rests us → AllByRecursion IndexFits us → map (finds n (map moved_index ts)) (map moved_index us) ≡ map (finds o ts) us
  finds_all ts [] a h g = refl
  finds_all ts (t ∷ us) a h g = rw (index_moves ts a t h.0 g.0, finds_all ts us a h.1 g.1) refl

  -- The law: every table finds what it found.
  pub pieces_move : TablesMove → pieces n ≡ pieces o
  pieces_move h =
      let b = base o in
      let movi = first_movi (avi_of o) in
      let ts = indexes o in
      let us = olds o in
      let based : base n ≡ b = ap (λ (x : Span). base_in x.at (olds n)) h.movi_moves ∙ ap (base_in (f movi.at)) h.olds_move ∙ base_moves b movi.at h.movi_ok h.movi_grows us h.rows_fit refl in
      ap (λ (x : Base). pieces_with x (first_movi (avi_of n)) (indexes n) (olds n)) based
      ∙ ap (λ (x : Span). pieces_with b x (indexes n) (olds n)) h.movi_moves
      ∙ ap (λ (x : List Table). pieces_with b (record { at = f movi.at; len = movi.len }) x (olds n)) h.indexes_move
      ∙ ap (pieces_with b (record { at = f movi.at; len = movi.len }) (map moved_index ts)) h.olds_move
      ∙ ap (λ (x : List (List Found)). record { based = b; olds = x; indexes = map (finds n (map moved_index ts)) (map moved_index ts) }) (olds_found ts h.indexes_rest b movi h.movi_rigid h.clear_stays us h.rows_fit h.rows_stay)
      ∙ ap (λ (x : List Finds). record { based = b; olds = map (λ t. map (old_found o b movi ts) (old_rows t.body)) us; indexes = x }) (finds_all ts ts h.indexes_rest h.indexes_rest h.indexes_fit)
