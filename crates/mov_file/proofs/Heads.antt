-- The heads of tables, read from the file.
use Rattle.std.proofs.Common.{◌≡◌, ◌∙◌, ℕ, zero, suc, ◌+◌, ◌-◌, ◌*◌, ◌<◌, ◌≤◌, Bool, true, false, ltb, leb, eqb, List, length, take, drop, refl, sym, ap, arith, Option, Some, None, inl, inr}
use Rattle.std.specs.Prelude.{◌&&◌, ◌%◌, codes, not, if◌then◌else◌}
use Rattle.std.specs.Int.{w32, from_be_bytes}
use Rattle.std.specs.Str.{bytes_eq}
use Rattle.std.proofs.lemmas.Bool.{cases_lt, le-leb, le-ltb, lt-leb}
use Rattle.container_model.specs.Windows.{window}
use Rattle.container_model.proofs.Windows.{length_slice, window-drop, window-take}
use Rattle.mov_file.specs.declared.holder.Holder.{Holder}
use Rattle.mov_file.specs.declared.holder.Holder.TheVariants.{Dinf}
use Rattle.mov_file.specs.Holder.{place_of}
use Rattle.std.proofs.lemmas.List.{drop-drop, drop-take, take-take}
use Rattle.part_tree.specs.declared.why.Why.TheVariants.{External, OtherOffsets, TableShort, TableTwice}
use Rattle.container_model.specs.Chunk.{Chunk}
use Rattle.container_model.specs.Walk.{Step}
use Rattle.container_model.specs.Written.{slice}
use Rattle.mov_model.specs.Atoms.{Place, dinf}
use Rattle.container_model.specs.Atoms.{atom, is, is_listed}
use Rattle.mov_model.specs.Reading.{once}
use Rattle.sample_tables.specs.Tables.{entries_local, entries_whole, entry_flags, entry_size, is_external, is_short_reference, is_short_table, size_rows}
use Rattle.mov_model.specs.Why.{external, is_twice, names_met, other_offsets, short_table, track_number, track_tests}
use Rattle.container_model.specs.Tests.{first}
use Rattle.sample_tables.specs.Counts.{row_len_of, size_count}
use Rattle.mov_file.specs.Tables.{rows_short, sizes_short}

-- some bytes of a range
pub in_slice : (b : List ℕ) (at n j k : ℕ) → j + k ≤ n → take k (drop j (slice b at n)) ≡ take k (drop (at + j) b)
in_slice b at n j k room =
    let split : n ≡ j + (n - j) = omega arith in
    ap (λ (m : ℕ). take k (drop j (take m (drop at b)))) split
    ∙ ap (take k) (drop-take j (n - j) (drop at b)) ∙ take-take k (n - j) (drop j (drop at b)) (omega arith) ∙ ap (take k) (drop-drop j at b)

short_cases : (s c r z : Bool) (n m len : ℕ)
    → ltb len (if s then 8 + 4 * n else (if c then 8 + 8 * n else (if r then 8 + 12 * n else (if z then 12 + size_rows n m else 0))))
    ≡ elim (if s then Some 4 else (if c then Some 8 else (if r then Some 12 else None))) [
      | Some k ↦ ltb len (8 + k * n)
      | None ↦ if z then ltb len (12 + size_rows n m) else false
    ]
short_cases true c r z n m len = refl
short_cases false true r z n m len = refl
short_cases false false true z n m len = refl
short_cases false false false true n m len = refl
short_cases false false false false n m len = le-ltb len 0 (omega arith)

pub short_told : (id body : List ℕ) → is_short_table (atom id body) ≡ elim (row_len_of id) [ Some k ↦ rows_short k body | None ↦ if bytes_eq id (codes "stsz") then sizes_short body else false ]
short_told id body =
    short_cases (bytes_eq id (codes "stco")) (bytes_eq id (codes "co64")) (bytes_eq id (codes "stsc")) (bytes_eq id (codes "stsz")) (from_be_bytes w32 (take 4 (drop 4 body))) (size_count body) (length body)

-- ---- the tests of an atom of a track

module _ (p : Place) (before : List (Step Place)) (at : ℕ) (c : Chunk) (n : ℕ) (track : n ≡ track_number before) where
  pub is_other : other_offsets p c ≡ true → Some (OtherOffsets n) ≡ first (track_tests p before at c)
  is_other o = rw (o, track) refl

  pub is_second : other_offsets p c ≡ false → is_twice (once p c.id) (names_met before) ≡ true → Some (TableTwice n) ≡ first (track_tests p before at c)
  is_second o t = rw (o, t, track) refl

  pub is_cut : other_offsets p c ≡ false → is_twice (once p c.id) (names_met before) ≡ false → short_table p c ≡ true → Some (TableShort at) ≡ first (track_tests p before at c)
  is_cut o t s = rw (o, t, s) refl

  pub is_outside : other_offsets p c ≡ false → is_twice (once p c.id) (names_met before) ≡ false → short_table p c ≡ false → external p c ≡ true → Some (External n) ≡ first (track_tests p before at c)
  is_outside o t s e = rw (o, t, s, e, track) refl

  pub is_fine : other_offsets p c ≡ false → is_twice (once p c.id) (names_met before) ≡ false → short_table p c ≡ false → external p c ≡ false → None ≡ first (track_tests p before at c)
  is_fine o t s e = rw (o, t, s, e) refl

twice_same : (o : Option (List ℕ)) (xs ys : List (List ℕ)) → ((x : List ℕ) → is_listed x xs ≡ is_listed x ys) → is_twice o xs ≡ is_twice o ys
twice_same None xs ys h = refl
twice_same (Some x) xs ys h = h x

pub twice_met : (p : Place) (id : List ℕ) (xs ys : List (List ℕ)) → ((x : List ℕ) → is_listed x xs ≡ is_listed x ys) → is_twice (once p id) xs ≡ is_twice (once p id) ys
twice_met p id xs ys h = twice_same (once p id) xs ys h

-- ---- what is read of a head

pub number_known : (b : List ℕ) (at n j m : ℕ) → j + 4 ≤ n → m ≡ from_be_bytes w32 (take 4 (drop (at + j) b)) → m ≡ from_be_bytes w32 (take 4 (drop j (slice b at n)))
number_known b at n j m room e = e ∙ ap (from_be_bytes w32) (sym (in_slice b at n j 4 room))

pub rows_known : (b : List ℕ) (at n len m : ℕ) → at + n ≤ length b → 8 ≤ n → m ≡ from_be_bytes w32 (take 4 (drop (at + 4) b)) → ltb n (8 + len * m) ≡ rows_short len (slice b at n)
rows_known b at n len m fits room e =
    ap (λ (i : ℕ). ltb i (8 + len * m)) (sym (length_slice b at n fits)) ∙ ap (λ (i : ℕ). ltb (length (slice b at n)) (8 + len * i)) (number_known b at n 4 m (omega arith) e)

no_rows : (k m : ℕ) → (k ≡ 0 → ⊥) → size_rows k m ≡ 0
no_rows zero m h = absurd (h refl)
no_rows (suc k) m h = refl

pub common_known : (b : List ℕ) (at n k : ℕ) → at + n ≤ length b → 12 ≤ n → k ≡ from_be_bytes w32 (take 4 (drop (at + 4) b)) → (k ≡ 0 → ⊥) → false ≡ sizes_short (slice b at n)
common_known b at n k fits room e some =
    let body = slice b at n in
    let same = number_known b at n 4 k (omega arith) e in
    sym (ap (λ (i : ℕ). ltb (length body) (12 + i)) (ap (λ (i : ℕ). size_rows i (size_count body)) (sym same) ∙ no_rows k (size_count body) some) ∙ le-ltb (length body) (12 + 0) (omega (arith, length_slice b at n fits)))

pub sizes_known : (b : List ℕ) (at n k m : ℕ) → at + n ≤ length b → 12 ≤ n → k ≡ from_be_bytes w32 (take 4 (drop (at + 4) b)) → k ≡ 0 → m ≡ from_be_bytes w32 (take 4 (drop (at + 8) b)) → ltb n (12 + 4 * m) ≡ sizes_short (slice b at n)
sizes_known b at n k m fits room e none f =
    let body = slice b at n in
    let zero_too : 0 ≡ from_be_bytes w32 (take 4 (drop 4 body)) = sym none ∙ number_known b at n 4 k (omega arith) e in
    ap (λ (i : ℕ). ltb i (12 + 4 * m)) (sym (length_slice b at n fits)) ∙ ap (λ (i : ℕ). ltb (length body) (12 + 4 * i)) (number_known b at n 8 m (omega arith) f)
    ∙ ap (λ (i : ℕ). ltb (length body) (12 + size_rows i (size_count body))) zero_too

abbrev short_by : List ℕ → List ℕ → Option ℕ → Bool
short_by id body o = elim o [ Some k ↦ rows_short k body | None ↦ if bytes_eq id (codes "stsz") then sizes_short body else false ]

pub short_rows : (id body : List ℕ) (k : ℕ) → Some k ≡ row_len_of id → rows_short k body ≡ is_short_table (atom id body)
short_rows id body k e = ap (short_by id body) e ∙ sym (short_told id body)

pub short_sizes : (id body : List ℕ) → None ≡ row_len_of id → bytes_eq id (codes "stsz") ≡ true → sizes_short body ≡ is_short_table (atom id body)
short_sizes id body e is = ap (λ (t : Bool). if t then sizes_short body else false) (sym is) ∙ whole e
  where
    whole : None ≡ row_len_of id → (if bytes_eq id (codes "stsz") then sizes_short body else false) ≡ is_short_table (atom id body)
    whole e = ap (short_by id body) e ∙ sym (short_told id body)

-- ---- the entries of references

pub whole_small : (k n : ℕ) (b : List ℕ) → 0 < k → n ≡ entry_size b → n < 12 → entries_whole k b ≡ false
whole_small zero n b some e lt = absurd (omega arith)
whole_small (suc k) n b some e lt = ap (λ (t : Bool). t && (leb (entry_size b) (length b) && entries_whole k (drop (entry_size b) b))) (lt-leb 12 (entry_size b) (omega (arith, e)))

pub whole_past : (k n : ℕ) (b : List ℕ) → 0 < k → n ≡ entry_size b → length b < n → entries_whole k b ≡ false
whole_past zero n b some e lt = absurd (omega arith)
whole_past (suc k) n b some e lt =
    ap (λ (t : Bool). leb 12 (entry_size b) && (t && entries_whole k (drop (entry_size b) b))) (lt-leb (entry_size b) (length b) (omega (arith, e))) ∙ and_none (leb 12 (entry_size b))
  where
    and_none : (t : Bool) → (t && false) ≡ false
    and_none true = refl
    and_none false = refl

pub whole_cut : (k : ℕ) (b : List ℕ) → 0 < k → length b < 12 → entries_whole k b ≡ false
whole_cut k b some lt = elim (cases_lt (entry_size b) 12) [
  | inl less ↦ whole_small k (entry_size b) b some refl less
  | inr more ↦ whole_past k (entry_size b) b some refl (omega arith)
]

pub whole_step : (k n : ℕ) (b : List ℕ) → 0 < k → n ≡ entry_size b → 12 ≤ n → n ≤ length b → entries_whole k b ≡ entries_whole (k - 1) (drop n b)
whole_step zero n b some e le room = absurd (omega arith)
whole_step (suc k) n b some e le room =
    let less : suc k - 1 ≡ k = omega arith in
    let first : leb 12 (entry_size b) ≡ true = le-leb 12 (entry_size b) (omega (arith, e)) in
    let second : leb (entry_size b) (length b) ≡ true = le-leb (entry_size b) (length b) (omega (arith, e)) in
    rw (first, second) (ap (λ (i : ℕ). entries_whole k (drop i b)) (sym e) ∙ ap (λ (i : ℕ). entries_whole i (drop n b)) (sym less))

pub local_step : (k n f : ℕ) (b : List ℕ) (was : Bool) → 0 < k → n ≡ entry_size b → f ≡ entry_flags b → (was && entries_local k b) ≡ ((was && eqb (f % 2) 1) && entries_local (k - 1) (drop n b))
local_step zero n f b was some e g = absurd (omega arith)
local_step (suc k) n f b was some e g =
    let less : suc k - 1 ≡ k = omega arith in
    ap (λ (i : ℕ). was && (eqb (i % 2) 1 && entries_local k (drop (entry_size b) b))) (sym g)
    ∙ ap (λ (i : ℕ). was && (eqb (f % 2) 1 && entries_local k (drop i b))) (sym e)
    ∙ ap (λ (i : ℕ). was && (eqb (f % 2) 1 && entries_local i (drop n b))) (sym less) ∙ regroup was (eqb (f % 2) 1) (entries_local (suc k - 1) (drop n b))
  where
    regroup : (x y z : Bool) → (x && (y && z)) ≡ ((x && y) && z)
    regroup true y z = refl
    regroup false y z = refl

pub size_there : (b : List ℕ) (at end n : ℕ) → at + 4 ≤ end → n ≡ from_be_bytes w32 (take 4 (drop at b)) → n ≡ entry_size (window b at end)
size_there b at end n room e = e ∙ ap (from_be_bytes w32) (sym (window-take b at end 4 (omega arith)))

pub window_behind : (b : List ℕ) (at end n : ℕ) → end ≤ length b → at + n ≤ end → drop n (window b at end) ≡ window b (at + n) end
window_behind b at end n fits room = window-drop b at end n fits ∙ ap (λ (i : ℕ). window b i end) (omega arith)

pub flags_there : (b : List ℕ) (at end f : ℕ) → end ≤ length b → at + 12 ≤ end → f ≡ from_be_bytes w32 (take 4 (drop (at + 8) b)) → f ≡ entry_flags (window b at end)
flags_there b at end f fits room e = e ∙ ap (from_be_bytes w32) (sym (ap (take 4) (window_behind b at end 8 fits (omega arith)) ∙ window-take b (at + 8) end 4 (omega arith)))

pub entries_at : (b : List ℕ) (at n : ℕ) → at + n ≤ length b → 8 ≤ n → drop 8 (slice b at n) ≡ window b (at + 8) (at + n)
entries_at b at n fits room = ap (λ (i : ℕ). drop 8 (take i (drop at b))) (omega arith) ∙ window_behind b at (at + n) 8 fits (omega arith)

pub reference_short : (id body : List ℕ) (m : ℕ) → bytes_eq id (codes "dref") ≡ true → m ≡ from_be_bytes w32 (take 4 (drop 4 body)) → entries_whole m (drop 8 body) ≡ false → is_short_reference (atom id body) ≡ true
reference_short id body m is e cut =
    let none : entries_whole (from_be_bytes w32 (take 4 (drop 4 body))) (drop 8 body) ≡ false = ap (λ (i : ℕ). entries_whole i (drop 8 body)) (sym e) ∙ cut in
    rw (is, none) (not_both (leb 8 (length body)))
  where
    not_both : (t : Bool) → not (t && false) ≡ true
    not_both true = refl
    not_both false = refl

-- ---- in dinf

module _ (h : Holder) (before : List (Step Place)) (at : ℕ) (c : Chunk) (n : ℕ) (xs : List (List ℕ)) (is : h ≡ Dinf) (track : n ≡ track_number before)
    (met : (x : List ℕ) → is_listed x xs ≡ is_listed x (names_met before)) (once_only : is_twice (once (place_of h) c.id) xs ≡ false) where
  once_there : is_twice (once dinf c.id) (names_met before) ≡ false
  once_there = sym (twice_met dinf c.id xs (names_met before) met) ∙ rw is at once_only

  pub dinf_short : is_short_reference c ≡ true → Some (TableShort at) ≡ first (track_tests (place_of h) before at c)
  dinf_short s = rw is (is_cut dinf before at c n track refl once_there s)

  pub dinf_external : is_short_reference c ≡ false → is_external c ≡ true → Some (External n) ≡ first (track_tests (place_of h) before at c)
  dinf_external s e = rw is (is_outside dinf before at c n track refl once_there s e)

  pub dinf_fine : is_short_reference c ≡ false → is_external c ≡ false → None ≡ first (track_tests (place_of h) before at c)
  dinf_fine s e = rw is (is_fine dinf before at c n track refl once_there s e)
