-- The heads of tables, read from the file.
use Rattle.std.proofs.Common.{◌≡◌, ◌∙◌, ℕ, zero, suc, ◌+◌, ◌*◌, ◌<◌, ◌≤◌, Bool, true, false, cond, ltb, List, length, take, drop, refl, sym, ap, arith, subst, Option, Some, None}
use Rattle.std.specs.Int.{w32, from_be_bytes}
use Rattle.std.proofs.lemmas.Bool.{lt-ltb, le-ltb}
use Rattle.part_tree.specs.declared.names.Span.{Span}
use Rattle.container_model.specs.Written.{slice}
use Rattle.container_model.proofs.Windows.{length_slice}
use Rattle.sample_tables.specs.Counts.{rows_by, size_count, size_rows_by}
use Rattle.sample_tables.specs.Tables.{size_rows}
use Rattle.track_samples.specs.Places.{AreSizes}
use Rattle.track_samples.specs.declared.sizes.SizeTable.{SizeTable}
use Rattle.track_samples.proofs.Slices.{number_told, short_slice}

abbrev number : List ℕ → ℕ → ℕ
number b at = from_be_bytes w32 (take 4 (drop at b))

-- a table without a head has no rows
pub no_head : (b : List ℕ) (at n len : ℕ) → n < 8 → None ≡ rows_by len (slice b at n)
no_head b at n len lt =
    let short = short_slice b at n in
    sym (ap (λ (t : Bool). cond t None (Some (number (slice b at n) 4))) (lt-ltb (length (slice b at n)) (8 + len * number (slice b at n) 4) (omega (arith, short))))

module _ (b : List ℕ) (at n len count : ℕ) (inside : at + n ≤ length b) (eight : 8 ≤ n) (read : count ≡ number b (at + 4)) where
  told : count ≡ number (slice b at n) 4
  told = number_told b at n 4 count (omega arith) read

  by_count : rows_by len (slice b at n) ≡ cond (ltb n (8 + len * count)) None (Some count)
  unfolding told
  by_count =
      ap (λ (m : ℕ). cond (ltb m (8 + len * number (slice b at n) 4)) None (Some (number (slice b at n) 4))) (length_slice b at n inside)
      ∙ ap (λ (k : ℕ). cond (ltb n (8 + len * k)) None (Some k)) (sym told)

  pub too_short : n < 8 + len * count → None ≡ rows_by len (slice b at n)
  unfolding by_count
  too_short lt = sym (by_count ∙ ap (λ (t : Bool). cond t None (Some count)) (lt-ltb n (8 + len * count) lt))

  pub long_enough : 8 + len * count ≤ n → Some count ≡ rows_by len (slice b at n)
  unfolding by_count
  long_enough le = sym (by_count ∙ ap (λ (t : Bool). cond t None (Some count)) (le-ltb n (8 + len * count) le))

-- ---- sizes

pub no_size_head : (b : List ℕ) (s : Span) (t : SizeTable) → s.len < 12 → t.common ≡ 0 → t.rows.count ≡ 0 → AreSizes (slice b s.at s.len) s (size_rows_by (slice b s.at s.len)) t
no_size_head b s t lt common none = go (ltb (length (slice b s.at s.len)) (12 + size_rows (number (slice b s.at s.len) 4) (size_count (slice b s.at s.len)))) refl
  where
    go : (u : Bool) → ltb (length (slice b s.at s.len)) (12 + size_rows (number (slice b s.at s.len) 4) (size_count (slice b s.at s.len))) ≡ u
        → AreSizes (slice b s.at s.len) s (cond u None (Some (size_count (slice b s.at s.len)))) t
    go true e = (common, none)
    go false e =
        let short = short_slice b s.at s.len in
        let past = lt-ltb (length (slice b s.at s.len)) (12 + size_rows (number (slice b s.at s.len) 4) (size_count (slice b s.at s.len))) (omega (arith, short)) in
        absurd cc

module _ (b : List ℕ) (s : Span) (common count : ℕ) (inside : s.at + s.len ≤ length b) (twelve : 12 ≤ s.len) (read : common ≡ number b (s.at + 4)) (counted : count ≡ number b (s.at + 8)) where
  common_told : common ≡ number (slice b s.at s.len) 4
  common_told = number_told b s.at s.len 4 common (omega arith) read

  count_told : count ≡ size_count (slice b s.at s.len)
  count_told = number_told b s.at s.len 8 count (omega arith) counted

  by_counts : size_rows_by (slice b s.at s.len) ≡ cond (ltb s.len (12 + size_rows common count)) None (Some count)
  unfolding common_told count_told
  by_counts =
      ap (λ (m : ℕ). cond (ltb m (12 + size_rows (number (slice b s.at s.len) 4) (size_count (slice b s.at s.len)))) None (Some (size_count (slice b s.at s.len)))) (length_slice b s.at s.len inside)
      ∙ ap (λ (k : ℕ). cond (ltb s.len (12 + size_rows k (size_count (slice b s.at s.len)))) None (Some (size_count (slice b s.at s.len)))) (sym common_told)
      ∙ ap (λ (k : ℕ). cond (ltb s.len (12 + size_rows common k)) None (Some k)) (sym count_told)

  need_each : common ≡ 0 → size_rows common count ≡ 4 * count
  need_each none = ap (λ (k : ℕ). size_rows k count) none

  pub sizes_cut : (t : SizeTable) → common ≡ 0 → s.len < 12 + 4 * count → t.common ≡ 0 → t.rows.count ≡ 0 → AreSizes (slice b s.at s.len) s (size_rows_by (slice b s.at s.len)) t
  unfolding by_counts need_each
  sizes_cut t none lt shared empty =
      let each = need_each none in
      let is : size_rows_by (slice b s.at s.len) ≡ None = by_counts ∙ ap (λ (u : Bool). cond u None (Some count)) (lt-ltb s.len (12 + size_rows common count) (omega (arith, each))) in
      subst (λ (o : Option ℕ). AreSizes (slice b s.at s.len) s o t) (sym is) (shared, empty)

  enough : (common ≡ 0 → 12 + 4 * count ≤ s.len) → 12 + size_rows common count ≤ s.len
  enough fits = go common fits
    where
      go : (k : ℕ) → (k ≡ 0 → 12 + 4 * count ≤ s.len) → 12 + size_rows k count ≤ s.len
      go zero h = h refl
      go (suc k) h = omega arith

  pub sizes_there : (t : SizeTable) → (common ≡ 0 → 12 + 4 * count ≤ s.len) → t.common ≡ common → t.rows.count ≡ count → t.rows.at ≡ s.at + 12 → AreSizes (slice b s.at s.len) s (size_rows_by (slice b s.at s.len)) t
  unfolding by_counts enough common_told
  sizes_there t fits shared many place =
      let le = enough fits in
      let is : size_rows_by (slice b s.at s.len) ≡ Some count = by_counts ∙ ap (λ (u : Bool). cond u None (Some count)) (le-ltb s.len (12 + size_rows common count) le) in
      subst (λ (o : Option ℕ). AreSizes (slice b s.at s.len) s o t) (sym is) (shared ∙ common_told, many, place)
