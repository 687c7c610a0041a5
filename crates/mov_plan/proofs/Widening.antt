-- The tables name all new places exactly where an edit doesn't widen the movie.
use Rattle.std.proofs.Common.{◌≡◌, ◌∙◌, ◌⊎◌, ℕ, zero, suc, ◌+◌, ◌-◌, ◌*◌, ◌^◌, ◌≤◌, ◌<◌, Bool, true, false, cond, leb, ltb, List, [], ◌∷◌, length, map, take, drop, None, Some, Option, refl, sym, ap, subst, arith, inl, inr}
use Rattle.std.specs.Prelude.{◌&&◌, ◌||◌, not, nat_le, nat_lt}
use Rattle.std.specs.Int.{w32, w64, from_be_bytes}
use Rattle.std.specs.List.{AllByRecursion, list_any}
use Rattle.std.proofs.lemmas.Bool.{cases_lt, le-leb, le-ltb, lt-ltb, leb-true, ltb-true}
use Rattle.std.proofs.lemmas.List.{length-drop, length-take-le}
use Rattle.me_bytes.specs.Bytes.{IsBytes, be}
use Rattle.part_tree.specs.Moves.{Ascend, Move, holds, place}
use Rattle.part_tree.specs.Tables.{RowsNamed, misfit, moved}
use Rattle.part_tree.specs.declared.field.EditItem.{EditItem}
use Rattle.part_tree.specs.declared.table.TableForm.TheVariants.{Chunks32, Chunks64}
use Rattle.carrier_model.specs.Gaps.{moves_of}
use Rattle.container_model.specs.Rows.{be32, be64, numbers}
use Rattle.container_model.specs.Splice.{Cut, shift}
use Rattle.mov_model.specs.Edited.{changes}
use Rattle.mov_model.specs.Movie.{movie_of}
use Rattle.mov_model.specs.New.{edit_cuts}
use Rattle.mov_model.specs.Support.{Readable}
use Rattle.mov_model.proofs.Clauses.{put_law}
use Rattle.mov_plan.specs.Made.{IsNamed}
use Rattle.mov_plan.specs.Planned.{AreTables}
use Rattle.mov_plan.specs.Tables.{form_of, passes, rows_of, widens_in, width_of}
use Rattle.mov_plan.specs.declared.tables.TableAt.{TableAt}
use Rattle.mov_plan.proofs.Laying.{Held, rows_fine}
use Rattle.mov_plan.proofs.Lying.{RowFine}
use Rattle.mov_plan.proofs.Namings.{eight_fits, four_fits}
use Rattle.mov_plan.proofs.Rowed.{PutTo, be_four, put_place, take_self}

-- ---- a place

-- where a range puts it, below 2^63
pub put_below : (low : ℕ) (ms : List Move) (p q : ℕ) → Ascend low ms → place ms p ≡ Some q → q < 2 ^ 63
put_below low [] p q up e = absurd cc
put_below low (m ∷ ms) p q up e = go (leb m.0.at p) (ltb p (m.0.at + m.0.len)) refl refl e (put_below (m.0.at + m.0.len) ms p q up.3)
  where
    go : (s t : Bool) → leb m.0.at p ≡ s → ltb p (m.0.at + m.0.len) ≡ t → cond (s && t) (Some (m.1 + (p - m.0.at))) (place ms p) ≡ Some q → (place ms p ≡ Some q → q < 2 ^ 63) → q < 2 ^ 63
    go true true h i e more =
        let at : m.1 + (p - m.0.at) ≡ q = cc in
        omega (arith, at, leb-true m.0.at p h, ltb-true p (m.0.at + m.0.len) i, up.1, up.2)
    go true false h i e more = more e
    go false t h i e more = more e

-- ---- rows

below_by : (bound x : ℕ) → cond (leb 0 x && ltb x bound) None (Some x) ≡ None → x < bound
below_by bound x h = go (cases_lt x bound)
  where
    go : (x < bound) ⊎ (bound ≤ x) → x < bound
    go (inl lt) = lt
    go (inr le) =
        let past : cond (leb 0 x && ltb x bound) None (Some x) ≡ Some x
        = ap (λ (t : Bool). cond (t && ltb x bound) None (Some x)) (le-leb 0 x (omega arith)) ∙ ap (λ (t : Bool). cond t None (Some x)) (le-ltb x bound le) in
        let never : Some x ≡ None = sym past ∙ h in
        absurd cc

four_below : (ms : List Move) (row : List ℕ) → length row ≡ 4 → misfit ms Chunks32 row ≡ None → moved ms (from_be_bytes w32 row) < 2 ^ 32
four_below ms row long fits =
    let number : 0 + be (take 4 row) ≡ from_be_bytes w32 row = omega (arith, ap be (take_self 4 row long), be_four row long) in
    subst (λ (n : ℕ). moved ms n < 2 ^ 32) number (below_by (2 ^ 32) (moved ms (0 + be (take 4 row))) fits)

or_parts : (a b : Bool) → (a || b) ≡ false → (a ≡ false) × (b ≡ false)
or_parts true b e = absurd cc
or_parts false b e = (refl, e)

module _ (ms : List Move) (f : ℕ → ℕ) where
  abbrev far : List ℕ → Bool
  far ps = list_any (λ p. nat_lt 4294967295 (f p)) ps

  -- rows of four bytes
  four_near : (n : ℕ) (x : List ℕ) → 4 * n ≤ length x → PutTo ms f (numbers be32 n x) → RowsNamed ms Chunks32 n x → far (numbers be32 n x) ≡ false
  four_near zero x long put named = refl
  four_near (suc n) x long put named =
      let p = from_be_bytes w32 (take 4 x) in
      let row : moved ms p < 2 ^ 32 = four_below ms (take 4 x) (length-take-le 4 x (omega (arith, long))) named.0 in
      let near : nat_lt 4294967295 (f p) ≡ false = le-ltb 4294967295 (f p) (omega (arith, put.0, row)) in
      ap (λ (t : Bool). t || far (numbers be32 n (drop 4 x))) near ∙ four_near n (drop 4 x) (omega (arith, long, length-drop 4 x)) put.1 named.1

  near_four : (n : ℕ) (x : List ℕ) → 4 * n ≤ length x → PutTo ms f (numbers be32 n x) → far (numbers be32 n x) ≡ false → RowsNamed ms Chunks32 n x
  near_four zero x long put near = tt
  near_four (suc n) x long put near =
      let p = from_be_bytes w32 (take 4 x) in
      let both = or_parts (nat_lt 4294967295 (f p)) (far (numbers be32 n (drop 4 x))) near in
      let row : moved ms p < 2 ^ 32 = go (cases_lt 4294967295 (f p)) both.0 put.0 in
      (four_fits ms (take 4 x) p (length-take-le 4 x (omega (arith, long))) refl row, near_four n (drop 4 x) (omega (arith, long, length-drop 4 x)) put.1 both.1)
    where
      go : (4294967295 < f (from_be_bytes w32 (take 4 x))) ⊎ (f (from_be_bytes w32 (take 4 x)) ≤ 4294967295) → nat_lt 4294967295 (f (from_be_bytes w32 (take 4 x))) ≡ false → moved ms (from_be_bytes w32 (take 4 x)) ≡ f (from_be_bytes w32 (take 4 x))
          → moved ms (from_be_bytes w32 (take 4 x)) < 2 ^ 32
      go (inl more) is same = let yes : nat_lt 4294967295 (f (from_be_bytes w32 (take 4 x))) ≡ true = lt-ltb 4294967295 (f (from_be_bytes w32 (take 4 x))) more in absurd cc
      go (inr less) is same = omega (arith, less, same)

  -- rows of eight bytes, which can name each place that a range puts there
  eight_named : (n : ℕ) (x : List ℕ) → 8 * n ≤ length x → AllByRecursion (λ p. moved ms p < 2 ^ 64) (numbers be64 n x) → RowsNamed ms Chunks64 n x
  eight_named zero x long small = tt
  eight_named (suc n) x long small =
      (eight_fits ms (take 8 x) (from_be_bytes w64 (take 8 x)) (length-take-le 8 x (omega (arith, long))) refl small.0, eight_named n (drop 8 x) (omega (arith, long, length-drop 8 x)) small.1)

-- ---- the tables of a supported movie

module _ (b : List ℕ) (e : List EditItem) (bytes : IsBytes b) (sup : Readable b) (ms : List Move) (is : ms ≡ moves_of (edit_cuts (movie_of b) (changes b e)) (length b)) (up : Ascend 0 ms) where
  abbrev slots : List Cut
  slots = edit_cuts (movie_of b) (changes b e)

  abbrev f : ℕ → ℕ
  f = shift slots

  abbrev H : ℕ → Type 0
  H = Held b bytes sup (changes b e)

  put : (p : ℕ) → H p → place ms p ≡ Some (f p)
  put p h = ap (λ (x : List Move). place x p) is ∙ put_law b bytes sup (changes b e) p h.0 h.1

  put_all : (ps : List ℕ) → AllByRecursion H ps → PutTo ms f ps
  put_all [] h = tt
  put_all (p ∷ ps) h = (put_place ms p (f p) (put p h.0), put_all ps h.1)

  small_all : (ps : List ℕ) → AllByRecursion H ps → AllByRecursion (λ p. moved ms p < 2 ^ 64) ps
  small_all [] h = tt
  small_all (p ∷ ps) h = (omega (arith, put_below 0 ms p (f p) up (put p h.0), put_place ms p (f p) (put p h.0)), small_all ps h.1)

  table_near : (wide : Bool) (at rows : ℕ) → RowFine b H (record { at = at; width = width_of wide; rows = rows }) → RowsNamed ms (form_of wide false) rows (drop at b)
      → (not wide && list_any (λ p. nat_lt 4294967295 (shift slots p)) (numbers be32 rows (drop at b))) ≡ false
  table_near true at rows fine named = refl
  table_near false at rows fine named = four_near ms f rows (drop at b) (omega (arith, fine.0, length-drop at b)) (put_all (numbers be32 rows (drop at b)) fine.1) named

  near_table : (wide : Bool) (at rows : ℕ) → RowFine b H (record { at = at; width = width_of wide; rows = rows }) → (not wide && list_any (λ p. nat_lt 4294967295 (shift slots p)) (numbers be32 rows (drop at b))) ≡ false
      → RowsNamed ms (form_of wide false) rows (drop at b)
  near_table true at rows fine near = eight_named ms f rows (drop at b) (omega (arith, fine.0, length-drop at b)) (small_all (numbers be64 rows (drop at b)) fine.1)
  near_table false at rows fine near = near_four ms f rows (drop at b) (omega (arith, fine.0, length-drop at b)) (put_all (numbers be32 rows (drop at b)) fine.1) near

  tables_near : (ts : List TableAt) → AllByRecursion (RowFine b H) (map rows_of ts) → AllByRecursion (IsNamed false ms b) ts → widens_in slots b ts ≡ false
  tables_near [] fine named = refl
  tables_near (t ∷ ts) fine named = ap (λ (x : Bool). x || widens_in slots b ts) (table_near t.wide t.at t.rows fine.0 named.0) ∙ tables_near ts fine.1 named.1

  near_tables : (ts : List TableAt) → AllByRecursion (RowFine b H) (map rows_of ts) → widens_in slots b ts ≡ false → AllByRecursion (IsNamed false ms b) ts
  near_tables [] fine near = tt
  near_tables (t ∷ ts) fine near =
      let both = or_parts (passes slots b t) (widens_in slots b ts) near in
      (near_table t.wide t.at t.rows fine.0 both.0, near_tables ts fine.1 both.1)

  module _ (ts : List TableAt) (known : AreTables b ts) where
    fine : AllByRecursion (RowFine b H) (map rows_of ts)
    fine = subst (AllByRecursion (RowFine b H)) (sym known) (rows_fine b bytes sup (changes b e))

    pub named_narrow : AllByRecursion (IsNamed false ms b) ts → widens_in slots b ts ≡ false
    named_narrow named = tables_near ts fine named

    pub not_named_wide : (AllByRecursion (IsNamed false ms b) ts → ⊥) → widens_in slots b ts ≡ true
    not_named_wide never = go (widens_in slots b ts) refl
      where
        go : (t : Bool) → widens_in slots b ts ≡ t → t ≡ true
        go true e = refl
        go false e = absurd (never (near_tables ts fine e))
