-- Faults of entries, and the refusals of a file.
use Rattle.std.proofs.Common.{◌≡◌, ◌∙◌, ℕ, suc, ◌+◌, ◌-◌, ◌*◌, ◌<◌, ◌≤◌, Bool, true, false, List, [], ◌∷◌, length, drop, refl, sym, ap, subst, arith, ◌/◌}
use mir.Val.{bool_byte}
use Rattle.std.specs.declared.result.Result.TheVariants.{Ok, Err}
use Rattle.std.specs.Prelude.{Option, Some, None, ◌&&◌, ◌||◌, not, ◌==◌, if◌then◌else◌}
use Rattle.part_tree.specs.declared.names.Span.{Span}
use Rattle.container_model.specs.Written.{slice, rows}
use Rattle.part_tree.specs.Ranges.{within, begins_one, clear_of}
use Rattle.container_model.specs.Tests.{first, or_else}
use Rattle.container_model.specs.Tables.{count_rows}
use Rattle.avi_index.specs.Rows.{Base as Model, from_start, from_movi, old_rows, row_offset, row_length}
use Rattle.avi_index.specs.Found.{counted}
use Rattle.part_tree.specs.declared.index.IndexFault.{IndexFault}
use Rattle.part_tree.specs.declared.index.IndexFault.TheVariants.{NoBase, Astray, Overlap, Depot}
use Rattle.avi_index.specs.Checks.{rows_tests, old_tests, JudgesRow, JudgesRows}
use Rattle.container_model.proofs.Tables.{rows_next, rows_end, rows_start, one_if, byte_is, count_more}

-- ---- the first fault

-- the first of the tests of a row and of those behind it
first_then : (k : ℕ) (astray overlap : Bool) (rest : List (Bool × IndexFault)) → first ((astray, Astray k) ∷ ((overlap, Overlap k) ∷ rest)) ≡ or_else (first ((astray, Astray k) ∷ ((overlap, Overlap k) ∷ []))) (first rest)
first_then k true overlap rest = refl
first_then k false true rest = refl
first_then k false false rest = refl

abbrev row_fault : Model → Span → List Span → ℕ → List ℕ → Option IndexFault
row_fault base movi ss k r = first (old_tests base movi ss k (r ∷ []))

abbrev rows_fault : Model → Span → List Span → ℕ → List (List ℕ) → Option IndexFault
rows_fault base movi ss k rs = first (old_tests base movi ss k rs)

fault_more : (base : Model) (movi : Span) (ss : List Span) (k : ℕ) (r : List ℕ) (rs : List (List ℕ)) → rows_fault base movi ss k (r ∷ rs) ≡ or_else (row_fault base movi ss k r) (rows_fault base movi ss (suc k) rs)
fault_more from_movi movi ss k r rs = refl
fault_more from_start movi ss k r rs =
    first_then k (not (row_length r == 0) && not (within movi (row_offset r) (8 + row_length r))) (not (row_length r == 0) && not (begins_one ss (row_offset r) || clear_of ss (row_offset r + 8) (row_length r))) (rows_tests movi ss (suc k) rs)

-- ---- what is left of a table

-- The entries from a number on have the first fault of all, and with those that were counted as many as all
pub record IsLeft (base : Model) (movi : Span) (ss : List Span) (n k count : ℕ) (body : List ℕ) : Type 0 where
  pub fault : rows_fault base movi ss k (rows 16 (n - k) (drop (16 * k) body)) ≡ rows_fault base movi ss 0 (rows 16 n body)
  pub counts : count + count_rows (counted base movi ss) (rows 16 (n - k) (drop (16 * k) body)) ≡ count_rows (counted base movi ss) (rows 16 n body)

pub left_start : (base : Model) (movi : Span) (ss : List Span) (n : ℕ) (body : List ℕ) → IsLeft base movi ss n 0 0 body
left_start base movi ss n body =
    let same : count_rows (counted base movi ss) (rows 16 (n - 0) (drop (16 * 0) body)) ≡ count_rows (counted base movi ss) (rows 16 n body) = ap (count_rows (counted base movi ss)) (rows_start 16 n body) in
    record { fault = ap (rows_fault base movi ss 0) (rows_start 16 n body); counts = omega (arith, same) }

pub left_more : (base : Model) (movi : Span) (ss : List Span) (n k count : ℕ) (counts : Bool) (body : List ℕ) → k < n → IsLeft base movi ss n k count body → row_fault base movi ss k (slice body (16 * k) 16) ≡ None
    → counts ≡ counted base movi ss (slice body (16 * k) 16) → IsLeft base movi ss n (k + 1) (count + one_if counts) body
left_more base movi ss n k count counts body lt left none is =
    let r = slice body (16 * k) 16 in
    let rest = rows 16 (n - (k + 1)) (drop (16 * (k + 1)) body) in
    let step = rows_next 16 n k body lt in
    let same : suc k ≡ k + 1 = omega arith in
    let number : count_rows (counted base movi ss) (rows 16 (n - k) (drop (16 * k) body)) ≡ one_if counts + count_rows (counted base movi ss) rest =
    ap (count_rows (counted base movi ss)) step ∙ count_more (counted base movi ss) r rest ∙ ap (λ (t : Bool). one_if t + count_rows (counted base movi ss) rest) (sym is) in
    record {
      fault = ap (λ (j : ℕ). rows_fault base movi ss j rest) (sym same)
          ∙ ap (λ (o : Option IndexFault). or_else o (rows_fault base movi ss (suc k) rest)) (sym none)
          ∙ sym (fault_more base movi ss k r rest)
          ∙ ap (rows_fault base movi ss k) (sym step)
          ∙ left.fault;
      counts = omega (arith, number, left.counts);
    }

-- ---- the answers

pub left_counted : (base : Model) (movi : Span) (ss : List Span) (n k count more : ℕ) (counts : Bool) (body : List ℕ) → k < n → IsLeft base movi ss n k count body → JudgesRow base movi ss k (slice body (16 * k) 16) (Ok counts)
    → more ≡ bool_byte counts → IsLeft base movi ss n (k + 1) (count + more) body
left_counted base movi ss n k count more counts body lt left judged is =
    subst (λ (x : ℕ). IsLeft base movi ss n (k + 1) (count + x) body) (sym (is ∙ byte_is counts)) (left_more base movi ss n k count counts body lt left judged.0 judged.1)

abbrev no_base_by : ℕ → Bool → Bool → Option IndexFault
no_base_by k astray overlap = if astray then Some (Astray k) else (if overlap then Some (Overlap k) else None)

no_base_if : (k : ℕ) (astray overlap : Bool) → no_base_by k astray overlap ≡ Some NoBase → ⊥
no_base_if k true overlap e = cc
no_base_if k false true e = cc
no_base_if k false false e = cc

no_base : (base : Model) (movi : Span) (ss : List Span) (k : ℕ) (r : List ℕ) → row_fault base movi ss k r ≡ Some NoBase → ⊥
no_base from_start movi ss k r e =
    no_base_if k (not (row_length r == 0) && not (within movi (row_offset r) (8 + row_length r))) (not (row_length r == 0) && not (begins_one ss (row_offset r) || clear_of ss (row_offset r + 8) (row_length r))) e
no_base from_movi movi ss k r e = cc

fails_in : (base : Model) (movi : Span) (ss : List Span) (n k count : ℕ) (fault : IndexFault) (body : List ℕ) → n ≡ length body / 16 → k < n → IsLeft base movi ss n k count body → row_fault base movi ss k (slice body (16 * k) 16) ≡ Some fault
    → rows_fault base movi ss 0 (old_rows body) ≡ Some fault
fails_in base movi ss n k count fault body size lt left some =
    let r = slice body (16 * k) 16 in
    let rest = rows 16 (n - (k + 1)) (drop (16 * (k + 1)) body) in
    ap (λ (m : ℕ). rows_fault base movi ss 0 (rows 16 m body)) (sym size)
    ∙ sym left.fault ∙ ap (rows_fault base movi ss k) (rows_next 16 n k body lt) ∙ fault_more base movi ss k r rest ∙ ap (λ (o : Option IndexFault). or_else o (rows_fault base movi ss (suc k) rest)) some

pub judged_fails : (base : Model) (movi : Span) (ss : List Span) (n k count : ℕ) (fault : IndexFault) (body : List ℕ) → n ≡ length body / 16 → k < n → IsLeft base movi ss n k count body
    → JudgesRow base movi ss k (slice body (16 * k) 16) (Err fault) → JudgesRows base movi ss (old_rows body) (Err fault)
judged_fails base movi ss n k count NoBase body size lt left judged = no_base base movi ss k (slice body (16 * k) 16) judged
judged_fails base movi ss n k count (Astray j) body size lt left judged = fails_in base movi ss n k count (Astray j) body size lt left judged
judged_fails base movi ss n k count (Overlap j) body size lt left judged = fails_in base movi ss n k count (Overlap j) body size lt left judged
judged_fails base movi ss n k count Depot body size lt left judged = tt

no_rows : (base : Model) (movi : Span) (ss : List Span) (k : ℕ) → rows_fault base movi ss k [] ≡ None
no_rows from_start movi ss k = refl
no_rows from_movi movi ss k = refl

pub judged_all : (base : Model) (movi : Span) (ss : List Span) (n k count : ℕ) (body : List ℕ) → n ≡ length body / 16 → n ≤ k → IsLeft base movi ss n k count body → JudgesRows base movi ss (old_rows body) (Ok count)
judged_all base movi ss n k count body size le left =
    let none = rows_end 16 n k body le in
    let zero : count_rows (counted base movi ss) (rows 16 (n - k) (drop (16 * k) body)) ≡ 0 = ap (count_rows (counted base movi ss)) none in
    let all : count ≡ count_rows (counted base movi ss) (rows 16 n body) = omega (arith, zero, left.counts) in (
      ap (λ (m : ℕ). rows_fault base movi ss 0 (rows 16 m body)) (sym size) ∙ sym left.fault ∙ ap (rows_fault base movi ss k) none ∙ no_rows base movi ss k,
      all ∙ ap (λ (m : ℕ). count_rows (counted base movi ss) (rows 16 m body)) size,
    )
