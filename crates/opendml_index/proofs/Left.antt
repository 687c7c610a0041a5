-- What is left of the entries of a standard index.
use Rattle.std.proofs.Common.{◌≡◌, ◌∙◌, ℕ, suc, ◌+◌, ◌-◌, ◌*◌, ◌<◌, ◌≤◌, Bool, true, false, List, [], ◌∷◌, drop, refl, sym, ap, arith}
use mir.Val.{bool_byte}
use Rattle.std.specs.declared.result.Result.TheVariants.{Ok, Err}
use Rattle.std.specs.Prelude.{Option, Some, None, ◌&&◌, not, ◌==◌, if◌then◌else◌}
use Rattle.part_tree.specs.declared.names.Span.{Span}
use Rattle.part_tree.specs.declared.index.IndexFault.{IndexFault}
use Rattle.part_tree.specs.declared.index.IndexFault.TheVariants.{NoBase, Astray, Overlap, Depot}
use Rattle.part_tree.specs.Ranges.{clear_of}
use Rattle.container_model.specs.Written.{slice, rows}
use Rattle.container_model.specs.Tests.{first, or_else}
use Rattle.container_model.specs.Tables.{count_rows}
use Rattle.container_model.proofs.Tables.{rows_next, rows_end, rows_start, one_if, byte_is, count_more}
use Rattle.opendml_index.specs.Index.{entry_offset, entry_length}
use Rattle.opendml_index.specs.Checks.{JudgesEntry, JudgesEntries, counts, entry_lies, entry_tests, entries_tests}

abbrev entry_fault : List Span → List Span → ℕ → ℕ → List ℕ → Option IndexFault
entry_fault movis ss base k r = first (entry_tests movis ss base k r)

abbrev entries_fault : List Span → List Span → ℕ → ℕ → List (List ℕ) → Option IndexFault
entries_fault movis ss base k rs = first (entries_tests movis ss base k rs)

-- the first of the tests of a row and of those behind it
first_then : (k : ℕ) (astray overlap : Bool) (rest : List (Bool × IndexFault)) → first ((astray, Astray k) ∷ ((overlap, Overlap k) ∷ rest)) ≡ or_else (first ((astray, Astray k) ∷ ((overlap, Overlap k) ∷ []))) (first rest)
first_then k true overlap rest = refl
first_then k false true rest = refl
first_then k false false rest = refl

fault_more : (movis : List Span) (ss : List Span) (base k : ℕ) (r : List ℕ) (rs : List (List ℕ)) → entries_fault movis ss base k (r ∷ rs) ≡ or_else (entry_fault movis ss base k r) (entries_fault movis ss base (suc k) rs)
fault_more movis ss base k r rs =
    first_then k (not (entry_length r == 0) && not (entry_lies movis base r)) (not (entry_length r == 0) && not (clear_of ss (base + entry_offset r) (entry_length r))) (entries_tests movis ss base (suc k) rs)

-- The entries from a number on have the first fault of all, and with those that were counted as many as all
pub record IsLeft (movis : List Span) (ss : List Span) (base w n k count : ℕ) (x : List ℕ) : Type 0 where
  pub fault : entries_fault movis ss base k (rows w (n - k) (drop (w * k) x)) ≡ entries_fault movis ss base 0 (rows w n x)
  pub number : count + count_rows counts (rows w (n - k) (drop (w * k) x)) ≡ count_rows counts (rows w n x)

pub left_start : (movis : List Span) (ss : List Span) (base w n : ℕ) (x : List ℕ) → IsLeft movis ss base w n 0 0 x
left_start movis ss base w n x =
    let same : count_rows counts (rows w (n - 0) (drop (w * 0) x)) ≡ count_rows counts (rows w n x) = ap (count_rows counts) (rows_start w n x) in
    record { fault = ap (entries_fault movis ss base 0) (rows_start w n x); number = omega (arith, same) }

pub left_more : (movis : List Span) (ss : List Span) (base w n k count more : ℕ) (counted : Bool) (x : List ℕ) → k < n → IsLeft movis ss base w n k count x → JudgesEntry movis ss base k (slice x (w * k) w) (Ok counted)
    → more ≡ bool_byte counted → IsLeft movis ss base w n (k + 1) (count + more) x
left_more movis ss base w n k count more counted x lt left judged is =
    let r = slice x (w * k) w in
    let rest = rows w (n - (k + 1)) (drop (w * (k + 1)) x) in
    let step = rows_next w n k x lt in
    let same : suc k ≡ k + 1 = omega arith in
    let number : count_rows counts (rows w (n - k) (drop (w * k) x)) ≡ more + count_rows counts rest =
    ap (count_rows counts) step ∙ count_more counts r rest ∙ ap (λ (t : Bool). one_if t + count_rows counts rest) (sym judged.1) ∙ ap (λ (m : ℕ). m + count_rows counts rest) (sym (is ∙ byte_is counted)) in
    record {
      fault = ap (λ (j : ℕ). entries_fault movis ss base j rest) (sym same)
          ∙ ap (λ (o : Option IndexFault). or_else o (entries_fault movis ss base (suc k) rest)) (sym judged.0)
          ∙ sym (fault_more movis ss base k r rest)
          ∙ ap (entries_fault movis ss base k) (sym step)
          ∙ left.fault;
      number = omega (arith, number, left.number);
    }

abbrev no_base_by : ℕ → Bool → Bool → Option IndexFault
no_base_by k astray overlap = if astray then Some (Astray k) else (if overlap then Some (Overlap k) else None)

no_base_if : (k : ℕ) (astray overlap : Bool) → no_base_by k astray overlap ≡ Some NoBase → ⊥
no_base_if k true overlap e = cc
no_base_if k false true e = cc
no_base_if k false false e = cc

fails_in : (movis : List Span) (ss : List Span) (base w n k count : ℕ) (fault : IndexFault) (x : List ℕ) → k < n → IsLeft movis ss base w n k count x → entry_fault movis ss base k (slice x (w * k) w) ≡ Some fault
    → entries_fault movis ss base 0 (rows w n x) ≡ Some fault
fails_in movis ss base w n k count fault x lt left some =
    let r = slice x (w * k) w in
    let rest = rows w (n - (k + 1)) (drop (w * (k + 1)) x) in
    sym left.fault ∙ ap (entries_fault movis ss base k) (rows_next w n k x lt) ∙ fault_more movis ss base k r rest ∙ ap (λ (o : Option IndexFault). or_else o (entries_fault movis ss base (suc k) rest)) some

pub judged_fails : (movis : List Span) (ss : List Span) (base w n k count : ℕ) (fault : IndexFault) (x : List ℕ) → k < n → IsLeft movis ss base w n k count x → JudgesEntry movis ss base k (slice x (w * k) w) (Err fault)
    → JudgesEntries movis ss base (rows w n x) (Err fault)
judged_fails movis ss base w n k count NoBase x lt left judged =
    let r = slice x (w * k) w in
    no_base_if k (not (entry_length r == 0) && not (entry_lies movis base r)) (not (entry_length r == 0) && not (clear_of ss (base + entry_offset r) (entry_length r))) judged
judged_fails movis ss base w n k count (Astray j) x lt left judged = fails_in movis ss base w n k count (Astray j) x lt left judged
judged_fails movis ss base w n k count (Overlap j) x lt left judged = fails_in movis ss base w n k count (Overlap j) x lt left judged
judged_fails movis ss base w n k count Depot x lt left judged = tt

pub judged_all : (movis : List Span) (ss : List Span) (base w n k count : ℕ) (x : List ℕ) → n ≤ k → IsLeft movis ss base w n k count x → JudgesEntries movis ss base (rows w n x) (Ok count)
judged_all movis ss base w n k count x le left =
    let none = rows_end w n k x le in
    let zero : count_rows counts (rows w (n - k) (drop (w * k) x)) ≡ 0 = ap (count_rows counts) none in
    (sym left.fault ∙ ap (entries_fault movis ss base k) none, omega (arith, zero, left.number))
