-- What is answered of the entries of index chunks, and of `idx1`.
use Rattle.std.proofs.Common.{◌≡◌, ◌∙◌, ℕ, ◌+◌, ◌-◌, Bool, true, false, List, [], ◌∷◌, refl, sym, ap, subst, arith}
use Rattle.std.specs.Prelude.{if◌then◌else◌, not, Option, Some, None, option_map, Result}
use Rattle.std.specs.declared.result.Result.TheVariants.{Ok, Err}
use Rattle.std.specs.List.{flat_map, sum_by}
use Rattle.std.proofs.lemmas.List.Sums.{sum_by-cons}
use Rattle.part_tree.specs.declared.names.Span.{Span}
use Rattle.part_tree.specs.declared.index.IndexFault.{IndexFault}
use Rattle.part_tree.specs.declared.index.IndexFault.TheVariants.{NoBase, Astray, Overlap, Depot}
use Rattle.part_tree.specs.declared.table.Base.{Base}
use Rattle.part_tree.specs.declared.why.Why.{Why}
use Rattle.part_tree.specs.declared.why.Why.TheVariants.{IndexBase}
use Rattle.part_tree.specs.declared.why.ReadFault.{ReadFault}
use Rattle.part_tree.specs.declared.why.ReadFault.TheVariants as Fault
use Rattle.container_model.specs.Tables.{Table, count_rows}
use Rattle.container_model.specs.Tests.{first, or_else}
use Rattle.avi_index.specs.Rows.{Base as Model, from_start, from_movi, base_of, old_rows}
use Rattle.avi_index.specs.Found.{is_based}
use Rattle.avi_index.specs.Checks.{FindsBase, JudgesRows, model_base, old_tests, told_base}
use Rattle.opendml_index.specs.Index.{entries, index_base}
use Rattle.opendml_index.specs.Checks.{JudgesEntries, counts, entries_tests}
use Rattle.avi_model.specs.Why.{Test, entry_why, refusals}
use Rattle.avi_file.specs.declared.index.IndexChunk.{IndexChunk}
use Rattle.avi_file.specs.Entries.{Counts, ReadsEntries, body_in, chunk_count, chunk_tests, fault_of, head_at, idx1_tests}
use Rattle.avi_file.proofs.Left.{first_append}

-- ---- tests with the refusals for them

refused : (at : ℕ) (ts : List (Bool × IndexFault)) → first (refusals at ts) ≡ option_map (entry_why at) (first ts)
refused at [] = refl
refused at (t ∷ ts) = go t.0 (refused at ts)
  where
    go : (s : Bool) → first (refusals at ts) ≡ option_map (entry_why at) (first ts) → (if s then Some (entry_why at t.1) else first (refusals at ts)) ≡ option_map (entry_why at) (if s then Some t.1 else first ts)
    go true e = refl
    go false e = e

refused_by : (at : ℕ) (ts : List (Bool × IndexFault)) (fault : IndexFault) → first ts ≡ Some fault → first (refusals at ts) ≡ Some (entry_why at fault)
refused_by at ts fault e = refused at ts ∙ ap (option_map (entry_why at)) e

not_refused : (at : ℕ) (ts : List (Bool × IndexFault)) → first ts ≡ None → first (refusals at ts) ≡ None
not_refused at ts e = refused at ts ∙ ap (option_map (entry_why at)) e

-- ---- one index chunk

entries_fail : (at base n : ℕ) (movis ss : List Span) (rs : List (List ℕ)) (fault : IndexFault) → JudgesEntries movis ss base rs (Err fault) → Counts (refusals at (entries_tests movis ss base 0 rs)) n (Err (fault_of at fault))
entries_fail at base n movis ss rs NoBase h = absurd h
entries_fail at base n movis ss rs (Astray k) h = refused_by at (entries_tests movis ss base 0 rs) (Astray k) h
entries_fail at base n movis ss rs (Overlap k) h = refused_by at (entries_tests movis ss base 0 rs) (Overlap k) h
entries_fail at base n movis ss rs Depot h = tt

pub chunk_fails : (movis ss : List Span) (b : List ℕ) (x : IndexChunk) (n : ℕ) (fault : IndexFault) → x.standard ≡ true → JudgesEntries movis ss (index_base (body_in b x)) (entries (body_in b x)) (Err fault)
    → Counts (chunk_tests movis ss b x) n (Err (fault_of (head_at x) fault))
chunk_fails movis ss b x n fault e h =
    let ts : List Test = refusals (head_at x) (entries_tests movis ss (index_base (body_in b x)) 0 (entries (body_in b x))) in
    subst (λ (t : Bool). Counts (if t then ts else []) n (Err (fault_of (head_at x) fault))) (sym e) (entries_fail (head_at x) (index_base (body_in b x)) n movis ss (entries (body_in b x)) fault h)

pub chunk_counted : (movis ss : List Span) (b : List ℕ) (x : IndexChunk) (n : ℕ) → x.standard ≡ true → JudgesEntries movis ss (index_base (body_in b x)) (entries (body_in b x)) (Ok n) → Counts (chunk_tests movis ss b x) (chunk_count b x) (Ok n)
chunk_counted movis ss b x n e h =
    let ts : List Test = refusals (head_at x) (entries_tests movis ss (index_base (body_in b x)) 0 (entries (body_in b x))) in
    let none : first ts ≡ None = not_refused (head_at x) (entries_tests movis ss (index_base (body_in b x)) 0 (entries (body_in b x))) h.0 in (
      ap (λ (t : Bool). first (if t then ts else [])) e ∙ none,
      h.1 ∙ sym (ap (λ (t : Bool). if t then count_rows counts (entries (body_in b x)) else 0) e),
    )

pub chunk_passed : (movis ss : List Span) (b : List ℕ) (x : IndexChunk) → x.standard ≡ false → Counts (chunk_tests movis ss b x) (chunk_count b x) (Ok 0)
chunk_passed movis ss b x e =
    let ts : List Test = refusals (head_at x) (entries_tests movis ss (index_base (body_in b x)) 0 (entries (body_in b x))) in (
      ap (λ (t : Bool). first (if t then ts else [])) e,
      sym (ap (λ (t : Bool). if t then count_rows counts (entries (body_in b x)) else 0) e),
    )

-- ---- several

-- those that are left have the tests of all, and with what was counted their count is that of all
pub record CountsLeft (g : IndexChunk → List Test) (f : IndexChunk → ℕ) (xs rest : List IndexChunk) (now : ℕ) : Type 0 where
  pub tests : first (flat_map g xs) ≡ first (flat_map g rest)
  pub whole : now + sum_by f rest ≡ sum_by f xs

pub counts_start : (g : IndexChunk → List Test) (f : IndexChunk → ℕ) (xs : List IndexChunk) → CountsLeft g f xs xs 0
counts_start g f xs = record { tests = refl; whole = omega arith }

pub counts_next : (g : IndexChunk → List Test) (f : IndexChunk → ℕ) (xs rest later : List IndexChunk) (x : IndexChunk) (now more : ℕ) → CountsLeft g f xs rest now → rest ≡ x ∷ later → Counts (g x) (f x) (Ok more)
    → CountsLeft g f xs later (now + more)
counts_next g f xs rest later x now more left split took = record {
  tests = left.tests ∙ ap (λ (ys : List IndexChunk). first (flat_map g ys)) split ∙ first_append (g x) (flat_map g later) ∙ ap (λ (o : Option Why). or_else o (first (flat_map g later))) took.0;
  whole = omega (arith, left.whole, ap (sum_by f) split, sum_by-cons f x later, took.1);
}

pub counts_cut : (g : IndexChunk → List Test) (f : IndexChunk → ℕ) (xs rest later : List IndexChunk) (x : IndexChunk) (now n m : ℕ) (fault : ReadFault) → CountsLeft g f xs rest now → rest ≡ x ∷ later → Counts (g x) n (Err fault)
    → Counts (flat_map g xs) m (Err fault)
counts_cut g f xs rest later x now n m (Fault.Why w) left split h =
    left.tests ∙ ap (λ (ys : List IndexChunk). first (flat_map g ys)) split ∙ first_append (g x) (flat_map g later) ∙ ap (λ (o : Option Why). or_else o (first (flat_map g later))) h
counts_cut g f xs rest later x now n m Fault.Depot left split h = tt
counts_cut g f xs rest later x now n m Fault.Memory left split h = h

pub counts_end : (g : IndexChunk → List Test) (f : IndexChunk → ℕ) (xs rest : List IndexChunk) (now : ℕ) → CountsLeft g f xs rest now → rest ≡ [] → Counts (flat_map g xs) (sum_by f xs) (Ok now)
counts_end g f xs rest now left none = (
  left.tests ∙ ap (λ (ys : List IndexChunk). first (flat_map g ys)) none,
  (let zero : sum_by f rest ≡ 0 = ap (sum_by f) none in omega (arith, left.whole)),
)

-- ---- idx1

told_is : (p : ℕ) (base : Model) → model_base (told_base p base) ≡ base
told_is p from_start = refl
told_is p from_movi = refl

abbrev later_tests : List Span → Span → Table → List Test
later_tests ss movi t = refusals (t.at - 8) (old_tests (base_of movi.at (old_rows t.body)) movi ss 0 (old_rows t.body))

pub base_fails : (b : List ℕ) (ss : List Span) (movi : Span) (t : Table) (fault : IndexFault) → FindsBase b ss movi (old_rows t.body) (Err fault) → ReadsEntries b ss movi t (Err (fault_of (t.at - 8) fault))
base_fails b ss movi t NoBase h = ap (λ (s : Bool). if not s then Some IndexBase else first (later_tests ss movi t)) h
base_fails b ss movi t (Astray k) h = absurd h
base_fails b ss movi t (Overlap k) h = absurd h
base_fails b ss movi t Depot h = tt

based_then : (b : List ℕ) (ss : List Span) (movi : Span) (t : Table) → is_based b ss movi (old_rows t.body) ≡ true → first (idx1_tests b ss movi t) ≡ first (later_tests ss movi t)
based_then b ss movi t e = ap (λ (s : Bool). if not s then Some IndexBase else first (later_tests ss movi t)) e

-- the rows were judged by the base that was found
as_based : (ss : List Span) (movi : Span) (t : Table) (base : Base) (result : Result ℕ IndexFault) → base ≡ told_base movi.at (base_of movi.at (old_rows t.body)) → JudgesRows (model_base base) movi ss (old_rows t.body) result
    → JudgesRows (base_of movi.at (old_rows t.body)) movi ss (old_rows t.body) result
as_based ss movi t base result e h =
    subst (λ (m : Model). JudgesRows m movi ss (old_rows t.body) result) (ap model_base e ∙ told_is movi.at (base_of movi.at (old_rows t.body))) h

rows_fail : (b : List ℕ) (ss : List Span) (movi : Span) (t : Table) (fault : IndexFault) → is_based b ss movi (old_rows t.body) ≡ true → JudgesRows (base_of movi.at (old_rows t.body)) movi ss (old_rows t.body) (Err fault)
    → ReadsEntries b ss movi t (Err (fault_of (t.at - 8) fault))
rows_fail b ss movi t NoBase e h = absurd h
rows_fail b ss movi t (Astray k) e h = based_then b ss movi t e ∙ refused_by (t.at - 8) (old_tests (base_of movi.at (old_rows t.body)) movi ss 0 (old_rows t.body)) (Astray k) h
rows_fail b ss movi t (Overlap k) e h = based_then b ss movi t e ∙ refused_by (t.at - 8) (old_tests (base_of movi.at (old_rows t.body)) movi ss 0 (old_rows t.body)) (Overlap k) h
rows_fail b ss movi t Depot e h = tt

pub old_fails : (b : List ℕ) (ss : List Span) (movi : Span) (t : Table) (base : Base) (fault : IndexFault) → FindsBase b ss movi (old_rows t.body) (Ok base) → JudgesRows (model_base base) movi ss (old_rows t.body) (Err fault)
    → ReadsEntries b ss movi t (Err (fault_of (t.at - 8) fault))
old_fails b ss movi t base fault found h = rows_fail b ss movi t fault found.0 (as_based ss movi t base (Err fault) found.1 h)

pub old_reads : (b : List ℕ) (ss : List Span) (movi body : Span) (t : Table) (base : Base) (n : ℕ) → FindsBase b ss movi (old_rows t.body) (Ok base) → JudgesRows (model_base base) movi ss (old_rows t.body) (Ok n)
    → ReadsEntries b ss movi t (Ok (record { body = body; base = base; counted = n }))
old_reads b ss movi body t base n found h =
    let judged = as_based ss movi t base (Ok n) found.1 h in (
      based_then b ss movi t found.0 ∙ not_refused (t.at - 8) (old_tests (base_of movi.at (old_rows t.body)) movi ss 0 (old_rows t.body)) judged.0,
      record { base = found.1; counted_are = judged.1 },
    )
