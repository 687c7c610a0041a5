-- What is tested of entries is the same for the index chunks in any order, so for those by place, which ascend.
use Rattle.std.proofs.Common.{◌≡◌, ◌∙◌, ℕ, suc, ◌+◌, Bool, true, false, cond, eqb, ltb, List, [], ◌∷◌, length, refl, ap, arith}
use Rattle.std.specs.Prelude.{◌&&◌, ◌||◌, not, if◌then◌else◌}
use Rattle.std.specs.Str.{bytes_eq}
use Rattle.std.proofs.lemmas.Bool.{ltb-false}
use Rattle.part_tree.specs.declared.index.IndexFault.{IndexFault}
use Rattle.part_tree.specs.declared.index.IndexFault.TheVariants.{Astray, Overlap}
use Rattle.part_tree.specs.declared.names.Span.{Span}
use Rattle.part_tree.specs.Ranges.{within, begins_one, passes_by, clear_of, Ascends}
use Rattle.container_model.specs.Written.{slice}
use Rattle.container_model.specs.Tables.{Table}
use Rattle.avi_index.specs.Rows.{Base, from_start, from_movi, row_id, row_offset, row_length, decides}
use Rattle.avi_index.specs.Found.{stands_at, based_by, is_based, counted}
use Rattle.avi_index.specs.Checks.{rows_tests, old_tests}
use Rattle.opendml_index.specs.Index.{entry_offset, entry_length}
use Rattle.opendml_index.specs.Checks.{entry_lies, entries_tests}
use Rattle.avi_model.specs.Index.{table_span, spans, indexes}
use Rattle.avi_model.specs.Support.{put_by_place, by_place, Apart, Supported}

or_swap : (a b c : Bool) → (a || (b || c)) ≡ (b || (a || c))
or_swap true true c = refl
or_swap true false c = refl
or_swap false b c = refl

and_swap : (a b c : Bool) → (a && (b && c)) ≡ (b && (a && c))
and_swap true b c = refl
and_swap false true c = refl
and_swap false false c = refl

begins_put : (t : Table) (us : List Table) (p : ℕ) → begins_one (spans (put_by_place t us)) p ≡ begins_one (spans (t ∷ us)) p
begins_put t [] p = refl
begins_put t (u ∷ us) p = go (ltb t.at u.at) (begins_put t us p)
  where
    go : (b : Bool) → begins_one (spans (put_by_place t us)) p ≡ begins_one (spans (t ∷ us)) p → begins_one (spans (cond b (t ∷ (u ∷ us)) (u ∷ put_by_place t us))) p ≡ begins_one (spans (t ∷ (u ∷ us))) p
    go true again = refl
    go false again = ap (λ (x : Bool). eqb u.at (p + 8) || x) again ∙ or_swap (eqb u.at (p + 8)) (eqb t.at (p + 8)) (begins_one (spans us) p)

pub begins_sorted : (ts : List Table) (p : ℕ) → begins_one (spans (by_place ts)) p ≡ begins_one (spans ts) p
begins_sorted [] p = refl
begins_sorted (t ∷ ts) p = begins_put t (by_place ts) p ∙ ap (λ (x : Bool). eqb t.at (p + 8) || x) (begins_sorted ts p)

clear_put : (t : Table) (us : List Table) (p n : ℕ) → clear_of (spans (put_by_place t us)) p n ≡ clear_of (spans (t ∷ us)) p n
clear_put t [] p n = refl
clear_put t (u ∷ us) p n = go (ltb t.at u.at) (clear_put t us p n)
  where
    go : (b : Bool) → clear_of (spans (put_by_place t us)) p n ≡ clear_of (spans (t ∷ us)) p n → clear_of (spans (cond b (t ∷ (u ∷ us)) (u ∷ put_by_place t us))) p n ≡ clear_of (spans (t ∷ (u ∷ us))) p n
    go true again = refl
    go false again = ap (λ (x : Bool). passes_by (table_span u) p n && x) again ∙ and_swap (passes_by (table_span u) p n) (passes_by (table_span t) p n) (clear_of (spans us) p n)

pub clear_sorted : (ts : List Table) (p n : ℕ) → clear_of (spans (by_place ts)) p n ≡ clear_of (spans ts) p n
clear_sorted [] p n = refl
clear_sorted (t ∷ ts) p n = clear_put t (by_place ts) p n ∙ ap (λ (x : Bool). passes_by (table_span t) p n && x) (clear_sorted ts p n)

-- ---- the tests

either_sorted : (ts : List Table) (p q n : ℕ) → (begins_one (spans (by_place ts)) p || clear_of (spans (by_place ts)) q n) ≡ (begins_one (spans ts) p || clear_of (spans ts) q n)
either_sorted ts p q n = ap (λ (x : Bool). x || clear_of (spans (by_place ts)) q n) (begins_sorted ts p) ∙ ap (λ (x : Bool). begins_one (spans ts) p || x) (clear_sorted ts q n)

rows_sorted : (movi : Span) (ts : List Table) (k : ℕ) (rs : List (List ℕ)) → rows_tests movi (spans (by_place ts)) k rs ≡ rows_tests movi (spans ts) k rs
rows_sorted movi ts k [] = refl
rows_sorted movi ts k (r ∷ rs) =
    let astray = not (eqb (row_length r) 0) && not (within movi (row_offset r) (8 + row_length r)) in
    ap (λ (x : Bool). (astray, Astray k) ∷ ((not (eqb (row_length r) 0) && not x, Overlap k) ∷ rows_tests movi (spans (by_place ts)) (suc k) rs)) (either_sorted ts (row_offset r) (row_offset r + 8) (row_length r))
    ∙ ap (λ (more : List (Bool × IndexFault)). (astray, Astray k) ∷ ((not (eqb (row_length r) 0) && not (begins_one (spans ts) (row_offset r) || clear_of (spans ts) (row_offset r + 8) (row_length r)), Overlap k) ∷ more)) (rows_sorted movi ts (suc k) rs)

pub olds_sorted : (base : Base) (movi : Span) (ts : List Table) (k : ℕ) (rs : List (List ℕ)) → old_tests base movi (spans (by_place ts)) k rs ≡ old_tests base movi (spans ts) k rs
olds_sorted from_start movi ts k rs = rows_sorted movi ts k rs
olds_sorted from_movi movi ts k rs = refl

pub entries_sorted : (movis : List Span) (ts : List Table) (base k : ℕ) (rs : List (List ℕ)) → entries_tests movis (spans (by_place ts)) base k rs ≡ entries_tests movis (spans ts) base k rs
entries_sorted movis ts base k [] = refl
entries_sorted movis ts base k (r ∷ rs) =
    let astray = not (eqb (entry_length r) 0) && not (entry_lies movis base r) in
    ap (λ (x : Bool). (astray, Astray k) ∷ ((not (eqb (entry_length r) 0) && not x, Overlap k) ∷ entries_tests movis (spans (by_place ts)) base (suc k) rs)) (clear_sorted ts (base + entry_offset r) (entry_length r))
    ∙ ap (λ (more : List (Bool × IndexFault)). (astray, Astray k) ∷ ((not (eqb (entry_length r) 0) && not (clear_of (spans ts) (base + entry_offset r) (entry_length r)), Overlap k) ∷ more)) (entries_sorted movis ts base (suc k) rs)

stands_sorted : (b : List ℕ) (ts : List Table) (r : List ℕ) (p : ℕ) → stands_at b (spans (by_place ts)) r p ≡ stands_at b (spans ts) r p
stands_sorted b ts r p = ap (λ (x : Bool). bytes_eq (slice b p 4) (row_id r) && x) (either_sorted ts p p 4)

based_sorted : (b : List ℕ) (ts : List Table) (movi : Span) (r : List ℕ) (t : Bool) → based_by b (spans (by_place ts)) movi r t ≡ based_by b (spans ts) movi r t
based_sorted b ts movi r true = ap (λ (x : Bool). within movi (movi.at + row_offset r) 4 && x) (stands_sorted b ts r (movi.at + row_offset r))
based_sorted b ts movi r false = stands_sorted b ts r (row_offset r)

pub bases_sorted : (b : List ℕ) (ts : List Table) (movi : Span) (rs : List (List ℕ)) → is_based b (spans (by_place ts)) movi rs ≡ is_based b (spans ts) movi rs
bases_sorted b ts movi [] = refl
bases_sorted b ts movi (r ∷ rs) =
    ap (λ (x : Bool). if decides r then x else is_based b (spans (by_place ts)) movi rs) (based_sorted b ts movi r (ltb (row_offset r) movi.at))
    ∙ ap (λ (x : Bool). if decides r then based_by b (spans ts) movi r (ltb (row_offset r) movi.at) else x) (bases_sorted b ts movi rs)

pub counts_sorted : (base : Base) (movi : Span) (ts : List Table) (r : List ℕ) → counted base movi (spans (by_place ts)) r ≡ counted base movi (spans ts) r
counts_sorted from_start movi ts r = refl
counts_sorted from_movi movi ts r =
    let p = movi.at + row_offset r in
    ap (λ (x : Bool). not (eqb (row_length r) 0) && (within movi p (8 + row_length r) && x)) (either_sorted ts p (p + 8) (row_length r))

-- ---- by place they ascend

apart_ascends : (from : ℕ) (ts : List Table) → Apart from ts → Ascends from (spans ts)
apart_ascends from [] a = tt
apart_ascends from (t ∷ ts) a = (omega (arith, ltb-false t.at (from + 8) a.0), apart_ascends (t.at + length t.body) ts a.1)

pub indexes_ascend : (b : List ℕ) → Supported b → Ascends 0 (spans (by_place (indexes b)))
indexes_ascend b s = apart_ascends 0 (by_place (indexes b)) s.indexes_apart
