-- The tables of an AVI file by place, from the file's map.
use Rattle.std.proofs.Common.{◌≡◌, ◌∙◌, ◌≤◌, ◌<◌, ℕ, zero, suc, ◌+◌, Bool, true, false, List, [], ◌∷◌, ◌++◌, length, map, take, drop, get_or, refl, sym, ap, arith, subst}
use Rattle.std.specs.Prelude.{Option, Some, None, filter, nat_le, not, if◌then◌else◌}
use Rattle.std.specs.List.Sorted.{IsNonDecreasingBy, IsPermutation}
use Rattle.std.proofs.lemmas.List.Sorted.{IsPermutation-cons, IsPermutation-middle, IsPermutation-refl, IsPermutation-sym, IsPermutation-trans}
use Rattle.part_tree.specs.declared.names.Span.{Span}
use Rattle.container_model.specs.Tables.{Table}
use Rattle.opendml_index.specs.Index.{is_super}
use Rattle.avi_index.specs.Checks.{told_base}
use Rattle.avi_index.specs.Rows.{Base}
use Rattle.avi_model.specs.Avi.{avi_of, first_movi}
use Rattle.avi_model.specs.Index.{base, indexes, olds, table_span}
use Rattle.avi_model.specs.Map.{standards, supers}
use Rattle.avi_model.specs.Support.{by_place}
use Rattle.avi_file.specs.Indexes.{kept_of}
use Rattle.avi_file.specs.Map.{IsOld, TellsOld}
use Rattle.avi_file.specs.declared.index.IndexChunk.{IndexChunk}
use Rattle.avi_file.specs.declared.map.OldIndex.{OldIndex}
use Rattle.avi_file.proofs.Placing.{sorted_is}
use Rattle.avi_file.proofs.Tabled.{all_named}
use Rattle.avi_plan.specs.Tables.{AreTables, Tabled, index, kind_by, old, put_tabled, put_tableds, table_at, table_of, tables_in}
use Rattle.avi_plan.specs.declared.table.TableAt.{TableAt}
use Rattle.edit_planner.specs.TablesAt.{chunks_of, number_behind, old_at, put_table, told_chunk}

-- ---- the index chunks

-- those of both kinds are all of them
halves : (ts : List Table) → IsPermutation (map kept_of ts) (chunks_of false (map table_span (filter (λ t. is_super t.body) ts)) ++ chunks_of true (map table_span (filter (λ t. not (is_super t.body)) ts)))
halves [] = IsPermutation-refl []
halves (t ∷ ts) = go (is_super t.body) (halves ts)
  where
    ups : List IndexChunk
    ups = chunks_of false (map table_span (filter (λ t. is_super t.body) ts))

    downs : List IndexChunk
    downs = chunks_of true (map table_span (filter (λ t. not (is_super t.body)) ts))

    go : (s : Bool) → IsPermutation (map kept_of ts) (ups ++ downs)
        → IsPermutation (record { body = table_span t; standard = not s } ∷ map kept_of ts)
        (chunks_of false (map table_span (if s then t ∷ filter (λ t. is_super t.body) ts else filter (λ t. is_super t.body) ts))
        ++ chunks_of true (map table_span (if not s then t ∷ filter (λ t. not (is_super t.body)) ts else filter (λ t. not (is_super t.body)) ts)))
    go true again = IsPermutation-cons (record { body = table_span t; standard = false }) (map kept_of ts) (ups ++ downs) again
    go false again =
        let x : IndexChunk = record { body = table_span t; standard = true } in
        IsPermutation-trans (x ∷ map kept_of ts) (x ∷ (ups ++ downs)) (ups ++ x ∷ downs) (IsPermutation-cons x (map kept_of ts) (ups ++ downs) again)
        (IsPermutation-sym (ups ++ x ∷ downs) (x ∷ (ups ++ downs)) (IsPermutation-middle ups x downs))

pub chunks_sorted : (b : List ℕ) (us ds : List Span) (xs ys : List IndexChunk) → us ≡ map table_span (supers b) → ds ≡ map table_span (standards b) → xs ≡ chunks_of false us ++ chunks_of true ds
    → IsPermutation xs ys → IsNonDecreasingBy (λ (x : IndexChunk). x.body.at) ys → ys ≡ map kept_of (by_place (indexes b))
chunks_sorted b us ds xs ys u d e moves up =
    let whole : xs ≡ chunks_of false (map table_span (supers b)) ++ chunks_of true (map table_span (standards b)) = e ∙ ap (λ (ss : List Span). chunks_of false ss ++ chunks_of true ds) u ∙ ap (λ (ss : List Span). chunks_of false (map table_span (supers b)) ++ chunks_of true ss) d in
    let all : IsPermutation (map kept_of (indexes b)) xs = subst (IsPermutation (map kept_of (indexes b))) (sym whole) (halves (indexes b)) in
    sorted_is b (indexes b) (map kept_of (indexes b)) ys (all_named b) refl (IsPermutation-trans (map kept_of (indexes b)) xs ys all moves) up

told_kept : (movi : ℕ) (c : Base) (ts : List Table) → map told_chunk (map kept_of ts) ≡ map (table_at movi c) (map index ts)
told_kept movi c [] = refl
told_kept movi c (t ∷ ts) = ap (λ (x : TableAt). x ∷ map told_chunk (map kept_of ts)) (one (is_super t.body)) ∙ ap (λ (xs : List TableAt). table_at movi c (index t) ∷ xs) (told_kept movi c ts)
  where
    one : (s : Bool) → told_chunk (record { body = table_span t; standard = not s }) ≡ record { body = table_span t; kind = kind_by s }
    one true = refl
    one false = refl

-- ---- `idx1` among them

span_of : (movi : ℕ) (c : Base) (u : Tabled) → (table_at movi c u).body.at ≡ (table_of u).at
span_of movi c (old t) = refl
span_of movi c (index t) = refl

old_put : (movi : ℕ) (c : Base) (t : Table) (us : List Tabled) → put_table (table_at movi c (old t)) (map (table_at movi c) us) ≡ map (table_at movi c) (put_tabled (old t) us)
old_put movi c t [] = refl
old_put movi c t (u ∷ us) =
    ap (λ (n : ℕ). if nat_le (t.at + length t.body) n then table_at movi c (old t) ∷ (table_at movi c u ∷ map (table_at movi c) us) else table_at movi c u ∷ put_table (table_at movi c (old t)) (map (table_at movi c) us)) (span_of movi c u)
    ∙ go (nat_le (t.at + length t.body) (table_of u).at) (old_put movi c t us)
  where
    go : (s : Bool) → put_table (table_at movi c (old t)) (map (table_at movi c) us) ≡ map (table_at movi c) (put_tabled (old t) us)
        → (if s then table_at movi c (old t) ∷ (table_at movi c u ∷ map (table_at movi c) us) else table_at movi c u ∷ put_table (table_at movi c (old t)) (map (table_at movi c) us))
        ≡ map (table_at movi c) (if s then old t ∷ (u ∷ us) else u ∷ put_tabled (old t) us)
    go true again = refl
    go false again = ap (λ (xs : List TableAt). table_at movi c u ∷ xs) again

pub none_told : (b : List ℕ) (xs : List IndexChunk) (ts : List TableAt) → olds b ≡ [] → xs ≡ map kept_of (by_place (indexes b)) → ts ≡ map told_chunk xs → AreTables b ts
none_told b xs ts none sorted told =
    let movi = (first_movi (avi_of b)).at in
    told ∙ ap (map told_chunk) sorted ∙ told_kept movi (base b) (by_place (indexes b))
    ∙ ap (λ (os : List Table). map (table_at movi (base b)) (put_tableds (map old os) (map index (by_place (indexes b))))) (sym none)

pub one_told : (b : List ℕ) (xs : List IndexChunk) (ts new : List TableAt) (o : OldIndex) → IsOld b o → xs ≡ map kept_of (by_place (indexes b)) → ts ≡ map told_chunk xs → new ≡ put_table (old_at o) ts → AreTables b new
one_told b xs ts new o is sorted told put = go (olds b) refl is.body
  where
    movi : ℕ
    movi = (first_movi (avi_of b)).at

    us : List Tabled
    us = map index (by_place (indexes b))

    at_first : Span → List Span → Span
    at_first d [] = d
    at_first d (s ∷ ss) = s

    tail : List Span → List Span
    tail [] = []
    tail (s ∷ ss) = ss

    go : (os : List Table) → olds b ≡ os → o.body ∷ [] ≡ map table_span os → new ≡ map (table_at movi (base b)) (put_tableds (map old (olds b)) us)
    go [] e h = absurd cc
    go (t ∷ (u ∷ os)) e h = absurd cc
    go (t ∷ []) e h =
        let span : o.body ≡ table_span t = ap (at_first o.body) h in
        let here : old_at o ≡ table_at movi (base b) (old t) = ap (λ (s : Span). record { body = s; kind = Rattle.avi_plan.specs.declared.table.TableKind.TheVariants.Old o.base }) span ∙ ap (λ (c : _). record { body = table_span t; kind = Rattle.avi_plan.specs.declared.table.TableKind.TheVariants.Old c }) is.base_is in
        put ∙ ap (λ (x : TableAt). put_table x ts) here
        ∙ ap (put_table (table_at movi (base b) (old t))) (told ∙ ap (map told_chunk) sorted ∙ told_kept movi (base b) (by_place (indexes b)))
        ∙ old_put movi (base b) t us
        ∙ ap (λ (os : List Table). map (table_at movi (base b)) (put_tableds (map old os) us)) (sym e)

-- ---- loops

pub put_table_is : (t : TableAt) (k end : ℕ) (xs : List TableAt) → end ≡ t.body.at + t.body.len → k ≡ number_behind end xs → take k xs ++ t ∷ drop k xs ≡ put_table t xs
put_table_is t k end xs e same = ap (λ (n : ℕ). take n xs ++ t ∷ drop n xs) (same ∙ ap (λ (n : ℕ). number_behind n xs) e) ∙ go xs
  where
    go : (xs : List TableAt) → take (number_behind (t.body.at + t.body.len) xs) xs ++ t ∷ drop (number_behind (t.body.at + t.body.len) xs) xs ≡ put_table t xs
    go [] = refl
    go (u ∷ us) = by (nat_le (t.body.at + t.body.len) u.body.at) (go us)
      where
        by : (s : Bool) → take (number_behind (t.body.at + t.body.len) us) us ++ t ∷ drop (number_behind (t.body.at + t.body.len) us) us ≡ put_table t us
            → take (if s then 0 else suc (number_behind (t.body.at + t.body.len) us)) (u ∷ us) ++ t ∷ drop (if s then 0 else suc (number_behind (t.body.at + t.body.len) us)) (u ∷ us) ≡ (if s then t ∷ (u ∷ us) else u ∷ put_table t us)
        by true again = refl
        by false again = ap (λ (xs : List TableAt). u ∷ xs) again
