-- The tables of a file, as its ranges tell them.
use Rattle.std.proofs.Common.{◌≡◌, ◌∙◌, ℕ, ◌+◌, ◌-◌, Bool, true, false, List, [], ◌∷◌, ◌++◌, length, map, refl, sym, ap, subst, arith}
use Rattle.std.specs.Prelude.{if◌then◌else◌, not, filter, nat_lt, Option, Some, None, Result, Vec, codes}
use Rattle.std.specs.Global.{Global}
use Rattle.std.specs.declared.result.Result.TheVariants.{Ok, Err}
use Rattle.std.specs.List.{flat_map, AllByRecursion, sum_by}
use Rattle.std.proofs.lemmas.List.{append-nil, map-append, length-map}
use Rattle.std.proofs.lemmas.List.Sums.{sum_by-cons}
use Rattle.part_tree.specs.declared.names.Span.{Span}
use Rattle.part_tree.specs.declared.why.Why.{Why}
use Rattle.part_tree.specs.declared.why.Why.TheVariants.{IndexBase, TooManyParts}
use Rattle.part_tree.specs.declared.why.ReadFault.{ReadFault}
use Rattle.part_tree.specs.declared.why.ReadFault.TheVariants as Fault
use Rattle.container_model.specs.Stood.{Stood}
use Rattle.container_model.specs.Tables.{Table, count_rows, named, size_at, table_of}
use Rattle.container_model.specs.Tests.{first, or_else}
use Rattle.container_model.proofs.Tests.{first_none}
use Rattle.avi_index.specs.Rows.{old_rows}
use Rattle.avi_index.specs.Found.{counted, is_based}
use Rattle.opendml_index.specs.Index.{entries, index_base, is_super, super_places}
use Rattle.opendml_index.specs.Kinds.{SoundIndex, is_index_kind, is_standard_kind}
use Rattle.opendml_index.specs.Checks.{EndInside, IsChunk, counts, entries_tests}
use Rattle.opendml_index.proofs.Known.{standard_index}
use Rattle.avi_model.specs.Avi.{avi_of, body_span, first_movi, first_span, stream_indexes, old_indexes}
use Rattle.avi_model.specs.Index.{base, indexes, named_by, olds, spans, streams, table_span}
use Rattle.avi_model.specs.Map.{count_olds, count_standards, essence_spans, standards}
use Rattle.avi_model.specs.Support.{by_place, movi_spans, part_limit, put_by_place}
use Rattle.avi_model.specs.Why.{Test, base_tests, old_tests, place_tests, refusals, sound_tests, standard_tests, stream_tests}
use Rattle.avi_model.proofs.Ordered.{bases_sorted, counts_sorted, entries_sorted, olds_sorted}
use Rattle.avi_model.proofs.Lists.{all_both}
use Rattle.avi_file.specs.declared.index.IndexChunk.{IndexChunk}
use Rattle.avi_file.specs.declared.map.OldIndex.{OldIndex}
use Rattle.avi_file.specs.Entries.{AreWhole, IsWhole, ReadsEntries, chunk_count, chunk_tests, idx1_tests}
use Rattle.avi_file.specs.Indexes.{ReadsIndexes, all_kept, all_tests, kept_in, kept_of, index_tests as range_tests, named_kept, streams_kept, table_at}
use Rattle.avi_file.specs.Map.{TellsOld, old_entries}
use Rattle.avi_file.specs.Order.{IsNamed, bodies_in, standards_in, supers_in}
use Rattle.avi_file.specs.Tables.{FindsIndexes, FindsOld, first_range, index_tests, olds_tests}
use Rattle.avi_file.proofs.Held.{entries_from, header_from, kind_from, one_ends}
use Rattle.avi_model.proofs.Homes.{AllHome, streams_home, olds_home, table_named}
use Rattle.avi_file.proofs.Homes.{table_here}
use Rattle.avi_file.proofs.Left.{first_append}
use Rattle.avi_file.proofs.Placing.{sums_placed}

-- ---- the index chunks

-- the ranges of the streams' index chunks
abbrev pub index_spans : List ℕ → List Span
index_spans b = map body_span (stream_indexes (avi_of b))

tests_here : (b : List ℕ) (xs : List Stood) → AllHome b xs → all_tests (movi_spans (avi_of b)) b (map body_span xs) ≡ flat_map (stream_tests b) (map table_of xs)
tests_here b [] h = refl
tests_here b (x ∷ xs) h =
    ap (λ (t : Table). range_tests (movi_spans (avi_of b)) b t ++ all_tests (movi_spans (avi_of b)) b (map body_span xs)) (table_here b x h.0)
    ∙ ap (λ (ts : List Test). stream_tests b (table_of x) ++ ts) (tests_here b xs h.1)

kept_here : (b : List ℕ) (xs : List Stood) → AllHome b xs → streams_kept b (map body_span xs) ≡ map kept_of (map table_of xs)
kept_here b [] h = refl
kept_here b (x ∷ xs) h = ap (λ (t : Table). kept_of t ∷ streams_kept b (map body_span xs)) (table_here b x h.0) ∙ ap (λ (ys : List IndexChunk). kept_of (table_of x) ∷ ys) (kept_here b xs h.1)

each_named : (b : List ℕ) (ps : List ℕ) → map (λ p. kept_of (named b p)) ps ≡ map kept_of (map (named b) ps)
each_named b [] = refl
each_named b (p ∷ ps) = ap (λ (ys : List IndexChunk). kept_of (named b p) ∷ ys) (each_named b ps)

named_in : (b : List ℕ) (t : Table) → kept_in b t ≡ map kept_of (named_by b t)
named_in b t = go (is_super t.body)
  where
    go : (s : Bool) → (if s then map (λ p. kept_of (named b p)) (super_places t.body) else []) ≡ map kept_of (Rattle.avi_model.specs.Index.named_in b t.body s)
    go true = each_named b (super_places t.body)
    go false = refl

named_here : (b : List ℕ) (xs : List Stood) → AllHome b xs → named_kept b (map body_span xs) ≡ map kept_of (flat_map (named_by b) (map table_of xs))
named_here b [] h = refl
named_here b (x ∷ xs) h =
    ap (λ (t : Table). kept_in b t ++ named_kept b (map body_span xs)) (table_here b x h.0)
    ∙ ap (λ (ys : List IndexChunk). ys ++ named_kept b (map body_span xs)) (named_in b (table_of x))
    ∙ ap (λ (ys : List IndexChunk). map kept_of (named_by b (table_of x)) ++ ys) (named_here b xs h.1)
    ∙ sym (map-append kept_of (named_by b (table_of x)) (flat_map (named_by b) (map table_of xs)))

all_here : (b : List ℕ) → all_kept b (index_spans b) ≡ map kept_of (indexes b)
all_here b =
    let xs = stream_indexes (avi_of b) in
    let h = streams_home b in
    ap (λ (ys : List IndexChunk). ys ++ named_kept b (index_spans b)) (kept_here b xs h)
    ∙ ap (λ (ys : List IndexChunk). map kept_of (streams b) ++ ys) (named_here b xs h)
    ∙ sym (map-append kept_of (streams b) (flat_map (named_by b) (streams b)))

same_tests : (b : List ℕ) → all_tests (movi_spans (avi_of b)) b (index_spans b) ++ (nat_lt 65536 (length (all_kept b (index_spans b))), TooManyParts) ∷ [] ≡ index_tests b
same_tests b =
    let many : length (all_kept b (index_spans b)) ≡ length (indexes b) = ap length (all_here b) ∙ length-map (indexes b) kept_of in
    ap (λ (ts : List Test). ts ++ (nat_lt 65536 (length (all_kept b (index_spans b))), TooManyParts) ∷ []) (tests_here b (stream_indexes (avi_of b)) (streams_home b))
    ∙ ap (λ (n : ℕ). flat_map (stream_tests b) (streams b) ++ (nat_lt 65536 n, TooManyParts) ∷ []) many

found_by : (b : List ℕ) (result : Result (Vec IndexChunk Global) ReadFault) → ReadsIndexes (movi_spans (avi_of b)) b (index_spans b) result → FindsIndexes b result
found_by b (Ok chunks) h = (sym (ap first (same_tests b)) ∙ h.0, h.1 ∙ all_here b)
found_by b (Err (Fault.Why w)) h = sym (ap first (same_tests b)) ∙ h
found_by b (Err Fault.Depot) h = tt
found_by b (Err Fault.Memory) h = tt

pub found : (b : List ℕ) (movis ss : List Span) (result : Result (Vec IndexChunk Global) ReadFault) → movis ≡ essence_spans b → ss ≡ index_spans b → ReadsIndexes movis b ss result → FindsIndexes b result
found b movis ss result same is h =
    found_by b result (subst (λ (x : List Span). ReadsIndexes (movi_spans (avi_of b)) b x result) is (subst (λ (x : List Span). ReadsIndexes x b ss result) same h))

-- ---- each is the chunk whose header stands at its place

named_streams : (b : List ℕ) (xs : List Stood) → AllHome b xs → AllByRecursion (IsNamed b) (map table_of xs)
named_streams b [] h = tt
named_streams b (x ∷ xs) h = (record { place = x.at; is = table_named b x h.0 }, named_streams b xs h.1)

named_places : (b : List ℕ) (ps : List ℕ) → AllByRecursion (IsNamed b) (map (named b) ps)
named_places b [] = tt
named_places b (p ∷ ps) = (record { place = p; is = refl }, named_places b ps)

named_more : (b : List ℕ) (ts : List Table) → AllByRecursion (IsNamed b) (flat_map (named_by b) ts)
named_more b [] = tt
named_more b (t ∷ ts) = all_both (IsNamed b) (named_by b t) (flat_map (named_by b) ts) (go (is_super t.body)) (named_more b ts)
  where
    go : (s : Bool) → AllByRecursion (IsNamed b) (Rattle.avi_model.specs.Index.named_in b t.body s)
    go true = named_places b (super_places t.body)
    go false = tt

pub all_named : (b : List ℕ) → AllByRecursion (IsNamed b) (indexes b)
all_named b = all_both (IsNamed b) (streams b) (flat_map (named_by b) (streams b)) (named_streams b (stream_indexes (avi_of b)) (streams_home b)) (named_more b (streams b))

-- the same by place
all_put : (P : Table → Type 0) (t : Table) (us : List Table) → P t → AllByRecursion P us → AllByRecursion P (put_by_place t us)
all_put P t [] one all = (one, tt)
all_put P t (u ∷ us) one all = go (nat_lt t.at u.at) (all_put P t us one all.1)
  where
    go : (s : Bool) → AllByRecursion P (put_by_place t us) → AllByRecursion P (if s then t ∷ (u ∷ us) else u ∷ put_by_place t us)
    go true later = (one, all)
    go false later = (all.0, later)

pub all_placed : (P : Table → Type 0) (ts : List Table) → AllByRecursion P ts → AllByRecursion P (by_place ts)
all_placed P [] all = tt
all_placed P (t ∷ ts) all = all_put P t (by_place ts) all.0 (all_placed P ts all.1)

-- ---- standard indexes are whole

standard_sound : (at : ℕ) (body : List ℕ) → first (sound_tests is_standard_kind at body) ≡ None → SoundIndex is_standard_kind body
standard_sound at body none = record { header_is_there = header_from is_standard_kind at body none; kind_is = kind_from is_standard_kind at body none; entries_are_there = entries_from is_standard_kind at body none }

stream_sound : (at : ℕ) (body : List ℕ) → first (sound_tests is_index_kind at body) ≡ None → is_super body ≡ false → SoundIndex is_standard_kind body
stream_sound at body none other = record {
  header_is_there = header_from is_index_kind at body none;
  kind_is = standard_index body (kind_from is_index_kind at body none) other;
  entries_are_there = entries_from is_index_kind at body none;
}

-- the first of two lists of tests
none_left : (a b : List Test) → first (a ++ b) ≡ None → first a ≡ None
none_left a b e = go (first a) refl
  where
    go : (o : Option Why) → first a ≡ o → first a ≡ None
    go None h = h
    go (Some w) h = let some : first (a ++ b) ≡ Some w = first_append a b ∙ ap (λ (x : Option Why). or_else x (first b)) h in absurd (let no : Some w ≡ None = sym some ∙ e in cc)

none_right : (a b : List Test) → first (a ++ b) ≡ None → first b ≡ None
none_right a b e = sym (first_append a b ∙ ap (λ (x : Option Why). or_else x (first b)) (none_left a b e)) ∙ e

not_super : (body : List ℕ) → not (is_super body) ≡ true → is_super body ≡ false
not_super body e = go (is_super body) refl e
  where
    go : (s : Bool) → is_super body ≡ s → not s ≡ true → is_super body ≡ false
    go true h i = absurd cc
    go false h i = h

place_back : (p : ℕ) → p + 8 - 8 ≡ p
place_back p = omega arith

-- a table whose chunk is whole, told as the chunk
whole_named : (b : List ℕ) (t : Table) (p : ℕ) → t ≡ named b p → (not (is_super t.body) ≡ true → IsChunk b p) → IsWhole b (kept_of t)
whole_named b t p same whole standard =
    let at : t.at - 8 ≡ p = ap (λ (u : Table). u.at - 8) same ∙ place_back p in
    subst (IsChunk b) (sym at) (whole standard)

whole_streams : (b : List ℕ) (xs : List Stood) → AllHome b xs → first (flat_map (stream_tests b) (map table_of xs)) ≡ None → AllByRecursion (λ t. IsWhole b (kept_of t)) (map table_of xs)
whole_streams b [] h none = tt
whole_streams b (x ∷ xs) h none =
    let t = table_of x in
    let own = none_left (stream_tests b t) (flat_map (stream_tests b) (map table_of xs)) none in
    let more = none_right (stream_tests b t) (flat_map (stream_tests b) (map table_of xs)) none in
    let sound = none_left (sound_tests is_index_kind (t.at - 8) t.body) (if is_super t.body then flat_map (place_tests b) (super_places t.body) else []) own in
    let same = table_named b x h.0 in
    let whole : not (is_super t.body) ≡ true → IsChunk b x.at = λ standard. record {
      whole = omega (arith, (h.0).fits, (h.0).size);
      sound = subst (λ (u : Table). SoundIndex is_standard_kind u.body) same (stream_sound (t.at - 8) t.body sound (not_super t.body standard));
    }
    in
    (whole_named b t x.at same whole, whole_streams b xs h.1 more)

whole_places : (b : List ℕ) (ps : List ℕ) → AllByRecursion (EndInside (length b)) (movi_spans (avi_of b)) → first (flat_map (place_tests b) ps) ≡ None → AllByRecursion (λ t. IsWhole b (kept_of t)) (map (named b) ps)
whole_places b [] ends_ none = tt
whole_places b (p ∷ ps) ends_ none =
    let own = none_left (place_tests b p) (flat_map (place_tests b) ps) none in
    let more = none_right (place_tests b p) (flat_map (place_tests b) ps) none in
    let all = first_none (place_tests b p) own in
    let lies = Rattle.avi_model.proofs.Whys.not_is (Rattle.part_tree.specs.Ranges.in_one (movi_spans (avi_of b)) p (8 + size_at b p)) all.0 in
    let sound = Rattle.container_model.proofs.Tests.none_first (sound_tests is_standard_kind p (named b p).body) all.1 in
    let whole : not (is_super (named b p).body) ≡ true → IsChunk b p = λ standard. record {
      whole = omega (arith, one_ends (length b) (movi_spans (avi_of b)) p (8 + size_at b p) ends_ lies);
      sound = standard_sound p (named b p).body sound;
    }
    in
    (whole_named b (named b p) p refl whole, whole_places b ps ends_ more)

whole_more : (b : List ℕ) (ts : List Table) → AllByRecursion (EndInside (length b)) (movi_spans (avi_of b)) → first (flat_map (stream_tests b) ts) ≡ None → AllByRecursion (λ t. IsWhole b (kept_of t)) (flat_map (named_by b) ts)
whole_more b [] ends_ none = tt
whole_more b (t ∷ ts) ends_ none =
    let own = none_left (stream_tests b t) (flat_map (stream_tests b) ts) none in
    let more = none_right (stream_tests b t) (flat_map (stream_tests b) ts) none in
    let places = none_right (sound_tests is_index_kind (t.at - 8) t.body) (if is_super t.body then flat_map (place_tests b) (super_places t.body) else []) own in
    all_both (λ u. IsWhole b (kept_of u)) (named_by b t) (flat_map (named_by b) ts) (go (is_super t.body) places) (whole_more b ts ends_ more)
  where
    go : (s : Bool) → first (if s then flat_map (place_tests b) (super_places t.body) else []) ≡ None → AllByRecursion (λ u. IsWhole b (kept_of u)) (Rattle.avi_model.specs.Index.named_in b t.body s)
    go true e = whole_places b (super_places t.body) ends_ e
    go false e = tt

as_kept : (b : List ℕ) (ts : List Table) → AllByRecursion (λ t. IsWhole b (kept_of t)) ts → AreWhole b (map kept_of ts)
as_kept b [] all = tt
as_kept b (t ∷ ts) all = (all.0, as_kept b ts all.1)

pub placed_whole : (b : List ℕ) (movis : List Span) → movis ≡ essence_spans b → AllByRecursion (EndInside (length b)) movis → first (index_tests b) ≡ None → AreWhole b (map kept_of (by_place (indexes b)))
placed_whole b movis same ends_ none =
    let tests = none_left (flat_map (stream_tests b) (streams b)) ((nat_lt part_limit (length (indexes b)), TooManyParts) ∷ []) none in
    let inside = subst (AllByRecursion (EndInside (length b))) same ends_ in
    as_kept b (by_place (indexes b))
    (all_placed (λ t. IsWhole b (kept_of t)) (indexes b)
    (all_both (λ t. IsWhole b (kept_of t)) (streams b) (flat_map (named_by b) (streams b)) (whole_streams b (stream_indexes (avi_of b)) (streams_home b) tests) (whole_more b (streams b) inside tests)))

-- ---- their entries

turned : (s : Bool) (ts : List Test) → (if not s then ts else []) ≡ (if s then [] else ts)
turned true ts = refl
turned false ts = refl

entry_tests_same : (b : List ℕ) (t : Table) → IsNamed b t → chunk_tests (movi_spans (avi_of b)) (spans (by_place (indexes b))) b (kept_of t) ≡ standard_tests b t
entry_tests_same b t is =
    let at : t.at - 8 ≡ is.place = ap (λ (u : Table). u.at - 8) is.is ∙ place_back is.place in
    let body : (named b (t.at - 8)).body ≡ t.body = ap (λ (p : ℕ). (named b p).body) at ∙ sym (ap (λ (u : Table). u.body) is.is) in
    ap (λ (x : List ℕ). if not (is_super t.body) then refusals (t.at - 8) (entries_tests (movi_spans (avi_of b)) (spans (by_place (indexes b))) (index_base x) 0 (entries x)) else []) body
    ∙ ap (λ (ts : List (Bool × Rattle.part_tree.specs.declared.index.IndexFault.IndexFault)). if not (is_super t.body) then refusals (t.at - 8) ts else []) (entries_sorted (movi_spans (avi_of b)) (indexes b) (index_base t.body) 0 (entries t.body))
    ∙ turned (is_super t.body) (refusals (t.at - 8) (entries_tests (movi_spans (avi_of b)) (spans (indexes b)) (index_base t.body) 0 (entries t.body)))

pub standards_tested : (b : List ℕ) (us : List Table) → AllByRecursion (IsNamed b) us → flat_map (chunk_tests (movi_spans (avi_of b)) (spans (by_place (indexes b))) b) (map kept_of us) ≡ flat_map (standard_tests b) us
standards_tested b [] all = refl
standards_tested b (u ∷ us) all =
    ap (λ (ts : List Test). ts ++ flat_map (chunk_tests (movi_spans (avi_of b)) (spans (by_place (indexes b))) b) (map kept_of us)) (entry_tests_same b u all.0)
    ∙ ap (λ (ts : List Test). standard_tests b u ++ ts) (standards_tested b us all.1)

count_same : (b : List ℕ) (t : Table) → IsNamed b t → chunk_count b (kept_of t) ≡ (if not (is_super t.body) then count_rows counts (entries t.body) else 0)
count_same b t is =
    let at : t.at - 8 ≡ is.place = ap (λ (u : Table). u.at - 8) is.is ∙ place_back is.place in
    let body : (named b (t.at - 8)).body ≡ t.body = ap (λ (p : ℕ). (named b p).body) at ∙ sym (ap (λ (u : Table). u.body) is.is) in
    ap (λ (x : List ℕ). if not (is_super t.body) then count_rows counts (entries x) else 0) body

counted_all : (b : List ℕ) (ts : List Table) → AllByRecursion (IsNamed b) ts → sum_by (chunk_count b) (map kept_of ts) ≡ count_standards (filter (λ t. not (is_super t.body)) ts)
counted_all b [] all = refl
counted_all b (t ∷ ts) all =
    sum_by-cons (chunk_count b) (kept_of t) (map kept_of ts)
    ∙ ap (λ (n : ℕ). n + sum_by (chunk_count b) (map kept_of ts)) (count_same b t all.0)
    ∙ ap (λ (n : ℕ). (if not (is_super t.body) then count_rows counts (entries t.body) else 0) + n) (counted_all b ts all.1)
    ∙ go (not (is_super t.body))
  where
    go : (s : Bool) → (if s then count_rows counts (entries t.body) else 0) + count_standards (filter (λ t. not (is_super t.body)) ts) ≡ count_standards (if s then t ∷ filter (λ t. not (is_super t.body)) ts else filter (λ t. not (is_super t.body)) ts)
    go true = refl
    go false = omega arith

pub standards_counted : (b : List ℕ) → sum_by (chunk_count b) (map kept_of (by_place (indexes b))) ≡ count_standards (standards b)
standards_counted b = sums_placed (chunk_count b) (indexes b) ∙ counted_all b (indexes b) (all_named b)

-- ---- `idx1`

pub first_is_movi : (b : List ℕ) → first_range (essence_spans b) ≡ first_movi (avi_of b)
first_is_movi b = go (Rattle.avi_model.specs.Avi.essence (avi_of b))
  where
    go : (xs : List Stood) → first_range (map body_span xs) ≡ first_span xs
    go [] = refl
    go (x ∷ xs) = refl

same_count : (f g : List ℕ → Bool) (rs : List (List ℕ)) → ((r : List ℕ) → f r ≡ g r) → count_rows f rs ≡ count_rows g rs
same_count f g rs same = ap length (go rs)
  where
    go : (rs : List (List ℕ)) → filter f rs ≡ filter g rs
    go [] = refl
    go (r ∷ rs) = ap (λ (t : Bool). if t then r ∷ filter f rs else filter f rs) (same r) ∙ ap (λ (later : List (List ℕ)). if g r then r ∷ later else later) (go rs)

no_spans : (xs : List Stood) → map body_span xs ≡ [] → xs ≡ []
no_spans [] e = refl
no_spans (x ∷ xs) e = absurd cc

pub finds_none : (b : List ℕ) → map body_span (old_indexes (avi_of b)) ≡ [] → FindsOld b (Ok None)
finds_none b e =
    let none : olds b ≡ [] = ap (map table_of) (no_spans (old_indexes (avi_of b)) e) in (
      ap (λ (us : List Table). first (flat_map (base_tests b) us ++ flat_map (old_tests (base b) (first_movi (avi_of b)) (indexes b)) us)) none,
      none,
    )

-- the one `idx1`
pub record IsOne (xs : List Stood) (idx : Span) : Type 0 where
  pub x : Stood
  pub only_one : xs ≡ x ∷ []
  pub span : idx ≡ body_span x

one_of_first : (ys : List Stood) (idx : Span) (rest : List Span) → map body_span (Rattle.container_model.specs.Stood.first_of ys) ≡ idx ∷ rest → IsOne (Rattle.container_model.specs.Stood.first_of ys) idx
one_of_first [] idx rest e = absurd cc
one_of_first (y ∷ ys) idx rest e = record { x = y; only_one = refl; span = cc }

module _ (b : List ℕ) (idx : Span) (rest : List Span) (is : map body_span (old_indexes (avi_of b)) ≡ idx ∷ rest) where
  abbrev one : IsOne (old_indexes (avi_of b)) idx
  one = one_of_first (Rattle.container_model.specs.Stood.only (Rattle.avi_model.specs.Avi.has_id (codes "idx1")) (Rattle.avi_model.specs.Avi.top (avi_of b))) idx rest is

  abbrev t : Table
  t = table_of one.x

  abbrev rows : List (List ℕ)
  rows = old_rows t.body

  abbrev movi : Span
  movi = first_movi (avi_of b)

  abbrev ts : List Table
  ts = indexes b

  abbrev ss : List Span
  ss = spans (by_place ts)

  olds_are : olds b ≡ t ∷ []
  olds_are = ap (map table_of) one.only_one

  base_is : base b ≡ Rattle.avi_index.specs.Rows.base_of movi.at rows
  base_is = ap (Rattle.avi_model.specs.Index.base_in movi.at) olds_are

  here : table_at b idx ≡ t
  here =
      let home = subst (AllHome b) one.only_one (olds_home b) in
      ap (table_at b) one.span ∙ table_here b one.x home.0

  abbrev tested : Bool → List Test → Option Why
  tested s us = if not s then Some IndexBase else first us

  same_olds : first (olds_tests b) ≡ first (idx1_tests b ss movi t)
  same_olds =
      let own = λ (m : Rattle.avi_index.specs.Rows.Base). refusals (t.at - 8) (Rattle.avi_index.specs.Checks.old_tests m movi (spans ts) 0 rows) in
      let m = Rattle.avi_index.specs.Rows.base_of movi.at rows in
      ap (λ (us : List Table). first (flat_map (base_tests b) us ++ flat_map (old_tests (base b) movi ts) us)) olds_are
      ∙ ap (λ (n : Rattle.avi_index.specs.Rows.Base). tested (is_based b (spans ts) movi rows) (own n ++ [])) base_is
      ∙ ap (tested (is_based b (spans ts) movi rows)) (append-nil (own m))
      ∙ ap (λ (s : Bool). tested s (own m)) (sym (bases_sorted b ts movi rows))
      ∙ ap (λ (us : List (Bool × Rattle.part_tree.specs.declared.index.IndexFault.IndexFault)). tested (is_based b ss movi rows) (refusals (t.at - 8) us)) (sym (olds_sorted m movi ts 0 rows))

  -- what was read of it
  as_one : (movis bodies : List Span) (result : Result OldIndex ReadFault) → movis ≡ essence_spans b → bodies ≡ ss → ReadsEntries b bodies (first_range movis) (table_at b idx) result → ReadsEntries b ss movi t result
  as_one movis bodies result same apart h =
      let m : first_range movis ≡ movi = ap first_range same ∙ first_is_movi b in
      subst (λ (u : Table). ReadsEntries b ss movi u result) here (subst (λ (v : Span). ReadsEntries b ss v (table_at b idx) result) m (subst (λ (vs : List Span). ReadsEntries b vs (first_range movis) (table_at b idx) result) apart h))

  pub finds_fault : (movis bodies : List Span) (fault : ReadFault) → movis ≡ essence_spans b → bodies ≡ ss → ReadsEntries b bodies (first_range movis) (table_at b idx) (Err fault) → FindsOld b (Err fault)
  finds_fault movis bodies fault same apart h = go fault (as_one movis bodies (Err fault) same apart h)
    where
      go : (f : ReadFault) → ReadsEntries b ss movi t (Err f) → FindsOld b (Err f)
      go (Fault.Why w) h = same_olds ∙ h
      go Fault.Depot h = tt
      go Fault.Memory h = tt

  pub finds_one : (movis bodies : List Span) (old : OldIndex) → movis ≡ essence_spans b → bodies ≡ ss → old.body ≡ idx → ReadsEntries b bodies (first_range movis) (table_at b idx) (Ok old) → FindsOld b (Ok (Some old))
  finds_one movis bodies old same apart body h =
      let read = as_one movis bodies (Ok old) same apart h in
      let m = Rattle.avi_index.specs.Rows.base_of movi.at rows in (
        same_olds ∙ read.0,
        record {
          body = ap (λ (s : Span). s ∷ []) (body ∙ one.span) ∙ sym (ap (map table_span) olds_are);
          base_is = (read.1).base ∙ ap (Rattle.avi_index.specs.Checks.told_base movi.at) (sym base_is);
          counted_are =
              (read.1).counted_are
              ∙ same_count (counted m movi ss) (counted m movi (spans ts)) rows (λ r. counts_sorted m movi ts r)
              ∙ ap (λ (n : Rattle.avi_index.specs.Rows.Base). count_rows (counted n movi (spans ts)) rows) (sym base_is)
              ∙ sym (ap (λ (us : List Table). count_olds (counted (base b) movi (spans ts)) us) olds_are);
        },
      )

-- ---- all entries

pub no_old : (b : List ℕ) → olds b ≡ [] → old_entries b ≡ 0
no_old b e = ap (count_olds (counted (base b) (first_movi (avi_of b)) (spans (indexes b)))) e

pub told_count : (b : List ℕ) (old : Option OldIndex) → TellsOld b old → Rattle.avi_file.specs.Tables.counted_in old ≡ old_entries b
told_count b None h = sym (no_old b h)
told_count b (Some old) h = h.counted_are

-- ---- the bodies of index chunks

pub same_bodies : (us : List Table) → bodies_in (map kept_of us) ≡ spans us
same_bodies [] = refl
same_bodies (u ∷ us) = ap (λ (ss : List Span). table_span u ∷ ss) (same_bodies us)

pub same_supers : (us : List Table) → supers_in (map kept_of us) ≡ map table_span (filter (λ t. is_super t.body) us)
same_supers [] = refl
same_supers (u ∷ us) = go (is_super u.body) (same_supers us)
  where
    go : (s : Bool) → supers_in (map kept_of us) ≡ map table_span (filter (λ t. is_super t.body) us)
        → bodies_in (if not (not s) then kept_of u ∷ filter (λ x. not x.standard) (map kept_of us) else filter (λ x. not x.standard) (map kept_of us)) ≡ map table_span (if s then u ∷ filter (λ t. is_super t.body) us else filter (λ t. is_super t.body) us)
    go true e = ap (λ (ss : List Span). table_span u ∷ ss) e
    go false e = e

pub same_standards : (us : List Table) → standards_in (map kept_of us) ≡ map table_span (filter (λ t. not (is_super t.body)) us)
same_standards [] = refl
same_standards (u ∷ us) = go (is_super u.body) (same_standards us)
  where
    go : (s : Bool) → standards_in (map kept_of us) ≡ map table_span (filter (λ t. not (is_super t.body)) us)
        → bodies_in (if not s then kept_of u ∷ filter (λ x. x.standard) (map kept_of us) else filter (λ x. x.standard) (map kept_of us)) ≡ map table_span (if not s then u ∷ filter (λ t. not (is_super t.body)) us else filter (λ t. not (is_super t.body)) us)
    go true e = e
    go false e = ap (λ (ss : List Span). table_span u ∷ ss) e
