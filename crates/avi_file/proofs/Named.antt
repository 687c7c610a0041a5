-- The names of the streams: where their lists stand, and the fields of one stream after the other.
use Rattle.std.proofs.Common.{◌≡◌, ◌∙◌, ℕ, zero, suc, ◌+◌, ◌-◌, ◌<◌, ◌≤◌, Bool, true, false, eqb, List, [], ◌∷◌, ◌++◌, length, map, filter, take, drop, get_or, refl, sym, ap, subst, arith, append_assoc, length-append}
use Rattle.std.specs.Prelude.{codes, if◌then◌else◌, ◌==◌, None}
use Rattle.std.specs.declared.result.Result.TheVariants.{Err}
use Rattle.std.specs.List.{flat_map, AllByRecursion}
use Rattle.std.proofs.lemmas.Bool.{eq-eqb, ne_eqb}
use Rattle.std.proofs.lemmas.List.{append-nil, drop_all, drop_more, length-map}
use Rattle.part_tree.specs.declared.names.Span.{Span}
use Rattle.part_tree.specs.declared.field.FieldName.{FieldName}
use Rattle.part_tree.specs.declared.field.FieldName.TheVariants.{Bext, Key, Stream}
use Rattle.part_tree.specs.declared.field.Value.{Value}
use Rattle.part_tree.specs.declared.fields.Entry.{Entry}
use Rattle.part_tree.specs.declared.part.Part.{Part}
use Rattle.part_tree.specs.declared.why.ReadFault.{ReadFault}
use Rattle.part_tree.specs.declared.why.ReadFault.TheVariants as Fault
use Rattle.part_tree.specs.Fields.{values, Adds}
use Rattle.container_model.specs.Chunk.{Chunk, Run, ends, chunks, spell}
use Rattle.container_model.specs.Sizes.{plain as sizes, riff_front}
use Rattle.container_model.specs.Stood.{Stood, bare, stood, only, first_of}
use Rattle.container_model.specs.Written.{slice}
use Rattle.container_model.proofs.Stood.{first_all, only_all}
use Rattle.carrier_model.specs.Info.{is_type, list_run}
use Rattle.carrier_model.specs.Names.{is_name}
use Rattle.riff_form.specs.Walk.{row}
use Rattle.field_model.specs.Fields.{FieldMap, plain}
use Rattle.opendml_index.specs.Checks.{EndInside}
use Rattle.avi_names.specs.Names.{EndBy, names_from}
use Rattle.avi_model.specs.After.{all_fields}
use Rattle.avi_model.specs.Avi.{Avi, avi_of, body_span, hdrls, kids, strls, top}
use Rattle.avi_model.specs.Heads.{names_in, nth_names}
use Rattle.avi_model.specs.Map.{bytes_in, parts_of}
use Rattle.avi_model.specs.Support.{ListEnds as Whole, count_kids, infos}
use Rattle.avi_model.specs.Why.{why_named}
use Rattle.avi_model.proofs.Lies.{list_long}
use Rattle.avi_model.proofs.NamesExact.{names_exact}
use Rattle.avi_model.proofs.Sound.{all_left, all_right}
use Rattle.info_list.specs.Fields.{Grows}
use Rattle.avi_file.specs.Fields.{IsNoWhy, OnlyTexts, infos_of, lists_held}
use Rattle.avi_file.specs.Map.{ReadsFields}
use Rattle.avi_file.specs.Names.{StreamsEnd, names_at, stream_held, streams_held}
use Rattle.avi_file.specs.Walk.{behind_type}
use Rattle.avi_file.proofs.Fielded.{fields_here, same_lists}
use Rattle.info_list.proofs.Grown.{FieldsLeft, added, fields_end, fields_next, grown_as, not_grown, one}
use Rattle.avi_model.proofs.Homes.{AtHome, AllHome, kids_home, list_home, strls_home}

-- ---- a stream's list at home

-- its chunks are those that stand behind its type
chunks_are : (b : List ℕ) (x : Stood) → AtHome b x → row b (x.at + 12) (x.at + 12 + (length x.chunk.body - 4)) ≡ list_run x.chunk
chunks_are b x h =
    let n = length x.chunk.body in
    let len : (x.at + 12 + (n - 4)) - (x.at + 12) ≡ n - 4 = omega arith in
    ap (λ (m : ℕ). chunks riff_front sizes (take m (drop (x.at + 12) b))) len ∙ ap (chunks riff_front sizes) (sym (list_home b x h))

-- the names among chunks at home
bodies_are : (b : List ℕ) (at : ℕ) (cs : List Chunk) → AllHome b (stood at cs) → map (bytes_in b) (names_from at cs) ≡ map (λ (c : Chunk). c.body) (filter is_name cs)
bodies_are b at [] h = refl
bodies_are b at (c ∷ cs) h = go (is_name c) (bodies_are b (at + length (spell c)) cs h.1)
  where
    go : (t : Bool) → map (bytes_in b) (names_from (at + length (spell c)) cs) ≡ map (λ (d : Chunk). d.body) (filter is_name cs)
        → map (bytes_in b) (if t then record { at = at + 8; len = length c.body } ∷ names_from (at + length (spell c)) cs else names_from (at + length (spell c)) cs)
        ≡ map (λ (d : Chunk). d.body) (if t then c ∷ filter is_name cs else filter is_name cs)
    go true e = ap (λ (x : List ℕ). x ∷ map (bytes_in b) (names_from (at + length (spell c)) cs)) (sym (h.0).body) ∙ ap (λ (xs : List (List ℕ)). c.body ∷ xs) e
    go false e = e

names_are : (b : List ℕ) (x : Stood) → AtHome b x → names_at b (behind_type x) ≡ names_in x
names_are b x h = ap (λ (r : Run). map (bytes_in b) (names_from (x.at + 12) r.chunks)) (chunks_are b x h) ∙ bodies_are b (x.at + 12) (list_run x.chunk).chunks (kids_home b x h)

-- ---- the names of streams by their numbers

-- none of a stream before the first
streams_before : (b : List ℕ) (ss : List Span) (k m : ℕ) → m < k → streams_held b k ss (Stream m) ≡ []
streams_before b [] k m lt = refl
streams_before b (s ∷ ss) k m lt =
    let other : eqb k m ≡ false = ne_eqb k m (λ e. absurd (omega arith)) in
    ap (λ (t : Bool). (if t then map plain (names_at b s) else []) ++ streams_held b (suc k) ss (Stream m)) other ∙ streams_before b ss (suc k) m (omega arith)

streams_are : (b : List ℕ) (xs : List Stood) → AllHome b xs → (k n : ℕ) → streams_held b k (map behind_type xs) (Stream (k + n)) ≡ map plain (nth_names n xs)
streams_are b [] h k n = refl
streams_are b (x ∷ xs) h k zero =
    let here : k + 0 ≡ k = omega arith in
    let same : eqb k k ≡ true = eq-eqb k k refl in
    let later = streams_held b (suc k) (map behind_type xs) (Stream k) in
    ap (λ (m : ℕ). streams_held b k (map behind_type (x ∷ xs)) (Stream m)) here
    ∙ ap (λ (t : Bool). (if t then map plain (names_at b (behind_type x)) else []) ++ later) same
    ∙ ap (λ (vs : List Value). map plain (names_at b (behind_type x)) ++ vs) (streams_before b (map behind_type xs) (suc k) k (omega arith))
    ∙ append-nil (map plain (names_at b (behind_type x)))
    ∙ ap (map plain) (names_are b x h.0)
streams_are b (x ∷ xs) h k (suc n) =
    let other : eqb k (k + suc n) ≡ false = ne_eqb k (k + suc n) (λ e. absurd (omega arith)) in
    let place : k + suc n ≡ suc k + n = omega arith in
    ap (λ (t : Bool). (if t then map plain (names_at b (behind_type x)) else []) ++ streams_held b (suc k) (map behind_type xs) (Stream (k + suc n))) other
    ∙ ap (λ (m : ℕ). streams_held b (suc k) (map behind_type xs) (Stream m)) place
    ∙ streams_are b xs h.1 (suc k) n

-- no other field is a stream's
streams_other : (b : List ℕ) (k : ℕ) (ss : List Span) (n : FieldName) → ((m : ℕ) (vs : List (List ℕ)) → stream_held m vs n ≡ []) → streams_held b k ss n ≡ []
streams_other b k [] n e = refl
streams_other b k (s ∷ ss) n e = ap (λ (vs : List Value). vs ++ streams_held b (suc k) ss n) (e k (names_at b s)) ∙ streams_other b (suc k) ss n e

-- the fields of the lists, and the names of streams behind them, are all fields
pub all_here : (b : List ℕ) (n : FieldName) → lists_held b (map body_span (infos (avi_of b))) n ++ streams_held b 0 (map behind_type (strls (avi_of b))) n ≡ all_fields b n
all_here b (Stream m) =
    let zero_on : 0 + m ≡ m = omega arith in
    let xs = strls (avi_of b) in
    ap (λ (vs : List Value). vs ++ streams_held b 0 (map behind_type xs) (Stream m)) (fields_here b (Stream m))
    ∙ ap (λ (k : ℕ). streams_held b 0 (map behind_type xs) (Stream k)) (sym zero_on)
    ∙ streams_are b xs (strls_home b) 0 m
all_here b other =
    ap (λ (vs : List Value). lists_held b (map body_span (infos (avi_of b))) other ++ vs) (streams_other b 0 (map behind_type (strls (avi_of b))) other (λ m vs. refl)) ∙ append-nil (lists_held b (map body_span (infos (avi_of b))) other) ∙ fields_here b other

-- ---- one name more

pub name_added : (old new : List Entry) (n : ℕ) (v : Value) (raw : List ℕ) → v ≡ plain raw → Adds old new (Stream n) v → Grows old new (stream_held n (raw ∷ []))
name_added old new n v raw is a = grown_as old new (one (Stream n) v) (stream_held n (raw ∷ [])) (added old new (Stream n) v a) same
  where
    same : (m : FieldName) → one (Stream n) v m ≡ stream_held n (raw ∷ []) m
    same (Stream k) = ap (λ (x : Value). if n == k then x ∷ [] else []) is
    same other = refl

pub name_only : (old new : List Entry) (n : ℕ) (v : Value) → Adds old new (Stream n) v → OnlyTexts old → OnlyTexts new
name_only old new n v a only = record { no_bext = λ field. a.others (Bext field) refl ∙ only.no_bext field; no_keys = λ key. a.others (Key key) refl ∙ only.no_keys key }

-- the names of a stream, one behind the others
names_more : (n : ℕ) (v : List ℕ) (vs : List (List ℕ)) (m : FieldName) → stream_held n (v ∷ vs) m ≡ stream_held n (v ∷ []) m ++ stream_held n vs m
names_more n v vs (Stream k) = go (n == k)
  where
    go : (t : Bool) → (if t then map plain (v ∷ vs) else []) ≡ (if t then map plain (v ∷ []) else []) ++ (if t then map plain vs else [])
    go true = refl
    go false = refl
names_more n v vs other = refl

names_none : (n : ℕ) (m : FieldName) → stream_held n [] m ≡ []
names_none n (Stream k) = go (n == k)
  where
    go : (t : Bool) → (if t then map plain [] else []) ≡ []
    go true = refl
    go false = refl
names_none n other = refl

-- those that are left
abbrev pub NamesLeft : List ℕ → ℕ → List Entry → List Entry → List Span → List Span → Type 0
NamesLeft b n now old rest whole = FieldsLeft now old (stream_held n (map (bytes_in b) rest)) (stream_held n (map (bytes_in b) whole))

pub name_next : (b : List ℕ) (n : ℕ) (old now new : List Entry) (ss whole : List Span) (k : ℕ) (d : Span) → k < length ss → Grows now new (stream_held n (bytes_in b (get_or ss k d) ∷ [])) → NamesLeft b n now old (drop k ss) whole
    → NamesLeft b n new old (drop (k + 1) ss) whole
name_next b n old now new ss whole k d lt grown left =
    let s = get_or ss k d in
    let more = map (bytes_in b) (drop (k + 1) ss) in
    fields_next old now new (stream_held n (map (bytes_in b) (drop k ss))) (stream_held n more) (stream_held n (bytes_in b s ∷ [])) (stream_held n (map (bytes_in b) whole)) grown
    (λ m. ap (λ (xs : List Span). stream_held n (map (bytes_in b) xs) m) (drop_more ss k d lt) ∙ names_more n (bytes_in b s) more m) left

pub name_end : (b : List ℕ) (n : ℕ) (old now : List Entry) (ss whole : List Span) (k : ℕ) → length ss ≤ k → NamesLeft b n now old (drop k ss) whole → Grows old now (stream_held n (map (bytes_in b) whole))
name_end b n old now ss whole k le left =
    fields_end old now (stream_held n (map (bytes_in b) (drop k ss))) (stream_held n (map (bytes_in b) whole)) (λ m. ap (λ (xs : List Span). stream_held n (map (bytes_in b) xs) m) (drop_all k ss le) ∙ names_none n m) left

-- ---- one stream more

abbrev pub StreamsLeft : List ℕ → ℕ → List Entry → List Entry → List Span → List Span → Type 0
StreamsLeft b k now old rest whole = FieldsLeft now old (streams_held b k rest) (streams_held b 0 whole)

pub stream_next : (b : List ℕ) (old now new : List Entry) (ss whole : List Span) (k : ℕ) (d : Span) → k < length ss → Grows now new (stream_held k (names_at b (get_or ss k d))) → StreamsLeft b k now old (drop k ss) whole
    → StreamsLeft b (k + 1) new old (drop (k + 1) ss) whole
stream_next b old now new ss whole k d lt grown left =
    let s = get_or ss k d in
    let later = drop (k + 1) ss in
    let next : suc k ≡ k + 1 = omega arith in
    fields_next old now new (streams_held b k (drop k ss)) (streams_held b (k + 1) later) (stream_held k (names_at b s)) (streams_held b 0 whole) grown
    (λ m. ap (λ (xs : List Span). streams_held b k xs m) (drop_more ss k d lt) ∙ ap (λ (q : ℕ). stream_held k (names_at b s) m ++ streams_held b q later m) next) left

pub stream_end : (b : List ℕ) (old now : List Entry) (ss whole : List Span) (k : ℕ) → length ss ≤ k → StreamsLeft b k now old (drop k ss) whole → Grows old now (streams_held b 0 whole)
stream_end b old now ss whole k le left = fields_end old now (streams_held b k (drop k ss)) (streams_held b 0 whole) (λ m. ap (λ (xs : List Span). streams_held b k xs m) (drop_all k ss le)) left

-- ---- where the lists stand

only_long : (w : List ℕ) (xs : List Stood) → length w ≡ 4 → AllByRecursion (λ x. 4 ≤ length x.chunk.body) (only (is_type w) xs)
only_long w [] four = tt
only_long w (x ∷ xs) four = go (is_type w x.chunk) refl (only_long w xs four)
  where
    go : (t : Bool) → is_type w x.chunk ≡ t → AllByRecursion (λ x. 4 ≤ length x.chunk.body) (only (is_type w) xs) → AllByRecursion (λ x. 4 ≤ length x.chunk.body) (if t then x ∷ only (is_type w) xs else only (is_type w) xs)
    go true e more = (list_long w x four e, more)
    go false e more = more

spans_inside : (b : List ℕ) (xs : List Stood) → AllHome b xs → AllByRecursion (λ x. 4 ≤ length x.chunk.body) xs → AllByRecursion (EndInside (length b)) (map behind_type xs)
spans_inside b [] h long = tt
spans_inside b (x ∷ xs) h long =
    let one : x.at + 12 + (length x.chunk.body - 4) ≤ length b = omega (arith, (h.0).fits, long.0) in
    (one, spans_inside b xs h.1 long.1)

pub strls_inside : (b : List ℕ) (ss : List Span) → ss ≡ map behind_type (strls (avi_of b)) → AllByRecursion (EndInside (length b)) ss
strls_inside b ss same =
    subst (AllByRecursion (EndInside (length b))) (sym same) (spans_inside b (strls (avi_of b)) (strls_home b) (only_long (codes "strl") (flat_map kids (hdrls (avi_of b))) refl))

spans_end : (b : List ℕ) (xs : List Stood) → AllHome b xs → AllByRecursion Whole xs → StreamsEnd b (map behind_type xs)
spans_end b [] h whole = tt
spans_end b (x ∷ xs) h whole = (ap (λ (r : Run). r.stop) (chunks_are b x h.0) ∙ whole.0, spans_end b xs h.1 whole.1)

pub strls_end : (b : List ℕ) (ss : List Span) → ss ≡ map behind_type (strls (avi_of b)) → why_named b ≡ None → StreamsEnd b ss
strls_end b ss same none =
    let a = avi_of b in
    let s = ((names_exact b).0 none).file in
    subst (StreamsEnd b) (sym same) (spans_end b (strls a) (strls_home b) (all_left Whole (strls a) (infos a) (all_right Whole (hdrls a) (strls a ++ infos a) s.lists_end)))

fewer : (p : Chunk → Bool) (xs : List Stood) → length (only p xs) ≤ length xs
fewer p [] = omega arith
fewer p (x ∷ xs) = go (p x.chunk) (fewer p xs)
  where
    go : (t : Bool) → length (only p xs) ≤ length xs → length (if t then x ∷ only p xs else only p xs) ≤ suc (length xs)
    go true le = omega arith
    go false le = omega arith

stood_count : (at : ℕ) (cs : List Chunk) → length (stood at cs) ≡ length cs
stood_count at [] = refl
stood_count at (c ∷ cs) = ap suc (stood_count (at + length (spell c)) cs)

kids_count : (xs : List Stood) → length (flat_map kids xs) ≡ count_kids xs
kids_count [] = refl
kids_count (x ∷ xs) = length-append (kids x) (flat_map kids xs) ∙ omega (arith, stood_count (x.at + 12) (list_run x.chunk).chunks, kids_count xs)

fewer_kids : (xs ys : List Stood) → count_kids xs ≤ count_kids (xs ++ ys)
fewer_kids [] ys = omega arith
fewer_kids (x ∷ xs) ys = omega (arith, fewer_kids xs ys)

pub strls_few : (b : List ℕ) (ss : List Span) → ss ≡ map behind_type (strls (avi_of b)) → why_named b ≡ None → length ss ≤ 65536
strls_few b ss same none =
    let a = avi_of b in
    let s = ((names_exact b).0 none).file in
    let count : length ss ≡ length (strls a) = ap length same ∙ length-map (strls a) behind_type in
    omega (arith, count, s.few_parts, fewer (is_type (codes "strl")) (flat_map kids (hdrls a)), kids_count (hdrls a), fewer_kids (hdrls a) (strls a ++ infos a))

-- ---- all fields

pub all_read : (b : List ℕ) (ps : List Part) (ss us : List Span) (old mid new : List Entry) → ps ≡ parts_of b → ss ≡ infos_of ps → us ≡ map behind_type (strls (avi_of b)) → old ≡ [] → Grows old mid (lists_held b ss)
    → Grows mid new (streams_held b 0 us) → (n : FieldName) → values new n ≡ all_fields b n
all_read b ps ss us old mid new parts lists streams none grown more n =
    more n
    ∙ ap (λ (vs : List Value). vs ++ streams_held b 0 us n) (grown n ∙ ap (λ (es : List Entry). values es n ++ lists_held b ss n) none)
    ∙ ap (λ (xs : List Span). lists_held b xs n ++ streams_held b 0 us n) (same_lists b ps ss parts lists)
    ∙ ap (λ (xs : List Span). lists_held b (map body_span (infos (avi_of b))) n ++ streams_held b 0 xs n) streams
    ∙ all_here b n

pub names_fail : (b : List ℕ) (fault : ReadFault) → IsNoWhy fault → ReadsFields b (Err fault)
names_fail b (Fault.Why w) h = h
names_fail b Fault.Depot h = tt
names_fail b Fault.Memory h = tt

-- ---- the names of one stream

pub each_by : (end bound : ℕ) (ss : List Span) → end ≤ bound → EndBy end ss → AllByRecursion (EndInside bound) ss
each_by end bound [] le all = tt
each_by end bound (s ∷ ss) le all = (let one : s.at + s.len ≤ bound = omega (arith, all.0) in one, each_by end bound ss le all.1)
