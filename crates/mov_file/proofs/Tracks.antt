-- The tables of tracks that are kept are those that are told, and they hold the places of the chunks.
use Rattle.std.proofs.Common.{◌≡◌, ◌∙◌, ℕ, zero, suc, ◌+◌, ◌*◌, ◌≤◌, Bool, true, false, cond, ltb, List, [], ◌∷◌, ◌++◌, length, map, take, drop, get_or, set, refl, sym, ap, subst, arith, append_assoc, Option, Some, None, ◌⊎◌, inl, inr}
use Rattle.std.specs.Prelude.{codes, not, ◌&&◌, ◌||◌}
use Rattle.std.specs.Int.{w32, from_be_bytes}
use Rattle.std.specs.List.{AllByRecursion, flat_map}
use Rattle.std.specs.Str.{bytes_eq}
use Rattle.std.proofs.lemmas.Bool.{ltb-false, or_left, or_right}
use Rattle.std.proofs.lemmas.List.{append-nil}
use Rattle.std.proofs.lemmas.List.Concat.{flat_map-append}
use Rattle.part_tree.specs.declared.names.Span.{Span}
use Rattle.part_tree.specs.declared.shows.Track.{Track}
use Rattle.container_model.specs.Atoms.{is, is_listed}
use Rattle.container_model.specs.Chunk.{Chunk, Stop, spell, spell_all}
use Rattle.container_model.specs.Deep.{Leaf}
use Rattle.container_model.specs.Items.{is_nil, listed}
use Rattle.container_model.specs.Rows.{be32, be64}
use Rattle.container_model.specs.Tests.{or_else}
use Rattle.container_model.specs.Units.{solids}
use Rattle.container_model.specs.Walk.{Step, along, body_at, chunk_at, chunk_met, end_at, nested, walk, walk_at}
use Rattle.container_model.specs.Written.{slice}
use Rattle.container_model.proofs.Items.{same_refl, same_true}
use Rattle.container_model.proofs.Walk.{flat_flat, nested_leaves, walk_nested}
use Rattle.mov_model.specs.Atoms.{Place, dinf, file, format, is_padding, mdia, minf, moov, opens, stbl, trak, user_data}
use Rattle.mov_model.specs.Map.{Kid, TrackTables, body_span, first_span, span_or, table_at, tables_among, track_by, track_met}
use Rattle.mov_model.specs.Parts.{track_of}
use Rattle.mov_model.specs.Reading.{inside_steps, kid_steps, names, names_of, no_twice, once, row as steps}
use Rattle.mov_model.specs.Tables.{in_stbl, tables}
use Rattle.mov_model.specs.Why.{is_twice}
use Rattle.mov_model.proofs.Kids.{TrackOk}
use Rattle.mov_model.proofs.Steps.{InTrack, in_track, inner, inner_track, step_names, walk_kid}
use Rattle.qt_text.specs.User.{udta}
use Rattle.sample_tables.specs.Tables.{count, is_short_table, need, places, places_in, rows}
use Rattle.mov_file.specs.Carriers.{kid_at}
use Rattle.mov_file.specs.Chunks.{HasRows, places_of}
use Rattle.mov_file.specs.Track.{firsts, in_last, is_wide, last_from, no_tables, places_at, span_where, tables_after, tables_by, tables_met, track_from, with_table}
use Rattle.mov_file.specs.Whole.{HasPlaces, chunks_of}
use Rattle.mov_file.specs.declared.track.TablesAt.{TablesAt}
use Rattle.mov_file.proofs.Held.{Tell}
use Rattle.mov_file.proofs.Walks.{tables_both}
use Rattle.mov_file.proofs.Lies.{KidSits, Sits, StepSits, walk_sits}

-- ---- tables that are kept

last_of : (f : TablesAt → TablesAt) (ts : List TablesAt) (t u : TablesAt) → last_from f u (ts ++ t ∷ []) ≡ u ∷ ts ++ f t ∷ []
last_of f [] t u = refl
last_of f (v ∷ ts) t u = ap (λ (x : List TablesAt). u ∷ x) (last_of f ts t v)

last_changes : (f : TablesAt → TablesAt) (ts : List TablesAt) (t : TablesAt) → in_last f (ts ++ t ∷ []) ≡ ts ++ f t ∷ []
last_changes f [] t = refl
last_changes f (u ∷ ts) t = last_of f ts t u

last_set_from : (f : TablesAt → TablesAt) (t x : TablesAt) (ts : List TablesAt) → x ≡ get_or (t ∷ ts) (length ts) x → set (t ∷ ts) (length ts) (f x) ≡ last_from f t ts
last_set_from f t x [] is = ap (λ (y : TablesAt). f y ∷ []) is
last_set_from f t x (u ∷ ts) is = ap (λ (us : List TablesAt). t ∷ us) (last_set_from f u x ts is)

-- the last of some tracks is written
pub last_set : (f : TablesAt → TablesAt) (x : TablesAt) (k : ℕ) (ts : List TablesAt) → k + 1 ≡ length ts → x ≡ get_or ts k x → set ts k (f x) ≡ in_last f ts
last_set f x k [] e is = absurd (omega (arith, e))
last_set f x k (t ∷ ts) e is =
    let at : k ≡ length ts = omega (arith, e) in
    ap (λ (i : ℕ). set (t ∷ ts) i (f x)) at ∙ last_set_from f t x ts (is ∙ ap (λ (i : ℕ). get_or (t ∷ ts) i x) at)

-- the tables of one track with those that are met
one_after : TablesAt → List (Step Place) → TablesAt
one_after t [] = t
one_after t (chunk_at stbl at c ∷ ss) = one_after (with_table c.id (body_span at c) t) ss
one_after t (s ∷ ss) = one_after t ss

track_after : (ts : List TablesAt) (t : TablesAt) (ss : List (Step Place)) → AllByRecursion InTrack ss → tables_after (ts ++ t ∷ []) ss ≡ ts ++ one_after t ss ∷ []
unfolding one_after
track_after ts t [] i = refl
track_after ts t (chunk_at file at c ∷ ss) i = absurd (let no = i.0 in cc)
track_after ts t (chunk_at user_data at c ∷ ss) i = absurd (let no = i.0 in cc)
track_after ts t (chunk_at moov at c ∷ ss) i = absurd (let no = i.0 in cc)
track_after ts t (chunk_at trak at c ∷ ss) i = track_after ts t ss i.1
track_after ts t (chunk_at mdia at c ∷ ss) i = track_after ts t ss i.1
track_after ts t (chunk_at minf at c ∷ ss) i = track_after ts t ss i.1
track_after ts t (chunk_at stbl at c ∷ ss) i =
    ap (λ (x : List TablesAt). tables_after x ss) (last_changes (with_table c.id (body_span at c)) ts t) ∙ track_after ts (with_table c.id (body_span at c) t) ss i.1
track_after ts t (chunk_at dinf at c ∷ ss) i = track_after ts t ss i.1
track_after ts t (end_at p at stop ∷ ss) i = track_after ts t ss i.1

-- the first ones of each type behind those that were met
abbrev merged : TablesAt → List (Step Place) → TablesAt
merged t ss = record {
  narrow = or_else t.narrow (first_span (flat_map (table_at (codes "stco")) ss));
  wide = or_else t.wide (first_span (flat_map (table_at (codes "co64")) ss));
  runs = or_else t.runs (first_span (flat_map (table_at (codes "stsc")) ss));
  sizes = or_else t.sizes (first_span (flat_map (table_at (codes "stsz")) ss));
}

or_none : (o : Option Span) → or_else o None ≡ o
or_none None = refl
or_none (Some s) = refl

or_more : (o : Option Span) (is : Bool) (s : Span) (rest : List Span) → or_else (or_else o (span_where is s)) (first_span rest) ≡ or_else o (first_span (cond is (s ∷ []) [] ++ rest))
or_more None true s rest = refl
or_more None false s rest = refl
or_more (Some x) is s rest = refl

abbrev four_spans : Option Span → Option Span → Option Span → Option Span → TablesAt
four_spans a b c d = record { narrow = a; wide = b; runs = c; sizes = d }

same_four : (a b c d e f g h : Option Span) → a ≡ e → b ≡ f → c ≡ g → d ≡ h → four_spans a b c d ≡ four_spans e f g h
same_four a b c d e f g h i j k l = ap (λ (x : Option Span). four_spans x b c d) i ∙ ap (λ (x : Option Span). four_spans e x c d) j ∙ ap (λ (x : Option Span). four_spans e f x d) k ∙ ap (λ (x : Option Span). four_spans e f g x) l

one_merged : (t : TablesAt) (ss : List (Step Place)) → one_after t ss ≡ merged t ss
unfolding one_after
one_merged t [] = same_four _ _ _ _ _ _ _ _ (sym (or_none t.narrow)) (sym (or_none t.wide)) (sym (or_none t.runs)) (sym (or_none t.sizes))
one_merged t (chunk_at file at c ∷ ss) = one_merged t ss
one_merged t (chunk_at user_data at c ∷ ss) = one_merged t ss
one_merged t (chunk_at moov at c ∷ ss) = one_merged t ss
one_merged t (chunk_at trak at c ∷ ss) = one_merged t ss
one_merged t (chunk_at mdia at c ∷ ss) = one_merged t ss
one_merged t (chunk_at minf at c ∷ ss) = one_merged t ss
one_merged t (chunk_at dinf at c ∷ ss) = one_merged t ss
one_merged t (end_at p at stop ∷ ss) = one_merged t ss
one_merged t (chunk_at stbl at c ∷ ss) =
    let s = body_span at c in
    one_merged (with_table c.id s t) ss
    ∙ same_four _ _ _ _ _ _ _ _ (or_more t.narrow (bytes_eq c.id (codes "stco")) s (flat_map (table_at (codes "stco")) ss)) (or_more t.wide (bytes_eq c.id (codes "co64")) s (flat_map (table_at (codes "co64")) ss))
    (or_more t.runs (bytes_eq c.id (codes "stsc")) s (flat_map (table_at (codes "stsc")) ss)) (or_more t.sizes (bytes_eq c.id (codes "stsz")) s (flat_map (table_at (codes "stsz")) ss))

-- ---- the tables of all tracks

no_user_tables : (ts : List TablesAt) (at : ℕ) (cs : List Chunk) (q : ℕ) (stop : Stop) → tables_after ts (steps user_data at cs ++ end_at user_data q stop ∷ []) ≡ ts
no_user_tables ts at [] q stop = refl
no_user_tables ts at (c ∷ cs) q stop = no_user_tables ts (at + length (spell c)) cs q stop

kid_tables : (u : Bool) (at : ℕ) (c : Chunk) (ts : List TablesAt) → (u ≡ true → is c (codes "trak") ≡ false) → tables_after ts (kid_steps u at c) ≡ ts ++ map firsts (track_met (record { at = at; atom = c }))
kid_tables true at c ts user =
    let no = user refl in
    ap (λ (t : Bool). tables_after (cond t (ts ++ no_tables ∷ []) ts) (steps user_data (body_at at c) (udta.opening c).chunks ++ end_at user_data (body_at at c + length (spell_all (udta.opening c).chunks)) (udta.opening c).stop ∷ [])) no
    ∙ no_user_tables ts (body_at at c) (udta.opening c).chunks (body_at at c + length (spell_all (udta.opening c).chunks)) (udta.opening c).stop
    ∙ sym (append-nil ts) ∙ ap (λ (t : Bool). ts ++ map firsts (cond t (tables_among (walk format 5 moov at c) ∷ []) [])) (sym no)
kid_tables false at c ts user = ap (tables_after ts) (walk_kid at c) ∙ go (is c (codes "trak")) refl
  where
    closed : (t : Bool) → is c (codes "trak") ≡ t → t ≡ false → inner at c ≡ []
    closed t e f = ap (λ (u : Bool). walk_at format (walk format 4) at c (Rattle.mov_model.specs.Atoms.when u trak)) (e ∙ f)

    go : (t : Bool) → is c (codes "trak") ≡ t → tables_after (cond t (ts ++ no_tables ∷ []) ts) (inner at c) ≡ ts ++ map firsts (cond t (tables_among (walk format 5 moov at c) ∷ []) [])
    go true e =
        track_after ts no_tables (inner at c) (inner_track at c)
        ∙ ap (λ (t : TablesAt). ts ++ t ∷ []) (one_merged no_tables (inner at c)) ∙ ap (λ (ss : List (Step Place)). ts ++ firsts (tables_among ss) ∷ []) (sym (walk_kid at c))
    go false e = ap (tables_after ts) (closed false e refl) ∙ sym (append-nil ts)

user_no_track : (c : Chunk) → udta.is c ≡ true → is c (codes "trak") ≡ false
user_no_track c e = ap (λ (x : List ℕ). bytes_eq x (codes "trak")) (same_true c.id (codes "udta") e)

first_user : (seen : Bool) (c : Chunk) → (not seen && udta.is c) ≡ true → udta.is c ≡ true
first_user true c e = absurd cc
first_user false c e = e

pub inside_tables : (seen : Bool) (at : ℕ) (cs : List Chunk) (ts : List TablesAt) → tables_after ts (inside_steps seen at cs) ≡ ts ++ map firsts (flat_map track_met (along kid_at at cs))
inside_tables seen at [] ts = sym (append-nil ts)
inside_tables seen at (c ∷ cs) ts =
    let u = not seen && udta.is c in
    let next = at + length (spell c) in
    let here = map firsts (track_met (record { at = at; atom = c })) in
    tables_both ts (kid_steps u at c) (inside_steps (seen || udta.is c) next cs)
    ∙ ap (λ (x : List TablesAt). tables_after x (inside_steps (seen || udta.is c) next cs)) (kid_tables u at c ts (λ e. user_no_track c (first_user seen c e)))
    ∙ inside_tables (seen || udta.is c) next cs (ts ++ here)
    ∙ append_assoc ts here (map firsts (flat_map track_met (along kid_at next cs)))
    ∙ ap (λ (x : List TablesAt). ts ++ x) (sym (Rattle.std.proofs.lemmas.List.map-append firsts (track_met (record { at = at; atom = c })) (flat_map track_met (along kid_at next cs))))

pub file_tables : (at : ℕ) (cs : List Chunk) (ts : List TablesAt) (more : List (Step Place)) → tables_after ts (steps file at cs ++ more) ≡ tables_after ts more
file_tables at [] ts more = refl
file_tables at (c ∷ cs) ts more = file_tables (at + length (spell c)) cs ts more

-- ---- a track as it is told

abbrev track_of_four : Span → Bool → Option Span → Option Span → Track
track_of_four s w r z = record { chunks = s; wide = w; stsc = r; stsz = z }

pub track_told : (t : TrackTables) → track_from (firsts t) ≡ track_by t
track_told t = ap (λ (s : Span). track_of_four s (is_wide (first_span t.narrow) (first_span t.wide)) (first_span t.runs) (first_span t.sizes)) (chunks t.narrow t.wide)
    ∙ ap (λ (w : Bool). track_of_four (span_or (t.narrow ++ t.wide)) w (first_span t.runs) (first_span t.sizes)) (wide t.narrow t.wide)
  where
    chunks : (n w : List Span) → places_at (first_span n) (first_span w) ≡ span_or (n ++ w)
    chunks [] [] = refl
    chunks [] (s ∷ w) = refl
    chunks (s ∷ n) w = refl

    wide : (n w : List Span) → is_wide (first_span n) (first_span w) ≡ (is_nil n && not (is_nil w))
    wide [] [] = refl
    wide [] (s ∷ w) = refl
    wide (s ∷ n) w = refl

pub tracks_told : (ts : List TrackTables) → map track_from (map firsts ts) ≡ map track_by ts
tracks_told [] = refl
tracks_told (t ∷ ts) = ap (λ (u : Track). u ∷ map track_from (map firsts ts)) (track_told t) ∙ ap (λ (us : List Track). track_by t ∷ us) (tracks_told ts)

-- ---- the places in a track's tables

-- a table in stbl
abbrev stbl_chunk : Step Place → List Chunk
stbl_chunk (chunk_at p at c) = in_stbl p c
stbl_chunk (end_at p at stop) = []

-- tables that are long enough for their rows
abbrev StepLong : Step Place → Type 0
StepLong s = AllByRecursion (λ c. is_short_table c ≡ false) (stbl_chunk s)

-- no table of places
abbrev NoPlaces : Step Place → Type 0
NoPlaces s = AllByRecursion (λ c. (is c (codes "stco") ≡ false) × (is c (codes "co64") ≡ false)) (stbl_chunk s)

once_less : (o : Option (List ℕ)) (seen rest : List (List ℕ)) → no_twice seen (listed o ++ rest) ≡ true → (is_twice o seen ≡ false) × (no_twice (listed o ++ seen) rest ≡ true)
once_less None seen rest h = (refl, h)
once_less (Some x) seen rest h = go (is_listed x seen) h
  where
    go : (t : Bool) → (not t && no_twice (x ∷ seen) rest) ≡ true → (t ≡ false) × (no_twice (x ∷ seen) rest ≡ true)
    go true h = absurd cc
    go false h = (refl, h)

-- both tables of places have this name
place_name : (c : Chunk) (t u : Bool) → is c (codes "stco") ≡ t → is c (codes "co64") ≡ u → (t || u) ≡ true → once stbl c.id ≡ Some (codes "stco")
place_name c t true e f y = rw f refl
place_name c true false e f y = ap (once stbl) (same_true c.id (codes "stco") e)
place_name c false false e f y = absurd cc

still_seen : (o : Option (List ℕ)) (seen : List (List ℕ)) → is_listed (codes "stco") seen ≡ true → is_listed (codes "stco") (listed o ++ seen) ≡ true
still_seen None seen h = h
still_seen (Some x) seen h = or_right (bytes_eq x (codes "stco")) (is_listed (codes "stco") seen) h

none_more : (ss : List (Step Place)) (seen : List (List ℕ)) → is_listed (codes "stco") seen ≡ true → no_twice seen (step_names ss) ≡ true → AllByRecursion NoPlaces ss
none_more [] seen h n = tt
none_more (end_at p at stop ∷ ss) seen h n = (tt, none_more ss seen h n)
none_more (chunk_at p at c ∷ ss) seen h n =
    let l = once_less (once p c.id) seen (step_names ss) n in
    (here p l.0, none_more ss (listed (once p c.id) ++ seen) (still_seen (once p c.id) seen h) l.1)
  where
    other : (t u : Bool) → is c (codes "stco") ≡ t → is c (codes "co64") ≡ u → is_twice (once stbl c.id) seen ≡ false → (t ≡ false) × (u ≡ false)
    other false false e f g = (refl, refl)
    other true u e f g = let is : once stbl c.id ≡ Some (codes "stco") = place_name c true u e f refl in let no : is_listed (codes "stco") seen ≡ false = sym (ap (λ (o : Option (List ℕ)). is_twice o seen) is) ∙ g in absurd cc
    other false true e f g = let is : once stbl c.id ≡ Some (codes "stco") = place_name c false true e f refl in let no : is_listed (codes "stco") seen ≡ false = sym (ap (λ (o : Option (List ℕ)). is_twice o seen) is) ∙ g in absurd cc

    here : (p : Place) → is_twice (once p c.id) seen ≡ false → NoPlaces (chunk_at p at c)
    here file g = tt
    here user_data g = tt
    here moov g = tt
    here trak g = tt
    here mdia g = tt
    here minf g = tt
    here stbl g = (other (is c (codes "stco")) (is c (codes "co64")) refl refl g, tt)
    here dinf g = tt

abbrev narrow_in : List (Step Place) → List Span
narrow_in ss = flat_map (table_at (codes "stco")) ss

abbrev wide_in : List (Step Place) → List Span
wide_in ss = flat_map (table_at (codes "co64")) ss

abbrev places_met : List (Step Place) → List ℕ
places_met ss = places (flat_map stbl_chunk ss)

record NoneMet (ss : List (Step Place)) : Type 0 where
  narrow : narrow_in ss ≡ []
  wide : wide_in ss ≡ []
  places_none : places_met ss ≡ []

none_met : (ss : List (Step Place)) → AllByRecursion NoPlaces ss → NoneMet ss
none_met [] h = record { narrow = refl; wide = refl; places_none = refl }
none_met (end_at p at stop ∷ ss) h = let r = none_met ss h.1 in record { narrow = r.narrow; wide = r.wide; places_none = r.places_none }
none_met (chunk_at p at c ∷ ss) h = go p h.0 (none_met ss h.1)
  where
    go : (p : Place) → NoPlaces (chunk_at p at c) → NoneMet ss → NoneMet (chunk_at p at c ∷ ss)
    go file n r = record { narrow = r.narrow; wide = r.wide; places_none = r.places_none }
    go user_data n r = record { narrow = r.narrow; wide = r.wide; places_none = r.places_none }
    go moov n r = record { narrow = r.narrow; wide = r.wide; places_none = r.places_none }
    go trak n r = record { narrow = r.narrow; wide = r.wide; places_none = r.places_none }
    go mdia n r = record { narrow = r.narrow; wide = r.wide; places_none = r.places_none }
    go minf n r = record { narrow = r.narrow; wide = r.wide; places_none = r.places_none }
    go dinf n r = record { narrow = r.narrow; wide = r.wide; places_none = r.places_none }
    go stbl n r = record {
      narrow = rw n.0.0 r.narrow;
      wide = rw n.0.1 r.wide;
      places_none = rw (n.0.0, n.0.1) r.places_none;
    }

-- what is told of the table of places: the places, and that its rows are there
record Placed (b : List ℕ) (narrow wide : List Span) (ps : List ℕ) : Type 0 where
  told : ps ≡ places_of (is_wide (first_span narrow) (first_span wide)) (slice b (places_at (first_span narrow) (first_span wide)).at (places_at (first_span narrow) (first_span wide)).len)
  rows_there : ((places_at (first_span narrow) (first_span wide)).len ≡ 0) ⊎ HasRows (is_wide (first_span narrow) (first_span wide)) (slice b (places_at (first_span narrow) (first_span wide)).at (places_at (first_span narrow) (first_span wide)).len)

none_placed : (b : List ℕ) → Placed b [] [] []
none_placed b = record { told = refl; rows_there = inl refl }

narrow_placed : (b : List ℕ) (at : ℕ) (c : Chunk) → Sits b at c → is c (codes "stco") ≡ true → is_short_table c ≡ false → Placed b (body_span at c ∷ []) [] (places_in c)
narrow_placed b at c sits is long = record {
  told = rw is (ap (places_of false) sits.body);
  rows_there = inr (subst (HasRows false) sits.body (ltb-false (length c.body) (8 + 4 * count c) (rw is at long)));
}

wide_placed : (b : List ℕ) (at : ℕ) (c : Chunk) → Sits b at c → is c (codes "stco") ≡ false → is c (codes "co64") ≡ true → is_short_table c ≡ false → Placed b [] (body_span at c ∷ []) (places_in c)
wide_placed b at c sits other is long = record {
  told = rw (other, is) (ap (places_of true) sits.body);
  rows_there = inr (subst (HasRows true) sits.body (ltb-false (length c.body) (8 + 8 * count c) (rw (other, is) at long)));
}

co64_no_stco : (c : Chunk) → is c (codes "stco") ≡ true → is c (codes "co64") ≡ false
co64_no_stco c e = ap (λ (x : List ℕ). bytes_eq x (codes "co64")) (same_true c.id (codes "stco") e)

all_placed : (b : List ℕ) (ss : List (Step Place)) (seen : List (List ℕ)) → no_twice seen (step_names ss) ≡ true → AllByRecursion (StepSits b) ss → AllByRecursion StepLong ss → Placed b (narrow_in ss) (wide_in ss) (places_met ss)
all_placed b [] seen n s l = none_placed b
all_placed b (end_at p at stop ∷ ss) seen n s l = all_placed b ss seen n s.1 l.1
all_placed b (chunk_at p at c ∷ ss) seen n s l =
    let o = once_less (once p c.id) seen (step_names ss) n in
    go p o.1 l.0 (all_placed b ss (listed (once p c.id) ++ seen) o.1 s.1 l.1)
  where
    one : (names : List (List ℕ)) → is_listed (codes "stco") (listed (Some (codes "stco")) ++ names) ≡ true
    one names = or_left (bytes_eq (codes "stco") (codes "stco")) (is_listed (codes "stco") names) refl

    table : (t u : Bool) → is c (codes "stco") ≡ t → is c (codes "co64") ≡ u → no_twice (listed (once stbl c.id) ++ seen) (step_names ss) ≡ true → is_short_table c ≡ false
        → Placed b (narrow_in ss) (wide_in ss) (places_met ss) → Placed b (cond t (body_span at c ∷ []) [] ++ narrow_in ss) (cond u (body_span at c ∷ []) [] ++ wide_in ss) (places_in c ++ places_met ss)
    table true u e f m long again =
        let named = place_name c true u e f refl in
        let r = none_met ss (none_more ss (listed (once stbl c.id) ++ seen) (rw named (one seen)) m) in
        let no : u ≡ false = sym f ∙ co64_no_stco c e in
        rw (r.narrow, r.wide, r.places_none, no, append-nil (places_in c)) (narrow_placed b at c s.0 e long)
    table false true e f m long again =
        let named = place_name c false true e f refl in
        let r = none_met ss (none_more ss (listed (once stbl c.id) ++ seen) (rw named (one seen)) m) in
        rw (r.narrow, r.wide, r.places_none, append-nil (places_in c)) (wide_placed b at c s.0 e f long)
    table false false e f m long again = rw (e, f) again

    go : (p : Place) → no_twice (listed (once p c.id) ++ seen) (step_names ss) ≡ true → StepLong (chunk_at p at c) → Placed b (narrow_in ss) (wide_in ss) (places_met ss) → Placed b (narrow_in (chunk_at p at c ∷ ss)) (wide_in (chunk_at p at c ∷ ss)) (places_met (chunk_at p at c ∷ ss))
    go file m long again = again
    go user_data m long again = again
    go moov m long again = again
    go trak m long again = again
    go mdia m long again = again
    go minf m long again = again
    go dinf m long again = again
    go stbl m long again = table (is c (codes "stco")) (is c (codes "co64")) refl refl m long.0 again

-- ---- one track

stbl_closed : (p q : Place) (c : Chunk) → opens p c.id (take 4 c.body) ≡ Some q → in_stbl p c ≡ []
stbl_closed file q c e = refl
stbl_closed user_data q c e = refl
stbl_closed moov q c e = refl
stbl_closed trak q c e = refl
stbl_closed mdia q c e = refl
stbl_closed minf q c e = refl
stbl_closed stbl q c e = absurd cc
stbl_closed dinf q c e = refl

met_chunks : (ss : List (Step Place)) → flat_map stbl_chunk ss ≡ flat_map (λ (l : Leaf Place). in_stbl l.place l.chunk) (flat_map chunk_met ss)
met_chunks [] = refl
met_chunks (chunk_at p at c ∷ ss) = ap (λ (cs : List Chunk). in_stbl p c ++ cs) (met_chunks ss)
met_chunks (end_at p at stop ∷ ss) = met_chunks ss

walk_tables : (at : ℕ) (t : Chunk) → flat_map stbl_chunk (walk format 5 moov at t) ≡ tables t
walk_tables at t = met_chunks (walk format 5 moov at t) ∙ ap (flat_map (λ (l : Leaf Place). in_stbl l.place l.chunk)) (walk_nested format 5 moov at t) ∙ nested_leaves format in_stbl stbl_closed 5 moov t

long_steps : (ss : List (Step Place)) → AllByRecursion (λ c. is_short_table c ≡ false) (flat_map stbl_chunk ss) → AllByRecursion StepLong ss
long_steps [] h = tt
long_steps (s ∷ ss) h = let p = Rattle.container_model.proofs.Walk.all_parts (λ c. is_short_table c ≡ false) (stbl_chunk s) (flat_map stbl_chunk ss) h in (p.0, long_steps ss p.1)

track_placed : (b : List ℕ) (at : ℕ) (t : Chunk) → Sits b at t → TrackOk t → Placed b (narrow_in (walk format 5 moov at t)) (wide_in (walk format 5 moov at t)) (places (tables t))
track_placed b at t sits ok =
    let ss = walk format 5 moov at t in
    let once_only : no_twice [] (step_names ss) ≡ true = ap (λ (ls : List (Leaf Place)). no_twice [] (flat_map names_of ls)) (walk_nested format 5 moov at t) ∙ ok.once in
    let long : AllByRecursion (λ c. is_short_table c ≡ false) (flat_map stbl_chunk ss) = subst (AllByRecursion (λ c. is_short_table c ≡ false)) (sym (walk_tables at t)) ok.long_tables in
    subst (λ (cs : List Chunk). Placed b (narrow_in ss) (wide_in ss) (places cs)) (walk_tables at t) (all_placed b ss [] once_only (walk_sits b 5 moov at t sits) (long_steps ss long))

-- ---- all tracks

strip_same : (c : Chunk) → c.pad ≡ [] → record c { pad = [] } ≡ c
strip_same c e = ap (λ (x : List ℕ). record c { pad = x }) (sym e)

-- the tracks of moov, as they are told
pub record TracksTold (b : List ℕ) (ts : List Chunk) (us : List Track) : Type 0 where
  pub tell : Tell b ts us
  pub rows_there : AllByRecursion (HasPlaces b) us

track_padding : (c : Chunk) → is c (codes "trak") ≡ true → is_padding c.id ≡ false
track_padding c e = ap is_padding (same_true c.id (codes "trak") e)

pub tracks_tell : (b : List ℕ) (at : ℕ) (cs : List Chunk) → AllByRecursion (KidSits b) (along kid_at at cs) → AllByRecursion TrackOk (flat_map track_of (solids is_padding cs))
    → TracksTold b (flat_map track_of (solids is_padding cs)) (map track_by (flat_map track_met (along kid_at at cs)))
tracks_tell b at [] k ok = record { tell = tt; rows_there = tt }
tracks_tell b at (c ∷ cs) k ok = go (is c (codes "trak")) (is_padding c.id) refl refl ok (tracks_tell b (at + length (spell c)) cs k.1)
  where
    next : ℕ
    next = at + length (spell c)

    rest : List Chunk
    rest = flat_map track_of (solids is_padding cs)

    told : List Track
    told = map track_by (flat_map track_met (along kid_at next cs))

    go : (t q : Bool) → is c (codes "trak") ≡ t → is_padding c.id ≡ q → AllByRecursion TrackOk (flat_map track_of (cond q [] (record c { pad = [] } ∷ []) ++ solids is_padding cs))
        → (AllByRecursion TrackOk rest → TracksTold b rest told)
        → TracksTold b (flat_map track_of (cond q [] (record c { pad = [] } ∷ []) ++ solids is_padding cs)) (map track_by (cond t (tables_among (walk format 5 moov at c) ∷ []) [] ++ flat_map track_met (along kid_at next cs)))
    go true true e f ok again = absurd (let no = track_padding c e in cc)
    go false true e f ok again = again ok
    go false false e f ok again = rw e (again (rw e at ok))
    go true false e f ok again =
        let oks : AllByRecursion TrackOk (record c { pad = [] } ∷ rest) = rw e at ok in
        let here : TrackOk c = subst TrackOk (strip_same c k.0.pad) oks.0 in
        let p = track_placed b at c k.0 here in
        let r = again oks.1 in
        let u = track_told (tables_among (walk format 5 moov at c)) in
        rw e (record {
          tell = (ap (λ (x : Chunk). places (tables x)) (strip_same c k.0.pad) ∙ p.told ∙ ap (chunks_of b) u, r.tell);
          rows_there = (subst (HasPlaces b) u p.rows_there, r.rows_there);
        })
