-- The tests of index chunks and entries, and that a file is supported exactly where no test holds.
use Rattle.std.proofs.Common.{◌≡◌, ℕ, suc, ◌+◌, ◌<◌, Bool, true, false, cond, eqb, ltb, List, [], ◌∷◌, ◌++◌, length, None, refl, subst, arith}
use Rattle.std.specs.Prelude.{◌||◌}
use Rattle.std.specs.List.{flat_map, AllByRecursion}
use Rattle.std.proofs.lemmas.Bool.{ltb-false, le-ltb, eqb-false, ne_eqb}
use Rattle.container_model.specs.Chunk.{spell_all}
use Rattle.container_model.specs.Stood.{stood}
use Rattle.part_tree.specs.declared.names.Span.{Span}
use Rattle.avi_model.specs.Avi.{forms, avi_of, hdrls, first_movi}
use Rattle.container_model.specs.Tables.{Table, named, size_at}
use Rattle.opendml_index.specs.Index.{is_super, entries, super_places, entry_offset, entry_length, index_base}
use Rattle.avi_model.specs.Index.{streams, indexes, base, olds, is_head, misses, spans}
use Rattle.avi_index.specs.Found.{is_based}
use Rattle.avi_index.specs.Checks.{rows_tests}
use Rattle.opendml_index.specs.Checks.{entries_tests}
use Rattle.avi_index.specs.Rows.{row_offset, row_length, Base, from_start, from_movi, old_rows}
use Rattle.part_tree.specs.Ranges.{within, in_one}
use Rattle.avi_model.specs.Support.{begins, movis, part_limit, parts, movi_spans, SoundPlace, by_place, Apart, entry_lies, SoundEntry, SoundEntries, SoundRow, SoundRows, Supported}
use Rattle.opendml_index.specs.Kinds.{SoundIndex, is_index_kind, is_standard_kind, has_header, has_entries}
use Rattle.avi_model.specs.Reading.{Step, end_at, form_steps, reading, parts_met}
use Rattle.avi_model.specs.Why.{Test, steps_tests, list_tests, sound_tests, place_tests, head_of, stream_tests, overlap_tests, refusals, standard_tests, base_tests, old_tests, tests, why}
use Rattle.avi_model.proofs.Among.{all_among, among_all}
use Rattle.avi_model.proofs.Sound.{all_left, all_right}
use Rattle.avi_model.proofs.Lists.{all_both}
use Rattle.avi_model.proofs.Sorted.{among_sorted, from_sorted}
use Rattle.container_model.proofs.Tests.{AllFalse, first_none, none_first}
use Rattle.avi_model.proofs.Whys.{flat_false, false_flat, not_is, is_not, guarded, guard, StepFine, steps_fine, fine_steps, parts_append, forms_from, from_forms, forms_count}

abbrev left_false : (a b : List Test) → AllFalse (a ++ b) → AllFalse a
left_false a b h = all_left (λ (t : Test). t.0 ≡ false) a b h

abbrev right_false : (a b : List Test) → AllFalse (a ++ b) → AllFalse b
right_false a b h = all_right (λ (t : Test). t.0 ≡ false) a b h

abbrev both_false : (a b : List Test) → AllFalse a → AllFalse b → AllFalse (a ++ b)
both_false a b h g = all_both (λ (t : Test). t.0 ≡ false) a b h g

abbrev entry_tests : List ℕ → ℕ → ℕ → ℕ → List (List ℕ) → List Test
entry_tests b at q k rs = refusals at (entries_tests (movi_spans (avi_of b)) (spans (indexes b)) q k rs)

abbrev row_tests : Span → List Table → ℕ → ℕ → List (List ℕ) → List Test
row_tests movi ts at k rs = refusals at (rows_tests movi (spans ts) k rs)

-- ---- index chunks

sound_from : (k : List ℕ → Bool) (at : ℕ) (body : List ℕ) → AllFalse (sound_tests k at body) → SoundIndex k body
sound_from k at body h = record { header_is_there = not_is (has_header body) h.0; kind_is = not_is (k body) h.1.0; entries_are_there = not_is (has_entries body) h.1.1.0 }

from_sound : (k : List ℕ → Bool) (at : ℕ) (body : List ℕ) → SoundIndex k body → AllFalse (sound_tests k at body)
from_sound k at body s = (is_not (has_header body) s.header_is_there, (is_not (k body) s.kind_is, (is_not (has_entries body) s.entries_are_there, tt)))

place_from : (b : List ℕ) (p : ℕ) → AllFalse (place_tests b p) → SoundPlace b p
place_from b p h = record { lies = not_is (in_one (movi_spans (avi_of b)) p (8 + size_at b p)) h.0; sound = sound_from is_standard_kind p (named b p).body h.1 }

from_place : (b : List ℕ) (p : ℕ) → SoundPlace b p → AllFalse (place_tests b p)
from_place b p s = (is_not (in_one (movi_spans (avi_of b)) p (8 + size_at b p)) s.lies, from_sound is_standard_kind p (named b p).body s.sound)

places_from : (b : List ℕ) (t : Table) → AllFalse (stream_tests b t) → is_super t.body ≡ true → AllByRecursion (SoundPlace b) (super_places t.body)
places_from b t h e =
    let more = right_false (sound_tests is_index_kind (head_of t) t.body) (cond (is_super t.body) (flat_map (place_tests b) (super_places t.body)) []) h in
    let all : AllFalse (flat_map (place_tests b) (super_places t.body)) = subst (λ (s : Bool). AllFalse (cond s (flat_map (place_tests b) (super_places t.body)) [])) e more in
    all_among (SoundPlace b) (super_places t.body) (λ p i. place_from b p (flat_false (place_tests b) (super_places t.body) all p i))

from_places : (b : List ℕ) (t : Table) → (is_super t.body ≡ true → AllByRecursion (SoundPlace b) (super_places t.body)) → AllFalse (cond (is_super t.body) (flat_map (place_tests b) (super_places t.body)) [])
from_places b t h = go (is_super t.body) h
  where
    go : (s : Bool) → (s ≡ true → AllByRecursion (SoundPlace b) (super_places t.body)) → AllFalse (cond s (flat_map (place_tests b) (super_places t.body)) [])
    go true g = false_flat (place_tests b) (super_places t.body) (λ p i. from_place b p (among_all (SoundPlace b) (super_places t.body) (g refl) p i))
    go false g = tt

apart_from : (from : ℕ) (ts : List Table) → AllFalse (overlap_tests from ts) → Apart from ts
apart_from from [] h = tt
apart_from from (t ∷ ts) h = (h.0, apart_from (t.at + length t.body) ts h.1)

from_apart : (from : ℕ) (ts : List Table) → Apart from ts → AllFalse (overlap_tests from ts)
from_apart from [] h = tt
from_apart from (t ∷ ts) h = (h.0, from_apart (t.at + length t.body) ts h.1)

-- ---- entries

entries_from : (b : List ℕ) (at q k : ℕ) (rs : List (List ℕ)) → AllFalse (entry_tests b at q k rs) → AllByRecursion (λ r. eqb (entry_length r) 0 ≡ false → SoundEntry b q r) rs
entries_from b at q k [] h = tt
entries_from b at q k (r ∷ rs) h = (
  (λ c. record { lies = guarded (eqb (entry_length r) 0) (entry_lies (avi_of b) q r) h.0 c; clear = guarded (eqb (entry_length r) 0) (misses (indexes b) (q + entry_offset r) (entry_length r)) h.1.0 c }),
  entries_from b at q (suc k) rs h.1.1,
)

from_entries : (b : List ℕ) (at q k : ℕ) (rs : List (List ℕ)) → AllByRecursion (λ r. eqb (entry_length r) 0 ≡ false → SoundEntry b q r) rs → AllFalse (entry_tests b at q k rs)
from_entries b at q k [] h = tt
from_entries b at q k (r ∷ rs) h = (
  guard (eqb (entry_length r) 0) (entry_lies (avi_of b) q r) (λ c. (h.0 c).lies),
  (guard (eqb (entry_length r) 0) (misses (indexes b) (q + entry_offset r) (entry_length r)) (λ c. (h.0 c).clear), from_entries b at q (suc k) rs h.1),
)

standard_from : (b : List ℕ) (t : Table) → AllFalse (standard_tests b t) → is_super t.body ≡ false → SoundEntries b t
standard_from b t h e = entries_from b (head_of t) (index_base t.body) 0 (entries t.body) (subst (λ (s : Bool). AllFalse (cond s [] (entry_tests b (head_of t) (index_base t.body) 0 (entries t.body)))) e h)

from_standard : (b : List ℕ) (t : Table) → (is_super t.body ≡ false → SoundEntries b t) → AllFalse (standard_tests b t)
from_standard b t h = go (is_super t.body) h
  where
    go : (s : Bool) → (s ≡ false → SoundEntries b t) → AllFalse (cond s [] (entry_tests b (head_of t) (index_base t.body) 0 (entries t.body)))
    go true g = tt
    go false g = from_entries b (head_of t) (index_base t.body) 0 (entries t.body) (g refl)

rows_from : (movi : Span) (ts : List Table) (at k : ℕ) (rs : List (List ℕ)) → AllFalse (row_tests movi ts at k rs) → AllByRecursion (λ r. eqb (row_length r) 0 ≡ false → SoundRow movi ts r) rs
rows_from movi ts at k [] h = tt
rows_from movi ts at k (r ∷ rs) h = (
  (λ c. record { lies = guarded (eqb (row_length r) 0) (within movi (row_offset r) (8 + row_length r)) h.0 c; clear = guarded (eqb (row_length r) 0) (is_head ts (row_offset r) || misses ts (row_offset r + 8) (row_length r)) h.1.0 c }),
  rows_from movi ts at (suc k) rs h.1.1,
)

from_rows : (movi : Span) (ts : List Table) (at k : ℕ) (rs : List (List ℕ)) → AllByRecursion (λ r. eqb (row_length r) 0 ≡ false → SoundRow movi ts r) rs → AllFalse (row_tests movi ts at k rs)
from_rows movi ts at k [] h = tt
from_rows movi ts at k (r ∷ rs) h = (
  guard (eqb (row_length r) 0) (within movi (row_offset r) (8 + row_length r)) (λ c. (h.0 c).lies),
  (guard (eqb (row_length r) 0) (is_head ts (row_offset r) || misses ts (row_offset r + 8) (row_length r)) (λ c. (h.0 c).clear), from_rows movi ts at (suc k) rs h.1),
)

old_from : (b : Base) (movi : Span) (ts : List Table) (t : Table) → AllFalse (old_tests b movi ts t) → SoundRows b movi ts t
old_from from_movi movi ts t h = tt
old_from from_start movi ts t h = rows_from movi ts (head_of t) 0 (old_rows t.body) h

from_old : (b : Base) (movi : Span) (ts : List Table) (t : Table) → SoundRows b movi ts t → AllFalse (old_tests b movi ts t)
from_old from_movi movi ts t h = tt
from_old from_start movi ts t h = from_rows movi ts (head_of t) 0 (old_rows t.body) h

some_there : (n : ℕ) → eqb n 0 ≡ false → 0 < n
some_there n e = omega (arith, eqb-false n 0 e)

there_some : (n : ℕ) → 0 < n → eqb n 0 ≡ false
there_some n h = ne_eqb n 0 (λ e. omega arith)

-- ---- a file

module _ (b : List ℕ) where
  abbrev forms_end : List Step
  forms_end = end_at (length (spell_all (forms b).chunks)) (forms b).stop ∷ []

  pub reading_count : parts_met (reading b) ≡ parts (avi_of b)
  reading_count = omega (arith, parts_append (form_steps (stood 0 (forms b).chunks)) forms_end, forms_count (forms b).chunks (forms b).left)

  abbrev old_all : List Test
  old_all = flat_map (old_tests (base b) (first_movi (avi_of b)) (indexes b)) (olds b)

  abbrev base_all : List Test
  base_all = flat_map (base_tests b) (olds b)

  abbrev standard_all : List Test
  standard_all = flat_map (standard_tests b) (by_place (indexes b))

  abbrev overlap_all : List Test
  overlap_all = overlap_tests 0 (by_place (indexes b))

  abbrev many_all : List Test
  many_all = (ltb part_limit (length (indexes b)), Rattle.part_tree.specs.declared.why.Why.TheVariants.TooManyParts) ∷ (overlap_all ++ (standard_all ++ (base_all ++ old_all)))

  abbrev stream_all : List Test
  stream_all = flat_map (stream_tests b) (streams b)

  pub supported_from : AllFalse (tests b) → Supported b
  supported_from h =
      let steps = left_false (steps_tests 0 (reading b)) (list_tests (avi_of b) ++ (stream_all ++ many_all)) h.1 in
      let one = right_false (steps_tests 0 (reading b)) (list_tests (avi_of b) ++ (stream_all ++ many_all)) h.1 in
      let lists = left_false (list_tests (avi_of b)) (stream_all ++ many_all) one in
      let two = right_false (list_tests (avi_of b)) (stream_all ++ many_all) one in
      let streams_ = left_false stream_all many_all two in
      let many = right_false stream_all many_all two in
      let overlap = left_false overlap_all (standard_all ++ (base_all ++ old_all)) many.1 in
      let three = right_false overlap_all (standard_all ++ (base_all ++ old_all)) many.1 in
      let standard_ = left_false standard_all (base_all ++ old_all) three in
      let four = right_false standard_all (base_all ++ old_all) three in
      let bases = left_false base_all old_all four in
      let olds_ = right_false base_all old_all four in
      let met = steps_fine 0 (reading b) steps in
      let fine = forms_from (forms b).chunks (forms b).left (all_left StepFine (form_steps (stood 0 (forms b).chunks)) forms_end met.0) in
      let last = all_right StepFine (form_steps (stood 0 (forms b).chunks)) forms_end met.0 in
      record {
        is_avi = not_is (begins b) h.0;
        forms_end = last.0;
        forms_long = fine.long;
        forms_read = fine.read_on;
        lists_end = fine.lists_end;
        few_parts = omega (arith, met.1 (omega arith), reading_count);
        lists_small = fine.small;
        some_hdrl = some_there (length (hdrls (avi_of b))) lists.0;
        some_movi = some_there (length (movis (avi_of b))) lists.1.0;
        streams_sound = all_among (λ t. SoundIndex is_index_kind t.body) (streams b) (λ t i. sound_from is_index_kind (head_of t) t.body (left_false (sound_tests is_index_kind (head_of t) t.body) (cond (is_super t.body) (flat_map (place_tests b) (super_places t.body)) []) (flat_false (stream_tests b) (streams b) streams_ t i)));
        places_sound = all_among (λ t. is_super t.body ≡ true → AllByRecursion (SoundPlace b) (super_places t.body)) (streams b) (λ t i. places_from b t (flat_false (stream_tests b) (streams b) streams_ t i));
        few_indexes = ltb-false part_limit (length (indexes b)) many.0;
        indexes_apart = apart_from 0 (by_place (indexes b)) overlap;
        entries_sound = all_among (λ t. is_super t.body ≡ false → SoundEntries b t) (indexes b) (λ t i. standard_from b t (flat_false (standard_tests b) (by_place (indexes b)) standard_ t (among_sorted t (indexes b) i)));
        based = all_among (λ t. is_based b (spans (indexes b)) (first_movi (avi_of b)) (old_rows t.body) ≡ true) (olds b) (λ t i. not_is (is_based b (spans (indexes b)) (first_movi (avi_of b)) (old_rows t.body)) (flat_false (base_tests b) (olds b) bases t i).0);
        rows_sound = all_among (SoundRows (base b) (first_movi (avi_of b)) (indexes b)) (olds b) (λ t i. old_from (base b) (first_movi (avi_of b)) (indexes b) t (flat_false (old_tests (base b) (first_movi (avi_of b)) (indexes b)) (olds b) olds_ t i));
      }

  pub from_supported : Supported b → AllFalse (tests b)
  from_supported s =
      let fine = from_forms (forms b).chunks (forms b).left (record { long = s.forms_long; read_on = s.forms_read; lists_end = s.lists_end; small = s.lists_small }) in
      let all = all_both StepFine (form_steps (stood 0 (forms b).chunks)) forms_end fine (s.forms_end, tt) in (
        is_not (begins b) s.is_avi,
        both_false (steps_tests 0 (reading b)) (list_tests (avi_of b) ++ (stream_all ++ many_all)) (fine_steps 0 (reading b) all (omega (arith, reading_count, s.few_parts)))
            (both_false (list_tests (avi_of b)) (stream_all ++ many_all) (there_some (length (hdrls (avi_of b))) s.some_hdrl, (there_some (length (movis (avi_of b))) s.some_movi, tt))
            (both_false stream_all many_all
            (false_flat (stream_tests b) (streams b)
            (λ t i. both_false (sound_tests is_index_kind (head_of t) t.body) (cond (is_super t.body) (flat_map (place_tests b) (super_places t.body)) []) (from_sound is_index_kind (head_of t) t.body (among_all (λ t. SoundIndex is_index_kind t.body) (streams b) s.streams_sound t i))
            (from_places b t (among_all (λ t. is_super t.body ≡ true → AllByRecursion (SoundPlace b) (super_places t.body)) (streams b) s.places_sound t i)))) (
              le-ltb part_limit (length (indexes b)) s.few_indexes,
              both_false overlap_all (standard_all ++ (base_all ++ old_all)) (from_apart 0 (by_place (indexes b)) s.indexes_apart)
                  (both_false standard_all (base_all ++ old_all)
                  (false_flat (standard_tests b) (by_place (indexes b)) (λ t i. from_standard b t (among_all (λ t. is_super t.body ≡ false → SoundEntries b t) (indexes b) s.entries_sound t (from_sorted t (indexes b) i))))
                  (both_false base_all old_all
                  (false_flat (base_tests b) (olds b) (λ t i. (is_not (is_based b (spans (indexes b)) (first_movi (avi_of b)) (old_rows t.body)) (among_all (λ t. is_based b (spans (indexes b)) (first_movi (avi_of b)) (old_rows t.body) ≡ true) (olds b) s.based t i), tt)))
                  (false_flat (old_tests (base b) (first_movi (avi_of b)) (indexes b)) (olds b) (λ t i. from_old (base b) (first_movi (avi_of b)) (indexes b) t (among_all (SoundRows (base b) (first_movi (avi_of b)) (indexes b)) (olds b) s.rows_sound t i))))),
            ))),
      )

-- A file is supported exactly where no test of the reading order holds.
pub exact : (b : List ℕ) → (why b ≡ None → Supported b) × (Supported b → why b ≡ None)
exact b = ((λ e. supported_from b (first_none (tests b) e)), (λ s. none_first (tests b) (from_supported b s)))
