-- The stages of reading a file: where ranges stand, and the tests of one stage behind another.
use Rattle.std.proofs.Common.{◌≡◌, ◌∙◌, ℕ, ◌+◌, ◌-◌, ◌<◌, ◌≤◌, ◌^◌, Bool, true, false, List, [], ◌∷◌, ◌++◌, length, map, refl, sym, ap, subst, arith, append_assoc}
use Rattle.std.specs.Prelude.{if◌then◌else◌, filter, not, nat_lt, Option, Some, None, Result}
use Rattle.std.specs.declared.result.Result.TheVariants.{Ok, Err}
use Rattle.std.specs.List.{flat_map, AllByRecursion}
use Rattle.part_tree.specs.declared.names.Span.{Span}
use Rattle.part_tree.specs.declared.part.Part.{Part}
use Rattle.part_tree.specs.declared.why.Why.{Why}
use Rattle.part_tree.specs.declared.why.Why.TheVariants.{TooManyParts, UnknownKind}
use Rattle.part_tree.specs.declared.why.ReadFault.{ReadFault}
use Rattle.part_tree.specs.declared.why.ReadFault.TheVariants as Fault
use Rattle.part_tree.specs.Ranges.{Ascends}
use Rattle.container_model.specs.Tests.{first, or_else}
use Rattle.opendml_index.specs.Checks.{EndInside}
use Rattle.avi_model.specs.Avi.{avi_of}
use Rattle.avi_model.specs.Index.{indexes, spans, streams}
use Rattle.avi_model.specs.Map.{counted_entries, essence_spans, parts_of, standards}
use Rattle.avi_model.specs.Reading.{named_reading}
use Rattle.avi_model.specs.Support.{begins, by_place, part_limit}
use Rattle.avi_model.specs.Why.{Test, list_tests, overlap_tests, standard_tests, steps_tests, stream_tests, tests_of, why_named}
use Rattle.avi_file.specs.declared.index.IndexChunk.{IndexChunk}
use Rattle.avi_file.specs.declared.tables.Placed.{Placed}
use Rattle.avi_file.specs.declared.map.OldIndex.{OldIndex}
use Rattle.avi_file.specs.Entries.{CountsChunks, chunk_count, chunk_tests}
use Rattle.avi_file.specs.Forms.{AreForms, front_tests}
use Rattle.avi_file.specs.Indexes.{AreSound, IsSoundChunk, kept_of}
use Rattle.avi_file.specs.Map.{IsBody, TellsOld, old_entries}
use Rattle.avi_file.specs.Order.{Orders, bodies_in}
use Rattle.avi_file.specs.Tables.{AreCounted, ArePlacedIndexes, AreTables, CountsEntries, FindsIndexes, FindsOld, IsFront, PlacesIndexes, ReadsTables, counted_in, entry_tests, index_tests, olds_tests, place_tests, table_tests}
use Rattle.avi_file.specs.Walk.{AllFit, Ascend, Fits, chosen}
use Rattle.avi_file.proofs.Left.{first_append}
use Rattle.avi_file.proofs.Tabled.{all_named, all_placed, same_bodies, standards_counted, standards_tested, told_count}

-- ---- where ranges stand

pub spans_fit : (test : Part → Bool) (end : ℕ) (ps : List Part) → AllFit end ps → AllByRecursion (λ s. (8 ≤ s.at) × (s.at + s.len ≤ end)) (chosen test ps)
spans_fit test end [] all = tt
spans_fit test end (p ∷ ps) all = go (test p) (spans_fit test end ps all.1)
  where
    fit : Fits end p
    fit = all.0

    go : (t : Bool) → AllByRecursion (λ s. (8 ≤ s.at) × (s.at + s.len ≤ end)) (chosen test ps) → AllByRecursion (λ s. (8 ≤ s.at) × (s.at + s.len ≤ end)) (if t then p.body ∷ chosen test ps else chosen test ps)
    go true more = (let inside : p.body.at + p.body.len ≤ end = omega (arith, fit.1, fit.2) in (fit.0, inside), more)
    go false more = more

pub each_least : (end : ℕ) (ss : List Span) → AllByRecursion (λ s. (8 ≤ s.at) × (s.at + s.len ≤ end)) ss → AllByRecursion (λ s. 8 ≤ s.at) ss
each_least end [] all = tt
each_least end (s ∷ ss) all = (all.0.0, each_least end ss all.1)

pub each_end : (end bound : ℕ) (ss : List Span) → end ≤ bound → AllByRecursion (λ s. (8 ≤ s.at) × (s.at + s.len ≤ end)) ss → AllByRecursion (EndInside bound) ss
each_end end bound [] le all = tt
each_end end bound (s ∷ ss) le all = (let one : s.at + s.len ≤ bound = omega (arith, all.0.1) in one, each_end end bound ss le all.1)

pub ascends : (low end : ℕ) (ss : List Span) → Ascend low ss end → Ascends low ss
ascends low end [] up = tt
ascends low end (s ∷ ss) up = (up.0, ascends (s.at + s.len) end ss up.1)

-- ---- one stage behind another

pub then_none : (a b : List Test) → first a ≡ None → first (a ++ b) ≡ first b
then_none a b e = first_append a b ∙ ap (λ (o : Option Why). or_else o (first b)) e

pub then_some : (a b : List Test) (w : Why) → first a ≡ Some w → first (a ++ b) ≡ Some w
then_some a b w e = first_append a b ∙ ap (λ (o : Option Why). or_else o (first b)) e

-- ---- the index chunks by place

pub find_fails : (b : List ℕ) (fault : ReadFault) → FindsIndexes b (Err fault) → PlacesIndexes b (Err fault)
find_fails b (Fault.Why w) h = then_some (index_tests b) (overlap_tests 0 (by_place (indexes b))) w h
find_fails b Fault.Depot h = tt
find_fails b Fault.Memory h = tt

pub order_fails : (b : List ℕ) (fault : ReadFault) → first (index_tests b) ≡ None → Orders (indexes b) (Err fault) → PlacesIndexes b (Err fault)
order_fails b (Fault.Why w) none h = then_none (index_tests b) (overlap_tests 0 (by_place (indexes b))) none ∙ h
order_fails b Fault.Depot none h = absurd h
order_fails b Fault.Memory none h = tt

pub indexes_placed : (b : List ℕ) (p : Placed) → first (index_tests b) ≡ None → p.chunks.items ≡ map kept_of (indexes b) → Orders (indexes b) (Ok p.sorted) → p.bodies.items ≡ bodies_in p.sorted.items → ArePlacedIndexes b p
indexes_placed b p none chunks order bodies = record {
  tests = then_none (index_tests b) (overlap_tests 0 (by_place (indexes b))) none ∙ order.0;
  chunks = chunks;
  sorted_are = order.1;
  bodies = bodies ∙ ap bodies_in order.1 ∙ same_bodies (by_place (indexes b));
}

-- ---- entries

module _ (b : List ℕ) (p : Placed) (movis : List Span) (is : ArePlacedIndexes b p) (same : movis ≡ essence_spans b) where
  sorted_tests : flat_map (chunk_tests movis p.bodies.items b) p.sorted.items ≡ flat_map (standard_tests b) (by_place (indexes b))
  sorted_tests =
      ap (λ (ss : List Span). flat_map (chunk_tests ss p.bodies.items b) p.sorted.items) same
      ∙ ap (λ (ss : List Span). flat_map (chunk_tests (essence_spans b) ss b) p.sorted.items) is.bodies
      ∙ ap (λ (xs : List IndexChunk). flat_map (chunk_tests (essence_spans b) (spans (by_place (indexes b))) b) xs) is.sorted_are
      ∙ standards_tested b (by_place (indexes b)) (all_placed _ (indexes b) (all_named b))

  pub standards_fail : (fault : ReadFault) → CountsChunks movis p.bodies.items b p.sorted.items (Err fault) → CountsEntries b (Err fault)
  standards_fail (Fault.Why w) h = then_some (flat_map (standard_tests b) (by_place (indexes b))) (olds_tests b) w (sym (ap first sorted_tests) ∙ h)
  standards_fail Fault.Depot h = tt
  standards_fail Fault.Memory h = tt

  pub old_fails : (n : ℕ) (fault : ReadFault) → CountsChunks movis p.bodies.items b p.sorted.items (Ok n) → FindsOld b (Err fault) → CountsEntries b (Err fault)
  old_fails n (Fault.Why w) one h = then_none (flat_map (standard_tests b) (by_place (indexes b))) (olds_tests b) (sym (ap first sorted_tests) ∙ one.0) ∙ h
  old_fails n Fault.Depot one h = tt
  old_fails n Fault.Memory one h = tt

  pub all_counted : (n m : ℕ) (old : Option OldIndex) → CountsChunks movis p.bodies.items b p.sorted.items (Ok n) → FindsOld b (Ok old) → m ≡ n + counted_in old → AreCounted b (record { idx1 = old; entries = m })
  all_counted n m old one h sum = record {
    tests = then_none (flat_map (standard_tests b) (by_place (indexes b))) (olds_tests b) (sym (ap first sorted_tests) ∙ one.0) ∙ h.0;
    idx1 = h.1;
    entries =
        let standard : n ≡ Rattle.avi_model.specs.Map.count_standards (standards b) = one.1 ∙ ap (Rattle.std.specs.List.sum_by (chunk_count b)) is.sorted_are ∙ standards_counted b in
        let counted = told_count b old h.1 in
        omega (arith, sum, standard, counted);
  }

-- ---- all tables

same_tables : (b : List ℕ) → place_tests b ++ entry_tests b ≡ table_tests b
same_tables b =
    let s = flat_map (stream_tests b) (streams b) in
    let many : Test = (nat_lt part_limit (length (indexes b)), TooManyParts) in
    append_assoc (s ++ many ∷ []) (overlap_tests 0 (by_place (indexes b))) (entry_tests b)
    ∙ append_assoc s (many ∷ []) (overlap_tests 0 (by_place (indexes b)) ++ entry_tests b)

pub place_fails : (b : List ℕ) (fault : ReadFault) → PlacesIndexes b (Err fault) → ReadsTables b (Err fault)
place_fails b (Fault.Why w) h = sym (ap first (same_tables b)) ∙ then_some (place_tests b) (entry_tests b) w h
place_fails b Fault.Depot h = tt
place_fails b Fault.Memory h = tt

pub count_fails : (b : List ℕ) (fault : ReadFault) → first (place_tests b) ≡ None → CountsEntries b (Err fault) → ReadsTables b (Err fault)
count_fails b (Fault.Why w) none h = sym (ap first (same_tables b)) ∙ then_none (place_tests b) (entry_tests b) none ∙ h
count_fails b Fault.Depot none h = tt
count_fails b Fault.Memory none h = tt

pub none_left : (b : List ℕ) → first (place_tests b) ≡ None → first (entry_tests b) ≡ None → first (table_tests b) ≡ None
none_left b none more = sym (ap first (same_tables b)) ∙ then_none (place_tests b) (entry_tests b) none ∙ more

-- ---- the whole file

same_file : (b : List ℕ) → front_tests b ++ table_tests b ≡ tests_of (named_reading b) b
same_file b =
    ap (λ (ts : List Test). (not (begins b), UnknownKind) ∷ ts)
    (append_assoc (steps_tests 0 (named_reading b)) (list_tests (avi_of b)) (table_tests b) ∙ ap (λ (ts : List Test). steps_tests 0 (named_reading b) ++ (list_tests (avi_of b) ++ ts)) (same_last b))
  where
    same_last : (b : List ℕ) → table_tests b ≡ flat_map (stream_tests b) (streams b)
        ++ ((nat_lt part_limit (length (indexes b)), TooManyParts)
        ∷ (overlap_tests 0 (by_place (indexes b)) ++ (flat_map (standard_tests b) (by_place (indexes b)) ++ (flat_map (Rattle.avi_model.specs.Why.base_tests b) (Rattle.avi_model.specs.Index.olds b) ++ flat_map (Rattle.avi_model.specs.Why.old_tests (Rattle.avi_model.specs.Index.base b) (Rattle.avi_model.specs.Avi.first_movi (avi_of b)) (indexes b)) (Rattle.avi_model.specs.Index.olds b)))))
    same_last b = refl

pub front_fails : (b : List ℕ) (w : Why) → first (front_tests b) ≡ Some w → why_named b ≡ Some w
front_fails b w h = sym (ap first (same_file b)) ∙ then_some (front_tests b) (table_tests b) w h

pub tables_fail : (b : List ℕ) (w : Why) → first (front_tests b) ≡ None → first (table_tests b) ≡ Some w → why_named b ≡ Some w
tables_fail b w none h = sym (ap first (same_file b)) ∙ then_none (front_tests b) (table_tests b) none ∙ h

pub all_none : (b : List ℕ) → first (front_tests b) ≡ None → first (table_tests b) ≡ None → why_named b ≡ None
all_none b none more = sym (ap first (same_file b)) ∙ then_none (front_tests b) (table_tests b) none ∙ more

-- ---- bodies of index chunks

pub sound_filter : (test : IndexChunk → Bool) (xs : List IndexChunk) → AreSound xs → AllByRecursion IsBody (bodies_in (filter test xs))
sound_filter test [] all = tt
sound_filter test (x ∷ xs) all = go (test x) (sound_filter test xs all.1)
  where
    sound : IsSoundChunk x
    sound = all.0

    go : (t : Bool) → AllByRecursion IsBody (bodies_in (filter test xs)) → AllByRecursion IsBody (bodies_in (if t then x ∷ filter test xs else filter test xs))
    go true more = (sound, more)
    go false more = more

-- ---- the first of some ranges

pub first_end : (bound : ℕ) (ss : List Span) → AllByRecursion (EndInside bound) ss → (Rattle.avi_file.specs.Tables.first_range ss).at + (Rattle.avi_file.specs.Tables.first_range ss).len ≤ bound
first_end bound [] all = omega arith
first_end bound (s ∷ ss) all = all.0

pub head_none : (ss : List Span) → Rattle.avi_file.specs.Tables.head_of ss ≡ None → ss ≡ []
head_none [] e = refl
head_none (s ∷ ss) e = absurd cc

pub head_some : (ss : List Span) (s : Span) → Rattle.avi_file.specs.Tables.head_of ss ≡ Some s → ss ≡ s ∷ Rattle.std.proofs.Common.drop 1 ss
head_some [] s e = absurd cc
head_some (x ∷ ss) s e = let same : x ≡ s = cc in ap (λ (y : Span). y ∷ ss) same

pub first_of_head : (ss : List Span) (s : Span) → Rattle.avi_file.specs.Tables.head_of ss ≡ Some s → s ≡ Rattle.avi_file.specs.Tables.first_range ss
first_of_head [] s e = absurd cc
first_of_head (x ∷ ss) s e = let same : x ≡ s = cc in sym same

-- the same chunks and bodies, told otherwise
pub as_chunks : (b : List ℕ) (movis : List Span) (xs ys : List IndexChunk) (ss rs : List Span) (result : Result ℕ ReadFault) → xs ≡ ys → ss ≡ rs → CountsChunks movis ss b xs result → CountsChunks movis rs b ys result
as_chunks b movis xs ys ss rs result e f h = subst (λ (zs : List IndexChunk). CountsChunks movis rs b zs result) e (subst (λ (us : List Span). CountsChunks movis us b xs result) f h)

-- the tests of the index chunks alone
pub indexes_tested : (b : List ℕ) (p : Placed) → ArePlacedIndexes b p → first (index_tests b) ≡ None
indexes_tested b p is = go (first (index_tests b)) refl
  where
    go : (o : Option Why) → first (index_tests b) ≡ o → first (index_tests b) ≡ None
    go None e = e
    go (Some w) e = absurd (let no : Some w ≡ None = sym (then_some (index_tests b) (overlap_tests 0 (by_place (indexes b))) w e) ∙ is.tests in cc)

-- ---- the map

pub tables_refuse : (b : List ℕ) (fault : ReadFault) → first (front_tests b) ≡ None → ReadsTables b (Err fault) → Rattle.avi_file.specs.Map.ReadsAvi b (Err fault)
tables_refuse b (Fault.Why w) none h = tables_fail b w none h
tables_refuse b Fault.Depot none h = tt
tables_refuse b Fault.Memory none h = tt

pub rest_fails : (b : List ℕ) (fault : ReadFault) → Rattle.avi_file.specs.Map.ReadsFields b (Err fault) → Rattle.avi_file.specs.Map.ReadsAvi b (Err fault)
rest_fails b (Fault.Why w) h = absurd h
rest_fails b Fault.Depot h = tt
rest_fails b Fault.Memory h = tt

pub forms_refuse : (b : List ℕ) (fault : ReadFault) → Rattle.avi_file.specs.Forms.ReadsForms b (Err fault) → Rattle.avi_file.specs.Map.ReadsAvi b (Err fault)
forms_refuse b (Fault.Why w) h = front_fails b w h
forms_refuse b Fault.Depot h = tt
forms_refuse b Fault.Memory h = tt
