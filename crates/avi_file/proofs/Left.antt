-- What is left of what is read in turn.
use Rattle.std.proofs.Common.{◌≡◌, ◌∙◌, ℕ, ◌+◌, ◌-◌, ◌<◌, ◌≤◌, Bool, true, false, List, [], ◌∷◌, ◌++◌, length, take, drop, refl, sym, ap, subst, arith, append_assoc, length-append}
use Rattle.std.specs.Prelude.{codes, Option, Some, None, Result, ◌&&◌, if◌then◌else◌}
use Rattle.std.specs.Str.{bytes_eq}
use Rattle.part_tree.proofs.Words.{same_length}
use Rattle.std.specs.declared.result.Result.TheVariants.{Ok, Err}
use Rattle.std.proofs.lemmas.List.{append-nil, drop-drop, drop-take}
use Rattle.part_tree.specs.declared.names.Span.{Span}
use Rattle.part_tree.specs.declared.part.Part.{Part}
use Rattle.part_tree.specs.declared.why.Why.{Why}
use Rattle.part_tree.specs.declared.why.Why.TheVariants.{Truncated}
use Rattle.part_tree.specs.declared.why.ReadFault.{ReadFault}
use Rattle.part_tree.specs.declared.why.ReadFault.TheVariants as Fault
use Rattle.container_model.specs.Chunk.{Chunk, Run, Stop, riff, spell, spell_all, and_then, stopped, ends, passes, chunks}
use Rattle.container_model.specs.Sizes.{plain, riff_front}
use Rattle.container_model.specs.Stood.{bare}
use Rattle.container_model.proofs.Written.{length-slice}
use Rattle.carrier_model.specs.Info.{list_run}
use Rattle.riff_form.specs.declared.ChunkAt.{ChunkAt}
use Rattle.riff_form.specs.Walk.{chunk_in, row}
use Rattle.avi_model.specs.Reading.{Step, parts_met}
use Rattle.avi_model.proofs.Whys.{parts_append}
use Rattle.container_model.specs.Tests.{first, or_else}
use Rattle.avi_model.specs.Why.{Test, step_tests, steps_tests}
use Rattle.avi_file.specs.declared.list.Reading.{Reading}
use Rattle.avi_file.specs.declared.kind.Inside.{Inside}
use Rattle.avi_file.specs.declared.kind.Inside.TheVariants.{Items, Stream, Further}
use Rattle.avi_file.specs.Walk.{carries, role_of, Told, both, chunk_told, end_told, run_told, plain_told, ReadAll, Reads, StandsAt, none_told}

-- ---- tests one behind the other

pub first_append : (a b : List Test) → first (a ++ b) ≡ or_else (first a) (first b)
first_append [] b = refl
first_append (t ∷ ts) b = go t.0 (first_append ts b)
  where
    go : (x : Bool) → first (ts ++ b) ≡ or_else (first ts) (first b) → (if x then Some t.1 else first (ts ++ b)) ≡ or_else (if x then Some t.1 else first ts) (first b)
    go true e = refl
    go false e = e

steps_append : (met : ℕ) (a b : List Step) → steps_tests met (a ++ b) ≡ steps_tests met a ++ steps_tests (met + parts_met a) b
steps_append met [] b = ap (λ (m : ℕ). steps_tests m b) (omega arith)
steps_append met (s ∷ ss) b =
    let one : met + parts_met (s ∷ []) + parts_met ss ≡ met + parts_met (s ∷ ss) = omega arith in
    ap (λ (ts : List Test). step_tests met s ++ ts) (steps_append (met + parts_met (s ∷ [])) ss b ∙ ap (λ (m : ℕ). steps_tests (met + parts_met (s ∷ [])) ss ++ steps_tests m b) one)
    ∙ sym (append_assoc (step_tests met s) (steps_tests (met + parts_met (s ∷ [])) ss) (steps_tests (met + parts_met (s ∷ ss)) b))

steps_first : (met : ℕ) (a b : List Step) → first (steps_tests met (a ++ b)) ≡ or_else (first (steps_tests met a)) (first (steps_tests (met + parts_met a) b))
steps_first met a b = ap first (steps_append met a b) ∙ first_append (steps_tests met a) (steps_tests (met + parts_met a) b)

tests_more : (met now : ℕ) (a b : List Step) → first (steps_tests met a) ≡ None → now ≡ met + parts_met a → first (steps_tests met (a ++ b)) ≡ first (steps_tests now b)
tests_more met now a b none same =
    steps_first met a b ∙ ap (λ (x : Option Why). or_else x (first (steps_tests (met + parts_met a) b))) none ∙ ap (λ (m : ℕ). first (steps_tests m b)) (sym same)

tests_fail : (met : ℕ) (a b : List Step) (w : Why) → first (steps_tests met a) ≡ Some w → first (steps_tests met (a ++ b)) ≡ Some w
tests_fail met a b w some = steps_first met a b ∙ ap (λ (x : Option Why). or_else x (first (steps_tests (met + parts_met a) b))) some

-- ---- what is left

-- what is left from here on has the tests of all, and with what was read it is all
pub record IsLeft (whole rest : Told) (old r : Reading) : Type 0 where
  pub tests : first (steps_tests old.met whole.steps) ≡ first (steps_tests r.met rest.steps)
  pub met : r.met + parts_met rest.steps ≡ old.met + parts_met whole.steps
  pub parts : r.parts.items ++ rest.parts ≡ old.parts.items ++ whole.parts
  pub streams : r.streams.items ++ rest.streams ≡ old.streams.items ++ whole.streams

pub left_start : (whole : Told) (old : Reading) → IsLeft whole whole old old
left_start whole old = record { tests = refl; met = refl; parts = refl; streams = refl }

pub left_more : (whole rest one next : Told) (old r s : Reading) → IsLeft whole rest old r → rest ≡ both one next → ReadAll one r s → IsLeft whole next old s
left_more whole rest one next old r s left step all = record {
  tests = left.tests ∙ ap (λ (x : Told). first (steps_tests r.met x.steps)) step ∙ tests_more r.met s.met one.steps next.steps all.tests all.met;
  met = let count : parts_met rest.steps ≡ parts_met one.steps + parts_met next.steps = ap (λ (x : Told). parts_met x.steps) step ∙ parts_append one.steps next.steps in omega (arith, count, all.met, left.met);
  parts = ap (λ (ps : List Part). ps ++ next.parts) all.parts ∙ append_assoc r.parts.items one.parts next.parts ∙ ap (λ (x : Told). r.parts.items ++ x.parts) (sym step) ∙ left.parts;
  streams = ap (λ (ss : List Span). ss ++ next.streams) all.streams ∙ append_assoc r.streams.items one.streams next.streams ∙ ap (λ (x : Told). r.streams.items ++ x.streams) (sym step) ∙ left.streams;
}

pub left_last : (whole rest : Told) (old r new : Reading) (result : Result Unit ReadFault) → IsLeft whole rest old r → Reads rest r new result → Reads whole old new result
left_last whole rest old r new (Ok u) left all = record {
  tests = left.tests ∙ all.tests;
  met = all.met ∙ left.met;
  parts = all.parts ∙ left.parts;
  streams = all.streams ∙ left.streams;
}
left_last whole rest old r new (Err (Fault.Why w)) left all = left.tests ∙ all
left_last whole rest old r new (Err Fault.Depot) left all = tt
left_last whole rest old r new (Err Fault.Memory) left all = tt

fails_then : (one next : Told) (r s new : Reading) (fault : ReadFault) → Reads one r s (Err fault) → Reads (both one next) r new (Err fault)
fails_then one next r s new (Fault.Why w) h = tests_fail r.met one.steps next.steps w h
fails_then one next r s new Fault.Depot h = tt
fails_then one next r s new Fault.Memory h = tt

pub left_fails : (whole rest one next : Told) (old r s new : Reading) (fault : ReadFault) → IsLeft whole rest old r → rest ≡ both one next → Reads one r s (Err fault) → Reads whole old new (Err fault)
left_fails whole rest one next old r s new fault left step h =
    left_last whole rest old r new (Err fault) left (subst (λ (x : Told). Reads x r new (Err fault)) (sym step) (fails_then one next r s new fault h))

-- one piece behind another
pub reads_then : (one next : Told) (old r new : Reading) (result : Result Unit ReadFault) → ReadAll one old r → Reads next r new result → Reads (both one next) old new result
reads_then one next old r new result all h = left_last (both one next) next old r new result (left_more (both one next) (both one next) one next old old r (left_start (both one next) old) refl all) h

pub reads_fail : (one next : Told) (old r new : Reading) (fault : ReadFault) → Reads one old r (Err fault) → Reads (both one next) old new (Err fault)
reads_fail one next old r new fault h = fails_then one next old r new fault h

-- nothing more was read
pub reads_none : (r : Reading) → ReadAll none_told r r
reads_none r = record { tests = refl; met = omega arith; parts = sym (append-nil r.parts.items); streams = sym (append-nil r.streams.items) }

-- ---- runs

abbrev pub of_three : List Step → List Part → List Span → Told
of_three s p u = record { steps = s; parts = p; streams = u }

told_apart : {s t : List Step} {p q : List Part} {u v : List Span} → s ≡ t → p ≡ q → u ≡ v → of_three s p u ≡ of_three t q v
told_apart e f g = cc

pub both_assoc : (a b c : Told) → both (both a b) c ≡ both a (both b c)
both_assoc a b c = told_apart (append_assoc a.steps b.steps c.steps) (append_assoc a.parts b.parts c.parts) (append_assoc a.streams b.streams c.streams)

-- a chunk, and the run behind it
pub run_next : (told later : ℕ → List Chunk → Told) (one : Told) (at to : ℕ) (c : Chunk) (rest r : Run) → rest ≡ and_then c r → at + length (spell c) ≡ to → told at (c ∷ r.chunks) ≡ both one (later to r.chunks)
    → run_told told at rest ≡ both one (run_told later to r)
run_next told later one at to c rest r step place first_one =
    let here : at + length (spell c ++ spell_all r.chunks) ≡ to + length (spell_all r.chunks) = omega (arith, length-append (spell c) (spell_all r.chunks)) in
    ap (run_told told at) step
    ∙ ap (λ (p : ℕ). both (told at (c ∷ r.chunks)) (end_told p r.stop r.left)) here
    ∙ ap (λ (t : Told). both t (end_told (to + length (spell_all r.chunks)) r.stop r.left)) first_one
    ∙ both_assoc one (later to r.chunks) (end_told (to + length (spell_all r.chunks)) r.stop r.left)

-- tells nothing where there is no chunk
abbrev pub NoneTold : (ℕ → List Chunk → Told) → Type 0
NoneTold told = (at : ℕ) → told at [] ≡ record { steps = []; parts = []; streams = [] }

pub run_last : (told : ℕ → List Chunk → Told) (at : ℕ) (rest : Run) (stop : Stop) (left : List ℕ) → NoneTold told → rest ≡ stopped stop left → run_told told at rest ≡ end_told at stop left
run_last told at rest stop left none step =
    let here : at + 0 ≡ at = omega arith in
    ap (run_told told at) step ∙ ap (λ (t : Told). both t (end_told (at + 0) stop left)) (none at) ∙ ap (λ (p : ℕ). end_told p stop left) here

-- ---- the steps of a loop over a run

pub left_taken : (whole one : Told) (told later : ℕ → List Chunk → Told) (at to : ℕ) (c : Chunk) (rest r : Run) (old now new : Reading) → IsLeft whole (run_told told at rest) old now → rest ≡ and_then c r → at + length (spell c) ≡ to
    → told at (c ∷ r.chunks) ≡ both one (later to r.chunks) → ReadAll one now new → IsLeft whole (run_told later to r) old new
left_taken whole one told later at to c rest r old now new left step place first_one all = left_more whole (run_told told at rest) one (run_told later to r) old now new left (run_next told later one at to c rest r step place first_one) all

pub left_refused : (whole one : Told) (told later : ℕ → List Chunk → Told) (at to : ℕ) (c : Chunk) (rest r : Run) (old now new : Reading) (fault : ReadFault) → IsLeft whole (run_told told at rest) old now → rest ≡ and_then c r
    → at + length (spell c) ≡ to → told at (c ∷ r.chunks) ≡ both one (later to r.chunks) → Reads one now new (Err fault) → Reads whole old new (Err fault)
left_refused whole one told later at to c rest r old now new fault left step place first_one h =
    left_fails whole (run_told told at rest) one (run_told later to r) old now new new fault left (run_next told later one at to c rest r step place first_one) h

pub left_cut : (whole : Told) (told : ℕ → List Chunk → Told) (at p : ℕ) (rest : Run) (left : List ℕ) (old now : Reading) → NoneTold told → IsLeft whole (run_told told at rest) old now → rest ≡ stopped passes left → p ≡ at
    → first (steps_tests old.met whole.steps) ≡ Some (Truncated p)
left_cut whole told at p rest left old now none is step place =
    is.tests ∙ ap (λ (x : Told). first (steps_tests now.met x.steps)) (run_last told at rest passes left none step) ∙ ap (λ (q : ℕ). Some (Truncated q)) (sym place)

pub left_ended : (whole : Told) (told : ℕ → List Chunk → Told) (at : ℕ) (rest : Run) (left : List ℕ) (old now new : Reading) (result : Result Unit ReadFault) → NoneTold told → IsLeft whole (run_told told at rest) old now
    → rest ≡ stopped ends left → Reads (end_told at ends left) now new result → Reads whole old new result
left_ended whole told at rest left old now new result none is step h =
    left_last whole (run_told told at rest) old now new result is (subst (λ (t : Told). Reads t now new result) (sym (run_last told at rest ends left none step)) h)

-- what a chunk is doesn't stand in its pad
carries_bare : (inside : Inside) (c : Chunk) → carries inside (bare c) ≡ carries inside c
carries_bare Items c = refl
carries_bare Stream c = refl
carries_bare Further c = refl

pub plain_next : (inside : Inside) (at to : ℕ) (c : Chunk) (r : Run) → at + length (spell c) ≡ to → plain_told inside at (c ∷ r.chunks) ≡ both (chunk_told (carries inside c) (role_of inside c) at c) (plain_told inside to r.chunks)
plain_next inside at to c r place =
    ap (λ (t : Bool). both (chunk_told t (role_of inside c) at c) (plain_told inside (at + length (spell c)) r.chunks)) (carries_bare inside c)
    ∙ ap (λ (p : ℕ). both (chunk_told (carries inside c) (role_of inside c) at c) (plain_told inside p r.chunks)) place

-- ---- one part

pub stands_in : (b : List ℕ) (k : ChunkAt) → k.body.at + k.body.len ≤ length b → k.at + length (spell (chunk_in b riff k)) ≡ k.next → StandsAt (chunk_in b riff k) k
stands_in b k inside next = record { id = refl; len = sym (length-slice b k.body.at k.body.len inside); next = next }

-- ---- the type of a list

and_no : (a b : Bool) → b ≡ false → (a && b) ≡ false
and_no true b e = e
and_no false b e = refl

-- a body of fewer bytes is of no type
pub no_type : (t : Bool) (x w : List ℕ) → length x < length w → false ≡ (t && bytes_eq x w)
no_type t x w short = sym (and_no t (bytes_eq x w) (go (bytes_eq x w) refl))
  where
    go : (s : Bool) → bytes_eq x w ≡ s → s ≡ false
    go false e = refl
    go true e = absurd (omega (arith, same_length x w e))

-- ---- the chunks of a list

pub list_is : (b : List ℕ) (k : ChunkAt) → 4 ≤ k.body.len → k.body.at + k.body.len ≤ length b → list_run (chunk_in b riff k) ≡ row b (k.body.at + 4) (k.body.at + k.body.len)
list_is b k long inside =
    let len = k.body.len in
    let split : len ≡ 4 + (len - 4) = omega arith in
    let rest : (k.body.at + len) - (k.body.at + 4) ≡ len - 4 = omega arith in
    ap (λ (n : ℕ). chunks riff_front plain (drop 4 (take n (drop k.body.at b)))) split
    ∙ ap (chunks riff_front plain) (drop-take 4 (len - 4) (drop k.body.at b) ∙ ap (take (len - 4)) (drop-drop 4 k.body.at b))
    ∙ ap (λ (n : ℕ). chunks riff_front plain (take n (drop (k.body.at + 4) b))) (sym rest)
