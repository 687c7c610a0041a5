-- What is answered of the forms of a file.
use Rattle.std.proofs.Common.{◌≡◌, ◌∙◌, ℕ, ◌+◌, ◌≤◌, Bool, true, false, List, [], ◌∷◌, ◌++◌, length, sym, ap, subst, arith}
use Rattle.std.specs.Prelude.{codes, if◌then◌else◌, not, nat_lt, ◌==◌, Option, Some, None, Result}
use Rattle.std.specs.declared.result.Result.TheVariants.{Err}
use Rattle.part_tree.specs.declared.part.Part.{Part}
use Rattle.part_tree.specs.declared.why.Why.{Why}
use Rattle.part_tree.specs.declared.why.Why.TheVariants.{UnknownKind, Truncated, NoHdrl, NoMovi}
use Rattle.part_tree.specs.declared.why.ReadFault.{ReadFault}
use Rattle.part_tree.specs.declared.why.ReadFault.TheVariants as Fault
use Rattle.container_model.specs.Chunk.{Chunk, Run, riff, and_then, too_short, spell, spell_all}
use Rattle.container_model.specs.Stood.{stood, only, first_of}
use Rattle.container_model.specs.Tests.{first, or_else}
use Rattle.carrier_model.specs.Info.{is_type, list_run}
use Rattle.riff_form.specs.declared.ChunkAt.{ChunkAt}
use Rattle.riff_form.specs.declared.StepFault.TheVariants as step
use Rattle.riff_form.specs.Walk.{chunk_in, row}
use Rattle.avi_model.specs.Avi.{avi_front, avi_of, forms, hdrls, is_movi}
use Rattle.avi_model.specs.Reading.{name_steps, form_steps_by, end_at, named_reading}
use Rattle.avi_model.specs.Support.{begins, movis}
use Rattle.avi_model.specs.Why.{steps_tests, list_tests}
use Rattle.avi_file.specs.declared.list.Reading.{Reading}
use Rattle.avi_file.specs.declared.top.Top.{Top}
use Rattle.avi_file.specs.Walk.{Told, Reads, ReadAll, run_told, essence_of}
use Rattle.avi_file.specs.Forms.{CutAt, ReadsFirst, ReadsForms, FirstRead, file_told, first_told, form_tests, front_tests, forms_from, others_told}
use Rattle.avi_file.proofs.Left.{first_append, reads_then, reads_fail, list_is}
use Rattle.avi_file.proofs.Listed.{none_of_type, no_movi}
use Rattle.avi_file.proofs.Turned.{begun, not_begun, file_next, form_is}

-- ---- the first form

kind_then : (b : List ℕ) (later : Option Why) → begins b ≡ true → (if not (begins b) then Some UnknownKind else later) ≡ later
kind_then b later e = ap (λ (t : Bool). if not t then Some UnknownKind else later) e

pub first_kind : (b : List ℕ) → avi_front true b ≡ too_short → first (form_tests b) ≡ Some UnknownKind
first_kind b e = ap (λ (t : Bool). if not t then Some UnknownKind else first (steps_tests 0 (named_reading b))) (not_begun b e)

pub first_cut : (b : List ℕ) (p : ℕ) → CutAt true b 0 (step.Truncated p) → first (form_tests b) ≡ Some (Truncated p)
first_cut b p cut =
    kind_then b (first (steps_tests 0 (named_reading b))) (begun b cut.0)
    ∙ ap (λ (r : Run). first (steps_tests 0 (form_steps_by name_steps (stood 0 r.chunks) ++ end_at (length (spell_all r.chunks)) r.stop ∷ []))) cut.1
    ∙ ap (λ (q : ℕ). Some (Truncated q)) (sym cut.2)

pub file_fails : (b : List ℕ) (old new : Reading) (w : Why) → begins b ≡ true → old.met ≡ 0 → Reads (file_told b) old new (Err (Fault.Why w)) → first (form_tests b) ≡ Some w
file_fails b old new w kind met h = kind_then b (first (steps_tests 0 (named_reading b))) kind ∙ ap (λ (m : ℕ). first (steps_tests m (named_reading b))) (sym met) ∙ h

pub first_fails : (b : List ℕ) (c : Chunk) (r : Run) (old new : Top) (fault : ReadFault) → begins b ≡ true → forms b ≡ and_then c r → old.reading.met ≡ 0 → Reads (first_told c) old.reading new.reading (Err fault) → ReadsFirst b old new (Err fault)
first_fails b c r old new (Fault.Why w) kind is met h =
    file_fails b old.reading new.reading w kind met
    (subst (λ (t : Told). Reads t old.reading new.reading (Err (Fault.Why w))) (sym (file_next b c r is)) (reads_fail (first_told c) (run_told others_told (length (spell c)) r) old.reading new.reading new.reading (Fault.Why w) h))
first_fails b c r old new Fault.Depot kind is met h = tt
first_fails b c r old new Fault.Memory kind is met h = tt

-- the chunks of the first form
pub open_first : (b : List ℕ) (k : ChunkAt) → 4 ≤ k.body.len → k.body.at + k.body.len ≤ length b → k.body.at ≡ 8 → row b 12 (8 + k.body.len) ≡ list_run (chunk_in b riff k)
open_first b k long inside place =
    let start : k.body.at + 4 ≡ 12 = omega arith in
    let end : k.body.at + k.body.len ≡ 8 + k.body.len = omega arith in
    sym (list_is b k long inside ∙ ap (λ (p : ℕ). row b p (k.body.at + k.body.len)) start ∙ ap (λ (p : ℕ). row b 12 p) end)

-- ---- all forms

pub front_fails : (b : List ℕ) (w : Why) → first (form_tests b) ≡ Some w → first (front_tests b) ≡ Some w
front_fails b w h = first_append (form_tests b) (list_tests (avi_of b)) ∙ ap (λ (x : Option Why). or_else x (first (list_tests (avi_of b)))) h

pub front_first : (b : List ℕ) (old new : Top) (fault : ReadFault) → ReadsFirst b old new (Err fault) → ReadsForms b (Err fault)
front_first b old new (Fault.Why w) h = front_fails b w h
front_first b old new Fault.Depot h = tt
front_first b old new Fault.Memory h = tt

-- the forms behind the first one
pub all_forms : (b : List ℕ) (k : ChunkAt) (old now : Top) (new : Reading) (result : Result Unit ReadFault) → FirstRead b k old now → Reads (run_told others_told k.next (forms_from false b k.next)) now.reading new result → Reads (file_told b) old.reading new result
all_forms b k old now new result one h =
    let this = chunk_in b riff k in
    subst (λ (t : Told). Reads t old.reading new result) (sym (file_next b this (forms_from false b k.next) one.run))
    (reads_then (first_told this) (run_told others_told (length (spell this)) (forms_from false b k.next)) old.reading now.reading new result one.all
    (subst (λ (p : ℕ). Reads (run_told others_told p (forms_from false b k.next)) now.reading new result) (sym one.next) h))

pub front_others : (b : List ℕ) (old new : Reading) (fault : ReadFault) → begins b ≡ true → old.met ≡ 0 → Reads (file_told b) old new (Err fault) → ReadsForms b (Err fault)
front_others b old new (Fault.Why w) kind met h = front_fails b w (file_fails b old new w kind met h)
front_others b old new Fault.Depot kind met h = tt
front_others b old new Fault.Memory kind met h = tt

-- by the lists that must be there
pub front_lists : (b : List ℕ) (k : ChunkAt) (old now : Top) (new : Reading) → FirstRead b k old now → old.reading.met ≡ 0 → old.reading.parts.items ≡ [] → ReadAll (file_told b) old.reading new
    → first (front_tests b) ≡ (if not now.hdrl then Some NoHdrl else (if not (nat_lt 0 (length (essence_of now.reading.parts.items))) then Some NoMovi else None))
front_lists b k old now new one met none all =
    let this = chunk_in b riff k in
    let a = avi_of b in
    let run = form_is b this (forms_from false b k.next) one.run in
    let hdrl : (length (hdrls a) == 0) ≡ not now.hdrl =
    ap (λ (r : Run). length (first_of (only (is_type (codes "hdrl")) (stood 12 r.chunks))) == 0) run ∙ none_of_type (codes "hdrl") 12 (list_run this).chunks ∙ ap not (sym one.hdrl)
    in
    let parts = one.all.parts ∙ ap (λ (ps : List Part). ps ++ (first_told this).parts) none in
    let movi : (length (movis a) == 0) ≡ not (nat_lt 0 (length (essence_of now.reading.parts.items))) =
    ap (λ (r : Run). length (only is_movi (stood 12 r.chunks)) == 0) run ∙ no_movi this now.reading.parts.items parts
    in
    let read : first (steps_tests 0 (named_reading b)) ≡ None = ap (λ (m : ℕ). first (steps_tests m (named_reading b))) (sym met) ∙ all.tests in
    first_append (form_tests b) (list_tests a)
    ∙ ap (λ (x : Option Why). or_else x (first (list_tests a))) (kind_then b (first (steps_tests 0 (named_reading b))) one.kind ∙ read)
    ∙ ap (λ (t : Bool). if t then Some NoHdrl else (if length (movis a) == 0 then Some NoMovi else None)) hdrl
    ∙ ap (λ (t : Bool). if not now.hdrl then Some NoHdrl else (if t then Some NoMovi else None)) movi
