-- The index chunks of streams.
use Rattle.std.proofs.Common.{◌≡◌, ◌∙◌, ℕ, zero, suc, ◌+◌, ◌-◌, ◌<◌, ◌≤◌, Bool, true, false, List, [], ◌∷◌, ◌++◌, length, take, drop, get_or, length-append, refl, sym, ap, subst, arith}
use Rattle.me_disk.specs.Disk.{Disk, bytes_of}
use Rattle.me_disk.specs.Holds.{Holds}
use Rattle.me_disk.specs.Steps.{ReadsOnly}
use Rattle.std.specs.Prelude.{IsTrue, not, nat_lt, if◌then◌else◌, Option, Some, None, Result}
use Rattle.std.specs.declared.result.Result.TheVariants.{Ok, Err}
use Rattle.std.specs.List.{AllByRecursion}
use Rattle.std.proofs.lemmas.Bool.{le-ltb, lt-ltb}
use Rattle.std.proofs.lemmas.List.{length-take, take_all}
use Rattle.part_tree.specs.declared.why.Why.TheVariants.{TooManyParts}
use Rattle.part_tree.specs.declared.names.Span.{Span}
use Rattle.part_tree.specs.declared.table.IndexHead.{IndexHead}
use Rattle.part_tree.specs.declared.why.Why.{Why}
use Rattle.part_tree.specs.declared.why.ReadFault.{ReadFault}
use Rattle.part_tree.specs.declared.why.ReadFault.TheVariants as Fault
use Rattle.container_model.specs.Tables.{Table}
use Rattle.container_model.specs.Written.{rows, slice}
use Rattle.container_model.proofs.Written.{length-slice}
use Rattle.container_model.specs.Tests.{first, or_else}
use Rattle.opendml_index.specs.Heads.{IsHead}
use Rattle.opendml_index.specs.Index.{entries, is_super, width}
use Rattle.opendml_index.specs.Kinds.{is_index_kind}
use Rattle.opendml_index.proofs.Known.{super_index, super_kind}
use Rattle.avi_model.specs.Index.{table_span}
use Rattle.avi_model.specs.Why.{Test, sound_tests}
use Rattle.avi_file.specs.declared.index.IndexChunk.{IndexChunk}
use Rattle.avi_file.specs.declared.index.Indexes.{Indexes}
use Rattle.avi_file.specs.Indexes.{AreSound, IsSoundChunk, ReadsIndex, ReadsIndexes, ReadsNamed, ReadsStreams, all_kept, all_tests, index_tests, kept_in, kept_limit, kept_of, kept_rows, named_kept, rows_tests, streams_kept, table_at}
use Rattle.avi_file.proofs.Held.{limit_is}
use Rattle.avi_file.proofs.Left.{first_append}
use Rattle.avi_file.proofs.Lined.{named_none}
use Rattle.avi_file.proofs.Opened.{span_of}

pub stream_fails : (movis : List Span) (b : List ℕ) (t : Table) (streams more : List IndexChunk) (old new : Indexes) (fault : ReadFault) → ReadsIndex is_index_kind (t.at - 8) t.body (Err fault) → ReadsStreams (index_tests movis b t) streams more old new (Err fault)
stream_fails movis b t streams more old new (Fault.Why w) h =
    let later = if is_super t.body then rows_tests movis b (entries t.body) else [] in
    first_append (sound_tests is_index_kind (t.at - 8) t.body) later ∙ ap (λ (x : Option Why). or_else x (first later)) h
stream_fails movis b t streams more old new Fault.Depot h = tt
stream_fails movis b t streams more old new Fault.Memory h = tt

pub stream_took : (movis : List Span) (b : List ℕ) (t : Table) (streams : List IndexChunk) (old new : Indexes) (result : Result Unit ReadFault) → first (sound_tests is_index_kind (t.at - 8) t.body) ≡ None → new.streams.items ≡ old.streams.items ++ streams
    → ReadsNamed (if is_super t.body then rows_tests movis b (entries t.body) else []) (kept_in b t) old.named.items new.named.items result → ReadsStreams (index_tests movis b t) streams (kept_in b t) old new result
stream_took movis b t streams old new (Ok u) none same h =
    let later = if is_super t.body then rows_tests movis b (entries t.body) else [] in
    (first_append (sound_tests is_index_kind (t.at - 8) t.body) later ∙ ap (λ (x : Option Why). or_else x (first later)) none ∙ h.0, same, h.1)
stream_took movis b t streams old new (Err (Fault.Why w)) none same h =
    let later = if is_super t.body then rows_tests movis b (entries t.body) else [] in
    first_append (sound_tests is_index_kind (t.at - 8) t.body) later ∙ ap (λ (x : Option Why). or_else x (first later)) none ∙ h
stream_took movis b t streams old new (Err Fault.Depot) none same h = tt
stream_took movis b t streams old new (Err Fault.Memory) none same h = tt

-- by the type
abbrev type_by : Bool → Bool → Type 0
type_by standard super = standard ≡ not super

not_super : (standard super : Bool) → standard ≡ not super → standard ≡ true → super ≡ false
not_super standard true e f = absurd cc
not_super standard false e f = refl

is_super_one : (standard super : Bool) → standard ≡ not super → standard ≡ false → super ≡ true
is_super_one standard true e f = refl
is_super_one standard false e f = absurd cc

pub standard_none : (movis : List Span) (b : List ℕ) (t : Table) (h : IndexHead) (old : List IndexChunk) → IsHead t.body h → h.standard ≡ true → ReadsNamed (if is_super t.body then rows_tests movis b (entries t.body) else []) (kept_in b t) old old (Ok tt)
standard_none movis b t h old is standard =
    let super : is_super t.body ≡ false = not_super h.standard (is_super t.body) is.is_standard standard in
    subst (λ (s : Bool). ReadsNamed (if s then rows_tests movis b (entries t.body) else []) (if s then kept_rows b (entries t.body) else []) old old (Ok tt)) (sym super) (named_none old)

rows_are : (body : List ℕ) (h : IndexHead) → IsHead body h → is_index_kind body ≡ true → is_super body ≡ true → rows 16 h.used (drop 24 body) ≡ entries body
rows_are body h is kind super =
    ap (λ (n : ℕ). rows n h.used (drop 24 body)) (sym (super_kind body (super_index body kind super)).1) ∙ ap (λ (n : ℕ). rows (width body) n (drop 24 body)) is.used_are

pub super_named : (movis : List Span) (b : List ℕ) (t : Table) (h : IndexHead) (old new : List IndexChunk) (result : Result Unit ReadFault) → IsHead t.body h → is_index_kind t.body ≡ true → h.standard ≡ false
    → ReadsNamed (rows_tests movis b (rows 16 h.used (drop 24 t.body))) (kept_rows b (rows 16 h.used (drop 24 t.body))) old new result
    → ReadsNamed (if is_super t.body then rows_tests movis b (entries t.body) else []) (kept_in b t) old new result
super_named movis b t h old new result is kind standard read =
    let super : is_super t.body ≡ true = is_super_one h.standard (is_super t.body) is.is_standard standard in
    subst (λ (s : Bool). ReadsNamed (if s then rows_tests movis b (entries t.body) else []) (if s then kept_rows b (entries t.body) else []) old new result) (sym super)
    (subst (λ (rs : List (List ℕ)). ReadsNamed (rows_tests movis b rs) (kept_rows b rs) old new result) (rows_are t.body h is kind super) read)

pub stream_kept : (b : List ℕ) (s : Span) (h : IndexHead) → s.at + s.len ≤ length b → IsHead (slice b s.at s.len) h → record { body = s; standard = h.standard } ≡ kept_of (table_at b s)
stream_kept b s h inside is =
    ap (λ (n : ℕ). chunk_of (span_of s.at n) h.standard) (sym (length-slice b s.at s.len inside)) ∙ ap (λ (t : Bool). chunk_of (table_span (table_at b s)) t) is.is_standard
  where
    chunk_of : Span → Bool → IndexChunk
    chunk_of x t = record { body = x; standard = t }

-- ---- one stream after the other

pub all_get : (P : Span → Type 0) (ss : List Span) (k : ℕ) (d : Span) → AllByRecursion P ss → k < length ss → P (get_or ss k d)
all_get P [] k d all lt = absurd (omega arith)
all_get P (s ∷ ss) zero d all lt = all.0
all_get P (s ∷ ss) (suc k) d all lt = all_get P ss k d all.1 (omega arith)

-- what a stream's index chunk is among what is left
pub as_named : (tests : List Test) (streams more : List IndexChunk) (old new : Indexes) → ReadsStreams tests streams more old new (Ok tt) → ReadsNamed tests more old.named.items new.named.items (Ok tt)
as_named tests streams more old new h = (h.0, h.2)

pub as_fault : (tests : List Test) (streams more : List IndexChunk) (old new : Indexes) (fault : ReadFault) → ReadsStreams tests streams more old new (Err fault) → ReadsNamed tests more old.named.items new.named.items (Err fault)
as_fault tests streams more old new (Fault.Why w) h = h
as_fault tests streams more old new Fault.Depot h = tt
as_fault tests streams more old new Fault.Memory h = tt

pub all_fail : (movis : List Span) (b : List ℕ) (ss : List Span) (more old new : List IndexChunk) (fault : ReadFault) → ReadsNamed (all_tests movis b ss) more old new (Err fault) → ReadsIndexes movis b ss (Err fault)
all_fail movis b ss more old new (Fault.Why w) h = first_append (all_tests movis b ss) ((nat_lt 65536 (length (all_kept b ss)), TooManyParts) ∷ []) ∙ ap (λ (x : Option Why). or_else x (first ((nat_lt 65536 (length (all_kept b ss)), TooManyParts) ∷ []))) h
all_fail movis b ss more old new Fault.Depot h = tt
all_fail movis b ss more old new Fault.Memory h = tt

all_count : (movis : List Span) (b : List ℕ) (ss : List Span) (t : Bool) → first (all_tests movis b ss) ≡ None → nat_lt 65536 (length (all_kept b ss)) ≡ t
    → first (all_tests movis b ss ++ (nat_lt 65536 (length (all_kept b ss)), TooManyParts) ∷ []) ≡ (if t then Some TooManyParts else None)
all_count movis b ss t none count =
    first_append (all_tests movis b ss) ((nat_lt 65536 (length (all_kept b ss)), TooManyParts) ∷ [])
    ∙ ap (λ (x : Option Why). or_else x (first ((nat_lt 65536 (length (all_kept b ss)), TooManyParts) ∷ []))) none
    ∙ ap (λ (x : Bool). if x then Some TooManyParts else None) count

-- the chunks that were kept, and how many there are
pub all_many : (movis : List Span) (b : List ℕ) (ss : List Span) (streams named : List IndexChunk) → streams ≡ streams_kept b ss → ReadsNamed (all_tests movis b ss) (named_kept b ss) [] named (Ok tt) → 65536 < length streams + length named
    → first (all_tests movis b ss ++ (nat_lt 65536 (length (all_kept b ss)), TooManyParts) ∷ []) ≡ Some TooManyParts
all_many movis b ss streams named same h many =
    let kept : named ≡ take kept_limit (named_kept b ss) = h.1 [] (sym (take_all kept_limit [] (omega arith))) in
    let len = length-take kept_limit (named_kept b ss) in
    let count : 65536 < length (all_kept b ss) = omega (arith, length-append (streams_kept b ss) (named_kept b ss), len, ap length kept, ap length same) in
    all_count movis b ss true h.0 (lt-ltb 65536 (length (all_kept b ss)) count)

pub all_few : (movis : List Span) (b : List ℕ) (ss : List Span) (streams named : List IndexChunk) → streams ≡ streams_kept b ss → ReadsNamed (all_tests movis b ss) (named_kept b ss) [] named (Ok tt) → length streams + length named ≤ 65536
    → (first (all_tests movis b ss ++ (nat_lt 65536 (length (all_kept b ss)), TooManyParts) ∷ []) ≡ None) × (streams ++ named ≡ all_kept b ss)
all_few movis b ss streams named same h few =
    let kept : named ≡ take kept_limit (named_kept b ss) = h.1 [] (sym (take_all kept_limit [] (omega arith))) in
    let limit = limit_is in
    let short : length (named_kept b ss) ≤ kept_limit = omega (arith, length-take kept_limit (named_kept b ss), ap length kept) in
    let whole : named ≡ named_kept b ss = kept ∙ take_all kept_limit (named_kept b ss) short in
    let count : length (all_kept b ss) ≤ 65536 = omega (arith, length-append (streams_kept b ss) (named_kept b ss), ap length whole, ap length same) in
    (all_count movis b ss false h.0 (le-ltb 65536 (length (all_kept b ss)) count), ap (λ (x : List IndexChunk). x ++ named) same ∙ ap (λ (x : List IndexChunk). streams_kept b ss ++ x) whole)

-- what a depot tells that was only read, it told before
pub holds_before : (a b : Disk) (o : List ℕ) → ReadsOnly a b → Holds b o → Holds a o
holds_before a b o reads h = record { tells = subst IsTrue reads.tells h.tells; bytes = ap bytes_of (sym reads.main) ∙ h.bytes }

pub sound_push : (xs : List IndexChunk) (x : IndexChunk) → IsSoundChunk x → AreSound xs → AreSound (xs ++ x ∷ [])
sound_push [] x one all = (one, tt)
sound_push (y ∷ ys) x one all = (all.0, sound_push ys x one all.1)

pub sound_append : (xs ys : List IndexChunk) → AreSound xs → AreSound ys → AreSound (xs ++ ys)
sound_append [] ys all more = more
sound_append (x ∷ xs) ys all more = (all.0, sound_append xs ys all.1 more)
