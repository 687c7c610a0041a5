-- The index chunks that are kept, and the tests of one.
use Rattle.std.proofs.Common.{◌≡◌, ◌∙◌, ℕ, ◌+◌, ◌<◌, ◌≤◌, Bool, true, false, leb, List, [], ◌∷◌, ◌++◌, length, take, refl, sym, ap, subst, arith, length-append}
use Rattle.std.proofs.lemmas.Bool.{le-leb, leb-true}
use Rattle.std.specs.Prelude.{◌&&◌, ◌||◌, not, if◌then◌else◌, Option, Some, None}
use Rattle.std.proofs.lemmas.List.{length-take, take_all, take-append-le}
use Rattle.part_tree.specs.declared.names.Span.{Span}
use Rattle.part_tree.specs.declared.why.Why.{Why}
use Rattle.part_tree.specs.Ranges.{within, in_one}
use Rattle.container_model.specs.Tests.{first}
use Rattle.std.specs.List.{AllByRecursion}
use Rattle.opendml_index.specs.Checks.{EndInside}
use Rattle.opendml_index.specs.declared.head.HeadFault.{HeadFault}
use Rattle.avi_model.specs.Why.{head_refusals, head_why, sound_tests}
use Rattle.avi_file.specs.declared.index.IndexChunk.{IndexChunk}
use Rattle.std.specs.Prelude.{Result, OnOk, IfErr}
use Rattle.std.specs.declared.result.Result.TheVariants.{Ok, Err}
use Rattle.part_tree.specs.declared.why.Why.TheVariants.{IndexPlace}
use Rattle.part_tree.specs.declared.why.ReadFault.{ReadFault}
use Rattle.part_tree.specs.declared.why.ReadFault.TheVariants as Fault
use Rattle.container_model.specs.Written.{slice}
use Rattle.container_model.proofs.Written.{length-slice}
use Rattle.container_model.specs.Tables.{Table, named, size_at}
use Rattle.container_model.proofs.Tests.{first_none}
use Rattle.opendml_index.specs.Kinds.{is_standard_kind, has_header, has_entries}
use Rattle.opendml_index.proofs.Known.{standard_kind}
use Rattle.avi_model.specs.Index.{table_span}
use Rattle.avi_model.proofs.Whys.{not_is}
use Rattle.avi_file.specs.Indexes.{kept_limit, kept_of, kept_at, KeepsFirst, ReadsIndex, ReadsPlace, ReadsNamed, named_tests}

-- ---- what is kept

pub limit_is : kept_limit ≡ 65537
unfolding kept_limit
limit_is = refl

pub kept_full : (n : ℕ) (all old more : List IndexChunk) → n ≤ length old → old ≡ take n all → old ≡ take n (all ++ more)
kept_full n all old more full same =
    let long : n ≤ length all = omega (arith, length-take n all, ap length same) in
    same ∙ sym (take-append-le n all more long)

pub kept_more : (n : ℕ) (all old more : List IndexChunk) → length old < n → length more ≡ 1 → old ≡ take n all → old ++ more ≡ take n (all ++ more)
kept_more n all old more room one same =
    let few : length all < n = omega (arith, length-take n all, ap length same) in
    let whole : old ≡ all = same ∙ take_all n all (omega arith) in
    ap (λ (x : List IndexChunk). x ++ more) whole ∙ sym (take_all n (all ++ more) (omega (arith, length-append all more)))

-- ---- the tests of a head

if_some : (t : Bool) (at : ℕ) (f g : HeadFault) (later : Option HeadFault) (laters : Option Why) → (if t then Some f else later) ≡ Some g → (later ≡ Some g → laters ≡ Some (head_why at g)) → (if t then Some (head_why at f) else laters) ≡ Some (head_why at g)
if_some true at f g later laters e h = ap (λ (x : Option HeadFault). elim x [ None ↦ None | Some y ↦ Some (head_why at y) ]) e
if_some false at f g later laters e h = h e

pub refused_by : (at : ℕ) (ts : List (Bool × HeadFault)) (f : HeadFault) → first ts ≡ Some f → first (head_refusals at ts) ≡ Some (head_why at f)
refused_by at [] f e = absurd cc
refused_by at (t ∷ ts) f e = if_some t.0 at t.1 f (first ts) (first (head_refusals at ts)) e (λ later. refused_by at ts f later)

if_none : (t : Bool) {A B : Type 0} (f : A) (g : B) (later : Option A) (laters : Option B) → (if t then Some f else later) ≡ None → (later ≡ None → laters ≡ None) → (if t then Some g else laters) ≡ None
if_none true f g later laters e h = absurd cc
if_none false f g later laters e h = h e

pub not_refused : (at : ℕ) (ts : List (Bool × HeadFault)) → first ts ≡ None → first (head_refusals at ts) ≡ None
not_refused at [] e = refl
not_refused at (t ∷ ts) e = if_none t.0 t.1 (head_why at t.1) (first ts) (first (head_refusals at ts)) e (λ later. not_refused at ts later)

-- ---- ranges inside others

and_left : (a b : Bool) → (a && b) ≡ true → a ≡ true
and_left true b e = refl
and_left false b e = absurd cc

and_right : (a b : Bool) → (a && b) ≡ true → b ≡ true
and_right true b e = e
and_right false b e = absurd cc

or_left : (a b : Bool) → a ≡ true → (a || b) ≡ true
or_left true b e = refl
or_left false b e = absurd cc

or_right : (a b : Bool) → b ≡ true → (a || b) ≡ true
or_right true b e = refl
or_right false b e = e

both_true : (a b : Bool) → a ≡ true → b ≡ true → (a && b) ≡ true
both_true true b e f = f
both_true false b e f = absurd cc

pub one_ends : (end : ℕ) (ss : List Span) (p n : ℕ) → AllByRecursion (EndInside end) ss → in_one ss p n ≡ true → p + n ≤ end
one_ends end [] p n all e = absurd cc
one_ends end (s ∷ ss) p n all e = go (within s p n) refl e (λ again. one_ends end ss p n all.1 again)
  where
    go : (t : Bool) → within s p n ≡ t → (t || in_one ss p n) ≡ true → (in_one ss p n ≡ true → p + n ≤ end) → p + n ≤ end
    go true is f again = omega (arith, all.0, leb-true (p + n) (s.at + s.len) (and_right (leb s.at p) (leb (p + n) (s.at + s.len)) is))
    go false is f again = again f

shorter_in : (s : Span) (p n m : ℕ) → n ≤ m → within s p m ≡ true → within s p n ≡ true
shorter_in s p n m le e =
    both_true (leb s.at p) (leb (p + n) (s.at + s.len)) (and_left (leb s.at p) (leb (p + m) (s.at + s.len)) e) (le-leb (p + n) (s.at + s.len) (omega (arith, leb-true (p + m) (s.at + s.len) (and_right (leb s.at p) (leb (p + m) (s.at + s.len)) e))))

pub one_shorter : (ss : List Span) (p n m : ℕ) → n ≤ m → in_one ss p m ≡ true → in_one ss p n ≡ true
one_shorter [] p n m le e = e
one_shorter (s ∷ ss) p n m le e = go (within s p m) refl e (λ again. one_shorter ss p n m le again)
  where
    go : (t : Bool) → within s p m ≡ t → (t || in_one ss p m) ≡ true → (in_one ss p m ≡ true → in_one ss p n ≡ true) → (within s p n || in_one ss p n) ≡ true
    go true is f again = or_left (within s p n) (in_one ss p n) (shorter_in s p n m le is)
    go false is f again = or_right (within s p n) (in_one ss p n) (again f)

pub not_longer : (ss : List Span) (p n m : ℕ) → n ≤ m → in_one ss p n ≡ false → in_one ss p m ≡ false
not_longer ss p n m le e = go (in_one ss p m) refl
  where
    go : (t : Bool) → in_one ss p m ≡ t → in_one ss p m ≡ false
    go true is = absurd (let one = one_shorter ss p n m le is in cc)
    go false is = is

-- ---- one chunk that is named

pub kind_from : (of_kind : List ℕ → Bool) (at : ℕ) (body : List ℕ) → first (sound_tests of_kind at body) ≡ None → of_kind body ≡ true
kind_from of_kind at body e = let all = first_none (sound_tests of_kind at body) e in not_is (of_kind body) all.1.0

pub header_from : (of_kind : List ℕ → Bool) (at : ℕ) (body : List ℕ) → first (sound_tests of_kind at body) ≡ None → has_header body ≡ true
header_from of_kind at body e = let all = first_none (sound_tests of_kind at body) e in not_is (has_header body) all.0

pub entries_from : (of_kind : List ℕ → Bool) (at : ℕ) (body : List ℕ) → first (sound_tests of_kind at body) ≡ None → has_entries body ≡ true
entries_from of_kind at body e = let all = first_none (sound_tests of_kind at body) e in not_is (has_entries body) all.1.1.0

abbrev pub kept_by : Table → Bool → IndexChunk
kept_by t standard = record { body = table_span t; standard = standard }

pub standard_kept : (t : Table) → is_standard_kind t.body ≡ true → kept_by t true ≡ kept_of t
standard_kept t kind = ap (λ (s : Bool). kept_by t (not s)) (sym (standard_kind t.body kind).0)

if_place : (t : Bool) (p : ℕ) (w : Why) (later : Option Why) → (if not t then Some (IndexPlace p) else None) ≡ Some w → (if not t then Some (IndexPlace p) else later) ≡ Some w
if_place true p w later e = absurd cc
if_place false p w later e = e

pub place_fails : (movis : List Span) (b : List ℕ) (p : ℕ) (more old new : List IndexChunk) (fault : ReadFault) → ReadsPlace movis b p (Err fault) → ReadsNamed (named_tests movis b p) more old new (Err fault)
place_fails movis b p more old new (Fault.Why w) h = if_place (in_one movis p (8 + size_at b p)) p w (first (sound_tests is_standard_kind p (named b p).body)) h
place_fails movis b p more old new Fault.Depot h = tt
place_fails movis b p more old new Fault.Memory h = tt

place_then : (movis : List Span) (b : List ℕ) (p : ℕ) → in_one movis p (8 + size_at b p) ≡ true → first (named_tests movis b p) ≡ first (sound_tests is_standard_kind p (named b p).body)
place_then movis b p e = ap (λ (t : Bool). if not t then Some (IndexPlace p) else first (sound_tests is_standard_kind p (named b p).body)) e

pub index_fails : (movis : List Span) (b : List ℕ) (p : ℕ) (more old new : List IndexChunk) (fault : ReadFault) → in_one movis p (8 + size_at b p) ≡ true → ReadsIndex is_standard_kind p (named b p).body (Err fault)
    → ReadsNamed (named_tests movis b p) more old new (Err fault)
index_fails movis b p more old new (Fault.Why w) one h = place_then movis b p one ∙ h
index_fails movis b p more old new Fault.Depot one h = tt
index_fails movis b p more old new Fault.Memory one h = tt

pub named_took : (movis : List Span) (b : List ℕ) (p : ℕ) (old new : List IndexChunk) (result : Result Unit ReadFault) → in_one movis p (8 + size_at b p) ≡ true → first (sound_tests is_standard_kind p (named b p).body) ≡ None
    → OnOk result (KeepsFirst (kept_by (named b p) true ∷ []) old new) → IfErr result (λ fault. fault ≡ Fault.Memory) → ReadsNamed (named_tests movis b p) (kept_at b (p ∷ [])) old new result
named_took movis b p old new (Ok u) one none kept memory =
    (place_then movis b p one ∙ none, subst (λ (x : IndexChunk). KeepsFirst (x ∷ []) old new) (standard_kept (named b p) (kind_from is_standard_kind p (named b p).body none)) kept)
named_took movis b p old new (Err (Fault.Why w)) one none kept memory = absurd cc
named_took movis b p old new (Err Fault.Depot) one none kept memory = tt
named_took movis b p old new (Err Fault.Memory) one none kept memory = tt

-- the same body, told by its range
pub body_there : (b : List ℕ) (p : ℕ) (body : Span) → p + 8 + size_at b p ≤ length b → body ≡ table_span (named b p) → slice b body.at body.len ≡ (named b p).body
body_there b p body whole same =
    ap (λ (s : Span). slice b s.at s.len) same ∙ ap (slice b (p + 8)) (length-slice b (p + 8) (size_at b p) whole)
