-- The places that are named one after the other.
use Rattle.std.proofs.Common.{◌≡◌, ◌∙◌, ℕ, suc, ◌+◌, ◌-◌, ◌*◌, ◌<◌, ◌≤◌, List, [], ◌∷◌, ◌++◌, map, take, drop, refl, sym, ap, subst, arith, append_assoc}
use Rattle.std.specs.Prelude.{Option, Result}
use Rattle.std.specs.declared.result.Result.TheVariants.{Ok, Err}
use Rattle.std.specs.List.{flat_map}
use Rattle.std.specs.Int.{w64, from_le_bytes}
use Rattle.std.proofs.lemmas.List.{append-nil, drop-drop}
use Rattle.part_tree.specs.declared.names.Span.{Span}
use Rattle.part_tree.specs.declared.why.Why.{Why}
use Rattle.part_tree.specs.declared.why.ReadFault.{ReadFault}
use Rattle.part_tree.specs.declared.why.ReadFault.TheVariants as Fault
use Rattle.container_model.specs.Written.{rows, slice}
use Rattle.container_model.proofs.Written.{slice_slice}
use Rattle.container_model.specs.Tests.{first, or_else}
use Rattle.opendml_index.specs.Index.{super_place, used_place}
use Rattle.avi_model.specs.Why.{Test}
use Rattle.avi_file.specs.declared.index.IndexChunk.{IndexChunk}
use Rattle.avi_file.specs.Indexes.{kept_limit, kept_at, KeepsFirst, ReadsNamed, named_tests, places_tests, rows_tests, kept_rows}
use Rattle.avi_file.proofs.Left.{first_append}

pub keeps_none : (old : List IndexChunk) → KeepsFirst [] old old
keeps_none old all same = same ∙ ap (take kept_limit) (sym (append-nil all))

pub keeps_both : (m n old now new : List IndexChunk) → KeepsFirst m old now → KeepsFirst n now new → KeepsFirst (m ++ n) old new
keeps_both m n old now new one two all same = two (all ++ m) (one all same) ∙ ap (take kept_limit) (append_assoc all m n)

-- nothing was named
pub named_none : (old : List IndexChunk) → ReadsNamed [] [] old old (Ok tt)
named_none old = (refl, keeps_none old)

-- one piece behind another
pub named_then : (ts us : List Test) (m n old now new : List IndexChunk) (result : Result Unit ReadFault) → ReadsNamed ts m old now (Ok tt) → ReadsNamed us n now new result → ReadsNamed (ts ++ us) (m ++ n) old new result
named_then ts us m n old now new (Ok u) one two = (first_append ts us ∙ ap (λ (x : Option Why). or_else x (first us)) one.0 ∙ two.0, keeps_both m n old now new one.1 two.1)
named_then ts us m n old now new (Err (Fault.Why w)) one two = first_append ts us ∙ ap (λ (x : Option Why). or_else x (first us)) one.0 ∙ two
named_then ts us m n old now new (Err Fault.Depot) one two = tt
named_then ts us m n old now new (Err Fault.Memory) one two = tt

pub named_fails : (ts us : List Test) (m n old now new : List IndexChunk) (fault : ReadFault) → ReadsNamed ts m old now (Err fault) → ReadsNamed (ts ++ us) (m ++ n) old new (Err fault)
named_fails ts us m n old now new (Fault.Why w) h = first_append ts us ∙ ap (λ (x : Option Why). or_else x (first us)) h
named_fails ts us m n old now new Fault.Depot h = tt
named_fails ts us m n old now new Fault.Memory h = tt

-- ---- what is left of some tests and chunks

pub record NamedLeft (ts us : List Test) (m n old now : List IndexChunk) : Type 0 where
  pub done : List IndexChunk
  pub tests : first ts ≡ first us
  pub kept : KeepsFirst done old now
  pub whole : done ++ n ≡ m

pub named_start : (ts : List Test) (m old : List IndexChunk) → NamedLeft ts ts m m old old
named_start ts m old = record { done = []; tests = refl; kept = keeps_none old; whole = refl }

pub named_more : (ts us vs one : List Test) (m n rest some old now new : List IndexChunk) → NamedLeft ts us m n old now → us ≡ one ++ vs → n ≡ some ++ rest → ReadsNamed one some now new (Ok tt) → NamedLeft ts vs m rest old new
named_more ts us vs one m n rest some old now new left step more took = record {
  done = left.done ++ some;
  tests = left.tests ∙ ap first step ∙ first_append one vs ∙ ap (λ (x : Option Why). or_else x (first vs)) took.0;
  kept = keeps_both left.done some old now new left.kept took.1;
  whole = append_assoc left.done some rest ∙ ap (λ (x : List IndexChunk). left.done ++ x) (sym more) ∙ left.whole;
}

pub named_cut : (ts us vs one : List Test) (m n some old now new : List IndexChunk) (fault : ReadFault) → NamedLeft ts us m n old now → us ≡ one ++ vs → ReadsNamed one some now new (Err fault) → ReadsNamed ts m old new (Err fault)
named_cut ts us vs one m n some old now new (Fault.Why w) left step h = left.tests ∙ ap first step ∙ first_append one vs ∙ ap (λ (x : Option Why). or_else x (first vs)) h
named_cut ts us vs one m n some old now new Fault.Depot left step h = tt
named_cut ts us vs one m n some old now new Fault.Memory left step h = tt

pub named_end : (ts us : List Test) (m n old now : List IndexChunk) → NamedLeft ts us m n old now → us ≡ [] → n ≡ [] → ReadsNamed ts m old now (Ok tt)
named_end ts us m n old now left none less =
    (left.tests ∙ ap first none, subst (λ (x : List IndexChunk). KeepsFirst x old now) (sym (append-nil left.done) ∙ ap (λ (x : List IndexChunk). left.done ++ x) (sym less) ∙ left.whole) left.kept)

-- ---- rows

pub rows_left : (x : List ℕ) (n k : ℕ) → k < n → rows 16 (n - k) (drop (16 * k) x) ≡ take 16 (drop (16 * k) x) ∷ rows 16 (n - (k + 1)) (drop (16 * (k + 1)) x)
rows_left x n k lt =
    let count : n - k ≡ suc (n - (k + 1)) = omega arith in
    let place : 16 * k + 16 ≡ 16 * (k + 1) = omega arith in
    ap (λ (m : ℕ). rows 16 m (drop (16 * k) x)) count ∙ ap (λ (y : List ℕ). take 16 (drop (16 * k) x) ∷ rows 16 (n - (k + 1)) y) (drop-drop 16 (16 * k) x ∙ ap (λ (m : ℕ). drop m x) place)

flat_append : {X Y : Type 0} (f : X → List Y) (xs ys : List X) → flat_map f (xs ++ ys) ≡ flat_map f xs ++ flat_map f ys
flat_append f [] ys = refl
flat_append f (x ∷ xs) ys = ap (λ zs. f x ++ zs) (flat_append f xs ys) ∙ sym (append_assoc (f x) (flat_map f xs) (flat_map f ys))

map_append : {X Y : Type 0} (f : X → Y) (xs ys : List X) → map f (xs ++ ys) ≡ map f xs ++ map f ys
map_append f [] ys = refl
map_append f (x ∷ xs) ys = ap (λ zs. f x ∷ zs) (map_append f xs ys)

pub tests_step : (movis : List Span) (b r : List ℕ) (rs : List (List ℕ)) → rows_tests movis b (r ∷ rs) ≡ places_tests movis b (used_place r) ++ rows_tests movis b rs
tests_step movis b r rs = flat_append (named_tests movis b) (used_place r) (flat_map used_place rs)

pub kept_step : (b r : List ℕ) (rs : List (List ℕ)) → kept_rows b (r ∷ rs) ≡ kept_at b (used_place r) ++ kept_rows b rs
kept_step b r rs = map_append _ (used_place r) (flat_map used_place rs)

-- the place of an entry, by its bytes
pub place_is : (b word : List ℕ) (at len k : ℕ) → 24 + 16 * k + 16 ≤ len → word ≡ slice b (at + 24 + 16 * k) 8 → from_le_bytes w64 word ≡ super_place (take 16 (drop (16 * k) (drop 24 (slice b at len))))
place_is b word at len k room is =
    let body = slice b at len in
    let row : take 16 (drop (16 * k) (drop 24 body)) ≡ slice body (24 + 16 * k) 16 = ap (take 16) (drop-drop (16 * k) 24 body) in
    let one : slice (slice body (24 + 16 * k) 16) 0 8 ≡ slice body (24 + 16 * k + 0) 8 = slice_slice body (24 + 16 * k) 16 0 8 (omega arith) in
    let two : slice body (24 + 16 * k + 0) 8 ≡ slice b (at + (24 + 16 * k + 0)) 8 = slice_slice b at len (24 + 16 * k + 0) 8 (omega arith) in
    let place : at + (24 + 16 * k + 0) ≡ at + 24 + 16 * k = omega arith in
    ap (from_le_bytes w64) (is ∙ sym (ap (λ (x : List ℕ). slice x 0 8) row ∙ one ∙ two ∙ ap (λ (p : ℕ). slice b p 8) place))
