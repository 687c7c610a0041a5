-- The first test that holds, and the three groups of a chunk's tests.
use Rattle.std.proofs.Common.{◌≡◌, ◌∙◌, ℕ, zero, suc, ◌+◌, ◌<◌, ◌≤◌, Bool, true, false, ltb, List, [], ◌∷◌, ◌++◌, length, drop, refl, ap, arith}
use Rattle.std.specs.Prelude.{slice_index_or, Option, Some, None, if◌then◌else◌, codes, ◌&&◌, nat_lt}
use Rattle.std.specs.Str.{bytes_eq}
use Rattle.std.specs.List.{AllByRecursion}
use Rattle.std.proofs.lemmas.Bool.{ltb-false}
use Rattle.part_tree.specs.declared.why.Why.{Why}
use Rattle.container_model.specs.Chunk.{Chunk}
use Rattle.wave_model.specs.Fields.{is_bext}
use Rattle.wave_model.specs.Edited.{is_carrier}
use Rattle.wave_model.specs.Why.{Seen, chunk_tests}
use Rattle.container_model.specs.Tests.{first, or_else}
use Rattle.wave_file.specs.Tests.{early_tests, essence_tests, late_tests}
use Rattle.wave_file.specs.Reads.{one_if}

pub first_at : (ts : List (Bool × Why)) (i : ℕ) (d : Bool × Why) → i < length ts → first (drop i ts) ≡ (if (slice_index_or ts i d).0 then Some (slice_index_or ts i d).1 else first (drop (suc i) ts))
first_at [] i d lt = absurd (omega arith)
first_at (t ∷ ts) zero d lt = refl
first_at (t ∷ ts) (suc i) d lt = first_at ts i d (omega arith)

pub first_both : (a b : List (Bool × Why)) → first (a ++ b) ≡ or_else (first a) (first b)
first_both [] b = refl
first_both (t ∷ a) b = go t.0 (first_both a b)
  where
    go : (x : Bool) → first (a ++ b) ≡ or_else (first a) (first b) → (if x then Some t.1 else first (a ++ b)) ≡ or_else (if x then Some t.1 else first a) (first b)
    go true e = refl
    go false e = e

-- ---- the three groups

-- what a chunk is to its tests
pub record Kinds (c : Chunk) (carrier bext : Bool) : Type 0 where
  pub carrier_is : carrier ≡ is_carrier c
  pub bext_is : bext ≡ is_bext c

tests_split : (at : ℕ) (s : Seen) (c : Chunk) (carrier bext : Bool) → Kinds c carrier bext
    → first (chunk_tests at s c) ≡ or_else (first (early_tests s c.id (length c.body) carrier bext)) (or_else (first (essence_tests s c)) (first (late_tests at s.parts c)))
tests_split at s c carrier bext k =
    let early = early_tests s c.id (length c.body) (is_carrier c) (is_bext c) in
    rw (k.carrier_is, k.bext_is) (first_both early (essence_tests s c ++ late_tests at s.parts c) ∙ ap (or_else (first early)) (first_both (essence_tests s c) (late_tests at s.parts c)))

pub early_fails : (at : ℕ) (s : Seen) (c : Chunk) (carrier bext : Bool) (w : Why) → Kinds c carrier bext → first (early_tests s c.id (length c.body) carrier bext) ≡ Some w → first (chunk_tests at s c) ≡ Some w
early_fails at s c carrier bext w k h = tests_split at s c carrier bext k ∙ ap (λ (x : Option Why). or_else x (or_else (first (essence_tests s c)) (first (late_tests at s.parts c)))) h

pub essence_fails : (at : ℕ) (s : Seen) (c : Chunk) (carrier bext : Bool) (w : Why) → Kinds c carrier bext → first (early_tests s c.id (length c.body) carrier bext) ≡ None
    → first (essence_tests s c) ≡ Some w → first (chunk_tests at s c) ≡ Some w
essence_fails at s c carrier bext w k h i =
    tests_split at s c carrier bext k
    ∙ ap (λ (x : Option Why). or_else x (or_else (first (essence_tests s c)) (first (late_tests at s.parts c)))) h
    ∙ ap (λ (x : Option Why). or_else x (first (late_tests at s.parts c))) i

pub late_is : (at : ℕ) (s : Seen) (c : Chunk) (carrier bext : Bool) → Kinds c carrier bext → first (early_tests s c.id (length c.body) carrier bext) ≡ None
    → first (essence_tests s c) ≡ None → first (chunk_tests at s c) ≡ first (late_tests at s.parts c)
late_is at s c carrier bext k h i =
    tests_split at s c carrier bext k
    ∙ ap (λ (x : Option Why). or_else x (or_else (first (essence_tests s c)) (first (late_tests at s.parts c)))) h
    ∙ ap (λ (x : Option Why). or_else x (first (late_tests at s.parts c))) i

-- ---- what passed

abbrev AllFalse : List (Bool × Why) → Type 0
AllFalse ts = AllByRecursion (λ t. t.0 ≡ false) ts

first_none : (ts : List (Bool × Why)) → first ts ≡ None → AllFalse ts
first_none [] e = tt
first_none (t ∷ ts) e = go t.0 refl e (first_none ts)
  where
    go : (b : Bool) → t.0 ≡ b → (if b then Some t.1 else first ts) ≡ None → (first ts ≡ None → AllFalse ts) → AllFalse (t ∷ ts)
    go true i e again = absurd cc
    go false i e again = (i, again e)

guarded : (a b : Bool) → (a && b) ≡ false → a ≡ true → b ≡ false
guarded true b e i = e
guarded false b e i = absurd cc

-- what a chunk that passed its early tests is
pub record Early (s : Seen) (id : List ℕ) (len : ℕ) (bext : Bool) : Type 0 where
  pub room : s.parts < 65536
  pub one_bext : bext ≡ true → s.bexts ≤ 0
  pub long_bext : bext ≡ true → 602 ≤ len
  pub one_format : bytes_eq (codes "fmt ") id ≡ true → s.formats ≤ 0
  pub long_format : bytes_eq (codes "fmt ") id ≡ true → 16 ≤ len

pub early_is : (s : Seen) (id : List ℕ) (len : ℕ) (carrier bext : Bool) → first (early_tests s id len carrier bext) ≡ None → Early s id len bext
early_is s id len carrier bext h =
    let all = first_none (early_tests s id len carrier bext) h in
    record {
      room = omega (arith, ltb-false 65536 (s.parts + 1) all.0);
      one_bext = λ is. ltb-false 0 s.bexts (guarded bext (ltb 0 s.bexts) all.1.1.0 is);
      long_bext = λ is. ltb-false len 602 (guarded bext (ltb len 602) all.1.1.1.0 is);
      one_format = λ is. ltb-false 0 s.formats (guarded (bytes_eq (codes "fmt ") id) (ltb 0 s.formats) all.1.1.1.1.0 is);
      long_format = λ is. ltb-false len 16 (guarded (bytes_eq (codes "fmt ") id) (ltb len 16) all.1.1.1.1.1.0 is);
    }

-- ---- counts of none or one

pub one_above : (t : Bool) → nat_lt 0 (one_if t) ≡ t
one_above true = refl
one_above false = refl
