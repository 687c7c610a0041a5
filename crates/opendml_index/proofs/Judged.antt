-- One entry of a standard index that is judged.
use Rattle.std.proofs.Common.{◌≡◌, ◌∙◌, ℕ, ◌+◌, ◌^◌, ◌<◌, ◌≤◌, Bool, true, false, List, [], ◌∷◌, length, refl, sym, ap, arith}
use Rattle.std.specs.Prelude.{Option, Some, None, ◌&&◌, ◌||◌, not, ◌==◌, nat_lt, nat_le, if◌then◌else◌}
use Rattle.std.specs.List.{AllByRecursion}
use Rattle.std.specs.declared.result.Result.TheVariants.{Ok, Err}
use Rattle.std.proofs.lemmas.Bool.{ne_eqb, lt-leb}
use Rattle.part_tree.specs.declared.names.Span.{Span}
use Rattle.part_tree.specs.Ranges.{within, in_one, clear_of}
use Rattle.part_tree.specs.declared.index.IndexFault.{IndexFault}
use Rattle.part_tree.specs.declared.index.IndexFault.TheVariants.{Astray, Overlap}
use Rattle.container_model.specs.Tests.{first}
use Rattle.opendml_index.specs.Index.{entry_offset, entry_length, entry_second}
use Rattle.opendml_index.specs.Kinds.{second_lies}
use Rattle.opendml_index.specs.Checks.{EndInside, JudgesEntry, entry_tests}

-- ---- the second place

abbrev lies_by : ℕ → ℕ → ℕ → ℕ → Bool
lies_by len second off size = not (nat_lt 8 len && not (second == 0)) || (nat_le off second && nat_lt second (off + size))

twice : (z x : Bool) → (z || x) ≡ (not (true && not z) || x)
twice true x = refl
twice false x = refl

pub second_some : (r : List ℕ) (n off size : ℕ) → length r ≡ 12 → n ≡ entry_second r → off ≡ entry_offset r → size ≡ entry_length r → ((n == 0) || (nat_le off n && nat_lt n (off + size))) ≡ second_lies r
second_some r n off size long s o z =
    twice (n == 0) (nat_le off n && nat_lt n (off + size))
    ∙ ap (λ (x : ℕ). lies_by x n off size) (sym long)
    ∙ ap (λ (x : ℕ). lies_by (length r) x off size) s
    ∙ ap (λ (x : ℕ). lies_by (length r) (entry_second r) x size) o
    ∙ ap (λ (x : ℕ). lies_by (length r) (entry_second r) (entry_offset r) x) z

pub second_none : (r : List ℕ) → length r ≡ 8 → true ≡ second_lies r
second_none r short = ap (λ (x : ℕ). lies_by x (entry_second r) (entry_offset r) (entry_length r)) (sym short)

-- ---- the fault of an entry by three tests

abbrev fault_by : ℕ → Bool → Bool → Bool → Option IndexFault
fault_by k none lies clear = if not none && not lies then Some (Astray k) else (if not none && not clear then Some (Overlap k) else None)

-- the offset and the length of a row
pub record IsAt (row : List ℕ) (off size : ℕ) : Type 0 where
  pub offset : off ≡ entry_offset row
  pub len : size ≡ entry_length row

pub fault_is : (movis : List Span) (ss : List Span) (base k : ℕ) (row : List ℕ) (off size : ℕ) (inside second clear : Bool) → IsAt row off size
    → inside ≡ in_one movis (base + off) size → second ≡ second_lies row → clear ≡ clear_of ss (base + off) size → first (entry_tests movis ss base k row) ≡ fault_by k (size == 0) (inside && second) clear
fault_is movis ss base k row off size inside second clear is i s c =
    sym (
    ap (λ (x : Bool). fault_by k (size == 0) (x && second) clear) i
    ∙ ap (λ (x : Bool). fault_by k (size == 0) (in_one movis (base + off) size && x) clear) s
    ∙ ap (λ (x : Bool). fault_by k (size == 0) (in_one movis (base + off) size && second_lies row) x) c
    ∙ ap (λ (x : ℕ). fault_by k (size == 0) (in_one movis (base + x) size && second_lies row) (clear_of ss (base + x) size)) is.offset
    ∙ ap (λ (x : ℕ). fault_by k (x == 0) (in_one movis (base + entry_offset row) x && second_lies row) (clear_of ss (base + entry_offset row) x)) is.len
    )

pub judged_none : (movis : List Span) (ss : List Span) (base k : ℕ) (row : List ℕ) (off size : ℕ) → IsAt row off size → size ≡ 0 → JudgesEntry movis ss base k row (Ok false)
judged_none movis ss base k row off size is none =
    let zero : entry_length row ≡ 0 = sym is.len ∙ none in (
      ap (λ (x : ℕ). fault_by k (x == 0) (in_one movis (base + entry_offset row) (entry_length row) && second_lies row) (clear_of ss (base + entry_offset row) (entry_length row))) zero,
      ap (λ (x : ℕ). not (x == 0)) (sym zero),
    )

pub judged_astray : (movis : List Span) (ss : List Span) (base k : ℕ) (row : List ℕ) (off size : ℕ) (inside second : Bool) → IsAt row off size → (size ≡ 0 → ⊥) → inside ≡ in_one movis (base + off) size → second ≡ second_lies row
    → (inside && second) ≡ false → JudgesEntry movis ss base k row (Err (Astray k))
judged_astray movis ss base k row off size inside second is some i s out =
    let clear = clear_of ss (base + off) size in
    fault_is movis ss base k row off size inside second clear is i s refl
    ∙ ap (λ (x : Bool). fault_by k x (inside && second) clear) (ne_eqb size 0 some)
    ∙ ap (λ (x : Bool). fault_by k false x clear) out

pub judged_overlap : (movis : List Span) (ss : List Span) (base k : ℕ) (row : List ℕ) (off size : ℕ) (inside second clear : Bool) → IsAt row off size → (size ≡ 0 → ⊥)
    → inside ≡ in_one movis (base + off) size → second ≡ second_lies row → clear ≡ clear_of ss (base + off) size → (inside && second) ≡ true → clear ≡ false → JudgesEntry movis ss base k row (Err (Overlap k))
judged_overlap movis ss base k row off size inside second clear is some i s c lies hit =
    fault_is movis ss base k row off size inside second clear is i s c
    ∙ ap (λ (x : Bool). fault_by k x (inside && second) clear) (ne_eqb size 0 some)
    ∙ ap (λ (x : Bool). fault_by k false x clear) lies
    ∙ ap (λ (x : Bool). fault_by k false true x) hit

pub judged_fine : (movis : List Span) (ss : List Span) (base k : ℕ) (row : List ℕ) (off size : ℕ) (inside second clear : Bool) → IsAt row off size → (size ≡ 0 → ⊥)
    → inside ≡ in_one movis (base + off) size → second ≡ second_lies row → clear ≡ clear_of ss (base + off) size → (inside && second) ≡ true → clear ≡ true → JudgesEntry movis ss base k row (Ok true)
judged_fine movis ss base k row off size inside second clear is some i s c lies free = (
  fault_is movis ss base k row off size inside second clear is i s c
      ∙ ap (λ (x : Bool). fault_by k x (inside && second) clear) (ne_eqb size 0 some)
      ∙ ap (λ (x : Bool). fault_by k false x clear) lies
      ∙ ap (λ (x : Bool). fault_by k false true x) free,
  sym (ap (λ (x : ℕ). not (x == 0)) (sym is.len) ∙ ap not (ne_eqb size 0 some)),
)

-- a place past all numbers of 64 bits lies in no movi
and_no : (a b : Bool) → b ≡ false → (a && b) ≡ false
and_no true b e = e
and_no false b e = refl

or_no : (a b : Bool) → a ≡ false → b ≡ false → (a || b) ≡ false
or_no true b e f = e
or_no false b e f = f

pub far : (movis : List Span) (p n : ℕ) → 2 ^ 64 < p + n → AllByRecursion (EndInside (2 ^ 64)) movis → in_one movis p n ≡ false
far [] p n lt h = refl
far (s ∷ ss) p n lt h = or_no (within s p n) (in_one ss p n) (and_no (nat_le s.at p) (nat_le (p + n) (s.at + s.len)) (lt-leb (p + n) (s.at + s.len) (omega (arith, h.0)))) (far ss p n lt h.1)

pub judged_far : (movis : List Span) (ss : List Span) (base k : ℕ) (row : List ℕ) (off size : ℕ) → IsAt row off size → (size ≡ 0 → ⊥) → 2 ^ 64 ≤ base + off → AllByRecursion (EndInside (2 ^ 64)) movis
    → JudgesEntry movis ss base k row (Err (Astray k))
judged_far movis ss base k row off size is some past ends =
    let out = far movis (base + off) size (omega arith) ends in
    judged_astray movis ss base k row off size (in_one movis (base + off) size) (second_lies row) is some refl refl (ap (λ (x : Bool). x && second_lies row) out)
